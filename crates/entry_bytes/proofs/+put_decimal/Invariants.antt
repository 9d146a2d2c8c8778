-- `entry_bytes::put_decimal`: by recursion on the number, which falls. Assumes nothing.
use Rattle.entry_bytes.proofs.+put_decimal.Given as goal

abbrev pub decreases-put_decimal : goal.decreases-put_decimal
decreases-put_decimal l = l.n
