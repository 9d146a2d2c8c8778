-- `picks::touched`: what is touched is what is touched from the next cluster on (`touched_from`), and what stands before it and from it on add up.
use Rattle.std.proofs.Common.{◌≡◌, ◌+◌, ◌<◌}
use Rattle.label.specs.Fetched.{words}
use Rattle.label.specs.Sound.{clusters_of}
use Rattle.label.specs.Pick.{turned, touched}
use Rattle.wire.specs.Walks.{clusters_left}
use Rattle.picks.specs.Ways.{along}
use Rattle.picks.proofs.Touches.{rest, touched_from}
use Rattle.sound.specs.Sounds.{unit_sum}
use Rattle.picks.proofs.touched.Given as goal

abbrev pub invariant-loop-cluster : goal.invariant-loop-cluster
invariant-loop-cluster l =
    let p = l.picked in
    let all = along l.way (clusters_of (words l.run.clusters.now)) in
    let left = rest l.way (clusters_left l.cluster-iterator) in
    (l.passed < p.end)
    × (l.passed + unit_sum (turned left) ≡ unit_sum (turned all))
    × (l.at + unit_sum left ≡ unit_sum all)
    × (touched p.first p.end all ≡ touched_from p.first p.end left l.passed l.at l.start)
