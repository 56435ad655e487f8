use Rattle.std.proofs.Common.{◌≡◌, List, ℕ, ◌++◌, length}
use Rattle.mg_edge.specs.Runs.{TookAll}
use Rattle.mg_feed.proofs.put.put_all.Given as goal

-- what was taken stands before what is left
abbrev pub invariant-loop-left : goal.invariant-loop-left
invariant-loop-left g l =
    let before = g.K.Sink.told l.fn.sink in
    let now = g.K.Sink.told l.sink in
    record {
      taken : (done : List ℕ) × (l.bytes ≡ done ++ l.left) × TookAll before.taken now.taken done;
      steady : now.faults ≡ before.faults;
    }

abbrev pub decreases-loop-left : goal.decreases-loop-left
decreases-loop-left g l = length l.left
