-- The status of a run, by how its input ended, its nodes' faults and its stalled streams.
use Rattle.std.specs.Prelude.{ℕ, List, [], ◌∷◌}
use Rattle.mg_calc.specs.declared.node_fault.NodeFault.{NodeFault}
use Rattle.mg_feed.specs.declared.feed_end.FeedEnd.{FeedEnd}
use Rattle.mg_feed.specs.declared.feed_end.FeedEnd.TheVariants.{Ended, Failed, Refused, OutOfMemory}
use Rattle.mg_answer.specs.declared.status.Status.{Status}
use Rattle.mg_answer.specs.declared.status.Status.TheVariants.{Good, LineRefused, NodeFault as node_fault, Stalled, ReadFault, OutOfMemory as no_memory}

-- the status of a run whose input ended well: a node's fault goes before a stream that hasn't ended
abbrev pub ended_status : List NodeFault → List ℕ → Status
ended_status (fault ∷ faults) stalled = node_fault
ended_status [] (stream ∷ stalled) = Stalled
ended_status [] [] = Good

-- The status of a run: a failed read goes before a line that isn't good, and that before a node's fault. A stream that hasn't ended
-- counts only if the input ended well.
abbrev pub status_of : FeedEnd → List NodeFault → List ℕ → Status
status_of Ended faults stalled = ended_status faults stalled
status_of (Failed lines) faults stalled = ReadFault
status_of (Refused line cause) faults stalled = LineRefused
status_of OutOfMemory faults stalled = no_memory
