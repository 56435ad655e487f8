use Rattle.std.proofs.lemmas.List.{length-set}
use Rattle.mg_stream.specs.Pool.{queue_at, with_queue, backlog_of}
use Rattle.mg_stream.proofs.QueueSteps.{stands_like}
use Rattle.mg_stream.proofs.Laid.{queue_at-with_queue, other_like}
use Rattle.mg_stream.proofs.laws.a_step_stays_at_its_port.Goals as goal

pub returns-clause-here : goal.returns-clause-here
returns-clause-here c = λ pool port q there. queue_at-with_queue pool port q there

pub returns-clause-others : goal.returns-clause-others
returns-clause-others c = λ pool port other q differs. other_like pool port other q differs

pub returns-clause-stand : goal.returns-clause-stand
returns-clause-stand c = λ pool port other q s differs stands. stands_like (queue_at pool other) (queue_at (with_queue pool port q) other) s (other_like pool port other q differs) stands

pub returns-clause-ports : goal.returns-clause-ports
returns-clause-ports c = λ pool port q. length-set pool.ports port (backlog_of q)
