-- What becomes of a node, after the page Calculators of the MediaPipe framework. It is opened, shown its settled sets one after the
-- other, and closed. It stops at its first fault. Definitions take the whole list of sets, and begin anew whenever the list grows.
use Rattle.std.specs.Prelude.{ℕ, ℤ, ◌+◌, ◌==◌, List, [], ◌∷◌, map, length, replicate, Option, Some, None, Result, Ok, Err, if◌then◌else◌}
use Rattle.std.specs.List.{fold, range_with_len}
use Rattle.mg_time.specs.Time.{done}
use Rattle.mg_value.specs.Payload.{Plain}
use Rattle.mg_value.specs.declared.policy.Policy.{Policy}
use Rattle.mg_settled.specs.Prefix.{StreamPrefix, empty_prefix, closed}
use Rattle.mg_settled.specs.Settled.{TimedSet, settled_sets, reach}
use Rattle.mg_settled.specs.Loopback.{loopback, replies}
use Rattle.mg_calc.specs.declared.cause.Cause.{Cause}
use Rattle.mg_calc.specs.declared.law.Law.{Law}
use Rattle.mg_calc.specs.declared.node_fault.Phase.{Phase}
use Rattle.mg_calc.specs.declared.node_fault.Phase.TheVariants.{Open, Call, Process, Close}
use Rattle.mg_calc.specs.Laying.{laid_behind, all_raised}
use Rattle.mg_calc.specs.Answer.{Answer}
use Rattle.mg_calc.specs.Rules.{Rules}
use Rattle.mg_calc.specs.Law.{call}

-- a fault: what a node was doing, and why it failed
pub record Failure : Type 0 where
  pub phase : Phase
  pub cause : Cause

-- the outcome of a node: what its calculator keeps, its output streams, how many sets or calls were taken, and its fault. The set or
-- call that failed counts as taken.
pub record Outcome : Type 0 where
  pub state : List Plain
  pub outputs : List (StreamPrefix Plain)
  pub taken : ℕ
  pub fault : Option Failure

-- a node that fails: its outputs stay as they were before the emission was laid, so a fault drops the whole emission
abbrev pub failed : Phase → Cause → Outcome → Outcome
failed phase cause outcome = record outcome { fault = Some (record { phase = phase; cause = cause }) }

-- what becomes of a node once an emission is laid, or can't be
abbrev pub after_laying : Phase → Outcome → Result (List (StreamPrefix Plain)) Cause → Outcome
after_laying phase outcome (Ok outputs) = record outcome { outputs = outputs }
after_laying phase outcome (Err cause) = failed phase cause outcome

-- what becomes of a node once a call of its calculator has answered. If the call fails, the calculator keeps what it kept. If the
-- emission can't be laid, the calculator keeps what the call gave.
abbrev pub after_call : Option ℤ → Phase → Outcome → Answer → Outcome
after_call offset phase outcome (Err cause) = failed phase cause outcome
after_call offset phase outcome (Ok given) =
    after_laying phase (record outcome { state = given.0 }) (laid_behind offset phase outcome.outputs given.1)

-- a node before it is opened, by the number of its outputs
abbrev pub unopened : ℕ → Outcome
unopened outputs = record { state = []; outputs = replicate outputs empty_prefix; taken = 0; fault = None }

-- a node that was opened with side packets
abbrev pub opened : Rules → Option ℤ → ℕ → List (Option Plain) → Outcome
opened rules offset outputs sides = after_call offset Open (unopened outputs) (rules.opening sides)

-- the next outcome of a node, or, if it has failed, the outcome as it is
abbrev pub unless_failed : Option Failure → Outcome → Outcome → Outcome
unless_failed (Some failure) outcome next = outcome
unless_failed None outcome next = next

-- a node after a set was shown to it: before that its outputs are raised to the set's time plus its offset
abbrev pub shown : Rules → Option ℤ → Outcome → TimedSet Plain → Outcome
shown rules offset outcome set =
    unless_failed outcome.fault outcome (after_call offset (Process set.at)
    (record outcome { outputs = all_raised offset set.at outcome.outputs; taken = outcome.taken + 1 })
    (rules.step outcome.state set.at set.set))

-- a node after it was opened and shown sets, up to the one at which it fails
abbrev pub shown_all : Rules → Option ℤ → ℕ → List (Option Plain) → List (TimedSet Plain) → Outcome
shown_all rules offset outputs sides sets = fold (shown rules offset) (opened rules offset outputs sides) sets

-- a node after Close, whose emission is laid before the outputs close
abbrev pub after_close : Outcome → Result (List (StreamPrefix Plain)) Cause → Outcome
after_close outcome (Ok outputs) = record outcome { outputs = map closed outputs }
after_close outcome (Err cause) = failed Close cause outcome

-- a node once the call of Close has answered. If the call fails, the calculator keeps what it kept. If the emission can't be laid, the
-- calculator keeps what the call gave.
abbrev pub closed_with : Option ℤ → Outcome → Answer → Outcome
closed_with offset outcome (Err cause) = failed Close cause outcome
closed_with offset outcome (Ok given) = after_close (record outcome { state = given.0 }) (laid_behind offset Close outcome.outputs given.1)

-- a node to which no more sets come: it is closed
abbrev pub finished : Rules → Option ℤ → Outcome → Outcome
finished rules offset outcome = closed_with offset outcome (rules.finish outcome.state)

-- a node that was shown its settled sets, by how far these reach. Its outputs are raised to the reach plus its offset. If the reach is
-- the end of all times, the node is closed.
abbrev pub with_reach : Rules → Option ℤ → ℕ → Outcome → Outcome
with_reach rules offset reached outcome =
    if reached == done
    then finished rules offset (record outcome { outputs = all_raised offset reached outcome.outputs })
    else record outcome { outputs = all_raised offset reached outcome.outputs }

-- a node that was shown its settled sets, by how far these reach; if it has failed, it stays as it is
abbrev pub ended : Rules → Option ℤ → ℕ → Outcome → Outcome
ended rules offset reached outcome = unless_failed outcome.fault outcome (with_reach rules offset reached outcome)

-- what becomes of a node with input streams
abbrev pub node_outcome : Rules → Option ℤ → Policy → ℕ → List (Option Plain) → List (StreamPrefix Plain) → Outcome
node_outcome rules offset policy outputs sides inputs =
    ended rules offset (reach policy inputs) (shown_all rules offset outputs sides (settled_sets policy inputs))

-- a source after the call of a number
abbrev pub called : Law → Outcome → ℕ → Outcome
called law outcome number =
    unless_failed outcome.fault outcome
    (after_call None (Call number) (record outcome { taken = outcome.taken + 1 }) (call law outcome.state number))

-- a source after its last call: its outputs are closed, unless it has failed
abbrev pub with_last_call : Outcome → Outcome
with_last_call outcome = unless_failed outcome.fault outcome (record outcome { outputs = map closed outcome.outputs })

-- what becomes of a source, which is called a number of times
abbrev pub source_outcome : Rules → Law → ℕ → ℕ → List (Option Plain) → Outcome
source_outcome rules law calls outputs sides = with_last_call (fold (called law) (opened rules None outputs sides) (range_with_len 0 calls))

-- what becomes of a loopback: it keeps nothing, and its one output answers the packets of MAIN
abbrev pub loopback_outcome : StreamPrefix Plain → StreamPrefix Plain → Outcome
loopback_outcome main loop = record { state = []; outputs = loopback main loop ∷ []; taken = length (replies main loop); fault = None }
