-- Intakes: how they begin, and which input set is claimed next.
use Rattle.std.specs.Prelude.{◌≡◌, ℕ, ◌+◌, ◌≤◌, List, replicate, length, Option, Some, None, slice_get, is_some, ⊤, if◌then◌else◌}
use Rattle.mg_time.specs.Time.{done}
use Rattle.mg_value.specs.Payload.{Plain}
use Rattle.mg_value.specs.Packet.{Stamped}
use Rattle.mg_settled.specs.Prefix.{StreamPrefix}
use Rattle.mg_settled.specs.Settled.{TimedSet, settled_sets}
use Rattle.mg_settled.specs.Left.{after_sets}
use Rattle.mg_stream.specs.Pool.{empty_backlog, queues_of}
use Rattle.mg_policy.specs.Inbox.{next_set, rests}
use Rattle.mg_loopback.specs.Loopback.{IsFresh as IsFreshLoop, next_reply, replied, told}
use Rattle.mg_loopback.specs.declared.answered.Answered.{Answered}
use Rattle.mg_calc.specs.Rules.{Laws}
use Rattle.mg_calc.specs.declared.law.Law.TheVariants.{Loopback}
use Rattle.mg_calc.specs.declared.plan.Plan.{Plan}
use Rattle.mg_calc.specs.declared.plan_node.PlanNode.{PlanNode}
use Rattle.mg_node.specs.declared.pending.Pending.{Pending}
use Rattle.mg_node.specs.declared.pending.Pending.TheVariants.{Sets, Loop}
use Rattle.mg_node.specs.Views.{IntakeView}
use Rattle.mg_node.specs.Job.{LoggedJob, ports_of, policy_of, law_of, streams_at}
use Rattle.mg_node.specs.Lawful.{HoldsWaits, LawfulIntake}

-- what waits at a consumer to which nothing came yet: an empty loopback if that is the consumer's law, and otherwise an empty inbox. The
-- inbox has the consumer's policy and ports.
abbrev pub HoldsNone : Plan → ℕ → Pending → Type 0
HoldsNone plan consumer (Sets inbox) = ¬ (law_of plan consumer ≡ Some Loopback)
    × (inbox ≡ record { policy = policy_of plan consumer; pool = record { ports = replicate (length (ports_of plan consumer)) empty_backlog; spare = 0 } })
HoldsNone plan consumer (Loop held) = (law_of plan consumer ≡ Some Loopback) × IsFreshLoop held

-- the intake of a consumer to which nothing came yet
pub record IsFresh (plan : Plan) (consumer : ℕ) (intake : IntakeView) : Type 0 where
  pub claimed : intake.claimed ≡ 0
  pub holds : HoldsNone plan consumer intake.waits

-- the input set that is claimed next, if there is one; a loopback has none
abbrev pub next_set_of : Pending → Option (TimedSet Plain)
next_set_of (Sets inbox) = next_set inbox.policy (queues_of inbox.pool)
next_set_of (Loop held) = None

-- what waits once the next set is claimed: at each port what waited before, without the packets that go with the set. The policy is the
-- same.
abbrev pub IsLeft : Pending → Pending → Type 0
IsLeft (Sets inbox) (Sets now) = (now.policy ≡ inbox.policy) × (rests (queues_of now.pool) ≡ after_sets inbox.policy 1 (rests (queues_of inbox.pool)))
IsLeft waits now = ⊥

-- an intake is lawful for some job
pub record SomeJobHasIntake (intake : IntakeView) : Type 0 where
  pub laws : Laws
  pub job : LoggedJob laws
  pub consumer : ℕ
  pub lawful : LawfulIntake job consumer intake

-- a consumer's set of a number shows these packets
pub record HasSet {laws : Laws} (job : LoggedJob laws) (streams : List (StreamPrefix Plain)) (consumer number : ℕ) (set : List (Option (Stamped Plain))) : Type 0 where
  pub at : ℕ
  pub is : slice_get (settled_sets (policy_of job.job.plan consumer) (streams_at streams (ports_of job.job.plan consumer))) number ≡ Some (record { at = at; set = set })

-- the next set of what waits is claimed, and it is the set of its number in the solution. One more set is claimed of what waits then; the
-- number of claimed sets still has 64 bits.
pub record ClaimsSet {laws : Laws} (job : LoggedJob laws) (streams : List (StreamPrefix Plain)) (consumer claimed : ℕ) (now : Pending) (set : List (Option (Stamped Plain))) : Type 0 where
  pub holds : HoldsWaits job streams consumer (claimed + 1) now
  pub few : claimed + 1 ≤ done
  pub shows : HasSet job streams consumer claimed set

-- what waits at a node to which nothing came yet
abbrev pub NoneWaits : PlanNode → Pending → Type 0
NoneWaits node (Sets inbox) = ¬ (node.law ≡ Loopback) × (inbox ≡ record { policy = node.policy; pool = record { ports = replicate (length node.inputs) empty_backlog; spare = 0 } })
NoneWaits node (Loop held) = (node.law ≡ Loopback) × IsFreshLoop held

-- what waits is for sets, and not for a loopback
abbrev pub HasSets : Pending → Type 0
HasSets (Sets inbox) = ⊤
HasSets (Loop held) = ⊥

-- what waits is a loopback's
abbrev pub HasLoop : Pending → Type 0
HasLoop (Sets inbox) = ⊥
HasLoop (Loop held) = ⊤

-- what an intake answers to the next packet of MAIN, and what that leaves: nothing changes if the answer can't be told
abbrev pub AnswersBy : Pending → Answered → IntakeView → IntakeView → Type 0
AnswersBy (Sets inbox) result before now = ⊥
AnswersBy (Loop held) result before now =
    (result ≡ told (next_reply held)) × (now ≡ (if is_some (next_reply held) then record { claimed = before.claimed + 1; waits = Loop (replied held) } else before))
