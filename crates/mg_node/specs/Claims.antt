-- Claims: what an engine and its intake give next, and what that leaves. Each answer is given only if its case holds. No two cases hold at
-- once, with one exception: at a loopback, out of memory may stand in place of another answer.
use Rattle.std.specs.Prelude.{◌≡◌, ℕ, ◌+◌, ◌<◌, ◌≤◌, Bool, true, false, List, [], ◌∷◌, ◌++◌, length, slice_get, slice_set, Option, Some, None, IsSomeAnd, is_some, ◌⊎◌, if◌then◌else◌, ⊤}
use Rattle.mg_time.specs.Time.{next as next_time}
use Rattle.mg_value.specs.Payload.{Plain}
use Rattle.mg_value.specs.Packet.{Stamped}
use Rattle.mg_settled.specs.Prefix.{StreamPrefix}
use Rattle.mg_settled.specs.Loopback.{Reply, packet_of}
use Rattle.mg_stream.specs.Pool.{Backlog}
use Rattle.mg_stream.specs.Queue.{count_of}
use Rattle.mg_loopback.specs.Loopback.{Held, next_reply, replied}
use Rattle.mg_policy.specs.declared.readiness.Readiness.TheVariants.{Ready, Close as AtEnd, NotReady as NotYet}
use Rattle.mg_calc.specs.Rules.{Laws}
use Rattle.mg_calc.specs.declared.node_fault.Phase.{Phase}
use Rattle.mg_calc.specs.declared.node_fault.Phase.TheVariants.{Call, Process, Close}
use Rattle.mg_node.specs.declared.role.Role.{Role}
use Rattle.mg_node.specs.declared.role.Role.TheVariants.{Source, Loop, Sets}
use Rattle.mg_node.specs.declared.pending.Pending.{Pending}
use Rattle.mg_node.specs.declared.pending.Pending.TheVariants.{Loop as WaitsLoop}
use Rattle.mg_node.specs.declared.claimed.Claimed.{Claimed}
use Rattle.mg_node.specs.declared.claimed.Claimed.TheVariants.{Work, Answered, NotReady, InFlightFull, Draining, Ended, OutOfMemory}
use Rattle.mg_node.specs.Views.{IntakeView, ContextView, WorkView, OutcomeView, EntryView, EngineView}
use Rattle.mg_node.specs.Ports.{ports_in, port_queue, IsNext}
pub use Rattle.mg_node.specs.Windows.{has_ended}
use Rattle.mg_node.specs.Intakes.{next_set_of, IsLeft, HasSet}
use Rattle.mg_node.specs.IntakeStanding.{IntakeGrows}
use Rattle.mg_node.specs.Job.{LoggedJob, Solves}
use Rattle.mg_node.specs.Shelves.{IsOut}
use Rattle.mg_node.specs.Lawful.{LawfulIntake, LawfulEngine, LawfulWork, of_node, Agree}

-- whether an outcome is there, of a work that wasn't run
abbrev pub came_back : Option OutcomeView → Bool
came_back None = false
came_back (Some o) = if is_some o.answer then false else true

-- whether an entry's work came back unrun
abbrev pub is_unrun : EntryView → Bool
is_unrun entry = came_back entry.outcome

-- the place of the first entry whose work came back unrun, counted from n on, or none
abbrev pub first_unrun : ℕ → List EntryView → Option ℕ
first_unrun n [] = None
first_unrun n (entry ∷ entries) = if is_unrun entry then Some n else first_unrun (n + 1) entries

-- no more works come but Close: all calls of a source are claimed, and at every other node nothing comes any more
abbrev pub IsOver : Role → ℕ → Pending → Type 0
IsOver (Source calls) claimed waits = calls ≤ claimed
IsOver role claimed waits = IsNext waits AtEnd

-- neither a work nor the end can be told yet; a source can always tell
abbrev pub IsEarly : Role → Pending → Type 0
IsEarly (Source calls) waits = ⊥
IsEarly role waits = IsNext waits NotYet

-- the next input set of an intake is taken. The set has these packets. For every job for which the intake is lawful, they are the packets
-- of the solution's set of the same number. The intake stays lawful, and its standing grows. At each port the packets that go with the set
-- are gone, and no others. Each port counts as many packets as before, and its bound is the same.
pub record Takes (intake now : IntakeView) (set : List (Option (Stamped Plain))) : Type 0 where
  pub shown : IsSomeAnd (next_set_of intake.waits) (λ e. set ≡ e.set)
  pub counted : now.claimed ≡ intake.claimed + 1
  pub grows : IntakeGrows intake now
  pub left : IsLeft intake.waits now.waits
  pub ports : ports_in now.waits ≡ ports_in intake.waits
  pub counts : (port : ℕ) → count_of (port_queue now.waits port) ≡ count_of (port_queue intake.waits port)
  pub bounds : (port : ℕ) → (port_queue now.waits port).bound ≡ (port_queue intake.waits port).bound
  pub stays_lawful : {laws : Laws} (job : LoggedJob laws) (consumer : ℕ) → LawfulIntake job consumer intake → LawfulIntake job consumer now
  pub in_solution : {laws : Laws} (job : LoggedJob laws) (consumer : ℕ) (streams : List (StreamPrefix Plain)) → Solves job streams → LawfulIntake job consumer intake → HasSet job streams consumer intake.claimed set

-- an output with a loopback's answer after its packets, if the answer isn't nothing
abbrev pub with_reply : Option (Stamped Plain) → Backlog Plain → Backlog Plain
with_reply None b = b
with_reply (Some p) b = record { gone = b.gone; packets = b.packets ++ p ∷ []; bound = next_time p.at }

-- the outputs of a loopback with its answer; a loopback has one output
abbrev pub with_answer : Option (Stamped Plain) → List (Backlog Plain) → List (Backlog Plain)
with_answer answer [] = []
with_answer answer (b ∷ bs) = with_reply answer b ∷ bs

-- nothing has changed
pub record AreSame (engine : EngineView) (intake : IntakeView) (engine_now : EngineView) (intake_now : IntakeView) : Type 0 where
  pub same_engine : engine_now ≡ engine
  pub same_intake : intake_now ≡ intake

-- a further work may be claimed: the node goes on, no work came back unrun, and the window has room
pub record MayClaim (engine : EngineView) : Type 0 where
  pub goes : has_ended engine ≡ false
  pub none : first_unrun 0 engine.window ≡ None
  pub room : length engine.window < engine.in_flight

-- an entry's work, which came back unrun, is handed out
pub record HandsOut (window now : List EntryView) (place : ℕ) (work : WorkView) : Type 0 where
  pub entry : EntryView
  pub there : slice_get window place ≡ Some entry
  pub outcome : entry.outcome ≡ Some (record { work = work; answer = None })
  pub left : now ≡ slice_set window place (record { phase = entry.phase; outcome = None; committed = false })

-- the first work that came back unrun is handed out again, and its entry has no outcome any more
pub record TakesUnrun (engine engine_now : EngineView) (work : WorkView) : Type 0 where
  pub place : ℕ
  pub first : first_unrun 0 engine.window ≡ Some place
  pub hands : HandsOut engine.window engine_now.window place work
  pub now : engine_now ≡ record engine { window = engine_now.window }

-- a work is claimed, with the last idle context: it has the next number, and its entry comes last in the window. The count of claims grows
-- by `more`, which is 0 for Close.
pub record Hands (engine engine_now : EngineView) (phase : Phase) (more : ℕ) (context : ContextView) : Type 0 where
  pub idle : engine.idle ≡ engine_now.idle ++ context ∷ []
  pub now : engine_now ≡ record engine {
    claimed = engine.claimed + more;
    window = engine.window ++ record { phase = phase; outcome = None; committed = false } ∷ [];
    idle = engine_now.idle;
  }

-- the next work of an engine, in a phase, with this context
abbrev pub work_of : EngineView → Phase → ContextView → WorkView
work_of engine phase context = record { node = engine.node; number = engine.claimed; phase = phase; context = context }

-- the next call of a source is handed out
pub record TakesCall (engine engine_now : EngineView) (work : WorkView) : Type 0 where
  pub calls : ℕ
  pub role : engine.role ≡ Source calls
  pub more : engine.claimed < calls
  pub context : ContextView
  pub hands : Hands engine engine_now (Call engine.claimed) 1 context
  pub work_is : work ≡ work_of engine (Call engine.claimed) context

-- the next input set is handed out, and leaves the intake
pub record TakesSet (engine engine_now : EngineView) (intake intake_now : IntakeView) (work : WorkView) : Type 0 where
  pub role : engine.role ≡ Sets
  pub at : ℕ
  pub next : IsNext intake.waits (Ready at)
  pub context : ContextView
  pub hands : Hands engine engine_now (Process at) 1 context
  pub work_is : work ≡ work_of engine (Process at) (record { told = context.told; set = work.context.set })
  pub takes : Takes intake intake_now work.context.set

-- Close is handed out: no set comes any more, and all that was claimed is laid
pub record TakesClose (engine engine_now : EngineView) (waits : Pending) (work : WorkView) : Type 0 where
  pub over : IsOver engine.role engine.claimed waits
  pub laid : engine.window ≡ []
  pub context : ContextView
  pub hands : Hands engine engine_now Close 0 context
  pub work_is : work ≡ work_of engine Close context

-- the next packet of MAIN is answered: its answer is laid at once
pub record TakesAnswer (engine engine_now : EngineView) (intake intake_now : IntakeView) : Type 0 where
  pub role : engine.role ≡ Loop
  pub held : Held Plain
  pub waits : intake.waits ≡ WaitsLoop held
  pub reply : Reply Plain
  pub next : next_reply held ≡ Some reply
  pub now : engine_now ≡ record engine { claimed = engine.claimed + 1; laid = engine.laid + 1; outputs = with_answer (packet_of reply) engine.outputs }
  pub intake_is : intake_now ≡ record { claimed = intake.claimed + 1; waits = WaitsLoop (replied held) }

-- what a claim answers and leaves
abbrev pub Claims : {C : Type 0} → Claimed C → EngineView → EngineView → IntakeView → IntakeView → Type 0
Claims Ended engine engine_now intake intake_now = (has_ended engine ≡ true) × AreSame engine intake engine_now intake_now
Claims InFlightFull engine engine_now intake intake_now =
    (has_ended engine ≡ false) × (first_unrun 0 engine.window ≡ None) × (engine.in_flight ≤ length engine.window) × AreSame engine intake engine_now intake_now
Claims Draining engine engine_now intake intake_now = MayClaim engine × IsOver engine.role engine.claimed intake.waits × (0 < length engine.window) × AreSame engine intake engine_now intake_now
Claims NotReady engine engine_now intake intake_now = MayClaim engine × IsEarly engine.role intake.waits × AreSame engine intake engine_now intake_now
Claims OutOfMemory engine engine_now intake intake_now = MayClaim engine × (engine.role ≡ Loop) × AreSame engine intake engine_now intake_now
Claims Answered engine engine_now intake intake_now = MayClaim engine × TakesAnswer engine engine_now intake intake_now
Claims (Work work) engine engine_now intake intake_now =
    ((has_ended engine ≡ false) × TakesUnrun engine engine_now work × (intake_now ≡ intake))
    ⊎ (MayClaim engine × ((TakesCall engine engine_now work × (intake_now ≡ intake))
    ⊎ ((TakesClose engine engine_now intake.waits work × (intake_now ≡ intake))
    ⊎ TakesSet engine engine_now intake intake_now work)))

-- a work that is handed out is lawful
abbrev pub IsLawfulWork : {laws : Laws} {C : Type 0} → LoggedJob laws → Claimed C → Type 0
IsLawfulWork {laws} job (Work work) = LawfulWork job work
IsLawfulWork {laws} job _ = ⊤

-- a work that a claim hands out is out of the engine
abbrev pub GivesOut : {C : Type 0} → Claimed C → EngineView → Type 0
GivesOut (Work work) engine = IsOut engine work
GivesOut _ engine = ⊤

-- a claim leaves a node's engine and its intake lawful for a job, and agreed, and hands out a lawful work
pub record LawfulClaim {laws : Laws} {C : Type 0} (job : LoggedJob laws) (number : ℕ) (result : Claimed C) (engine : EngineView) (intake : IntakeView) : Type 0 where
  pub lawful_engine : LawfulEngine job (of_node number) engine
  pub lawful_intake : LawfulIntake job number intake
  pub agree : Agree engine intake
  pub work : IsLawfulWork job result
