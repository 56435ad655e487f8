-- What the calls of a shared net say, by what the seat knew before and knows after.
use Rattle.std.specs.Prelude.{◌≡◌, ℕ, ◌+◌, ◌*◌, ◌<◌, ◌≤◌, ◌⊎◌, ⊤, Bool, Option, None, Some, length}
use Rattle.mg_calc.specs.Rules.{Laws}
use Rattle.mg_calc.specs.declared.node_calculator.NodeCalculator.{Ghosts}
use Rattle.mg_calc.specs.declared.edge.Edge.{Edge}
use Rattle.mg_calc.specs.declared.plan.Plan.{Plan}
use Rattle.mg_node.specs.Views.{IntakeView, WorkView, OutcomeView, EngineView}
use Rattle.mg_node.specs.Job.{LoggedJob}
use Rattle.mg_node.specs.declared.claimed.Claimed.{Claimed}
use Rattle.mg_node.specs.declared.delivered.Delivered.{Delivered}
use Rattle.mg_node.specs.Claims.{Claims, IsLawfulWork}
use Rattle.mg_node.specs.Commits.{Commits}
use Rattle.mg_node.specs.Shelves.{IsOut, shelved}
use Rattle.mg_node.specs.Advances.{advanced, is_advanced}
use Rattle.mg_node.specs.Delivery.{Delivers}
use Rattle.mg_node.specs.Leading.{output_at}
use Rattle.mg_node.specs.IntakeStanding.{HasGrown}
use Rattle.mg_node.specs.Ports.{port_queue}
use Rattle.mg_turns.specs.Parts.{LayoutView, an_engine, an_intake, source_at}
use Rattle.mg_turns.specs.Sights.{Finds, FindsCell, Missed, MissedOne, left_one, left_two, cell_left, has_after}
use Rattle.mg_turns.specs.Rounds.{CellRounds, Stops}
use Rattle.mg_turns.specs.Told.{committed_in, RunEnds}
use Rattle.mg_turns.specs.declared.view.View.{View}
use Rattle.mg_turns.specs.declared.shared.SharedNet.{SharedNet}
use Rattle.mg_turns.specs.declared.seat.NetSeat.{NetSeat}
use Rattle.mg_turns.specs.declared.tried.Tried.{Tried}
use Rattle.mg_turns.specs.declared.tried.Tried.TheVariants.{Done, Busy}
use Rattle.mg_turns.specs.declared.tried.TriedCommit.{TriedCommit}
use Rattle.mg_turns.specs.declared.tried.TriedCommit.TheVariants.{Laid, Busy as CommitBusy, OutOfMemory}
use Rattle.mg_turns.specs.declared.tried.TriedShelf.{TriedShelf}
use Rattle.mg_turns.specs.declared.tried.TriedShelf.TheVariants.{Shelved as Put, Busy as ShelfBusy}

-- the plan and the parts from which a net was shared
abbrev pub key_of : {X : Type 0} → SharedNet X → LayoutView
key_of net = net.table.shared.key.value

-- what a seat knows: its view
abbrev pub view_of : {X : Type 0} {g : Ghosts X} → NetSeat X g → View
view_of s = s.seat.me.0

-- a seat belongs to a net
abbrev pub IsSeatOf : {X : Type 0} {g : Ghosts X} → SharedNet X → NetSeat X g → Type 0
IsSeatOf net s = (s.seat.table_id ≡ net.table.shared.table_id) × (s.seat.me.0.key ≡ key_of net)

-- a call has claimed from the cell that it found: the seat then has the work that the claim gave
pub record HasClaimed (laws : Laws) {X : Type 0} (result : Claimed X) (node : ℕ) (v w : View) : Type 0 where
  pub engine : EngineView
  pub engine_now : EngineView
  pub intake : IntakeView
  pub intake_now : IntakeView
  pub found : FindsCell laws v node engine intake
  pub claims : Claims result engine engine_now intake intake_now
  pub left : w ≡ cell_left v node engine_now intake_now (has_after result v.work)

-- what a call says that tries to claim: it has claimed, or a turn was missed
abbrev pub TriesClaim : (laws : Laws) {X : Type 0} → Tried (Claimed X) → ℕ → View → View → Type 0
TriesClaim laws (Done result) node v w = HasClaimed laws result node v w
TriesClaim laws (Busy word) node v w = Missed laws (2 * node + 1) (2 * node) word v w

-- a work that such a call hands out is lawful
abbrev pub IsLawfulTry : {laws : Laws} {X : Type 0} → LoggedJob laws → Tried (Claimed X) → Type 0
IsLawfulTry {laws} job (Done result) = IsLawfulWork job result
IsLawfulTry {laws} job (Busy word) = ⊤

-- a call has raised the outputs of the cell that it found as far as what waits tells
pub record HasRaised (laws : Laws) (result : Bool) (node : ℕ) (v w : View) : Type 0 where
  pub engine : EngineView
  pub intake : IntakeView
  pub found : FindsCell laws v node engine intake
  pub moved : result ≡ is_advanced engine intake.waits
  pub left : w ≡ cell_left v node (advanced engine intake.waits) intake v.work

-- what a call says that tries to raise outputs: it has raised them, or a turn was missed
abbrev pub TriesRaise : Laws → Tried Bool → ℕ → View → View → Type 0
TriesRaise laws (Done result) node v w = HasRaised laws result node v w
TriesRaise laws (Busy word) node v w = Missed laws (2 * node + 1) (2 * node) word v w

-- a call has made `done` rounds on the cell that it found, at most `most`. If these are fewer, no further work could be done
pub record HasMadeRounds (laws : Laws) (done most node : ℕ) (v w : View) : Type 0 where
  pub engine : EngineView
  pub engine_then : EngineView
  pub engine_now : EngineView
  pub intake : IntakeView
  pub intake_then : IntakeView
  pub intake_now : IntakeView
  pub laid : ℕ
  pub found : FindsCell laws v node engine intake
  pub rounds : CellRounds laws done laid engine engine_then intake intake_then
  pub within : done ≤ most
  pub end : ((done ≡ most) × (engine_now ≡ engine_then) × (intake_now ≡ intake_then)) ⊎ ((done < most) × Stops laws engine_then engine_now intake_then intake_now)
  pub committed : committed_in engine_now ≡ committed_in engine + done
  pub ends : done < most → RunEnds engine_now intake_now
  pub left : w ≡ cell_left v node engine_now intake_now v.work

-- what a call says that tries to work at a node: it has made rounds, or a turn was missed
abbrev pub TriesRun : Laws → Tried ℕ → ℕ → ℕ → View → View → Type 0
TriesRun laws (Done done) most node v w = HasMadeRounds laws done most node v w
TriesRun laws (Busy word) most node v w = Missed laws (2 * node + 1) (2 * node) word v w

-- a call has delivered along an edge, from the engine to the intake that it found
pub record HasBrought (laws : Laws) (result : Delivered) (source : ℕ) (edge : Edge) (v w : View) : Type 0 where
  pub engine : EngineView
  pub intake : IntakeView
  pub intake_now : IntakeView
  pub engine_found : Finds laws v source (an_engine engine)
  pub intake_found : Finds laws v (2 * edge.node) (an_intake intake)
  -- no more had come than was laid
  pub behind : HasGrown (port_queue intake.waits edge.port) (output_at engine edge)
  pub moved : Delivers result (output_at engine edge) edge.port 256 intake.waits intake_now.waits
  pub claimed : intake_now.claimed ≡ intake.claimed
  pub left : w ≡ left_two v source (an_engine engine) (2 * edge.node) (an_intake intake_now) v.work

-- what a call says that tries to deliver along an edge: it has delivered, or a turn was missed
abbrev pub TriesAppend : Laws → Tried Delivered → Plan → Edge → View → View → Type 0
TriesAppend laws (Done result) plan edge v w = HasBrought laws result (source_at plan edge) edge v w
TriesAppend laws (Busy word) plan edge v w = Missed laws (source_at plan edge) (2 * edge.node) word v w

-- this many packets wait at the port of an edge, in the intake that the call found; the intake is left as it is
pub record HasCounted (laws : Laws) (waiting : ℕ) (edge : Edge) (v w : View) : Type 0 where
  pub intake : IntakeView
  pub found : Finds laws v (2 * edge.node) (an_intake intake)
  pub waits : waiting ≡ length (port_queue intake.waits edge.port).packets
  pub left : w ≡ left_one v (2 * edge.node) (an_intake intake) v.work

-- what a call says that tries to count what waits at an edge: it has counted, or a turn was missed
abbrev pub TriesWaiting : Laws → Tried ℕ → Edge → View → View → Type 0
TriesWaiting laws (Done waiting) edge v w = HasCounted laws waiting edge v w
TriesWaiting laws (Busy word) edge v w = MissedOne (2 * edge.node) word v w

-- the work that a seat has is this one, whatever its calculator has done
pub record HasOutcome (has : Option WorkView) (work : WorkView) : Type 0 where
  pub it : WorkView
  pub there : has ≡ Some it
  pub node : it.node ≡ work.node
  pub number : it.number ≡ work.number
  pub phase : it.phase ≡ work.phase

-- a call has committed the seat's work, which was out of the engine that it found; the seat has no work then
pub record HasCommitted (laws : Laws) (laid : ℕ) (outcome : OutcomeView) (v w : View) : Type 0 where
  pub engine : EngineView
  pub engine_now : EngineView
  pub found : Finds laws v (2 * outcome.work.node + 1) (an_engine engine)
  pub out : IsOut engine outcome.work
  pub commits : Commits outcome laid engine engine_now
  pub left : w ≡ left_one v (2 * outcome.work.node + 1) (an_engine engine_now) None

-- a commit found no memory: the engine is left as the call found it
pub record FoundNone (laws : Laws) (outcome : OutcomeView) (v w : View) : Type 0 where
  pub engine : EngineView
  pub found : Finds laws v (2 * outcome.work.node + 1) (an_engine engine)
  pub left : w ≡ left_one v (2 * outcome.work.node + 1) (an_engine engine) v.work

-- what a call says that tries to commit: it has committed, or the turn was missed, or memory was short. In the two last cases
-- the outcome comes back
abbrev pub TriesCommit : (laws : Laws) {X : Type 0} → TriedCommit X → OutcomeView → View → View → Type 0
TriesCommit laws (Laid n) outcome v w = HasCommitted laws n outcome v w
TriesCommit laws (CommitBusy word o) outcome v w = MissedOne (2 * outcome.work.node + 1) word v w × (o ≡ outcome)
TriesCommit laws (OutOfMemory o) outcome v w = FoundNone laws outcome v w × (o ≡ outcome)

-- a call has put the seat's work back into the window of the engine that it found; the seat has no work then
pub record HasShelved (laws : Laws) (outcome : OutcomeView) (v w : View) : Type 0 where
  pub engine : EngineView
  pub found : Finds laws v (2 * outcome.work.node + 1) (an_engine engine)
  pub left : w ≡ left_one v (2 * outcome.work.node + 1) (an_engine (shelved engine outcome)) None

-- what a call says that tries to shelve: it has shelved, or the turn was missed and the outcome comes back
abbrev pub TriesShelve : (laws : Laws) {X : Type 0} → TriedShelf X → OutcomeView → View → View → Type 0
TriesShelve laws Put outcome v w = HasShelved laws outcome v w
TriesShelve laws (ShelfBusy word o) outcome v w = MissedOne (2 * outcome.work.node + 1) word v w × (o ≡ outcome)
