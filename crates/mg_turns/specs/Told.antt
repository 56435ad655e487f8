-- What each answer of a call tells of what the seat knows. The seat's view is v before the call, and w after it.
use Rattle.std.specs.Prelude.{◌≡◌, ◌≢◌, ℕ, ◌+◌, ◌-◌, ◌*◌, ◌<◌, ◌≤◌, ◌⊎◌, ◌∷◌, ⊤, Bool, true, cond, length, List, [], Some, IfSome, is_some, slice_get}
use Rattle.mg_time.specs.Time.{done}
use Rattle.mg_value.specs.Payload.{Plain}
use Rattle.mg_settled.specs.Prefix.{StreamPrefix}
use Rattle.mg_settled.specs.Loopback.{replies}
use Rattle.mg_stream.specs.Pool.{queues_of}
use Rattle.mg_policy.specs.Inbox.{StandAfter, TellsOf}
use Rattle.mg_policy.specs.declared.readiness.Readiness.{Readiness}
use Rattle.mg_policy.specs.declared.readiness.Readiness.TheVariants.{Ready, Close as AtEnd, NotReady as NotYet}
use Rattle.mg_loopback.specs.Standing.{StandsAfter}
use Rattle.mg_calc.specs.declared.edge.Edge.{Edge}
use Rattle.mg_node.specs.Views.{IntakeView, EntryView, OutcomeView, EngineView}
use Rattle.mg_node.specs.declared.role.Role.{Role}
use Rattle.mg_node.specs.declared.role.Role.TheVariants.{Source}
use Rattle.mg_node.specs.declared.pending.Pending.{Pending}
use Rattle.mg_node.specs.declared.pending.Pending.TheVariants.{Sets as WaitingSets, Loop as WaitingLoop}
use Rattle.mg_node.specs.declared.delivered.Delivered.{Delivered}
use Rattle.mg_node.specs.declared.delivered.Delivered.TheVariants.{Moved, OutOfMemory as NoMemory}
use Rattle.mg_node.specs.declared.claimed.Claimed.{Claimed}
use Rattle.mg_node.specs.declared.claimed.Claimed.TheVariants.{Answered, NotReady, InFlightFull, Draining, Ended}
use Rattle.mg_node.specs.Windows.{has_ended}
use Rattle.mg_node.specs.Shelves.{back}
use Rattle.mg_node.specs.Advances.{advance_bound}
use Rattle.mg_turns.specs.Parts.{LayoutView, at, an_engine, an_intake, first_in, source_at}
use Rattle.mg_turns.specs.Sights.{sight}
use Rattle.mg_turns.specs.Rounds.{GivesNone}
use Rattle.mg_turns.specs.Standings.{known_came, known_bound, known_laid, known_laid_bound, known_sets}
use Rattle.mg_turns.specs.declared.view.View.{View}
use Rattle.mg_turns.specs.declared.tried.Tried.{Tried}
use Rattle.mg_turns.specs.declared.tried.Tried.TheVariants.{Done, Busy}
use Rattle.mg_turns.specs.declared.tried.TriedCommit.{TriedCommit}
use Rattle.mg_turns.specs.declared.tried.TriedCommit.TheVariants.{Laid, Busy as CommitBusy, OutOfMemory as CommitNone}

-- Deliveries.

-- the number of the output from which an edge leads, at its engine
abbrev pub output_of : LayoutView → Edge → ℕ
output_of key e = e.stream - first_in (at key (source_at key.plan e))

-- at least this many packets came to the edge's port since the seat last saw it
abbrev pub HasCome : ℕ → Edge → View → View → Type 0
HasCome n e v w = known_came v e.node e.port + n ≤ known_came w e.node e.port

-- the edge's port has all packets that were laid at the edge's output, as far as the seat knows
abbrev pub HasAll : LayoutView → Edge → View → Type 0
HasAll key e w = known_laid w (source_at key.plan e) (output_of key e) ≤ known_came w e.node e.port

-- what a delivery that found memory tells: at least n packets came
pub record TellsMoved (n : ℕ) (key : LayoutView) (e : Edge) (v w : View) : Type 0 where
  pub came : HasCome n e v w
  -- all that was laid is there, or 256 packets more came
  pub enough : HasAll key e w ⊎ HasCome 256 e v w
  -- if all packets that were laid are at the port, the bound is there too
  pub bound : HasAll key e w → known_laid_bound w (source_at key.plan e) (output_of key e) ≤ known_bound w e.node e.port

-- what the answer of a delivery tells
abbrev pub AppendTells : Tried Delivered → LayoutView → Edge → View → View → Type 0
AppendTells (Done (Moved n raised)) key e v w = TellsMoved n key e v w
AppendTells (Done (NoMemory n)) key e v w = HasCome n e v w
AppendTells (Busy word) key e v w = ⊤

-- Calls on a node.

-- the seat's two newest sights are those of a node's engine and intake, and `Says` holds of these two
pub record LeftCell (node : ℕ) (v w : View) (Says : EngineView → IntakeView → Type 0) : Type 0 where
  pub engine : EngineView
  pub intake : IntakeView
  pub seen : w.seen ≡ sight (2 * node + 1) (an_engine engine) ∷ sight (2 * node) (an_intake intake) ∷ v.seen
  pub says : Says engine intake

-- the bound of each output is known to be as high as what waits allows
abbrev pub AreRaised : ℕ → View → EngineView → IntakeView → Type 0
AreRaised node w e i = (output : ℕ) → output < length e.outputs → IfSome (advance_bound e i.waits) (λ b. b ≤ known_laid_bound w (2 * node + 1) output)

-- the known bound of some output of a node rose
pub record SomeRose (node : ℕ) (v w : View) : Type 0 where
  pub output : ℕ
  pub rose : known_laid_bound v (2 * node + 1) output < known_laid_bound w (2 * node + 1) output

-- what the answer of a call that raises outputs tells
abbrev pub RaiseTells : Tried Bool → ℕ → View → View → Type 0
RaiseTells (Done moved) node v w = LeftCell node v w (AreRaised node w) × (moved ≡ true → SomeRose node v w)
RaiseTells (Busy word) node v w = ⊤

-- what prefixes of MAIN and LOOP tell if the first k packets of MAIN are answered. There is a next answer, or none comes any
-- more, or there is none so far
abbrev pub RepliesTell : Readiness → ℕ → StreamPrefix Plain → StreamPrefix Plain → Type 0
RepliesTell (Ready t) k main loop = k < length (replies main loop)
RepliesTell AtEnd k main loop = (length main.packets ≡ k) × (main.bound ≡ done)
RepliesTell NotYet k main loop = (length (replies main loop) ≡ k) × ((length main.packets ≡ k) → main.bound ≢ done)

-- what all that came to an intake tells if the first k sets or answers are claimed, with the packets that are gone with these
abbrev pub AllTells : Readiness → ℕ → Pending → Type 0
AllTells readiness k (WaitingSets inbox) = (came : List (StreamPrefix Plain)) → StandAfter inbox.policy k (queues_of inbox.pool) came → TellsOf inbox.policy k came readiness
AllTells readiness k (WaitingLoop held) = (main loop : StreamPrefix Plain) → StandsAfter k held main loop → RepliesTell readiness k main loop

-- no set or answer stands after those that are claimed, and more may come. A source can always tell
abbrev pub IsStill : Role → IntakeView → Type 0
IsStill (Source calls) i = ⊥
IsStill role i = AllTells NotYet i.claimed i.waits

-- the node may be closed: all is claimed, and nothing comes any more
abbrev pub MayClose : Role → ℕ → IntakeView → Type 0
MayClose (Source calls) claimed i = calls ≤ claimed
MayClose role claimed i = AllTells AtEnd i.claimed i.waits

-- how many works of an engine are laid or in its window
abbrev pub claimed_to : EngineView → ℕ
claimed_to e = e.laid + length e.window

-- what the answer of a claim says of the engine and the intake
abbrev pub ClaimSays : {X : Type 0} → Claimed X → EngineView → IntakeView → Type 0
ClaimSays NotReady e i = IsStill e.role i
ClaimSays InFlightFull e i = claimed_to e ≡ e.laid + e.in_flight
ClaimSays Draining e i = (e.laid < claimed_to e) × MayClose e.role e.claimed i
ClaimSays Ended e i = has_ended e ≡ true
ClaimSays _ e i = ⊤

-- if a loopback has answered, more of its answers are known to be laid than before
abbrev pub AnswerTells : {X : Type 0} → Claimed X → ℕ → View → View → Type 0
AnswerTells Answered node v w = known_sets v node < known_sets w node
AnswerTells _ node v w = ⊤

-- what the answer of a call that claims tells
abbrev pub ClaimTells : {X : Type 0} → Tried (Claimed X) → ℕ → View → View → Type 0
ClaimTells (Done result) node v w = LeftCell node v w (ClaimSays result) × AnswerTells result node v w
ClaimTells (Busy word) node v w = ⊤

-- how many entries of a window are committed
abbrev pub count_committed : List EntryView → ℕ
count_committed [] = 0
count_committed (x ∷ xs) = cond x.committed 1 0 + count_committed xs

-- how many works of an engine are committed: those that are laid, Close too, and those that wait after a work that isn't
-- committed
abbrev pub committed_in : EngineView → ℕ
committed_in e = e.laid + cond e.closed 1 0 + count_committed e.window

-- a work that came back and isn't committed stands in an engine's window
pub record StandsBack (e : EngineView) : Type 0 where
  pub outcome : OutcomeView
  pub place : ℕ
  pub there : slice_get e.window place ≡ Some (back outcome)

-- why a call did no more works: a claim gives nothing, or a work for which memory was short stands in its window
abbrev pub RunEnds : EngineView → IntakeView → Type 0
RunEnds e i = GivesNone e e i i ⊎ StandsBack e

-- at least `done` works were committed since the seat last saw the engine. If these are fewer than `most`, `RunEnds` says why
pub record RunSays (done most node : ℕ) (v : View) (e : EngineView) (i : IntakeView) : Type 0 where
  pub committed : known_sets v node + done ≤ committed_in e
  pub ends : done < most → RunEnds e i

-- what the answer of a call that works at a node tells
abbrev pub RunTells : Tried ℕ → ℕ → ℕ → View → View → Type 0
RunTells (Done done) most node v w = LeftCell node v w (RunSays done most node v)
RunTells (Busy word) most node v w = ⊤

-- Commits.

-- at least n more sets or calls are known to be laid. If the work was performed, it isn't the next work to lay, unless the node
-- has ended
pub record TellsLaid (n : ℕ) (outcome : OutcomeView) (v w : View) : Type 0 where
  pub engine : EngineView
  pub seen : w.seen ≡ sight (2 * outcome.work.node + 1) (an_engine engine) ∷ v.seen
  pub more : known_sets v outcome.work.node + n ≤ known_sets w outcome.work.node
  pub past : is_some outcome.answer ≡ true → (has_ended engine ≡ true) ⊎ (engine.laid ≢ outcome.work.number)

-- what the answer of a commit tells
abbrev pub CommitTells : {X : Type 0} → TriedCommit X → OutcomeView → View → View → Type 0
CommitTells (Laid n) outcome v w = TellsLaid n outcome v w
CommitTells (CommitBusy word o) outcome v w = ⊤
CommitTells (CommitNone o) outcome v w = ⊤
