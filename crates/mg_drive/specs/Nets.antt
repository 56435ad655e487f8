-- What a net keeps while it is driven, and which of its packets are still to be read.
use Rattle.mg_calc.specs.Rules.{Laws}
use Rattle.std.specs.Prelude.{◌≡◌, ◌+◌, ◌≤◌, ℕ, false, List, [], ◌∷◌, length, All, Some, slice_get, ⊤}
use Rattle.mg_value.specs.Payload.{Plain}
use Rattle.mg_stream.specs.Pool.{Backlog}
use Rattle.mg_calc.specs.declared.event.Event.{Event}
use Rattle.mg_calc.specs.declared.event.Event.TheVariants.{Deliver, Advance, Claim, Perform, Commit, Relax}
use Rattle.mg_node.specs.Job.{LoggedJob}
use Rattle.mg_sched.specs.Views.{NetView}
use Rattle.mg_sched.specs.StandsFor.{StandsFor, IsRunning}
use Rattle.mg_sched.specs.AtRest.{IsAtRest}
use Rattle.mg_sched.specs.Taking.{LeavesNodes}
use Rattle.mg_sched.specs.Looks.{IsOutputOf, HasFrom}
use Rattle.mg_live.specs.Takes.{IsNoneOf}
use Rattle.mg_drive.specs.declared.moved.Moved.{Moved}

-- a net has kept its plan, and the calculators that no node uses at their places
pub record Keeps (before now : NetView) : Type 0 where
  pub plan : now.plan ≡ before.plan
  pub spare : now.spare ≡ before.spare

-- A net came to rest for a job, and since then only sets of its outputs were taken.
pub record HasRested {laws : Laws} (job : LoggedJob laws) (net : NetView) : Type 0 where
  pub rested : NetView
  pub stands : StandsFor job rested
  pub running : IsRunning rested
  pub rests : IsAtRest laws rested
  pub since : LeavesNodes rested net

-- no packet of a stream was given up between two states of a net
abbrev pub GaveNothingUp : NetView → NetView → Type 0
GaveNothingUp before now = (stream number : ℕ) → HasFrom before stream number → HasFrom now stream number

-- the packets of a stream that are still to be read: those with the number `from` or a higher one
pub record Wanted : Type 0 where
  pub stream : ℕ
  pub from : ℕ

-- all packets that are still to be read are there
abbrev pub AreThere : List Wanted → NetView → Type 0
AreThere wanted net = All (λ w. HasFrom net w.stream w.from) wanted

-- no more than `number` packets of a stream were laid
abbrev pub HasAtMost : NetView → ℕ → ℕ → Type 0
HasAtMost net stream number = (output : Backlog Plain) → IsOutputOf net stream output → output.gone + length output.packets ≤ number

-- all packets that were laid are read
abbrev pub AreRead : List Wanted → NetView → Type 0
AreRead wanted net = All (λ w. HasAtMost net w.stream w.from) wanted

-- Engines that may have changed --

-- An event is one of the node at a place: of all engines it may change that node's alone. A delivery and a relaxing change no engine.
abbrev pub IsOfNode : ℕ → Event → Type 0
IsOfNode place (Deliver edge) = ⊥
IsOfNode place (Advance node) = node ≡ place
IsOfNode place (Claim node) = node ≡ place
IsOfNode place (Perform node number) = node ≡ place
IsOfNode place (Commit node number) = node ≡ place
IsOfNode place Relax = ⊥

-- the engine at a place isn't among those that may have changed
abbrev pub IsUnmoved : Moved → ℕ → Type 0
IsUnmoved moved place = (moved.all ≡ false) × IsNoneOf moved.places.items place

-- no event is one of a node that hasn't moved
abbrev pub AreElsewhere : Moved → List Event → Type 0
AreElsewhere moved [] = ⊤
AreElsewhere moved (event ∷ events) = ((place : ℕ) → IsUnmoved moved place → ¬ IsOfNode place event) × AreElsewhere moved events

-- The nodes of some events are noted. What was noted before is noted still.
pub record HasNoted (before now : Moved) (events : List Event) : Type 0 where
  pub kept : (place : ℕ) → IsUnmoved now place → IsUnmoved before place
  pub elsewhere : AreElsewhere now events

-- A net has kept its plan, and all engines that aren't noted are as they were.
pub record EnginesStay (moved : Moved) (before now : NetView) : Type 0 where
  pub plan : now.plan ≡ before.plan
  pub engines : (place : ℕ) → IsUnmoved moved place → slice_get now.engines place ≡ slice_get before.engines place

-- all engines that changed between two states of a net are noted, beside those that were noted before
abbrev pub NotesMoves : Moved → Moved → NetView → NetView → Type 0
NotesMoves before now net net_now = (since : NetView) → EnginesStay before since net → EnginesStay now since net_now

-- something was known of a net, and all engines that have changed since are noted
pub record KnowsSince (knows : NetView → Type 0) (moved : Moved) (net : NetView) : Type 0 where
  pub since : NetView
  pub knew : knows since
  pub stay : EnginesStay moved since net

-- a place isn't that of one of some graph inputs, of a net with so many nodes
abbrev pub IsNoInput : ℕ → List ℕ → ℕ → Type 0
IsNoInput nodes inputs place = (i input : ℕ) → slice_get inputs i ≡ Some input → ¬ (place ≡ nodes + input)
