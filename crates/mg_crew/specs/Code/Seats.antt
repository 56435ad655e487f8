-- What each call of a worker keeps: its seat at the net, and its seat at the levels.
use Rattle.std.specs.Prelude.{◌≡◌, ◌≤◌, length, All, Contains}
use Rattle.mg_calc.specs.Rules.{Laws}
use Rattle.mg_calc.specs.Plan.{HasEachOnce}
use Rattle.mg_calc.specs.declared.node_calculator.NodeCalculator.{Ghosts}
use Rattle.mg_levels.specs.Levels.{order_of}
use Rattle.mg_node.specs.Job.{LoggedJob}
use Rattle.mg_node.specs.Lawful.{LawfulWork, LawfulOutcome}
use Rattle.mg_node.specs.Views.{WorkView, OutcomeView}
use Rattle.mg_turns.specs.Parts.{LayoutView, Fits, nodes_in}
use Rattle.mg_turns.specs.Calls.{key_of, view_of}
use Rattle.mg_turns.specs.declared.shared.SharedNet.{SharedNet}
use Rattle.mg_turns.specs.declared.seat.NetSeat.{NetSeat}
use Rattle.mg_workers.specs.Shared.{IsShared, StaysShared, IsSharedWith}
use Rattle.mg_crew.specs.declared.putting.Place.{Place}
use Rattle.mg_crew.specs.declared.shop.Tools.{Tools}
use Rattle.mg_crew.specs.Code.Places.{IsPlaceAt}

-- an outcome is lawful for each job for which the net's parts are lawful
abbrev pub FitsOutcome : Laws → LayoutView → OutcomeView → Type 0
FitsOutcome laws key outcome = (job : LoggedJob laws) → Fits job key → LawfulOutcome job outcome

-- a work is lawful for each job for which the net's parts are lawful
abbrev pub FitsWork : Laws → LayoutView → WorkView → Type 0
FitsWork laws key work = (job : LoggedJob laws) → Fits job key → LawfulWork job work

-- the sources that stand in the chart are nodes of the levels
abbrev pub HasSources : Tools → Type 0
HasSources tools = All (λ node. Contains (order_of tools.levels) node) tools.chart.sources.items

-- the tools of workers are those of a net: the levels have each of its nodes once, and the chart has its edges
pub record AreToolsOf {X : Type 0} (net : SharedNet X) (tools : Tools) : Type 0 where
  pub ordered : HasEachOnce (nodes_in (key_of net)) (order_of tools.levels)
  pub places : nodes_in (key_of net) ≤ tools.chart.from.places
  pub consumers : nodes_in (key_of net) ≤ tools.chart.into.places
  pub edges : tools.chart.from.edges ≡ length (key_of net).plan.edges
  pub entries : tools.chart.into.edges ≡ tools.chart.from.edges
  pub sources : HasSources tools

-- a worker has a seat of a net and a place at its levels, and it has no work
pub record IsWithoutWork (laws : Laws) {X : Type 0} {g : Ghosts X} (net : SharedNet X) (tools : Tools) (seat : NetSeat X g) (place : Place) : Type 0 where
  pub shared : IsShared laws net seat
  pub fits : AreToolsOf net tools
  pub placed : IsPlaceAt tools.levels place

-- after a call a worker has as much of the portion as before, and no work
pub record StaysAtWork (laws : Laws) {X : Type 0} {g : Ghosts X} (net : SharedNet X) (tools : Tools) (before now : NetSeat X g) (place : Place) : Type 0 where
  pub stays : StaysShared laws net before now
  pub placed : IsPlaceAt tools.levels place

-- a seat has the work of this outcome, the outcome is lawful, and the seat has as much of the portion as before
pub record HasWork (laws : Laws) {X : Type 0} {g : Ghosts X} (net : SharedNet X) (before now : NetSeat X g) (outcome : OutcomeView) : Type 0 where
  pub has : IsSharedWith laws net now outcome.work
  pub lawful : FitsOutcome laws (key_of net) outcome
  pub portion : (view_of now).portion ≡ (view_of before).portion
