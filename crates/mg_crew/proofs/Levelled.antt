-- What a worker's seats are after several calls, and what it works with.
use Rattle.std.proofs.Common.{◌≡◌, ℕ, ◌<◌, ◌+◌, ◌∙◌, Option, Some, None, IfSome, All, Contains, length, ap, sym, subst, arith}
use Rattle.std.proofs.lemmas.List.Elements.{All-weaker}
use Rattle.mg_calc.specs.Rules.{Laws}
use Rattle.mg_calc.specs.declared.node_calculator.NodeCalculator.{Ghosts}
use Rattle.mg_calc.specs.declared.plan.Plan.{Plan}
use Rattle.mg_calc.specs.Plan.{IsValid, HasEachOnce, sources}
use Rattle.mg_throttle.proofs.Sources.{sources_below}
use Rattle.mg_levels.specs.Levels.{order_of, IsSeatOf}
use Rattle.mg_levels.specs.declared.levels.Levels.{Levels}
use Rattle.mg_levels.specs.declared.seat.LevelSeat.{LevelSeat}
use Rattle.mg_sched.specs.Views.{NetView}
use Rattle.mg_sched.specs.StandsFor.{StandsForSome}
use Rattle.mg_sched.specs.ComesApart.{parts_in}
use Rattle.mg_turns.specs.Parts.{LayoutView, nodes_in, at, Follows}
use Rattle.mg_turns.specs.Ends.{Unshared}
use Rattle.mg_turns.specs.declared.view.View.{View}
use Rattle.mg_turns.specs.Calls.{key_of}
use Rattle.mg_turns.specs.declared.shared.SharedNet.{SharedNet}
use Rattle.mg_turns.specs.declared.seat.NetSeat.{NetSeat}
use Rattle.mg_workers.specs.Shared.{KeptView, IsSharedOf, StaysShared}
use Rattle.mg_workers.specs.Woven.{layout_of}
use Rattle.mg_crew.specs.Leaves.{NetGoesOn}
use Rattle.mg_crew.specs.declared.putting.Place.{Place}
use Rattle.mg_crew.specs.declared.shop.Tools.{Tools}
use Rattle.mg_crew.specs.Code.Places.{IsPlaceAt, IsAnyOf}
use Rattle.mg_crew.specs.Code.Seats.{AreToolsOf, IsWithoutWork, StaysAtWork}
use Rattle.mg_crew.proofs.Sharing.{stays_itself, stays_on}

-- the plan that is kept aside is the net's, and is valid
pub kept_plan : {laws : Laws} (before : NetView) (key : LayoutView) (kept : KeptView) → IsSharedOf laws before key kept → kept.plan ≡ key.plan
kept_plan {laws} before key kept of = ap (λ (k : KeptView). k.plan) of.stays ∙ sym (ap (λ (f : LayoutView). f.plan) of.shared)

pub kept_valid : {laws : Laws} (before : NetView) (key : LayoutView) (kept : KeptView) → StandsForSome laws before → IsSharedOf laws before key kept → IsValid kept.plan
kept_valid {laws} before key kept some of =
    let parts = of.of some.job some.stands in
    let is : kept.plan ≡ some.job.job.plan = ap (λ (k : KeptView). k.plan) of.stays ∙ parts.plan in
    subst IsValid (sym is) parts.is_job.plan

-- what is made of the plan of a net is for that net
pub tools_for : {X : Type 0} (net : SharedNet X) (plan : Plan) (tools : Tools) → plan ≡ (key_of net).plan → HasEachOnce (length plan.nodes) (order_of tools.levels)
    → tools.chart.from.places ≡ length plan.nodes + length plan.inputs → tools.chart.into.places ≡ length plan.nodes + 1
    → (tools.chart.from.edges ≡ length plan.edges) × (tools.chart.into.edges ≡ length plan.edges) → tools.chart.sources.items ≡ sources plan → AreToolsOf net tools
tools_for net plan tools same order places consumers edges among =
    let nodes : length plan.nodes ≡ nodes_in (key_of net) = ap (λ (p : Plan). length p.nodes) same in
    record {
      ordered = subst (λ (n : ℕ). HasEachOnce n (order_of tools.levels)) nodes order;
      places = omega (arith, places, nodes);
      consumers = omega (arith, consumers, nodes);
      edges = edges.0 ∙ ap (λ (p : Plan). length p.edges) same;
      entries = edges.1 ∙ sym edges.0;
      sources = subst (All (λ node. Contains (order_of tools.levels) node)) (sym among) (All-weaker (λ node. node < length plan.nodes) (λ node. Contains (order_of tools.levels) node) order.there (sources plan) (sources_below plan.nodes));
    }

-- a place that has a seat and no node
pub first_place : (levels : Levels) (place : Place) (seat : LevelSeat) → place.seat ≡ Some seat → place.kept ≡ None → IsSeatOf levels seat → IsPlaceAt levels place
first_place levels place seat has none of = record {
  seat = subst (λ (o : Option LevelSeat). IsAnyOf levels o) (sym has) of;
  kept = subst (λ (o : Option ℕ). IfSome o (λ node. Contains (order_of levels) node)) (sym none) tt;
}

module _ {laws : Laws} {X : Type 0} {g : Ghosts X} (net : SharedNet X) (tools : Tools) where
  -- a worker that goes on after some calls
  pub at_work_still : (before now : NetSeat X g) (place later : Place) → IsWithoutWork laws net tools before place → StaysAtWork laws net tools before now later → IsWithoutWork laws net tools now later
  at_work_still before now place later h k = record { shared = k.stays.shared; fits = h.fits; placed = k.placed }

  pub stays_at_work : (seat : NetSeat X g) (place : Place) → IsWithoutWork laws net tools seat place → StaysAtWork laws net tools seat seat place
  stays_at_work seat place h = record { stays = stays_itself net seat h.shared; placed = h.placed }

  -- several calls one after the other
  pub works_on : (first second third : NetSeat X g) (place later : Place) → StaysAtWork laws net tools first second place → StaysAtWork laws net tools second third later → StaysAtWork laws net tools first third later
  works_on first second third place later h k = record { stays = stays_on net first second third h.stays k.stays; placed = k.placed }

  -- a call on the seat at the net alone, and on the place alone
  pub seat_stays : (first second third : NetSeat X g) (place : Place) → StaysAtWork laws net tools first second place → StaysShared laws net second third → StaysAtWork laws net tools first third place
  seat_stays first second third place h k = record { stays = stays_on net first second third h.stays k; placed = h.placed }

-- a net that is put together of the parts that were shared
pub goes_on : {laws : Laws} (before now : NetView) (key : LayoutView) (kept : KeptView) (v : View) → IsSharedOf laws before key kept → Unshared laws key v (layout_of (parts_in now)).parts → NetGoesOn laws before now
goes_on {laws} before now key kept v of u = record {
  parts = of.parts;
  apart = of.apart;
  count = u.count ∙ ap (λ (f : LayoutView). length f.parts) of.shared;
  follows = subst (λ (f : LayoutView). (word : ℕ) → word < length f.parts → Follows laws f word (at (layout_of (parts_in now)) word)) of.shared u.follows;
}
