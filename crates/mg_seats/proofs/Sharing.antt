-- What the calls on a shared net leave of a seat: it is still a seat of the net, and has a work or none.
use Rattle.std.proofs.Common.{◌≡◌, ℕ, ◌<◌, ◌∙◌, length, ap, refl, subst}
use Rattle.std.proofs.lemmas.Option.{slice_get_within}
use Rattle.mg_calc.specs.Rules.{Laws}
use Rattle.mg_calc.specs.declared.node_calculator.NodeCalculator.{Ghosts}
use Rattle.mg_calc.specs.declared.plan.Plan.{Plan}
use Rattle.mg_node.specs.Views.{WorkView}
use Rattle.mg_node.specs.Job.{LoggedJob}
use Rattle.mg_node.specs.Lawful.{LawfulWork}
use Rattle.mg_node.specs.declared.claimed.Claimed.{Claimed}
use Rattle.mg_node.specs.declared.claimed.Claimed.TheVariants.{Work}
use Rattle.mg_node.specs.Claims.{IsLawfulWork}
use Rattle.mg_turns.specs.Parts.{LayoutView, nodes_in, Fits, FitsSome}
use Rattle.mg_turns.specs.Sights.{has_after}
use Rattle.mg_turns.specs.Calls.{key_of, view_of, IsSeatOf, HasClaimed}
use Rattle.mg_turns.specs.Standings.{Keeps}
use Rattle.mg_turns.specs.declared.view.View.{View}
use Rattle.mg_turns.specs.declared.shared.SharedNet.{SharedNet}
use Rattle.mg_turns.specs.declared.seat.NetSeat.{NetSeat}
use Rattle.mg_workers.specs.Shared.{IsShared, StaysShared, IsSharedWith}

-- a seat that has no work before a call, and none after it
pub stays_free : {laws : Laws} {X : Type 0} {g : Ghosts X} (net : SharedNet X) (before now : NetSeat X g) → IsShared laws net before → IsSeatOf net now → (view_of now).work ≡ (view_of before).work → IsShared laws net now
stays_free {laws} net before now h of same = record { of = of; some = h.some; edges = h.edges; free = same ∙ h.free }

pub stays_shared : {laws : Laws} {X : Type 0} {g : Ghosts X} (net : SharedNet X) (before now : NetSeat X g) → IsShared laws net before → IsSeatOf net now → (view_of now).work ≡ (view_of before).work
    → Keeps (view_of before) (view_of now) → StaysShared laws net before now
stays_shared {laws} net before now h of same keeps = record { shared = stays_free net before now h of same; portion = keeps.portion }

pub stays_itself : {laws : Laws} {X : Type 0} {g : Ghosts X} (net : SharedNet X) (seat : NetSeat X g) → IsShared laws net seat → StaysShared laws net seat seat
stays_itself {laws} net seat h = record { shared = h; portion = refl }

-- a work that was handed out

node_there : {laws : Laws} (job : LoggedJob laws) (work : WorkView) → LawfulWork job work → work.node < length job.job.plan.nodes
unfolding LawfulWork
node_there {laws} job work lawful = slice_get_within job.job.plan.nodes work.node lawful.node lawful.there

node_within : {laws : Laws} (key : LayoutView) (work : WorkView) → FitsSome laws key → ((job : LoggedJob laws) → Fits job key → LawfulWork job work) → work.node < nodes_in key
node_within {laws} key work some lawful = subst (λ (p : Plan). work.node < length p.nodes) some.fits.plan (node_there some.job work (lawful some.job some.fits))

pub is_lawful : {laws : Laws} {X : Type 0} (key : LayoutView) (answer : Claimed X) (work : WorkView) → answer ≡ Work work → ((job : LoggedJob laws) → Fits job key → IsLawfulWork job answer)
    → (job : LoggedJob laws) → Fits job key → LawfulWork job work
is_lawful {laws} {X} key result work is lawful job fits = subst (λ (a : Claimed X). IsLawfulWork job a) is (lawful job fits)

-- a seat that claimed a work has the work
pub has_claimed : {laws : Laws} {X : Type 0} {g : Ghosts X} (net : SharedNet X) (before now : NetSeat X g) (answer : Claimed X) (work : WorkView) (node : ℕ) → IsShared laws net before → IsSeatOf net now
    → answer ≡ Work work → HasClaimed laws answer node (view_of before) (view_of now) → ((job : LoggedJob laws) → Fits job (key_of net) → IsLawfulWork job answer) → IsSharedWith laws net now work
has_claimed {laws} {X} net before now result work node h of is tried lawful = record {
  of = of;
  some = h.some;
  edges = h.edges;
  has = record {
    it = work;
    there = ap (λ (v : View). v.work) tried.left ∙ ap (λ (a : Claimed X). has_after a (view_of before).work) is;
    node = refl;
    number = refl;
    phase = refl;
  };
  node = node_within (key_of net) work h.some (is_lawful (key_of net) result work is lawful);
}

-- a seat whose claim gave no work has no work
pub has_none : {laws : Laws} {X : Type 0} {g : Ghosts X} (net : SharedNet X) (before now : NetSeat X g) (answer : Claimed X) (node : ℕ) → IsShared laws net before → IsSeatOf net now
    → has_after answer (view_of before).work ≡ (view_of before).work → HasClaimed laws answer node (view_of before) (view_of now) → IsShared laws net now
has_none {laws} net before now result node h of same tried = stays_free net before now h of (ap (λ (v : View). v.work) tried.left ∙ same)
