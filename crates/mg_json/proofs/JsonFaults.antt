-- The first fault of a list or an object, by the part of it that isn't read yet.
use Rattle.std.proofs.Common.{◌≡◌, ℕ, suc, ◌+◌, ◌<◌, ◌≤◌, length, drop, get_or, List, [], ◌∷◌, ◌++◌, Bool, false, Some, nat_lt, if◌then◌else◌, refl, sym, ap, ◌∙◌, arith}
use Rattle.std.proofs.Math.Seq.{drop-cons}
use Rattle.serde_json.specs.View.{view, items_view, members_view}
use Rattle.serde_json.specs.declared.value.Value.{Value}
use Rattle.mg_json.specs.declared.value_fault.ValueFault.{ValueFault}
use Rattle.mg_json.specs.declared.value_fault.ValueFault.TheVariants.{TooDeep}
use Rattle.mg_json.specs.Json.{depth_faults, faults_at, items_faults, members_faults, first}
use Rattle.mg_json.proofs.JsonLists.{Member}

pub not_too_deep : (depth : ℕ) (faults : List ValueFault) → depth ≤ 16 → depth_faults depth ++ faults ≡ faults
not_too_deep depth faults h = at (nat_lt 16 depth) (let e : nat_lt 16 depth ≡ false = grind arith in e)
  where
    at : (b : Bool) → b ≡ false → (if b then TooDeep ∷ [] else []) ++ faults ≡ faults
    at b e = rw e refl

pub first-append : (faults more : List ValueFault) (fault : ValueFault) → first faults ≡ Some fault → first (faults ++ more) ≡ Some fault
first-append [] more fault e = absurd (cc)
first-append (f ∷ faults) more fault e = e

pub item_fault : (depth : ℕ) (vs : List Value) (i : ℕ) (v : Value) (fault : ValueFault) → depth ≤ 16
    → items_faults (depth + 1) (items_view vs) ≡ items_faults (depth + 1) (items_view (drop i vs)) → i < length vs → v ≡ get_or vs i v
    → first (faults_at (depth + 1) (view v)) ≡ Some fault → first (depth_faults depth ++ items_faults (depth + 1) (items_view vs)) ≡ Some fault
item_fault depth vs i v fault h same within is e =
    ap first (not_too_deep depth _ h ∙ same ∙ ap (λ ws. items_faults (depth + 1) (items_view ws)) (drop-cons vs i v within ∙ ap (λ w. w ∷ drop (suc i) vs) (sym is)))
    ∙ first-append (faults_at (depth + 1) (view v)) (items_faults (depth + 1) (items_view (drop (suc i) vs))) fault e

pub member_fault : (depth : ℕ) (ms left rest : List Member) (m : Member) (fault : ValueFault) → depth ≤ 16
    → members_faults (depth + 1) (members_view ms) ≡ members_faults (depth + 1) (members_view left) → left ≡ m ∷ rest
    → first (faults_at (depth + 1) (view m.1)) ≡ Some fault → first (depth_faults depth ++ members_faults (depth + 1) (members_view ms)) ≡ Some fault
member_fault depth ms left rest m fault h same is e =
    ap first (not_too_deep depth _ h ∙ same ∙ ap (λ ws. members_faults (depth + 1) (members_view ws)) is)
    ∙ first-append (faults_at (depth + 1) (view m.1)) (members_faults (depth + 1) (members_view rest)) fault e

-- if a member has no fault, the faults are those of the members after it
pub member_passed : (depth : ℕ) (ms left rest : List Member) (m : Member)
    → members_faults depth (members_view ms) ≡ members_faults depth (members_view left) → left ≡ m ∷ rest
    → faults_at depth (view m.1) ≡ [] → members_faults depth (members_view ms) ≡ members_faults depth (members_view rest)
member_passed depth ms left rest m same is e =
    same ∙ ap (λ ws. members_faults depth (members_view ws)) is ∙ ap (λ faults. faults ++ members_faults depth (members_view rest)) e
