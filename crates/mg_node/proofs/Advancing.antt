-- How outputs are raised, one after the other.
use Rattle.std.proofs.Common.{◌≡◌, ℕ, ℤ, ◌+◌, ◌<◌, ◌≤◌, Bool, true, false, nat_lt, List, [], ◌∷◌, ◌++◌, length, take, drop, get_or, set, map, Option, Some, None, refl, ap, sym, ◌∙◌, arith, if◌then◌else◌}
use Rattle.std.proofs.Math.Seq.{take-append_seam}
use Rattle.std.proofs.lemmas.List.{drop_more, drop_all}
use Rattle.mg_value.specs.Payload.{Plain}
use Rattle.mg_stream.specs.Queue.{Waiting, raised_to}
use Rattle.mg_stream.specs.Pool.{Backlog, backlog_of}
use Rattle.mg_node.specs.declared.role.Role.{Role}
use Rattle.mg_node.specs.declared.role.Role.TheVariants.{Input, Source, Loop, Sets}
use Rattle.mg_node.specs.declared.pending.Pending.{Pending}
use Rattle.mg_node.specs.Views.{EntryView, EngineView}
use Rattle.mg_node.specs.Advances.{any_moved, until_phase, until_claimed, raised_by, never_raised, advance_bound, raised_output, advanced}
use Rattle.mg_node.specs.Ports.{horizon_of}
use Rattle.mg_node.specs.Windows.{has_ended}
use Rattle.mg_node.proofs.Giving.{with_outputs}

pub moved_here : (qs : List (Waiting Plain)) (i bound : ℕ) (q : Waiting Plain) → i < length qs → q ≡ get_or qs i q → nat_lt q.bound bound ≡ true → any_moved bound (map backlog_of (drop i qs)) ≡ true
moved_here qs i bound q there is below =
    let here : nat_lt (get_or qs i q).bound bound ≡ true = ap (λ (x : Waiting Plain). nat_lt x.bound bound) (sym is) ∙ below in
    ap (λ (l : List (Waiting Plain)). any_moved bound (map backlog_of l)) (drop_more qs i q there)
    ∙ ap (λ (b : Bool). if b then true else any_moved bound (map backlog_of (drop (i + 1) qs))) here

pub moved_next : (qs : List (Waiting Plain)) (i bound : ℕ) (q : Waiting Plain) → i < length qs → q ≡ get_or qs i q → nat_lt q.bound bound ≡ false → any_moved bound (map backlog_of (drop (i + 1) qs)) ≡ any_moved bound (map backlog_of (drop i qs))
moved_next qs i bound q there is below =
    let here : nat_lt (get_or qs i q).bound bound ≡ false = ap (λ (x : Waiting Plain). nat_lt x.bound bound) (sym is) ∙ below in
    sym (ap (λ (l : List (Waiting Plain)). any_moved bound (map backlog_of l)) (drop_more qs i q there)
    ∙ ap (λ (b : Bool). if b then true else any_moved bound (map backlog_of (drop (i + 1) qs))) here)

pub moved_none : (qs : List (Waiting Plain)) (i bound : ℕ) → length qs ≤ i → any_moved bound (map backlog_of (drop i qs)) ≡ false
moved_none qs i bound end = ap (λ (l : List (Waiting Plain)). any_moved bound (map backlog_of l)) (drop_all i qs end)

-- a list of one element, mapped in its place
pub only_mapped : {X : Type 0} (f : X → X) (xs : List X) (x : X) → length xs ≡ 1 → set xs 0 (f (get_or xs 0 x)) ≡ map f xs
only_mapped f [] x one = absurd (omega (arith, one))
only_mapped f (y ∷ []) x one = refl
only_mapped f (y ∷ z ∷ ys) x one = absurd (omega (arith, one))

-- the first entry of a window
pub until_first : (entries : List EntryView) (x : EntryView) (t : ℕ) → 0 < length entries → x ≡ get_or entries 0 x → until_claimed entries t ≡ until_phase x.phase t
until_first [] x t some is = absurd (omega (arith, some))
until_first (e ∷ entries) x t some is = ap (λ (y : EntryView). until_phase y.phase t) (sym is)

pub until_none : (entries : List EntryView) (t : ℕ) → entries ≡ [] → until_claimed entries t ≡ t
until_none entries t none = ap (λ (es : List EntryView). until_claimed es t) none

-- outputs that are raised, or not
pub raised_none : (outputs : List (Backlog Plain)) → map (raised_output None) outputs ≡ outputs
raised_none [] = refl
raised_none (output ∷ outputs) = ap (λ (l : List (Backlog Plain)). output ∷ l) (raised_none outputs)

raised_some : (qs : List (Waiting Plain)) (b : ℕ) → map backlog_of (map (λ q. raised_to q b) qs) ≡ map (raised_output (Some b)) (map backlog_of qs)
raised_some [] b = refl
raised_some (q ∷ qs) b = ap (λ (l : List (Backlog Plain)). backlog_of (raised_to q b) ∷ l) (raised_some qs b)

pub none_advanced : (e : EngineView) (w : Pending) → advance_bound e w ≡ None → e ≡ advanced e w
none_advanced e w none =
    sym (ap (λ (o : Option ℕ). with_outputs e (map (raised_output o) e.outputs)) none ∙ ap (with_outputs e) (raised_none e.outputs))

-- outputs that are never raised
never_by : (role : Role) (offset : Option ℤ) (t : ℕ) → never_raised role offset ≡ true → raised_by role offset t ≡ None
never_by Loop offset t never = absurd cc
never_by Input None t never = refl
never_by Input (Some offset) t never = absurd cc
never_by (Source calls) None t never = refl
never_by (Source calls) (Some offset) t never = absurd cc
never_by Sets None t never = refl
never_by Sets (Some offset) t never = absurd cc

pub never_advanced : (e : EngineView) (w : Pending) → has_ended e ≡ false → never_raised e.role e.offset ≡ true → None ≡ advance_bound e w
never_advanced e w goes never =
    sym (ap (λ (b : Bool). if b then None else raised_by e.role e.offset (until_claimed e.window (horizon_of w))) goes ∙ never_by e.role e.offset (until_claimed e.window (horizon_of w)) never)

-- what a function leaves of a vector's elements is all of them, if it keeps their number
pub whole : {X : Type 0} (n : ℕ) (old new : List X) → n ≡ length old → length new ≡ length old → take n (new ++ drop (length new) old) ≡ new
whole {X} n old new long kept = ap (λ (k : ℕ). take k (new ++ drop (length new) old)) (long ∙ sym kept) ∙ take-append_seam new (drop (length new) old)

pub some_advanced : (e : EngineView) (w : Pending) (b : ℕ) (qs new : List (Waiting Plain)) → map backlog_of qs ≡ e.outputs → advance_bound e w ≡ Some b → new ≡ map (λ q. raised_to q b) qs → with_outputs e (map backlog_of new) ≡ advanced e w
some_advanced e w b qs new before some is =
    ap (λ (l : List (Waiting Plain)). with_outputs e (map backlog_of l)) is ∙ ap (with_outputs e) (raised_some qs b)
    ∙ ap (λ (l : List (Backlog Plain)). with_outputs e (map (raised_output (Some b)) l)) before
    ∙ sym (ap (λ (o : Option ℕ). with_outputs e (map (raised_output o) e.outputs)) some)
