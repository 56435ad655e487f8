-- The ends and the items of batches, gathered again: each batch comes out as the list of its images, at its own time, if that list goes
-- on.
use Rattle.std.proofs.Common.{◌≡◌, ℕ, ◌+◌, ◌<◌, ◌≤◌, ℤ, pos, negsuc, nat_le, Bool, true, false, ◌⊎◌, inl, inr, List, [], ◌∷◌, ◌++◌, map, length, Option, Some, None, option_map, refl, ap, ap₂, subst, ◌∙◌, sym, arith, le-leb}
use Rattle.std.specs.List.{filter_map, cons_option, AllByRecursion}
use Rattle.std.specs.Option.{option_to_list}
use Rattle.std.proofs.lemmas.Int.{ints}
use Rattle.std.proofs.lemmas.Bool.Decides.{nat_tests}
use Rattle.std.proofs.lemmas.List.Elements.{filter_map-append}
use Rattle.mg_time.specs.Time.{raw_of, place_of}
use Rattle.mg_value.specs.Plain.{Plain, int}
use Rattle.mg_value.specs.Packet.{Stamped}
use Rattle.mg_settled.specs.Settled.{packet_at}
use Rattle.mg_calc.specs.declared.plan_node.PlanNode.{PlanNode}
use Rattle.mg_calc.specs.Values.{items_in}
use Rattle.mg_calc.specs.Batch.{inner_time, at_inner_times, last_inner}
use Rattle.mg_batch.specs.Loop.{images, list_of_images, list_of_some_images}
use Rattle.mg_batch.proofs.InnerRuns.{images_of}
use Rattle.mg_batch.proofs.BeginRuns.{batch_at, ends_from, items_from}
use Rattle.mg_batch.proofs.EndRuns.{values, up_to, beyond, sent, list_at, gathers}
use Rattle.mg_batch.proofs.SetsOf.{found_at}

-- packets before a time, and from it on
abbrev Before : ℕ → List (Stamped Plain) → Type 0
Before t ps = AllByRecursion (λ p. p.at < t) ps

abbrev From : ℕ → List (Stamped Plain) → Type 0
From t ps = AllByRecursion (λ p. t ≤ p.at) ps

place_is : (z : ℤ) (u : ℕ) → z ≡ raw_of u → place_of z ≡ u
place_is (pos n) u e = omega (arith, ints)
place_is (negsuc n) u e = omega (arith, ints)

-- images keep times
image_before : (nodes : List PlanNode) (t : ℕ) (ps : List (Stamped Plain)) → Before t ps → Before t (filter_map (images_of nodes) ps)
image_before nodes t [] h = tt
image_before nodes t (p ∷ ps) h = by (images nodes p.value) (image_before nodes t ps h.1)
  where
    by : (o : Option Plain) → Before t (filter_map (images_of nodes) ps) → Before t (cons_option (option_map (λ v. record { at = p.at; value = v }) o) (filter_map (images_of nodes) ps))
    by None rest = rest
    by (Some v) rest = (h.0, rest)

image_from : (nodes : List PlanNode) (t : ℕ) (ps : List (Stamped Plain)) → From t ps → From t (filter_map (images_of nodes) ps)
image_from nodes t [] h = tt
image_from nodes t (p ∷ ps) h = by (images nodes p.value) (image_from nodes t ps h.1)
  where
    by : (o : Option Plain) → From t (filter_map (images_of nodes) ps) → From t (cons_option (option_map (λ v. record { at = p.at; value = v }) o) (filter_map (images_of nodes) ps))
    by None rest = rest
    by (Some v) rest = (h.0, rest)

-- the inner times of a list
inner_before : (c n : ℕ) (vs : List Plain) → c + length vs ≤ n → Before (inner_time n) (at_inner_times c vs)
inner_before c n [] le = tt
inner_before c n (v ∷ vs) le = (omega (arith, le), inner_before (c + 1) n vs (omega (arith, le)))

inner_from : (a c : ℕ) (vs : List Plain) → a ≤ c → From (inner_time a) (at_inner_times c vs)
inner_from a c [] le = tt
inner_from a c (v ∷ vs) le = (omega (arith, le), inner_from a (c + 1) vs (omega (arith, le)))

both_from : (t : ℕ) (xs ys : List (Stamped Plain)) → From t xs → From t ys → From t (xs ++ ys)
both_from t [] ys h k = k
both_from t (x ∷ xs) ys h k = (h.0, both_from t xs ys h.1 k)

items_above : (a c : ℕ) (bs : List (Stamped (List Plain))) → a ≤ c → From (inner_time a) (items_from c bs)
items_above a c [] le = tt
items_above a c (b ∷ bs) le =
    both_from (inner_time a) (at_inner_times c b.value) (items_from (last_inner c (length b.value) + 1) bs) (inner_from a c b.value le)
    (items_above a (last_inner c (length b.value) + 1) bs (omega (arith, le)))

-- the packets of one list are up to its end, and all other packets beyond
cut_here : (t : ℕ) (ps : List (Stamped Plain)) → From (t + 1) ps → (up_to t ps ≡ []) × (beyond t ps ≡ ps)
cut_here t [] h = (refl, refl)
cut_here t (p ∷ ps) h = (let no : nat_le p.at t ≡ false = grind (arith, nat_tests, h.0) in rw no (refl, refl))

cut : (t : ℕ) (xs ys : List (Stamped Plain)) → Before (t + 1) xs → From (t + 1) ys → (up_to t (xs ++ ys) ≡ xs) × (beyond t (xs ++ ys) ≡ ys)
cut t [] ys h k = cut_here t ys k
cut t (x ∷ xs) ys h k =
    let rest = cut t xs ys h.1 k in
    rw (le-leb x.at t (omega (arith, h.0))) (ap (λ (zs : List (Stamped Plain)). x ∷ zs) rest.0, rest.1)

-- the payloads of the images
values_of : (nodes : List PlanNode) (c : ℕ) (vs : List Plain) → values (filter_map (images_of nodes) (at_inner_times c vs)) ≡ filter_map (images nodes) vs
values_of nodes c [] = refl
values_of nodes c (v ∷ vs) = by (images nodes v) (values_of nodes (c + 1) vs)
  where
    by : (o : Option Plain) → values (filter_map (images_of nodes) (at_inner_times (c + 1) vs)) ≡ filter_map (images nodes) vs
        → values (cons_option (option_map (λ w. record { at = inner_time c; value = w }) o) (filter_map (images_of nodes) (at_inner_times (c + 1) vs))) ≡ cons_option o (filter_map (images nodes) vs)
    by None rest = rest
    by (Some w) rest = ap (λ (ws : List Plain). w ∷ ws) rest

-- what goes on of a batch
abbrev pub of_batch : Bool → List PlanNode → Stamped (List Plain) → Option (Stamped Plain)
of_batch form nodes b = sent form b.at (filter_map (images nodes) b.value)

cons_is : (o : Option (Stamped Plain)) (ps : List (Stamped Plain)) → option_to_list o ++ ps ≡ cons_option o ps
cons_is None ps = refl
cons_is (Some p) ps = refl

pub gathered_again : (form : Bool) (nodes : List PlanNode) (c : ℕ) (bs : List (Stamped (List Plain))) → gathers form [] (ends_from c bs) (filter_map (images_of nodes) (items_from c bs)) ≡ filter_map (of_batch form nodes) bs
gathered_again form nodes c [] = refl
gathered_again form nodes c (b ∷ bs) =
    let vs = b.value in
    let last = last_inner c (length vs) in
    let xs : List (Stamped Plain) = filter_map (images_of nodes) (at_inner_times c vs) in
    let ys : List (Stamped Plain) = filter_map (images_of nodes) (items_from (last + 1) bs) in
    let end : Stamped Plain = record { at = inner_time last; value = int (raw_of b.at) } in
    let parts : filter_map (images_of nodes) (items_from c (b ∷ bs)) ≡ xs ++ ys = filter_map-append (images_of nodes) (at_inner_times c vs) (items_from (last + 1) bs) in
    let cuts = cut (inner_time last) xs ys
    (subst (λ (t : ℕ). Before t xs) (inner_next last) (image_before nodes (inner_time (last + 1)) (at_inner_times c vs) (inner_before c (last + 1) vs (omega arith))))
    (subst (λ (t : ℕ). From t ys) (inner_next last) (image_from nodes (inner_time (last + 1)) (items_from (last + 1) bs) (items_above (last + 1) (last + 1) bs (omega arith)))) in
    ap (λ (zs : List (Stamped Plain)). gathers form [] (end ∷ ends_from (last + 1) bs) zs) parts
    ∙ ap₂ (λ (us ws : List (Stamped Plain)). list_at form (values us) end ++ gathers form [] (ends_from (last + 1) bs) ws) cuts.0 cuts.1
    ∙ ap₂ (λ (l ls : List (Stamped Plain)). l ++ ls)
    (ap₂ (λ (t : ℕ) (ws : List Plain). option_to_list (sent form t ws)) (place_is (raw_of b.at) b.at refl) (values_of nodes c vs))
    (gathered_again form nodes (last + 1) bs)
    ∙ cons_is (of_batch form nodes b) (filter_map (of_batch form nodes) bs)
  where
    inner_next : (n : ℕ) → inner_time (n + 1) ≡ inner_time n + 1
    inner_next n = omega arith

-- the batches of the packets of a stream at times, as their lists. Of what isn't of a packet nothing goes on.
abbrev pub listed_batch : Stamped Plain → Stamped (List Plain)
listed_batch p = record { at = p.at; value = items_in p.value }

abbrev pub IsSilent : Bool → Bool → Type 0
IsSilent always_end form = (always_end ≡ false) ⊎ (form ≡ true)

none_goes : (always_end form : Bool) (nodes : List PlanNode) (u : ℕ) (rest : List (Stamped (List Plain))) → IsSilent always_end form
    → filter_map (of_batch form nodes) (cons_option (batch_at always_end u None) rest) ≡ filter_map (of_batch form nodes) rest
none_goes false form nodes u rest silent = refl
none_goes true false nodes u rest (inl never) = absurd cc
none_goes true false nodes u rest (inr never) = absurd cc
none_goes true true nodes u rest silent = refl

one_goes : (form : Bool) (nodes : List PlanNode) (u : ℕ) (p : Stamped Plain) (rest : List (Stamped (List Plain))) (after : List (Stamped Plain)) → p.at ≡ u → filter_map (of_batch form nodes) rest ≡ after
    → filter_map (of_batch form nodes) (record { at = u; value = items_in p.value } ∷ rest) ≡ cons_option (of_batch form nodes (listed_batch p)) after
one_goes form nodes u p rest after at is = ap₂ (λ (t : ℕ) (ps : List (Stamped Plain)). cons_option (sent form t (filter_map (images nodes) (items_in p.value))) ps) (sym at) is

pub of_lists : (always_end form : Bool) (nodes : List PlanNode) (ps : List (Stamped Plain)) (us : List ℕ) → IsSilent always_end form
    → filter_map (of_batch form nodes) (filter_map (λ t. batch_at always_end t (packet_at t ps)) us) ≡ filter_map (λ p. of_batch form nodes (listed_batch p)) (filter_map (λ t. packet_at t ps) us)
of_lists always_end form nodes ps [] silent = refl
of_lists always_end form nodes ps (u ∷ us) silent = by (packet_at u ps) (λ p e. found_at u ps p e) (of_lists always_end form nodes ps us silent)
  where
    rest : List (Stamped (List Plain))
    rest = filter_map (λ t. batch_at always_end t (packet_at t ps)) us

    more : List (Stamped Plain)
    more = filter_map (λ t. packet_at t ps) us

    by : (o : Option (Stamped Plain)) → ((p : Stamped Plain) → o ≡ Some p → p.at ≡ u) → filter_map (of_batch form nodes) rest ≡ filter_map (λ p. of_batch form nodes (listed_batch p)) more
        → filter_map (of_batch form nodes) (cons_option (batch_at always_end u o) rest) ≡ filter_map (λ p. of_batch form nodes (listed_batch p)) (cons_option o more)
    by None at is = none_goes always_end form nodes u rest silent ∙ is
    by (Some p) at is = one_goes form nodes u p rest (filter_map (λ p. of_batch form nodes (listed_batch p)) more) (at p refl) is

pub all_lists : (nodes : List PlanNode) (ps : List (Stamped Plain)) → filter_map (λ p. of_batch false nodes (listed_batch p)) ps ≡ map (list_of_images nodes) ps
all_lists nodes [] = refl
all_lists nodes (p ∷ ps) = ap (λ (qs : List (Stamped Plain)). list_of_images nodes p ∷ qs) (all_lists nodes ps)

pub some_lists : (nodes : List PlanNode) (ps : List (Stamped Plain)) → filter_map (λ p. of_batch true nodes (listed_batch p)) ps ≡ filter_map (list_of_some_images nodes) ps
some_lists nodes [] = refl
some_lists nodes (p ∷ ps) = ap (cons_option (list_of_some_images nodes p)) (some_lists nodes ps)
