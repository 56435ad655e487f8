-- What is left when the first settled sets under Mux are claimed.
use Rattle.std.proofs.Common.{◌≡◌, ℕ, zero, suc, ◌+◌, ◌-◌, ◌<◌, ◌≤◌, min, Bool, true, false, inl, inr, List, [], ◌∷◌, map, take, drop, length, All, Option, set, ap, ap₂, sym, refl, ◌∙◌, arith, ltb, eq-eqb}
use mathlib.Core.Path.{fun_ext}
use Rattle.std.specs.List.{AllByRecursion, prefix_len, take_while}
use Rattle.std.proofs.lemmas.Bool.{cases_lt}
use Rattle.std.proofs.lemmas.List.{drop-map, drop-drop, take-take, take_min, drop_min, length-map, length-drop, get_or_past}
use Rattle.std.proofs.lemmas.List.Elements.{All-from_recursion, recursion_from_All, All-weaker}
use Rattle.std.proofs.lemmas.List.Folds.{length-prefix_len}
use Rattle.mg_value.specs.Payload.{Plain}
use Rattle.mg_value.specs.declared.policy.Policy.TheVariants.{Mux}
use Rattle.mg_value.specs.Packet.{Stamped}
use Rattle.mg_settled.specs.Prefix.{StreamPrefix, IsPrefix, first_time, closed, empty_prefix}
use Rattle.mg_settled.specs.Settled.{TimedSet, times_of, packet_at, port_of, select_of, selected, is_settled, settled_selects, select_alone, settled_sets, reach}
use Rattle.mg_settled.specs.Left.{set_times, goes}
use Rattle.mg_settled.proofs.Times.{In, Rises, take-below-drop}
use Rattle.mg_settled.proofs.Leaving.{left_of, left_of-first, each-packet, times-take, times-drop}
use Rattle.mg_settled.proofs.Going.{goes-here, goes-above}
use Rattle.mg_settled.proofs.Climbs.{prefix-rises}
use Rattle.mg_settled.proofs.Fronts.{take_while-drop}
use Rattle.mg_settled.proofs.Ports.{select-prefix, same_by}
use Rattle.mg_settled.proofs.MuxSets.{set_of, mux_times, mux_times-rise, length-mux_sets}
use Rattle.mg_settled.proofs.Leaves.{AllLeave}

-- fewer packets, of SELECT without the first, and with the same at the times of the packets of SELECT that are left
record IsThinned (k : ℕ) (ss rs : List (StreamPrefix Plain)) : Type 0 where
  ports : length rs ≡ length ss
  bounds : (i : ℕ) → (port_of rs i).bound ≡ (port_of ss i).bound
  select : (select_of rs).packets ≡ drop k (select_of ss).packets
  finds : (t : ℕ) → In t (times_of (drop k (settled_selects ss))) → (i : ℕ) → packet_at t (port_of rs i).packets ≡ packet_at t (port_of ss i).packets

same_settled : (k : ℕ) (ss rs : List (StreamPrefix Plain)) → IsThinned k ss rs → (p : Stamped Plain) → is_settled rs p ≡ is_settled ss p
same_settled k ss rs h p = rw h.ports
    (same_by (selected (length ss) p.value) (λ i. ltb p.at (port_of rs i).bound) (λ i. ltb p.at (port_of ss i).bound) true (λ i. ap (ltb p.at) (h.bounds i)))

select_bound : (k : ℕ) (ss rs : List (StreamPrefix Plain)) → IsThinned k ss rs → (select_of rs).bound ≡ (select_of ss).bound
select_bound k ss rs h = h.bounds (length rs - 1) ∙ ap (λ (n : ℕ). (port_of ss (n - 1)).bound) h.ports

selects-left : (k : ℕ) (ss rs : List (StreamPrefix Plain)) → k ≤ prefix_len (is_settled ss) (select_of ss).packets → IsThinned k ss rs → settled_selects rs ≡ drop k (settled_selects ss)
selects-left k ss rs few h =
    ap (λ (f : Stamped Plain → Bool). take_while f (select_of rs).packets) (fun_ext (same_settled k ss rs h))
    ∙ ap (λ (ps : List (Stamped Plain)). take_while (is_settled ss) ps) h.select
    ∙ take_while-drop (is_settled ss) k (select_of ss).packets few

map_agree_all : {X Y : Type 0} (f g : X → Y) (xs : List X) → AllByRecursion (λ x. f x ≡ g x) xs → map f xs ≡ map g xs
map_agree_all f g [] same = refl
map_agree_all {X} {Y} f g (x ∷ xs) same = ap₂ (λ (first : Y) (rest : List Y). first ∷ rest) same.0 (map_agree_all f g xs same.1)

thinned-sets : (k : ℕ) (ss rs : List (StreamPrefix Plain)) → k ≤ prefix_len (is_settled ss) (select_of ss).packets → IsThinned k ss rs → settled_sets Mux rs ≡ drop k (settled_sets Mux ss)
thinned-sets k ss rs few h =
    let left = drop k (settled_selects ss) in
    let Finds : ℕ → Type 0 = λ t. (i : ℕ) → packet_at t (port_of rs i).packets ≡ packet_at t (port_of ss i).packets in
    let finds : All (λ (p : Stamped Plain). Finds p.at) left = All-from_recursion (λ (p : Stamped Plain). Finds p.at) left (each-packet Finds left h.finds) in
    let same : (p : Stamped Plain) → Finds p.at → set_of rs p ≡ set_of ss p = λ p found. rw h.ports
    (ap (λ (set : List (Option (Stamped Plain))). (let it : TimedSet Plain = record { at = p.at; set = set } in it))
    (same_by (selected (length ss) p.value) (λ i. set (select_alone ss p) i (packet_at p.at (port_of rs i).packets)) (λ i. set (select_alone ss p) i (packet_at p.at (port_of ss i).packets)) (select_alone ss p)
    (λ i. ap (λ (o : Option (Stamped Plain)). set (select_alone ss p) i o) (found i)))) in
    ap (λ (ps : List (Stamped Plain)). map (set_of rs) ps) (selects-left k ss rs few h)
    ∙ map_agree_all (set_of rs) (set_of ss) left (recursion_from_All (λ (p : Stamped Plain). set_of rs p ≡ set_of ss p) left (All-weaker (λ (p : Stamped Plain). Finds p.at) (λ (p : Stamped Plain). set_of rs p ≡ set_of ss p) same left finds))
    ∙ sym (drop-map (set_of ss) k (settled_selects ss))

thinned-reach : (k : ℕ) (ss rs : List (StreamPrefix Plain)) → k ≤ prefix_len (is_settled ss) (select_of ss).packets → IsThinned k ss rs → reach Mux rs ≡ reach Mux ss
thinned-reach k ss rs few h =
    let xs = (select_of ss).packets in
    let n = length (settled_selects ss) in
    let m = length (settled_selects rs) in
    let sum : k + m ≡ n = omega (arith, few, ap length (selects-left k ss rs few h), length-drop k (settled_selects ss), length-prefix_len (is_settled ss) xs) in
    ap₂ (λ (ps : List (Stamped Plain)) (b : ℕ). first_time (drop m ps) b) h.select (select_bound k ss rs h)
    ∙ ap (λ (ps : List (Stamped Plain)). first_time ps (select_of ss).bound) (drop-drop m k xs ∙ ap (λ (j : ℕ). drop j xs) sum)

-- the times of the first sets are those of as many packets of SELECT
first_times : (k : ℕ) (ss : List (StreamPrefix Plain)) → k ≤ prefix_len (is_settled ss) (select_of ss).packets → take k (set_times Mux ss) ≡ times_of (take k (select_of ss).packets)
first_times k ss few =
    ap (λ (ts : List ℕ). take k ts) (mux_times ss)
    ∙ sym (times-take k (settled_selects ss))
    ∙ ap (λ (ps : List (Stamped Plain)). times_of ps) (take-take k (prefix_len (is_settled ss) (select_of ss).packets) (select_of ss).packets few)

-- the packets of SELECT that go are the first
pub selects-go : (k : ℕ) (ss : List (StreamPrefix Plain)) → All IsPrefix ss → k ≤ prefix_len (is_settled ss) (select_of ss).packets → left_of (goes Mux (take k (set_times Mux ss))) (select_of ss).packets ≡ drop k (select_of ss).packets
selects-go k ss h few =
    let xs = (select_of ss).packets in
    let ts = times_of (take k xs) in
    let rises : Rises 0 (times_of xs) = prefix-rises (select_of ss) (select-prefix ss h) in
    rw (first_times k ss few)
    (left_of-first (goes Mux ts) k xs
    (each-packet (λ t. goes Mux ts t ≡ true) (take k xs) (λ t i. goes-here Mux ts t i))
    (each-packet (λ t. goes Mux ts t ≡ false) (drop k xs) (λ t i. goes-above Mux ts t (λ u j. take-below-drop 0 k u t (times_of xs) rises (rw (← times-take k xs) j) (rw (← times-drop k xs) i)))))

thinned : (k : ℕ) (ss rs : List (StreamPrefix Plain)) → All IsPrefix ss → k ≤ prefix_len (is_settled ss) (select_of ss).packets → AllLeave Mux (goes Mux (take k (set_times Mux ss))) ss rs → IsThinned k ss rs
thinned k ss rs h few left = record {
  ports = left.ports;
  bounds = λ i. elim (cases_lt i (length ss)) [
    | inl there ↦ (left.each i there).bound
    | inr past ↦ rw (get_or_past ss i (closed empty_prefix) past, get_or_past rs i (closed empty_prefix) (past_too i past)) refl
  ];
  select = elim (cases_lt 0 (length ss)) [
    | inl some ↦
        (let last : length ss - 1 < length ss = omega (arith, some) in
        rw left.ports ((left.each (length ss - 1) last).rest (eq-eqb (length ss - 1 + 1) (length ss) (omega (arith, some))) ∙ selects-go k ss h few))
    | inr none ↦ rw (left.ports, get_or_past ss (length ss - 1) (closed empty_prefix) (omega (arith, none)), get_or_past rs (length ss - 1) (closed empty_prefix) (past_too (length ss - 1) (omega (arith, none)))) (sym (nothing k))
  ];
  finds = λ t i j. elim (cases_lt j (length ss)) [
    | inl there ↦ (left.each j there).finds t (stays t i)
    | inr past ↦ rw (get_or_past ss j (closed empty_prefix) past, get_or_past rs j (closed empty_prefix) (past_too j past)) refl
  ];
}
  where
    past_too : (i : ℕ) → length ss ≤ i → length rs ≤ i
    past_too i past = let same = left.ports in omega (arith, past, same)

    nothing : (n : ℕ) → drop {A = Stamped Plain} n [] ≡ []
    nothing zero = refl
    nothing (suc n) = refl

    stays : (t : ℕ) → In t (times_of (drop k (settled_selects ss))) → goes Mux (take k (set_times Mux ss)) t ≡ false
    stays t i = goes-above Mux (take k (set_times Mux ss)) t (λ u j. take-below-drop 0 k u t (set_times Mux ss) (mux_times-rise ss h) j (rw (mux_times ss, ← times-drop k (settled_selects ss)) i))

-- also if more sets are counted than there are
fewer : (k : ℕ) (ss rs : List (StreamPrefix Plain)) → AllLeave Mux (goes Mux (take k (set_times Mux ss))) ss rs → AllLeave Mux (goes Mux (take (min k (length (set_times Mux ss))) (set_times Mux ss))) ss rs
fewer k ss rs left = rw (take_min k (set_times Mux ss)) left

few_enough : (k : ℕ) (ss : List (StreamPrefix Plain)) → min k (length (set_times Mux ss)) ≤ prefix_len (is_settled ss) (select_of ss).packets
few_enough k ss = omega (arith, length-map (settled_sets Mux ss) (λ e. e.at), length-mux_sets ss)

pub mux_sets-left : (k : ℕ) (ss rs : List (StreamPrefix Plain)) → All IsPrefix ss → AllLeave Mux (goes Mux (take k (set_times Mux ss))) ss rs → settled_sets Mux rs ≡ drop k (settled_sets Mux ss)
mux_sets-left k ss rs h left =
    let few = min k (length (set_times Mux ss)) in
    thinned-sets few ss rs (few_enough k ss) (thinned few ss rs h (few_enough k ss) (fewer k ss rs left))
    ∙ ap (λ (n : ℕ). drop (min k n) (settled_sets Mux ss)) (length-map (settled_sets Mux ss) (λ e. e.at))
    ∙ drop_min k (settled_sets Mux ss)

pub mux_reach-left : (k : ℕ) (ss rs : List (StreamPrefix Plain)) → All IsPrefix ss → AllLeave Mux (goes Mux (take k (set_times Mux ss))) ss rs → reach Mux rs ≡ reach Mux ss
mux_reach-left k ss rs h left =
    let few = min k (length (set_times Mux ss)) in
    thinned-reach few ss rs (few_enough k ss) (thinned few ss rs h (few_enough k ss) (fewer k ss rs left))
