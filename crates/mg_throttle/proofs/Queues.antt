-- Queues that stop, and that are relaxed, and how many of them are full.
use Rattle.std.proofs.Common.{◌≡◌, ◌≢◌, ℕ, ◌+◌, ◌<◌, ◌≤◌, suc, Bool, true, false, cond, eqb, List, [], ◌∷◌, ◌++◌, length, map, filter, take, drop, get_or, All, ◌∙◌, sym, ap, subst, inl, inr, refl, arith, length-drop}
use Rattle.std.proofs.lemmas.Bool.{cases_lt, ne_eqb, and_right}
use Rattle.std.proofs.lemmas.List.{take-append-drop, get_or-take, get_or-drop, length-take, length-map, length-append, get_or-map, get_or_default, same_lists}
use Rattle.std.proofs.lemmas.List.Elements.{filter-append}
use Rattle.std.proofs.lemmas.List.Sums.{length-filter}
use Rattle.std.specs.Prelude.{count_by}
use Rattle.std.specs.List.Sorted.{IsPartitionPoint}
use Rattle.mg_throttle.specs.declared.queue.Queue.{Queue}
use Rattle.mg_throttle.specs.Throttle.{is_full, stopped}
use Rattle.mg_throttle.specs.Code.Kept.{is_full_at, StopsTo, AreByNode}

-- ---- counting
filter_none : {X : Type 0} (p : X → Bool) (xs : List X) → All (λ x. p x ≡ false) xs → filter p xs ≡ []
filter_none p [] none = refl
filter_none p (x ∷ xs) none =
    let here : p x ≡ false = none 0 x (omega arith) in
    rw here (filter_none p xs (λ k d within. none (suc k) d (omega arith)))

pub count_none : {X : Type 0} (p : X → Bool) (xs : List X) → All (λ x. p x ≡ false) xs → count_by p xs ≡ 0
count_none p xs none = sym (length-filter p xs) ∙ ap length (filter_none p xs none)

count-append : {X : Type 0} (p : X → Bool) (xs ys : List X) → count_by p (xs ++ ys) ≡ count_by p xs + count_by p ys
count-append p xs ys = sym (length-filter p (xs ++ ys)) ∙ ap length (filter-append p xs ys)
    ∙ (let e = length-append (filter p xs) (filter p ys) in omega (arith, e, length-filter p xs, length-filter p ys))

pub count-cons : {X : Type 0} (p : X → Bool) (x : X) (xs : List X) → count_by p (x ∷ xs) ≡ cond (p x) 1 0 + count_by p xs
count-cons p x xs = sym (length-filter p (x ∷ xs)) ∙ go (p x) ∙ ap (λ n. cond (p x) 1 0 + n) (length-filter p xs)
  where
    go : (b : Bool) → length (cond b (x ∷ filter p xs) (filter p xs)) ≡ cond b 1 0 + length (filter p xs)
    go true = omega arith
    go false = omega arith

-- ---- queues that stop
stopped_other : (node : ℕ) (q : Queue) → q.node ≢ node → stopped node q ≡ q
stopped_other node q other = rw (ne_eqb q.node node other) refl

pub StopsTo-start : (node first : ℕ) (queues : List Queue) → IsPartitionPoint (λ q. q.node < node) (λ q. node ≤ q.node) queues first → StopsTo node first queues queues 0
StopsTo-start node first queues point = record {
  len = refl;
  done = λ j d low within. sym (stopped_other node (get_or queues j d) (λ e. let b = point.0 j d (omega arith) low in omega arith));
  rest = λ j d high. refl;
  counted = sym (count_none (is_full_at node) (take first queues)
      (λ k d small. let both = length-take first queues in
      rw (get_or-take first queues k d (omega arith)) (and_right (is_full (get_or queues k d)) (eqb (get_or queues k d).node node)
      (ne_eqb (get_or queues k d).node node (λ e. let b = point.0 k d (omega arith) (omega arith) in omega arith)))));
}

pub StopsTo-all : (node k : ℕ) (old now : List Queue) (full : ℕ) → StopsTo node k old now full
    → ((j : ℕ) (d : Queue) → k ≤ j → j < length old → (get_or old j d).node ≢ node) → (now ≡ map (stopped node) old) × (full ≡ count_by (is_full_at node) old)
StopsTo-all node k old now full so_far others =
    let p : Queue → Bool = is_full_at node in
    let len : length now ≡ length (map (stopped node) old) = so_far.len ∙ sym (length-map old (stopped node)) in
    let each : (j : ℕ) (d : Queue) → j < length now → get_or now j d ≡ get_or (map (stopped node) old) j d = λ j d within.
    let inside : j < length old = omega (arith, so_far.len) in
    elim (cases_lt j k) [
      | inl low ↦ so_far.done j d low inside
      | inr high ↦ so_far.rest j d high ∙ sym (stopped_other node (get_or old j d) (others j d high inside))
    ] ∙ sym (get_or-map (stopped node) old j d d inside) in
    let rest : count_by p (drop k old) ≡ 0 = count_none p (drop k old)
    (λ j d inside. let l = length-drop k old in
    rw (get_or-drop k old j d) (and_right (is_full (get_or old (k + j) d)) (eqb (get_or old (k + j) d).node node)
    (ne_eqb (get_or old (k + j) d).node node (others (k + j) d (omega arith) (omega arith))))) in
    let whole : count_by p old ≡ count_by p (take k old) =
    ap (count_by p) (sym (take-append-drop k old)) ∙ count-append p (take k old) (drop k old) ∙ omega arith in
    (same_lists now (map (stopped node) old) len each, so_far.counted ∙ sym whole)

-- at the end of the queues, and if the next is another node's
pub StopsTo-end : (node k : ℕ) (old now : List Queue) (full : ℕ) → StopsTo node k old now full → length now ≤ k
    → (now ≡ map (stopped node) old) × (full ≡ count_by (is_full_at node) old)
StopsTo-end node k old now full so_far past = StopsTo-all node k old now full so_far (λ j d high inside. absurd (omega (arith, so_far.len)))

pub StopsTo-broken : (node first k : ℕ) (old now : List Queue) (full : ℕ) (d : Queue) → StopsTo node k old now full → AreByNode old
    → IsPartitionPoint (λ q. q.node < node) (λ q. node ≤ q.node) old first → first ≤ k → k < length now → (get_or now k d).node ≢ node
    → (now ≡ map (stopped node) old) × (full ≡ count_by (is_full_at node) old)
StopsTo-broken node first k old now full d so_far rises point low within other =
    let inside_k : k < length old = omega (arith, so_far.len) in
    let same : get_or now k d ≡ get_or old k d = so_far.rest k d (omega arith) in
    let here : node < (get_or old k d).node = let a : node ≤ (get_or old k d).node = point.1 k d low inside_k in
    let ne : (get_or old k d).node ≢ node = subst (λ q. q.node ≢ node) same other in omega arith in
    StopsTo-all node k old now full so_far
    (λ j e high inside is_node. let up : (get_or old k e).node ≤ (get_or old j e).node = rises k j e high inside in
    let at_d : (get_or old k d).node ≤ (get_or old j e).node = subst (λ x. x.node ≤ (get_or old j e).node) (get_or_default old k e d inside_k) up in omega arith)
