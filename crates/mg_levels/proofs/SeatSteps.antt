-- What steps at one level, or at all levels, do to a seat's counts.
use Rattle.std.proofs.Common.{◌≡◌, ◌⊎◌, ℕ, zero, suc, ◌+◌, ◌-◌, ◌/◌, ◌%◌, ◌<◌, ◌≤◌, Bool, true, false, if◌then◌else◌, MatchBool, All, List, [], ◌∷◌, ◌++◌, length, map, set, get_or, replicate, slice_get, slice_index, Option, None, Some, Contains, sym, refl, ap, ◌∙◌, subst, arith, ⊎_elim, inl, inr, min, Vec, Global}
use Rattle.std.specs.Vec.{with_items}
use Rattle.std.proofs.lemmas.List.{with_items_is, get_or-map, length-set, length-map, map-set, length-replicate, get_or-replicate}
use Rattle.std.proofs.lemmas.List.Elements.{All-replicate, Contains-get_or}
use Rattle.std.proofs.lemmas.Option.{slice_get_within, get_or_from_slice_get}
use Rattle.std.proofs.Math.Nat.{mod-eq_of_lt, mod-lt}
use Rattle.std.proofs.Math.Seq.{map-set_same}
use Rattle.mg_levels.specs.Balance.{total}
use Rattle.mg_levels.specs.Hands.{HandView, hand_view, hand_id, put_to, took_from, kept_hand, joined, fresh, FoundFull, FoundEmpty}
use Rattle.mg_levels.specs.Places.{node_of, once, times_of, sums, FoundEmptyFrom, TookLast}
use Rattle.mg_levels.specs.Code.Rows.{views_in, portions_in, joined_all, total_put, total_taken}
use Rattle.mg_levels.specs.declared.hand.Hand.{Hand}
use Rattle.mg_levels.proofs.Sums.{weigh-append}

-- the node at a place of the order
pub node_there : (order : List ℕ) (place node : ℕ) → slice_get order place ≡ Some node → node_of order place ≡ node
node_there order place node stands =
    let within : place < length order = slice_get_within order place node stands in
    ap (λ p. slice_index order p) (mod-eq_of_lt within) ∙ get_or_from_slice_get order place node 0 stands

-- one member of a list changes

module _ {X : Type 0} (g : X → ℕ) where
  pub total_at : (xs : List X) (i : ℕ) (w d : X) → i < length xs → total g (set xs i w) + g (get_or xs i d) ≡ total g xs + g w
  total_at [] i w d there = absurd (omega (arith, there))
  total_at (x ∷ xs) zero w d there = omega arith
  total_at (x ∷ xs) (suc i) w d there = omega (arith, total_at xs i w d (omega (arith, there)))

module _ (hands : List Hand) (i : ℕ) (new d : Hand) (there : i < length hands) where
  pub seat_total : (f : HandView → ℕ) → total f (views_in (set hands i new)) + f (hand_view (get_or hands i d)) ≡ total f (views_in hands) + f (hand_view new)
  seat_total f =
      let a : total f (views_in (set hands i new)) ≡ total f (set (views_in hands) i (hand_view new)) = ap (total f) (map-set hand_view hands i new) in
      let b = total_at f (views_in hands) i (hand_view new) (hand_view d) (subst (λ n. i < n) (sym (length-map hands hand_view)) there) in
      let c : f (get_or (views_in hands) i (hand_view d)) ≡ f (hand_view (get_or hands i d)) = ap f (get_or-map hand_view hands i d (hand_view d) there) in
      omega (arith, a, b, c)

  pub seat_same : {Z : Type 0} (k : HandView → Z) → k (hand_view new) ≡ k (hand_view (get_or hands i d)) → map k (views_in (set hands i new)) ≡ map k (views_in hands)
  seat_same k same =
      ap (map k) (map-set hand_view hands i new)
      ∙ map-set_same k (views_in hands) i (hand_view new) (hand_view d) (same ∙ ap k (sym (get_or-map hand_view hands i d (hand_view d) there)))

-- a place is put in, or the level is full

module _ (room : ℕ) (order : List ℕ) (n node place : ℕ) (h w : HandView) where
  pub put_puts : (r : Bool) → MatchBool r (w ≡ put_to h place) (FoundFull room h w) → node_of order place ≡ node → times_of order n w.put ≡ times_of order n h.put + (if r then once n node else 0)
  put_puts true is there =
      let a : times_of order n w.put ≡ times_of order n (h.put ++ place ∷ []) = ap (λ (v : HandView). times_of order n v.put) is in
      let b = weigh-append (λ p. once n (node_of order p)) h.put (place ∷ []) in
      let c : once n (node_of order place) ≡ once n node = ap (once n) there in
      omega (arith, a, b, c)
  put_puts false found there = let a : times_of order n w.put ≡ times_of order n h.put = ap (λ (v : HandView). times_of order n v.put) found.counted in omega (arith, a)

  pub put_taken : (r : Bool) → MatchBool r (w ≡ put_to h place) (FoundFull room h w) → w.taken ≡ h.taken
  put_taken true is = ap (λ (v : HandView). v.taken) is
  put_taken false found = ap (λ (v : HandView). v.taken) found.counted

  pub put_empties : (r : Bool) → MatchBool r (w ≡ put_to h place) (FoundFull room h w) → w.empties ≡ h.empties
  put_empties true is = ap (λ (v : HandView). v.empties) is
  put_empties false found = ap (λ (v : HandView). v.empties) found.counted

  pub put_portion : (r : Bool) → MatchBool r (w ≡ put_to h place) (FoundFull room h w) → w.portion ≡ h.portion
  put_portion true is = ap (λ (v : HandView). v.portion) is
  put_portion false found = ap (λ (v : HandView). v.portion) found.counted

-- lists that differ in what isn't looked at

map_ext : {X Z : Type 0} (k : X → Z) (xs ys : List X) → length xs ≡ length ys → ((j : ℕ) (x y : X) → slice_get xs j ≡ Some x → slice_get ys j ≡ Some y → k x ≡ k y) → map k xs ≡ map k ys
map_ext k [] [] long same = refl
map_ext k [] (y ∷ ys) long same = absurd (omega (arith, long))
map_ext k (x ∷ xs) [] long same = absurd (omega (arith, long))
map_ext k (x ∷ xs) (y ∷ ys) long same = λ i. same 0 x y refl refl i ∷ map_ext k xs ys (omega (arith, long)) (λ j u v at at'. same (suc j) u v at at') i

some_inj : {X : Type 0} (x y : X) → Some x ≡ Some y → x ≡ y
some_inj x y p = ap (λ o. had o x) p
  where
    had : {X : Type 0} → Option X → X → X
    had None d = d
    had (Some z) d = z

from_or_below : (i level : ℕ) → (i ≤ level) ⊎ (level < i)
from_or_below zero level = inl (omega arith)
from_or_below (suc i) zero = inr (omega arith)
from_or_below (suc i) (suc level) = ⊎_elim (λ over. inl (let o = over in omega (arith, o))) (λ less. inr (let l = less in omega (arith, l))) (from_or_below i level)

-- what an empty level changes is one count
pub empty_same : {Z : Type 0} (k : HandView → Z) (from : ℕ) (old now : List HandView) → ((h w : HandView) → FoundEmpty h w → k w ≡ k h) → FoundEmptyFrom from old now → map k now ≡ map k old
empty_same k from old now keeps found = map_ext k now old found.count
    (λ level w h is was. ⊎_elim (λ over. keeps h w (found.empty level h w over was is))
    (λ less. ap k (some_inj w h (sym is ∙ found.others level less ∙ was))) (from_or_below from level))

total-map : {X Y : Type 0} (f : Y → ℕ) (k : X → Y) (xs : List X) → total (λ x. f (k x)) xs ≡ total f (map k xs)
total-map f k [] = refl
total-map f k (x ∷ xs) = ap (λ n. f (k x) + n) (total-map f k xs)

module _ (order : List ℕ) (n : ℕ) where
  pub same_puts : (xs ys : List HandView) → map (λ (h : HandView). h.put) xs ≡ map (λ (h : HandView). h.put) ys → total_put order n xs ≡ total_put order n ys
  same_puts xs ys same = total-map (times_of order n) (λ (h : HandView). h.put) xs ∙ ap (total (times_of order n)) same ∙ sym (total-map (times_of order n) (λ (h : HandView). h.put) ys)

  pub same_takes : (xs ys : List HandView) → map (λ (h : HandView). h.taken) xs ≡ map (λ (h : HandView). h.taken) ys → total_taken order n xs ≡ total_taken order n ys
  same_takes xs ys same = total-map (times_of order n) (λ (h : HandView). h.taken) xs ∙ ap (total (times_of order n)) same ∙ sym (total-map (times_of order n) (λ (h : HandView). h.taken) ys)

  -- a place was taken out of a level
  pub took_takes : (place : ℕ) (old new : List HandView) → TookLast place old new → total_taken order n new ≡ total_taken order n old + once n (node_of order place)
  took_takes place old new t =
      let before : total_taken order n t.between ≡ total_taken order n old = same_takes t.between old (empty_same (λ (h : HandView). h.taken) (suc t.level) old t.between (λ h w f. ap (λ (v : HandView). v.taken) f.counted) t.later) in
      let there : t.level < length t.between = slice_get_within t.between t.level t.hand t.at in
      let at : get_or t.between t.level t.hand ≡ t.hand = get_or_from_slice_get t.between t.level t.hand t.hand t.at in
      let step = total_at (λ (h : HandView). times_of order n h.taken) t.between t.level (took_from t.hand place) t.hand there in
      let is : total_taken order n new ≡ total_taken order n (set t.between t.level (took_from t.hand place)) = ap (total_taken order n) t.taken in
      let was : times_of order n (get_or t.between t.level t.hand).taken ≡ times_of order n t.hand.taken = ap (λ (h : HandView). times_of order n h.taken) at in
      let more = weigh-append (λ p. once n (node_of order p)) t.hand.taken (place ∷ []) in
      omega (arith, before, step, is, was, more)

pub took_same : {Z : Type 0} (k : HandView → Z) (place : ℕ) (old new : List HandView) → ((h w : HandView) → FoundEmpty h w → k w ≡ k h) → ((h : HandView) → k (took_from h place) ≡ k h) → TookLast place old new
    → map k new ≡ map k old
took_same k place old new keeps takes t =
    ap (map k) t.taken
    ∙ map-set_same k t.between t.level (took_from t.hand place) t.hand (takes t.hand ∙ ap k (sym (get_or_from_slice_get t.between t.level t.hand t.hand t.at)))
    ∙ empty_same k (suc t.level) old t.between keeps t.later

-- two seats in one

module _ (f : HandView → ℕ) (adds : (h other : HandView) → f (joined h other) ≡ f h + f other) where
  pub joined_total : (xs ys : List HandView) → length xs ≡ length ys → total f (joined_all xs ys) ≡ total f xs + total f ys
  joined_total [] [] long = refl
  joined_total [] (y ∷ ys) long = absurd (omega (arith, long))
  joined_total (x ∷ xs) [] long = absurd (omega (arith, long))
  joined_total (x ∷ xs) (y ∷ ys) long = let a = adds x y in let r = joined_total xs ys (omega (arith, long)) in omega (arith, a, r)

pub joined_fulls : (xs ys : List HandView) → length xs ≡ length ys → map (λ (h : HandView). h.fulls) (joined_all xs ys) ≡ sums (map (λ (h : HandView). h.fulls) xs) (map (λ (h : HandView). h.fulls) ys)
joined_fulls [] [] long = refl
joined_fulls [] (y ∷ ys) long = absurd (omega (arith, long))
joined_fulls (x ∷ xs) [] long = absurd (omega (arith, long))
joined_fulls (x ∷ xs) (y ∷ ys) long = ap (λ l. min (x.fulls + y.fulls) 18446744073709551615 ∷ l) (joined_fulls xs ys (omega (arith, long)))

pub joined_empties : (xs ys : List HandView) → length xs ≡ length ys → map (λ (h : HandView). h.empties) (joined_all xs ys) ≡ sums (map (λ (h : HandView). h.empties) xs) (map (λ (h : HandView). h.empties) ys)
joined_empties [] [] long = refl
joined_empties [] (y ∷ ys) long = absurd (omega (arith, long))
joined_empties (x ∷ xs) [] long = absurd (omega (arith, long))
joined_empties (x ∷ xs) (y ∷ ys) long = ap (λ l. min (x.empties + y.empties) 18446744073709551615 ∷ l) (joined_empties xs ys (omega (arith, long)))

-- a part of each portion is handed over
pub kept_same : {Z : Type 0} (k : HandView → Z) (amount : ℕ) (xs : List HandView) → ((h : HandView) → k (kept_hand h amount) ≡ k h) → map k (map (λ (h : HandView). kept_hand h amount) xs) ≡ map k xs
kept_same k amount [] keeps = refl
kept_same k amount (x ∷ xs) keeps = λ i. keeps x i ∷ kept_same k amount xs keeps i

-- if all hands are fresh
pub even_from : (hands : List Hand) (n p : ℕ) → views_in hands ≡ replicate n (fresh p) → portions_in hands ≡ replicate (length hands) p
even_from [] n p same = refl
even_from (h ∷ hs) zero p same = absurd (none_more (length (views_in hs)) (ap length same))
  where
    none_more : (n : ℕ) → suc n ≡ 0 → ⊥
    none_more n p = omega (arith, p)
even_from (h ∷ hs) (suc n) p same =
    let first : h.pass.me.0.client.portion ≡ p = ap (λ l. (get_or l 0 (fresh p)).portion) same in
    let rest = even_from hs n p (ap (λ l. tail_of l) same) in
    λ i. first i ∷ rest i
  where
    tail_of : {X : Type 0} → List X → List X
    tail_of [] = []
    tail_of (x ∷ xs) = xs

pub all_fresh : (hands : List HandView) (n : ℕ) (x : HandView) → hands ≡ replicate n x → (level : ℕ) (h : HandView) → slice_get hands level ≡ Some h → h ≡ x
all_fresh hands n x same level h at =
    let there : slice_get (replicate n x) level ≡ Some h = subst (λ l. slice_get l level ≡ Some h) same at in
    let within : level < length (replicate n x) = slice_get_within (replicate n x) level h there in
    let long : length (replicate n x) ≡ n = length-replicate n x in
    sym (get_or_from_slice_get (replicate n x) level h x there) ∙ get_or-replicate n level x x (omega (arith, within, long))

-- the portions stay even if one hand keeps its portion
pub even_set : (hands : List Hand) (i : ℕ) (new d : Hand) (p : ℕ) → new.pass.me.0.client.portion ≡ (get_or hands i d).pass.me.0.client.portion → portions_in hands ≡ replicate (length hands) p
    → portions_in (set hands i new) ≡ replicate (length (set hands i new)) p
even_set hands i new d p same even =
    map-set_same (λ (h : Hand). h.pass.me.0.client.portion) hands i new d same ∙ even ∙ ap (λ n. replicate n p) (sym (length-set hands i new))

-- the portions stay even if each hand keeps its own
pub even_still : (hands now : List Hand) (p : ℕ) → portions_in now ≡ portions_in hands → portions_in hands ≡ replicate (length hands) p → portions_in now ≡ replicate (length now) p
even_still hands now p same even =
    same ∙ even ∙ ap (λ n. replicate n p) (sym (length-map hands (λ (h : Hand). h.pass.me.0.client.portion)) ∙ sym (ap length same) ∙ length-map now (λ (h : Hand). h.pass.me.0.client.portion))

pub all_some : (hands : List Hand) (p : ℕ) → 0 < p → portions_in hands ≡ replicate (length hands) p → All (λ q. 0 < q) (portions_in hands)
all_some hands p some_part even = subst (λ l. All (λ q. 0 < q) l) (sym even) (All-replicate (λ q. 0 < q) (length hands) p some_part)

rest_of : {X : Type 0} → List X → List X
rest_of [] = []
rest_of (x ∷ xs) = xs

no_more : (n : ℕ) → suc n ≡ 0 → ⊥
no_more n p = omega (arith, p)

-- the portions are even if two are one
pub even_joined : (xs ys now : List Hand) (p q : ℕ) → length xs ≡ length ys → views_in now ≡ joined_all (views_in xs) (views_in ys) → portions_in xs ≡ replicate (length xs) p → portions_in ys ≡ replicate (length ys) q
    → portions_in now ≡ replicate (length now) (p + q)
unfolding rest_of
even_joined [] ys [] p q long is xs_even ys_even = refl
even_joined [] ys (n ∷ ns) p q long is xs_even ys_even = absurd (no_more (length (views_in ns)) (ap length is))
even_joined (x ∷ xs) [] now p q long is xs_even ys_even = absurd (omega (arith, long))
even_joined (x ∷ xs) (y ∷ ys) [] p q long is xs_even ys_even = absurd (no_more (length (joined_all (views_in xs) (views_in ys))) (sym (ap length is)))
even_joined (x ∷ xs) (y ∷ ys) (n ∷ ns) p q long is xs_even ys_even =
    let mine : x.pass.me.0.client.portion ≡ p = ap (λ l. get_or l 0 p) xs_even in
    let theirs : y.pass.me.0.client.portion ≡ q = ap (λ l. get_or l 0 q) ys_even in
    let first : n.pass.me.0.client.portion ≡ x.pass.me.0.client.portion + y.pass.me.0.client.portion = ap (λ (l : List HandView). (get_or l 0 (fresh 0)).portion) is in
    let head : n.pass.me.0.client.portion ≡ p + q = omega (arith, mine, theirs, first) in
    let tail = even_joined xs ys ns p q (omega (arith, long)) (ap rest_of is) (ap rest_of xs_even) (ap rest_of ys_even) in
    λ i. head i ∷ tail i

-- the portions stay even if each hand gives away the same amount
pub even_cut : (xs now : List Hand) (p amount : ℕ) → views_in now ≡ map (λ (h : HandView). kept_hand h amount) (views_in xs) → portions_in xs ≡ replicate (length xs) p
    → portions_in now ≡ replicate (length now) (p - amount)
unfolding rest_of
even_cut [] [] p amount is even = refl
even_cut [] (n ∷ ns) p amount is even = absurd (no_more (length (views_in ns)) (ap length is))
even_cut (x ∷ xs) [] p amount is even = absurd (no_more (length (map (λ (h : HandView). kept_hand h amount) (views_in xs))) (sym (ap length is)))
even_cut (x ∷ xs) (n ∷ ns) p amount is even =
    let mine : x.pass.me.0.client.portion ≡ p = ap (λ l. get_or l 0 p) even in
    let first : n.pass.me.0.client.portion ≡ x.pass.me.0.client.portion - amount = ap (λ (l : List HandView). (get_or l 0 (fresh 0)).portion) is in
    let head : n.pass.me.0.client.portion ≡ p - amount = first ∙ ap (λ k. k - amount) mine in
    let tail = even_cut xs ns p amount (ap rest_of is) (ap rest_of even) in
    λ i. head i ∷ tail i

-- a portion that all have is more than another
pub all_more : (hands : List Hand) (p amount : ℕ) → amount < p → portions_in hands ≡ replicate (length hands) p → All (λ q. amount < q) (portions_in hands)
all_more hands p amount less even = subst (λ l. All (λ q. amount < q) l) (sym even) (All-replicate (λ q. amount < q) (length hands) p less)

-- what two have done together
pub adds_put : (order : List ℕ) (n : ℕ) (h other : HandView) → times_of order n (joined h other).put ≡ times_of order n h.put + times_of order n other.put
adds_put order n h other = weigh-append (λ p. once n (node_of order p)) h.put other.put

pub adds_taken : (order : List ℕ) (n : ℕ) (h other : HandView) → times_of order n (joined h other).taken ≡ times_of order n h.taken + times_of order n other.taken
adds_taken order n h other = weigh-append (λ p. once n (node_of order p)) h.taken other.taken

-- a node that was taken out stands in the order
pub stands_in : (order : List ℕ) (place levels hands : ℕ) (old new : List HandView) → TookLast place old new → length old ≡ hands → hands ≡ levels → levels ≡ (length order + 31) / 32
    → Contains order (node_of order place)
stands_in order place levels hands old new t long same many =
    let there : t.level < length t.between = slice_get_within t.between t.level t.hand t.at in
    let count : length t.between ≡ length old = t.later.count in
    let some_nodes : 0 < length order = omega (arith, there, count, long, same, many) in
    Contains-get_or order (place % length order) 0 (mod-lt place some_nodes)

-- a list that was lent comes back whole
pub whole_list : (v : Vec Hand Global) (new : List Hand) → map hand_id new ≡ map hand_id v.items → (with_items v new).items ≡ new
whole_list v new same = with_items_is v new (sym (length-map new hand_id) ∙ ap length same ∙ length-map v.items hand_id ∙ sym v.ok.0)
