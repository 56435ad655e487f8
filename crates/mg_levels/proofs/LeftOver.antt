-- What is left at all levels, counted node by node.
use Rattle.std.proofs.Common.{◌≡◌, ℕ, ◌+◌, ◌<◌, ◌≤◌, List, [], ◌∷◌, ◌++◌, length, map, take, get_or, sum, sym, refl, ap, ◌∙◌, arith}
use Rattle.std.proofs.lemmas.List.{length-append, length-map, map-append, take_more}
use Rattle.std.proofs.lemmas.List.Sums.{sum_by-append}
use Rattle.std.proofs.Math.Seq.{take-length}
use Rattle.mg_levels.specs.Balance.{weigh}
use Rattle.mg_levels.specs.Hands.{HandView, hand_view}
use Rattle.mg_levels.specs.Places.{node_of, once, times, times_of}
use Rattle.mg_levels.specs.Code.Rows.{views_in, total_put, total_taken}
use Rattle.mg_levels.specs.Code.Drained.{Drained}
use Rattle.mg_levels.specs.declared.hand.Hand.{Hand}
use Rattle.mg_levels.proofs.Sums.{weigh-append, total-append}

weigh-map : (h : ℕ → ℕ) (f : ℕ → ℕ) (xs : List ℕ) → weigh h (map f xs) ≡ weigh (λ x. h (f x)) xs
weigh-map h f [] = refl
weigh-map h f (x ∷ xs) = ap (λ n. h (f x) + n) (weigh-map h f xs)

module _ (order : List ℕ) (node : ℕ) where
  weight : ℕ → ℕ
  weight place = once node (node_of order place)

  -- what a level had is what is counted as taken and what went into the list
  pub counted : (room : ℕ) (h : HandView) (old new : List ℕ) → Drained room order h old new → times_of order node h.put + times node old ≡ times_of order node h.taken + times node new
  unfolding weight
  counted room h old new d =
      let even : times_of order node h.put ≡ times_of order node h.taken + weigh weight d.places = d.even weight in
      let list : times node new ≡ times node (old ++ map (node_of order) d.places) = ap (times node) d.put in
      let parts : times node (old ++ map (node_of order) d.places) ≡ times node old + weigh (once node) (map (node_of order) d.places) = weigh-append (once node) old (map (node_of order) d.places) in
      let nodes : weigh (once node) (map (node_of order) d.places) ≡ weigh weight d.places = weigh-map (once node) (node_of order) d.places in
      omega (arith, even, list, parts, nodes)

  pub put_last : (xs : List Hand) (x : Hand) → total_put order node (views_in (xs ++ x ∷ [])) ≡ total_put order node (views_in xs) + times_of order node (hand_view x).put
  put_last xs x =
      let a : total_put order node (views_in (xs ++ x ∷ [])) ≡ total_put order node (views_in xs ++ hand_view x ∷ []) = ap (total_put order node) (map-append hand_view xs (x ∷ [])) in
      let b : total_put order node (views_in xs ++ hand_view x ∷ []) ≡ total_put order node (views_in xs) + total_put order node (hand_view x ∷ []) = total-append (λ (h : HandView). times_of order node h.put) (views_in xs) (hand_view x ∷ []) in
      omega (arith, a, b)

  pub taken_last : (xs : List Hand) (x : Hand) → total_taken order node (views_in (xs ++ x ∷ [])) ≡ total_taken order node (views_in xs) + times_of order node (hand_view x).taken
  taken_last xs x =
      let a : total_taken order node (views_in (xs ++ x ∷ [])) ≡ total_taken order node (views_in xs ++ hand_view x ∷ []) = ap (total_taken order node) (map-append hand_view xs (x ∷ [])) in
      let b : total_taken order node (views_in xs ++ hand_view x ∷ []) ≡ total_taken order node (views_in xs) + total_taken order node (hand_view x ∷ []) = total-append (λ (h : HandView). times_of order node h.taken) (views_in xs) (hand_view x ∷ []) in
      omega (arith, a, b)

-- the rooms of the first levels, and of one more
pub room_more : (rooms : List ℕ) (n d : ℕ) → n < length rooms → sum (take (n + 1) rooms) ≡ sum (take n rooms) + get_or rooms n d
room_more rooms n d there =
    let a : sum (take (n + 1) rooms) ≡ sum (take n rooms ++ get_or rooms n d ∷ []) = ap sum (take_more rooms n d there) in
    let b : sum (take n rooms ++ get_or rooms n d ∷ []) ≡ sum (take n rooms) + sum (get_or rooms n d ∷ []) = sum_by-append (λ x. x) (take n rooms) (get_or rooms n d ∷ []) in
    let c : sum (get_or rooms n d ∷ []) ≡ get_or rooms n d = last_one (get_or rooms n d) in
    omega (arith, a, b, c)
  where
    last_one : (x : ℕ) → sum (x ∷ []) ≡ x
    last_one x = omega arith

pub long_left : (room : ℕ) (order : List ℕ) (h : HandView) (old new : List ℕ) → Drained room order h old new → length new ≤ length old + room
long_left room order h old new d =
    let a : length new ≡ length (old ++ map (node_of order) d.places) = ap length d.put in
    let b : length (old ++ map (node_of order) d.places) ≡ length old + length (map (node_of order) d.places) = length-append old (map (node_of order) d.places) in
    let c : length (map (node_of order) d.places) ≡ length d.places = length-map d.places (node_of order) in
    let few : length d.places ≤ room = d.few in
    omega (arith, a, b, c, few)

pub length-snoc : {X : Type 0} (xs : List X) (x : X) → length (xs ++ x ∷ []) ≡ length xs + 1
length-snoc xs x = length-append xs (x ∷ [])

pub fits_all : (long n : ℕ) (rooms : List ℕ) → long ≡ 0 → length rooms ≡ n → long + sum (take n rooms) ≤ sum rooms
fits_all long n rooms none size =
    let same : sum (take n rooms) ≡ sum rooms = ap sum (take_whole n rooms size) in
    omega (arith, none, same)
  where
    take_whole : (n : ℕ) (rooms : List ℕ) → length rooms ≡ n → take n rooms ≡ rooms
    take_whole n rooms size = ap (λ k. take k rooms) (sym size) ∙ take-length rooms

pub no_change : (p t l : ℕ) → l ≡ 0 → p + t ≡ t + l + p
no_change p t l none = omega (arith, none)
