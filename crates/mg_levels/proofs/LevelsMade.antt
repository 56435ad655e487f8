-- A level more.
use Rattle.std.proofs.Common.{◌≡◌, ◌⊎◌, ℕ, ◌+◌, ◌-◌, ◌*◌, ◌/◌, ◌%◌, ◌<◌, ◌≤◌, min, List, [], ◌∷◌, ◌++◌, length, map, sum, get_or, sym, refl, ap, ◌∙◌, subst, arith, ⊎_elim, inl, inr}
use Rattle.std.proofs.lemmas.List.{length-append, length-map, get_or_append_left, get_or_push, replicate_more}
use Rattle.std.proofs.lemmas.List.Sums.{sum_by-append}
use Rattle.std.proofs.Math.Nat.{eq-or-lt_of_le, le-min, min-le_right}
use Rattle.crossbeam_queue.specs.Passes.{ruled_capacity}
use Rattle.mg_levels.specs.Balance.{whole}
use Rattle.mg_levels.specs.Hands.{fresh, hand_view, hand_id, queue_id}
use Rattle.std.specs.Int.{div_ceil}
use Rattle.mg_levels.specs.Places.{room_for}
use Rattle.mg_levels.specs.Code.Making.{AreMade, MakesLevel}
use Rattle.mg_levels.specs.declared.making.Made.{Made}

sum-append : (xs ys : List ℕ) → sum (xs ++ ys) ≡ sum xs + sum ys
sum-append xs ys = sum_by-append (λ x. x) xs ys

pub one_level_more : (nodes level n : ℕ) (old new : Made) → AreMade nodes level old → MakesLevel n old new → n ≡ min (nodes - 32 * level) 32 → AreMade nodes (level + 1) new
one_level_more nodes level n old new m step size =
    let rooms : List ℕ = map ruled_capacity old.queues.items in
    let many : length rooms ≡ level = length-map old.queues.items ruled_capacity ∙ m.count_is in
    let now : map ruled_capacity new.queues.items ≡ rooms ++ (4 * n) ∷ [] = step.rooms in
    record {
      count_is =
          let a = length-map new.queues.items ruled_capacity in
          let b = ap length now in
          let c = length-append rooms ((4 * n) ∷ []) in
          omega (arith, a, b, c, many);
      rooms = λ k below. ap (λ l. get_or l k 0) now ∙ elim (lt_or_eq k level below) [
        | inl less ↦ get_or_append_left rooms ((4 * n) ∷ []) 0 k (subst (λ x. k < x) (sym many) less) ∙ m.rooms k less
        | inr same ↦ get_or_push rooms (4 * n) 0 k (many ∙ sym same) ∙ ap (λ x. 4 * x) size ∙ ap (λ x. room_for nodes x) (sym same)
      ];
      hands = step.hands ∙ ap (λ l. l ++ fresh whole ∷ []) m.hands ∙ replicate_more level (fresh whole);
      ids = step.ids m.ids;
      room =
          let a = step.room in
          let b = m.room in
          let c : sum (map ruled_capacity new.queues.items) ≡ sum (rooms ++ (4 * n) ∷ []) = ap sum now in
          let d : sum (rooms ++ (4 * n) ∷ []) ≡ sum rooms + sum ((4 * n) ∷ []) = sum-append rooms ((4 * n) ∷ []) in
          let e : sum ((4 * n) ∷ []) ≡ 4 * n = last_one (4 * n) in
          omega (arith, a, b, c, d, e);
    }
  where
    le_here : (k l : ℕ) → k < l + 1 → k ≤ l
    le_here k l below = omega (arith, below)

    lt_or_eq : (k l : ℕ) → k < l + 1 → (k < l) ⊎ (k ≡ l)
    lt_or_eq k l below = ⊎_elim (λ same. inr same) (λ less. inl less) (eq-or-lt_of_le (le_here k l below))

    last_one : (x : ℕ) → sum (x ∷ []) ≡ x
    last_one x = omega arith

pub rounded : (n : ℕ) → div_ceil n 32 ≡ (n + 31) / 32
rounded n = let r : min 1 (n % 32) ≡ min 1 (n % 32) = refl in grind arith

pub some_nodes : (nodes level size : ℕ) → level < div_ceil nodes 32 → size ≡ min (nodes - 32 * level) 32 → (0 < size) × (size ≤ 32)
some_nodes nodes level size test is =
    let end : div_ceil nodes 32 ≡ (nodes + 31) / 32 = rounded nodes in
    let left : 1 ≤ nodes - 32 * level = omega (arith, test, end) in
    let low : 1 ≤ min (nodes - 32 * level) 32 = le-min left (omega arith) in
    let high = min-le_right (nodes - 32 * level) 32 in
    (omega (arith, low, is), omega (arith, high, is))

pub at_most : (nodes level size : ℕ) → size ≡ min (nodes - 32 * level) 32 → size ≤ 32
at_most nodes level size is = let high = min-le_right (nodes - 32 * level) 32 in omega (arith, high, is)

pub none_made : (nodes : ℕ) (m : Made) → m.queues.items ≡ [] → m.hands.items ≡ [] → m.room ≡ 0 → AreMade nodes 0 m
none_made nodes m no_queues no_hands no_room = record {
  count_is = ap length no_queues;
  rooms = λ level below. absurd (omega (arith, below));
  hands = ap (map hand_view) no_hands;
  ids = ap (map hand_id) no_hands ∙ sym (ap (map queue_id) no_queues);
  room = no_room ∙ sym (ap (λ l. sum (map ruled_capacity l)) no_queues);
}
