-- Lines have a cut into batches, and only one if batches don't end early.
use Rattle.std.proofs.Common.{◌≡◌, ◌<◌, ◌≤◌, ◌+◌, ◌⊎◌, inl, inr, ℕ, zero, suc, List, [], ◌∷◌, ◌++◌, length, drop, slice_index_or, Bool, true, false, refl, sym, ap, ◌∙◌, subst, arith}
use Rattle.std.proofs.lemmas.List.Sums.{sum_by-append}
use Rattle.mg_feed.specs.Accepted.{names_stream}
use Rattle.mg_feed.specs.Lines.{but_last}
use Rattle.mg_feed.specs.Batch.{Fills, CutsAt, naming}
use Rattle.mg_feed.specs.declared.feed_end.BatchEnd.TheVariants.{More}
use Rattle.mg_drive.specs.InBatches.{batch_size, InBatches, last, more}

-- how many lines name a stream in two parts
naming_parts : (xs ys : List (List ℕ)) → naming (xs ++ ys) ≡ naming xs + naming ys
naming_parts xs ys = sum_by-append _ xs ys

-- if a batch is full, the rest after its first line is full at what is left
rest_full : (most : ℕ) (x : List ℕ) (xs : List (List ℕ)) → Fills More (naming (x ∷ []) + most) (x ∷ xs) → Fills More most xs
rest_full most x [] full = (omega (arith, full.0), inl refl)
rest_full most x (y ∷ ys) (full, inl none) = absurd cc
rest_full most x (y ∷ ys) (full, inr few) = (
  (let parts = naming_parts (x ∷ []) (y ∷ ys) in omega (arith, full, parts)),
  inr (let parts = naming_parts (x ∷ []) (but_last (y ∷ ys)) in omega (arith, few, parts)),
)

-- an empty batch and a batch with a line can't both be full
none_full : (most : ℕ) (x : List ℕ) (xs : List (List ℕ)) → Fills More most [] → Fills More most (x ∷ xs) → ⊥
none_full most x xs none (full, inl same) = cc
none_full most x xs none (full, inr few) = omega (arith, none.0, few)

pub one_front : (most : ℕ) (b batch r rest : List (List ℕ)) → Fills More most b → Fills More most batch → b ++ r ≡ batch ++ rest → (b ≡ batch) × (r ≡ rest)
one_front most [] [] r rest one two same = (refl, same)
one_front most [] (y ∷ ys) r rest one two same = absurd (none_full most y ys one two)
one_front most (x ∷ xs) [] r rest one two same = absurd (none_full most x xs two one)
one_front most (x ∷ xs) (y ∷ ys) r rest one two same =
    let head : x ≡ y = ap (λ (l : List (List ℕ)). slice_index_or l 0 x) same in
    let tail : xs ++ r ≡ ys ++ rest = ap (λ (l : List (List ℕ)). drop 1 l) same in
    let left = naming xs in
    let parts = naming_parts (x ∷ []) xs in
    let count : most ≡ naming (x ∷ []) + left = omega (arith, one.0, parts) in
    let others : Fills More (naming (x ∷ []) + left) (x ∷ ys) = subst (λ (n : ℕ). Fills More n (x ∷ ys)) count (subst (λ (z : List ℕ). Fills More most (z ∷ ys)) (sym head) two) in
    let tails = one_front left xs ys r rest (rest_full left x xs (subst (λ (n : ℕ). Fills More n (x ∷ xs)) count one)) (rest_full left x ys others) tail in
    (ap (λ (z : List ℕ). z ∷ xs) head ∙ ap (λ (l : List (List ℕ)). y ∷ l) tails.0, tails.1)

naming_front : (xs ys : List (List ℕ)) → naming xs ≤ naming (xs ++ ys)
naming_front xs ys = omega (arith, naming_parts xs ys)

-- a full batch that is a prefix of lines is the first of their batches
cut_front : (batch rest lines : List (List ℕ)) (cut : List (List (List ℕ))) → Fills More batch_size batch → lines ≡ batch ++ rest → InBatches false lines cut → (later : List (List (List ℕ))) × (cut ≡ batch ∷ later) × InBatches false rest later
cut_front batch rest lines cut full same (last few) = absurd (omega (arith, full.0, naming_front batch rest, ap naming same, few))
cut_front batch rest lines cut full same (more {batch = one} {rest = others} {batches = batches} filled behind) =
    let only = one_front batch_size one batch others rest filled full same in
    (batches, ap (λ (b : List (List ℕ)). b ∷ batches) only.0, subst (λ (ls : List (List ℕ)). InBatches false ls batches) only.1 behind)

-- if batches don't end early, lines are cut in one way
pub one_cut : (lines other : List (List ℕ)) (a b : List (List (List ℕ))) → lines ≡ other → InBatches false lines a → InBatches false other b → a ≡ b
one_cut lines other a b same (more {batch = one} {rest = rest} {batches = batches} filled behind) is =
    let front = cut_front one rest other b filled (sym same) is in
    ap (λ (bs : List (List (List ℕ))). one ∷ bs) (one_cut rest rest batches front.0 refl behind front.2) ∙ sym front.1
one_cut lines other a b same (last few) (last less) = ap (λ (ls : List (List ℕ)). ls ∷ []) same
one_cut lines other a b same (last few) (more {batch = two} {rest = rest} filled behind) = absurd (omega (arith, filled.0, naming_front two rest, ap naming same, few))

-- Lines fill a batch, or they don't --

-- the lines up to the last of so many that name a stream
record Front (most : ℕ) (lines : List (List ℕ)) : Type 0 where
  batch : List (List ℕ)
  rest : List (List ℕ)
  same : lines ≡ batch ++ rest
  full : Fills More most batch
  fewer : length rest < length lines

behind_one : (c most : ℕ) (x : List ℕ) (batch : List (List ℕ)) → naming (x ∷ []) ≡ c → Fills More (suc most) batch → Fills More (c + suc most) (x ∷ batch)
behind_one c most x [] is full = absurd (omega (arith, full.0))
behind_one c most x (y ∷ ys) is (full, inl none) = absurd cc
behind_one c most x (y ∷ ys) is (full, inr few) = (
  (let parts = naming_parts (x ∷ []) (y ∷ ys) in omega (arith, is, full, parts)),
  inr (let parts = naming_parts (x ∷ []) (but_last (y ∷ ys)) in omega (arith, is, few, parts)),
)

named_once : (x : List ℕ) → names_stream x ≡ true → naming (x ∷ []) ≡ 1
named_once x is = rw is refl

not_named : (x : List ℕ) → names_stream x ≡ false → naming (x ∷ []) ≡ 0
not_named x is = rw is refl

with_line : (c most : ℕ) (x : List ℕ) (xs : List (List ℕ)) → naming (x ∷ []) ≡ c → Front (suc most) xs → Front (c + suc most) (x ∷ xs)
with_line c most x xs is f = record {
  batch = x ∷ f.batch;
  rest = f.rest;
  same = ap (λ (ls : List (List ℕ)). x ∷ ls) f.same;
  full = behind_one c most x f.batch is f.full;
  fewer = let less = f.fewer in omega (arith, less);
}

fills : (most : ℕ) (lines : List (List ℕ)) → (naming lines < suc most) ⊎ Front (suc most) lines
fills most [] = inl (omega arith)
fills most (x ∷ xs) = by (λ n. fills n xs) (names_stream x) most refl
  where
    by : ((n : ℕ) → (naming xs < suc n) ⊎ Front (suc n) xs) → (b : Bool) (n : ℕ) → names_stream x ≡ b → (naming (x ∷ xs) < suc n) ⊎ Front (suc n) (x ∷ xs)
    by rest false n is = elim (rest n) [
      | inl few ↦ inl (let none = not_named x is in let parts = naming_parts (x ∷ []) xs in omega (arith, few, none, parts))
      | inr front ↦ inr (subst (λ (k : ℕ). Front k (x ∷ xs)) (let same : 0 + suc n ≡ suc n = omega arith in same) (with_line 0 n x xs (not_named x is) front))
    ]
    by rest true zero is = inr (record { batch = x ∷ []; rest = xs; same = refl; full = (named_once x is, inr (omega arith)); fewer = omega arith })
    by rest true (suc n) is = elim (rest n) [
      | inl few ↦ inl (let one = named_once x is in let parts = naming_parts (x ∷ []) xs in omega (arith, few, one, parts))
      | inr front ↦ inr (subst (λ (k : ℕ). Front k (x ∷ xs)) (let same : 1 + suc n ≡ suc (suc n) = omega arith in same) (with_line 1 n x xs (named_once x is) front))
    ]

-- a full batch is one also where batches may end early
full_cuts : (early : Bool) (batch : List (List ℕ)) → Fills More batch_size batch → CutsAt early More batch_size batch
full_cuts false batch full = full
full_cuts true batch full = (omega (arith, full.0), λ some. omega (arith, full.0, some))

cut_by : (early : Bool) (fuel : ℕ) (lines : List (List ℕ)) → length lines < fuel → (cut : List (List (List ℕ))) × InBatches early lines cut
cut_by early zero lines less = absurd (omega (arith, less))
cut_by early (suc fuel) lines less = elim (fills 4095 lines) [
  | inl few ↦ (lines ∷ [], last few)
  | inr front ↦ (let rest = cut_by early fuel front.rest (let fewer = front.fewer in omega (arith, less, fewer)) in
      (front.batch ∷ rest.0, subst (λ (ls : List (List ℕ)). InBatches early ls (front.batch ∷ rest.0)) (sym front.same) (more (full_cuts early front.batch front.full) rest.1)))
]

-- there is a cut
pub some_cut : (early : Bool) (lines : List (List ℕ)) → (cut : List (List (List ℕ))) × InBatches early lines cut
some_cut early lines = cut_by early (suc (length lines)) lines (omega arith)
