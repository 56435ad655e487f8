-- Parts of a block, as its bytes are passed.
use Rattle.std.proofs.Common.{◌≡◌, ℕ, zero, suc, ◌+◌, ◌-◌, ◌≤◌, List, [], ◌∷◌, ◌++◌, take, drop, length, refl, sym, ap, ◌∙◌, arith, append_assoc, take-append-drop}
use Rattle.std.proofs.lemmas.List.{length-take}
use Rattle.std.specs.List.{slice_range}

take-none : (m : ℕ) → take {A = ℕ} m [] ≡ []
take-none zero = refl
take-none (suc m) = refl

drop-none : (m : ℕ) → drop {A = ℕ} m [] ≡ []
drop-none zero = refl
drop-none (suc m) = refl

take-twice : (c n : ℕ) (xs : List ℕ) → c ≤ n → take c (take n xs) ≡ take c xs
take-twice zero n xs le = refl
take-twice (suc c) zero xs le = absurd (omega arith)
take-twice (suc c) (suc n) [] le = refl
take-twice (suc c) (suc n) (x ∷ xs) le = ap (λ l. x ∷ l) (take-twice c n xs (omega arith))

pub drop-twice : (a c n : ℕ) (xs : List ℕ) → n ≡ a + c → drop n xs ≡ drop c (drop a xs)
drop-twice zero c n xs is = let same : n ≡ c = omega (arith, is) in ap (λ m. drop m xs) same
drop-twice (suc a) c zero xs is = absurd (omega (arith, is))
drop-twice (suc a) c (suc n) [] is = sym (drop-none c)
drop-twice (suc a) c (suc n) (x ∷ xs) is = drop-twice a c n xs (omega (arith, is))

drop-of-take : (c n m : ℕ) (xs : List ℕ) → n ≡ c + m → drop c (take n xs) ≡ take m (drop c xs)
drop-of-take zero n m xs is = let same : n ≡ m = omega (arith, is) in ap (λ k. take k xs) same
drop-of-take (suc c) zero m xs is = absurd (omega (arith, is))
drop-of-take (suc c) (suc n) m [] is = sym (take-none m)
drop-of-take (suc c) (suc n) m (x ∷ xs) is = drop-of-take c n m xs (omega (arith, is))

-- so many bytes are no more than there are
pub within-part : (block : List ℕ) (at filled count : ℕ) → at ≤ filled → count ≤ length (take (filled - at) (drop at block)) → at + count ≤ filled
within-part block at filled count ahead le = omega (arith, ahead, le, length-take (filled - at) (drop at block))

-- the first bytes of a part were passed
pub part-passed : (block : List ℕ) (at filled count : ℕ) → at + count ≤ filled
    → take (filled - (at + count)) (drop (at + count) block) ≡ drop count (take (filled - at) (drop at block))
part-passed block at filled count le =
    ap (take (filled - (at + count))) (drop-twice at count (at + count) block refl)
    ∙ sym (drop-of-take count (filled - at) (filled - (at + count)) (drop at block) (omega (arith, le)))

-- the first bytes of a part
pub part-front : (block : List ℕ) (at filled count : ℕ) → at + count ≤ filled → slice_range block at (at + count) ≡ take count (take (filled - at) (drop at block))
part-front block at filled count le =
    let many : (at + count) - at ≡ count = omega arith in
    ap (λ n. take n (drop at block)) many ∙ sym (take-twice count (filled - at) (drop at block) (omega (arith, le)))

-- the first bytes of a part were put after other bytes
pub part-held : (cut held block : List ℕ) (at filled count : ℕ) → at + count ≤ filled → held ≡ cut ++ take count (take (filled - at) (drop at block))
    → held ++ take (filled - (at + count)) (drop (at + count) block) ≡ cut ++ take (filled - at) (drop at block)
part-held cut held block at filled count le is =
    let part = take (filled - at) (drop at block) in
    ap (λ l. held ++ l) (part-passed block at filled count le) ∙ ap (λ l. l ++ drop count part) is
    ∙ append_assoc cut (take count part) (drop count part) ∙ ap (λ l. cut ++ l) (take-append-drop count part)
