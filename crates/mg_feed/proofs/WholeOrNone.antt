-- What is put at a text's end in whole, or not at all.
use Rattle.std.proofs.Common.{◌≡◌, ◌++◌, ℕ, List, [], ◌∷◌, take, length, cond, is_ok, Result, Ok, Err, OnOk, OnErr, append-nil, append_assoc, refl, sym, ap, subst, ◌∙◌}

-- bytes that begin with the old bytes
abbrev pub With : List ℕ → List ℕ → Type 0
With old new = (part : List ℕ) × (new ≡ old ++ part)

pub with_nothing : (old new : List ℕ) → new ≡ old → With old new
with_nothing old new same = ([], same ∙ sym (append-nil old))

pub with_more : (old mid new part : List ℕ) → With old mid → new ≡ mid ++ part → With old new
with_more old mid new part (first, is) more = (first ++ part, more ∙ (ap (λ l. l ++ part) is ∙ append_assoc old first part))

pub with_same : (old mid new : List ℕ) → With old mid → new ≡ mid → With old new
with_same old mid new (first, is) same = (first, same ∙ is)

pub with_then : (old mid new : List ℕ) → With old mid → With mid new → With old new
with_then old mid new first (part, is) = with_more old mid new part first is

front : (old part : List ℕ) → take (length old) (old ++ part) ≡ old
front [] part = refl
front (b ∷ old) part = ap (λ rest. b ∷ rest) (front old part)

pub put_whole : {E : Type 0} (pushed result : Result (Unit {0}) E) (old mid new line : List ℕ) (len : ℕ) → result ≡ pushed → new ≡ cond (is_ok pushed) mid (take len mid)
    → OnOk pushed (mid ≡ old ++ line) → OnOk result (new ≡ old ++ line)
put_whole {E} (Ok done) result old mid new line len same items put = subst (λ (r : Result (Unit {0}) E). OnOk r (new ≡ old ++ line)) (sym same) (items ∙ put)
put_whole {E} (Err error) result old mid new line len same items put = subst (λ (r : Result (Unit {0}) E). OnOk r (new ≡ old ++ line)) (sym same) tt

pub put_none : {E : Type 0} (pushed result : Result (Unit {0}) E) (old mid new : List ℕ) (len : ℕ) → result ≡ pushed → new ≡ cond (is_ok pushed) mid (take len mid) → len ≡ length old
    → OnErr pushed (With old mid) → OnErr result (new ≡ old)
put_none {E} (Ok done) result old mid new len same items long part = subst (λ (r : Result (Unit {0}) E). OnErr r (new ≡ old)) (sym same) tt
put_none {E} (Err error) result old mid new len same items long (part, is) =
    subst (λ (r : Result (Unit {0}) E). OnErr r (new ≡ old)) (sym same)
    (items ∙ (ap (λ n. take n mid) long ∙ (ap (take (length old)) is ∙ front old part)))
