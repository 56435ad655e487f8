-- What completes a name that is read in part, and how such a rest makes a name of the grammar.
use Rattle.std.proofs.Common.{◌≡◌, ℕ, List, [], ◌∷◌, ◌++◌, Bool, true, false, Some, refl, sym, ap, subst, ◌⊎◌, inl, inr, append_assoc}
use Rattle.std.proofs.lemmas.List.{append-nil}
use Rattle.mg_text.specs.declared.parts.Class.{Class}
use Rattle.mg_text.specs.declared.parts.Class.TheVariants.{BracketOpen, BracketClose, Dot, Slash}
use Rattle.mg_text.specs.declared.state.NamePart.{NamePart}
use Rattle.mg_text.specs.declared.state.NamePart.TheVariants as np
use Rattle.mg_text.specs.Byte.{class_of, is_letter, is_word_byte}
use Rattle.mg_text.specs.Grammar as g
use Rattle.mg_text.specs.Grammar.{AllOf, IsWord, IsPath, IsName}
use Rattle.mg_text.specs.Code.Machine.{name_next, is_whole_name}
use Rattle.mg_text.proofs.Choices.{from_if}

-- these bytes end a name that is read in part
abbrev pub NameEnds : NamePart → List ℕ → Type 0
NameEnds part [] = is_whole_name part ≡ true
NameEnds part (b ∷ y) = (q : NamePart) × (name_next part (class_of b) ≡ Some q) × NameEnds q y

word_of_name : (y : List ℕ) → NameEnds np.Word y → AllOf is_word_byte y
word_of_name [] h = tt
word_of_name (b ∷ y) (q, e, h) =
    let f = from_if (is_word_byte (class_of b)) e in
    (f.0, word_of_name y (subst (λ p. NameEnds p y) (sym f.1) h))

inner_next : (c : Class) (q : NamePart) → name_next np.Inner c ≡ Some q
    → ((c ≡ Dot) × (q ≡ np.Begins)) ⊎ (((c ≡ Slash) × (q ≡ np.SlashBegins)) ⊎ (((c ≡ BracketClose) × (q ≡ np.Closed)) ⊎ ((is_word_byte c ≡ true) × (q ≡ np.Inner))))
inner_next Dot q e = inl (refl, cc)
inner_next Slash q e = inr (inl (refl, cc))
inner_next BracketClose q e = inr (inr (inl (refl, cc)))
inner_next c q e = let f = from_if (is_word_byte c) e in inr (inr (inr (f.0, sym f.1)))

slash_inner_next : (c : Class) (q : NamePart) → name_next np.SlashInner c ≡ Some q
    → ((c ≡ Dot) × (q ≡ np.SlashBegins)) ⊎ (((c ≡ BracketClose) × (q ≡ np.Closed)) ⊎ ((is_word_byte c ≡ true) × (q ≡ np.SlashInner)))
slash_inner_next Dot q e = inl (refl, cc)
slash_inner_next BracketClose q e = inr (inl (refl, cc))
slash_inner_next c q e = let f = from_if (is_word_byte c) e in inr (inr (f.0, sym f.1))

closed_name : (y : List ℕ) → NameEnds np.Closed y → y ≡ []
closed_name [] h = refl
closed_name (b ∷ y) (q, e, h) = cc

-- bytes that end a path, whose last word has begun or hasn't
abbrev PathEnds : Bool → List ℕ → Type 0
PathEnds true m = (w : List ℕ) → IsWord w → IsPath (w ++ m)
PathEnds false m = IsPath m

AllOf-append : (u v : List ℕ) → AllOf is_word_byte u → AllOf is_word_byte v → AllOf is_word_byte (u ++ v)
AllOf-append [] v h k = k
AllOf-append (b ∷ u) v h k = (h.0, AllOf-append u v h.1 k)

word-append : (u v : List ℕ) → IsWord u → AllOf is_word_byte v → IsWord (u ++ v)
word-append [] v h k = absurd h
word-append (b ∷ u) v h k = (h.0, AllOf-append u v h.1 k)

ends-word_byte : (b : ℕ) (m : List ℕ) → is_word_byte (class_of b) ≡ true → PathEnds true m → PathEnds true (b ∷ m)
ends-word_byte b m e h = λ w iw. subst IsPath (append_assoc w (b ∷ []) m) (h (w ++ b ∷ []) (word-append w (b ∷ []) iw (e, tt)))

ends-letter : (b : ℕ) (m : List ℕ) → is_letter (class_of b) ≡ true → PathEnds true m → PathEnds false (b ∷ m)
ends-letter b m e h = h (b ∷ []) (e, tt)

ends-dot : (b : ℕ) (m : List ℕ) → class_of b ≡ Dot → PathEnds false m → PathEnds true (b ∷ m)
ends-dot b m e h = λ w iw. g.more w b iw e h

ends-nothing : PathEnds true []
ends-nothing w iw = subst IsPath (sym (append-nil w)) (g.last w iw)

-- after the slash: the rest of a path, and the bracket
abbrev LastPath : Bool → List ℕ → Type 0
LastPath inner y = (m : List ℕ) × (c : ℕ) × (y ≡ m ++ c ∷ []) × (class_of c ≡ BracketClose) × PathEnds inner m

mutual
  last_path_inner : (y : List ℕ) → NameEnds np.SlashInner y → LastPath true y
  last_path_inner [] h = absurd (let e : false ≡ true = h in cc)
  last_path_inner (b ∷ y) (q, e, h) =
      elim (slash_inner_next (class_of b) q e) [
        | inl d ↦ (let r = last_path_begins y (subst (λ p. NameEnds p y) d.1 h) in (b ∷ r.0, r.1, ap (λ z. b ∷ z) r.2, r.3, ends-dot b r.0 d.0 r.4))
        | inr k ↦ elim k [
          | inl d ↦ (let z = closed_name y (subst (λ p. NameEnds p y) d.1 h) in ([], b, ap (λ z. b ∷ z) z, d.0, ends-nothing))
          | inr d ↦ (let r = last_path_inner y (subst (λ p. NameEnds p y) d.1 h) in (b ∷ r.0, r.1, ap (λ z. b ∷ z) r.2, r.3, ends-word_byte b r.0 d.0 r.4))
        ]
      ]

  last_path_begins : (y : List ℕ) → NameEnds np.SlashBegins y → LastPath false y
  last_path_begins [] h = absurd (let e : false ≡ true = h in cc)
  last_path_begins (b ∷ y) (q, e, h) =
      let f = from_if (is_letter (class_of b)) e in
      let r = last_path_inner y (subst (λ p. NameEnds p y) (sym f.1) h) in (b ∷ r.0, r.1, ap (λ z. b ∷ z) r.2, r.3, ends-letter b r.0 f.0 r.4)

-- before a slash: the rest of a path, and either the bracket, or the slash and a path and the bracket
abbrev FirstPath : Bool → List ℕ → Type 0
FirstPath inner y = LastPath inner y ⊎ ((m : List ℕ) × (s : ℕ) × (p : List ℕ) × (c : ℕ) × (y ≡ m ++ s ∷ p ++ c ∷ []) × (class_of s ≡ Slash) × IsPath p × (class_of c ≡ BracketClose) × PathEnds inner m)

prefix_path : (i j : Bool) (b : ℕ) (y : List ℕ) → ((m : List ℕ) → PathEnds i m → PathEnds j (b ∷ m)) → FirstPath i y → FirstPath j (b ∷ y)
prefix_path i j b y f (inl r) = inl (b ∷ r.0, r.1, ap (λ z. b ∷ z) r.2, r.3, f r.0 r.4)
prefix_path i j b y f (inr r) = inr (b ∷ r.0, r.1, r.2, r.3, ap (λ z. b ∷ z) r.4, r.5, r.6, r.7, f r.0 r.8)

mutual
  first_path_inner : (y : List ℕ) → NameEnds np.Inner y → FirstPath true y
  first_path_inner [] h = absurd (let e : false ≡ true = h in cc)
  first_path_inner (b ∷ y) (q, e, h) =
      elim (inner_next (class_of b) q e) [
        | inl d ↦ prefix_path false true b y (λ m k. ends-dot b m d.0 k) (first_path_begins y (subst (λ p. NameEnds p y) d.1 h))
        | inr k ↦ elim k [
          | inl d ↦ (let r = last_path_begins y (subst (λ p. NameEnds p y) d.1 h) in inr ([], b, r.0, r.1, ap (λ z. b ∷ z) r.2, d.0, r.4, r.3, ends-nothing))
          | inr k ↦ elim k [
            | inl d ↦ (let z = closed_name y (subst (λ p. NameEnds p y) d.1 h) in inl ([], b, ap (λ z. b ∷ z) z, d.0, ends-nothing))
            | inr d ↦ prefix_path true true b y (λ m k. ends-word_byte b m d.0 k) (first_path_inner y (subst (λ p. NameEnds p y) d.1 h))
          ]
        ]
      ]

  first_path_begins : (y : List ℕ) → NameEnds np.Begins y → FirstPath false y
  first_path_begins [] h = absurd (let e : false ≡ true = h in cc)
  first_path_begins (b ∷ y) (q, e, h) =
      let f = from_if (is_letter (class_of b)) e in
      prefix_path true false b y (λ m k. ends-letter b m f.0 k) (first_path_inner y (subst (λ p. NameEnds p y) (sym f.1) h))

pub word_name : (b : ℕ) (y : List ℕ) → is_letter (class_of b) ≡ true → NameEnds np.Word y → IsName (b ∷ y)
word_name b y e h = g.plain (b ∷ y) (e, word_of_name y h)

bracket_name_of : (b : ℕ) (y : List ℕ) → class_of b ≡ BracketOpen → FirstPath false y → IsName (b ∷ y)
bracket_name_of b y e (inl r) = subst (λ z. IsName (b ∷ z)) (sym r.2) (g.extension r.1 e r.4 r.3)
bracket_name_of b y e (inr r) = subst (λ z. IsName (b ∷ z)) (sym r.4) (g.any r.1 r.3 e r.8 r.5 r.6 r.7)

pub bracket_name : (b : ℕ) (y : List ℕ) → class_of b ≡ BracketOpen → NameEnds np.Begins y → IsName (b ∷ y)
bracket_name b y e h = bracket_name_of b y e (first_path_begins y h)
