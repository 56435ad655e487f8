-- Bytes are their whole lines, and a rest.
use Rattle.std.proofs.Common.{◌≡◌, ◌==◌, ℕ, Bool, true, false, List, [], ◌∷◌, ◌++◌, refl, ap, arith, if◌then◌else◌}
use Rattle.std.proofs.lemmas.Bool.Decides.{nat_tests}
use Rattle.mg_feed.specs.Lines.{IsCut, parts, with_first, but_last, last_part, all_lines, whole_lines, unended_line}
use Rattle.mg_feed.proofs.Cutting.{cut-all}

is_feed : (b : ℕ) → (b == 10) ≡ true → b ≡ 10
is_feed b is = grind (arith, nat_tests)

some_parts : (feed : Bool) (b : ℕ) (ps : List (List ℕ)) → (if feed then [] ∷ ps else with_first b ps) ≡ [] → ⊥
some_parts true b ps is = cc
some_parts false b [] is = cc
some_parts false b (p ∷ ps) is = cc

never_none : (bytes : List ℕ) → parts bytes ≡ [] → ⊥
never_none [] is = cc
never_none (b ∷ bytes) is = some_parts (b == 10) b (parts bytes) is

cut_more : (feed : Bool) (b : ℕ) (bytes : List ℕ) (ps : List (List ℕ)) → (b == 10) ≡ feed → (ps ≡ [] → ⊥) → IsCut bytes (but_last ps) (last_part ps)
    → IsCut (b ∷ bytes) (but_last (if feed then [] ∷ ps else with_first b ps)) (last_part (if feed then [] ∷ ps else with_first b ps))
cut_more feed b bytes [] is some cut = absurd (some refl)
cut_more true b bytes (p ∷ ps) is some cut = record { whole = (tt, cut.whole); is = (let ten = is_feed b is in λ i. ten i ∷ cut.is i) }
cut_more false b bytes (p ∷ []) is some cut = record { whole = tt; is = ap (λ (l : List ℕ). b ∷ l) cut.is }
cut_more false b bytes (p ∷ q ∷ ps) is some cut = record { whole = ((is, cut.whole.0), cut.whole.1); is = ap (λ (l : List ℕ). b ∷ l) cut.is }

cut_of : (bytes : List ℕ) → IsCut bytes (whole_lines bytes) (unended_line bytes)
cut_of [] = record { whole = tt; is = refl }
cut_of (b ∷ bytes) = cut_more (b == 10) b bytes (parts bytes) refl (never_none bytes) (cut_of bytes)

pub whole_then : (bytes more : List ℕ) → all_lines (bytes ++ more) ≡ whole_lines bytes ++ all_lines (unended_line bytes ++ more)
whole_then bytes more = cut-all bytes (whole_lines bytes) (unended_line bytes) more (cut_of bytes)
