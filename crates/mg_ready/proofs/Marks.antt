-- The bits of buckets, if a place is taken out.
use Rattle.std.proofs.Common.{◌≡◌, ◌≢◌, ℕ, ◌/◌, ◌<◌, Bool, true, false, List, length, get_or, slice_set, ◌∙◌, sym, subst, take, drop, ◌++◌, inl, inr, arith, length-set, get_or-set_same, get_or-set_other}
use Rattle.std.proofs.Math.Seq.{take-append_seam}
use Rattle.std.proofs.lemmas.Bool.{cases_eq, false≢true}
use Rattle.mg_ready.specs.Code.Bits.{bit_of, ChangesBit}
use Rattle.mg_ready.specs.Code.Links.{IsEmptyIn, IsGreatestIn}
use Rattle.mg_ready.specs.Code.Places.{IsMarked}

-- what is in after a place is taken out was in before, and is another
stayed : (places : List Bool) (p q : ℕ) → p < length places → get_or (slice_set places p false) q false ≡ true → (q ≢ p) × (get_or places q false ≡ true)
stayed places p q within there =
    let other : q ≢ p = λ e. false≢true (sym (get_or-set_same places p false false within)
    ∙ subst (λ k. get_or (slice_set places p false) k false ≡ true) e there) in
    (other, sym (get_or-set_other places p q false false other) ∙ there)

-- another bucket that is empty without the place was empty with it
still_empty : (places : List Bool) (p bucket : ℕ) → bucket ≢ p / 32 → IsEmptyIn (slice_set places p false) bucket → IsEmptyIn places bucket
still_empty places p bucket apart empty q in_bucket =
    sym (get_or-set_other places p q false false (λ e. apart (omega arith))) ∙ empty q in_bucket

-- its bucket keeps its bit if another of its places is in
kept : (places : List Bool) (words : List ℕ) (p other : ℕ) → IsMarked places words → p < length places
    → IsGreatestIn (slice_set places p false) (p / 32) other → IsMarked (slice_set places p false) words
kept places words p other old within found =
    let len = length-set places p false in
    record {
      few = let f = old.few in omega arith;
      words_len = rw len old.words_len;
      marked = λ q there. old.marked q (stayed places p q within there).1;
      not_empty = λ bucket set empty. elim (cases_eq bucket (p / 32)) [
        | inl here ↦ false≢true (sym (empty other (found.within ∙ sym here)) ∙ found.there)
        | inr apart ↦ old.not_empty bucket set (still_empty places p bucket apart empty)
      ];
    }

-- a bucket loses its mark once none of its places is in
cleared : (places : List Bool) (words less : List ℕ) (p : ℕ) → IsMarked places words → p < length places
    → IsEmptyIn (slice_set places p false) (p / 32) → bit_of less (p / 32) ≡ 0 → ChangesBit words less (p / 32)
    → IsMarked (slice_set places p false) less
cleared places words less p old within empty clear changes =
    let len = length-set places p false in
    record {
      few = let f = old.few in omega arith;
      words_len = rw len (changes.len ∙ old.words_len);
      marked = λ q there. elim (cases_eq (q / 32) (p / 32)) [
        | inl here ↦ absurd (false≢true (sym (empty q here) ∙ there))
        | inr apart ↦ changes.others (q / 32) apart ∙ old.marked q (stayed places p q within there).1
      ];
      not_empty = λ bucket set none. elim (cases_eq bucket (p / 32)) [
        | inl here ↦ absurd (let zero : bit_of less (p / 32) ≡ 1 = subst (λ k. bit_of less k ≡ 1) here set in omega arith)
        | inr apart ↦ old.not_empty bucket (sym (changes.others bucket apart) ∙ set) (still_empty places p bucket apart none)
      ];
    }

-- a bucket keeps its mark if a place is taken out and another one of it is in
pub IsMarked-kept : (places after : List Bool) (words : List ℕ) (p other : ℕ) → after ≡ slice_set places p false → IsMarked places words
    → p < length places → IsGreatestIn after (p / 32) other → IsMarked after words
IsMarked-kept places after words p other is_after old within found =
    rw is_after (kept places words p other old within (subst (λ x. IsGreatestIn x (p / 32) other) is_after found))

pub IsMarked-cleared : (places after : List Bool) (words less : List ℕ) (p : ℕ) → after ≡ slice_set places p false → IsMarked places words
    → p < length places → IsEmptyIn after (p / 32) → bit_of less (p / 32) ≡ 0 → ChangesBit words less (p / 32) → IsMarked after less
IsMarked-cleared places after words less p is_after old within empty clear changes =
    rw is_after (cleared places words less p old within (subst (λ x. IsEmptyIn x (p / 32)) is_after empty) clear changes)

-- what is lent whole comes back whole
pub rejoined : (n : ℕ) (less words : List ℕ) → length less ≡ n → take n (less ++ drop (length less) words) ≡ less
rejoined n less words len = rw (← len) (take-append_seam less (drop (length less) words))
