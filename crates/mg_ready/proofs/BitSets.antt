-- Sets of numbers as words of bits.
use Rattle.std.proofs.Common.{◌≡◌, ◌≢◌, ℕ, ◌+◌, ◌*◌, ◌/◌, ◌%◌, ◌^◌, ◌-◌, suc, ◌<◌, ◌≤◌, List, length, get_or, slice_set, ◌∙◌, ap, inl, inr, arith, length-set, get_or-set_same, get_or-set_other}
use Rattle.std.proofs.Math.Nat.{pow-suc}
use Rattle.std.proofs.lemmas.Bool.{cases_eq}
use Rattle.std.proofs.lemmas.Nat.Bits.{bit_at-zero, bit_at_above}
use Rattle.std.proofs.lemmas.Nat.{shr_high}
use Rattle.std.specs.Int.{bit_at}
use Rattle.mg_ready.specs.Code.Bits.{bit_of, ChangesBit, IsGreatest}

-- what is written into a number's word is read back of it
pub bit_of-set : (words : List ℕ) (n w : ℕ) → n < 64 * length words → bit_of (slice_set words (n / 64) w) n ≡ bit_at w (n % 64)
bit_of-set words n w within =
    ap (λ x. bit_at x (n % 64)) (get_or-set_same words (n / 64) w 0 (omega arith))

-- a word that differs in one bit changes that bit alone
pub ChangesBit-set : (words : List ℕ) (n w : ℕ) → n < 64 * length words
    → ((i : ℕ) → i < 64 → i ≢ n % 64 → bit_at w i ≡ bit_at (get_or words (n / 64) 0) i)
    → ChangesBit words (slice_set words (n / 64) w) n
ChangesBit-set words n w within same = record {
  len = length-set words (n / 64) w;
  others = λ k other. elim (cases_eq (k / 64) (n / 64)) [
    | inl here ↦ rw (here, get_or-set_same words (n / 64) w 0 (omega arith)) (same (k % 64) (omega arith) (λ e. other (omega arith)))
    | inr apart ↦ ap (λ x. bit_at x (k % 64)) (get_or-set_other words (n / 64) (k / 64) w 0 apart)
  ];
}

-- the bit at the logarithm of a word is set, and those above it are not
pub top_bit : (w t : ℕ) → 2 ^ t ≤ w → w < 2 * 2 ^ t → bit_at w t ≡ 1
top_bit w t low high =
    let rest : w ≡ 1 * 2 ^ t + (w - 2 ^ t) = omega arith in
    let whole : w / 2 ^ t ≡ 1 = ap (λ x. x / 2 ^ t) rest ∙ shr_high 1 t (w - 2 ^ t) (omega arith) in
    rw whole

-- the first word from the end that isn't 0 has the greatest number
pub IsGreatest-found : (words : List ℕ) (i t : ℕ) → i < length words → t < 64 → 2 ^ t ≤ get_or words i 0
    → get_or words i 0 < 2 * 2 ^ t → ((j : ℕ) → i < j → get_or words j 0 ≡ 0) → IsGreatest words (i * 64 + t)
IsGreatest-found words i t within small low high none =
    let word : (i * 64 + t) / 64 ≡ i = omega arith in
    let place : (i * 64 + t) % 64 ≡ t = omega arith in
    record {
      there = rw (word, place) (top_bit (get_or words i 0) t low high);
      above = λ k later. elim (cases_eq (k / 64) i) [
        | inl here ↦ rw here (bit_at_above (get_or words i 0) (suc t) (k % 64) (omega (arith, pow-suc 2 t)) (omega arith))
        | inr apart ↦ rw (none (k / 64) (omega arith)) (bit_at-zero (k % 64))
      ];
    }
