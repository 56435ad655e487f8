-- Chains of linked slots: what a slot more, and one less, leaves of them.
use Rattle.std.proofs.Common.{◌≡◌, ◌≢◌, ℕ, ◌<◌, ◌≤◌, Bool, true, false, List, length, get_or, slice_set, ◌∙◌, sym, ap, inl, inr, arith, length-set, get_or-set_same, get_or-set_other}
use Rattle.std.proofs.lemmas.Bool.{cases_eq, cases_lt, false≢true}
use Rattle.mg_ready.specs.Code.Links.{IsNext, IsChain}

-- a linked slot lies outside each gap
pub outside_gap : (linked : ℕ → Bool) (a b s : ℕ) → IsNext linked a b → linked s ≡ true → a < s → s < b → ⊥
outside_gap linked a b s gap there low high = false≢true (sym (gap.between s low high) ∙ there)

-- two gaps with a slot in both end at one slot
pub one_gap_above : (linked : ℕ → Bool) (a b c d : ℕ) → IsNext linked a b → IsNext linked c d → a < d → c < b → b ≡ d
one_gap_above linked a b c d first second p q = elim (cases_lt b d) [
  | inl less ↦ absurd (outside_gap linked c d b second first.high_linked q less)
  | inr more ↦ elim (cases_lt d b) [
    | inl less ↦ absurd (outside_gap linked a b d first second.high_linked p less)
    | inr same ↦ omega arith
  ]
]

-- a number is written at two places of a list
pub written : (xs : List ℕ) (i j v w : ℕ) → i < length xs → j < length xs → i ≢ j
    → (get_or (slice_set (slice_set xs i v) j w) i 0 ≡ v) × (get_or (slice_set (slice_set xs i v) j w) j 0 ≡ w)
    × ((k : ℕ) → k ≢ i → k ≢ j → get_or (slice_set (slice_set xs i v) j w) k 0 ≡ get_or xs k 0)
written xs i j v w inside also apart = (
  get_or-set_other (slice_set xs i v) j i w 0 apart ∙ get_or-set_same xs i v 0 inside,
  get_or-set_same (slice_set xs i v) j w 0 (let e = length-set xs i v in omega arith),
  λ k p q. get_or-set_other (slice_set xs i v) j k w 0 q ∙ get_or-set_other xs i k v 0 p,
)

-- ---- one slot more, in a gap
module _ (linked more : ℕ → Bool) (slot low high : ℕ) (set : more slot ≡ true)
    (same : (s : ℕ) → s ≢ slot → more s ≡ linked s) (gap : IsNext linked low high) (above : low < slot) (below : slot < high) where
  gap_below : IsNext more low slot
  gap_below = record {
    below = above;
    low_linked = same low (λ e. omega arith) ∙ gap.low_linked;
    high_linked = set;
    between = λ s p q. same s (λ e. omega arith) ∙ gap.between s p (omega arith);
  }

  gap_above : IsNext more slot high
  gap_above = record {
    below = below;
    low_linked = set;
    high_linked = same high (λ e. omega arith) ∙ gap.high_linked;
    between = λ s p q. same s (λ e. omega arith) ∙ gap.between s (omega arith) q;
  }

  stays_linked : (s : ℕ) → linked s ≡ true → more s ≡ true
  stays_linked s there = elim (cases_eq s slot) [
    | inl here ↦ rw here set
    | inr other ↦ same s other ∙ there
  ]

  -- a gap that ends elsewhere stays
  other_gap : (a b : ℕ) → IsNext linked a b → b ≢ high → IsNext more a b
  other_gap a b old other = record {
    below = old.below;
    low_linked = stays_linked a old.low_linked;
    high_linked = stays_linked b old.high_linked;
    between = λ s p q. elim (cases_eq s slot) [
      | inl here ↦ absurd (other (one_gap_above linked a b low high old gap (omega arith) (omega arith)))
      | inr apart ↦ same s apart ∙ old.between s p q
    ];
  }

  pub chain-inserted : (top : ℕ) (up down : List ℕ) → high ≤ top → IsChain linked top up down
      → IsChain more top (slice_set (slice_set up slot high) low slot) (slice_set (slice_set down slot low) high slot)
  chain-inserted top up down within chain =
      let ups = written up slot low high slot (omega (arith, chain.above_len)) (omega (arith, chain.above_len)) (λ e. omega arith) in
      let downs = written down slot high low slot (omega (arith, chain.below_len)) (omega (arith, chain.below_len)) (λ e. omega arith) in
      record {
        above_len = length-set (slice_set up slot high) low slot ∙ length-set up slot high ∙ chain.above_len;
        below_len = length-set (slice_set down slot low) high slot ∙ length-set down slot low ∙ chain.below_len;
        up = λ s small there. elim (cases_eq s slot) [
          | inl here ↦ rw (here, ups.0) gap_above
          | inr apart ↦ elim (cases_eq s low) [
            | inl here ↦ rw (here, ups.1) gap_below
            | inr other ↦ rw (ups.2 s apart other)
                (let old : IsNext linked s (get_or up s 0) = chain.up s small (sym (same s apart) ∙ there) in
                other_gap s (get_or up s 0) old
                (λ e. elim (cases_lt s low) [
                  | inl less ↦ outside_gap linked s (get_or up s 0) low old gap.low_linked less (omega arith)
                  | inr rest ↦ outside_gap linked low high s gap old.low_linked (omega arith) (let f = old.below in omega arith)
                ]))
          ]
        ];
        down = λ s positive small there. elim (cases_eq s slot) [
          | inl here ↦ rw (here, downs.0) gap_below
          | inr apart ↦ elim (cases_eq s high) [
            | inl here ↦ rw (here, downs.1) gap_above
            | inr other ↦ rw (downs.2 s apart other)
                (other_gap (get_or down s 0) s (chain.down s positive small (sym (same s apart) ∙ there)) other)
          ]
        ];
      }

-- ---- one slot less
module _ (linked less : ℕ → Bool) (slot low high : ℕ) (out : less slot ≡ false)
    (same : (s : ℕ) → s ≢ slot → less s ≡ linked s) (under : IsNext linked low slot) (over : IsNext linked slot high) where
  joined : IsNext less low high
  joined = record {
    below = let p = under.below in let q = over.below in omega arith;
    low_linked = same low (λ e. let p = under.below in omega arith) ∙ under.low_linked;
    high_linked = same high (λ e. let p = over.below in omega arith) ∙ over.high_linked;
    between = λ s p q. elim (cases_eq s slot) [
      | inl here ↦ rw here out
      | inr apart ↦ same s apart ∙ elim (cases_lt s slot) [
        | inl left ↦ under.between s p left
        | inr right ↦ over.between s (omega arith) q
      ]
    ];
  }

  untouched : (a b : ℕ) → IsNext linked a b → a ≢ slot → b ≢ slot → IsNext less a b
  untouched a b old p q = record {
    below = old.below;
    low_linked = same a p ∙ old.low_linked;
    high_linked = same b q ∙ old.high_linked;
    between = λ s m n. elim (cases_eq s slot) [
      | inl here ↦ rw here out
      | inr apart ↦ same s apart ∙ old.between s m n
    ];
  }

  not_slot : (s : ℕ) → less s ≡ true → s ≢ slot
  not_slot s there e = false≢true (sym out ∙ ap less (sym e) ∙ there)

  pub chain-removed : (top : ℕ) (up down : List ℕ) → high ≤ top → IsChain linked top up down
      → IsChain less top (slice_set up low high) (slice_set down high low)
  chain-removed top up down within chain =
      let below_slot : low < slot = under.below in
      let above_slot : slot < high = over.below in
      record {
        above_len = length-set up low high ∙ chain.above_len;
        below_len = length-set down high low ∙ chain.below_len;
        up = λ s small there. elim (cases_eq s low) [
          | inl here ↦ rw (here, get_or-set_same up low high 0 (omega (arith, chain.above_len))) joined
          | inr other ↦ rw (get_or-set_other up low s high 0 other)
              (let apart : s ≢ slot = not_slot s there in
              let old : IsNext linked s (get_or up s 0) = chain.up s small (sym (same s apart) ∙ there) in
              untouched s (get_or up s 0) old apart
              (λ e. elim (cases_lt s low) [
                | inl left ↦ outside_gap linked s (get_or up s 0) low old under.low_linked left (omega arith)
                | inr right ↦ outside_gap linked low slot s under old.low_linked (omega arith) (let f = old.below in omega arith)
              ]))
        ];
        down = λ s positive small there. elim (cases_eq s high) [
          | inl here ↦ rw (here, get_or-set_same down high low 0 (omega (arith, chain.below_len))) joined
          | inr other ↦ rw (get_or-set_other down high s low 0 other)
              (let apart : s ≢ slot = not_slot s there in
              let old : IsNext linked (get_or down s 0) s = chain.down s positive small (sym (same s apart) ∙ there) in
              untouched (get_or down s 0) s old
              (λ e. other (one_gap_above linked (get_or down s 0) s slot high old over (let f = old.below in omega arith) (let f = old.below in omega arith)))
              apart)
        ];
      }
