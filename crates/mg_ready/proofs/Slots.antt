-- Slots and places, and what a place that is put in or taken out leaves of the links.
use Rattle.std.proofs.Common.{◌≡◌, ◌≢◌, ℕ, ◌+◌, ◌-◌, ◌*◌, ◌/◌, ◌%◌, ◌^◌, ◌<◌, ◌≤◌, Bool, true, false, List, length, get_or, slice_set, ◌∙◌, sym, ap, subst, inl, inr, arith, length-set, get_or-set_same, get_or-set_other, eq-eqb, replicate, max, Fits, w32}
use Rattle.std.proofs.lemmas.Bool.{cases_eq, cases_lt, cases_order, false≢true, ne_eqb}
use Rattle.std.proofs.lemmas.List.{length-replicate, get_or-replicate, get_or_past, get_or_read}
use Rattle.mg_ready.specs.Code.Links.{slot_of, place_of, top_of, is_linked, IsNext, IsLinked, IsRoofOver, IsEmptyIn, IsGreatestIn}
use Rattle.mg_ready.proofs.Chains.{chain-inserted, chain-removed, outside_gap}

-- a slot between two buckets is linked
pub is_linked-end : (places : List Bool) (s : ℕ) → s % 33 ≡ 0 → is_linked places s ≡ true
unfolding is_linked
is_linked-end places s e = rw (eq-eqb (s % 33) 0 e)

-- another is linked if its place is in
pub is_linked-inner : (places : List Bool) (s : ℕ) → s % 33 ≢ 0 → is_linked places s ≡ get_or places (place_of s) false
unfolding is_linked
is_linked-inner places s ne = rw (ne_eqb (s % 33) 0 ne)

pub is_linked-slot_of : (places : List Bool) (p : ℕ) → is_linked places (slot_of p) ≡ get_or places p false
is_linked-slot_of places p =
    let back : place_of (slot_of p) ≡ p = omega arith in
    is_linked-inner places (slot_of p) (λ e. omega arith) ∙ ap (λ x. get_or places x false) back

-- a place that changes changes the link of its own slot alone
pub is_linked-set_same : (places : List Bool) (p : ℕ) (v : Bool) → p < length places → is_linked (slice_set places p v) (slot_of p) ≡ v
is_linked-set_same places p v within = is_linked-slot_of (slice_set places p v) p ∙ get_or-set_same places p v false within

pub is_linked-set_other : (places : List Bool) (p : ℕ) (v : Bool) (s : ℕ) → s ≢ slot_of p → is_linked (slice_set places p v) s ≡ is_linked places s
is_linked-set_other places p v s other = elim (cases_eq (s % 33) 0) [
  | inl end ↦ is_linked-end (slice_set places p v) s end ∙ sym (is_linked-end places s end)
  | inr inner ↦ is_linked-inner (slice_set places p v) s inner
      ∙ get_or-set_other places p (place_of s) v false (λ e. other (omega arith)) ∙ sym (is_linked-inner places s inner)
]

-- the linked neighbours of the slot of a place
pub record IsAround (places : List Bool) (p low high : ℕ) : Type 0 where
  pub under : IsNext (is_linked places) low (slot_of p)
  pub over : IsNext (is_linked places) (slot_of p) high
  pub inside : high ≤ top_of (length places)

-- no linked slot is past the top, since the top is linked
pub below_top : (places : List Bool) (a b : ℕ) → a < top_of (length places) → IsNext (is_linked places) a b → b ≤ top_of (length places)
below_top places a b small gap = elim (cases_lt (top_of (length places)) b) [
  | inl past ↦ absurd (outside_gap (is_linked places) a b (top_of (length places)) gap (is_linked-end places _ (omega arith)) small past)
  | inr fits ↦ fits
]

-- the links of a place that is in lead to its neighbours
pub around : (places : List Bool) (up down : List ℕ) (p slot low high : ℕ) → IsLinked places up down → p < length places
    → get_or places p false ≡ true → slot ≡ slot_of p → low ≡ get_or down slot 0 → high ≡ get_or up slot 0 → IsAround places p low high
around places up down p slot low high old within there at is_low is_high =
    let linked : is_linked places (slot_of p) ≡ true = is_linked-slot_of places p ∙ there in
    let over : IsNext (is_linked places) (slot_of p) high = rw (is_high, at) (old.chain.up (slot_of p) (omega arith) linked) in
    record {
      under = rw (is_low, at) (old.chain.down (slot_of p) (omega arith) (omega arith) linked);
      over = over;
      inside = below_top places (slot_of p) high (omega arith) over;
    }

-- a place is put in between its neighbours
pub IsLinked-inserted : (places : List Bool) (up down : List ℕ) (p slot low high : ℕ) → IsLinked places up down → p < length places
    → slot ≡ slot_of p → IsNext (is_linked places) low high → low < slot → slot < high → high ≤ top_of (length places)
    → IsLinked (slice_set places p true) (slice_set (slice_set up slot high) low slot) (slice_set (slice_set down slot low) high slot)
IsLinked-inserted places up down p slot low high old within at gap above below inside =
    let len = length-set places p true in
    record {
      few = let f = old.few in omega arith;
      chain = rw len (chain-inserted (is_linked places) (is_linked (slice_set places p true)) slot low high
          (rw at (is_linked-set_same places p true within)) (λ s other. is_linked-set_other places p true s (λ e. other (e ∙ sym at)))
          gap above below (top_of (length places)) up down inside old.chain);
    }

-- a place is taken out from between its neighbours
pub IsLinked-removed : (places : List Bool) (up down : List ℕ) (p low high : ℕ) → IsLinked places up down → p < length places
    → IsAround places p low high → IsLinked (slice_set places p false) (slice_set up low high) (slice_set down high low)
IsLinked-removed places up down p low high old within near =
    let len = length-set places p false in
    record {
      few = let f = old.few in omega arith;
      chain = rw len (chain-removed (is_linked places) (is_linked (slice_set places p false)) (slot_of p) low high
          (is_linked-set_same places p false within) (is_linked-set_other places p false) near.under near.over (top_of (length places)) up down near.inside old.chain);
    }

-- none of places that are all out is in
pub out_of : (n i : ℕ) → get_or (replicate n false) i false ≡ false
out_of n i = elim (cases_lt i n) [
  | inl within ↦ get_or-replicate n i false false within
  | inr past ↦ get_or_past (replicate n false) i false (let e = length-replicate n false in omega arith)
]

-- the slots of places that are all out
pub IsLinked-empty : (n top : ℕ) (places : List Bool) (up down : List ℕ) → n < 2 ^ 32 → top ≡ top_of n → places ≡ replicate n false
    → length up ≡ top + 1 → length down ≡ top + 1 → ((s : ℕ) → s ≤ top → get_or up s 0 ≡ s + 33)
    → ((s : ℕ) → s ≤ top → get_or down s 0 + 33 ≡ max s 33) → IsLinked places up down
IsLinked-empty n top places up down few is_top all up_len down_len ups downs =
    let len : length places ≡ n = ap length all ∙ length-replicate n false in
    let out : (s : ℕ) → s % 33 ≢ 0 → is_linked places s ≡ false = λ s inner. is_linked-inner places s inner ∙ rw all (out_of n (place_of s)) in
    let end_of : (s : ℕ) → is_linked places s ≡ true → s % 33 ≡ 0 = λ s there. elim (cases_eq (s % 33) 0) [
      | inl end ↦ end
      | inr inner ↦ absurd (false≢true (sym (out s inner) ∙ there))
    ] in
    let next : (s : ℕ) → s % 33 ≡ 0 → IsNext (is_linked places) s (s + 33) = λ s end. record {
      below = omega arith;
      low_linked = is_linked-end places s end;
      high_linked = is_linked-end places (s + 33) (omega arith);
      between = λ t p q. out t (λ e. omega arith);
    } in
    record {
      few = omega arith;
      chain = rw (len, ← is_top) record {
        above_len = up_len;
        below_len = down_len;
        up = λ s small there. rw (ups s (omega arith)) (next s (end_of s there));
        down = λ s positive small there.
            let here : get_or down s 0 + 33 ≡ s = let e = end_of s there in omega (arith, downs s small) in
            subst (λ t. IsNext (is_linked places) (get_or down s 0) t) here (next (get_or down s 0) (let e = end_of s there in omega arith));
      };
    }

-- what the code writes where it puts a place in
pub IsLinked-put : (places value : List Bool) (up down : List ℕ) (p slot low high : ℕ) → places ≡ value → IsLinked places up down
    → p < length value → get_or value p false ≡ false → slot ≡ slot_of p → IsRoofOver value slot high → low ≡ get_or down high low
    → IsLinked (slice_set places p true) (slice_set (slice_set up slot high) low slot) (slice_set (slice_set down slot low) high slot)
IsLinked-put places value up down p slot low high same old within out at roof_of read =
    let roof : IsRoofOver places slot high = subst (λ v. IsRoofOver v slot high) (sym same) roof_of in
    let len = ap length same in
    let above : slot < high = roof.above in
    let inside : high ≤ top_of (length places) = roof.within in
    let is_low : low ≡ get_or down high 0 = get_or_read down high low (omega (arith, old.chain.below_len)) read 0 in
    let gap : IsNext (is_linked places) low high = rw is_low (old.chain.down high (omega arith) inside roof.linked) in
    let not_there : is_linked places slot ≡ false = rw at (is_linked-slot_of places p ∙ rw same out) in
    let below : low < slot = elim (cases_order low slot) [
      | inl e ↦ absurd (false≢true (sym not_there ∙ rw (sym e) gap.low_linked))
      | inr apart ↦ elim apart [
        | inl less ↦ less
        | inr more ↦ absurd (false≢true (sym (roof.between low more gap.below) ∙ gap.low_linked))
      ]
    ] in
    IsLinked-inserted places up down p slot low high old (omega arith) at gap below above inside

-- what the code reads where it takes a place out
pub IsAround-read : (places value : List Bool) (up down : List ℕ) (p slot low high : ℕ) → places ≡ value → IsLinked places up down
    → p < length value → get_or value p false ≡ true → slot ≡ slot_of p → low ≡ get_or down slot low → high ≡ get_or up slot high
    → (low < length up) × (high < length down) × IsLinked (slice_set places p false) (slice_set up low high) (slice_set down high low)
IsAround-read places value up down p slot low high same old within there at read_low read_high =
    let len = ap length same in
    let ups = old.chain.above_len in
    let downs = old.chain.below_len in
    let near : IsAround places p low high = around places up down p slot low high old (omega arith) (rw same there) at
    (get_or_read down slot low (omega arith) read_low 0) (get_or_read up slot high (omega arith) read_high 0) in
    (omega (arith, near.under.below), omega (arith, near.inside), IsLinked-removed places up down p low high old (omega arith) near)

-- the greatest place of a bucket, as the slot that the bucket's end leads down to
pub IsEmptyIn-found : (places : List Bool) (bucket slot : ℕ) → IsNext (is_linked places) slot (bucket * 33 + 33) → slot ≡ bucket * 33 → IsEmptyIn places bucket
IsEmptyIn-found places bucket slot gap end q in_bucket =
    sym (is_linked-slot_of places q) ∙ gap.between (slot_of q) (omega arith) (omega arith)

pub IsGreatestIn-found : (places : List Bool) (bucket slot p : ℕ) → IsNext (is_linked places) slot (bucket * 33 + 33) → bucket * 33 < slot → slot ≡ slot_of p
    → IsGreatestIn places bucket p
IsGreatestIn-found places bucket slot p gap inner at = record {
  within = let f = gap.below in omega arith;
  there = sym (is_linked-slot_of places p) ∙ rw at at gap.low_linked;
  greatest = λ q in_bucket later. sym (is_linked-slot_of places q) ∙ gap.between (slot_of q) (omega arith) (omega arith);
}

-- the slot that a bucket's end leads down to is not below the bucket
pub in_bucket : (places : List Bool) (bucket slot : ℕ) → IsNext (is_linked places) slot (bucket * 33 + 33) → bucket * 33 ≤ slot
in_bucket places bucket slot gap = elim (cases_lt slot (bucket * 33)) [
  | inl less ↦ absurd (outside_gap (is_linked places) slot (bucket * 33 + 33) (bucket * 33) gap (is_linked-end places (bucket * 33) (omega arith)) less (omega arith))
  | inr more ↦ more
]

-- what the code reads at the end of a bucket
pub bucket_read : (places value : List Bool) (up down : List ℕ) (bucket slot : ℕ) → places ≡ value → IsLinked places up down
    → bucket < (length value + 31) / 32 → slot ≡ get_or down (bucket * 33 + 33) slot → IsNext (is_linked value) slot (bucket * 33 + 33)
bucket_read places value up down bucket slot same old within read =
    let len = ap length same in
    let is_slot : slot ≡ get_or down (bucket * 33 + 33) 0 = get_or_read down (bucket * 33 + 33) slot (omega (arith, old.chain.below_len)) read 0 in
    rw (← same, is_slot) (old.chain.down (bucket * 33 + 33) (omega arith) (omega arith) (is_linked-end places (bucket * 33 + 33) (omega arith)))

-- a place that is in is one of the places
pub in_within : (places : List Bool) (p : ℕ) → get_or places p false ≡ true → p < length places
in_within places p there = elim (cases_lt p (length places)) [
  | inl within ↦ within
  | inr past ↦ absurd (false≢true (sym (get_or_past places p false past) ∙ there))
]

pub greatest_read : (places : List Bool) (bucket slot : ℕ) → IsNext (is_linked places) slot (bucket * 33 + 33) → slot ≢ bucket * 33
    → IsGreatestIn places bucket (bucket * 32 + (slot - bucket * 33 - 1))
greatest_read places bucket slot gap other =
    let low : bucket * 33 ≤ slot = in_bucket places bucket slot gap in
    let high : slot < bucket * 33 + 33 = gap.below in
    let inner : bucket * 33 < slot = elim (cases_order slot (bucket * 33)) [
      | inl e ↦ absurd (other e)
      | inr apart ↦ elim apart [ inl less ↦ omega arith | inr more ↦ more ]
    ] in
    IsGreatestIn-found places bucket slot (bucket * 32 + (slot - bucket * 33 - 1)) gap inner (omega arith)

pub small_place : (places : List Bool) (p : ℕ) → get_or places p false ≡ true → length places < 2 ^ 32 → Fits w32 p
small_place places p there few = let within = in_within places p there in omega arith
