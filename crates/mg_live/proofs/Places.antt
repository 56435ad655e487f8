-- Places in rising order, at which free nodes did something in a round, and hand on what they laid.
use Rattle.std.proofs.Common.{◌≡◌, ◌⊎◌, ℕ, zero, suc, ◌+◌, ◌<◌, Bool, true, false, List, [], ◌∷◌, ◌++◌, map, length, length-append, set, Some, slice_get, slice_index_or, inl, inr, refl, sym, ap, ap₂, ◌∙◌, subst, arith}
use Rattle.std.proofs.lemmas.Bool.{cases_eq, cases_lt}
use Rattle.std.proofs.lemmas.List.{length-map}
use Rattle.std.proofs.lemmas.Option.{same_Some, none-some, slice_get_within}
use Rattle.mg_value.specs.Payload.{Plain}
use Rattle.mg_settled.specs.Prefix.{StreamPrefix}
use Rattle.mg_free.specs.declared.node.FreeNode.{FreeNode}
use Rattle.mg_free.specs.Rounds.{Taken, turn, output_so_far}
use Rattle.mg_live.specs.declared.taker.Taker.{Taker}
use Rattle.mg_live.specs.Takes.{HasTaken, HasHanded, HaveTaken, Did, turns_of, handed_of, outputs_so_far, piece_behind, AreRising, IsNoneOf, DidAt, ArePiecesAt, AreCountedBut}
use Rattle.mg_live.proofs.InTurn.{get_there, get_other, same_all, differs, turn_at, taken_there, early_there}
use Rattle.mg_live.proofs.HandedOn.{put_taken, out_at, map_at, outs_long, put_there}

-- One more number after some numbers.

pub pushed_at : (xs : List ℕ) (x i y : ℕ) → slice_get (xs ++ x ∷ []) i ≡ Some y → (slice_get xs i ≡ Some y) ⊎ ((i ≡ length xs) × (y ≡ x))
pushed_at [] x zero y e = inr (refl, sym (same_Some x y e))
pushed_at [] x (suc i) y e = absurd (none-some y e)
pushed_at (z ∷ xs) x zero y e = inl e
pushed_at (z ∷ xs) x (suc i) y e = elim (pushed_at xs x i y e) [ inl a ↦ inl a | inr b ↦ inr (ap suc b.0, b.1) ]

pub new_at : {X : Type 0} (xs : List X) (x : X) → slice_get (xs ++ x ∷ []) (length xs) ≡ Some x
new_at [] x = refl
new_at (z ∷ xs) x = new_at xs x

pub kept_at : {X : Type 0} (xs : List X) (x : X) (i : ℕ) (y : X) → slice_get xs i ≡ Some y → slice_get (xs ++ x ∷ []) i ≡ Some y
kept_at xs x i y e = early_there xs x i (slice_get_within xs i y e) ∙ e

-- the number at a place of a list
pub number_at : (ns : List ℕ) (i : ℕ) → i < length ns → slice_get ns i ≡ Some (slice_index_or ns i 0)
number_at [] i less = absurd (omega (arith, less))
number_at (n ∷ ns) zero less = refl
number_at (n ∷ ns) (suc i) less = number_at ns i (omega (arith, less))

-- a number is one of some others, or none of them
pub find : (ns : List ℕ) (n : ℕ) → ((i : ℕ) × (slice_get ns i ≡ Some n)) ⊎ IsNoneOf ns n
find [] n = inr (λ i e. none-some n e)
find (m ∷ ns) n = elim (cases_eq m n) [
  | inl same ↦ inl (zero, ap (λ (k : ℕ). Some k) same)
  | inr other ↦ elim (find ns n) [
    | inl there ↦ inl (suc there.0, there.1)
    | inr none ↦ inr (nowhere other none)
  ]
]
  where
    nowhere : (m ≡ n → ⊥) → IsNoneOf ns n → IsNoneOf (m ∷ ns) n
    nowhere other none zero e = other (same_Some m n e)
    nowhere other none (suc i) e = none i e

-- Rounds.

turned_at : (streams : List (StreamPrefix Plain)) (frees : List FreeNode) (takens : List Taken) (i : ℕ) (free : FreeNode) (taken : Taken) → slice_get frees i ≡ Some free → slice_get takens i ≡ Some taken → slice_get (turns_of streams frees takens) i ≡ Some (turn streams free taken)
turned_at streams [] takens i free taken at at_taken = absurd (none-some free at)
turned_at streams (f ∷ frees) [] i free taken at at_taken = absurd (none-some taken at_taken)
turned_at streams (f ∷ frees) (t ∷ takens) zero free taken at at_taken = ap₂ (λ (x : FreeNode) (y : Taken). Some (turn streams x y)) (same_Some f free at) (same_Some t taken at_taken)
turned_at streams (f ∷ frees) (t ∷ takens) (suc i) free taken at at_taken = turned_at streams frees takens i free taken at at_taken

-- something was done if there is a place, and nothing if there is none
pub did_where : (streams : List (StreamPrefix Plain)) (frees : List FreeNode) (takens : List Taken) (places : List ℕ) (some : Bool) → length takens ≡ length frees → (some ≡ true → 0 < length places) → (some ≡ false → length places ≡ 0)
    → DidAt places takens (turns_of streams frees takens) → Did some takens (turns_of streams frees takens)
did_where streams frees takens [] true long more none h = absurd (let less = more refl in omega (arith, less))
did_where streams frees takens (p ∷ places) true long more none h =
    let within = h.within zero p refl in
    let taken = get_there takens p within in
    let free = get_there frees p (omega (arith, within, long)) in
    λ same. h.did zero p taken.0 (turn streams free.0 taken.0) refl taken.1 (turned_at streams frees takens p free.0 taken.0 free.1 taken.1) (differs streams frees takens p free.0 taken.0 free.1 taken.1 same)
did_where streams frees takens (p ∷ places) false long more none h = absurd (let few = none refl in omega (arith, few))
did_where streams frees takens [] false long more none h =
    same_all streams frees takens long (λ place free taken at at_taken. h.others place taken (turn streams free taken) (λ i e. none-some place e) at_taken (turned_at streams frees takens place free taken at at_taken))

-- What is handed on.

-- the nodes at the first places, a number of them, have handed on, and all have taken what they had
pub record HandedAt (frees : List FreeNode) (takens : List Taken) (places : List ℕ) (before : List Taker) (upto : ℕ) (now : List Taker) (pieces : List (StreamPrefix Plain)) : Type 0 where
  pub have_taken : HaveTaken frees takens now
  pub count : length pieces ≡ upto
  pub each : (i place n : ℕ) (s : StreamPrefix Plain) → i < upto → slice_get places i ≡ Some place → slice_get (handed_of before) place ≡ Some n → slice_get (outputs_so_far frees takens) place ≡ Some s → slice_get pieces i ≡ Some (piece_behind n s)
  pub handed : (i place n : ℕ) (s : StreamPrefix Plain) → i < upto → slice_get places i ≡ Some place → slice_get (handed_of now) place ≡ Some n → slice_get (outputs_so_far frees takens) place ≡ Some s → n ≡ length s.packets

-- the nodes at all other places have what they had
abbrev pub IsSameBut : List ℕ → ℕ → List Taker → List Taker → Type 0
IsSameBut places upto before now = (place : ℕ) → ((i : ℕ) → i < upto → ¬ (slice_get places i ≡ Some place)) → slice_get now place ≡ slice_get before place

pub none_handed_at : (frees : List FreeNode) (takens : List Taken) (places : List ℕ) (before : List Taker) (pieces : List (StreamPrefix Plain)) → pieces ≡ [] → HaveTaken frees takens before → HandedAt frees takens places before 0 before pieces
none_handed_at frees takens places before pieces none h = record {
  have_taken = h;
  count = ap length none;
  each = λ i place n s less. absurd (omega (arith, less));
  handed = λ i place n s less. absurd (omega (arith, less));
}

-- the place of the next node isn't among the places before
pub next_apart : (places : List ℕ) (upto place : ℕ) → AreRising places → slice_get places upto ≡ Some place → (i : ℕ) → i < upto → ¬ (slice_get places i ≡ Some place)
next_apart places upto place rising at i less e = (let low = rising i upto place place less e at in absurd (omega (arith, low)))

pub same_but_more : (places : List ℕ) (upto p : ℕ) (before takers : List Taker) (now : Taker) → slice_get places upto ≡ Some p → IsSameBut places upto before takers → IsSameBut places (upto + 1) before (set takers p now)
same_but_more places upto p before takers now at h place none =
    get_other takers p place now (λ same. none upto (omega arith) (at ∙ ap (λ (k : ℕ). Some k) (sym same))) ∙ h place (λ i less. none i (omega (arith, less)))

handed_read : (takers : List Taker) (place n : ℕ) → slice_get (handed_of takers) place ≡ Some n → (taker : Taker) × (slice_get takers place ≡ Some taker) × (n ≡ taker.state.rest.handed)
handed_read [] place n at = absurd (none-some n at)
handed_read (t ∷ takers) zero n at = (t, refl, sym (same_Some t.state.rest.handed n at))
handed_read (t ∷ takers) (suc place) n at = handed_read takers place n at

pub one_handed_at : (frees : List FreeNode) (takens : List Taken) (places : List ℕ) (before takers : List Taker) (pieces more : List (StreamPrefix Plain)) (piece : StreamPrefix Plain) (upto p : ℕ) (old now : Taker) → AreRising places → slice_get places upto ≡ Some p → slice_get takers p ≡ Some old
    → IsSameBut places upto before takers → ((free : FreeNode) (taken : Taken) → HasTaken free taken old → piece ≡ piece_behind old.state.rest.handed (output_so_far free taken)) → ((free : FreeNode) (taken : Taken) → HasTaken free taken old → HasHanded free taken now)
    → ((free : FreeNode) (taken : Taken) → HasTaken free taken old → HasTaken free taken now) → more ≡ pieces ++ piece ∷ [] → HandedAt frees takens places before upto takers pieces → HandedAt frees takens places before (upto + 1) (set takers p now) more
one_handed_at frees takens places before takers pieces more piece upto p old now rising place_at at same is handed keeps pushed h =
    let within = slice_get_within takers p old at in
    let long = h.have_taken.takers_long in
    let free = get_there frees p (omega (arith, within, long)) in
    let taken = taken_there frees takens takers p h.have_taken (omega (arith, within, long)) in
    let has = h.have_taken.each p free.0 taken.0 old free.1 taken.1 at in
    let out = out_at frees takens p free.0 taken.0 free.1 taken.1 in
    let own = map_at (λ (t : Taker). t.state.rest.handed) before p old (sym (same p (next_apart places upto p rising place_at)) ∙ at) in
    let count = h.count in
    record {
      have_taken = put_taken frees takens takers p old now at keeps h.have_taken;
      count = (let one = ap length pushed in let two = length-append pieces (piece ∷ []) in omega (arith, one, two, count));
      each = λ i place n s less at_place at_n at_s. elim (cases_lt i upto) [
        | inl early ↦ ap (λ (l : List (StreamPrefix Plain)). slice_get l i) pushed ∙ kept_at pieces piece i (piece_behind n s) (h.each i place n s early at_place at_n at_s)
        | inr late ↦
            (let last : i ≡ upto = omega (arith, less, late) in
            let here : place ≡ p = same_Some place p (sym at_place ∙ ap (slice_get places) last ∙ place_at) in
            let end : i ≡ length pieces = omega (arith, last, count) in
            let n_is : n ≡ old.state.rest.handed = same_Some n old.state.rest.handed (sym at_n ∙ ap (slice_get (handed_of before)) here ∙ own) in
            let s_is : s ≡ output_so_far free.0 taken.0 = same_Some s (output_so_far free.0 taken.0) (sym at_s ∙ ap (slice_get (outputs_so_far frees takens)) here ∙ out) in
            ap (λ (l : List (StreamPrefix Plain)). slice_get l i) pushed ∙ ap (slice_get (pieces ++ piece ∷ [])) end ∙ new_at pieces piece
            ∙ ap (λ (x : StreamPrefix Plain). Some x) (is free.0 taken.0 has ∙ ap₂ (λ (k : ℕ) (x : StreamPrefix Plain). piece_behind k x) (sym n_is) (sym s_is)))
      ];
      handed = λ i place n s less at_place at_n at_s. elim (cases_lt i upto) [
        | inl early ↦
            (let other : place ≡ p → ⊥ = λ e. next_apart places upto p rising place_at i early (at_place ∙ ap (λ (k : ℕ). Some k) e) in
            let taker = handed_read (set takers p now) place n at_n in
            let was = map_at (λ (t : Taker). t.state.rest.handed) takers place taker.0 (sym (get_other takers p place now other) ∙ taker.1) in
            h.handed i place n s early at_place (was ∙ ap (λ (k : ℕ). Some k) (sym taker.2)) at_s)
        | inr late ↦
            (let last : i ≡ upto = omega (arith, less, late) in
            let here : place ≡ p = same_Some place p (sym at_place ∙ ap (slice_get places) last ∙ place_at) in
            let s_is : s ≡ output_so_far free.0 taken.0 = same_Some s (output_so_far free.0 taken.0) (sym at_s ∙ ap (slice_get (outputs_so_far frees takens)) here ∙ out) in
            let n_is : n ≡ now.state.rest.handed =
            same_Some n now.state.rest.handed (sym at_n ∙ ap (slice_get (handed_of (set takers p now))) here ∙ map_at (λ (t : Taker). t.state.rest.handed) (set takers p now) p now (put_there takers p now within)) in
            n_is ∙ handed free.0 taken.0 has ∙ ap (λ (x : StreamPrefix Plain). length x.packets) (sym s_is))
      ];
    }

equal_lists : (ns ms : List ℕ) → length ns ≡ length ms → ((i n m : ℕ) → slice_get ns i ≡ Some n → slice_get ms i ≡ Some m → n ≡ m) → ns ≡ ms
equal_lists [] [] long same = refl
equal_lists [] (m ∷ ms) long same = absurd (omega (arith, long))
equal_lists (n ∷ ns) [] long same = absurd (omega (arith, long))
equal_lists (n ∷ ns) (m ∷ ms) long same = ap₂ (λ (x : ℕ) (xs : List ℕ). x ∷ xs) (same zero n m refl refl) (equal_lists ns ms (omega (arith, long)) (λ i a b. same (suc i) a b))

count_read : (outs : List (StreamPrefix Plain)) (place m : ℕ) → slice_get (map (λ s. length s.packets) outs) place ≡ Some m → (s : StreamPrefix Plain) × (slice_get outs place ≡ Some s) × (m ≡ length s.packets)
count_read [] place m at = absurd (none-some m at)
count_read (s ∷ outs) zero m at = (s, refl, sym (same_Some (length s.packets) m at))
count_read (s ∷ outs) (suc place) m at = count_read outs place m at

pub all_pieces : (frees : List FreeNode) (takens : List Taken) (places : List ℕ) (before now : List Taker) (pieces : List (StreamPrefix Plain)) (upto : ℕ) → upto ≡ length places → HandedAt frees takens places before upto now pieces
    → ArePiecesAt places pieces (handed_of before) (outputs_so_far frees takens)
all_pieces frees takens places before now pieces upto all h = record {
  as_many = h.count ∙ all;
  each = λ i place n s at at_n at_s. h.each i place n s (let within = slice_get_within places i place at in omega (arith, within, all)) at at_n at_s;
}

pub all_counted : (frees : List FreeNode) (takens : List Taken) (places : List ℕ) (before now : List Taker) (pieces : List (StreamPrefix Plain)) (upto : ℕ) → upto ≡ length places → IsSameBut places upto before now → AreCountedBut places (handed_of before) (outputs_so_far frees takens)
    → HandedAt frees takens places before upto now pieces → handed_of now ≡ map (λ s. length s.packets) (outputs_so_far frees takens)
all_counted frees takens places before now pieces upto all same counted h =
    let outs = outs_long frees takens h.have_taken.takens_long in
    let long = h.have_taken.takers_long in
    let now_long = length-map now (λ (t : Taker). t.state.rest.handed) in
    let lens = length-map (outputs_so_far frees takens) (λ (s : StreamPrefix Plain). length s.packets) in
    equal_lists (handed_of now) (map (λ s. length s.packets) (outputs_so_far frees takens)) (omega (arith, outs, long, now_long, lens)) (λ place n m at_n at_m.
    (let s = count_read (outputs_so_far frees takens) place m at_m in
    elim (find places place) [
      | inl there ↦ h.handed there.0 place n s.0 (let within = slice_get_within places there.0 place there.1 in omega (arith, within, all)) there.1 at_n s.1 ∙ sym s.2
      | inr none ↦
          (let taker = handed_read now place n at_n in
          let was = map_at (λ (t : Taker). t.state.rest.handed) before place taker.0 (sym (same place (λ i less. none i)) ∙ taker.1) in
          counted place n s.0 none (was ∙ ap (λ (k : ℕ). Some k) (sym taker.2)) s.1 ∙ sym s.2)
    ]))
