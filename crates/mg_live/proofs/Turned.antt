-- A round of the free nodes that are due, by their places in a sorted list.
use Rattle.std.proofs.Common.{◌≡◌, ◌⊎◌, ℕ, zero, suc, ◌+◌, ◌-◌, ◌<◌, ◌≤◌, Bool, true, false, List, [], ◌∷◌, ◌++◌, append-nil, take, drop, length, length-append, get_or, set, Some, slice_get, inl, inr, refl, sym, ap, ◌∙◌, subst, arith}
use Rattle.std.specs.List.Sorted.{IsNonDecreasing, IsPermutation}
use Rattle.std.specs.List.{Contains}
use Rattle.std.proofs.lemmas.Bool.{cases_eq}
use Rattle.std.proofs.lemmas.List.{length-map, take_all, drop_all}
use Rattle.std.proofs.lemmas.List.Sorted.{IsNonDecreasingBy-from_sort, Contains-permutation, IsPermutation-sym}
use Rattle.std.proofs.lemmas.Option.{same_Some, none-some, slice_get_within, get_or_from_slice_get}
use Rattle.mg_value.specs.Payload.{Plain}
use Rattle.mg_settled.specs.Prefix.{StreamPrefix}
use Rattle.mg_free.specs.declared.node.FreeNode.{FreeNode}
use Rattle.mg_free.specs.Rounds.{Taken, turn}
use Rattle.mg_live.specs.declared.taker.Taker.{Taker}
use Rattle.mg_live.specs.Takes.{HasTaken, HaveTaken, Did, turns_of, handed_of, AreRising, IsNoneOf, DidAt}
use Rattle.mg_live.specs.declared.due.Due.{Due}
use Rattle.mg_live.specs.Due.{IsUndue, AreIdleBut}
use Rattle.mg_live.specs.Code.Turned.{HasAllBelow, IsFirst, StandsBefore, Turns, FirstTurn, NoTurn, HadTurn}
use Rattle.mg_live.proofs.InTurn.{get_there, found_or, turn_at, turns_long}
use Rattle.mg_live.proofs.HandedOn.{put_there}
use Rattle.mg_live.proofs.Places.{pushed_at, new_at, kept_at, find, IsSameBut}

-- The places that are due --

pub none_below : (numbers : List ℕ) → numbers ≡ [] → HasAllBelow 0 numbers
none_below numbers none = record {
  long = ap length none;
  each = λ i number at. absurd (none-some number (ap (λ (ns : List ℕ). slice_get ns i) (sym none) ∙ at));
}

pub one_more_below : (numbers now : List ℕ) (count : ℕ) → now ≡ numbers ++ count ∷ [] → HasAllBelow count numbers → HasAllBelow (count + 1) now
one_more_below numbers now count is h = subst (HasAllBelow (count + 1)) (sym is) (record {
  long = (let long = h.long in let more = length-append numbers (count ∷ []) in omega (arith, long, more));
  each = λ i number at. elim (pushed_at numbers count i number at) [
    | inl early ↦ h.each i number early
    | inr late ↦ (let one = late.0 in let two = late.1 in let long = h.long in omega (arith, one, two, long))
  ];
})

pub below_rise : (count : ℕ) (numbers : List ℕ) → HasAllBelow count numbers → IsNonDecreasing numbers
below_rise count numbers h i j d le less =
    let one = h.each i (get_or numbers i d) (found_or numbers i d (omega (arith, le, less))) in
    let two = h.each j (get_or numbers j d) (found_or numbers j d less) in
    omega (arith, le, one, two)

pub below_all : (count : ℕ) (numbers : List ℕ) (place : ℕ) → HasAllBelow count numbers → place < count → ¬ IsNoneOf numbers place
below_all count numbers place h less none =
    let there = found_or numbers place 0 (let long = h.long in omega (arith, long, less)) in
    let is = h.each place (get_or numbers place 0) there in
    none place (there ∙ ap (λ (n : ℕ). Some n) is)

contained : (numbers : List ℕ) (i number : ℕ) → slice_get numbers i ≡ Some number → Contains numbers number
contained numbers i number at = (i, slice_get_within numbers i number at, get_or_from_slice_get numbers i number number at)

place_of : (numbers : List ℕ) (number : ℕ) → Contains numbers number → (i : ℕ) × (slice_get numbers i ≡ Some number)
place_of numbers number c = (c.0, found_or numbers c.0 number c.1 ∙ ap (λ (n : ℕ). Some n) c.2)

-- what is nowhere in the sorted list is nowhere in the list
pub sorted_none : (before now : List ℕ) (place : ℕ) → IsPermutation before now → IsNoneOf now place → IsNoneOf before place
sorted_none before now place moved none i at = (let there = place_of now place (Contains-permutation before now place moved (contained before i place at)) in none there.0 there.1)

pub below_undue : (due : Due) (count : ℕ) (numbers : List ℕ) (place : ℕ) → HasAllBelow count numbers → place < count → IsNoneOf numbers place → IsUndue due place
below_undue due count numbers place h less none = absurd (below_all count numbers place h less none)

-- if the places that aren't in the sorted list aren't due, all free nodes there are idle
pub idle_sorted : (streams : List (StreamPrefix Plain)) (frees : List FreeNode) (takers : List Taker) (due : Due) (sorted : List ℕ) (count : ℕ) → count ≡ length frees → ((place : ℕ) → place < count → IsNoneOf sorted place → IsUndue due place) → AreIdleBut (IsUndue due) streams frees takers
    → AreIdleBut (IsNoneOf sorted) streams frees takers
idle_sorted streams frees takers due sorted count all undue idle place free taker none at at_taker =
    idle place free taker (undue place (let within = slice_get_within frees place free at in omega (arith, within, all)) none) at at_taker

pub set_none : (due : Due) (did shown : List ℕ) (place : ℕ) → shown ≡ did → ((p : ℕ) → IsUndue due p → IsNoneOf shown p) → IsUndue due place → IsNoneOf did place
set_none due did shown place is undue h = subst (λ (ns : List ℕ). IsNoneOf ns place) is (undue place h)

pub idle_set : (streams : List (StreamPrefix Plain)) (frees : List FreeNode) (takers : List Taker) (due : Due) (did shown : List ℕ) → shown ≡ did → ((place : ℕ) → IsUndue due place → IsNoneOf shown place) → AreIdleBut (IsNoneOf did) streams frees takers → AreIdleBut (IsUndue due) streams frees takers
idle_set streams frees takers due did shown is undue idle place free taker h = idle place free taker (set_none due did shown place is undue h)

-- takers that were lent and came back: as many as before
pub lent_back : {X : Type 0} (xs ys : List X) (len : ℕ) → length xs ≡ length ys → len ≡ length ys → take len (xs ++ drop (length xs) ys) ≡ xs
lent_back {X} xs ys len same all =
    ap (λ (zs : List X). take len (xs ++ zs)) (drop_all (length xs) ys (omega (arith, same))) ∙ ap (λ (zs : List X). take len zs) (append-nil xs) ∙ take_all len xs (omega (arith, same, all))

handed_long : (before now : List Taker) → handed_of now ≡ handed_of before → length now ≡ length before
handed_long before now same =
    let one = length-map before (λ (t : Taker). t.state.rest.handed) in
    let two = length-map now (λ (t : Taker). t.state.rest.handed) in
    let both = ap length same in
    omega (arith, one, two, both)

pub idle_lent : (streams : List (StreamPrefix Plain)) (frees shown : List FreeNode) (before now : List Taker) (len : ℕ) (did : List ℕ) → shown ≡ frees → handed_of now ≡ handed_of before → len ≡ length before → AreIdleBut (IsNoneOf did) streams shown now
    → AreIdleBut (IsNoneOf did) streams frees (take len (now ++ drop (length now) before))
idle_lent streams frees shown before now len did is handed all idle =
    subst (λ (ts : List Taker). AreIdleBut (IsNoneOf did) streams frees ts) (sym (lent_back now before len (handed_long before now handed) all)) (subst (λ (fs : List FreeNode). AreIdleBut (IsNoneOf did) streams fs now) is idle)

-- A place for the first time --

pub first_of_all : (numbers : List ℕ) (i : ℕ) → i ≡ 0 → IsFirst numbers i
first_of_all numbers i none j number other less at other_at = omega (arith, none, less)

pub first_here : (numbers : List ℕ) (i before here : ℕ) → IsNonDecreasing numbers → i < length numbers → before ≡ get_or numbers (i - 1) 0 → here ≡ get_or numbers i 0 → before < here → IsFirst numbers i
first_here numbers i before here sorted within before_is here_is less j number other earlier at other_at =
    let low = sorted j (i - 1) 0 (omega (arith, earlier)) (omega (arith, within)) in
    let own = get_or_from_slice_get numbers j number 0 at in
    let its = get_or_from_slice_get numbers i other 0 other_at in
    omega (arith, low, own, its, before_is, here_is, less)

pub again_here : (numbers : List ℕ) (i before here : ℕ) → IsNonDecreasing numbers → i < length numbers → ¬ (i ≡ 0) → before ≡ get_or numbers (i - 1) 0 → here ≡ get_or numbers i 0 → here ≤ before → StandsBefore numbers i
again_here numbers i before here sorted within some before_is here_is le =
    let up = sorted (i - 1) i 0 (omega arith) within in
    let same : get_or numbers (i - 1) 0 ≡ get_or numbers i 0 = omega (arith, up, before_is, here_is, le) in
    record {
      j = i - 1;
      before = omega (arith, some);
      same = found_or numbers (i - 1) 0 (omega (arith, within)) ∙ ap (λ (n : ℕ). Some n) same ∙ sym (found_or numbers i 0 within);
    }

-- The round --

-- what became of a free node that was due: it is among those that did something, or not
abbrev pub WasDue : List (StreamPrefix Plain) → FreeNode → Taker → Taker → List ℕ → ℕ → Type 0
WasDue streams free taker now did place = ((k : ℕ) × (slice_get did k ≡ Some place) × Turns true streams free taker now) ⊎ (IsNoneOf did place × Turns false streams free taker now)

-- the free nodes at the first places of a list, a number of them, have had their turns, and these did something
pub record HaveTurned (streams : List (StreamPrefix Plain)) (frees : List FreeNode) (due : List ℕ) (upto : ℕ) (before now : List Taker) (did : List ℕ) : Type 0 where
  pub rising : AreRising did
  pub from : (k place : ℕ) → slice_get did k ≡ Some place → (j : ℕ) × (j < upto) × (slice_get due j ≡ Some place)
  pub within : (k place : ℕ) → slice_get did k ≡ Some place → place < length frees
  pub same : IsSameBut due upto before now
  pub turned : (j place : ℕ) (free : FreeNode) (taker taker_now : Taker) → j < upto → slice_get due j ≡ Some place → slice_get frees place ≡ Some free → slice_get before place ≡ Some taker → slice_get now place ≡ Some taker_now
      → WasDue streams free taker taker_now did place

pub none_turned : (streams : List (StreamPrefix Plain)) (frees : List FreeNode) (due : List ℕ) (takers : List Taker) (did : List ℕ) → did ≡ [] → HaveTurned streams frees due 0 takers takers did
none_turned streams frees due takers did none = subst (HaveTurned streams frees due 0 takers takers) (sym none) (record {
  rising = λ i j n m less a b. absurd (none-some n a);
  from = λ k place a. absurd (none-some place a);
  within = λ k place a. absurd (none-some place a);
  same = λ place none. refl;
  turned = λ j place free taker now less. absurd (omega (arith, less));
})

-- the takers at all other places are as they were
abbrev pub SameElsewhere : List ℕ → ℕ → List Taker → List Taker → Type 0
SameElsewhere due i before now = (place : ℕ) → ¬ (slice_get due i ≡ Some place) → slice_get now place ≡ slice_get before place

pub same_more : (due : List ℕ) (upto : ℕ) (before takers now : List Taker) → SameElsewhere due upto takers now → IsSameBut due upto before takers → IsSameBut due (upto + 1) before now
same_more due upto before takers now others same place none = others place (none upto (omega arith)) ∙ same place (λ i less. none i (omega (arith, less)))

-- a place before isn't that of the next node
apart : (due : List ℕ) (upto j place : ℕ) → IsFirst due upto → j < upto → slice_get due j ≡ Some place → ¬ (slice_get due upto ≡ Some place)
apart due upto j place first less at here = (let low = first j place place less at here in omega (arith, low))

-- its taker is as it was
pub unturned : (due : List ℕ) (upto place : ℕ) (before takers : List Taker) → IsFirst due upto → slice_get due upto ≡ Some place → IsSameBut due upto before takers → slice_get takers place ≡ slice_get before place
unturned due upto place before takers first here same = same place (λ j less at. apart due upto j place first less at here)

-- The node at the place has had its turn, or there is no such node.
pub turned_here : (streams : List (StreamPrefix Plain)) (frees : List FreeNode) (due : List ℕ) (i p : ℕ) (did : Bool) (takers : List Taker) (free : FreeNode) (taker now : Taker) → IsFirst due i → slice_get due i ≡ Some p → slice_get frees p ≡ Some free → slice_get takers p ≡ Some taker
    → Turns did streams free taker now → FirstTurn streams frees due i did takers (set takers p now)
turned_here streams frees due i p did takers free taker now first here free_at taker_at turns = record {
  first = first;
  within = λ yes place at. (let own = same_Some p place (sym here ∙ at) in let less = slice_get_within frees p free free_at in omega (arith, own, less));
  turns = λ place f t t_now at f_at t_at now_at.
      let own : p ≡ place = same_Some p place (sym here ∙ at) in
      let f_is : free ≡ f = same_Some free f (sym free_at ∙ ap (slice_get frees) own ∙ f_at) in
      let t_is : taker ≡ t = same_Some taker t (sym taker_at ∙ ap (slice_get takers) own ∙ t_at) in
      let now_is : now ≡ t_now = same_Some now t_now (sym (put_there takers p now (slice_get_within takers p taker taker_at)) ∙ ap (slice_get (set takers p now)) own ∙ now_at) in
      subst (λ (r : Taker). Turns did streams f t r) now_is (subst (λ (r : Taker). Turns did streams f r now) t_is (subst (λ (x : FreeNode). Turns did streams x taker now) f_is turns));
}

-- The next node does nothing.
pub idle_then : (streams : List (StreamPrefix Plain)) (frees : List FreeNode) (due : List ℕ) (upto : ℕ) (before takers now : List Taker) (did_list did_now : List ℕ) (did : Bool) → did ≡ false → did_now ≡ did_list → SameElsewhere due upto takers now
    → HadTurn streams frees due upto did takers now → HaveTurned streams frees due upto before takers did_list → HaveTurned streams frees due (upto + 1) before now did_now
idle_then streams frees due upto before takers now did_list did_now did none did_is others (inl again) h = subst (HaveTurned streams frees due (upto + 1) before now) (sym did_is) (record {
  rising = h.rising;
  from = λ k place a. (let there = h.from k place a in (there.0, (let less = there.1 in omega (arith, less)), there.2));
  within = h.within;
  same = same_more due upto before takers now others h.same;
  turned = λ j place free taker taker_now less at free_at old_at now_at.
      let at_before : slice_get takers place ≡ Some taker_now = ap (λ (ts : List Taker). slice_get ts place) (sym again.same) ∙ now_at in
      elim (cases_eq j upto) [
        | inl here ↦ h.turned again.again.j place free taker taker_now again.again.before (again.again.same ∙ ap (slice_get due) (sym here) ∙ at) free_at old_at at_before
        | inr other ↦ h.turned j place free taker taker_now (omega (arith, less, other)) at free_at old_at at_before
      ];
})
idle_then streams frees due upto before takers now did_list did_now did none did_is others (inr f) h = subst (HaveTurned streams frees due (upto + 1) before now) (sym did_is) (record {
  rising = h.rising;
  from = λ k place a. (let there = h.from k place a in (there.0, (let less = there.1 in omega (arith, less)), there.2));
  within = h.within;
  same = same_more due upto before takers now others h.same;
  turned = λ j place free taker taker_now less at free_at old_at now_at. elim (cases_eq j upto) [
    | inl here ↦
        (let at_here : slice_get due upto ≡ Some place = ap (slice_get due) (sym here) ∙ at in
        inr (
          λ k a. (let there = h.from k place a in apart due upto there.0 place f.first there.1 there.2 at_here),
          subst (λ (b : Bool). Turns b streams free taker taker_now) none (f.turns place free taker taker_now at_here free_at (unturned due upto place before takers f.first at_here h.same ∙ old_at) now_at),
        ))
    | inr other ↦
        (let earlier : j < upto = omega (arith, less, other) in
        h.turned j place free taker taker_now earlier at free_at old_at (sym (others place (apart due upto j place f.first earlier at)) ∙ now_at))
  ];
})

-- The next node does something.
more_was : (streams : List (StreamPrefix Plain)) (free : FreeNode) (taker now : Taker) (did : List ℕ) (place p : ℕ) → ¬ (p ≡ place) → WasDue streams free taker now did place → WasDue streams free taker now (did ++ p ∷ []) place
more_was streams free taker now did place p other (inl was) = inl (was.0, kept_at did p was.0 place was.1, was.2)
more_was streams free taker now did place p other (inr was) = inr (λ k a. elim (pushed_at did p k place a) [ inl early ↦ was.0 k early | inr late ↦ other (sym late.1) ], was.1)

done_first : (streams : List (StreamPrefix Plain)) (frees : List FreeNode) (due : List ℕ) (upto p : ℕ) (before takers now : List Taker) (did_list : List ℕ) (did : Bool) → did ≡ true → slice_get due upto ≡ Some p → SameElsewhere due upto takers now
    → FirstTurn streams frees due upto did takers now → HaveTurned streams frees due upto before takers did_list → HaveTurned streams frees due (upto + 1) before now (did_list ++ p ∷ [])
done_first streams frees due upto p before takers now did_list did some here others f h = record {
  rising = λ i j n m less a b. elim (pushed_at did_list p j m b) [
    | inl early ↦ elim (pushed_at did_list p i n a) [
      | inl first ↦ h.rising i j n m less first early
      | inr last ↦ (let within = slice_get_within did_list j m early in let is = last.0 in absurd (omega (arith, less, within, is)))
    ]
    | inr late ↦ elim (pushed_at did_list p i n a) [
      | inl first ↦ (let there = h.from i n first in let low = f.first there.0 n p there.1 there.2 here in let is = late.1 in omega (arith, low, is))
      | inr last ↦ (let one = late.0 in let two = last.0 in absurd (omega (arith, less, one, two)))
    ]
  ];
  from = λ k place a. elim (pushed_at did_list p k place a) [
    | inl early ↦ (let there = h.from k place early in (there.0, (let less = there.1 in omega (arith, less)), there.2))
    | inr late ↦ (upto, omega arith, here ∙ ap (λ (n : ℕ). Some n) (sym late.1))
  ];
  within = λ k place a. elim (pushed_at did_list p k place a) [
    | inl early ↦ h.within k place early
    | inr late ↦ (let low = f.within some p here in let is = late.1 in omega (arith, low, is))
  ];
  same = same_more due upto before takers now others h.same;
  turned = λ j place free taker taker_now less at free_at old_at now_at. elim (cases_eq j upto) [
    | inl at_it ↦
        (let at_here : slice_get due upto ≡ Some place = ap (slice_get due) (sym at_it) ∙ at in
        let own : p ≡ place = same_Some p place (sym here ∙ at_here) in
        inl (
          length did_list,
          new_at did_list p ∙ ap (λ (n : ℕ). Some n) own,
          subst (λ (b : Bool). Turns b streams free taker taker_now) some (f.turns place free taker taker_now at_here free_at (unturned due upto place before takers f.first at_here h.same ∙ old_at) now_at),
        ))
    | inr other ↦
        (let earlier : j < upto = omega (arith, less, other) in
        let far = apart due upto j place f.first earlier at in
        more_was streams free taker taker_now did_list place p (λ own. far (here ∙ ap (λ (n : ℕ). Some n) own)) (h.turned j place free taker taker_now earlier at free_at old_at (sym (others place far) ∙ now_at)))
  ];
}

pub done_then : (streams : List (StreamPrefix Plain)) (frees : List FreeNode) (due : List ℕ) (upto p : ℕ) (before takers now : List Taker) (did_list did_now : List ℕ) (did : Bool) → did ≡ true → slice_get due upto ≡ Some p → did_now ≡ did_list ++ p ∷ [] → SameElsewhere due upto takers now
    → HadTurn streams frees due upto did takers now → HaveTurned streams frees due upto before takers did_list → HaveTurned streams frees due (upto + 1) before now did_now
done_then streams frees due upto p before takers now did_list did_now did some here did_is others (inl again) h = absurd (let no : true ≡ false = sym some ∙ again.none in cc)
done_then streams frees due upto p before takers now did_list did_now did some here did_is others (inr f) h =
    subst (HaveTurned streams frees due (upto + 1) before now) (sym did_is) (done_first streams frees due upto p before takers now did_list did some here others f h)

-- All of them --

-- what is known of a node after the round
before_there : (frees : List FreeNode) (before : List Taker) (place : ℕ) (free : FreeNode) → length before ≡ length frees → slice_get frees place ≡ Some free → (taker : Taker) × (slice_get before place ≡ Some taker)
before_there frees before place free long at = get_there before place (let within = slice_get_within frees place free at in omega (arith, within, long))

-- a node did something and is told, or it is as it was, and idle
pub after_all : (streams : List (StreamPrefix Plain)) (frees : List FreeNode) (before now : List Taker) (due : List ℕ) (upto : ℕ) (did : List ℕ) (place : ℕ) (free : FreeNode) (taker taker_now : Taker) → HaveTurned streams frees due upto before now did → length due ≤ upto
    → AreIdleBut (IsNoneOf due) streams frees before → slice_get frees place ≡ Some free → slice_get before place ≡ Some taker → slice_get now place ≡ Some taker_now → WasDue streams free taker taker_now did place
after_all streams frees before now due upto did place free taker taker_now h all idle at old_at now_at = elim (find due place) [
  | inl there ↦ h.turned there.0 place free taker taker_now (let within = slice_get_within due there.0 place there.1 in omega (arith, within, all)) there.1 at old_at now_at
  | inr none ↦
      (let same : taker_now ≡ taker = same_Some taker_now taker (sym now_at ∙ h.same place (λ i less. none i) ∙ old_at) in
      let rests = idle place free taker none at old_at in
      inr (
        λ k a. (let there = h.from k place a in none there.0 there.2),
        record {
          taken = λ taken has. subst (λ (t : Taken). HasTaken free t taker_now) (sym (rests taken has)) (subst (λ (r : Taker). HasTaken free taken r) (sym same) has);
          changes = λ taken has. rests taken has;
          idle = λ is. same;
        },
      ))
]

was_taken : (streams : List (StreamPrefix Plain)) (free : FreeNode) (taker now : Taker) (did : List ℕ) (place : ℕ) (taken : Taken) → WasDue streams free taker now did place → HasTaken free taken taker → HasTaken free (turn streams free taken) now
was_taken streams free taker now did place taken (inl was) has = was.2.taken taken has
was_taken streams free taker now did place taken (inr was) has = was.1.taken taken has

pub turns_all : (streams : List (StreamPrefix Plain)) (frees : List FreeNode) (takens : List Taken) (before now : List Taker) (due : List ℕ) (upto : ℕ) (did : List ℕ) → HaveTurned streams frees due upto before now did → length due ≤ upto
    → AreIdleBut (IsNoneOf due) streams frees before → HaveTaken frees takens before → length now ≡ length before → HaveTaken frees (turns_of streams frees takens) now
turns_all streams frees takens before now due upto did h all idle taken long = record {
  takers_long = long ∙ taken.takers_long;
  takens_long = turns_long streams frees takens taken.takens_long;
  each = λ place free t taker_now at at_taken at_now.
      let old = turn_at streams frees takens place free t at at_taken in
      let taker = before_there frees before place free taken.takers_long at in
      subst (λ (u : Taken). HasTaken free u taker_now) (sym old.2)
      (was_taken streams free taker.0 taker_now did place old.0 (after_all streams frees before now due upto did place free taker.0 taker_now h all idle at taker.1 at_now) (taken.each place free old.0 taker.0 at old.1 taker.1));
}

was_some : (streams : List (StreamPrefix Plain)) (free : FreeNode) (taker now : Taker) (did : List ℕ) (k place : ℕ) (taken : Taken) → WasDue streams free taker now did place → slice_get did k ≡ Some place → HasTaken free taken taker → ¬ (turn streams free taken ≡ taken)
was_some streams free taker now did k place taken (inl was) at has = was.2.changes taken has
was_some streams free taker now did k place taken (inr was) at has = absurd (was.0 k at)

was_none : (streams : List (StreamPrefix Plain)) (free : FreeNode) (taker now : Taker) (did : List ℕ) (place : ℕ) → WasDue streams free taker now did place → IsNoneOf did place → Turns false streams free taker now
was_none streams free taker now did place (inl was) none = absurd (none was.0 was.1)
was_none streams free taker now did place (inr was) none = was.1

now_there : (before now : List Taker) (place : ℕ) (taker : Taker) → length now ≡ length before → slice_get before place ≡ Some taker → (r : Taker) × (slice_get now place ≡ Some r)
now_there before now place taker long at = get_there now place (let within = slice_get_within before place taker at in omega (arith, within, long))

pub did_all : (streams : List (StreamPrefix Plain)) (frees : List FreeNode) (takens : List Taken) (before now : List Taker) (due : List ℕ) (upto : ℕ) (did : List ℕ) → HaveTurned streams frees due upto before now did → length due ≤ upto
    → AreIdleBut (IsNoneOf due) streams frees before → HaveTaken frees takens before → length now ≡ length before → DidAt did takens (turns_of streams frees takens)
did_all streams frees takens before now due upto did h all idle taken long = record {
  rising = h.rising;
  within = λ k place a. (let low = h.within k place a in let many = taken.takens_long in omega (arith, low, many));
  did = λ k place x y a at_x at_y.
      (let free = get_there frees place (h.within k place a) in
      let old = turn_at streams frees takens place free.0 y free.1 at_y in
      let same : x ≡ old.0 = same_Some x old.0 (sym at_x ∙ old.1) in
      let taker = before_there frees before place free.0 taken.takers_long free.1 in
      let r = now_there before now place taker.0 long taker.1 in
      let changes = was_some streams free.0 taker.0 r.0 did k place old.0 (after_all streams frees before now due upto did place free.0 taker.0 r.0 h all idle free.1 taker.1 r.1) a (taken.each place free.0 old.0 taker.0 free.1 old.1 taker.1) in
      λ e. changes (sym old.2 ∙ e ∙ same));
  others = λ place x y none at_x at_y.
      (let within = slice_get_within takens place x at_x in
      let many = taken.takens_long in
      let free = get_there frees place (omega (arith, within, many)) in
      let old = turn_at streams frees takens place free.0 y free.1 at_y in
      let same : x ≡ old.0 = same_Some x old.0 (sym at_x ∙ old.1) in
      let taker = before_there frees before place free.0 taken.takers_long free.1 in
      let r = now_there before now place taker.0 long taker.1 in
      let rests = was_none streams free.0 taker.0 r.0 did place (after_all streams frees before now due upto did place free.0 taker.0 r.0 h all idle free.1 taker.1 r.1) none in
      old.2 ∙ rests.changes old.0 (taken.each place free.0 old.0 taker.0 free.1 old.1 taker.1) ∙ sym same);
}

pub idle_all : (streams : List (StreamPrefix Plain)) (frees : List FreeNode) (before now : List Taker) (due : List ℕ) (upto : ℕ) (did : List ℕ) → HaveTurned streams frees due upto before now did → length due ≤ upto
    → AreIdleBut (IsNoneOf due) streams frees before → length before ≡ length frees → AreIdleBut (IsNoneOf did) streams frees now
idle_all streams frees before now due upto did h all idle long place free taker undue at at_now taken has =
    let old = before_there frees before place free long at in
    let rests = was_none streams free old.0 taker did place (after_all streams frees before now due upto did place free old.0 taker h all idle at old.1 at_now) undue in
    rests.changes taken (subst (λ (r : Taker). HasTaken free taken r) (rests.idle refl) has)
