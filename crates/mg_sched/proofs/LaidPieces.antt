-- Engines of graph inputs that are extended one by one, and shortened again from the last one on.
use Rattle.mg_calc.specs.Rules.{Laws}
use Rattle.std.proofs.Common.{◌≡◌, ◌≢◌, ◌⊎◌, inl, inr, ℕ, suc, ◌+◌, ◌<◌, ◌≤◌, List, [], ◌∷◌, length, set, Some, slice_get, ap, sym, refl, subst, subst₂, ◌∙◌, arith}
use Rattle.std.proofs.lemmas.Option.{same_Some, slice_get_within}
use Rattle.mg_value.specs.Payload.{Plain}
use Rattle.mg_settled.specs.Prefix.{StreamPrefix}
use Rattle.mg_node.specs.Views.{EngineView}
use Rattle.mg_node.specs.Outputs.{laid_at}
use Rattle.mg_node.specs.Extending.{extended, MayExtend, WasExtended, SomeExtended}
use Rattle.mg_node.proofs.Lemmas.{get_other, input_known}
use Rattle.mg_sched.specs.Code.Made.{AtPlaces}
use Rattle.mg_sched.specs.Code.Longer.{MayEach, AreLonger, IsBound, WereLonger, SomeLonger}
use Rattle.mg_sched.proofs.Finding.{found, put_here, put_long}
use Rattle.mg_sched.proofs.WoundNets.{order_of}

-- equal lists are equal at each place
pub same_places : {X : Type 0} (xs ys : List X) → length xs ≡ length ys → ((i : ℕ) → slice_get xs i ≡ slice_get ys i) → xs ≡ ys
same_places [] [] long same = refl
same_places [] (y ∷ ys) long same = absurd (omega (arith, long))
same_places (x ∷ xs) [] long same = absurd (omega (arith, long))
same_places {X} (x ∷ xs) (y ∷ ys) long same =
    let first : x ≡ y = same_Some x y (same 0) in
    let rest : xs ≡ ys = same_places xs ys (omega (arith, long)) (λ i. same (suc i)) in
    λ i. first i ∷ rest i

-- past the first ones so far, and at the next, is all that isn't below
elsewhere : (from count place : ℕ) → (place < from) ⊎ (from + (count + 1) ≤ place) → ((place < from) ⊎ (from + count ≤ place)) × (place ≢ from + count)
elsewhere from count place (inl less) = (inl less, λ e. omega (arith, less, e))
elsewhere from count place (inr past) = (inr (omega (arith, past)), λ e. omega (arith, past, e))

one_longer : (from : ℕ) (pieces : List (StreamPrefix Plain)) (count : ℕ) (before now new : List EngineView) (engine : EngineView) (piece : StreamPrefix Plain) → AreLonger from pieces count before now
    → slice_get before (from + count) ≡ Some engine → slice_get pieces count ≡ Some piece → new ≡ set now (from + count) (extended engine piece) → AreLonger from pieces (count + 1) before new
one_longer from pieces count before now new engine piece h at piece_at is = record {
  places = ap length is ∙ put_long now (from + count) (extended engine piece) ∙ h.places;
  longer = λ input other further less other_at further_at. elim (order_of input count) [
    | inl earlier ↦ ap (λ (es : List EngineView). slice_get es (from + input)) is
        ∙ get_other now (from + count) (from + input) (extended engine piece) (λ e. omega (arith, earlier, e)) ∙ h.longer input other further earlier other_at further_at
    | inr last ↦
        (let here : input ≡ count = omega (arith, less, last) in
        let there = slice_get_within before (from + count) engine at in
        let long = h.places in
        ap (λ (es : List EngineView). slice_get es (from + input)) is
        ∙ ap (λ (n : ℕ). slice_get (set now (from + count) (extended engine piece)) (from + n)) here
        ∙ put_here now (from + count) (extended engine piece) (omega (arith, there, long))
        ∙ ap (λ (v : EngineView). Some (extended v piece)) (same_Some engine other (sym at ∙ ap (λ (n : ℕ). slice_get before (from + n)) (sym here) ∙ other_at))
        ∙ ap (λ (s : StreamPrefix Plain). Some (extended other s)) (same_Some piece further (sym piece_at ∙ ap (λ (n : ℕ). slice_get pieces n) (sym here) ∙ further_at)))
  ];
  others = λ place where_it_is. (let it = elsewhere from count place where_it_is in
      ap (λ (es : List EngineView). slice_get es place) is ∙ get_other now (from + count) place (extended engine piece) it.1 ∙ h.others place it.0);
}

-- what stands at the next place stands there from the beginning on
next_there : (from : ℕ) (pieces : List (StreamPrefix Plain)) (count : ℕ) (before now : List EngineView) (engine : EngineView) → AreLonger from pieces count before now → slice_get now (from + count) ≡ Some engine → slice_get before (from + count) ≡ Some engine
next_there from pieces count before now engine h at = sym (h.others (from + count) (inr (omega arith))) ∙ at

pub may_next : {laws : Laws} (from : ℕ) (pieces : List (StreamPrefix Plain)) (count : ℕ) (before now : List EngineView) (piece : StreamPrefix Plain) → AreLonger from pieces count before now → MayEach laws from pieces before → slice_get pieces count ≡ Some piece
    → (engine : EngineView) → slice_get now (from + count) ≡ Some engine → MayExtend laws engine piece
may_next {laws} from pieces count before now piece h may piece_at engine at = may count engine piece (next_there from pieces count before now engine h at) piece_at

pub longer_next : (from : ℕ) (pieces : List (StreamPrefix Plain)) (count : ℕ) (before now new : List EngineView) (piece : StreamPrefix Plain) → AreLonger from pieces count before now → from + count < length before → slice_get pieces count ≡ Some piece
    → ((engine : EngineView) → slice_get now (from + count) ≡ Some engine → new ≡ set now (from + count) (extended engine piece)) → AreLonger from pieces (count + 1) before new
longer_next from pieces count before now new piece h within piece_at step =
    let places = h.places in
    let it = found now (from + count) (omega (arith, within, places)) in
    one_longer from pieces count before now new it.0 piece h (next_there from pieces count before now it.0 h it.1) piece_at (step it.0 it.1)

-- a place that isn't another is below it or above
apart : (from count place : ℕ) → (place < from) ⊎ (from + count ≤ place) → (place ≡ from + count) ⊎ ((place ≢ from + count) × ((place < from) ⊎ (from + (count + 1) ≤ place)))
apart from count place (inl less) = inr ((λ e. omega (arith, less, e)), inl less)
apart from count place (inr past) = elim (order_of (from + count) place) [
  | inl more ↦ inr ((λ e. omega (arith, more, e)), inr (omega (arith, more)))
  | inr most ↦ inl (omega (arith, past, most))
]

one_shorter : (from : ℕ) (pieces : List (StreamPrefix Plain)) (count : ℕ) (before now new : List EngineView) (engine : EngineView) → AreLonger from pieces (count + 1) before now
    → slice_get before (from + count) ≡ Some engine → new ≡ set now (from + count) engine → AreLonger from pieces count before new
one_shorter from pieces count before now new engine h at is = record {
  places = ap length is ∙ put_long now (from + count) engine ∙ h.places;
  longer = λ input other further less other_at further_at.
      ap (λ (es : List EngineView). slice_get es (from + input)) is
      ∙ get_other now (from + count) (from + input) engine (λ e. omega (arith, less, e)) ∙ h.longer input other further (omega (arith, less)) other_at further_at;
  others = λ place where_it_is. elim (apart from count place where_it_is) [
    | inl here ↦
        (let there = slice_get_within before (from + count) engine at in
        let long = h.places in
        ap (λ (es : List EngineView). slice_get es place) is
        ∙ ap (λ (n : ℕ). slice_get (set now (from + count) engine) n) here
        ∙ put_here now (from + count) engine (omega (arith, there, long))
        ∙ sym at ∙ ap (λ (n : ℕ). slice_get before n) (sym here))
    | inr other ↦ ap (λ (es : List EngineView). slice_get es place) is ∙ get_other now (from + count) place engine other.0 ∙ h.others place other.1
  ];
}

all_shorter : (from : ℕ) (pieces : List (StreamPrefix Plain)) (before now : List EngineView) → AreLonger from pieces 0 before now → now ≡ before
all_shorter from pieces before now h = same_places now before h.places (λ place. h.others place (either from place))
  where
    either : (n place : ℕ) → (place < n) ⊎ (n + 0 ≤ place)
    either n place = elim (order_of place n) [ inl less ↦ inl less | inr past ↦ inr (omega (arith, past)) ]

-- what a step of the loop backward finds, and what it leaves

was_longer : {laws : Laws} (from : ℕ) (pieces : List (StreamPrefix Plain)) (bounds : List ℕ) (count : ℕ) (before now : List EngineView) (piece : StreamPrefix Plain) (bound : ℕ) (old engine : EngineView) → WereLonger laws from pieces bounds (count + 1) before now
    → slice_get pieces count ≡ Some piece → slice_get bounds count ≡ Some bound → slice_get before (from + count) ≡ Some old → slice_get now (from + count) ≡ Some engine → WasExtended laws piece bound old engine
was_longer {laws} from pieces bounds count before now piece bound old engine h piece_at bound_at old_at at = record {
  may = h.may count old piece old_at piece_at;
  is = same_Some engine (extended old piece) (sym at ∙ h.are.longer count old piece (omega arith) old_at piece_at);
  bound_was = h.bounds_were count bound bound_at old old_at;
}

old_there : {laws : Laws} (from : ℕ) (pieces : List (StreamPrefix Plain)) (bounds : List ℕ) (count : ℕ) (before now : List EngineView) → WereLonger laws from pieces bounds (count + 1) before now → (old : EngineView) × (slice_get before (from + count) ≡ Some old)
old_there {laws} from pieces bounds count before now h = (let within = h.within in found before (from + count) (omega (arith, within)))

pub some_longer_there : {laws : Laws} (from : ℕ) (pieces : List (StreamPrefix Plain)) (bounds : List ℕ) (count : ℕ) (now : List EngineView) → SomeLonger laws from pieces bounds (count + 1) now → from + count < length now
some_longer_there {laws} from pieces bounds count now h = (let within = h.were.within in let places = h.were.are.places in omega (arith, within, places))

pub some_longer_at : {laws : Laws} (from : ℕ) (pieces : List (StreamPrefix Plain)) (bounds : List ℕ) (count : ℕ) (now : List EngineView) (piece : StreamPrefix Plain) (bound : ℕ) → SomeLonger laws from pieces bounds (count + 1) now
    → slice_get pieces count ≡ Some piece → slice_get bounds count ≡ Some bound → (engine : EngineView) → slice_get now (from + count) ≡ Some engine → SomeExtended laws piece bound engine
some_longer_at {laws} from pieces bounds count now piece bound h piece_at bound_at engine at =
    let old = old_there from pieces bounds count h.before now h.were in
    record { before = old.0; was = was_longer from pieces bounds count h.before now piece bound old.0 engine h.were piece_at bound_at old.1 at }

-- a place is given by its number
abbrev ShortensAt : Laws → ℕ → List EngineView → List EngineView → StreamPrefix Plain → ℕ → Type 0
ShortensAt laws place now new piece bound = (before engine : EngineView) → slice_get now place ≡ Some engine → WasExtended laws piece bound before engine → new ≡ set now place before

pub shorter_were : {laws : Laws} (from : ℕ) (pieces : List (StreamPrefix Plain)) (bounds : List ℕ) (count : ℕ) (before now new : List EngineView) (piece : StreamPrefix Plain) (bound : ℕ) → WereLonger laws from pieces bounds (count + 1) before now
    → slice_get pieces count ≡ Some piece → slice_get bounds count ≡ Some bound → ShortensAt laws (from + count) now new piece bound → WereLonger laws from pieces bounds count before new
shorter_were {laws} from pieces bounds count before now new piece bound h piece_at bound_at step =
    let old = old_there from pieces bounds count before now h in
    let within = h.within in let places = h.are.places in
    let engine = found now (from + count) (omega (arith, within, places)) in
    record {
      are = one_shorter from pieces count before now new old.0 h.are old.1 (step old.0 engine.0 engine.1 (was_longer from pieces bounds count before now piece bound old.0 engine.0 h piece_at bound_at old.1 engine.1));
      may = h.may;
      bounds_were = h.bounds_were;
      within = omega (arith, within);
    }

pub shortened_all : {laws : Laws} (from : ℕ) (pieces : List (StreamPrefix Plain)) (bounds : List ℕ) (count : ℕ) (before now : List EngineView) → count ≤ 0 → WereLonger laws from pieces bounds count before now → now ≡ before
shortened_all {laws} from pieces bounds count before now none h =
    all_shorter from pieces before now (subst (λ (n : ℕ). AreLonger from pieces n before now) (omega (arith, none)) h.are)

-- what the whole call leaves: all engines are extended, or none
pub longer_all : (from n : ℕ) (pieces : List (StreamPrefix Plain)) (count : ℕ) (before now : List EngineView) → n ≡ from → count ≡ length pieces → AreLonger n pieces count before now → AreLonger from pieces (length pieces) before now
longer_all from n pieces count before now from_is all h = subst₂ (λ (m k : ℕ). AreLonger m pieces k before now) from_is all h

pub shorter_again : {laws : Laws} (from : ℕ) (pieces : List (StreamPrefix Plain)) (bounds : List ℕ) (count : ℕ) (before now new : List EngineView) → AreLonger from pieces count before now → MayEach laws from pieces before → AtPlaces (IsBound from before) bounds
    → from + count ≤ length before → ((old : List EngineView) → WereLonger laws from pieces bounds count old now → new ≡ old) → new ≡ before
shorter_again {laws} from pieces bounds count before now new are may bounds_were within step = step before (record { are = are; may = may; bounds_were = bounds_were; within = within })

-- an engine that may be extended has an output
has_output : {laws : Laws} (engine : EngineView) (piece : StreamPrefix Plain) → MayExtend laws engine piece → 0 < length engine.outputs
has_output {laws} engine piece may = (let one = (input_known may.job may.input engine may.lawful).one in omega (arith, one))

pub has_bound : {laws : Laws} (from input : ℕ) (pieces : List (StreamPrefix Plain)) (engines : List EngineView) (engine : EngineView) → MayEach laws from pieces engines → input < length pieces → slice_get engines (from + input) ≡ Some engine → 0 < length engine.outputs
has_bound {laws} from input pieces engines engine may less at = (let piece = found pieces input less in has_output engine piece.0 (may input engine piece.0 at piece.1))

pub bound_there : (from input : ℕ) (engines : List EngineView) (engine : EngineView) (bound : ℕ) → slice_get engines (from + input) ≡ Some engine → bound ≡ (laid_at engine 0).bound → IsBound from engines input bound
bound_there from input engines engine bound at is = λ other other_at. ap (λ (v : EngineView). (laid_at v 0).bound) (same_Some other engine (sym other_at ∙ at)) ∙ sym is
