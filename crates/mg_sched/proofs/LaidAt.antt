-- Engines of some graph inputs that are extended one by one, and shortened again from the last one on.
use Rattle.mg_calc.specs.Rules.{Laws}
use Rattle.std.proofs.Common.{◌≡◌, ◌≢◌, inl, inr, ℕ, zero, suc, ◌+◌, ◌<◌, ◌≤◌, List, [], ◌∷◌, length, slice_index_or, set, Some, slice_get, ap, sym, refl, subst, ◌∙◌, arith}
use Rattle.std.proofs.lemmas.Bool.{cases_eq}
use Rattle.std.proofs.lemmas.Option.{same_Some, slice_get_within}
use Rattle.mg_value.specs.Payload.{Plain}
use Rattle.mg_settled.specs.Prefix.{StreamPrefix}
use Rattle.mg_node.specs.Views.{EngineView}
use Rattle.mg_node.specs.Outputs.{laid_at}
use Rattle.mg_node.specs.Extending.{extended, MayExtend, WasExtended, SomeExtended}
use Rattle.mg_node.proofs.Lemmas.{get_other, input_known}
use Rattle.mg_sched.specs.Extends.{AreRising}
use Rattle.mg_sched.specs.Code.Made.{AtPlaces}
use Rattle.mg_sched.specs.Code.LongerAt.{HaveEngines, MayEachAt, IsNotAmong, AreLongerAt, IsBoundAt, WereLongerAt, SomeLongerAt}
use Rattle.mg_sched.proofs.Finding.{found, put_here, put_long}
use Rattle.mg_sched.proofs.LaidPieces.{same_places}
use Rattle.mg_sched.proofs.WoundNets.{order_of}

-- the number at a place of a list
pub number_at : (ns : List ℕ) (i : ℕ) → i < length ns → slice_get ns i ≡ Some (slice_index_or ns i 0)
number_at [] i less = absurd (omega (arith, less))
number_at (n ∷ ns) zero less = refl
number_at (n ∷ ns) (suc i) less = number_at ns i (omega (arith, less))

-- each input stands apart from those before it
apart_from : (from : ℕ) (inputs : List ℕ) (count input : ℕ) → AreRising inputs → slice_get inputs count ≡ Some input → IsNotAmong from inputs count (from + input)
apart_from from inputs count input rising at i other less other_at same = (let low = rising i count other input less other_at at in absurd (omega (arith, low, same)))

one_longer : (from : ℕ) (inputs : List ℕ) (pieces : List (StreamPrefix Plain)) (count input : ℕ) (before now new : List EngineView) (engine : EngineView) (piece : StreamPrefix Plain) → AreRising inputs → AreLongerAt from inputs pieces count before now
    → slice_get inputs count ≡ Some input → slice_get before (from + input) ≡ Some engine → slice_get pieces count ≡ Some piece → new ≡ set now (from + input) (extended engine piece) → AreLongerAt from inputs pieces (count + 1) before new
one_longer from inputs pieces count input before now new engine piece rising h input_at at piece_at is = record {
  places = ap length is ∙ put_long now (from + input) (extended engine piece) ∙ h.places;
  longer = λ i other old further less other_at old_at further_at. elim (order_of i count) [
    | inl earlier ↦
        (let low = rising i count other input earlier other_at input_at in
        ap (λ (es : List EngineView). slice_get es (from + other)) is
        ∙ get_other now (from + input) (from + other) (extended engine piece) (λ e. omega (arith, low, e)) ∙ h.longer i other old further earlier other_at old_at further_at)
    | inr last ↦
        (let here : i ≡ count = omega (arith, less, last) in
        let same : other ≡ input = same_Some other input (sym other_at ∙ ap (λ (n : ℕ). slice_get inputs n) here ∙ input_at) in
        let there = slice_get_within before (from + input) engine at in
        let long = h.places in
        ap (λ (es : List EngineView). slice_get es (from + other)) is
        ∙ ap (λ (n : ℕ). slice_get (set now (from + input) (extended engine piece)) (from + n)) same
        ∙ put_here now (from + input) (extended engine piece) (omega (arith, there, long))
        ∙ ap (λ (v : EngineView). Some (extended v piece)) (same_Some engine old (sym at ∙ ap (λ (n : ℕ). slice_get before (from + n)) (sym same) ∙ old_at))
        ∙ ap (λ (s : StreamPrefix Plain). Some (extended old s)) (same_Some piece further (sym piece_at ∙ ap (λ (n : ℕ). slice_get pieces n) (sym here) ∙ further_at)))
  ];
  others = λ place out.
      ap (λ (es : List EngineView). slice_get es place) is ∙ get_other now (from + input) place (extended engine piece) (out count input (omega arith) input_at)
      ∙ h.others place (λ i other less other_at. out i other (omega (arith, less)) other_at);
}

-- what stands at the next input's place stands there from the beginning on
next_there : (from : ℕ) (inputs : List ℕ) (pieces : List (StreamPrefix Plain)) (count input : ℕ) (before now : List EngineView) (engine : EngineView) → AreRising inputs → AreLongerAt from inputs pieces count before now → slice_get inputs count ≡ Some input
    → slice_get now (from + input) ≡ Some engine → slice_get before (from + input) ≡ Some engine
next_there from inputs pieces count input before now engine rising h input_at at = sym (h.others (from + input) (apart_from from inputs count input rising input_at)) ∙ at

pub may_next : {laws : Laws} (from : ℕ) (inputs : List ℕ) (pieces : List (StreamPrefix Plain)) (count input : ℕ) (before now : List EngineView) (piece : StreamPrefix Plain) → AreRising inputs → AreLongerAt from inputs pieces count before now
    → MayEachAt laws from inputs pieces before → slice_get inputs count ≡ Some input → slice_get pieces count ≡ Some piece → (engine : EngineView) → slice_get now (from + input) ≡ Some engine → MayExtend laws engine piece
may_next {laws} from inputs pieces count input before now piece rising h may input_at piece_at engine at = may count input engine piece input_at (next_there from inputs pieces count input before now engine rising h input_at at) piece_at

pub longer_next : (from : ℕ) (inputs : List ℕ) (pieces : List (StreamPrefix Plain)) (count input : ℕ) (before now new : List EngineView) (piece : StreamPrefix Plain) → AreRising inputs → AreLongerAt from inputs pieces count before now → HaveEngines from inputs before
    → slice_get inputs count ≡ Some input → slice_get pieces count ≡ Some piece → ((engine : EngineView) → slice_get now (from + input) ≡ Some engine → new ≡ set now (from + input) (extended engine piece)) → AreLongerAt from inputs pieces (count + 1) before new
longer_next from inputs pieces count input before now new piece rising h there input_at piece_at step =
    let places = h.places in
    let within = there count input input_at in
    let it = found now (from + input) (omega (arith, within, places)) in
    one_longer from inputs pieces count input before now new it.0 piece rising h input_at (next_there from inputs pieces count input before now it.0 rising h input_at it.1) piece_at (step it.0 it.1)

one_shorter : (from : ℕ) (inputs : List ℕ) (pieces : List (StreamPrefix Plain)) (count input : ℕ) (before now new : List EngineView) (engine : EngineView) → AreRising inputs → AreLongerAt from inputs pieces (count + 1) before now → slice_get inputs count ≡ Some input
    → slice_get before (from + input) ≡ Some engine → new ≡ set now (from + input) engine → AreLongerAt from inputs pieces count before new
one_shorter from inputs pieces count input before now new engine rising h input_at at is = record {
  places = ap length is ∙ put_long now (from + input) engine ∙ h.places;
  longer = λ i other old further less other_at old_at further_at.
      (let low = rising i count other input less other_at input_at in
      ap (λ (es : List EngineView). slice_get es (from + other)) is
      ∙ get_other now (from + input) (from + other) engine (λ e. omega (arith, low, e)) ∙ h.longer i other old further (omega (arith, less)) other_at old_at further_at);
  others = λ place out. elim (cases_eq place (from + input)) [
    | inl here ↦
        (let there = slice_get_within before (from + input) engine at in
        let long = h.places in
        ap (λ (es : List EngineView). slice_get es place) is
        ∙ ap (λ (n : ℕ). slice_get (set now (from + input) engine) n) here
        ∙ put_here now (from + input) engine (omega (arith, there, long))
        ∙ sym at ∙ ap (λ (n : ℕ). slice_get before n) (sym here))
    | inr other ↦ ap (λ (es : List EngineView). slice_get es place) is ∙ get_other now (from + input) place engine other ∙ h.others place (still_out place out other)
  ];
}
  where
    still_out : (place : ℕ) → IsNotAmong from inputs count place → place ≢ from + input → IsNotAmong from inputs (count + 1) place
    still_out place out other i further less further_at same = elim (order_of i count) [
      | inl earlier ↦ out i further earlier further_at same
      | inr last ↦
          (let here : i ≡ count = omega (arith, less, last) in
          other (same ∙ ap (λ (n : ℕ). from + n) (same_Some further input (sym further_at ∙ ap (λ (n : ℕ). slice_get inputs n) here ∙ input_at))))
    ]

all_shorter : (from : ℕ) (inputs : List ℕ) (pieces : List (StreamPrefix Plain)) (before now : List EngineView) → AreLongerAt from inputs pieces 0 before now → now ≡ before
all_shorter from inputs pieces before now h = same_places now before h.places (λ place. h.others place (λ i input less input_at. absurd (omega (arith, less))))

-- what a step of the loop backward finds, and what it leaves

was_longer : {laws : Laws} (from : ℕ) (inputs : List ℕ) (pieces : List (StreamPrefix Plain)) (bounds : List ℕ) (count input : ℕ) (before now : List EngineView) (piece : StreamPrefix Plain) (bound : ℕ) (old engine : EngineView)
    → WereLongerAt laws from inputs pieces bounds (count + 1) before now → slice_get inputs count ≡ Some input → slice_get pieces count ≡ Some piece → slice_get bounds count ≡ Some bound → slice_get before (from + input) ≡ Some old
    → slice_get now (from + input) ≡ Some engine → WasExtended laws piece bound old engine
was_longer {laws} from inputs pieces bounds count input before now piece bound old engine h input_at piece_at bound_at old_at at = record {
  may = h.may count input old piece input_at old_at piece_at;
  is = same_Some engine (extended old piece) (sym at ∙ h.are.longer count input old piece (omega arith) input_at old_at piece_at);
  bound_was = h.bounds_were count bound bound_at input old input_at old_at;
}

old_there : {laws : Laws} (from : ℕ) (inputs : List ℕ) (pieces : List (StreamPrefix Plain)) (bounds : List ℕ) (count i input : ℕ) (before now : List EngineView) → WereLongerAt laws from inputs pieces bounds count before now → slice_get inputs i ≡ Some input
    → (old : EngineView) × (slice_get before (from + input) ≡ Some old)
old_there {laws} from inputs pieces bounds count i input before now h input_at = found before (from + input) (h.there i input input_at)

pub some_longer_there : {laws : Laws} (from : ℕ) (inputs : List ℕ) (pieces : List (StreamPrefix Plain)) (bounds : List ℕ) (count i input : ℕ) (now : List EngineView) → SomeLongerAt laws from inputs pieces bounds count now → slice_get inputs i ≡ Some input
    → from + input < length now
some_longer_there {laws} from inputs pieces bounds count i input now h input_at = (let within = h.were.there i input input_at in let places = h.were.are.places in omega (arith, within, places))

pub some_longer_at : {laws : Laws} (from : ℕ) (inputs : List ℕ) (pieces : List (StreamPrefix Plain)) (bounds : List ℕ) (count input : ℕ) (now : List EngineView) (piece : StreamPrefix Plain) (bound : ℕ) → SomeLongerAt laws from inputs pieces bounds (count + 1) now
    → slice_get inputs count ≡ Some input → slice_get pieces count ≡ Some piece → slice_get bounds count ≡ Some bound → (engine : EngineView) → slice_get now (from + input) ≡ Some engine → SomeExtended laws piece bound engine
some_longer_at {laws} from inputs pieces bounds count input now piece bound h input_at piece_at bound_at engine at =
    let old = old_there from inputs pieces bounds (count + 1) count input h.before now h.were input_at in
    record { before = old.0; was = was_longer from inputs pieces bounds count input h.before now piece bound old.0 engine h.were input_at piece_at bound_at old.1 at }

-- a place is given by its number
abbrev ShortensAt : Laws → ℕ → List EngineView → List EngineView → StreamPrefix Plain → ℕ → Type 0
ShortensAt laws place now new piece bound = (before engine : EngineView) → slice_get now place ≡ Some engine → WasExtended laws piece bound before engine → new ≡ set now place before

pub shorter_were : {laws : Laws} (from : ℕ) (inputs : List ℕ) (pieces : List (StreamPrefix Plain)) (bounds : List ℕ) (count input : ℕ) (before now new : List EngineView) (piece : StreamPrefix Plain) (bound : ℕ) → WereLongerAt laws from inputs pieces bounds (count + 1) before now
    → slice_get inputs count ≡ Some input → slice_get pieces count ≡ Some piece → slice_get bounds count ≡ Some bound → ShortensAt laws (from + input) now new piece bound → WereLongerAt laws from inputs pieces bounds count before new
shorter_were {laws} from inputs pieces bounds count input before now new piece bound h input_at piece_at bound_at step =
    let old = old_there from inputs pieces bounds (count + 1) count input before now h input_at in
    let within = h.there count input input_at in let places = h.are.places in
    let engine = found now (from + input) (omega (arith, within, places)) in
    record {
      are = one_shorter from inputs pieces count input before now new old.0 h.rising h.are input_at old.1 (step old.0 engine.0 engine.1 (was_longer from inputs pieces bounds count input before now piece bound old.0 engine.0 h input_at piece_at bound_at old.1 engine.1));
      may = h.may;
      bounds_were = h.bounds_were;
      there = h.there;
      rising = h.rising;
    }

pub shortened_all : {laws : Laws} (from : ℕ) (inputs : List ℕ) (pieces : List (StreamPrefix Plain)) (bounds : List ℕ) (count : ℕ) (before now : List EngineView) → count ≤ 0 → WereLongerAt laws from inputs pieces bounds count before now → now ≡ before
shortened_all {laws} from inputs pieces bounds count before now none h =
    all_shorter from inputs pieces before now (subst (λ (n : ℕ). AreLongerAt from inputs pieces n before now) (omega (arith, none)) h.are)

-- what the whole call leaves if not all engines could be extended
pub shorter_again : {laws : Laws} (from : ℕ) (inputs : List ℕ) (pieces : List (StreamPrefix Plain)) (bounds : List ℕ) (count : ℕ) (before now new : List EngineView) → AreLongerAt from inputs pieces count before now → MayEachAt laws from inputs pieces before
    → AtPlaces (IsBoundAt from inputs before) bounds → HaveEngines from inputs before → AreRising inputs → ((old : List EngineView) → WereLongerAt laws from inputs pieces bounds count old now → new ≡ old) → new ≡ before
shorter_again {laws} from inputs pieces bounds count before now new are may bounds_were there rising step = step before (record { are = are; may = may; bounds_were = bounds_were; there = there; rising = rising })

-- an engine that may be extended has an output
has_output : {laws : Laws} (engine : EngineView) (piece : StreamPrefix Plain) → MayExtend laws engine piece → 0 < length engine.outputs
has_output {laws} engine piece may = (let one = (input_known may.job may.input engine may.lawful).one in omega (arith, one))

pub has_bound : {laws : Laws} (from i input : ℕ) (inputs : List ℕ) (pieces : List (StreamPrefix Plain)) (engines : List EngineView) (engine : EngineView) → MayEachAt laws from inputs pieces engines → i < length pieces → slice_get inputs i ≡ Some input
    → slice_get engines (from + input) ≡ Some engine → 0 < length engine.outputs
has_bound {laws} from i input inputs pieces engines engine may less input_at at = (let piece = found pieces i less in has_output engine piece.0 (may i input engine piece.0 input_at at piece.1))

pub bound_there : (from i input : ℕ) (inputs : List ℕ) (engines : List EngineView) (engine : EngineView) (bound : ℕ) → slice_get inputs i ≡ Some input → slice_get engines (from + input) ≡ Some engine → bound ≡ (laid_at engine 0).bound
    → IsBoundAt from inputs engines i bound
bound_there from i input inputs engines engine bound input_at at is = λ other other_engine other_at other_engine_at.
    (let same : other ≡ input = same_Some other input (sym other_at ∙ input_at) in
    ap (λ (v : EngineView). (laid_at v 0).bound) (same_Some other_engine engine (sym other_engine_at ∙ ap (λ (n : ℕ). slice_get engines (from + n)) same ∙ at)) ∙ sym is)
