-- What a cloner keeps, place by place.
use Rattle.std.proofs.Common.{◌≡◌, ℕ, zero, suc, ◌<◌, min, List, [], ◌∷◌, ◌++◌, Option, Some, None, is_some, Ok, true, false, map, replicate, take, length, get_or, refl, sym, ◌∙◌, arith}
use Rattle.std.proofs.lemmas.List.{length-take, length-map, length-append, length-replicate, get_or-map, get_or-take}
use Rattle.std.proofs.lemmas.Option.{unwrap_or-slice_get}
use Rattle.std.proofs.lemmas.List.FromFn.{fill_by_all}
use Rattle.std.proofs.lemmas.Slice.Zip.{length-zip, get_or-zip}
use Rattle.std.specs.List.{zip}
use Rattle.mg_value.specs.Plain.{Plain}
use Rattle.mg_value.specs.Packet.{Stamped}
use Rattle.mg_calc.specs.Values.{place_at, stored, kept_in}
use Rattle.mg_calc.specs.State.{kept_at}
use Rattle.mg_calc.specs.declared.emission.Laid.{Laid}
use Rattle.mg_calc.specs.Answer.{emission_of}
use Rattle.mg_calc.specs.Routing.{renewed, renewed_places, copy_at, cloner}
use Rattle.mg_route.specs.Places.{first_places}

-- a place that is stored as a payload keeps what it kept
kept_in-stored : (o : Option Plain) → kept_in (stored o) ≡ o
kept_in-stored None = refl
kept_in-stored (Some p) = refl

pub kept_at-stored : (places : List (Option Plain)) (i : ℕ) → kept_at (map stored places) i ≡ get_or places i None
kept_at-stored [] i = refl
kept_at-stored (o ∷ places) zero = kept_in-stored o
kept_at-stored (o ∷ places) (suc i) = kept_at-stored places i

abbrev nothing : Option Plain
nothing = None

get_or-none : (lanes i : ℕ) → get_or (replicate lanes nothing) i nothing ≡ nothing
get_or-none zero i = refl
get_or-none (suc lanes) zero = refl
get_or-none (suc lanes) (suc i) = get_or-none lanes i

-- the places of a state, and empty places after them
pub get_or-kept : (state : List Plain) (lanes i : ℕ) → get_or (map kept_in state ++ replicate lanes nothing) i nothing ≡ kept_at state i
get_or-kept [] lanes i = get_or-none lanes i
get_or-kept (p ∷ state) lanes zero = refl
get_or-kept (p ∷ state) lanes (suc i) = get_or-kept state lanes i

-- the places that are renewed are those of the set and the state
module _ (state : List Plain) (set : List (Option (Stamped Plain))) (lanes count : ℕ) (least : count ≡ min lanes (length set)) where
  abbrev kept : List (Option Plain)
  kept = map kept_in state ++ replicate lanes nothing

  length-pairs : length (zip (take lanes set) (take lanes kept)) ≡ count
  length-pairs =
      let keeps = length-take lanes kept in
      let long = length-append (map kept_in state) (replicate lanes nothing) in
      omega (arith, least, length-take lanes set, keeps, long, length-replicate lanes nothing, length-zip (take lanes set) (take lanes kept))

  pub length-renewed : length (renewed_places lanes state set) ≡ count
  length-renewed = length-map (zip (take lanes set) (take lanes kept)) renewed ∙ length-pairs

  renewed-at : (k : ℕ) → k < count → get_or (renewed_places lanes state set) k None ≡ renewed (place_at set k, kept_at state k)
  renewed-at k below =
      let front : get_or (take lanes set) k None ≡ place_at set k = get_or-take lanes set k None (omega (arith, least)) ∙ sym (unwrap_or-slice_get set k None) in
      let back : get_or (take lanes kept) k None ≡ kept_at state k = get_or-take lanes kept k None (omega (arith, least)) ∙ get_or-kept state lanes k in
      let pairs = length-zip (take lanes set) (take lanes kept) in
      let both = get_or-zip (take lanes set) (take lanes kept) k (None, None) (omega (arith, pairs, length-pairs)) (omega (arith, pairs, length-pairs)) in
      get_or-map renewed (zip (take lanes set) (take lanes kept)) k (None, None) None (omega (arith, length-pairs)) ∙ rw (both, front, back) refl

  pub first_places-renewed : first_places (λ i. renewed (place_at set i, kept_at state i)) count ≡ renewed_places lanes state set
  first_places-renewed =
      sym (fill_by_all (λ i. renewed (place_at set i, kept_at state i)) (renewed_places lanes state set) count None length-renewed renewed-at)

-- what is kept, as packets
pub first_places-copies : (t : ℕ) (places : List (Option Plain)) (count : ℕ) → length places ≡ count
    → first_places (λ i. copy_at t (kept_at (map stored places) i)) count ≡ map (copy_at t) places
first_places-copies t places count long =
    sym (fill_by_all (λ i. copy_at t (kept_at (map stored places) i)) (map (copy_at t) places) count None (length-map places (copy_at t) ∙ long)
    (λ k below. rw (kept_at-stored places k) (get_or-map (copy_at t) places k None None (omega (arith, long)))))

-- a cloner with a packet of TICK, and without one
module _ (state : List Plain) (set : List (Option (Stamped Plain))) (lanes count t : ℕ) (least : count ≡ min lanes (length set)) (keeps : List Plain)
    (keeps-renewed : keeps ≡ map stored (renewed_places lanes state set)) (emission : List Laid) where
  pub cloner-ticks : is_some (place_at set lanes) ≡ true → emission ≡ emission_of (first_places (λ i. copy_at t (kept_at keeps i)) count)
      → cloner lanes state t set ≡ Ok (keeps, emission)
  cloner-ticks ticks emits =
      let places = renewed_places lanes state set in
      let copies : first_places (λ i. copy_at t (kept_at keeps i)) count ≡ map (copy_at t) places =
      rw keeps-renewed (first_places-copies t places count (length-renewed state set lanes count least)) in
      rw (emits, copies, ticks, keeps-renewed) refl

  pub cloner-waits : is_some (place_at set lanes) ≡ false → emission ≡ [] → cloner lanes state t set ≡ Ok (keeps, emission)
  cloner-waits waits emits = rw (emits, waits, keeps-renewed) refl
