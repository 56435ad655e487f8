-- A state whose places are all full.
use Rattle.std.proofs.Common.{◌≡◌, ℕ, ◌+◌, ◌<◌, pos, List, [], ◌∷◌, ◌++◌, map, take, length, get_or, Option, Some, None, slice_get, option_map, option_copied, Bor, refl, sym, ap, ◌∙◌}
use Rattle.std.specs.Option.{option_and_then, option_to_list}
use Rattle.std.proofs.lemmas.List.{take_more, map-append}
use Rattle.std.proofs.lemmas.List.Elements.{filter_map-append}
use Rattle.std.proofs.lemmas.Option.{slice_get-map}
use Rattle.mg_time.specs.Time.{pre_stream}
use Rattle.mg_value.specs.Plain.{Plain}
use Rattle.mg_calc.specs.Values.{stored, kept_in}
use Rattle.mg_calc.specs.State.{number_in, count_in, next_valid, kept_at, kept_list, full_places}
use Rattle.mg_calc.proofs.StateLemmas.{number_in-places, count_in-places, next_valid-places}

-- a list that is kept is read back as it was
pub kept-full_places : (list : List Plain) → kept_list (full_places list) ≡ list
kept-full_places [] = refl
kept-full_places (v ∷ vs) = ap (λ ws. v ∷ ws) (kept-full_places vs)

-- it has no number and has counted nothing
pub number_in-full : (list : List Plain) → number_in (full_places list) ≡ pos 0
number_in-full list = number_in-places Some list

pub count_in-full : (list : List Plain) → count_in (full_places list) ≡ 0
count_in-full list = count_in-places Some list

pub next_valid-full : (list : List Plain) → next_valid (full_places list) ≡ pre_stream
next_valid-full list = next_valid-places Some list

-- what is at a place of it
kept_of : (o : Option Plain) → option_and_then kept_in (option_map (λ v. stored (Some v)) o) ≡ o
kept_of None = refl
kept_of (Some v) = refl

copied : {X : Type 0} (f : X → Plain) (o : Option (Bor X)) → option_map (λ p. f p.now) o ≡ option_map f (option_copied o)
copied f None = refl
copied f (Some b) = refl

pub place-full : {X : Type 0} (f : X → Plain) (xs : List X) (i : ℕ) (o : Option (Bor X)) → option_copied o ≡ slice_get xs i
    → option_map (λ p. f p.now) o ≡ kept_at (full_places (map f xs)) i
place-full f xs i o is =
    copied f o ∙ ap (option_map f) is ∙ sym (slice_get-map f xs i) ∙ sym (kept_of (slice_get (map f xs) i))
    ∙ ap (option_and_then kept_in) (sym (slice_get-map (λ v. stored (Some v)) (map f xs) i))

-- the full places among the first of some
kept_stored : (o : Option Plain) → kept_list (stored o ∷ []) ≡ option_to_list o
kept_stored None = refl
kept_stored (Some v) = refl

pub kept-take_more : {X : Type 0} (f : X → Option Plain) (xs : List X) (i : ℕ) (x : X) (so_far : List Plain) → so_far ≡ kept_list (map (λ p. stored (f p)) (take i xs)) → i < length xs → x ≡ get_or xs i x
    → so_far ++ option_to_list (f x) ≡ kept_list (map (λ p. stored (f p)) (take (i + 1) xs))
kept-take_more {X = X} f xs i x so_far is below item =
    let g : X → Plain = λ p. stored (f p) in
    let more : take (i + 1) xs ≡ take i xs ++ x ∷ [] = take_more xs i x below ∙ ap (λ y. take i xs ++ y ∷ []) (sym item) in
    let parts : kept_list (map g (take (i + 1) xs)) ≡ kept_list (map g (take i xs)) ++ kept_list (stored (f x) ∷ []) =
    ap (λ l. kept_list (map g l)) more ∙ ap kept_list (map-append g (take i xs) (x ∷ [])) ∙ filter_map-append kept_in (map g (take i xs)) (stored (f x) ∷ []) in
    ap (λ l. l ++ option_to_list (f x)) is ∙ ap (λ l. kept_list (map g (take i xs)) ++ l) (sym (kept_stored (f x))) ∙ sym parts
