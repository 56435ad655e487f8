-- Lines of different streams.
use Rattle.std.specs.Prelude.{◌≡◌, ◌≢◌, ℕ, List, [], ◌∷◌, map, true, All, Option, None, Some, option_and_then, if◌then◌else◌}
use Rattle.std.specs.List.{list_all}
use Rattle.mg_feed.specs.Form.{Form, packets, bound, close, side, is_blank, form_of, json_value}
use Rattle.mg_feed.specs.Accepted.{names_stream}

-- the streams that a form names
abbrev pub names_in : Option Form → List (List ℕ)
names_in None = []
names_in (Some (packets t vs)) = map (λ v. v.name) vs
names_in (Some (bound name t)) = name ∷ []
names_in (Some (close name)) = name ∷ []
names_in (Some (side name v)) = []

-- the streams that a line names
abbrev pub named_streams : List ℕ → List (List ℕ)
named_streams line = if list_all is_blank line then [] else names_in (option_and_then form_of (json_value line))

-- both lines name streams, and no stream is named by both
pub record AreApart (first second : List ℕ) : Type 0 where
  pub one : names_stream first ≡ true
  pub other : names_stream second ≡ true
  pub apart : All (λ n. All (λ m. n ≢ m) (named_streams second)) (named_streams first)
