-- Definitions for the contracts of the crate's inner functions. No public contract rests on them.
use Rattle.std.specs.Prelude.{◌≡◌, ◌⊎◌, ℕ, Bool, true, false, List, take, Option, None, Some, ⊤}
use Rattle.std.specs.Option.{option_map}
use Rattle.mg_edge.specs.declared.store.Loaded.{Loaded}
use Rattle.mg_edge.specs.declared.store.Loaded.TheVariants.{Bytes, Failed, OutOfMemory}
use Rattle.mg_edge.specs.Edge.{most_loaded}

-- What a load of a store in memory answers, by whether it is to fail and by the content.
abbrev pub LooksUp : Bool → Option (List ℕ) → Loaded → Type 0
LooksUp fails content (Bytes bytes) =
    (fails ≡ false) × (option_map (λ all. take most_loaded all) content ≡ Some bytes.items)
LooksUp fails content Failed = (fails ≡ true) ⊎ (content ≡ None)
LooksUp fails content OutOfMemory = ⊤

-- The answer is out of memory, or the first bytes of a content, as many as a load gives.
abbrev pub IsFrontOf : List ℕ → Loaded → Type 0
IsFrontOf content (Bytes bytes) = bytes.items ≡ take most_loaded content
IsFrontOf content Failed = ⊥
IsFrontOf content OutOfMemory = ⊤
