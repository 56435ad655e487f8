-- What the loads of some files did, in order, up to the first that failed.
use Rattle.std.specs.Prelude.{◌≡◌, ℕ, List, [], ◌∷◌, ◌++◌, Option, None, Some, option_map, take}
use Rattle.std.specs.Option.{option_and_then}
use Rattle.mg_edge.specs.Edge.{StoreTold, most_loaded, one_more}
use Rattle.mg_answer.specs.Devices.{Device}

-- what a store tells of each name: the bytes of it, that there is no such file, or nothing
abbrev pub FilesTold : Type 0
FilesTold = List ℕ → Option (Option (List ℕ))

-- A load of a name gives this content, by what the store tells of the name. If the store tells its bytes, the content
-- is their prefix, as many of them as a load gives at most. If there is no such file, no load gives a content. If the
-- store doesn't tell, the content may be anything.
abbrev pub IsLoaded : Option (Option (List ℕ)) → List ℕ → Type 0
IsLoaded None content = Unit {0}
IsLoaded (Some None) content = ⊥
IsLoaded (Some (Some bytes)) content = content ≡ take most_loaded bytes

-- Loads of these names give these contents.
abbrev pub AreLoaded : FilesTold → List (List ℕ) → List (List ℕ) → Type 0
AreLoaded told [] [] = Unit {0}
AreLoaded told [] (content ∷ contents) = ⊥
AreLoaded told (name ∷ names) [] = ⊥
AreLoaded told (name ∷ names) (content ∷ contents) = IsLoaded (told name) content × AreLoaded told names contents

-- A store has the same contents as before.
abbrev pub StoreIsKept : Device StoreTold → Type 0
StoreIsKept store = (name : List ℕ) → store.now.content name ≡ store.before.content name

-- A store loaded these names, each once and in this order, and no other.
abbrev pub LoadedOnce : List (List ℕ) → Device StoreTold → Type 0
LoadedOnce names store = store.now.loaded ≡ store.before.loaded ++ names

-- All of these files were loaded, each once, and no load failed.
pub record LoadedAll (names contents : List (List ℕ)) (store : Device StoreTold) : Type 0 where
  pub kept : StoreIsKept store
  pub loaded : LoadedOnce names store
  pub given : AreLoaded store.before.content names contents
  pub steady : store.now.faults ≡ store.before.faults
  pub last : store.now.failed_name ≡ store.before.failed_name

-- This file couldn't be loaded. The files before it were loaded, each once, and no other load failed.
pub record FailedAt (names : List (List ℕ)) (file : List ℕ) (store : Device StoreTold) : Type 0 where
  pub kept : StoreIsKept store
  pub before : List (List ℕ)
  pub after : List (List ℕ)
  pub order : names ≡ before ++ file ∷ after
  pub loaded : LoadedOnce (before ++ file ∷ []) store
  pub contents : List (List ℕ)
  pub given : AreLoaded store.before.content before contents
  pub once : store.now.faults ≡ one_more store.before.faults
  pub last : store.now.failed_name ≡ Some file

-- The first of these files were loaded, each once, and no other.
pub record LoadedFront (names : List (List ℕ)) (store : Device StoreTold) : Type 0 where
  pub kept : StoreIsKept store
  pub front : List (List ℕ)
  pub rest : List (List ℕ)
  pub order : names ≡ front ++ rest
  pub loaded : LoadedOnce front store

-- the bytes of a name, if the store tells them
abbrev pub there : Option (Option (List ℕ)) → Option (List ℕ)
there None = None
there (Some bytes) = bytes

-- the contents that loads of these names give, if the store tells the bytes of each
abbrev pub loads_of : FilesTold → List (List ℕ) → Option (List (List ℕ))
loads_of told [] = Some []
loads_of told (name ∷ names) =
    option_and_then (λ bytes. option_map (λ contents. take most_loaded bytes ∷ contents) (loads_of told names)) (there (told name))
