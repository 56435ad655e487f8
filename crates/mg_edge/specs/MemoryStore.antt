-- What contracts see of a store in memory, and what a load of it answers.
use Rattle.std.specs.Prelude.{◌≡◌, ◌≢◌, ◌⊎◌, ℕ, List, map, Vec, String, take, Option, None, Some, ⊤}
use Rattle.std.specs.Option.{option_map}
use Rattle.std.specs.String.{string_bytes}
use Rattle.std.specs.BTreeMap.{get_by_text, BTreeMap}
use Rattle.std.specs.declared.alloc.Global.{Global}
use Rattle.mg_edge.specs.declared.memory_store.MemoryStore.{MemoryStore}
use Rattle.mg_edge.specs.declared.store.Loaded.{Loaded}
use Rattle.mg_edge.specs.declared.store.Loaded.TheVariants.{Bytes, Failed, OutOfMemory}
use Rattle.mg_edge.specs.Edge.{StoreTold, most_loaded}

-- The content of a name in a map, if it is there.
abbrev pub content_at : BTreeMap (String Global) (Vec ℕ Global) → List ℕ → Option (List ℕ)
content_at contents name = option_map (λ content. content.items) (get_by_text contents name)

-- The content of a name in a store, if it is there.
abbrev pub stored : MemoryStore → List ℕ → Option (List ℕ)
stored store name = content_at store.contents name

-- The number of the load that is to fail.
abbrev pub failing_load : MemoryStore → Option ℕ
failing_load store = store.failing

-- How many loads there were.
abbrev pub loads_made : MemoryStore → ℕ
loads_made store = store.loads

-- The names that were loaded.
abbrev pub names_loaded : MemoryStore → List (List ℕ)
names_loaded store = map string_bytes store.loaded.items

-- The name of the load that failed last.
abbrev pub last_failed : MemoryStore → Option (List ℕ)
last_failed store = option_map string_bytes store.failed_name

-- How many loads failed.
abbrev pub store_faults : MemoryStore → ℕ
store_faults store = store.faults

-- What a store in memory tells: all that a store can.
abbrev pub store_told : MemoryStore → StoreTold
store_told store = record {
  content = λ name. Some (stored store name);
  loaded = names_loaded store;
  failed_name = last_failed store;
  faults = store_faults store;
}

-- The counts of loads and of faults, the names that were loaded, and the name of the load that failed last are as they
-- were.
pub record KeepsCalls (old new : MemoryStore) : Type 0 where
  pub loads : loads_made new ≡ loads_made old
  pub loaded : names_loaded new ≡ names_loaded old
  pub failed_name : last_failed new ≡ last_failed old
  pub faults : store_faults new ≡ store_faults old

-- The next load of a name fails: it has the number of the load that is to fail, or the name isn't there.
abbrev pub NextFails : MemoryStore → List ℕ → Type 0
NextFails store name = (failing_load store ≡ Some (loads_made store)) ⊎ (stored store name ≡ None)

-- What a load answers, unless it is out of memory: it fails if it is to fail, and else gives the content's first bytes.
abbrev pub AnswersLoad : MemoryStore → List ℕ → Loaded → Type 0
AnswersLoad store name (Bytes bytes) =
    (failing_load store ≢ Some (loads_made store))
    × (option_map (λ all. take most_loaded all) (stored store name) ≡ Some bytes.items)
AnswersLoad store name Failed = NextFails store name
AnswersLoad store name OutOfMemory = ⊤
