-- What a call of a source, a sink or a store does to the bytes that it tells of and to its counts.
--
-- What an object tells is optional: `None` claims nothing. A count steps by one at the calls that it counts, and every
-- other call leaves it as it was.
use Rattle.std.specs.Prelude.{◌≡◌, ◌≢◌, ◌⊎◌, ℕ, ◌+◌, ◌^◌, ◌%◌, ◌≤◌, List, [], ◌∷◌, ◌++◌, length, take, drop, Option, None, Some, option_map, ⊤}
use Rattle.mg_edge.specs.declared.source.Got.{Got}
use Rattle.mg_edge.specs.declared.source.Got.TheVariants.{Bytes, End, Failed}
use Rattle.mg_edge.specs.declared.sink.Put.{Put}
use Rattle.mg_edge.specs.declared.sink.Put.TheVariants.{Took, Failed as PutFailed}
use Rattle.mg_edge.specs.declared.store.TheConstants.{MOST_LOADED}
use Rattle.mg_edge.specs.declared.store.Loaded.{Loaded}
use Rattle.mg_edge.specs.declared.store.Loaded.TheVariants.{Bytes as LoadedBytes, Failed as LoadFailed, OutOfMemory}

-- A count after one step: one more, and 0 after 2 ^ 64 - 1, the greatest count.
abbrev pub one_more : ℕ → ℕ
one_more count = (count + 1) % 2 ^ 64

-- A count has risen: it isn't what it was. A step from the greatest count counts as any other.
abbrev pub HasRisen : ℕ → ℕ → Type 0
HasRisen before now = now ≢ before

-- A count hasn't risen.
abbrev pub Unrisen : ℕ → ℕ → Type 0
Unrisen before now = now ≡ before

-- A count that is told steps by one, and stays told.
abbrev pub CountsOne : Option ℕ → Option ℕ → Type 0
CountsOne None now = ⊤
CountsOne (Some count) now = now ≡ Some (one_more count)

-- A source --

-- What a source tells of itself at a moment. `left` is the bytes that are left, and `reads` is how many reads there
-- were: each is `None` if the source doesn't tell it. `ends` is how many reads answered `End`, and `faults` is how many
-- failed. `left_at_bytes` is what was left before the last read that gave bytes. `left_at_fault` is what was left at the
-- read that failed last. Each of these two is `Some None` before the first such read, and `None` if the source doesn't
-- tell it.
pub record SourceTold : Type 0 where
  pub left : Option (List ℕ)
  pub reads : Option ℕ
  pub ends : ℕ
  pub faults : ℕ
  pub left_at_bytes : Option (Option (List ℕ))
  pub left_at_fault : Option (Option (List ℕ))

-- A read that gives bytes gives at least one, and no more than there is room for.
abbrev pub GivesWithin : Got → ℕ → Type 0
GivesWithin (Bytes n) room = (1 ≤ n) × (n ≤ room)
GivesWithin End room = ⊤
GivesWithin Failed room = ⊤

-- What a read does to the bytes that are left: it gives the first of them, or finds none left, or fails and takes
-- nothing. `buf` is what the buffer has after the read.
abbrev pub ReadTakes : Option (List ℕ) → Option (List ℕ) → Got → List ℕ → Type 0
ReadTakes None now got buf = ⊤
ReadTakes (Some left) now (Bytes n) buf =
    (n ≤ length left) × (take n buf ≡ take n left) × (now ≡ Some (drop n left))
ReadTakes (Some left) now End buf = (left ≡ []) × (now ≡ Some [])
ReadTakes (Some left) now Failed buf = now ≡ Some left

-- The reads that answer `End` are counted.
abbrev pub EndCounts : ℕ → ℕ → Got → Type 0
EndCounts before now (Bytes n) = now ≡ before
EndCounts before now End = now ≡ one_more before
EndCounts before now Failed = now ≡ before

-- The reads that fail are counted.
abbrev pub ReadFaultCounts : ℕ → ℕ → Got → Type 0
ReadFaultCounts before now (Bytes n) = now ≡ before
ReadFaultCounts before now End = now ≡ before
ReadFaultCounts before now Failed = now ≡ one_more before

-- What was left before the last read that gave bytes, if the source tells that. A read that gives bytes sets it to the
-- bytes left before that read, and any other read keeps it. `left` is what the source tells to be left before the read.
abbrev pub KeepsLeftAtBytes : Option (Option (List ℕ)) → Option (Option (List ℕ)) → Got → Option (List ℕ) → Type 0
KeepsLeftAtBytes before now (Bytes n) left = now ≡ option_map (λ last. left) before
KeepsLeftAtBytes before now End left = now ≡ before
KeepsLeftAtBytes before now Failed left = now ≡ before

-- What was left at the read that failed last, if the source tells that. A read that fails sets it to the bytes left
-- before that read, and any other read keeps it. `left` is what the source tells to be left before the read.
abbrev pub KeepsLeftAtFault : Option (Option (List ℕ)) → Option (Option (List ℕ)) → Got → Option (List ℕ) → Type 0
KeepsLeftAtFault before now (Bytes n) left = now ≡ before
KeepsLeftAtFault before now End left = now ≡ before
KeepsLeftAtFault before now Failed left = now ≡ option_map (λ last. left) before

-- A sink --

-- What a sink tells of itself at a moment: the bytes taken so far, if it tells them, and how many writes failed.
pub record SinkTold : Type 0 where
  pub taken : Option (List ℕ)
  pub faults : ℕ

-- A write that takes bytes takes at least one, and no more than the piece has.
abbrev pub TakesWithin : Put → ℕ → Type 0
TakesWithin (Took n) len = (1 ≤ n) × (n ≤ len)
TakesWithin PutFailed len = ⊤

-- What a write does to the bytes that were taken: it appends the first bytes of the piece to them. A write that fails
-- takes nothing.
abbrev pub WriteAppends : Option (List ℕ) → Option (List ℕ) → Put → List ℕ → Type 0
WriteAppends None now put piece = ⊤
WriteAppends (Some taken) now (Took n) piece = now ≡ Some (taken ++ take n piece)
WriteAppends (Some taken) now PutFailed piece = now ≡ Some taken

-- The writes that fail are counted.
abbrev pub WriteFaultCounts : ℕ → ℕ → Put → Type 0
WriteFaultCounts before now (Took n) = now ≡ before
WriteFaultCounts before now PutFailed = now ≡ one_more before

-- A store --

-- What a store tells of itself at a moment. `content` is what a name has: the bytes, or `Some None` if the name isn't
-- there, or `None` if the store doesn't tell it. `loaded` is the names that were loaded, in the order of the loads.
-- `failed_name` is the name of the load that failed last, and none before the first. `faults` is how many loads failed.
pub record StoreTold : Type 0 where
  pub content : List ℕ → Option (Option (List ℕ))
  pub loaded : List (List ℕ)
  pub failed_name : Option (List ℕ)
  pub faults : ℕ

-- The most bytes of a content that a load gives: one more than 4 MiB. So the caller sees that a content is longer than
-- 4 MiB.
abbrev pub most_loaded : ℕ
most_loaded = MOST_LOADED

-- A load gives at most so many bytes.
abbrev pub LoadsWithin : Loaded → Type 0
LoadsWithin (LoadedBytes bytes) = length bytes.items ≤ most_loaded
LoadsWithin LoadFailed = ⊤
LoadsWithin OutOfMemory = ⊤

-- What a load gives of a content, if the store tells it: its first bytes. A load of a name that isn't there gives no
-- bytes.
abbrev pub LoadGives : Option (Option (List ℕ)) → Loaded → Type 0
LoadGives None loaded = ⊤
LoadGives (Some None) (LoadedBytes bytes) = ⊥
LoadGives (Some None) LoadFailed = ⊤
LoadGives (Some None) OutOfMemory = ⊤
LoadGives (Some (Some content)) (LoadedBytes bytes) = bytes.items ≡ take most_loaded content
LoadGives (Some (Some content)) LoadFailed = ⊤
LoadGives (Some (Some content)) OutOfMemory = ⊤

-- A load appends its name to the names that were loaded. A load that runs out of memory may also leave them as they were.
abbrev pub NotesLoad : List (List ℕ) → List (List ℕ) → Loaded → List ℕ → Type 0
NotesLoad before now (LoadedBytes bytes) name = now ≡ before ++ name ∷ []
NotesLoad before now LoadFailed name = now ≡ before ++ name ∷ []
NotesLoad before now OutOfMemory name = (now ≡ before) ⊎ (now ≡ before ++ name ∷ [])

-- The loads that fail are counted.
abbrev pub LoadFaultCounts : ℕ → ℕ → Loaded → Type 0
LoadFaultCounts before now (LoadedBytes bytes) = now ≡ before
LoadFaultCounts before now LoadFailed = now ≡ one_more before
LoadFaultCounts before now OutOfMemory = now ≡ before

-- The name of the load that failed last: a load that fails sets it to its own name, and any other load keeps it.
abbrev pub KeepsFailedName : Option (List ℕ) → Option (List ℕ) → Loaded → List ℕ → Type 0
KeepsFailedName before now (LoadedBytes bytes) name = now ≡ before
KeepsFailedName before now LoadFailed name = now ≡ Some name
KeepsFailedName before now OutOfMemory name = now ≡ before
