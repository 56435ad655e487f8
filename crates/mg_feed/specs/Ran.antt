-- What the reads of a call did to its source.
use Rattle.std.specs.Prelude.{◌≡◌, ◌≤◌, ◌+◌, ⊤, ℕ, List, [], length, Bool, true, false, Option, None, Some, IfSome, option_map}
use Rattle.mg_edge.specs.Edge.{SourceTold, one_more}
use Rattle.mg_feed.specs.declared.feed_end.FeedEnd.{FeedEnd}
use Rattle.mg_feed.specs.declared.feed_end.FeedEnd.TheVariants.{Ended, Failed, Refused, OutOfMemory}

-- A read answered `End`: the count of ends rose, and if the source tells its bytes, none is left.
pub record EndCame (before now : SourceTold) : Type 0 where
  pub rose : now.ends ≡ one_more before.ends
  pub none : IfSome before.left (λ bytes. now.left ≡ Some [])

-- Whether the source answered `End` before, and whether it did by now. A source that answered it before isn't read again.
abbrev pub MetEnd : Bool → Bool → SourceTold → SourceTold → Type 0
MetEnd true true before now = now ≡ before
MetEnd true false before now = ⊥
MetEnd false true before now = EndCame before now
MetEnd false false before now = now.ends ≡ before.ends

-- how many reads gave no byte, if none failed: the read that answered `End`
abbrev pub late : Bool → ℕ
late true = 1
late false = 0

-- If the source tells its bytes and its reads, at least one byte came with each read, but for some idle reads. There were
-- `was_idle` of them before, and there are `idle` by now.
abbrev pub Spends : ℕ → ℕ → Option (List ℕ) → Option (List ℕ) → Option ℕ → Option ℕ → Type 0
Spends was_idle idle None left was reads = ⊤
Spends was_idle idle (Some bytes) left None reads = ⊤
Spends was_idle idle (Some bytes) left (Some was) reads =
    (rest : List ℕ) × (now : ℕ) × (left ≡ Some rest) × (reads ≡ Some now) × (now + length rest + was_idle ≤ was + length bytes + idle)

-- No read failed.
pub record Unfailed (before now : SourceTold) : Type 0 where
  pub steady : now.faults ≡ before.faults
  pub last : now.left_at_fault ≡ before.left_at_fault

-- One read failed, and nothing was read after it. If the source tells its bytes, and what was left at the read that failed last,
-- the two are the same.
pub record ReadFailed (before now : SourceTold) : Type 0 where
  pub once : now.faults ≡ one_more before.faults
  pub last : IfSome before.left (λ bytes. now.left_at_fault ≡ option_map (λ last. now.left) before.left_at_fault)

-- what became of the reads, by how the call ended
abbrev pub FailedBy : FeedEnd → SourceTold → SourceTold → Type 0
FailedBy Ended before now = Unfailed before now
FailedBy (Failed lines) before now = ReadFailed before now
FailedBy (Refused line cause) before now = Unfailed before now
FailedBy OutOfMemory before now = Unfailed before now
