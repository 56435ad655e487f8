-- What a read of a block leaves.
use Rattle.std.specs.Prelude.{◌≡◌, ◌≤◌, ℕ, List, [], ◌++◌, length, option_map, true, false}
use Rattle.mg_edge.specs.Edge.{SourceTold, CountsOne}
use Rattle.mg_edge.specs.Runs.{Gave}
use Rattle.mg_edge.specs.declared.source.Got.{Got}
use Rattle.mg_edge.specs.declared.source.Got.TheVariants.{Bytes, End, Failed}
use Rattle.mg_feed.specs.Lines.{with_feed}
use Rattle.mg_feed.specs.Fed.{Reading}
use Rattle.mg_feed.specs.Ran.{EndCame, Unfailed, ReadFailed}
use Rattle.mg_feed.specs.Once.{longest_block}

-- The read gave bytes, which stand after the bytes that were kept.
pub record GotBytes (old new : Reading) (before now : SourceTold) : Type 0 where
  pub bytes : List ℕ
  pub some : 1 ≤ length bytes
  pub few : length bytes ≤ longest_block
  pub kept : new.kept ≡ old.kept ++ bytes
  pub ended : new.ended ≡ false
  pub gave : Gave before.left now.left bytes
  pub ends : now.ends ≡ before.ends
  pub counted : CountsOne before.reads now.reads
  pub last : now.left_at_bytes ≡ option_map (λ last. before.left) before.left_at_bytes
  pub unfailed : Unfailed before now

-- The source has ended. If the last line lacks its line feed, a line feed was put after it.
pub record GotEnd (old new : Reading) (before now : SourceTold) : Type 0 where
  pub kept : new.kept ≡ with_feed old.kept old.kept
  pub ended : new.ended ≡ true
  pub gave : Gave before.left now.left []
  pub came : EndCame before now
  pub counted : CountsOne before.reads now.reads
  pub last : now.left_at_bytes ≡ before.left_at_bytes
  pub unfailed : Unfailed before now

-- The read failed, and what was read before is as it was.
pub record GotFault (old new : Reading) (before now : SourceTold) : Type 0 where
  pub same : new ≡ old
  pub gave : Gave before.left now.left []
  pub ends : now.ends ≡ before.ends
  pub counted : CountsOne before.reads now.reads
  pub last : now.left_at_bytes ≡ before.left_at_bytes
  pub failed : ReadFailed before now

-- what a read of a block leaves, by its answer
abbrev pub Filled : Got → Reading → Reading → SourceTold → SourceTold → Type 0
Filled (Bytes n) old new before now = GotBytes old new before now
Filled End old new before now = GotEnd old new before now
Filled Failed old new before now = GotFault old new before now
