-- How far an input is read: once, and no further than the read in which its first line that isn't good ends.
use Rattle.std.specs.Prelude.{◌≡◌, ◌≤◌, ℕ, List, [], ◌∷◌, ◌++◌, length, IfSome, option_map}
use Rattle.mg_edge.specs.Edge.{SourceTold}
use Rattle.mg_feed.specs.Graph.{GraphInputs}
use Rattle.mg_feed.specs.Lines.{whole_lines, unended_line}
use Rattle.mg_feed.specs.Accepted.{longest_line}
use Rattle.mg_feed.specs.Stands.{AllGood}
use Rattle.mg_feed.specs.Ran.{Spends}
use Rattle.mg_feed.specs.declared.limits.TheConstants.{LONGEST_BLOCK}

-- the most bytes that are read at once
abbrev pub longest_block : ℕ
longest_block = LONGEST_BLOCK

-- The last read that gave bytes gave this block, after these bytes. If the source tells its bytes, and what was left before the last
-- read that gave bytes, then that is the block and what is left now. If the block is empty, no read gave bytes.
abbrev pub IsLastRead : SourceTold → SourceTold → List ℕ → List ℕ → Type 0
IsLastRead before now front [] = (front ≡ []) × (now.left_at_bytes ≡ before.left_at_bytes)
IsLastRead before now front (b ∷ block) =
    IfSome before.left (λ bytes. now.left_at_bytes ≡ option_map (λ last. option_map (λ rest. (b ∷ block) ++ rest) now.left) before.left_at_bytes)

-- These bytes came of a source, and the last read that gave bytes gave the last block of them. The whole lines of the bytes before the
-- block are all good after the first lines, which came in another way. The line that these bytes leave open isn't too long yet. So a
-- line that isn't good ends, or grows too long, in that block, and nothing was taken behind that read.
pub record StopsInTime (graph : GraphInputs) (first : List (List ℕ)) (before now : SourceTold) (came : List ℕ) : Type 0 where
  pub front : List ℕ
  pub block : List ℕ
  pub split : came ≡ front ++ block
  pub few : length block ≤ longest_block
  pub last : IsLastRead before now front block
  pub good : AllGood graph first (whole_lines front)
  pub open_line : length (unended_line front) ≤ longest_line

-- These bytes of an input came, and it was read no further than `StopsInTime` says. If the source tells its bytes and its reads,
-- there was at most one read more than bytes came. That read answered `End`, or it failed.
pub record ReadsOnce (graph : GraphInputs) (before now : SourceTold) (came : List ℕ) : Type 0 where
  pub stops : StopsInTime graph [] before now came
  pub reads : Spends 0 1 before.left now.left before.reads now.reads
