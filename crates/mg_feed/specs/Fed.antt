-- What a feed has of an input that it reads.
use Rattle.std.specs.Prelude.{ℕ, List, Bool}
use Rattle.mg_feed.specs.View.{View}

-- the bytes that were read and that no accepted line has, and whether the source answered `End`. Once it did, the bytes also have
-- the line feed that the last line may lack
pub record Reading : Type 0 where
  pub kept : List ℕ
  pub ended : Bool

-- what the accepted lines gave, and what was read after them
pub record Fed : Type 0 where
  pub view : View
  pub read : Reading
