-- The bytes of an input that came to a feed, and the lines that the feed accepted of them. How the input was cut into reads and
-- batches doesn't matter.
use Rattle.std.specs.Prelude.{◌≡◌, ℕ, List, ◌++◌, Bool, Option, if◌then◌else◌}
use Rattle.mg_value.specs.Payload.{Plain}
use Rattle.mg_value.specs.Packet.{Stamped}
use Rattle.mg_feed.specs.Graph.{GraphInputs}
use Rattle.mg_feed.specs.Lines.{IsCut, completed}
use Rattle.mg_feed.specs.Accepted.{Refused, accepted_after, first_refused_after}
use Rattle.mg_feed.specs.Stands.{HasAccepted}
use Rattle.mg_feed.specs.Fed.{Fed}

-- the bytes that came, and a line feed if the input has ended without one
abbrev pub arrived_bytes : Bool → List ℕ → List ℕ
arrived_bytes ended came = if ended then completed came else came

-- After the first lines, which came in another way, the feed accepted these lines of the bytes that came. The bytes after these
-- lines are kept.
pub record Came (first : List (List ℕ)) (came : List ℕ) (lines : List (List ℕ)) (gone : List (List (Stamped Plain))) (f : Fed) : Type 0 where
  pub stands : HasAccepted (first ++ lines) gone f.view
  pub cut : IsCut (arrived_bytes f.read.ended came) lines f.read.kept

-- Of the lines `all`, which come after the lines `first`, these are accepted, and this is the first that isn't good, if there is one.
abbrev pub Judged : GraphInputs → List (List ℕ) → List (List ℕ) → List (List ℕ) → Option Refused → Type 0
Judged graph first all lines refused = (accepted_after graph first all ≡ lines) × (first_refused_after graph first all ≡ refused)
