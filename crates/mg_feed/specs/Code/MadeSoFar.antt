-- Packets that were made. Some of them were handed on.
use Rattle.std.specs.Prelude.{◌≡◌, ℕ, List, length}
use Rattle.mg_value.specs.Payload.{Plain}
use Rattle.mg_value.specs.Packet.{Stamped}
use Rattle.mg_feed.specs.View.{View}
use Rattle.mg_feed.specs.Stands.{behind_all}
use Rattle.mg_feed.specs.Generated.{generated_streams}

-- The packets that were handed on, and after them those in the streams, are the first `number` packets that are made.
pub record AreMade (gone : List (List (Stamped Plain))) (number : ℕ) (v : View) : Type 0 where
  pub count : length v.given.streams ≡ length v.graph.kinds
  pub streams : behind_all gone v.given.streams ≡ generated_streams v.graph.kinds number
