-- What a `FeedStream` of the code stands for.
use Rattle.std.specs.Prelude.{◌||◌, Bool}
use Rattle.mg_value.specs.Payload.{Plain}
use Rattle.mg_settled.specs.Prefix.{StreamPrefix}
use Rattle.mg_feed.specs.Accepted.{has_some}
use Rattle.mg_feed.specs.declared.standing.Standing.{Standing}
use Rattle.mg_feed.specs.declared.feed_stream.FeedStream.{FeedStream}

-- the packets of a stream that weren't taken, with its bound
abbrev pub waiting : FeedStream → StreamPrefix Plain
waiting s = record { packets = s.packets.items; bound = s.bound }

-- whether packets of a stream were taken
abbrev pub was_taken : FeedStream → Bool
was_taken s = s.taken

-- what a stream's next packet is judged by
abbrev pub standing_now : FeedStream → Standing
standing_now s = record { bound = s.bound; begun = s.taken || has_some s.packets.items }
