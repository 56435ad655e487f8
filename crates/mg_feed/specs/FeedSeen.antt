-- What a `Feed` stands for.
use Rattle.mg_feed.specs.View.{View}
use Rattle.mg_feed.specs.Seen.{input_buffer}
use Rattle.mg_feed.specs.Fed.{Fed}
use Rattle.mg_feed.specs.Code.Readers.{reading_of}
use Rattle.mg_feed.specs.declared.feed.Feed.{Feed}

-- what the feed has of the lines that it accepted
abbrev pub seen : Feed → View
seen feed = input_buffer feed.input_buffer

-- what the feed has of accepted lines, and what it read after them
abbrev pub fed : Feed → Fed
fed feed = record { view = seen feed; read = reading_of feed.reader }
