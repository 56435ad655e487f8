-- How far a stream has come.
use Rattle.std.specs.Prelude.{length}
use Rattle.mg_value.specs.Payload.{Plain}
use Rattle.mg_settled.specs.Prefix.{StreamPrefix}
use Rattle.mg_settled.specs.declared.stream_end.StreamEnd.{StreamEnd}

-- how far a whole stream has come: how many packets it has, and its bound
abbrev pub end_of : StreamPrefix Plain → StreamEnd
end_of s = record { packets = length s.packets; bound = s.bound }
