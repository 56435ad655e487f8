-- Whether a round has changed a stream.
use Rattle.std.specs.Prelude.{◌==◌, ◌&&◌, Bool, not, length}
use Rattle.mg_value.specs.Payload.{Plain}
use Rattle.mg_settled.specs.Prefix.{StreamPrefix}

-- whether a stream has changed to one that extends it: whether its length or its bound is another one
abbrev pub is_changed : StreamPrefix Plain → StreamPrefix Plain → Bool
is_changed before now = not ((length before.packets == length now.packets) && (before.bound == now.bound))
