-- What a `Form` of the code stands for.
use Rattle.std.specs.Prelude.{[], ◌∷◌}
use Rattle.serde_json.specs.View.{view, members_view}
use Rattle.mg_feed.specs.Form.{Form, packets, bound, close, side, listed}
use Rattle.mg_feed.specs.declared.form.Form.{Form as Code}
use Rattle.mg_feed.specs.declared.form.Form.TheVariants.{Packet, Packets, Bound, Close, Side}

abbrev pub form_view : Code → Form
form_view (Packet name time value) = packets (view time.now) (record { name = name.now; value = view value.now } ∷ [])
form_view (Packets time members) = packets (view time.now) (listed (members_view members.now.entries))
form_view (Bound name time) = bound name.now (view time.now)
form_view (Close name) = close name.now
form_view (Side name value) = side name.now (view value.now)
