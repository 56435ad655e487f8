-- Whether packets are of the kinds that a law takes.
use Rattle.std.specs.Prelude.{Bool, true, false, not, List, Option, option_map, unwrap_or}
use Rattle.std.specs.List.{list_any, enumerate_from}
use Rattle.mg_value.specs.declared.kind.Kind.{Kind}
use Rattle.mg_value.specs.declared.kind.Kind.TheVariants.{Any, Flag, Int, Text, Items, Record}
use Rattle.mg_value.specs.Plain.{Plain, flag, int, text, items, entries}
use Rattle.mg_value.specs.Packet.{Stamped}
use Rattle.mg_calc.specs.declared.law.Law.{Law}
use Rattle.mg_calc.specs.Shape.{input_kind}

-- whether a payload is of a kind
abbrev pub is_of_kind : Kind → Plain → Bool
is_of_kind Any p = true
is_of_kind Flag (flag b) = true
is_of_kind Int (int n) = true
is_of_kind Text (text bytes) = true
is_of_kind Items (items list) = true
is_of_kind Record (entries list) = true
is_of_kind _ _ = false

-- whether a place of a set has a packet that isn't of a kind
abbrev pub is_wrong : Kind → Option (Stamped Plain) → Bool
is_wrong kind place = unwrap_or (option_map (λ p. not (is_of_kind kind p.value)) place) false

-- whether a packet of a set isn't of its port's kind
abbrev pub has_wrong_kind : Law → List (Option (Stamped Plain)) → Bool
has_wrong_kind law set = list_any (λ e. is_wrong (input_kind law e.0) e.1) (enumerate_from 0 set)
