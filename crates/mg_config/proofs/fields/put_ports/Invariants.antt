use Rattle.std.proofs.Common.{◌≡◌, ◌++◌, map, take}
use Rattle.mg_text.specs.View.{field_view}
use Rattle.mg_config.specs.Written.{port_fields}
use Rattle.mg_config.proofs.fields.put_ports.Given as goal

abbrev pub invariant-loop-i : goal.invariant-loop-i
invariant-loop-i l = map field_view l.out.items ≡ map field_view l.fn.out.items ++ port_fields l.name (take l.i l.ports)
