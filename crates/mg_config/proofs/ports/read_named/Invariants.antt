use Rattle.mg_config.proofs.ReadNamed.{HasRead}
use Rattle.mg_config.proofs.ports.read_named.Given as goal

abbrev pub invariant-loop-field : goal.invariant-loop-field
invariant-loop-field l = HasRead l.name l.fields l.field-index l.reader
