use Rattle.std.proofs.Common.{◌≡◌, take}
use Rattle.mg_kinds.specs.Kinds.{names_of}
use Rattle.mg_check.specs.Drafts.{names_at}
use Rattle.mg_check.proofs.port_texts.texts_at.Given as goal

abbrev pub invariant-loop-port : goal.invariant-loop-port
invariant-loop-port l = names_of l.texts.items ≡ names_at l.given (take l.port-index l.ports)
