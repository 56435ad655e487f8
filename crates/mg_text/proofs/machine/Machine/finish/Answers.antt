use Rattle.std.proofs.Common.{subst}
use Rattle.mg_text.specs.Code.Clean.{IsClean}
use Rattle.mg_text.specs.Code.Running.{spot_of}
use Rattle.mg_text.proofs.Clean.{clean_utf8}
use Rattle.mg_text.proofs.machine.Machine.finish.Goals as goal

pub emit-requires : goal.emit-requires
emit-requires c =
    let s = c.args.self in
    clean_utf8 _ (subst (λ r. IsClean (spot_of r s.name s.token.items)) c.in-Scalar.is c.requires)
