use Rattle.std.proofs.Common.{subst}
use Rattle.mg_text.specs.Code.Clean.{IsCleanPlace}
use Rattle.mg_text.specs.Code.Running.{place_of}
use Rattle.mg_text.proofs.Clean.{clean_utf8}
use Rattle.mg_text.proofs.machine.Machine.settle.Goals as goal

pub emit-requires : goal.emit-requires
emit-requires c =
    let s = c.args.self.now in
    clean_utf8 _ (subst (λ p. IsCleanPlace (place_of p s.name s.token.items)) c.in-Joined.is c.requires)
