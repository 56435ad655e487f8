use Rattle.std.proofs.Common.{◌∙◌}
use Rattle.mg_loopback.specs.Standing.{StandsAfter}
use Rattle.mg_loopback.specs.contracts.loopback.Loopback.{the_view}
use Rattle.mg_loopback.proofs.Standing.{reached_is}
use Rattle.mg_loopback.proofs.Steps.{first_reached}
use Rattle.mg_loopback.proofs.loopback.Loopback.out_bound.Goals as goal

pub returns-clause-told : goal.returns-clause-told
returns-clause-told c = λ k main loop h.
    let before : StandsAfter k (the_view c.self.inside) main loop = rw c.self.view_is h in
    first_reached (the_view c.self.inside) c.first.result c.bound.result c.unwrap_or.result c.first.ensures.first c.bound.ensures c.unwrap_or.ensures ∙ reached_is k (the_view c.self.inside) main loop before
