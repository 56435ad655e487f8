use Rattle.std.proofs.Common.{ap, eq-eqb, ne_eqb}
use Rattle.mg_value.specs.Payload.{Plain}
use Rattle.mg_settled.specs.Prefix.{raised}
use Rattle.mg_settled.proofs.Extending.{raised_extends}
use Rattle.mg_stream.specs.Queue.{Waiting}
use Rattle.mg_loopback.specs.Standing.{StandsAfter}
use Rattle.mg_loopback.specs.contracts.loopback.Loopback.{the_view}
use Rattle.mg_loopback.proofs.Steps.{loop_steps, main_steps}
use Rattle.mg_loopback.proofs.loopback.Loopback.raise.Goals as goal

pub returns-then-port-eq0-clause-stands_after : goal.returns-then-port-eq0-clause-stands_after
returns-then-port-eq0-clause-stands_after c = λ k main loop h.
    let before : StandsAfter k (the_view c.self.inside) main loop = rw c.self.view_is h in
    rw (eq-eqb c.args.port 0 c.if-port-eq0.true)
    (loop_steps k (the_view c.self.inside) main loop (raised loop c.args.bound) c.raise.new.self before (raised_extends loop c.args.bound) (c.raise.ensures.stands loop before.at_loop) (ap (λ (q : Waiting Plain). q.gone) c.raise.ensures.raised))

pub returns-else-port-eq0-clause-stands_after : goal.returns-else-port-eq0-clause-stands_after
returns-else-port-eq0-clause-stands_after c = λ k main loop h.
    let before : StandsAfter k (the_view c.self.inside) main loop = rw c.self.view_is h in
    let call = c.raise-else-port-eq0 in
    rw (ne_eqb c.args.port 0 c.if-port-eq0.false)
    (main_steps k (the_view c.self.inside) main loop (raised main c.args.bound) call.new.self before (raised_extends main c.args.bound) (call.ensures.stands main before.at_main) (ap (λ (q : Waiting Plain). q.gone) call.ensures.raised))
