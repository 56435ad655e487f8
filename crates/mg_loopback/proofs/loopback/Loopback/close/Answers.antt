use Rattle.std.proofs.Common.{ap, eq-eqb, ne_eqb}
use Rattle.mg_value.specs.Payload.{Plain}
use Rattle.mg_settled.specs.Prefix.{closed}
use Rattle.mg_settled.proofs.Extending.{closed_extends}
use Rattle.mg_stream.specs.Queue.{Waiting}
use Rattle.mg_loopback.specs.Standing.{StandsAfter}
use Rattle.mg_loopback.specs.contracts.loopback.Loopback.{the_view}
use Rattle.mg_loopback.proofs.Steps.{loop_steps, main_steps}
use Rattle.mg_loopback.proofs.loopback.Loopback.close.Goals as goal

pub returns-then-port-eq0-clause-stands_after : goal.returns-then-port-eq0-clause-stands_after
returns-then-port-eq0-clause-stands_after c = λ k main loop h.
    let before : StandsAfter k (the_view c.self.inside) main loop = rw c.self.view_is h in
    rw (eq-eqb c.args.port 0 c.if-port-eq0.true)
    (loop_steps k (the_view c.self.inside) main loop (closed loop) c.close.new.self before (closed_extends loop before.at_loop.prefix) (c.close.ensures.stands loop before.at_loop) (ap (λ (q : Waiting Plain). q.gone) c.close.ensures.closed))

pub returns-else-port-eq0-clause-stands_after : goal.returns-else-port-eq0-clause-stands_after
returns-else-port-eq0-clause-stands_after c = λ k main loop h.
    let before : StandsAfter k (the_view c.self.inside) main loop = rw c.self.view_is h in
    let call = c.close-else-port-eq0 in
    rw (ne_eqb c.args.port 0 c.if-port-eq0.false)
    (main_steps k (the_view c.self.inside) main loop (closed main) call.new.self before (closed_extends main before.at_main.prefix) (call.ensures.stands main before.at_main) (ap (λ (q : Waiting Plain). q.gone) call.ensures.closed))
