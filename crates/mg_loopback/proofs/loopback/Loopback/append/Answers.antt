use Rattle.std.proofs.Common.{eq-eqb, ne_eqb}
use Rattle.mg_loopback.specs.Standing.{StandsAfter}
use Rattle.mg_loopback.specs.contracts.loopback.Loopback.{the_view}
use Rattle.mg_loopback.proofs.Steps.{loop_appended, main_appended}
use Rattle.mg_loopback.proofs.loopback.Loopback.append.Goals as goal

pub returns-then-port-eq0-clause-stands_after : goal.returns-then-port-eq0-clause-stands_after
returns-then-port-eq0-clause-stands_after c = λ k main loop h.
    let held = the_view c.self.inside in
    let before : StandsAfter k (the_view c.self.inside) main loop = rw c.self.view_is h in
    rw (eq-eqb c.args.port 0 c.if-port-eq0.true)
    (loop_appended k held main loop c.append.new.self c.args.packet c.append.result before c.append.ensures.ok c.append.ensures.may_come c.append.ensures.unchanged (c.append.ensures.stands loop before.at_loop))

pub returns-else-port-eq0-clause-stands_after : goal.returns-else-port-eq0-clause-stands_after
returns-else-port-eq0-clause-stands_after c = λ k main loop h.
    let held = the_view c.self.inside in
    let before : StandsAfter k (the_view c.self.inside) main loop = rw c.self.view_is h in
    let call = c.append-else-port-eq0 in
    rw (ne_eqb c.args.port 0 c.if-port-eq0.false)
    (main_appended k held main loop call.new.self c.args.packet call.result before call.ensures.ok call.ensures.may_come call.ensures.unchanged (call.ensures.stands main before.at_main))
