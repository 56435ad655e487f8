use Rattle.std.proofs.Common.{ap, subst, sym, ◌∙◌}
use Rattle.mg_free.specs.Free.{Arrival, FreeRest, IsRestOf, arrived}
use Rattle.mg_value.specs.Payload.{Plain}
use Rattle.mg_free.proofs.Keeping.{laid_same, arrived_on, handed_stays}
use Rattle.mg_free.proofs.state.FreeState.arrive.Goals as goal

pub returns-clause-laid : goal.returns-clause-laid
returns-clause-laid c = λ flow h.
    let a : Arrival Plain = record { port = c.args.port; packet = c.args.packet.now } in
    c.in_ok-laid.ensures.laid ∙ laid_same c.args.self.now.law flow c.args.self.now.rest a h

pub returns-clause-arrived : goal.returns-clause-arrived
returns-clause-arrived c = λ flow h.
    let a : Arrival Plain = record { port = c.args.port; packet = c.args.packet.now } in
    subst (λ (r : FreeRest). IsRestOf (arrived c.args.self.now.law flow a) r) (sym c.in_ok-laid.ensures.arrived) (arrived_on c.args.self.now.law flow c.args.self.now.rest a h)

pub returns-clause-handed : goal.returns-clause-handed
returns-clause-handed c =
    let a : Arrival Plain = record { port = c.args.port; packet = c.args.packet.now } in
    ap (λ (r : FreeRest). r.handed) c.in_ok-laid.ensures.arrived ∙ handed_stays c.args.self.now.law c.args.self.now.rest a
