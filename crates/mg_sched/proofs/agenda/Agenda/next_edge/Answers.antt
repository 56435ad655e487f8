use Rattle.std.proofs.Common.{◌≡◌, ◌<◌, ◌∙◌, ℕ, None, IfSome, length, get_or, ap, subst, arith, vec_len}
use Rattle.std.proofs.lemmas.List.{get_or_read}
use Rattle.mg_sched.specs.Code.Agendas.{AgendaView}
use Rattle.mg_sched.proofs.Leading.{lead_next}
use Rattle.mg_sched.proofs.agenda.Agenda.next_edge.Goals as goal

pub returns-clause-next : goal.returns-clause-next
returns-clause-next c =
    let inside = c.self.inside in
    let edges = ap (λ (a : AgendaView). length a.links) c.self.view_is in
    get_or_read inside.next.items c.args.edge c.index.result.now (omega (arith, c.requires, edges)) c.index.ensures None
    ∙ ap (λ (a : AgendaView). get_or a.links c.args.edge None) c.self.view_is

pub returns-clause-later : goal.returns-clause-later
returns-clause-later c =
    let inside = c.self.inside in
    let edges = ap (λ (a : AgendaView). length a.links) c.self.view_is in
    let long : vec_len inside.next ≡ length c.args.self.now.links = omega (arith, edges, inside.next.ok) in
    subst (λ (n : ℕ). IfSome c.index.result.now (λ later. (c.args.edge < later) × (later < n))) long
    (lead_next 0 (vec_len inside.next) c.args.edge inside.first.items inside.next.items c.index.result.now c.self.invariant.edges_lead
    (omega (arith, c.requires, edges)) c.index.ensures)
