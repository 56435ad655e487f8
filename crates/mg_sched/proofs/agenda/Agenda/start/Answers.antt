use Rattle.std.proofs.Common.{◌≡◌, ◌<◌, ◌∙◌, ℕ, None, IfSome, length, get_or, ap, subst, arith, vec_len}
use Rattle.std.proofs.lemmas.List.{get_or_read}
use Rattle.mg_sched.specs.Code.Agendas.{AgendaView}
use Rattle.mg_sched.proofs.Leading.{lead_first}
use Rattle.mg_sched.proofs.agenda.Agenda.start.Goals as goal

pub index-requires : goal.index-requires
index-requires c =
    let places = ap (λ (a : AgendaView). length a.heads) c.self.view_is in
    let inside = c.self.inside in
    (let count = c.self.invariant.start_count in omega (arith, c.requires, places, count, inside.first.ok, inside.starts.ok))

pub returns-clause-start : goal.returns-clause-start
returns-clause-start c =
    let inside = c.self.inside in
    let places = ap (λ (a : AgendaView). length a.heads) c.self.view_is in
    let count = c.self.invariant.start_count in
    get_or_read inside.starts.items c.args.place c.index.result.now (omega (arith, c.requires, places, count, inside.first.ok)) c.index.ensures None
    ∙ ap (λ (a : AgendaView). get_or a.starts c.args.place None) c.self.view_is

pub returns-clause-there : goal.returns-clause-there
returns-clause-there c =
    let inside = c.self.inside in
    let places = ap (λ (a : AgendaView). length a.heads) c.self.view_is in
    let edges = ap (λ (a : AgendaView). length a.links) c.self.view_is in
    let count = c.self.invariant.start_count in
    let long : vec_len inside.next ≡ length c.args.self.now.links = omega (arith, edges, inside.next.ok) in
    subst (λ (n : ℕ). IfSome c.index.result.now (λ edge. edge < n)) long
    (lead_first 0 (vec_len inside.next) c.args.place inside.starts.items inside.next.items c.index.result.now c.self.invariant.starts_lead
    (omega (arith, c.requires, places, count, inside.first.ok)) c.index.ensures)
