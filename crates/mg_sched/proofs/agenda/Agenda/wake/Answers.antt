use Rattle.std.proofs.Common.{◌<◌, ◌+◌, ℕ, List, length, ap, sym, subst, arith, vec_len}
use Rattle.mg_calc.specs.Plan.{HasEachOnce}
use Rattle.mg_sched.specs.Code.Agendas.{AgendaView}
use Rattle.mg_sched.proofs.Leading.{lead_at, lead_first}
use Rattle.mg_sched.proofs.agenda.Agenda.wake.Goals as goal

pub invariant_of-self : goal.invariant_of-self
invariant_of-self c =
    let inside = c.self.inside in
    let i = c.self.invariant in
    let places = ap (λ (a : AgendaView). length a.heads) c.self.view_is in
    let count = i.start_count in
    let within : c.args.place < length inside.first.items = omega (arith, c.requires, places) in
    let there : c.args.place < length inside.starts.items = omega (arith, within, count, inside.first.ok) in
    let head = c.index.result.now in record {
      few = i.few;
      ready_order = subst (λ (l : List ℕ). HasEachOnce (vec_len inside.first) l) (sym c.put.ensures.only.order) i.ready_order;
      held_order = i.held_order;
      touched_order = subst (λ (l : List ℕ). HasEachOnce (vec_len inside.first + 1) l) (sym c.put-2.ensures.only.order) i.touched_order;
      edges_lead = lead_at (vec_len inside.next) c.args.place inside.first.items inside.next.items head i.edges_lead within
          (lead_first 0 (vec_len inside.next) c.args.place inside.starts.items inside.next.items head i.starts_lead there c.index.ensures);
      starts_lead = i.starts_lead;
      start_count = i.start_count;
    }
