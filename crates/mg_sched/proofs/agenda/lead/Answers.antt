use Rattle.std.proofs.Common.{None, Option, ℕ, ap, arith, slice_set}
use Rattle.std.proofs.lemmas.List.{get_or_read}
use Rattle.mg_sched.proofs.agenda.lead.Goals as goal

pub returns-clause-next : goal.returns-clause-next
returns-clause-next c =
    let leads = c.args.leads.now in
    ap (λ (o : Option ℕ). slice_set leads.next.items c.args.edge o) (get_or_read leads.first.items c.args.place c.index.result.now (omega (arith, c.requires.place, leads.first.ok)) c.index.ensures None)
