use Rattle.std.proofs.Common.{None, Option, ℕ, ap, arith, slice_set}
use Rattle.std.proofs.lemmas.List.{get_or_read}
use Rattle.mg_crew.proofs.leads.lead.Goals as goal

pub returns-clause-next : goal.returns-clause-next
returns-clause-next c =
    let draft = c.args.draft.now in
    ap (λ (o : Option ℕ). slice_set draft.next.items c.args.edge o) (get_or_read draft.first.items c.args.place c.index.result.now (omega (arith, c.requires.place, draft.first.ok)) c.index.ensures None)
