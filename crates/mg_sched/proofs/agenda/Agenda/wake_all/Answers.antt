use Rattle.std.proofs.Common.{ℕ, length, inl, inr, ap, sym, subst, arith, ◌∙◌}
use Rattle.std.proofs.lemmas.Bool.{cases_eq}
use Rattle.mg_ready.specs.Ready.{IsIn}
use Rattle.mg_sched.specs.Code.Agendas.{AgendaView}
use Rattle.mg_sched.proofs.agenda.Agenda.wake_all.Goals as goal

pub returns-clause-all : goal.returns-clause-all
returns-clause-all c = λ n upto.
    (let count = c.count-count.ensures.count in
    elim (cases_eq n c.count-count.result) [
      | inl same ↦ subst (λ (k : ℕ). IsIn c.touch.new.self.touched k) (sym same) c.touch.ensures.touched
      | inr other ↦ (c.touch.ensures.only.others n other).1 (c.wake_last.ensures.woken n (omega (arith, upto, count, other)) (omega (arith, upto, count)))
    ])

pub returns-clause-heads : goal.returns-clause-heads
returns-clause-heads c = ap (λ (a : AgendaView). length a.heads) c.touch.ensures.others ∙ c.wake_last.ensures.heads

pub returns-clause-leads : goal.returns-clause-leads
returns-clause-leads c = (ap (λ (a : AgendaView). a.starts) c.touch.ensures.others ∙ c.wake_last.ensures.starts, ap (λ (a : AgendaView). a.links) c.touch.ensures.others ∙ c.wake_last.ensures.links)
