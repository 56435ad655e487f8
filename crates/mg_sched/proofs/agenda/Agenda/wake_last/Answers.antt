use Rattle.std.proofs.Common.{◌∙◌, ℕ, inl, inr, refl, sym, subst, arith}
use Rattle.std.proofs.lemmas.Bool.{cases_eq}
use Rattle.mg_ready.specs.Ready.{IsIn}
use Rattle.mg_sched.proofs.Touching.{stays_in}
use Rattle.mg_sched.proofs.agenda.Agenda.wake_last.Goals as goal

pub loop-place-init : goal.loop-place-init
loop-place-init c = record { heads = refl; starts = refl; links = refl; grows = λ place is. is; woken = λ place from less. absurd (omega (arith, from, less)) }

pub wake-requires : goal.wake-requires
wake-requires c = (let less = c.loop-place-test.true in let end = c.count-end.ensures.count in let heads = c.loop-place.invariant.heads in omega (arith, less, end, heads))

pub loop-place-preserved : goal.loop-place-preserved
loop-place-preserved c = record {
  heads = c.wake.ensures.heads ∙ c.loop-place.invariant.heads;
  starts = c.wake.ensures.leads.0 ∙ c.loop-place.invariant.starts;
  links = c.wake.ensures.leads.1 ∙ c.loop-place.invariant.links;
  grows = λ place is. stays_in c.loop-place.self.touched c.wake.new.self.touched c.loop-place.place place c.wake.ensures.touched c.wake.ensures.only (c.loop-place.invariant.grows place is);
  woken = λ place from less. elim (cases_eq place c.loop-place.place) [
    | inl same ↦ subst (λ (k : ℕ). IsIn c.wake.new.self.touched k) (sym same) c.wake.ensures.touched
    | inr other ↦ (c.wake.ensures.only.others place other).1 (c.loop-place.invariant.woken place from (omega (arith, less, other)))
  ];
}

pub returns : goal.returns
returns c = record {
  heads = c.loop-place.invariant.heads;
  starts = c.loop-place.invariant.starts;
  links = c.loop-place.invariant.links;
  grows = c.loop-place.invariant.grows;
  woken = λ place less from. c.loop-place.invariant.woken place (let end = c.count-end.ensures.count in omega (arith, from, end)) (let past = c.loop-place-test.false in let end = c.count-end.ensures.count in omega (arith, less, past, end));
}
