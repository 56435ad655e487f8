use Rattle.std.proofs.Common.{◌<◌, ◌∙◌, ◌+◌, ℕ, length, slice_get, slice_index_or, inl, inr, ap, refl, sym, subst, arith}
use Rattle.std.proofs.lemmas.Bool.{cases_eq}
use Rattle.std.proofs.lemmas.Option.{same_Some, slice_get_within}
use Rattle.mg_ready.specs.Ready.{IsIn}
use Rattle.mg_sched.proofs.LaidAt.{number_at}
use Rattle.mg_sched.proofs.Touching.{stays_in}
use Rattle.mg_sched.proofs.agenda.Agenda.wake_at.Goals as goal

pub loop-i-init : goal.loop-i-init
loop-i-init c = record { heads = refl; starts = refl; links = refl; grows = λ place is. is; woken = λ i input less at. absurd (omega (arith, less)) }

pub overflow_add-from : goal.overflow_add-from
overflow_add-from c =
    let here : c.loop-i.i < length c.args.inputs.now = omega (arith, c.loop-i-test.true) in
    let less = c.requires c.loop-i.i (slice_index_or c.args.inputs.now c.loop-i.i 0) (number_at c.args.inputs.now c.loop-i.i here) in
    let end = c.count-end.ensures.count in let few = c.count-end.ensures.few in
    omega (arith, less, end, few)

pub wake-requires : goal.wake-requires
wake-requires c =
    let here : c.loop-i.i < length c.args.inputs.now = omega (arith, c.loop-i-test.true) in
    let less = c.requires c.loop-i.i (slice_index_or c.args.inputs.now c.loop-i.i 0) (number_at c.args.inputs.now c.loop-i.i here) in
    let heads = c.loop-i.invariant.heads in
    omega (arith, less, heads)

pub loop-i-preserved : goal.loop-i-preserved
loop-i-preserved c =
    let here : c.loop-i.i < length c.args.inputs.now = omega (arith, c.loop-i-test.true) in
    let last = slice_index_or c.args.inputs.now c.loop-i.i 0 in
    record {
      heads = c.wake.ensures.heads ∙ c.loop-i.invariant.heads;
      starts = c.wake.ensures.leads.0 ∙ c.loop-i.invariant.starts;
      links = c.wake.ensures.leads.1 ∙ c.loop-i.invariant.links;
      grows = λ place is. stays_in c.loop-i.self.touched c.wake.new.self.touched (c.args.from + last) place c.wake.ensures.touched c.wake.ensures.only (c.loop-i.invariant.grows place is);
      woken = λ i input less at. elim (cases_eq i c.loop-i.i) [
        | inl same ↦ subst (λ (k : ℕ). IsIn c.wake.new.self.touched (c.args.from + k))
            (same_Some last input (sym (number_at c.args.inputs.now c.loop-i.i here) ∙ ap (λ (n : ℕ). slice_get c.args.inputs.now n) (sym same) ∙ at)) c.wake.ensures.touched
        | inr other ↦ stays_in c.loop-i.self.touched c.wake.new.self.touched (c.args.from + last) (c.args.from + input) c.wake.ensures.touched c.wake.ensures.only (c.loop-i.invariant.woken i input (omega (arith, less, other)) at)
      ];
    }

pub returns : goal.returns
returns c = record {
  heads = c.loop-i.invariant.heads;
  starts = c.loop-i.invariant.starts;
  links = c.loop-i.invariant.links;
  grows = c.loop-i.invariant.grows;
  woken = λ i input at. c.loop-i.invariant.woken i input (let past = c.loop-i-test.false in let within = slice_get_within c.args.inputs.now i input at in omega (arith, past, within)) at;
}
