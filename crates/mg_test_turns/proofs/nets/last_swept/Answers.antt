use Rattle.std.proofs.Common.{ap, ◌∙◌, length}
use Rattle.mg_calc.specs.declared.plan.Plan.{Plan}
use Rattle.mg_sched.proofs.Becoming.{becomes_plan}
use Rattle.mg_test_turns.proofs.nets.last_swept.Goals as goal

pub last_taken-requires : goal.last_taken-requires
last_taken-requires c = record {
  stands = record { job = c.requires.outputs.stands.job; stands = c.in_ok-sweep.ensures.stands c.requires.outputs.stands.job c.requires.outputs.stands.stands };
  outputs = ap (λ (p : Plan). length p.outputs) (becomes_plan c.args.net.now _ c.in_ok-sweep.ensures.becomes) ∙ c.requires.outputs.outputs;
}
