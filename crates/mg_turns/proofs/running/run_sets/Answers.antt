use Rattle.std.proofs.Common.{◌≡◌, ◌+◌, ◌<◌, rules, arith, inr}
use Rattle.mg_turns.specs.Rounds.{Stops}
use Rattle.mg_turns.specs.Told.{committed_in}
use Rattle.mg_turns.proofs.Rounds.{cell_again, steps_further, one_more_round}
use Rattle.mg_turns.proofs.running.run_sets.Goals as goal

pub loop-done-preserved : goal.loop-done-preserved
loop-done-preserved g c =
    let v = c.loop-done.invariant in let s = c.run_set.ensures.steps in
    let r = one_more_round c.loop-done.done v.laid c.args.engine.now c.loop-done.engine c.run_set.new.engine c.args.intake.now c.loop-done.intake c.run_set.new.intake v.rounds (search rules) in
    record {
      cell = cell_again c.loop-done.engine c.run_set.new.engine c.loop-done.intake c.run_set.new.intake v.cell s;
      steps = steps_further c.args.engine.now c.loop-done.engine c.run_set.new.engine c.args.intake.now c.loop-done.intake c.run_set.new.intake v.steps s;
      laid = r.0;
      counts = (let more : committed_in c.run_set.new.engine ≡ committed_in c.loop-done.engine + 1 = search rules in let before = v.counts in omega (arith, before, more));
      rounds = r.1;
    }

pub returns-then-not-run_set-clause-ran : goal.returns-then-not-run_set-clause-ran
returns-then-not-run_set-clause-ran g c =
    let v = c.loop-done.invariant in
    let less : c.loop-done.done < c.args.most = search rules in
    let stops : Stops g.C.NodeCalculator.laws c.loop-done.engine c.run_set.new.engine c.loop-done.intake c.run_set.new.intake = search rules in
    (c.loop-done.engine, c.loop-done.intake, v.laid, v.rounds, omega (arith, less), inr (less, stops))
