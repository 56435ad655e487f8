use Rattle.std.proofs.Common.{drop, ◌∙◌, refl, ap}
use Rattle.std.proofs.lemmas.Result.{err_from_is_err_and}
use Rattle.mg_answer.specs.Text.{sets_text}
use Rattle.mg_answer.proofs.Writing.{pours-start, pours-set, pours-end, pours-front}
use Rattle.mg_answer.proofs.solving.put_sets.Goals as goal

pub loop-timed-init : goal.loop-timed-init
loop-timed-init g c = (refl, pours-start (g.K.Sink.told c.args.output.now) c.args.text.now (sets_text c.args.text.now.names c.args.sets.now) c.requires)

pub loop-timed-preserved : goal.loop-timed-preserved
loop-timed-preserved g c = (
  c.put_set.ensures.names ∙ c.loop-timed.invariant.0,
  pours-set (g.K.Sink.told c.args.output.now) (g.K.Sink.told c.loop-timed.output) (g.K.Sink.told c.put_set.new.output) c.loop-timed.text c.put_set.new.self
      c.args.text.now.names c.args.sets.now c.loop-timed.timed-index c.timed-item.result c.timed.inside.set (sets_text c.args.text.now.names c.args.sets.now)
      c.loop-timed.invariant.1 c.loop-timed-test.true c.timed-item.is (ap (λ t. t.set) c.timed.view_is) c.loop-timed.invariant.0 c.in_ok-put_set.ensures.put,
)

pub returns-in_err-put_set : goal.returns-in_err-put_set
returns-in_err-put_set g c =
    let p = err_from_is_err_and c.from_residual.result c.from_residual.ensures.1 in
    rw p.1
    (pours-front (g.K.Sink.told c.args.output.now) (g.K.Sink.told c.loop-timed.output) (g.K.Sink.told c.put_set.new.output) c.loop-timed.text (sets_text c.args.text.now.names c.args.sets.now)
    (sets_text c.args.text.now.names (drop c.loop-timed.timed-index c.args.sets.now)) c.loop-timed.invariant.1 c.in_err-put_set.ensures.unwritten)

pub returns : goal.returns
returns g c =
    pours-end (g.K.Sink.told c.args.output.now) (g.K.Sink.told c.loop-timed.output) c.loop-timed.text c.args.text.now.names c.args.sets.now c.loop-timed.timed-index
    (sets_text c.args.text.now.names c.args.sets.now) c.loop-timed.invariant.1 c.loop-timed-test.false
