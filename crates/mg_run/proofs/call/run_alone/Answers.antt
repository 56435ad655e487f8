use Rattle.std.proofs.Common.{sym, ap}
use Rattle.mg_words.specs.Words.{request_of}
use Rattle.mg_run.proofs.Coming.{came-answered, came-boxes, count-of, came_apart}
use Rattle.mg_run.proofs.Headlines.{came-headline}
use Rattle.mg_run.proofs.call.run_alone.Goals as goal

pub returns-clause-came : goal.returns-clause-came
returns-clause-came g c = came_apart g.C.NodeCalculator.laws _ _ _ _ _ _ _ _ _ _ _ _ _ _ (ap g.S.Source.told (c.input-1.given.1 (sym c.do_words_alone.ensures.same.same_input))) (ap g.K.Sink.told (c.output-1.given.1 (sym c.do_words_alone.ensures.same.same_output)))
    (ap g.E.Sink.told (c.notes-1.given.1 (sym c.do_words_alone.ensures.same.same_notes))) c.do_words_alone.ensures.came

pub returns-clause-headline : goal.returns-clause-headline
returns-clause-headline g c = came-headline g.C.NodeCalculator.laws _ (request_of c.args.words.now) c.do_words_alone.result _ (came_apart g.C.NodeCalculator.laws _ _ _ _ _ _ _ _ _ _ _ _ _ _ (ap g.S.Source.told (c.input-1.given.1 (sym c.do_words_alone.ensures.same.same_input))) (ap g.K.Sink.told (c.output-1.given.1 (sym c.do_words_alone.ensures.same.same_output)))
    (ap g.E.Sink.told (c.notes-1.given.1 (sym c.do_words_alone.ensures.same.same_notes))) c.do_words_alone.ensures.came)

pub returns-clause-answered : goal.returns-clause-answered
returns-clause-answered g c = came-answered g.C.NodeCalculator.laws _ (request_of c.args.words.now) c.do_words_alone.result _ (came_apart g.C.NodeCalculator.laws _ _ _ _ _ _ _ _ _ _ _ _ _ _ (ap g.S.Source.told (c.input-1.given.1 (sym c.do_words_alone.ensures.same.same_input))) (ap g.K.Sink.told (c.output-1.given.1 (sym c.do_words_alone.ensures.same.same_output)))
    (ap g.E.Sink.told (c.notes-1.given.1 (sym c.do_words_alone.ensures.same.same_notes))) c.do_words_alone.ensures.came)

pub returns-clause-boxes : goal.returns-clause-boxes
returns-clause-boxes g c = count-of _ _ _ (came-boxes g.C.NodeCalculator.laws _ (request_of c.args.words.now) c.do_words_alone.result _ (came_apart g.C.NodeCalculator.laws _ _ _ _ _ _ _ _ _ _ _ _ _ _ (ap g.S.Source.told (c.input-1.given.1 (sym c.do_words_alone.ensures.same.same_input))) (ap g.K.Sink.told (c.output-1.given.1 (sym c.do_words_alone.ensures.same.same_output)))
    (ap g.E.Sink.told (c.notes-1.given.1 (sym c.do_words_alone.ensures.same.same_notes))) c.do_words_alone.ensures.came))
