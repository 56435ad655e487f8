use Rattle.std.proofs.Common.{slice_index_or, inl, inr, refl, ap, sym, ◌∙◌, subst, arith}
use Rattle.std.proofs.lemmas.Bool.{cases_eq}
use Rattle.std.proofs.lemmas.Option.{same_Some, slice_get_within}
use Rattle.mg_live.proofs.Places.{number_at}
use Rattle.mg_drive.proofs.Reading.{grow_none, grow_on, all_added}
use Rattle.mg_drive.proofs.readers.add_reader.Goals as goal

pub loop-i-init : goal.loop-i-init
loop-i-init c = record {
  grows = grow_none c.args.by_place.now;
  added = λ port stream writer less. absurd (omega (arith, less));
}

pub loop-i-preserved : goal.loop-i-preserved
loop-i-preserved c = record {
  grows = grow_on c.args.by_place.now c.loop-i.by_place c.add_stream.new.by_place c.loop-i.invariant.grows c.in_ok-add_stream.ensures.grows;
  added = all_added c.args.core.now c.args.streams.now c.loop-i.i c.args.reader c.loop-i.by_place c.add_stream.new.by_place (number_at c.args.streams.now c.loop-i.i (omega (arith, c.loop-i-test.true))) c.in_ok-add_stream.ensures.grows c.in_ok-add_stream.ensures.added c.loop-i.invariant.added;
}

pub returns-clause-added : goal.returns-clause-added
returns-clause-added c = λ port stream writer at written.
    c.loop-i.invariant.added port stream writer (let within = slice_get_within c.args.streams.now port stream at in let past = c.loop-i-test.false in omega (arith, within, past)) at written
