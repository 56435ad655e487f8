use Rattle.std.proofs.Common.{refl, arith, ◌∙◌}
use Rattle.std.proofs.lemmas.Option.{slice_get_within}
use Rattle.mg_live.proofs.InTurn.{read_there}
use Rattle.mg_drive.proofs.Reading.{each_added}
use Rattle.mg_drive.proofs.readers.add_all.Goals as goal

pub loop-reader-init : goal.loop-reader-init
loop-reader-init c = record { long = refl; each = λ reader free less. absurd (omega (arith, less)) }

pub loop-reader-preserved : goal.loop-reader-preserved
loop-reader-preserved c =
    let less = c.loop-reader-test.true in
    let all = c.requires in
    record {
      long = c.in_ok-add_free.ensures.grows.long ∙ c.loop-reader.invariant.long;
      each = each_added c.args.core.now c.args.frees.now c.loop-reader.reader c.index-frees-reader.result _ c.loop-reader.by_place c.add_free.new.by_place (read_there c.args.frees.now c.loop-reader.reader c.index-frees-reader.result (omega (arith, less, all)) c.index-frees-reader.is)
          refl c.in_ok-add_free.ensures.grows c.in_ok-add_free.ensures.added c.loop-reader.invariant.each;
    }

pub returns-clause-each : goal.returns-clause-each
returns-clause-each c = λ reader free at.
    c.loop-reader.invariant.each reader free (let within = slice_get_within c.args.frees.now reader free at in let past = c.loop-reader-test.false in let all = c.requires in omega (arith, within, past, all)) at
