use Rattle.mg_check.proofs.Shown.{all_named}
use Rattle.mg_check.proofs.streams.stream_at.Goals as goal

pub returns : goal.returns
returns c =
    all_named c.args.names.now c.args.mets.now c.args.writers.now c.args.place c.in_ok-new.field-0 c.in-Some.name.now c.in-Some-at.inferred.now c.in-Some-at-2.producer.now
    c.in_ok-new.ensures c.in-Some.ensures c.in-Some-at.ensures c.in-Some-at-2.ensures
