use Rattle.std.proofs.Common.{◌∙◌}
use Rattle.mg_index.specs.Places.{is_text}
use Rattle.mg_feed.proofs.Finding.{finds_more}
use Rattle.mg_feed.proofs.places.table_of.Goals as goal

pub loop-number-init : goal.loop-number-init
loop-number-init c = c.new-names.ensures is_text

pub loop-number-preserved : goal.loop-number-preserved
loop-number-preserved c =
    finds_more c.loop-number.names c.insert.new.self c.args.entries.now c.loop-number.number _ _ c.loop-number-test.true (c.in_ok-name.ensures.ok ∙ c.as_str.ensures) c.in_ok-insert.ensures c.loop-number.invariant
