use Rattle.mg_text.specs.View.{fields_view}
use Rattle.mg_config.proofs.Joined.{AreJoined}
use Rattle.mg_config.proofs.options.joined_options.Given as goal

abbrev pub invariant-loop-field : goal.invariant-loop-field
invariant-loop-field l = AreJoined l.fields l.field-index (fields_view l.options.items)
