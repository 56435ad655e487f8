use Rattle.std.proofs.Common.{ap, sym, ◌∙◌}
use Rattle.mg_value.specs.Payload.{plain}
use Rattle.mg_calc.specs.Values.{items_in}
use Rattle.mg_batch.proofs.InnerTimes.{listed-items_of}
use Rattle.mg_batch.proofs.begin_loop.items_in.Goals as goal

pub returns-in-Items : goal.returns-in-Items
returns-in-Items c = c.as_slice.ensures ∙ sym (listed-items_of c.in-Items.list) ∙ sym (ap (λ p. items_in (plain p)) c.in-Items.is)
