use Rattle.std.proofs.Common.{ap, ◌∙◌, map, Some}
use Rattle.mg_turns.specs.Parts.{LayoutView}
use Rattle.mg_turns.proofs.Apart.{starts_apart}
use Rattle.mg_turns.proofs.Shares.{back_again}
use Rattle.mg_turns.proofs.shared.SharedNet.share.Goals as goal

pub new-requires-2 : goal.new-requires-2
new-requires-2 g c =
    let parts = ap (λ (f : LayoutView). map Some f.parts) c.layout.view_is in
    rw c.of-key.ensures (starts_apart c.args.layout _ _ (c.deref.ensures.value ∙ c.in-Ok.ensures.words) (c.all_in-slots.ensures ∙ parts) c.requires.ready)

pub returns-clause-unchanged : goal.returns-clause-unchanged
returns-clause-unchanged g c =
    let plan = ap (λ (f : LayoutView). f.plan) c.layout.view_is in
    let parts = ap (λ (f : LayoutView). map Some f.parts) c.layout.view_is in
    back_again c.args.layout c.layout.inside.plan c.all_in-slots.result.items _ _ plan (c.all_in-slots.ensures ∙ parts) c.in-Err.ensures.err c.all_out.ensures
