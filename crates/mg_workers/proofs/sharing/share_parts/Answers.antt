use Rattle.std.proofs.Common.{◌∙◌, length, ap, refl, arith, List}
use Rattle.mg_turns.specs.Parts.{PartView, LayoutView}
use Rattle.mg_workers.proofs.Places.{woven_long}
use Rattle.mg_workers.proofs.sharing.share_parts.Goals as goal

pub share-requires-clause-few : goal.share-requires-clause-few
share-requires-clause-few g c =
    let woven = c.if-not-weave.ensures.woven refl in
    let long = ap (λ (f : LayoutView). length f.parts) c.new.ensures ∙ ap (λ (xs : List PartView). length xs) woven.0 ∙ woven_long c.len-nodes.result c.args.engines.now.items c.args.intakes.now.items in
    omega (arith, long, c.in-Ok.ensures.room.1, c.len.ensures, c.len-2.ensures)
