use Rattle.std.proofs.Common.{◌≡◌, ◌∙◌, [], ◌∷◌, List, ap}
use Rattle.mg_calc.specs.declared.emission.Laid.{Laid}
use Rattle.mg_calc.specs.Laying.{laid_behind}
use Rattle.mg_route.specs.Reasons.{reason_of}
use Rattle.mg_node.proofs.LayingBehind.{only_one}
use Rattle.mg_node.proofs.laying.emission_fault.Goals as goal

pub returns-then-parts-eq1 : goal.returns-then-parts-eq1
returns-then-parts-eq1 c = λ whole stand.
    let only : c.index-parts-0.result ∷ [] ≡ c.args.emission.now = only_one c.as_slice-parts.result.now c.index-parts-0.result c.if-parts-eq1.true c.index-parts-0.is ∙ c.as_slice-parts.ensures in
    c.part_fault.ensures whole stand ∙ ap (λ (es : List Laid). reason_of (laid_behind c.args.offset c.args.phase.now whole es)) only
