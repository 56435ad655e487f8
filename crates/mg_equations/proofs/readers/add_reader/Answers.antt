use Rattle.std.proofs.Common.{◌∙◌, ◌++◌, ◌∷◌, [], ◌<◌, ℕ, List, length, get_or, refl, ap, arith}
use Rattle.std.proofs.lemmas.List.{get_or_default}
use Rattle.mg_equations.proofs.ReaderSteps.{added_more}
use Rattle.mg_equations.proofs.readers.add_reader.Goals as goal

pub loop-input-preserved : goal.loop-input-preserved
loop-input-preserved c =
    let inputs = c.as_slice-input-items.result.now in
    let i = c.loop-input.input-index in
    let s = get_or inputs i 0 in
    let below : i < length inputs = omega (arith, c.loop-input-test.true) in
    let known : get_or c.args.inputs.now i 0 < length c.args.readers.now.items = c.requires i 0 (omega (arith, below, ap length c.as_slice-input-items.ensures)) in
    let there : s < length c.loop-input.readers.items = (let many = c.loop-input.invariant.many in omega (arith, many, known, ap (λ (l : List ℕ). get_or l i 0) c.as_slice-input-items.ensures)) in
    added_more inputs c.args.node c.args.readers.now.items c.loop-input.readers.items _ i s c.add.new.self c.loop-input.invariant below (get_or_default inputs i 0 s below) there
    (c.in_ok-add.ensures ∙ ap (λ (l : List ℕ). l ++ c.args.node ∷ []) (c.index_mut.ensures.value ∙ get_or_default c.loop-input.readers.items s c.index_mut.result.now [] there)) refl
