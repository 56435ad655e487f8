use Rattle.std.proofs.Common.{◌≡◌, ◌∙◌, ap, Some, None, arith, ◌<◌, length}
use Rattle.std.proofs.lemmas.Bool.Decides.{nat_tests}
use Rattle.std.proofs.lemmas.Option.{slice_get-get_or}
use Rattle.mg_subgraph.proofs.expanding.is_empty.Goals as goal

pub returns-in-Some : goal.returns-in-Some
returns-in-Some c = λ known.
    let sizes = c.args.judged.now.sizes.now in
    let none : c.in-Some.size ≡ 0 = grind (arith, nat_tests) in
    let inside : c.args.place < length sizes = omega (arith, c.args.judged.now.counted) in
    slice_get-get_or sizes c.args.place None inside ∙ ap Some (c.in-Some.is ∙ ap Some none)
