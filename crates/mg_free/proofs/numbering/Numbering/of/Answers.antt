use Rattle.std.proofs.Common.{ℕ, ◌<◌, List, All, sym, subst}
use Rattle.mg_free.specs.Core.{core_numbers}
use Rattle.mg_free.proofs.Walking.{core_below}
use Rattle.mg_free.proofs.numbering.Numbering.of.Goals as goal

pub of-requires : goal.of-requires
of-requires c =
    let plan = c.args.plan.now in
    subst (λ (l : List ℕ). All (λ n. n < c.len.result) l) (sym c.in_ok-numbers.ensures)
    (subst (λ (m : ℕ). All (λ n. n < m) (core_numbers plan)) (sym c.len.ensures) (core_below plan))
