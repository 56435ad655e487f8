use Rattle.std.proofs.Common.{rules, ◌≡◌, nat_le, true}
use Rattle.mg_calc.specs.State.{next_valid}
use Rattle.mg_route.proofs.thin.thinned.Goals as goal

pub returns-in_ok-laid : goal.returns-in_ok-laid
returns-in_ok-laid c =
    let passes : nat_le (next_valid c.args.state.now) c.args.at ≡ true = search rules in
    rw passes (search rules)
