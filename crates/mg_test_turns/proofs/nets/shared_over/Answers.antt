use Rattle.mg_route.specs.TableLaws.{table_laws}
use Rattle.std.proofs.Common.{◌≡◌, ℕ, length, subst, arith}
use Rattle.mg_seats.specs.Held.{HasOutputs}
use Rattle.mg_test_turns.proofs.nets.shared_over.Goals as goal

pub returns-clause-kept : goal.returns-clause-kept
returns-clause-kept c =
    let one : length c.args.plan.now.outputs ≡ 1 = (let len = c.len.ensures in let is = c.if-len-ne1.false in omega (arith, len, is)) in
    c.in_ok-shared.ensures.kept 1 (subst (λ (n : ℕ). HasOutputs table_laws n c.in_ok-net.net) one c.in_ok-net.ensures.outputs)
