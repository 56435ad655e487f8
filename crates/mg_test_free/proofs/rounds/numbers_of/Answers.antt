use Rattle.std.proofs.Common.{◌≡◌, ◌∙◌, ℕ, suc, ◌+◌, ◌-◌, List, [], ◌∷◌, ◌++◌, ap, sym, arith}
use Rattle.std.specs.List.{range_with_len}
use Rattle.std.proofs.lemmas.List.{append_assoc}
use Rattle.mg_test_free.proofs.rounds.numbers_of.Goals as goal

pub loop-number-preserved : goal.loop-number-preserved
loop-number-preserved c =
    let n = c.loop-number.number in
    let left : c.args.count - n ≡ suc (c.args.count - (n + 1)) = (let t = c.loop-number-test.true in let e = c.loop-number.auto.number-end in omega (arith, t, e)) in
    let items = c.in_ok-push.ensures.items in
    ap (λ (l : List ℕ). l ++ range_with_len (n + 1) (c.args.count - (n + 1))) items
    ∙ (append_assoc c.loop-number.numbers.items (n ∷ []) (range_with_len (n + 1) (c.args.count - (n + 1)))
    ∙ (sym (ap (λ (k : ℕ). c.loop-number.numbers.items ++ range_with_len n k) left) ∙ c.loop-number.invariant))
