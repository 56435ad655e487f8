use Rattle.std.proofs.Common.{ℕ, ◌+◌, subst, sym, ◌∙◌, arith}
use Rattle.std.proofs.lemmas.Bool.Decides.{nat_tests}
use Rattle.mg_config.proofs.Digits.{AreRead, one_more, refused, too_large, at_end}
use Rattle.mg_config.proofs.number.value_in.Goals as goal

pub loop-byte-preserved : goal.loop-byte-preserved
loop-byte-preserved c =
    let P : ℕ → Type 0 = λ v. AreRead c.args.base c.args.most c.args.digits.now (c.loop-byte.byte-index + 1) v in
    subst P (sym c.appended-more.ensures) (one_more _ _ _ _ _ c.in_ok-digit.digit (omega arith) c.loop-byte.invariant c.in_ok-digit.ensures.value (omega arith))

pub returns-in_err-digit-clause-value : goal.returns-in_err-digit-clause-value
returns-in_err-digit-clause-value c = c.from_residual.ensures ∙ refused c.args.base c.args.most c.args.digits.now c.loop-byte.byte-index (omega arith) c.in_err-digit.ensures.value

pub returns-then-more-from-clause-value : goal.returns-then-more-from-clause-value
returns-then-more-from-clause-value c = too_large c.args.base c.args.most c.args.digits.now c.loop-byte.byte-index c.loop-byte.value c.in_ok-digit.digit c.requires.some (omega arith) c.loop-byte.invariant c.in_ok-digit.ensures.value (omega arith)

pub returns-clause-value : goal.returns-clause-value
returns-clause-value c = at_end c.args.base c.args.most c.args.digits.now c.loop-byte.byte-index c.loop-byte.value (grind (arith, nat_tests)) (omega arith) c.loop-byte.invariant
