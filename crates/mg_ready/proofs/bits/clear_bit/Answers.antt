use Rattle.std.proofs.Common.{◌%◌, ◌∙◌, arith, w64}
use Rattle.std.proofs.lemmas.Nat.Bits.{bit_at_clear_same, bit_at_clear_other}
use Rattle.mg_ready.proofs.BitSets.{bit_of-set, ChangesBit-set}
use Rattle.mg_ready.proofs.bits.clear_bit.Goals as goal

pub returns-clause-clear : goal.returns-clause-clear
returns-clause-clear c =
    bit_of-set _ _ _ c.requires ∙ bit_at_clear_same w64 _ (c.args.number % 64) (omega arith)

pub returns-clause-others : goal.returns-clause-others
returns-clause-others c =
    ChangesBit-set _ _ _ c.requires (λ i small other. bit_at_clear_other w64 _ (c.args.number % 64) (omega arith) i small other)
