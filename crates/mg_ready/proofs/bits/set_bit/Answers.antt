use Rattle.std.proofs.Common.{◌%◌, ◌∙◌, arith, w64}
use Rattle.std.proofs.lemmas.Nat.Bits.{bit_at_set_same, bit_at_set_other}
use Rattle.mg_ready.proofs.BitSets.{bit_of-set, ChangesBit-set}
use Rattle.mg_ready.proofs.bits.set_bit.Goals as goal

pub returns-clause-set : goal.returns-clause-set
returns-clause-set c =
    bit_of-set _ _ _ c.requires ∙ bit_at_set_same w64 _ (c.args.number % 64) (omega arith)

pub returns-clause-others : goal.returns-clause-others
returns-clause-others c =
    ChangesBit-set _ _ _ c.requires (λ i small other. bit_at_set_other w64 _ (c.args.number % 64) (omega arith) i other)
