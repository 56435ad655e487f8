-- A step of a count.
use Rattle.std.proofs.Common.{◌≡◌, ◌≤◌, ◌+◌, ◌∙◌, ℕ, arith, sym}
use Rattle.mg_edge.specs.Edge.{HasRisen, one_more}

pub one_more-few : (n : ℕ) → one_more n ≤ n + 1
one_more-few n = omega arith

pub one_more-rises : (n : ℕ) → HasRisen n (one_more n)
one_more-rises n same = absurd (omega (arith, same))

-- a step after none
pub rises-after : (a b c : ℕ) → b ≡ a → c ≡ one_more b → HasRisen a c
rises-after a b c same one is = one_more-rises b (sym one ∙ is ∙ sym same)
