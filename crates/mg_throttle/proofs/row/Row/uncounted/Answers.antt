use Rattle.std.proofs.Common.{ℕ, ◌*◌, ◌∙◌, ap, length, arith}
use Rattle.mg_throttle.specs.Code.Rows.{bit_in, is_uncounted}
use Rattle.mg_throttle.proofs.RowMarks.{word_read, length-marks}
use Rattle.mg_throttle.proofs.Firsts.{AreBitsOf, no_bit_uncounted, none_in_word, first_in_word, none_in_words}
use Rattle.mg_throttle.proofs.row.Row.uncounted.Goals as goal

pub loop-k-preserved-then-word-eq0 : goal.loop-k-preserved-then-word-eq0
loop-k-preserved-then-word-eq0 c =
    let bits : AreBitsOf c.args.self.now c.index-word.result.now (c.loop-k.k * 64) =
    word_read _ _ _ c.loop-k.k _ c.self.view_is (omega arith) c.index-word.ensures in
    none_in_word _ _ _ _ _ c.requires bits c.loop-k.invariant
    (λ k low high. ap (λ (w : ℕ). is_uncounted (bit_in w (c.loop-k.k * 64)) c.args.counts.now k) c.if-word-eq0.true ∙ no_bit_uncounted c.args.counts.now (c.loop-k.k * 64) k)

pub returns-in-Some : goal.returns-in-Some
returns-in-Some c = first_in_word _ _ _ _ _ _ c.requires (word_read _ _ _ c.loop-k.k _ c.self.view_is (omega arith) c.index-word.ensures) c.loop-k.invariant c.in-Some.ensures

pub loop-k-preserved : goal.loop-k-preserved
loop-k-preserved c = none_in_word _ _ _ _ _ c.requires (word_read _ _ _ c.loop-k.k _ c.self.view_is (omega arith) c.index-word.ensures) c.loop-k.invariant c.in_default.ensures

pub returns : goal.returns
returns c = none_in_words _ _ _ _ (let same = ap length c.self.view_is in omega (arith, length-marks c.self.inside.len c.self.inside.words.items, c.requires)) c.loop-k.invariant
