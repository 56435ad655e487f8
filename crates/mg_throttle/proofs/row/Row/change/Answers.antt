use Rattle.std.proofs.Common.{◌≡◌, ℕ, ◌+◌, ◌*◌, ◌<◌, ◌≤◌, ◌∙◌, ap, length, arith}
use Rattle.mg_throttle.specs.Code.Rows.{bit_in, is_marked}
use Rattle.mg_throttle.proofs.RowMarks.{word_read, enough_at, ChangesBelow-word, ChangesBelow-zero, Changes-all, length-marks}
use Rattle.mg_throttle.proofs.row.Row.change.Goals as goal
use Rattle.mg_throttle.proofs.row.Row.change.Goals.{then-word-ne0, else-word-ne0}

pub change_word-requires-clause-enough : goal.change_word-requires-clause-enough
change_word-requires-clause-enough c =
    enough_at (is_marked c.args.self.now) _ _ c.loop-k.k _ _ _ c.loop-k.invariant
    (λ k low high within. word_read _ _ _ c.loop-k.k _ c.self.view_is (omega arith) c.index-word.ensures k low high (omega arith)) c.requires.enough

pub loop-k-preserved : goal.loop-k-preserved
loop-k-preserved c =
    let same : (k : ℕ) → c.loop-k.k * 64 ≤ k → k < c.loop-k.k * 64 + 64 → k < length c.args.counts.now → is_marked c.args.self.now k ≡ bit_in c.index-word.result.now (c.loop-k.k * 64) k =
    λ k low high within. word_read _ _ _ c.loop-k.k _ c.self.view_is (omega arith) c.index-word.ensures k low high (omega arith) in
    let next : (c.loop-k.k + 1) * 64 ≡ c.loop-k.k * 64 + 64 = omega arith in
    rw next (elim c.if-word-ne0.branch [
      | then-word-ne0 w ↦ rw w.counts-is (ChangesBelow-word _ _ _ _ _ _ _ _ c.loop-k.invariant w.change_word.ensures same)
      | else-word-ne0 w ↦ rw w.counts-is (ChangesBelow-zero _ _ _ _ _ _ c.loop-k.invariant
          (λ k low high within. same k low high within ∙ ap (λ x. bit_in x (c.loop-k.k * 64) k) w.if-word-ne0.false))
    ])

pub returns : goal.returns
returns c = Changes-all _ _ _ _ _ _ c.loop-k.invariant
    (λ k past within. absurd (let same = ap length c.self.view_is in omega (arith, length-marks c.self.inside.len c.self.inside.words.items)))
