use Rattle.std.proofs.Common.{◌≡◌, true, sym, ◌∙◌, arith}
use Rattle.std.proofs.lemmas.List.Elements.{All-more}
use Rattle.mg_text.specs.Byte.{class_of}
use Rattle.mg_text.specs.Code.Plain.{lengthens}
use Rattle.mg_text.proofs.plain.front.Goals as goal

pub plain-preserved : goal.plain-preserved
plain-preserved c = (
  omega arith,
  All-more (λ b. lengthens c.args.run (class_of b) ≡ true) c.args.bytes.now c.plain.count 0 (omega arith) c.plain.invariant.1 (sym c.lengthens.ensures ∙ c.if-lengthens.true),
)
