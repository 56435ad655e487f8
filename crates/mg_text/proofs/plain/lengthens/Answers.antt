use Rattle.std.proofs.Common.{◌∙◌, ap, arith}
use Rattle.mg_text.proofs.Tables.{has_flag, flag_in_table}
use Rattle.mg_text.proofs.plain.lengthens.Goals as goal

pub returns : goal.returns
returns c = ap (λ flag. has_flag flag c.args.b) c.flag_of.ensures ∙ flag_in_table c.args.run c.args.b (omega arith)
