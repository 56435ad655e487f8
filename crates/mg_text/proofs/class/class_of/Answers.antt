use Rattle.std.proofs.Common.{sym, arith}
use Rattle.mg_text.proofs.ByteValues.{beyond_class}
use Rattle.mg_text.proofs.Tables.{class_in_table}
use Rattle.mg_text.proofs.class.class_of.Goals as goal

pub returns-then-b-lt128 : goal.returns-then-b-lt128
returns-then-b-lt128 c = class_in_table c.args.b (omega arith)

pub returns-else-b-lt128 : goal.returns-else-b-lt128
returns-else-b-lt128 c = sym (beyond_class c.args.b (omega arith))
