-- By these laws each law has the rules of the table.
use Rattle.std.proofs.Common.{◌≡◌, refl}
use Rattle.mg_calc.specs.declared.law.Law.{Law}
use Rattle.mg_calc.specs.declared.law.Law.TheVariants.{Stated}
use Rattle.mg_calc.specs.Law.{table_rules, rules_of}
use Rattle.mg_route.specs.TableLaws.{table_laws}

pub all_by_table : (law : Law) → rules_of table_laws law ≡ table_rules law
all_by_table (Stated number parameters offset) = refl
all_by_table law = refl
