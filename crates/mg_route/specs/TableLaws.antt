-- The stated laws of calculators that compute what the table gives.
use Rattle.std.specs.Prelude.{None}
use Rattle.mg_calc.specs.declared.law.Law.TheVariants.{Stated}
use Rattle.mg_calc.specs.Rules.{Laws}
use Rattle.mg_calc.specs.Law.{table_rules}

-- stated laws by which nothing is computed, as the table has it of them
abbrev pub table_laws : Laws
table_laws number parameters = table_rules (Stated number parameters None)
