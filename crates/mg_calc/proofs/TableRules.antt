-- The rules of a law that isn't stated are those of the table. In the equations a node of a stated law has its author's rules.
use Rattle.std.proofs.Common.{◌≡◌, ℕ, ℤ, List, Option, refl, ap}
use Rattle.mg_value.specs.Plain.{Plain}
use Rattle.mg_calc.specs.declared.law.Law.{Law}
use Rattle.mg_calc.specs.declared.law.Law.TheVariants.{Stated}
use Rattle.mg_calc.specs.Rules.{Laws}
use Rattle.mg_calc.specs.Law.{table_rules, rules_of}
use Rattle.mg_calc.specs.Shape.{IsStated, IsBatch, IsSource}
use Rattle.mg_calc.specs.declared.plan_node.PlanNode.{PlanNode}
use Rattle.mg_calc.specs.Equations.{Job, rules_at}

-- a law isn't stated: its rules are the table's
pub by_table : (laws : Laws) (law : Law) → (IsStated law → ⊥) → rules_of laws law ≡ table_rules law
by_table laws (Stated number parameters offset) other = absurd (other tt)
by_table laws law other = refl

-- whatever the stated laws are, the rules of a law that isn't stated are the same
pub same_rules : (laws others : Laws) (law : Law) → (IsStated law → ⊥) → rules_of laws law ≡ rules_of others law
same_rules laws others (Stated number parameters offset) other = absurd (other tt)
same_rules laws others law other = refl

pub batch_unstated : (law : Law) → IsBatch law → IsStated law → ⊥
batch_unstated (Stated number parameters offset) batch stated = batch
batch_unstated law batch stated = stated

pub source_unstated : (law : Law) → IsSource law → IsStated law → ⊥
source_unstated (Stated number parameters offset) source stated = source
source_unstated law source stated = stated

-- in the equations of a job, a node whose law its author states has the author's rules
pub by_author : (job : Job) (node : PlanNode) (number : ℕ) (parameters : List Plain) (offset : Option ℤ) → node.law ≡ Stated number parameters offset
    → rules_at job node ≡ job.laws number parameters
by_author job node number parameters offset is = ap (rules_of job.laws) is
