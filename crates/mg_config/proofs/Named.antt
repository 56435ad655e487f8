-- Nodes without a calculator, one node after another.
use Rattle.std.proofs.Common.{ℕ, suc, ◌+◌, ◌<◌, ◌≤◌, ◌≡◌, List, [], Bool, true, false, length, get_or, map, add-one, arith, sym, ap, ◌∙◌, Option, Some, codes, if◌then◌else◌}
use Rattle.std.specs.Str.{bytes_eq}
use Rattle.mg_text.specs.declared.tree.Field.{Field}
use Rattle.mg_text.specs.View.{field_view, value_view, fields_view}
use Rattle.mg_config.specs.Values.{has_name, entries, fields_of_value, messages_in, text_in}
use Rattle.mg_config.specs.Faults.{calculator_fault, calculator_path}
use Rattle.mg_config.specs.declared.fault.ConfigFault.{ConfigFault}
use Rattle.mg_config.specs.declared.fault.ConfigFault.TheVariants.{WrongShape}
use Rattle.mg_config.proofs.Loops.{messages_from, messages_here, entries_view}

abbrev pub node_name : List ℕ
node_name = codes "node"

abbrev pub calculator : List ℕ
calculator = codes "calculator"

abbrev pub all_calculators : List Field → Option ConfigFault
all_calculators fs = calculator_fault 0 (messages_in node_name (map field_view fs))

-- the nodes that are left
pub record AreNamed (fs : List Field) (i k : ℕ) : Type 0 where
  pub whole : all_calculators fs ≡ calculator_fault k (messages_from node_name fs i)
  pub few : k ≤ i

one_by : (fs : List Field) (i k : ℕ) (d : Field) (node : List Field) (lacks : Bool) → i < length fs → d ≡ get_or fs i d → has_name node_name (field_view d) ≡ true → AreNamed fs i k
    → fields_view node ≡ fields_of_value (value_view d.value) → lacks ≡ bytes_eq (text_in calculator (map field_view node)) []
    → all_calculators fs ≡ (if lacks then Some (WrongShape (calculator_path k)) else calculator_fault (suc k) (messages_from node_name fs (i + 1)))
one_by fs i k d node lacks inside same here at view is =
    at.whole ∙ ap (calculator_fault k) (messages_here node_name fs i d inside same here)
    ∙ ap (λ es. if bytes_eq (text_in calculator es) [] then Some (WrongShape (calculator_path k)) else calculator_fault (suc k) (messages_from node_name fs (i + 1))) (ap entries (sym view) ∙ entries_view node)
    ∙ ap (λ b. if b then Some (WrongShape (calculator_path k)) else calculator_fault (suc k) (messages_from node_name fs (i + 1))) (sym is)

pub named_more : (fs : List Field) (i k : ℕ) (d : Field) (node : List Field) → i < length fs → d ≡ get_or fs i d → has_name node_name (field_view d) ≡ true → AreNamed fs i k
    → fields_view node ≡ fields_of_value (value_view d.value) → false ≡ bytes_eq (text_in calculator (map field_view node)) [] → AreNamed fs (i + 1) (k + 1)
named_more fs i k d node inside same here at view is = record {
  whole = one_by fs i k d node false inside same here at view is ∙ ap (λ n. calculator_fault n (messages_from node_name fs (i + 1))) (sym (add-one k));
  few = omega (arith, at.few);
}

pub unnamed : (fs : List Field) (i k : ℕ) (d : Field) (node : List Field) (path : List ℕ) → i < length fs → d ≡ get_or fs i d → has_name node_name (field_view d) ≡ true → AreNamed fs i k
    → fields_view node ≡ fields_of_value (value_view d.value) → true ≡ bytes_eq (text_in calculator (map field_view node)) [] → path ≡ calculator_path k → all_calculators fs ≡ Some (WrongShape path)
unnamed fs i k d node path inside same here at view is place = one_by fs i k d node true inside same here at view is ∙ ap (λ p. Some (WrongShape p)) (sym place)
