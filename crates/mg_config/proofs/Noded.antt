-- Nodes, one message after another.
use Rattle.std.proofs.Common.{ℕ, suc, ◌+◌, ◌<◌, ◌≤◌, ◌≡◌, List, [], ◌∷◌, ◌++◌, true, false, length, get_or, map, append_assoc, append-nil, add-one, arith, refl, sym, ap, ◌∙◌, Result, Ok, Err}
use Rattle.std.proofs.lemmas.List.{map-append}
use Rattle.mg_text.specs.Tree.{Fields}
use Rattle.mg_text.specs.declared.tree.Field.{Field}
use Rattle.mg_text.specs.View.{field_view, value_view, fields_view}
use Rattle.mg_config.specs.Values.{has_name, entries, fields_of_value, messages_in}
use Rattle.mg_config.specs.Path.{numbered, result_within, then_do}
use Rattle.mg_config.specs.Config.{NodeView, node_view, node_of, nodes_from}
use Rattle.mg_config.specs.declared.node.NodeConfig.{NodeConfig}
use Rattle.mg_config.specs.declared.fault.ConfigFault.{ConfigFault}
use Rattle.mg_config.proofs.Named.{node_name}
use Rattle.mg_config.proofs.Loops.{messages_from, messages_here, messages_skip, messages_end, entries_within}

abbrev pub all_nodes : List Field → Result (List NodeView) ConfigFault
all_nodes fs = nodes_from 0 (messages_in node_name (map field_view fs))

-- the nodes so far, and those that are left
pub record AreNodes (fs : List Field) (i k : ℕ) (nodes : List NodeConfig) : Type 0 where
  pub whole : all_nodes fs ≡ then_do (nodes_from k (messages_from node_name fs i)) (λ more. Ok (map node_view nodes ++ more))
  pub few : k ≤ i

begun : (r : Result (List NodeView) ConfigFault) → r ≡ then_do r (λ more. Ok ([] ++ more))
begun (Ok nodes) = refl
begun (Err fault) = refl

pub nodes_first : (fs : List Field) → AreNodes fs 0 0 []
nodes_first fs = record { whole = begun (all_nodes fs); few = omega arith }

node_then : (k : ℕ) (fields : Fields) (more : List Fields) (nodes : List NodeView) (node : NodeView) → result_within (numbered node_name k) (node_of (entries fields)) ≡ Ok node
    → then_do (nodes_from k (fields ∷ more)) (λ more. Ok (nodes ++ more)) ≡ then_do (nodes_from (suc k) more) (λ more. Ok ((nodes ++ node ∷ []) ++ more))
node_then k fields more nodes node read =
    ap (λ r. then_do (then_do r (λ node. then_do (nodes_from (suc k) more) (λ nodes. Ok (node ∷ nodes)))) (λ more. Ok (nodes ++ more))) read
    ∙ joined (nodes_from (suc k) more)
  where
    joined : (r : Result (List NodeView) ConfigFault) → then_do (then_do r (λ nodes. Ok (node ∷ nodes))) (λ more. Ok (nodes ++ more)) ≡ then_do r (λ more. Ok ((nodes ++ node ∷ []) ++ more))
    joined (Ok others) = ap Ok (sym (append_assoc nodes (node ∷ []) others))
    joined (Err fault) = refl

node_fails : (k : ℕ) (fields : Fields) (more : List Fields) (nodes : List NodeView) (fault : ConfigFault) → result_within (numbered node_name k) (node_of (entries fields)) ≡ Err fault
    → then_do (nodes_from k (fields ∷ more)) (λ more. Ok (nodes ++ more)) ≡ Err fault
node_fails k fields more nodes fault read =
    ap (λ r. then_do (then_do r (λ node. then_do (nodes_from (suc k) more) (λ nodes. Ok (node ∷ nodes)))) (λ more. Ok (nodes ++ more))) read

pub nodes_more : (fs : List Field) (i k : ℕ) (d : Field) (own : List Field) (nodes made : List NodeConfig) (node : NodeConfig) → i < length fs → d ≡ get_or fs i d
    → has_name node_name (field_view d) ≡ true → AreNodes fs i k nodes → fields_view own ≡ fields_of_value (value_view d.value)
    → result_within (numbered node_name k) (node_of (map field_view own)) ≡ Ok (node_view node) → made ≡ nodes ++ node ∷ [] → AreNodes fs (i + 1) (k + 1) made
nodes_more fs i k d own nodes made node inside same here at view read is =
    let all = fields_of_value (value_view d.value) in
    record {
      whole = at.whole ∙ ap (λ ms. then_do (nodes_from k ms) (λ more. Ok (map node_view nodes ++ more))) (messages_here node_name fs i d inside same here)
          ∙ node_then k all (messages_from node_name fs (i + 1)) (map node_view nodes) (node_view node) (ap (λ es. result_within (numbered node_name k) (node_of es)) (entries_within d own view) ∙ read)
          ∙ ap (λ ns. then_do (nodes_from (suc k) (messages_from node_name fs (i + 1))) (λ more. Ok (ns ++ more)))
          (sym (map-append node_view nodes (node ∷ [])) ∙ ap (map node_view) (sym is))
          ∙ ap (λ n. then_do (nodes_from n (messages_from node_name fs (i + 1))) (λ more. Ok (map node_view made ++ more))) (sym (add-one k));
      few = omega (arith, at.few);
    }

pub nodes_skip : (fs : List Field) (i k : ℕ) (d : Field) (nodes : List NodeConfig) → i < length fs → d ≡ get_or fs i d → has_name node_name (field_view d) ≡ false
    → AreNodes fs i k nodes → AreNodes fs (i + 1) k nodes
nodes_skip fs i k d nodes inside same here at = record {
  whole = at.whole ∙ ap (λ ms. then_do (nodes_from k ms) (λ more. Ok (map node_view nodes ++ more))) (messages_skip node_name fs i d inside same here);
  few = omega (arith, at.few);
}

pub nodes_fault : (fs : List Field) (i k : ℕ) (d : Field) (own : List Field) (nodes : List NodeConfig) (fault : ConfigFault) → i < length fs → d ≡ get_or fs i d
    → has_name node_name (field_view d) ≡ true → AreNodes fs i k nodes → fields_view own ≡ fields_of_value (value_view d.value)
    → result_within (numbered node_name k) (node_of (map field_view own)) ≡ Err fault → all_nodes fs ≡ Err fault
nodes_fault fs i k d own nodes fault inside same here at view read =
    let all = fields_of_value (value_view d.value) in
    at.whole ∙ ap (λ ms. then_do (nodes_from k ms) (λ more. Ok (map node_view nodes ++ more))) (messages_here node_name fs i d inside same here)
    ∙ node_fails k all (messages_from node_name fs (i + 1)) (map node_view nodes) fault (ap (λ es. result_within (numbered node_name k) (node_of es)) (entries_within d own view) ∙ read)

pub nodes_all : (fs : List Field) (i k : ℕ) (nodes : List NodeConfig) → length fs ≤ i → AreNodes fs i k nodes → all_nodes fs ≡ Ok (map node_view nodes)
nodes_all fs i k nodes past at =
    at.whole ∙ ap (λ ms. then_do (nodes_from k ms) (λ more. Ok (map node_view nodes ++ more))) (messages_end node_name fs i past) ∙ ap Ok (append-nil (map node_view nodes))
