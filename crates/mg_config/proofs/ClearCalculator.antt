-- Each node of a configuration that is written has a calculator.
use Rattle.std.proofs.Common.{ℕ, suc, ◌≡◌, ◌≢◌, List, [], ◌∷◌, if◌then◌else◌, false, None, Some, map, arith, refl, ap, ◌∙◌, codes}
use Rattle.std.specs.List.{All}
use Rattle.std.specs.Str.{bytes_eq}
use Rattle.mg_config.specs.Values.{entries, text_in, fields_of_value, messages_in}
use Rattle.mg_config.specs.Config.{NodeView, GraphView}
use Rattle.mg_config.specs.Faults.{calculator_fault, calculator_path}
use Rattle.mg_config.specs.Written.{node_fields, node_entry, graph_fields, tree_of}
use Rattle.mg_config.specs.Sound.{IsSoundNode, IsSound}
use Rattle.mg_config.specs.declared.fault.ConfigFault.TheVariants.{WrongShape}
use Rattle.mg_config.proofs.Loops.{entries-of}
use Rattle.mg_config.proofs.Pieces.{values}
use Rattle.mg_config.proofs.Given.{node_text, graph_values}

some_bytes : (text : List ℕ) → text ≢ [] → bytes_eq text [] ≡ false
some_bytes [] some = absurd (some refl)
some_bytes (x ∷ text) some = refl

nodes_have : (k : ℕ) (nodes : List NodeView) → All IsSoundNode nodes → calculator_fault k (map fields_of_value (values (map node_entry nodes))) ≡ None
nodes_have k [] sound = refl
nodes_have k (node ∷ nodes) sound =
    let text = ap (text_in (codes "calculator")) (entries-of (node_fields node)) ∙ node_text node (codes "calculator") node.calculator refl in
    ap (λ b. if b then Some (WrongShape (calculator_path k)) else calculator_fault (suc k) (map fields_of_value (values (map node_entry nodes))))
    (ap (λ t. bytes_eq t []) text ∙ some_bytes node.calculator (sound 0 node (omega arith)).calculator)
    ∙ nodes_have (suc k) nodes (λ j d inside. sound (suc j) d (omega arith))

pub no_calculator_fault : (graph : GraphView) → IsSound graph → calculator_fault 0 (messages_in (codes "node") (entries (tree_of graph))) ≡ None
no_calculator_fault graph sound =
    ap (λ es. calculator_fault 0 (messages_in (codes "node") es)) (entries-of (graph_fields graph))
    ∙ ap (λ vs. calculator_fault 0 (map fields_of_value vs)) (graph_values graph (codes "node") (map node_entry graph.nodes) refl)
    ∙ nodes_have 0 graph.nodes sound.nodes
