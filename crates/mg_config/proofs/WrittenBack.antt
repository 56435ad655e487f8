-- What is written of a sound configuration is read back as it.
use Rattle.std.proofs.Common.{◌≡◌, ap, ◌∙◌, codes, Ok}
use Rattle.mg_config.specs.Values.{entries, messages_in}
use Rattle.mg_config.specs.Faults.{calculator_fault}
use Rattle.mg_config.specs.Config.{GraphView, graph_of, unless, config_of}
use Rattle.mg_config.specs.Written.{tree_of}
use Rattle.mg_config.specs.Sound.{IsSound}
use Rattle.mg_config.proofs.ClearNode.{no_field_fault}
use Rattle.mg_config.proofs.ClearCalculator.{no_calculator_fault}
use Rattle.mg_config.proofs.Given.{graph_given}

pub written_back : (graph : GraphView) → IsSound graph → config_of (tree_of graph) ≡ Ok graph
written_back graph sound =
    ap (λ fault. unless fault (unless (calculator_fault 0 (messages_in (codes "node") (entries (tree_of graph)))) (graph_of (entries (tree_of graph))))) (no_field_fault graph sound)
    ∙ ap (λ fault. unless fault (graph_of (entries (tree_of graph)))) (no_calculator_fault graph sound)
    ∙ graph_given graph sound
