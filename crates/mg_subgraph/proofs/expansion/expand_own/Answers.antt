use Rattle.std.proofs.Common.{◌≡◌, map, Ok, sym, subst}
use Rattle.std.proofs.lemmas.Result.{IfOk-weaker}
use Rattle.std.specs.List.{All}
use Rattle.mg_config.specs.Config.{graph_view}
use Rattle.mg_config.specs.Sound.{IsSound, IsPrintable}
use Rattle.mg_config.specs.declared.graph.GraphConfig.{GraphConfig}
use Rattle.mg_subgraph.specs.Expansion.{expansion_of}
use Rattle.mg_subgraph.proofs.Kept.{sound_expansion, printable_expansion, all_files}
use Rattle.mg_subgraph.proofs.expansion.expand_own.Goals as goal

pub returns-clause-sound : goal.returns-clause-sound
returns-clause-sound c =
    let main = graph_view c.args.main in
    let files = c.in_ok-library.library.files.now in
    IfOk-weaker c.expand_own_in.result (λ graph. expansion_of main (map graph_view files) ≡ Ok (graph_view graph))
    (λ graph. IsSound main → All {X = GraphConfig} (λ file. IsSound (graph_view file)) c.args.library.now → IsSound (graph_view graph))
    (λ graph made known all.
    sound_expansion main (map graph_view files) (graph_view graph) made known
    (all_files IsSound graph_view files (subst (All {X = GraphConfig} (λ file. IsSound (graph_view file))) (sym c.in_ok-library.ensures.files) all)))
    c.expand_own_in.ensures.ok

pub returns-clause-printable : goal.returns-clause-printable
returns-clause-printable c =
    let main = graph_view c.args.main in
    let files = c.in_ok-library.library.files.now in
    IfOk-weaker c.expand_own_in.result (λ graph. expansion_of main (map graph_view files) ≡ Ok (graph_view graph))
    (λ graph. IsPrintable main → All {X = GraphConfig} (λ file. IsPrintable (graph_view file)) c.args.library.now → IsPrintable (graph_view graph))
    (λ graph made known all.
    printable_expansion main (map graph_view files) (graph_view graph) made known
    (all_files IsPrintable graph_view files (subst (All {X = GraphConfig} (λ file. IsPrintable (graph_view file))) (sym c.in_ok-library.ensures.files) all)))
    c.expand_own_in.ensures.ok
