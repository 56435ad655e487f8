use Rattle.std.proofs.Common.{◌≡◌, ◌∙◌, sym, ap, map, Some, true, false, arith}
use Rattle.std.specs.Prelude.{option_copied, option_map}
use Rattle.std.specs.Option.{option_or}
use Rattle.std.specs.List.{list_any}
use Rattle.std.proofs.lemmas.Bool.Decides.{nat_tests}
use Rattle.mg_config.specs.Config.{node_view, graph_view}
use Rattle.mg_subgraph.specs.Code.Judged.{reserved_in_graph}
use Rattle.mg_subgraph.specs.Library.{is_subgraph, used_files}
use Rattle.mg_subgraph.specs.Refusals.{first_some}
use Rattle.mg_subgraph.specs.declared.fault.ExpandFault.TheVariants.{ReservedName}
use Rattle.mg_subgraph.proofs.Looked.{copied_or, any_mapped, reserved_none, reserved_by}
use Rattle.mg_subgraph.proofs.reserved.check_reserved.Goals as goal

pub returns-then-not-has_subgraph-clause-ok : goal.returns-then-not-has_subgraph-clause-ok
returns-then-not-has_subgraph-clause-ok c =
    let library = map graph_view c.args.library.now.files.now in
    let main = graph_view c.args.main.now in
    let none : c.has_subgraph.result ≡ false = grind (arith, nat_tests) in
    reserved_none main library
    (sym (any_mapped (is_subgraph library) node_view c.args.main.now.nodes) ∙ (ap (list_any (λ node. is_subgraph library (node_view node))) (sym c.as_slice.ensures) ∙ (sym c.has_subgraph.ensures ∙ none)))

pub returns-in-None-clause-ok : goal.returns-in-None-clause-ok
returns-in-None-clause-ok c =
    let library = map graph_view c.args.library.now.files.now in
    let main = graph_view c.args.main.now in
    let some : c.has_subgraph.result ≡ true = grind (arith, nat_tests) in
    let any = sym (any_mapped (is_subgraph library) node_view c.args.main.now.nodes) ∙ (ap (list_any (λ node. is_subgraph library (node_view node))) (sym c.as_slice.ensures) ∙ (sym c.has_subgraph.ensures ∙ some)) in
    let copied : option_copied c.or.result ≡ option_or (reserved_in_graph main) (first_some reserved_in_graph (used_files main library)) =
    ap option_copied c.or.ensures
    ∙ (copied_or c.reserved_in_graph.result c.reserved_in_files.result
    ∙ (ap (λ o. option_or o (option_copied c.reserved_in_files.result)) c.reserved_in_graph.ensures
    ∙ ap (λ o. option_or (reserved_in_graph main) o) (c.reserved_in_files.ensures ∙ ap (first_some reserved_in_graph) c.requires.used))) in
    reserved_by main library any ∙ ap (option_map ReservedName) (sym copied ∙ ap option_copied c.in-None.is)

pub returns-in_ok-try_clone-in-Some-clause-err : goal.returns-in_ok-try_clone-in-Some-clause-err
returns-in_ok-try_clone-in-Some-clause-err c = λ _.
    let library = map graph_view c.args.library.now.files.now in
    let main = graph_view c.args.main.now in
    let some : c.has_subgraph.result ≡ true = grind (arith, nat_tests) in
    let any = sym (any_mapped (is_subgraph library) node_view c.args.main.now.nodes) ∙ (ap (list_any (λ node. is_subgraph library (node_view node))) (sym c.as_slice.ensures) ∙ (sym c.has_subgraph.ensures ∙ some)) in
    let copied : option_copied c.or.result ≡ option_or (reserved_in_graph main) (first_some reserved_in_graph (used_files main library)) =
    ap option_copied c.or.ensures
    ∙ (copied_or c.reserved_in_graph.result c.reserved_in_files.result
    ∙ (ap (λ o. option_or o (option_copied c.reserved_in_files.result)) c.reserved_in_graph.ensures
    ∙ ap (λ o. option_or (reserved_in_graph main) o) (c.reserved_in_files.ensures ∙ ap (first_some reserved_in_graph) c.requires.used))) in
    reserved_by main library any ∙ ap (option_map ReservedName) (sym copied ∙ (ap option_copied c.in-Some.is ∙ ap Some (sym c.in_ok-try_clone-in-Some.ensures)))
