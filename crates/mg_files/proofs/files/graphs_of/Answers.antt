use Rattle.std.proofs.Common.{◌<◌, ℕ, List, length, map, subst, arith}
use Rattle.std.proofs.lemmas.Result.{err_from_is_err_and}
use Rattle.mg_config.specs.Config.{graph_view}
use Rattle.mg_subgraph.proofs.Steps.{got}
use Rattle.mg_files.specs.File.{graph, IsFile}
use Rattle.mg_files.specs.Reads.{IsNotedOf}
use Rattle.mg_files.proofs.Together.{noted-at, graphs-step}
use Rattle.mg_files.proofs.files.graphs_of.Goals as goal

pub returns-in_err-graph-clause-refused : goal.returns-in_err-graph-clause-refused
returns-in_err-graph-clause-refused c =
    let names = c.args.names.now in
    let contents = c.args.contents.now in
    let i = c.loop-place.place in
    let name = c.index-names-place.result in
    let content = c.index-contents-place.result in
    let fault = c.in_err-graph.field-0.0 in
    let inside : i < length contents = omega (arith, c.requires.each, c.loop-place-test.true) in
    let noted : IsNotedOf fault name content.items =
    subst (λ (n : List ℕ). IsNotedOf fault n content.items) c.as_str.ensures
    (subst (λ (b : List ℕ). IsNotedOf fault c.as_str.result.now b) c.deref.ensures.value c.in_err-graph.ensures.refused) in
    let p = err_from_is_err_and c.from_residual.result c.from_residual.ensures.1 in
    rw (p.1, p.2)
    (noted-at fault names contents i name content (map graph_view c.loop-place.graphs.items) (got names i name c.loop-place-test.true c.index-names-place.is)
    (got contents i content inside c.index-contents-place.is) c.loop-place.invariant noted)

pub loop-place-preserved : goal.loop-place-preserved
loop-place-preserved c =
    let contents = c.args.contents.now in
    let i = c.loop-place.place in
    let content = c.index-contents-place.result in
    let config = c.in_ok-graph.graph in
    let inside : i < length contents = omega (arith, c.requires.each, c.loop-place-test.true) in
    graphs-step contents i content c.loop-place.graphs.items c.push.new.self.items config inside c.index-contents-place.is c.in_ok-push.ensures.items c.loop-place.invariant
    (subst (λ (b : List ℕ). IsFile b (graph (graph_view config))) c.deref.ensures.value c.in_ok-graph.ensures.graph)
