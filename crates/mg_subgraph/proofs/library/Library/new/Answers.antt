use Rattle.std.proofs.Common.{◌≡◌, ◌∙◌, ◌<◌, sym, ap, map, length, Some, rules, arith}
use Rattle.std.specs.Prelude.{slice_get, option_map}
use Rattle.mg_config.specs.Config.{graph_view}
use Rattle.mg_subgraph.specs.Refusals.{types_of}
use Rattle.mg_subgraph.specs.declared.fault.ExpandFault.TheVariants.{TypeTwice}
use Rattle.mg_subgraph.proofs.Indexed.{index_once, index_twice}
use Rattle.mg_subgraph.proofs.Steps.{got, got_map, got_within, length-map}
use Rattle.mg_subgraph.proofs.library.Library.new.Goals as goal

pub invariant_of-result : goal.invariant_of-result
invariant_of-result c =
    let texts = types_of (map graph_view c.args.files.now) in
    record {
      placed = c.in_ok-types.ensures;
      once = ap (option_map TypeTwice) (index_once c.in_ok-types.types texts c.in_ok-types.ensures c.in-None.ensures);
    }

pub bounds-files-i : goal.bounds-files-i
bounds-files-i c =
    let files = map graph_view c.args.files.now in
    let found = index_twice c.in_ok-types.types (types_of files) c.in-Some.i c.in_ok-types.ensures c.in-Some.ensures in
    let inside = got_within (types_of files) c.in-Some.i found.0 found.1 in
    omega (arith, length-map (λ file. file.type_name) files, length-map graph_view c.args.files.now)

pub offset_bounds-files-i : goal.offset_bounds-files-i
offset_bounds-files-i c =
    let files = map graph_view c.args.files.now in
    let found = index_twice c.in_ok-types.types (types_of files) c.in-Some.i c.in_ok-types.ensures c.in-Some.ensures in
    let inside = got_within (types_of files) c.in-Some.i found.0 found.1 in
    let inner : c.in-Some.i < length c.args.files.now = omega (arith, length-map (λ file. file.type_name) files, length-map graph_view c.args.files.now) in
    search rules

pub returns-clause-err : goal.returns-clause-err
returns-clause-err c = λ _.
    let files = map graph_view c.args.files.now in
    let found = index_twice c.in_ok-types.types (types_of files) c.in-Some.i c.in_ok-types.ensures c.in-Some.ensures in
    let inside = got_within (types_of files) c.in-Some.i found.0 found.1 in
    let inner : c.in-Some.i < length c.args.files.now = omega (arith, length-map (λ file. file.type_name) files, length-map graph_view c.args.files.now) in
    let file = c.index-files-i.result in
    let at : slice_get (types_of files) c.in-Some.i ≡ Some file.type_name =
    got_map (λ f. f.type_name) files c.in-Some.i (graph_view file) (got_map graph_view c.args.files.now c.in-Some.i file (got c.args.files.now c.in-Some.i file inner c.index-files-i.is)) in
    let both : Some found.0 ≡ Some file.type_name = sym found.1 ∙ at in
    let same : found.0 ≡ file.type_name = cc in
    ap (option_map TypeTwice) found.2 ∙ ap (λ name. Some (TypeTwice name)) (same ∙ (ap (λ f. f.type_name) c.index-files-i.is ∙ sym c.in_ok-try_clone-in-Some.ensures))
