use Rattle.std.proofs.Common.{◌≡◌, ◌<◌, ◌++◌, ◌∷◌, ◌∙◌, [], sym, ap, map, take, length, length-take-le, subst, arith, Some}
use Rattle.std.specs.Prelude.{slice_get}
use Rattle.std.proofs.lemmas.List.{take_all}
use Rattle.mg_config.specs.Config.{graph_view}
use Rattle.mg_subgraph.specs.Code.Index.{is_name, IsIndex}
use Rattle.mg_subgraph.specs.Refusals.{types_of}
use Rattle.mg_subgraph.proofs.Reached.{take_next}
use Rattle.mg_subgraph.proofs.Steps.{got, got_map, length-map}
use Rattle.mg_subgraph.proofs.library.index_of.Goals as goal

pub loop-i-init : goal.loop-i-init
loop-i-init c = c.new-types.ensures is_name

pub loop-i-preserved : goal.loop-i-preserved
loop-i-preserved c =
    let files = c.args.files.now in
    let texts = types_of (map graph_view files) in
    let i = c.loop-i.i in
    let file = c.index-files-i.result in
    let inside : i < length files = c.loop-i-test.true in
    let at : slice_get texts i ≡ Some file.type_name = got_map (λ f. f.type_name) (map graph_view files) i (graph_view file) (got_map graph_view files i file (got files i file inside c.index-files-i.is)) in
    let long : length (take i texts) ≡ i = length-take-le i texts (omega (arith, length-map (λ f. f.type_name) (map graph_view files), length-map graph_view files)) in
    let step = c.in_ok-add_text.ensures (take i texts) long c.loop-i.invariant in
    let text : c.as_str.result.now ≡ file.type_name = c.as_str.ensures ∙ sym (ap (λ f. f.type_name) c.index-files-i.is) in
    subst (IsIndex c.add_text.new.table) (sym (take_next texts i file.type_name at)) (subst (λ t. IsIndex c.add_text.new.table (take i texts ++ t ∷ [])) text step)

pub returns : goal.returns
returns c =
    let files = c.args.files.now in
    let texts = types_of (map graph_view files) in
    let whole : take c.loop-i.i texts ≡ texts = take_all c.loop-i.i texts (omega (arith, length-map (λ f. f.type_name) (map graph_view files), length-map graph_view files, c.loop-i-test.false)) in
    subst (IsIndex c.loop-i.types) whole c.loop-i.invariant
