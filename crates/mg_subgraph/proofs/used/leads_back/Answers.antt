use Rattle.std.proofs.Common.{◌≡◌, ◌∙◌, sym, map, Some, arith, ℕ, List, subst}
use Rattle.std.specs.Prelude.{slice_get}
use Rattle.mg_subgraph.specs.Code.Places.{AreWithin, IsReach}
use Rattle.mg_subgraph.proofs.Steps.{got, got_map, flag_read}
use Rattle.mg_subgraph.proofs.used.leads_back.Goals as goal

pub reach-requires-clause-start : goal.reach-requires-clause-start
reach-requires-clause-start c =
    let list = c.index-links-place.result in
    let links = map (λ v. v.items) c.args.links.now in
    let at : slice_get links c.args.place ≡ Some list.items = got_map (λ v. v.items) c.args.links.now c.args.place list (got c.args.links.now c.args.place list c.requires.place c.index-links-place.is) in
    subst (AreWithin links) (sym c.as_slice.ensures.value) (c.requires.links c.args.place list.items at)

pub returns : goal.returns
returns c = λ other at_other.
    let list = c.index-links-place.result in
    let links = map (λ v. v.items) c.args.links.now in
    let at : slice_get links c.args.place ≡ Some list.items = got_map (λ v. v.items) c.args.links.now c.args.place list (got c.args.links.now c.args.place list c.requires.place c.index-links-place.is) in
    let lists : Some list.items ≡ Some other = sym at ∙ at_other in
    let same : list.items ≡ other = cc in
    let flags = c.in_ok-flags.flags.items in
    let P : List ℕ → Type 0 = λ start. IsReach links start flags in
    (flags, subst P (c.as_slice.ensures.value ∙ same) c.in_ok-flags.ensures.reach, flag_read flags c.args.place c.index.result.now (omega (arith, c.in_ok-flags.ensures.len, c.requires.place)) c.index.ensures)
