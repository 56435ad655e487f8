use Rattle.std.proofs.Common.{◌≡◌, ◌∙◌, set, sym, ap, ap₂, subst}
use Rattle.std.proofs.lemmas.List.{get_or_default}
use Rattle.std.proofs.lemmas.Result.{IfOk-weaker, on_ok_weaker}
use Rattle.mg_value.specs.Payload.{Plain}
use Rattle.mg_settled.specs.Prefix.{StreamPrefix, empty_prefix}
use Rattle.mg_settled.specs.Extension.{IsExtendedBy}
use Rattle.mg_calc.specs.Equations.{stream_of}
use Rattle.mg_equations.specs.Code.Changes.{is_changed}
use Rattle.mg_equations.specs.Code.Growing.{given_streams}
use Rattle.mg_equations.proofs.DueSteps.{given_there}
use Rattle.mg_equations.proofs.round.grow_one.Goals as goal

pub latest-later-requires : goal.latest-later-requires
latest-later-requires c = (stream_of (given_streams c.args.inputs.now c.args.nodes.now) c.args.number, given_there c.args.plan.now c.args.inputs.now c.args.nodes.now c.args.number c.index-as_slice-place.result c.as_slice.result.now c.requires.known c.as_slice.ensures c.requires.given)

pub grow-requires : goal.grow-requires
grow-requires c =
    let was : stream_of c.args.streams.now.items c.args.number ≡ c.index_mut.result.now = get_or_default c.args.streams.now.items c.args.number empty_prefix c.index_mut.result.now c.requires.below ∙ sym c.index_mut.ensures.value in
    let is : c.latest-later.result ≡ stream_of (given_streams c.args.inputs.now c.args.nodes.now) c.args.number = c.latest-later.ensures (stream_of (given_streams c.args.inputs.now c.args.nodes.now) c.args.number) (given_there c.args.plan.now c.args.inputs.now c.args.nodes.now c.args.number c.index-as_slice-place.result c.as_slice.result.now c.requires.known c.as_slice.ensures c.requires.given) in
    subst (IsExtendedBy c.index_mut.result.now) (sym is) (subst (λ (x : StreamPrefix Plain). IsExtendedBy x (stream_of (given_streams c.args.inputs.now c.args.nodes.now) c.args.number)) was c.requires.extends)

pub returns-clause-streams : goal.returns-clause-streams
returns-clause-streams c =
    let is : c.latest-later.result ≡ stream_of (given_streams c.args.inputs.now c.args.nodes.now) c.args.number = c.latest-later.ensures (stream_of (given_streams c.args.inputs.now c.args.nodes.now) c.args.number) (given_there c.args.plan.now c.args.inputs.now c.args.nodes.now c.args.number c.index-as_slice-place.result c.as_slice.result.now c.requires.known c.as_slice.ensures c.requires.given) in
    on_ok_weaker c.grow.result (λ e. ap (λ (x : StreamPrefix Plain). set c.args.streams.now.items c.args.number x) (e ∙ is)) c.grow.ensures.stream

pub returns-clause-change : goal.returns-clause-change
returns-clause-change c =
    let was : c.index_mut.result.now ≡ stream_of c.args.streams.now.items c.args.number = c.index_mut.ensures.value ∙ get_or_default c.args.streams.now.items c.args.number c.index_mut.result.now empty_prefix c.requires.below in
    let is : c.latest-later.result ≡ stream_of (given_streams c.args.inputs.now c.args.nodes.now) c.args.number = c.latest-later.ensures (stream_of (given_streams c.args.inputs.now c.args.nodes.now) c.args.number) (given_there c.args.plan.now c.args.inputs.now c.args.nodes.now c.args.number c.index-as_slice-place.result c.as_slice.result.now c.requires.known c.as_slice.ensures c.requires.given) in
    IfOk-weaker c.grow.result _ _ (λ change e. e ∙ ap₂ (λ (x y : StreamPrefix Plain). is_changed x y) was is) c.grow.ensures.change
