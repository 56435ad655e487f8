use Rattle.std.proofs.Common.{◌≡◌, ◌∙◌, sym, ap, Some, None}
use Rattle.std.specs.Prelude.{position, option_map}
use Rattle.mg_names.specs.Ports.{is_at}
use Rattle.mg_subgraph.proofs.Indexed.{place_found, place_none}
use Rattle.mg_subgraph.proofs.renaming.name_at.Goals as goal

pub returns-in-None : goal.returns-in-None
returns-in-None c =
    let port = c.args.port.now in
    let none : position (is_at port.tag port.index) c.args.given.now ≡ None = ap (λ tag. position (is_at tag port.index) c.args.given.now) (sym c.as_bytes.ensures.bytes) ∙ sym c.in-None.ensures in
    sym (ap (option_map (λ outer. outer.name)) (place_none (is_at port.tag port.index) c.args.given.now none))

pub returns-in-None-get : goal.returns-in-None-get
returns-in-None-get c =
    let port = c.args.port.now in
    let some : position (is_at port.tag port.index) c.args.given.now ≡ Some c.in-Some.i = ap (λ tag. position (is_at tag port.index) c.args.given.now) (sym c.as_bytes.ensures.bytes) ∙ sym c.in-Some.ensures in
    let here = place_found (is_at port.tag port.index) c.args.given.now c.in-Some.i some in
    let clash : None ≡ Some here.0 = c.in-None-get.ensures ∙ here.1 in
    cc

pub returns-in-Some-get : goal.returns-in-Some-get
returns-in-Some-get c =
    let port = c.args.port.now in
    let some : position (is_at port.tag port.index) c.args.given.now ≡ Some c.in-Some.i = ap (λ tag. position (is_at tag port.index) c.args.given.now) (sym c.as_bytes.ensures.bytes) ∙ sym c.in-Some.ensures in
    let here = place_found (is_at port.tag port.index) c.args.given.now c.in-Some.i some in
    ap (option_map (λ outer. outer.name)) (c.in-Some-get.ensures ∙ (here.1 ∙ sym here.2))
