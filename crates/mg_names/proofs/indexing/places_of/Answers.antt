use Rattle.std.proofs.Common.{◌≡◌, ◌∙◌, sym, ap, arith, is_some, true, false, refl, ℕ, List, Some, if◌then◌else◌, ◌&&◌, ◌==◌}
use Rattle.std.specs.Str.{bytes_eq}
use Rattle.mg_names.specs.Code.Places.{kept_place}
use Rattle.mg_names.proofs.Standing.{table_more, table_twice}
use Rattle.mg_names.proofs.indexing.places_of.Goals as goal

pub returns-then-is_some-clause-twice : goal.returns-then-is_some-clause-twice
returns-then-is_some-clause-twice c =
    let port = c.index-ports-place.result in
    let got : c.get.result ≡ kept_place c.loop-place.places port.tag port.index = c.get.ensures ∙ ap (λ tag. kept_place c.loop-place.places tag port.index) c.as_bytes-tag.ensures.bytes in
    let some : is_some (kept_place c.loop-place.places port.tag port.index) ≡ true = ap is_some (sym got) ∙ (sym c.is_some.ensures ∙ c.if-is_some.true) in
    λ _. (refl, table_twice c.args.ports.now c.loop-place.place port c.loop-place.places (omega arith) c.index-ports-place.is c.loop-place.invariant some)

pub loop-place-preserved : goal.loop-place-preserved
loop-place-preserved c =
    let port = c.index-ports-place.result in
    let got : c.get.result ≡ kept_place c.loop-place.places port.tag port.index = c.get.ensures ∙ ap (λ tag. kept_place c.loop-place.places tag port.index) c.as_bytes-tag.ensures.bytes in
    let none : is_some (kept_place c.loop-place.places port.tag port.index) ≡ false = ap is_some (sym got) ∙ (sym c.is_some.ensures ∙ c.if-is_some.false) in
    let put : (tag : List ℕ) (index : ℕ) → kept_place c.put.new.self tag index ≡ (if bytes_eq tag port.tag && index == port.index then Some c.loop-place.place else kept_place c.loop-place.places tag index) =
    λ tag index. c.in_ok-put.ensures tag index ∙ ap (λ t. if bytes_eq tag t && index == port.index then Some c.loop-place.place else kept_place c.loop-place.places tag index) c.as_bytes-tag.ensures.bytes in
    table_more c.args.ports.now c.loop-place.place port c.loop-place.places c.put.new.self (omega arith) c.index-ports-place.is c.loop-place.invariant none put
