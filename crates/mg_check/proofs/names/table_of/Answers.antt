use Rattle.std.proofs.Common.{◌≡◌, refl, take, subst, arith}
use Rattle.std.proofs.lemmas.List.{take_all, length-map}
use Rattle.mg_index.specs.Tables.{IsTable}
use Rattle.mg_kinds.specs.Kinds.{names_of}
use Rattle.mg_index.specs.Places.{is_text}
use Rattle.mg_check.proofs.Placed.{table_more}
use Rattle.mg_check.proofs.names.table_of.Goals as goal

pub loop-place-init : goal.loop-place-init
loop-place-init c = c.new-table.ensures is_text

pub loop-place-preserved : goal.loop-place-preserved
loop-place-preserved c =
    table_more c.loop-place.table c.insert.new.self c.args.texts.now c.loop-place.place _ c.loop-place-test.true (λ all count known. c.in_ok-insert.ensures is_text all refl count known) c.loop-place.invariant

pub returns : goal.returns
returns c =
    let texts = c.args.texts.now in
    let names = names_of texts in
    let whole : take c.loop-place.place names ≡ names = take_all c.loop-place.place names (omega (arith, length-map texts (λ n. n.now), c.loop-place-test.false)) in
    subst (IsTable is_text c.loop-place.table) whole c.loop-place.invariant
