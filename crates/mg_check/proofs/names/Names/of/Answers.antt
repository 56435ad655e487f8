use Rattle.std.proofs.Common.{◌<◌, sym, length, arith, rules}
use Rattle.std.proofs.lemmas.List.{length-map}
use Rattle.mg_kinds.specs.Kinds.{names_of}
use Rattle.mg_check.proofs.Placed.{again_within, again_refused, again_none, names_kept, own_table}
use Rattle.mg_check.proofs.names.Names.of.Goals as goal

pub bounds-texts-place : goal.bounds-texts-place
bounds-texts-place c =
    let texts = c.args.texts.now in
    let inside = again_within c.in_ok-table.table (names_of texts) c.in-Some.place c.in_ok-table.ensures c.in-Some.ensures in
    omega (arith, length-map texts (λ n. n.now))

pub offset_bounds-texts-place : goal.offset_bounds-texts-place
offset_bounds-texts-place c =
    let texts = c.args.texts.now in
    let inside = again_within c.in_ok-table.table (names_of texts) c.in-Some.place c.in_ok-table.ensures c.in-Some.ensures in
    let inner : c.in-Some.place < length texts = omega (arith, length-map texts (λ n. n.now)) in
    search rules

pub returns-in-Some-clause-err : goal.returns-in-Some-clause-err
returns-in-Some-clause-err c = λ _.
    let texts = c.args.texts.now in
    let inside = again_within c.in_ok-table.table (names_of texts) c.in-Some.place c.in_ok-table.ensures c.in-Some.ensures in
    let inner : c.in-Some.place < length texts = omega (arith, length-map texts (λ n. n.now)) in
    again_refused c.in_ok-table.table texts c.in-Some.place _ _ inner c.in_ok-table.ensures c.in-Some.ensures c.in_ok-new-in-Some.ensures

pub invariant_of-result : goal.invariant_of-result
invariant_of-result c =
    let len = c.len.ensures in
    let few = c.if-len-gt-MOST_NAMES.false in
    (omega arith, own_table c.in_ok-table.table (names_of c.args.texts.now) c.in_ok-table.ensures (sym c.in-None.ensures))

pub returns-clause-ok : goal.returns-clause-ok
returns-clause-ok c = names_kept c.in_ok-table.table (names_of c.args.texts.now) c.in_ok-table.ensures (sym c.in-None.ensures)

pub returns-clause-once : goal.returns-clause-once
returns-clause-once c = again_none c.in_ok-table.table (names_of c.args.texts.now) c.in_ok-table.ensures (sym c.in-None.ensures)
