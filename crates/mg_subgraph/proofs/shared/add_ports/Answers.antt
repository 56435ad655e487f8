use Rattle.std.proofs.Common.{◌≡◌, ◌<◌, ◌+◌, ◌++◌, ◌∷◌, ◌∙◌, [], sym, ap, take, length, length-append, length-take-le, append_assoc, subst, arith, Some, List, ℕ}
use Rattle.std.specs.Prelude.{slice_get}
use Rattle.std.proofs.lemmas.List.{take_all}
use Rattle.mg_subgraph.specs.Code.Index.{IsIndex}
use Rattle.mg_subgraph.specs.Refusals.{port_names}
use Rattle.mg_subgraph.proofs.Reached.{take_next}
use Rattle.mg_subgraph.proofs.Steps.{got_map, length-map, nothing_more}
use Rattle.mg_subgraph.proofs.shared.add_ports.Goals as goal

pub loop-i-init : goal.loop-i-init
loop-i-init c = λ texts count known. subst (IsIndex c.args.table.now) (sym (nothing_more texts)) known

pub loop-i-preserved : goal.loop-i-preserved
loop-i-preserved c = λ texts count known.
    let i = c.loop-i.i in
    let ports = c.args.ports.now in
    let names = port_names ports in
    let port = c.in-Some.port.now in
    let ended = c.len-i-end.ensures in
    let test = c.loop-i-test.true in
    let inside : i < length ports = omega arith in
    let at : slice_get names i ≡ Some port.name = got_map (λ p. p.name) ports i port (sym c.in-Some.ensures) in
    let front : length (take i names) ≡ i = length-take-le i names (omega (arith, length-map (λ p. p.name) ports)) in
    let long : length (texts ++ take i names) ≡ c.args.from + i = omega (arith, length-append texts (take i names), count, front) in
    let step = c.in_ok-add_text.ensures (texts ++ take i names) long (c.loop-i.invariant texts count known) in
    let P : List (List ℕ) → Type 0 = λ l. IsIndex c.add_text.new.table l in
    subst P (append_assoc texts (take i names) (port.name ∷ []) ∙ ap (λ l. texts ++ l) (sym (take_next names i port.name at)))
    (subst (λ t. IsIndex c.add_text.new.table ((texts ++ take i names) ++ t ∷ [])) c.as_str.ensures step)

pub returns : goal.returns
returns c = λ texts count known.
    let names = port_names c.args.ports.now in
    let whole : take c.loop-i.i names ≡ names = take_all c.loop-i.i names (omega (arith, length-map (λ p. p.name) c.args.ports.now, c.loop-i-test.false)) in
    subst (λ l. IsIndex c.loop-i.table (texts ++ l)) whole (c.loop-i.invariant texts count known)
