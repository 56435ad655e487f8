use Rattle.std.proofs.Common.{◌≡◌, ◌∙◌, [], List, ℕ, Ok, ap, sym, length}
use Rattle.std.proofs.lemmas.Result.{err_from_is_err_and}
use Rattle.mg_names.specs.Ports.{placed_at, port_at, ports_after}
use Rattle.mg_names.proofs.Counting.{ports_next, ports_stop, counted_more}
use Rattle.mg_names.proofs.port_reader.PortReader.read.Goals as goal

pub returns-in_err-port-clause-err : goal.returns-in_err-port-clause-err
returns-in_err-port-clause-err c =
    let p = err_from_is_err_and c.from_residual.result c.from_residual.ensures.1 in
    rw (p.1, p.2) (λ ne texts more before. ports_stop texts more c.args.text.now c.self.inside.made.items (length c.as_slice-place.result.now) c.self.inside.untagged c.in_err-port.field-0.0
    c.self.invariant (ap length c.as_slice-place.ensures.value)
    (ap (λ t. placed_at (length c.as_slice-place.result.now) (port_at c.self.inside.untagged t)) (sym c.as_bytes.ensures.value) ∙ c.in_err-port.ensures.err ne)
    (before ∙ ap Ok (sym c.self.view_is)))

pub invariant_of-self-2 : goal.invariant_of-self-2
invariant_of-self-2 c =
    counted_more c.self.inside.made.items c.push.new.self.items c.in_ok-port.port c.self.inside.untagged c.count_after-untagged.result c.self.invariant c.in_ok-push.ensures.items c.count_after-untagged.ensures

pub returns-clause-ok : goal.returns-clause-ok
returns-clause-ok c = λ texts before.
    ports_next texts c.args.text.now c.self.inside.made.items c.push.new.self.items c.self.inside.untagged c.in_ok-port.port c.self.invariant
    (ap (port_at c.self.inside.untagged) (sym c.as_bytes.ensures.value) ∙ c.in_ok-port.ensures.ok) c.in_ok-push.ensures.items (before ∙ ap Ok (sym c.self.view_is))
