use Rattle.std.proofs.Common.{◌≡◌, ◌+◌, drop, true, false, sym, ap₂, ◌∙◌, arith}
use Rattle.mg_names.specs.Ports.{has_port}
use Rattle.mg_names.proofs.Searched.{twins_here, twins_skip, twins_end}
use Rattle.mg_names.proofs.few.stands_twice.Goals as goal

pub returns-then-has_port : goal.returns-then-has_port
returns-then-has_port c =
    let port = c.index-ports-place.result in
    let rest : c.split_at.result.1.now ≡ drop (c.loop-place.place + 1) c.args.ports.now = grind arith in
    let again : has_port port.tag port.index (drop (c.loop-place.place + 1) c.args.ports.now) ≡ true =
    sym (ap₂ (λ tag behind. has_port tag port.index behind) c.as_bytes.ensures.bytes rest) ∙ (sym c.has_port.ensures ∙ c.if-has_port.true) in
    sym (c.loop-place.invariant ∙ twins_here c.args.ports.now c.loop-place.place port (omega arith) c.index-ports-place.is again)

pub loop-place-preserved : goal.loop-place-preserved
loop-place-preserved c =
    let port = c.index-ports-place.result in
    let rest : c.split_at.result.1.now ≡ drop (c.loop-place.place + 1) c.args.ports.now = grind arith in
    let none : has_port port.tag port.index (drop (c.loop-place.place + 1) c.args.ports.now) ≡ false =
    sym (ap₂ (λ tag behind. has_port tag port.index behind) c.as_bytes.ensures.bytes rest) ∙ (sym c.has_port.ensures ∙ c.if-has_port.false) in
    c.loop-place.invariant ∙ twins_skip c.args.ports.now c.loop-place.place port (omega arith) c.index-ports-place.is none

pub returns : goal.returns
returns c = sym (c.loop-place.invariant ∙ twins_end c.args.ports.now c.loop-place.place (omega arith))
