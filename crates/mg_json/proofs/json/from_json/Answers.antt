use Rattle.std.proofs.Common.{sym, ap, ◌∙◌, arith}
use Rattle.mg_value.specs.Plain.{depth}
use Rattle.mg_value.specs.Payload.{plain}
use Rattle.mg_json.specs.Json.{faults_at}
use Rattle.mg_json.proofs.RoundTrip.{same_payload, within_levels}
use Rattle.mg_json.proofs.json.from_json.Goals as goal

pub returns-clause-only : goal.returns-clause-only
returns-clause-only c = λ q e. same_payload q (plain c.in_ok-payload.payload) (e ∙ sym c.in_ok-payload.ensures.says) ∙ ap plain (sym c.in_ok-new.ensures.ok)

pub returns-clause-nesting : goal.returns-clause-nesting
returns-clause-nesting c =
    let none = ap (faults_at 1) c.in_ok-payload.ensures.says ∙ c.in_ok-payload.ensures.clear in
    let at = within_levels 1 (plain c.in_ok-payload.payload) (omega arith) none in
    let shared = ap (λ p. depth (plain p)) c.in_ok-new.ensures.ok in
    omega (arith, at, shared)
