use Rattle.std.proofs.Common.{ap, ◌∙◌, arith}
use Rattle.serde_json.specs.Written.{has_float}
use Rattle.mg_value.specs.Payload.{plain}
use Rattle.mg_json.specs.Json.{first, first_fault}
use Rattle.mg_json.proofs.RoundTrip.{payload_at, whole_numbers}
use Rattle.mg_json.proofs.json.to_json.Goals as goal

pub returns-clause-taken_back : goal.returns-clause-taken_back
returns-clause-taken_back c =
    λ low. ap first_fault c.in_ok-write.ensures.says ∙ ap first ((payload_at 1 (plain c.args.payload.now) (omega arith) c.in_ok-write.ensures.fit).none (omega arith))

pub returns-clause-too_deep : goal.returns-clause-too_deep
returns-clause-too_deep c =
    λ high. ap first_fault c.in_ok-write.ensures.says ∙ (payload_at 1 (plain c.args.payload.now) (omega arith) c.in_ok-write.ensures.fit).deeper (omega arith)

pub returns-clause-whole_numbers : goal.returns-clause-whole_numbers
returns-clause-whole_numbers c = ap has_float c.in_ok-write.ensures.says ∙ whole_numbers (plain c.args.payload.now)
