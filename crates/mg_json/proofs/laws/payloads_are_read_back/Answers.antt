use Rattle.std.proofs.Common.{ap, arith}
use Rattle.mg_json.specs.Json.{first}
use Rattle.mg_json.proofs.RoundTrip.{payload_at, same_payload}
use Rattle.mg_json.proofs.laws.payloads_are_read_back.Goals as goal

pub returns-clause-faultless : goal.returns-clause-faultless
returns-clause-faultless c = λ p fit low. ap first ((payload_at 1 p (omega arith) fit).none (omega (arith, low)))

pub returns-clause-one : goal.returns-clause-one
returns-clause-one c = λ p q e. same_payload q p e
