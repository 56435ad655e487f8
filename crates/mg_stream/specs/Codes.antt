-- How the logic stores a queue.
use Rattle.std.specs.Prelude.{ℕ, List, refl}
use Rattle.std.specs.Coded.{Coded, code_by, coded×, coded_ℕ, coded_list}
use Rattle.mg_value.specs.Payload.{Plain}
use Rattle.mg_value.specs.Packet.{Stamped}
use Rattle.mg_value.specs.Codes.{packet_code}
use Rattle.mg_stream.specs.Queue.{Waiting}

abbrev pub waiting_code : Coded (Waiting Plain)
waiting_code =
    code_by (ℕ × (List (Stamped Plain) × (ℕ × ℕ))) (coded× coded_ℕ (coded× (coded_list packet_code) (coded× coded_ℕ coded_ℕ)))
    (λ q. (q.gone, (q.packets, (q.bound, q.spare)))) (λ p. record { gone = p.0; packets = p.1.0; bound = p.1.1.0; spare = p.1.1.1 }) (λ _. refl)
