-- How the logic stores a pool.
use Rattle.std.specs.Prelude.{ℕ, List, refl}
use Rattle.std.specs.Coded.{Coded, code_by, coded×, coded_ℕ, coded_list}
use Rattle.mg_value.specs.Payload.{Plain}
use Rattle.mg_value.specs.Packet.{Stamped}
use Rattle.mg_value.specs.Codes.{packet_code}
use Rattle.mg_stream.specs.Pool.{Backlog, Pooled}

abbrev pub backlog_code : Coded (Backlog Plain)
backlog_code =
    code_by (ℕ × (List (Stamped Plain) × ℕ)) (coded× coded_ℕ (coded× (coded_list packet_code) coded_ℕ))
    (λ b. (b.gone, (b.packets, b.bound))) (λ p. record { gone = p.0; packets = p.1.0; bound = p.1.1 }) (λ _. refl)

abbrev pub pool_code : Coded (Pooled Plain)
pool_code =
    code_by (List (Backlog Plain) × ℕ) (coded× (coded_list backlog_code) coded_ℕ)
    (λ p. (p.ports, p.spare)) (λ p. record { ports = p.0; spare = p.1 }) (λ _. refl)
