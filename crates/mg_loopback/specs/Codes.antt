-- How the logic stores what a loopback holds.
use Rattle.std.specs.Prelude.{ℕ, Option, refl}
use Rattle.std.specs.Coded.{Coded, code_by, coded×, coded_ℕ, coded_option}
use Rattle.mg_value.specs.Payload.{Plain}
use Rattle.mg_stream.specs.Queue.{Waiting}
use Rattle.mg_stream.specs.Codes.{waiting_code}
use Rattle.mg_loopback.specs.Loopback.{Held}

abbrev pub held_code : Coded (Held Plain)
held_code =
    code_by (Waiting Plain × (Waiting Plain × Option ℕ)) (coded× waiting_code (coded× waiting_code (coded_option coded_ℕ)))
    (λ h. (h.loop, (h.main, h.previous))) (λ p. record { loop = p.0; main = p.1.0; previous = p.1.1 }) (λ _. refl)
