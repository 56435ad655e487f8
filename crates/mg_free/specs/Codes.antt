-- How the logic stores the state of a free node.
use Rattle.std.specs.Prelude.{ℕ, refl}
use Rattle.std.specs.Coded.{Coded, code_by, coded×, coded_ℕ}
use Rattle.mg_value.specs.Payload.{Plain}
use Rattle.mg_settled.specs.Prefix.{StreamPrefix}
use Rattle.mg_settled.specs.Codes.{plain_prefix_code}
use Rattle.mg_free.specs.declared.law.FreeLaw.{FreeLaw}
use Rattle.mg_free.specs.contracts.law.FreeLaw as law
use Rattle.mg_free.specs.Free.{FreeStanding}

abbrev pub standing_code : Coded FreeStanding
standing_code =
    code_by (FreeLaw × (StreamPrefix Plain × (ℕ × ℕ))) (coded× law.the_row.coded (coded× plain_prefix_code (coded× coded_ℕ coded_ℕ)))
    (λ s. (s.law, (s.rest.piece, (s.rest.handed, s.rest.in_flight)))) (λ p. record { law = p.0; rest = record { piece = p.1.0; handed = p.1.1.0; in_flight = p.1.1.1 } }) (λ _. refl)
