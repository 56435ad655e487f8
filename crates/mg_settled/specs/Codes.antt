-- How the logic stores input sets, sets with their times, and prefixes.
use Rattle.std.proofs.Common.{ℕ, List, Option, refl}
use Rattle.std.specs.Coded.{Coded, code_by, coded×, coded_ℕ, coded_list, coded_option}
use Rattle.mg_value.specs.Payload.{Plain}
use Rattle.mg_value.specs.Packet.{Stamped}
use Rattle.mg_value.specs.Codes.{packet_code}
use Rattle.mg_settled.specs.Prefix.{StreamPrefix}
use Rattle.mg_settled.specs.Settled.{TimedSet}

-- the codes of an input set, of a set with its time, and of a prefix
abbrev pub set_code : Coded (List (Option (Stamped Plain)))
set_code = coded_list (coded_option packet_code)

abbrev pub timed_set_code : Coded (TimedSet Plain)
timed_set_code =
    code_by (ℕ × List (Option (Stamped Plain))) (coded× coded_ℕ set_code) (λ e. (e.at, e.set)) (λ p. record { at = p.0; set = p.1 }) (λ _. refl)

abbrev pub plain_prefix_code : Coded (StreamPrefix Plain)
plain_prefix_code =
    code_by (List (Stamped Plain) × ℕ) (coded× (coded_list packet_code) coded_ℕ)
    (λ s. (s.packets, s.bound)) (λ p. record { packets = p.0; bound = p.1 }) (λ _. refl)
