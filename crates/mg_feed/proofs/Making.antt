-- Packets that are made.
use Rattle.std.proofs.Common.{◌≡◌, ◌+◌, ◌*◌, ◌/◌, ◌%◌, ◌^◌, ℕ, zero, suc, List, [], ◌∷◌, length, get_or, slice_get, unwrap_or, refl, sym, ap, ◌∙◌, arith}
use Rattle.mg_value.specs.Payload.{Plain}
use Rattle.mg_value.specs.Packet.{Stamped}
use Rattle.mg_settled.specs.Prefix.{StreamPrefix, appended}
use Rattle.mg_feed.specs.Accepted.{stepped}
use Rattle.mg_value.specs.declared.kind.Kind.{Kind}
use Rattle.mg_value.specs.declared.kind.Kind.TheVariants.{Any}
use Rattle.mg_feed.specs.Generated.{generated_value, generated_packet, generated_streams}

kind-at : (kinds : List Kind) (i : ℕ) → unwrap_or (slice_get kinds i) Any ≡ get_or kinds i Any
kind-at [] i = refl
kind-at (k ∷ kinds) zero = refl
kind-at (k ∷ kinds) (suc i) = kind-at kinds i

pub made : (kinds : List Kind) (i : ℕ) (kind : Kind) (p : Stamped Plain) → kind ≡ unwrap_or (slice_get kinds (i % length kinds)) Any
    → p ≡ record { at = 10 * (i / length kinds) + 2 ^ 63; value = generated_value kind i (i / length kinds) } → p ≡ generated_packet kinds i
made kinds i kind p is packet =
    packet ∙ ap (λ (k : Kind). let s : Stamped Plain = record { at = 10 * (i / length kinds) + 2 ^ 63; value = generated_value k i (i / length kinds) } in s) (is ∙ kind-at kinds (i % length kinds))

-- there is no input
pub made-none : (kinds : List Kind) (n : ℕ) → length kinds ≡ 0 → generated_streams kinds 0 ≡ generated_streams kinds n
made-none [] zero none = refl
made-none [] (suc n) none = rw (sym (made-none [] n none)) refl
made-none (k ∷ kinds) n none = absurd (omega arith)

packet-at : Kind → ℕ → ℕ → Stamped Plain
packet-at kind i round = record { at = 10 * round + 2 ^ 63; value = generated_value kind i round }

pub made-at : (kinds : List Kind) (i n k : ℕ) (kind : Kind) (p : Stamped Plain) (ss new : List (StreamPrefix Plain)) → n ≡ i → k ≡ length kinds
    → kind ≡ unwrap_or (slice_get kinds (n % k)) Any → p ≡ record { at = 10 * (n / k) + 2 ^ 63; value = generated_value kind i (n / k) }
    → new ≡ stepped (n % k) (λ s. appended s p) ss → new ≡ stepped (i % length kinds) (λ s. appended s (generated_packet kinds i)) ss
unfolding packet-at
made-at kinds i n k kind p ss new en ek is packet new_is =
    new_is ∙ ap (λ m. stepped (m % k) (λ s. appended s p) ss) en ∙ ap (λ m. stepped (i % m) (λ s. appended s p) ss) ek
    ∙ ap (λ q. stepped (i % length kinds) (λ s. appended s q) ss)
    (made kinds i kind p
    (is ∙ ap (λ m. unwrap_or (slice_get kinds (m % k)) Any) en ∙ ap (λ m. unwrap_or (slice_get kinds (i % m)) Any) ek)
    (packet ∙ ap (λ m. packet-at kind i (m / k)) en ∙ ap (λ m. packet-at kind i (i / m)) ek))
