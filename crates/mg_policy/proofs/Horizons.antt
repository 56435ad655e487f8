-- How far what waits reaches: the time of the next set, or the reach if there is none.
use Rattle.std.proofs.Common.{◌≡◌, ℕ, min, Option, Some, None, option_map, unwrap_or, IsSomeAnd, nat_lt, inl, inr, sym, arith, if◌then◌else◌}
use Rattle.std.proofs.lemmas.Bool.{cases_order, le-ltb, lt-ltb}
use Rattle.mg_value.specs.Payload.{Plain}
use Rattle.mg_settled.specs.Settled.{TimedSet}

pub horizon-ready : (o : Option (TimedSet Plain)) (at reached : ℕ) → IsSomeAnd o (λ e. e.at ≡ at) → at ≡ unwrap_or (option_map (λ e. e.at) o) reached
horizon-ready None at reached h = absurd h
horizon-ready (Some e) at reached h = sym h

pub horizon-none : (o : Option (TimedSet Plain)) (low reached : ℕ) → o ≡ None → low ≡ reached → low ≡ unwrap_or (option_map (λ e. e.at) o) reached
horizon-none None low reached none same = same
horizon-none (Some e) low reached none same = absurd cc

-- by default the lesser of the earliest time and the least bound
pub horizon-least : (first low : ℕ) → min first low ≡ unwrap_or (if nat_lt first low then Some first else None) low
horizon-least first low = elim (cases_order first low) [
  | inl same ↦ rw (le-ltb first low (omega (arith, same))) (omega (arith, same))
  | inr other ↦ elim other [
    | inl below ↦ rw (lt-ltb first low below) (omega (arith, below))
    | inr above ↦ rw (le-ltb first low (omega (arith, above))) (omega (arith, above))
  ]
]
