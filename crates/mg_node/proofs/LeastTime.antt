-- The time below which no further set is claimed is the least of how far the sets reach and of the first time that waits.
use Rattle.std.proofs.Common.{◌≡◌, ℕ, ◌<◌, ◌≤◌, ◌-◌, min, List, [], ◌∷◌, length, drop, Option, Some, None, IfSome, All, option_map, slice_get, inl, inr, sym, refl, subst, arith, if◌then◌else◌}
use Rattle.std.specs.List.{AllByRecursion, take_while}
use Rattle.std.specs.Option.{option_and_then}
use Rattle.std.proofs.lemmas.Bool.{cases_lt, cases_Bool, lt-ltb, le-ltb}
use Rattle.std.proofs.lemmas.List.Elements.{recursion_from_All}
use Rattle.mg_time.specs.Time.{done}
use Rattle.mg_value.specs.Payload.{Plain}
use Rattle.mg_value.specs.Packet.{Stamped}
use Rattle.mg_value.specs.declared.policy.Policy.{Policy}
use Rattle.mg_value.specs.declared.policy.Policy.TheVariants.{Default, Mux}
use Rattle.mg_settled.specs.Prefix.{StreamPrefix, IsPrefix, first_time}
use Rattle.mg_settled.specs.FirstSet.{earliest, first_set_time}
use Rattle.mg_settled.specs.Settled.{TimedSet, low, select_of, is_settled, settled_sets, reach}
use Rattle.mg_settled.proofs.Lemmas.{first-time, below-reach, port-prefix}
use Rattle.mg_node.specs.Ports.{next_time, first_waiting}

-- if a time is told, it is the first; if none is told, the first isn't below the reach
abbrev IsFirst : ℕ → ℕ → Option ℕ → Type 0
IsFirst first reached (Some t) = first ≡ t
IsFirst first reached None = reached ≤ first

mux_first : (ss : List (StreamPrefix Plain)) (b : ℕ) (ps : List (Stamped Plain)) → b ≤ done
    → IsFirst (first_time ps done) (first_time (drop (length (take_while (is_settled ss) ps)) ps) b) (option_and_then (λ p. if is_settled ss p then Some p.at else None) (slice_get ps 0))
mux_first ss b [] le = le
mux_first ss b (p ∷ ps) le = elim (cases_Bool (is_settled ss p)) [
  | inl here ↦ rw here refl
  | inr fails ↦ rw fails (omega arith)
]

first_told : (policy : Policy) (ss : List (StreamPrefix Plain)) → All IsPrefix ss → IsFirst (first_waiting policy ss) (reach policy ss) (first_set_time policy ss)
first_told Default ss h = elim (cases_lt (earliest ss) (low ss)) [
  | inl below ↦ rw (lt-ltb (earliest ss) (low ss) below) refl
  | inr above ↦ rw (le-ltb (earliest ss) (low ss) above) above
]
first_told Mux ss h = mux_first ss (select_of ss).bound (select_of ss).packets (port-prefix ss h (length ss - 1)).within

least_of : (o : Option (TimedSet Plain)) (first reached : ℕ) → IsFirst first reached (option_map (λ e. e.at) o) → IfSome o (λ e. e.at < reached) → next_time o reached ≡ min reached first
least_of None first reached le below = omega (arith, le)
least_of (Some e) first reached is below = omega (arith, is, below)

pub least_time : (policy : Policy) (ss : List (StreamPrefix Plain)) → All IsPrefix ss → next_time (slice_get (settled_sets policy ss) 0) (reach policy ss) ≡ min (reach policy ss) (first_waiting policy ss)
least_time policy ss h =
    least_of (slice_get (settled_sets policy ss) 0) (first_waiting policy ss) (reach policy ss)
    (subst (IsFirst (first_waiting policy ss) (reach policy ss)) (sym (first-time policy ss h)) (first_told policy ss h))
    (first_below (settled_sets policy ss) (recursion_from_All (λ (e : TimedSet Plain). e.at < reach policy ss) (settled_sets policy ss) (below-reach policy ss h)))
  where
    first_below : (sets : List (TimedSet Plain)) → AllByRecursion (λ e. e.at < reach policy ss) sets → IfSome (slice_get sets 0) (λ e. e.at < reach policy ss)
    first_below [] below = tt
    first_below (e ∷ sets) below = below.0
