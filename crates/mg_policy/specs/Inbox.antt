-- Input policies, after the page Synchronization of the MediaPipe framework. An inbox has a queue for each input port.
-- What waits in them is the rest of their streams, and its first settled set is the next input set.
use Rattle.std.specs.Prelude.{◌≡◌, ◌≢◌, ℕ, ◌<◌, ◌≤◌, length, List, [], map, Option, Some, None, slice_get, IsSomeAnd, IsTrue}
use Rattle.std.specs.List.{AllZip}
use Rattle.mg_time.specs.Time.{done}
use Rattle.mg_value.specs.Payload.{Plain}
use Rattle.mg_value.specs.declared.policy.Policy.{Policy}
use Rattle.mg_value.specs.declared.policy.Policy.TheVariants.{Default, Mux}
use Rattle.mg_value.specs.Packet.{Stamped}
use Rattle.mg_settled.specs.Prefix.{StreamPrefix}
use Rattle.mg_settled.specs.Settled.{TimedSet, settled_sets, reach, port_of, IsBelowBounds}
use Rattle.mg_settled.specs.Left.{leads, AreGone}
use Rattle.mg_stream.specs.Queue.{Waiting, rest_of, StandsFor}
use Rattle.mg_stream.specs.Pool.{Pooled}
use Rattle.mg_policy.specs.declared.readiness.Readiness.{Readiness}
use Rattle.mg_policy.specs.declared.readiness.Readiness.TheVariants.{Ready, Close, NotReady}

-- an inbox: its policy, and what waits
pub record Gathered : Type 0 where
  pub policy : Policy
  pub pool : Pooled Plain

-- an inbox has the ports that its policy asks for: under Mux SELECT and another
abbrev pub HasPorts : Policy → Pooled Plain → Type 0
HasPorts Default pool = Unit {0}
HasPorts Mux pool = 2 ≤ length pool.ports

-- what waits in some queues, as prefixes of the rest of their streams
abbrev pub rests : {X : Type 0} → List (Waiting X) → List (StreamPrefix X)
rests qs = map rest_of qs

-- the next input set, or none: the first settled set of what waits
abbrev pub next_set : Policy → List (Waiting Plain) → Option (TimedSet Plain)
next_set policy qs = slice_get (settled_sets policy (rests qs)) 0

-- nothing waits at a port that leads, and the reach is the end of all times: no set comes any more
pub record IsOver (policy : Policy) (qs : List (Waiting Plain)) : Type 0 where
  pub empty : (i : ℕ) → i < length (rests qs) → IsTrue (leads policy (length (rests qs)) i) → (port_of (rests qs) i).packets ≡ []
  pub closed : reach policy (rests qs) ≡ done

-- what a readiness says of some queues: there is a next set, at this time; or no set comes any more; or neither
abbrev pub Tells : Policy → Readiness → List (Waiting Plain) → Type 0
Tells policy (Ready at) qs = IsSomeAnd (next_set policy qs) (λ e. e.at ≡ at)
Tells policy Close qs = IsOver policy qs
Tells policy NotReady qs = (next_set policy qs ≡ None) × ¬ IsOver policy qs

-- the queues stand for prefixes of their streams, and the first k settled sets of these are claimed
pub record StandAfter (policy : Policy) (k : ℕ) (qs : List (Waiting Plain)) (ss : List (StreamPrefix Plain)) : Type 0 where
  pub each : AllZip StandsFor qs ss
  pub gone : AreGone policy k ss (map (λ q. q.gone) qs)

-- after their first k settled sets some prefixes have a further set, at this time and with these packets. The time is below the
-- bounds that the policy asks for
pub record ShowsNext (policy : Policy) (k : ℕ) (ss : List (StreamPrefix Plain)) (at : ℕ) (set : List (Option (Stamped Plain))) : Type 0 where
  pub next : slice_get (settled_sets policy ss) k ≡ Some (record { at = at; set = set })
  pub below : IsBelowBounds policy ss at

-- what a readiness says of prefixes whose first k settled sets are claimed. There is a further set, at a time below the bounds.
-- Or there is none, and none comes any more. Or there is none so far
abbrev pub TellsOf : Policy → ℕ → List (StreamPrefix Plain) → Readiness → Type 0
TellsOf policy k ss (Ready at) = (set : List (Option (Stamped Plain))) × ShowsNext policy k ss at set
TellsOf policy k ss Close = (length (settled_sets policy ss) ≡ k) × (reach policy ss ≡ done)
TellsOf policy k ss NotReady = (length (settled_sets policy ss) ≡ k) × (reach policy ss ≢ done)
