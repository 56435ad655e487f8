-- What is left of prefixes when some of their packets are gone.
use Rattle.std.proofs.Common.{◌≡◌, ℕ, ◌<◌, Bool, false, List, length, IsTrue}
use Rattle.mg_value.specs.Payload.{Plain}
use Rattle.mg_value.specs.declared.policy.Policy.{Policy}
use Rattle.mg_settled.specs.Prefix.{StreamPrefix}
use Rattle.mg_settled.specs.Settled.{packet_at, port_of}
use Rattle.mg_settled.specs.Left.{leads}
use Rattle.mg_settled.proofs.Leaving.{left_of}

-- what is left of one prefix, and of all: at a port that leads exactly what doesn't go, and at another at least that
pub record Leaves {X : Type 0} (test : ℕ → Bool) (lead : Bool) (s r : StreamPrefix X) : Type 0 where
  pub bound : r.bound ≡ s.bound
  pub finds : (t : ℕ) → test t ≡ false → packet_at t r.packets ≡ packet_at t s.packets
  pub rest : IsTrue lead → r.packets ≡ left_of test s.packets

pub record AllLeave (policy : Policy) (test : ℕ → Bool) (ss rs : List (StreamPrefix Plain)) : Type 0 where
  pub ports : length rs ≡ length ss
  pub each : (i : ℕ) → i < length ss → Leaves test (leads policy (length ss) i) (port_of ss i) (port_of rs i)
