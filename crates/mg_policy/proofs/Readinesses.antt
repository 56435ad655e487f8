-- One readiness at most fits some queues.
use Rattle.std.proofs.Common.{◌≡◌, ℕ, List, Option, Some, None, IsSomeAnd, slice_get, ap, sym, refl, ◌∙◌}
use Rattle.mg_value.specs.Payload.{Plain}
use Rattle.mg_value.specs.declared.policy.Policy.{Policy}
use Rattle.mg_settled.specs.Settled.{TimedSet}
use Rattle.mg_settled.proofs.LeadingPackets.{no-sets}
use Rattle.mg_stream.specs.Queue.{Waiting}
use Rattle.mg_policy.specs.Inbox.{rests, next_set, IsOver, Tells}
use Rattle.mg_policy.specs.declared.readiness.Readiness.{Readiness}
use Rattle.mg_policy.specs.declared.readiness.Readiness.TheVariants.{Ready, Close, NotReady}

pub over_none : (policy : Policy) (qs : List (Waiting Plain)) → IsOver policy qs → next_set policy qs ≡ None
over_none policy qs over = ap (λ (es : List (TimedSet Plain)). slice_get es 0) (no-sets policy (rests qs) over.empty)

same_option : (o : Option (TimedSet Plain)) (a b : ℕ) → IsSomeAnd o (λ e. e.at ≡ a) → IsSomeAnd o (λ e. e.at ≡ b) → a ≡ b
same_option None a b h k = absurd h
same_option (Some e) a b h k = sym h ∙ k

not_none : (o : Option (TimedSet Plain)) (a : ℕ) → o ≡ None → IsSomeAnd o (λ e. e.at ≡ a) → ⊥
not_none o a e h = rw e at h

pub one_readiness : (policy : Policy) (a b : Readiness) (qs : List (Waiting Plain)) → Tells policy a qs → Tells policy b qs → a ≡ b
one_readiness policy (Ready s) (Ready t) qs h k = ap Ready (same_option (next_set policy qs) s t h k)
one_readiness policy (Ready s) Close qs h k = absurd (not_none (next_set policy qs) s (over_none policy qs k) h)
one_readiness policy (Ready s) NotReady qs h k = absurd (not_none (next_set policy qs) s k.0 h)
one_readiness policy Close (Ready t) qs h k = absurd (not_none (next_set policy qs) t (over_none policy qs h) k)
one_readiness policy Close Close qs h k = refl
one_readiness policy Close NotReady qs h k = absurd (k.1 h)
one_readiness policy NotReady (Ready t) qs h k = absurd (not_none (next_set policy qs) t h.0 k)
one_readiness policy NotReady Close qs h k = absurd (h.1 k)
one_readiness policy NotReady NotReady qs h k = refl
