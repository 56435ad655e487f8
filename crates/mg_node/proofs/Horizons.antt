-- How far what waits reaches.
use Rattle.std.proofs.Common.{◌≡◌, ℕ, Option, Some, None, option_map, unwrap_or, refl, ◌∙◌}
use Rattle.mg_value.specs.Payload.{Plain}
use Rattle.mg_settled.specs.Settled.{TimedSet, reach}
use Rattle.mg_stream.specs.Pool.{queues_of}
use Rattle.mg_policy.specs.Inbox.{Gathered, rests, next_set}
use Rattle.mg_node.specs.declared.pending.Pending.TheVariants.{Sets}
use Rattle.mg_node.specs.Ports.{next_time, horizon_of}

-- the time of the next set, or another time if there is no next set
next_time-is : (o : Option (TimedSet Plain)) (reached : ℕ) → unwrap_or (option_map (λ e. e.at) o) reached ≡ next_time o reached
next_time-is None reached = refl
next_time-is (Some e) reached = refl

pub horizon_sets : (inbox : Gathered) (time : ℕ)
    → time ≡ unwrap_or (option_map (λ e. e.at) (next_set inbox.policy (queues_of inbox.pool))) (reach inbox.policy (rests (queues_of inbox.pool))) → time ≡ horizon_of (Sets inbox)
horizon_sets inbox time is = is ∙ next_time-is (next_set inbox.policy (queues_of inbox.pool)) (reach inbox.policy (rests (queues_of inbox.pool)))
