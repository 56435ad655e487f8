use Rattle.std.proofs.Common.{◌≡◌, ◌∙◌, ℕ, Option, option_map, unwrap_or, ap, sym, subst}
use Rattle.mg_value.specs.declared.policy.Policy.TheVariants.{Default}
use Rattle.mg_settled.specs.Settled.{low, reach}
use Rattle.mg_settled.proofs.FirstSets.{first-time}
use Rattle.mg_stream.specs.Pool.{queues_of}
use Rattle.mg_policy.specs.Inbox.{Gathered, rests, next_set}
use Rattle.mg_policy.proofs.inbox.Inbox.horizon.Goals as goal

pub returns-in-Default : goal.returns-in-Default
returns-in-Default c =
    let ss = rests (queues_of c.self.inside.pool) in
    subst (λ (i : Gathered). c.least_time.result ≡ unwrap_or (option_map (λ e. e.at) (next_set i.policy (queues_of i.pool))) (reach i.policy (rests (queues_of i.pool)))) c.self.view_is
    (rw c.in-Default.is (c.least_time.ensures.time ∙ ap (λ (o : Option ℕ). unwrap_or o (low ss)) (sym (first-time Default ss c.least_time.ensures.prefixes))))
