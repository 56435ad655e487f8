use Rattle.std.proofs.Common.{◌≡◌, ◌+◌, ℕ, List, Option, drop, map, IsSomeAnd, sym, subst, refl}
use Rattle.mg_value.specs.Payload.{Plain}
use Rattle.mg_settled.specs.Prefix.{StreamPrefix}
use Rattle.mg_settled.specs.Settled.{TimedSet, settled_sets}
use Rattle.mg_settled.specs.Left.{after_sets}
use Rattle.mg_stream.specs.Queue.{count_of}
use Rattle.mg_stream.specs.Pool.{queues_of}
use Rattle.mg_policy.specs.Inbox.{Gathered, rests, next_set, Tells, ShowsNext, StandAfter}
use Rattle.mg_policy.specs.declared.readiness.Readiness.TheVariants.{Ready}
use Rattle.mg_policy.proofs.Answered.{IsClaim, told_time, claim_left, claim_others, claim_whole}
use Rattle.mg_policy.proofs.Claims.{counts-taken}
use Rattle.mg_policy.proofs.inbox.Inbox.claim_at.Goals as goal

pub take_set-requires-clause-next : goal.take_set-requires-clause-next
take_set-requires-clause-next c = subst (λ (i : Gathered). Tells i.policy (Ready c.args.at) (queues_of i.pool)) (sym c.self.view_is) c.requires.next

pub returns-clause-shown : goal.returns-clause-shown
returns-clause-shown c =
    subst (λ (i : Gathered). IsSomeAnd (next_set i.policy (queues_of i.pool)) (λ e. c.take_set.new.into ≡ e.set)) c.self.view_is
    (subst (λ (o : Option (TimedSet Plain)). IsSomeAnd o (λ e. c.take_set.new.into ≡ e.set)) (sym c.take_set.ensures.set) refl)

pub returns-clause-left : goal.returns-clause-left
returns-clause-left c =
    let p = c.self.inside in
    let took = c.take_set.ensures in
    let next : Tells p.policy (Ready c.args.at) (queues_of p.pool) = subst (λ (i : Gathered). Tells i.policy (Ready c.args.at) (queues_of i.pool)) (sym c.self.view_is) c.requires.next in
    let is : IsClaim p.policy p.pool c.take_set.new.pool c.args.at c.take_set.new.into = record { prefixes = took.prefixes; first = told_time p.policy (queues_of p.pool) c.args.at took.prefixes next; next = took.set; ports = took.ports } in
    subst (λ (i : Gathered). rests (queues_of c.take_set.new.pool) ≡ after_sets i.policy 1 (rests (queues_of i.pool))) c.self.view_is
    (claim_left p.policy p.pool c.take_set.new.pool c.args.at c.take_set.new.into is)

pub returns-clause-others : goal.returns-clause-others
returns-clause-others c =
    let p = c.self.inside in
    let took = c.take_set.ensures in
    let next : Tells p.policy (Ready c.args.at) (queues_of p.pool) = subst (λ (i : Gathered). Tells i.policy (Ready c.args.at) (queues_of i.pool)) (sym c.self.view_is) c.requires.next in
    let is : IsClaim p.policy p.pool c.take_set.new.pool c.args.at c.take_set.new.into = record { prefixes = took.prefixes; first = told_time p.policy (queues_of p.pool) c.args.at took.prefixes next; next = took.set; ports = took.ports } in
    subst (λ (i : Gathered). settled_sets i.policy (rests (queues_of c.take_set.new.pool)) ≡ drop 1 (settled_sets i.policy (rests (queues_of i.pool)))) c.self.view_is
    (claim_others p.policy p.pool c.take_set.new.pool c.args.at c.take_set.new.into is)

pub returns-clause-counts : goal.returns-clause-counts
returns-clause-counts c =
    let p = c.self.inside in
    subst (λ (i : Gathered). map count_of (queues_of c.take_set.new.pool) ≡ map count_of (queues_of i.pool)) c.self.view_is
    (counts-taken p.pool c.take_set.new.pool c.args.at c.take_set.ensures.ports)

pub returns-clause-whole : goal.returns-clause-whole
returns-clause-whole c =
    let p = c.self.inside in
    let took = c.take_set.ensures in
    let next : Tells p.policy (Ready c.args.at) (queues_of p.pool) = subst (λ (i : Gathered). Tells i.policy (Ready c.args.at) (queues_of i.pool)) (sym c.self.view_is) c.requires.next in
    let is : IsClaim p.policy p.pool c.take_set.new.pool c.args.at c.take_set.new.into = record { prefixes = took.prefixes; first = told_time p.policy (queues_of p.pool) c.args.at took.prefixes next; next = took.set; ports = took.ports } in
    subst (λ (i : Gathered). (k : ℕ) (ss : List (StreamPrefix Plain)) → StandAfter i.policy k (queues_of i.pool) ss
    → ((at : ℕ) × ShowsNext i.policy k ss at c.take_set.new.into) × StandAfter i.policy (k + 1) (queues_of c.take_set.new.pool) ss) c.self.view_is
    (claim_whole p.policy p.pool c.take_set.new.pool c.args.at c.take_set.new.into is)
