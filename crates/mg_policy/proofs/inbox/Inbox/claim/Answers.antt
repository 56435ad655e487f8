use Rattle.std.proofs.Common.{◌≡◌, ◌↔◌, ◌∙◌, ℕ, List, Option, None, drop, length, IsTrue, IsSome, IfSome, false, sym, subst, refl}
use Rattle.mg_value.specs.Payload.{Plain}
use Rattle.mg_settled.specs.Prefix.{StreamPrefix}
use Rattle.mg_settled.specs.Settled.{TimedSet, settled_sets}
use Rattle.mg_stream.specs.Pool.{queues_of}
use Rattle.mg_policy.specs.Inbox.{Gathered, rests, next_set, Tells, StandAfter}
use Rattle.mg_policy.specs.declared.readiness.Readiness.TheVariants.{Ready}
use Rattle.mg_policy.proofs.Answered.{tells_ready, claimed_some, shown_if, no_claim, no_claim-set, none_next}
use Rattle.mg_policy.proofs.inbox.Inbox.claim.Goals as goal

pub returns-in_default-clause-claimed : goal.returns-in_default-clause-claimed
returns-in_default-clause-claimed c =
    let p = c.self.inside in
    let look = c.look_at.ensures in
    let none : next_set c.args.self.now.policy (queues_of c.args.self.now.pool) ≡ None =
    subst (λ (i : Gathered). next_set i.policy (queues_of i.pool) ≡ None) c.self.view_is (no_claim-set p.policy (queues_of p.pool) look.prefixes (sym look.next ∙ c.in_default.is)) in
    subst (λ (o : Option (TimedSet Plain)). IsTrue false ↔ IsSome o) (sym none) (λ h. h, λ h. h)

pub returns-in_default-clause-shown : goal.returns-in_default-clause-shown
returns-in_default-clause-shown c =
    let p = c.self.inside in
    let look = c.look_at.ensures in
    let none : next_set c.args.self.now.policy (queues_of c.args.self.now.pool) ≡ None =
    subst (λ (i : Gathered). next_set i.policy (queues_of i.pool) ≡ None) c.self.view_is (no_claim-set p.policy (queues_of p.pool) look.prefixes (sym look.next ∙ c.in_default.is)) in
    subst (λ (o : Option (TimedSet Plain)). IfSome o (λ e. c.args.into.now ≡ e.set)) (sym none) tt

pub returns-in_default-clause-others : goal.returns-in_default-clause-others
returns-in_default-clause-others c =
    let p = c.self.inside in
    let look = c.look_at.ensures in
    subst (λ (i : Gathered). settled_sets i.policy (rests (queues_of i.pool)) ≡ drop 1 (settled_sets i.policy (rests (queues_of i.pool)))) c.self.view_is
    (rw (no_claim p.policy (queues_of p.pool) look.prefixes (sym look.next ∙ c.in_default.is)) refl)

pub returns-in_default-clause-none : goal.returns-in_default-clause-none
returns-in_default-clause-none c =
    let p = c.self.inside in
    let look = c.look_at.ensures in
    subst (λ (i : Gathered). (k : ℕ) (ss : List (StreamPrefix Plain)) → StandAfter i.policy k (queues_of i.pool) ss → length (settled_sets i.policy ss) ≡ k) c.self.view_is
    (λ k ss stand. none_next p.policy k (queues_of p.pool) ss stand (no_claim p.policy (queues_of p.pool) look.prefixes (sym look.next ∙ c.in_default.is)))

pub claim_at-requires-clause-next : goal.claim_at-requires-clause-next
claim_at-requires-clause-next c =
    let p = c.self.inside in
    let look = c.look_at.ensures in
    subst (λ (i : Gathered). Tells i.policy (Ready c.in-Some.at) (queues_of i.pool)) c.self.view_is
    (tells_ready p.policy (queues_of p.pool) c.in-Some.at look.prefixes (sym look.next ∙ c.in-Some.is))

pub returns-clause-claimed : goal.returns-clause-claimed
returns-clause-claimed c = claimed_some (next_set c.args.self.now.policy (queues_of c.args.self.now.pool)) c.claim_at.new.into c.claim_at.ensures.shown

pub returns-clause-shown : goal.returns-clause-shown
returns-clause-shown c = shown_if (next_set c.args.self.now.policy (queues_of c.args.self.now.pool)) c.claim_at.new.into c.claim_at.ensures.shown

pub returns-clause-left : goal.returns-clause-left
returns-clause-left c = c.claim_at.ensures.left

pub returns-clause-others : goal.returns-clause-others
returns-clause-others c = c.claim_at.ensures.others

pub returns-clause-counts : goal.returns-clause-counts
returns-clause-counts c = c.claim_at.ensures.counts

pub returns-clause-whole : goal.returns-clause-whole
returns-clause-whole c = c.claim_at.ensures.whole
