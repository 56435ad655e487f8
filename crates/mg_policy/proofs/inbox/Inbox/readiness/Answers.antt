use Rattle.std.proofs.Common.{◌∙◌, sym, subst, List, ℕ}
use Rattle.std.proofs.lemmas.Bool.{false≢true}
use Rattle.mg_value.specs.Payload.{Plain}
use Rattle.mg_settled.specs.Prefix.{StreamPrefix}
use Rattle.mg_stream.specs.Pool.{queues_of}
use Rattle.mg_policy.specs.Inbox.{Gathered, Tells, TellsOf, StandAfter}
use Rattle.mg_policy.specs.declared.readiness.Readiness.TheVariants.{Ready, Close, NotReady}
use Rattle.mg_policy.proofs.Answered.{tells_ready, tells_close, tells_not_ready, whole_ready, whole_close, whole_not_ready, none_then}
use Rattle.mg_policy.proofs.inbox.Inbox.readiness.Goals as goal

pub returns-in-Some-clause-waits : goal.returns-in-Some-clause-waits
returns-in-Some-clause-waits c =
    let p = c.self.inside in
    let look = c.look_at-look.ensures in
    subst (λ (i : Gathered). Tells i.policy (Ready c.in-Some.at) (queues_of i.pool)) c.self.view_is
    (tells_ready p.policy (queues_of p.pool) c.in-Some.at look.prefixes (sym look.next ∙ c.in-Some.is))

pub returns-in-Some-clause-whole : goal.returns-in-Some-clause-whole
returns-in-Some-clause-whole c =
    let p = c.self.inside in
    let look = c.look_at-look.ensures in
    subst (λ (i : Gathered). (k : ℕ) (ss : List (StreamPrefix Plain)) → StandAfter i.policy k (queues_of i.pool) ss → TellsOf i.policy k ss (Ready c.in-Some.at)) c.self.view_is
    (whole_ready p.policy (queues_of p.pool) c.in-Some.at look.prefixes (sym look.next ∙ c.in-Some.is))

pub returns-then-look-clause-waits : goal.returns-then-look-clause-waits
returns-then-look-clause-waits c =
    let p = c.self.inside in
    let look = c.look_at-look.ensures in
    subst (λ (i : Gathered). Tells i.policy Close (queues_of i.pool)) c.self.view_is
    (tells_close p.policy (queues_of p.pool) look.prefixes (sym look.next ∙ c.in_default.is) ((none_then c.look_at-look.result.next _ c.in_default.is look.ended).0 c.if-look.true))

pub returns-then-look-clause-whole : goal.returns-then-look-clause-whole
returns-then-look-clause-whole c =
    let p = c.self.inside in
    let look = c.look_at-look.ensures in
    subst (λ (i : Gathered). (k : ℕ) (ss : List (StreamPrefix Plain)) → StandAfter i.policy k (queues_of i.pool) ss → TellsOf i.policy k ss Close) c.self.view_is
    (whole_close p.policy (queues_of p.pool) look.prefixes (sym look.next ∙ c.in_default.is) ((none_then c.look_at-look.result.next _ c.in_default.is look.ended).0 c.if-look.true))

pub returns-clause-waits : goal.returns-clause-waits
returns-clause-waits c =
    let p = c.self.inside in
    let look = c.look_at-look.ensures in
    subst (λ (i : Gathered). Tells i.policy NotReady (queues_of i.pool)) c.self.view_is
    (tells_not_ready p.policy (queues_of p.pool) look.prefixes (sym look.next ∙ c.in_default.is)
    (λ ended. false≢true (sym c.if-look.false ∙ (none_then c.look_at-look.result.next _ c.in_default.is look.ended).1 ended)))

pub returns-clause-whole : goal.returns-clause-whole
returns-clause-whole c =
    let p = c.self.inside in
    let look = c.look_at-look.ensures in
    subst (λ (i : Gathered). (k : ℕ) (ss : List (StreamPrefix Plain)) → StandAfter i.policy k (queues_of i.pool) ss → TellsOf i.policy k ss NotReady) c.self.view_is
    (whole_not_ready p.policy (queues_of p.pool) look.prefixes (sym look.next ∙ c.in_default.is)
    (λ ended. false≢true (sym c.if-look.false ∙ (none_then c.look_at-look.result.next _ c.in_default.is look.ended).1 ended)))
