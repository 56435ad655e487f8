use Rattle.std.proofs.Common.{List, refl, sym, subst}
use Rattle.mg_value.specs.Payload.{Plain}
use Rattle.mg_settled.specs.Prefix.{StreamPrefix}
use Rattle.mg_free.specs.declared.node.FreeNode.{FreeNode}
use Rattle.mg_live.specs.Due.{IsUndue, AreIdleBut}
use Rattle.mg_test_free.specs.Ready.{IsReady}
use Rattle.mg_test_free.proofs.Readied.{may_round, ready_then}
use Rattle.mg_test_free.proofs.rounds.run.Goals as goal

pub rounds-init : goal.rounds-init
rounds-init c = record { ready = c.requires; idle = λ place free taker undue. absurd (c.new-due.ensures place undue) }

pub round-requires-clause-may : goal.round-requires-clause-may
round-requires-clause-may c = may_round _ _ c.args.given.now c.rounds.live.free c.rounds.live.takers.items c.args.given.now.streams refl (λ stream number. tt) c.rounds.invariant.ready

pub round-requires-clause-idle : goal.round-requires-clause-idle
round-requires-clause-idle c = λ ss are. subst (λ (xs : List (StreamPrefix Plain)). AreIdleBut (IsUndue c.rounds.due) xs c.rounds.live.free c.rounds.live.takers.items) (sym are) c.rounds.invariant.idle

pub returns-then-is_empty : goal.returns-then-is_empty
returns-then-is_empty c =
    subst (λ (frees : List FreeNode). IsReady frees c.round.new.self.takers.items c.args.given.now.streams) (sym c.in_ok-round.ensures.free)
    (ready_then c.rounds.live.free c.rounds.live.takers.items c.round.new.self.takers.items c.args.given.now.streams c.rounds.invariant.ready (λ takens h. c.in_ok-round.ensures.taken c.args.given.now.streams takens refl h))

pub rounds-preserved : goal.rounds-preserved
rounds-preserved c = record {
  ready = subst (λ (frees : List FreeNode). IsReady frees c.round.new.self.takers.items c.args.given.now.streams) (sym c.in_ok-round.ensures.free)
      (ready_then c.rounds.live.free c.rounds.live.takers.items c.round.new.self.takers.items c.args.given.now.streams c.rounds.invariant.ready (λ takens h. c.in_ok-round.ensures.taken c.args.given.now.streams takens refl h));
  idle = subst (λ (frees : List FreeNode). AreIdleBut (IsUndue c.round.new.due) c.args.given.now.streams frees c.round.new.self.takers.items) (sym c.in_ok-round.ensures.free) (c.in_ok-round.ensures.idle c.args.given.now.streams refl);
}
