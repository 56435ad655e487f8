use Rattle.std.proofs.Common.{◌<◌, length, inl, refl, sym, subst}
use Rattle.mg_sched.specs.Views.{NetView}
use Rattle.mg_sched.specs.StandsFor.{StandsForSome, IsRunning}
use Rattle.mg_sched.specs.Acts.{IsHeldSource}
use Rattle.mg_sched.specs.Code.AtOnce.{Comes}
use Rattle.mg_sched.proofs.ShowingAtOnce.{claimed_below, claimed_room, comes_claimed, none_ready, comes_performed, shown_within, shown_marked, comes_committed}
use Rattle.mg_sched.proofs.net.Net.turn.Goals as goal

pub returns-then-is_held_source : goal.returns-then-is_held_source
returns-then-is_held_source g c = (refl, inl (c.if-is_held_source.ensures.held refl, record { idle = refl; same = refl }))

pub turn_over-requires-clause-running : goal.turn_over-requires-clause-running
turn_over-requires-clause-running g c = subst (λ (v : NetView). IsRunning v) (sym c.in-Other.ensures) c.requires.running

pub turn_over-requires-clause-stands : goal.turn_over-requires-clause-stands
turn_over-requires-clause-stands g c = subst (λ (v : NetView). StandsForSome g.C.NodeCalculator.laws v) (sym c.in-Other.ensures) c.requires.stands

pub turn_over-requires-clause-there : goal.turn_over-requires-clause-there
turn_over-requires-clause-there g c = subst (λ (v : NetView). c.args.node < length v.plan.nodes) (sym c.in-Other.ensures) c.requires.there

pub turn_over-requires-clause-free : goal.turn_over-requires-clause-free
turn_over-requires-clause-free g c = subst (λ (v : NetView). ¬ IsHeldSource v c.args.node) (sym c.in-Other.ensures) (c.if-is_held_source.ensures.not_held refl)

pub returns-in-Other : goal.returns-in-Other
returns-in-Other g c = subst (λ (v : NetView). Comes g.C.NodeCalculator.laws c.args.node c.turn_over.result v c.turn_over.new.self) c.in-Other.ensures c.turn_over.ensures

pub returns-in-NotReady : goal.returns-in-NotReady
returns-in-NotReady g c = none_ready _ c.args.node c.args.self.now c.show.new.self c.requires.stands c.requires.running c.requires.there (c.if-is_held_source.ensures.not_held refl) c.in-NotReady.ensures

pub put_on_work_queue-requires-clause-there : goal.put_on_work_queue-requires-clause-there
put_on_work_queue-requires-clause-there g c = claimed_below _ c.args.node c.args.self.now c.show.new.self c.requires.stands c.requires.running c.requires.there (c.if-is_held_source.ensures.not_held refl) c.in-Claimed.work c.in-Claimed.ensures

pub put_on_work_queue-requires-clause-room : goal.put_on_work_queue-requires-clause-room
put_on_work_queue-requires-clause-room g c = claimed_room _ c.args.node c.args.self.now c.show.new.self c.requires.stands c.requires.running c.requires.there (c.if-is_held_source.ensures.not_held refl) c.in-Claimed.work c.in-Claimed.ensures

pub returns-in-Claimed : goal.returns-in-Claimed
returns-in-Claimed g c =
    comes_claimed _ c.args.node c.args.self.now c.show.new.self c.requires.stands c.requires.running c.requires.there (c.if-is_held_source.ensures.not_held refl) c.in-Claimed.work c.put_on_work_queue.new.self c.in-Claimed.ensures c.put_on_work_queue.ensures

pub returns-in-Performed : goal.returns-in-Performed
returns-in-Performed g c = comes_performed _ c.args.node c.args.self.now c.show.new.self c.requires.stands c.requires.running c.requires.there (c.if-is_held_source.ensures.not_held refl) c.in-Performed.number c.in-Performed.ensures

pub stop_ended-requires-clause-engine : goal.stop_ended-requires-clause-engine
stop_ended-requires-clause-engine g c = shown_within _ c.args.node c.args.self.now c.show.new.self c.requires.stands c.requires.running c.requires.there (c.if-is_held_source.ensures.not_held refl) c.in-Committed.number c.in-Committed.ensures

pub stop_ended-requires-clause-reached : goal.stop_ended-requires-clause-reached
stop_ended-requires-clause-reached g c = shown_marked _ c.args.node c.args.self.now c.show.new.self c.requires.stands c.requires.running c.requires.there (c.if-is_held_source.ensures.not_held refl) c.in-Committed.number c.in-Committed.ensures

pub returns-in-Committed : goal.returns-in-Committed
returns-in-Committed g c =
    comes_committed _ c.args.node c.args.self.now c.show.new.self c.requires.stands c.requires.running c.requires.there (c.if-is_held_source.ensures.not_held refl) c.in-Committed.number c.stop_ended.new.self c.in-Committed.ensures c.stop_ended.ensures
