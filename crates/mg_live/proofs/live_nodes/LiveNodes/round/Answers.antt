use Rattle.std.proofs.Common.{◌≡◌, ◌<◌, ℕ, List, length, sym, ◌∙◌, subst}
use Rattle.std.specs.List.Sorted.{IsNonDecreasing}
use Rattle.mg_live.specs.Takes.{IsNoneOf}
use Rattle.mg_live.specs.Due.{AreIdleBut}
use Rattle.mg_live.proofs.Turned.{idle_sorted, idle_set, set_none}
use Rattle.mg_live.proofs.live_nodes.LiveNodes.round.Goals as goal

pub have_turns-requires-clause-sorted : goal.have_turns-requires-clause-sorted
have_turns-requires-clause-sorted g c = subst IsNonDecreasing (sym c.deref.ensures.value) c.in_ok-sort.ensures.sorted

pub have_turns-requires-clause-idle : goal.have_turns-requires-clause-idle
have_turns-requires-clause-idle g c = λ ss are.
    subst (λ (ns : List ℕ). AreIdleBut (IsNoneOf ns) ss c.args.self.now.free c.args.self.now.takers.items) (sym c.deref.ensures.value)
    (idle_sorted ss c.args.self.now.free c.args.self.now.takers.items c.args.due.now c.sort.new.self.places.items c.len.result c.len.ensures c.in_ok-sort.ensures.due (c.requires.idle ss are))

pub returns-clause-idle : goal.returns-clause-idle
returns-clause-idle g c = λ ss are. idle_set ss c.args.self.now.free c.have_turns.new.self.takers.items c.set.new.self c.in_ok-did.did.items c.deref-2.result.now c.deref-2.ensures.value c.in_ok-set.ensures (c.in_ok-did.ensures.idle ss are)

pub returns-clause-due : goal.returns-clause-due
returns-clause-due g c = λ place undue. set_none c.set.new.self c.in_ok-from_vec.field-0 c.deref-2.result.now place (c.deref-2.ensures.value ∙ sym c.in_ok-from_vec.ensures.entries) c.in_ok-set.ensures undue
