use Rattle.std.proofs.Common.{sym}
use Rattle.mg_settled.specs.Loopback.{behind_first}
use Rattle.mg_settled.proofs.Extending.{same_prefix}
use Rattle.mg_settled.proofs.LoopbackSteps.{answered_prefix, none-so_far, more-so_far, all-so_far}
use Rattle.mg_settled.proofs.looping.take_answers.Goals as goal

pub loop-at-init : goal.loop-at-init
loop-at-init c = record {
  heard = c.requires.back;
  told = λ before time behind. rw c.new-packets.ensures.items (none-so_far before c.args.main.now c.args.back.now c.args.previous c.requires.main behind time);
}

pub loop-at-preserved : goal.loop-at-preserved
loop-at-preserved c = record {
  heard = answered_prefix c.loop-at.previous c.loop-at.back c.answer.new.rest c.loop-at.invariant.heard c.answer.ensures.left;
  told = λ before time behind. more-so_far before c.args.main.now c.args.back.now c.loop-at.previous c.loop-at.main c.loop-at.back c.read_first.new.self c.answer.new.rest c.loop-at.packets.items c.push_some.new.packets.items c.in-Some.at c.in_ok-answer.field-0
      (c.loop-at.invariant.told before time behind) (sym c.in-Some.ensures) c.in_ok-answer.ensures.packet c.in_ok-answer.ensures.left
      (same_prefix c.read_first.new.self (behind_first 1 c.loop-at.main) c.read_first.ensures.packets c.read_first.ensures.bound) c.in_ok-push_some.ensures;
}

pub returns : goal.returns
returns c = λ before time behind.
    rw c.in_ok-from_vec.ensures.entries (all-so_far before c.args.main.now c.args.back.now c.loop-at.previous c.loop-at.main c.loop-at.back c.loop-at.packets.items (c.loop-at.invariant.told before time behind) (sym c.in_default.ensures))
