use Rattle.std.proofs.Common.{◌∙◌, refl, sym}
use Rattle.mg_settled.proofs.SetSteps.{IsNext, listed-more, fewer-left, all-listed, left-listed}
use Rattle.mg_settled.proofs.LeftSets.{left-none}
use Rattle.mg_settled.proofs.sets.take_sets.Goals as goal

-- what the turn of the loop takes
next : (c : goal.In_ok-push) → IsNext c.args.policy c.loop-at.rests c.take_set.new.rests (record { at = c.in-Some.at; set = c.in_ok-set.set })
next c = record {
  time = sym c.in-Some.ensures;
  set = c.in_ok-set.ensures.set;
  left = c.in_ok-set.ensures.left;
}

pub loop-at-init : goal.loop-at-init
loop-at-init c = record {
  few = c.requires.few;
  streams = c.requires.streams;
  sets = rw c.new-sets.ensures.items refl;
  whole = c.requires.streams;
  left = rw c.new-sets.ensures.items (left-none c.args.policy c.args.rests.now);
}

pub loop-at-smaller : goal.loop-at-smaller
loop-at-smaller c = fewer-left c.args.policy c.args.rests.now c.loop-at.rests c.take_set.new.rests c.loop-at.sets.items _ c.loop-at.invariant (next c)

pub loop-at-preserved : goal.loop-at-preserved
loop-at-preserved c =
    rw c.in_ok-push.ensures.items (listed-more c.args.policy c.args.rests.now c.loop-at.rests c.take_set.new.rests c.loop-at.sets.items _ c.loop-at.invariant (next c))

pub returns-clause-sets : goal.returns-clause-sets
returns-clause-sets c =
    c.in_ok-from_vec.ensures.entries
    ∙ all-listed c.args.policy c.args.rests.now c.loop-at.rests c.loop-at.sets.items c.loop-at.invariant (sym c.in_default.ensures)

pub returns-clause-left : goal.returns-clause-left
returns-clause-left c = left-listed c.args.policy c.args.rests.now c.loop-at.rests c.loop-at.sets.items c.loop-at.invariant (sym c.in_default.ensures)
