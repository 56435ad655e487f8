use Rattle.std.proofs.Common.{slice_index_or, refl, ap, ◌∙◌, arith}
use Rattle.mg_live.proofs.InTurn.{may_there}
use Rattle.mg_live.proofs.Places.{number_at}
use Rattle.mg_live.proofs.Turned.{none_turned, same_more, unturned, idle_then, done_then, turns_all, did_all, idle_all}
use Rattle.mg_live.proofs.live_nodes.round.Goals as goal
use Rattle.mg_live.proofs.live_nodes.round.Goals.{then-branch+in_ok-push, else-branch}

pub turn_at-requires-clause-long : goal.turn_at-requires-clause-long
turn_at-requires-clause-long g c = c.loop-i.invariant.long ∙ c.requires.may.have_taken.takers_long

pub turn_at-requires-clause-may : goal.turn_at-requires-clause-may
turn_at-requires-clause-may g c = λ first place free taker here at at_taker.
    may_there g.S.Streams.are g.S.Streams.has_from c.args.streams.now c.args.frees.now c.args.takers.now c.loop-i.takers place free taker c.requires.may at at_taker
    (unturned c.args.due.now c.loop-i.i place c.args.takers.now c.loop-i.takers first here c.loop-i.invariant.same)

pub loop-i-init : goal.loop-i-init
loop-i-init g c = record {
  long = refl;
  handed = refl;
  same = λ place none. refl;
  turned = λ ss are. none_turned ss c.args.frees.now c.args.due.now c.args.takers.now c.new-did.result.items c.new-did.ensures.items;
}

pub loop-i-preserved : goal.loop-i-preserved
loop-i-preserved g c = record {
  long = c.in_ok-turn_at.ensures.long ∙ c.loop-i.invariant.long;
  handed = c.in_ok-turn_at.ensures.handed ∙ c.loop-i.invariant.handed;
  same = same_more c.args.due.now c.loop-i.i c.args.takers.now c.loop-i.takers c.turn_at.new.takers c.in_ok-turn_at.ensures.others c.loop-i.invariant.same;
  turned = λ ss are. elim c.if-branch.branch [
    | then-branch+in_ok-push w ↦
        done_then ss c.args.frees.now c.args.due.now c.loop-i.i (slice_index_or c.args.due.now c.loop-i.i 0) c.args.takers.now c.loop-i.takers c.turn_at.new.takers c.loop-i.did.items c.if-branch.did.items c.in_ok-turn_at.field-0 w.if-branch.true
        (number_at c.args.due.now c.loop-i.i (omega (arith, c.loop-i-test.true))) (ap (λ v. v.items) w.did-is ∙ w.in_ok-push.ensures.items) c.in_ok-turn_at.ensures.others (c.in_ok-turn_at.ensures.had ss are) (c.loop-i.invariant.turned ss are)
    | else-branch w ↦
        idle_then ss c.args.frees.now c.args.due.now c.loop-i.i c.args.takers.now c.loop-i.takers c.turn_at.new.takers c.loop-i.did.items c.if-branch.did.items c.in_ok-turn_at.field-0 w.if-branch.false (ap (λ v. v.items) w.did-is) c.in_ok-turn_at.ensures.others
        (c.in_ok-turn_at.ensures.had ss are) (c.loop-i.invariant.turned ss are)
  ];
}

pub returns-clause-taken : goal.returns-clause-taken
returns-clause-taken g c = λ ss takens are h.
    turns_all ss c.args.frees.now takens c.args.takers.now c.loop-i.takers c.args.due.now c.loop-i.i c.loop-i.did.items (c.loop-i.invariant.turned ss are) (let past = c.loop-i-test.false in omega (arith, past)) (c.requires.idle ss are) h c.loop-i.invariant.long

pub returns-clause-did : goal.returns-clause-did
returns-clause-did g c = λ ss takens are h.
    did_all ss c.args.frees.now takens c.args.takers.now c.loop-i.takers c.args.due.now c.loop-i.i c.loop-i.did.items (c.loop-i.invariant.turned ss are) (let past = c.loop-i-test.false in omega (arith, past)) (c.requires.idle ss are) h c.loop-i.invariant.long

pub returns-clause-idle : goal.returns-clause-idle
returns-clause-idle g c = λ ss are.
    idle_all ss c.args.frees.now c.args.takers.now c.loop-i.takers c.args.due.now c.loop-i.i c.loop-i.did.items (c.loop-i.invariant.turned ss are) (let past = c.loop-i-test.false in omega (arith, past)) (c.requires.idle ss are) c.requires.may.have_taken.takers_long

pub returns-in_err-turn_at-clause-handed : goal.returns-in_err-turn_at-clause-handed
returns-in_err-turn_at-clause-handed g c = c.in_err-turn_at.ensures.handed ∙ c.loop-i.invariant.handed

pub returns-in_err-push-clause-handed : goal.returns-in_err-push-clause-handed
returns-in_err-push-clause-handed g c = c.in_ok-turn_at.ensures.handed ∙ c.loop-i.invariant.handed
