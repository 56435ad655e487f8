use Rattle.mg_sched.specs.Taking.{taken_out, settled_outputs}
use Rattle.std.proofs.Common.{◌≡◌, true, length, ◌∙◌, ap, sym, subst}
use Rattle.std.proofs.lemmas.Result.{err_from_is_err_and}
use Rattle.mg_sched.specs.Views.{NetView}
use Rattle.mg_drive.specs.Code.Running.{IsTold}
use Rattle.mg_sched.proofs.HadBack.{left_itself, left_further}
use Rattle.mg_sched.proofs.OutputsTaken.{taking_leaves_nodes, taking_keeps, all_were_taken, nothing_changes}
use Rattle.mg_drive.proofs.TakingSets.{told_more, told_few, told_some_then, fewer_to_take, taken_true, taken_false, set_shown, set_places}
use Rattle.mg_drive.proofs.StillThere.{takings_whole}
use Rattle.mg_drive.proofs.driving.take_all.Goals as goal

pub sets-init : goal.sets-init
sets-init g c = record { places = c.requires.places; left = left_itself (g.N.Driven.net c.args.net.now); stands = λ job h. h; tells = λ job first h p. p; has = λ job streams h s a. a }

pub take_out-requires-clause-stands : goal.take_out-requires-clause-stands
take_out-requires-clause-stands g c = record { job = c.requires.told.job; stands = c.sets.invariant.stands c.requires.told.job c.requires.told.stands }

pub tell-requires : goal.tell-requires
tell-requires g c =
    let takes = taken_true c.take_out.result c.sets.set c.take_out.new.into (g.N.Driven.net c.sets.net) (g.N.Driven.net c.take_out.new.self) c.sets-test.true c.take_out.ensures.taken in
    let some = c.requires.told in
    let stands = c.sets.invariant.stands some.job some.stands in
    told_few g.T.Telling.has_told some.job some.first (g.K.Sink.told c.sets.output) (g.N.Driven.net c.sets.net) (g.N.Driven.net c.take_out.new.self) c.sets.telling c.sets.set c.take_out.new.into
    stands (c.take_out.ensures.stands some.job stands) (c.sets.invariant.tells some.job some.first some.stands some.is_told) takes

pub sets-preserved : goal.sets-preserved
sets-preserved g c =
    let takes = taken_true c.take_out.result c.sets.set c.take_out.new.into (g.N.Driven.net c.sets.net) (g.N.Driven.net c.take_out.new.self) c.sets-test.true c.take_out.ensures.taken in
    record {
      places = (let some = c.requires.told in
          set_places some.job (g.N.Driven.net c.sets.net) c.take_out.new.into (c.sets.invariant.stands some.job some.stands)
          (λ streams solves. set_shown c.take_out.result some.job streams (g.N.Driven.net c.sets.net) c.take_out.new.into c.sets-test.true (c.take_out.ensures.in_solution some.job streams solves (c.sets.invariant.stands some.job some.stands)))
          ∙ ap (λ (v : NetView). length v.plan.outputs) (sym (taking_leaves_nodes true c.sets.set c.take_out.new.into (g.N.Driven.net c.sets.net) (g.N.Driven.net c.take_out.new.self) takes)));
      left = left_further (g.N.Driven.net c.args.net.now) (g.N.Driven.net c.sets.net) (g.N.Driven.net c.take_out.new.self) c.sets.invariant.left
          (taking_leaves_nodes true c.sets.set c.take_out.new.into (g.N.Driven.net c.sets.net) (g.N.Driven.net c.take_out.new.self) takes);
      stands = λ job h. c.take_out.ensures.stands job (c.sets.invariant.stands job h);
      tells = λ job first h p. told_more g.T.Telling.has_told job first (g.K.Sink.told c.sets.output) (g.K.Sink.told c.tell.new.output) (g.N.Driven.net c.sets.net) (g.N.Driven.net c.take_out.new.self)
          c.sets.telling c.tell.new.self c.sets.set c.take_out.new.into (c.sets.invariant.stands job h) (c.sets.invariant.tells job first h p) takes
          (λ streams solves. set_shown c.take_out.result job streams (g.N.Driven.net c.sets.net) c.take_out.new.into c.sets-test.true (c.take_out.ensures.in_solution job streams solves (c.sets.invariant.stands job h)))
          c.in_ok-tell.ensures.put;
      has = λ job streams h s a. taking_keeps job streams true c.sets.set c.take_out.new.into (g.N.Driven.net c.sets.net) (g.N.Driven.net c.take_out.new.self) (c.sets.invariant.stands job h) s (c.sets.invariant.has job streams h s a) takes;
    }

pub sets-smaller : goal.sets-smaller
sets-smaller g c =
    let takes = taken_true c.take_out.result c.sets.set c.take_out.new.into (g.N.Driven.net c.sets.net) (g.N.Driven.net c.take_out.new.self) c.sets-test.true c.take_out.ensures.taken in
    fewer_to_take c.sets.set c.take_out.new.into (g.N.Driven.net c.sets.net) (g.N.Driven.net c.take_out.new.self)
    (record { job = c.requires.told.job; stands = c.take_out.ensures.stands c.requires.told.job (c.sets.invariant.stands c.requires.told.job c.requires.told.stands) }) takes

pub returns-in_err-tell-clause-places : goal.returns-in_err-tell-clause-places
returns-in_err-tell-clause-places g c =
    let takes = taken_true c.take_out.result c.sets.set c.take_out.new.into (g.N.Driven.net c.sets.net) (g.N.Driven.net c.take_out.new.self) c.sets-test.true c.take_out.ensures.taken in
    let some = c.requires.told in
    set_places some.job (g.N.Driven.net c.sets.net) c.take_out.new.into (c.sets.invariant.stands some.job some.stands)
    (λ streams solves. set_shown c.take_out.result some.job streams (g.N.Driven.net c.sets.net) c.take_out.new.into c.sets-test.true (c.take_out.ensures.in_solution some.job streams solves (c.sets.invariant.stands some.job some.stands)))
    ∙ ap (λ (v : NetView). length v.plan.outputs) (sym (taking_leaves_nodes true c.sets.set c.take_out.new.into (g.N.Driven.net c.sets.net) (g.N.Driven.net c.take_out.new.self) takes))

pub returns-in_err-tell-clause-left : goal.returns-in_err-tell-clause-left
returns-in_err-tell-clause-left g c =
    left_further (g.N.Driven.net c.args.net.now) (g.N.Driven.net c.sets.net) (g.N.Driven.net c.take_out.new.self) c.sets.invariant.left
    (taking_leaves_nodes c.take_out.result c.sets.set c.take_out.new.into (g.N.Driven.net c.sets.net) (g.N.Driven.net c.take_out.new.self) c.take_out.ensures.taken)

pub returns-in_err-tell-clause-stands : goal.returns-in_err-tell-clause-stands
returns-in_err-tell-clause-stands g c = λ job h. c.take_out.ensures.stands job (c.sets.invariant.stands job h)

pub returns-in_err-tell-clause-front : goal.returns-in_err-tell-clause-front
returns-in_err-tell-clause-front g c =
    let is = err_from_is_err_and c.from_residual.result c.from_residual.ensures.1 in
    rw is.1 (λ job first h p.
    told_some_then g.T.Telling.has_told job first (g.K.Sink.told c.sets.output) (g.K.Sink.told c.tell.new.output) (taken_out (g.N.Driven.net c.sets.net)) c.sets.telling c.in_err-tell.ensures.unwritten (c.sets.invariant.tells job first h p))

pub returns-clause-places : goal.returns-clause-places
returns-clause-places g c =
    let same = nothing_changes c.sets.set c.take_out.new.into (g.N.Driven.net c.sets.net) (g.N.Driven.net c.take_out.new.self) (taken_false c.take_out.result c.sets.set c.take_out.new.into (g.N.Driven.net c.sets.net) (g.N.Driven.net c.take_out.new.self) c.sets-test.false c.take_out.ensures.taken) in
    ap length same.1 ∙ c.sets.invariant.places ∙ ap (λ (v : NetView). length v.plan.outputs) (sym same.0)

pub returns-clause-left : goal.returns-clause-left
returns-clause-left g c =
    left_further (g.N.Driven.net c.args.net.now) (g.N.Driven.net c.sets.net) (g.N.Driven.net c.take_out.new.self) c.sets.invariant.left
    (taking_leaves_nodes c.take_out.result c.sets.set c.take_out.new.into (g.N.Driven.net c.sets.net) (g.N.Driven.net c.take_out.new.self) c.take_out.ensures.taken)

pub returns-clause-stands : goal.returns-clause-stands
returns-clause-stands g c = λ job h. c.take_out.ensures.stands job (c.sets.invariant.stands job h)

pub returns-clause-told : goal.returns-clause-told
returns-clause-told g c = λ job first h p.
    let same = nothing_changes c.sets.set c.take_out.new.into (g.N.Driven.net c.sets.net) (g.N.Driven.net c.take_out.new.self) (taken_false c.take_out.result c.sets.set c.take_out.new.into (g.N.Driven.net c.sets.net) (g.N.Driven.net c.take_out.new.self) c.sets-test.false c.take_out.ensures.taken) in
    subst (λ (v : NetView). IsTold g.T.Telling.has_told job.job first (g.K.Sink.told c.sets.output) (taken_out v) c.sets.telling) (sym same.0) (c.sets.invariant.tells job first h p)

pub returns-clause-all : goal.returns-clause-all
returns-clause-all g c = λ job streams h s a.
    let none = taken_false c.take_out.result c.sets.set c.take_out.new.into (g.N.Driven.net c.sets.net) (g.N.Driven.net c.take_out.new.self) c.sets-test.false c.take_out.ensures.taken in
    let same = nothing_changes c.sets.set c.take_out.new.into (g.N.Driven.net c.sets.net) (g.N.Driven.net c.take_out.new.self) none in
    subst (λ (v : NetView). taken_out v ≡ length (settled_outputs v.plan streams)) (sym same.0)
    (all_were_taken job streams c.sets.set c.take_out.new.into (g.N.Driven.net c.sets.net) (g.N.Driven.net c.take_out.new.self) (c.sets.invariant.stands job h) s (c.sets.invariant.has job streams h s a) none)

pub returns-in_err-tell-clause-whole : goal.returns-in_err-tell-clause-whole
returns-in_err-tell-clause-whole g c = takings_whole (g.N.Driven.net c.args.net.now) (g.N.Driven.net c.take_out.new.self) (returns-in_err-tell-clause-left g c)

pub returns-clause-whole : goal.returns-clause-whole
returns-clause-whole g c = takings_whole (g.N.Driven.net c.args.net.now) (g.N.Driven.net c.take_out.new.self) (returns-clause-left g c)
