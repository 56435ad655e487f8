use Rattle.std.proofs.Common.{length, ◌≡◌, Bool, true, false, not, refl, sym, ap, ◌∙◌, subst, arith}
use Rattle.mg_feed.specs.declared.feed_end.BatchEnd.{BatchEnd}
use Rattle.mg_feed.specs.declared.feed_end.BatchEnd.TheVariants.{More, End}
use Rattle.mg_live.specs.Takes.{turns_of, handed_of, outputs_so_far, pieces_behind}
use Rattle.mg_sched.specs.Extends.{for_last}
use Rattle.mg_drive.specs.Batches.{BatchesGoOn}
use Rattle.mg_drive.specs.Code.Live.{LiveGives}
use Rattle.mg_drive.proofs.LiveRounds.{same_frees_went, same_frees_rest, same_frees_there, same_frees_read, same_frees_taken, handed_as, some_did, stands_still, may_round, live_round, live_rests, live_read, round_there, rounds_fall, rounds_stay}
use Rattle.mg_drive.proofs.Moving.{known_now}
use Rattle.mg_drive.proofs.Idling.{all_idle, knows_still, idle_handed, inputs_are_noted}
use Rattle.mg_drive.proofs.RoundComes.{handed_but, round_comes, counted_as, pieces_at_as, inputs_as, rising_as, within_as}
use Rattle.mg_drive.proofs.live.LiveBatches.onward.Goals as goal

pub returns-in-End-clause-onward : goal.returns-in-End-clause-onward
returns-in-End-clause-onward g c = λ began core first source so_far given.
    subst (λ (e : BatchEnd). LiveGives g.N.Driven.laws (g.B.Batches.gives g.N.Driven.laws) (g.B.Batches.came g.N.Driven.laws) g.B.Batches.is_due began.batches (record { batches = c.args.self.now.batches; plan = began.whole.plan.now; whole = c.args.self.now.whole.plan.now; nodes = c.args.self.now.whole.nodes.now; streams = c.args.self.now.whole.streams.now; ended = c.args.self.now.end; rested = c.args.self.now.rested; frees = c.args.self.now.nodes.free; takers = c.args.self.now.nodes.takers.items }) core first source e so_far) c.in-End.is given.given

pub round-requires-clause-may : goal.round-requires-clause-may
round-requires-clause-may g c =
    let some = c.requires.given in
    may_round (g.B.Batches.gives g.N.Driven.laws) (g.B.Batches.came g.N.Driven.laws) g.B.Batches.is_due some.began.batches (record { batches = c.args.self.now.batches; plan = some.began.whole.plan.now; whole = c.args.self.now.whole.plan.now; nodes = c.args.self.now.whole.nodes.now; streams = c.args.self.now.whole.streams.now; ended = c.args.self.now.end; rested = c.args.self.now.rested; frees = c.args.self.now.nodes.free; takers = c.args.self.now.nodes.takers.items }) some.plan some.first some.source c.args.last some.so_far (g.N.Driven.net c.args.net.now) _ _ _ (λ ss a. a) (λ stream number h. h)
    (stands_still (g.B.Batches.gives g.N.Driven.laws) (g.B.Batches.came g.N.Driven.laws) g.B.Batches.is_due some.began.batches (record { batches = c.args.self.now.batches; plan = some.began.whole.plan.now; whole = c.args.self.now.whole.plan.now; nodes = c.args.self.now.whole.nodes.now; streams = c.args.self.now.whole.streams.now; ended = c.args.self.now.end; rested = c.args.self.now.rested; frees = c.args.self.now.nodes.free; takers = c.args.self.now.nodes.takers.items }) some.plan some.first some.source c.args.last some.so_far (g.N.Driven.net c.args.net.now) some.as_given.boxes some.as_given.stands some.as_given.has_rested some.as_given.given) c.requires.there

pub returns-then-did-clause-onward : goal.returns-then-did-clause-onward
returns-then-did-clause-onward g c = λ began core first source so_far given.
    let still = stands_still (g.B.Batches.gives g.N.Driven.laws) (g.B.Batches.came g.N.Driven.laws) g.B.Batches.is_due began.batches (record { batches = c.args.self.now.batches; plan = began.whole.plan.now; whole = c.args.self.now.whole.plan.now; nodes = c.args.self.now.whole.nodes.now; streams = c.args.self.now.whole.streams.now; ended = c.args.self.now.end; rested = c.args.self.now.rested; frees = c.args.self.now.nodes.free; takers = c.args.self.now.nodes.takers.items }) core first source c.args.last so_far (g.N.Driven.net c.args.net.now) given.boxes given.stands given.has_rested given.given in
    let l = still.given in
    let after = turns_of still.streams c.args.self.now.nodes.free l.takens in
    let at = c.in_ok-places.ensures.did still.streams l.takens still.are l.taken in
    let did = (some_did still.streams c.args.self.now.nodes.free l.takens c.args.self.now.nodes.takers.items c.in_ok-places.places true l.taken (ap not (sym c.if-did.true ∙ c.is_empty-none.ensures)) at) in
    let taken = c.in_ok-places.ensures.taken still.streams l.takens still.are l.taken in
    let taken_now = same_frees_taken c.args.self.now.nodes.free c.round.new.self.free after c.round.new.self.takers.items c.in_ok-places.ensures.free taken in
    let dense = pieces_behind (handed_of c.args.self.now.nodes.takers.items) (outputs_so_far c.args.self.now.nodes.free after) in
    let counted = counted_as c.in_ok-places.places c.as_slice-did_at.result.now _ _ c.args.self.now.nodes.free c.round.new.self.free after c.as_slice-did_at.ensures c.in_ok-places.ensures.handed c.in_ok-places.ensures.free
    (handed_but (g.B.Batches.gives g.N.Driven.laws) (g.B.Batches.came g.N.Driven.laws) g.B.Batches.is_due began.batches (record { batches = c.args.self.now.batches; plan = began.whole.plan.now; whole = c.args.self.now.whole.plan.now; nodes = c.args.self.now.whole.nodes.now; streams = c.args.self.now.whole.streams.now; ended = c.args.self.now.end; rested = c.args.self.now.rested; frees = c.args.self.now.nodes.free; takers = c.args.self.now.nodes.takers.items }) core first source c.args.last so_far (g.N.Driven.net c.args.net.now) still c.in_ok-places.places at) in (
      c.in-More.is,
      record {
        more = for_last (length (g.N.Driven.net c.args.net.now).plan.inputs) dense;
        goes = subst (λ (b : Bool). BatchesGoOn (λ inputs. LiveGives g.N.Driven.laws (g.B.Batches.gives g.N.Driven.laws) (g.B.Batches.came g.N.Driven.laws) g.B.Batches.is_due began.batches (record { batches = c.args.self.now.batches; plan = began.whole.plan.now; whole = c.args.self.now.whole.plan.now; nodes = c.args.self.now.whole.nodes.now; streams = c.args.self.now.whole.streams.now; ended = c.args.self.now.end; rested = b; frees = c.hand_on.new.self.free; takers = c.hand_on.new.self.takers.items }) core first source More inputs) core so_far (for_last (length (g.N.Driven.net c.args.net.now).plan.inputs) dense)) (sym c.if-did.true)
            (same_frees_went (g.B.Batches.gives g.N.Driven.laws) (g.B.Batches.came g.N.Driven.laws) g.B.Batches.is_due began.batches (record { batches = c.args.self.now.batches; plan = began.whole.plan.now; whole = c.args.self.now.whole.plan.now; nodes = c.args.self.now.whole.nodes.now; streams = c.args.self.now.whole.streams.now; ended = c.args.self.now.end; rested = c.args.self.now.rested; frees = c.args.self.now.nodes.free; takers = c.args.self.now.nodes.takers.items }) core first source so_far (for_last (length (g.N.Driven.net c.args.net.now).plan.inputs) dense) c.hand_on.new.self.takers.items c.hand_on.new.self.free (c.in_ok-pieces.ensures.free ∙ c.in_ok-places.ensures.free)
            (live_round (g.B.Batches.gives g.N.Driven.laws) (g.B.Batches.came g.N.Driven.laws) g.B.Batches.is_due began.batches (record { batches = c.args.self.now.batches; plan = began.whole.plan.now; whole = c.args.self.now.whole.plan.now; nodes = c.args.self.now.whole.nodes.now; streams = c.args.self.now.whole.streams.now; ended = c.args.self.now.end; rested = c.args.self.now.rested; frees = c.args.self.now.nodes.free; takers = c.args.self.now.nodes.takers.items }) core first source c.args.last so_far dense (g.N.Driven.net c.args.net.now) c.hand_on.new.self.takers.items given.boxes given.stands still did
            (same_frees_taken c.round.new.self.free c.args.self.now.nodes.free after c.hand_on.new.self.takers.items (sym c.in_ok-places.ensures.free) (c.in_ok-pieces.ensures.taken after taken_now))
            (handed_as _ c.args.self.now.nodes.free c.round.new.self.free after (c.in_ok-pieces.ensures.handed after taken_now counted) c.in_ok-places.ensures.free)
            refl));
        comes = round_comes (g.B.Batches.gives g.N.Driven.laws) (g.B.Batches.came g.N.Driven.laws) g.B.Batches.is_due began.batches (record { batches = c.args.self.now.batches; plan = began.whole.plan.now; whole = c.args.self.now.whole.plan.now; nodes = c.args.self.now.whole.nodes.now; streams = c.args.self.now.whole.streams.now; ended = c.args.self.now.end; rested = c.args.self.now.rested; frees = c.args.self.now.nodes.free; takers = c.args.self.now.nodes.takers.items }) core first source c.args.last so_far (g.N.Driven.net c.args.net.now) given.boxes given.stands still c.in_ok-places.places c.in_ok-inputs.inputs c.in_ok-pieces.pieces at
            (pieces_at_as c.in_ok-places.places c.as_slice-did_at.result.now _ _ c.in_ok-pieces.pieces c.args.self.now.nodes.free c.round.new.self.free after c.as_slice-did_at.ensures c.in_ok-places.ensures.handed c.in_ok-places.ensures.free (c.in_ok-pieces.ensures.pieces after taken_now))
            (inputs_as c.in_ok-inputs.inputs c.in_ok-places.places c.as_slice-did_at.result.now c.len-first.result (length c.args.self.now.whole.plan.now.inputs) c.in_ok-inputs.ensures c.len-first.ensures c.as_slice-did_at.ensures);
      },
    )

pub hand_on-requires-clause-rising : goal.hand_on-requires-clause-rising
hand_on-requires-clause-rising g c =
    let some = c.requires.given in
    let still = stands_still (g.B.Batches.gives g.N.Driven.laws) (g.B.Batches.came g.N.Driven.laws) g.B.Batches.is_due some.began.batches (record { batches = c.args.self.now.batches; plan = some.began.whole.plan.now; whole = c.args.self.now.whole.plan.now; nodes = c.args.self.now.whole.nodes.now; streams = c.args.self.now.whole.streams.now; ended = c.args.self.now.end; rested = c.args.self.now.rested; frees = c.args.self.now.nodes.free; takers = c.args.self.now.nodes.takers.items }) some.plan some.first some.source c.args.last some.so_far (g.N.Driven.net c.args.net.now) some.as_given.boxes some.as_given.stands some.as_given.has_rested some.as_given.given in
    let l = still.given in
    rising_as c.in_ok-places.places c.as_slice-did_at.result.now l.takens (turns_of still.streams c.args.self.now.nodes.free l.takens) c.as_slice-did_at.ensures (c.in_ok-places.ensures.did still.streams l.takens still.are l.taken)

pub hand_on-requires-clause-within : goal.hand_on-requires-clause-within
hand_on-requires-clause-within g c =
    let some = c.requires.given in
    let still = stands_still (g.B.Batches.gives g.N.Driven.laws) (g.B.Batches.came g.N.Driven.laws) g.B.Batches.is_due some.began.batches (record { batches = c.args.self.now.batches; plan = some.began.whole.plan.now; whole = c.args.self.now.whole.plan.now; nodes = c.args.self.now.whole.nodes.now; streams = c.args.self.now.whole.streams.now; ended = c.args.self.now.end; rested = c.args.self.now.rested; frees = c.args.self.now.nodes.free; takers = c.args.self.now.nodes.takers.items }) some.plan some.first some.source c.args.last some.so_far (g.N.Driven.net c.args.net.now) some.as_given.boxes some.as_given.stands some.as_given.has_rested some.as_given.given in
    let l = still.given in
    within_as c.in_ok-places.places c.as_slice-did_at.result.now c.args.self.now.nodes.free l.takens (turns_of still.streams c.args.self.now.nodes.free l.takens) c.round.new.self.takers.items c.as_slice-did_at.ensures l.taken.takens_long
    (c.in_ok-places.ensures.taken still.streams l.takens still.are l.taken) (c.in_ok-places.ensures.did still.streams l.takens still.are l.taken)

pub returns-then-did-clause-there : goal.returns-then-did-clause-there
returns-then-did-clause-there g c =
    let some = c.requires.given in
    let still = stands_still (g.B.Batches.gives g.N.Driven.laws) (g.B.Batches.came g.N.Driven.laws) g.B.Batches.is_due some.began.batches (record { batches = c.args.self.now.batches; plan = some.began.whole.plan.now; whole = c.args.self.now.whole.plan.now; nodes = c.args.self.now.whole.nodes.now; streams = c.args.self.now.whole.streams.now; ended = c.args.self.now.end; rested = c.args.self.now.rested; frees = c.args.self.now.nodes.free; takers = c.args.self.now.nodes.takers.items }) some.plan some.first some.source c.args.last some.so_far (g.N.Driven.net c.args.net.now) some.as_given.boxes some.as_given.stands some.as_given.has_rested some.as_given.given in
    let l = still.given in
    let after = turns_of still.streams c.args.self.now.nodes.free l.takens in
    let taken = c.in_ok-places.ensures.taken still.streams l.takens still.are l.taken in
    same_frees_there (g.N.Driven.net c.args.net.now) c.args.self.now.nodes.free c.hand_on.new.self.free c.hand_on.new.self.takers.items (c.in_ok-pieces.ensures.free ∙ c.in_ok-places.ensures.free) (round_there (g.N.Driven.net c.args.net.now) still.streams c.args.self.now.nodes.free l.takens c.args.self.now.nodes.takers.items c.hand_on.new.self.takers.items l.taken (same_frees_taken c.round.new.self.free c.args.self.now.nodes.free after c.hand_on.new.self.takers.items (sym c.in_ok-places.ensures.free) (c.in_ok-pieces.ensures.taken after (same_frees_taken c.args.self.now.nodes.free c.round.new.self.free after c.round.new.self.takers.items c.in_ok-places.ensures.free taken))) c.requires.there)

pub returns-then-did-clause-leaves : goal.returns-then-did-clause-leaves
returns-then-did-clause-leaves g c =
    let some = c.requires.given in
    let still = stands_still (g.B.Batches.gives g.N.Driven.laws) (g.B.Batches.came g.N.Driven.laws) g.B.Batches.is_due some.began.batches (record { batches = c.args.self.now.batches; plan = some.began.whole.plan.now; whole = c.args.self.now.whole.plan.now; nodes = c.args.self.now.whole.nodes.now; streams = c.args.self.now.whole.streams.now; ended = c.args.self.now.end; rested = c.args.self.now.rested; frees = c.args.self.now.nodes.free; takers = c.args.self.now.nodes.takers.items }) some.plan some.first some.source c.args.last some.so_far (g.N.Driven.net c.args.net.now) some.as_given.boxes some.as_given.stands some.as_given.has_rested some.as_given.given in
    let l = still.given in
    let after = turns_of still.streams c.args.self.now.nodes.free l.takens in
    let did = (some_did still.streams c.args.self.now.nodes.free l.takens c.args.self.now.nodes.takers.items c.in_ok-places.places true l.taken (ap not (sym c.if-did.true ∙ c.is_empty-none.ensures)) (c.in_ok-places.ensures.did still.streams l.takens still.are l.taken)) in
    let taken = c.in_ok-places.ensures.taken still.streams l.takens still.are l.taken in
    let fewer = rounds_fall still.streams c.args.self.now.nodes.free l.takens c.args.self.now.nodes.takers.items c.hand_on.new.self.takers.items l.taken (same_frees_taken c.round.new.self.free c.args.self.now.nodes.free after c.hand_on.new.self.takers.items (sym c.in_ok-places.ensures.free) (c.in_ok-pieces.ensures.taken after (same_frees_taken c.args.self.now.nodes.free c.round.new.self.free after c.round.new.self.takers.items c.in_ok-places.ensures.free taken))) did in
    omega (arith, fewer)

pub returns-in-Some-clause-onward : goal.returns-in-Some-clause-onward
returns-in-Some-clause-onward g c = λ began core first source so_far given.
    let still = stands_still (g.B.Batches.gives g.N.Driven.laws) (g.B.Batches.came g.N.Driven.laws) g.B.Batches.is_due began.batches (record { batches = c.args.self.now.batches; plan = began.whole.plan.now; whole = c.args.self.now.whole.plan.now; nodes = c.args.self.now.whole.nodes.now; streams = c.args.self.now.whole.streams.now; ended = c.args.self.now.end; rested = c.args.self.now.rested; frees = c.args.self.now.nodes.free; takers = c.args.self.now.nodes.takers.items }) core first source c.args.last so_far (g.N.Driven.net c.args.net.now) given.boxes given.stands given.has_rested given.given in
    let l = still.given in
    let after = turns_of still.streams c.args.self.now.nodes.free l.takens in
    let same : after ≡ l.takens = (some_did still.streams c.args.self.now.nodes.free l.takens c.args.self.now.nodes.takers.items c.in_ok-places.places false l.taken (ap not (sym c.if-did.false ∙ c.is_empty-none.ensures)) (c.in_ok-places.ensures.did still.streams l.takens still.are l.taken)) in
    let taken = c.in_ok-places.ensures.taken still.streams l.takens still.are l.taken in
    let now = live_rests (g.B.Batches.gives g.N.Driven.laws) (g.B.Batches.came g.N.Driven.laws) g.B.Batches.is_due began.batches (record { batches = c.args.self.now.batches; plan = began.whole.plan.now; whole = c.args.self.now.whole.plan.now; nodes = c.args.self.now.whole.nodes.now; streams = c.args.self.now.whole.streams.now; ended = c.args.self.now.end; rested = c.args.self.now.rested; frees = c.args.self.now.nodes.free; takers = c.args.self.now.nodes.takers.items }) core first source c.args.last so_far (g.N.Driven.net c.args.net.now) c.round.new.self.takers.items still same taken c.in_ok-places.ensures.handed c.in-More.is in
    subst (λ (b : Bool). LiveGives g.N.Driven.laws (g.B.Batches.gives g.N.Driven.laws) (g.B.Batches.came g.N.Driven.laws) g.B.Batches.is_due began.batches (record { batches = c.args.self.now.batches; plan = began.whole.plan.now; whole = c.args.self.now.whole.plan.now; nodes = c.args.self.now.whole.nodes.now; streams = c.args.self.now.whole.streams.now; ended = c.args.self.now.end; rested = b; frees = c.round.new.self.free; takers = c.round.new.self.takers.items }) core first source (End c.in-Some.end) so_far) (sym c.if-did.false)
    (same_frees_rest (g.B.Batches.gives g.N.Driven.laws) (g.B.Batches.came g.N.Driven.laws) g.B.Batches.is_due began.batches (record { batches = c.args.self.now.batches; plan = began.whole.plan.now; whole = c.args.self.now.whole.plan.now; nodes = c.args.self.now.whole.nodes.now; streams = c.args.self.now.whole.streams.now; ended = c.args.self.now.end; rested = c.args.self.now.rested; frees = c.args.self.now.nodes.free; takers = c.args.self.now.nodes.takers.items }) core first source (End c.in-Some.end) so_far c.round.new.self.takers.items c.round.new.self.free c.in_ok-places.ensures.free (now (End c.in-Some.end) (c.in-Some.is, refl)))

pub returns-in-Some-clause-there : goal.returns-in-Some-clause-there
returns-in-Some-clause-there g c =
    let some = c.requires.given in
    let still = stands_still (g.B.Batches.gives g.N.Driven.laws) (g.B.Batches.came g.N.Driven.laws) g.B.Batches.is_due some.began.batches (record { batches = c.args.self.now.batches; plan = some.began.whole.plan.now; whole = c.args.self.now.whole.plan.now; nodes = c.args.self.now.whole.nodes.now; streams = c.args.self.now.whole.streams.now; ended = c.args.self.now.end; rested = c.args.self.now.rested; frees = c.args.self.now.nodes.free; takers = c.args.self.now.nodes.takers.items }) some.plan some.first some.source c.args.last some.so_far (g.N.Driven.net c.args.net.now) some.as_given.boxes some.as_given.stands some.as_given.has_rested some.as_given.given in
    let l = still.given in
    let taken = c.in_ok-places.ensures.taken still.streams l.takens still.are l.taken in
    same_frees_there (g.N.Driven.net c.args.net.now) c.args.self.now.nodes.free c.round.new.self.free c.round.new.self.takers.items c.in_ok-places.ensures.free (round_there (g.N.Driven.net c.args.net.now) still.streams c.args.self.now.nodes.free l.takens c.args.self.now.nodes.takers.items c.round.new.self.takers.items l.taken taken c.requires.there)

pub returns-in-Some-clause-leaves : goal.returns-in-Some-clause-leaves
returns-in-Some-clause-leaves g c =
    let some = c.requires.given in
    let still = stands_still (g.B.Batches.gives g.N.Driven.laws) (g.B.Batches.came g.N.Driven.laws) g.B.Batches.is_due some.began.batches (record { batches = c.args.self.now.batches; plan = some.began.whole.plan.now; whole = c.args.self.now.whole.plan.now; nodes = c.args.self.now.whole.nodes.now; streams = c.args.self.now.whole.streams.now; ended = c.args.self.now.end; rested = c.args.self.now.rested; frees = c.args.self.now.nodes.free; takers = c.args.self.now.nodes.takers.items }) some.plan some.first some.source c.args.last some.so_far (g.N.Driven.net c.args.net.now) some.as_given.boxes some.as_given.stands some.as_given.has_rested some.as_given.given in
    let l = still.given in
    let after = turns_of still.streams c.args.self.now.nodes.free l.takens in
    let same : after ≡ l.takens = (some_did still.streams c.args.self.now.nodes.free l.takens c.args.self.now.nodes.takers.items c.in_ok-places.places false l.taken (ap not (sym c.if-did.false ∙ c.is_empty-none.ensures)) (c.in_ok-places.ensures.did still.streams l.takens still.are l.taken)) in
    let taken = c.in_ok-places.ensures.taken still.streams l.takens still.are l.taken in
    let equal = rounds_stay still.streams c.args.self.now.nodes.free l.takens c.args.self.now.nodes.takers.items c.round.new.self.takers.items l.taken taken same in
    omega (arith, equal)

pub returns-clause-onward : goal.returns-clause-onward
returns-clause-onward g c = λ began core first source so_far given.
    let still = stands_still (g.B.Batches.gives g.N.Driven.laws) (g.B.Batches.came g.N.Driven.laws) g.B.Batches.is_due began.batches (record { batches = c.args.self.now.batches; plan = began.whole.plan.now; whole = c.args.self.now.whole.plan.now; nodes = c.args.self.now.whole.nodes.now; streams = c.args.self.now.whole.streams.now; ended = c.args.self.now.end; rested = c.args.self.now.rested; frees = c.args.self.now.nodes.free; takers = c.args.self.now.nodes.takers.items }) core first source c.args.last so_far (g.N.Driven.net c.args.net.now) given.boxes given.stands given.has_rested given.given in
    let l = still.given in
    let after = turns_of still.streams c.args.self.now.nodes.free l.takens in
    let same : after ≡ l.takens = (some_did still.streams c.args.self.now.nodes.free l.takens c.args.self.now.nodes.takers.items c.in_ok-places.places false l.taken (ap not (sym c.if-did.false ∙ c.is_empty-none.ensures)) (c.in_ok-places.ensures.did still.streams l.takens still.are l.taken)) in
    let taken = c.in_ok-places.ensures.taken still.streams l.takens still.are l.taken in
    let now = live_rests (g.B.Batches.gives g.N.Driven.laws) (g.B.Batches.came g.N.Driven.laws) g.B.Batches.is_due began.batches (record { batches = c.args.self.now.batches; plan = began.whole.plan.now; whole = c.args.self.now.whole.plan.now; nodes = c.args.self.now.whole.nodes.now; streams = c.args.self.now.whole.streams.now; ended = c.args.self.now.end; rested = c.args.self.now.rested; frees = c.args.self.now.nodes.free; takers = c.args.self.now.nodes.takers.items }) core first source c.args.last so_far (g.N.Driven.net c.args.net.now) c.round.new.self.takers.items still same taken c.in_ok-places.ensures.handed c.in-More.is in
    record {
      more = c.in-More.is;
      given = subst (λ (b : Bool). LiveGives g.N.Driven.laws (g.B.Batches.gives g.N.Driven.laws) (g.B.Batches.came g.N.Driven.laws) g.B.Batches.is_due began.batches (record { batches = c.args.self.now.batches; plan = began.whole.plan.now; whole = c.args.self.now.whole.plan.now; nodes = c.args.self.now.whole.nodes.now; streams = c.args.self.now.whole.streams.now; ended = c.args.self.now.end; rested = b; frees = c.round.new.self.free; takers = c.round.new.self.takers.items }) core first source More so_far) (sym c.if-did.false)
          (same_frees_rest (g.B.Batches.gives g.N.Driven.laws) (g.B.Batches.came g.N.Driven.laws) g.B.Batches.is_due began.batches (record { batches = c.args.self.now.batches; plan = began.whole.plan.now; whole = c.args.self.now.whole.plan.now; nodes = c.args.self.now.whole.nodes.now; streams = c.args.self.now.whole.streams.now; ended = c.args.self.now.end; rested = c.args.self.now.rested; frees = c.args.self.now.nodes.free; takers = c.args.self.now.nodes.takers.items }) core first source More so_far c.round.new.self.takers.items c.round.new.self.free c.in_ok-places.ensures.free (now More tt));
      due = (c.in-None.is, c.if-did.false);
      read = same_frees_read (g.N.Driven.net c.args.net.now) c.args.self.now.nodes.free c.round.new.self.free c.round.new.self.takers.items c.in_ok-places.ensures.free (live_read (g.B.Batches.gives g.N.Driven.laws) (g.B.Batches.came g.N.Driven.laws) g.B.Batches.is_due began.batches (record { batches = c.args.self.now.batches; plan = began.whole.plan.now; whole = c.args.self.now.whole.plan.now; nodes = c.args.self.now.whole.nodes.now; streams = c.args.self.now.whole.streams.now; ended = c.args.self.now.end; rested = c.args.self.now.rested; frees = c.args.self.now.nodes.free; takers = c.args.self.now.nodes.takers.items }) core first source c.args.last so_far (g.N.Driven.net c.args.net.now) c.round.new.self.takers.items still same taken c.requires.there);
    }

pub returns-clause-there : goal.returns-clause-there
returns-clause-there g c =
    let some = c.requires.given in
    let still = stands_still (g.B.Batches.gives g.N.Driven.laws) (g.B.Batches.came g.N.Driven.laws) g.B.Batches.is_due some.began.batches (record { batches = c.args.self.now.batches; plan = some.began.whole.plan.now; whole = c.args.self.now.whole.plan.now; nodes = c.args.self.now.whole.nodes.now; streams = c.args.self.now.whole.streams.now; ended = c.args.self.now.end; rested = c.args.self.now.rested; frees = c.args.self.now.nodes.free; takers = c.args.self.now.nodes.takers.items }) some.plan some.first some.source c.args.last some.so_far (g.N.Driven.net c.args.net.now) some.as_given.boxes some.as_given.stands some.as_given.has_rested some.as_given.given in
    let l = still.given in
    let taken = c.in_ok-places.ensures.taken still.streams l.takens still.are l.taken in
    same_frees_there (g.N.Driven.net c.args.net.now) c.args.self.now.nodes.free c.round.new.self.free c.round.new.self.takers.items c.in_ok-places.ensures.free (round_there (g.N.Driven.net c.args.net.now) still.streams c.args.self.now.nodes.free l.takens c.args.self.now.nodes.takers.items c.round.new.self.takers.items l.taken taken c.requires.there)

pub returns-clause-leaves : goal.returns-clause-leaves
returns-clause-leaves g c =
    let some = c.requires.given in
    let still = stands_still (g.B.Batches.gives g.N.Driven.laws) (g.B.Batches.came g.N.Driven.laws) g.B.Batches.is_due some.began.batches (record { batches = c.args.self.now.batches; plan = some.began.whole.plan.now; whole = c.args.self.now.whole.plan.now; nodes = c.args.self.now.whole.nodes.now; streams = c.args.self.now.whole.streams.now; ended = c.args.self.now.end; rested = c.args.self.now.rested; frees = c.args.self.now.nodes.free; takers = c.args.self.now.nodes.takers.items }) some.plan some.first some.source c.args.last some.so_far (g.N.Driven.net c.args.net.now) some.as_given.boxes some.as_given.stands some.as_given.has_rested some.as_given.given in
    let l = still.given in
    let after = turns_of still.streams c.args.self.now.nodes.free l.takens in
    let same : after ≡ l.takens = (some_did still.streams c.args.self.now.nodes.free l.takens c.args.self.now.nodes.takers.items c.in_ok-places.places false l.taken (ap not (sym c.if-did.false ∙ c.is_empty-none.ensures)) (c.in_ok-places.ensures.did still.streams l.takens still.are l.taken)) in
    let taken = c.in_ok-places.ensures.taken still.streams l.takens still.are l.taken in
    let equal = rounds_stay still.streams c.args.self.now.nodes.free l.takens c.args.self.now.nodes.takers.items c.round.new.self.takers.items l.taken taken same in
    omega (arith, equal)

pub round-requires-clause-idle : goal.round-requires-clause-idle
round-requires-clause-idle g c = λ ss are.
    let some = c.requires.given in
    let still = stands_still (g.B.Batches.gives g.N.Driven.laws) (g.B.Batches.came g.N.Driven.laws) g.B.Batches.is_due some.began.batches (record { batches = c.args.self.now.batches; plan = some.began.whole.plan.now; whole = c.args.self.now.whole.plan.now; nodes = c.args.self.now.whole.nodes.now; streams = c.args.self.now.whole.streams.now; ended = c.args.self.now.end; rested = c.args.self.now.rested; frees = c.args.self.now.nodes.free; takers = c.args.self.now.nodes.takers.items }) some.plan some.first some.source c.args.last some.so_far (g.N.Driven.net c.args.net.now) some.as_given.boxes some.as_given.stands some.as_given.has_rested some.as_given.given in
    let l = still.given in
    all_idle c.args.self.now.readers c.args.self.now.nodes.free l.takens c.args.self.now.nodes.takers.items c.args.self.now.due c.wake.new.due c.args.moved.now (g.N.Driven.net c.args.net.now) ss l.taken c.requires.there c.requires.knows are c.wake.ensures.woken c.wake.ensures.others

pub returns-in-Some-clause-knows : goal.returns-in-Some-clause-knows
returns-in-Some-clause-knows g c =
    let some = c.requires.given in
    let still = stands_still (g.B.Batches.gives g.N.Driven.laws) (g.B.Batches.came g.N.Driven.laws) g.B.Batches.is_due some.began.batches (record { batches = c.args.self.now.batches; plan = some.began.whole.plan.now; whole = c.args.self.now.whole.plan.now; nodes = c.args.self.now.whole.nodes.now; streams = c.args.self.now.whole.streams.now; ended = c.args.self.now.end; rested = c.args.self.now.rested; frees = c.args.self.now.nodes.free; takers = c.args.self.now.nodes.takers.items }) some.plan some.first some.source c.args.last some.so_far (g.N.Driven.net c.args.net.now) some.as_given.boxes some.as_given.stands some.as_given.has_rested some.as_given.given in
    let l = still.given in
    let taken = same_frees_taken c.args.self.now.nodes.free c.round.new.self.free (turns_of still.streams c.args.self.now.nodes.free l.takens) c.round.new.self.takers.items c.in_ok-places.ensures.free (c.in_ok-places.ensures.taken still.streams l.takens still.are l.taken) in
    known_now _ _ (g.N.Driven.net c.args.net.now)
    (knows_still c.args.self.now.readers c.args.self.now.nodes.free c.round.new.self.free _ c.args.self.now.nodes.takers.items c.round.new.self.takers.items c.args.self.now.due c.round.new.due c.args.moved.now (g.N.Driven.net c.args.net.now) still.streams c.in_ok-places.ensures.free taken (returns-in-Some-clause-there g c) c.requires.knows still.are (c.in_ok-places.ensures.idle still.streams still.are))

pub returns-clause-knows : goal.returns-clause-knows
returns-clause-knows g c =
    let some = c.requires.given in
    let still = stands_still (g.B.Batches.gives g.N.Driven.laws) (g.B.Batches.came g.N.Driven.laws) g.B.Batches.is_due some.began.batches (record { batches = c.args.self.now.batches; plan = some.began.whole.plan.now; whole = c.args.self.now.whole.plan.now; nodes = c.args.self.now.whole.nodes.now; streams = c.args.self.now.whole.streams.now; ended = c.args.self.now.end; rested = c.args.self.now.rested; frees = c.args.self.now.nodes.free; takers = c.args.self.now.nodes.takers.items }) some.plan some.first some.source c.args.last some.so_far (g.N.Driven.net c.args.net.now) some.as_given.boxes some.as_given.stands some.as_given.has_rested some.as_given.given in
    let l = still.given in
    let taken = same_frees_taken c.args.self.now.nodes.free c.round.new.self.free (turns_of still.streams c.args.self.now.nodes.free l.takens) c.round.new.self.takers.items c.in_ok-places.ensures.free (c.in_ok-places.ensures.taken still.streams l.takens still.are l.taken) in
    known_now _ _ (g.N.Driven.net c.args.net.now)
    (knows_still c.args.self.now.readers c.args.self.now.nodes.free c.round.new.self.free _ c.args.self.now.nodes.takers.items c.round.new.self.takers.items c.args.self.now.due c.round.new.due c.args.moved.now (g.N.Driven.net c.args.net.now) still.streams c.in_ok-places.ensures.free taken (returns-clause-there g c) c.requires.knows still.are (c.in_ok-places.ensures.idle still.streams still.are))

pub returns-then-did-clause-knows : goal.returns-then-did-clause-knows
returns-then-did-clause-knows g c =
    let some = c.requires.given in
    let still = stands_still (g.B.Batches.gives g.N.Driven.laws) (g.B.Batches.came g.N.Driven.laws) g.B.Batches.is_due some.began.batches (record { batches = c.args.self.now.batches; plan = some.began.whole.plan.now; whole = c.args.self.now.whole.plan.now; nodes = c.args.self.now.whole.nodes.now; streams = c.args.self.now.whole.streams.now; ended = c.args.self.now.end; rested = c.args.self.now.rested; frees = c.args.self.now.nodes.free; takers = c.args.self.now.nodes.takers.items }) some.plan some.first some.source c.args.last some.so_far (g.N.Driven.net c.args.net.now) some.as_given.boxes some.as_given.stands some.as_given.has_rested some.as_given.given in
    let l = still.given in
    let after = turns_of still.streams c.args.self.now.nodes.free l.takens in
    let taken = same_frees_taken c.args.self.now.nodes.free c.round.new.self.free after c.round.new.self.takers.items c.in_ok-places.ensures.free (c.in_ok-places.ensures.taken still.streams l.takens still.are l.taken) in
    let handed = same_frees_taken c.round.new.self.free c.hand_on.new.self.free after c.hand_on.new.self.takers.items c.in_ok-pieces.ensures.free (c.in_ok-pieces.ensures.taken after taken) in
    known_now _ _ (g.N.Driven.net c.args.net.now)
    (knows_still c.args.self.now.readers c.args.self.now.nodes.free c.hand_on.new.self.free after c.args.self.now.nodes.takers.items c.hand_on.new.self.takers.items c.args.self.now.due c.round.new.due c.args.moved.now (g.N.Driven.net c.args.net.now) still.streams (c.in_ok-pieces.ensures.free ∙ c.in_ok-places.ensures.free) handed (returns-then-did-clause-there g c) c.requires.knows still.are
    (idle_handed still.streams c.args.self.now.nodes.free c.round.new.self.takers.items c.hand_on.new.self.takers.items c.round.new.due c.in_ok-places.places c.as_slice-did_at.result.now c.as_slice-did_at.ensures c.in_ok-places.ensures.due c.in_ok-pieces.ensures.others (c.in_ok-places.ensures.idle still.streams still.are)))

pub returns-then-did-clause-noted : goal.returns-then-did-clause-noted
returns-then-did-clause-noted g c = inputs_are_noted c.args.self.now.readers c.args.self.now.nodes.free c.args.self.now.due c.args.self.now.nodes.takers.items c.args.moved.now c.note_inputs.new.self (g.N.Driven.net c.args.net.now) c.in_ok-inputs.inputs c.as_slice.result.now c.as_slice.ensures c.requires.knows c.note_inputs.ensures.noted
