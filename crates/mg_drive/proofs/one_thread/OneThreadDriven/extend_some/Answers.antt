use Rattle.std.proofs.Common.{ℕ, List, length, ap, sym, subst}
use Rattle.mg_calc.specs.declared.inputs.Inputs.{Inputs}
use Rattle.mg_sched.specs.Extends.{MayGoOnAt, ComesAt}
use Rattle.mg_sched.specs.Taking.{taken_out}
use Rattle.mg_sched.proofs.NothingGone.{extends_keep as extends_whole}
use Rattle.mg_drive.proofs.Looping.{extends_keep, extends_run, extends_taken, same_keeps, same_runs}
use Rattle.mg_drive.specs.Nets.{IsNoInput}
use Rattle.mg_drive.proofs.Moving.{others_stay}
use Rattle.mg_drive.proofs.StillThere.{same_whole}
use Rattle.mg_drive.proofs.one_thread.OneThreadDriven.extend_some.Goals as goal

pub extend_some-requires : goal.extend_some-requires
extend_some-requires g c = record { may = subst (λ (ns : List ℕ). MayGoOnAt g.C.NodeCalculator.laws ns c.args.pieces.now c.args.self.now.net) (sym c.as_slice.ensures) c.requires.may }

pub returns-in_err-extend_some-clause-running : goal.returns-in_err-extend_some-clause-running
returns-in_err-extend_some-clause-running g c = same_runs c.args.self.now.net c.extend_some.new.self c.in_err-extend_some.ensures.unchanged

pub returns-in_err-extend_some-clause-keeps : goal.returns-in_err-extend_some-clause-keeps
returns-in_err-extend_some-clause-keeps g c = same_keeps c.args.self.now.net c.extend_some.new.self c.in_err-extend_some.ensures.unchanged

pub returns-in_err-extend_some-clause-taken : goal.returns-in_err-extend_some-clause-taken
returns-in_err-extend_some-clause-taken g c = ap taken_out c.in_err-extend_some.ensures.unchanged

pub returns-in_err-extend_some-clause-whole : goal.returns-in_err-extend_some-clause-whole
returns-in_err-extend_some-clause-whole g c = same_whole c.args.self.now.net c.extend_some.new.self c.in_err-extend_some.ensures.unchanged

pub returns-clause-running : goal.returns-clause-running
returns-clause-running g c =
    let may = c.requires.may in
    let comes = subst (λ (ns : List ℕ). ComesAt ns c.args.pieces.now may.first.job.inputs.streams may.more) (sym c.as_slice.ensures) may.comes in
    extends_run may.more c.args.self.now.net c.extend_some.new.self (c.in_ok-extend_some.ensures.extends may.more may.first may.later comes may.goes_on may.stands)

pub returns-clause-keeps : goal.returns-clause-keeps
returns-clause-keeps g c =
    let may = c.requires.may in
    let comes = subst (λ (ns : List ℕ). ComesAt ns c.args.pieces.now may.first.job.inputs.streams may.more) (sym c.as_slice.ensures) may.comes in
    extends_keep may.more c.args.self.now.net c.extend_some.new.self (c.in_ok-extend_some.ensures.extends may.more may.first may.later comes may.goes_on may.stands)

pub returns-clause-taken : goal.returns-clause-taken
returns-clause-taken g c =
    let may = c.requires.may in
    let comes = subst (λ (ns : List ℕ). ComesAt ns c.args.pieces.now may.first.job.inputs.streams may.more) (sym c.as_slice.ensures) may.comes in
    extends_taken may.more c.args.self.now.net c.extend_some.new.self (c.in_ok-extend_some.ensures.extends may.more may.first may.later comes may.goes_on may.stands)

pub returns-clause-whole : goal.returns-clause-whole
returns-clause-whole g c = λ stream number.
    (let may = c.requires.may in
    let comes = subst (λ (ns : List ℕ). ComesAt ns c.args.pieces.now may.first.job.inputs.streams may.more) (sym c.as_slice.ensures) may.comes in
    extends_whole may.more c.args.self.now.net c.extend_some.new.self stream number (record { first = may.first; later = may.later; stands = may.stands; goes_on = may.goes_on })
    (c.in_ok-extend_some.ensures.extends may.more may.first may.later comes may.goes_on may.stands))

pub returns-clause-stands : goal.returns-clause-stands
returns-clause-stands g c = λ more first later comes goes_on stands.
    c.in_ok-extend_some.ensures.stands more first later (subst (λ (ns : List ℕ). ComesAt ns c.args.pieces.now first.job.inputs.streams more) (sym c.as_slice.ensures) comes) goes_on stands

pub returns-clause-others : goal.returns-clause-others
returns-clause-others g c = λ place none.
    (let may = c.requires.may in
    let comes = subst (λ (ns : List ℕ). ComesAt ns c.args.pieces.now may.first.job.inputs.streams may.more) (sym c.as_slice.ensures) may.comes in
    others_stay may.more may.first may.later c.as_slice.result.now c.args.pieces.now c.args.self.now.net c.extend_some.new.self place comes may.goes_on may.stands (c.in_ok-extend_some.ensures.extends may.more may.first may.later comes may.goes_on may.stands)
    (subst (λ (ns : List ℕ). IsNoInput (length c.args.self.now.net.plan.nodes) ns place) (sym c.as_slice.ensures) none))
