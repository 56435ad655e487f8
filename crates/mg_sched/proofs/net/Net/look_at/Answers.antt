use Rattle.std.proofs.Common.{◌≤◌, ◌||◌, ℕ, sym, subst}
use Rattle.mg_sched.proofs.Becoming.{becomes_runs, becomes_some, becomes_trans}
use Rattle.mg_sched.proofs.Sweeping.{goes_then, agenda_on, agenda_back, both_same, same_places}
use Rattle.mg_sched.proofs.HeardOn.{heard_then, heard_then_some, on_err}
use Rattle.mg_sched.proofs.Touching.{notes_then}
use Rattle.mg_sched.proofs.RestingPlaces.{place_rests}
use Rattle.mg_sched.proofs.net.Net.look_at.Goals as goal

pub look_from-requires-clause-running : goal.look_from-requires-clause-running
look_from-requires-clause-running g c = becomes_runs c.args.self.now c.look_into.new.self c.requires.running c.in_ok-came.ensures.becomes

pub look_from-requires-clause-stands : goal.look_from-requires-clause-stands
look_from-requires-clause-stands g c = becomes_some c.args.self.now c.look_into.new.self c.requires.running c.requires.stands c.in_ok-came.ensures.becomes

pub look_from-requires-clause-agenda : goal.look_from-requires-clause-agenda
look_from-requires-clause-agenda g c = agenda_on c.args.self.now c.look_into.new.self c.look_into.new.agenda c.in_ok-came.ensures.becomes c.in_ok-came.ensures.agenda

pub look_from-requires-clause-there : goal.look_from-requires-clause-there
look_from-requires-clause-there g c = subst (λ (n : ℕ). c.args.place ≤ n) (sym (same_places c.args.self.now.plan c.args.agenda.now c.look_into.new.agenda c.requires.agenda c.in_ok-came.ensures.agenda)) c.requires.there

pub look_on-requires-clause-running : goal.look_on-requires-clause-running
look_on-requires-clause-running g c = becomes_runs c.args.self.now c.look_from.new.self c.requires.running (becomes_trans c.args.self.now c.look_into.new.self c.look_from.new.self c.in_ok-came.ensures.becomes c.in_ok-sent.ensures.becomes)

pub look_on-requires-clause-stands : goal.look_on-requires-clause-stands
look_on-requires-clause-stands g c = becomes_some c.args.self.now c.look_from.new.self c.requires.running c.requires.stands (becomes_trans c.args.self.now c.look_into.new.self c.look_from.new.self c.in_ok-came.ensures.becomes c.in_ok-sent.ensures.becomes)

pub look_on-requires-clause-agenda : goal.look_on-requires-clause-agenda
look_on-requires-clause-agenda g c = agenda_on c.look_into.new.self c.look_from.new.self c.look_from.new.agenda c.in_ok-sent.ensures.becomes c.in_ok-sent.ensures.agenda

pub returns-in_err-sent-clause-becomes : goal.returns-in_err-sent-clause-becomes
returns-in_err-sent-clause-becomes g c = becomes_trans c.args.self.now c.look_into.new.self c.look_from.new.self c.in_ok-came.ensures.becomes c.in_err-sent.ensures.becomes

pub returns-in_err-sent-clause-agenda : goal.returns-in_err-sent-clause-agenda
returns-in_err-sent-clause-agenda g c = agenda_back c.args.self.now c.look_into.new.self c.look_from.new.agenda c.in_ok-came.ensures.becomes c.in_err-sent.ensures.agenda

pub returns-in_err-sent-clause-heard_some : goal.returns-in_err-sent-clause-heard_some
returns-in_err-sent-clause-heard_some g c = on_err c.from_residual-in_err-sent.result (heard_then_some g.C.NodeCalculator.laws g.H.Hears.has_heard c.args.hearer.now c.look_into.new.hearer c.look_from.new.hearer c.args.self.now c.look_into.new.self c.in_ok-came.ensures.heard c.in_err-sent.ensures.heard_some)

pub returns-in_err-worked-clause-becomes : goal.returns-in_err-worked-clause-becomes
returns-in_err-worked-clause-becomes g c = becomes_trans c.args.self.now c.look_from.new.self c.look_on.new.self (becomes_trans c.args.self.now c.look_into.new.self c.look_from.new.self c.in_ok-came.ensures.becomes c.in_ok-sent.ensures.becomes) c.in_err-worked.ensures.becomes

pub returns-in_err-worked-clause-agenda : goal.returns-in_err-worked-clause-agenda
returns-in_err-worked-clause-agenda g c = agenda_back c.args.self.now c.look_from.new.self c.look_on.new.agenda (becomes_trans c.args.self.now c.look_into.new.self c.look_from.new.self c.in_ok-came.ensures.becomes c.in_ok-sent.ensures.becomes) c.in_err-worked.ensures.agenda

pub returns-in_err-worked-clause-heard_some : goal.returns-in_err-worked-clause-heard_some
returns-in_err-worked-clause-heard_some g c = on_err c.from_residual-in_err-worked.result (heard_then_some g.C.NodeCalculator.laws g.H.Hears.has_heard c.args.hearer.now c.look_from.new.hearer c.look_on.new.hearer c.args.self.now c.look_from.new.self (heard_then g.C.NodeCalculator.laws g.H.Hears.has_heard c.args.hearer.now c.look_into.new.hearer c.look_from.new.hearer c.args.self.now c.look_into.new.self c.look_from.new.self c.in_ok-came.ensures.heard c.in_ok-sent.ensures.heard) c.in_err-worked.ensures.heard_some)

pub returns-clause-becomes : goal.returns-clause-becomes
returns-clause-becomes g c = becomes_trans c.args.self.now c.look_from.new.self c.look_on.new.self (becomes_trans c.args.self.now c.look_into.new.self c.look_from.new.self c.in_ok-came.ensures.becomes c.in_ok-sent.ensures.becomes) c.in_ok-worked.ensures.becomes

pub returns-clause-heard : goal.returns-clause-heard
returns-clause-heard g c = heard_then g.C.NodeCalculator.laws g.H.Hears.has_heard c.args.hearer.now c.look_from.new.hearer c.look_on.new.hearer c.args.self.now c.look_from.new.self c.look_on.new.self (heard_then g.C.NodeCalculator.laws g.H.Hears.has_heard c.args.hearer.now c.look_into.new.hearer c.look_from.new.hearer c.args.self.now c.look_into.new.self c.look_from.new.self c.in_ok-came.ensures.heard c.in_ok-sent.ensures.heard) c.in_ok-worked.ensures.heard

pub returns-clause-goes : goal.returns-clause-goes
returns-clause-goes g c = goes_then (c.in_ok-came.came || c.in_ok-sent.sent) c.in_ok-worked.worked c.args.self.now c.look_from.new.self c.look_on.new.self (goes_then c.in_ok-came.came c.in_ok-sent.sent c.args.self.now c.look_into.new.self c.look_from.new.self c.in_ok-came.ensures.goes c.in_ok-sent.ensures.goes) c.in_ok-worked.ensures.goes

pub returns-clause-agenda : goal.returns-clause-agenda
returns-clause-agenda g c = agenda_back c.args.self.now c.look_from.new.self c.look_on.new.agenda (becomes_trans c.args.self.now c.look_into.new.self c.look_from.new.self c.in_ok-came.ensures.becomes c.in_ok-sent.ensures.becomes) c.in_ok-worked.ensures.agenda

pub returns-clause-notes : goal.returns-clause-notes
returns-clause-notes g c = notes_then c.args.self.now c.args.agenda.now c.look_from.new.self c.look_from.new.agenda c.look_on.new.self c.look_on.new.agenda (notes_then c.args.self.now c.args.agenda.now c.look_into.new.self c.look_into.new.agenda c.look_from.new.self c.look_from.new.agenda c.in_ok-came.ensures.notes c.in_ok-sent.ensures.notes) c.in_ok-worked.ensures.notes

pub returns-clause-unchanged : goal.returns-clause-unchanged
returns-clause-unchanged g c = both_same (c.in_ok-came.came || c.in_ok-sent.sent) c.in_ok-worked.worked c.args.agenda.now c.look_from.new.agenda c.look_on.new.agenda (both_same c.in_ok-came.came c.in_ok-sent.sent c.args.agenda.now c.look_into.new.agenda c.look_from.new.agenda c.in_ok-came.ensures.unchanged c.in_ok-sent.ensures.unchanged) c.in_ok-worked.ensures.unchanged

pub returns-clause-rest : goal.returns-clause-rest
returns-clause-rest g c = place_rests c.in_ok-came.came c.in_ok-sent.sent c.in_ok-worked.worked c.args.self.now c.look_into.new.self c.look_from.new.self c.look_on.new.self c.args.place c.in_ok-came.ensures.goes c.in_ok-sent.ensures.goes c.in_ok-worked.ensures.goes c.in_ok-came.ensures.rest c.in_ok-sent.ensures.rest c.in_ok-worked.ensures.rest
