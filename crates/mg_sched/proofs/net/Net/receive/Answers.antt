use Rattle.std.proofs.Common.{◌+◌, length, ap, refl, sym, ◌∙◌, arith}
use Rattle.mg_node.specs.Job.{ports_of}
use Rattle.mg_calc.specs.declared.plan.Plan.{Plan}
use Rattle.mg_sched.specs.Places.{first_edge}
use Rattle.mg_sched.specs.Sweeps.{itself}
use Rattle.mg_sched.proofs.Becoming.{becomes_plan, becomes_runs, becomes_some, becomes_trans}
use Rattle.mg_sched.proofs.Sweeping.{goes_then, still_edge, agenda_on, agenda_back, both_same}
use Rattle.mg_sched.proofs.HeardOn.{heard_none, heard_then, heard_then_some, on_err}
use Rattle.mg_sched.proofs.Touching.{notes_same, notes_then}
use Rattle.mg_sched.proofs.RestingPlaces.{ports_more, port_edge, few_edges, into_all}
use Rattle.mg_sched.proofs.net.Net.receive.Goals as goal

pub ports-init : goal.ports-init
ports-init g c = record {
  becomes = itself;
  goes = refl;
  agenda = c.requires.agenda;
  unchanged = λ isnt. refl;
  notes = notes_same c.args.self.now c.args.self.now c.args.agenda.now c.args.agenda.now refl refl;
  rest = λ isnt port less. absurd (omega (arith, less));
  heard = heard_none g.C.NodeCalculator.laws g.H.Hears.has_heard c.args.hearer.now c.args.self.now;
}

pub overflow_add-first : goal.overflow_add-first
overflow_add-first g c = (let within = port_edge c.args.self.now c.args.consumer c.first_edge-first.result c.ports.port c.requires.stands c.requires.there c.first_edge-first.ensures (let less = c.ports-test.true in let end = c.port_count-ports.ensures in omega (arith, less, end)) in
    let few = few_edges c.args.self.now c.requires.stands in omega (arith, within, few))

pub send_along-requires-clause-running : goal.send_along-requires-clause-running
send_along-requires-clause-running g c = becomes_runs c.args.self.now c.ports.self c.requires.running c.ports.invariant.becomes

pub send_along-requires-clause-stands : goal.send_along-requires-clause-stands
send_along-requires-clause-stands g c = becomes_some c.args.self.now c.ports.self c.requires.running c.requires.stands c.ports.invariant.becomes

pub send_along-requires-clause-agenda : goal.send_along-requires-clause-agenda
send_along-requires-clause-agenda g c = agenda_on c.args.self.now c.ports.self c.ports.agenda c.ports.invariant.becomes c.ports.invariant.agenda

pub send_along-requires-clause-there : goal.send_along-requires-clause-there
send_along-requires-clause-there g c = still_edge (c.first_edge-first.result + c.ports.port) c.args.self.now c.ports.self c.ports.invariant.becomes (port_edge c.args.self.now c.args.consumer c.first_edge-first.result c.ports.port c.requires.stands c.requires.there c.first_edge-first.ensures (let less = c.ports-test.true in let end = c.port_count-ports.ensures in omega (arith, less, end)))

pub returns-in_err-did-clause-becomes : goal.returns-in_err-did-clause-becomes
returns-in_err-did-clause-becomes g c = becomes_trans c.args.self.now c.ports.self c.send_along.new.self c.ports.invariant.becomes c.in_err-did.ensures.becomes

pub returns-in_err-did-clause-agenda : goal.returns-in_err-did-clause-agenda
returns-in_err-did-clause-agenda g c = agenda_back c.args.self.now c.ports.self c.send_along.new.agenda c.ports.invariant.becomes c.in_err-did.ensures.agenda

pub returns-in_err-did-clause-heard_some : goal.returns-in_err-did-clause-heard_some
returns-in_err-did-clause-heard_some g c = on_err c.from_residual.result (heard_then_some g.C.NodeCalculator.laws g.H.Hears.has_heard c.args.hearer.now c.ports.hearer c.send_along.new.hearer c.args.self.now c.ports.self c.ports.invariant.heard c.in_err-did.ensures.heard_some)

pub ports-preserved : goal.ports-preserved
ports-preserved g c = record {
  heard = heard_then g.C.NodeCalculator.laws g.H.Hears.has_heard c.args.hearer.now c.ports.hearer c.send_along.new.hearer c.args.self.now c.ports.self c.send_along.new.self c.ports.invariant.heard c.in_ok-did.ensures.heard;
  becomes = becomes_trans c.args.self.now c.ports.self c.send_along.new.self c.ports.invariant.becomes c.in_ok-did.ensures.becomes;
  goes = goes_then c.ports.did c.in_ok-did.field-0 c.args.self.now c.ports.self c.send_along.new.self c.ports.invariant.goes c.in_ok-did.ensures.goes;
  agenda = agenda_back c.args.self.now c.ports.self c.send_along.new.agenda c.ports.invariant.becomes c.in_ok-did.ensures.agenda;
  unchanged = both_same c.ports.did c.in_ok-did.field-0 c.args.agenda.now c.ports.agenda c.send_along.new.agenda c.ports.invariant.unchanged c.in_ok-did.ensures.unchanged;
  notes = notes_then c.args.self.now c.args.agenda.now c.ports.self c.ports.agenda c.send_along.new.self c.send_along.new.agenda c.ports.invariant.notes c.in_ok-did.ensures.notes;
  rest = ports_more g.C.NodeCalculator.laws c.ports.did c.in_ok-did.field-0 c.first_edge-first.result c.ports.port c.ports.self c.send_along.new.self c.ports.invariant.rest c.in_ok-did.ensures.goes c.in_ok-did.ensures.rest;
}

pub returns-clause-becomes : goal.returns-clause-becomes
returns-clause-becomes g c = c.ports.invariant.becomes

pub returns-clause-rest : goal.returns-clause-rest
returns-clause-rest g c = λ isnt. (let same = becomes_plan c.args.self.now c.ports.self c.ports.invariant.becomes in
    into_all c.ports.self c.args.consumer c.first_edge-first.result c.port_count-ports.result (becomes_some c.args.self.now c.ports.self c.requires.running c.requires.stands c.ports.invariant.becomes)
    (c.first_edge-first.ensures ∙ ap (λ (p : Plan). first_edge p c.args.consumer) (sym same)) (c.port_count-ports.ensures ∙ ap (λ (p : Plan). length (ports_of p c.args.consumer)) (sym same))
    (λ port less. c.ports.invariant.rest isnt port (let past = c.ports-test.false in omega (arith, less, past))))
