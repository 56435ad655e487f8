use Rattle.std.proofs.Common.{◌<◌, ◌∙◌, ℕ, length, Option, IfSome, ap, refl, sym, subst}
use Rattle.mg_sched.specs.Sweeps.{itself}
use Rattle.mg_sched.specs.Code.Agendas.{AgendaView}
use Rattle.mg_sched.proofs.Becoming.{becomes_runs, becomes_some, becomes_trans}
use Rattle.mg_sched.proofs.Sweeping.{goes_then, still_edge, agenda_on, agenda_back, agenda_set, both_same, same_places, edge_within, next_within, second_of, edges_left, fewer_edges}
use Rattle.mg_sched.proofs.HeardOn.{heard_none, heard_then, heard_then_some, on_err}
use Rattle.mg_sched.proofs.Touching.{notes_same, notes_then, notes_more}
use Rattle.mg_sched.proofs.net.Net.send_until_held.Goals as goal

pub edges-init : goal.edges-init
edges-init g c = record {
  becomes = itself;
  goes = refl;
  agenda = c.requires.agenda;
  places = refl;
  unchanged = λ isnt. refl;
  there = edge_within c.first_edge-cursor.result c.args.self.now.plan c.args.agenda.now c.requires.agenda c.first_edge-cursor.ensures.there;
  notes = notes_same c.args.self.now c.args.self.now c.args.agenda.now c.args.agenda.now refl refl;
  heard = heard_none g.C.NodeCalculator.laws g.H.Hears.has_heard c.args.hearer.now c.args.self.now;
}

pub is_held_at-requires-clause-there : goal.is_held_at-requires-clause-there
is_held_at-requires-clause-there g c = still_edge c.in-Some.edge c.args.self.now c.edges.self c.edges.invariant.becomes (subst (λ (o : Option ℕ). IfSome o (λ e. e < length c.args.self.now.plan.edges)) c.in-Some.is c.edges.invariant.there)

pub is_held_at-requires-clause-stands : goal.is_held_at-requires-clause-stands
is_held_at-requires-clause-stands g c = becomes_some c.args.self.now c.edges.self c.requires.running c.requires.stands c.edges.invariant.becomes

pub hold_at-requires-clause-place : goal.hold_at-requires-clause-place
hold_at-requires-clause-place g c = subst (λ (n : ℕ). c.args.place < n) (sym c.edges.invariant.places) c.requires.there

pub hold_at-requires-clause-edge : goal.hold_at-requires-clause-edge
hold_at-requires-clause-edge g c = subst (λ (n : ℕ). c.in-Some.edge < n) (sym c.edges.invariant.agenda.edges) (subst (λ (o : Option ℕ). IfSome o (λ e. e < length c.args.self.now.plan.edges)) c.in-Some.is c.edges.invariant.there)

pub returns-then-is_held_at-clause-agenda : goal.returns-then-is_held_at-clause-agenda
returns-then-is_held_at-clause-agenda g c = agenda_set c.args.self.now.plan c.edges.agenda c.hold_at.new.agenda c.args.place _ c.edges.invariant.agenda c.hold_at.ensures.heads c.hold_at.ensures.links c.hold_at.ensures.starts

pub returns-then-is_held_at-clause-unchanged : goal.returns-then-is_held_at-clause-unchanged
returns-then-is_held_at-clause-unchanged g c = λ isnt. c.hold_at.ensures.ready ∙ ap (λ (a : AgendaView). a.ready) (c.edges.invariant.unchanged isnt)

pub send_along-requires-clause-running : goal.send_along-requires-clause-running
send_along-requires-clause-running g c = becomes_runs c.args.self.now c.edges.self c.requires.running c.edges.invariant.becomes

pub send_along-requires-clause-stands : goal.send_along-requires-clause-stands
send_along-requires-clause-stands g c = becomes_some c.args.self.now c.edges.self c.requires.running c.requires.stands c.edges.invariant.becomes

pub send_along-requires-clause-agenda : goal.send_along-requires-clause-agenda
send_along-requires-clause-agenda g c = agenda_on c.args.self.now c.edges.self c.edges.agenda c.edges.invariant.becomes c.edges.invariant.agenda

pub send_along-requires-clause-there : goal.send_along-requires-clause-there
send_along-requires-clause-there g c = still_edge c.in-Some.edge c.args.self.now c.edges.self c.edges.invariant.becomes (subst (λ (o : Option ℕ). IfSome o (λ e. e < length c.args.self.now.plan.edges)) c.in-Some.is c.edges.invariant.there)

pub returns-in_err-did-clause-becomes : goal.returns-in_err-did-clause-becomes
returns-in_err-did-clause-becomes g c = becomes_trans c.args.self.now c.edges.self c.send_along.new.self c.edges.invariant.becomes c.in_err-did.ensures.becomes

pub returns-in_err-did-clause-agenda : goal.returns-in_err-did-clause-agenda
returns-in_err-did-clause-agenda g c = agenda_back c.args.self.now c.edges.self c.send_along.new.agenda c.edges.invariant.becomes c.in_err-did.ensures.agenda

pub next_edge-cursor-requires : goal.next_edge-cursor-requires
next_edge-cursor-requires g c =
    (let of = agenda_back c.args.self.now c.edges.self c.send_along.new.agenda c.edges.invariant.becomes c.in_ok-did.ensures.agenda in
    subst (λ (n : ℕ). c.in-Some.edge < n) (sym of.edges) (subst (λ (o : Option ℕ). IfSome o (λ e. e < length c.args.self.now.plan.edges)) c.in-Some.is c.edges.invariant.there))

pub edges-smaller : goal.edges-smaller
edges-smaller g c =
    (let of = agenda_back c.args.self.now c.edges.self c.send_along.new.agenda c.edges.invariant.becomes c.in_ok-did.ensures.agenda in
    let count = length c.args.self.now.plan.edges in
    let there = subst (λ (o : Option ℕ). IfSome o (λ e. e < count)) c.in-Some.is c.edges.invariant.there in
    let next = next_within c.next_edge-cursor.result c.in-Some.edge c.args.self.now.plan c.send_along.new.agenda of c.next_edge-cursor.ensures.later in
    subst (λ (o : Option ℕ). edges_left count c.next_edge-cursor.result < edges_left count o) (sym c.in-Some.is) (fewer_edges count c.in-Some.edge c.next_edge-cursor.result there next))

pub edges-preserved : goal.edges-preserved
edges-preserved g c =
    (let of = agenda_back c.args.self.now c.edges.self c.send_along.new.agenda c.edges.invariant.becomes c.in_ok-did.ensures.agenda in
    record {
      heard = heard_then g.C.NodeCalculator.laws g.H.Hears.has_heard c.args.hearer.now c.edges.hearer c.send_along.new.hearer c.args.self.now c.edges.self c.send_along.new.self c.edges.invariant.heard c.in_ok-did.ensures.heard;
      becomes = becomes_trans c.args.self.now c.edges.self c.send_along.new.self c.edges.invariant.becomes c.in_ok-did.ensures.becomes;
      goes = goes_then c.edges.did c.in_ok-did.field-0 c.args.self.now c.edges.self c.send_along.new.self c.edges.invariant.goes c.in_ok-did.ensures.goes;
      agenda = of;
      places = same_places c.args.self.now.plan c.edges.agenda c.send_along.new.agenda c.edges.invariant.agenda of ∙ c.edges.invariant.places;
      notes = notes_then c.args.self.now c.args.agenda.now c.edges.self c.edges.agenda c.send_along.new.self c.send_along.new.agenda c.edges.invariant.notes c.in_ok-did.ensures.notes;
      unchanged = both_same c.edges.did c.in_ok-did.field-0 c.args.agenda.now c.edges.agenda c.send_along.new.agenda c.edges.invariant.unchanged c.in_ok-did.ensures.unchanged;
      there = second_of c.next_edge-cursor.result c.in-Some.edge (length c.args.self.now.plan.edges) (next_within c.next_edge-cursor.result c.in-Some.edge c.args.self.now.plan c.send_along.new.agenda of c.next_edge-cursor.ensures.later);
    })

pub finish-requires : goal.finish-requires
finish-requires g c = subst (λ (n : ℕ). c.args.place < n) (sym c.edges.invariant.places) c.requires.there

pub returns-clause-agenda : goal.returns-clause-agenda
returns-clause-agenda g c =
    agenda_set c.args.self.now.plan c.edges.agenda c.finish.new.self c.args.place _ c.edges.invariant.agenda (ap (λ (a : AgendaView). a.heads) c.finish.ensures) (ap (λ (a : AgendaView). a.links) c.finish.ensures) (ap (λ (a : AgendaView). a.starts) c.finish.ensures)

pub returns-clause-unchanged : goal.returns-clause-unchanged
returns-clause-unchanged g c = λ isnt. ap (λ (a : AgendaView). a.ready) c.finish.ensures ∙ ap (λ (a : AgendaView). a.ready) (c.edges.invariant.unchanged isnt)

pub returns-in_err-did-clause-heard_some : goal.returns-in_err-did-clause-heard_some
returns-in_err-did-clause-heard_some g c = on_err c.from_residual.result (heard_then_some g.C.NodeCalculator.laws g.H.Hears.has_heard c.args.hearer.now c.edges.hearer c.send_along.new.hearer c.args.self.now c.edges.self c.edges.invariant.heard c.in_err-did.ensures.heard_some)

pub returns-then-is_held_at-clause-notes : goal.returns-then-is_held_at-clause-notes
returns-then-is_held_at-clause-notes g c = notes_more c.args.self.now c.args.agenda.now c.edges.self c.edges.agenda c.hold_at.new.agenda c.edges.invariant.notes c.hold_at.ensures.touched

pub returns-clause-notes : goal.returns-clause-notes
returns-clause-notes g c = notes_more c.args.self.now c.args.agenda.now c.edges.self c.edges.agenda c.finish.new.self c.edges.invariant.notes (ap (λ (a : AgendaView). a.touched) c.finish.ensures)
