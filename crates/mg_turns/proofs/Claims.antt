-- What a claim leaves of the parts of a cell, and what the seat may give back then.
use Rattle.std.proofs.Common.{◌≡◌, ◌<◌, ◌≤◌, ◌+◌, ◌-◌, ◌*◌, ℕ, refl, [], ◌∷◌, List, length, map, ap, ◌∙◌, sym, subst, inl, inr, arith, Option, Some, None, slice_get, is_some, true}
use Rattle.std.proofs.lemmas.Option.{none-some}
use Rattle.mg_value.specs.Payload.{Plain}
use Rattle.mg_value.specs.Packet.{Stamped}
use Rattle.mg_settled.specs.Loopback.{packet_of}
use Rattle.mg_stream.specs.Pool.{Backlog}
use Rattle.mg_calc.specs.Rules.{Laws}
use Rattle.mg_calc.specs.declared.node_fault.Phase.TheVariants.{Call, Process, Close}
use Rattle.mg_node.specs.Views.{IntakeView, WorkView, EntryView, EngineView}
use Rattle.mg_node.specs.Job.{LoggedJob}
use Rattle.mg_node.specs.Lawful.{Owner, of_node, LawfulEngine, LawfulIntake, Agree, AreCell}
use Rattle.mg_node.specs.IntakeStanding.{HasGrown, Stays, IntakeGrows}
use Rattle.mg_node.specs.Ports.{port_queue}
use Rattle.mg_node.specs.Outputs.{laid_at}
use Rattle.mg_node.specs.Leading.{output_at}
use Rattle.mg_node.proofs.Growing.{grown_further}
use Rattle.mg_node.proofs.ClaimsLeave.{answer_stays}
use Rattle.mg_node.specs.Standing.{EngineGrows}
use Rattle.mg_node.specs.Shelves.{IsOut}
use Rattle.mg_node.specs.Claims.{with_answer, Claims, GivesOut, IsLawfulWork, LawfulClaim}
use Rattle.mg_node.specs.declared.claimed.Claimed.{Claimed}
use Rattle.mg_node.specs.declared.claimed.Claimed.TheVariants.{Work, Answered, NotReady, InFlightFull, Draining, Ended, OutOfMemory}
use Rattle.mg_node.proofs.Answering.{loop_cell_by}
use Rattle.mg_node.proofs.Making.{some_same}
use Rattle.mg_node.specs.Out.{IsMissing, GoesOut}
use Rattle.mg_node.proofs.StaysOut.{unrun_goes, further_goes}
use Rattle.mg_turns.specs.Parts.{PartView, LayoutView, at, nodes_in, owner_in, an_engine, an_intake, PartGrows, IsKind, LawfulPart, Fits, FitsSome, gone_by, gone_in, first_by, first_in, claimed_by, Follows, AgreeParts, IsMissingAt}
use Rattle.mg_turns.specs.Code.Plays.{Joins, Goes, Outs}
use Rattle.mg_turns.specs.Sights.{has_after}
use Rattle.mg_turns.proofs.Grows.{part_further}
use Rattle.mg_turns.specs.Words.{Whose, engine_of}
use Rattle.mg_turns.proofs.Words.{is_engine, intake_at, engine_at}

abbrev pub gones : EngineView → List ℕ
gones v = map (λ (b : Backlog Plain). b.gone) v.outputs

answer_gone : (answer : Option (Stamped Plain)) (outputs : List (Backlog Plain)) → map (λ (b : Backlog Plain). b.gone) (with_answer answer outputs) ≡ map (λ (b : Backlog Plain). b.gone) outputs
answer_gone answer [] = refl
answer_gone None (b ∷ bs) = refl
answer_gone (Some p) (b ∷ bs) = refl

-- a claim gives up no packet
work_gone : (X : Type 0) (work : WorkView) (e f : EngineView) (i k : IntakeView) → Claims {C = X} (Work work) e f i k → gones f ≡ gones e
work_gone X work e f i k claims = elim claims [
  | inl unrun ↦ ap gones unrun.1.now
  | inr further ↦ elim further.1 [
    | inl called ↦ ap gones called.0.hands.now
    | inr other ↦ elim other [
      | inl closes ↦ ap gones closes.0.hands.now
      | inr t ↦ ap gones t.hands.now
    ]
  ]
]

pub claim_gone : {X : Type 0} (r : Claimed X) (e f : EngineView) (i k : IntakeView) → Claims {C = X} r e f i k → gones f ≡ gones e
claim_gone {X} (Work work) e f i k c = work_gone X work e f i k c
claim_gone Answered e f i k c = ap gones c.1.now ∙ answer_gone (packet_of c.1.reply) e.outputs
claim_gone NotReady e f i k c = ap gones c.2.same_engine
claim_gone InFlightFull e f i k c = ap gones c.3.same_engine
claim_gone Draining e f i k c = ap gones c.3.same_engine
claim_gone Ended e f i k c = ap gones c.1.same_engine
claim_gone OutOfMemory e f i k c = ap gones c.2.same_engine

-- a work is handed out
pub work_goes : {laws : Laws} (X : Type 0) (job : LoggedJob laws) (n : ℕ) (work : WorkView) (e f : EngineView) (i k : IntakeView) → LawfulEngine job (of_node n) e → LawfulEngine job (of_node n) f → IsOut f work
    → Claims {C = X} (Work work) e f i k → GoesOut e f work
work_goes {laws} X job n work e f i k h now out claims = elim claims [
  | inl unrun ↦ unrun_goes job n e f work h unrun.1 out
  | inr further ↦ elim further.1 [
    | inl called ↦ (let t = called.0 in further_goes job n e f (Call e.claimed) 1 t.context work h now t.hands (ap (λ (w : WorkView). w.number) t.work_is) out)
    | inr other ↦ elim other [
      | inl closes ↦ (let t = closes.0 in further_goes job n e f Close 0 t.context work h now t.hands (ap (λ (w : WorkView). w.number) t.work_is) out)
      | inr t ↦ further_goes job n e f (Process t.at) 1 t.context work h now t.hands (ap (λ (w : WorkView). w.number) t.work_is) out
    ]
  ]
]

engine_numbered : {laws : Laws} (job : LoggedJob laws) (n : ℕ) (e : EngineView) → LawfulEngine job (of_node n) e → e.node ≡ n
unfolding LawfulEngine
engine_numbered {laws} job n e h = h.set_up.number_is

pub engine_of_part : (p : PartView) (e f : EngineView) → p.engine ≡ Some e → p.engine ≡ Some f → e ≡ f
engine_of_part p e f = some_same p.engine e f

pub missing_by : (e : EngineView) (k : ℕ) → IsMissing e k → IsMissingAt e k
missing_by e k m = record { place = m.place; number_is = m.number_is; entry = m.entry; there = m.there; missing = m.missing }

goes_in : (p : PartView) (e f : EngineView) (w : WorkView) → p.engine ≡ Some e → GoesOut e f w → Goes p (an_engine f) w
goes_in p e f w is g = record {
  it = (f, refl, g.out);
  apart = λ x o. g.apart x (subst (λ (v : EngineView). IsOut v x) (engine_of_part p o.0 e o.1 is) o.2);
  out = λ x o. (f, refl, g.stays x (subst (λ (v : EngineView). IsOut v x) (engine_of_part p o.0 e o.1 is) o.2));
  only = λ k m.
      let same : m.0 ≡ f = engine_of_part (an_engine f) m.0 f m.1 refl in
      let at : IsMissingAt f k = subst (λ (v : EngineView). IsMissingAt v k) same m.2 in
      elim (g.only at.place at.entry at.there at.missing) [
        | inl here ↦ inl (here ∙ sym at.number_is)
        | inr old ↦ inr (e, is, subst (λ (n : ℕ). IsMissingAt e n) (sym at.number_is) (missing_by e (f.laid + at.place) old))
      ];
}

-- if the engine is the same
same_outs : (n : ℕ) (p : PartView) (e f : EngineView) → p.engine ≡ Some e → f ≡ e → Outs n p (an_engine f) None None
same_outs n p e f is same = inl (
  refl,
  (λ x o. (f, refl, subst (λ (v : EngineView). IsOut v x) (engine_of_part p o.0 e o.1 is ∙ sym same) o.2)),
  λ k m. (e, is, subst (λ (v : EngineView). IsMissingAt v k) (engine_of_part (an_engine f) m.0 f m.1 refl ∙ same) m.2),
)

nothing_at : (window : List EntryView) (place : ℕ) (x : EntryView) → window ≡ [] → slice_get window place ≡ Some x → ⊥
nothing_at [] place x none at = none-some x at
nothing_at (y ∷ ys) place x none at = absurd (omega (arith, ap length none))

-- if nothing is in the window, before or after
none_outs : (n : ℕ) (p : PartView) (e f : EngineView) → p.engine ≡ Some e → e.window ≡ [] → f.window ≡ [] → Outs n p (an_engine f) None None
none_outs n p e f is none none' = inl (
  refl,
  (λ x o. let out = subst (λ (v : EngineView). IsOut v x) (engine_of_part p o.0 e o.1 is) o.2 in absurd (nothing_at e.window (x.number - e.laid) out.entry none out.there)),
  λ k m. let at = subst (λ (v : EngineView). IsMissingAt v k) (engine_of_part (an_engine f) m.0 f m.1 refl) m.2 in absurd (nothing_at f.window at.place at.entry none' at.there),
)

pub claim_outs : {laws : Laws} {X : Type 0} (job : LoggedJob laws) (n : ℕ) (p : PartView) (r : Claimed X) (e f : EngineView) (i k : IntakeView) → p.engine ≡ Some e → LawfulEngine job (of_node n) e → LawfulIntake job n i → Agree e i → LawfulEngine job (of_node n) f
    → Claims {C = X} r e f i k → GivesOut {C = X} r f → Outs n p (an_engine f) None (has_after r None)
claim_outs {laws} {X} job n p (Work work) e f i k is h hi agree now c out =
    inr (work, refl, refl, out.node_is ∙ engine_numbered job n f now, goes_in p e f work is (work_goes X job n work e f i k h now out c))
claim_outs {laws} job n p Answered e f i k is h hi agree now c out =
    let t = c.1 in
    let empty = (loop_cell_by job n e i t.held h hi agree t.role t.waits c.0).laid in
    none_outs n p e f is empty (ap (λ (v : EngineView). v.window) t.now ∙ empty)
claim_outs {laws} job n p NotReady e f i k is h hi agree now c out = same_outs n p e f is c.2.same_engine
claim_outs {laws} job n p InFlightFull e f i k is h hi agree now c out = same_outs n p e f is c.3.same_engine
claim_outs {laws} job n p Draining e f i k is h hi agree now c out = same_outs n p e f is c.3.same_engine
claim_outs {laws} job n p Ended e f i k is h hi agree now c out = same_outs n p e f is c.1.same_engine
claim_outs {laws} job n p OutOfMemory e f i k is h hi agree now c out = same_outs n p e f is c.2.same_engine

pub intake_of_part : (p : PartView) (i k : IntakeView) → p.intake ≡ Some i → p.intake ≡ Some k → i ≡ k
intake_of_part p i k = some_same p.intake i k

-- a claim leaves the number of the first output's stream
work_first : (X : Type 0) (work : WorkView) (e f : EngineView) (i k : IntakeView) → Claims {C = X} (Work work) e f i k → f.first ≡ e.first
work_first X work e f i k claims = elim claims [
  | inl unrun ↦ ap (λ (v : EngineView). v.first) unrun.1.now
  | inr further ↦ elim further.1 [
    | inl called ↦ ap (λ (v : EngineView). v.first) called.0.hands.now
    | inr other ↦ elim other [
      | inl closes ↦ ap (λ (v : EngineView). v.first) closes.0.hands.now
      | inr t ↦ ap (λ (v : EngineView). v.first) t.hands.now
    ]
  ]
]

pub ap_first : (X : Type 0) (r : Claimed X) (e f : EngineView) (i k : IntakeView) → Claims {C = X} r e f i k → f.first ≡ e.first
ap_first X (Work work) e f i k c = work_first X work e f i k c
ap_first X Answered e f i k c = ap (λ (v : EngineView). v.first) c.1.now
ap_first X NotReady e f i k c = ap (λ (v : EngineView). v.first) c.2.same_engine
ap_first X InFlightFull e f i k c = ap (λ (v : EngineView). v.first) c.3.same_engine
ap_first X Draining e f i k c = ap (λ (v : EngineView). v.first) c.3.same_engine
ap_first X Ended e f i k c = ap (λ (v : EngineView). v.first) c.1.same_engine
ap_first X OutOfMemory e f i k c = ap (λ (v : EngineView). v.first) c.2.same_engine

stays_by : (i k : IntakeView) → k ≡ i → (port : ℕ) → Stays (port_queue i.waits port) (port_queue k.waits port)
stays_by i k is port = subst (λ (x : IntakeView). Stays (port_queue i.waits port) (port_queue x.waits port)) (sym is) (record { count = refl; bound = refl })

work_stays : (X : Type 0) (work : WorkView) (e f : EngineView) (i k : IntakeView) → Claims {C = X} (Work work) e f i k → (port : ℕ) → Stays (port_queue i.waits port) (port_queue k.waits port)
work_stays X work e f i k claims port = elim claims [
  | inl unrun ↦ stays_by i k unrun.2 port
  | inr further ↦ elim further.1 [
    | inl called ↦ stays_by i k called.1 port
    | inr other ↦ elim other [
      | inl closes ↦ stays_by i k closes.1 port
      | inr t ↦ record { count = t.takes.counts port; bound = t.takes.bounds port }
    ]
  ]
]

-- a claim leaves how many packets a port has counted, and its bound
pub claim_stays : (X : Type 0) (r : Claimed X) (e f : EngineView) (i k : IntakeView) → Claims {C = X} r e f i k → (port : ℕ) → Stays (port_queue i.waits port) (port_queue k.waits port)
claim_stays X (Work work) e f i k c = work_stays X work e f i k c
claim_stays X Answered e f i k c = answer_stays e f i k c.1
claim_stays X NotReady e f i k c = stays_by i k c.2.same_intake
claim_stays X InFlightFull e f i k c = stays_by i k c.3.same_intake
claim_stays X Draining e f i k c = stays_by i k c.3.same_intake
claim_stays X Ended e f i k c = stays_by i k c.1.same_intake
claim_stays X OutOfMemory e f i k c = stays_by i k c.2.same_intake

-- an engine whose standing grew stays joined to all that it was joined to
pub engine_joins : (p : PartView) (e f : EngineView) → p.engine ≡ Some e → f.first ≡ e.first → EngineGrows e f → Joins p (an_engine f)
engine_joins p e f is first grows = record {
  from = λ x r joined g i is' at.
      let same : f ≡ g = engine_of_part (an_engine f) f g refl is' in
      let before = joined e i is at in
      subst (λ (v : EngineView). HasGrown (port_queue i.waits x.port) (output_at v x)) same
      (grown_further (port_queue i.waits x.port) (output_at e x) (output_at f x) before
      (subst (λ (k : ℕ). HasGrown (output_at e x) (laid_at f (x.stream - k))) (sym first) (grows.outputs (x.stream - e.first))));
  to = λ x r joined g i is' at. absurd (none-some i at);
}

-- an intake whose ports keep their counts and bounds stays joined to the same engines
pub intake_joins : (q : PartView) (i k : IntakeView) → q.intake ≡ Some i → ((port : ℕ) → Stays (port_queue i.waits port) (port_queue k.waits port)) → Joins q (an_intake k)
intake_joins q i k is stays = record {
  from = λ x r joined g j is' at. absurd (none-some g is');
  to = λ x r joined g j is' at.
      let same : k ≡ j = intake_of_part (an_intake k) k j refl at in
      let before = joined g i is' is in
      let s = stays x.port in let count = s.count in let bound = s.bound in let c = before.count in let b = before.bound in
      subst (λ (v : IntakeView). HasGrown (port_queue v.waits x.port) (output_at g x)) same (record { count = omega (arith, count, c); bound = omega (arith, bound, b) });
}

-- the parts of a node, as they lie in a table
pub record CellParts (laws : Laws) (key : LayoutView) (n : ℕ) (p q : PartView) (e : EngineView) (i : IntakeView) : Type 0 where
  pub within : n < nodes_in key
  pub engine : Follows laws key (2 * n + 1) p
  pub intake : Follows laws key (2 * n) q
  pub agree : AgreeParts p q
  pub engine_is : p.engine ≡ Some e
  pub intake_is : q.intake ≡ Some i

pub lawful_at : {laws : Laws} (key : LayoutView) (job : LoggedJob laws) (word : ℕ) (o : Owner) (p : PartView) (e : EngineView) → Fits job key → Follows laws key word p → owner_in key word ≡ engine_of o → p.engine ≡ Some e → LawfulEngine job o e
lawful_at {laws} key job word o p e fits follows of is = (subst (λ (w : Whose). LawfulPart job w p) of (follows.lawful job fits)) e is

pub lawful_e : {laws : Laws} (key : LayoutView) (job : LoggedJob laws) (n : ℕ) (p : PartView) (e : EngineView) → Fits job key → Follows laws key (2 * n + 1) p → n < nodes_in key → p.engine ≡ Some e → LawfulEngine job (of_node n) e
lawful_e {laws} key job n p e fits follows within is = lawful_at key job (2 * n + 1) (of_node n) p e fits follows (engine_at (nodes_in key) n within) is

pub lawful_i : {laws : Laws} (key : LayoutView) (job : LoggedJob laws) (n : ℕ) (q : PartView) (i : IntakeView) → Fits job key → Follows laws key (2 * n) q → n ≤ nodes_in key → q.intake ≡ Some i → LawfulIntake job n i
lawful_i {laws} key job n q i fits follows within is = (subst (λ (w : Whose). LawfulPart job w q) (intake_at (nodes_in key) n within) (follows.lawful job fits)) i is

pub before : {a b : ℕ} → a < b → a ≤ b
before less = omega (arith, less)

pub is_cell : {laws : Laws} (key : LayoutView) (n : ℕ) (p q : PartView) (e : EngineView) (i : IntakeView) → CellParts laws key n p q e i → FitsSome laws key → AreCell laws e i
is_cell {laws} key n p q e i c exists = record {
  job = exists.job;
  number = n;
  lawful_engine = lawful_e key exists.job n p e exists.fits c.engine c.within c.engine_is;
  lawful_intake = lawful_i key exists.job n q i exists.fits c.intake (before c.within) c.intake_is;
  agree = c.agree e i c.engine_is c.intake_is;
}

-- what a claim makes of them
pub record ClaimFacts (laws : Laws) (key : LayoutView) (n : ℕ) (p q p' q' : PartView) (had has : Option WorkView) : Type 0 where
  pub grew : PartGrows p p'
  pub grows : PartGrows q q'
  pub follows_e : Follows laws key (2 * n + 1) p'
  pub follows_i : Follows laws key (2 * n) q'
  pub agree : AgreeParts p' q'
  pub outs : Outs n p p' had has
  pub joins : Joins p p'
  pub joins_there : Joins q q'

pub engine_kind : {laws : Laws} (key : LayoutView) (word : ℕ) (o : Owner) (p : PartView) (e : EngineView) → Follows laws key word p → owner_in key word ≡ engine_of o → p.engine ≡ Some e → p ≡ an_engine e
engine_kind {laws} key word o p e f of is = let k = subst (λ (w : Whose). IsKind w p) of f.kind in k.1 ∙ ap an_engine (engine_of_part p k.0 e (ap (λ (x : PartView). x.engine) k.1) is)

pub intake_kind : {laws : Laws} (key : LayoutView) (n : ℕ) (q : PartView) (i : IntakeView) → Follows laws key (2 * n) q → n ≤ nodes_in key → q.intake ≡ Some i → q ≡ an_intake i
intake_kind {laws} key n q i f within is = let k = subst (λ (w : Whose). IsKind w q) (intake_at (nodes_in key) n within) f.kind in k.1 ∙ ap an_intake (intake_of_part q k.0 i (ap (λ (x : PartView). x.intake) k.1) is)

-- an engine that came of the one at its word
pub engine_follows_on : {laws : Laws} (key : LayoutView) (word : ℕ) (o : Owner) (p : PartView) (e f : EngineView) → Follows laws key word p → owner_in key word ≡ engine_of o → p.engine ≡ Some e → EngineGrows e f → f.first ≡ e.first → gones f ≡ gones e
    → ((job : LoggedJob laws) → Fits job key → LawfulEngine job o f) → PartGrows p (an_engine f) × Follows laws key word (an_engine f)
engine_follows_on {laws} key word o p e f h of is grows first gone lawful =
    let p-is : p ≡ an_engine e = engine_kind key word o p e h of is in
    let grew : PartGrows p (an_engine f) = subst (λ (x : PartView). PartGrows x (an_engine f)) (sym p-is) (record { engine = grows; intake = tt }) in (
      grew,
      record {
        kind = subst (λ (w : Whose). IsKind w (an_engine f)) (sym of) (f, refl);
        lawful = λ job fits. subst (λ (w : Whose). LawfulPart job w (an_engine f)) (sym of)
            (λ g is'. subst (λ (x : EngineView). LawfulEngine job o x) (engine_of_part (an_engine f) f g refl is') (lawful job fits));
        grows = part_further (at key word) p (an_engine f) h.grows grew;
        gave_up = gone ∙ (ap gone_by (sym is) ∙ h.gave_up);
        first = first ∙ (ap first_by (sym is) ∙ h.first);
        collector = λ e. absurd (subst is_engine (sym of ∙ (ap (owner_in key) e ∙ intake_at (nodes_in key) (nodes_in key) (omega arith))) tt);
      },
    )

-- an intake that has grown and is lawful follows the key, as the one before did
pub intake_follows_on : {laws : Laws} (key : LayoutView) (n : ℕ) (q : PartView) (i k : IntakeView) → Follows laws key (2 * n) q → n ≤ nodes_in key → q.intake ≡ Some i → IntakeGrows i k → (n ≡ nodes_in key → k.claimed ≡ i.claimed)
    → ((job : LoggedJob laws) → Fits job key → LawfulIntake job n k) → PartGrows q (an_intake k) × Follows laws key (2 * n) (an_intake k)
intake_follows_on {laws} key n q i k h within is grows same lawful =
    let of = intake_at (nodes_in key) n within in
    let q-is : q ≡ an_intake i = intake_kind key n q i h within is in
    let more : PartGrows q (an_intake k) = subst (λ (x : PartView). PartGrows x (an_intake k)) (sym q-is) (record { engine = tt; intake = grows }) in (
      more,
      record {
        kind = subst (λ (w : Whose). IsKind w (an_intake k)) (sym of) (k, refl);
        lawful = λ job fits. subst (λ (w : Whose). LawfulPart job w (an_intake k)) (sym of)
            (λ g is'. subst (λ (x : IntakeView). LawfulIntake job n x) (intake_of_part (an_intake k) k g refl is') (lawful job fits));
        grows = part_further (at key (2 * n)) q (an_intake k) h.grows more;
        gave_up = ap gone_in (sym q-is) ∙ h.gave_up;
        first = ap first_in (sym q-is) ∙ h.first;
        collector = λ e. same (omega (arith, e)) ∙ (ap claimed_by (sym is) ∙ h.collector e);
      },
    )

-- the facts of a claim, from what any steps on a cell leave of its engine and intake
pub facts_by : {laws : Laws} (key : LayoutView) (n : ℕ) (p q : PartView) (e f : EngineView) (i k : IntakeView) (had has : Option WorkView) → CellParts laws key n p q e i → FitsSome laws key
    → f.first ≡ e.first → gones f ≡ gones e → EngineGrows e f → IntakeGrows i k → ((port : ℕ) → Stays (port_queue i.waits port) (port_queue k.waits port))
    → ((job : LoggedJob laws) → LawfulEngine job (of_node n) e → LawfulIntake job n i → Agree e i → LawfulEngine job (of_node n) f × LawfulIntake job n k × Agree f k)
    → Outs n p (an_engine f) had has
    → ClaimFacts laws key n p q (an_engine f) (an_intake k) had has
facts_by {laws} key n p q e f i k had has c exists first gone grows grows_i stays lawful outs =
    let agree = c.agree e i c.engine_is c.intake_is in
    let after : (job : LoggedJob laws) → Fits job key → LawfulEngine job (of_node n) f × LawfulIntake job n k × Agree f k = λ job fits.
    lawful job (lawful_e key job n p e fits c.engine c.within c.engine_is) (lawful_i key job n q i fits c.intake (before c.within) c.intake_is) agree in
    let now = after exists.job exists.fits in
    let engine = engine_follows_on key (2 * n + 1) (of_node n) p e f c.engine (engine_at (nodes_in key) n c.within) c.engine_is grows first gone (λ job fits. (after job fits).0) in
    let intake = intake_follows_on key n q i k c.intake (before c.within) c.intake_is grows_i (λ e. absurd (omega (arith, e, c.within))) (λ job fits. (after job fits).1) in
    record {
      grew = engine.0;
      grows = intake.0;
      follows_e = engine.1;
      follows_i = intake.1;
      agree = λ x y is is'. subst (λ (v : EngineView). Agree v y) (engine_of_part (an_engine f) f x refl is) (subst (λ (v : IntakeView). Agree f v) (intake_of_part (an_intake k) k y refl is') now.2);
      joins = engine_joins p e f c.engine_is first grows;
      joins_there = intake_joins q i k c.intake_is stays;
      outs = outs;
    }

pub claim_facts : {laws : Laws} {X : Type 0} (key : LayoutView) (n : ℕ) (p q : PartView) (e f : EngineView) (i k : IntakeView) (r : Claimed X) → CellParts laws key n p q e i → FitsSome laws key
    → Claims {C = X} r e f i k → GivesOut {C = X} r f → EngineGrows e f → IntakeGrows i k
    → ((job : LoggedJob laws) (number : ℕ) → LawfulEngine job (of_node number) e → LawfulIntake job number i → Agree e i → LawfulClaim {C = X} job number r f k)
    → ClaimFacts laws key n p q (an_engine f) (an_intake k) None (has_after r None)
claim_facts {laws} {X} key n p q e f i k r c exists claims out grows grows_i lawful =
    let job = exists.job in
    let h = lawful_e key job n p e exists.fits c.engine c.within c.engine_is in
    let hi = lawful_i key job n q i exists.fits c.intake (before c.within) c.intake_is in
    let agree = c.agree e i c.engine_is c.intake_is in
    facts_by key n p q e f i k None (has_after r None) c exists (ap_first X r e f i k claims) (claim_gone {X = X} r e f i k claims) grows grows_i (claim_stays X r e f i k claims)
    (λ job h hi agree. let l = lawful job n h hi agree in (l.lawful_engine, l.lawful_intake, l.agree))
    (claim_outs {X = X} job n p r e f i k c.engine_is h hi agree (lawful job n h hi agree).lawful_engine claims out)

pub has_engine : {laws : Laws} (key : LayoutView) (word : ℕ) (o : Owner) (p : PartView) → Follows laws key word p → owner_in key word ≡ engine_of o → is_some p.engine ≡ true
has_engine {laws} key word o p f of = ap (λ (x : PartView). is_some x.engine) (subst (λ (w : Whose). IsKind w p) of f.kind).1

pub has_intake : {laws : Laws} (key : LayoutView) (n : ℕ) (p : PartView) → Follows laws key (2 * n) p → n ≤ nodes_in key → is_some p.intake ≡ true
has_intake {laws} key n p f within = ap (λ (x : PartView). is_some x.intake) (subst (λ (w : Whose). IsKind w p) (intake_at (nodes_in key) n within) f.kind).1

pub lawful_claim : {laws : Laws} {X : Type 0} (key : LayoutView) (n : ℕ) (p q : PartView) (e f : EngineView) (i k : IntakeView) (r : Claimed X) → CellParts laws key n p q e i → (job : LoggedJob laws) → Fits job key
    → ((job : LoggedJob laws) (number : ℕ) → LawfulEngine job (of_node number) e → LawfulIntake job number i → Agree e i → LawfulClaim {C = X} job number r f k) → IsLawfulWork {C = X} job r
lawful_claim {laws} key n p q e f i k r c job fits lawful =
    (lawful job n (lawful_e key job n p e fits c.engine c.within c.engine_is) (lawful_i key job n q i fits c.intake (before c.within) c.intake_is) (c.agree e i c.engine_is c.intake_is)).work
