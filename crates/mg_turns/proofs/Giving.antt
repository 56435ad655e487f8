-- What the calls on a cell give back.
use Rattle.mg_calc.specs.Rules.{Laws}
use Rattle.std.proofs.Common.{◌≡◌, ◌+◌, ◌*◌, ℕ, refl, [], ◌∷◌, List, length, map, ap, sym, subst, inl, Option, Some, None}
use Rattle.mg_value.specs.Payload.{Plain}
use Rattle.mg_stream.specs.Pool.{Backlog}
use Rattle.mg_node.specs.Views.{IntakeView, WorkView, EngineView}
use Rattle.mg_node.specs.Job.{LoggedJob}
use Rattle.mg_node.specs.Lawful.{of_node, LawfulEngine, LawfulIntake, Agree, AreCell}
use Rattle.mg_node.specs.declared.claimed.Claimed.{Claimed}
use Rattle.mg_node.specs.declared.claimed.Claimed.TheVariants.{Ended}
use Rattle.mg_node.specs.declared.pending.Pending.{Pending}
use Rattle.mg_node.specs.Standing.{EngineGrows}
use Rattle.mg_node.specs.IntakeStanding.{Stays, IntakeGrows}
use Rattle.mg_node.specs.Ports.{port_queue}
use Rattle.mg_node.specs.Shelves.{IsOut}
use Rattle.mg_node.specs.Claims.{Claims, GivesOut, LawfulClaim}
use Rattle.mg_node.specs.Advances.{raised_output, advance_bound, advanced}
use Rattle.mg_turns.specs.Parts.{LayoutView, an_engine, an_intake, Follows, FitsSome, IsMissingAt}
use Rattle.mg_turns.specs.Sights.{has_after}
use Rattle.mg_turns.specs.Code.Plays.{Sat, GivesClaim, CellWords, Outs}
use Rattle.mg_turns.specs.Code.Cells.{TakesCell}
use Rattle.mg_turns.specs.Code.Running.{CellSteps}
use Rattle.mg_turns.proofs.Grows.{intake_same}
use Rattle.mg_turns.proofs.Claims.{CellParts, ClaimFacts, facts_by, claim_facts, claim_stays, is_cell, engine_of_part}
use Rattle.mg_turns.proofs.Rounds.{step_facts}
use Rattle.mg_turns.proofs.Cells.{cell_parts, cell_follows, cell_back, cell_counted}

pub record CellGives (laws : Laws) {X : Type 0} (n : Sat) (node : ℕ) (r : Claimed X) (f : EngineView) (k : IntakeView) (engine_word laid intake_word : ℕ) : Type 0 where
  pub words : CellWords n.0.key node f engine_word laid k intake_word
  pub gives : GivesClaim laws n node (an_intake k) (an_engine f) (has_after r n.0.work)
  pub follows : Follows laws n.0.key (2 * node + 1) (an_engine f)

raised_gone : (bound : Option ℕ) (bs : List (Backlog Plain)) → map (λ (b : Backlog Plain). b.gone) (map (raised_output bound) bs) ≡ map (λ (b : Backlog Plain). b.gone) bs
raised_gone bound [] = refl
raised_gone None (b ∷ bs) = ap (λ (l : List ℕ). b.gone ∷ l) (raised_gone None bs)
raised_gone (Some x) (b ∷ bs) = ap (λ (l : List ℕ). b.gone ∷ l) (raised_gone (Some x) bs)

raised_outs : (n : ℕ) (e : EngineView) (waits : Pending) (had : Option WorkView) → Outs n (an_engine e) (an_engine (advanced e waits)) had had
raised_outs n e waits had = inl (
  refl,
  (λ x o.
      let out = subst (λ (v : EngineView). IsOut v x) (engine_of_part (an_engine e) o.0 e o.1 refl) o.2 in
      (advanced e waits, refl, record { node_is = out.node_is; laid = out.laid; entry = out.entry; there = out.there; out = out.out; phase_is = out.phase_is })),
  λ k m.
      let at = subst (λ (v : EngineView). IsMissingAt v k) (engine_of_part (an_engine (advanced e waits)) m.0 (advanced e waits) m.1 refl) m.2 in
      (e, refl, record { place = at.place; number_is = at.number_is; entry = at.entry; there = at.there; missing = at.missing }),
)

module _ {laws : Laws} (key : LayoutView) (m : Sat) (node : ℕ) (e : EngineView) (engine_word laid : ℕ) (i : IntakeView) (intake_word : ℕ) (n : Sat) (key-is : m.0.key ≡ key) (idle : length m.0.turns ≡ 0)
    (t : TakesCell laws key m node e engine_word laid i intake_word n) (exists : FitsSome laws key) where
  parts : CellParts laws key node (an_engine e) (an_intake i) e i
  parts = cell_parts key m node e engine_word laid i intake_word n key-is idle t

  pub taken_cell : AreCell laws e i
  taken_cell = is_cell key node (an_engine e) (an_intake i) e i parts exists

  gives_by : {X : Type 0} (r : Claimed X) (f : EngineView) (k : IntakeView) → ClaimFacts laws key node (an_engine e) (an_intake i) (an_engine f) (an_intake k) m.0.work (has_after r m.0.work) → EngineGrows e f
      → ((port : ℕ) → Stays (port_queue i.waits port) (port_queue k.waits port)) → CellGives laws {X = X} n node r f k engine_word laid intake_word
  gives_by {X} r f k facts grows stays = record {
    words = cell_counted key m node e engine_word laid i intake_word n key-is idle t f k grows stays;
    gives = cell_back key m node e engine_word laid i intake_word n key-is idle t {X = X} r f k facts;
    follows = cell_follows key m node e engine_word laid i intake_word n key-is idle t {X = X} r f k facts;
  }

  pub claim_gives : {X : Type 0} (r : Claimed X) (f : EngineView) (k : IntakeView) → m.0.work ≡ None → Claims {C = X} r e f i k → GivesOut {C = X} r f → EngineGrows e f → IntakeGrows i k
      → ((job : LoggedJob laws) (number : ℕ) → LawfulEngine job (of_node number) e → LawfulIntake job number i → Agree e i → LawfulClaim {C = X} job number r f k) → CellGives laws {X = X} n node r f k engine_word laid intake_word
  claim_gives {X} r f k free claims out grows grows_i lawful = gives_by {X = X} r f k
      (subst (λ (w : Option WorkView). ClaimFacts laws key node (an_engine e) (an_intake i) (an_engine f) (an_intake k) w (has_after r w)) (sym free)
      (claim_facts {X = X} key node (an_engine e) (an_intake i) e f i k r parts exists claims out grows grows_i lawful))
      grows (claim_stays X r e f i k claims)

  raise_facts : EngineGrows e (advanced e i.waits)
      → ((job : LoggedJob laws) (number : ℕ) → LawfulEngine job (of_node number) e → LawfulIntake job number i → Agree e i → LawfulEngine job (of_node number) (advanced e i.waits))
      → ClaimFacts laws key node (an_engine e) (an_intake i) (an_engine (advanced e i.waits)) (an_intake i) m.0.work m.0.work
  raise_facts grows lawful = facts_by key node (an_engine e) (an_intake i) e (advanced e i.waits) i i m.0.work m.0.work parts exists refl (raised_gone (advance_bound e i.waits) e.outputs) grows (intake_same i) (λ port. record { count = refl; bound = refl })
      (λ job h hi agree. (lawful job node h hi agree, hi, agree))
      (raised_outs node e i.waits m.0.work)

  pub raise_gives : {X : Type 0} (f : EngineView) → f ≡ advanced e i.waits → EngineGrows e f
      → ((job : LoggedJob laws) (number : ℕ) → LawfulEngine job (of_node number) e → LawfulIntake job number i → Agree e i → LawfulEngine job (of_node number) f) → CellGives laws {X = X} n node Ended f i engine_word laid intake_word
  raise_gives {X} f is grows lawful = gives_by {X = X} Ended f i
      (subst (λ (v : EngineView). ClaimFacts laws key node (an_engine e) (an_intake i) (an_engine v) (an_intake i) m.0.work m.0.work) (sym is)
      (raise_facts (subst (λ (v : EngineView). EngineGrows e v) is grows) (λ job number h hi agree. subst (λ (v : EngineView). LawfulEngine job (of_node number) v) is (lawful job number h hi agree))))
      grows (λ port. record { count = refl; bound = refl })

  pub run_gives : {X : Type 0} (f : EngineView) (k : IntakeView) → CellSteps laws e f i k → CellGives laws {X = X} n node Ended f k engine_word laid intake_word
  run_gives {X} f k s = gives_by {X = X} Ended f k (step_facts key node (an_engine e) (an_intake i) e f i k parts exists s m.0.work) s.grows s.ports
