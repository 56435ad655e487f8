-- Engines of a net that may have changed are noted.
use Rattle.std.proofs.Common.{◌≡◌, ◌⊎◌, ℕ, ◌+◌, ◌-◌, ◌<◌, ◌≤◌, true, false, List, [], ◌∷◌, ◌++◌, append-nil, length, map, set, get_or, Option, Some, None, slice_get, inl, inr, refl, sym, ap, ◌∙◌, subst, arith}
use Rattle.std.proofs.lemmas.Bool.{cases_eq, cases_lt}
use Rattle.std.proofs.lemmas.Option.{same_Some, slice_get_past}
use Rattle.mg_value.specs.Payload.{Plain}
use Rattle.mg_value.specs.Packet.{Stamped}
use Rattle.mg_settled.specs.Prefix.{StreamPrefix, empty_prefix}
use Rattle.mg_stream.specs.Pool.{Backlog}
use Rattle.mg_calc.specs.Rules.{Laws}
use Rattle.mg_calc.specs.declared.event.Event.{Event}
use Rattle.mg_calc.specs.declared.event.Event.TheVariants.{Deliver, Advance, Claim, Perform, Commit, Relax}
use Rattle.mg_calc.specs.declared.event.Effect.TheVariants.{Did}
use Rattle.mg_calc.specs.declared.inputs.Inputs.{Inputs}
use Rattle.mg_node.specs.Views.{EngineView, PerformedView}
use Rattle.mg_node.specs.Job.{LoggedJob}
use Rattle.mg_node.specs.Lawful.{of_input, StandForAll, LawfulEngine}
use Rattle.mg_node.specs.Extending.{lengthened, extended}
use Rattle.mg_node.specs.Shelves.{shelf_at}
use Rattle.mg_node.proofs.Frames.{get_other}
use Rattle.mg_sched.specs.Views.{NetView}
use Rattle.mg_sched.specs.StandsFor.{StandsFor}
use Rattle.mg_sched.specs.Acts.{Rests, CommittedAt, Acts}
use Rattle.mg_sched.specs.Runs.{IsRun}
use Rattle.mg_sched.specs.Heard.{Heard}
use Rattle.mg_sched.specs.Taking.{LeavesNodes}
use Rattle.mg_sched.specs.Extends.{GoesOnWith, Extends, BringsNothing, ComesAt}
use Rattle.mg_sched.proofs.Finding.{found}
use Rattle.mg_sched.proofs.RunsOn.{run_becomes}
use Rattle.mg_sched.proofs.WoundNets.{order_of}
use Rattle.mg_sched.proofs.ExtendedNets.{handed_in}
use Rattle.mg_drive.specs.declared.moved.Moved.{Moved}
use Rattle.mg_drive.specs.Nets.{IsOfNode, IsUnmoved, AreElsewhere, HasNoted, EnginesStay, NotesMoves, KnowsSince, IsNoInput}
use Rattle.mg_drive.proofs.Looping.{becomes_keeps}

-- What is noted --

-- less has stayed as it was
abbrev pub NotesMore : Moved → Moved → Type 0
NotesMore before now = (place : ℕ) → IsUnmoved now place → IsUnmoved before place

elsewhere_more : (before now : Moved) (events : List Event) (event : Event) → NotesMore before now → ((place : ℕ) → IsUnmoved now place → ¬ IsOfNode place event) → AreElsewhere before events → AreElsewhere now (events ++ event ∷ [])
elsewhere_more before now [] event kept own all = (own, tt)
elsewhere_more before now (e ∷ events) event kept own all = (λ place unmoved. all.0 place (kept place unmoved), elsewhere_more before now events event kept own all.1)

pub heard_more : (began before now : Moved) (events : List Event) (event : Event) → NotesMore before now → ((place : ℕ) → IsUnmoved now place → ¬ IsOfNode place event) → HasNoted began before events → HasNoted began now (events ++ event ∷ [])
heard_more began before now events event kept own h = record {
  kept = λ place unmoved. h.kept place (kept place unmoved);
  elsewhere = elsewhere_more before now events event kept own h.elsewhere;
}

-- a node that is noted isn't at a place that isn't
pub not_there : (now : Moved) (node : ℕ) → ¬ IsUnmoved now node → (place : ℕ) → IsUnmoved now place → ¬ (node ≡ place)
not_there now node noted place unmoved same = noted (subst (IsUnmoved now) (sym same) unmoved)

-- one more graph input is noted
pub more_noted : (first : ℕ) (inputs : List ℕ) (upto input_at : ℕ) (before now : Moved) → slice_get inputs upto ≡ Some input_at → ¬ IsUnmoved now (first + input_at) → NotesMore before now
    → ((k input : ℕ) → k < upto → slice_get inputs k ≡ Some input → ¬ IsUnmoved before (first + input)) → (k input : ℕ) → k < upto + 1 → slice_get inputs k ≡ Some input → ¬ IsUnmoved now (first + input)
more_noted first inputs upto input_at before now here noted others was k input less at unmoved = elim (cases_eq k upto) [
  | inl same ↦
      (let it : input ≡ input_at = same_Some input input_at (sym at ∙ ap (slice_get inputs) same ∙ here) in
      noted (subst (λ (n : ℕ). IsUnmoved now (first + n)) it unmoved))
  | inr other ↦ was k input (omega (arith, less, other)) at (others (first + input) unmoved)
]

-- Runs --

engines_at : (before now : NetView) (place : ℕ) → now.engines ≡ before.engines → slice_get now.engines place ≡ slice_get before.engines place
engines_at before now place same = ap (λ (es : List EngineView). slice_get es place) same

other_engine : (before now : NetView) (node place : ℕ) (engine : EngineView) → now.engines ≡ set before.engines node engine → ¬ (node ≡ place) → slice_get now.engines place ≡ slice_get before.engines place
other_engine before now node place engine is other = ap (λ (es : List EngineView). slice_get es place) is ∙ get_other before.engines node place engine (λ same. other (sym same))

commits_elsewhere : (node number place : ℕ) (shelf : Option PerformedView) (engine : EngineView) (before now : NetView) → CommittedAt node number shelf Did engine before now → ¬ (node ≡ place) → slice_get now.engines place ≡ slice_get before.engines place
commits_elsewhere node number place None engine before now r other = engines_at before now place (ap (λ (v : NetView). v.engines) r.same)
commits_elsewhere node number place (Some p) engine before now c other = other_engine before now node place c.engine_now (ap (λ (v : NetView). v.engines) c.now_is) other

-- an event changes no engine but that of its own node
acts_elsewhere : (laws : Laws) (event : Event) (before now : NetView) (place : ℕ) → Acts laws event Did before now → ¬ IsOfNode place event → slice_get now.engines place ≡ slice_get before.engines place
acts_elsewhere laws (Deliver edge) before now place a other = elim a.delivered [
  | inl held ↦ engines_at before now place (ap (λ (v : NetView). v.engines) held.1.same)
  | inr brings ↦ engines_at before now place (ap (λ (v : NetView). v.engines) brings.1.now_is)
]
acts_elsewhere laws (Advance node) before now place a other = other_engine before now node place _ (ap (λ (v : NetView). v.engines) a.now_is) other
acts_elsewhere laws (Claim node) before now place a other = elim a [
  | inl held ↦ engines_at before now place (ap (λ (v : NetView). v.engines) held.1.same)
  | inr claims ↦ other_engine before now node place claims.1.engine_now (ap (λ (v : NetView). v.engines) claims.1.now_is) other
]
acts_elsewhere laws (Perform node number) before now place a other = elim a.performed [
  | inl none ↦ engines_at before now place (ap (λ (v : NetView). v.engines) none.1.same)
  | inr performs ↦ other_engine before now node place _ (ap (λ (v : NetView). v.engines) performs.performed.2) other
]
acts_elsewhere laws (Commit node number) before now place a other = commits_elsewhere node number place (shelf_at a.engine number) a.engine before now a.committed other
acts_elsewhere laws Relax before now place a other = elim a [
  | inl none ↦ engines_at before now place (ap (λ (v : NetView). v.engines) none.1.same)
  | inr full ↦ engines_at before now place (ap (λ (v : NetView). v.engines) full.2)
]

run_elsewhere : (laws : Laws) (moved : Moved) (events : List Event) (before now : NetView) (place : ℕ) → IsRun laws events before now → AreElsewhere moved events → IsUnmoved moved place → slice_get now.engines place ≡ slice_get before.engines place
run_elsewhere laws moved [] before now place is all unmoved = engines_at before now place (ap (λ (v : NetView). v.engines) is)
run_elsewhere laws moved (event ∷ events) before now place (next, of, acts, run) all unmoved =
    run_elsewhere laws moved events next now place run all.1 unmoved ∙ acts_elsewhere laws event before next place acts (all.0 place unmoved)

-- what a sweep tells its hearer is noted
pub heard_notes : {laws : Laws} (before now : Moved) (net net_now : NetView) → Heard laws (λ began now events. HasNoted began now events) before now net net_now → NotesMoves before now net net_now
heard_notes {laws} before now net net_now heard since stay =
    let h = heard before [] (record { kept = λ place unmoved. unmoved; elsewhere = tt }) in
    let run = h.1 in
    record {
      plan = (becomes_keeps net net_now (run_becomes h.0 net net_now run)).plan ∙ stay.plan;
      engines = λ place unmoved. run_elsewhere laws now h.0 net net_now place run h.2.elsewhere unmoved ∙ stay.engines place (h.2.kept place unmoved);
    }

-- any engine may have changed
pub all_noted : (before now : Moved) (net net_now : NetView) → now.all ≡ true → net_now.plan ≡ net.plan → NotesMoves before now net net_now
all_noted before now net net_now all plan since stay = record {
  plan = plan ∙ stay.plan;
  engines = λ place unmoved. absurd (let no : true ≡ false = sym all ∙ unmoved.0 in cc);
}

-- nothing has changed but what was taken
pub takings_noted : (moved : Moved) (net net_now : NetView) → LeavesNodes net net_now → NotesMoves moved moved net net_now
takings_noted moved net net_now left since stay = record {
  plan = ap (λ (v : NetView). v.plan) left ∙ stay.plan;
  engines = λ place unmoved. engines_at net net_now place (ap (λ (v : NetView). v.engines) left) ∙ stay.engines place unmoved;
}

pub notes_on : (a b c : Moved) (net between now : NetView) → NotesMoves a b net between → NotesMoves b c between now → NotesMoves a c net now
notes_on a b c net between now one two = λ since stay. two since (one since stay)

pub same_noted : (moved : Moved) (net net_now : NetView) → net_now ≡ net → NotesMoves moved moved net net_now
same_noted moved net net_now same since stay = subst (EnginesStay moved since) (sym same) stay

-- Some graph inputs get pieces --

-- the engines of the inputs are noted, and all others stay
pub inputs_noted : (moved : Moved) (net net_now : NetView) (inputs : List ℕ) → ((i input : ℕ) → slice_get inputs i ≡ Some input → ¬ IsUnmoved moved (length net.plan.nodes + input))
    → ((place : ℕ) → IsNoInput (length net.plan.nodes) inputs place → slice_get net_now.engines place ≡ slice_get net.engines place) → net_now.plan ≡ net.plan → NotesMoves moved moved net net_now
inputs_noted moved net net_now inputs noted others plan since stay = record {
  plan = plan ∙ stay.plan;
  engines = λ place unmoved. others place (λ i input at here. noted i input at (subst (IsUnmoved moved) here unmoved)) ∙ stay.engines place unmoved;
}

abbrev with_outputs : EngineView → List (Backlog Plain) → EngineView
with_outputs engine outputs = record engine { outputs = outputs }

same_backlog : (a b : Backlog Plain) → a.gone ≡ b.gone → a.packets ≡ b.packets → a.bound ≡ b.bound → a ≡ b
same_backlog a b gone packets bound = λ i. record { gone = gone i; packets = packets i; bound = bound i }

nothing_more : (outputs : List (Backlog Plain)) (s piece : StreamPrefix Plain) → StandForAll outputs (s ∷ []) → BringsNothing s piece → map (λ b. lengthened b piece) outputs ≡ outputs
nothing_more [] s piece stand nothing = refl
nothing_more (b ∷ []) s piece stand nothing =
    let bound = stand.0.bound in
    let low = nothing.bound in
    ap (λ (c : Backlog Plain). c ∷ []) (same_backlog (lengthened b piece) b refl (ap (λ (ps : List (Stamped Plain)). b.packets ++ ps) nothing.packets ∙ append-nil b.packets) (omega (arith, low, bound)))
nothing_more (b ∷ c ∷ outputs) s piece stand nothing = absurd stand.1

-- a piece that brings nothing leaves an engine as it was
extended_by_little : {laws : Laws} (job : LoggedJob laws) (input : ℕ) (engine : EngineView) (piece : StreamPrefix Plain) → LawfulEngine job (of_input input) engine → input < length job.job.inputs.streams
    → BringsNothing (get_or job.job.inputs.streams input empty_prefix) piece → extended engine piece ≡ engine
unfolding LawfulEngine
extended_by_little {laws} job input engine piece h less nothing =
    ap (with_outputs engine)
    (nothing_more engine.outputs (get_or h.streams input empty_prefix) piece h.kept
    (subst (λ (s : StreamPrefix Plain). BringsNothing s piece) (sym (handed_in job h.streams input h.solves less)) nothing))

input_lawful : {laws : Laws} (first : LoggedJob laws) (net : NetView) (input : ℕ) (engine : EngineView) → StandsFor first net → slice_get net.engines (length net.plan.nodes + input) ≡ Some engine → LawfulEngine first (of_input input) engine
unfolding StandsFor
input_lawful {laws} first net input engine h at = h.inputs input engine at

engines_long : {laws : Laws} (first : LoggedJob laws) (net : NetView) → StandsFor first net → length net.engines ≡ length net.plan.nodes + length first.job.inputs.streams
unfolding StandsFor
engines_long {laws} first net h =
    let engines = h.engines in let streams = h.is_job.inputs.streams in
    let plan = ap (λ p. length p.inputs) h.plan in
    omega (arith, engines, streams, plan)

input_stays : {laws : Laws} (more : Inputs) (first later : LoggedJob laws) (inputs : List ℕ) (pieces : List (StreamPrefix Plain)) (net now : NetView) (input : ℕ) → ComesAt inputs pieces first.job.inputs.streams more → GoesOnWith more first later → StandsFor first net → Extends more net now
    → ((i : ℕ) → ¬ (slice_get inputs i ≡ Some input)) → slice_get now.engines (length net.plan.nodes + input) ≡ slice_get net.engines (length net.plan.nodes + input)
input_stays {laws} more first later inputs pieces net now input comes g stands x none = elim (cases_lt (length net.plan.nodes + input) (length net.engines)) [
  | inl less ↦
      (let engine = found net.engines (length net.plan.nodes + input) less in
      let long = engines_long first net stands in
      let count = g.pieces in
      let piece = found more.streams input (omega (arith, less, long, count)) in
      x.inputs input engine.0 piece.0 engine.1 piece.1
      ∙ ap (λ (e : EngineView). Some e) (extended_by_little first input engine.0 piece.0 (input_lawful first net input engine.0 stands engine.1) (omega (arith, less, long)) (comes.others input piece.0 piece.1 none))
      ∙ sym engine.1)
  | inr past ↦
      (let same = x.places in
      slice_get_past now.engines (length net.plan.nodes + input) (omega (arith, past, same)) ∙ sym (slice_get_past net.engines (length net.plan.nodes + input) past))
]

pub others_stay : {laws : Laws} (more : Inputs) (first later : LoggedJob laws) (inputs : List ℕ) (pieces : List (StreamPrefix Plain)) (net now : NetView) (place : ℕ) → ComesAt inputs pieces first.job.inputs.streams more → GoesOnWith more first later → StandsFor first net → Extends more net now
    → IsNoInput (length net.plan.nodes) inputs place → slice_get now.engines place ≡ slice_get net.engines place
others_stay {laws} more first later inputs pieces net now place comes g stands x none = elim (order_of place (length net.plan.nodes)) [
  | inl less ↦ x.nodes place less
  | inr past ↦
      (let same : length net.plan.nodes + (place - length net.plan.nodes) ≡ place = omega (arith, past) in
      subst (λ (k : ℕ). slice_get now.engines k ≡ slice_get net.engines k) same
      (input_stays more first later inputs pieces net now (place - length net.plan.nodes) comes g stands x (λ i at. none i (place - length net.plan.nodes) at (sym same))))
]

-- What is known --

pub known_on : (knows : NetView → Type 0) (before now : Moved) (net net_now : NetView) → NotesMoves before now net net_now → KnowsSince knows before net → KnowsSince knows now net_now
known_on knows before now net net_now notes k = record { since = k.since; knew = k.knew; stay = notes k.since k.stay }

-- what is known goes on to another who knows as much
pub known_by : (knows others : NetView → Type 0) (moved : Moved) (net : NetView) → ((seen : NetView) → knows seen → others seen) → KnowsSince knows moved net → KnowsSince others moved net
known_by knows others moved net on k = record { since = k.since; knew = on k.since k.knew; stay = k.stay }

pub known_now : (knows : NetView → Type 0) (moved : Moved) (net : NetView) → knows net → KnowsSince knows moved net
known_now knows moved net knew = record { since = net; knew = knew; stay = record { plan = refl; engines = λ place unmoved. refl } }
