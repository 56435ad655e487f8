-- A net that goes on with further input stands for the job that has it.
use mathlib.Core.Path.{contract'}
use Rattle.std.proofs.Common.{◌≡◌, ◌⊎◌, inl, inr, ℕ, zero, suc, ◌+◌, ◌-◌, ◌<◌, ◌≤◌, nat_lt, Bool, true, false, List, [], ◌∷◌, ◌++◌, length, length-append, replicate, drop_at, map, Result, Ok, Err, Option, Some, get_or, slice_get, slice_index_or, ap, sym, refl, subst, ◌∙◌, arith}
use Rattle.std.proofs.lemmas.List.{length-replicate}
use Rattle.std.proofs.lemmas.List.Elements.{All-weaker}
use Rattle.std.proofs.lemmas.Option.{same_Some, slice_get_within, get_or_from_slice_get}
use Rattle.std.specs.Result.{OnErr}
use Rattle.mg_value.specs.Payload.{Plain}
use Rattle.mg_settled.specs.Prefix.{StreamPrefix, IsPrefix, empty_prefix}
use Rattle.mg_stream.specs.Queue.{StandsFor as StandsForPrefix}
use Rattle.mg_stream.specs.Pool.{Backlog, queue_of, empty_backlog}
use Rattle.mg_calc.specs.Rules.{Laws}
use Rattle.mg_calc.specs.declared.edge.Edge.{Edge}
use Rattle.mg_calc.specs.declared.inputs.Inputs.{Inputs}
use Rattle.mg_calc.specs.declared.plan.Plan.{Plan}
use Rattle.mg_calc.specs.Equations.{IsJob}
use Rattle.mg_calc.specs.Told.{BoxTold}
use Rattle.mg_calc.proofs.FirstRound.{a_solution}
use Rattle.mg_calc.proofs.Jobs.{job_known}
use Rattle.mg_calc.proofs.Rounds.{stream_is_prefix}
use Rattle.mg_calc.proofs.Solutions.{solution_keeps}
use Rattle.mg_node.specs.Views.{IntakeView, EngineView}
use Rattle.mg_node.specs.Job.{LoggedJob, Solves}
use Rattle.mg_node.specs.Batches.{Grows}
use Rattle.mg_node.specs.Lawful.{of_input, StandForAll, LawfulWork, LawfulEngine}
use Rattle.mg_node.specs.Leading.{output_at}
use Rattle.mg_node.specs.Ports.{port_queue}
use Rattle.mg_node.specs.IntakeStanding.{HasGrown}
use Rattle.mg_node.specs.Extending.{joined, lengthened, extended, MayExtend}
use Rattle.mg_node.proofs.Lemmas.{engine_stays, extended_lawful, extended_by_nothing, get_drop, get_first, grown_by_itself, grown_further, intake_stays, unbegun_stays, work_stays}
use Rattle.mg_sched.specs.Views.{WorkQueueView, NetView}
use Rattle.mg_sched.specs.StandsFor.{IsEngine, IsCell, IsJoined, HasSpare, IsNetOf, StandsFor}
use Rattle.mg_sched.specs.Extends.{GoesOnWith, MayGoOnWith, Extends, for_last}
use Rattle.mg_sched.specs.Code.Longer.{MayEach, AreLonger}
use Rattle.mg_sched.proofs.Finding.{found}
use Rattle.mg_sched.proofs.WoundNets.{order_of}

-- Solutions.

solved : {laws : Laws} (job : LoggedJob laws) → IsJob job.job → (streams : List (StreamPrefix Plain)) × Solves job streams
solved {laws} job is =
    let it = a_solution job.job (job_known job.job is) is.plan is.inputs.streams in
    (it.0, record { is_job = is; solution = it.1 })

-- the solution's stream of a graph input is the stream that the job has for it
pub handed_in : {laws : Laws} (job : LoggedJob laws) (streams : List (StreamPrefix Plain)) (input : ℕ) → Solves job streams → input < length job.job.inputs.streams → get_or streams input empty_prefix ≡ get_or job.job.inputs.streams input empty_prefix
handed_in {laws} job streams input solves less =
    let s = found job.job.inputs.streams input less in
    get_or_from_slice_get streams input s.0 empty_prefix (ap (λ (ss : List (StreamPrefix Plain)). slice_get ss input) (sym solves.solution.meets) ∙ get_first job.job.inputs.streams _ input s.0 s.1)
    ∙ sym (get_or_from_slice_get job.job.inputs.streams input s.0 empty_prefix s.1)

-- so the stream of the later job is that of the first job with its piece after it
piece_behind : {laws : Laws} (more : Inputs) (first later : LoggedJob laws) (streams longer : List (StreamPrefix Plain)) (input : ℕ) (piece : StreamPrefix Plain) → GoesOnWith more first later → Solves first streams → Solves later longer → slice_get more.streams input ≡ Some piece
    → get_or longer input empty_prefix ≡ joined (get_or streams input empty_prefix) piece
piece_behind {laws} more first later streams longer input piece g solves further at =
    let there = slice_get_within more.streams input piece at in
    let pieces = g.pieces in
    let plan : length later.job.plan.inputs ≡ length first.job.plan.inputs = ap (λ (p : Plan). length p.inputs) g.grows.plan in
    let a = solves.is_job.inputs.streams in
    let b = further.is_job.inputs.streams in
    handed_in later longer input further (omega (arith, there, pieces, plan, a, b))
    ∙ g.streams input there
    ∙ ap (λ (s : StreamPrefix Plain). joined s (get_or more.streams input empty_prefix)) (sym (handed_in first streams input solves (omega (arith, there, pieces))))
    ∙ ap (λ (s : StreamPrefix Plain). joined (get_or streams input empty_prefix) s) (get_or_from_slice_get more.streams input piece empty_prefix at)

-- Engines of graph inputs.

first_stands : (outputs : List (Backlog Plain)) (s : StreamPrefix Plain) → StandForAll outputs (s ∷ []) → StandsForPrefix (queue_of 0 (get_or outputs 0 empty_backlog)) s
first_stands [] s h = absurd h
first_stands (b ∷ outputs) s h = h.0

pub may_extend : {laws : Laws} (more : Inputs) (first later : LoggedJob laws) (engine : EngineView) (input : ℕ) (piece : StreamPrefix Plain) → GoesOnWith more first later → LawfulEngine first (of_input input) engine → slice_get more.streams input ≡ Some piece → MayExtend laws engine piece
unfolding LawfulEngine
may_extend {laws} more first later engine input piece g h at =
    let l = solved later g.grows.is_job in
    record {
      job = first;
      input = input;
      lawful = h;
      output = record {
        whole = get_or h.streams input empty_prefix;
        stands = first_stands engine.outputs (get_or h.streams input empty_prefix) h.kept;
        is_prefix = subst IsPrefix (piece_behind more first later h.streams l.0 input piece g h.solves l.1 at)
            (stream_is_prefix l.0 input (solution_keeps later.job (job_known later.job g.grows.is_job) l.0 l.1.solution));
      };
    }

lawful_extended : {laws : Laws} (more : Inputs) (first later : LoggedJob laws) (engine : EngineView) (input : ℕ) (piece : StreamPrefix Plain) → GoesOnWith more first later → LawfulEngine first (of_input input) engine → slice_get more.streams input ≡ Some piece
    → LawfulEngine later (of_input input) (extended engine piece)
unfolding LawfulEngine
lawful_extended {laws} more first later engine input piece g h at =
    let l = solved later g.grows.is_job in
    let there = h.there in
    let plan : length later.job.plan.inputs ≡ length first.job.plan.inputs = ap (λ (p : Plan). length p.inputs) g.grows.plan in
    extended_lawful first later input h.streams l.0 engine piece h h.solves l.1 (omega (arith, there, plan)) (piece_behind more first later h.streams l.0 input piece g h.solves l.1 at)

-- an output grows, and gives up nothing
record GrowsWhole (before now : Backlog Plain) : Type 0 where
  grown : HasGrown (queue_of 0 before) (queue_of 0 now)
  gone : now.gone ≡ before.gone

grows_whole : (outputs : List (Backlog Plain)) (piece : StreamPrefix Plain) (i : ℕ) → GrowsWhole (get_or outputs i empty_backlog) (get_or (map (λ b. lengthened b piece) outputs) i empty_backlog)
grows_whole [] piece i = record { grown = grown_by_itself (queue_of 0 empty_backlog); gone = refl }
grows_whole (b ∷ outputs) piece zero = record { grown = record { count = omega (arith, length-append b.packets piece.packets); bound = omega arith }; gone = refl }
grows_whole (b ∷ outputs) piece (suc i) = grows_whole outputs piece i

joined_extended : (engine : EngineView) (piece : StreamPrefix Plain) (e : Edge) (intake : IntakeView) → IsJoined engine e intake → IsJoined (extended engine piece) e intake
joined_extended engine piece e intake h =
    let more = grows_whole engine.outputs piece (e.stream - engine.first) in
    record {
      came = grown_further (port_queue intake.waits e.port) (output_at engine e) (output_at (extended engine piece) e) h.came more.grown;
      kept = (let kept = h.kept in let gone = more.gone in omega (arith, kept, gone));
    }

-- Cells, and user-supplied calculators.

engine_later : {laws : Laws} (first later : LoggedJob laws) (begun : Bool) (node : ℕ) (engine : EngineView) → Grows first later → IsEngine first begun node engine → IsEngine later begun node engine
engine_later {laws} first later true node engine g h = engine_stays first later node engine g h
engine_later {laws} first later false node engine g h = unbegun_stays first later node engine g h

cell_later : {laws : Laws} (first later : LoggedJob laws) (begun : Bool) (node : ℕ) (engine : EngineView) (intake : IntakeView) (work_queue : WorkQueueView) → Grows first later → IsCell first begun node engine intake work_queue → IsCell later begun node engine intake work_queue
cell_later {laws} first later begun node engine intake work_queue g h = record {
  lawful_engine = engine_later first later begun node engine g h.lawful_engine;
  lawful_intake = intake_stays first later node intake g h.lawful_intake;
  agree = h.agree;
  works = record {
    room = h.works.room;
    out = h.works.out;
    lawful = All-weaker (LawfulWork first) (LawfulWork later) (λ w lawful. work_stays first later w g lawful) work_queue.works h.works.lawful;
    apart = h.works.apart;
    complete = h.works.complete;
  };
}

abbrev with_inputs : {laws : Laws} → LoggedJob laws → Inputs → LoggedJob laws
with_inputs {laws} job more = record { job = record { plan = job.job.plan; inputs = more; laws = job.job.laws }; boxes = job.boxes; same = job.same }

spare_later : {laws : Laws} (first later : LoggedJob laws) (spare : List (Option BoxTold)) → Grows first later → HasSpare first spare → HasSpare later spare
spare_later {laws} first later spare g h =
    let same : with_inputs first later.job.inputs ≡ later = (λ i. record { job = record { plan = (sym g.plan) i; inputs = later.job.inputs; laws = ((sym (contract' first.same) ∙ contract' later.same) i).0 }; boxes = (sym g.boxes) i; same = ((sym (contract' first.same) ∙ contract' later.same) i).1 }) in
    subst (λ (j : LoggedJob laws). HasSpare j spare) same (record { count = h.count; numbers = h.numbers; used = h.used; unused = h.unused })

-- Nets.

-- what stands at the place of a graph input, after the nodes
pub record IsExtendedAt (more : Inputs) (before : NetView) (input : ℕ) (engine : EngineView) : Type 0 where
  pub old : EngineView
  pub old_at : slice_get before.engines (length before.plan.nodes + input) ≡ Some old
  pub piece : StreamPrefix Plain
  pub piece_at : slice_get more.streams input ≡ Some piece
  pub is : engine ≡ extended old piece

pub extended_at : {laws : Laws} (more : Inputs) (first later : LoggedJob laws) (before now : NetView) (input : ℕ) (engine : EngineView) → GoesOnWith more first later → Extends more before now → StandsFor first before
    → slice_get now.engines (length before.plan.nodes + input) ≡ Some engine → IsExtendedAt more before input engine
unfolding StandsFor
extended_at {laws} more first later before now input engine g x h at =
    let within = slice_get_within now.engines (length before.plan.nodes + input) engine at in
    let places = x.places in let engines = h.engines in let pieces = g.pieces in let count = h.is_job.inputs.streams in
    let plan : length before.plan.inputs ≡ length first.job.plan.inputs = ap (λ (p : Plan). length p.inputs) h.plan in
    let old = found before.engines (length before.plan.nodes + input) (omega (arith, within, places)) in
    let piece = found more.streams input (omega (arith, within, places, engines, pieces, count, plan)) in
    record {
      old = old.0;
      old_at = old.1;
      piece = piece.0;
      piece_at = piece.1;
      is = same_Some engine (extended old.0 piece.0) (sym at ∙ x.inputs input old.0 piece.0 old.1 piece.1);
    }

joined_later : {laws : Laws} (more : Inputs) (first later : LoggedJob laws) (before now : NetView) (e : Edge) (number place : ℕ) (engine : EngineView) (intake : IntakeView) → GoesOnWith more first later → Extends more before now → StandsFor first before
    → (place < length before.plan.nodes) ⊎ (length before.plan.nodes ≤ place) → ((old : EngineView) → slice_get before.engines place ≡ Some old → IsJoined old e intake) → slice_get now.engines place ≡ Some engine → IsJoined engine e intake
joined_later {laws} more first later before now e number place engine intake g x h (inl less) joined at = joined engine (sym (x.nodes place less) ∙ at)
joined_later {laws} more first later before now e number place engine intake g x h (inr past) joined at =
    let same : place ≡ length before.plan.nodes + (place - length before.plan.nodes) = omega (arith, past) in
    let it = extended_at more first later before now (place - length before.plan.nodes) engine g x h (subst (λ (k : ℕ). slice_get now.engines k ≡ Some engine) same at) in
    subst (λ (v : EngineView). IsJoined v e intake) (sym it.is)
    (joined_extended it.old it.piece e intake (joined it.old (subst (λ (k : ℕ). slice_get before.engines k ≡ Some it.old) (sym same) it.old_at)))

stands_so : {laws : Laws} (more : Inputs) (first later : LoggedJob laws) (before now : NetView) → GoesOnWith more first later → Extends more before now → StandsFor first before → IsNetOf later (record before { engines = now.engines })
unfolding StandsFor
stands_so {laws} more first later before now g x h = record {
  is_job = g.grows.is_job;
  plan = h.plan ∙ sym g.grows.plan;
  given = h.given ∙ g.grows.sides;
  engines = x.places ∙ h.engines;
  intakes = h.intakes;
  work_queues = h.work_queues;
  cells = λ node engine intake work_queue at to on.
      (let less = slice_get_within before.work_queues node work_queue on in let work_queues = h.work_queues in
      cell_later first later (nat_lt node before.begun) node engine intake work_queue g.grows (h.cells node engine intake work_queue (sym (x.nodes node (omega (arith, less, work_queues))) ∙ at) to on));
  inputs = λ input engine at.
      (let it = extended_at more first later before now input engine g x h at in
      subst (λ (v : EngineView). LawfulEngine later (of_input input) v) (sym it.is) (lawful_extended more first later it.old input it.piece g (h.inputs input it.old it.old_at) it.piece_at));
  collector = λ intake to. intake_stays first later (length before.plan.nodes) intake g.grows (h.collector intake to);
  edges = λ e number place engine intake at from engine_at to.
      joined_later more first later before now e number place engine intake g x h (order_of place (length before.plan.nodes)) (λ old old_at. h.edges e number place old intake at from old_at to) engine_at;
  limits = record {
    of_plan = h.limits.of_plan;
    queues = λ number e q at q_at.
        (let knows = h.limits.queues number e q at q_at in
        record { waiting = knows.waiting; counts = (λ engine less engine_at. knows.counts engine less (sym (x.nodes e.node less) ∙ engine_at)) });
  };
  spare = spare_later first later before.spare g.grows h.spare;
  kept = h.kept;
  begun = h.begun;
  not_wound = h.not_wound;
}

pub extended_stands : {laws : Laws} (more : Inputs) (first later : LoggedJob laws) (before now : NetView) → GoesOnWith more first later → Extends more before now → StandsFor first before → StandsFor later now
unfolding StandsFor
extended_stands {laws} more first later before now g x h = subst (λ (v : NetView). IsNetOf later v) (sym x.parts) (stands_so more first later before now g x h)

-- Nets.

-- the pieces of the last graph inputs, if the graph inputs before them got nothing
record AreLast (more : Inputs) (pieces : List (StreamPrefix Plain)) (net : NetView) : Type 0 where
  n : ℕ
  streams : more.streams ≡ replicate n empty_prefix ++ pieces
  from : length net.engines ≡ length net.plan.nodes + n + length pieces

behind_first : {X : Type 0} (n i : ℕ) (x : X) (xs : List X) → slice_get (replicate n x ++ xs) (n + i) ≡ slice_get xs i
behind_first {X} n i x xs = sym (get_drop n (replicate n x ++ xs) i) ∙ ap (λ (ys : List X). slice_get ys i) (drop_at (replicate n x) xs n (length-replicate n x))

among_first : {X : Type 0} (n i : ℕ) (x : X) (xs : List X) → i < n → slice_get (replicate n x ++ xs) i ≡ Some x
among_first zero i x xs less = absurd (omega (arith, less))
among_first (suc n) zero x xs less = refl
among_first (suc n) (suc i) x xs less = among_first n i x xs (omega (arith, less))

are_last : {laws : Laws} (more : Inputs) (pieces : List (StreamPrefix Plain)) (net : NetView) (n : ℕ) → MayGoOnWith laws more net → more.streams ≡ replicate n empty_prefix ++ pieces → AreLast more pieces net
unfolding StandsFor
are_last {laws} more pieces net n may is = record {
  n = n;
  streams = is;
  from = (let h = may.stands in
      let count = may.goes_on.pieces in let streams = h.is_job.inputs.streams in let engines = h.engines in
      let plan : length net.plan.inputs ≡ length may.first.job.plan.inputs = ap (λ (p : Plan). length p.inputs) h.plan in
      let all : length more.streams ≡ length (replicate n (empty_prefix {X = Plain}) ++ pieces) = ap length is in
      omega (arith, count, streams, engines, plan, all, length-append (replicate n (empty_prefix {X = Plain})) pieces, length-replicate n (empty_prefix {X = Plain})));
}

-- the engine of a graph input is lawful, and may be extended by its piece
may_last : {laws : Laws} (more : Inputs) (pieces : List (StreamPrefix Plain)) (net : NetView) → MayGoOnWith laws more net → AreLast more pieces net → MayEach laws (length net.engines - length pieces) pieces net.engines
unfolding StandsFor
may_last {laws} more pieces net may last input engine piece at piece_at =
    let from = last.from in
    let place : length net.engines - length pieces + input ≡ length net.plan.nodes + (last.n + input) = omega (arith, from) in
    may_extend more may.first may.later engine (last.n + input) piece may.goes_on
    (may.stands.inputs (last.n + input) engine (ap (λ (k : ℕ). slice_get net.engines k) (sym place) ∙ at))
    (ap (λ (ss : List (StreamPrefix Plain)). slice_get ss (last.n + input)) last.streams ∙ behind_first last.n input empty_prefix pieces ∙ piece_at)

extends_at : {laws : Laws} (more : Inputs) (pieces : List (StreamPrefix Plain)) (net : NetView) (now : List EngineView) → MayGoOnWith laws more net → AreLast more pieces net → AreLonger (length net.engines - length pieces) pieces (length pieces) net.engines now
    → (input : ℕ) (engine : EngineView) (piece : StreamPrefix Plain) → slice_get net.engines (length net.plan.nodes + input) ≡ Some engine → slice_get more.streams input ≡ Some piece
    → slice_get now (length net.plan.nodes + input) ≡ Some (extended engine piece)
unfolding StandsFor
extends_at {laws} more pieces net now may last are input engine piece at piece_at = elim (order_of input last.n) [
  | inl less ↦
      (let from = last.from in
      let nothing : empty_prefix ≡ piece =
      same_Some empty_prefix piece (sym (among_first last.n input empty_prefix pieces less) ∙ ap (λ (ss : List (StreamPrefix Plain)). slice_get ss input) (sym last.streams) ∙ piece_at) in
      are.others (length net.plan.nodes + input) (inl (omega (arith, from, less))) ∙ at
      ∙ ap (λ (v : EngineView). Some v) (sym (extended_by_nothing may.first input engine (may.stands.inputs input engine at)))
      ∙ ap (λ (s : StreamPrefix Plain). Some (extended engine s)) nothing)
  | inr past ↦
      (let from = last.from in
      let place : length net.plan.nodes + input ≡ length net.engines - length pieces + (input - last.n) = omega (arith, from, past) in
      let same : input ≡ last.n + (input - last.n) = omega (arith, past) in
      let there : slice_get pieces (input - last.n) ≡ Some piece =
      sym (behind_first last.n (input - last.n) empty_prefix pieces) ∙ ap (λ (k : ℕ). slice_get (replicate last.n empty_prefix ++ pieces) k) (sym same)
      ∙ ap (λ (ss : List (StreamPrefix Plain)). slice_get ss input) (sym last.streams) ∙ piece_at in
      ap (λ (k : ℕ). slice_get now k) place
      ∙ are.longer (input - last.n) engine piece (slice_get_within pieces (input - last.n) piece there) (ap (λ (k : ℕ). slice_get net.engines k) (sym place) ∙ at) there)
]

extends_so : {laws : Laws} (more : Inputs) (pieces : List (StreamPrefix Plain)) (net : NetView) (now : List EngineView) → MayGoOnWith laws more net → AreLast more pieces net → AreLonger (length net.engines - length pieces) pieces (length pieces) net.engines now
    → Extends more net (record net { engines = now })
extends_so {laws} more pieces net now may last are = record {
  parts = refl;
  places = are.places;
  nodes = λ place less. are.others place (inl (let from = last.from in omega (arith, less, from)));
  inputs = extends_at more pieces net now may last are;
}

-- The net as it is kept.

last_of : {laws : Laws} (pieces : List (StreamPrefix Plain)) (shown net : NetView) → shown ≡ net → MayGoOnWith laws (for_last (length net.plan.inputs) pieces) net → AreLast (for_last (length net.plan.inputs) pieces) pieces shown
last_of {laws} pieces shown net is may = are_last (for_last (length net.plan.inputs) pieces) pieces shown (length net.plan.inputs - length pieces) (subst (MayGoOnWith laws (for_last (length net.plan.inputs) pieces)) (sym is) may) refl

pub pieces_fit : {laws : Laws} (pieces : List (StreamPrefix Plain)) (shown net : NetView) (engines : List EngineView) → shown ≡ net → MayGoOnWith laws (for_last (length net.plan.inputs) pieces) net → engines ≡ shown.engines → length pieces ≤ length engines
pieces_fit {laws} pieces shown net engines is may engines_are =
    let from = (last_of pieces shown net is may).from in
    let same = ap length engines_are in
    omega (arith, from, same)

pub may_each : {laws : Laws} (pieces : List (StreamPrefix Plain)) (shown net : NetView) (engines : List EngineView) → shown ≡ net → MayGoOnWith laws (for_last (length net.plan.inputs) pieces) net → engines ≡ shown.engines
    → MayEach laws (length engines - length pieces) pieces engines
may_each {laws} pieces shown net engines is may engines_are =
    let more : Inputs = for_last (length net.plan.inputs) pieces in
    subst (λ (es : List EngineView). MayEach laws (length es - length pieces) pieces es) (sym engines_are) (may_last more pieces shown (subst (MayGoOnWith laws more) (sym is) may) (last_of pieces shown net is may))

pub extends_shown : {laws : Laws} (pieces : List (StreamPrefix Plain)) (shown net : NetView) (engines longer now : List EngineView) → shown ≡ net → MayGoOnWith laws (for_last (length net.plan.inputs) pieces) net → engines ≡ shown.engines
    → AreLonger (length engines - length pieces) pieces (length pieces) engines longer → now ≡ longer → Extends (for_last (length net.plan.inputs) pieces) net (record shown { engines = now })
extends_shown {laws} pieces shown net engines longer now is may engines_are are now_is =
    let more : Inputs = for_last (length net.plan.inputs) pieces in
    let all : AreLonger (length shown.engines - length pieces) pieces (length pieces) shown.engines longer =
    subst (λ (es : List EngineView). AreLonger (length es - length pieces) pieces (length pieces) es longer) engines_are are in
    subst (λ (v : NetView). Extends more v (record shown { engines = now })) is
    (subst (λ (es : List EngineView). Extends more shown (record shown { engines = es })) (sym now_is)
    (extends_so more pieces shown longer (subst (MayGoOnWith laws more) (sym is) may) (last_of pieces shown net is may) all))

-- if nothing was laid, the net is as it was
pub same_shown : {A E : Type 0} (r : Result A E) (shown net : NetView) (engines left now : List EngineView) → shown ≡ net → engines ≡ shown.engines → left ≡ engines → now ≡ left → OnErr r (record shown { engines = now } ≡ net)
same_shown (Ok a) shown net engines left now is engines_are unchanged now_is = tt
same_shown (Err e) shown net engines left now is engines_are unchanged now_is = ap (λ (es : List EngineView). record shown { engines = es }) (now_is ∙ unchanged ∙ engines_are) ∙ is

-- Further input of all graph inputs is that of the last graph inputs, as many as there are.

all_streams : {laws : Laws} (more : Inputs) (net : NetView) → MayGoOnWith laws more net → (for_last (length net.plan.inputs) more.streams).streams ≡ more.streams
unfolding StandsFor
all_streams {laws} more net may =
    let h = may.stands in let pieces = may.goes_on.pieces in let count = h.is_job.inputs.streams in
    let plan : length net.plan.inputs ≡ length may.first.job.plan.inputs = ap (λ (p : Plan). length p.inputs) h.plan in
    let none : length net.plan.inputs - length more.streams ≡ 0 = omega (arith, pieces, count, plan) in
    ap (λ (n : ℕ). replicate n (empty_prefix {X = Plain}) ++ more.streams) none

pub all_go_on : {laws : Laws} (more : Inputs) (net : NetView) (first later : LoggedJob laws) → MayGoOnWith laws more net → GoesOnWith more first later → GoesOnWith (for_last (length net.plan.inputs) more.streams) first later
all_go_on {laws} more net first later may g =
    let same = sym (all_streams more net may) in
    record {
      grows = g.grows;
      pieces = subst (λ (ss : List (StreamPrefix Plain)). length ss ≡ length first.job.inputs.streams) same g.pieces;
      streams = subst (λ (ss : List (StreamPrefix Plain)). (input : ℕ) → input < length ss → slice_index_or later.job.inputs.streams input empty_prefix
          ≡ joined (slice_index_or first.job.inputs.streams input empty_prefix) (slice_index_or ss input empty_prefix)) same g.streams;
    }

pub all_may_go_on : {laws : Laws} (more : Inputs) (net : NetView) → MayGoOnWith laws more net → MayGoOnWith laws (for_last (length net.plan.inputs) more.streams) net
all_may_go_on {laws} more net may = record { first = may.first; later = may.later; stands = may.stands; goes_on = all_go_on more net may.first may.later may may.goes_on }

pub all_extends : {laws : Laws} (more : Inputs) (before now : NetView) → MayGoOnWith laws more before → Extends (for_last (length before.plan.inputs) more.streams) before now → Extends more before now
all_extends {laws} more before now may x = record {
  parts = x.parts;
  places = x.places;
  nodes = x.nodes;
  inputs = λ input engine piece at piece_at. x.inputs input engine piece at (ap (λ (ss : List (StreamPrefix Plain)). slice_get ss input) (all_streams more before may) ∙ piece_at);
}
