-- Deliveries between lawful parts: an output and the port that it leads to are of one stream, and the intake stays lawful.
use Rattle.std.proofs.Common.{◌≡◌, ℕ, zero, suc, ◌+◌, ◌-◌, ◌<◌, ◌≤◌, List, [], ◌∷◌, length, map, take, get_or, Some, slice_get, ap, sym, refl, subst, ◌∙◌, arith}
use Rattle.std.specs.List.{range_with_len}
use Rattle.std.proofs.lemmas.List.{length-map, get_or-map}
use Rattle.std.proofs.lemmas.Option.{slice_get_within, get_or_from_slice_get}
use Rattle.mg_value.specs.Payload.{Plain}
use Rattle.mg_settled.specs.Prefix.{StreamPrefix, IsPrefix, empty_prefix}
use Rattle.mg_settled.specs.Extension.{IsExtendedBy}
use Rattle.mg_settled.proofs.Lemmas.{extended_by_itself}
use Rattle.mg_stream.specs.Queue.{Waiting, StandsFor, count_of}
use Rattle.mg_stream.specs.Pool.{Backlog, empty_backlog, queue_of, backlog_of}
use Rattle.mg_calc.specs.Rules.{Laws}
use Rattle.mg_calc.specs.declared.edge.Edge.{Edge}
use Rattle.mg_calc.specs.Equations.{stream_of}
use Rattle.mg_calc.proofs.Jobs.{job_known}
use Rattle.mg_calc.proofs.Rounds.{stream_is_prefix}
use Rattle.mg_calc.proofs.Solutions.{solution_keeps, one_solution}
use Rattle.mg_node.specs.declared.delivered.Delivered.{Delivered}
use Rattle.mg_node.specs.declared.delivered.Delivered.TheVariants.{Moved, OutOfMemory}
use Rattle.mg_node.specs.declared.pending.Pending.{Pending}
use Rattle.mg_node.specs.Views.{IntakeView, EngineView}
use Rattle.mg_node.specs.Ports.{ports_in, port_queue, with_port, with_room}
use Rattle.mg_node.specs.Delivery.{missing, with_packets, delivered, Delivers, AreOfOne}
use Rattle.mg_node.specs.Leading.{output_at, HasStream, Leads}
use Rattle.mg_node.specs.Job.{LoggedJob, Solves, ports_of, streams_at}
use Rattle.mg_node.specs.Lawful.{Owner, of_node, of_input, IsIntakeOf, LawfulIntake, IsEngineOf, IsInputOf, LawfulEngine}
use Rattle.mg_node.proofs.Zips.{zip_at, zip_long}
use Rattle.mg_node.proofs.Arriving.{Came, AtPort, came_packets, came_delivered, came_room, at_port, ports_long}

-- a number of a row of numbers
pub row_at : (a n i : ℕ) → i < n → get_or (range_with_len a n) i 0 ≡ a + i
row_at a zero i le = absurd (omega (arith, le))
row_at a (suc n) zero le = omega arith
row_at a (suc n) (suc i) le = row_at (a + 1) n i (omega (arith, le)) ∙ omega arith

-- what was laid at an output is a prefix that the solution's stream extends
pub record HasLaid {laws : Laws} (job : LoggedJob laws) (engine : EngineView) (e : Edge) : Type 0 where
  pub streams : List (StreamPrefix Plain)
  pub solves : Solves job streams
  pub laid : StreamPrefix Plain
  pub stands : StandsFor (output_at engine e) laid
  pub extended : IsExtendedBy laid (stream_of streams e.stream)

of_engine : {laws : Laws} (job : LoggedJob laws) (number : ℕ) (engine : EngineView) (e : Edge) → IsEngineOf job number engine → HasStream engine e → HasLaid job engine e
of_engine {laws} job number engine e h has =
    let i = e.stream - engine.first in
    let from = has.from in
    let below = has.below in
    let there : i < length engine.outputs = omega (arith, from, below) in
    let long = zip_long (λ (o : Backlog Plain) (s : StreamPrefix Plain). StandsFor (queue_of 0 o) s) engine.outputs h.whole h.kept in
    let wide = zip_long IsExtendedBy h.whole (streams_at h.streams h.node.outputs) h.extended in
    let each = length-map h.node.outputs (stream_of h.streams) in
    let in_whole : i < length h.whole = omega (arith, there, long) in
    let in_outputs : i < length h.node.outputs = omega (arith, in_whole, wide, each) in
    let number_is : get_or h.node.outputs i 0 ≡ e.stream =
    ap (λ (ns : List ℕ). get_or ns i 0) h.set_up.first ∙ row_at engine.first (length h.node.outputs) i in_outputs ∙ omega (arith, from) in
    record {
      streams = h.streams;
      solves = h.solves;
      laid = get_or h.whole i empty_prefix;
      stands = zip_at (λ (o : Backlog Plain) (s : StreamPrefix Plain). StandsFor (queue_of 0 o) s) engine.outputs h.whole i empty_backlog empty_prefix h.kept there;
      extended = subst (λ (s : StreamPrefix Plain). IsExtendedBy (get_or h.whole i empty_prefix) s) (get_or-map (stream_of h.streams) h.node.outputs i 0 empty_prefix in_outputs ∙ ap (stream_of h.streams) number_is)
          (zip_at IsExtendedBy h.whole (streams_at h.streams h.node.outputs) i empty_prefix empty_prefix h.extended in_whole);
    }

of_graph_input : {laws : Laws} (job : LoggedJob laws) (number : ℕ) (engine : EngineView) (e : Edge) → IsInputOf job number engine → HasStream engine e → HasLaid job engine e
of_graph_input {laws} job number engine e h has =
    let s = stream_of h.streams number in
    let from = has.from in
    let below = has.below in
    let one = zip_long (λ (o : Backlog Plain) (t : StreamPrefix Plain). StandsFor (queue_of 0 o) t) engine.outputs (s ∷ []) h.kept in
    let first = h.first in
    let same : e.stream ≡ number = omega (arith, from, below, one, first) in
    let place : e.stream - engine.first ≡ 0 = omega (arith, same, first) in
    record {
      streams = h.streams;
      solves = h.solves;
      laid = s;
      stands = subst (λ (k : ℕ). StandsFor (queue_of 0 (get_or engine.outputs k empty_backlog)) s) (sym place)
          (zip_at (λ (o : Backlog Plain) (t : StreamPrefix Plain). StandsFor (queue_of 0 o) t) engine.outputs (s ∷ []) 0 empty_backlog empty_prefix h.kept (omega (arith, one)));
      extended = subst (λ (k : ℕ). IsExtendedBy s (stream_of h.streams k)) (sym same) (extended_by_itself s);
    }

has_laid : {laws : Laws} (job : LoggedJob laws) (owner : Owner) (engine : EngineView) (e : Edge) → LawfulEngine job owner engine → HasStream engine e → HasLaid job engine e
unfolding LawfulEngine
has_laid {laws} job (of_node number) engine e h has = of_engine job number engine e h has
has_laid {laws} job (of_input number) engine e h has = of_graph_input job number engine e h has

-- an output is there
output_there : (engine : EngineView) (e : Edge) → HasStream engine e → e.stream - engine.first < length engine.outputs
output_there engine e has = (let from = has.from in let below = has.below in omega (arith, from, below))

-- what came to a port of a lawful intake, with the solution's stream there
pub record HasCome {laws : Laws} (job : LoggedJob laws) (engine : EngineView) (e : Edge) (intake : IntakeView) : Type 0 where
  pub is_intake : IsIntakeOf job e.node intake
  pub there : e.port < ports_in intake.waits
  pub at : AtPort job is_intake.streams e.node intake.claimed e.port intake.waits
  pub stream_is : get_or (streams_at is_intake.streams (ports_of job.job.plan e.node)) e.port empty_prefix ≡ stream_of is_intake.streams e.stream

has_come : {laws : Laws} (job : LoggedJob laws) (engine : EngineView) (e : Edge) (intake : IntakeView) → LawfulIntake job e.node intake → slice_get (ports_of job.job.plan e.node) e.port ≡ Some e.stream → HasCome job engine e intake
unfolding LawfulIntake
has_come {laws} job engine e intake h stream =
    let ports = ports_of job.job.plan e.node in
    let within : e.port < length ports = slice_get_within ports e.port e.stream stream in
    let there : e.port < ports_in intake.waits = (let long = ports_long job h.streams e.node intake.claimed intake.waits h.holds in omega (arith, within, long)) in
    record {
      is_intake = h;
      there = there;
      at = at_port job h.streams e.node intake.claimed e.port intake.waits h.holds there;
      stream_is = get_or-map (stream_of h.streams) ports e.port 0 empty_prefix within ∙ ap (stream_of h.streams) (get_or_from_slice_get ports e.port e.stream 0 stream);
    }

-- they are of one stream
abbrev of_one : {laws : Laws} (job : LoggedJob laws) (engine : EngineView) (e : Edge) (intake : IntakeView) (laid : HasLaid job engine e) (come : HasCome job engine e intake) → (output_at engine e).gone ≤ count_of (port_queue intake.waits e.port)
    → (stream : StreamPrefix Plain) → get_or (streams_at come.is_intake.streams (ports_of job.job.plan e.node)) e.port empty_prefix ≡ stream → AreOfOne (output_at engine e) (port_queue intake.waits e.port)
of_one {laws} job engine e intake laid come held stream is =
    let same : laid.streams ≡ come.is_intake.streams = one_solution job.job laid.streams come.is_intake.streams laid.solves.solution come.is_intake.solves.solution in
    let whole : IsPrefix (stream_of come.is_intake.streams e.stream) =
    stream_is_prefix come.is_intake.streams e.stream (solution_keeps job.job (job_known job.job come.is_intake.solves.is_job) come.is_intake.streams come.is_intake.solves.solution) in
    record {
      stream = stream;
      whole = subst IsPrefix (sym come.stream_is ∙ is) whole;
      laid = laid.laid;
      came = come.at.came;
      stands = laid.stands;
      stands_there = come.at.stands;
      extended = subst (IsExtendedBy laid.laid) (ap (λ (ss : List (StreamPrefix Plain)). stream_of ss e.stream) same ∙ sym come.stream_is ∙ is) laid.extended;
      extended_there = subst (IsExtendedBy come.at.came) is come.at.extended;
      held = held;
    }

pub leads_port : {laws : Laws} (engine : EngineView) (e : Edge) (intake : IntakeView) → Leads laws engine e intake → e.port < ports_in intake.waits
leads_port {laws} engine e intake h = (has_come h.job engine e intake h.lawful_intake h.stream).there

pub leads_one : {laws : Laws} (engine : EngineView) (e : Edge) (intake : IntakeView) → Leads laws engine e intake → AreOfOne (output_at engine e) (port_queue intake.waits e.port)
leads_one {laws} engine e intake h =
    of_one h.job engine e intake (has_laid h.job h.owner engine e h.lawful_engine h.leaves) (has_come h.job engine e intake h.lawful_intake h.stream) h.held _ refl

-- what a delivery leaves is lawful
same_view : (a b : IntakeView) → a.claimed ≡ b.claimed → a.waits ≡ b.waits → a ≡ b
same_view a b claimed waits = λ i. record { claimed = claimed i; waits = waits i }

keeps_lawful : {laws : Laws} (job : LoggedJob laws) (engine : EngineView) (e : Edge) (before now : IntakeView) (come : HasCome job engine e before) (q : Waiting Plain)
    → Came (get_or (streams_at come.is_intake.streams (ports_of job.job.plan e.node)) e.port empty_prefix) come.at.came (port_queue before.waits e.port) q
    → now.waits ≡ with_port before.waits e.port q → now.claimed ≡ before.claimed → LawfulIntake job e.node now
unfolding LawfulIntake
keeps_lawful {laws} job engine e before now come q c is claimed =
    subst (λ (v : IntakeView). IsIntakeOf job e.node v) (sym (same_view now (record { claimed = before.claimed; waits = with_port before.waits e.port q }) claimed is))
    (record { streams = come.is_intake.streams; solves = come.is_intake.solves; is_there = come.is_intake.is_there; holds = come.at.keeps q c })

came_by : {laws : Laws} (job : LoggedJob laws) (engine : EngineView) (e : Edge) (before now : IntakeView) (most : ℕ) (result : Delivered) (come : HasCome job engine e before) (one : AreOfOne (output_at engine e) (port_queue before.waits e.port))
    → one.stream ≡ get_or (streams_at come.is_intake.streams (ports_of job.job.plan e.node)) e.port empty_prefix → one.came ≡ come.at.came
    → Delivers result (output_at engine e) e.port most before.waits now.waits → now.claimed ≡ before.claimed → LawfulIntake job e.node now
came_by {laws} job engine e before now most (Moved packets raised) come one stream came d claimed =
    let o = output_at engine e in
    let q = port_queue before.waits e.port in
    let within : packets ≤ length (missing o q) = (let count = d.0 in omega (arith, count)) in
    let spare = (port_queue now.waits e.port).spare in
    let c : Came one.stream one.came q (with_room (delivered o q packets) spare) = came_room one.stream one.came q (delivered o q packets) spare (came_delivered o q one packets within) in
    keeps_lawful job engine e before now come (with_room (delivered o q packets) spare)
    (subst (λ (s : StreamPrefix Plain). Came s come.at.came q (with_room (delivered o q packets) spare)) stream (subst (λ (s : StreamPrefix Plain). Came one.stream s q (with_room (delivered o q packets) spare)) came c))
    d.1 claimed
came_by {laws} job engine e before now most (OutOfMemory packets) come one stream came d claimed =
    let o = output_at engine e in
    let q = port_queue before.waits e.port in
    let within : packets ≤ length (missing o q) = (let count = d.0 in omega (arith, count)) in
    let spare = (port_queue now.waits e.port).spare in
    let last = with_packets q (take packets (missing o q)) in
    let c : Came one.stream one.came q (with_room last spare) = came_room one.stream one.came q last spare (came_packets o q one packets within) in
    keeps_lawful job engine e before now come (with_room last spare)
    (subst (λ (s : StreamPrefix Plain). Came s come.at.came q (with_room last spare)) stream (subst (λ (s : StreamPrefix Plain). Came one.stream s q (with_room last spare)) came c))
    d.1 claimed

pub delivery_lawful : {laws : Laws} (job : LoggedJob laws) (owner : Owner) (engine : EngineView) (e : Edge) (before now : IntakeView) (most : ℕ) (result : Delivered) → HasStream engine e → (output_at engine e).gone ≤ count_of (port_queue before.waits e.port)
    → LawfulEngine job owner engine → LawfulIntake job e.node before → slice_get (ports_of job.job.plan e.node) e.port ≡ Some e.stream
    → Delivers result (output_at engine e) e.port most before.waits now.waits → now.claimed ≡ before.claimed → LawfulIntake job e.node now
delivery_lawful {laws} job owner engine e before now most result has held from into stream d claimed =
    let come = has_come job engine e before into stream in
    let one = of_one job engine e before (has_laid job owner engine e from has) come held _ refl in
    came_by job engine e before now most result come one refl refl d claimed

-- an output, as the code has it
pub output_is : (items : List (Waiting Plain)) (engine : EngineView) (e : Edge) (n : ℕ) (o : Waiting Plain) → map backlog_of items ≡ engine.outputs → n ≡ e.stream - engine.first → o ≡ get_or items n o → n < length engine.outputs
    → output_at engine e ≡ queue_of 0 (backlog_of o)
output_is items engine e n o is place there within =
    let long : n < length items = (let same = ap length is in omega (arith, within, same, length-map items backlog_of)) in
    ap (queue_of 0) (ap (λ (k : ℕ). get_or engine.outputs k empty_backlog) (sym place) ∙ ap (λ (bs : List (Backlog Plain)). get_or bs n empty_backlog) (sym is) ∙ get_or-map backlog_of items n o empty_backlog long ∙ ap backlog_of (sym there))

-- the room of an output doesn't count
pub of_one_output : (o q : Waiting Plain) → AreOfOne (queue_of 0 (backlog_of o)) q → AreOfOne o q
of_one_output o q h = record {
  stream = h.stream;
  whole = h.whole;
  laid = h.laid;
  came = h.came;
  stands = record { prefix = h.stands.prefix; gone = h.stands.gone; waiting = h.stands.waiting; bound = h.stands.bound };
  stands_there = h.stands_there;
  extended = h.extended;
  extended_there = h.extended_there;
  held = h.held;
}

pub delivers_output : (result : Delivered) (o : Waiting Plain) (port most : ℕ) (before now : Pending) → Delivers result o port most before now → Delivers result (queue_of 0 (backlog_of o)) port most before now
delivers_output (Moved packets raised) o port most before now d = d
delivers_output (OutOfMemory packets) o port most before now d = d

pub output_of : (items : List (Waiting Plain)) (first : ℕ) (engine : EngineView) (e : Edge) (o : Waiting Plain) → map backlog_of items ≡ engine.outputs → first ≡ engine.first → o ≡ get_or items (e.stream - first) o → HasStream engine e
    → output_at engine e ≡ queue_of 0 (backlog_of o)
output_of items first engine e o is same there has =
    output_is items engine e (e.stream - first) o is (ap (λ (n : ℕ). e.stream - n) same) there (subst (λ (n : ℕ). e.stream - n < length engine.outputs) (sym same) (output_there engine e has))
