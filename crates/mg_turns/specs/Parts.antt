-- Parts of a net as they lie in the slots of a table, and the layout from which they were shared.
use Rattle.std.specs.Prelude.{◌≡◌, ◌≢◌, ℕ, zero, suc, pos, ◌+◌, ◌-◌, ◌*◌, ◌<◌, ◌≤◌, map, List, [], length, Option, Some, None, slice_index_or, slice_index, slice_get, option_map, refl}
use Rattle.std.specs.Coded.{Coded, code_by, coded×, coded_list, coded_option}
use Rattle.mg_value.specs.Payload.{Plain}
use Rattle.mg_stream.specs.Pool.{Backlog}
use Rattle.mg_stream.specs.Queue.{count_of}
use Rattle.mg_calc.specs.Rules.{Laws}
use Rattle.mg_calc.specs.declared.plan.Plan.{Plan}
use Rattle.mg_calc.specs.declared.edge.Edge.{Edge}
use Rattle.mg_calc.specs.declared.plan_stream.Producer.{Producer}
use Rattle.mg_calc.specs.declared.plan_stream.Producer.TheVariants.{Input, Node}
use Rattle.mg_calc.specs.ToldCodes.{plan_code}
use Rattle.mg_node.specs.Views.{IntakeView, WorkView, EntryView, EngineView}
use Rattle.mg_node.specs.Codes.{intake_code, engine_code}
use Rattle.mg_node.specs.Job.{LoggedJob, ports_of}
use Rattle.mg_node.specs.Lawful.{Owner, of_node, of_input, LawfulEngine, LawfulIntake, Agree}
use Rattle.mg_node.specs.declared.pending.Pending.{Pending}
use Rattle.mg_turns.specs.Words.{Whose, intake_of, engine_of, word_at, whose}
use Rattle.mg_node.specs.IntakeStanding.{HasGrown, IntakeGrows}
use Rattle.mg_node.specs.Ports.{port_queue}
use Rattle.mg_node.specs.Leading.{output_at}
use Rattle.mg_node.specs.Standing.{EngineGrows}
use Rattle.mg_node.specs.Shelves.{IsOut}

-- a part: an engine or an intake
pub record PartView : Type 0 where
  pub engine : Option EngineView
  pub intake : Option IntakeView

abbrev pub part_code : Coded PartView
part_code = code_by (Option EngineView × Option IntakeView) (coded× (coded_option engine_code) (coded_option intake_code)) (λ p. (p.engine, p.intake)) (λ p. record { engine = p.0; intake = p.1 }) (λ _. refl)

-- a plan and the parts of its net, each at the place of its word
pub record LayoutView : Type 0 where
  pub plan : Plan
  pub parts : List PartView

abbrev pub layout_code : Coded LayoutView
layout_code = code_by (Plan × List PartView) (coded× plan_code (coded_list part_code)) (λ f. (f.plan, f.parts)) (λ p. record { plan = p.0; parts = p.1 }) (λ _. refl)

abbrev pub blank_part : PartView
blank_part = record { engine = None; intake = None }

abbrev pub blank_plan : Plan
blank_plan = record { nodes = []; streams = []; edges = []; order = []; inputs = []; outputs = []; sides = []; limit = pos 0; workers = 0 }

abbrev pub blank_layout : LayoutView
blank_layout = record { plan = blank_plan; parts = [] }

abbrev pub at : LayoutView → ℕ → PartView
at key i = slice_index_or key.parts i blank_part

abbrev pub nodes_in : LayoutView → ℕ
nodes_in key = length key.plan.nodes

-- whose part lies at a word
abbrev pub owner_in : LayoutView → ℕ → Whose
owner_in key word = whose (nodes_in key) word

-- how many packets came to an intake on its first n ports; those that are gone are counted
abbrev pub came_to : Pending → ℕ → ℕ
came_to waits zero = 0
came_to waits (suc n) = came_to waits n + count_of (port_queue waits n)

-- how many sets, calls or answers an engine laid, or how many packets came to an intake on its first `ports` ports
abbrev pub tally_by : ℕ → Option EngineView → Option IntakeView → ℕ
tally_by ports (Some e) i = e.laid
tally_by ports None (Some i) = came_to i.waits ports
tally_by ports None None = 0

-- how many ports the intake of a word has; 0 at the word of an engine
abbrev pub ports_by : LayoutView → Whose → ℕ
ports_by key (intake_of consumer) = length (ports_of key.plan consumer)
ports_by key (engine_of owner) = 0

-- how far the part of a word has come, in sets, calls or answers that an engine laid, or packets that came to an intake
abbrev pub tally_of : LayoutView → ℕ → PartView → ℕ
tally_of key word p = tally_by (ports_by key (owner_in key word)) p.engine p.intake

-- the tally of a part since it was shared. For an intake it is how many packets came, on all ports together. For an engine it
-- is how many sets, calls or answers it laid
abbrev pub tally_since : LayoutView → ℕ → PartView → ℕ
tally_since key word p = tally_of key word p - tally_of key word (at key word)

-- either both are there, and R holds of them; or neither is there
abbrev pub Grown : {X : Type 0} → (X → X → Type 0) → Option X → Option X → Type 0
Grown R None None = Unit {0}
Grown R (Some x) (Some y) = R x y
Grown R None (Some y) = ⊥
Grown R (Some x) None = ⊥

-- the standing of a part only grows, number by number
pub record PartGrows (p q : PartView) : Type 0 where
  pub engine : Grown EngineGrows p.engine q.engine
  pub intake : Grown IntakeGrows p.intake q.intake

-- a part is lawful for a job, as the intake or the engine of its owner
abbrev pub LawfulPart : {laws : Laws} → LoggedJob laws → Whose → PartView → Type 0
LawfulPart {laws} job (intake_of consumer) p = (i : IntakeView) → p.intake ≡ Some i → LawfulIntake job consumer i
LawfulPart {laws} job (engine_of owner) p = (e : EngineView) → p.engine ≡ Some e → LawfulEngine job owner e

-- the parts of a layout are lawful for a job
pub record Fits {laws : Laws} (job : LoggedJob laws) (key : LayoutView) : Type 0 where
  pub plan : job.job.plan ≡ key.plan
  pub parts : (word : ℕ) → word < length key.parts → LawfulPart job (owner_in key word) (at key word)

-- there is a job for which the parts of a layout are lawful
pub record FitsSome (laws : Laws) (key : LayoutView) : Type 0 where
  pub job : LoggedJob laws
  pub fits : Fits job key

-- how many packets an engine has given up at each output
abbrev pub gone_by : Option EngineView → List ℕ
gone_by None = []
gone_by (Some e) = map (λ (b : Backlog Plain). b.gone) e.outputs

-- how many packets a part has given up at each output, if it is an engine
abbrev pub gone_in : PartView → List ℕ
gone_in p = gone_by p.engine

-- an engine as a part
abbrev pub an_engine : EngineView → PartView
an_engine e = record { engine = Some e; intake = None }

-- an intake as a part
abbrev pub an_intake : IntakeView → PartView
an_intake i = record { engine = None; intake = Some i }

-- a part is of the kind of its owner
abbrev pub IsKind : Whose → PartView → Type 0
IsKind (intake_of consumer) p = (i : IntakeView) × (p ≡ an_intake i)
IsKind (engine_of owner) p = (e : EngineView) × (p ≡ an_engine e)

-- the number of the stream at an engine's first output
abbrev pub first_by : Option EngineView → ℕ
first_by None = 0
first_by (Some e) = e.first

-- the number of the stream at a part's first output, if it is an engine
abbrev pub first_in : PartView → ℕ
first_in p = first_by p.engine

-- how many packets came to a port of an intake
abbrev pub arrived_by : Option IntakeView → ℕ → ℕ
arrived_by None port = 0
arrived_by (Some i) port = count_of (port_queue i.waits port)

-- how many packets came to a port of a part, if it is an intake
abbrev pub arrived_in : PartView → ℕ → ℕ
arrived_in p port = arrived_by p.intake port

-- how many sets were claimed of an intake, or packets of MAIN answered
abbrev pub claimed_by : Option IntakeView → ℕ
claimed_by None = 0
claimed_by (Some i) = i.claimed

-- a part is what became of the part that was shared at this word. It is of its kind, its standing grew, and it gave up no
-- packet. It is lawful for each job for which all that was shared is lawful. Of the collector's intake, whose word is after
-- those of the nodes, nothing was claimed.
pub record Follows (laws : Laws) (key : LayoutView) (word : ℕ) (p : PartView) : Type 0 where
  pub kind : IsKind (owner_in key word) p
  pub lawful : (job : LoggedJob laws) → Fits job key → LawfulPart job (owner_in key word) p
  pub grows : PartGrows (at key word) p
  pub gave_up : gone_in p ≡ gone_in (at key word)
  pub first : first_in p ≡ first_in (at key word)
  pub collector : word ≡ 2 * nodes_in key → claimed_by p.intake ≡ claimed_by (at key word).intake

-- the engine of one part and the intake of the other agree
abbrev pub AgreeParts : PartView → PartView → Type 0
AgreeParts p q = (e : EngineView) (i : IntakeView) → p.engine ≡ Some e → q.intake ≡ Some i → Agree e i

-- a work is out of the engine of a part
abbrev pub IsOutIn : PartView → WorkView → Type 0
IsOutIn p w = (e : EngineView) × (p.engine ≡ Some e) × IsOut e w

-- the work of a number is out of an engine: its entry has no outcome
pub record IsMissingAt (e : EngineView) (number : ℕ) : Type 0 where
  pub place : ℕ
  pub number_is : number ≡ e.laid + place
  pub entry : EntryView
  pub there : slice_get e.window place ≡ Some entry
  pub missing : entry.outcome ≡ None

-- the work of a number is out of the engine of a part
abbrev pub IsMissingIn : PartView → ℕ → Type 0
IsMissingIn p number = (e : EngineView) × (p.engine ≡ Some e) × IsMissingAt e number

-- whose engine writes a stream, by the stream's producer
abbrev pub writer_by : Option Producer → Owner
writer_by None = of_input 0
writer_by (Some (Input n)) = of_input n
writer_by (Some (Node n port)) = of_node n

-- the word of the engine from which an edge leads
abbrev pub source_at : Plan → Edge → ℕ
source_at plan e = word_at (length plan.nodes) (engine_of (writer_by (option_map (λ s. s.producer) (slice_get plan.streams e.stream))))

-- a word is that of an engine, of a node or a graph input of the layout
pub record IsEngineWord (key : LayoutView) (word : ℕ) : Type 0 where
  pub owner : Owner
  pub is : owner_in key word ≡ engine_of owner
  pub within : word < length key.parts

-- no more came to the port of an edge than was laid at its output
abbrev pub JoinedParts : PartView → Edge → PartView → Type 0
JoinedParts p e q = (g : EngineView) (i : IntakeView) → p.engine ≡ Some g → q.intake ≡ Some i → HasGrown (port_queue i.waits e.port) (output_at g e)

-- what the rule wants of the plan. Edges lead from engines to intakes, and no two edges to one port. An engine still keeps the
-- first packet that a port hasn't got
pub record EdgesFit (key : LayoutView) : Type 0 where
  pub sources : (k : ℕ) (e : Edge) → slice_get key.plan.edges k ≡ Some e → IsEngineWord key (source_at key.plan e)
  pub consumers : (k : ℕ) (e : Edge) → slice_get key.plan.edges k ≡ Some e → e.node ≤ nodes_in key
  pub ports : (k : ℕ) (e : Edge) → slice_get key.plan.edges k ≡ Some e → slice_get (ports_of key.plan e.node) e.port ≡ Some e.stream
  pub leaves : (k : ℕ) (e : Edge) → slice_get key.plan.edges k ≡ Some e → (first_in (at key (source_at key.plan e)) ≤ e.stream) × (e.stream < first_in (at key (source_at key.plan e)) + length (gone_in (at key (source_at key.plan e))))
  pub kept : (k : ℕ) (e : Edge) → slice_get key.plan.edges k ≡ Some e → slice_index (gone_in (at key (source_at key.plan e))) (e.stream - first_in (at key (source_at key.plan e))) ≤ arrived_in (at key (2 * e.node)) e.port
  pub apart : (k l : ℕ) (e x : Edge) → k ≢ l → slice_get key.plan.edges k ≡ Some e → slice_get key.plan.edges l ≡ Some x → e.node ≡ x.node → e.port ≢ x.port
