-- Worked graphs: their solutions computed by the definitions, and compared with what was worked out by hand. A node is
-- written by its law and the numbers of its streams; of its shape the equations read the offset alone.
use Rattle.std.proofs.Common.{◌≡◌, ℕ, pos, negsuc, Bool, true, false, ◌+◌, List, [], ◌∷◌, map, replicate, Option, Some, None, refl, codes}
use Rattle.std.specs.List.{flat_map}
use Rattle.mg_time.specs.Time.{pre_stream, done, place_of}
use Rattle.mg_value.specs.Plain.{Plain, int, flag, text}
use Rattle.mg_value.specs.Packet.{Stamped}
use Rattle.mg_value.specs.declared.policy.Policy.{Policy}
use Rattle.mg_value.specs.declared.policy.Policy.TheVariants.{Default, Mux as MuxPolicy}
use Rattle.mg_value.specs.declared.kind.Kind.TheVariants.{Any, Int}
use Rattle.mg_settled.specs.Prefix.{StreamPrefix}
use Rattle.mg_settled.specs.Settled.{settled_sets}
use Rattle.mg_calc.specs.declared.cause.Cause.TheVariants.{Overflow, BadSelect, NoSide, NotAscending}
use Rattle.mg_calc.specs.declared.call.Call.TheVariants.{Begun, Shown, Finished}
use Rattle.mg_calc.specs.declared.law.Law.{Law}
use Rattle.mg_calc.specs.declared.law.Law.TheVariants.{Pass, Gate, Mux, Cloner, Merge, Thin, Compute, Filter, Shift, Count, SideOnce, Loopback, Tally}
use Rattle.mg_calc.specs.declared.computations.Formula.{Formula}
use Rattle.mg_calc.specs.declared.computations.Formula.TheVariants.{Sum, Map, Running}
use Rattle.mg_calc.specs.declared.computations.int_map.MapOp.TheVariants.{Add, Multiply}
use Rattle.mg_calc.specs.declared.law.Keep.TheVariants.{Even, Negative}
use Rattle.mg_calc.specs.declared.node_fault.Phase.TheVariants.{Open, Call, Process}
use Rattle.mg_calc.specs.declared.plan.Plan.{Plan}
use Rattle.mg_calc.specs.declared.plan_node.PlanNode.{PlanNode}
use Rattle.mg_calc.specs.declared.plan_stream.PlanStream.{PlanStream}
use Rattle.mg_calc.specs.declared.plan_stream.Producer.TheVariants.{Input}
use Rattle.mg_calc.specs.Side.{PlainSide, given_at}
use Rattle.mg_calc.specs.Shape.{offset_of, is_stateless}
use Rattle.mg_calc.specs.Rules.{no_laws}
use Rattle.mg_calc.specs.Equations.{Job, stream_of, next_round, round}
use Rattle.mg_calc.specs.Meaning.{faults, stalled, counts, log_of, weight}

-- How the graphs are written.
abbrev pub node_by : Policy → Law → List ℕ → List ℕ → List ℕ → PlanNode
node_by policy law inputs outputs sides = record {
  label = [];
  law = law;
  shape = record { name = []; inputs = []; outputs = []; sides = []; offset = offset_of law; stateless = is_stateless law };
  inputs = inputs;
  outputs = outputs;
  sides = sides;
  in_flight = 1;
  box_number = None;
  policy = policy;
}

-- a computation of numbers
abbrev pub computed : Formula → ℕ → Law
computed formula lanes = Compute (record { formula = formula; lanes = lanes; takes = Int; gives = Int })

abbrev pub node : Law → List ℕ → List ℕ → PlanNode
node law inputs outputs = node_by Default law inputs outputs []

abbrev pub any_stream : PlanStream
any_stream = record { name = []; kind = Any; producer = Input 0 }

abbrev pub plan_of : ℕ → List PlanNode → List PlainSide → Plan
plan_of streams nodes sides = record {
  nodes = nodes;
  streams = replicate streams any_stream;
  edges = [];
  order = [];
  inputs = [];
  outputs = [];
  sides = sides;
  limit = pos 100;
  workers = 0;
}

abbrev pub job_of : ℕ → List PlanNode → List (StreamPrefix Plain) → Job
job_of streams nodes inputs = record { plan = plan_of streams nodes []; inputs = record { streams = inputs; sides = []; ended = true }; laws = no_laws }

abbrev pub at : ℕ → ℕ
at n = place_of (pos n)

-- a packet of a number, and streams that ended or stay at a bound
abbrev pub pk : ℕ → ℕ → Stamped Plain
pk t v = record { at = at t; value = int (pos v) }

abbrev pub ended : List (Stamped Plain) → StreamPrefix Plain
ended ps = record { packets = ps; bound = done }

abbrev pub until : ℕ → List (Stamped Plain) → StreamPrefix Plain
until b ps = record { packets = ps; bound = b }

-- what is shown of some output streams: the packets at their settled times, with the place of the stream
record Line : Type 0 where
  place : ℕ
  packet : Stamped Plain

abbrev places_of : ℕ → List (Option (Stamped Plain)) → List Line
places_of n [] = []
places_of n (None ∷ places) = places_of (n + 1) places
places_of n (Some p ∷ places) = record { place = n; packet = p } ∷ places_of (n + 1) places

abbrev lines : List ℕ → List (StreamPrefix Plain) → List Line
lines outputs streams = flat_map (λ e. places_of 0 e.set) (settled_sets Default (map (stream_of streams) outputs))

-- lines of a single output stream
abbrev out : List (Stamped Plain) → List Line
out ps = map (λ p. record { place = 0; packet = p }) ps

-- A pass-through, whose input stops after a packet at 5: what it shows, and that the round stays.
abbrev passes : Job
passes = job_of 2 (node Pass (0 ∷ []) (1 ∷ []) ∷ []) (until (at 6) (pk 5 1 ∷ []) ∷ [])

passes_solution : round passes 2 ≡ until (at 6) (pk 5 1 ∷ []) ∷ until (at 6) (pk 5 1 ∷ []) ∷ []
passes_solution = refl

passes_stays : next_round passes (round passes 2) ≡ round passes 2
passes_stays = refl

passes_shows : lines (1 ∷ []) (round passes 2) ≡ out (pk 5 1 ∷ [])
passes_shows = refl

-- Two streams merged.
abbrev merges : Job
merges = job_of 3 (node (Merge 2) (0 ∷ 1 ∷ []) (2 ∷ []) ∷ []) (ended (pk 10 1 ∷ pk 30 3 ∷ []) ∷ ended (pk 10 5 ∷ pk 20 7 ∷ []) ∷ [])

merges_stays : next_round merges (round merges 2) ≡ round merges 2
merges_stays = refl

merges_shows : lines (2 ∷ []) (round merges 2) ≡ out (pk 10 1 ∷ pk 20 7 ∷ pk 30 3 ∷ [])
merges_shows = refl

merges_ends : stalled (round merges 2) ≡ []
merges_ends = refl

merges_faults : faults merges (round merges 2) ≡ []
merges_faults = refl

-- A thinner of the period 10.
abbrev thins : Job
thins = job_of 2 (node (Thin (pos 10)) (0 ∷ []) (1 ∷ []) ∷ []) (ended (pk 0 1 ∷ pk 4 2 ∷ pk 10 3 ∷ pk 19 4 ∷ pk 20 5 ∷ []) ∷ [])

thins_stays : next_round thins (round thins 2) ≡ round thins 2
thins_stays = refl

thins_shows : lines (1 ∷ []) (round thins 2) ≡ out (pk 0 1 ∷ pk 10 3 ∷ pk 20 5 ∷ [])
thins_shows = refl

-- A gate, without a control at 20.
abbrev yes_at : ℕ → Stamped Plain
yes_at t = record { at = at t; value = flag true }

abbrev no_at : ℕ → Stamped Plain
no_at t = record { at = at t; value = flag false }

abbrev gates : Bool → Job
gates empty_as_allow = job_of 3 (node (Gate 1 false empty_as_allow) (0 ∷ 1 ∷ []) (2 ∷ []) ∷ []) (ended (pk 10 1 ∷ pk 20 2 ∷ pk 30 3 ∷ []) ∷ ended (yes_at 10 ∷ no_at 30 ∷ []) ∷ [])

gates_shows : lines (2 ∷ []) (round (gates false) 2) ≡ out (pk 10 1 ∷ [])
gates_shows = refl

gates_stays_shut : next_round (gates false) (round (gates false) 2) ≡ round (gates false) 2
gates_stays_shut = refl

gates_shows_more : lines (2 ∷ []) (round (gates true) 2) ≡ out (pk 10 1 ∷ pk 20 2 ∷ [])
gates_shows_more = refl

gates_stays : next_round (gates true) (round (gates true) 2) ≡ round (gates true) 2
gates_stays = refl

-- A mux with a number of SELECT that is no input's.
abbrev muxes : Policy → List (StreamPrefix Plain) → Job
muxes policy inputs = job_of 4 (node_by policy (Mux 2) (0 ∷ 1 ∷ 2 ∷ []) (3 ∷ []) [] ∷ []) inputs

abbrev selects_badly : Job
selects_badly = muxes MuxPolicy (ended (pk 10 1 ∷ pk 20 3 ∷ []) ∷ ended (pk 10 2 ∷ pk 20 4 ∷ []) ∷ ended (pk 10 1 ∷ pk 20 2 ∷ []) ∷ [])

selects_shows : lines (3 ∷ []) (round selects_badly 2) ≡ out (pk 10 2 ∷ [])
selects_shows = refl

selects_fails : faults selects_badly (round selects_badly 2) ≡ record { node = 0; phase = Process (at 20); cause = BadSelect } ∷ []
selects_fails = refl

selects_stays : next_round selects_badly (round selects_badly 2) ≡ round selects_badly 2
selects_stays = refl

selects_counts : counts selects_badly (round selects_badly 2) ≡ 2 ∷ []
selects_counts = refl

-- Under its own policy a mux waits for the input that is selected, and not for the other inputs. Under the default policy it waits for
-- all.
abbrev waits : Policy → Job
waits policy = muxes policy (until pre_stream [] ∷ until (at 11) (pk 10 2 ∷ []) ∷ until (at 11) (pk 10 1 ∷ []) ∷ [])

waits_shows : lines (3 ∷ []) (round (waits MuxPolicy) 2) ≡ out (pk 10 2 ∷ [])
waits_shows = refl

waits_for_all : lines (3 ∷ []) (round (waits Default) 2) ≡ out []
waits_for_all = refl

waits_stays : next_round (waits MuxPolicy) (round (waits MuxPolicy) 2) ≡ round (waits MuxPolicy) 2
waits_stays = refl

waits_for_all_stays : next_round (waits Default) (round (waits Default) 2) ≡ round (waits Default) 2
waits_for_all_stays = refl

abbrev waits_for_the_first : Job
waits_for_the_first = muxes MuxPolicy (until pre_stream [] ∷ until (at 21) (pk 20 5 ∷ []) ∷ until (at 21) (pk 10 0 ∷ pk 20 1 ∷ []) ∷ [])

waits_shows_nothing : lines (3 ∷ []) (round waits_for_the_first 2) ≡ out []
waits_shows_nothing = refl

waits_for_the_first_stays : next_round waits_for_the_first (round waits_for_the_first 2) ≡ round waits_for_the_first 2
waits_for_the_first_stays = refl

-- A running sum by a loopback: LOOP is the sum itself.
abbrev sums : Job
sums = job_of 3 (node Loopback (2 ∷ 0 ∷ []) (1 ∷ []) ∷ node (computed Sum 2) (0 ∷ 1 ∷ []) (2 ∷ []) ∷ []) (ended (pk 10 1 ∷ pk 20 2 ∷ pk 30 3 ∷ []) ∷ [])

sums_stays : next_round sums (round sums 8) ≡ round sums 8
sums_stays = refl

sums_shows : lines (2 ∷ []) (round sums 8) ≡ out (pk 10 1 ∷ pk 20 3 ∷ pk 30 6 ∷ [])
sums_shows = refl

sums_ends : stalled (round sums 8) ≡ []
sums_ends = refl

sums_counts : counts sums (round sums 8) ≡ 3 ∷ 3 ∷ []
sums_counts = refl

-- A filter in the loop, which drops the first sum: all stands still. Where it raises its bound, the loop goes on.
abbrev filters : Bool → Job
filters raises = job_of 4 (node Loopback (3 ∷ 0 ∷ []) (1 ∷ []) ∷ node (computed Sum 2) (0 ∷ 1 ∷ []) (2 ∷ []) ∷ node (Filter Even raises) (2 ∷ []) (3 ∷ []) ∷ []) (ended (pk 10 1 ∷ pk 20 2 ∷ pk 30 3 ∷ []) ∷ [])

filters_stays : next_round (filters false) (round (filters false) 6) ≡ round (filters false) 6
filters_stays = refl

filters_shows : lines (2 ∷ []) (round (filters false) 6) ≡ out (pk 10 1 ∷ [])
filters_shows = refl

filters_stalls : map {B = ℕ × ℕ} (λ n. (n, (stream_of (round (filters false) 6) n).bound)) (stalled (round (filters false) 6)) ≡ (1, at 20) ∷ (2, at 20) ∷ (3, pre_stream) ∷ []
filters_stalls = refl

filters_goes_on : lines (2 ∷ []) (round (filters true) 12) ≡ out (pk 10 1 ∷ pk 20 2 ∷ pk 30 5 ∷ [])
filters_goes_on = refl

filters_goes_on_stays : next_round (filters true) (round (filters true) 12) ≡ round (filters true) 12
filters_goes_on_stays = refl

filters_ends : stalled (round (filters true) 12) ≡ []
filters_ends = refl

-- A source, a filter that drops all it gives, and both merged.
abbrev counts_up : Job
counts_up = job_of 3 (node (Count 3 (pos 0) (pos 1)) [] (0 ∷ []) ∷ node (Filter Negative false) (0 ∷ []) (1 ∷ []) ∷ node (Merge 2) (1 ∷ 0 ∷ []) (2 ∷ []) ∷ []) []

counts_up_shows : lines (2 ∷ []) (round counts_up 4) ≡ out (pk 0 0 ∷ pk 1 1 ∷ pk 2 2 ∷ [])
counts_up_shows = refl

counts_up_stays : next_round counts_up (round counts_up 4) ≡ round counts_up 4
counts_up_stays = refl

counts_up_counts : counts counts_up (round counts_up 4) ≡ 3 ∷ 3 ∷ 3 ∷ []
counts_up_counts = refl

counts_up_weight : weight counts_up (round counts_up 4) ≡ 15
counts_up_weight = refl

-- A chain that doubles twice.
abbrev doubles : Job
doubles = job_of 5 (node Pass (0 ∷ []) (1 ∷ []) ∷ node (computed (Map Multiply (pos 2)) 1) (1 ∷ []) (2 ∷ []) ∷ node Pass (2 ∷ []) (3 ∷ []) ∷ node (computed (Map Multiply (pos 2)) 1) (3 ∷ []) (4 ∷ []) ∷ []) (ended (pk 1 3 ∷ []) ∷ [])

doubles_shows : lines (4 ∷ []) (round doubles 5) ≡ out (pk 1 12 ∷ [])
doubles_shows = refl

doubles_stays : next_round doubles (round doubles 5) ≡ round doubles 5
doubles_stays = refl

-- A packet at PreStream is the only one that an output may have.
abbrev before_all : Job
before_all = job_of 3 (node (Merge 2) (0 ∷ 1 ∷ []) (2 ∷ []) ∷ []) (ended (record { at = pre_stream; value = int (pos 1) } ∷ []) ∷ ended (pk 5 2 ∷ []) ∷ [])

before_all_shows : lines (2 ∷ []) (round before_all 2) ≡ out (record { at = pre_stream; value = int (pos 1) } ∷ [])
before_all_shows = refl

before_all_stays : next_round before_all (round before_all 2) ≡ round before_all 2
before_all_stays = refl

before_all_fails : faults before_all (round before_all 2) ≡ record { node = 0; phase = Process (at 5); cause = NotAscending } ∷ []
before_all_fails = refl

-- Inputs that don't end: what is below the least bound is settled.
abbrev stops : ℕ → Job
stops bound = job_of 3 (node (computed Sum 2) (0 ∷ 1 ∷ []) (2 ∷ []) ∷ []) (until (at 6) (pk 5 1 ∷ []) ∷ until bound [] ∷ [])

stops_shows : lines (2 ∷ []) (round (stops (at 6)) 2) ≡ out (pk 5 1 ∷ [])
stops_shows = refl

stops_at_once : lines (2 ∷ []) (round (stops pre_stream) 2) ≡ out []
stops_at_once = refl

stops_stays : next_round (stops (at 6)) (round (stops (at 6)) 2) ≡ round (stops (at 6)) 2
stops_stays = refl

-- An input that ended at once takes nothing from the other's packets.
abbrev one_ended : Job
one_ended = job_of 3 (node (computed Sum 2) (0 ∷ 1 ∷ []) (2 ∷ []) ∷ []) (ended (pk 1 1 ∷ pk 2 2 ∷ []) ∷ ended [] ∷ [])

one_ended_shows : lines (2 ∷ []) (round one_ended 2) ≡ out (pk 1 1 ∷ pk 2 2 ∷ [])
one_ended_shows = refl

one_ended_stays : next_round one_ended (round one_ended 2) ≡ round one_ended 2
one_ended_stays = refl

-- A side packet as a stream, and without one.
abbrev side_job : List (Option Plain) → Job
side_job sides = record {
  plan = plan_of 1 (node_by Default (SideOnce (at 0)) [] (0 ∷ []) (0 ∷ []) ∷ []) (record { name = []; value = given_at 0 } ∷ []);
  inputs = record { streams = []; sides = sides; ended = true };
  laws = no_laws;
}

side_shows : lines (0 ∷ []) (round (side_job (Some (int (pos 9)) ∷ [])) 1) ≡ out (pk 0 9 ∷ [])
side_shows = refl

side_fails : faults (side_job (None ∷ [])) (round (side_job (None ∷ [])) 1) ≡ record { node = 0; phase = Open; cause = NoSide } ∷ []
side_fails = refl

side_stalls : stalled (round (side_job (None ∷ [])) 1) ≡ 0 ∷ []
side_stalls = refl

side_stays : next_round (side_job (None ∷ [])) (round (side_job (None ∷ [])) 1) ≡ round (side_job (None ∷ [])) 1
side_stays = refl

-- How many sets there were, and the calls that are told of it.
abbrev letter : ℕ → List ℕ → Stamped Plain
letter t bytes = record { at = at t; value = text bytes }

abbrev tallies : Job
tallies = job_of 2 (node Tally (0 ∷ []) (1 ∷ []) ∷ []) (ended (letter 1 (codes "a") ∷ letter 4 (codes "b") ∷ []) ∷ [])

tallies_shows : lines (1 ∷ []) (round tallies 2) ≡ out (pk 1 1 ∷ pk 4 2 ∷ [])
tallies_shows = refl

tallies_log : log_of tallies (round tallies 2) (node Tally (0 ∷ []) (1 ∷ []))
    ≡ Begun ∷ Shown (at 1) (Some (letter 1 (codes "a")) ∷ []) ∷ Shown (at 4) (Some (letter 4 (codes "b")) ∷ []) ∷ Finished ∷ []
tallies_log = refl

tallies_stays : next_round tallies (round tallies 2) ≡ round tallies 2
tallies_stays = refl

-- An offset, and an offset that leaves the range.
abbrev shifts : StreamPrefix Plain → Job
shifts input = job_of 2 (node (Shift (negsuc 4)) (0 ∷ []) (1 ∷ []) ∷ []) (input ∷ [])

shifts_shows : lines (1 ∷ []) (round (shifts (ended (pk 10 3 ∷ []))) 2) ≡ out (pk 5 3 ∷ [])
shifts_shows = refl

abbrev too_low : StreamPrefix Plain
too_low = ended (record { at = place_of (negsuc 9223372036854775802); value = int (pos 3) } ∷ [])

shifts_fails : faults (shifts too_low) (round (shifts too_low) 2) ≡ record { node = 0; phase = Process (place_of (negsuc 9223372036854775802)); cause = Overflow } ∷ []
shifts_fails = refl

shifts_stays : next_round (shifts too_low) (round (shifts too_low) 2) ≡ round (shifts too_low) 2
shifts_stays = refl

-- A number added to each.
abbrev adds : Job
adds = job_of 2 (node (computed (Map Add (pos 10)) 1) (0 ∷ []) (1 ∷ []) ∷ []) (ended (pk 1 5 ∷ pk 2 6 ∷ []) ∷ [])

adds_shows : lines (1 ∷ []) (round adds 2) ≡ out (pk 1 15 ∷ pk 2 16 ∷ [])
adds_shows = refl

-- The last value of another stream, at each tick, and a sum of all so far.
abbrev clones : Job
clones = job_of 4 (node (Cloner 1) (0 ∷ 1 ∷ []) (2 ∷ []) ∷ node (computed Running 1) (2 ∷ []) (3 ∷ []) ∷ []) (ended (pk 10 7 ∷ pk 30 8 ∷ []) ∷ ended (pk 5 0 ∷ pk 20 0 ∷ pk 30 0 ∷ pk 40 0 ∷ []) ∷ [])

clones_shows : lines (2 ∷ []) (round clones 3) ≡ out (pk 20 7 ∷ pk 30 8 ∷ pk 40 8 ∷ [])
clones_shows = refl

clones_sums : lines (3 ∷ []) (round clones 3) ≡ out (pk 20 7 ∷ pk 30 15 ∷ pk 40 23 ∷ [])
clones_sums = refl

clones_stays : next_round clones (round clones 3) ≡ round clones 3
clones_stays = refl

-- A source whose second call leaves the range: it stops there, with what it had emitted.
abbrev leaps : Job
leaps = job_of 1 (node (Count 2 (pos 0) (pos 9223372036854775807)) [] (0 ∷ []) ∷ []) []

leaps_fails : faults leaps (round leaps 1) ≡ record { node = 0; phase = Call 1; cause = Overflow } ∷ []
leaps_fails = refl

leaps_stops : round leaps 1 ≡ until (at 1) (pk 0 0 ∷ []) ∷ []
leaps_stops = refl

leaps_counts : counts leaps (round leaps 1) ≡ 2 ∷ []
leaps_counts = refl

-- A loopback whose LOOP is its MAIN.
abbrev repeats : Job
repeats = job_of 2 (node Loopback (0 ∷ 0 ∷ []) (1 ∷ []) ∷ []) (ended (pk 10 1 ∷ pk 20 2 ∷ []) ∷ [])

repeats_shows : lines (1 ∷ []) (round repeats 2) ≡ out (pk 20 1 ∷ [])
repeats_shows = refl

repeats_ends : stalled (round repeats 2) ≡ []
repeats_ends = refl

-- The running sum of two packets, round by round.
abbrev two_sums : Job
two_sums = job_of 3 (node Loopback (2 ∷ 0 ∷ []) (1 ∷ []) ∷ node (computed Sum 2) (0 ∷ 1 ∷ []) (2 ∷ []) ∷ []) (ended (pk 10 1 ∷ pk 20 2 ∷ []) ∷ [])

abbrev two_in : StreamPrefix Plain
two_in = ended (pk 10 1 ∷ pk 20 2 ∷ [])

two_sums_first : round two_sums 1 ≡ two_in ∷ until pre_stream [] ∷ until pre_stream [] ∷ []
two_sums_first = refl

two_sums_second : round two_sums 2 ≡ two_in ∷ until (at 20) [] ∷ until pre_stream [] ∷ []
two_sums_second = refl

two_sums_third : round two_sums 3 ≡ two_in ∷ until (at 20) [] ∷ until (at 20) (pk 10 1 ∷ []) ∷ []
two_sums_third = refl

two_sums_fourth : round two_sums 4 ≡ two_in ∷ ended (pk 20 1 ∷ []) ∷ until (at 20) (pk 10 1 ∷ []) ∷ []
two_sums_fourth = refl

two_sums_fifth : round two_sums 5 ≡ two_in ∷ ended (pk 20 1 ∷ []) ∷ ended (pk 10 1 ∷ pk 20 3 ∷ []) ∷ []
two_sums_fifth = refl

two_sums_stays : next_round two_sums (round two_sums 5) ≡ round two_sums 5
two_sums_stays = refl

repeats_stays : next_round repeats (round repeats 2) ≡ round repeats 2
repeats_stays = refl
