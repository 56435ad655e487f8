-- What a feed that read an input gives a graph.
use Rattle.std.proofs.Common.{◌≡◌, ◌≢◌, ◌⊎◌, inl, inr, ℕ, List, [], ◌++◌, length, Bool, false, Option, refl, sym, ap, ◌∙◌, subst}
use Rattle.mg_edge.specs.Edge.{SourceTold}
use Rattle.mg_edge.specs.Runs.{Gave}
use Rattle.mg_edge.proofs.Runs.{Gave-start}
use Rattle.mg_value.specs.Payload.{Plain}
use Rattle.mg_settled.specs.Prefix.{StreamPrefix}
use Rattle.mg_calc.specs.declared.inputs.Inputs.{Inputs}
use Rattle.mg_calc.specs.Rules.{Laws}
use Rattle.mg_calc.specs.Plan.{IsValid}
use Rattle.mg_calc.specs.Equations.{IsJob}
use Rattle.mg_calc.specs.declared.plan.Plan.{Plan}
use Rattle.mg_feed.specs.Graph.{GraphInputs, inputs_of}
use Rattle.mg_feed.specs.Lines.{all_lines, whole_lines}
use Rattle.mg_feed.specs.Accepted.{State, given_by}
use Rattle.mg_feed.specs.Given.{ended_streams}
use Rattle.mg_feed.specs.Stands.{HasAccepted, AllGood, nothing_taken}
use Rattle.mg_feed.specs.Fed.{Fed, Reading}
use Rattle.mg_feed.specs.Came.{Came}
use Rattle.mg_feed.specs.Ran.{MetEnd, late, Spends, Unfailed, ReadFailed, FailedBy}
use Rattle.mg_feed.specs.Once.{StopsInTime, ReadsOnce}
use Rattle.mg_feed.specs.Batch.{EndsAs, HasRead}
use Rattle.mg_feed.proofs.Accepting.{good-accepted, good-ends, good-few}
use Rattle.mg_feed.proofs.Coming.{came-nothing}
use Rattle.mg_feed.proofs.Timely.{stops-nothing}
use Rattle.mg_feed.proofs.Moving.{spends-late, unfailed-same}
use Rattle.mg_feed.proofs.Holding.{given-untaken}
use Rattle.mg_feed.specs.declared.feed_end.FeedEnd.{FeedEnd}
use Rattle.mg_feed.specs.declared.feed_end.FeedEnd.TheVariants.{Ended, Failed, Refused, OutOfMemory}
use Rattle.mg_answer.specs.Answer.{Read, end_by, is_ended, inputs_by, job_of}
use Rattle.mg_answer.proofs.Fitting.{inputs-fit}
use Rattle.mg_answer.specs.Devices.{Device, device}
use Rattle.mg_answer.specs.Ran.{CameAs, CameTo, ReadSome}
use Rattle.mg_answer.specs.Gathered.{GatheredInputs}

abbrev read_of : List (List ℕ) → FeedEnd → Read
read_of lines end = record { lines = lines; end = end }

read-same : (lines lines' : List (List ℕ)) (end end' : FeedEnd) → lines ≡ lines' → end ≡ end' → read_of lines end ≡ read_of lines' end'
read-same lines lines' end end' a b = ap (λ l. read_of l end) a ∙ ap (λ e. read_of lines' e) b

-- what the bytes that came say, by how the reading ended
came-as : (end : FeedEnd) (graph : GraphInputs) (before now : SourceTold) (came : List ℕ) (lines : List (List ℕ)) (ended : Bool) → end ≢ OutOfMemory
    → EndsAs end graph [] came lines ended → MetEnd false ended before now → CameAs end graph (device before now) came (record { lines = lines; end = end })
came-as Ended graph before now came lines ended some ends met =
    (subst (λ (b : Bool). MetEnd false b before now) ends.0 met, read-same lines _ Ended _ (sym ends.2.0) (ap end_by (sym ends.2.1)))
came-as (Failed number) graph before now came lines ended some ends met =
    (read-same lines _ (Failed number) _ (sym ends.2.0) (ap Failed (ends.0 ∙ ap length ends.1)), ends.1)
came-as (Refused number cause) graph before now came lines ended some ends met =
    (ended, met, λ more fits. let judged = ends more fits in read-same lines _ (Refused number cause) _ (sym judged.0) (ap end_by (sym judged.1)))
came-as OutOfMemory graph before now came lines ended some ends met = absurd (some refl)

pub came-by : (graph : GraphInputs) (input : Device SourceTold) (came : List ℕ) (lines : List (List ℕ)) (end : FeedEnd) (ended : Bool) → Gave input.before.left input.now.left came
    → EndsAs end graph [] came lines ended → MetEnd false ended input.before input.now → FailedBy end input.before input.now → end ≢ OutOfMemory
    → ReadsOnce graph input.before input.now came → CameTo graph input (record { lines = lines; end = end })
came-by graph input came lines end ended gave ends met failed some once = record {
  came = came;
  gave = gave;
  by = came-as end graph input.before input.now came lines ended some ends met;
  faults = failed;
  once = once;
  few = good-few graph lines (good-ends end graph came lines ended ends some);
}

-- the lines of what was read are good
pub came-good : (end : FeedEnd) (graph : GraphInputs) (input : Device SourceTold) (came : List ℕ) (read : Read) → CameAs end graph input came read → AllGood graph [] read.lines
came-good Ended graph input came read by = subst (λ (r : Read). AllGood graph [] r.lines) (sym by.1) (good-accepted graph [] (all_lines came))
came-good (Failed number) graph input came read by = subst (λ (r : Read). AllGood graph [] r.lines) (sym by.0) (good-accepted graph [] (whole_lines came))
came-good (Refused number cause) graph input came read by = subst (λ (r : Read). AllGood graph [] r.lines) (sym (by.2 [] (λ ended. refl))) (good-accepted graph [] (all_lines (came ++ [])))
came-good OutOfMemory graph input came read by = absurd by

pub read-job : (laws : Laws) (plan : Plan) (input : Device SourceTold) (read : Read) → IsValid plan → CameTo (inputs_of plan) input read → IsJob (job_of laws plan read)
read-job laws plan input read valid came = record {
  plan = valid;
  inputs = inputs-fit plan read (inputs_by (inputs_of plan) read) valid (came-good read.end (inputs_of plan) input came.came read came.by) refl;
}

-- how the reads went, by how the call ended
faults-by : (end : FeedEnd) (before now : SourceTold) → FailedBy end before now → Unfailed before now ⊎ ReadFailed before now
faults-by Ended before now failed = inl failed
faults-by (Failed lines) before now failed = inr failed
faults-by (Refused line cause) before now failed = inl failed
faults-by OutOfMemory before now failed = inl failed

-- nothing was read
pub read-none : (graph : GraphInputs) (told : SourceTold) → ReadSome graph (device told told)
read-none graph told = record {
  came = [];
  gave = Gave-start told.left;
  once = record { stops = stops-nothing graph [] told; reads = spends-late false told.left told.reads };
  faults = inl (unfailed-same told);
}

-- an input that gave lines and an end was read so
pub read-came : (graph : GraphInputs) (input : Device SourceTold) (read : Read) → CameTo graph input read → ReadSome graph input
read-came graph input read c = record { came = c.came; gave = c.gave; once = c.once; faults = faults-by read.end input.before input.now c.faults }

-- what a feed that was new read
once-read : (graph : GraphInputs) (end : FeedEnd) (before now : SourceTold) (old new : Fed) → old.view.graph ≡ graph → new.view.graph ≡ graph
    → HasAccepted [] (nothing_taken graph) old.view → old.read ≡ record { kept = []; ended = false } → (read : HasRead end before now old new)
    → Spends (late old.read.ended) 1 before.left now.left before.reads now.reads → ReadsOnce graph before now read.came
once-read graph end before now old new is_old is_new stands unread read spent = record {
  stops = subst (λ (g : GraphInputs). StopsInTime g [] before now read.came) is_old
      (read.stops before [] [] [] (nothing_taken graph) (came-nothing [] (nothing_taken graph) old unread stands) (Gave-start before.left) (stops-nothing old.view.graph [] before));
  reads = subst (λ (r : Reading). Spends (late r.ended) 1 before.left now.left before.reads now.reads) unread spent;
}

-- also if memory ran out
pub some-read : (graph : GraphInputs) (end : FeedEnd) (before now : SourceTold) (old new : Fed) → old.view.graph ≡ graph → new.view.graph ≡ graph
    → HasAccepted [] (nothing_taken graph) old.view → old.read ≡ record { kept = []; ended = false } → HasRead end before now old new → FailedBy end before now
    → Spends (late old.read.ended) 1 before.left now.left before.reads now.reads → ReadSome graph (device before now)
some-read graph end before now old new is_old is_new stands unread read failed spent = record {
  came = read.came;
  gave = read.gave;
  once = once-read graph end before now old new is_old is_new stands unread read spent;
  faults = faults-by end before now failed;
}

-- the bytes that came, and the lines that were accepted of them
pub came-to : (graph : GraphInputs) (end : FeedEnd) (before now : SourceTold) (old new : Fed) → end ≢ OutOfMemory → old.view.graph ≡ graph → new.view.graph ≡ graph
    → HasAccepted [] (nothing_taken graph) old.view → old.read ≡ record { kept = []; ended = false } → HasRead end before now old new
    → MetEnd old.read.ended new.read.ended before now → FailedBy end before now → Spends (late old.read.ended) 1 before.left now.left before.reads now.reads
    → (lines : List (List ℕ)) × CameTo graph (device before now) (record { lines = lines; end = end }) × AllGood graph [] lines × (new.view.given ≡ given_by graph lines)
came-to graph end before now old new some is_old is_new stands unread read met failed spent =
    let first : Came [] [] [] (nothing_taken graph) old = came-nothing [] (nothing_taken graph) old unread stands in
    let both = read.accepted [] [] [] (nothing_taken graph) first in
    let came = both.0 in
    let ends : EndsAs end graph [] read.came read.taken new.read.ended = subst (λ (g : GraphInputs). EndsAs end g [] read.came read.taken new.read.ended) is_old both.1 in
    let met' : MetEnd false new.read.ended before now = subst (λ (r : Reading). MetEnd r.ended new.read.ended before now) unread met in
    let now_stands : HasAccepted read.taken (nothing_taken new.view.graph) new.view = subst (λ (g : GraphInputs). HasAccepted read.taken (nothing_taken g) new.view) (sym is_new) came.stands in
    let given : new.view.given ≡ given_by new.view.graph read.taken = given-untaken read.taken new.view now_stands in
    let is_given : new.view.given ≡ given_by graph read.taken = given ∙ ap (λ g. given_by g read.taken) is_new in (
      read.taken,
      came-by graph (device before now) read.came read.taken end new.read.ended read.gave ends met' failed some
          (once-read graph end before now old new is_old is_new stands unread read spent),
      subst (λ (g : GraphInputs). AllGood g [] read.taken) is_new came.stands.good,
      is_given,
    )

abbrev inputs_from : List (StreamPrefix Plain) → List (Option Plain) → Bool → Inputs
inputs_from ss sides ended = record { streams = ss; sides = sides; ended = ended }

inputs-same : (inputs : Inputs) (ss : List (StreamPrefix Plain)) (sides : List (Option Plain)) (ended : Bool) → inputs.streams ≡ ss → inputs.sides ≡ sides → inputs.ended ≡ ended
    → inputs ≡ inputs_from ss sides ended
inputs-same inputs ss sides ended a b c =
    ap (λ l. inputs_from l inputs.sides inputs.ended) a ∙ ap (λ l. inputs_from ss l inputs.ended) b ∙ ap (λ e. inputs_from ss sides e) c

pub gathered : (graph : GraphInputs) (end : FeedEnd) (before now : SourceTold) (old new : Fed) (b : Bool) (inputs : Inputs) → end ≢ OutOfMemory → old.view.graph ≡ graph → new.view.graph ≡ graph
    → HasAccepted [] (nothing_taken graph) old.view → old.read ≡ record { kept = []; ended = false } → HasRead end before now old new
    → MetEnd old.read.ended new.read.ended before now → FailedBy end before now → Spends (late old.read.ended) 1 before.left now.left before.reads now.reads → b ≡ is_ended end
    → inputs.streams ≡ ended_streams b new.view.given.streams → inputs.sides ≡ new.view.given.sides → inputs.ended ≡ b
    → GatheredInputs graph (device before now) end inputs
gathered graph end before now old new b inputs some is_old is_new stands unread read met failed spent is_b streams sides ended =
    let it = came-to graph end before now old new some is_old is_new stands unread read met failed spent in
    let given = it.3 in
    record {
      read = record { lines = it.0; end = end };
      came = it.1;
      ended = refl;
      given = inputs-same inputs (ended_streams (is_ended end) (given_by graph it.0).streams) (given_by graph it.0).sides (is_ended end)
          (streams ∙ ap (λ c. ended_streams c new.view.given.streams) is_b ∙ ap (λ (s : State). ended_streams (is_ended end) s.streams) given)
          (sides ∙ ap (λ (s : State). s.sides) given)
          (ended ∙ is_b);
      good = it.2;
    }
