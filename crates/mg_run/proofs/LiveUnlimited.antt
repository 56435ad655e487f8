-- What a graph with free nodes gives depends neither on the limit of its plan's queues nor on the number of its workers.
use Rattle.std.proofs.Common.{◌≡◌, ◌≢◌, ◌≤◌, ℕ, ℤ, pos, min, Bool, List, [], ◌∷◌, ◌++◌, map, length, Option, None, Some, ap, ◌∙◌, subst}
use Rattle.std.specs.List.{flat_map}
use Rattle.mg_edge.specs.Edge.{SinkTold}
use Rattle.mg_value.specs.Payload.{Plain}
use Rattle.mg_settled.specs.Prefix.{StreamPrefix}
use Rattle.mg_calc.specs.Rules.{Laws}
use Rattle.mg_calc.specs.declared.inputs.Inputs.{Inputs}
use Rattle.mg_calc.specs.declared.node_fault.NodeFault.{NodeFault}
use Rattle.mg_calc.specs.declared.plan.Plan.{Plan}
use Rattle.mg_calc.specs.Told.{BoxTold}
use Rattle.mg_free.specs.Core.{split_of}
use Rattle.mg_free.specs.Rounds.{Taken, none_taken, core_job, IsRound, Rounds, rests, round, AllRounds, ends, batch}
use Rattle.mg_free.specs.Turns.{last_batch}
use Rattle.mg_feed.specs.declared.feed_end.FeedEnd.{FeedEnd}
use Rattle.mg_feed.specs.declared.feed_end.FeedEnd.TheVariants.{Ended}
use Rattle.mg_feed.specs.Graph.{inputs_of}
use Rattle.mg_answer.specs.Answer.{OutputForm, packet_lines, totals, RunAnswer, Read, output_in, ended_input, generated_job}
use Rattle.mg_answer.specs.Devices.{Device}
use Rattle.mg_answer.specs.Outcomes.{told_answer, told_failed}
use Rattle.mg_answer.specs.Notes.{end_note, fault_note}
use Rattle.mg_answer.specs.Report.{open_numbers, end_bounds, report_by, asked_report}
use Rattle.mg_answer.specs.Told.{status_of}
use Rattle.mg_answer.specs.Wrote.{WroteBy}
use Rattle.mg_answer.specs.declared.outcomes.Outcomes.{Outcomes}
use Rattle.mg_answer.specs.declared.status.Status.{Status}
use Rattle.mg_answer.specs.declared.status.Status.TheVariants.{WriteFault}
use Rattle.mg_answer.specs.declared.run.Reporting.{Reporting}
use Rattle.mg_drive.specs.Live.{renumbered_fault, sets_by, LiveTells}
use Rattle.mg_drive.specs.OneLive.{ComesTo, IsLiveAnswer, OneLive, AreBatchesOf, AnswersLive, AnswersLiveMade}
use Rattle.mg_run.specs.Answer.{with_limit, with_workers, limit_or}
use Rattle.mg_words.specs.declared.limits.TheConstants.{MOST_WORKERS}
use Rattle.mg_run.proofs.Unlimited.{limited_plan, unlimited_job, unlimited, faults_same, counts_same, output_same, notes_same, had_same}

-- The rounds --

round_same : (laws : Laws) (plan : Plan) (limit : ℤ) (workers : ℕ) (inputs : Inputs) (before after : List Taken) → IsRound laws (split_of (limited_plan plan limit workers)) inputs before after → IsRound laws (split_of plan) inputs before after
round_same laws plan limit workers inputs before after r = record { streams = r.streams; solution = unlimited (core_job laws (split_of plan) inputs before) limit workers r.streams r.solution; turns = r.turns }

rounds_same : (laws : Laws) (plan : Plan) (limit : ℤ) (workers : ℕ) (inputs : Inputs) (before after : List Taken) → Rounds laws (split_of (limited_plan plan limit workers)) inputs before after → Rounds laws (split_of plan) inputs before after
rounds_same laws plan limit workers inputs before after (rests one) = rests (round_same laws plan limit workers inputs before before one)
rounds_same laws plan limit workers inputs before after (round {after = next} one changed others) = round (round_same laws plan limit workers inputs before next one) changed (rounds_same laws plan limit workers inputs next after others)

all_rounds_same : (laws : Laws) (plan : Plan) (limit : ℤ) (workers : ℕ) (batches : List Inputs) (before last : List Taken) → AllRounds laws (split_of (limited_plan plan limit workers)) batches before last → AllRounds laws (split_of plan) batches before last
all_rounds_same laws plan limit workers [] before last ends = ends
all_rounds_same laws plan limit workers (inputs ∷ later) before last (batch {after = after} one others) =
    batch (rounds_same laws plan limit workers inputs before after one) (all_rounds_same laws plan limit workers later after last others)

-- What is told --

tells_same : (laws : Laws) (report : Reporting) (plan : Plan) (limit : ℤ) (workers : ℕ) (base : Inputs) (streams : List (StreamPrefix Plain)) (takens : List Taken) (live : Outcomes)
    → LiveTells report (limited_plan plan limit workers) (core_job laws (split_of (limited_plan plan limit workers)) base takens) streams (split_of (limited_plan plan limit workers)).free takens live
    → LiveTells report plan (core_job laws (split_of plan) base takens) streams (split_of plan).free takens live
tells_same laws report plan limit workers base streams takens live t = record {
  faults = t.faults ∙ ap (λ (fs : List NodeFault). map (renumbered_fault (split_of plan).numbers) fs) (faults_same (core_job laws (split_of plan) base takens) limit workers streams);
  sets = t.sets ∙ ap (λ (cs : List ℕ). sets_by plan.nodes cs (map (λ (taken : Taken). length taken.log) takens)) (counts_same (core_job laws (split_of plan) base takens) limit workers streams);
  ends = t.ends;
  arrivals = t.arrivals;
}

comes_same : (laws : Laws) (report : Reporting) (plan : Plan) (limit : ℤ) (workers : ℕ) (first : Inputs) (later : List Inputs) → ComesTo laws report (limited_plan plan limit workers) first later → ComesTo laws report plan first later
comes_same laws report plan limit workers first later c = record {
  takens = c.takens;
  rounds = all_rounds_same laws plan limit workers (first ∷ later) (none_taken (split_of plan)) c.takens c.rounds;
  streams = c.streams;
  solution = unlimited (core_job laws (split_of plan) (last_batch first later) c.takens) limit workers c.streams c.solution;
  logs = c.logs;
  outputs = c.outputs;
  live = c.live;
  tells = tells_same laws report plan limit workers (last_batch first later) c.streams c.takens c.live c.tells;
}

-- The answer --

answer_same : (form : OutputForm) (report : Reporting) (plan : Plan) (limit : ℤ) (workers : ℕ) (end : FeedEnd) (live : Outcomes) (streams : List (StreamPrefix Plain))
    → told_answer report (limited_plan plan limit workers) end live (output_in form (split_of (limited_plan plan limit workers)).core streams) ≡ told_answer report plan end live (output_in form (split_of plan).core streams)
answer_same form report plan limit workers end live streams =
    let stopped = open_numbers live.ends.items in
    let status = status_of end live.faults stopped in
    λ i. record {
      output = output_same form (split_of plan).core limit workers streams i;
      notes = (end_note end ++ flat_map (fault_note plan) live.faults ++ notes_same status plan limit workers (end_bounds live.ends.items) stopped i)
          ++ live.arrivals.items ++ asked_report report (report_by plan live.sets live.ends.items);
      status = status;
    }

live_same : (laws : Laws) (form : OutputForm) (report : Reporting) (plan : Plan) (limit : ℤ) (workers : ℕ) (first : Inputs) (later : List Inputs) (end : FeedEnd) (a : RunAnswer)
    → IsLiveAnswer laws form report (limited_plan plan limit workers) first later end a → IsLiveAnswer laws form report plan first later end a
unfolding comes_same
live_same laws form report plan limit workers first later end a is = record {
  comes = comes_same laws report plan limit workers first later is.comes;
  is = is.is ∙ answer_same form report plan limit workers end is.comes.live is.comes.streams;
}

pub batches_same : (early : Bool) (plan : Plan) (limit : ℤ) (workers : ℕ) (read : Read) (batches : List Inputs) → AreBatchesOf early (limited_plan plan limit workers) read batches → AreBatchesOf early plan read batches
batches_same early plan limit workers read batches b = record { lines = b.lines; in_batches = b.in_batches; are = b.are }

lines_same : (laws : Laws) (report : Reporting) (early : Bool) (plan : Plan) (limit : ℤ) (workers : ℕ) (input : List ℕ) (a : RunAnswer) → AnswersLive laws report early (limited_plan plan limit workers) input a → AnswersLive laws report early plan input a
lines_same laws report early plan limit workers input a is = record {
  first = is.first;
  later = is.later;
  batches = batches_same early plan limit workers (ended_input (inputs_of plan) input) (is.first ∷ is.later) is.batches;
  answers = live_same laws packet_lines report plan limit workers is.first is.later (ended_input (inputs_of plan) input).end a is.answers;
}

pub live_asked : (laws : Laws) (report : Reporting) (early : Bool) (limit : Option ℤ) (workers : Option ℕ) (plan : Plan) (input : List ℕ) (a : RunAnswer) → AnswersLive laws report early (with_workers workers (with_limit limit plan)) input a → AnswersLive laws report early plan input a
live_asked laws report early None None plan input a is = is
live_asked laws report early (Some limit) None plan input a is = lines_same laws report early plan (limit_or limit plan.limit) plan.workers input a is
live_asked laws report early None (Some workers) plan input a is = lines_same laws report early plan plan.limit (min workers MOST_WORKERS) input a is
live_asked laws report early (Some limit) (Some workers) plan input a is = lines_same laws report early plan (limit_or limit plan.limit) (min workers MOST_WORKERS) input a is

made_same : (laws : Laws) (report : Reporting) (number : ℕ) (plan : Plan) (limit : ℤ) (workers : ℕ) (a : RunAnswer) → AnswersLiveMade laws report (limited_plan plan limit workers) number a → AnswersLiveMade laws report plan number a
made_same laws report number plan limit workers a is = live_same laws totals report plan limit workers (generated_job laws plan number).inputs [] Ended a is

pub live_made_asked : (laws : Laws) (report : Reporting) (number : ℕ) (limit : Option ℤ) (workers : Option ℕ) (plan : Plan) (a : RunAnswer) → AnswersLiveMade laws report (with_workers workers (with_limit limit plan)) number a → AnswersLiveMade laws report plan number a
live_made_asked laws report number None None plan a is = is
live_made_asked laws report number (Some limit) None plan a is = made_same laws report number plan (limit_or limit plan.limit) plan.workers a is
live_made_asked laws report number None (Some workers) plan a is = made_same laws report number plan plan.limit (min workers MOST_WORKERS) a is
live_made_asked laws report number (Some limit) (Some workers) plan a is = made_same laws report number plan (limit_or limit plan.limit) (min workers MOST_WORKERS) a is

-- A run --

failed_same : (report : Reporting) (plan : Plan) (limit : ℤ) (workers : ℕ) (end : FeedEnd) (live : Outcomes) → told_failed report (limited_plan plan limit workers) end live ≡ told_failed report plan end live
failed_same report plan limit workers end live =
    let stopped = open_numbers live.ends.items in
    λ i. (end_note end ++ flat_map (fault_note plan) live.faults ++ notes_same WriteFault plan limit workers (end_bounds live.ends.items) stopped i)
    ++ live.arrivals.items ++ asked_report report (report_by plan live.sets live.ends.items)

pub unlimited_live : (laws : Laws) (form : OutputForm) (report : Reporting) (plan : Plan) (limit : ℤ) (workers : ℕ) (first : Inputs) (later : List Inputs) (end : FeedEnd) (status : Status) (output notes : Device SinkTold) (boxes : Device (List BoxTold))
    → plan.limit ≢ pos 0 → plan.workers ≤ 64 → OneLive laws form report (limited_plan plan limit workers) first later end status output notes boxes → OneLive laws form report plan first later end status output notes boxes
unfolding comes_same
unlimited_live laws form report plan limit workers first later end status output notes boxes some few r =
    let job = core_job laws (split_of plan) (last_batch first later) r.comes.takens in
    record {
      comes = comes_same laws report plan limit workers first later r.comes;
      is_job = unlimited_job job limit workers some few r.is_job;
      wrote = subst (λ (a : RunAnswer). WroteBy status a (told_failed report plan end r.comes.live) output notes) (answer_same form report plan limit workers end r.comes.live r.comes.streams)
          (subst (λ (f : List ℕ). WroteBy status (told_answer report (limited_plan plan limit workers) end r.comes.live (output_in form (split_of (limited_plan plan limit workers)).core r.comes.streams)) f output notes)
          (failed_same report plan limit workers end r.comes.live) r.wrote);
      had = record {
        back = record { count = r.had.back.count; unused = r.had.back.unused };
        used = λ number place node there has.
            (let at = r.had.used number place node there has in
            record { before = at.before; now = at.now; was = at.was; is = at.is; holds = had_same job limit workers r.comes.streams node at.before at.now at.holds });
      };
    }
