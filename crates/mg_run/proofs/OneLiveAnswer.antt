-- A run of a graph with free nodes has one answer.
use Rattle.std.proofs.Common.{◌≡◌, ℕ, Bool, false, List, [], ◌∷◌, ◌++◌, map, length, drop, slice_index_or, refl, sym, ap, ◌∙◌, subst}
use Rattle.mg_value.specs.Payload.{Plain}
use Rattle.mg_settled.specs.Prefix.{StreamPrefix}
use Rattle.mg_calc.specs.Rules.{Laws}
use Rattle.mg_calc.specs.declared.inputs.Inputs.{Inputs}
use Rattle.mg_calc.specs.declared.node_fault.NodeFault.{NodeFault}
use Rattle.mg_calc.specs.declared.plan.Plan.{Plan}
use Rattle.mg_calc.specs.Plan.{numbers}
use Rattle.mg_calc.specs.Equations.{IsSolution, stream_of}
use Rattle.mg_calc.specs.Meaning.{faults, counts}
use Rattle.mg_calc.proofs.Solutions.{one_solution}
use Rattle.mg_free.specs.Core.{split_of, stream_number}
use Rattle.mg_free.specs.Rounds.{Taken, none_taken, core_job}
use Rattle.mg_free.specs.Turns.{last_batch}
use Rattle.mg_free.proofs.RoundsEnd.{all_rounds_one}
use Rattle.mg_feed.specs.Graph.{inputs_of}
use Rattle.mg_feed.specs.declared.feed_end.FeedEnd.{FeedEnd}
use Rattle.mg_answer.specs.Answer.{OutputForm, packet_lines, RunAnswer, Read, output_in, ended_input}
use Rattle.mg_answer.specs.Notes.{notes_by}
use Rattle.mg_settled.specs.Ends.{end_of}
use Rattle.mg_answer.specs.Report.{open_numbers, end_bounds, report_by, asked_report, asked_arrivals}
use Rattle.mg_answer.specs.Told.{status_of}
use Rattle.mg_answer.specs.declared.run.Reporting.{Reporting}
use Rattle.mg_settled.specs.declared.stream_end.StreamEnd.{StreamEnd}
use Rattle.mg_drive.specs.InBatches.{come_after}
use Rattle.mg_drive.specs.Live.{renumbered_fault, sets_by, arrivals_text}
use Rattle.mg_drive.specs.OneLive.{IsLiveAnswer, AreBatchesOf, AnswersLive}
use Rattle.mg_drive.proofs.Cuts.{one_cut}

-- an answer, by all that it tells
abbrev answer_by : Reporting → Plan → FeedEnd → List NodeFault → List ℕ → List StreamEnd → List ℕ → List ℕ → RunAnswer
answer_by report whole end fs sets ends arrivals text = record {
  output = text;
  notes = notes_by (status_of end fs (open_numbers ends)) whole end fs (end_bounds ends) (open_numbers ends) ++ arrivals ++ asked_report report (report_by whole sets ends);
  status = status_of end fs (open_numbers ends);
}

-- what the logs and the core's solution make of it
abbrev answer_in : Laws → OutputForm → Reporting → Plan → Inputs → FeedEnd → List Taken → List (StreamPrefix Plain) → RunAnswer
answer_in laws form report whole base end takens streams =
    answer_by report whole end
    (map (renumbered_fault (split_of whole).numbers) (faults (core_job laws (split_of whole) base takens) streams))
    (sets_by whole.nodes (counts (core_job laws (split_of whole) base takens) streams) (map (λ t. length t.log) takens))
    (map (λ s. end_of (stream_of streams (stream_number whole s))) (numbers (length whole.streams)))
    (asked_arrivals report (arrivals_text (split_of whole).free takens))
    (output_in form (split_of whole).core streams)

answer_told : (laws : Laws) (form : OutputForm) (report : Reporting) (whole : Plan) (first : Inputs) (later : List Inputs) (end : FeedEnd) (a : RunAnswer) → (is : IsLiveAnswer laws form report whole first later end a)
    → a ≡ answer_in laws form report whole (last_batch first later) end is.comes.takens is.comes.streams
answer_told laws form report whole first later end a is =
    let told = is.comes.tells in
    is.is ∙ (λ i. answer_by report whole end (told.faults i) (told.sets i) (told.ends i) (told.arrivals i) (output_in form (split_of whole).core is.comes.streams))

pub one-of-live : (laws : Laws) (form : OutputForm) (report : Reporting) (whole : Plan) (first : Inputs) (later : List Inputs) (end : FeedEnd) (a b : RunAnswer) → IsLiveAnswer laws form report whole first later end a → IsLiveAnswer laws form report whole first later end b → a ≡ b
one-of-live laws form report whole first later end a b one two =
    let split = split_of whole in
    let base = last_batch first later in
    let logs = all_rounds_one laws split (first ∷ later) (none_taken split) one.comes.takens two.comes.takens one.comes.rounds two.comes.rounds in
    let solution : IsSolution (core_job laws split base two.comes.takens) one.comes.streams = subst (λ (ts : List Taken). IsSolution (core_job laws split base ts) one.comes.streams) logs one.comes.solution in
    let streams = one_solution (core_job laws split base two.comes.takens) one.comes.streams two.comes.streams solution two.comes.solution in
    answer_told laws form report whole first later end a one ∙ (λ i. answer_in laws form report whole base end (logs i) (streams i)) ∙ sym (answer_told laws form report whole first later end b two)

-- the batches of an input are one thing if they may not end early
pub one-batches : (early : Bool) (whole : Plan) (read : Read) (batches other : List Inputs) → early ≡ false → AreBatchesOf early whole read batches → AreBatchesOf early whole read other → batches ≡ other
one-batches early whole read batches other is one two = by (subst (λ (e : Bool). AreBatchesOf e whole read batches) is one) (subst (λ (e : Bool). AreBatchesOf e whole read other) is two)
  where
    by : AreBatchesOf false whole read batches → AreBatchesOf false whole read other → batches ≡ other
    by a b = sym a.are ∙ ap (come_after (inputs_of whole) read.end []) (one_cut read.lines read.lines a.lines b.lines refl a.in_batches b.in_batches) ∙ b.are

pub one-of-lines : (laws : Laws) (report : Reporting) (early : Bool) (whole : Plan) (input : List ℕ) (a b : RunAnswer) → early ≡ false → AnswersLive laws report early whole input a → AnswersLive laws report early whole input b → a ≡ b
one-of-lines laws report early whole input a b is one two =
    let end = (ended_input (inputs_of whole) input).end in
    let same = one-batches early whole (ended_input (inputs_of whole) input) (one.first ∷ one.later) (two.first ∷ two.later) is one.batches two.batches in
    let first : one.first ≡ two.first = ap (λ (l : List Inputs). slice_index_or l 0 one.first) same in
    let later : one.later ≡ two.later = ap (λ (l : List Inputs). drop 1 l) same in
    one-of-live laws packet_lines report whole two.first two.later end a b
    (subst (λ (i : Inputs). IsLiveAnswer laws packet_lines report whole i two.later end a) first (subst (λ (l : List Inputs). IsLiveAnswer laws packet_lines report whole one.first l end a) later one.answers)) two.answers
