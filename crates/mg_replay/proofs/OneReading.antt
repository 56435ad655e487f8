-- Lines that are read as a recorded run come to one end, and have one answer.
use Rattle.std.proofs.Common.{◌≡◌, ℕ, suc, ◌+◌, ◌<◌, ◌≤◌, ◌^◌, Bool, true, false, List, [], ◌∷◌, ◌++◌, length, map, get_or, codes, decimal, Option, None, Some, IfSome, ◌⊎◌, inl, inr, ap, ap₂, sym, refl, subst, ◌∙◌, arith, append_assoc, append-nil}
use Rattle.std.specs.Prelude.{⊤}
use Rattle.std.proofs.lemmas.Fmt.{length-decimal-le}
use Rattle.std.proofs.lemmas.List.{length-append, length-map}
use Rattle.std.proofs.lemmas.Option.{none-some, same_Some}
use Rattle.mg_edge.specs.Edge.{SourceTold}
use Rattle.mg_edge.specs.Runs.{Gave}
use Rattle.mg_calc.specs.Rules.{Laws}
use Rattle.mg_calc.specs.Plan.{IsValid}
use Rattle.mg_calc.specs.declared.event.Event.{Event}
use Rattle.mg_calc.specs.declared.event.Event.TheVariants.{Deliver, Advance, Claim, Perform, Commit, Relax}
use Rattle.mg_calc.specs.declared.event.Effect.TheVariants.{Did, Idle}
use Rattle.mg_calc.specs.declared.inputs.Inputs.{Inputs}
use Rattle.mg_calc.specs.declared.plan.Plan.{Plan}
use Rattle.mg_calc.specs.Told.{BoxTold}
use Rattle.mg_calc.specs.Equations.{Job}
use Rattle.mg_feed.specs.Graph.{GraphInputs, inputs_of}
use Rattle.mg_feed.specs.Accepted.{longest_line}
use Rattle.mg_feed.specs.Lines.{all_lines}
use Rattle.mg_feed.specs.Ran.{EndCame, MetEnd}
use Rattle.mg_feed.specs.declared.feed_end.FeedEnd.TheVariants.{Ended}
use Rattle.mg_trace.specs.Event.{IsEventOf, event_line}
use Rattle.mg_trace.specs.Job.{end_word}
use Rattle.mg_trace.proofs.Reading.{one_event}
use Rattle.mg_trace.proofs.EventLines.{not_end}
use Rattle.mg_sched.specs.Views.{NetView}
use Rattle.mg_sched.specs.StandsFor.{StandsFor, StandsForSome, IsRunning}
use Rattle.mg_sched.specs.Acts as nets
use Rattle.mg_sched.specs.AtRest.{IsAtRest, MayGoOn}
use Rattle.mg_sched.specs.Made.{job_of}
use Rattle.mg_sched.specs.Runs.{IsRun, IsBegun}
use Rattle.mg_sched.specs.SameNets.{AreAlike}
use Rattle.mg_sched.proofs.ActsRun.{acts_run}
use Rattle.mg_sched.proofs.ActsStand.{acts_stand}
use Rattle.mg_sched.proofs.OneBeginning.{begun_alike}
use Rattle.mg_sched.proofs.OneStep.{alike_back}
use Rattle.mg_sched.proofs.OneRun.{did_not_idle, did_alike, rests_or_goes}
use Rattle.mg_answer.specs.Answer.{by_lines, RunAnswer}
use Rattle.mg_answer.specs.Frozen.{frozen_answer, IsFrozenAnswer}
use Rattle.mg_answer.specs.declared.run.Reporting.{Reporting}
use Rattle.mg_answer.specs.Devices.{Device, Unrisen}
use Rattle.mg_answer.proofs.Answering.{one-unrisen}
use Rattle.mg_answer.proofs.OneAnswer.{one-of}
use Rattle.mg_calc.proofs.Solutions.{one_solution}
use Rattle.mg_replay.specs.Opening.{is_end_word, IsPacket, ArePackets, inputs_with}
use Rattle.mg_replay.specs.Replay.{CameAs, FailsAs, WasRead, StopsEarlyAt, StopsEarly, AreEventsOf, IsNoEvent, EndsAt, IsLastLine, StopsAt, StopsAfterJob, LinesComeTo}
use Rattle.mg_replay.specs.Replayed.{job_over, AnswersJob, AnswersEnd, AnswersTrace}
use Rattle.mg_replay.specs.declared.trace_end.TraceFault.{TraceFault}
use Rattle.mg_replay.specs.declared.trace_end.TraceFault.TheVariants.{NotAtRest}
use Rattle.mg_replay.specs.declared.trace_end.TraceEnd.{TraceEnd}
use Rattle.mg_replay.specs.declared.trace_end.TraceEnd.TheVariants.{Accepted, Refused, Failed}

-- Packet lines --

-- no packet line stands first in these lines, after those before them
abbrev StopsHere : GraphInputs → List (List ℕ) → List (List ℕ) → Type 0
StopsHere graph before [] = ⊤
StopsHere graph before (line ∷ more) = IsPacket graph before line → ⊥

-- the packet lines are found again
given_one : (graph : GraphInputs) (before given other tail more : List (List ℕ)) → ArePackets graph before given → ArePackets graph before other → given ++ tail ≡ other ++ more → StopsHere graph (before ++ given) tail → StopsHere graph (before ++ other) more
    → (given ≡ other) × (tail ≡ more)
given_one graph before [] [] tail more h k same s t = (refl, same)
given_one graph before [] (l ∷ ls) tail more h k same s t =
    (let none : StopsHere graph before (l ∷ (ls ++ more)) = subst (λ (ts : List (List ℕ)). StopsHere graph before ts) same (subst (λ (b : List (List ℕ)). StopsHere graph b tail) (append-nil before) s) in absurd (none k.0))
given_one graph before (l ∷ ls) [] tail more h k same s t =
    (let none : StopsHere graph before (l ∷ (ls ++ tail)) = subst (λ (ts : List (List ℕ)). StopsHere graph before ts) (sym same) (subst (λ (b : List (List ℕ)). StopsHere graph b more) (append-nil before) t) in absurd (none h.0))
given_one graph before (l ∷ ls) (m ∷ ms) tail more h k same s t =
    let first : l ≡ m = cc in
    let rest : ls ++ tail ≡ ms ++ more = cc in
    let behind : before ++ m ∷ ms ≡ (before ++ l ∷ []) ++ ms = sym (append_assoc before (m ∷ []) ms) ∙ ap (λ (x : List ℕ). (before ++ x ∷ []) ++ ms) (sym first) in
    let found = given_one graph (before ++ l ∷ []) ls ms tail more h.1 (subst (λ (x : List ℕ). ArePackets graph (before ++ x ∷ []) ms) (sym first) k.1) rest
    (subst (λ (b : List (List ℕ)). StopsHere graph b tail) (sym (append_assoc before (l ∷ []) ls)) s) (subst (λ (b : List (List ℕ)). StopsHere graph b more) behind t) in
    (ap₂ (λ (x : List ℕ) (xs : List (List ℕ)). x ∷ xs) first found.0, found.1)

is_word : (ended : Bool) → is_end_word (end_word ended) ≡ true
is_word true = refl
is_word false = refl

word_stops : (graph : GraphInputs) (before more : List (List ℕ)) (ended : Bool) → StopsHere graph before (end_word ended ∷ more)
word_stops graph before more ended = λ packet. (let clash : true ≡ false = sym (is_word ended) ∙ packet.0 in absurd cc)

early_stops : (plan : Plan) (given tail : List (List ℕ)) (end : TraceEnd) → StopsEarlyAt plan given tail end → StopsHere (inputs_of plan) given tail
early_stops plan given [] end stops = tt
early_stops plan given (line ∷ more) end stops = λ packet. none-some stops.1.0 (sym packet.1 ∙ stops.1.1)

-- the reading stops early in one way
early_at_one : (plan : Plan) (given tail : List (List ℕ)) (end twin : TraceEnd) → StopsEarlyAt plan given tail end → StopsEarlyAt plan given tail twin → end ≡ twin
early_at_one plan given [] end twin h k = h ∙ sym k
early_at_one plan given (line ∷ more) end twin h k =
    let cause : h.1.0 ≡ k.1.0 = same_Some h.1.0 k.1.0 (sym h.1.1 ∙ k.1.1) in
    h.1.2 ∙ ap (λ (c : TraceFault). Refused (length given + 1) c) cause ∙ sym k.1.2

early_one : (plan : Plan) (lines : List (List ℕ)) (end twin : TraceEnd) → StopsEarly plan lines end → StopsEarly plan lines twin → end ≡ twin
early_one plan lines end twin s t =
    let same = given_one (inputs_of plan) [] s.given t.given s.tail t.tail s.packets t.packets (sym s.lines_are ∙ t.lines_are) (early_stops plan s.given s.tail end s.stops) (early_stops plan t.given t.tail twin t.stops) in
    early_at_one plan t.given t.tail end twin
    (subst (λ (ls : List (List ℕ)). StopsEarlyAt plan t.given ls end) same.1 (subst (λ (ls : List (List ℕ)). StopsEarlyAt plan ls s.tail end) same.0 s.stops)) t.stops

-- lines that tell a job don't stop early
early_word : (plan : Plan) (given more : List (List ℕ)) (ended : Bool) (end : TraceEnd) → StopsEarlyAt plan given (end_word ended ∷ more) end → ⊥
early_word plan given more ended end stops = (let clash : true ≡ false = sym (is_word ended) ∙ stops.0 in absurd cc)

-- where the lines of a job stand among others
job_lines_are : {laws : Laws} (plan : Plan) (boxes : List BoxTold) (lines : List (List ℕ)) (inputs : Inputs) (end : TraceEnd) (s : StopsAfterJob laws plan boxes lines inputs end) → lines ≡ s.has_run.given ++ end_word inputs.ended ∷ (map event_line s.has_run.events ++ s.tail)
job_lines_are {laws} plan boxes lines inputs end s =
    s.lines_are ∙ ap (λ (ls : List (List ℕ)). ls ++ s.tail) s.has_run.lines_are ∙ append_assoc s.has_run.given (end_word inputs.ended ∷ map event_line s.has_run.events) s.tail

early_or_job : {A : Type 0} {laws : Laws} (plan : Plan) (boxes : List BoxTold) (lines : List (List ℕ)) (inputs : Inputs) (end twin : TraceEnd) → StopsEarly plan lines end → StopsAfterJob laws plan boxes lines inputs twin → A
early_or_job {A} {laws} plan boxes lines inputs end twin e s =
    let rest = end_word inputs.ended ∷ (map event_line s.has_run.events ++ s.tail) in
    let same = given_one (inputs_of plan) [] e.given s.has_run.given e.tail rest e.packets s.has_run.packets (sym e.lines_are ∙ job_lines_are plan boxes lines inputs twin s)
    (early_stops plan e.given e.tail end e.stops) (word_stops (inputs_of plan) s.has_run.given (map event_line s.has_run.events ++ s.tail) inputs.ended) in
    absurd (early_word plan e.given (map event_line s.has_run.events ++ s.tail) inputs.ended end (subst (λ (ls : List (List ℕ)). StopsEarlyAt plan e.given ls end) same.1 e.stops))

-- Lines of events --

short_number : (n : ℕ) → n < 2 ^ 64 → length (decimal n) ≤ 20
short_number n fits = length-decimal-le 20 n (omega arith) (omega (arith, fits)) fits

-- no line of an event is too long
short_event : (plan : Plan) (event : Event) → IsValid plan → IsEventOf plan event → longest_line < length (event_line event) → ⊥
short_event plan event valid of long = (let short = low event of in absurd (omega (arith, short, long)))
  where
    pair : (word : List ℕ) (long n k : ℕ) → length word ≡ long → long ≤ 8 → n < 2 ^ 64 → k < 2 ^ 64 → length (word ++ (decimal n ++ (codes " " ++ decimal k))) ≤ 49
    pair word long n k is few fits fit =
        let one = short_number n fits in
        let two = short_number k fit in
        let a = length-append word (decimal n ++ (codes " " ++ decimal k)) in
        let b = length-append (decimal n) (codes " " ++ decimal k) in
        let c : length (codes " " ++ decimal k) ≡ 1 + length (decimal k) = length-append (codes " ") (decimal k) in
        omega (arith, one, two, is, few, a, b, c)

    single : (word : List ℕ) (long n : ℕ) → length word ≡ long → long ≤ 8 → n < 2 ^ 64 → length (word ++ decimal n) ≤ 49
    single word long n is few fits = (let one = short_number n fits in let a = length-append word (decimal n) in omega (arith, one, is, few, a))

    low : (e : Event) → IsEventOf plan e → length (event_line e) ≤ 49
    low (Deliver n) is = single (codes "deliver ") 8 n refl (omega arith) (let r = valid.ranges.edges in omega (arith, is, r))
    low (Advance n) is = single (codes "advance ") 8 n refl (omega arith) (let r = valid.ranges.nodes in omega (arith, is, r))
    low (Claim n) is = single (codes "claim ") 6 n refl (omega arith) (let r = valid.ranges.nodes in omega (arith, is, r))
    low (Perform n k) is = pair (codes "perform ") 8 n k refl (omega arith) (let r = valid.ranges.nodes in let there = is.0 in omega (arith, there, r)) is.1
    low (Commit n k) is = pair (codes "commit ") 7 n k refl (omega arith) (let r = valid.ranges.nodes in let there = is.0 in omega (arith, there, r)) is.1
    low Relax is = (let five : length (codes "relax") ≡ 5 = refl in omega (arith, five))

-- an event has its own line
same_event : (plan : Plan) (one other : Event) → IsValid plan → IsEventOf plan one → IsEventOf plan other → event_line one ≡ event_line other → one ≡ other
same_event plan one other valid of of_other same = one_event plan one other valid of of_other (ap (λ (l : List ℕ). l ++ codes "\n") same)

-- The end of a reading --

-- a line that is an event's is one of no other kind
not_none : (plan : Plan) (number : ℕ) (line : List ℕ) (end : TraceEnd) (event : Event) → IsValid plan → IsEventOf plan event → line ≡ event_line event → IsNoEvent plan number line end → ⊥
not_none plan number line end event valid of is none = elim none.bad [
  | inl other ↦ other.1 event (of, is)
  | inr long ↦ short_event plan event valid of (subst (λ (l : List ℕ). longest_line < length l) is long)
]

end_not_none : (plan : Plan) (number : ℕ) (line : List ℕ) (end : TraceEnd) → line ≡ codes "end" → IsNoEvent plan number line end → ⊥
end_not_none plan number line end is none = elim none.bad [
  | inl other ↦ other.0 is
  | inr long ↦ (let few : length line ≡ 3 = ap (λ (l : List ℕ). length l) is in absurd (omega (arith, few, long)))
]

ends_one : (number : ℕ) (more : List (List ℕ)) (end twin : TraceEnd) → EndsAt number more end → EndsAt number more twin → end ≡ twin
ends_one number [] end twin h k = h ∙ sym k
ends_one number (line ∷ more) end twin h k = h ∙ sym k

last_one : {laws : Laws} (net other : NetView) (number : ℕ) (line : List ℕ) (more : List (List ℕ)) (end twin : TraceEnd) → StandsForSome laws net → IsRunning net → StandsForSome laws other → IsRunning other → AreAlike net other
    → IsLastLine laws net number line more end → IsLastLine laws other number line more twin → end ≡ twin
last_one {laws} net other number line more end twin some running some_too running_too alike h k = by_ends h.ends k.ends
  where
    by_ends : (MayGoOn laws net × (end ≡ Refused number NotAtRest)) ⊎ (IsAtRest laws net × EndsAt number more end) → (MayGoOn laws other × (twin ≡ Refused number NotAtRest)) ⊎ (IsAtRest laws other × EndsAt number more twin) → end ≡ twin
    by_ends (inl (goes, is)) (inl (goes_too, is_too)) = is ∙ sym is_too
    by_ends (inl (goes, is)) (inr (rests, ends)) = absurd (rests_or_goes other net some_too running_too (alike_back net other alike) rests goes)
    by_ends (inr (rests, ends)) (inl (goes, is)) = absurd (rests_or_goes net other some running alike rests goes)
    by_ends (inr (rests, ends)) (inr (rests_too, ends_too)) = ends_one number more end twin ends ends_too

stops_one : {laws : Laws} (plan : Plan) (net other : NetView) (number : ℕ) (tail : List (List ℕ)) (end twin : TraceEnd) → IsValid plan → StandsForSome laws net → IsRunning net → StandsForSome laws other → IsRunning other → AreAlike net other
    → StopsAt laws plan net number tail end → StopsAt laws plan other number tail twin → end ≡ twin
stops_one {laws} plan net other number [] end twin valid some running some_too running_too alike h k = h ∙ sym k
stops_one {laws} plan net other number (line ∷ more) end twin valid some running some_too running_too alike (inl none) (inl none_too) = none.is ∙ sym none_too.is
stops_one {laws} plan net other number (line ∷ more) end twin valid some running some_too running_too alike (inl none) (inr (inl idle)) = absurd (not_none plan number line end idle.event valid idle.is_event idle.line_is none)
stops_one {laws} plan net other number (line ∷ more) end twin valid some running some_too running_too alike (inl none) (inr (inr last)) = absurd (end_not_none plan number line end last.line_is none)
stops_one {laws} plan net other number (line ∷ more) end twin valid some running some_too running_too alike (inr (inl idle)) (inl none) = absurd (not_none plan number line twin idle.event valid idle.is_event idle.line_is none)
stops_one {laws} plan net other number (line ∷ more) end twin valid some running some_too running_too alike (inr (inl idle)) (inr (inl idle_too)) = idle.is ∙ sym idle_too.is
stops_one {laws} plan net other number (line ∷ more) end twin valid some running some_too running_too alike (inr (inl idle)) (inr (inr last)) = absurd (not_end idle.event (sym last.line_is ∙ idle.line_is))
stops_one {laws} plan net other number (line ∷ more) end twin valid some running some_too running_too alike (inr (inr last)) (inl none) = absurd (end_not_none plan number line twin last.line_is none)
stops_one {laws} plan net other number (line ∷ more) end twin valid some running some_too running_too alike (inr (inr last)) (inr (inl idle)) = absurd (not_end idle.event (sym last.line_is ∙ idle.line_is))
stops_one {laws} plan net other number (line ∷ more) end twin valid some running some_too running_too alike (inr (inr last)) (inr (inr last_too)) =
    last_one net other number line more end twin some running some_too running_too alike last last_too

-- a reading doesn't stop at the line of an event that does something
goes_by : {laws : Laws} (plan : Plan) (net other there : NetView) (number : ℕ) (event : Event) (more : List (List ℕ)) (end : TraceEnd) → IsValid plan → StandsForSome laws other → IsRunning other → AreAlike other net → IsEventOf plan event → nets.IsEventOf other event
    → nets.Acts laws event Did other there → StopsAt laws plan net number (event_line event ∷ more) end → ⊥
goes_by {laws} plan net other there number event more end valid some running alike of is acts (inl none) = not_none plan number (event_line event) end event valid of refl none
goes_by {laws} plan net other there number event more end valid some running alike of is acts (inr (inl idle)) =
    let same : idle.event ≡ event = same_event plan idle.event event valid idle.is_event of (sym idle.line_is) in
    did_not_idle event other there net net some running is alike acts (subst (λ (e : Event). nets.Acts laws e Idle net net) same idle.idle)
goes_by {laws} plan net other there number event more end valid some running alike of is acts (inr (inr last)) = not_end event (sym last.line_is)

-- the events of two readings of the same lines
events_one : {laws : Laws} (plan : Plan) (count : ℕ) (events others : List Event) (net now other also : NetView) (tail more : List (List ℕ)) (end twin : TraceEnd) → IsValid plan → StandsForSome laws net → IsRunning net → StandsForSome laws other → IsRunning other → AreAlike net other
    → AreEventsOf plan events → AreEventsOf plan others → IsRun laws events net now → IsRun laws others other also → map event_line events ++ tail ≡ map event_line others ++ more
    → StopsAt laws plan now (count + length events) tail end → StopsAt laws plan also (count + length others) more twin → end ≡ twin
events_one {laws} plan count [] [] net now other also tail more end twin valid some running some_too running_too alike are are_too run run_too same h k =
    stops_one plan net other (count + 0) more end twin valid some running some_too running_too alike
    (subst (λ (ls : List (List ℕ)). StopsAt laws plan net (count + 0) ls end) same (subst (λ (v : NetView). StopsAt laws plan v (count + 0) tail end) run h)) (subst (λ (v : NetView). StopsAt laws plan v (count + 0) more twin) run_too k)
events_one {laws} plan count [] (event ∷ others) net now other also tail more end twin valid some running some_too running_too alike are are_too run (next, of, acts, run_too) same h k =
    absurd (goes_by plan net other next (count + 0) event (map event_line others ++ more) end valid some_too running_too (alike_back net other alike) are_too.0 of acts
    (subst (λ (ls : List (List ℕ)). StopsAt laws plan net (count + 0) ls end) same (subst (λ (v : NetView). StopsAt laws plan v (count + 0) tail end) run h)))
events_one {laws} plan count (event ∷ events) [] net now other also tail more end twin valid some running some_too running_too alike are are_too (next, of, acts, run) run_too same h k =
    absurd (goes_by plan other net next (count + 0) event (map event_line events ++ tail) twin valid some running alike are.0 of acts
    (subst (λ (ls : List (List ℕ)). StopsAt laws plan other (count + 0) ls twin) (sym same) (subst (λ (v : NetView). StopsAt laws plan v (count + 0) more twin) run_too k)))
events_one {laws} plan count (event ∷ events) (twin_event ∷ others) net now other also tail more end twin valid some running some_too running_too alike are are_too (next, of, acts, run) (next_too, of_too, acts_too, run_too) same h k =
    let line : event_line event ≡ event_line twin_event = cc in
    let rest : map event_line events ++ tail ≡ map event_line others ++ more = cc in
    let first : event ≡ twin_event = same_event plan event twin_event valid are.0 are_too.0 line in
    let there = did_alike event net next other next_too some running of alike acts (subst (λ (e : Event). nets.Acts laws e Did other next_too) (sym first) acts_too) in
    events_one plan (count + 1) events others next now next_too also tail more end twin valid
    (record { job = some.job; stands = acts_stand some.job event Did net next of running some.stands acts }) (acts_run laws event Did net next running acts)
    (record { job = some_too.job; stands = acts_stand some_too.job twin_event Did other next_too of_too running_too some_too.stands acts_too }) (acts_run laws twin_event Did other next_too running_too acts_too)
    there are.1 are_too.1 run run_too rest
    (subst (λ (n : ℕ). StopsAt laws plan now n tail end) (let e : count + suc (length events) ≡ count + 1 + length events = omega arith in e) h)
    (subst (λ (n : ℕ). StopsAt laws plan also n more twin) (let e : count + suc (length others) ≡ count + 1 + length others = omega arith in e) k)

-- All lines --

heads_same : (x y : List ℕ) (xs ys : List (List ℕ)) → x ∷ xs ≡ y ∷ ys → (x ≡ y) × (xs ≡ ys)
heads_same x y xs ys same = (let first : x ≡ y = cc in let rest : xs ≡ ys = cc in (first, rest))

-- lines come to one job and one end
pub record ComeToOne (job other : Option Inputs) (end twin : TraceEnd) : Type 0 where
  pub jobs : job ≡ other
  pub ends : end ≡ twin

same_word : (a b : Bool) → end_word a ≡ end_word b → a ≡ b
same_word true true same = refl
same_word true false same = (let head : 101 ≡ 102 = ap (λ (l : List ℕ). get_or l 0 0) same in absurd (omega (arith, head)))
same_word false true same = (let head : 102 ≡ 101 = ap (λ (l : List ℕ). get_or l 0 0) same in absurd (omega (arith, head)))
same_word false false same = refl

-- the number of the line at which a reading stops
stop_number : {laws : Laws} (plan : Plan) (boxes : List BoxTold) (lines : List (List ℕ)) (inputs : Inputs) (end : TraceEnd) (s : StopsAfterJob laws plan boxes lines inputs end) → length s.front + 1 ≡ length s.has_run.given + 2 + length s.has_run.events
stop_number {laws} plan boxes lines inputs end s =
    let r = s.has_run in
    let all = ap (λ (ls : List (List ℕ)). length ls) r.lines_are ∙ length-append r.given (end_word inputs.ended ∷ map event_line r.events) in
    let many : length (map event_line r.events) ≡ length r.events = length-map r.events event_line in
    omega (arith, all, many)

-- the plan of a net that was begun is valid
valid_plan : (laws : Laws) (plan : Plan) (inputs : Inputs) (boxes : List BoxTold) (net : NetView) → StandsFor (job_of laws plan inputs boxes) net → IsValid plan
unfolding StandsFor
valid_plan laws plan inputs boxes net stands = stands.is_job.plan

jobs_one : {laws : Laws} (plan : Plan) (boxes : List BoxTold) (lines : List (List ℕ)) (inputs others : Inputs) (end twin : TraceEnd) → StopsAfterJob laws plan boxes lines inputs end → StopsAfterJob laws plan boxes lines others twin → ComeToOne (Some inputs) (Some others) end twin
jobs_one {laws} plan boxes lines inputs others end twin s t =
    let r = s.has_run in
    let q = t.has_run in
    let rest = map event_line r.events ++ s.tail in
    let rest_too = map event_line q.events ++ t.tail in
    let same = given_one (inputs_of plan) [] r.given q.given (end_word inputs.ended ∷ rest) (end_word others.ended ∷ rest_too) r.packets q.packets
    (sym (job_lines_are plan boxes lines inputs end s) ∙ job_lines_are plan boxes lines others twin t)
    (word_stops (inputs_of plan) r.given rest inputs.ended) (word_stops (inputs_of plan) q.given rest_too others.ended) in
    let both = heads_same (end_word inputs.ended) (end_word others.ended) rest rest_too same.1 in
    let ended : inputs.ended ≡ others.ended = same_word inputs.ended others.ended both.0 in
    let jobs : inputs ≡ others = r.inputs_are ∙ ap₂ (λ (ls : List (List ℕ)) (b : Bool). inputs_with plan ls b) same.0 ended ∙ sym q.inputs_are in
    let count : length r.given ≡ length q.given = ap (λ (ls : List (List ℕ)). length ls) same.0 in
    let begins : IsBegun laws plan others boxes r.begun = subst (λ (i : Inputs). IsBegun laws plan i boxes r.begun) jobs r.begins in
    record {
      jobs = ap Some jobs;
      ends = events_one plan (length q.given + 2) r.events q.events r.begun s.net q.begun t.net s.tail t.tail end twin (valid_plan laws plan others boxes q.begun q.begins.stands)
          (record { job = job_of laws plan others boxes; stands = begins.stands }) begins.running (record { job = job_of laws plan others boxes; stands = q.begins.stands }) q.begins.running
          (begun_alike plan others boxes r.begun q.begun begins q.begins) r.are_events q.are_events r.run q.run both.1
          (subst (λ (n : ℕ). StopsAt laws plan s.net n s.tail end) (stop_number plan boxes lines inputs end s ∙ ap (λ (n : ℕ). n + 2 + length r.events) count) s.stops)
          (subst (λ (n : ℕ). StopsAt laws plan t.net n t.tail twin) (stop_number plan boxes lines others twin t) t.stops);
    }

pub lines_come_to_one : (laws : Laws) (plan : Plan) (boxes : List BoxTold) (lines : List (List ℕ)) (job other : Option Inputs) (end twin : TraceEnd) → LinesComeTo laws plan boxes lines job end → LinesComeTo laws plan boxes lines other twin → ComeToOne job other end twin
lines_come_to_one laws plan boxes lines None None end twin h k = record { jobs = refl; ends = early_one plan lines end twin h k }
lines_come_to_one laws plan boxes lines None (Some inputs) end twin h k = early_or_job plan boxes lines inputs end twin h k
lines_come_to_one laws plan boxes lines (Some inputs) None end twin h k = early_or_job plan boxes lines inputs twin end k h
lines_come_to_one laws plan boxes lines (Some inputs) (Some others) end twin h k = jobs_one plan boxes lines inputs others end twin h k

-- Bytes --

-- a source that tells its bytes was read, and no read failed: the lines of all its bytes come to what the reading came to
all_came : {laws : Laws} (plan : Plan) (boxes : List BoxTold) (input : Device SourceTold) (job : Option Inputs) (end : TraceEnd) (bytes : List ℕ) → WasRead laws plan boxes input job end → input.before.left ≡ Some bytes → Unrisen input.before.faults input.now.faults
    → LinesComeTo laws plan boxes (all_lines bytes) job end
all_came {laws} plan boxes input job end bytes r left unrisen = by_end end r.by r.faults
  where
    gave : Gave (Some bytes) input.now.left r.came
    gave = subst (λ (o : Option (List ℕ)). Gave o input.now.left r.came) left r.gave

    over : EndCame input.before input.now → gave.0 ≡ []
    over came = same_Some gave.0 [] (sym gave.1 ∙ subst (λ (o : Option (List ℕ)). IfSome o (λ b. input.now.left ≡ Some [])) left came.none)

    met_over : (ended : Bool) → MetEnd false ended input.before input.now → ended ≡ true → gave.0 ≡ []
    met_over true met is = over met
    met_over false met is = absurd cc

    by_end : (e : TraceEnd) → CameAs laws e plan boxes input r.came job → FailsAs e input.before input.now → LinesComeTo laws plan boxes (all_lines bytes) job e
    by_end Accepted by fails =
        subst (λ (b : List ℕ). LinesComeTo laws plan boxes (all_lines b) job Accepted) (sym (gave.2 ∙ ap (λ (rest : List ℕ). r.came ++ rest) (over by.0) ∙ append-nil r.came)) by.1
    by_end (Refused line cause) by fails = subst (λ (b : List ℕ). LinesComeTo laws plan boxes (all_lines b) job (Refused line cause)) (sym gave.2) (by.2 gave.0 (met_over by.0 by.1))
    by_end (Failed lines) by fails = absurd (one-unrisen input.before.faults input.now.faults fails.once unrisen)

-- two readings of the same bytes come to one job and one end
pub was_read_one : {laws : Laws} (plan : Plan) (boxes : List BoxTold) (input twin_input : Device SourceTold) (job other : Option Inputs) (end twin : TraceEnd) (bytes : List ℕ) → WasRead laws plan boxes input job end → WasRead laws plan boxes twin_input other twin
    → input.before.left ≡ Some bytes → twin_input.before.left ≡ Some bytes → Unrisen input.before.faults input.now.faults → Unrisen twin_input.before.faults twin_input.now.faults → ComeToOne job other end twin
was_read_one {laws} plan boxes input twin_input job other end twin bytes r s left left_too unrisen unrisen_too =
    lines_come_to_one laws plan boxes (all_lines bytes) job other end twin (all_came plan boxes input job end bytes r left unrisen) (all_came plan boxes twin_input other twin bytes s left_too unrisen_too)

-- Answers --

frozen_one : (report : Reporting) (job : Job) (answer other : RunAnswer) → IsFrozenAnswer (by_lines report) job answer → IsFrozenAnswer (by_lines report) job other → answer ≡ other
frozen_one report job answer other a b = a.is ∙ ap (frozen_answer (by_lines report) job) (one_solution job a.streams b.streams a.solution b.solution) ∙ sym b.is

job_answer_one : (ended : Bool) (report : Reporting) (job : Job) (answer other : RunAnswer) → AnswersJob ended report job answer → AnswersJob ended report job other → answer ≡ other
job_answer_one true report job answer other a b = one-of (by_lines report) job Ended answer other a b
job_answer_one false report job answer other a b = frozen_one report job answer other a b

end_answer_one : (laws : Laws) (end : TraceEnd) (report : Reporting) (plan : Plan) (job : Option Inputs) (answer other : RunAnswer) → AnswersEnd laws end report plan job answer → AnswersEnd laws end report plan job other → answer ≡ other
end_answer_one laws Accepted report plan None answer other a b = absurd a
end_answer_one laws Accepted report plan (Some inputs) answer other a b = job_answer_one inputs.ended report (job_over laws plan inputs) answer other a b
end_answer_one laws (Refused line cause) report plan job answer other a b = a ∙ sym b
end_answer_one laws (Failed lines) report plan job answer other a b = a ∙ sym b

pub trace_answer_one : (laws : Laws) (report : Reporting) (plan : Plan) (boxes : List BoxTold) (lines : List (List ℕ)) (answer other : RunAnswer) → AnswersTrace laws report plan boxes lines answer → AnswersTrace laws report plan boxes lines other → answer ≡ other
trace_answer_one laws report plan boxes lines answer other a b =
    let one = lines_come_to_one laws plan boxes lines a.job b.job a.end b.end a.comes b.comes in
    end_answer_one laws b.end report plan b.job answer other
    (subst (λ (j : Option Inputs). AnswersEnd laws b.end report plan j answer) one.jobs (subst (λ (e : TraceEnd). AnswersEnd laws e report plan a.job answer) one.ends a.answers)) b.answers
