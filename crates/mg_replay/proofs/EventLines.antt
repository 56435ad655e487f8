-- The lines of events as they are read and made.
use Rattle.std.proofs.Common.{◌≡◌, ◌≢◌, ◌⊎◌, ◌↔◌, inl, inr, ℕ, ◌+◌, ◌<◌, Bool, true, false, List, [], ◌∷◌, ◌++◌, length, map, codes, Option, None, Some, refl, sym, ap, ◌∙◌, subst, arith, append_assoc, append-nil}
use Rattle.std.specs.Str.{bytes_eq}
use Rattle.std.proofs.lemmas.Slice.Eq.{bytes_eq-Decides}
use Rattle.std.proofs.lemmas.List.{map-append}
use Rattle.mg_edge.specs.Edge.{SourceTold}
use Rattle.mg_edge.specs.Runs.{Gave}
use Rattle.mg_calc.specs.Rules.{Laws}
use Rattle.mg_calc.specs.declared.event.Event.{Event}
use Rattle.mg_calc.specs.declared.event.Event.TheVariants.{Deliver, Advance, Claim, Perform, Commit, Relax}
use Rattle.mg_calc.specs.declared.event.Effect.TheVariants.{Did}
use Rattle.mg_calc.specs.declared.inputs.Inputs.{Inputs}
use Rattle.mg_calc.specs.declared.plan.Plan.{Plan}
use Rattle.mg_calc.specs.Told.{BoxTold}
use Rattle.mg_feed.specs.Lines.{all_lines, unended_line}
use Rattle.mg_feed.specs.Fed.{Reading}
use Rattle.mg_feed.specs.Ran.{MetEnd}
use Rattle.mg_feed.specs.Accepted.{longest_line}
use Rattle.mg_feed.specs.Handed.{ComesAs, NextComes, MovesOn, counted_with}
use Rattle.mg_feed.specs.declared.lines.NextLine.{NextLine}
use Rattle.mg_feed.specs.declared.lines.NextLine.TheVariants.{Line, TooLong, Ended, Failed}
use Rattle.mg_feed.proofs.Coming.{lines-by}
use Rattle.mg_feed.proofs.LinesOut.{moves-same}
use Rattle.mg_feed.proofs.Moving.{met-then, gave-then}
use Rattle.mg_trace.specs.Event.{event_line, IsEventOf}
use Rattle.mg_trace.specs.Job.{end_word}
use Rattle.mg_sched.specs.Views.{NetView}
use Rattle.mg_sched.specs.Acts.{Acts}
use Rattle.mg_sched.specs.Acts as nets
use Rattle.mg_sched.specs.AtRest.{IsAtRest, MayGoOn}
use Rattle.mg_sched.specs.StandsFor.{StandsForSome, IsRunning}
use Rattle.mg_sched.specs.Code.Left.{left_in}
use Rattle.mg_sched.proofs.LeftIn.{acts_less}
use Rattle.mg_sched.proofs.RunsOn.{run_one, run_on}
use Rattle.mg_answer.specs.Devices.{device}
use Rattle.mg_replay.specs.Replay.{AreEventsOf, LinesLedTo, StopsAfterJob, IsIdleEvent, EndsAt, WasRead}
use Rattle.mg_replay.specs.Reading.{BeginsWithJob, IsReading, IsMaking}
use Rattle.mg_replay.specs.Code.Reading.{ComesBehind, MakesOn, MakesEvent, MakesLine, TakesEvent, StopsBy, StopsBehind, EndsRun}
use Rattle.mg_replay.specs.declared.trace_end.TraceFault.{TraceFault}
use Rattle.mg_replay.specs.declared.trace_end.TraceFault.TheVariants.{BadEvent, IdleEvent, NotAtRest, NoEnd, AfterEnd}
use Rattle.mg_replay.specs.declared.trace_end.TraceEnd.{TraceEnd}
use Rattle.mg_replay.specs.declared.trace_end.TraceEnd.TheVariants.{Accepted, Refused, Failed as Failed_at}
use Rattle.mg_replay.proofs.WholeLines.{whole_then}
use Rattle.mg_replay.proofs.JobLines.{reading_line, came_behind, lines_then, line_comes, one_more}

-- The lines of the job were read --

-- they stand before all other lines
module _ {laws : Laws} (plan : Plan) (boxes : List BoxTold) (inputs : Inputs) (lines : List (List ℕ)) (net : NetView) (run : LinesLedTo laws plan boxes lines inputs net) where
  opens_with : (all rest : List (List ℕ)) → all ≡ lines ++ rest → (more : List (List ℕ)) × (all ≡ run.given ++ end_word inputs.ended ∷ more)
  opens_with all rest is = (map event_line run.events ++ rest, is ∙ ap (λ (l : List (List ℕ)). l ++ rest) run.lines_are ∙ append_assoc run.given (end_word inputs.ended ∷ map event_line run.events) rest)

  opened_with : (came : List ℕ) (ended : Bool) (first now : SourceTold) → Gave first.left now.left came → MetEnd false ended first now
      → ((more : List ℕ) → (ended ≡ true → more ≡ []) → (rest : List (List ℕ)) × (all_lines (came ++ more) ≡ lines ++ rest)) → BeginsWithJob plan (device first now) inputs
  opened_with came ended first now gave met all = record {
    came = came;
    gave = gave;
    ended = ended;
    met = met;
    given = run.given;
    packets = run.packets;
    inputs_are = run.inputs_are;
    opens = λ more fits. (let a = all more fits in opens_with (all_lines (came ++ more)) a.0 a.1);
  }

-- nothing was handed out meanwhile
pub behind_moves : (before now : SourceTold) (old new : Reading) → MovesOn before now old new → ComesBehind before now old new
behind_moves before now old new moves = record {
  came = moves.came;
  gave = moves.gave;
  met = moves.met;
  in_front = λ past lines handed more fits. (all_lines (new.kept ++ more), lines-by new.ended (past ++ moves.came) lines new.kept more (moves.grows past lines handed) fits);
}

pub behind_itself : (told : SourceTold) (read : Reading) → ComesBehind told told read read
behind_itself told read = behind_moves told told read read (moves-same told read)

-- a further line was asked for
module _ (line : List ℕ) (lines : List (List ℕ)) (new : Reading) where
  in_front_of : (next : NextLine) (came : List ℕ) → ComesAs longest_line next line came lines new → (more : List ℕ) → (new.ended ≡ true → more ≡ []) → (rest : List (List ℕ)) × (all_lines (came ++ more) ≡ lines ++ rest)
  in_front_of Line came comes more fits = (
    line ∷ all_lines (new.kept ++ more),
    lines-by new.ended came (lines ++ line ∷ []) new.kept more comes.0 fits ∙ append_assoc lines (line ∷ []) (all_lines (new.kept ++ more)),
  )
  in_front_of TooLong came comes more fits = (let c = comes more fits in (c.0 ∷ c.1, c.2))
  in_front_of Ended came comes more fits = ([], ap (λ (l : List ℕ). all_lines (came ++ l)) (fits comes.0) ∙ ap all_lines (append-nil came) ∙ sym comes.1 ∙ sym (append-nil lines))
  in_front_of Failed came comes more fits = (all_lines (unended_line came ++ more), whole_then came more ∙ ap (λ (l : List (List ℕ)). l ++ all_lines (unended_line came ++ more)) (sym comes))

pub behind_next : (next : NextLine) (line : List ℕ) (before now : SourceTold) (old new : Reading) → NextComes longest_line next line before now old new → ComesBehind before now old new
behind_next next line before now old new n = record {
  came = n.came;
  gave = n.gave;
  met = n.met;
  in_front = λ past lines handed more fits. in_front_of line lines new next (past ++ n.came) (n.comes past lines handed) more fits;
}

pub opened_by : {laws : Laws} (plan : Plan) (boxes : List BoxTold) (inputs : Inputs) (first now later : SourceTold) (read new : Reading) (number : ℕ) (net : NetView) → IsMaking laws plan boxes inputs first now read number net → ComesBehind now later read new
    → BeginsWithJob plan (device first later) inputs
opened_by {laws} plan boxes inputs first now later read new number net m b =
    opened_with plan boxes inputs m.lines net m.has_run (m.reading.came ++ b.came) new.ended first later
    (gave-then first.left now.left later.left m.reading.came b.came m.reading.gave b.gave) (met-then false read.ended new.ended first now later m.reading.came m.reading.gave m.reading.met b.met)
    (λ more fits. b.in_front m.reading.came m.lines m.reading.handed more fits)

-- after one more line, whatever it is
pub opened_behind : {laws : Laws} (line : List ℕ) (plan : Plan) (boxes : List BoxTold) (inputs : Inputs) (first before now later : SourceTold) (old read new : Reading) (number : ℕ) (net : NetView) → IsMaking laws plan boxes inputs first before old number net
    → NextComes longest_line Line line before now old read → ComesBehind now later read new → BeginsWithJob plan (device first later) inputs
opened_behind {laws} line plan boxes inputs first before now later old read new number net m n b =
    let r = reading_line line first before now old read number (number + 1) m.lines m.reading n refl in
    opened_with plan boxes inputs m.lines net m.has_run (r.came ++ b.came) new.ended first later
    (gave-then first.left now.left later.left r.came b.came r.gave b.gave) (met-then false read.ended new.ended first now later r.came r.gave r.met b.met)
    (λ more fits. (let all = b.in_front r.came (m.lines ++ line ∷ []) r.handed more fits in (line ∷ all.0, all.1 ∙ append_assoc m.lines (line ∷ []) all.0)))

-- What comes after the lines of a run --

place_of : (number count : ℕ) (cause : TraceFault) → number ≡ count → Refused (number + 1) cause ≡ Refused (count + 1) cause
place_of number count cause same = ap (λ (k : ℕ). Refused (k + 1) cause) same

-- no further line is handed out
pub stops_later : {laws : Laws} (next : NextLine) (line : List ℕ) (plan : Plan) (boxes : List BoxTold) (inputs : Inputs) (end : TraceEnd) (first before now : SourceTold) (old new : Reading) (number : ℕ) (net : NetView) → IsMaking laws plan boxes inputs first before old number net
    → NextComes longest_line next line before now old new → StopsBy next number (Some end) → WasRead laws plan boxes (device first now) (Some inputs) end
stops_later {laws} Line line plan boxes inputs end first before now old new number net m n is = absurd cc
stops_later {laws} TooLong line plan boxes inputs end first before now old new number net m n is =
    let c = came_behind TooLong line first before now old new number m.lines m.reading n in
    let end_is : end ≡ Refused (length m.lines + 1) BadEvent = (let same : end ≡ Refused (number + 1) BadEvent = cc in same ∙ place_of number (length m.lines) BadEvent m.reading.counted) in
    subst (WasRead laws plan boxes (device first now) (Some inputs)) (sym end_is) (record {
      came = c.came;
      gave = c.gave;
      by = (
        new.ended,
        c.met,
        λ more fits.
            let it = c.comes more fits in
            record {
              front = m.lines;
              tail = it.0 ∷ it.1;
              net = net;
              has_run = m.has_run;
              lines_are = it.2;
              stops = inl (record { bad = inr it.3; is = refl });
            },
      );
      faults = c.reads;
    })
stops_later {laws} Ended line plan boxes inputs end first before now old new number net m n is =
    let c = came_behind Ended line first before now old new number m.lines m.reading n in
    let end_is : end ≡ Refused (length m.lines + 1) NoEnd = (let same : end ≡ Refused (number + 1) NoEnd = cc in same ∙ place_of number (length m.lines) NoEnd m.reading.counted) in
    subst (WasRead laws plan boxes (device first now) (Some inputs)) (sym end_is) (record {
      came = c.came;
      gave = c.gave;
      by = (
        true,
        subst (λ (b : Bool). MetEnd false b first now) c.comes.0 c.met,
        λ more fits.
            record {
              front = m.lines;
              tail = [];
              net = net;
              has_run = m.has_run;
              lines_are = ap (λ (l : List ℕ). all_lines (c.came ++ l)) (fits refl) ∙ ap all_lines (append-nil c.came) ∙ sym c.comes.1 ∙ sym (append-nil m.lines);
              stops = refl;
            },
      );
      faults = c.reads;
    })
stops_later {laws} Failed line plan boxes inputs end first before now old new number net m n is =
    let c = came_behind Failed line first before now old new number m.lines m.reading n in
    let end_is : end ≡ Failed_at number = cc in
    subst (WasRead laws plan boxes (device first now) (Some inputs)) (sym end_is) (record {
      came = c.came;
      gave = c.gave;
      by = (m.reading.counted ∙ ap length c.comes, record { front = m.lines; net = net; has_run = m.has_run; lines_are = inl (sym c.comes) });
      faults = c.reads;
    })

-- A line is that of an event --

pub net_event : (event : Event) (plan : Plan) (net : NetView) → net.plan ≡ plan → IsEventOf plan event → nets.IsEventOf net event
net_event (Deliver edge) plan net same of = subst (λ (p : Plan). edge < length p.edges) (sym same) of
net_event (Advance node) plan net same of = subst (λ (p : Plan). node < length p.nodes) (sym same) of
net_event (Claim node) plan net same of = subst (λ (p : Plan). node < length p.nodes) (sym same) of
net_event (Perform node number) plan net same of = subst (λ (p : Plan). node < length p.nodes) (sym same) of.0
net_event (Commit node number) plan net same of = subst (λ (p : Plan). node < length p.nodes) (sym same) of.0
net_event Relax plan net same of = tt

events_more : (plan : Plan) (events : List Event) (event : Event) → AreEventsOf plan events → IsEventOf plan event → AreEventsOf plan (events ++ event ∷ [])
events_more plan [] event are of = (of, tt)
events_more plan (e ∷ events) event are of = (are.0, events_more plan events event are.1 of)

-- it was made
pub run_more : {laws : Laws} (event : Event) (line : List ℕ) (plan : Plan) (boxes : List BoxTold) (lines : List (List ℕ)) (inputs : Inputs) (net now : NetView) → net.plan ≡ plan → LinesLedTo laws plan boxes lines inputs net → IsEventOf plan event → line ≡ event_line event
    → Acts laws event Did net now → LinesLedTo laws plan boxes (lines ++ line ∷ []) inputs now
run_more {laws} event line plan boxes lines inputs net now same h of is acts = record {
  given = h.given;
  packets = h.packets;
  inputs_are = h.inputs_are;
  begun = h.begun;
  begins = h.begins;
  events = h.events ++ event ∷ [];
  are_events = events_more plan h.events event h.are_events of;
  run = run_on laws h.events (event ∷ []) h.begun net now h.run (run_one laws event net now (net_event event plan net same of) acts);
  lines_are = ap (λ (l : List (List ℕ)). l ++ line ∷ []) h.lines_are ∙ append_assoc h.given (end_word inputs.ended ∷ map event_line h.events) (line ∷ [])
      ∙ ap (λ (l : List (List ℕ)). h.given ++ end_word inputs.ended ∷ l) (ap (λ (x : List ℕ). map event_line h.events ++ x ∷ []) is ∙ sym (map-append event_line h.events (event ∷ [])));
}

-- the line is refused
refused_line : {laws : Laws} (line : List ℕ) (plan : Plan) (boxes : List BoxTold) (inputs : Inputs) (end : TraceEnd) (first before now : SourceTold) (old new : Reading) (number count : ℕ) (net : NetView) → IsMaking laws plan boxes inputs first before old number net
    → NextComes longest_line Line line before now old new → count ≡ number + 1 → line ≢ codes "end"
    → (((event : Event) → ¬ (IsEventOf plan event × (line ≡ event_line event))) × (end ≡ Refused count BadEvent)) ⊎ IsIdleEvent laws plan net count line end → WasRead laws plan boxes (device first now) (Some inputs) end
refused_line {laws} line plan boxes inputs end first before now old new number count net m n is other (inl (none, end_is)) =
    let r = reading_line line first before now old new number count m.lines m.reading n is in
    let counted = m.reading.counted in
    let place : count ≡ length m.lines + 1 = omega (arith, counted, is) in
    subst (WasRead laws plan boxes (device first now) (Some inputs)) (sym (end_is ∙ ap (λ (k : ℕ). Refused k BadEvent) place)) (record {
      came = r.came;
      gave = r.gave;
      by = (
        new.ended,
        r.met,
        λ more fits.
            record {
              front = m.lines;
              tail = line ∷ all_lines (new.kept ++ more);
              net = net;
              has_run = m.has_run;
              lines_are = lines_then first now new count (m.lines ++ line ∷ []) r more fits ∙ append_assoc m.lines (line ∷ []) (all_lines (new.kept ++ more));
              stops = inl (record { bad = inl (other, none); is = refl });
            },
      );
      faults = r.unfailed;
    })
refused_line {laws} line plan boxes inputs end first before now old new number count net m n is other (inr idle) =
    let r = reading_line line first before now old new number count m.lines m.reading n is in
    let counted = m.reading.counted in
    let place : count ≡ length m.lines + 1 = omega (arith, counted, is) in
    subst (WasRead laws plan boxes (device first now) (Some inputs)) (sym (idle.is ∙ ap (λ (k : ℕ). Refused k IdleEvent) place)) (record {
      came = r.came;
      gave = r.gave;
      by = (
        new.ended,
        r.met,
        λ more fits.
            record {
              front = m.lines;
              tail = line ∷ all_lines (new.kept ++ more);
              net = net;
              has_run = m.has_run;
              lines_are = lines_then first now new count (m.lines ++ line ∷ []) r more fits ∙ append_assoc m.lines (line ∷ []) (all_lines (new.kept ++ more));
              stops = inr (inl (record { event = idle.event; is_event = idle.is_event; line_is = idle.line_is; idle = idle.idle; is = refl }));
            },
      );
      faults = r.unfailed;
    })

pub makes_line : {laws : Laws} (stop : Option TraceEnd) (line : List ℕ) (plan : Plan) (boxes : List BoxTold) (inputs : Inputs) (first before now : SourceTold) (old new : Reading) (number count : ℕ) (net later : NetView) → net.plan ≡ plan
    → IsMaking laws plan boxes inputs first before old number net → NextComes longest_line Line line before now old new → count ≡ number + 1 → bytes_eq line (codes "end") ≡ false → MakesLine laws stop plan line count net later
    → MakesOn laws stop plan boxes inputs first now new count later
makes_line {laws} None line plan boxes inputs first before now old new number count net later same m n is other (event, of, line_is, acts) = record {
  lines = m.lines ++ line ∷ [];
  reading = reading_line line first before now old new number count m.lines m.reading n is;
  has_run = run_more event line plan boxes m.lines inputs net later same m.has_run of line_is acts;
}
makes_line {laws} (Some end) line plan boxes inputs first before now old new number count net later same m n is other makes =
    refused_line line plan boxes inputs end first before now old new number count net m n is (not_the_end line other) makes
  where
    not_the_end : (l : List ℕ) → bytes_eq l (codes "end") ≡ false → l ≢ codes "end"
    not_the_end l is_not same = absurd (let both : bytes_eq l (codes "end") ≡ true = (bytes_eq-Decides l (codes "end")).1 same in cc)

-- The last line --

-- if the net may go on
pub ends_early : {laws : Laws} (line : List ℕ) (plan : Plan) (boxes : List BoxTold) (inputs : Inputs) (first before now : SourceTold) (old new : Reading) (number count : ℕ) (net : NetView) → IsMaking laws plan boxes inputs first before old number net
    → NextComes longest_line Line line before now old new → count ≡ number + 1 → line ≡ codes "end" → MayGoOn laws net → WasRead laws plan boxes (device first now) (Some inputs) (Refused count NotAtRest)
ends_early {laws} line plan boxes inputs first before now old new number count net m n is line_is may =
    let r = reading_line line first before now old new number count m.lines m.reading n is in
    let counted = m.reading.counted in
    let place : count ≡ length m.lines + 1 = omega (arith, counted, is) in
    subst (λ (k : ℕ). WasRead laws plan boxes (device first now) (Some inputs) (Refused k NotAtRest)) (sym place) (record {
      came = r.came;
      gave = r.gave;
      by = (
        new.ended,
        r.met,
        λ more fits.
            record {
              front = m.lines;
              tail = line ∷ all_lines (new.kept ++ more);
              net = net;
              has_run = m.has_run;
              lines_are = lines_then first now new count (m.lines ++ line ∷ []) r more fits ∙ append_assoc m.lines (line ∷ []) (all_lines (new.kept ++ more));
              stops = inr (inr (record { line_is = line_is; ends = inl (may, refl) }));
            },
      );
      faults = r.unfailed;
    })

-- if it is at rest, by what comes next
module _ {laws : Laws} (line : List ℕ) (plan : Plan) (boxes : List BoxTold) (inputs : Inputs) (first before now later : SourceTold) (old read new : Reading) (number count : ℕ) (net : NetView) (m : IsMaking laws plan boxes inputs first before old number net)
    (n : NextComes longest_line Line line before now old read) (is : count ≡ number + 1) (line_is : line ≡ codes "end") (rests : IsAtRest laws net) where
  behind : (rest : List (List ℕ)) (all : List (List ℕ)) → all ≡ (m.lines ++ line ∷ []) ++ rest → (end : TraceEnd) → EndsAt (length m.lines + 1) rest end → StopsAfterJob laws plan boxes all inputs end
  behind rest all all_are end ends = record {
    front = m.lines;
    tail = line ∷ rest;
    net = net;
    has_run = m.has_run;
    lines_are = all_are ∙ append_assoc m.lines (line ∷ []) rest;
    stops = inr (inr (record { line_is = line_is; ends = inr (rests, ends) }));
  }

  place : count ≡ length m.lines + 1
  place = (let counted = m.reading.counted in omega (arith, counted, is))

  here : IsReading first now read count (m.lines ++ line ∷ [])
  here = reading_line line first before now old read number count m.lines m.reading n is

  after_end : (end : TraceEnd) → end ≡ Refused (count + 1) AfterEnd → end ≡ Refused (length m.lines + 1 + 1) AfterEnd
  after_end end same = same ∙ ap (λ (k : ℕ). Refused (k + 1) AfterEnd) place

  ended : (next : NextLine) (l : List ℕ) (end : TraceEnd) → NextComes longest_line next l now later read new → StopsBehind next count end → WasRead laws plan boxes (device first later) (Some inputs) end
  ended Line l end c stop =
      let r = reading_line l first now later read new count (count + 1) (m.lines ++ line ∷ []) here c refl in
      subst (WasRead laws plan boxes (device first later) (Some inputs)) (sym (after_end end stop)) (record {
        came = r.came;
        gave = r.gave;
        by = (
          new.ended,
          r.met,
          λ more fits.
              behind (l ∷ all_lines (new.kept ++ more)) (all_lines (r.came ++ more))
              (lines_then first later new (count + 1) ((m.lines ++ line ∷ []) ++ l ∷ []) r more fits ∙ append_assoc (m.lines ++ line ∷ []) (l ∷ []) (all_lines (new.kept ++ more)))
              (Refused (length m.lines + 1 + 1) AfterEnd) refl,
        );
        faults = r.unfailed;
      })
  ended TooLong l end c stop =
      let b = came_behind TooLong l first now later read new count (m.lines ++ line ∷ []) here c in
      subst (WasRead laws plan boxes (device first later) (Some inputs)) (sym (after_end end stop)) (record {
        came = b.came;
        gave = b.gave;
        by = (
          new.ended,
          b.met,
          λ more fits.
              (let it = b.comes more fits in behind (it.0 ∷ it.1) (all_lines (b.came ++ more)) it.2 (Refused (length m.lines + 1 + 1) AfterEnd) refl),
        );
        faults = b.reads;
      })
  ended Ended l end c stop =
      let b = came_behind Ended l first now later read new count (m.lines ++ line ∷ []) here c in
      subst (WasRead laws plan boxes (device first later) (Some inputs)) (sym stop) (record {
        came = b.came;
        gave = b.gave;
        by = (subst (λ (e : Bool). MetEnd false e first later) b.comes.0 b.met, behind [] (all_lines b.came) (sym b.comes.1 ∙ sym (append-nil (m.lines ++ line ∷ []))) Accepted refl);
        faults = b.reads;
      })
  ended Failed l end c stop =
      let b = came_behind Failed l first now later read new count (m.lines ++ line ∷ []) here c in
      subst (WasRead laws plan boxes (device first later) (Some inputs)) (sym stop) (record {
        came = b.came;
        gave = b.gave;
        by = (
          here.counted ∙ ap length b.comes,
          record {
            front = m.lines;
            net = net;
            has_run = m.has_run;
            lines_are = inr (sym b.comes ∙ ap (λ (l : List ℕ). m.lines ++ l ∷ []) line_is, rests);
          },
        );
        faults = b.reads;
      })

pub ends_run : {laws : Laws} (end : TraceEnd) (line : List ℕ) (plan : Plan) (boxes : List BoxTold) (inputs : Inputs) (first before now later : SourceTold) (old read new : Reading) (number count : ℕ) (net net_now : NetView)
    → IsMaking laws plan boxes inputs first before old number net → NextComes longest_line Line line before now old read → count ≡ number + 1 → line ≡ codes "end" → EndsRun laws end now later read new count net net_now
    → WasRead laws plan boxes (device first later) (Some inputs) end
ends_run {laws} end line plan boxes inputs first before now later old read new number count net net_now m n is line_is (inl (may, end_is, still, same)) =
    subst (WasRead laws plan boxes (device first later) (Some inputs)) (sym end_is)
    (subst (λ (t : SourceTold). WasRead laws plan boxes (device first t) (Some inputs) (Refused count NotAtRest)) (sym still) (ends_early line plan boxes inputs first before now old read number count net m n is line_is may))
ends_run {laws} end line plan boxes inputs first before now later old read new number count net net_now m n is line_is (inr (rests, same, (next, l, comes, stop))) =
    ended line plan boxes inputs first before now later old read new number count net m n is line_is rests next l end comes stop

-- What a line after a run does --

pub makes_by : (laws : Laws) (stop : Option TraceEnd) (event : Event) (plan : Plan) (line : List ℕ) (number : ℕ) (net now : NetView) → IsEventOf plan event → line ≡ event_line event → MakesEvent laws stop event number net now → MakesLine laws stop plan line number net now
makes_by laws None event plan line number net now of is makes = (event, of, is, makes)
makes_by laws (Some end) event plan line number net now of is makes = inr (record { event = event; is_event = of; line_is = is; idle = makes.0; is = makes.1 })

pub none_makes : (laws : Laws) (plan : Plan) (line : List ℕ) (number : ℕ) (net now : NetView) → ((event : Event) → (None ≡ Some event) ↔ (IsEventOf plan event × (line ≡ event_line event))) → MakesLine laws (Some (Refused number BadEvent)) plan line number net now
none_makes laws plan line number net now none = inl (λ event both. absurd (let is : None ≡ Some event = (none event).1 both in cc), refl)

pub takes_event : {laws : Laws} (stop : Option TraceEnd) (line : List ℕ) (plan : Plan) (boxes : List BoxTold) (inputs : Inputs) (first before now later : SourceTold) (old read new : Reading) (number count last : ℕ) (net net_now : NetView) → net.plan ≡ plan
    → IsMaking laws plan boxes inputs first before old number net → NextComes longest_line Line line before now old read → count ≡ number + 1 → TakesEvent laws stop plan line count now later read new last net net_now → MakesOn laws stop plan boxes inputs first later new last net_now
takes_event {laws} stop line plan boxes inputs first before now later old read new number count last net net_now same m n is (inl (line_is, (end, stop_is, ends))) =
    subst (λ (s : Option TraceEnd). MakesOn laws s plan boxes inputs first later new last net_now) (sym stop_is)
    (ends_run end line plan boxes inputs first before now later old read new number count net net_now m n is line_is ends)
takes_event {laws} stop line plan boxes inputs first before now later old read new number count last net net_now same m n is (inr (other, makes, still, kept, counted)) =
    subst (λ (t : SourceTold). MakesOn laws stop plan boxes inputs first t new last net_now) (sym still)
    (subst (λ (r : Reading). MakesOn laws stop plan boxes inputs first now r last net_now) (sym kept)
    (subst (λ (k : ℕ). MakesOn laws stop plan boxes inputs first now read k net_now) (sym counted)
    (makes_line stop line plan boxes inputs first before now old read number count net net_now same m n is other makes)))

-- an accepted run is at rest
rests_ended : {laws : Laws} (end : TraceEnd) (before now : SourceTold) (old new : Reading) (number : ℕ) (net net_now : NetView) → EndsRun laws end before now old new number net net_now → end ≡ Accepted → IsAtRest laws net_now
rests_ended {laws} end before now old new number net net_now (inl (may, end_is, still, same)) is = absurd (let clash : Refused number NotAtRest ≡ Accepted = sym end_is ∙ is in cc)
rests_ended {laws} end before now old new number net net_now (inr (rests, same, (next, l, comes, stop))) is = subst (IsAtRest laws) (sym same) rests

made_not : (laws : Laws) (stop : Option TraceEnd) (plan : Plan) (line : List ℕ) (number : ℕ) (net now : NetView) → MakesLine laws stop plan line number net now → stop ≡ Some Accepted → ⊥
made_not laws None plan line number net now makes is = cc
made_not laws (Some end) plan line number net now (inl (none, end_is)) is = (let clash : Some (Refused number BadEvent) ≡ Some Accepted = ap Some (sym end_is) ∙ is in cc)
made_not laws (Some end) plan line number net now (inr idle) is = (let clash : Some (Refused number IdleEvent) ≡ Some Accepted = ap Some (sym idle.is) ∙ is in cc)

pub rests_taken : {laws : Laws} (stop : Option TraceEnd) (plan : Plan) (line : List ℕ) (number : ℕ) (before now : SourceTold) (old new : Reading) (last : ℕ) (net net_now : NetView) → TakesEvent laws stop plan line number before now old new last net net_now → stop ≡ Some Accepted
    → IsAtRest laws net_now
rests_taken {laws} stop plan line number before now old new last net net_now (inl (line_is, (end, stop_is, ends))) is =
    rests_ended end before now old new number net net_now ends (some_same end Accepted (sym stop_is ∙ is))
  where
    some_same : (a b : TraceEnd) → Some a ≡ Some b → a ≡ b
    some_same a b same = cc
rests_taken {laws} stop plan line number before now old new last net net_now (inr (other, makes, still, kept, counted)) is = absurd (made_not laws stop plan line number net net_now makes is)

-- an event that is made leaves less to do
pub less_taken : {laws : Laws} (stop : Option TraceEnd) (plan : Plan) (line : List ℕ) (number : ℕ) (before now : SourceTold) (old new : Reading) (last : ℕ) (net net_now : NetView) → net.plan ≡ plan → IsRunning net → StandsForSome laws net
    → TakesEvent laws stop plan line number before now old new last net net_now → stop ≡ None → left_in net_now < left_in net
less_taken {laws} stop plan line number before now old new last net net_now same running some (inl (line_is, (end, stop_is, ends))) is = absurd (let clash : Some end ≡ None = sym stop_is ∙ is in cc)
less_taken {laws} stop plan line number before now old new last net net_now same running some (inr (other, makes, still, kept, counted)) is = by stop makes is
  where
    by : (s : Option TraceEnd) → MakesLine laws s plan line number net net_now → s ≡ None → left_in net_now < left_in net
    by None (event, of, line_is, acts) none = acts_less some.job event net net_now (net_event event plan net same of) running some.stands acts
    by (Some end) made none = absurd cc

-- Whatever comes next --

pub takes_next : {laws : Laws} (stop : Option TraceEnd) (next : NextLine) (plan : Plan) (boxes : List BoxTold) (inputs : Inputs) (first before now later : SourceTold) (line : List ℕ) (old read new : Reading) (number stopped count last : ℕ) (net net_now : NetView)
    → net.plan ≡ plan → IsMaking laws plan boxes inputs first before old number net → NextComes longest_line next line before now old read → count ≡ counted_with next number → StopsBy next stopped None
    → TakesEvent laws stop plan line count now later read new last net net_now → MakesOn laws stop plan boxes inputs first later new last net_now
takes_next {laws} stop next plan boxes inputs first before now later line old read new number stopped count last net net_now same m n counted is takes =
    takes_event stop line plan boxes inputs first before now later old read new number count last net net_now same m (line_comes next line before now old read stopped n is) (one_more next count number stopped counted is) takes

pub opened_next : {laws : Laws} (next : NextLine) (line : List ℕ) (plan : Plan) (boxes : List BoxTold) (inputs : Inputs) (first before now later : SourceTold) (old read new : Reading) (number stopped : ℕ) (net : NetView) → IsMaking laws plan boxes inputs first before old number net
    → NextComes longest_line next line before now old read → StopsBy next stopped None → ComesBehind now later read new → BeginsWithJob plan (device first later) inputs
opened_next {laws} next line plan boxes inputs first before now later old read new number stopped net m n is behind =
    opened_behind line plan boxes inputs first before now later old read new number net m (line_comes next line before now old read stopped n is) behind

-- if the reading stops because there is no line, no run is accepted
pub stops_not : (next : NextLine) (lines : ℕ) (stop : Option TraceEnd) → StopsBy next lines stop → stop ≡ Some Accepted → ⊥
stops_not Line lines stop is same = (let clash : None ≡ Some Accepted = sym is ∙ same in cc)
stops_not TooLong lines stop is same = (let clash : Some (Refused (lines + 1) BadEvent) ≡ Some Accepted = sym is ∙ same in cc)
stops_not Ended lines stop is same = (let clash : Some (Refused (lines + 1) NoEnd) ≡ Some Accepted = sym is ∙ same in cc)
stops_not Failed lines stop is same = (let clash : Some (Failed_at lines) ≡ Some Accepted = sym is ∙ same in cc)

-- a reading went on, or ended
pub making_on : {laws : Laws} (stop : Option TraceEnd) (plan : Plan) (boxes : List BoxTold) (inputs : Inputs) (first now : SourceTold) (read : Reading) (number : ℕ) (net : NetView) → MakesOn laws stop plan boxes inputs first now read number net → stop ≡ None
    → IsMaking laws plan boxes inputs first now read number net
making_on {laws} None plan boxes inputs first now read number net on is = on
making_on {laws} (Some end) plan boxes inputs first now read number net on is = absurd cc

pub making_ends : {laws : Laws} (stop : Option TraceEnd) (end : TraceEnd) (plan : Plan) (boxes : List BoxTold) (inputs : Inputs) (first now : SourceTold) (read : Reading) (number : ℕ) (net : NetView) → MakesOn laws stop plan boxes inputs first now read number net → stop ≡ Some end
    → WasRead laws plan boxes (device first now) (Some inputs) end
making_ends {laws} stop end plan boxes inputs first now read number net on is = subst (λ (s : Option TraceEnd). MakesOn laws s plan boxes inputs first now read number net) is on
