-- The lines of a job as they are read.
use Rattle.std.proofs.Common.{◌≡◌, ◌≢◌, ℕ, ◌+◌, Bool, true, false, List, [], ◌∷◌, ◌++◌, length, Option, None, Some, refl, sym, ap, ◌∙◌, subst, arith, append_assoc, append-nil, length-append}
use Rattle.mg_edge.specs.Edge.{SourceTold}
use Rattle.mg_edge.specs.Runs.{Gave}
use Rattle.mg_calc.specs.Rules.{Laws}
use Rattle.mg_calc.specs.declared.plan.Plan.{Plan}
use Rattle.mg_calc.specs.Told.{BoxTold}
use Rattle.mg_feed.specs.Graph.{GraphInputs, inputs_of}
use Rattle.mg_feed.specs.Lines.{all_lines}
use Rattle.mg_feed.specs.View.{View}
use Rattle.mg_feed.specs.Recorded.{HasRecorded}
use Rattle.mg_feed.specs.Fed.{Reading}
use Rattle.mg_feed.specs.Ran.{MetEnd, Unfailed}
use Rattle.mg_feed.specs.Handed.{EndsReads, ComesAs, NextComes, counted_with}
use Rattle.mg_feed.specs.declared.lines.NextLine.{NextLine}
use Rattle.mg_feed.specs.declared.lines.NextLine.TheVariants.{Line, TooLong, Ended, Failed}
use Rattle.mg_feed.proofs.Coming.{lines-by}
use Rattle.mg_feed.proofs.Moving.{met-then, gave-then, unfailed-then, failed-stop}
use Rattle.mg_answer.specs.Devices.{device}
use Rattle.mg_replay.specs.Opening.{packet_refusal, ArePackets}
use Rattle.mg_replay.specs.Replay.{WasRead}
use Rattle.mg_replay.specs.Reading.{IsReading, IsOpening, HasJob}
use Rattle.mg_replay.specs.Code.Reading.{StopsBy, TakesLine, OpensOn}
use Rattle.mg_replay.specs.declared.trace_end.TraceFault.{TraceFault}
use Rattle.mg_replay.specs.declared.trace_end.TraceFault.TheVariants.{NoEnd}
use Rattle.mg_replay.specs.declared.trace_end.TraceEnd.{TraceEnd}
use Rattle.mg_replay.specs.declared.trace_end.TraceEnd.TheVariants.{Refused, Failed as Failed_at}
use Rattle.mg_replay.specs.declared.opening.Opened.{Opened}
use Rattle.mg_replay.specs.declared.opening.Opened.TheVariants.{Job, Stopped}
use Rattle.mg_replay.proofs.PacketLines.{packets_push}

-- Any lines --

-- one more line was handed out
pub reading_line : {longest : ℕ} (line : List ℕ) (first before now : SourceTold) (old new : Reading) (number count : ℕ) (lines : List (List ℕ)) → IsReading first before old number lines → NextComes longest Line line before now old new → count ≡ number + 1
    → IsReading first now new count (lines ++ line ∷ [])
reading_line line first before now old new number count lines r n is = record {
  came = r.came ++ n.came;
  gave = gave-then first.left before.left now.left r.came n.came r.gave n.gave;
  met = met-then false old.ended new.ended first before now r.came r.gave r.met n.met;
  unfailed = unfailed-then first before now r.unfailed n.reads;
  handed = (n.comes r.came lines r.handed).0;
  counted = (let was = r.counted in let long = length-append lines (line ∷ []) in omega (arith, was, long, is));
}

-- what came, and what it says
pub record CameBehind (longest : ℕ) (answer : NextLine) (line : List ℕ) (first now : SourceTold) (read : Reading) (lines : List (List ℕ)) : Type 0 where
  pub came : List ℕ
  pub gave : Gave first.left now.left came
  pub met : MetEnd false read.ended first now
  pub reads : EndsReads answer first now
  pub comes : ComesAs longest answer line came lines read

reads_then : (answer : NextLine) (first before now : SourceTold) (came : List ℕ) → Gave first.left before.left came → Unfailed first before → EndsReads answer before now → EndsReads answer first now
reads_then Line first before now came gave one two = unfailed-then first before now one two
reads_then TooLong first before now came gave one two = unfailed-then first before now one two
reads_then Ended first before now came gave one two = unfailed-then first before now one two
reads_then Failed first before now came gave one two = failed-stop first before now came gave one two

pub came_behind : {longest : ℕ} (answer : NextLine) (line : List ℕ) (first before now : SourceTold) (old new : Reading) (number : ℕ) (lines : List (List ℕ)) → IsReading first before old number lines → NextComes longest answer line before now old new
    → CameBehind longest answer line first now new lines
came_behind answer line first before now old new number lines r n = record {
  came = r.came ++ n.came;
  gave = gave-then first.left before.left now.left r.came n.came r.gave n.gave;
  met = met-then false old.ended new.ended first before now r.came r.gave r.met n.met;
  reads = reads_then answer first before now r.came r.gave r.unfailed n.reads;
  comes = n.comes r.came lines r.handed;
}

-- all lines of an input, whatever comes after the lines that were handed out
pub lines_then : (first now : SourceTold) (read : Reading) (number : ℕ) (lines : List (List ℕ)) (r : IsReading first now read number lines) (more : List ℕ) → (read.ended ≡ true → more ≡ [])
    → all_lines (r.came ++ more) ≡ lines ++ all_lines (read.kept ++ more)
lines_then first now read number lines r more fits = lines-by read.ended r.came lines read.kept more r.handed fits

-- The job --

refused_at : (n m : ℕ) (cause : TraceFault) → n ≡ m → Refused (n + 1) cause ≡ Refused (m + 1) cause
refused_at n m cause same = ap (λ (k : ℕ). Refused (k + 1) cause) same

-- the packet lines end
pub stops_early : {laws : Laws} {longest : ℕ} (next : NextLine) (line : List ℕ) (plan : Plan) (boxes : List BoxTold) (end : TraceEnd) (first before now : SourceTold) (old new : Reading) (number : ℕ) (view : View) → IsOpening plan first before old number view
    → NextComes longest next line before now old new → StopsBy next number (Some end) → next ≢ TooLong → WasRead laws plan boxes (device first now) None end
stops_early {laws} Line line plan boxes end first before now old new number view o n is any = absurd cc
stops_early {laws} TooLong line plan boxes end first before now old new number view o n is any = absurd (any refl)
stops_early {laws} Ended line plan boxes end first before now old new number view o n is any =
    let c = came_behind Ended line first before now old new number o.lines o.reading n in
    let counted = o.reading.counted in
    let end_is : end ≡ Refused (length o.lines + 1) NoEnd = (let same : end ≡ Refused (number + 1) NoEnd = cc in same ∙ refused_at number (length o.lines) NoEnd counted) in
    subst (WasRead laws plan boxes (device first now) None) (sym end_is) (record {
      came = c.came;
      gave = c.gave;
      by = (
        true,
        subst (λ (b : Bool). MetEnd false b first now) c.comes.0 c.met,
        λ more fits.
            record { given = o.lines; tail = []; packets = o.packets; lines_are = ap (λ (l : List ℕ). all_lines (c.came ++ l)) (fits refl) ∙ ap all_lines (append-nil c.came) ∙ sym c.comes.1 ∙ sym (append-nil o.lines); stops = refl },
      );
      faults = c.reads;
    })
stops_early {laws} Failed line plan boxes end first before now old new number view o n is any =
    let c = came_behind Failed line first before now old new number o.lines o.reading n in
    let end_is : end ≡ Failed_at number = cc in
    subst (WasRead laws plan boxes (device first now) None) (sym end_is) (record {
      came = c.came;
      gave = c.gave;
      by = (o.reading.counted ∙ ap length c.comes, subst (ArePackets (inputs_of plan) []) c.comes o.packets);
      faults = c.reads;
    })

-- a packet line was taken
pub opens_line : {longest : ℕ} (laws : Laws) (line : List ℕ) (plan : Plan) (first before now : SourceTold) (old new : Reading) (number count : ℕ) (view later : View) → IsOpening plan first before old number view → NextComes longest Line line before now old new
    → count ≡ number + 1 → TakesLine None line count view later → OpensOn laws None plan first now new count later
opens_line laws line plan first before now old new number count view later o n is (word, takes) =
    let stands : HasRecorded o.lines view = o.stands in
    let t = takes o.lines stands in
    let good : packet_refusal (inputs_of plan) o.lines line ≡ None = ap (λ (g : GraphInputs). packet_refusal g o.lines line) (sym o.graph) ∙ t.0 in
    record {
      lines = o.lines ++ line ∷ [];
      reading = reading_line line first before now old new number count o.lines o.reading n is;
      graph = t.2 ∙ o.graph;
      stands = t.1;
      packets = packets_push (inputs_of plan) [] o.lines line o.packets (word, good);
    }

-- the word after the packet lines
pub opens_word : {longest : ℕ} (line : List ℕ) (ended : Bool) (plan : Plan) (first before now : SourceTold) (old new : Reading) (number count : ℕ) (view later : View) → IsOpening plan first before old number view → NextComes longest Line line before now old new
    → count ≡ number + 1 → TakesLine (Some (Job ended)) line count view later → HasJob plan ended first now new count later
opens_word line ended plan first before now old new number count view later o n is (word, same) = subst (HasJob plan ended first now new count) (sym same) (record {
  given = o.lines;
  reading = subst (λ (l : List ℕ). IsReading first now new count (o.lines ++ l ∷ [])) word (reading_line line first before now old new number count o.lines o.reading n is);
  graph = o.graph;
  stands = o.stands;
  packets = o.packets;
})

-- a line that isn't good
pub opens_bad : {laws : Laws} {longest : ℕ} (line : List ℕ) (end : TraceEnd) (plan : Plan) (boxes : List BoxTold) (first before now : SourceTold) (old new : Reading) (number count : ℕ) (view later : View) → IsOpening plan first before old number view
    → NextComes longest Line line before now old new → count ≡ number + 1 → TakesLine (Some (Stopped end)) line count view later → WasRead laws plan boxes (device first now) None end
opens_bad {laws} line end plan boxes first before now old new number count view later o n is (word, (cause, end_is, takes)) =
    let r = reading_line line first before now old new number count o.lines o.reading n is in
    let bad : packet_refusal (inputs_of plan) o.lines line ≡ Some cause =
    ap (λ (g : GraphInputs). packet_refusal g o.lines line) (sym o.graph) ∙ takes o.lines o.stands in
    let counted = r.counted in
    let long = length-append o.lines (line ∷ []) in
    let place : count ≡ length o.lines + 1 = omega (arith, counted, long) in
    subst (WasRead laws plan boxes (device first now) None) (sym (end_is ∙ ap (λ (k : ℕ). Refused k cause) place)) (record {
      came = r.came;
      gave = r.gave;
      by = (
        new.ended,
        r.met,
        λ more fits.
            record {
              given = o.lines;
              tail = line ∷ all_lines (new.kept ++ more);
              packets = o.packets;
              lines_are = lines_then first now new count (o.lines ++ line ∷ []) r more fits ∙ append_assoc o.lines (line ∷ []) (all_lines (new.kept ++ more));
              stops = (word, (cause, bad, refl));
            },
      );
      faults = r.unfailed;
    })

-- what a line did
pub opens_on : {longest : ℕ} (laws : Laws) (opened : Option Opened) (line : List ℕ) (plan : Plan) (first before now : SourceTold) (old new : Reading) (number count : ℕ) (view later : View) → IsOpening plan first before old number view → NextComes longest Line line before now old new
    → count ≡ number + 1 → TakesLine opened line count view later → OpensOn laws opened plan first now new count later
opens_on laws None line plan first before now old new number count view later o n is takes = opens_line laws line plan first before now old new number count view later o n is takes
opens_on laws (Some (Job ended)) line plan first before now old new number count view later o n is takes = opens_word line ended plan first before now old new number count view later o n is takes
opens_on laws (Some (Stopped end)) line plan first before now old new number count view later o n is takes = λ boxes. opens_bad line end plan boxes first before now old new number count view later o n is takes

-- a line was handed out if the reading didn't stop
pub is_line : (next : NextLine) (number : ℕ) → StopsBy next number None → next ≡ Line
is_line Line number stop = refl
is_line TooLong number stop = absurd cc
is_line Ended number stop = absurd cc
is_line Failed number stop = absurd cc

-- Whatever comes next --

pub line_comes : {longest : ℕ} (next : NextLine) (line : List ℕ) (before now : SourceTold) (old new : Reading) (stopped : ℕ) → NextComes longest next line before now old new → StopsBy next stopped None → NextComes longest Line line before now old new
line_comes {longest} next line before now old new stopped n stop = subst (λ (a : NextLine). NextComes longest a line before now old new) (is_line next stopped stop) n

pub one_more : (next : NextLine) (count number stopped : ℕ) → count ≡ counted_with next number → StopsBy next stopped None → count ≡ number + 1
one_more next count number stopped counted stop = counted ∙ ap (λ (a : NextLine). counted_with a number) (is_line next stopped stop)

pub opens_next : {longest : ℕ} (laws : Laws) (opened : Option Opened) (next : NextLine) (line line_now : List ℕ) (plan : Plan) (first before now : SourceTold) (old new : Reading) (number stopped count count_now : ℕ) (view later : View) → IsOpening plan first before old number view
    → NextComes longest next line before now old new → count ≡ counted_with next number → StopsBy next stopped None → line_now ≡ line → count_now ≡ count → TakesLine opened line_now count_now view later → OpensOn laws opened plan first now new count later
opens_next laws opened next line line_now plan first before now old new number stopped count count_now view later o n counted stop same_line same_count takes =
    opens_on laws opened line plan first before now old new number count view later o (line_comes next line before now old new stopped n stop) (one_more next count number stopped counted stop)
    (subst (λ (k : ℕ). TakesLine opened line k view later) same_count (subst (λ (l : List ℕ). TakesLine opened l count_now view later) same_line takes))

-- a packet line was taken, and the reading goes on
pub opening_then : (laws : Laws) (opened : Option Opened) (plan : Plan) (first now : SourceTold) (read : Reading) (number : ℕ) (view : View) → OpensOn laws opened plan first now read number view → opened ≡ None → IsOpening plan first now read number view
opening_then laws None plan first now read number view on is = on
opening_then laws (Some opened) plan first now read number view on is = absurd cc
