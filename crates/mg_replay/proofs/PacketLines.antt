-- Lines that stand where packet lines do.
use Rattle.std.proofs.Common.{◌≡◌, ℕ, Bool, true, false, List, [], ◌∷◌, ◌++◌, codes, Option, None, Some, option_map, sym, ap, ◌∙◌, subst, append_assoc, append-nil, if◌then◌else◌, refl}
use Rattle.std.specs.Prelude.{◌||◌}
use Rattle.std.specs.Str.{bytes_eq}
use Rattle.std.proofs.lemmas.Slice.Eq.{bytes_eq-Decides}
use Rattle.mg_feed.specs.Graph.{GraphInputs}
use Rattle.mg_feed.specs.View.{View}
use Rattle.mg_feed.specs.Recorded.{recorded_refusal, HasRecorded}
use Rattle.mg_feed.specs.declared.line_fault.LineFault.{LineFault}
use Rattle.mg_trace.specs.Job.{end_word}
use Rattle.mg_replay.specs.Opening.{is_end_word, may_say_packet, packet_refusal, IsPacket, ArePackets}
use Rattle.mg_replay.specs.Code.Packets.{ends_so, TakesPackets}
use Rattle.mg_replay.specs.Code.Reading.{TakesOther, TakesLine}
use Rattle.mg_replay.specs.declared.opening.Opened.{Opened}
use Rattle.mg_replay.specs.declared.opening.Opened.TheVariants.{Job, Stopped}
use Rattle.mg_replay.specs.declared.trace_end.TraceFault.{TraceFault}
use Rattle.mg_replay.specs.declared.trace_end.TraceFault.TheVariants.{Line, BadEvent}

-- The words that end packet lines --

word_by : (a b : Bool) → (if a then Some true else (if b then Some false else None)) ≡ None → (a || b) ≡ false
word_by true b none = absurd cc
word_by false true none = absurd cc
word_by false false none = refl

pub no_word : (line : List ℕ) → ends_so line ≡ None → is_end_word line ≡ false
no_word line none = word_by (bytes_eq line (codes "ended")) (bytes_eq line (codes "frozen")) none

word_is : (a b ended : Bool) (line : List ℕ) → bytes_eq line (codes "ended") ≡ a → bytes_eq line (codes "frozen") ≡ b → (if a then Some true else (if b then Some false else None)) ≡ Some ended → line ≡ end_word ended
word_is true b true line first second is = (bytes_eq-Decides line (codes "ended")).0 first
word_is true b false line first second is = absurd cc
word_is false true false line first second is = (bytes_eq-Decides line (codes "frozen")).0 second
word_is false true true line first second is = absurd cc
word_is false false ended line first second is = absurd cc

pub a_word : (line : List ℕ) (ended : Bool) → ends_so line ≡ Some ended → line ≡ end_word ended
a_word line ended is = word_is (bytes_eq line (codes "ended")) (bytes_eq line (codes "frozen")) ended line refl refl is

-- Refusals --

pub refused_other : (graph : GraphInputs) (lines : List (List ℕ)) (line : List ℕ) → may_say_packet line ≡ false → packet_refusal graph lines line ≡ Some BadEvent
refused_other graph lines line other = ap (λ (b : Bool). if b then option_map Line (recorded_refusal graph lines line) else Some BadEvent) other

pub refused_packet : (graph : GraphInputs) (lines : List (List ℕ)) (line : List ℕ) (fault : Option LineFault) → may_say_packet line ≡ true → recorded_refusal graph lines line ≡ fault
    → packet_refusal graph lines line ≡ option_map Line fault
refused_packet graph lines line fault packet is = ap (λ (b : Bool). if b then option_map Line (recorded_refusal graph lines line) else Some BadEvent) packet ∙ ap (option_map Line) is

pub other_takes : (line : List ℕ) (old new : View) → may_say_packet line ≡ false → TakesPackets (Some BadEvent) line old new
other_takes line old new other lines stands = refused_other old.graph lines line other

pub good_takes : (line : List ℕ) (old new : View) → may_say_packet line ≡ true → new.graph ≡ old.graph
    → ((lines : List (List ℕ)) → HasRecorded lines old → (recorded_refusal old.graph lines line ≡ None) × HasRecorded (lines ++ line ∷ []) new) → TakesPackets None line old new
good_takes line old new packet graph good lines stands =
    let g = good lines stands in
    (refused_packet old.graph lines line None packet g.0, g.1, graph)

pub bad_takes : (line : List ℕ) (old new : View) (fault : LineFault) (cause : Option TraceFault) → may_say_packet line ≡ true → cause ≡ Some (Line fault)
    → ((lines : List (List ℕ)) → HasRecorded lines old → recorded_refusal old.graph lines line ≡ Some fault) → TakesPackets cause line old new
bad_takes line old new fault cause packet is bad =
    subst (λ (c : Option TraceFault). TakesPackets c line old new) (sym is) (λ lines stands. refused_packet old.graph lines line (Some fault) packet (bad lines stands))

-- Several lines --

pub packets_push : (graph : GraphInputs) (before lines : List (List ℕ)) (line : List ℕ) → ArePackets graph before lines → IsPacket graph (before ++ lines) line → ArePackets graph before (lines ++ line ∷ [])
packets_push graph before [] line are is = (subst (λ (l : List (List ℕ)). IsPacket graph l line) (append-nil before) is, tt)
packets_push graph before (l ∷ ls) line are is =
    (are.0, packets_push graph (before ++ l ∷ []) ls line are.1 (subst (λ (x : List (List ℕ)). IsPacket graph x line) (sym (append_assoc before (l ∷ []) ls)) is))

-- the result of a line that is no such word
pub takes_line : (opened : Option Opened) (line : List ℕ) (number : ℕ) (old new : View) → is_end_word line ≡ false → TakesOther opened line number old new → TakesLine opened line number old new
takes_line None line number old new word takes = (word, takes)
takes_line (Some (Job ended)) line number old new word takes = absurd takes
takes_line (Some (Stopped end)) line number old new word takes = (word, takes)
