-- The canonical lines of a job are good, one after the other.
use Rattle.std.proofs.Common.{◌≡◌, ◌<◌, ◌≤◌, ◌+◌, ◌==◌, ◌&&◌, ℕ, suc, List, [], ◌∷◌, ◌++◌, Bool, true, false, not, Option, Some, None, IfSome, is_some, unwrap_or, slice_get, map, fold, length, replicate, nat_lt, nat_le, inl, inr, refl, sym, ap, ap₂, subst, ◌∙◌, arith, append_assoc, length-append, drop, ◌⊎◌, ◌||◌, All}
use Rattle.std.specs.List.{range_with_len, cons_option}
use Rattle.std.proofs.lemmas.Bool.{cases_Bool, eqb-true}
use Rattle.serde_json.specs.Data.{Data, object}
use Rattle.serde_json.specs.Data as serde
use Rattle.serde_json.specs.Written.{compact_text}
use Rattle.mg_time.specs.Time.{done, greatest, pre_stream, post_stream, next, IsAllowed}
use Rattle.mg_value.specs.Payload.{Plain}
use Rattle.mg_value.specs.Packet.{Stamped}
use Rattle.mg_value.specs.declared.kind.Kind.{Kind}
use Rattle.mg_value.specs.declared.kind.Kind.TheVariants.{Any}
use Rattle.mg_json.specs.Json.{json_of, first, first_fault}
use Rattle.mg_json.proofs.RoundTrip.{payload_at}
use Rattle.mg_settled.specs.Prefix.{StreamPrefix, IsPrefix, Ascends, first_time, empty_prefix, appended, all_appended, MayFollow, MayAllFollow}
use Rattle.mg_calc.specs.Side.{PlainSide, PlainSideValue, given_at, fixed}
use Rattle.mg_calc.specs.Plan.{place_of as handed_place}
use Rattle.mg_calc.specs.declared.inputs.Inputs.{Inputs}
use Rattle.mg_calc.specs.declared.plan.Plan.{Plan}
use Rattle.mg_feed.specs.Graph.{GraphInputs, place_of, inputs_of}
use Rattle.mg_feed.specs.Form.{form_of}
use Rattle.mg_feed.specs.Value.{plain_of, takes}
use Rattle.mg_feed.specs.Output.{packet_data}
use Rattle.mg_feed.specs.Accepted.{State, Before, before, fresh, given_by, with_line, line_refusal, words_refusal, json_refusal, shape_refusal, first_refusal, when, packet_refusals, side_refusals, standing, no_stream, placed, has_some, longest_line, most_lines}
use Rattle.mg_feed.specs.Stands.{AllGood}
use Rattle.mg_feed.specs.Recorded.{AllRecorded}
use Rattle.mg_feed.specs.declared.standing.Standing.{Standing}
use Rattle.mg_feed.specs.declared.line_fault.LineFault.TheVariants.{UnknownStream, BadTimestamp, Closed}
use Rattle.mg_feed.proofs.Values.{plain_of-json}
use Rattle.mg_trace.specs.Readable.{IsReadable}
use Rattle.mg_trace.specs.Job.{side_handed_in, said, side_lines, bound_after, end_lines, stream_lines, all_stream_lines, input_names, job_data, job_lines}
use Rattle.mg_trace.specs.Told.{IsTellable, IsFound, IsToldBound, IsToldStream, IsTold, HasKinds, FitsInput}
use Rattle.mg_trace.proofs.ReadBack.{value_back}
use Rattle.mg_trace.proofs.Saying.{with_data, IsLineOf, AreLines, line_is_data, packet_says, of_packets, packets_say, appended_are, left_of, stream_says, time_back}
use Rattle.mg_trace.proofs.Giving.{ArePlaced, are_placed, AreTold, are_told, AreFound, are_found, places, Hands, said_hands, handed_is_told, slot_there, named_at, head_or, job_is_lines, Parts, parts_of}

-- No reason stands against what a JSON value says, wherever its line stands
abbrev IsWelcome : GraphInputs → State → Data → Type 0
IsWelcome graph given d = (n : ℕ) → shape_refusal (before graph n given) (form_of d) ≡ None

abbrev pub AreWelcome : GraphInputs → State → List Data → Type 0
AreWelcome graph given [] = Unit {0}
AreWelcome graph given (d ∷ ds) = IsWelcome graph given d × AreWelcome graph (with_data graph given d) ds

both_welcome : (graph : GraphInputs) (given : State) (ds es : List Data) → AreWelcome graph given ds → AreWelcome graph (fold (with_data graph) given ds) es → AreWelcome graph given (ds ++ es)
both_welcome graph given [] es a b = b
both_welcome graph given (d ∷ ds) es a b = (a.0, both_welcome graph (with_data graph given d) ds es a.1 b)

-- Lines --

object_is_good : (b : Before) (ms : serde.Members) → IsReadable (object ms) → serde.depth (object ms) ≤ 127 → shape_refusal b (form_of (object ms)) ≡ None
    → words_refusal b (compact_text (object ms)) ≡ None
object_is_good b ms readable shallow good = ap (json_refusal b) (value_back (object ms) readable shallow) ∙ good

line_is_good : (b : Before) (d : Data) → IsLineOf d → shape_refusal b (form_of d) ≡ None → words_refusal b (compact_text d) ≡ None
line_is_good b d is good =
    subst (λ e. words_refusal b (compact_text e) ≡ None) (sym is.an_object)
    (object_is_good b is.members (subst IsReadable is.an_object is.readable) (omega (arith, is.shallow, ap serde.depth is.an_object))
    (subst (λ e. shape_refusal b (form_of e) ≡ None) is.an_object good))

given_by-push : (graph : GraphInputs) (past : List (List ℕ)) (line : List ℕ) → given_by graph (past ++ line ∷ []) ≡ with_line graph (given_by graph past) line
given_by-push graph past line = from (fresh graph) past
  where
    from : (given : State) (past : List (List ℕ)) → fold (λ given line. with_line graph given line) given (past ++ line ∷ [])
        ≡ with_line graph (fold (λ given line. with_line graph given line) given past) line
    from given [] = refl
    from given (l ∷ past) = from (with_line graph given l) past

lines_are_recorded : (graph : GraphInputs) (past : List (List ℕ)) (given : State) (ds : List Data) → given_by graph past ≡ given → AreLines ds → AreWelcome graph given ds
    → AllRecorded graph past (map compact_text ds)
lines_are_recorded graph past given [] is lines good = tt
lines_are_recorded graph past given (d ∷ ds) is lines good = (
  ap (λ g. words_refusal (before graph (length past) g) (compact_text d)) is ∙ line_is_good (before graph (length past) given) d lines.0 (good.0 (length past)),
  lines_are_recorded graph (past ++ compact_text d ∷ []) (with_data graph given d) ds
      (given_by-push graph past (compact_text d) ∙ ap (λ g. with_line graph g (compact_text d)) is ∙ line_is_data graph given d lines.0) lines.1 good.1,
)

-- Lines of a recorded job that are as short and as few as packet lines may be are good packet lines.
short_is_good : (b : Before) (line : List ℕ) → length line ≤ longest_line → b.lines < most_lines → words_refusal b line ≡ None → line_refusal b line ≡ None
short_is_good b line short few good =
    let within : nat_lt longest_line (length line) ≡ false = grind arith in
    let room : nat_le most_lines b.lines ≡ false = grind arith in
    rw (within, room) good

recorded_are_good : (graph : GraphInputs) (past lines : List (List ℕ)) → All (λ line. length line ≤ longest_line) lines → length past + length lines ≤ most_lines → AllRecorded graph past lines
    → AllGood graph past lines
recorded_are_good graph past [] short few good = tt
recorded_are_good graph past (line ∷ lines) short few good = (
  short_is_good (before graph (length past) (given_by graph past)) line (short 0 [] (omega arith)) (omega (arith, few)) good.0,
  recorded_are_good graph (past ++ line ∷ []) lines (λ k e lt. short (suc k) e (omega arith)) (omega (arith, few, length-append past (line ∷ []))) good.1,
)

-- Packets --

value_is_good : (value : Plain) → IsTellable value → first_fault (json_of value) ≡ None
value_is_good value told = ap first ((payload_at 1 value (omega arith) told.numbers).none (omega (arith, told.shallow)))

packet_is_good : (known : Bool) (kind : Kind) (st : Standing) (time : Option ℕ) (d : Data) (s : StreamPrefix Plain) (t : ℕ) → known ≡ true → st ≡ standing s → time ≡ Some t
    → (s.bound == done) ≡ false → first_fault d ≡ None → takes kind (plain_of d) ≡ true → nat_lt t s.bound ≡ false → ((t == post_stream) && has_some s.packets) ≡ false
    → first_refusal (when (not (known && true)) UnknownStream ∷ (packet_refusals kind st time d ++ [])) ≡ None
packet_is_good known kind st time d s t is stands at unclosed faultless taken above alone = rw (is, stands, at, unclosed, faultless, taken, above, alone) refl

standing_there : (first rest : List (StreamPrefix Plain)) (s : StreamPrefix Plain) → unwrap_or (slice_get (map standing (first ++ s ∷ rest)) (length first)) no_stream ≡ standing s
standing_there [] rest s = refl
standing_there (t ∷ first) rest s = standing_there first rest s

standing_is : (graph : GraphInputs) (given : State) (name : List ℕ) (first rest : List (StreamPrefix Plain)) (s : StreamPrefix Plain) → place_of graph.streams name ≡ Some (length first)
    → given.streams ≡ first ++ s ∷ rest → unwrap_or (placed (place_of graph.streams name) (map standing given.streams)) no_stream ≡ standing s
standing_is graph given name first rest s place is =
    ap (λ o. unwrap_or (placed o (map standing given.streams)) no_stream) place ∙ ap (λ l. unwrap_or (slice_get (map standing l) (length first)) no_stream) is ∙ standing_there first rest s

none_before : (ps : List (Stamped Plain)) → length ps ≡ 0 → has_some ps ≡ false
none_before [] e = refl
none_before (p ∷ ps) e = absurd (omega (arith, e))

packet_welcome : (graph : GraphInputs) (given : State) (name : List ℕ) (first rest : List (StreamPrefix Plain)) (s : StreamPrefix Plain) (p : Stamped Plain) (kind : Kind)
    → place_of graph.streams name ≡ Some (length first) → unwrap_or (slice_get graph.kinds (length first)) Any ≡ kind → given.streams ≡ first ++ s ∷ rest → MayFollow s p → IsTellable p.value
    → takes kind p.value ≡ true → IsWelcome graph given (packet_data name p)
packet_welcome graph given name first rest s p kind place at is follow told taken n =
    let kind_is : unwrap_or (placed (place_of graph.streams name) graph.kinds) Any ≡ kind = ap (λ o. unwrap_or (placed o graph.kinds) Any) place ∙ at in
    let above = follow.above in
    let below = follow.allowed.1 in
    packet_is_good _ _ _ _ (json_of p.value) s p.at (ap is_some place) (standing_is graph given name first rest s place is) (time_back p.at follow.allowed)
    (grind (arith, above, below)) (value_is_good p.value told) (ap₂ takes kind_is (plain_of-json p.value) ∙ taken) (grind (arith, above)) (alone (cases_Bool (p.at == post_stream)))
  where
    alone : ((p.at == post_stream) ≡ true) ⊎ ((p.at == post_stream) ≡ false) → ((p.at == post_stream) && has_some s.packets) ≡ false
    alone (inl last) = rw last (none_before s.packets (follow.alone (eqb-true p.at post_stream last)))
    alone (inr other) = rw other refl

packets_welcome : (graph : GraphInputs) (given : State) (name : List ℕ) (first rest : List (StreamPrefix Plain)) (s : StreamPrefix Plain) (ps : List (Stamped Plain)) (kind : Kind)
    → place_of graph.streams name ≡ Some (length first) → unwrap_or (slice_get graph.kinds (length first)) Any ≡ kind → given.streams ≡ first ++ s ∷ rest → MayAllFollow s ps
    → All (λ p. IsTellable p.value) ps → All (λ p. takes kind p.value ≡ true) ps → AreWelcome graph given (map (packet_data name) ps)
packets_welcome graph given name first rest s [] kind place at is follow told taken = tt
packets_welcome graph given name first rest s (p ∷ ps) kind place at is follow told taken = (
  packet_welcome graph given name first rest s p kind place at is follow.0 (told 0 p (omega arith)) (taken 0 p (omega arith)),
  packets_welcome graph (with_data graph given (packet_data name p)) name first rest (appended s p) ps kind place at
      (packet_says graph given name first rest s p place is follow.0.allowed).are follow.1 (λ k d lt. told (suc k) d (omega arith)) (λ k d lt. taken (suc k) d (omega arith)),
)

-- all packets of a prefix may follow, one after the other
prefix_follows : (s : StreamPrefix Plain) → IsPrefix s → MayAllFollow empty_prefix s.packets
prefix_follows s is = first_follows s.packets is.allowed is.ascends is.alone
  where
    later : (t : StreamPrefix Plain) (ps : List (Stamped Plain)) → All (λ p. IsAllowed p.at) ps → Ascends ps s.bound → t.bound ≤ first_time ps s.bound
        → All (λ p. p.at ≡ post_stream → length t.packets ≡ 0) ps → (length ps ≤ 1) ⊎ All (λ p. p.at ≡ post_stream → ⊥) ps → MayAllFollow t ps
    later t [] allowed up low alone one = tt
    later t (p ∷ ps) allowed up low alone one = (
      record { allowed = allowed 0 p (omega arith); above = low; alone = alone 0 p (omega arith) },
      later (appended t p) ps (λ k d lt. allowed (suc k) d (omega arith)) up.1 up.0 (λ k d lt e. absurd (no_more one k d lt e)) (inr (λ k d lt e. no_more one k d lt e)),
    )
      where
        no_more : (length (p ∷ ps) ≤ 1) ⊎ All (λ p. p.at ≡ post_stream → ⊥) (p ∷ ps) → All (λ p. p.at ≡ post_stream → ⊥) ps
        no_more (inl short) k d lt e = omega (arith, short)
        no_more (inr never) k d lt e = never (suc k) d (omega arith) e

    first_follows : (ps : List (Stamped Plain)) → All (λ p. IsAllowed p.at) ps → Ascends ps s.bound → All (λ p. p.at ≡ post_stream → length ps ≡ 1) ps → MayAllFollow empty_prefix ps
    first_follows [] allowed up alone = tt
    first_follows (p ∷ []) allowed up alone = later empty_prefix (p ∷ []) allowed up (allowed 0 p (omega arith)).0 (λ k d lt e. refl) (inl (omega arith))
    first_follows (p ∷ q ∷ ps) allowed up alone =
        later empty_prefix (p ∷ q ∷ ps) allowed up (allowed 0 p (omega arith)).0 (λ k d lt e. refl) (inr (λ k d lt e. omega (arith, alone k d lt e)))

-- The end of a stream --

bound_is_good : (known : Bool) (st : Standing) (time : Option ℕ) (s : StreamPrefix Plain) (t : ℕ) → known ≡ true → st ≡ standing s → time ≡ Some t → (s.bound == done) ≡ false
    → first_refusal (when (not known) UnknownStream ∷ when (not (is_some time)) BadTimestamp ∷ when (st.bound == done) Closed ∷ []) ≡ None
bound_is_good known st time s t is stands at unclosed = rw (is, stands, at, unclosed) refl

close_is_good : (known : Bool) (st : Standing) (s : StreamPrefix Plain) → known ≡ true → st ≡ standing s → (s.bound == done) ≡ false
    → first_refusal (when (not known) UnknownStream ∷ when (st.bound == done) Closed ∷ []) ≡ None
close_is_good known st s is stands unclosed = rw (is, stands, unclosed) refl

next_is_unclosed : (t : ℕ) → t ≤ post_stream → next t < done
next_is_unclosed t below = one (cases_Bool (nat_le greatest t || (t == pre_stream)))
  where
    one : ((nat_le greatest t || (t == pre_stream)) ≡ true) ⊎ ((nat_le greatest t || (t == pre_stream)) ≡ false) → next t < done
    one (inl yes_it_is) = rw yes_it_is (omega arith)
    one (inr other) = rw other (omega (arith, below))

left_unclosed : (t : StreamPrefix Plain) (ps : List (Stamped Plain)) → t.bound < done → All (λ p. IsAllowed p.at) ps → (all_appended t ps).bound < done
left_unclosed t [] low allowed = low
left_unclosed t (p ∷ ps) low allowed = left_unclosed (appended t p) ps (next_is_unclosed p.at (allowed 0 p (omega arith)).1) (λ k d lt. allowed (suc k) d (omega arith))

end_welcome : (graph : GraphInputs) (given : State) (name : List ℕ) (first rest : List (StreamPrefix Plain)) (s : StreamPrefix Plain) → place_of graph.streams name ≡ Some (length first)
    → given.streams ≡ first ++ of_packets s.packets ∷ rest → IsPrefix s → IsToldBound s → AreWelcome graph given (end_lines name s)
end_welcome graph given name first rest s place is prefix told = elim (cases_Bool (s.bound == done)) [
  | inl here ↦ rw here ((λ n. close_is_good _ _ (of_packets s.packets) (ap is_some place) stands unclosed), tt)
  | inr above ↦ elim (cases_Bool (s.bound == bound_after s.packets)) [
    | inl same ↦ rw (above, same) tt
    | inr other ↦ rw (above, other) ((λ n. bound_is_good _ _ _ (of_packets s.packets) s.bound (ap is_some place) stands (time_back s.bound (allowed told above other)) unclosed), tt)
  ]
]
  where
    stands : unwrap_or (placed (place_of graph.streams name) (map standing given.streams)) no_stream ≡ standing (of_packets s.packets)
    stands = standing_is graph given name first rest (of_packets s.packets) place is

    unclosed : (bound_after s.packets == done) ≡ false
    unclosed = let low = left_unclosed empty_prefix s.packets (omega arith) prefix.allowed in grind (arith, low)

    allowed : IsToldBound s → (s.bound == done) ≡ false → (s.bound == bound_after s.packets) ≡ false → IsAllowed s.bound
    allowed (inl e) above other = absurd (grind (arith, e, above))
    allowed (inr (inl e)) above other = absurd (grind (arith, e, other))
    allowed (inr (inr h)) above other = h

-- All streams --

stream_welcome : (graph : GraphInputs) (given : State) (ended : Bool) (name : List ℕ) (first rest : List (StreamPrefix Plain)) (s : StreamPrefix Plain) (kind : Kind)
    → place_of graph.streams name ≡ Some (length first) → unwrap_or (slice_get graph.kinds (length first)) Any ≡ kind → given.streams ≡ first ++ empty_prefix ∷ rest → IsToldStream ended s
    → All (λ p. takes kind p.value ≡ true) s.packets → AreWelcome graph given (stream_lines ended name s)
stream_welcome graph given true name first rest s kind place at is told taken =
    both_welcome graph given (map (packet_data name) s.packets) []
    (packets_welcome graph given name first rest empty_prefix s.packets kind place at is (prefix_follows s told.prefix) told.values taken) tt
stream_welcome graph given false name first rest s kind place at is told taken =
    let next = fold (with_data graph) given (map (packet_data name) s.packets) in
    let said_so = (packets_say graph given name first rest empty_prefix s.packets place is told.prefix.allowed).are ∙ ap (λ q. first ++ q ∷ rest) (appended_are s.packets) in
    both_welcome graph given (map (packet_data name) s.packets) (end_lines name s)
    (packets_welcome graph given name first rest empty_prefix s.packets kind place at is (prefix_follows s told.prefix) told.values taken)
    (end_welcome graph next name first rest s place said_so told.prefix told.bound)

-- each prefix has packets of its stream's kind, counted from a place on
abbrev AreTaken : GraphInputs → ℕ → List (StreamPrefix Plain) → Type 0
AreTaken graph place [] = Unit {0}
AreTaken graph place (s ∷ ss) = All (λ p. takes (unwrap_or (slice_get graph.kinds place) Any) p.value ≡ true) s.packets × AreTaken graph (place + 1) ss

are_taken : (graph : GraphInputs) (place : ℕ) (ss : List (StreamPrefix Plain))
    → ((input : ℕ) (s : StreamPrefix Plain) → slice_get ss input ≡ Some s → All (λ p. takes (unwrap_or (slice_get graph.kinds (place + input)) Any) p.value ≡ true) s.packets) → AreTaken graph place ss
are_taken graph place [] all = tt
are_taken graph place (s ∷ ss) all = (
  subst (λ k. All (λ p. takes (unwrap_or (slice_get graph.kinds k) Any) p.value ≡ true) s.packets) (plus_zero place) (all 0 s refl),
  are_taken graph (place + 1) ss (λ input t e. subst (λ k. All (λ p. takes (unwrap_or (slice_get graph.kinds k) Any) p.value ≡ true) t.packets) (plus_one place input) (all (suc input) t e)),
)
  where
    plus_zero : (n : ℕ) → n + 0 ≡ n
    plus_zero n = omega arith

    plus_one : (n k : ℕ) → n + suc k ≡ n + 1 + k
    plus_one n k = omega arith

streams_welcome : (graph : GraphInputs) (given : State) (ended : Bool) (first : List (StreamPrefix Plain)) (names : List (List ℕ)) (ss : List (StreamPrefix Plain))
    → ArePlaced graph (length first) names → AreTold ended ss → AreTaken graph (length first) ss → length names ≡ length ss → given.streams ≡ first ++ replicate (length ss) empty_prefix
    → AreWelcome graph given (all_stream_lines ended names ss)
streams_welcome graph given ended first [] ss placed told taken many is = tt
streams_welcome graph given ended first (name ∷ names) [] placed told taken many is = tt
streams_welcome graph given ended first (name ∷ names) (s ∷ ss) placed told taken many is =
    let more = first ++ left_of ended s ∷ [] in
    let next = fold (with_data graph) given (stream_lines ended name s) in
    let next_place : length first + 1 ≡ length more = omega (arith, length-append first (left_of ended s ∷ [])) in
    let says = stream_says graph given ended name first (replicate (length ss) empty_prefix) s placed.0.1 is told.0 in
    both_welcome graph given (stream_lines ended name s) (all_stream_lines ended names ss)
    (stream_welcome graph given ended name first (replicate (length ss) empty_prefix) s _ placed.0.1 refl is told.0 taken.0)
    (streams_welcome graph next ended more names ss (subst (λ k. ArePlaced graph k names) next_place placed.1) told.1 (subst (λ k. AreTaken graph k ss) next_place taken.1) (omega (arith, many))
    (says.are ∙ sym (append_assoc first (left_of ended s ∷ []) (replicate (length ss) empty_prefix))))

-- Side packets --

side_is_good : (known named : Bool) (came : Option Plain) (d : Data) → known ≡ true → named ≡ false → came ≡ None → first_fault d ≡ None
    → first_refusal (when (not known) UnknownStream ∷ side_refusals named came d) ≡ None
side_is_good known named came d is unnamed new faultless = rw (is, unnamed, new, faultless) refl

said_welcome : (graph : GraphInputs) (given : State) (name : List ℕ) (first rest : List (Option Plain)) (slot : Option Plain) → place_of graph.sides name ≡ Some (length first)
    → given.sides ≡ first ++ None ∷ rest → given.named ≡ false → IfSome slot IsTellable → AreWelcome graph given (said name slot)
said_welcome graph given name first rest None place is unnamed told = tt
said_welcome graph given name first rest (Some value) place is unnamed told =
    let came : unwrap_or (placed (place_of graph.sides name) given.sides) None ≡ None =
    ap (λ o. unwrap_or (placed o given.sides) None) place ∙ ap (λ l. unwrap_or (slice_get l (length first)) None) is ∙ slot_there first rest None in
    ((λ n. side_is_good _ _ _ (json_of value) (ap is_some place) unnamed came (value_is_good value told)), tt)

abbrev WelcomeAll : Plan → List PlainSide → Type 0
WelcomeAll plan sides = (given : State) (first slots : List (Option Plain)) → places sides ≡ range_with_len (length first) (length slots)
    → given.sides ≡ first ++ replicate (length slots) None → given.named ≡ false → All (λ side. IfSome side IsTellable) (first ++ slots)
    → AreWelcome (inputs_of plan) given (side_lines (first ++ slots) sides)

side_welcome : (plan : Plan) (given : State) (first slots : List (Option Plain)) (name : List ℕ) (value : PlainSideValue) (sides : List PlainSide) → IsFound plan name value
    → cons_option (handed_place value) (places sides) ≡ range_with_len (length first) (length slots) → given.sides ≡ first ++ replicate (length slots) None → given.named ≡ false
    → All (λ side. IfSome side IsTellable) (first ++ slots) → WelcomeAll plan sides
    → AreWelcome (inputs_of plan) given (said name (side_handed_in (first ++ slots) value) ++ side_lines (first ++ slots) sides)
side_welcome plan given first slots name (fixed value) sides found in_order is unnamed told rest = rest given first slots in_order is unnamed told
side_welcome plan given first [] name (given_at place) sides found in_order is unnamed told rest = absurd (omega (arith, ap length in_order))
side_welcome plan given first (slot ∷ slots) name (given_at place) sides found in_order is unnamed told rest =
    let at : place ≡ length first = ap (λ l. head_or l 0) in_order in
    let later : places sides ≡ range_with_len (length first + 1) (length slots) = ap (λ l. drop 1 l) in_order in
    let more = first ++ slot ∷ [] in
    let next_place : length first + 1 ≡ length more = omega (arith, length-append first (slot ∷ [])) in
    let here : unwrap_or (slice_get (first ++ slot ∷ slots) place) None ≡ slot = ap (λ k. unwrap_or (slice_get (first ++ slot ∷ slots) k) None) at ∙ slot_there first slots slot in
    let line = said name (side_handed_in (first ++ slot ∷ slots) (given_at place)) in
    let next = fold (with_data (inputs_of plan)) given line in
    let hands = subst (λ s. Hands (inputs_of plan) given (said name s) (first ++ slot ∷ replicate (length slots) None)) (sym here)
    (said_hands (inputs_of plan) given name first (replicate (length slots) None) slot (found ∙ ap Some at) is) in
    let slot_told = handed_is_told (first ++ slot ∷ slots) (given_at place) told in
    both_welcome (inputs_of plan) given line (side_lines (first ++ slot ∷ slots) sides)
    (subst (λ s. AreWelcome (inputs_of plan) given (said name s)) (sym here)
    (said_welcome (inputs_of plan) given name first (replicate (length slots) None) slot (found ∙ ap Some at) is unnamed (subst (λ s. IfSome s IsTellable) here slot_told)))
    (subst (λ l. AreWelcome (inputs_of plan) next (side_lines l sides)) (append_assoc first (slot ∷ []) slots)
    (rest next more slots (later ∙ ap (λ k. range_with_len k (length slots)) next_place) (hands.are ∙ sym (append_assoc first (slot ∷ []) (replicate (length slots) None)))
    (hands.named ∙ unnamed) (subst (All (λ side. IfSome side IsTellable)) (sym (append_assoc first (slot ∷ []) slots)) told)))

sides_welcome : (plan : Plan) (sides : List PlainSide) → AreFound plan sides → WelcomeAll plan sides
sides_welcome plan [] found given first slots in_order is unnamed told = tt
sides_welcome plan (side ∷ sides) found given first slots in_order is unnamed told =
    side_welcome plan given first slots side.name side.value sides found.0.1 in_order is unnamed told (sides_welcome plan sides found.1)

-- The whole job --

pub job_is_recorded : (plan : Plan) (inputs : Inputs) → IsTold plan inputs → HasKinds plan inputs → AllRecorded (inputs_of plan) [] (job_lines plan inputs)
job_is_recorded plan inputs told taken =
    lines_are_recorded (inputs_of plan) [] (fresh (inputs_of plan)) (job_data plan inputs) refl (job_is_lines plan inputs told)
    (both_welcome (inputs_of plan) (fresh (inputs_of plan)) (side_lines inputs.sides plan.sides) (all_stream_lines inputs.ended (input_names plan) inputs.streams)
    (sides_welcome plan plan.sides (are_found plan plan.sides told.names.sides) (fresh (inputs_of plan)) [] inputs.sides parts.in_order parts.sides refl told.sides)
    (streams_welcome (inputs_of plan) _ inputs.ended [] (input_names plan) inputs.streams (are_placed (inputs_of plan) 0 (input_names plan) (named_at told.names))
    (are_told inputs.ended inputs.streams told.streams) (are_taken (inputs_of plan) 0 inputs.streams kinds) parts.many_names parts.streams))
  where
    parts : Parts plan inputs
    parts = parts_of plan inputs told

    kinds : (input : ℕ) (s : StreamPrefix Plain) → slice_get inputs.streams input ≡ Some s → All (λ p. takes (unwrap_or (slice_get (inputs_of plan).kinds (0 + input)) Any) p.value ≡ true) s.packets
    kinds input s e = subst (λ k. All (λ p. takes (unwrap_or (slice_get (inputs_of plan).kinds k) Any) p.value ≡ true) s.packets) (zero_more input) (taken input s e)
      where
        zero_more : (n : ℕ) → n ≡ 0 + n
        zero_more n = omega arith

pub job_is_good : (plan : Plan) (inputs : Inputs) → IsTold plan inputs → FitsInput plan inputs → AllGood (inputs_of plan) [] (job_lines plan inputs)
job_is_good plan inputs told fits = recorded_are_good (inputs_of plan) [] (job_lines plan inputs) fits.short (let few = fits.few in omega (arith, few)) (job_is_recorded plan inputs told fits.kinds)
