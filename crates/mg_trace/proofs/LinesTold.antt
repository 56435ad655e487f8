-- What lines give a graph can be told by lines again: payloads, packets of their streams' kinds, and bounds.
use Rattle.std.proofs.Common.{◌≡◌, ◌==◌, max, ℕ, zero, suc, List, [], ◌∷◌, ◌++◌, length, replicate, Bool, true, false, not, Option, Some, None, IfSome, is_some, option_map, option_and_then, unwrap_or, slice_get, codes, inl, inr, ◌⊎◌, refl, sym, ap, subst, ◌∙◌, arith, append_assoc, append-nil, if◌then◌else◌}
use Rattle.std.specs.List.{list_all, AllByRecursion as Each}
use Rattle.std.specs.Ordering.{match_ordering, nat_cmp}
use Rattle.std.specs.declared.cmp.Ordering.{Ordering}
use Rattle.std.proofs.Common.{Less, Equal, Greater}
use Rattle.std.specs.Cmp.Lexicographic.{slice_cmp}
use Rattle.std.proofs.lemmas.Bool.{cases_lt, false≢true}
use Rattle.serde_json.specs.Data.{Data, null, boolean, number, string, array, object, Members, no_members, member}
use Rattle.serde_json.specs.Find.{get, get_member, as_object}
use Rattle.mg_time.specs.Time.{IsAllowed, done}
use Rattle.mg_value.specs.Payload.{Plain}
use Rattle.mg_value.specs.Packet.{Stamped}
use Rattle.mg_value.specs.declared.kind.Kind.{Kind}
use Rattle.mg_value.specs.declared.kind.Kind.TheVariants.{Any}
use Rattle.mg_json.specs.Json.{first_fault}
use Rattle.mg_settled.specs.Prefix.{StreamPrefix, empty_prefix, appended, all_appended, raised, closed}
use Rattle.mg_feed.specs.Graph.{GraphInputs, place_of}
use Rattle.mg_feed.specs.Form.{Named, Form, packets, bound, close, side, listed, member_count, text_at, flag_at, members_at, packet_form, bound_form, close_form, side_form, packets_form, either, two_form, form_of, json_value, time_of}
use Rattle.mg_feed.specs.Value.{plain_of, takes}
use Rattle.mg_feed.specs.Given.{ended_streams}
use Rattle.mg_feed.specs.Accepted.{State, Before, before, stepped, stepped_at, with_packets, with_form, with_line, given_by, time_or_none, placed, kind_at, standing_at, side_at, is_stream, is_side, when, first_refusal, packet_refusals, bound_refusals, several_refusals, form_refusals, words_refusal}
use Rattle.mg_feed.specs.Recorded.{AllRecorded}
use Rattle.mg_feed.specs.declared.standing.Standing.{Standing}
use Rattle.mg_feed.specs.declared.line_fault.LineFault.{LineFault}
use Rattle.mg_feed.specs.declared.line_fault.LineFault.TheVariants.{UnknownStream, BadTimestamp, Closed, KindMismatch, BadValue, SideLate, SideTwice}
use Rattle.mg_feed.proofs.Holding.{given-more}
use Rattle.mg_feed.proofs.Judging.{recorded-keeps, first-parts, first-both, when-none, some-time, allowed-time}
use Rattle.mg_trace.specs.Told.{IsTellable, IsToldBound}
use Rattle.mg_trace.proofs.ValuesRead.{IsRead, MembersAreRead, line_is_read, if_then}
use Rattle.mg_trace.proofs.Tellable.{value_is_told}

-- What a line's form holds was read --

abbrev AreNamed : List Named → Type 0
AreNamed [] = Unit {0}
AreNamed (v ∷ vs) = IsRead v.value × AreNamed vs

abbrev FormIsRead : Form → Type 0
FormIsRead (packets t vs) = AreNamed vs
FormIsRead (bound name t) = Unit {0}
FormIsRead (close name) = Unit {0}
FormIsRead (side name v) = IsRead v

named_read : (ms : Members) → MembersAreRead ms → AreNamed (listed ms)
named_read no_members h = tt
named_read (member k d ms) h = (h.1, named_read ms h.3)

picked : (o : Ordering) (a b : Option Data) → IfSome a IsRead → IfSome b IsRead → IfSome (match_ordering o a b a) IsRead
picked Less a b x y = x
picked Equal a b x y = y
picked Greater a b x y = x

member_read : (k : List ℕ) (ms : Members) → MembersAreRead ms → IfSome (get_member k ms) IsRead
member_read k no_members h = tt
member_read k (member l e ms) h = picked (slice_cmp nat_cmp k l) (get_member k ms) (Some e) (member_read k ms h.3) h.1

get_read : (k : List ℕ) (d : Data) → IsRead d → IfSome (get k d) IsRead
get_read k null h = tt
get_read k (boolean b) h = tt
get_read k (number n) h = tt
get_read k (string s) h = tt
get_read k (array ds) h = tt
get_read k (object ms) h = member_read k ms h

object_read : (d : Data) → IsRead d → IfSome (as_object d) MembersAreRead
object_read null h = tt
object_read (boolean b) h = tt
object_read (number n) h = tt
object_read (string s) h = tt
object_read (array ds) h = tt
object_read (object ms) h = h

members_read : (k : List ℕ) (d : Data) → IsRead d → IfSome (members_at k d) MembersAreRead
members_read k d h = if_then IsRead MembersAreRead as_object (get k d) object_read (get_read k d h)

packet_read : (name : Option (List ℕ)) (time value : Option Data) → IfSome value IsRead → IfSome (packet_form name time value) FormIsRead
packet_read None time value h = tt
packet_read (Some name) None value h = tt
packet_read (Some name) (Some time) None h = tt
packet_read (Some name) (Some time) (Some value) h = (h, tt)

bound_read : (name : Option (List ℕ)) (time : Option Data) → IfSome (bound_form name time) FormIsRead
bound_read None time = tt
bound_read (Some name) None = tt
bound_read (Some name) (Some time) = tt

either_one : (b : Bool) (x y : Option Form) → IfSome x FormIsRead → IfSome y FormIsRead → IfSome (if b then x else y) FormIsRead
either_one true x y h k = h
either_one false x y h k = k

close_read : (name : Option (List ℕ)) (flag : Option Bool) → IfSome (close_form name flag) FormIsRead
close_read None flag = tt
close_read (Some name) None = tt
close_read (Some name) (Some flag) = either_one flag (Some (close name)) None tt tt

side_read : (name : Option (List ℕ)) (value : Option Data) → IfSome value IsRead → IfSome (side_form name value) FormIsRead
side_read None value h = tt
side_read (Some name) None h = tt
side_read (Some name) (Some value) h = h

packets_read : (time : Option Data) (ms : Option Members) → IfSome ms MembersAreRead → IfSome (packets_form time ms) FormIsRead
packets_read None ms h = tt
packets_read (Some time) None h = tt
packets_read (Some time) (Some no_members) h = tt
packets_read (Some time) (Some (member k d ms)) h = named_read (member k d ms) h

first_or : (x y : Option Form) → IfSome x FormIsRead → IfSome y FormIsRead → IfSome (either x y) FormIsRead
first_or None y h k = k
first_or (Some form) y h k = h

two_read : (d : Data) → IsRead d → IfSome (two_form d) FormIsRead
two_read d h =
    first_or (bound_form (text_at (codes "stream") d) (get (codes "bound") d))
    (either (close_form (text_at (codes "stream") d) (flag_at (codes "close") d))
    (either (side_form (text_at (codes "side") d) (get (codes "value") d))
    (packets_form (get (codes "at") d) (members_at (codes "packets") d))))
    (bound_read (text_at (codes "stream") d) (get (codes "bound") d))
    (first_or (close_form (text_at (codes "stream") d) (flag_at (codes "close") d))
    (either (side_form (text_at (codes "side") d) (get (codes "value") d)) (packets_form (get (codes "at") d) (members_at (codes "packets") d)))
    (close_read (text_at (codes "stream") d) (flag_at (codes "close") d))
    (first_or (side_form (text_at (codes "side") d) (get (codes "value") d)) (packets_form (get (codes "at") d) (members_at (codes "packets") d))
    (side_read (text_at (codes "side") d) (get (codes "value") d) (get_read (codes "value") d h))
    (packets_read (get (codes "at") d) (members_at (codes "packets") d) (members_read (codes "packets") d h))))

form_read : (d : Data) → IsRead d → IfSome (form_of d) FormIsRead
form_read d h =
    either_one (member_count d == 3) (packet_form (text_at (codes "stream") d) (get (codes "ts") d) (get (codes "value") d)) (if member_count d == 2 then two_form d else None)
    (packet_read (text_at (codes "stream") d) (get (codes "ts") d) (get (codes "value") d) (get_read (codes "value") d h))
    (either_one (member_count d == 2) (two_form d) None (two_read d h) tt)

line_form_read : (line : List ℕ) → IfSome (option_and_then form_of (json_value line)) FormIsRead
line_form_read line = if_then IsRead FormIsRead form_of (json_value line) form_read (line_is_read line)

-- what holds of an option holds of what it has
if_some : {X : Type 0} (P : X → Type 0) (o : Option X) (x : X) → o ≡ Some x → IfSome o P → P x
if_some P o x is h = rw is at h

-- A stream --

-- a stream whose packets can be told, and are of a kind. Its bound can be told too
pub record IsGiven (kind : Kind) (s : StreamPrefix Plain) : Type 0 where
  pub values : Each (λ p. IsTellable p.value) s.packets
  pub kinds : Each (λ p. takes kind p.value ≡ true) s.packets
  pub bound : IsToldBound s

abbrev pub AreGiven : List Kind → List (StreamPrefix Plain) → Type 0
AreGiven kinds [] = Unit {0}
AreGiven [] (s ∷ ss) = Unit {0}
AreGiven (kind ∷ kinds) (s ∷ ss) = IsGiven kind s × AreGiven kinds ss

each_push : (P : Stamped Plain → Type 0) (ps : List (Stamped Plain)) (p : Stamped Plain) → Each P ps → P p → Each P (ps ++ p ∷ [])
each_push P [] p all one = (one, tt)
each_push P (q ∷ ps) p all one = (all.0, each_push P ps p all.1 one)

appended_push : (s : StreamPrefix Plain) (ps : List (Stamped Plain)) (p : Stamped Plain) → all_appended s (ps ++ p ∷ []) ≡ appended (all_appended s ps) p
appended_push s [] p = refl
appended_push s (q ∷ ps) p = appended_push (appended s q) ps p

given_packet : (kind : Kind) (s : StreamPrefix Plain) (p : Stamped Plain) → IsTellable p.value → takes kind p.value ≡ true → IsGiven kind s → IsGiven kind (appended s p)
given_packet kind s p told taken g = record {
  values = each_push (λ q. IsTellable q.value) s.packets p g.values told;
  kinds = each_push (λ q. takes kind q.value ≡ true) s.packets p g.kinds taken;
  bound = inr (inl (ap (λ (t : StreamPrefix Plain). t.bound) (sym (appended_push empty_prefix s.packets p))));
}

most : (a b : ℕ) → ((max a b ≡ a) ⊎ (max a b ≡ b))
most a b = elim (cases_lt a b) [ inl less ↦ inr (omega (arith, less)) | inr more ↦ inl (omega (arith, more)) ]

given_raised : (kind : Kind) (s : StreamPrefix Plain) (t : ℕ) → IsAllowed t → IsGiven kind s → IsGiven kind (raised s t)
given_raised kind s t allowed g = record {
  values = g.values;
  kinds = g.kinds;
  bound = elim (most s.bound t) [
    | inl low ↦ subst (λ (b : ℕ). IsToldBound (record { packets = s.packets; bound = b })) (sym low) g.bound
    | inr high ↦ inr (inr (subst IsAllowed (sym high) allowed))
  ];
}

given_closed : (kind : Kind) (s : StreamPrefix Plain) → IsGiven kind s → IsGiven kind (closed s)
given_closed kind s g = record { values = g.values; kinds = g.kinds; bound = inl refl }

-- All streams --

given_stepped : (place : ℕ) (step : StreamPrefix Plain → StreamPrefix Plain) (kinds : List Kind) (ss : List (StreamPrefix Plain))
    → ((kind : Kind) (s : StreamPrefix Plain) → slice_get kinds place ≡ Some kind → slice_get ss place ≡ Some s → IsGiven kind s → IsGiven kind (step s)) → AreGiven kinds ss → AreGiven kinds (stepped place step ss)
given_stepped place step kinds [] one all = tt
given_stepped zero step [] (s ∷ ss) one all = tt
given_stepped (suc place) step [] (s ∷ ss) one all = tt
given_stepped zero step (kind ∷ kinds) (s ∷ ss) one all = (one kind s refl refl all.0, all.1)
given_stepped (suc place) step (kind ∷ kinds) (s ∷ ss) one all = (all.0, given_stepped place step kinds ss one all.1)

given_at : (place : Option ℕ) (step : StreamPrefix Plain → StreamPrefix Plain) (kinds : List Kind) (ss : List (StreamPrefix Plain))
    → ((kind : Kind) (s : StreamPrefix Plain) → placed place kinds ≡ Some kind → placed place ss ≡ Some s → IsGiven kind s → IsGiven kind (step s)) → AreGiven kinds ss → AreGiven kinds (stepped_at place step ss)
given_at None step kinds ss one all = all
given_at (Some place) step kinds ss one all = given_stepped place step kinds ss one all

not_false : (b : Bool) → not b ≡ false → b ≡ true
not_false true is = refl
not_false false is = absurd (false≢true (sym is))

no_bad_value : {V : Type 0} (f : V → LineFault) (o : Option V) → option_map f o ≡ None → o ≡ None
no_bad_value f None is = refl
no_bad_value f (Some v) is = absurd cc

-- a packet that isn't refused
record IsPacketGood (kind : Kind) (v : Data) : Type 0 where
  faultless : first_fault v ≡ None
  taken : takes kind (plain_of v) ≡ true

packet_good : (kind : Kind) (st : Standing) (time : Option ℕ) (v : Data) → first_refusal (packet_refusals kind st time v) ≡ None → IsPacketGood kind v
packet_good kind st time v none =
    let one = first-parts (when (not (is_some time)) BadTimestamp) _ none in
    let two = first-parts (when (st.bound == done) Closed) _ one.1 in
    let three = first-parts (option_map BadValue (first_fault v)) _ two.1 in
    let four = first-parts (when (not (takes kind (plain_of v))) KindMismatch) _ three.1 in
    record { faultless = no_bad_value BadValue (first_fault v) three.0; taken = not_false (takes kind (plain_of v)) (when-none (not (takes kind (plain_of v))) KindMismatch four.0) }

given_packets : (graph : GraphInputs) (b : Before) (time : Option ℕ) (t : ℕ) (vs : List Named) (ss : List (StreamPrefix Plain)) → b.graph ≡ graph → first_refusal (several_refusals b time vs) ≡ None → AreNamed vs → AreGiven graph.kinds ss
    → AreGiven graph.kinds (with_packets graph t vs ss)
given_packets graph b time t [] ss same none read all = all
given_packets graph b time t (v ∷ vs) ss same none read all =
    let both = first-both (packet_refusals (kind_at b v.name) (standing_at b v.name) time v.value) (several_refusals b time vs) none in
    let good = packet_good (kind_at b v.name) (standing_at b v.name) time v.value both.0 in
    let place = place_of graph.streams v.name in
    let p : Stamped Plain = record { at = t; value = plain_of v.value } in
    let there : (kind : Kind) → placed place graph.kinds ≡ Some kind → kind_at b v.name ≡ kind =
    λ kind is. ap (λ (g : GraphInputs). unwrap_or (placed (place_of g.streams v.name) g.kinds) Any) same ∙ ap (λ (o : Option Kind). unwrap_or o Any) is in
    given_packets graph b time t vs (stepped_at place (λ s. appended s p) ss) same both.1 read.1
    (given_at place (λ s. appended s p) graph.kinds ss
    (λ kind s at is g. given_packet kind s p (value_is_told v.value read.0 good.faultless) (subst (λ (k : Kind). takes k (plain_of v.value) ≡ true) (there kind at) good.taken) g) all)

allowed_bound : (graph : GraphInputs) (n : ℕ) (given : State) (name : List ℕ) (t : Data) → first_refusal (form_refusals (before graph n given) (bound name t)) ≡ None → IsAllowed (time_or_none t)
allowed_bound graph n given name t none =
    let b = before graph n given in
    let st = standing_at b name in
    let one = first-parts (when (not (is_stream b name)) UnknownStream) (bound_refusals st (time_of t)) none in
    let two = first-parts (when (not (is_some (time_of t))) BadTimestamp) (when (st.bound == done) Closed ∷ []) one.1 in
    allowed-time t (time_or_none t) (some-time (time_of t) (when-none (not (is_some (time_of t))) BadTimestamp two.0))

streams_form : (graph : GraphInputs) (n : ℕ) (given : State) (form : Form) → FormIsRead form → first_refusal (form_refusals (before graph n given) form) ≡ None → AreGiven graph.kinds given.streams
    → AreGiven graph.kinds (with_form graph given form).streams
streams_form graph n given (packets t vs) read none all =
    let b = before graph n given in
    given_packets graph b (time_of t) (time_or_none t) vs given.streams refl (first-parts (when (not (list_all (λ v. is_stream b v.name) vs)) UnknownStream) (several_refusals b (time_of t) vs) none).1 read all
streams_form graph n given (bound name t) read none all =
    given_at (place_of graph.streams name) (λ s. raised s (time_or_none t)) graph.kinds given.streams (λ kind s at is g. given_raised kind s (time_or_none t) (allowed_bound graph n given name t none) g) all
streams_form graph n given (close name) read none all = given_at (place_of graph.streams name) closed graph.kinds given.streams (λ kind s at is g. given_closed kind s g) all
streams_form graph n given (side name v) read none all = all

-- Side packets --

abbrev pub AreSides : List (Option Plain) → Type 0
AreSides sides = Each (λ side. IfSome side IsTellable) sides

put_side : (place : ℕ) (p : Plain) (sides : List (Option Plain)) → IsTellable p → AreSides sides → AreSides (stepped place (λ _. Some p) sides)
put_side place p [] told all = tt
put_side zero p (s ∷ sides) told all = (told, all.1)
put_side (suc place) p (s ∷ sides) told all = (all.0, put_side place p sides told all.1)

put_side_at : (place : Option ℕ) (p : Plain) (sides : List (Option Plain)) → IsTellable p → AreSides sides → AreSides (stepped_at place (λ _. Some p) sides)
put_side_at None p sides told all = all
put_side_at (Some place) p sides told all = put_side place p sides told all

side_good : (graph : GraphInputs) (n : ℕ) (given : State) (name : List ℕ) (v : Data) → first_refusal (form_refusals (before graph n given) (side name v)) ≡ None → first_fault v ≡ None
side_good graph n given name v none =
    let b = before graph n given in
    let one = first-parts (when (not (is_side b name)) UnknownStream) _ none in
    let two = first-parts (when given.named SideLate) _ one.1 in
    let three = first-parts (when (is_some (side_at b name)) SideTwice) _ two.1 in
    no_bad_value BadValue (first_fault v) (first-parts (option_map BadValue (first_fault v)) [] three.1).0

sides_form : (graph : GraphInputs) (n : ℕ) (given : State) (form : Form) → FormIsRead form → first_refusal (form_refusals (before graph n given) form) ≡ None → AreSides given.sides → AreSides (with_form graph given form).sides
sides_form graph n given (packets t vs) read none all = all
sides_form graph n given (bound name t) read none all = all
sides_form graph n given (close name) read none all = all
sides_form graph n given (side name v) read none all = put_side_at (place_of graph.sides name) (plain_of v) given.sides (value_is_told v read (side_good graph n given name v none)) all

-- Lines --

-- what can be told of what lines gave
pub record CanBeTold (graph : GraphInputs) (given : State) : Type 0 where
  pub streams : AreGiven graph.kinds given.streams
  pub sides : AreSides given.sides

told_line : (graph : GraphInputs) (n : ℕ) (given : State) (line : List ℕ) → words_refusal (before graph n given) line ≡ None → CanBeTold graph given → CanBeTold graph (with_line graph given line)
told_line graph n given line none can =
    recorded-keeps (CanBeTold graph) graph n given line none can (λ form is good.
    let read = if_some FormIsRead (option_and_then form_of (json_value line)) form is (line_form_read line) in
    record { streams = streams_form graph n given form read good can.streams; sides = sides_form graph n given form read good can.sides })

told_lines : (graph : GraphInputs) (past lines : List (List ℕ)) → AllRecorded graph past lines → CanBeTold graph (given_by graph past) → CanBeTold graph (given_by graph (past ++ lines))
told_lines graph past [] good can = subst (λ (l : List (List ℕ)). CanBeTold graph (given_by graph l)) (sym (append-nil past)) can
told_lines graph past (line ∷ lines) good can =
    let more : CanBeTold graph (given_by graph (past ++ line ∷ [])) =
    subst (CanBeTold graph) (sym (given-more graph past line)) (told_line graph (length past) (given_by graph past) line good.0 can) in
    subst (λ (l : List (List ℕ)). CanBeTold graph (given_by graph l)) (append_assoc past (line ∷ []) lines) (told_lines graph (past ++ line ∷ []) lines good.1 more)

nothing_given : (kinds : List Kind) (n : ℕ) → AreGiven kinds (replicate n empty_prefix)
nothing_given kinds zero = tt
nothing_given [] (suc n) = tt
nothing_given (kind ∷ kinds) (suc n) = (record { values = tt; kinds = tt; bound = inr (inl refl) }, nothing_given kinds n)

no_sides : (n : ℕ) → AreSides (replicate n None)
no_sides zero = tt
no_sides (suc n) = (tt, no_sides n)

pub given_can_be_told : (graph : GraphInputs) (lines : List (List ℕ)) → AllRecorded graph [] lines → CanBeTold graph (given_by graph lines)
given_can_be_told graph lines good = told_lines graph [] lines good (record { streams = nothing_given graph.kinds (length graph.kinds); sides = no_sides (length graph.sides) })

-- At the end --

ended_given : (ended : Bool) (kinds : List Kind) (ss : List (StreamPrefix Plain)) → AreGiven kinds ss → AreGiven kinds (ended_streams ended ss)
ended_given ended kinds [] all = tt
ended_given ended [] (s ∷ ss) all = tt
ended_given true (kind ∷ kinds) (s ∷ ss) all = (given_closed kind s all.0, ended_given true kinds ss all.1)
ended_given false (kind ∷ kinds) (s ∷ ss) all = (all.0, ended_given false kinds ss all.1)

pub streams_told : (ended : Bool) (graph : GraphInputs) (given : State) → CanBeTold graph given → AreGiven graph.kinds (ended_streams ended given.streams)
streams_told ended graph given can = ended_given ended graph.kinds given.streams can.streams
