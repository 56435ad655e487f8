-- Rounds of free nodes beside a net that has come to rest.
use Rattle.std.proofs.Common.{◌≡◌, ◌<◌, ◌≤◌, ◌+◌, ◌-◌, ◌*◌, ◌^◌, ◌==◌, not, ℕ, zero, suc, Bool, true, false, cond, List, [], ◌∷◌, ◌++◌, length, length-append, map, replicate, Option, Some, None, slice_get, refl, sym, ap, ◌∙◌, subst, arith, inl, inr, ne_eqb}
use Rattle.std.proofs.lemmas.Bool.{cases_lt}
use Rattle.std.proofs.lemmas.List.{length-map}
use Rattle.std.proofs.lemmas.List.Sums.{sum_by-cons}
use Rattle.std.proofs.lemmas.List.Elements.{recursion_from_All}
use Rattle.std.proofs.lemmas.Option.{same_Some, none-some, slice_get_within}
use Rattle.mg_edge.specs.Edge.{SourceTold}
use Rattle.mg_value.specs.Payload.{Plain}
use Rattle.mg_value.specs.Packet.{Stamped}
use Rattle.mg_settled.specs.Prefix.{StreamPrefix, IsPrefix, empty_prefix}
use Rattle.mg_settled.specs.Extension.{AreExtendedBy}
use Rattle.mg_settled.specs.Settled.{port_of}
use Rattle.mg_calc.specs.Rules.{Laws}
use Rattle.mg_calc.specs.Told.{BoxTold}
use Rattle.mg_calc.specs.declared.inputs.Inputs.{Inputs}
use Rattle.mg_calc.specs.declared.plan.Plan.{Plan}
use Rattle.mg_calc.specs.Plan.{InputsFit}
use Rattle.mg_calc.specs.Equations.{Job, IsSolution, stream_of}
use Rattle.mg_feed.specs.declared.feed_end.BatchEnd.{BatchEnd}
use Rattle.mg_feed.specs.declared.feed_end.BatchEnd.TheVariants.{More}
use Rattle.mg_node.specs.Job.{LoggedJob, Solves}
use Rattle.mg_sched.specs.Views.{NetView}
use Rattle.mg_sched.specs.StandsFor.{StandsFor}
use Rattle.mg_sched.specs.Extends.{for_last}
use Rattle.mg_sched.specs.Looks.{HasFrom}
use Rattle.mg_sched.proofs.Finding.{found}
use Rattle.mg_sched.proofs.Solved.{solved}
use Rattle.mg_free.specs.declared.node.FreeNode.{FreeNode}
use Rattle.mg_free.specs.Core.{split_of}
use Rattle.mg_free.specs.Free.{Arrival}
use Rattle.mg_free.specs.Logs.{arrived_at, has_ended}
use Rattle.mg_free.specs.Rounds.{Taken, core_inputs, core_job, free_inputs, next_arrivals, last_of, with_next, turn, IsRound}
use Rattle.mg_free.specs.Turns.{taken_by, taken_by_all}
use Rattle.mg_free.proofs.Turning.{turns_rise, arrived-both}
use Rattle.mg_free.proofs.WellTaken.{left_none}
use Rattle.mg_live.specs.declared.taker.Taker.{Taker}
use Rattle.mg_live.specs.Takes.{told, HasTaken, HaveTaken, MayAllTurn, MayRound, Did, turns_of, handed_of, outputs_so_far, pieces_behind, DidAt}
use Rattle.mg_live.specs.SoFar.{goes, HaveCome}
use Rattle.mg_live.proofs.Places.{did_where}
use Rattle.mg_live.proofs.Following.{is_job, round_goes_on, may_all_turn}
use Rattle.mg_drive.specs.Nets.{HasRested, AreThere, AreRead}
use Rattle.mg_drive.specs.Batches.{Giving, Coming, Due, InputsGoOn, BatchesGoOn, logged}
use Rattle.mg_drive.specs.Code.Live.{AreRested, LiveView, LiveGives, EndsLive, wanted_by, rounds_left}
use Rattle.mg_drive.proofs.Jobs.{valid_plan, plan_stood}
use Rattle.mg_drive.proofs.Looking.{at_most_laid}
use Rattle.mg_drive.proofs.Piecewise.{Piecewise, as_many_pieces, both, nothing_comes, pieces_come}
use Rattle.mg_drive.proofs.LiveBatches.{beside, core_goes_on}
use Rattle.mg_drive.proofs.LiveWants.{later, there_at_ports, all_are_there, all_are_read}

-- How many rounds are left --

-- a log is shorter than memory
few_logged : (taker : Taker) → length taker.log.items < 2 ^ 63
few_logged taker = (let long = taker.log.ok.0 in let within = taker.log.ok.1 in let small = taker.log.small in omega (arith, long, within, small))

room : (closed : Bool) (long : ℕ) → long < 2 ^ 64 → ((2 ^ 64 - long) + (elim closed [ true ↦ 0 | false ↦ 1 ])) + (long + cond {A = ℕ} closed 1 0) ≡ 2 ^ 64 + 1
room true long few = omega (arith, few)
room false long few = omega (arith, few)

abbrev left_of : Taker → ℕ
left_of taker = (2 ^ 64 - length taker.log.items) + (elim taker.closed [ true ↦ 0 | false ↦ 1 ])

room_of : (free : FreeNode) (taken : Taken) (taker : Taker) → HasTaken free taken taker → left_of taker + taken_by taken ≡ 2 ^ 64 + 1
room_of free taken taker has =
    let long : length taker.log.items ≡ length taken.log = ap length has.log ∙ length-map taken.log told in
    let few = few_logged taker in
    let whole = room taker.closed (length taker.log.items) (omega (arith, few)) in
    let shut : cond {A = ℕ} taker.closed 1 0 ≡ cond {A = ℕ} taken.closed 1 0 = ap (λ (b : Bool). cond {A = ℕ} b 1 0) has.closed in
    omega (arith, whole, long, shut)

rooms : (frees : List FreeNode) (takens : List Taken) (takers : List Taker) → HaveTaken frees takens takers → rounds_left takers + taken_by_all takens ≡ length frees * (2 ^ 64 + 1)
rooms [] [] [] h = refl
rooms [] (t ∷ takens) takers h = absurd (let long = h.takens_long in omega (arith, long))
rooms [] [] (r ∷ takers) h = absurd (let long = h.takers_long in omega (arith, long))
rooms (f ∷ frees) [] takers h = absurd (let long = h.takens_long in omega (arith, long))
rooms (f ∷ frees) (t ∷ takens) [] h = absurd (let long = h.takers_long in omega (arith, long))
rooms (f ∷ frees) (t ∷ takens) (r ∷ takers) h =
    let one = room_of f t r (h.each zero f t r refl refl refl) in
    let rest = rooms frees takens takers (later f t r frees takens takers h) in
    let a = sum_by-cons left_of r takers in
    let b = sum_by-cons taken_by t takens in
    omega (arith, one, rest, a, b)

-- a round that did something leaves fewer
pub rounds_fall : (streams : List (StreamPrefix Plain)) (frees : List FreeNode) (takens : List Taken) (takers now : List Taker) → HaveTaken frees takens takers → HaveTaken frees (turns_of streams frees takens) now → Did true takens (turns_of streams frees takens)
    → rounds_left now < rounds_left takers
rounds_fall streams frees takens takers now h after did =
    let one = rooms frees takens takers h in
    let two = rooms frees (turns_of streams frees takens) now after in
    elim (turns_rise streams frees takens (sym h.takens_long)) [
      | inl same ↦ absurd (did same)
      | inr more ↦ omega (arith, one, two, more)
    ]

-- a round that did nothing leaves as many
pub rounds_stay : (streams : List (StreamPrefix Plain)) (frees : List FreeNode) (takens : List Taken) (takers now : List Taker) → HaveTaken frees takens takers → HaveTaken frees (turns_of streams frees takens) now → turns_of streams frees takens ≡ takens
    → rounds_left now ≡ rounds_left takers
rounds_stay streams frees takens takers now h after same =
    let one = rooms frees takens takers h in
    let two = rooms frees (turns_of streams frees takens) now after in
    let equal = ap taken_by_all same in
    omega (arith, one, two, equal)

-- What has come to rest --

-- the job of a core that stands as what was given
abbrev live_job : Laws → Plan → Inputs → Job
live_job laws core inputs = record { plan = core; inputs = inputs; laws = laws }

pub record IsStill (laws : Laws) {B : Type 0} (gives : Giving B) (came : Coming B) (is_due : Due B) (began : B) (live : LiveView B) (core : Plan) (first source : SourceTold) (last : BatchEnd) (so_far : Inputs) (net : NetView) : Type 0 where
  pub given : LiveGives laws gives came is_due began live core first source last so_far
  pub streams : List (StreamPrefix Plain)
  pub are : AreRested laws net streams
  pub solution : IsSolution (core_job laws (split_of live.whole) given.base given.takens) streams

pub is_still : {laws : Laws} {B : Type 0} (gives : Giving B) (came : Coming B) (is_due : Due B) (began : B) (live : LiveView B) (core : Plan) (first source : SourceTold) (last : BatchEnd) (so_far : Inputs) (net : NetView) (logs : LoggedJob laws) → logs.job ≡ live_job laws core so_far
    → LiveGives laws gives came is_due began live core first source last so_far → (solves : (streams : List (StreamPrefix Plain)) × Solves logs streams) → AreRested laws net solves.0 → IsStill laws gives came is_due began live core first source last so_far net
is_still {laws} {B} gives came is_due began live core first source last so_far net logs is l solves are = record {
  given = l;
  streams = solves.0;
  are = are;
  solution =
      subst (λ (i : Inputs). IsSolution (live_job laws (split_of live.whole).core i) solves.0) l.inputs_are
      (subst (λ (p : Plan). IsSolution (live_job laws p so_far) solves.0) l.of.core_is (subst (λ (j : Job). IsSolution j solves.0) is solves.1.solution));
}

-- a core has come to rest with what was given
pub stands_still : {laws : Laws} {B : Type 0} (gives : Giving B) (came : Coming B) (is_due : Due B) (began : B) (live : LiveView B) (core : Plan) (first source : SourceTold) (last : BatchEnd) (so_far : Inputs) (net : NetView) (boxes : List BoxTold)
    → StandsFor (logged laws core so_far boxes) net → HasRested (logged laws core so_far boxes) net → LiveGives laws gives came is_due began live core first source last so_far → IsStill laws gives came is_due began live core first source last so_far net
stands_still {laws} {B} gives came is_due began live core first source last so_far net boxes stands rested l =
    let job = logged laws core so_far boxes in
    let found = solved job (valid_plan job net stands) in
    is_still gives came is_due began live core first source last so_far net job refl l found (record { job = job; stands = stands; has_rested = rested; solves = found.1 })

-- the free nodes may have a round
pub may_round : {laws : Laws} {B S : Type 0} (gives : Giving B) (came : Coming B) (is_due : Due B) (began : B) (live : LiveView B) (core : Plan) (first source : SourceTold) (last : BatchEnd) (so_far : Inputs) (net : NetView)
    (are : S → List (StreamPrefix Plain) → Type 0) (has_from : S → ℕ → ℕ → Type 0) (read : S) → ((ss : List (StreamPrefix Plain)) → AreRested laws net ss → are read ss) → ((stream number : ℕ) → HasFrom net stream number → has_from read stream number)
    → IsStill laws gives came is_due began live core first source last so_far net → AreThere (wanted_by live.frees live.takers) net → MayRound are has_from read live.frees live.takers
may_round {laws} {B} {S} gives came is_due began live core first source last so_far net are has_from read seen reads still there =
    let l = still.given in
    record {
      streams = still.streams;
      takens = l.takens;
      are_they = seen still.streams still.are;
      have_taken = l.taken;
      may = subst (λ (fs : List FreeNode). MayAllTurn still.streams fs l.takens) (sym l.of.frees_are) (may_all_turn laws live.whole l.base l.earlier l.takens still.streams l.of.valid l.come l.so_far still.solution);
      can_read = λ place free taken a b port stream input. reads stream (length (arrived_at port taken.log)) (there_at_ports net live.frees l.takens live.takers l.taken there place port stream free taken a b input);
    }

-- A round that did nothing --

none_next : (streams : List (StreamPrefix Plain)) (free : FreeNode) (taken : Taken) (next : Option (Arrival Plain)) → with_next streams free taken next ≡ taken → next ≡ None
none_next streams free taken None same = refl
none_next streams free taken (Some a) same = absurd (let long = length-append taken.log (a ∷ []) in let equal : length (taken.log ++ a ∷ []) ≡ length taken.log = ap (λ (t : Taken). length t.log) same in omega (arith, long, equal))

turn_at : (streams : List (StreamPrefix Plain)) (frees : List FreeNode) (takens all : List Taken) (place : ℕ) (free : FreeNode) (taken : Taken) → turns_of streams frees takens ≡ all → slice_get frees place ≡ Some free → slice_get takens place ≡ Some taken
    → slice_get all place ≡ Some (turn streams free taken)
turn_at streams frees takens all place free taken is a b = ap (λ (ts : List Taken). slice_get ts place) (sym is) ∙ at_place streams frees takens place free taken a b
  where
    at_place : (ss : List (StreamPrefix Plain)) (fs : List FreeNode) (ts : List Taken) (k : ℕ) (f : FreeNode) (t : Taken) → slice_get fs k ≡ Some f → slice_get ts k ≡ Some t → slice_get (turns_of ss fs ts) k ≡ Some (turn ss f t)
    at_place ss [] ts k f t x y = absurd (none-some f x)
    at_place ss (g ∷ fs) [] k f t x y = absurd (none-some t y)
    at_place ss (g ∷ fs) (u ∷ ts) zero f t x y = ap Some (ap (λ (n : FreeNode). turn ss n u) (same_Some g f x) ∙ ap (turn ss f) (same_Some u t y))
    at_place ss (g ∷ fs) (u ∷ ts) (suc k) f t x y = at_place ss fs ts k f t x y

stays_at : (streams : List (StreamPrefix Plain)) (frees : List FreeNode) (takens : List Taken) (place : ℕ) (free : FreeNode) (taken : Taken) → turns_of streams frees takens ≡ takens → slice_get frees place ≡ Some free → slice_get takens place ≡ Some taken
    → turn streams free taken ≡ taken
stays_at streams frees takens place free taken same a b = same_Some (turn streams free taken) taken (sym (turn_at streams frees takens takens place free taken same a b) ∙ b)

not_some : (ps : List (Stamped Plain)) (k : ℕ) → slice_get ps k ≡ None → length ps ≤ k
not_some ps k none = elim (cases_lt k (length ps)) [
  | inl less ↦ (let p = found ps k less in absurd (none-some p.0 (sym none ∙ p.1)))
  | inr past ↦ past
]

port_in : (streams : List (StreamPrefix Plain)) (inputs : List ℕ) (port stream : ℕ) → slice_get inputs port ≡ Some stream → port_of (map (stream_of streams) inputs) port ≡ stream_of streams stream
port_in streams [] port stream at = absurd (none-some stream at)
port_in streams (s ∷ inputs) zero stream at = ap (stream_of streams) (same_Some s stream at)
port_in streams (s ∷ inputs) (suc port) stream at = port_in streams inputs port stream at

-- all that is in the streams at the ports has arrived
all_arrived : (streams : List (StreamPrefix Plain)) (free : FreeNode) (taken : Taken) (port stream : ℕ) → turn streams free taken ≡ taken → slice_get free.inputs port ≡ Some stream → length (stream_of streams stream).packets ≤ length (arrived_at port taken.log)
all_arrived streams free taken port stream same input =
    let none = none_next streams free taken (last_of (next_arrivals streams free taken)) same in
    let within = slice_get_within free.inputs port stream input in
    let left = left_none streams free taken none port (let long = length-map free.inputs (stream_of streams) in omega (arith, within, long)) in
    subst (λ (s : StreamPrefix Plain). length s.packets ≤ length (arrived_at port taken.log)) (port_in streams free.inputs port stream input)
    (not_some (port_of (free_inputs streams free) port).packets (length (arrived_at port taken.log)) left)

rests_by : {laws : Laws} {B : Type 0} (gives : Giving B) (came : Coming B) (is_due : Due B) (began : B) (live : LiveView B) (core : Plan) (first source : SourceTold) (last : BatchEnd) (so_far : Inputs) (net : NetView) (still : IsStill laws gives came is_due began live core first source last so_far net)
    → turns_of still.streams live.frees still.given.takens ≡ still.given.takens → IsRound laws (split_of live.whole) still.given.base still.given.takens still.given.takens
rests_by {laws} {B} gives came is_due began live core first source last so_far net still same = record {
  streams = still.streams;
  solution = still.solution;
  turns = sym same ∙ ap (λ (fs : List FreeNode). turns_of still.streams fs still.given.takens) still.given.of.frees_are;
}

pub live_rests : {laws : Laws} {B : Type 0} (gives : Giving B) (came : Coming B) (is_due : Due B) (began : B) (live : LiveView B) (core : Plan) (first source : SourceTold) (last : BatchEnd) (so_far : Inputs) (net : NetView) (takers : List Taker)
    (still : IsStill laws gives came is_due began live core first source last so_far net) → turns_of still.streams live.frees still.given.takens ≡ still.given.takens → HaveTaken live.frees (turns_of still.streams live.frees still.given.takens) takers
    → handed_of takers ≡ handed_of live.takers → last ≡ More
    → (end : BatchEnd) → EndsLive end (record live { rested = true; takers = takers }) → LiveGives laws gives came is_due began (record live { rested = true; takers = takers }) core first source end so_far
live_rests {laws} {B} gives came is_due began live core first source last so_far net takers still same taken handed more end ends =
    let l = still.given in
    record {
      of = record { whole_is = l.of.whole_is; valid = l.of.valid; core_is = l.of.core_is; numbers_are = l.of.numbers_are; frees_are = l.of.frees_are; due = l.of.due };
      base = l.base;
      earlier = l.earlier;
      given = l.given;
      in_turn = l.in_turn;
      come = l.come;
      takens = l.takens;
      taken = subst (λ (ts : List Taken). HaveTaken live.frees ts takers) same taken;
      handed = handed ∙ l.handed;
      so_far = l.so_far;
      inputs_are = l.inputs_are;
      rests = λ yes. rests_by gives came is_due began live core first source last so_far net still same;
      ends = ends;
    }

-- all that is in the net was read
pub live_read : {laws : Laws} {B : Type 0} (gives : Giving B) (came : Coming B) (is_due : Due B) (began : B) (live : LiveView B) (core : Plan) (first source : SourceTold) (last : BatchEnd) (so_far : Inputs) (net : NetView) (takers : List Taker)
    (still : IsStill laws gives came is_due began live core first source last so_far net) → turns_of still.streams live.frees still.given.takens ≡ still.given.takens → HaveTaken live.frees (turns_of still.streams live.frees still.given.takens) takers
    → AreThere (wanted_by live.frees live.takers) net → AreRead (wanted_by live.frees takers) net
live_read {laws} {B} gives came is_due began live core first source last so_far net takers still same taken there =
    let l = still.given in
    all_are_read net live.frees l.takens takers (subst (λ (ts : List Taken). HaveTaken live.frees ts takers) same taken)
    (λ place port stream free t a b input.
    at_most_laid net still.streams stream (length (arrived_at port t.log)) still.are (there_at_ports net live.frees l.takens live.takers l.taken there place port stream free t a b input)
    (all_arrived still.streams free t port stream (stays_at still.streams live.frees l.takens place free t same a b) input))

-- A round that did something --

more_arrived : (streams : List (StreamPrefix Plain)) (free : FreeNode) (taken : Taken) (port : ℕ) (next : Option (Arrival Plain)) → length (arrived_at port taken.log) ≤ length (arrived_at port (with_next streams free taken next).log)
more_arrived streams free taken port (Some a) =
    let grown : length (arrived_at port (taken.log ++ a ∷ [])) ≡ length (arrived_at port taken.log) + length (arrived_at port (a ∷ [])) = ap length (arrived-both port taken.log a) ∙ length-append (arrived_at port taken.log) (arrived_at port (a ∷ [])) in
    omega (arith, grown)
more_arrived streams free taken port None = closing (has_ended free.law (free_inputs streams free))
  where
    closing : (ended : Bool) → length (arrived_at port taken.log) ≤ length (arrived_at port (elim ended as (λ _. Taken) [ true ↦ record { log = taken.log; closed = true } | false ↦ taken ]).log)
    closing true = omega arith
    closing false = omega arith

before_turn : (streams : List (StreamPrefix Plain)) (frees : List FreeNode) (takens : List Taken) (place : ℕ) (free : FreeNode) (after : Taken) → slice_get frees place ≡ Some free → slice_get (turns_of streams frees takens) place ≡ Some after
    → (taken : Taken) × (slice_get takens place ≡ Some taken) × (turn streams free taken ≡ after)
before_turn streams [] takens place free after a b = absurd (none-some free a)
before_turn streams (f ∷ frees) [] place free after a b = absurd (none-some after b)
before_turn streams (f ∷ frees) (t ∷ takens) zero free after a b = (t, refl, ap (λ (n : FreeNode). turn streams n t) (sym (same_Some f free a)) ∙ same_Some (turn streams f t) after b)
before_turn streams (f ∷ frees) (t ∷ takens) (suc place) free after a b = before_turn streams frees takens place free after a b

-- what is left to read is there still
pub round_there : (net : NetView) (streams : List (StreamPrefix Plain)) (frees : List FreeNode) (takens : List Taken) (takers now : List Taker) → HaveTaken frees takens takers → HaveTaken frees (turns_of streams frees takens) now
    → AreThere (wanted_by frees takers) net → AreThere (wanted_by frees now) net
round_there net streams frees takens takers now h after there =
    all_are_there net frees (turns_of streams frees takens) now after
    (λ place port stream free t a b input output is.
    let was = before_turn streams frees takens place free t a b in
    let low = there_at_ports net frees takens takers h there place port stream free was.0 a was.1 input output is in
    let more = more_arrived streams free was.0 port (last_of (next_arrivals streams free was.0)) in
    let same : length (arrived_at port (turn streams free was.0).log) ≡ length (arrived_at port t.log) = ap (λ (x : Taken). length (arrived_at port x.log)) was.2 in
    omega (arith, low, more, same))

extends_behind : (ss us vs : List (StreamPrefix Plain)) → AreExtendedBy (ss ++ us) (ss ++ vs) → AreExtendedBy us vs
extends_behind [] us vs e = e
extends_behind (s ∷ ss) us vs e = extends_behind ss us vs e.1

pub newest_fits : (plan : Plan) (inputs : Inputs) (earlier : List Inputs) → HaveCome plan (inputs ∷ earlier) → InputsFit plan inputs
newest_fits plan inputs [] h = h
newest_fits plan inputs (before ∷ earlier) h = h.0

pub live_round : {laws : Laws} {B : Type 0} (gives : Giving B) (came : Coming B) (is_due : Due B) (began : B) (live : LiveView B) (core : Plan) (first source : SourceTold) (last : BatchEnd) (so_far : Inputs) (pieces : List (StreamPrefix Plain)) (net : NetView) (takers : List Taker) (boxes : List BoxTold) → StandsFor (logged laws core so_far boxes) net
    → (still : IsStill laws gives came is_due began live core first source last so_far net) → Did true still.given.takens (turns_of still.streams live.frees still.given.takens) → HaveTaken live.frees (turns_of still.streams live.frees still.given.takens) takers
    → handed_of takers ≡ map (λ s. length s.packets) (outputs_so_far live.frees (turns_of still.streams live.frees still.given.takens))
    → pieces ≡ pieces_behind (handed_of live.takers) (outputs_so_far live.frees (turns_of still.streams live.frees still.given.takens))
    → BatchesGoOn (LiveGives laws gives came is_due began (record live { rested = false; takers = takers }) core first source More) core so_far (for_last (length net.plan.inputs) pieces)
live_round {laws} {B} gives came is_due began live core first source last so_far pieces net takers boxes stands still did taken handed is =
    let l = still.given in
    let split = split_of live.whole in
    let frees_are = l.of.frees_are in
    let after = turns_of still.streams live.frees l.takens in
    let round : IsRound laws split l.base l.takens after = record { streams = still.streams; solution = still.solution; turns = ap (λ (fs : List FreeNode). turns_of still.streams fs l.takens) frees_are } in
    let on = round_goes_on laws live.whole l.base l.earlier l.takens after l.of.valid l.come l.so_far round in
    let outs = outputs_so_far split.free l.takens in
    let outs_now = outputs_so_far split.free after in
    let fits = newest_fits live.whole l.base l.earlier l.come in
    let own : Piecewise l.base.streams (replicate (length live.whole.inputs) empty_prefix) l.base.streams =
    subst (λ (n : ℕ). Piecewise l.base.streams (replicate n empty_prefix) l.base.streams) fits.streams (nothing_comes l.base.streams (beside l.base.streams (recursion_from_All IsPrefix l.base.streams fits.prefixes))) in
    let free_pieces : Piecewise outs (pieces_behind (map (λ (s : StreamPrefix Plain). length s.packets) outs) outs_now) outs_now = pieces_come outs outs_now (extends_behind l.base.streams outs outs_now on.extended) in
    let pieces_are : pieces ≡ pieces_behind (map (λ (s : StreamPrefix Plain). length s.packets) outs) outs_now =
    is ∙ ap (λ (ns : List ℕ). pieces_behind ns (outputs_so_far live.frees after)) l.handed
    ∙ ap (λ (fs : List FreeNode). pieces_behind (map (λ (s : StreamPrefix Plain). length s.packets) (outputs_so_far fs l.takens)) (outputs_so_far fs after)) frees_are in
    let job = logged laws core so_far boxes in
    let many : length so_far.streams ≡ length core.inputs = (valid_plan job net stands).inputs.streams in
    let there : length net.plan.inputs ≡ length core.inputs = ap (λ (p : Plan). length p.inputs) (plan_stood job net stands) in
    let sum : length so_far.streams ≡ length l.base.streams + length outs = ap (λ (i : Inputs). length i.streams) l.inputs_are ∙ length-append l.base.streams outs in
    let count : length pieces ≡ length outs = ap length pieces_are ∙ as_many_pieces outs (pieces_behind (map (λ (s : StreamPrefix Plain). length s.packets) outs) outs_now) outs_now free_pieces in
    let base : length l.base.streams ≡ length live.whole.inputs = fits.streams in
    let left : length net.plan.inputs - length pieces ≡ length live.whole.inputs = omega (arith, many, there, sum, count, base) in
    let more = for_last (length net.plan.inputs) pieces in
    let are : more.streams ≡ replicate (length live.whole.inputs) empty_prefix ++ pieces_behind (map (λ (s : StreamPrefix Plain). length s.packets) outs) outs_now =
    ap (λ (n : ℕ). replicate n empty_prefix ++ pieces) left ∙ ap (λ (ps : List (StreamPrefix Plain)). replicate (length live.whole.inputs) empty_prefix ++ ps) pieces_are in
    let all : InputsGoOn split.core (core_inputs split l.base l.takens) more (core_inputs split l.base after) =
    core_goes_on laws split.core (core_inputs split l.base l.takens) more (core_inputs split l.base after) on.is_job on.sides on.extended
    (subst (λ (ms : List (StreamPrefix Plain)). Piecewise (l.base.streams ++ outs) ms (l.base.streams ++ outs_now)) (sym are)
    (both l.base.streams (replicate (length live.whole.inputs) empty_prefix) l.base.streams outs (pieces_behind (map (λ (s : StreamPrefix Plain). length s.packets) outs) outs_now) outs_now own free_pieces)) in
    record {
      all = core_inputs split l.base after;
      given = record {
        of = record { whole_is = l.of.whole_is; valid = l.of.valid; core_is = l.of.core_is; numbers_are = l.of.numbers_are; frees_are = l.of.frees_are; due = l.of.due };
        base = l.base;
        earlier = l.earlier;
        given = l.given;
        in_turn = l.in_turn;
        come = l.come;
        takens = after;
        taken = taken;
        handed = handed;
        so_far = goes l.so_far round did;
        inputs_are = refl;
        rests = λ no. absurd cc;
        ends = tt;
      };
      goes_on = subst (λ (i : Inputs). InputsGoOn core i more (core_inputs split l.base after)) (sym l.inputs_are)
          (subst (λ (p : Plan). InputsGoOn p (core_inputs split l.base l.takens) more (core_inputs split l.base after)) (sym l.of.core_is) all);
    }

-- Places at which something was done --

pub some_did : (streams : List (StreamPrefix Plain)) (frees : List FreeNode) (takens : List Taken) (takers : List Taker) (places : List ℕ) (did : Bool) → HaveTaken frees takens takers → did ≡ not (length places == 0) → DidAt places takens (turns_of streams frees takens)
    → Did did takens (turns_of streams frees takens)
some_did streams frees takens takers [] did h is at = did_where streams frees takens [] did h.takens_long (λ yes. absurd (let no : true ≡ false = sym yes ∙ is in cc)) (λ no. refl) at
some_did streams frees takens takers (p ∷ places) did h is at = did_where streams frees takens (p ∷ places) did h.takens_long (λ yes. omega arith) (λ no. absurd (let yes : false ≡ true = sym no ∙ is ∙ ap not (ne_eqb (length (p ∷ places)) 0 (λ e. omega (arith, e))) in cc)) at

-- The free nodes are the same --

pub same_frees_went : {laws : Laws} {B : Type 0} (gives : Giving B) (came : Coming B) (is_due : Due B) (began : B) (live : LiveView B) (core : Plan) (first source : SourceTold) (so_far more : Inputs) (takers : List Taker) (frees : List FreeNode) → frees ≡ live.frees
    → BatchesGoOn (LiveGives laws gives came is_due began (record live { rested = false; takers = takers }) core first source More) core so_far more
    → BatchesGoOn (LiveGives laws gives came is_due began (record live { rested = false; frees = frees; takers = takers }) core first source More) core so_far more
same_frees_went {laws} {B} gives came is_due began live core first source so_far more takers frees same g =
    subst (λ (fs : List FreeNode). BatchesGoOn (LiveGives laws gives came is_due began (record live { rested = false; frees = fs; takers = takers }) core first source More) core so_far more) (sym same) g

pub same_frees_rest : {laws : Laws} {B : Type 0} (gives : Giving B) (came : Coming B) (is_due : Due B) (began : B) (live : LiveView B) (core : Plan) (first source : SourceTold) (end : BatchEnd) (so_far : Inputs) (takers : List Taker) (frees : List FreeNode) → frees ≡ live.frees
    → LiveGives laws gives came is_due began (record live { rested = true; takers = takers }) core first source end so_far → LiveGives laws gives came is_due began (record live { rested = true; frees = frees; takers = takers }) core first source end so_far
same_frees_rest {laws} {B} gives came is_due began live core first source end so_far takers frees same g =
    subst (λ (fs : List FreeNode). LiveGives laws gives came is_due began (record live { rested = true; frees = fs; takers = takers }) core first source end so_far) (sym same) g

pub same_frees_there : (net : NetView) (frees now : List FreeNode) (takers : List Taker) → now ≡ frees → AreThere (wanted_by frees takers) net → AreThere (wanted_by now takers) net
same_frees_there net frees now takers same there = subst (λ (fs : List FreeNode). AreThere (wanted_by fs takers) net) (sym same) there

pub same_frees_read : (net : NetView) (frees now : List FreeNode) (takers : List Taker) → now ≡ frees → AreRead (wanted_by frees takers) net → AreRead (wanted_by now takers) net
same_frees_read net frees now takers same read = subst (λ (fs : List FreeNode). AreRead (wanted_by fs takers) net) (sym same) read

pub same_frees_taken : (frees now : List FreeNode) (takens : List Taken) (takers : List Taker) → now ≡ frees → HaveTaken frees takens takers → HaveTaken now takens takers
same_frees_taken frees now takens takers same h = subst (λ (fs : List FreeNode). HaveTaken fs takens takers) (sym same) h

pub handed_as : (handed : List ℕ) (frees now : List FreeNode) (takens : List Taken) → handed ≡ map (λ (s : StreamPrefix Plain). length s.packets) (outputs_so_far now takens) → now ≡ frees → handed ≡ map (λ (s : StreamPrefix Plain). length s.packets) (outputs_so_far frees takens)
handed_as handed frees now takens is same = is ∙ ap (λ (fs : List FreeNode). map (λ (s : StreamPrefix Plain). length s.packets) (outputs_so_far fs takens)) same
