-- Whether a round changes its streams, and that the rounds end.
use Rattle.std.proofs.Common.{◌≡◌, ℕ, zero, suc, ◌+◌, ◌-◌, ◌^◌, ◌<◌, ◌≤◌, ◌==◌, ◌&&◌, Bool, true, false, not, List, [], ◌∷◌, ◌++◌, append-nil, All, length, length-append, Result, Ok, Err, IfOk, refl, sym, ap, subst, ◌∙◌, arith, inl, inr}
use Rattle.std.specs.List.{AllByRecursion}
use Rattle.std.proofs.lemmas.Bool.{cases_lt}
use Rattle.std.proofs.lemmas.Bool.Decides.{nat_tests, eqb_tells}
use Rattle.std.proofs.lemmas.List.{nil_from_length, length-replicate}
use Rattle.std.proofs.lemmas.List.Elements.{All-from_recursion, recursion_from_All}
use Rattle.mg_time.specs.Time.{next, IsAllowed}
use Rattle.mg_value.specs.Payload.{Plain}
use Rattle.mg_value.specs.Packet.{Stamped}
use Rattle.mg_settled.specs.Prefix.{StreamPrefix, IsPrefix, Ascends, first_time, empty_prefix}
use Rattle.mg_settled.specs.Extension.{IsExtendedBy, AreExtendedBy}
use Rattle.mg_settled.proofs.Extending.{same_prefix}
use Rattle.mg_settled.proofs.PrefixSteps.{next_above}
use Rattle.mg_calc.specs.Equations.{Job, IsJob, stream_of, next_round, round, MeetsEquations, IsSolution}
use Rattle.mg_calc.proofs.Jobs.{job_known}
use Rattle.mg_calc.proofs.Rounds.{equations_are_as_many}
use Rattle.mg_calc.proofs.Solutions.{round_keeps, rounds_ascend}
use Rattle.mg_equations.specs.declared.solving.Streams.{Streams}
use Rattle.mg_equations.specs.Code.Changes.{is_changed}

-- one stream
pub unchanged_one : (s t : StreamPrefix Plain) → IsExtendedBy s t → is_changed s t ≡ false → s ≡ t
unchanged_one s t e none =
    let long : length s.packets ≡ length t.packets = grind (arith, nat_tests, none) in
    let bound : s.bound ≡ t.bound = grind (arith, nat_tests, none) in
    let further : e.further ≡ [] = nil_from_length e.further (let all = ap length e.packets in omega (arith, long, all, length-append s.packets e.further)) in
    same_prefix s t (sym (e.packets ∙ (ap (λ ps. s.packets ++ ps) further ∙ append-nil s.packets))) bound

changed_one : (s t : StreamPrefix Plain) → IsExtendedBy s t → is_changed s t ≡ true → length s.packets + s.bound < length t.packets + t.bound
changed_one s t e some =
    let up = e.bound in
    let long : length t.packets ≡ length s.packets + length e.further = ap length e.packets ∙ length-append s.packets e.further in
    elim (eqb_tells (length s.packets) (length t.packets)) [
      | inr (test, other) ↦ omega (arith, up, long, other)
      | inl (test, same) ↦ elim (eqb_tells s.bound t.bound) [
        | inr (again, other) ↦ omega (arith, up, long, other)
        | inl (again, bound) ↦ absurd (let P : Bool → Type 0 = λ b. not b ≡ true in let both : ((length s.packets == length t.packets) && (s.bound == t.bound)) ≡ true = rw (test, again) refl in let bad : false ≡ true = subst P both some in cc)
      ]
    ]

stays_or_rises : (s t : StreamPrefix Plain) → IsExtendedBy s t → length s.packets + s.bound ≤ length t.packets + t.bound
stays_or_rises s t e =
    let up = e.bound in
    let long : length t.packets ≡ length s.packets + length e.further = ap length e.packets ∙ length-append s.packets e.further in
    omega (arith, up, long)

-- How far streams may still rise: a stream has at most as many packets as timestamps below its bound.
abbrev pub room : List (StreamPrefix Plain) → ℕ
room [] = 0
room (s ∷ ss) = (2 ^ 65 - (length s.packets + s.bound)) + room ss

few_packets : (ps : List (Stamped Plain)) (bound : ℕ) → AllByRecursion (λ p. IsAllowed p.at) ps → Ascends ps bound → length ps + first_time ps bound ≤ bound
few_packets [] bound allowed ascends = omega arith
few_packets (p ∷ ps) bound allowed ascends =
    let rest = few_packets ps bound allowed.1 ascends.1 in
    let above = next_above p.at allowed.0 in
    let first = ascends.0 in
    omega (arith, rest, above, first)

has_room : (s : StreamPrefix Plain) → IsPrefix s → length s.packets + s.bound ≤ 2 ^ 65
has_room s k =
    let few = few_packets s.packets s.bound (recursion_from_All (λ (p : Stamped Plain). IsAllowed p.at) s.packets k.allowed) k.ascends in
    let within : s.bound ≤ 18446744073709551615 = k.within in
    omega (arith, few, within)

room_stays : (xs ys : List (StreamPrefix Plain)) → AreExtendedBy xs ys → room ys ≤ room xs
room_stays [] [] e = omega arith
room_stays [] (y ∷ ys) e = absurd e
room_stays (x ∷ xs) [] e = absurd e
room_stays (x ∷ xs) (y ∷ ys) e =
    let rest = room_stays xs ys e.1 in
    let here = stays_or_rises x y e.0 in
    omega (arith, rest, here)

-- a stream has changed
abbrev pub SomeChanges : List (StreamPrefix Plain) → List (StreamPrefix Plain) → Type 0
SomeChanges xs ys = (s : ℕ) × (s < length xs) × (is_changed (stream_of xs s) (stream_of ys s) ≡ true)

room_falls : (xs ys : List (StreamPrefix Plain)) (s : ℕ) → AreExtendedBy xs ys → AllByRecursion IsPrefix ys → s < length xs → is_changed (stream_of xs s) (stream_of ys s) ≡ true → room ys < room xs
room_falls [] ys s e k below some = absurd (omega (arith, below))
room_falls (x ∷ xs) [] s e k below some = absurd e
room_falls (x ∷ xs) (y ∷ ys) zero e k below some =
    let most = has_room y k.0 in
    let up = changed_one x y e.0 some in
    let rest = room_stays xs ys e.1 in
    omega (arith, most, up, rest)
room_falls (x ∷ xs) (y ∷ ys) (suc s) e k below some =
    let most = has_room y k.0 in
    let up = stays_or_rises x y e.0 in
    let rest = room_falls xs ys s e.1 k.1 (omega (arith, below)) some in
    omega (arith, most, up, rest)

other_than : (xs ys : List (StreamPrefix Plain)) → AreExtendedBy xs ys → AllByRecursion IsPrefix ys → SomeChanges xs ys → ys ≡ xs → ⊥
other_than xs ys e k some same =
    let falls = room_falls xs ys some.0 e k some.1 some.2 in
    let rooms = ap room same in
    omega (arith, falls, rooms)

-- Streams that the rounds have reached: those of a round, and no earlier round meets the equations.
pub record AreReached (job : Job) (streams : List (StreamPrefix Plain)) : Type 0 where
  pub number : ℕ
  pub is : streams ≡ round job number
  pub first : (earlier : ℕ) → earlier < number → ¬ MeetsEquations job (round job earlier)

pub reached_keep : (job : Job) (streams : List (StreamPrefix Plain)) → IsJob job → AreReached job streams → AllByRecursion IsPrefix streams
reached_keep job streams is reached = subst (AllByRecursion IsPrefix) (sym reached.is) (round_keeps job (job_known job is) reached.number)

pub reached_prefixes : (job : Job) (streams : List (StreamPrefix Plain)) → IsJob job → AreReached job streams → All IsPrefix streams
reached_prefixes job streams is reached = All-from_recursion IsPrefix streams (reached_keep job streams is reached)

round_long : (job : Job) → IsJob job → (n : ℕ) → length (round job n) ≡ length job.plan.streams
round_long job is zero = length-replicate (length job.plan.streams) empty_prefix
round_long job is (suc n) = equations_are_as_many job (round job n) (job_known job is) (round_keeps job (job_known job is) n)

pub reached_long : (job : Job) (streams : List (StreamPrefix Plain)) → IsJob job → AreReached job streams → length streams ≡ length job.plan.streams
reached_long job streams is reached = ap length reached.is ∙ round_long job is reached.number

pub next_extends : (job : Job) (streams next : List (StreamPrefix Plain)) → IsJob job → AreReached job streams → next ≡ next_round job streams → AreExtendedBy streams next
next_extends job streams next is reached next_is =
    let P : List (StreamPrefix Plain) → Type 0 = λ xs. AreExtendedBy xs next in
    subst P (sym reached.is) (subst (AreExtendedBy (round job reached.number)) (sym (next_is ∙ ap (next_round job) reached.is)) (rounds_ascend job (job_known job is) reached.number))

next_keeps : (job : Job) (streams next : List (StreamPrefix Plain)) → IsJob job → AreReached job streams → next ≡ next_round job streams → AllByRecursion IsPrefix next
next_keeps job streams next is reached next_is =
    subst (AllByRecursion IsPrefix) (sym (next_is ∙ ap (next_round job) reached.is)) (round_keeps job (job_known job is) (suc reached.number))

pub next_long : (job : Job) (streams next : List (StreamPrefix Plain)) → IsJob job → AreReached job streams → next ≡ next_round job streams → length streams ≡ length next
next_long job streams next is reached next_is =
    reached_long job streams is reached ∙ sym (ap length (next_is ∙ ap (next_round job) reached.is) ∙ round_long job is (suc reached.number))

-- a round that changes something is reached next, and leaves less room
pub reached_further : (job : Job) (streams next : List (StreamPrefix Plain)) → IsJob job → AreReached job streams → next ≡ next_round job streams → SomeChanges streams next → AreReached job next
reached_further job streams next is reached next_is some = record {
  number = suc reached.number;
  is = next_is ∙ ap (next_round job) reached.is;
  first = (λ earlier le meets. elim (cases_lt earlier reached.number) [
    | inl before ↦ reached.first earlier before meets
    | inr after ↦ (let here : earlier ≡ reached.number = omega (arith, le, after) in
        let meets_here : MeetsEquations job streams = let M : List (StreamPrefix Plain) → Type 0 = MeetsEquations job in subst M (ap (round job) here ∙ sym reached.is) meets in
        other_than streams next (next_extends job streams next is reached next_is) (next_keeps job streams next is reached next_is) some (next_is ∙ meets_here))
  ]);
}

pub less_room : (job : Job) (streams next : List (StreamPrefix Plain)) → IsJob job → AreReached job streams → next ≡ next_round job streams → SomeChanges streams next → room next < room streams
less_room job streams next is reached next_is some =
    room_falls streams next some.0 (next_extends job streams next is reached next_is) (next_keeps job streams next is reached next_is) some.1 some.2

-- and one that changes nothing is the solution
pub reached_solution : (job : Job) (streams next : List (StreamPrefix Plain)) → IsJob job → AreReached job streams → next ≡ next_round job streams → streams ≡ next → IsSolution job streams
reached_solution job streams next is reached next_is same = record {
  number = reached.number;
  reached = reached.is;
  meets = sym (same ∙ next_is);
  first = reached.first;
}

pub told_solution : {E : Type 0} (job : Job) (streams : List (StreamPrefix Plain)) (result : Result Streams E) → IfOk result (λ s. s.prefixes ≡ streams) → IsSolution job streams → IfOk result (λ s. IsSolution job s.prefixes)
told_solution job streams (Ok s) is solution = subst (IsSolution job) (sym is) solution
told_solution job streams (Err e) is solution = tt

-- what is handed on to the round after
pub next_prefixes : (job : Job) (streams next : List (StreamPrefix Plain)) → IsJob job → AreReached job streams → next ≡ next_round job streams → All IsPrefix next
next_prefixes job streams next is reached next_is = All-from_recursion IsPrefix next (next_keeps job streams next is reached next_is)

pub next_many : (job : Job) (streams next : List (StreamPrefix Plain)) → IsJob job → AreReached job streams → next ≡ next_round job streams → length next ≡ length job.plan.streams
next_many job streams next is reached next_is = sym (next_long job streams next is reached next_is) ∙ reached_long job streams is reached
