-- The jobs that packet lines give can be told by packet lines again.
use Rattle.std.proofs.Common.{◌≡◌, ℕ, zero, suc, ◌≤◌, List, [], ◌∷◌, length, slice_get, Bool, true, false, All, Some, IfSome, unwrap_or, refl, subst, arith}
use Rattle.std.specs.List.{AllByRecursion as Each}
use Rattle.std.proofs.lemmas.List.Elements.{All-from_recursion, recursion_from_All}
use Rattle.mg_time.specs.Time.{done}
use Rattle.mg_value.specs.Payload.{Plain}
use Rattle.mg_value.specs.declared.kind.Kind.{Kind}
use Rattle.mg_value.specs.declared.kind.Kind.TheVariants.{Any}
use Rattle.mg_settled.specs.Prefix.{StreamPrefix, IsPrefix}
use Rattle.mg_calc.specs.Plan.{IsValid}
use Rattle.mg_calc.specs.declared.plan.Plan.{Plan}
use Rattle.mg_feed.specs.Graph.{inputs_of}
use Rattle.mg_feed.specs.Value.{takes}
use Rattle.mg_feed.specs.Given.{ended_streams}
use Rattle.mg_feed.specs.Accepted.{given_by}
use Rattle.mg_feed.specs.Recorded.{AllRecorded}
use Rattle.mg_trace.specs.Told.{IsTellable, HasNames, IsToldStream, IsTold, HasKinds}
use Rattle.mg_trace.proofs.LinesTold.{AreGiven, given_can_be_told, streams_told}
use Rattle.mg_answer.specs.Answer.{Read, inputs_by}
use Rattle.mg_answer.proofs.Fitting.{input-count, recorded-fit}

-- Streams --

abbrev IsClosed : StreamPrefix Plain → Type 0
IsClosed s = s.bound ≡ done

-- if the input ended well, all streams are closed
closed_all : (ended : Bool) (ss : List (StreamPrefix Plain)) → Each (λ s. ended ≡ true → IsClosed s) (ended_streams ended ss)
closed_all ended [] = tt
closed_all true (s ∷ ss) = (λ e. refl, closed_all true ss)
closed_all false (s ∷ ss) = (λ e. absurd cc, closed_all false ss)

told_all : (ended : Bool) (kinds : List Kind) (ss : List (StreamPrefix Plain)) → length ss ≤ length kinds → AreGiven kinds ss → Each IsPrefix ss → Each (λ s. ended ≡ true → IsClosed s) ss → Each (IsToldStream ended) ss
told_all ended kinds [] fits given prefixes closed = tt
told_all ended [] (s ∷ ss) fits given prefixes closed = absurd (omega (arith, fits))
told_all ended (kind ∷ kinds) (s ∷ ss) fits given prefixes closed = (
  record { prefix = prefixes.0; bound = given.0.bound; closed = closed.0; values = All-from_recursion (λ p. IsTellable p.value) s.packets given.0.values },
  told_all ended kinds ss (omega (arith, fits)) given.1 prefixes.1 closed.1,
)

kinds_at : (kinds : List Kind) (ss : List (StreamPrefix Plain)) (input : ℕ) (t : StreamPrefix Plain) → AreGiven kinds ss → slice_get ss input ≡ Some t → All (λ p. takes (unwrap_or (slice_get kinds input) Any) p.value ≡ true) t.packets
kinds_at kinds [] input t given is = absurd cc
kinds_at [] (s ∷ ss) input t given is = λ k d less. refl
kinds_at (kind ∷ kinds) (s ∷ ss) zero t given is =
    let same : s ≡ t = cc in
    subst (λ (x : StreamPrefix Plain). All (λ p. takes kind p.value ≡ true) x.packets) same (All-from_recursion (λ p. takes kind p.value ≡ true) s.packets given.0.kinds)
kinds_at (kind ∷ kinds) (s ∷ ss) (suc input) t given is = kinds_at kinds ss input t given.1 is

-- Jobs --

pub job_is_told : (plan : Plan) (read : Read) → IsValid plan → HasNames plan → AllRecorded (inputs_of plan) [] read.lines → IsTold plan (inputs_by (inputs_of plan) read)
job_is_told plan read valid names good =
    let graph = inputs_of plan in
    let inputs = inputs_by graph read in
    let can = given_can_be_told graph read.lines good in
    let fit = recorded-fit plan read inputs valid good refl in
    let many = fit.streams in
    let count = input-count plan valid in
    record {
      names = names;
      fit = fit;
      streams = All-from_recursion (IsToldStream inputs.ended) inputs.streams
          (told_all inputs.ended graph.kinds inputs.streams (omega (arith, many, count)) (streams_told inputs.ended graph (given_by graph read.lines) can)
          (recursion_from_All IsPrefix inputs.streams fit.prefixes) (closed_all inputs.ended (given_by graph read.lines).streams));
      sides = All-from_recursion (λ side. IfSome side IsTellable) inputs.sides can.sides;
    }

pub job_has_kinds : (plan : Plan) (read : Read) → AllRecorded (inputs_of plan) [] read.lines → HasKinds plan (inputs_by (inputs_of plan) read)
job_has_kinds plan read good = λ input s is.
    let graph = inputs_of plan in
    let inputs = inputs_by graph read in
    kinds_at graph.kinds inputs.streams input s (streams_told inputs.ended graph (given_by graph read.lines) (given_can_be_told graph read.lines good)) is
