-- Rounds ascend, and the solution is the least list of prefixes that meets the equations.
use Rattle.std.proofs.Common.{◌≡◌, ℕ, zero, suc, ◌+◌, ◌≤◌, length, replicate, List, [], ◌∷◌, refl, sym, ap, subst, ◌∙◌, arith, inl, inr}
use Rattle.std.specs.List.{AllByRecursion}
use Rattle.std.proofs.lemmas.Bool.{cases_lt}
use Rattle.std.proofs.lemmas.List.Elements.{All-weaker, length_all_zip}
use Rattle.mg_time.specs.Time.{pre_stream, IsAllowed}
use Rattle.mg_value.specs.Payload.{Plain}
use Rattle.mg_value.specs.Packet.{Stamped}
use Rattle.mg_settled.specs.Prefix.{StreamPrefix, IsPrefix, empty_prefix}
use Rattle.mg_settled.specs.Extension.{IsExtendedBy, AreExtendedBy}
use Rattle.mg_settled.proofs.Lemmas.{all_by_themselves, all_further}
use Rattle.mg_settled.proofs.Lemmas.{empty_is_prefix}
use Rattle.mg_calc.specs.declared.law.Law.{Law}
use Rattle.mg_calc.specs.Equations.{Job, next_round, round, MeetsEquations, IsSolution}
use Rattle.mg_calc.proofs.Rounds.{IsKnown, equations_follow, equations_keep, equations_are_as_many}

-- the empty prefix is extended by each
empty_extends : (s : StreamPrefix Plain) → IsPrefix s → IsExtendedBy empty_prefix s
empty_extends s k = record {
  further = s.packets;
  packets = refl;
  bound = k.opened;
  above = All-weaker (λ (p : Stamped Plain). IsAllowed p.at) (λ (p : Stamped Plain). pre_stream ≤ p.at) (λ p a. a.0) s.packets k.allowed;
}

pub empties_extend : (n : ℕ) (xs : List (StreamPrefix Plain)) → length xs ≡ n → AllByRecursion IsPrefix xs → AreExtendedBy (replicate n empty_prefix) xs
empties_extend zero [] l k = tt
empties_extend zero (x ∷ xs) l k = absurd (omega (arith, l))
empties_extend (suc n) [] l k = absurd (omega (arith, l))
empties_extend (suc n) (x ∷ xs) l k = (empty_extends x k.0, empties_extend n xs (omega (arith, l)) k.1)

empties_keep : (n : ℕ) → AllByRecursion IsPrefix (replicate n (empty_prefix {X = Plain}))
empties_keep zero = tt
empties_keep (suc n) = (empty_is_prefix, empties_keep n)

-- rounds consist of prefixes
pub round_keeps : (job : Job) → IsKnown job → (n : ℕ) → AllByRecursion IsPrefix (round job n)
round_keeps job known zero = empties_keep (length job.plan.streams)
round_keeps job known (suc n) = equations_keep job (round job n) known (round_keeps job known n)

-- and each is extended by the next
pub rounds_ascend : (job : Job) → IsKnown job → (n : ℕ) → AreExtendedBy (round job n) (round job (suc n))
rounds_ascend job known zero =
    empties_extend (length job.plan.streams) (next_round job (round job 0)) (equations_are_as_many job (round job 0) known (round_keeps job known 0)) (round_keeps job known 1)
rounds_ascend job known (suc n) =
    equations_follow job (round job n) (round job (suc n)) known (round_keeps job known n) (round_keeps job known (suc n)) (rounds_ascend job known n)

-- each round is extended by prefixes that extend what the equations make of them
pub round_least : (job : Job) → IsKnown job → (ys : List (StreamPrefix Plain)) → AllByRecursion IsPrefix ys → AreExtendedBy (next_round job ys) ys
    → (n : ℕ) → AreExtendedBy (round job n) ys
round_least job known ys k e zero =
    empties_extend (length job.plan.streams) ys (sym (length_all_zip IsExtendedBy (next_round job ys) ys e) ∙ equations_are_as_many job ys known k) k
round_least job known ys k e (suc n) =
    all_further (next_round job (round job n)) (next_round job ys) ys (equations_follow job (round job n) ys known (round_keeps job known n) k (round_least job known ys k e n)) e

-- the solution consists of prefixes
pub solution_keeps : (job : Job) → IsKnown job → (xs : List (StreamPrefix Plain)) → IsSolution job xs → AllByRecursion IsPrefix xs
solution_keeps job known xs solution = subst (AllByRecursion IsPrefix) (sym solution.reached) (round_keeps job known solution.number)

-- and is extended by each list of prefixes that extends what the equations make of it
pub solution_least : (job : Job) → IsKnown job → (xs ys : List (StreamPrefix Plain)) → IsSolution job xs → AllByRecursion IsPrefix ys → AreExtendedBy (next_round job ys) ys → AreExtendedBy xs ys
solution_least job known xs ys solution k e = subst (λ (zs : List (StreamPrefix Plain)). AreExtendedBy zs ys) (sym solution.reached) (round_least job known ys k e solution.number)

met_extends : (job : Job) (ys : List (StreamPrefix Plain)) → MeetsEquations job ys → AreExtendedBy (next_round job ys) ys
met_extends job ys meets = subst (λ (zs : List (StreamPrefix Plain)). AreExtendedBy zs ys) (sym meets) (all_by_themselves ys)

pub solution_is_least : (job : Job) → IsKnown job → (xs ys : List (StreamPrefix Plain)) → IsSolution job xs → AllByRecursion IsPrefix ys → MeetsEquations job ys → AreExtendedBy xs ys
solution_is_least job known xs ys solution k meets = solution_least job known xs ys solution k (met_extends job ys meets)

-- There is one solution at most: of two numbers of first rounds neither is the lesser.
pub one_solution : (job : Job) (xs ys : List (StreamPrefix Plain)) → IsSolution job xs → IsSolution job ys → xs ≡ ys
one_solution job xs ys a b = elim (cases_lt a.number b.number) [
  | inl less ↦ absurd (b.first a.number less (let M : List (StreamPrefix Plain) → Type 0 = MeetsEquations job in subst M a.reached a.meets))
  | inr le ↦ elim (cases_lt b.number a.number) [
    | inl less ↦ absurd (a.first b.number less (let M : List (StreamPrefix Plain) → Type 0 = MeetsEquations job in subst M b.reached b.meets))
    | inr ge ↦ (let same : a.number ≡ b.number = omega (arith, le, ge) in a.reached ∙ (ap (round job) same ∙ sym b.reached))
  ]
]

-- a round that meets the equations stays
pub met_stays : (job : Job) (n k : ℕ) → MeetsEquations job (round job n) → round job (n + k) ≡ round job n
met_stays job n zero meets = ap (round job) (let e : n + 0 ≡ n = omega arith in e)
met_stays job n (suc k) meets =
    (let e : n + suc k ≡ suc (n + k) = omega arith in ap (round job) e) ∙ (ap (next_round job) (met_stays job n k meets) ∙ meets)

-- the solution has a prefix for each stream
pub solution_has_each : (job : Job) → IsKnown job → (xs : List (StreamPrefix Plain)) → IsSolution job xs → length xs ≡ length job.plan.streams
solution_has_each job known xs solution =
    ap length (sym solution.meets) ∙ equations_are_as_many job xs known (solution_keeps job known xs solution)
