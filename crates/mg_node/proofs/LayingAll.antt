-- The same of all outputs: what can be laid at the outputs of a stage can be laid at those that were raised meanwhile. A cause against the
-- one is the same against the other.
use Rattle.std.proofs.Common.{◌≡◌, ℕ, ℤ, List, [], ◌∷◌, map, Option, Some, None, Result, Ok, Err, ap, ap₂, sym, refl, subst, ◌∙◌, arith}
use Rattle.std.specs.List.{AllZip}
use Rattle.mg_time.specs.Time.{done, shift}
use Rattle.mg_value.specs.Payload.{Plain}
use Rattle.mg_value.specs.Packet.{Stamped}
use Rattle.mg_settled.specs.Prefix.{StreamPrefix, closed}
use Rattle.mg_settled.specs.Extension.{IsExtendedBy, AreExtendedBy}
use Rattle.mg_calc.specs.declared.cause.Cause.{Cause}
use Rattle.mg_calc.specs.declared.emission.Laid.{Laid}
use Rattle.mg_calc.specs.declared.node_fault.Phase.{Phase}
use Rattle.mg_calc.specs.declared.node_fault.Phase.TheVariants.{Process, Close}
use Rattle.mg_calc.specs.Laying.{after, with_laid, laid_behind, all_raised}
use Rattle.mg_calc.specs.Outcome.{Failure}
use Rattle.mg_calc.proofs.LaidBehind.{after_good}
use Rattle.mg_node.specs.Lawful.{IsRaised}
use Rattle.mg_node.specs.Commits.{raised_before, closed_after, laid_by, outputs_by, failure_by}
use Rattle.mg_node.proofs.LayingRaised.{Begins, raise_both, raise_raised, laid_too, none_raised}

-- an emission
pub record AllLaidToo (offset : Option ℤ) (phase : Phase) (rs : List (StreamPrefix Plain)) (emission : List Laid) (longer ts : List (StreamPrefix Plain)) : Type 0 where
  pub more : List (StreamPrefix Plain)
  pub goes : laid_behind offset phase rs emission ≡ Ok more
  pub are_raised : AllZip IsRaised longer more
  pub extended : AreExtendedBy longer ts → AreExtendedBy more ts

both_laid : (offset : Option ℤ) (phase : Phase) (r : StreamPrefix Plain) (rs : List (StreamPrefix Plain)) (laid : Laid) (emission : List Laid) (one : StreamPrefix Plain) (others : List (StreamPrefix Plain)) → with_laid offset phase r laid ≡ Ok one
    → laid_behind offset phase rs emission ≡ Ok others → laid_behind offset phase (r ∷ rs) (laid ∷ emission) ≡ Ok (one ∷ others)
both_laid offset phase r rs laid emission one others here rest =
    ap (λ (a : Result (StreamPrefix Plain) Cause). after a (λ l. after (laid_behind offset phase rs emission) (λ xs. Ok (l ∷ xs)))) here ∙ ap (λ (a : Result (List (StreamPrefix Plain)) Cause). after a (λ xs. Ok (one ∷ xs))) rest

emission_too : (offset : Option ℤ) (phase : Phase) (ss rs longer ts : List (StreamPrefix Plain)) (emission : List Laid) → AllZip IsRaised ss rs → AreExtendedBy rs ts → laid_behind offset phase ss emission ≡ Ok longer → AllZip Begins longer ts
    → AllLaidToo offset phase rs emission longer ts
emission_too offset phase ss rs longer ts [] up e h first = (let same : ss ≡ longer = cc in record {
  more = rs;
  goes = refl;
  are_raised = subst (λ (xs : List (StreamPrefix Plain)). AllZip IsRaised xs rs) same up;
  extended = (λ f. e);
})
emission_too offset phase [] [] longer ts (laid ∷ emission) up e h first = (let same : [] ≡ longer = cc in subst (λ (l : List (StreamPrefix Plain)). AllLaidToo offset phase [] (laid ∷ emission) l ts) same (record {
  more = [];
  goes = refl;
  are_raised = tt;
  extended = (λ f. f);
}))
emission_too offset phase [] (r ∷ rs) longer ts (laid ∷ emission) up e h first = absurd up
emission_too offset phase (s ∷ ss) [] longer ts (laid ∷ emission) up e h first = absurd up
emission_too offset phase (s ∷ ss) (r ∷ rs) longer [] (laid ∷ emission) up e h first = absurd e
emission_too offset phase (s ∷ ss) (r ∷ rs) longer (t ∷ ts) (laid ∷ emission) up e h first =
    let here = after_good (with_laid offset phase s laid) (λ l. after (laid_behind offset phase ss emission) (λ others. Ok (l ∷ others))) longer h in
    let rest = after_good (laid_behind offset phase ss emission) (λ others. Ok (here.0 ∷ others)) longer here.2 in
    let same : here.0 ∷ rest.0 ≡ longer = (let last = rest.2 in cc) in
    let begins : AllZip Begins (here.0 ∷ rest.0) (t ∷ ts) = subst (λ (l : List (StreamPrefix Plain)). AllZip Begins l (t ∷ ts)) (sym same) first in
    let one = laid_too offset phase s r here.0 t laid up.0 e.0 here.1 begins.0 in
    let others = emission_too offset phase ss rs rest.0 ts emission up.1 e.1 rest.1 begins.1 in
    let goes : laid_behind offset phase (r ∷ rs) (laid ∷ emission) ≡ Ok (one.more ∷ others.more) = both_laid offset phase r rs laid emission one.more others.more one.goes others.goes in
    subst (λ (l : List (StreamPrefix Plain)). AllLaidToo offset phase (r ∷ rs) (laid ∷ emission) l (t ∷ ts)) same (record {
      more = one.more ∷ others.more;
      goes = goes;
      are_raised = (one.is_raised, others.are_raised);
      extended = (λ f. (one.extended f.0, others.extended f.1));
    })

-- outputs before a phase
raise_each : (o : ℤ) (at : ℕ) (ss rs ts : List (StreamPrefix Plain)) → AllZip IsRaised ss rs → AreExtendedBy rs ts → AreExtendedBy (all_raised (Some o) at ss) ts → AllZip IsRaised (all_raised (Some o) at ss) (all_raised (Some o) at rs) × AreExtendedBy (all_raised (Some o) at rs) ts
raise_each o at [] [] ts up e f = (tt, e)
raise_each o at [] (r ∷ rs) ts up e f = absurd up
raise_each o at (s ∷ ss) [] ts up e f = absurd up
raise_each o at (s ∷ ss) (r ∷ rs) [] up e f = absurd e
raise_each o at (s ∷ ss) (r ∷ rs) (t ∷ ts) up e f =
    let rest = raise_each o at ss rs ts up.1 e.1 f.1 in
    ((raise_raised (shift at o) s r up.0, rest.0), (raise_both (shift at o) s r t up.0 e.0 f.0, rest.1))

raise_all : (offset : Option ℤ) (at : ℕ) (ss rs ts : List (StreamPrefix Plain)) → AllZip IsRaised ss rs → AreExtendedBy rs ts → AreExtendedBy (all_raised offset at ss) ts → AllZip IsRaised (all_raised offset at ss) (all_raised offset at rs) × AreExtendedBy (all_raised offset at rs) ts
raise_all None at ss rs ts up e f = (up, e)
raise_all (Some o) at ss rs ts up e f = raise_each o at ss rs ts up e f

before_too : (offset : Option ℤ) (phase : Phase) (ss rs ts : List (StreamPrefix Plain)) → AllZip IsRaised ss rs → AreExtendedBy rs ts → AreExtendedBy (raised_before offset phase ss) ts
    → AllZip IsRaised (raised_before offset phase ss) (raised_before offset phase rs) × AreExtendedBy (raised_before offset phase rs) ts
before_too offset (Process at) ss rs ts up e f = raise_all offset at ss rs ts up e f
before_too offset Close ss rs ts up e f = raise_all offset done ss rs ts up e f
before_too offset phase ss rs ts up e f = (up, e)

-- and after it
each_begins : (ls ts : List (StreamPrefix Plain)) → AreExtendedBy ls ts → AllZip Begins ls ts
each_begins [] [] e = tt
each_begins [] (t ∷ ts) e = absurd e
each_begins (l ∷ ls) [] e = absurd e
each_begins (l ∷ ls) (t ∷ ts) e = (record { further = e.0.further; packets = e.0.packets }, each_begins ls ts e.1)

closed_begin : (ls ts : List (StreamPrefix Plain)) → AreExtendedBy (map closed ls) ts → AllZip Begins ls ts
closed_begin [] [] e = tt
closed_begin [] (t ∷ ts) e = absurd e
closed_begin (l ∷ ls) [] e = absurd e
closed_begin (l ∷ ls) (t ∷ ts) e = (record { further = e.0.further; packets = e.0.packets }, closed_begin ls ts e.1)

begins_by : (phase : Phase) (ls ts : List (StreamPrefix Plain)) → AreExtendedBy (closed_after phase ls) ts → AllZip Begins ls ts
begins_by Close ls ts e = closed_begin ls ts e
begins_by phase ls ts e = each_begins ls ts e

closed_too : (ls ms ts : List (StreamPrefix Plain)) → AllZip IsRaised ls ms → AreExtendedBy (map closed ls) ts → AllZip IsRaised (map closed ls) (map closed ms) × AreExtendedBy (map closed ms) ts
closed_too [] [] ts up e = (tt, e)
closed_too [] (m ∷ ms) ts up e = absurd up
closed_too (l ∷ ls) [] ts up e = absurd up
closed_too (l ∷ ls) (m ∷ ms) [] up e = absurd e
closed_too (l ∷ ls) (m ∷ ms) (t ∷ ts) up e =
    let rest = closed_too ls ms ts up.1 e.1 in
    let same : closed l ≡ closed m = ap (λ (ps : List (Stamped Plain)). (let it : StreamPrefix Plain = record { packets = ps; bound = done } in it)) (sym up.0.packets) in
    ((record { packets = up.0.packets; bound = omega arith }, rest.0), (subst (λ (x : StreamPrefix Plain). IsExtendedBy x t) same e.0, rest.1))

after_too : (phase : Phase) (ls ms ts : List (StreamPrefix Plain)) → AllZip IsRaised ls ms → (AreExtendedBy ls ts → AreExtendedBy ms ts) → AreExtendedBy (closed_after phase ls) ts
    → AllZip IsRaised (closed_after phase ls) (closed_after phase ms) × AreExtendedBy (closed_after phase ms) ts
after_too Close ls ms ts up w e = closed_too ls ms ts up e
after_too phase ls ms ts up w e = (up, w e)

-- an answer that can be laid
pub record AnswerToo (offset : Option ℤ) (phase : Phase) (rs : List (StreamPrefix Plain)) (answer : Result (List Laid) Cause) (longer ts : List (StreamPrefix Plain)) : Type 0 where
  pub more : List (StreamPrefix Plain)
  pub goes : laid_by offset phase rs answer ≡ Ok more
  pub are_raised : AllZip IsRaised longer more
  pub extended : AreExtendedBy more ts

answer_too : (offset : Option ℤ) (phase : Phase) (ss rs longer ts : List (StreamPrefix Plain)) (answer : Result (List Laid) Cause) → AllZip IsRaised ss rs → AreExtendedBy rs ts → laid_by offset phase ss answer ≡ Ok longer → AreExtendedBy longer ts
    → AnswerToo offset phase rs answer longer ts
answer_too offset phase ss rs longer ts (Err cause) up e h f = absurd cc
answer_too offset phase ss rs longer ts (Ok emission) up e h f =
    let good = after_good (laid_behind offset phase ss emission) (λ l. Ok (closed_after phase l)) longer h in
    let same : closed_after phase good.0 ≡ longer = (let last = good.2 in cc) in
    let ends : AreExtendedBy (closed_after phase good.0) ts = subst (λ (l : List (StreamPrefix Plain)). AreExtendedBy l ts) (sym same) f in
    let it = emission_too offset phase ss rs good.0 ts emission up e good.1 (begins_by phase good.0 ts ends) in
    let both = after_too phase good.0 it.more ts it.are_raised it.extended ends in
    subst (λ (l : List (StreamPrefix Plain)). AnswerToo offset phase rs (Ok emission) l ts) same (record {
      more = closed_after phase it.more;
      goes = ap (λ (a : Result (List (StreamPrefix Plain)) Cause). after a (λ l. Ok (closed_after phase l))) it.goes;
      are_raised = both.0;
      extended = both.1;
    })

all_none_raised : (ss rs : List (StreamPrefix Plain)) → AllZip IsRaised ss rs → AreExtendedBy rs ss → rs ≡ ss
all_none_raised [] [] up e = refl
all_none_raised [] (r ∷ rs) up e = absurd up
all_none_raised (s ∷ ss) [] up e = absurd up
all_none_raised (s ∷ ss) (r ∷ rs) up e = ap₂ (λ (x : StreamPrefix Plain) (xs : List (StreamPrefix Plain)). x ∷ xs) (none_raised s r up.0 e.0) (all_none_raised ss rs up.1 e.1)

-- what becomes of outputs at an answer
abbrev pub outputs_at : Option ℤ → Phase → List (StreamPrefix Plain) → Result (List Laid) Cause → List (StreamPrefix Plain)
outputs_at offset phase outputs answer = outputs_by (raised_before offset phase outputs) (laid_by offset phase (raised_before offset phase outputs) answer)

abbrev pub failure_at : Option ℤ → Phase → List (StreamPrefix Plain) → Result (List Laid) Cause → Option Failure
failure_at offset phase outputs answer = failure_by phase (laid_by offset phase (raised_before offset phase outputs) answer)

-- outputs that were raised meanwhile reach those of the next stage, perhaps raised, and its fault
pub record ComesTo (outputs next ts : List (StreamPrefix Plain)) (fault next_fault : Option Failure) : Type 0 where
  pub are_raised : AllZip IsRaised next outputs
  pub extended : AreExtendedBy outputs ts
  pub same_fault : fault ≡ next_fault

comes_by : (offset : Option ℤ) (phase : Phase) (ss rs ts : List (StreamPrefix Plain)) (answer : Result (List Laid) Cause) (a : Result (List (StreamPrefix Plain)) Cause) → AllZip IsRaised ss rs → AreExtendedBy rs ts
    → laid_by offset phase ss answer ≡ a → AreExtendedBy (outputs_by ss a) ts → ((f : Failure) → failure_by phase a ≡ Some f → ts ≡ outputs_by ss a)
    → ComesTo (outputs_by rs (laid_by offset phase rs answer)) (outputs_by ss a) ts (failure_by phase (laid_by offset phase rs answer)) (failure_by phase a)
comes_by offset phase ss rs ts answer (Ok longer) up e is f frozen =
    let it = answer_too offset phase ss rs longer ts answer up e is f in
    subst (λ (b : Result (List (StreamPrefix Plain)) Cause). ComesTo (outputs_by rs b) longer ts (failure_by phase b) None) (sym it.goes) (record {
      are_raised = it.are_raised;
      extended = it.extended;
      same_fault = refl;
    })
comes_by offset phase ss rs ts answer (Err cause) up e is f frozen =
    let all : ts ≡ ss = frozen (record { phase = phase; cause = cause }) refl in
    let same : rs ≡ ss = all_none_raised ss rs up (subst (AreExtendedBy rs) all e) in
    let goes : laid_by offset phase rs answer ≡ Err cause = ap (λ (xs : List (StreamPrefix Plain)). laid_by offset phase xs answer) same ∙ is in
    subst (λ (b : Result (List (StreamPrefix Plain)) Cause). ComesTo (outputs_by rs b) ss ts (failure_by phase b) (Some (record { phase = phase; cause = cause }))) (sym goes) (record {
      are_raised = up;
      extended = e;
      same_fault = refl;
    })

pub comes_to : (offset : Option ℤ) (phase : Phase) (ss rs ts : List (StreamPrefix Plain)) (answer : Result (List Laid) Cause) → AllZip IsRaised ss rs → AreExtendedBy rs ts → AreExtendedBy (raised_before offset phase ss) ts
    → AreExtendedBy (outputs_at offset phase ss answer) ts → ((f : Failure) → failure_at offset phase ss answer ≡ Some f → ts ≡ outputs_at offset phase ss answer)
    → ComesTo (outputs_at offset phase rs answer) (outputs_at offset phase ss answer) ts (failure_at offset phase rs answer) (failure_at offset phase ss answer)
comes_to offset phase ss rs ts answer up e before f frozen =
    let first = before_too offset phase ss rs ts up e before in
    comes_by offset phase (raised_before offset phase ss) (raised_before offset phase rs) ts answer (laid_by offset phase (raised_before offset phase ss) answer) first.0 first.1 refl f frozen
