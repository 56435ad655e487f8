-- The last Close of a run.
use Rattle.mg_calc.specs.Rules.{Laws}
use Rattle.std.proofs.Common.{◌≡◌, ℕ, zero, suc, ◌==◌, Bool, true, false, List, [], ◌∷◌, length, Option, refl, sym, subst, ◌∙◌, ap, arith}
use Rattle.std.proofs.lemmas.Bool.Decides.{nat_tests}
use Rattle.mg_node.specs.Views.{OutcomeView, EntryView, EngineView}
use Rattle.mg_node.specs.WindingUp.{lacks_close, FinishesBack, FinishesEntry, FinishesFront, WindsUp}

pub winds_first : {laws : Laws} (before now : EngineView) → lacks_close before ≡ true → before.idle ≡ [] → FinishesFront laws before now → WindsUp laws before now
winds_first {laws} before now lacks none f = record {
  finishes = (λ l some. absurd (let e = ap length none in omega (arith, some, e)));
  had_close = (λ had. absurd (let e = sym lacks ∙ had in cc));
  none_idle = (λ l n. f);
}

pub had_close : {laws : Laws} (engine : EngineView) → lacks_close engine ≡ false → WindsUp laws engine engine
had_close {laws} engine had = record {
  finishes = (λ lacks some. absurd (let e = sym lacks ∙ had in cc));
  had_close = (λ h. refl);
  none_idle = (λ lacks none. absurd (let e = sym lacks ∙ had in cc));
}

-- a list that is tested to have no element has none
pub none_there : {X : Type 0} (items : List X) (n : ℕ) (b : Bool) → n ≡ length items → b ≡ (n == 0) → b ≡ true → items ≡ []
none_there [] n b long test is = refl
none_there (x ∷ items) zero b long test is = absurd (omega (arith, long))
none_there (x ∷ items) (suc n) b long test is = absurd (let e : (suc n == 0) ≡ true = sym test ∙ is in let none : suc n ≡ 0 = grind (arith, nat_tests, e) in omega (arith, none))

-- an entry whose work is finished
pub finishes_entry : {laws : Laws} (shown before : EntryView) (outcome : Option OutcomeView) → shown ≡ before → FinishesBack laws shown.outcome outcome
    → FinishesEntry laws before (record { phase = shown.phase; outcome = outcome; committed = shown.committed })
finishes_entry {laws} shown before outcome is finishes =
    subst (λ (e : EntryView). FinishesEntry laws e (record { phase = shown.phase; outcome = outcome; committed = shown.committed })) is (record { outcome = outcome; finishes = finishes; is = refl })
