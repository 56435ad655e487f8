-- What a calculator tells of itself, and what a call does to it.
use Rattle.std.specs.Prelude.{◌≡◌, List, [], ◌∷◌, ◌++◌, Option, option_map, unwrap_or, Result, Ok, Err, ⊤}
use Rattle.mg_value.specs.Plain.{Plain}
use Rattle.mg_calc.specs.declared.law.Law.{Law}
use Rattle.mg_calc.specs.declared.shape.Shape.{Shape}
use Rattle.mg_calc.specs.declared.call.Call.{Call}
use Rattle.mg_calc.specs.Rules.{Rules, Laws}
use Rattle.mg_calc.specs.Law.{table_rules, rules_of}
use Rattle.mg_calc.specs.Shape.{ParametersFit, IsShapeOf, IsOuter, IsServed}
use Rattle.mg_calc.specs.declared.cause.CalcFault.{CalcFault}
use Rattle.mg_calc.specs.declared.cause.CalcFault.TheVariants.{Fault, OutOfMemory}

-- what a user-supplied calculator tells of itself at a moment: its rules, shape and state, and, if it keeps a log, its calls so far
pub record CalculatorTold : Type 0 where
  pub rules : Rules
  pub shape : Shape
  pub state : List Plain
  pub log : Option (List Call)

-- the same of a calculator in its box, which has the law in place of the rules
pub record BoxTold : Type 0 where
  pub law : Law
  pub shape : Shape
  pub state : List Plain
  pub log : Option (List Call)

-- what a calculator tells of itself if it computes what the table has for its law
abbrev pub of_table : BoxTold → CalculatorTold
of_table told = record { rules = table_rules told.law; shape = told.shape; state = told.state; log = told.log }

-- what a calculator of a law tells in a box
abbrev pub in_box : Law → CalculatorTold → BoxTold
in_box law told = record { law = law; shape = told.shape; state = told.state; log = told.log }

-- a calculator computes a law: it has the law's rules, and its shape is one of that law. The law is one of those that are shown sets,
-- and its parameters are in their ranges.
pub record IsOfLaw (laws : Laws) (law : Law) (told : CalculatorTold) : Type 0 where
  pub rules : told.rules ≡ rules_of laws law
  pub shape : IsShapeOf law told.shape
  pub outer : IsOuter law
  pub served : IsServed law
  pub parameters : ParametersFit law

-- what Open leaves of the state: nothing if it fails, and the state as it was if it is out of memory
abbrev pub KeepsAtOpen : {X : Type 0} → Result X CalcFault → List Plain → List Plain → Type 0
KeepsAtOpen (Ok emission) before now = ⊤
KeepsAtOpen (Err (Fault cause)) before now = now ≡ []
KeepsAtOpen (Err OutOfMemory) before now = now ≡ before

-- a log with a further call after the others, if there is a log
abbrev pub with_call : Option (List Call) → Call → Option (List Call)
with_call log call = option_map (λ calls. calls ++ call ∷ []) log

-- a call that answers or fails comes into the log; a call that is out of memory doesn't
abbrev pub Logs : {E : Type 0} → Result E CalcFault → Option (List Call) → Option (List Call) → Call → Type 0
Logs (Ok emission) before now call = now ≡ with_call before call
Logs (Err (Fault cause)) before now call = now ≡ with_call before call
Logs (Err OutOfMemory) before now call = now ≡ before

-- the calls of a log, or no calls if there is no log
abbrev pub shown_calls : Option (List Call) → List Call
shown_calls log = unwrap_or log []
