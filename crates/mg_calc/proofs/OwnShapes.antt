-- A shape that passes the test is one of a stated law, whose offset it has. Ports of one tag stand in a list, one after another.
use Rattle.std.proofs.Common.{◌≡◌, ℕ, ◌+◌, List, [], ◌∷◌, ◌++◌, Bool, true, false, not, ◌&&◌, IsTrue, refl, sym, ap, ◌∙◌, arith}
use Rattle.std.proofs.lemmas.Bool.{false≢true}
use Rattle.std.specs.Ordering.{is_lt}
use Rattle.std.specs.List.{AllByRecursion}
use Rattle.std.specs.List.Sorted.{IsStrictlySortedBy}
use Rattle.std.specs.declared.cmp.Ordering.{Ordering}
use Rattle.std.specs.declared.cmp.Ordering.TheVariants.{Less, Equal, Greater}
use Rattle.std.proofs.lemmas.List.FromFn.{map-range_with_len_more}
use Rattle.mg_value.specs.Plain.{Plain}
use Rattle.mg_value.specs.declared.kind.Kind.{Kind}
use Rattle.mg_calc.specs.declared.law.Law.TheVariants.{Stated}
use Rattle.mg_calc.specs.declared.port_kind.PortKind.{PortKind}
use Rattle.mg_calc.specs.declared.shape.Shape.{Shape}
use Rattle.mg_calc.specs.Own.{is_below, are_in_order, are_inputs, is_own_shape}
use Rattle.mg_calc.specs.Rules.{Laws}
use Rattle.mg_calc.specs.Shape.{ArePorts, AreInputs, IsShapeOf, port_cmp, ports}
use Rattle.mg_calc.specs.Told.{CalculatorTold, IsOfLaw}

first : (a b : Bool) → IsTrue (a && b) → IsTrue a
first true b both = refl
first false b both = both

second : (a b : Bool) → IsTrue (a && b) → IsTrue b
second true b both = both
second false b both = search both

less : (o : Ordering) → IsTrue (is_lt o) → o ≡ Less
less Less is = refl
less Equal is = search is
less Greater is = search is

below : (port : PortKind) (ps : List PortKind) → IsTrue (is_below port ps) → AllByRecursion (λ p. port_cmp port p ≡ Less) ps
below port [] is = tt
below port (p ∷ ps) is =
    (less (port_cmp port p) (first (is_lt (port_cmp port p)) (is_below port ps) is), below port ps (second (is_lt (port_cmp port p)) (is_below port ps) is))

in_order : (ps : List PortKind) → IsTrue (are_in_order ps) → ArePorts ps
unfolding IsStrictlySortedBy
in_order [] are = tt
in_order (p ∷ ps) are = (below p ps (first (is_below p ps) (are_in_order ps) are), in_order ps (second (is_below p ps) (are_in_order ps) are))

inputs : (ps : List PortKind) → IsTrue (are_inputs ps) → AreInputs ps
inputs [] are = absurd (false≢true are)
inputs (p ∷ ps) are = record { some = omega arith; ordered = in_order (p ∷ ps) are }

stateful : (b : Bool) → IsTrue (not b) → b ≡ false
stateful false is = refl
stateful true is = search is

of_shape : (number : ℕ) (parameters : List Plain) (shape : Shape) → IsTrue (is_own_shape shape) → IsShapeOf (Stated number parameters shape.offset) shape
of_shape number parameters shape is =
    let rest = second (are_inputs shape.inputs) _ is in
    let last = second (are_in_order shape.outputs) _ rest in
    record {
      inputs = inputs shape.inputs (first (are_inputs shape.inputs) _ is);
      outputs = in_order shape.outputs (first (are_in_order shape.outputs) _ rest);
      sides = in_order shape.sides (first (are_in_order shape.sides) _ last);
      offset = refl;
      stateless = stateful shape.stateless (second (are_in_order shape.sides) _ last);
    }

-- a calculator of an author's own is one of its stated law
pub of_stated : (laws : Laws) (number : ℕ) (parameters : List Plain) (told : CalculatorTold) → laws number parameters ≡ told.rules → IsTrue (is_own_shape told.shape)
    → IsOfLaw laws (Stated number parameters told.shape.offset) told
of_stated laws number parameters told rules shape = record {
  rules = sym rules;
  shape = of_shape number parameters told.shape shape;
  outer = tt;
  served = tt;
  parameters = tt;
}

-- the ports of a tag, with one port more
pub one_more_port : (out new : List PortKind) (tag : List ℕ) (kind : Kind) (i : ℕ) → new ≡ out ++ record { tag = tag; index = i; kind = kind } ∷ []
    → out ≡ ports tag i kind → new ≡ ports tag (i + 1) kind
one_more_port out new tag kind i put known =
    put ∙ (ap (λ l. l ++ record { tag = tag; index = i; kind = kind } ∷ []) known
    ∙ sym (map-range_with_len_more (λ i. record { tag = tag; index = i; kind = kind }) 0 i i (omega arith)))
