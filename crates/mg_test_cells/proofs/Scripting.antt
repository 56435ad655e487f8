-- A calculator whose emissions are written down, with one input and one output.
use Rattle.std.proofs.Common.{◌≡◌, false, List, [], ◌∷◌, length, All, Option, ℤ, sym, refl, subst, arith}
use Rattle.std.specs.List.Sorted.{IsStrictlySortedBy}
use Rattle.std.proofs.lemmas.List.Elements.{All-from_recursion}
use Rattle.mg_value.specs.declared.kind.Kind.TheVariants.{Any}
use Rattle.mg_calc.specs.declared.emission.Laid.{Laid}
use Rattle.mg_calc.specs.declared.law.Law.TheVariants.{Scripted}
use Rattle.mg_calc.specs.declared.port_kind.PortKind.{PortKind}
use Rattle.mg_calc.specs.declared.shape.Shape.{Shape}
use Rattle.mg_calc.specs.Shape.{untagged, ArePorts, AreAnyInputs, AreEmissions, IsShapeOf}

one_port : ArePorts (untagged 1 Any)
unfolding IsStrictlySortedBy
one_port = (tt, tt)

no_port : ArePorts []
unfolding IsStrictlySortedBy
no_port = tt

any_input : AreAnyInputs (untagged 1 Any)
any_input = record { some = omega arith; ordered = one_port; any = All-from_recursion (λ (p : PortKind). p.kind ≡ Any) (untagged 1 Any) (refl, tt) }

pub scripted_shape : (offset : Option ℤ) (first step last : List Laid) (steps : List (List Laid)) (shape : Shape) → steps ≡ step ∷ [] → length first ≡ 1 → length step ≡ 1 → length last ≡ 1
    → shape.inputs ≡ untagged 1 Any → shape.outputs ≡ untagged 1 Any → shape.sides ≡ [] → shape.offset ≡ offset → shape.stateless ≡ false → IsShapeOf (Scripted offset first steps last) shape
scripted_shape offset first step last steps shape is first_one step_one last_one inputs outputs sides off stateless = record {
  inputs = subst AreAnyInputs (sym inputs) any_input;
  outputs = subst (λ (ps : List PortKind). ArePorts ps × AreEmissions (length ps) first steps last) (sym outputs) (
    one_port,
    record {
      at_open = first_one;
      at_sets = subst (λ (es : List (List Laid)). All (λ e. length e ≡ 1) es) (sym is) (All-from_recursion (λ (e : List Laid). length e ≡ 1) (step ∷ []) (step_one, tt));
      at_close = last_one;
    },
  );
  sides = subst ArePorts (sym sides) no_port;
  offset = off;
  stateless = stateless;
}
