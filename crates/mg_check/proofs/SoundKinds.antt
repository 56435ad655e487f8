-- Whoever does the work of a node, its law has parameters in their ranges and that law's shape, which has the ports of the node.
use Rattle.std.proofs.Common.{◌≡◌, ℕ, List, [], length, ◌&&◌, Option, None, Some, option_map, slice_get, All, IfSome, IsSome, IsSomeAnd, refl, sym, ap, subst, ◌∙◌, eqb-true}
use Rattle.std.specs.Prelude.{option_and_then}
use Rattle.std.proofs.lemmas.Bool.{and_parts}
use Rattle.std.proofs.lemmas.Option.{cond_some, none-some, same_Some, slice_get_within, get_or_from_slice_get}
use Rattle.mg_config.specs.Config.{NodeView}
use Rattle.mg_calc.specs.declared.law.Law.{Law}
use Rattle.mg_calc.specs.declared.shape.Shape.{Shape}
use Rattle.mg_calc.specs.declared.shape.OuterShape.{OuterShape}
use Rattle.mg_calc.specs.Shape.{ParametersFit, IsStated, IsShapeOf}
use Rattle.mg_kinds.specs.Ports.{has_just}
use Rattle.mg_kinds.specs.PortOrder.{in_order}
use Rattle.mg_kinds.specs.Kinds.{kind_ports, is_empty, SettingsView, kind_settings, shape_with, has_no_options}
use Rattle.mg_kinds.specs.declared.kind.CalculatorKind.{CalculatorKind}
use Rattle.mg_kinds.specs.declared.ports.Ports.{Ports}
use Rattle.mg_kinds.proofs.InOrder.{in_order-none}
use Rattle.mg_kinds.proofs.FitLaws.{kind-suits, kind-constants, kind-unstated}
use Rattle.mg_check.specs.Check.{IsOuterShape}
use Rattle.mg_check.specs.Drafts.{box_of}
use Rattle.mg_check.specs.Fitting.{may_be_outer, fits_outer, outer_ports, outer_settings, node_ports, node_settings, node_shape}
use Rattle.mg_check.specs.declared.node_kind.NodeKind.{NodeKind}
use Rattle.mg_check.specs.declared.node_kind.NodeKind.TheVariants.{BuiltIn, Outer}

-- a user-supplied calculator has this law and shape
pub record LooksSo (law : Law) (shape : Shape) (outer : OuterShape) : Type 0 where
  pub same_law : outer.law ≡ law
  pub same_shape : outer.shape ≡ shape

-- a node's ports, settings and shape go together
pub record Suits (outers : List OuterShape) (node : NodeView) (kind : NodeKind) (ps : Ports) (settings : SettingsView) (shape : Shape) : Type 0 where
  pub inputs : shape.inputs ≡ ps.inputs
  pub outputs : shape.outputs ≡ ps.outputs
  pub sides : shape.sides ≡ ps.sides
  pub parameters : ParametersFit settings.law
  pub shape_of : IsShapeOf settings.law shape
  pub constants : length (in_order node.output_sides) ≡ length settings.constants
  pub stated : IsStated settings.law → IsSome (box_of kind)
  pub outer : IfSome (box_of kind) (λ number. IsSomeAnd (slice_get outers number) (LooksSo settings.law shape))

suits_built_in : (outers : List OuterShape) (node : NodeView) (kind : CalculatorKind) (ps : Ports) (settings : SettingsView) (shape : Shape)
    → kind_ports kind node ≡ Some ps → kind_settings kind node ≡ Some settings → shape_with node.calculator ps settings.law ≡ shape → Suits outers node (BuiltIn kind) ps settings shape
suits_built_in outers node kind ps settings shape fit set looks =
    let law = kind-suits kind node ps settings node.calculator fit set in
    record {
      inputs = ap (λ s. s.inputs) (sym looks);
      outputs = ap (λ s. s.outputs) (sym looks);
      sides = ap (λ s. s.sides) (sym looks);
      parameters = law.0;
      shape_of = subst (IsShapeOf settings.law) looks law.1;
      constants = kind-constants kind node ps settings fit set;
      stated = λ is. absurd (kind-unstated kind node settings set is);
      outer = tt;
    }

suits_outer : (outers : List OuterShape) (node : NodeView) (number : ℕ) (outer : OuterShape) (ps : Ports) (settings : SettingsView) (shape : Shape) → IsOuterShape outer → slice_get outers number ≡ Some outer
    → outer_ports node outer ≡ Some ps → outer_settings node outer ≡ Some settings → outer.shape ≡ shape → Suits outers node (Outer number) ps settings shape
suits_outer outers node number outer ps settings shape is at fit set looks =
    let may = may_be_outer outer.law in
    let inputs = has_just node.inputs outer.shape.inputs in
    let outputs = has_just node.outputs outer.shape.outputs in
    let sides = has_just node.input_sides outer.shape.sides in
    let made : Ports = record { inputs = outer.shape.inputs; outputs = outer.shape.outputs; sides = outer.shape.sides } in
    let ports = cond_some (fits_outer node outer) made ps fit in
    let last = and_parts (may && inputs && outputs && sides) (is_empty node.output_sides) ports.0 in
    let third = and_parts (may && inputs && outputs) sides last.0 in
    let second = and_parts (may && inputs) outputs third.0 in
    let first = and_parts may inputs second.0 in
    let view : SettingsView = record { law = outer.law; constants = [] } in
    let options = cond_some (has_no_options node) view settings set in
    let law : outer.law ≡ settings.law = ap (λ s. s.law) options.1 in
    let so = is first.0 in
    record {
      inputs = ap (λ s. s.inputs) (sym looks) ∙ ap (λ p. p.inputs) ports.1;
      outputs = ap (λ s. s.outputs) (sym looks) ∙ ap (λ p. p.outputs) ports.1;
      sides = ap (λ s. s.sides) (sym looks) ∙ ap (λ p. p.sides) ports.1;
      parameters = subst ParametersFit law so.0;
      shape_of = subst (λ l. IsShapeOf l shape) law (subst (IsShapeOf outer.law) looks so.1);
      constants = in_order-none node.output_sides (eqb-true (length node.output_sides) 0 last.1) ∙ ap (λ s. length s.constants) options.1;
      stated = λ is. refl;
      outer = subst (λ o. IsSomeAnd o (LooksSo settings.law shape)) (sym at) (record { same_law = law; same_shape = looks });
    }

outer_is : (outers : List OuterShape) (number : ℕ) (outer : OuterShape) → All IsOuterShape outers → slice_get outers number ≡ Some outer → IsOuterShape outer
outer_is outers number outer all at = subst IsOuterShape (get_or_from_slice_get outers number outer outer at) (all number outer (slice_get_within outers number outer at))

pub suits : (outers : List OuterShape) (node : NodeView) (kind : NodeKind) (ps : Ports) (settings : SettingsView) (shape : Shape) → All IsOuterShape outers
    → node_ports outers node kind ≡ Some ps → node_settings outers node kind ≡ Some settings → node_shape outers node kind ps settings.law ≡ Some shape → Suits outers node kind ps settings shape
suits outers node (BuiltIn kind) ps settings shape all fit set looks =
    suits_built_in outers node kind ps settings shape fit set (same_Some (shape_with node.calculator ps settings.law) shape looks)
suits outers node (Outer number) ps settings shape all fit set looks = by (slice_get outers number) refl fit set looks
  where
    by : (o : Option OuterShape) → slice_get outers number ≡ o → option_and_then (outer_ports node) o ≡ Some ps → option_and_then (outer_settings node) o ≡ Some settings
        → option_map (λ outer. outer.shape) o ≡ Some shape → Suits outers node (Outer number) ps settings shape
    by None at fit set looks = absurd (none-some ps fit)
    by (Some outer) at fit set looks = suits_outer outers node number outer ps settings shape (outer_is outers number outer all at) at fit set (same_Some outer.shape shape looks)
