-- A node whose ports and options fit a built-in calculator has a law with parameters in their ranges, and its law's shape. It has a
-- constant for each side packet that it writes.
use Rattle.std.proofs.Common.{bytes_eq, ◌≡◌, ◌≢◌, ℕ, zero, suc, ◌≤◌, List, [], ◌∷◌, ◌++◌, length, map, Bool, true, false, not, ◌&&◌, ◌==◌, ℤ, pos, Option, None, Some, option_map, if◌then◌else◌, refl, sym, ap, subst, ◌∙◌, arith, inl, inr, ◌⊎◌, append-nil, eqb-true, codes}
use Rattle.std.specs.Prelude.{option_and_then}
use Rattle.std.proofs.lemmas.Bool.{and_parts, true≢false, eqb-false}
use Rattle.std.proofs.lemmas.List.{length-map}
use Rattle.std.proofs.lemmas.Option.{cond_some, none-some, same_Some}
use Rattle.mg_text.specs.View.{Value, Entry}
use Rattle.mg_time.specs.Time.{pre_stream, post_stream, place_of}
use Rattle.mg_value.specs.Plain.{Plain}
use Rattle.mg_value.specs.declared.kind.Kind.TheVariants.{Any, Flag, Items}
use Rattle.mg_names.specs.Ports.{has_port}
use Rattle.mg_config.specs.Values.{entries}
use Rattle.mg_config.specs.Config.{NodeView}
use Rattle.mg_calc.specs.declared.law.Law.{Law}
use Rattle.mg_calc.specs.declared.law.Law.TheVariants as law
use Rattle.mg_calc.specs.declared.port_kind.PortKind.{PortKind}
use Rattle.mg_calc.specs.Shape.{ParametersFit, IsStated, IsShapeOf, HasInputs, HasOutputs, HasSides, AreAnyInputs, control_tag, ports, untagged}
use Rattle.mg_kinds.specs.Ports.{has_just, ports_in, fitting}
use Rattle.mg_kinds.specs.PortOrder.{in_order}
use Rattle.mg_kinds.specs.Options.{calculator_options, set_to, number}
use Rattle.mg_calc.specs.declared.computations.ComputationKind.{ComputationKind}
use Rattle.mg_calc.specs.Computations.{kind_row}
use Rattle.mg_kinds.specs.Values.{required, payload_in, payloads_in, call_count, keep_in}
use Rattle.mg_kinds.specs.Kinds.{lanes_of, disallows, moment_of, inputs_of, outputs_of, sides_of, side_outputs_of, side_ports, rowed_ports, passed_ports, kind_ports, is_empty, SettingsView, law_with, constants_with, settings_with, are_options, kind_settings, shape_with, time_of, gate_law, thinner_law, thins, computing, compute_law, settings_of, filter_law_of, shift_law, counting_law, limiter_law, merge_law, begin_law, end_law, clones_of, flight_or_one, truth_or_false, positive_or_one, timestamp_or_zero}
use Rattle.mg_kinds.specs.Tags.{tag_text}
use Rattle.mg_kinds.specs.declared.ports.Ports.{Ports}
use Rattle.mg_kinds.specs.declared.tag.Tag.{Tag}
use Rattle.mg_kinds.specs.declared.tag.Tag.TheVariants.{Allow, Disallow, AtPreStream, AtZero, AtPostStream}
use Rattle.mg_kinds.specs.declared.kind.CalculatorKind.{CalculatorKind}
use Rattle.mg_kinds.specs.declared.kind.CalculatorKind.TheVariants.{PassThrough, Gate, Mux, Cloner, Merge, Thinner, Compute, Filter, Shift, Counting, SideToStream, Constants, Loopback, FlowLimiter, BeginLoop, EndLoop}
use Rattle.mg_kinds.proofs.InOrder.{in_order-ascends, in_order-any, in_order-some, in_order-none}
use Rattle.mg_kinds.proofs.InRow.{fits-row, one-tag}
use Rattle.mg_text.proofs.Choices.{mapped}
use Rattle.mg_kinds.proofs.Made.{made_by}
use Rattle.mg_kinds.proofs.InRange.{positive-least, timestamp-in-range, calls-most, flight-in-range}

-- Ports.

-- the ports of a calculator that has rows
record IsRowed (kind : CalculatorKind) (node : NodeView) (ps : Ports) : Type 0 where
  some : 1 ≤ lanes_of kind node
  most : (inputs_of kind node).count ≤ 64
  inputs : ps.inputs ≡ ports_in (inputs_of kind node)
  outputs : ps.outputs ≡ ports_in (outputs_of kind node)
  sides : ps.sides ≡ ports_in (sides_of kind)
  written : has_just node.output_sides (ports_in (side_outputs_of kind node)) ≡ true

from_zero : (n : ℕ) (o : Option Ports) (ps : Ports) → (if n == 0 then None else o) ≡ Some ps → (1 ≤ n) × (o ≡ Some ps)
from_zero n o ps e = by (n == 0) refl e
  where
    by : (t : Bool) → (n == 0) ≡ t → (if t then None else o) ≡ Some ps → (1 ≤ n) × (o ≡ Some ps)
    by true is e = absurd (none-some ps e)
    by false is e = let apart : n ≡ 0 → ⊥ = eqb-false n 0 is in (omega arith, e)

abbrev with_outputs : CalculatorKind → NodeView → List PortKind → List PortKind → Option Ports
with_outputs kind node inputs outputs = option_map (λ sides. record { inputs = inputs; outputs = outputs; sides = sides }) (side_ports kind node)

abbrev with_inputs : CalculatorKind → NodeView → List PortKind → Option Ports
with_inputs kind node inputs = option_and_then (with_outputs kind node inputs) (fitting node.outputs (outputs_of kind node))

is_rowed : (kind : CalculatorKind) (node : NodeView) (ps : Ports) → rowed_ports kind node ≡ Some ps → IsRowed kind node ps
is_rowed kind node ps e =
    let fit = from_zero (lanes_of kind node) (option_and_then (with_inputs kind node) (fitting node.inputs (inputs_of kind node))) ps e in
    let i = made_by (with_inputs kind node) (fitting node.inputs (inputs_of kind node)) ps fit.1 in
    let o = made_by (with_outputs kind node i.0) (fitting node.outputs (outputs_of kind node)) ps i.2 in
    let s = mapped (λ sides. record { inputs = i.0; outputs = o.0; sides = sides }) (side_ports kind node) ps o.2 in
    let w = made_by (λ _. fitting node.input_sides (sides_of kind)) (fitting node.output_sides (side_outputs_of kind node)) s.0 s.1 in
    let inputs = fits-row node.inputs (inputs_of kind node) i.0 i.1 in
    let outputs = fits-row node.outputs (outputs_of kind node) o.0 o.1 in
    let sides = fits-row node.input_sides (sides_of kind) s.0 w.2 in
    let written = fits-row node.output_sides (side_outputs_of kind node) w.0 w.1 in
    record {
      some = fit.0;
      most = inputs.most;
      inputs = ap (λ p. p.inputs) (sym s.2) ∙ inputs.same;
      outputs = ap (λ p. p.outputs) (sym s.2) ∙ outputs.same;
      sides = ap (λ p. p.sides) (sym s.2) ∙ sides.same;
      written = written.just;
    }

-- the ports of a PassThroughCalculator
record IsPassed (node : NodeView) (ps : Ports) : Type 0 where
  inputs : ps.inputs ≡ in_order node.inputs
  outputs : ps.outputs ≡ in_order node.inputs
  sides : ps.sides ≡ []
  some : 1 ≤ length node.inputs
  written : length node.output_sides ≡ 0

not_none : (n : ℕ) → not (n == 0) ≡ true → 1 ≤ n
not_none zero e = absurd (true≢false (sym e))
not_none (suc n) e = omega arith

is_passed : (node : NodeView) (ps : Ports) → passed_ports node ≡ Some ps → IsPassed node ps
is_passed node ps e =
    let made : Ports = record { inputs = in_order node.inputs; outputs = in_order node.inputs; sides = [] } in
    let a = not (is_empty node.inputs) in
    let b = has_just node.outputs (in_order node.inputs) in
    let c = is_empty node.input_sides in
    let d = is_empty node.output_sides in
    let both = cond_some (a && b && c && d) made ps e in
    let third = and_parts (a && b && c) d both.0 in
    let second = and_parts (a && b) c third.0 in
    let first = and_parts a b second.0 in
    record {
      inputs = ap (λ p. p.inputs) (sym both.1);
      outputs = ap (λ p. p.outputs) (sym both.1);
      sides = ap (λ p. p.sides) (sym both.1);
      some = not_none (length node.inputs) first.0;
      written = eqb-true (length node.output_sides) 0 third.1;
    }

-- The law of a node, and the shape that it makes.

abbrev Suits : List ℕ → Ports → Law → Type 0
Suits name ps rule = ParametersFit rule × IsShapeOf rule (shape_with name ps rule)

shaped : (name : List ℕ) (ps : Ports) (rule : Law) → HasInputs rule ps.inputs → HasOutputs rule ps.inputs ps.outputs → HasSides rule ps.sides → IsShapeOf rule (shape_with name ps rule)
shaped name ps rule inputs outputs sides = record { inputs = inputs; outputs = outputs; sides = sides; offset = refl; stateless = refl }

control_text : (t : Bool) → tag_text (if t then Disallow else Allow) ≡ control_tag t
control_text true = refl
control_text false = refl

suits_gate : (node : NodeView) (options : List Entry) (name : List ℕ) (ps : Ports) (rule : Law) → IsRowed Gate node ps → gate_law node options ≡ Some rule → Suits name ps rule
suits_gate node options name ps rule h e =
    let lanes = lanes_of Gate node in
    let made = mapped (λ empty. law.Gate lanes (disallows node) empty) (truth_or_false (codes "empty_packets_as_allow") options) rule e in
    let control = ap (λ tag. ports [] lanes Any ++ (record { tag = tag; index = 0; kind = Flag } ∷ [])) (control_text (disallows node)) in
    subst (Suits name ps) made.2
    ((h.some, h.most), shaped name ps (law.Gate lanes (disallows node) made.0) (h.inputs ∙ control) (h.outputs ∙ append-nil (untagged lanes Any)) h.sides)

suits_thinner : (node : NodeView) (options : List Entry) (name : List ℕ) (ps : Ports) (rule : Law) → IsRowed Thinner node ps → thinner_law options ≡ Some rule → Suits name ps rule
suits_thinner node options name ps rule h e = by (thins options) e
  where
    by : (t : Bool) → (if t then option_map law.Thin (positive_or_one (codes "period") options) else None) ≡ Some rule → Suits name ps rule
    by true e =
        let made = mapped law.Thin (positive_or_one (codes "period") options) rule e in
        subst (Suits name ps) made.2 (positive-least (codes "period") options made.0 made.1, shaped name ps (law.Thin made.0) h.inputs h.outputs h.sides)
    by false e = absurd (none-some rule e)

suits_compute : (kind : ComputationKind) (node : NodeView) (options : List Entry) (name : List ℕ) (ps : Ports) (rule : Law) → IsRowed (Compute kind) node ps → compute_law kind node options ≡ Some rule → Suits name ps rule
suits_compute kind node options name ps rule h e =
    let lanes = lanes_of (Compute kind) node in
    let wiring = (kind_row kind).wiring in
    let made = mapped (computing wiring lanes) ((kind_row kind).formula (settings_of (kind_row kind).options options)) rule e in
    subst (Suits name ps) made.2 ((h.some, h.most), shaped name ps (computing wiring lanes made.0) (h.inputs ∙ append-nil (untagged lanes wiring.takes)) h.outputs h.sides)

suits_filter : (node : NodeView) (options : List Entry) (name : List ℕ) (ps : Ports) (rule : Law) → IsRowed Filter node ps → filter_law_of options ≡ Some rule → Suits name ps rule
suits_filter node options name ps rule h e =
    let keep = made_by (λ keep. option_map (law.Filter keep) (truth_or_false (codes "raise_bound") options)) (required keep_in (set_to (codes "keep") options)) rule e in
    let made = mapped (law.Filter keep.0) (truth_or_false (codes "raise_bound") options) rule keep.2 in
    subst (Suits name ps) made.2 (tt, shaped name ps (law.Filter keep.0 made.0) h.inputs h.outputs h.sides)

suits_shift : (node : NodeView) (options : List Entry) (name : List ℕ) (ps : Ports) (rule : Law) → IsRowed Shift node ps → shift_law options ≡ Some rule → Suits name ps rule
suits_shift node options name ps rule h e =
    let made = mapped law.Shift (number (codes "offset") options) rule e in
    subst (Suits name ps) made.2 (tt, shaped name ps (law.Shift made.0) h.inputs h.outputs h.sides)

suits_counting : (node : NodeView) (options : List Entry) (name : List ℕ) (ps : Ports) (rule : Law) → IsRowed Counting node ps → counting_law options ≡ Some rule → Suits name ps rule
suits_counting node options name ps rule h e =
    let steps = λ (count : ℕ) (start : ℤ). option_map (law.Count count start) (positive_or_one (codes "step") options) in
    let starts = λ (count : ℕ). option_and_then (steps count) (timestamp_or_zero (codes "start") options) in
    let counted = set_to (codes "count") options in
    let count = made_by starts (required call_count counted) rule e in
    let value = made_by call_count counted count.0 count.1 in
    let start = made_by (steps count.0) (timestamp_or_zero (codes "start") options) rule count.2 in
    let made = mapped (law.Count count.0 start.0) (positive_or_one (codes "step") options) rule start.2 in
    subst (Suits name ps) made.2 (
      (calls-most value.0 count.0 value.2, timestamp-in-range (codes "start") options start.0 start.1, positive-least (codes "step") options made.0 made.1),
      shaped name ps (law.Count count.0 start.0 made.0) h.inputs h.outputs h.sides,
    )

suits_limiter : (node : NodeView) (options : List Entry) (name : List ℕ) (ps : Ports) (rule : Law) → IsRowed FlowLimiter node ps → limiter_law options ≡ Some rule → Suits name ps rule
suits_limiter node options name ps rule h e =
    let made = mapped law.Limiter (flight_or_one (codes "max_in_flight") options) rule e in
    subst (Suits name ps) made.2 (flight-in-range (codes "max_in_flight") options made.0 made.1, shaped name ps (law.Limiter made.0) h.inputs h.outputs h.sides)

suits_begin : (node : NodeView) (options : List Entry) (name : List ℕ) (ps : Ports) (rule : Law) → IsRowed BeginLoop node ps → begin_law node options ≡ Some rule → Suits name ps rule
suits_begin node options name ps rule h e =
    let made = mapped (law.BeginLoop (clones_of node)) (truth_or_false (codes "always_end") options) rule e in
    subst (Suits name ps) made.2 (h.most, shaped name ps (law.BeginLoop (clones_of node) made.0) h.inputs h.outputs h.sides)

suits_end : (node : NodeView) (options : List Entry) (name : List ℕ) (ps : Ports) (rule : Law) → IsRowed EndLoop node ps → end_law options ≡ Some rule → Suits name ps rule
suits_end node options name ps rule h e =
    let made = mapped law.EndLoop (truth_or_false (codes "empty_as_bound") options) rule e in
    subst (Suits name ps) made.2 (tt, shaped name ps (law.EndLoop made.0) h.inputs h.outputs h.sides)

-- a MergeCalculator has the same ports with either handler
suits_merge : (node : NodeView) (name : List ℕ) (ps : Ports) → IsRowed Merge node ps → Suits name ps (merge_law node)
suits_merge node name ps h = by (bytes_eq node.handler (codes "ImmediateInputStreamHandler"))
  where
    by : (t : Bool) → Suits name ps (if t then law.FirstCome (lanes_of Merge node) else law.Merge (lanes_of Merge node))
    by true = ((h.some, h.most), shaped name ps (law.FirstCome (lanes_of Merge node)) (h.inputs ∙ append-nil (untagged (lanes_of Merge node) Any)) h.outputs h.sides)
    by false = ((h.some, h.most), shaped name ps (law.Merge (lanes_of Merge node)) (h.inputs ∙ append-nil (untagged (lanes_of Merge node) Any)) h.outputs h.sides)

-- the time of SideOnce goes with its output's tag
moment_suits : (moment : Tag) (name : List ℕ) (ps : Ports) → (moment ≡ AtPreStream) ⊎ (moment ≡ AtZero) ⊎ (moment ≡ AtPostStream)
    → ps.inputs ≡ [] → ps.outputs ≡ ports (tag_text moment) 1 Any → ps.sides ≡ untagged 1 Any → Suits name ps (law.SideOnce (time_of moment))
moment_suits moment name ps (inl is) inputs outputs sides =
    let at : time_of moment ≡ pre_stream = ap time_of is in
    (inl at, shaped name ps (law.SideOnce (time_of moment)) inputs (inl (at, outputs ∙ ap (λ m. ports (tag_text m) 1 Any) is)) sides)
moment_suits moment name ps (inr (inl is)) inputs outputs sides =
    let at : time_of moment ≡ place_of (pos 0) = ap time_of is in
    (inr (inl at), shaped name ps (law.SideOnce (time_of moment)) inputs (inr (inl (at, outputs ∙ ap (λ m. ports (tag_text m) 1 Any) is))) sides)
moment_suits moment name ps (inr (inr is)) inputs outputs sides =
    let at : time_of moment ≡ post_stream = ap time_of is in
    (inr (inr at), shaped name ps (law.SideOnce (time_of moment)) inputs (inr (inr (at, outputs ∙ ap (λ m. ports (tag_text m) 1 Any) is))) sides)

moments : (a b : Bool) → let moment = if a then AtPreStream else (if b then AtZero else AtPostStream) in (moment ≡ AtPreStream) ⊎ (moment ≡ AtZero) ⊎ (moment ≡ AtPostStream)
moments true b = inl refl
moments false true = inr (inl refl)
moments false false = inr (inr refl)

suits_rowed : (kind : CalculatorKind) (node : NodeView) (options : List Entry) (name : List ℕ) (ps : Ports) (rule : Law) → rowed_ports kind node ≡ Some ps → law_with kind node options ≡ Some rule → kind ≢ PassThrough → Suits name ps rule
suits_rowed PassThrough node options name ps rule fit e other = absurd (other refl)
suits_rowed Gate node options name ps rule fit e other = suits_gate node options name ps rule (is_rowed Gate node ps fit) e
suits_rowed Mux node options name ps rule fit e other =
    let h = is_rowed Mux node ps fit in
    subst (Suits name ps) (same_Some (law.Mux (lanes_of Mux node)) rule e) ((h.some, h.most), shaped name ps (law.Mux (lanes_of Mux node)) h.inputs h.outputs h.sides)
suits_rowed Cloner node options name ps rule fit e other =
    let h = is_rowed Cloner node ps fit in
    subst (Suits name ps) (same_Some (law.Cloner (lanes_of Cloner node)) rule e)
    ((h.some, h.most), shaped name ps (law.Cloner (lanes_of Cloner node)) h.inputs (h.outputs ∙ append-nil (untagged (lanes_of Cloner node) Any)) h.sides)
suits_rowed Merge node options name ps rule fit e other = subst (Suits name ps) (same_Some (merge_law node) rule e) (suits_merge node name ps (is_rowed Merge node ps fit))
suits_rowed Thinner node options name ps rule fit e other = suits_thinner node options name ps rule (is_rowed Thinner node ps fit) e
suits_rowed (Compute kind) node options name ps rule fit e other = suits_compute kind node options name ps rule (is_rowed (Compute kind) node ps fit) e
suits_rowed Filter node options name ps rule fit e other = suits_filter node options name ps rule (is_rowed Filter node ps fit) e
suits_rowed FlowLimiter node options name ps rule fit e other = suits_limiter node options name ps rule (is_rowed FlowLimiter node ps fit) e
suits_rowed BeginLoop node options name ps rule fit e other = suits_begin node options name ps rule (is_rowed BeginLoop node ps fit) e
suits_rowed EndLoop node options name ps rule fit e other = suits_end node options name ps rule (is_rowed EndLoop node ps fit) e
suits_rowed Shift node options name ps rule fit e other = suits_shift node options name ps rule (is_rowed Shift node ps fit) e
suits_rowed Counting node options name ps rule fit e other = suits_counting node options name ps rule (is_rowed Counting node ps fit) e
suits_rowed SideToStream node options name ps rule fit e other =
    let h = is_rowed SideToStream node ps fit in
    subst (Suits name ps) (same_Some (law.SideOnce (time_of (moment_of node))) rule e)
    (moment_suits (moment_of node) name ps (moments (has_port (tag_text AtPreStream) 0 node.outputs) (has_port (tag_text AtZero) 0 node.outputs)) h.inputs h.outputs h.sides)
suits_rowed Constants node options name ps rule fit e other =
    let h = is_rowed Constants node ps fit in
    subst (Suits name ps) (same_Some law.Constants rule e) (tt, shaped name ps law.Constants h.inputs h.outputs h.sides)
suits_rowed Loopback node options name ps rule fit e other =
    let h = is_rowed Loopback node ps fit in
    subst (Suits name ps) (same_Some law.Loopback rule e) (tt, shaped name ps law.Loopback h.inputs h.outputs h.sides)

suits_passed : (node : NodeView) (name : List ℕ) (ps : Ports) → IsPassed node ps → Suits name ps law.Pass
suits_passed node name ps h =
    let any : AreAnyInputs (in_order node.inputs) = record { some = in_order-some node.inputs h.some; ordered = in_order-ascends node.inputs; any = in_order-any node.inputs } in
    (tt, shaped name ps law.Pass (subst AreAnyInputs (sym h.inputs) any) (h.outputs ∙ sym h.inputs) h.sides)

-- What the settings of a node are made of.
record IsSet (kind : CalculatorKind) (node : NodeView) (settings : SettingsView) : Type 0 where
  options : List Entry
  rule : law_with kind node options ≡ Some settings.law
  constants : constants_with kind node options ≡ Some settings.constants

is_set : (kind : CalculatorKind) (node : NodeView) (settings : SettingsView) → kind_settings kind node ≡ Some settings → IsSet kind node settings
is_set kind node settings e =
    let read = made_by (settings_with kind node) (calculator_options node.calculator (entries node.options)) settings e in
    by read.0 (are_options kind read.0) read.2
  where
    by : (options : List Entry) (t : Bool) → (if t then option_and_then (λ rule. option_map (λ constants. record { law = rule; constants = constants }) (constants_with kind node options)) (law_with kind node options) else None) ≡ Some settings
        → IsSet kind node settings
    by options true e =
        let rule = made_by (λ rule. option_map (λ constants. record { law = rule; constants = constants }) (constants_with kind node options)) (law_with kind node options) settings e in
        let made = mapped (λ constants. record { law = rule.0; constants = constants }) (constants_with kind node options) settings rule.2 in
        record { options = options; rule = rule.1 ∙ ap (λ s. Some s.law) made.2; constants = made.1 ∙ ap (λ s. Some s.constants) made.2 }
    by options false e = absurd (none-some settings e)

pub kind-suits : (kind : CalculatorKind) (node : NodeView) (ps : Ports) (settings : SettingsView) (name : List ℕ) → kind_ports kind node ≡ Some ps → kind_settings kind node ≡ Some settings
    → ParametersFit settings.law × IsShapeOf settings.law (shape_with name ps settings.law)
kind-suits kind node ps settings name fit e = by kind fit (is_set kind node settings e)
  where
    by : (kind : CalculatorKind) → kind_ports kind node ≡ Some ps → IsSet kind node settings → Suits name ps settings.law
    by PassThrough fit h = subst (Suits name ps) (same_Some law.Pass settings.law h.rule) (suits_passed node name ps (is_passed node ps fit))
    by kind fit h = suits_rowed kind node h.options name ps settings.law fit h.rule (λ same. cc)

-- No calculator of the table has a law that its author states.

abbrev IsUnstated : Law → Type 0
IsUnstated rule = IsStated rule → ⊥

-- each law that is made of options is one of a kind that isn't stated
thin-unstated : (options : List Entry) (t : Bool) (rule : Law) → (if t then option_map law.Thin (positive_or_one (codes "period") options) else None) ≡ Some rule → IsUnstated rule
thin-unstated options true rule e = (let made = mapped law.Thin (positive_or_one (codes "period") options) rule e in subst IsUnstated made.2 (λ is. is))
thin-unstated options false rule e = absurd (none-some rule e)

merge-unstated : (node : NodeView) (t : Bool) → IsUnstated (if t then law.FirstCome (lanes_of Merge node) else law.Merge (lanes_of Merge node))
merge-unstated node true = λ is. is
merge-unstated node false = λ is. is

filter-unstated : (options : List Entry) (rule : Law) → filter_law_of options ≡ Some rule → IsUnstated rule
filter-unstated options rule e =
    let keep = made_by (λ keep. option_map (law.Filter keep) (truth_or_false (codes "raise_bound") options)) (required keep_in (set_to (codes "keep") options)) rule e in
    let made = mapped (law.Filter keep.0) (truth_or_false (codes "raise_bound") options) rule keep.2 in
    subst IsUnstated made.2 (λ is. is)

count-unstated : (options : List Entry) (rule : Law) → counting_law options ≡ Some rule → IsUnstated rule
count-unstated options rule e =
    let steps = λ (count : ℕ) (start : ℤ). option_map (law.Count count start) (positive_or_one (codes "step") options) in
    let starts = λ (count : ℕ). option_and_then (steps count) (timestamp_or_zero (codes "start") options) in
    let count = made_by starts (required call_count (set_to (codes "count") options)) rule e in
    let start = made_by (steps count.0) (timestamp_or_zero (codes "start") options) rule count.2 in
    let made = mapped (law.Count count.0 start.0) (positive_or_one (codes "step") options) rule start.2 in
    subst IsUnstated made.2 (λ is. is)

law-unstated : (kind : CalculatorKind) (node : NodeView) (options : List Entry) (rule : Law) → law_with kind node options ≡ Some rule → IsUnstated rule
law-unstated PassThrough node options rule e = subst IsUnstated (same_Some law.Pass rule e) (λ is. is)
law-unstated Gate node options rule e =
    let made = mapped (λ empty. law.Gate (lanes_of Gate node) (disallows node) empty) (truth_or_false (codes "empty_packets_as_allow") options) rule e in
    subst IsUnstated made.2 (λ is. is)
law-unstated Mux node options rule e = subst IsUnstated (same_Some (law.Mux (lanes_of Mux node)) rule e) (λ is. is)
law-unstated Cloner node options rule e = subst IsUnstated (same_Some (law.Cloner (lanes_of Cloner node)) rule e) (λ is. is)
law-unstated Merge node options rule e = subst IsUnstated (same_Some (merge_law node) rule e) (merge-unstated node (bytes_eq node.handler (codes "ImmediateInputStreamHandler")))
law-unstated Thinner node options rule e = thin-unstated options (thins options) rule e
law-unstated (Compute kind) node options rule e =
    let made = mapped (computing (kind_row kind).wiring (lanes_of (Compute kind) node)) ((kind_row kind).formula (settings_of (kind_row kind).options options)) rule e in
    subst IsUnstated made.2 (λ is. is)
law-unstated Filter node options rule e = filter-unstated options rule e
law-unstated BeginLoop node options rule e = (let made = mapped (law.BeginLoop (clones_of node)) (truth_or_false (codes "always_end") options) rule e in subst IsUnstated made.2 (λ is. is))
law-unstated EndLoop node options rule e = (let made = mapped law.EndLoop (truth_or_false (codes "empty_as_bound") options) rule e in subst IsUnstated made.2 (λ is. is))
law-unstated Shift node options rule e = (let made = mapped law.Shift (number (codes "offset") options) rule e in subst IsUnstated made.2 (λ is. is))
law-unstated Counting node options rule e = count-unstated options rule e
law-unstated SideToStream node options rule e = subst IsUnstated (same_Some (law.SideOnce (time_of (moment_of node))) rule e) (λ is. is)
law-unstated Constants node options rule e = subst IsUnstated (same_Some law.Constants rule e) (λ is. is)
law-unstated Loopback node options rule e = subst IsUnstated (same_Some law.Loopback rule e) (λ is. is)
law-unstated FlowLimiter node options rule e = (let made = mapped law.Limiter (flight_or_one (codes "max_in_flight") options) rule e in subst IsUnstated made.2 (λ is. is))

-- no node of a kind of the table has a stated law
pub kind-unstated : (kind : CalculatorKind) (node : NodeView) (settings : SettingsView) → kind_settings kind node ≡ Some settings → IsStated settings.law → ⊥
kind-unstated kind node settings e = (let h = is_set kind node settings e in law-unstated kind node h.options settings.law h.rule)

-- The side packets that a node writes, and what they are.

side_last : (kind : CalculatorKind) (node : NodeView) → (side_outputs_of kind node).last ≡ None
side_last Constants node = refl
side_last kind node = refl

side_first : (kind : CalculatorKind) (node : NodeView) → (side_outputs_of kind node).first ≡ None
side_first Constants node = refl
side_first kind node = refl

payloads_length : (values : List Value) (payloads : List Plain) → payloads_in values ≡ Some payloads → length payloads ≡ length values
payloads_length [] payloads e = ap length (sym (same_Some [] payloads e))
payloads_length (value ∷ values) payloads e =
    let first = made_by (λ payload. option_map (λ payloads. payload ∷ payloads) (payloads_in values)) (payload_in value) payloads e in
    let made = mapped (λ payloads. first.0 ∷ payloads) (payloads_in values) payloads first.2 in
    ap length (sym made.2) ∙ ap suc (payloads_length values made.0 made.1)

constants_length : (kind : CalculatorKind) (node : NodeView) (options : List Entry) (constants : List Plain) → constants_with kind node options ≡ Some constants → length constants ≡ (side_outputs_of kind node).count
constants_length Constants node options constants e = by (length options == lanes_of Constants node) refl e
  where
    by : (t : Bool) → (length options == lanes_of Constants node) ≡ t → (if t then payloads_in (map (λ option. option.value) options) else None) ≡ Some constants → length constants ≡ lanes_of Constants node
    by true is e = payloads_length (map (λ option. option.value) options) constants e ∙ length-map options (λ option. option.value) ∙ eqb-true (length options) (lanes_of Constants node) is
    by false is e = absurd (none-some constants e)
constants_length kind node options constants e = ap length (sym (same_Some [] constants e))

written_count : (kind : CalculatorKind) (node : NodeView) (ps : Ports) → kind_ports kind node ≡ Some ps → length (in_order node.output_sides) ≡ (side_outputs_of kind node).count
written_count PassThrough node ps fit = in_order-none node.output_sides (is_passed node ps fit).written
written_count kind node ps fit = one-tag node.output_sides (side_outputs_of kind node) (side_first kind node) (side_last kind node) (is_rowed kind node ps fit).written

-- the constants are as many as the side packets that the node writes
pub kind-constants : (kind : CalculatorKind) (node : NodeView) (ps : Ports) (settings : SettingsView) → kind_ports kind node ≡ Some ps → kind_settings kind node ≡ Some settings
    → length (in_order node.output_sides) ≡ length settings.constants
kind-constants kind node ps settings fit e =
    let h = is_set kind node settings e in
    written_count kind node ps fit ∙ sym (constants_length kind node h.options settings.constants h.constants)
