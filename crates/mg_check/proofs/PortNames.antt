-- The names at ports, and the draft that is made of them.
use Rattle.std.proofs.Common.{ℕ, ◌≡◌, List, [], Option, None, Some, Bool, sym, ap, ◌∙◌, not}
use Rattle.std.specs.Prelude.{position, slice_get, option_map, unwrap_or}
use Rattle.std.specs.List.{list_any}
use Rattle.mg_value.specs.declared.policy.Policy.{Policy}
use Rattle.mg_names.specs.Ports.{is_at, place_of}
use Rattle.mg_names.specs.declared.port.Port.{Port}
use Rattle.mg_config.specs.Config.{NodeView}
use Rattle.mg_calc.specs.declared.port_kind.PortKind.{PortKind}
use Rattle.mg_calc.specs.declared.shape.Shape.{Shape}
use Rattle.mg_kinds.specs.Kinds.{SettingsView, names_of}
use Rattle.mg_kinds.specs.declared.ports.Ports.{Ports}
use Rattle.mg_subgraph.proofs.Indexed.{place_found, place_none}
use Rattle.mg_check.specs.Drafts.{DraftView, name_at, label_of, flight_of, box_of, may_be_back, back_of, draft_with}
use Rattle.mg_check.specs.Code.Judged.{AreTexts}
use Rattle.mg_check.specs.declared.node_kind.NodeKind.{NodeKind}
use Rattle.mg_check.specs.declared.port_texts.PortTexts.{PortTexts}

same_place : (given : List Port) (p : PortKind) (tag : List ℕ) (found : Option ℕ) → tag ≡ p.tag → found ≡ place_of tag p.index given → position (is_at p.tag p.index) given ≡ found
same_place given p tag found same known = sym (known ∙ ap (λ t. place_of t p.index given) same)

pub no_text : (given : List Port) (p : PortKind) (tag : List ℕ) → tag ≡ p.tag → None ≡ place_of tag p.index given → [] ≡ name_at given p
no_text given p tag same known = sym (ap (λ o. unwrap_or (option_map (λ port. port.name) o) []) (place_none (is_at p.tag p.index) given (same_place given p tag None same known)))

pub text_found : (given : List Port) (p : PortKind) (tag : List ℕ) (place : ℕ) (port : Port) (text : List ℕ) → tag ≡ p.tag → Some place ≡ place_of tag p.index given → Some port ≡ slice_get given place
    → text ≡ port.name → text ≡ name_at given p
text_found given p tag place port text same known got is =
    let found = place_found (is_at p.tag p.index) given place (same_place given p tag (Some place) same known) in
    let both : Some port ≡ Some found.0 = got ∙ found.1 in
    is ∙ (ap (λ o. unwrap_or (option_map (λ q. q.name) o) []) both ∙ sym (ap (λ o. unwrap_or (option_map (λ q. q.name) o) []) found.2))

pub text_lost : (given : List Port) (p : PortKind) (tag : List ℕ) (place : ℕ) → tag ≡ p.tag → Some place ≡ place_of tag p.index given → None ≡ slice_get given place → ⊥
text_lost given p tag place same known lost =
    let found = place_found (is_at p.tag p.index) given place (same_place given p tag (Some place) same known) in
    let both : None ≡ Some found.0 = lost ∙ found.1 in
    cc

-- a draft of these parts
abbrev pub the_draft : SettingsView → Policy → Shape → PortTexts → List ℕ → ℕ → Option ℕ → Option ℕ → Bool → DraftView
the_draft settings policy shape texts label flight box_number back misplaced = record {
  label = label;
  law = settings.law;
  shape = shape;
  inputs = names_of texts.inputs.items;
  outputs = names_of texts.outputs.items;
  sides = names_of texts.sides.items;
  side_outputs = names_of texts.side_outputs.items;
  constants = settings.constants;
  in_flight = flight;
  box_number = box_number;
  policy = policy;
  back = back;
  misplaced = misplaced;
}

pub draft_made : (node : NodeView) (kind : NodeKind) (ports : Ports) (settings : SettingsView) (policy : Policy) (shape : Shape) (texts : PortTexts) (label : List ℕ) (flight : ℕ) (box_number back : Option ℕ) (misplaced : Bool)
    → label ≡ label_of node → AreTexts texts node ports → flight ≡ flight_of (box_of kind) shape.stateless node.max_in_flight → box_number ≡ box_of kind
    → back ≡ back_of settings.law node.back_marks → misplaced ≡ list_any (λ mark. not (may_be_back settings.law mark)) node.back_marks
    → the_draft settings policy shape texts label flight box_number back misplaced ≡ draft_with node kind ports settings policy shape
draft_made node kind ports settings policy shape texts label flight box_number back misplaced e_label e_texts e_flight e_box e_back e_misplaced = λ t.
    record {
      label = e_label t;
      law = settings.law;
      shape = shape;
      inputs = e_texts.inputs t;
      outputs = e_texts.outputs t;
      sides = e_texts.sides t;
      side_outputs = e_texts.side_outputs t;
      constants = settings.constants;
      in_flight = e_flight t;
      box_number = e_box t;
      policy = policy;
      back = e_back t;
      misplaced = e_misplaced t;
    }
