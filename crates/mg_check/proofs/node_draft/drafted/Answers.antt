use Rattle.std.proofs.Common.{◌∙◌, sym, ap, Some, not, rules}
use Rattle.std.specs.Prelude.{option_map}
use Rattle.std.specs.List.{list_any}
use Rattle.mg_config.specs.Config.{node_view}
use Rattle.mg_kinds.specs.SettingsView.{settings_view}
use Rattle.mg_check.specs.Drafts.{draft_with, flight_of, may_be_back, back_of}
use Rattle.mg_check.proofs.PortNames.{draft_made}
use mir.Val.{SFits}
use mir.Syntax.{w32}
use Rattle.std.proofs.lemmas.Int.{to_z-of_z}
use Rattle.mg_check.proofs.node_draft.drafted.Goals as goal

pub returns : goal.returns
returns c =
    let node = c.args.node.now in
    let law = c.args.fitted.settings.law in
    let shape = c.in-Some.shape in
    let settings = settings_view c.args.fitted.settings in
    let fits : SFits w32 node.max_in_flight = search rules in
    ap Some
    (draft_made (node_view node) c.args.fitted.kind c.args.fitted.ports settings c.args.fitted.policy shape c.in_ok-texts.texts c.in_ok-label.label c.flight_of-in_flight.result c.box_of-box_number.result c.back_of-back.result c.is_misplaced-misplaced.result
    c.in_ok-label.ensures c.in_ok-texts.ensures
    (c.flight_of-in_flight.ensures ∙ ap (λ most. flight_of c.box_of-box_number.result shape.stateless most) (to_z-of_z w32 node.max_in_flight fits) ∙ ap (λ b. flight_of b shape.stateless node.max_in_flight) c.box_of-box_number.ensures)
    c.box_of-box_number.ensures
    (c.back_of-back.ensures ∙ ap (back_of law) c.as_slice.ensures)
    (c.is_misplaced-misplaced.ensures ∙ ap (list_any (λ mark. not (may_be_back law mark))) c.as_slice-2.ensures))
    ∙ ap (option_map (draft_with (node_view node) c.args.fitted.kind c.args.fitted.ports settings c.args.fitted.policy)) (sym c.in-Some.is ∙ c.in_ok-shape.ensures)
