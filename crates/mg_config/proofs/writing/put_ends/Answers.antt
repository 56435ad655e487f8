use Rattle.std.proofs.Common.{◌∙◌, ap, ◌++◌, map, codes, rules, w32}
use Rattle.std.proofs.lemmas.Int.{to_z-of_z}
use mir.Val.{SFits}
use Rattle.mg_text.specs.View.{field_view}
use Rattle.mg_config.specs.Config.{node_view}
use Rattle.mg_config.specs.Written.{mark_fields, number_field}
use Rattle.mg_config.proofs.Appended.{put_ends}
use Rattle.mg_config.proofs.writing.put_ends.Goals as goal

pub returns : goal.returns
returns c =
    let node = c.args.node.now in
    let flight_fits : SFits w32 node.max_in_flight = search rules in
    let hint_fits : SFits w32 node.buffer_size_hint = search rules in
    put_ends (node_view node) (map field_view c.args.out.now.items) (map field_view c.put_marks.new.out.items) (map field_view c.put_handler.new.out.items) (map field_view c.put_number.new.out.items)
    (map field_view c.put_number-2.new.out.items) (map field_view c.put_options.new.out.items)
    (c.in_ok-put_marks.ensures ∙ ap (λ marks. map field_view c.args.out.now.items ++ mark_fields marks) c.as_slice.ensures)
    c.in_ok-put_handler.ensures
    (c.in_ok-put_number.ensures ∙ ap (λ z. map field_view c.put_handler.new.out.items ++ number_field (codes "max_in_flight") z) (to_z-of_z w32 node.max_in_flight flight_fits))
    (c.in_ok-put_number-2.ensures ∙ ap (λ z. map field_view c.put_number.new.out.items ++ number_field (codes "buffer_size_hint") z) (to_z-of_z w32 node.buffer_size_hint hint_fits))
    c.in_ok-put_options.ensures
