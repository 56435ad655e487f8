use Rattle.std.proofs.Common.{◌∙◌, ap, ◌++◌, map, codes, rules, w32}
use Rattle.std.proofs.lemmas.Int.{to_z-of_z}
use mir.Val.{SFits}
use Rattle.mg_text.specs.View.{field_view}
use Rattle.mg_config.specs.Written.{number_field}
use Rattle.mg_config.proofs.Appended.{put_two}
use Rattle.mg_config.proofs.writing.put_numbers.Goals as goal

pub returns : goal.returns
returns c =
    let graph = c.args.graph.now in
    let size_fits : SFits w32 graph.max_queue_size = search rules in
    let threads_fit : SFits w32 graph.num_threads = search rules in
    put_two (map field_view c.args.out.now.items) (map field_view c.put_number.new.out.items) (map field_view c.put_number-2.new.out.items)
    (number_field (codes "max_queue_size") graph.max_queue_size) (number_field (codes "num_threads") graph.num_threads)
    (c.in_ok-put_number.ensures ∙ ap (λ z. map field_view c.args.out.now.items ++ number_field (codes "max_queue_size") z) (to_z-of_z w32 graph.max_queue_size size_fits))
    (c.in_ok-put_number-2.ensures ∙ ap (λ z. map field_view c.put_number.new.out.items ++ number_field (codes "num_threads") z) (to_z-of_z w32 graph.num_threads threads_fit))
