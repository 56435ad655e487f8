use Rattle.std.proofs.Common.{◌∙◌, sym, ap, ◌++◌, ◌∷◌, [], List, ℕ, map, arith}
use Rattle.std.proofs.lemmas.Option.{get_or_from_slice_get}
use Rattle.mg_text.specs.View.{field_view}
use Rattle.mg_names.specs.Ports.{text_of}
use Rattle.mg_names.specs.declared.port.Port.{Port}
use Rattle.mg_config.specs.Written.{text_entry}
use Rattle.mg_config.proofs.Appended.{map_more}
use Rattle.mg_config.proofs.fields.put_ports.Goals as goal

pub loop-i-preserved : goal.loop-i-preserved
loop-i-preserved c =
    map_more (λ (p : Port). text_entry c.args.name.now (text_of p)) c.args.ports.now c.loop-i.i c.in-Some.port.now _ _ _ (omega arith)
    (sym (get_or_from_slice_get c.args.ports.now c.loop-i.i c.in-Some.port.now c.in-Some.port.now (sym c.in-Some.ensures))) c.loop-i.invariant
    (c.in_ok-put_string.ensures ∙ ap (λ (t : List ℕ). map field_view c.loop-i.out.items ++ text_entry c.args.name.now t ∷ []) c.in_ok-text.ensures.text)
