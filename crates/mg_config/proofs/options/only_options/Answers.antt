use Rattle.std.proofs.Common.{◌≡◌, ◌∙◌, ◌+◌, sym, ap, drop, arith, true, false}
use Rattle.std.specs.List.{list_any}
use Rattle.mg_text.specs.View.{field_view}
use Rattle.mg_config.specs.Config.{is_option}
use Rattle.mg_config.proofs.Joined.{joined_only}
use Rattle.mg_config.proofs.options.only_options.Goals as goal

pub returns-in-loop-i : goal.returns-in-loop-i
returns-in-loop-i c =
    let here : is_option (field_view c.index-fields-i.result) ≡ true = cc in
    let alone : list_any (λ f. is_option (field_view f)) (drop (c.loop-i.i + 1) c.args.fields.now) ≡ false =
    ap (list_any (λ f. is_option (field_view f))) (sym c.split_at.ensures.back) ∙ sym c.has_options.ensures ∙ c.if-has_options.false in
    joined_only c.args.fields.now c.loop-i.i c.index-fields-i.result c.in-Message.tree (omega arith) c.index-fields-i.is here c.loop-i.invariant c.in-Message.is alone
