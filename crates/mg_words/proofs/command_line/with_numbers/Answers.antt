use Rattle.std.proofs.Common.{◌∙◌, ap, ap₂}
use Rattle.std.proofs.lemmas.Result.{IfOk-weaker}
use Rattle.clap.specs.Words.{app_of, with_rule}
use Rattle.mg_words.proofs.command_line.with_numbers.Goals as goal

pub returns : goal.returns
returns c =
    let first = c.in_ok-arg.ensures.shape c.number_option.ensures.local ∙ ap (with_rule (app_of c.args.command)) c.number_option.ensures.rule in
    let second = c.in_ok-arg-2.ensures.shape c.number_option-2.ensures.local ∙ ap₂ with_rule first c.number_option-2.ensures.rule in
    IfOk-weaker c.arg-3.result _ _ (λ r added. added.shape c.number_option-3.ensures.local ∙ ap₂ with_rule second c.number_option-3.ensures.rule) c.arg-3.ensures
