use Rattle.std.proofs.Common.{◌∙◌, ap, ap₂}
use Rattle.std.proofs.lemmas.Result.{IfOk-weaker}
use Rattle.clap.specs.Words.{app_of, with_rule}
use Rattle.mg_words.proofs.command_line.with_flags.Goals as goal

pub returns : goal.returns
returns c =
    let first = c.in_ok-arg.ensures.shape c.flag.ensures.local ∙ ap (with_rule (app_of c.args.command)) c.flag.ensures.rule in
    let second = c.in_ok-arg-2.ensures.shape c.flag-2.ensures.local ∙ ap₂ with_rule first c.flag-2.ensures.rule in
    let third = c.in_ok-arg-3.ensures.shape c.flag-3.ensures.local ∙ ap₂ with_rule second c.flag-3.ensures.rule in
    IfOk-weaker c.arg-4.result _ _ (λ r added. added.shape c.flag-4.ensures.local ∙ ap₂ with_rule third c.flag-4.ensures.rule) c.arg-4.ensures
