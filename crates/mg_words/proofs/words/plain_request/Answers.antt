use Rattle.std.proofs.Common.{◌≡◌, ◌∙◌, ap, length, rules}
use Rattle.mg_words.specs.Words.{request_by, command_in}
use Rattle.mg_words.proofs.words.plain_request.Goals as goal

pub returns : goal.returns
returns c =
    let long : length c.in_ok-files.files.items ≡ c.len.result = search rules in
    c.request_with.ensures
    ∙ ap request_by (c.instruction_in-instruction.ensures c.in_ok-files.files.items long
    ∙ ap command_in (λ i. record { word = c.word_of.ensures i; files = c.in_ok-files.ensures i; options = c.of.ensures i }))
