use Rattle.std.proofs.Common.{◌∙◌, ap, Some, None}
use Rattle.mg_words.specs.Words.{is_plain}
use Rattle.clap.specs.Words.{found_of}
use Rattle.mg_words.proofs.Getters.{plain-read}
use Rattle.mg_words.proofs.options.is_plain_at.Goals as goal

pub returns-in-Some : goal.returns-in-Some
returns-in-Some c = c.is_plain.ensures ∙ (ap is_plain c.as_bytes.ensures.value ∙ plain-read (found_of c.args.matches.now) c.args.name.now (Some c.in-Some.text.now) c.in-Some.ensures)

pub returns-in-None : goal.returns-in-None
returns-in-None c = plain-read (found_of c.args.matches.now) c.args.name.now None c.in-None.ensures
