use Rattle.std.proofs.Common.{◌∙◌, Some, None}
use Rattle.clap.specs.Words.{found_of}
use Rattle.mg_words.proofs.Getters.{flag-read}
use Rattle.mg_words.proofs.options.flag_of.Goals as goal

pub returns-in-Some : goal.returns-in-Some
returns-in-Some c = let h = c.eq.ensures in c.eq.ensures ∙ flag-read (found_of c.args.matches.now) c.args.name.now (Some c.in-Some.text.now) c.in-Some.ensures

pub returns-in-None : goal.returns-in-None
returns-in-None c = flag-read (found_of c.args.matches.now) c.args.name.now None c.in-None.ensures
