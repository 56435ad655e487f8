use Rattle.std.proofs.Common.{codes, None, Some}
use Rattle.clap.specs.Words.{found_of}
use Rattle.mg_words.proofs.Getters.{word-read}
use Rattle.mg_words.proofs.words.word_of.Goals as goal

pub returns-in-Some : goal.returns-in-Some
returns-in-Some c = word-read (found_of c.args.matches.now) (codes "COMMAND") (Some c.in-Some.word.now) c.in-Some.ensures

pub returns-in-None : goal.returns-in-None
returns-in-None c = word-read (found_of c.args.matches.now) (codes "COMMAND") None c.in-None.ensures
