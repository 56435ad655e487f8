use Rattle.std.proofs.Common.{◌++◌, ◌∙◌, ap, sym, map, None, Some, append-nil}
use Rattle.std.proofs.lemmas.Result.{IfOk-weaker}
use Rattle.clap.specs.Words.{found_of}
use Rattle.mg_words.proofs.Getters.{words-read}
use Rattle.mg_words.proofs.words.put_words.Goals as goal

pub returns-in-None : goal.returns-in-None
returns-in-None c = sym (append-nil c.args.list.now.items) ∙ ap (λ xs. c.args.list.now.items ++ xs) (words-read (found_of c.args.matches.now) c.args.name.now None c.in-None.ensures)

pub returns-in-Some : goal.returns-in-Some
returns-in-Some c = IfOk-weaker c.put_texts.result _ _
    (λ done put. put ∙ ap (λ xs. c.args.list.now.items ++ xs) (words-read (found_of c.args.matches.now) c.args.name.now (Some (map (λ text. text.now) c.in-Some.words.now)) c.in-Some.ensures)) c.put_texts.ensures
