use Rattle.std.proofs.Common.{sym, ◌∙◌}
use Rattle.std.proofs.lemmas.Option.{same_Some, none-some}
use Rattle.mg_drive.proofs.Moving.{heard_more, not_there}
use Rattle.mg_drive.proofs.moved.MovedHears.hear.Goals as goal

pub returns-in-Some : goal.returns-in-Some
returns-in-Some c = λ began events h.
    heard_more began c.args.self.now c.note.new.self events c.args.event c.note.ensures.others
    (λ place unmoved of. not_there c.note.new.self c.in-Some.node c.note.ensures.noted place unmoved (same_Some c.in-Some.node place (sym c.in-Some.is ∙ c.node_of.ensures place of))) h

pub returns-in_default : goal.returns-in_default
returns-in_default c = λ began events h.
    heard_more began c.args.self.now c.args.self.now events c.args.event (λ place unmoved. unmoved) (λ place unmoved of. none-some place (sym c.in_default.is ∙ c.node_of.ensures place of)) h
