use Rattle.std.proofs.Common.{ℕ, ap, ◌∙◌}
use Rattle.mg_node.specs.Views.{OutcomeView, EngineView}
use Rattle.mg_node.specs.Shelves.{outcome_of}
use Rattle.mg_node.proofs.ShownAtOnce.{shown_whole, shown_goes, shown_laid, shown_few, shown_context, shown_room, handed_claims, handed_out_at, left_performed, left_committed, answered_by}
use Rattle.mg_node.proofs.engine.Engine.show_next.Goals as goal

pub take_shown-requires-clause-context : goal.take_shown-requires-clause-context
take_shown-requires-clause-context g c = (let s = c.in_default.ensures in shown_context c.args.self.now c.show.new.self s.rest s.context_now s.now_is)

pub take_shown-requires-clause-room : goal.take_shown-requires-clause-room
take_shown-requires-clause-room g c = (let s = c.in_default.ensures in shown_room c.args.self.now c.show.new.self c.args.intake.now s.rest s.context_now c.requires.cell c.requires.may s.now_is)

pub take_shown-requires-clause-few : goal.take_shown-requires-clause-few
take_shown-requires-clause-few g c =
    (let s = c.in_default.ensures in shown_few c.args.self.now c.show.new.self c.args.intake.now c.args.at s.rest s.context_now c.requires.cell c.requires.may c.requires.next s.now_is)

pub returns-in_default-clause-does : goal.returns-in_default-clause-does
returns-in_default-clause-does g c =
    handed_claims ℕ c.args.self.now c.show.new.self c.take_shown.new.self c.args.intake.now c.show.new.intake c.args.at c.take_shown.result c.requires.cell c.requires.may c.requires.next c.in_default.ensures c.take_shown.ensures

pub lay_answer-requires-clause-whole : goal.lay_answer-requires-clause-whole
lay_answer-requires-clause-whole g c = (let s = c.in-Some.ensures in shown_whole c.args.self.now c.show.new.self c.args.intake.now s.rest s.context_now c.requires.cell s.now_is)

pub lay_answer-requires-clause-goes : goal.lay_answer-requires-clause-goes
lay_answer-requires-clause-goes g c = (let s = c.in-Some.ensures in shown_goes c.args.self.now c.show.new.self s.rest s.context_now c.requires.may s.now_is)

pub lay_answer-requires-clause-laid : goal.lay_answer-requires-clause-laid
lay_answer-requires-clause-laid g c = (let s = c.in-Some.ensures in shown_laid c.args.self.now c.show.new.self c.args.intake.now s.rest s.context_now c.requires.cell c.requires.may s.now_is)

pub lay_answer-requires-clause-few : goal.lay_answer-requires-clause-few
lay_answer-requires-clause-few g c = (let s = c.in-Some.ensures in shown_few c.args.self.now c.show.new.self c.args.intake.now c.args.at s.rest s.context_now c.requires.cell c.requires.may c.requires.next s.now_is)

pub returns-in-Ok-clause-does : goal.returns-in-Ok-clause-does
returns-in-Ok-clause-does g c =
    left_committed _ c.in-Some.answer c.args.self.now c.show.new.self c.args.intake.now c.show.new.intake c.args.at c.requires.cell c.requires.may c.requires.next c.in-Some.ensures c.lay_answer.new.self c.self.inside.claimed (ap (λ (v : EngineView). v.claimed) c.self.view_is)
    c.in-Ok.ensures.laid

pub take_shown-work-requires-clause-context : goal.take_shown-work-requires-clause-context
take_shown-work-requires-clause-context g c = (let s = c.in-Some.ensures in shown_context c.args.self.now c.lay_answer.new.self s.rest s.context_now (c.in-Err.ensures.unchanged ∙ s.now_is))

pub take_shown-work-requires-clause-room : goal.take_shown-work-requires-clause-room
take_shown-work-requires-clause-room g c =
    (let s = c.in-Some.ensures in shown_room c.args.self.now c.lay_answer.new.self c.args.intake.now s.rest s.context_now c.requires.cell c.requires.may (c.in-Err.ensures.unchanged ∙ s.now_is))

pub take_shown-work-requires-clause-few : goal.take_shown-work-requires-clause-few
take_shown-work-requires-clause-few g c =
    (let s = c.in-Some.ensures in shown_few c.args.self.now c.lay_answer.new.self c.args.intake.now c.args.at s.rest s.context_now c.requires.cell c.requires.may c.requires.next (c.in-Err.ensures.unchanged ∙ s.now_is))

pub shelve-requires : goal.shelve-requires
shelve-requires g c = record {
  out = handed_out_at ℕ c.in-Some.answer c.args.self.now c.show.new.self c.args.intake.now c.show.new.intake c.args.at c.requires.cell c.requires.may c.requires.next c.in-Some.ensures c.lay_answer.new.self c.take_shown-work.new.self c.take_shown-work.result c.ran.result
      c.in-Err.ensures.unchanged c.take_shown-work.ensures (ap (λ (o : OutcomeView). o.work) (c.ran.ensures.outcome ∙ ap outcome_of c.new.ensures));
}

pub returns-in-Err-clause-does : goal.returns-in-Err-clause-does
returns-in-Err-clause-does g c =
    left_performed _ c.in-Some.answer c.args.self.now c.show.new.self c.args.intake.now c.show.new.intake c.args.at c.requires.cell c.requires.may c.requires.next c.in-Some.ensures c.lay_answer.new.self c.take_shown-work.new.self c.shelve.new.self c.take_shown-work.result
    c.ran.result c.self.inside.claimed (ap (λ (v : EngineView). v.claimed) c.self.view_is) c.in-Err.ensures.unchanged c.take_shown-work.ensures
    (c.ran.ensures.outcome ∙ ap outcome_of c.new.ensures ∙ answered_by c.take_shown-work.result c.in-Err.answer c.in-Some.answer c.in-Err.ensures.returned) c.shelve.ensures.shelved
