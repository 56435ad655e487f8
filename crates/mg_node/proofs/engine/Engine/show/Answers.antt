use Rattle.std.proofs.Common.{ℕ, List, ap, sym, ◌∙◌}
use Rattle.mg_node.specs.Views.{ContextView, EngineView}
use Rattle.mg_node.proofs.Claimable.{cell_sets, cell_places, cell_has_intake}
use Rattle.mg_node.proofs.ShownAtOnce.{shown_may_run}
use Rattle.mg_node.proofs.engine.Engine.show.Goals as goal

pub fill-requires-clause-places : goal.fill-requires-clause-places
fill-requires-clause-places g c = cell_places _ _ _ _ c.requires.cell (sym (ap (λ (v : EngineView). v.idle) c.self.view_is) ∙ c.take_last-context.ensures.items)

pub fill-requires-clause-lawful : goal.fill-requires-clause-lawful
fill-requires-clause-lawful g c = cell_has_intake _ _ c.requires.cell

pub fill-requires-clause-sets : goal.fill-requires-clause-sets
fill-requires-clause-sets g c = cell_sets _ _ c.requires.cell c.requires.may.role

pub fill-requires-clause-next : goal.fill-requires-clause-next
fill-requires-clause-next g c = c.requires.next

pub show-answer-requires : goal.show-answer-requires
show-answer-requires g c =
    shown_may_run ℕ c.args.self.now c.args.intake.now c.fill.new.intake c.args.at c.take_last-context.new.self.items c.take_last-context.result c.fill.new.self c.requires.cell c.requires.may c.requires.next
    (sym (ap (λ (v : EngineView). v.idle) c.self.view_is) ∙ c.take_last-context.ensures.items) c.fill.ensures.told c.fill.ensures.takes

pub returns : goal.returns
returns g c = record {
  rest = c.take_last-context.new.self.items;
  context = c.take_last-context.result;
  filled = c.fill.new.self;
  context_now = c.show-answer.new.self;
  idle = sym (ap (λ (v : EngineView). v.idle) c.self.view_is) ∙ c.take_last-context.ensures.items;
  now_is = ap (λ (v : EngineView). (let w : EngineView = record v { idle = c.push_reserved.new.self.items } in w)) c.self.view_is
      ∙ ap (λ (l : List ContextView). (let w : EngineView = record c.args.self.now { idle = l } in w)) c.push_reserved.ensures.items;
  told = c.fill.ensures.told;
  takes = c.fill.ensures.takes;
  shown = c.show-answer.ensures.shown;
  unchanged = c.show-answer.ensures.unchanged;
}
