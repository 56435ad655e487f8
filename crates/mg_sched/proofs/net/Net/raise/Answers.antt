use Rattle.std.proofs.Common.{Bool, ap, ◌∙◌, if◌then◌else◌}
use Rattle.mg_calc.specs.declared.event.Effect.TheVariants.{Did, Idle}
use Rattle.mg_sched.specs.Views.{NetView}
use Rattle.mg_sched.specs.Places.{with_engine}
use Rattle.mg_sched.proofs.Finding.{are_cell, engine_read, intake_read, engine_fits, intake_fits}
use Rattle.mg_sched.proofs.net.Net.raise.Goals as goal

pub index_mut-requires : goal.index_mut-requires
index_mut-requires g c = engine_fits _ c.args.self.now c.args.node _ c.self.view_is c.requires.stands c.requires.there c.self.inside.engines.ok.0

pub index-requires : goal.index-requires
index-requires g c = intake_fits _ c.args.self.now c.args.node _ c.self.view_is c.requires.stands c.requires.there c.self.inside.intakes.ok.0

pub advance-moved-requires : goal.advance-moved-requires
advance-moved-requires g c = record {
  cell = are_cell c.args.self.now c.args.node _ _ c.requires.stands c.requires.running c.requires.there
      (engine_read _ c.args.self.now c.args.node _ c.self.view_is c.requires.stands c.requires.there c.index_mut.ensures.value)
      (intake_read _ c.args.self.now c.args.node _ c.self.view_is c.requires.stands c.requires.there c.index.ensures);
}

pub returns : goal.returns
returns g c = record {
  engine = c.index_mut.result.now;
  at = engine_read _ c.args.self.now c.args.node _ c.self.view_is c.requires.stands c.requires.there c.index_mut.ensures.value;
  intake = c.index.result.now;
  to = intake_read _ c.args.self.now c.args.node _ c.self.view_is c.requires.stands c.requires.there c.index.ensures;
  effect_is = c.done_if.ensures ∙ ap (λ (b : Bool). if b then Did else Idle) c.advance-moved.ensures.moved;
  now_is = ap (λ (v : NetView). with_engine v c.args.node c.advance-moved.new.self) c.self.view_is ∙ ap (with_engine c.args.self.now c.args.node) c.advance-moved.ensures.advanced;
}
