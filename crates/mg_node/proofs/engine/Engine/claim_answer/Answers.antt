use Rattle.std.proofs.Common.{◌+◌, ◌≤◌, map, set, ap, ◌∙◌, arith}
use Rattle.mg_time.specs.Time.{done}
use Rattle.mg_stream.specs.Pool.{backlog_of}
use Rattle.mg_node.specs.Views.{EngineView}
use Rattle.mg_node.proofs.Giving.{with_outputs}
use Rattle.mg_node.proofs.Looping.{cell_loop, cell_few, cell_counts, cell_lays, item_one, none_laid, with_laid, not_yet, now_laid}
use Rattle.mg_node.proofs.engine.Engine.claim_answer.Goals as goal

pub is_over-requires : goal.is_over-requires
is_over-requires g c = cell_loop _ _ c.requires.cell c.requires.role

pub reply-requires-clause-looped : goal.reply-requires-clause-looped
reply-requires-clause-looped g c = cell_loop _ _ c.requires.cell c.requires.role

pub reply-requires-clause-few : goal.reply-requires-clause-few
reply-requires-clause-few g c = (let few : c.args.intake.now.claimed + 1 ≤ done = cell_few _ _ c.requires.cell c.requires.role in omega (arith, few))

pub reply-requires-clause-may_lay : goal.reply-requires-clause-may_lay
reply-requires-clause-may_lay g c = cell_lays c.args.self.now _ c.self.inside.outputs.items _ c.requires.cell c.requires.role c.requires.may (ap (λ (v : EngineView). v.outputs) c.self.view_is) c.index_mut.ensures.value

pub index_mut-requires : goal.index_mut-requires
index_mut-requires g c =
    (let one = item_one _ _ c.self.inside.outputs.items c.requires.cell c.requires.role c.requires.may (ap (λ (v : EngineView). v.outputs) c.self.view_is) in omega (arith, one))

pub overflow_add-self : goal.overflow_add-self
overflow_add-self g c =
    (let few : c.args.intake.now.claimed + 1 ≤ done = cell_few _ _ c.requires.cell c.requires.role in
    let counts = cell_counts _ _ c.requires.cell c.requires.role c.requires.may in
    let laid = ap (λ (v : EngineView). v.laid) c.self.view_is in
    omega (arith, few, counts.0, counts.1, laid))

pub overflow_add-self-in-Laid : goal.overflow_add-self-in-Laid
overflow_add-self-in-Laid g c =
    (let few : c.args.intake.now.claimed + 1 ≤ done = cell_few _ _ c.requires.cell c.requires.role in
    let counts = cell_counts _ _ c.requires.cell c.requires.role c.requires.may in
    let claimed = ap (λ (v : EngineView). v.claimed) c.self.view_is in
    omega (arith, few, counts.0, claimed))

pub returns-in-NotYet : goal.returns-in-NotYet
returns-in-NotYet g c =
    (let t = not_yet c.args.self.now _ c.args.intake.now c.reply.new.intake c.self.inside.outputs.items _ c.reply.new.output c.requires.cell c.requires.role c.requires.may (ap (λ (v : EngineView). v.outputs) c.self.view_is) c.index_mut.ensures.value
    (ap (λ (v : EngineView). with_outputs v (map backlog_of (set c.self.inside.outputs.items 0 c.reply.new.output))) c.self.view_is) (c.is_over.ensures.no c.if-is_over.false) c.in-NotYet.ensures in
    (c.requires.may, t.0, t.1))

pub returns-in-OutOfMemory : goal.returns-in-OutOfMemory
returns-in-OutOfMemory g c = (
  c.requires.may,
  c.requires.role,
  record {
    same_engine =
        ap (λ (v : EngineView). with_outputs v (map backlog_of (set c.self.inside.outputs.items 0 c.reply.new.output))) c.self.view_is
        ∙ none_laid c.args.self.now c.args.intake.now c.self.inside.outputs.items _ c.reply.new.output c.requires.cell c.requires.role c.requires.may (ap (λ (v : EngineView). v.outputs) c.self.view_is) c.index_mut.ensures.value c.in-OutOfMemory.ensures.0;
    same_intake = c.in-OutOfMemory.ensures.1;
  },
)

pub returns-in-Laid : goal.returns-in-Laid
returns-in-Laid g c = (
  c.requires.may,
  now_laid c.args.self.now _ c.args.intake.now c.reply.new.intake c.self.inside.outputs.items _ c.reply.new.output c.requires.cell c.requires.role c.requires.may (ap (λ (v : EngineView). v.outputs) c.self.view_is) c.index_mut.ensures.value
      (ap (λ (v : EngineView). with_laid v (map backlog_of (set c.self.inside.outputs.items 0 c.reply.new.output))) c.self.view_is) c.in-Laid.ensures,
)
