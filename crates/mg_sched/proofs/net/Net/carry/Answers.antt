use Rattle.std.proofs.Common.{inl, inr, refl}
use Rattle.mg_sched.proofs.Finding.{valid, edge_read}
use Rattle.mg_sched.proofs.PlanEdges.{edge_stream}
use Rattle.mg_sched.proofs.net.Net.carry.Goals as goal

pub is_held-requires-clause-stream : goal.is_held-requires-clause-stream
is_held-requires-clause-stream g c = edge_stream c.args.self.now.plan (valid c.args.self.now c.requires.stands) c.args.number _ (edge_read _ c.args.self.now c.args.number _ c.self.view_is c.requires.there c.as_slice.ensures)

pub returns-then-is_held : goal.returns-then-is_held
returns-then-is_held g c = record {
  edge = _;
  there = edge_read _ c.args.self.now c.args.number _ c.self.view_is c.requires.there c.as_slice.ensures;
  delivered = inl (c.if-is_held.ensures.held refl, record { idle = refl; same = refl });
}

pub bring-requires-clause-there : goal.bring-requires-clause-there
bring-requires-clause-there g c = edge_read _ c.args.self.now c.args.number _ c.self.view_is c.requires.there c.as_slice.ensures

pub returns : goal.returns
returns g c = record {
  edge = _;
  there = edge_read _ c.args.self.now c.args.number _ c.self.view_is c.requires.there c.as_slice.ensures;
  delivered = inr (c.if-is_held.ensures.not_held refl, c.bring.ensures);
}
