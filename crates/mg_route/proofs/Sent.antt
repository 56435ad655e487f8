-- What holds a law may cross threads, and so may a holder of a calculator that may. A struct needs the same of a field, which is
-- another term than the row of the field's type. A type with a model needs the same of its inside.
use denote.RattleType.{RattleType}
use denote.Param.Send.{IsSend, sendable}
use Rattle.mg_calc.specs.declared.node_calculator.NodeCalculator.{Ghosts}
use Rattle.mg_calc.proofs.shape.Shape.TheSendSync.{the_field_send as shape}
use Rattle.mg_batch.proofs.Sent.{law, state, call_log}
use Rattle.mg_route.specs.contracts.builtin.Builtin as Builtin
use Rattle.mg_route.specs.contracts.builtin.Builtin.TheInside as Inside
use Rattle.mg_route.specs.contracts.holder.Held as Held
use Rattle.mg_route.specs.contracts.holder.Holder as Holder
use Rattle.mg_route.specs.contracts.holder.Holder.TheInside as HolderInside
use Rattle.mg_route.specs.contracts.law_box.LawBox as LawBox

inside : IsSend Inside.the_row
inside = search (law, shape, state, sendable) depth 60 fits 20000

pub builtin : IsSend Builtin.the_row
builtin = search (inside, sendable) depth 20 fits 20000

pub law_box : IsSend LawBox.the_row
law_box = search (builtin, call_log, sendable) depth 20 fits 20000

module _ (C : RattleType) (g : Ghosts C.Denot) (s : IsSend C) where
  held : IsSend (Held.the_field C).row
  held = search (builtin, s, sendable) depth 40 fits 20000

  holder_inside : IsSend (HolderInside.the_row C g)
  holder_inside = search (held, sendable) depth 40 fits 20000

  pub holder : IsSend (Holder.the_row C g)
  holder = search (holder_inside, sendable) depth 40 fits 20000

  pub holder_field : IsSend (Holder.the_field C g).row
  holder_field = search (holder_inside, sendable) depth 40 fits 20000
