-- A seat may cross threads, and threads may share a net, if the calculators may cross.
use denote.RattleType.{RattleType}
use denote.Struct.Declared.{shape}
use denote.Struct.Field.{rows}
use denote.Struct.Tuple.{TupleAt, type_at, parts}
use denote.Param.Send.{IsSend, IsSync, AllSend, struct_send, struct_sync, recorded_send, recorded_sync, sendable}
use Rattle.std.proofs.Common.{List, [], ◌∷◌}
use Rattle.std.proofs.Crossing as heap
use Rattle.std.proofs.Crossing.{crosses}
use Rattle.std.specs.contracts.option.Option as Maybe
use Rattle.std.specs.contracts.snapshot.Snapshot as Snapshot
use Rattle.std.specs.contracts.alloc.Global as Global
use Rattle.std.specs.contracts.impls.GlobalAllocator.TheImpl as allocator
use Rattle.atomic_table.proofs.shared.Seat.TheSendSync as Seat
use Rattle.atomic_table.proofs.owned.Table.TheSendSync as Table
use Rattle.mg_turns.proofs.room.Room.TheSendSync as Room
use Rattle.mg_turns.proofs.way.Way.TheSendSync.{the_sync as way, the_field_sync as way_field}
use Rattle.mg_calc.specs.declared.node_calculator.NodeCalculator.{Ghosts}
use Rattle.mg_node.specs.contracts.engine.Engine as Engine
use Rattle.mg_node.proofs.Sent.{engine_field, intake_field, maybe}
use Rattle.mg_turns.specs.contracts.part.Part as Part
use Rattle.mg_turns.specs.contracts.part.Part.TheInside as PartInside
use Rattle.mg_turns.specs.contracts.layout.Layout as Layout
use Rattle.mg_turns.specs.contracts.rule.Law as Law
use Rattle.mg_turns.specs.contracts.rule.LawTableRuleOptionPartViewKey.TheImpl as rule
use Rattle.mg_turns.specs.contracts.view.View as View
use Rattle.mg_turns.specs.contracts.seat.NetSeat as NetSeat
use Rattle.mg_turns.specs.contracts.shared.SharedNet as SharedNet

module _ (C : RattleType) (g : Ghosts C.Denot) (s : IsSend C) where
  engine_in : IsSend (Engine.the_field C g).row
  engine_in = engine_field C g s

  part_inside : IsSend (PartInside.the_row C g)
  part_inside = search (engine_in, intake_field, sendable, crosses) depth 40 fits 20000

  pub part : IsSend (Part.the_row C g)
  part = search (part_inside, sendable) depth 40 fits 20000

  slot : IsSend (Maybe.the_row (Part.the_row C g))
  slot = maybe (Part.the_row C g) part

  pub net_seat : IsSend (NetSeat.the_field C g).row
  net_seat = struct_send (shape (NetSeat.the_type C g)) (Seat.the_send (Maybe.the_row (Part.the_row C g)) View.the_row slot, (search sendable, (search sendable, tt)))

  pub net : IsSync (SharedNet.the_field C g).row
  net = struct_sync (shape (SharedNet.the_type C g)) (
    Table.the_field_sync (Maybe.the_row (Part.the_row C g)) View.the_row (Snapshot.the_row (Layout.the_row C g)) Law.the_row Global.the_row (rule.ghosts C g rule.no_dict rule.no_dict) allocator.ghosts
        slot heap.send heap.sync heap.frees,
    (search sendable, (search sendable, (search (way, way_field, sendable, crosses) depth 20 fits 20000, (Room.the_field_sync (Part.the_row C g) part, tt)))),
  )

  pub net_seat_row : IsSend (NetSeat.the_row C g)
  net_seat_row = recorded_send (NetSeat.the_field C g).row _ _ (NetSeat.the_type C g).to_one net_seat

  pub net_row : IsSync (SharedNet.the_row C g)
  net_row = recorded_sync (SharedNet.the_field C g).row _ _ (SharedNet.the_type C g).to_one net

all_rows : (Ts : List RattleType) → AllSend Ts → AllSend (rows (parts Ts))
all_rows [] s = tt
all_rows (T ∷ Ts) s = (s.0, all_rows Ts s.1)

-- A closure may cross threads if all that it captures may. Its name says nothing of that.
pub closure : (Ts : List RattleType) → AllSend Ts → IsSend (TupleAt [] Ts)
closure Ts s = recorded_send _ _ _ (type_at [] Ts).to_one (struct_send (shape (type_at [] Ts)) (all_rows Ts s))
