-- What workers share may be shared by threads, and what each has may go to another thread.
use denote.RattleType.{RattleType}
use denote.Struct.Declared.{shape}
use denote.Enum.Declared.{shape as choice}
use denote.Struct.Field.{rows}
use denote.Struct.Tuple.{TupleAt, type_at, parts}
use denote.Param.Send.{IsSend, IsSync, AllSend, struct_send, enum_sync, recorded_send, recorded_sync, sendable}
use Rattle.std.proofs.Common.{List, [], ◌∷◌}
use Rattle.std.proofs.Crossing as heap
use Rattle.std.proofs.Crossing.{crosses}
use Rattle.atomic_table.proofs.shared.Seat.TheSendSync as Seat
use Rattle.crossbeam_queue.proofs.array_queue.Slotted.TheSendSync as Slotted
use Rattle.crossbeam_utils.proofs.cache_padded.CachePadded.TheSendSync as Padded
use Rattle.std.specs.contracts.option.Option as Maybe
use Rattle.mg_calc.specs.declared.node_calculator.NodeCalculator.{Ghosts}
use Rattle.mg_node.proofs.Sent.{maybe_field}
use Rattle.mg_ready.specs.contracts.order.Order as Order
use Rattle.mg_ready.specs.contracts.order.Order.TheInside as OrderInside
use Rattle.mg_levels.specs.contracts.hand.Hand as Hand
use Rattle.mg_levels.specs.contracts.levels.Levels as Levels
use Rattle.mg_levels.specs.contracts.seat.LevelSeat as LevelSeat
use Rattle.mg_turns.specs.contracts.seat.NetSeat as NetSeat
use Rattle.mg_turns.specs.contracts.shared.SharedNet as SharedNet
use Rattle.mg_turns.proofs.Sent.{net_seat, net}
use Rattle.mg_ready.specs.contracts.links.Links.TheInside as LinksInside
use Rattle.mg_ready.specs.contracts.places.Places.TheInside as PlacesInside
use Rattle.mg_ready.specs.contracts.ready.Ready.TheInside as ReadyInside
use Rattle.mg_throttle.specs.contracts.row.Row.TheInside as RowInside
use Rattle.mg_throttle.specs.contracts.queue.Queue as Queue
use Rattle.mg_throttle.specs.contracts.limits.Limits as Limits
use Rattle.mg_throttle.specs.contracts.limits.Limits.TheInside as LimitsInside
use Rattle.mg_crew.specs.contracts.gauge.Gauge as Gauge
use Rattle.mg_crew.specs.contracts.throttle.Throttle as Throttle
use Rattle.mg_crew.specs.contracts.waiting.Waiting as Waiting
use Rattle.mg_crew.specs.contracts.chart.Chart as Chart
use Rattle.mg_crew.specs.contracts.leads.Leads as Leads
use Rattle.mg_crew.specs.contracts.leads.Leads.TheInside as LeadsInside
use Rattle.mg_crew.specs.contracts.marks.Marks as Marks
use Rattle.mg_crew.specs.contracts.putting.Place as Place
use Rattle.mg_crew.specs.contracts.board.Board as Board
use Rattle.mg_crew.specs.contracts.shop.NodeMarks as NodeMarks
use Rattle.mg_crew.specs.contracts.shop.Tools as Tools

order_inside : IsSync OrderInside.the_row
order_inside = search (sendable, crosses) depth 40 fits 20000

order : IsSync (Order.the_field).row
order = search (order_inside, sendable) depth 40 fits 20000

levels : IsSync (Levels.the_field).row
levels = search (order, Slotted.the_sync, Slotted.the_field_sync, heap.send, heap.sync, heap.frees, sendable, crosses) depth 40 fits 50000

hand : IsSend (Hand.the_field).row
hand = search (Seat.the_send, sendable, crosses) depth 40 fits 50000

level_row : IsSend LevelSeat.the_row
level_row = search (hand, sendable, crosses) depth 40 fits 20000

seat : IsSend (Maybe.the_field LevelSeat.the_row).row
seat = maybe_field LevelSeat.the_row level_row

place : IsSend (Place.the_field).row
place = search (seat, sendable, crosses) depth 40 fits 20000

pub place_row : IsSend Place.the_row
place_row = recorded_send (Place.the_field).row _ _ Place.the_type.to_one place

board : IsSync (Board.the_field).row
board = search (Padded.the_field_sync, sendable, crosses) depth 40 fits 20000

leads_inside : IsSync LeadsInside.the_row
leads_inside = search (sendable, crosses) depth 40 fits 20000

leads : IsSync (Leads.the_field).row
leads = search (leads_inside, sendable) depth 40 fits 20000

chart : IsSync (Chart.the_field).row
chart = search (leads, sendable, crosses) depth 40 fits 20000

marks : IsSync (Marks.the_field).row
marks = search (sendable, crosses) depth 40 fits 20000

node_marks : IsSync (NodeMarks.the_field).row
node_marks = search (marks, sendable, crosses) depth 40 fits 20000

waiting : IsSync (Waiting.the_field).row
waiting = search (marks, sendable, crosses) depth 40 fits 20000

links_inside : IsSend LinksInside.the_row
links_inside = search (sendable, crosses) depth 40 fits 20000

places_inside : IsSend PlacesInside.the_row
places_inside = search (links_inside, sendable, crosses) depth 40 fits 20000

ready_inside : IsSend ReadyInside.the_row
ready_inside = search (places_inside, sendable, crosses) depth 40 fits 20000

row_inside : IsSend RowInside.the_row
row_inside = search (sendable, crosses) depth 40 fits 20000

queue : IsSend (Queue.the_field).row
queue = search (sendable, crosses) depth 40 fits 20000

limits_inside : IsSend LimitsInside.the_row
limits_inside = search (queue, row_inside, ready_inside, sendable, crosses) depth 40 fits 20000

limits : IsSend (Limits.the_field).row
limits = search (limits_inside, sendable) depth 40 fits 20000

gauge : IsSend (Gauge.the_field).row
gauge = search (limits, sendable, crosses) depth 40 fits 20000

throttle : IsSync (Throttle.the_field).row
throttle = search (gauge, marks, sendable, crosses) depth 40 fits 20000

throttle_row : IsSync Throttle.the_row
throttle_row = recorded_sync (Throttle.the_field).row _ _ Throttle.the_type.to_one throttle

held_back : IsSync (Maybe.the_field Throttle.the_row).row
held_back = enum_sync (choice (Maybe.the_type Throttle.the_row)) (tt, ((throttle_row, tt), tt))

pub tools : IsSync (Tools.the_field).row
tools = search (levels, board, chart, node_marks, waiting, held_back, sendable) depth 20 fits 20000

pub tools_row : IsSync Tools.the_row
tools_row = recorded_sync (Tools.the_field).row _ _ Tools.the_type.to_one tools

module _ (C : RattleType) (g : Ghosts C.Denot) (s : IsSend C) where
  pub seat_row : IsSend (NetSeat.the_row C g)
  seat_row = recorded_send (NetSeat.the_field C g).row _ _ (NetSeat.the_type C g).to_one (net_seat C g s)

  pub net_row : IsSync (SharedNet.the_row C g)
  net_row = recorded_sync (SharedNet.the_field C g).row _ _ (SharedNet.the_type C g).to_one (net C g s)

all_rows : (Ts : List RattleType) → AllSend Ts → AllSend (rows (parts Ts))
all_rows [] s = tt
all_rows (T ∷ Ts) s = (s.0, all_rows Ts s.1)

-- A closure may cross threads if all that it captures may. Its name says nothing of that.
pub closure : (Ts : List RattleType) → AllSend Ts → IsSend (TupleAt [] Ts)
closure Ts s = recorded_send _ _ _ (type_at [] Ts).to_one (struct_send (shape (type_at [] Ts)) (all_rows Ts s))
