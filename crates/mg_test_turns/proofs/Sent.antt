-- A seat on a net of laws may go to another thread, and such a net may be shared with one.
use denote.Param.Send.{IsSend, IsSync}
use Rattle.mg_route.proofs.Sent.{law_box}
use Rattle.mg_route.specs.contracts.law_box.LawBox as LawBox
use Rattle.mg_route.specs.contracts.law_box.LawBoxNodeCalculator.TheImpl as boxes
use Rattle.mg_turns.proofs.Sent.{net_seat, net_seat_row, net_row}
use Rattle.mg_turns.specs.contracts.seat.NetSeat as NetSeat
use Rattle.mg_turns.specs.contracts.shared.SharedNet as SharedNet

pub seat : IsSend (NetSeat.the_field LawBox.the_row boxes.ghosts).row
seat = net_seat LawBox.the_row boxes.ghosts law_box

pub seat_row : IsSend (NetSeat.the_row LawBox.the_row boxes.ghosts)
seat_row = net_seat_row LawBox.the_row boxes.ghosts law_box

pub shared_row : IsSync (SharedNet.the_row LawBox.the_row boxes.ghosts)
shared_row = net_row LawBox.the_row boxes.ghosts law_box
