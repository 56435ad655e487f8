use Rattle.std.proofs.Common.{ap}
use Rattle.mg_stream.specs.Pool.{backlog_of}
use Rattle.mg_node.proofs.Replying.{laid_packet, laid_nothing, told_none, may_lay_packet}
use Rattle.mg_node.proofs.replied.reply.Goals as goal

pub append-requires-clause-may_come : goal.append-requires-clause-may_come
append-requires-clause-may_come c = may_lay_packet _ _ _ _ _ c.requires.may_lay c.in-Packet.ensures c.reserve.ensures.unchanged

pub returns-in-NotYet : goal.returns-in-NotYet
returns-in-NotYet c = told_none _ _ _ _ c.in-NotYet.ensures c.reserve.ensures.unchanged

pub returns-in-Silent : goal.returns-in-Silent
returns-in-Silent c = laid_nothing _ _ _ _ _ c.in-Silent.ensures c.reserve.ensures.unchanged

pub returns-in-Packet : goal.returns-in-Packet
returns-in-Packet c = laid_packet _ _ _ _ _ _ c.in-Packet.ensures c.reserve.ensures.unchanged (ap backlog_of c.append.ensures)
