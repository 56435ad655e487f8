use base.Fml.{Lft}
use contract.Lifetimes.{Lfts}
use denote.Exit.{no}
use denote.RattleType.{RattleType}
use denote.Ref.{ShrRef}
use denote.Struct.Field.{u32-field}
use denote.Struct.Declared.{shape}
use denote.Param.{param}
use denote.Param.Send.{IsSend, IsSync, AllSend, shr_send, struct_send, recorded_send, param_send, sendable}
use mir.Syntax.{named}
use Rattle.std.proofs.Common.{List, [], ◌∷◌}
use Rattle.std.specs.contracts.alloc.Global as Global
use Rattle.mg_route.specs.contracts.law_box.LawBox as LawBox
use Rattle.mg_route.specs.contracts.law_box.LawBoxNodeCalculator.TheImpl as boxes
use Rattle.mg_turns.specs.contracts.seat.NetSeat as NetSeat
use Rattle.mg_turns.specs.contracts.shared.SharedNet as SharedNet
use Rattle.mg_turns.proofs.Sent.{closure}
use Rattle.mg_test_turns.specs.contracts.threads.Worked as Worked
use Rattle.mg_test_turns.proofs.Sent.{seat, seat_row, shared_row}
use Rattle.mg_test_turns.proofs.threads.+many.Lts-many as Lts
use Rattle.mg_test_turns.proofs.threads.+many.Given.{Over}
use Rattle.mg_test_turns.proofs.threads.+many.Goals as goal

worked : IsSend (Worked.the_field).row
worked = struct_send (shape Worked.the_type) (seat, (search sendable, (search sendable, tt)))

worked_row : IsSend Worked.the_row
worked_row = recorded_send (Worked.the_field).row _ _ Worked.the_type.to_one worked

-- What `most` captures. The name of a lifetime says nothing of threads.
abbrev captured : Over → Lft → Lft → List RattleType
captured g a b =
    ShrRef (named 0) a (param 0 g.row.R)
    ∷ Global.the_row
    ∷ ShrRef (named 0) b (SharedNet.the_row LawBox.the_row boxes.ghosts)
    ∷ NetSeat.the_row LawBox.the_row boxes.ghosts
    ∷ u32-field.row
    ∷ u32-field.row
    ∷ []

all_captured : (g : Over) (a b : Lft) → IsSync (param 0 g.row.R) → AllSend (captured g a b)
all_captured g a b handle =
    (shr_send _ a _ handle, ((search sendable), (shr_send _ b _ shared_row, (seat_row, ((search sendable), ((search sendable), tt))))))

most : (g : Over) (κs : Lfts 8) → IsSync (param 0 g.row.R) → IsSend (Lts.arg-2-1 g.row.R g.R.laws g.R.Threads-dict κs)
most g κs handle =
    let a : Lft = κs.1.1.1.1.1.1.0 in
    let b : Lft = κs.1.1.1.1.1.1.1.0 in
    let s = closure (captured g a b) (all_captured g a b handle) in
    record { owned = s.owned; leaving = λ _. s.leaving no }

comes_back : (g : Over) (κs : Lfts 8) → IsSend (Lts.arg-2-3 g.row.R g.R.laws g.R.Threads-dict κs)
comes_back g κs = record { owned = worked_row.owned; leaving = λ _. worked_row.leaving no }

pub join-all-requires-send-F : goal.join-all-requires-send-F
join-all-requires-send-F g t c κs within = param_send 1 _ (most g κs c.requires.bounds)

pub join-all-requires-send-A : goal.join-all-requires-send-A
join-all-requires-send-A g t c κs within = param_send 3 _ (comes_back g κs)
