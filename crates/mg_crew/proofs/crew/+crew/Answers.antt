use base.Fml.{Lft}
use contract.Lifetimes.{Lfts}
use denote.Exit.{no}
use denote.RattleType.{RattleType}
use denote.Ref.{ShrRef}
use denote.Struct.Field.{u32-field}
use denote.Param.{param}
use denote.Param.Send.{IsSend, IsSync, AllSend, shr_send, param_send, sendable}
use mir.Syntax.{named}
use Rattle.std.proofs.Common.{List, [], ◌∷◌}
use Rattle.std.specs.contracts.alloc.Global as Global
use Rattle.mg_turns.specs.contracts.seat.NetSeat as NetSeat
use Rattle.mg_turns.specs.contracts.shared.SharedNet as SharedNet
use Rattle.mg_crew.specs.contracts.putting.Place as Place
use Rattle.mg_crew.specs.contracts.shop.Tools as Tools
use Rattle.mg_crew.proofs.Sent.{closure, net_row, tools_row, seat_row, place_row}
use Rattle.mg_crew.proofs.crew.+crew.Lts-crew as Lts
use Rattle.mg_crew.proofs.crew.+crew.Given.{Over}
use Rattle.mg_crew.proofs.crew.+crew.Goals as goal

-- What `many` captures: what all workers have in common, and what the others take over. The name of a lifetime says nothing of threads.
abbrev captured : Over → Lft → Lft → Lft → Lft → List RattleType
captured g a b c d =
    Global.the_row
    ∷ ShrRef (named 0) a (SharedNet.the_row (param 0 g.row.C) g.C.NodeCalculator)
    ∷ ShrRef (named 0) b Tools.the_row
    ∷ ShrRef (named 0) c (param 2 g.row.G)
    ∷ ShrRef (named 0) d (param 1 g.row.R)
    ∷ NetSeat.the_row (param 0 g.row.C) g.C.NodeCalculator
    ∷ Place.the_row
    ∷ u32-field.row
    ∷ []

all_captured : (g : Over) (a b c d : Lft) → IsSend (param 0 g.row.C) → IsSync (param 1 g.row.R) → IsSync (param 2 g.row.G) → AllSend (captured g a b c d)
all_captured g a b c d calculator handle gate =
    let net = net_row (param 0 g.row.C) g.C.NodeCalculator calculator in
    let seat = seat_row (param 0 g.row.C) g.C.NodeCalculator calculator in (
      (search sendable),
      (shr_send _ a _ net, (shr_send _ b _ tools_row, (shr_send _ c _ gate, (shr_send _ d _ handle, (seat, (place_row, (search sendable, tt))))))),
    )

many : (g : Over) (κs : Lfts 14) → IsSend (param 0 g.row.C) → IsSync (param 1 g.row.R) → IsSync (param 2 g.row.G) → IsSend (Lts.arg-3-1 g.row.C g.row.R g.row.G g.C.laws g.R.laws g.G.laws g.C.NodeCalculator g.C.NodeCalculator-dict g.R.Threads g.R.Threads-dict g.R.Wait g.R.Wait-dict g.G.Gate g.G.Gate-dict g.C.Destruct-dict κs)
many g κs calculator handle gate =
    let a : Lft = κs.1.1.1.1.1.1.0 in
    let b : Lft = κs.1.1.1.1.1.1.1.0 in
    let c : Lft = κs.1.1.1.1.1.1.1.1.0 in
    let d : Lft = κs.1.1.1.1.1.1.1.1.1.0 in
    let s = closure (captured g a b c d) (all_captured g a b c d calculator handle gate) in
    record { owned = s.owned; leaving = λ _. s.leaving no }

comes_back : (g : Over) (κs : Lfts 14) → IsSend (param 0 g.row.C) → IsSend (Lts.arg-3-3 g.row.C g.row.R g.row.G g.C.laws g.R.laws g.G.laws g.C.NodeCalculator g.C.NodeCalculator-dict g.R.Threads g.R.Threads-dict g.R.Wait g.R.Wait-dict g.G.Gate g.G.Gate-dict g.C.Destruct-dict κs)
comes_back g κs calculator =
    let s = seat_row (param 0 g.row.C) g.C.NodeCalculator calculator in
    record { owned = s.owned; leaving = λ _. s.leaving no }

pub join-all-requires-send-F : goal.join-all-requires-send-F
join-all-requires-send-F g t c κs within =
    let b = c.requires.bounds in
    param_send 1 _ (many g κs b.0 b.1 b.2)

pub join-all-requires-send-A : goal.join-all-requires-send-A
join-all-requires-send-A g t c κs within = param_send 3 _ (comes_back g κs c.requires.bounds.0)
