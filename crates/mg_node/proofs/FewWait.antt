-- Few packets wait at a port: their times ascend from PreStream on, each below Done.
use Rattle.mg_calc.specs.Rules.{Laws}
use Rattle.std.proofs.Common.{ℕ, zero, suc, ◌+◌, ◌≤◌, ◌<◌, ◌^◌, ◌==◌, Bool, true, false, List, [], ◌∷◌, length, length-drop, map, get_or, if◌then◌else◌, ap, arith}
use Rattle.std.specs.List.{AllZip, AllByRecursion}
use Rattle.std.proofs.lemmas.List.Elements.{recursion_from_All}
use Rattle.mg_time.specs.Time.{pre_stream, done, IsAllowed}
use Rattle.mg_value.specs.Payload.{Plain}
use Rattle.mg_value.specs.Packet.{Stamped}
use Rattle.mg_settled.specs.Prefix.{StreamPrefix, IsPrefix, first_time}
use Rattle.mg_settled.proofs.Climbs.{Climbs, Ascends-climbs}
use Rattle.mg_stream.specs.Queue.{Waiting, StandsFor}
use Rattle.mg_stream.specs.Pool.{Backlog, queue_of, empty_backlog}
use Rattle.mg_node.specs.declared.pending.Pending.{Pending}
use Rattle.mg_node.specs.declared.pending.Pending.TheVariants.{Sets, Loop}
use Rattle.mg_node.specs.Views.{IntakeView}
use Rattle.mg_node.specs.Ports.{port_queue}
use Rattle.mg_node.specs.Job.{LoggedJob}
use Rattle.mg_node.specs.Lawful.{HoldsWaits, LawfulIntake}

-- at most as many packets climb as there are times
climbs_long : {X : Type 0} (a b : ℕ) (ps : List (Stamped X)) → Climbs a ps b → length ps + a ≤ b
climbs_long a b [] h = omega (arith, h)
climbs_long a b (p ∷ ps) h = (let rest = climbs_long (p.at + 1) b ps h.1 in let first = h.0 in omega (arith, rest, first))

pub prefix_counted : {X : Type 0} (s : StreamPrefix X) → IsPrefix s → length s.packets + pre_stream ≤ s.bound
prefix_counted {X} s h =
    let allowed = recursion_from_All (λ (p : Stamped X). IsAllowed p.at) s.packets h.allowed in
    climbs_long pre_stream s.bound s.packets (Ascends-climbs pre_stream s.bound s.packets allowed h.ascends (starts s.packets allowed))
  where
    starts : (ps : List (Stamped X)) → AllByRecursion (λ p. IsAllowed p.at) ps → pre_stream ≤ first_time ps s.bound
    starts [] all = h.opened
    starts (p ∷ ps) all = all.0.0

pub prefix_few : {X : Type 0} (s : StreamPrefix X) → IsPrefix s → length s.packets + pre_stream ≤ done
prefix_few s h = (let counted = prefix_counted s h in let within = h.within in omega (arith, counted, within))

stands_few : (q : Waiting Plain) (s : StreamPrefix Plain) → StandsFor q s → length q.packets + 1 < 2 ^ 64
stands_few q s h = (let few = prefix_few s h.prefix in omega (arith, few, ap length h.waiting, length-drop q.gone s.packets))

-- a port past the last is empty
pool_few : (room : ℕ) (bs : List (Backlog Plain)) (ss : List (StreamPrefix Plain)) (port : ℕ) → AllZip StandsFor (map (queue_of room) bs) ss → length (get_or bs port empty_backlog).packets + 1 < 2 ^ 64
pool_few room [] ss port h = omega arith
pool_few room (b ∷ bs) [] port h = absurd h
pool_few room (b ∷ bs) (s ∷ ss) zero h = stands_few (queue_of room b) s h.0
pool_few room (b ∷ bs) (s ∷ ss) (suc port) h = pool_few room bs ss port h.1

held_few : (here : Bool) (loop main : Waiting Plain) → length loop.packets + 1 < 2 ^ 64 → length main.packets + 1 < 2 ^ 64 → length (if here then loop else main).packets + 1 < 2 ^ 64
held_few true loop main a b = a
held_few false loop main a b = b

waits_few : {laws : Laws} (job : LoggedJob laws) (streams : List (StreamPrefix Plain)) (consumer claimed : ℕ) (waits : Pending) (port : ℕ) → HoldsWaits job streams consumer claimed waits → length (port_queue waits port).packets + 1 < 2 ^ 64
waits_few {laws} job streams consumer claimed (Sets inbox) port h = pool_few inbox.pool.spare inbox.pool.ports h.1.came port h.1.stands.each
waits_few {laws} job streams consumer claimed (Loop held) port h = (let stands = h.1.stands in held_few (port == 0) held.loop held.main (stands_few held.loop h.1.loop stands.at_loop) (stands_few held.main h.1.main stands.at_main))

pub few_packets : {laws : Laws} (job : LoggedJob laws) (consumer port : ℕ) (intake : IntakeView) → LawfulIntake job consumer intake → length (port_queue intake.waits port).packets + 1 < 2 ^ 64
unfolding LawfulIntake
few_packets {laws} job consumer port intake h = waits_few job h.streams consumer intake.claimed intake.waits port h.holds
