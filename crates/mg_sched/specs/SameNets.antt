-- Nets that are alike: they differ in nothing but the room that their queues have, and in the table of which feeder reaches which node. The
-- plan determines what that table says.
use Rattle.std.specs.Prelude.{◌≡◌, map}
use Rattle.mg_value.specs.Payload.{Plain}
use Rattle.mg_stream.specs.Queue.{Waiting}
use Rattle.mg_loopback.specs.Loopback.{Held}
use Rattle.mg_node.specs.declared.pending.Pending.{Pending}
use Rattle.mg_node.specs.declared.pending.Pending.TheVariants.{Sets, Loop}
use Rattle.mg_node.specs.Views.{IntakeView}
use Rattle.mg_sched.specs.Views.{NetView}

-- a queue that has no room
abbrev pub roomless : Waiting Plain → Waiting Plain
roomless q = record { gone = q.gone; packets = q.packets; bound = q.bound; spare = 0 }

-- a loopback whose queues have no room
abbrev pub bare_held : Held Plain → Held Plain
bare_held held = record { loop = roomless held.loop; main = roomless held.main; previous = held.previous }

-- what waits, in queues that have no room
abbrev pub bare_waits : Pending → Pending
bare_waits (Sets inbox) = Sets (record { policy = inbox.policy; pool = record { ports = inbox.pool.ports; spare = 0 } })
bare_waits (Loop held) = Loop (bare_held held)

-- an intake whose queues have no room
abbrev pub bare_intake : IntakeView → IntakeView
bare_intake intake = record { claimed = intake.claimed; waits = bare_waits intake.waits }

-- two nets are alike
pub record AreAlike (net other : NetView) : Type 0 where
  pub plan : net.plan ≡ other.plan
  pub given : net.given ≡ other.given
  pub engines : net.engines ≡ other.engines
  pub intakes : map bare_intake net.intakes ≡ map bare_intake other.intakes
  pub work_queues : net.work_queues ≡ other.work_queues
  pub queues : net.limits.queues ≡ other.limits.queues
  pub spare : net.spare ≡ other.spare
  pub kept : net.kept ≡ other.kept
  pub begun : net.begun ≡ other.begun
  pub wound : net.wound ≡ other.wound
