-- An answer of a loopback on its way from the intake to the one output.
use Rattle.std.specs.Prelude.{◌≡◌, ◌+◌, Some, None}
use Rattle.mg_value.specs.Payload.{Plain}
use Rattle.mg_value.specs.Packet.{Stamped}
use Rattle.mg_settled.specs.Loopback.{Reply, packet_of}
use Rattle.mg_stream.specs.Queue.{Waiting, MayCome}
use Rattle.mg_stream.specs.Pool.{backlog_of}
use Rattle.mg_loopback.specs.Loopback.{Held, next_reply, replied}
use Rattle.mg_node.specs.declared.replied.Replied.{Replied}
use Rattle.mg_node.specs.declared.replied.Replied.TheVariants.{Laid, NotYet, OutOfMemory}
use Rattle.mg_node.specs.declared.pending.Pending.{Pending}
use Rattle.mg_node.specs.declared.pending.Pending.TheVariants.{Loop}
use Rattle.mg_node.specs.Views.{IntakeView}
use Rattle.mg_node.specs.Claims.{with_reply}

-- the packet of a loopback's next answer, if there is one, may come at the output
abbrev pub MayLay : Waiting Plain → Pending → Type 0
MayLay output waits = (held : Held Plain) (r : Reply Plain) (p : Stamped Plain) → waits ≡ Loop held → next_reply held ≡ Some r → packet_of r ≡ Some p → MayCome output p.at

-- the next answer is laid at the output, and gone from the intake
pub record LaysReply (output output_now : Waiting Plain) (intake intake_now : IntakeView) : Type 0 where
  pub held : Held Plain
  pub waits : intake.waits ≡ Loop held
  pub reply : Reply Plain
  pub next : next_reply held ≡ Some reply
  pub laid : backlog_of output_now ≡ with_reply (packet_of reply) (backlog_of output)
  pub intake_is : intake_now ≡ record { claimed = intake.claimed + 1; waits = Loop (replied held) }

-- the next answer can't be told, and nothing has changed
pub record TellsNone (output output_now : Waiting Plain) (intake intake_now : IntakeView) : Type 0 where
  pub held : Held Plain
  pub waits : intake.waits ≡ Loop held
  pub none : next_reply held ≡ None
  pub same : backlog_of output_now ≡ backlog_of output
  pub intake_is : intake_now ≡ intake

-- what became of the next answer, and what that leaves; when out of memory, nothing has changed
abbrev pub Replies : Replied → Waiting Plain → Waiting Plain → IntakeView → IntakeView → Type 0
Replies Laid output output_now intake intake_now = LaysReply output output_now intake intake_now
Replies NotYet output output_now intake intake_now = TellsNone output output_now intake intake_now
Replies OutOfMemory output output_now intake intake_now = (backlog_of output_now ≡ backlog_of output) × (intake_now ≡ intake)
