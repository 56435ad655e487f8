-- The standing of an intake, which others may have been told: it only grows, number by number.
use Rattle.std.specs.Prelude.{◌≡◌, ℕ, ◌≤◌}
use Rattle.mg_value.specs.Payload.{Plain}
use Rattle.mg_stream.specs.Queue.{Waiting, count_of}
use Rattle.mg_node.specs.Views.{IntakeView}
use Rattle.mg_node.specs.Ports.{port_queue}

-- an output or a port has grown: no fewer packets are counted, those that are gone included, and the bound is no lower
pub record HasGrown (before now : Waiting Plain) : Type 0 where
  pub count : count_of before ≤ count_of now
  pub bound : before.bound ≤ now.bound

-- an output or a port stays: as many packets are counted as before, and the bound is the same
pub record Stays (before now : Waiting Plain) : Type 0 where
  pub count : count_of now ≡ count_of before
  pub bound : now.bound ≡ before.bound

-- the standing of an intake has grown: no fewer sets are claimed, or packets of MAIN answered, and each port has grown. A number past the
-- last port of sets stands for a port to which nothing comes, and a loopback's from 1 on for MAIN.
pub record IntakeGrows (before now : IntakeView) : Type 0 where
  pub claimed : before.claimed ≤ now.claimed
  pub ports : (port : ℕ) → HasGrown (port_queue before.waits port) (port_queue now.waits port)
