-- Another queue at a port of what waits.
use Rattle.std.proofs.Common.{◌≡◌, ℕ, ◌<◌, ◌==◌, Bool, true, false, List, ap, refl, if◌then◌else◌}
use Rattle.std.proofs.lemmas.List.{length-set, set-set, get_or-set_same}
use Rattle.mg_value.specs.Payload.{Plain}
use Rattle.mg_stream.specs.Queue.{Waiting}
use Rattle.mg_stream.specs.Pool.{Backlog, empty_backlog, queue_of, backlog_of}
use Rattle.mg_loopback.specs.Loopback.{Held}
use Rattle.mg_node.specs.declared.pending.Pending.{Pending}
use Rattle.mg_node.specs.declared.pending.Pending.TheVariants.{Sets, Loop}
use Rattle.mg_node.specs.Ports.{ports_in, port_queue, with_port}

-- it is the queue there
held_there : (held : Held Plain) (test : Bool) (q : Waiting Plain) → (if test then (if test then record held { loop = q } else record held { main = q }).loop else (if test then record held { loop = q } else record held { main = q }).main) ≡ q
held_there held true q = refl
held_there held false q = refl

pub queue-there : (w : Pending) (port : ℕ) (q : Waiting Plain) → port < ports_in w → port_queue (with_port w port q) port ≡ q
queue-there (Sets inbox) port q there = ap (queue_of q.spare) (get_or-set_same inbox.pool.ports port (backlog_of q) empty_backlog there)
queue-there (Loop held) port q there = held_there held (port == 0) q

-- there are as many ports
pub ports-same : (w : Pending) (port : ℕ) (q : Waiting Plain) → ports_in (with_port w port q) ≡ ports_in w
ports-same (Sets inbox) port q = length-set inbox.pool.ports port (backlog_of q)
ports-same (Loop held) port q = refl

-- the later one stands
held_twice : (held : Held Plain) (test : Bool) (q r : Waiting Plain)
    → (if test then record (if test then record held { loop = q } else record held { main = q }) { loop = r } else record (if test then record held { loop = q } else record held { main = q }) { main = r })
    ≡ (if test then record held { loop = r } else record held { main = r })
held_twice held true q r = refl
held_twice held false q r = refl

pub port-twice : (w : Pending) (port : ℕ) (q r : Waiting Plain) → with_port (with_port w port q) port r ≡ with_port w port r
port-twice (Sets inbox) port q r = ap (λ (ports : List (Backlog Plain)). Sets (record { policy = inbox.policy; pool = record { ports = ports; spare = r.spare } })) (set-set inbox.pool.ports port (backlog_of q) (backlog_of r))
port-twice (Loop held) port q r = ap Loop (held_twice held (port == 0) q r)
