-- What waits at the ports of an intake, of either kind, and what may be claimed of it next.
use Rattle.std.specs.Prelude.{◌≡◌, ℕ, ◌+◌, ◌==◌, length, List, [], Option, Some, None, IsSomeAnd, if◌then◌else◌}
use Rattle.mg_time.specs.Time.{done}
use Rattle.mg_value.specs.Payload.{Plain}
use Rattle.mg_value.specs.declared.policy.Policy.{Policy}
use Rattle.mg_value.specs.declared.policy.Policy.TheVariants.{Default, Mux}
use Rattle.mg_settled.specs.Prefix.{StreamPrefix, first_time}
use Rattle.mg_settled.specs.Settled.{TimedSet, select_of, reach}
use Rattle.mg_settled.specs.FirstSet.{earliest}
use Rattle.mg_stream.specs.Queue.{Waiting}
use Rattle.mg_stream.specs.Pool.{queue_at, queues_of, pool_len, with_queue}
use Rattle.mg_policy.specs.Inbox.{rests, next_set, Tells}
use Rattle.mg_policy.specs.declared.readiness.Readiness.{Readiness}
use Rattle.mg_policy.specs.declared.readiness.Readiness.TheVariants.{Ready, Close, NotReady}
use Rattle.mg_loopback.specs.Loopback.{Held, queue_at as held_queue_at, next_reply, reached}
use Rattle.mg_node.specs.declared.pending.Pending.{Pending}
use Rattle.mg_node.specs.declared.pending.Pending.TheVariants.{Sets, Loop}

-- how many ports there are; those of a loopback are LOOP and MAIN
abbrev pub ports_in : Pending → ℕ
ports_in (Sets inbox) = length inbox.pool.ports
ports_in (Loop held) = 2

-- the queue of a port
abbrev pub port_queue : Pending → ℕ → Waiting Plain
port_queue (Sets inbox) port = queue_at inbox.pool port
port_queue (Loop held) port = held_queue_at port held

-- how many packets wait at all ports
abbrev pub waiting_in : Pending → ℕ
waiting_in (Sets inbox) = pool_len inbox.pool
waiting_in (Loop held) = length held.loop.packets + length held.main.packets

-- what waits at a loopback with another queue at a port
abbrev pub held_with : Held Plain → ℕ → Waiting Plain → Held Plain
held_with held port q = if port == 0 then record held { loop = q } else record held { main = q }

-- what waits with another queue at a port
abbrev pub with_port : Pending → ℕ → Waiting Plain → Pending
with_port (Sets inbox) port q = Sets (record inbox { pool = with_queue inbox.pool port q })
with_port (Loop held) port q = Loop (held_with held port q)

-- a queue with another room
abbrev pub with_room : Waiting Plain → ℕ → Waiting Plain
with_room q spare = record q { spare = spare }

-- what may be claimed next: an input set, or the answer to the next packet of MAIN, at its time. Otherwise nothing comes any more, or
-- neither can be told yet.
abbrev pub IsNext : Pending → Readiness → Type 0
IsNext (Sets inbox) readiness = Tells inbox.policy readiness (queues_of inbox.pool)
IsNext (Loop held) (Ready at) = IsSomeAnd (next_reply held) (λ r. r.at ≡ at)
IsNext (Loop held) Close = (held.main.packets ≡ []) × (held.main.bound ≡ done)
IsNext (Loop held) NotReady = (next_reply held ≡ None) × ¬ ((held.main.packets ≡ []) × (held.main.bound ≡ done))

-- the time of a set, or another time if there is no set
abbrev pub next_time : Option (TimedSet Plain) → ℕ → ℕ
next_time None reached = reached
next_time (Some e) reached = e.at

-- the first time at which a packet waits, or Done if none waits: by default on any port, and under Mux on SELECT
abbrev pub first_waiting : Policy → List (StreamPrefix Plain) → ℕ
first_waiting Default ss = earliest ss
first_waiting Mux ss = first_time (select_of ss).packets done

-- below this time no further set is claimed, and no further answer is given. It is the time of the next set, or the reach if there is none.
-- For a loopback it is the time up to which its stream is told.
abbrev pub horizon_of : Pending → ℕ
horizon_of (Sets inbox) = next_time (next_set inbox.policy (queues_of inbox.pool)) (reach inbox.policy (rests (queues_of inbox.pool)))
horizon_of (Loop held) = reached held
