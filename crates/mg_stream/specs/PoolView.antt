-- What contracts see of a pool's fields, and what holds of them.
use Rattle.std.specs.Prelude.{◌-◌, ◌<◌, ◌≤◌, ◌^◌, map, vec_len}
use Rattle.slab.specs.Slab.{slab_len}
use Rattle.mg_value.specs.Payload.{Plain}
use Rattle.mg_stream.specs.Pool.{Pooled}
use Rattle.mg_stream.specs.Code.Chain.{backlog_in, AreLaid}
use Rattle.mg_stream.specs.declared.pool.Pool.TheInside.{Inside}

-- a pool as contracts see it
abbrev pub pool_view : Inside → Pooled Plain
pool_view p = record { ports = map (backlog_in p.entries.slots) p.chains.items; spare = p.room - slab_len p.entries }

-- what holds of each pool: its chains are laid out in its entries, its ports fit in 32 bits, and its entries within their capacity
pub record IsPool (p : Inside) : Type 0 where
  pub laid : AreLaid p.entries.slots p.chains.items
  pub few : vec_len p.chains < 2 ^ 32
  pub held : slab_len p.entries ≤ p.room
  pub room : p.room ≤ p.entries.capacity
