-- What a taker counts of its free node, beside the node's state.
use Rattle.std.specs.Prelude.{◌≡◌, ◌<◌, ℕ, map, length, slice_index_or}
use Rattle.mg_free.specs.declared.node.FreeNode.{FreeNode}
use Rattle.mg_free.specs.Logs.{arrived_at}
use Rattle.mg_free.specs.Rounds.{Taken}
use Rattle.mg_live.specs.declared.taker.Taker.{Taker}
use Rattle.mg_live.specs.Takes.{told}

-- a taker has its node's law, how many packets arrived at each port, the log, and whether the output is closed
pub record HasCounted (free : FreeNode) (taken : Taken) (taker : Taker) : Type 0 where
  pub law : taker.state.law ≡ free.law
  pub ports : length taker.counts.items ≡ length free.inputs
  pub counts : (port : ℕ) → port < length free.inputs → slice_index_or taker.counts.items port 0 ≡ length (arrived_at port taken.log)
  pub log : taker.log.items ≡ map told taken.log
  pub closed : taker.closed ≡ taken.closed
