-- How the packets of one port lie in a pool: entries that each name the next.
use Rattle.std.specs.Prelude.{◌≡◌, ◌≢◌, ℕ, zero, suc, List, [], ◌∷◌, length, map, Option, None, option_map, unwrap_or, slice_index_or, ◌⊎◌}
use Rattle.mg_time.specs.Time.{pre_stream}
use Rattle.mg_value.specs.Payload.{Plain}
use Rattle.mg_value.specs.Packet.{Stamped}
use Rattle.mg_stream.specs.Queue.{IsQueue}
use Rattle.mg_stream.specs.Pool.{Backlog, queue_of}
use Rattle.mg_stream.specs.declared.chain.Entry.{Entry}
use Rattle.mg_stream.specs.declared.chain.Chain.{Chain}

-- the entry at a key, or none
abbrev pub entry_at : List (Option Entry) → ℕ → Option Entry
entry_at slots key = slice_index_or slots key None

-- the keys and packets of a number of entries. The first entry is at a key, and each next one at the key that the entry before
-- names
abbrev pub linked : List (Option Entry) → ℕ → ℕ → List (ℕ × Stamped Plain)
linked slots zero key = []
linked slots (suc n) key = unwrap_or (option_map (λ e. (key, e.packet) ∷ linked slots n e.next) (entry_at slots key)) []

-- the keys of some entries
abbrev pub keys_of : List (ℕ × Stamped Plain) → List ℕ
keys_of es = map (λ e. e.0) es

-- the packets of some entries
abbrev pub packets_of : List (ℕ × Stamped Plain) → List (Stamped Plain)
packets_of es = map (λ e. e.1) es

-- the key of the last entry, or another key if there is no entry
abbrev pub last_key : ℕ → List (ℕ × Stamped Plain) → ℕ
last_key key [] = key
last_key key (e ∷ es) = last_key e.0 es

-- a key is one of some keys
abbrev pub IsKey : ℕ → List ℕ → Type 0
IsKey key [] = ⊥
IsKey key (k ∷ ks) = (k ≡ key) ⊎ IsKey key ks

-- the entries of a chain
abbrev pub entries_of : List (Option Entry) → Chain → List (ℕ × Stamped Plain)
entries_of slots c = linked slots c.waiting c.first

-- what waits at the port of a chain
abbrev pub backlog_in : List (Option Entry) → Chain → Backlog Plain
backlog_in slots c = record { gone = c.gone; packets = packets_of (entries_of slots c); bound = c.bound }

-- the chain of a port to which nothing came
abbrev pub empty_chain : Chain
empty_chain = record { first = 0; last = 0; waiting = 0; gone = 0; bound = pre_stream }

-- the chain of a port
abbrev pub chain_at : List Chain → ℕ → Chain
chain_at chains port = slice_index_or chains port empty_chain

-- a chain is whole: as many entries are there as it counts, and the last of them is the one that it names. The chain holds a
-- queue
pub record IsWhole (slots : List (Option Entry)) (c : Chain) : Type 0 where
  pub full : length (entries_of slots c) ≡ c.waiting
  pub last : last_key c.last (entries_of slots c) ≡ c.last
  pub queue : IsQueue (queue_of 0 (backlog_in slots c))

-- each chain is whole, and no entry stands in two chains
pub record AreLaid (slots : List (Option Entry)) (chains : List Chain) : Type 0 where
  pub each : (port : ℕ) → IsWhole slots (chain_at chains port)
  pub apart : (port other key : ℕ) → port ≢ other → IsKey key (keys_of (entries_of slots (chain_at chains port)))
      → IsKey key (keys_of (entries_of slots (chain_at chains other))) → ⊥
