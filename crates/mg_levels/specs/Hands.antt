-- What a thread has done at one level: the portion that it has, the places that it put in and those that it took out. It also
-- says how often the thread found the level full, and empty.
use Rattle.std.specs.Prelude.{◌≡◌, ℕ, ◌+◌, ◌-◌, List, [], ◌∷◌, ◌++◌, min}
use Rattle.crossbeam_queue.specs.Fifo.{Held}
use Rattle.crossbeam_queue.specs.declared.array_queue.Slotted.{Slotted}
use Rattle.atomic_table.specs.Seated.{TableId}
use Rattle.mg_levels.specs.Balance.{share, Knows}
use Rattle.mg_levels.specs.declared.share.Share.{Share}
use Rattle.mg_levels.specs.declared.hand.Hand.{Hand}

pub record HandView : Type 0 where
  pub portion : ℕ
  pub put : List ℕ
  pub taken : List ℕ
  pub fulls : ℕ
  pub empties : ℕ

-- what contracts see of a hand
abbrev pub hand_view : Hand → HandView
hand_view h = record { portion = h.pass.me.0.client.portion; put = h.pass.me.0.client.put; taken = h.pass.me.0.client.taken; fulls = h.fulls; empties = h.empties }

-- the id of the queue that a hand is of
abbrev pub hand_id : Hand → TableId
hand_id h = h.pass.table_id

-- the id of a queue
abbrev pub queue_id : {S D Q A : Type 0} → Slotted S D Q A → TableId
queue_id q = q.table.shared.table_id

-- the share of a hand, which the rule of its level speaks of
abbrev pub share_of : HandView → Share
share_of h = share h.portion h.put h.taken

-- a count with one more, up to the greatest number of 64 bits
abbrev pub more : ℕ → ℕ
more n = min (n + 1) 18446744073709551615

-- a hand after a place was put in
abbrev pub put_to : HandView → ℕ → HandView
put_to h place = record h { put = h.put ++ place ∷ [] }

-- a hand after a place was taken out
abbrev pub took_from : HandView → ℕ → HandView
took_from h place = record h { taken = h.taken ++ place ∷ [] }

-- at one moment the level held so many places, which agree with what the thread knows of them
abbrev pub HeldThen : ℕ → HandView → Type 0
HeldThen room h = Held room (Knows (share_of h))

-- the level was found full, which is counted
pub record FoundFull (room : ℕ) (h now : HandView) : Type 0 where
  pub counted : now ≡ record h { fulls = more h.fulls }
  pub held : HeldThen room h

-- the level was found empty, which is counted
pub record FoundEmpty (h now : HandView) : Type 0 where
  pub counted : now ≡ record h { empties = more h.empties }
  pub held : HeldThen 0 h

-- a hand with this portion that has done nothing
abbrev pub fresh : ℕ → HandView
fresh portion = record { portion = portion; put = []; taken = []; fulls = 0; empties = 0 }

-- a hand after an amount of its portion was handed over
abbrev pub kept_hand : HandView → ℕ → HandView
kept_hand h amount = record h { portion = h.portion - amount }

-- two hands as one; their counts are added up to the greatest number of 64 bits
abbrev pub joined : HandView → HandView → HandView
joined h other = record {
  portion = h.portion + other.portion;
  put = h.put ++ other.put;
  taken = h.taken ++ other.taken;
  fulls = min (h.fulls + other.fulls) 18446744073709551615;
  empties = min (h.empties + other.empties) 18446744073709551615;
}
