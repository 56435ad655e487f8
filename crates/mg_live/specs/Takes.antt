-- What is kept of a free node while a graph runs, and when it stands for what the node has taken.
use Rattle.std.specs.Prelude.{◌≡◌, ◌<◌, ◌∷◌, ℕ, Bool, true, false, List, [], map, drop, length, All, Some, slice_get, slice_index_or}
use Rattle.std.specs.List.{zip}
use Rattle.mg_value.specs.Payload.{Plain}
use Rattle.mg_settled.specs.Prefix.{StreamPrefix, IsPrefix}
use Rattle.mg_free.specs.declared.node.FreeNode.{FreeNode}
use Rattle.mg_free.specs.Free.{Arrival, ports_of, IsRestOf}
use Rattle.mg_free.specs.Logs.{flow_of, arrived_at, IsLawfulSoFar}
use Rattle.mg_free.specs.Rounds.{Taken, output_so_far, free_inputs, turn}
use Rattle.mg_live.specs.declared.arrived.Arrived.{Arrived}
use Rattle.mg_live.specs.declared.taker.Taker.{Taker}

-- an arrival as a log has it
abbrev pub told : Arrival Plain → Arrived
told arrival = record { port = arrival.port; at = arrival.packet.at }

-- A taker stands for what its free node has taken. What it keeps is of the flow that the node's log gives. It has how many packets
-- arrived at each port, the log itself, and whether the output is closed.
pub record HasTaken (free : FreeNode) (taken : Taken) (taker : Taker) : Type 0 where
  pub law : taker.state.law ≡ free.law
  pub flow : IsRestOf (flow_of free.law taken.log) taker.state.rest
  pub ports : length taker.counts.items ≡ length free.inputs
  pub counts : (port : ℕ) → port < length free.inputs → slice_index_or taker.counts.items port 0 ≡ length (arrived_at port taken.log)
  pub log : taker.log.items ≡ map told taken.log
  pub closed : taker.closed ≡ taken.closed

-- a taker has handed on as many packets as the output of its free node has, by what the node has taken
abbrev pub HasHanded : FreeNode → Taken → Taker → Type 0
HasHanded free taken taker = taker.state.rest.handed ≡ length (output_so_far free taken).packets

-- a prefix without its first packets, by their number
abbrev pub piece_behind : ℕ → StreamPrefix Plain → StreamPrefix Plain
piece_behind count s = record { packets = drop count s.packets; bound = s.bound }

-- a free node may have its turn in the given streams. It has as many inputs as its law asks for, and these are among the streams. The
-- input streams are prefixes by the rule of streams, and the node's log is lawful so far.
pub record MayTurn (streams : List (StreamPrefix Plain)) (free : FreeNode) (taken : Taken) : Type 0 where
  pub ports : length free.inputs ≡ ports_of free.law
  pub among : (port : ℕ) (stream : ℕ) → slice_get free.inputs port ≡ Some stream → stream < length streams
  pub prefixes : All IsPrefix (free_inputs streams free)
  pub lawful : IsLawfulSoFar (free_inputs streams free) taken.log

-- the packets that a free node hasn't taken yet can be read from the streams at its ports
abbrev pub CanRead : {S : Type 0} → (S → ℕ → ℕ → Type 0) → S → FreeNode → Taken → Type 0
CanRead has_from streams free taken = (port : ℕ) (stream : ℕ) → slice_get free.inputs port ≡ Some stream → has_from streams stream (length (arrived_at port taken.log))

-- the streams that are read are streams in which a free node may have its turn, after what its taker stands for
pub record MayTurnIn {S : Type 0} (are : S → List (StreamPrefix Plain) → Type 0) (has_from : S → ℕ → ℕ → Type 0) (read : S) (free : FreeNode) (taker : Taker) : Type 0 where
  pub streams : List (StreamPrefix Plain)
  pub taken : Taken
  pub are_they : are read streams
  pub has_taken : HasTaken free taken taker
  pub may : MayTurn streams free taken
  pub can_read : CanRead has_from read free taken

-- whether something was done: true for a change, and false if all is as it was
abbrev pub Did : {X : Type 0} → Bool → X → X → Type 0
Did true before after = ¬ (after ≡ before)
Did false before after = after ≡ before

-- All free nodes.

-- takers stand for what their free nodes have taken, each for its own
pub record HaveTaken (frees : List FreeNode) (takens : List Taken) (takers : List Taker) : Type 0 where
  pub takers_long : length takers ≡ length frees
  pub takens_long : length takens ≡ length frees
  pub each : (place : ℕ) (free : FreeNode) (taken : Taken) (taker : Taker) → slice_get frees place ≡ Some free → slice_get takens place ≡ Some taken → slice_get takers place ≡ Some taker
      → HasTaken free taken taker

-- for each taker how many packets of the output were handed on
abbrev pub handed_of : List Taker → List ℕ
handed_of takers = map (λ taker. taker.state.rest.handed) takers

-- the outputs of free nodes, as far as they are known
abbrev pub outputs_so_far : List FreeNode → List Taken → List (StreamPrefix Plain)
outputs_so_far frees takens = map (λ e. output_so_far e.0 e.1) (zip frees takens)

-- prefixes, each without its first packets, by their numbers
abbrev pub pieces_behind : List ℕ → List (StreamPrefix Plain) → List (StreamPrefix Plain)
pieces_behind [] ss = []
pieces_behind (n ∷ ns) [] = []
pieces_behind (n ∷ ns) (s ∷ ss) = piece_behind n s ∷ pieces_behind ns ss

-- what free nodes have taken at first: nothing
abbrev pub nothing_taken : List FreeNode → List Taken
nothing_taken frees = map (λ free. record { log = []; closed = false }) frees

-- what free nodes have taken after each has had its turn
abbrev pub turns_of : List (StreamPrefix Plain) → List FreeNode → List Taken → List Taken
turns_of streams frees takens = map (λ e. turn streams e.0 e.1) (zip frees takens)

-- all free nodes may have their turns in the given streams
abbrev pub MayAllTurn : List (StreamPrefix Plain) → List FreeNode → List Taken → Type 0
MayAllTurn streams frees takens = (place : ℕ) (free : FreeNode) (taken : Taken) → slice_get frees place ≡ Some free → slice_get takens place ≡ Some taken → MayTurn streams free taken

-- the streams that are read are streams in which all free nodes may have their turns, and what they haven't taken can be read
pub record MayRound {S : Type 0} (are : S → List (StreamPrefix Plain) → Type 0) (has_from : S → ℕ → ℕ → Type 0) (read : S) (frees : List FreeNode) (takers : List Taker) : Type 0 where
  pub streams : List (StreamPrefix Plain)
  pub takens : List Taken
  pub are_they : are read streams
  pub have_taken : HaveTaken frees takens takers
  pub may : MayAllTurn streams frees takens
  pub can_read : (place : ℕ) (free : FreeNode) (taken : Taken) → slice_get frees place ≡ Some free → slice_get takens place ≡ Some taken → CanRead has_from read free taken

-- Places.

-- numbers that rise: each is higher than all before it
abbrev pub AreRising : List ℕ → Type 0
AreRising numbers = (i j number other : ℕ) → i < j → slice_get numbers i ≡ Some number → slice_get numbers j ≡ Some other → number < other

-- a number isn't among others
abbrev pub IsNoneOf : List ℕ → ℕ → Type 0
IsNoneOf numbers number = (i : ℕ) → ¬ (slice_get numbers i ≡ Some number)

-- the places of a list at which something was done: at all other places the list is as it was
pub record DidAt {X : Type 0} (places : List ℕ) (before after : List X) : Type 0 where
  pub rising : AreRising places
  pub within : (i place : ℕ) → slice_get places i ≡ Some place → place < length before
  pub did : (i place : ℕ) (x y : X) → slice_get places i ≡ Some place → slice_get before place ≡ Some x → slice_get after place ≡ Some y → ¬ (y ≡ x)
  pub others : (place : ℕ) (x y : X) → IsNoneOf places place → slice_get before place ≡ Some x → slice_get after place ≡ Some y → y ≡ x

-- the streams at some places, each without its first packets, by their numbers
pub record ArePiecesAt (places : List ℕ) (pieces : List (StreamPrefix Plain)) (counts : List ℕ) (streams : List (StreamPrefix Plain)) : Type 0 where
  pub as_many : length pieces ≡ length places
  pub each : (i place count : ℕ) (s : StreamPrefix Plain) → slice_get places i ≡ Some place → slice_get counts place ≡ Some count → slice_get streams place ≡ Some s → slice_get pieces i ≡ Some (piece_behind count s)

-- at all places but the given ones, all packets of the streams are counted
abbrev pub AreCountedBut : List ℕ → List ℕ → List (StreamPrefix Plain) → Type 0
AreCountedBut places counts streams = (place count : ℕ) (s : StreamPrefix Plain) → IsNoneOf places place → slice_get counts place ≡ Some count → slice_get streams place ≡ Some s → count ≡ length s.packets
