-- The free nodes that read the streams of a core's engines, and what they know of a net.
use Rattle.std.specs.Prelude.{◌≡◌, ◌+◌, ℕ, List, length, Some, slice_get, slice_index_or}
use Rattle.std.specs.Global.{Vec}
use Rattle.mg_value.specs.Payload.{Plain}
use Rattle.mg_settled.specs.Prefix.{StreamPrefix}
use Rattle.mg_calc.specs.Rules.{Laws}
use Rattle.mg_calc.specs.declared.plan.Plan.{Plan}
use Rattle.mg_calc.specs.declared.plan_stream.Producer.{Producer}
use Rattle.mg_sched.specs.Views.{NetView}
use Rattle.mg_sched.specs.Places.{place_of}
use Rattle.mg_sched.specs.Writers.{writer_at}
use Rattle.mg_sched.specs.Looks.{HasFrom}
use Rattle.mg_free.specs.declared.node.FreeNode.{FreeNode}
use Rattle.mg_live.specs.declared.due.Due.{Due}
use Rattle.mg_live.specs.declared.taker.Taker.{Taker}
use Rattle.mg_live.specs.Takes.{IsNoneOf}
use Rattle.mg_live.specs.Due.{IsUndue, IsIdle}
use Rattle.mg_drive.specs.declared.readers.Readers.{Readers}
use Rattle.mg_drive.specs.Code.Live.{AreRested}

-- there is a list for each of so many places
pub record AreNoReaders (count : ℕ) (lists : List (Vec ℕ)) : Type 0 where
  pub long : length lists ≡ count

-- a free node is among the readers at a place, if there is such a place
abbrev pub HasReader : List (Vec ℕ) → ℕ → ℕ → Type 0
HasReader lists place reader = (readers : Vec ℕ) → slice_get lists place ≡ Some readers → ¬ IsNoneOf readers.items reader

-- readers that are there stay
pub record ReadersGrow (before now : List (Vec ℕ)) : Type 0 where
  pub long : length now ≡ length before
  pub stay : (place reader : ℕ) → HasReader before place reader → HasReader now place reader

-- a free node is among the readers of the engine that writes a stream, for each of the streams that it reads
abbrev pub AreReadersOf : Plan → List ℕ → ℕ → List (Vec ℕ) → Type 0
AreReadersOf core streams reader lists = (port stream : ℕ) (writer : Producer) → slice_get streams port ≡ Some stream → writer_at core stream ≡ Some writer → HasReader lists (place_of core writer) reader

-- each free node is among the readers of the engines whose streams it reads
pub record AreReaders (core : Plan) (frees : List FreeNode) (readers : Readers) : Type 0 where
  pub first : readers.first ≡ length core.nodes
  pub long : length readers.by_place.items ≡ length core.nodes + length core.inputs
  pub each : (reader : ℕ) (free : FreeNode) → slice_get frees reader ≡ Some free → AreReadersOf core free.inputs reader readers.by_place.items

-- A free node was idle in the streams of a net at rest. What it had still to read was there.
pub record WasIdle (laws : Laws) (free : FreeNode) (taker : Taker) (net : NetView) : Type 0 where
  pub streams : List (StreamPrefix Plain)
  pub rested : AreRested laws net streams
  pub there : (port stream : ℕ) → slice_get free.inputs port ≡ Some stream → HasFrom net stream (slice_index_or taker.counts.items port 0)
  pub idle : IsIdle streams free taker

-- What a run with free nodes knows of a net: who reads its streams, and that each free node was idle that isn't due.
pub record KnowsIdle (laws : Laws) (readers : Readers) (frees : List FreeNode) (due : Due) (takers : List Taker) (net : NetView) : Type 0 where
  pub are : AreReaders net.plan frees readers
  pub idle : (place : ℕ) (free : FreeNode) (taker : Taker) → IsUndue due place → slice_get frees place ≡ Some free → slice_get takers place ≡ Some taker → WasIdle laws free taker net
