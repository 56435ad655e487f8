-- What a run over an input was over. Where memory ran out, these definitions say how far the run had come.
use Rattle.std.specs.Prelude.{◌≡◌, ◌⊎◌, ℕ, List, [], ◌++◌, Bool, true}
use Rattle.mg_edge.specs.Edge.{SourceTold, SinkTold}
use Rattle.mg_calc.specs.Told.{BoxTold}
use Rattle.mg_feed.specs.Graph.{GraphInputs}
use Rattle.mg_feed.specs.Ran.{EndCame}
use Rattle.mg_answer.specs.Answer.{Read, ended_input}
use Rattle.mg_answer.specs.Notes.{memory_note}
use Rattle.mg_answer.specs.Devices.{Device, Untouched, TookNotes}
use Rattle.mg_answer.specs.Ran.{CameTo, ReadSome}
use Rattle.mg_answer.specs.declared.status.Status.{Status}
use Rattle.mg_answer.specs.declared.status.Status.TheVariants.{OutOfMemory}

-- The input was read to its end, its first line that isn't good or its first failed read. Of what was read this holds.
pub record OverInput (graph : GraphInputs) (input : Device SourceTold) (P : Read → Type 0) : Type 0 where
  pub read : Read
  pub came : CameTo graph input read
  pub holds : P read

-- The input still went on. It was read once, and `first` are the first of the bytes that came. More bytes may follow these, unless the
-- source had ended with them. Whatever bytes follow, this holds of the whole input.
pub record OverFirst (graph : GraphInputs) (input : Device SourceTold) (P : Read → Type 0) : Type 0 where
  pub read : ReadSome graph input
  pub first : List ℕ
  pub later : List ℕ
  pub split : read.came ≡ first ++ later
  pub ended : Bool
  pub met : ended ≡ true → EndCame input.before input.now × (later ≡ [])
  pub holds : (rest : List ℕ) → (ended ≡ true → rest ≡ []) → P (ended_input graph (first ++ rest))

-- nothing was written, and no calculator had a call
pub record WasNothing (output : Device SinkTold) (boxes : Device (List BoxTold)) : Type 0 where
  pub unwritten : Untouched output
  pub uncalled : Untouched boxes

-- Memory ran out before anything was written or called, and what was read by then was read once. Or it ran out once the input had been read,
-- or while the input went on.
abbrev pub OutIn : GraphInputs → Device SourceTold → Device SinkTold → Device (List BoxTold) → (Read → Type 0) → Type 0
OutIn graph input output boxes P = (ReadSome graph input × WasNothing output boxes) ⊎ (OverInput graph input P ⊎ OverFirst graph input P)

-- A run ended because memory ran out, and the notes say only that. `Out` says how far the run had come.
pub record MemoryRanOut (status : Status) (notes : Device SinkTold) (Out : Type 0) : Type 0 where
  pub is : status ≡ OutOfMemory
  pub noted : TookNotes notes memory_note
  pub by : Out
