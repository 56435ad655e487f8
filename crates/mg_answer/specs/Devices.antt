-- The devices of a run, and what the run did to each: what each device told of itself before the run, and tells now. The words for
-- what a source and a sink did are those of mg_feed (`specs/Ran.antt` and `specs/Sent.antt` there).
use Rattle.std.specs.Prelude.{◌≡◌, ◌⊎◌, ℕ, List, ◌++◌}
use Rattle.mg_edge.specs.Edge.{SourceTold, SinkTold}
pub use Rattle.mg_edge.specs.Edge.{HasRisen, Unrisen}
use Rattle.mg_edge.specs.Runs.{TookAll}
use Rattle.mg_feed.specs.Sent.{SentAll, SentPart}

-- what a device told of itself before a run or a call, and tells now
pub record Device (T : Type 0) : Type 0 where
  pub before : T
  pub now : T

abbrev pub device : {T : Type 0} → T → T → Device T
device before now = record { before = before; now = now }

-- A device wasn't used.
abbrev pub Untouched : {T : Type 0} → Device T → Type 0
Untouched device = device.now ≡ device.before

-- what the devices of a run told before it, and tell now
pub record RunDevices : Type 0 where
  pub input : Device SourceTold
  pub output : Device SinkTold
  pub notes : Device SinkTold

abbrev pub run_devices : Device SourceTold → Device SinkTold → Device SinkTold → RunDevices
run_devices input output notes = record { input = input; output = output; notes = notes }

-- Faults --

-- No device of a run failed: each count of faults is as it was.
pub record NoneFailed (devices : RunDevices) : Type 0 where
  pub input : Unrisen devices.input.before.faults devices.input.now.faults
  pub output : Unrisen devices.output.before.faults devices.output.now.faults
  pub notes : Unrisen devices.notes.before.faults devices.notes.now.faults

-- Sinks --

-- the second text begins with the first
abbrev pub IsFront : List ℕ → List ℕ → Type 0
IsFront front text = (rest : List ℕ) × (text ≡ front ++ rest)

-- A sink took a prefix of a text, and no more.
abbrev pub TookFront : Device SinkTold → List ℕ → Type 0
TookFront sink text = (front : List ℕ) × IsFront front text × TookAll sink.before.taken sink.now.taken front

-- A sink took a whole text, and no write failed.
abbrev pub TookText : Device SinkTold → List ℕ → Type 0
TookText sink text = SentAll sink.before sink.now text

-- A sink took a prefix of a text, and a write of the text failed.
abbrev pub TookPart : Device SinkTold → List ℕ → Type 0
TookPart sink text = SentPart sink.before sink.now text

-- The notes took a text, or a prefix of the text if a write failed.
abbrev pub TookNotes : Device SinkTold → List ℕ → Type 0
TookNotes notes text = TookText notes text ⊎ TookPart notes text
