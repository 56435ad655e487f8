-- What the code's functions on files answer.
use Rattle.std.specs.Prelude.{◌≡◌, ℕ, List, map}
use Rattle.std.specs.Global.{Vec}
use Rattle.mg_edge.specs.Edge.{StoreTold}
use Rattle.mg_answer.specs.Devices.{Device}
use Rattle.mg_files.specs.Loads.{FailedAt, LoadedFront}
use Rattle.mg_files.specs.Notes.{store_note}
use Rattle.mg_files.specs.Files.{IsRefused, FirstRefused}
use Rattle.mg_files.specs.declared.fault.Fault.{Fault}
use Rattle.mg_files.specs.declared.fault.Fault.TheVariants.{Noted, OutOfMemory}

abbrev pub contents_of : List (Vec ℕ) → List (List ℕ)
contents_of contents = map (λ content. content.items) contents

-- A file couldn't be loaded, and the note names it. If memory ran out, the first of the files were loaded.
abbrev pub HasFailed : Fault → List (List ℕ) → Device StoreTold → Type 0
HasFailed (Noted note) names store = (file : List ℕ) × FailedAt names file store × (note.items ≡ store_note file)
HasFailed OutOfMemory names store = LoadedFront names store

-- A file is refused with the note of this fault. Nothing is said if memory ran out.
abbrev pub IsNotedOf : Fault → List ℕ → List ℕ → Type 0
IsNotedOf (Noted note) name content = IsRefused name content note.items
IsNotedOf OutOfMemory name content = Unit {0}

-- The first file that is no graph is refused with the note of this fault. Nothing is said if memory ran out.
abbrev pub AreNotedOf : Fault → List (List ℕ) → List (List ℕ) → Type 0
AreNotedOf (Noted note) names contents = FirstRefused names contents note.items
AreNotedOf OutOfMemory names contents = Unit {0}
