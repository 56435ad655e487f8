-- Lines that stand where packet lines do.
use Rattle.std.specs.Prelude.{◌≡◌, ℕ, Bool, true, false, List, [], ◌∷◌, ◌++◌, Option, None, Some, codes, if◌then◌else◌}
use Rattle.std.specs.Str.{bytes_eq}
use Rattle.mg_feed.specs.View.{View}
use Rattle.mg_feed.specs.Recorded.{HasRecorded}
use Rattle.mg_replay.specs.Opening.{packet_refusal}
use Rattle.mg_replay.specs.declared.trace_end.TraceFault.{TraceFault}

-- whether an input ended well, if a line says that
abbrev pub ends_so : List ℕ → Option Bool
ends_so line = if bytes_eq line (codes "ended") then Some true else (if bytes_eq line (codes "frozen") then Some false else None)

-- a line was taken as a packet line after other lines, or it is refused
abbrev pub TakesPackets : Option TraceFault → List ℕ → View → View → Type 0
TakesPackets None line old new = (lines : List (List ℕ)) → HasRecorded lines old → (packet_refusal old.graph lines line ≡ None) × HasRecorded (lines ++ line ∷ []) new × (new.graph ≡ old.graph)
TakesPackets (Some fault) line old new = (lines : List (List ℕ)) → HasRecorded lines old → packet_refusal old.graph lines line ≡ Some fault
