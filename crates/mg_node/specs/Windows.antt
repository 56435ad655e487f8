-- The front of an engine's window: whether the node goes on, and whether the first entry is ready to be laid.
use Rattle.std.specs.Prelude.{Bool, false, List, [], ◌∷◌, Option, None, option_and_then, is_some, ◌||◌, if◌then◌else◌}
use Rattle.mg_node.specs.Views.{PerformedView, EntryView, EngineView}
use Rattle.mg_node.specs.Shelves.{performed_of}

-- whether a node has failed or closed
abbrev pub has_ended : EngineView → Bool
has_ended engine = engine.closed || is_some engine.fault

-- what was performed, if an entry is committed; every other entry isn't ready
abbrev pub ready_of : EntryView → Option PerformedView
ready_of entry = if entry.committed then option_and_then performed_of entry.outcome else None

-- whether the first entry of a window is ready
abbrev pub starts_ready : List EntryView → Bool
starts_ready [] = false
starts_ready (entry ∷ entries) = is_some (ready_of entry)
