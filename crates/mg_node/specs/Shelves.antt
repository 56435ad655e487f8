-- Works that come back to their window, and are taken from it again.
use Rattle.std.specs.Prelude.{◌≡◌, ℕ, ◌-◌, ◌≤◌, false, List, Option, Some, None, slice_get, slice_set, option_map, option_and_then, nat_lt, if◌then◌else◌}
use Rattle.mg_node.specs.Views.{WorkView, PerformedView, OutcomeView, EntryView, EngineView}

-- a work is out: its engine has claimed it, and its entry has no outcome
pub record IsOut (engine : EngineView) (work : WorkView) : Type 0 where
  pub node_is : work.node ≡ engine.node
  pub laid : engine.laid ≤ work.number
  pub entry : EntryView
  pub there : slice_get engine.window (work.number - engine.laid) ≡ Some entry
  pub out : entry.outcome ≡ None
  pub phase_is : entry.phase ≡ work.phase

-- the entry of a work that came back, not committed
abbrev pub back : OutcomeView → EntryView
back outcome = record { phase = outcome.work.phase; outcome = Some outcome; committed = false }

-- an engine with a work that came back in its window, not committed
abbrev pub shelved : EngineView → OutcomeView → EngineView
shelved engine outcome = record engine { window = slice_set engine.window (outcome.work.number - engine.laid) (back outcome) }

-- what was performed, if the outcome's work was run
abbrev pub performed_of : OutcomeView → Option PerformedView
performed_of outcome = option_map (λ answer. record { work = outcome.work; answer = answer }) outcome.answer

-- the outcome of a work that was performed
abbrev pub outcome_of : PerformedView → OutcomeView
outcome_of p = record { work = p.work; answer = Some p.answer }

-- the performed work that an entry has, not committed, if it has one
abbrev pub shelf_of : EntryView → Option PerformedView
shelf_of entry = if entry.committed then None else option_and_then performed_of entry.outcome

-- the performed work that an engine's window has under a number, not committed, if it has one
abbrev pub shelf_at : EngineView → ℕ → Option PerformedView
shelf_at engine number = if nat_lt number engine.laid then None else option_and_then shelf_of (slice_get engine.window (number - engine.laid))

-- a performed work is taken out of a window at a place: its entry has no outcome any more. If there is no work, nothing changes.
abbrev pub IsTakenOut : Option PerformedView → List EntryView → List EntryView → ℕ → Type 0
IsTakenOut None window now place = now ≡ window
IsTakenOut (Some p) window now place = now ≡ slice_set window place (record { phase = p.work.phase; outcome = None; committed = false })

-- the performed work of a number is taken out of an engine's window: it is out again; if there is no such work, nothing changes
abbrev pub Unshelves : Option PerformedView → EngineView → EngineView → ℕ → Type 0
Unshelves None engine engine_now number = engine_now ≡ engine
Unshelves (Some p) engine engine_now number = engine_now ≡ record engine { window = slice_set engine.window (number - engine.laid) (record { phase = p.work.phase; outcome = None; committed = false }) }
