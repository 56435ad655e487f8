-- What is out at a node: the works that were claimed and whose entries have no outcome. A claim puts one more work out, and a work that
-- comes back is out no more. All others stay out, whatever is laid. And what stays of an engine in each of these steps.
use Rattle.std.specs.Prelude.{◌≡◌, ◌≢◌, ℕ, ◌+◌, map, Some, None, slice_get, ◌⊎◌}
use Rattle.mg_node.specs.declared.claimed.Claimed.{Claimed}
use Rattle.mg_node.specs.declared.claimed.Claimed.TheVariants.{Work}
use Rattle.mg_node.specs.Views.{WorkView, EntryView, EngineView}
use Rattle.mg_node.specs.Shelves.{IsOut}

-- the work of a number is out: its entry has no outcome
pub record IsMissing (engine : EngineView) (number : ℕ) : Type 0 where
  pub place : ℕ
  pub number_is : number ≡ engine.laid + place
  pub entry : EntryView
  pub there : slice_get engine.window place ≡ Some entry
  pub missing : entry.outcome ≡ None

-- one more work is out, which wasn't before; all others that were out stay out, and no others are
pub record GoesOut (before now : EngineView) (work : WorkView) : Type 0 where
  pub out : IsOut now work
  pub apart : (other : WorkView) → IsOut before other → other.number ≢ work.number
  pub stays : (other : WorkView) → IsOut before other → IsOut now other
  pub only : (place : ℕ) (entry : EntryView) → slice_get now.window place ≡ Some entry → entry.outcome ≡ None → (work.number ≡ now.laid + place) ⊎ IsMissing before (now.laid + place)

-- the work of a number is out no more; all others that were out stay out, and no others are
pub record ComesBack (before now : EngineView) (number : ℕ) : Type 0 where
  pub stays : (other : WorkView) → IsOut before other → other.number ≢ number → IsOut now other
  pub only : (place : ℕ) (entry : EntryView) → slice_get now.window place ≡ Some entry → entry.outcome ≡ None → IsMissing before (now.laid + place) × (now.laid + place ≢ number)

-- the same works are out
pub record KeepsOut (before now : EngineView) : Type 0 where
  pub stays : (other : WorkView) → IsOut before other → IsOut now other
  pub only : (place : ℕ) (entry : EntryView) → slice_get now.window place ≡ Some entry → entry.outcome ≡ None → IsMissing before (now.laid + place)

-- a claim that hands out a work puts it out, and every other claim leaves out what was out
abbrev pub PutsOut : {C : Type 0} → Claimed C → EngineView → EngineView → Type 0
PutsOut (Work work) before now = GoesOut before now work
PutsOut _ before now = KeepsOut before now

-- what stays of an engine at a claim, a commit and an advance, and when a work comes back or is taken again. Its role, its number and the
-- number of its first output's stream stay. So do how many works it may have, and how many packets were given up at each output.
pub record KeepsSetUp (before now : EngineView) : Type 0 where
  pub role : now.role ≡ before.role
  pub node_is : now.node ≡ before.node
  pub first : now.first ≡ before.first
  pub in_flight : now.in_flight ≡ before.in_flight
  pub given_up : map (λ b. b.gone) now.outputs ≡ map (λ b. b.gone) before.outputs
