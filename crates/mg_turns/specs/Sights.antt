-- What a seat knows of the words before a call and after it.
use Rattle.mg_calc.specs.Rules.{Laws}
use Rattle.std.specs.Prelude.{◌≡◌, ℕ, ◌+◌, ◌-◌, ◌*◌, ◌⊎◌, [], ◌∷◌, ◌++◌, Option, None, Some}
use Rattle.mg_node.specs.Views.{IntakeView, WorkView, EngineView}
use Rattle.mg_node.specs.Lawful.{Agree}
use Rattle.mg_node.specs.declared.claimed.Claimed.{Claimed}
use Rattle.mg_node.specs.declared.claimed.Claimed.TheVariants.{Work}
use Rattle.mg_turns.specs.Parts.{PartView, an_engine, an_intake, Follows}
use Rattle.mg_turns.specs.Turns.{Sight}
use Rattle.mg_turns.specs.Rule.{view, Sights}
use Rattle.mg_turns.specs.declared.view.View.{View}

-- a part that a call found at a word. It is what became of the part that was shared there, and no less than any sight that the
-- seat had of it
pub record Finds (laws : Laws) (v : View) (word : ℕ) (p : PartView) : Type 0 where
  pub follows : Follows laws v.key word p
  pub sights : Sights word p v.seen

-- a sight of a word
abbrev pub sight : ℕ → PartView → Sight
sight word p = record { word = word; part = p }

-- Of the two words that a call uses one was found held: the seat counts one more miss, and names the word. If the call had
-- taken the first turn by then, that part is back as it was found. The seat has a sight of the part then.
abbrev pub Missed : Laws → ℕ → ℕ → ℕ → View → View → Type 0
Missed laws first second word v w =
    (((word ≡ first) ⊎ (word ≡ second)) × (w ≡ view v.key v.portion (v.misses + 1) v.splits (Some word) v.turns v.work v.seen))
    ⊎ ((word ≡ second) × (p : PartView) × Finds laws v first p × (w ≡ view v.key v.portion (v.misses + 1) v.splits (Some second) v.turns v.work (sight first p ∷ v.seen)))

-- the view of a seat after a call that left this part at a word, and this work with the seat
abbrev pub left_one : View → ℕ → PartView → Option WorkView → View
left_one v word p work = view v.key v.portion v.misses v.splits v.missed v.turns work (sight word p ∷ v.seen)

-- the view of a seat after a call that left these parts at two words, and this work with the seat
abbrev pub left_two : View → ℕ → PartView → ℕ → PartView → Option WorkView → View
left_two v word p other q work = view v.key v.portion v.misses v.splits v.missed v.turns work (sight word p ∷ sight other q ∷ v.seen)

-- the engine and the intake of a node, as a call found them
pub record FindsCell (laws : Laws) (v : View) (node : ℕ) (engine : EngineView) (intake : IntakeView) : Type 0 where
  pub engine_found : Finds laws v (2 * node + 1) (an_engine engine)
  pub intake_found : Finds laws v (2 * node) (an_intake intake)
  pub agree : Agree engine intake

-- the view of a seat after a call that left the engine and the intake of a node like this
abbrev pub cell_left : View → ℕ → EngineView → IntakeView → Option WorkView → View
cell_left v node engine intake work = left_two v (2 * node + 1) (an_engine engine) (2 * node) (an_intake intake) work

-- The one word that a call uses was found held: the seat counts one more miss, and names the word.
abbrev pub MissedOne : ℕ → ℕ → View → View → Type 0
MissedOne only word v w = (word ≡ only) × (w ≡ view v.key v.portion (v.misses + 1) v.splits (Some only) v.turns v.work v.seen)

-- the work that a seat has after a claim: the one that the claim gave, or else the one that it had before
abbrev pub has_after : {X : Type 0} → Claimed X → Option WorkView → Option WorkView
has_after (Work w) had = Some w
has_after _ had = had

-- the view of a seat that handed over n of its portion
abbrev pub kept_after : ℕ → View → View
kept_after n v = view v.key (v.portion - n) v.misses (v.splits + 1) v.missed v.turns v.work v.seen

-- the view of a new seat to which n of a portion was handed: it knows what the other seat knows
abbrev pub handed : ℕ → View → View
handed n v = view v.key n 0 0 None [] None v.seen

-- the work that one of two seats has; they don't both have one
abbrev pub either_work : Option WorkView → Option WorkView → Option WorkView
either_work None b = b
either_work (Some a) b = Some a

-- the view of a seat that takes over what another one has and knows
abbrev pub joined : View → View → View
joined v w = view v.key (v.portion + w.portion) v.misses v.splits v.missed v.turns (either_work v.work w.work) (v.seen ++ w.seen)
