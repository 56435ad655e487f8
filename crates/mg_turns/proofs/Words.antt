-- The numbers of the words, and the parts at them.
use Rattle.std.proofs.Common.{◌≡◌, ℕ, ◌+◌, ◌-◌, ◌*◌, ◌/◌, ◌%◌, ◌<◌, ◌≤◌, ◌==◌, Bool, ap, sym, ◌∙◌, subst, arith, eq-eqb, ne_eqb, if◌then◌else◌}
use Rattle.std.proofs.lemmas.Bool.{lt-ltb, le-ltb}
use Rattle.mg_node.specs.Lawful.{of_node, of_input}
use Rattle.mg_turns.specs.Words.{Whose, intake_of, engine_of, whose}
use Rattle.mg_turns.specs.Parts.{LayoutView, nodes_in, owner_in, IsEngineWord}

abbrev by_parity : ℕ → Bool → Whose
by_parity word even = if even then intake_of (word / 2) else engine_of (of_node (word / 2))

abbrev by_side : ℕ → ℕ → Bool → Whose
by_side nodes word past = if past then engine_of (of_input (word - (2 * nodes + 1))) else by_parity word (word % 2 == 0)

pub intake_at : (nodes n : ℕ) → n ≤ nodes → whose nodes (2 * n) ≡ intake_of n
intake_at nodes n within =
    ap (by_side nodes (2 * n)) (le-ltb (2 * nodes) (2 * n) (omega (arith, within)))
    ∙ (ap (by_parity (2 * n)) (eq-eqb (2 * n % 2) 0 (omega arith)) ∙ ap intake_of (omega arith))

pub engine_at : (nodes n : ℕ) → n < nodes → whose nodes (2 * n + 1) ≡ engine_of (of_node n)
engine_at nodes n within =
    ap (by_side nodes (2 * n + 1)) (le-ltb (2 * nodes) (2 * n + 1) (omega (arith, within)))
    ∙ (ap (by_parity (2 * n + 1)) (ne_eqb ((2 * n + 1) % 2) 0 (λ e. omega (arith, e))) ∙ ap (λ (x : ℕ). engine_of (of_node x)) (omega arith))

pub input_at : (nodes input : ℕ) → whose nodes (2 * nodes + 1 + input) ≡ engine_of (of_input input)
input_at nodes input =
    ap (by_side nodes (2 * nodes + 1 + input)) (lt-ltb (2 * nodes) (2 * nodes + 1 + input) (omega arith))
    ∙ ap (λ (x : ℕ). engine_of (of_input x)) (omega arith)

abbrev pub is_engine : Whose → Type 0
is_engine (intake_of n) = ⊥
is_engine (engine_of o) = Unit {0}

-- no intake has the word of an engine
pub source_apart : (key : LayoutView) (word n : ℕ) → IsEngineWord key word → n ≤ nodes_in key → word ≡ 2 * n → ⊥
source_apart key word n source within e =
    subst is_engine (sym source.is ∙ (ap (owner_in key) e ∙ intake_at (nodes_in key) n within)) tt

pub nothing_past : (n : ℕ) → n - n ≡ 0
nothing_past n = omega arith

-- the words before anything came or was laid
abbrev pub no_word_of : {A : Type 0} → A → ℕ
no_word_of x = 0
