-- For the loops of `share`.
use Rattle.std.proofs.Common.{◌≡◌, ℕ, zero, ◌<◌, ◌≤◌, List, [], ◌∷◌, map, length, sym, refl, ap, ◌∙◌, arith, Option, Some, replicate, slice_get}
use Rattle.mg_calc.specs.declared.edge.Edge.{Edge}
use Rattle.mg_calc.specs.declared.plan.Plan.{Plan}
use Rattle.mg_turns.specs.Parts.{PartView, LayoutView, source_at, EdgesFit}
use Rattle.mg_turns.specs.Code.Stored.{somes}
use Rattle.mg_turns.proofs.Words.{no_word_of}

-- a list of zeros, one for each word
pub no_words : (parts : List PartView) → replicate (length parts) zero ≡ map no_word_of parts
no_words [] = refl
no_words (p ∷ ps) = ap (λ (l : List ℕ). zero ∷ l) (no_words ps)

-- what went in comes out
somes_all : (xs : List PartView) → somes (map Some xs) ≡ xs
somes_all [] = refl
somes_all (x ∷ xs) = ap (λ (l : List PartView). x ∷ l) (somes_all xs)

pub back_again : (layout : LayoutView) (plan : Plan) (slots back : List (Option PartView)) (parts : List PartView) → plan ≡ layout.plan → slots ≡ map Some layout.parts → back ≡ slots → parts ≡ somes back
    → (let f : LayoutView = record { plan = plan; parts = parts } in f) ≡ layout
back_again layout plan slots back parts same in-is back-is out-is =
    ap (λ (p : Plan). (let f : LayoutView = record { plan = p; parts = parts } in f)) same
    ∙ ap (λ (l : List PartView). (let f : LayoutView = record { plan = layout.plan; parts = l } in f)) (out-is ∙ (ap somes (back-is ∙ in-is) ∙ somes_all layout.parts))

-- the words of the engines from which edges lead are few
pub few_sources : (layout : LayoutView) (plan : Plan) → plan ≡ layout.plan → EdgesFit layout → length layout.parts ≤ 4294967296 → (k : ℕ) (e : Edge) → slice_get plan.edges k ≡ Some e → source_at plan e < 4294967296
few_sources layout plan same edges few k e there =
    let within = (edges.sources k e (ap (λ (p : Plan). slice_get p.edges k) (sym same) ∙ there)).within in
    let is : source_at plan e ≡ source_at layout.plan e = ap (λ (p : Plan). source_at p e) same in
    omega (arith, within, is, few)
