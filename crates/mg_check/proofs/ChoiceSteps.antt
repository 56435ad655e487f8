-- Choices of nodes, one more at a time.
use Rattle.std.proofs.Common.{ℕ, ◌+◌, ◌<◌, ◌≡◌, List, [], ◌∷◌, ◌++◌, Option, None, Some, length, take, drop, get_or, map, refl, sym, ap, ◌∙◌, append_assoc}
use Rattle.mg_config.specs.Config.{NodeView, node_view}
use Rattle.mg_config.specs.declared.node.NodeConfig.{NodeConfig}
use Rattle.mg_calc.specs.declared.shape.OuterShape.{OuterShape}
use Rattle.mg_kinds.specs.Kinds.{kind_at}
use Rattle.mg_kinds.specs.declared.kind.CalculatorKind.{CalculatorKind}
use Rattle.mg_kinds.proofs.Lists.{left}
use Rattle.mg_subgraph.proofs.Steps.{taken}
use Rattle.mg_check.specs.Choosing.{Chosen, kind_by, kind_of, with_kind, chosen_after, outers_named, wanted}
use Rattle.mg_check.specs.Code.Choices.{IsStock, IsWanted}
use Rattle.mg_check.specs.Code.Groups.{kept}
use Rattle.mg_check.specs.declared.groups.Groups.{Groups}
use Rattle.mg_check.specs.declared.node_kind.NodeKind.{NodeKind}

-- the kind that code finds is that of the definition
kind_is : (stock groups : Groups) (outers : List OuterShape) (before : List NodeView) (kind : Option CalculatorKind) (name : List ℕ) (numbers : List ℕ) (count : ℕ) → IsStock stock outers → IsWanted groups before
    → numbers ≡ kept stock name → count ≡ length (kept groups name)
    → kind_by kind numbers count ≡ kind_by kind (outers_named outers name) (wanted before name)
kind_is stock groups outers before kind name numbers count is_stock is_wanted found counted =
    ap (λ l. kind_by kind l count) (found ∙ is_stock name) ∙ ap (λ n. kind_by kind (outers_named outers name) n) (counted ∙ is_wanted name)

-- the rest of the nodes, after a node with a calculator or without
chosen_step : (outers : List OuterShape) (nodes : List NodeConfig) (i : ℕ) (node : NodeConfig) (kind : Option NodeKind) → i < length nodes → node ≡ get_or nodes i node
    → kind ≡ kind_of outers (map node_view (take i nodes)) (node_view node)
    → chosen_after outers (map node_view (take i nodes)) (map node_view (drop i nodes))
    ≡ with_kind kind (node_view node) (chosen_after outers (map node_view (take (i + 1) nodes)) (map node_view (drop (i + 1) nodes)))
chosen_step outers nodes i node kind inside here known =
    let before = map node_view (take i nodes) in
    let rest = map node_view (drop (i + 1) nodes) in
    ap (chosen_after outers before) (left node_view nodes i node inside here)
    ∙ (ap (λ k. with_kind k (node_view node) (chosen_after outers (before ++ node_view node ∷ []) rest)) (sym known)
    ∙ ap (λ l. with_kind kind (node_view node) (chosen_after outers l rest)) (sym (taken node_view nodes i node inside here)))

with_more : (kind : Option NodeKind) (node : NodeView) (rest : List Chosen) → with_kind kind node [] ++ rest ≡ with_kind kind node rest
with_more None node rest = refl
with_more (Some kind) node rest = refl

pub chosen_put : (outers : List OuterShape) (nodes : List NodeConfig) (i : ℕ) (node : NodeConfig) (stock groups : Groups) (bytes numbers places : List ℕ) (kind : Option NodeKind) (old new all : List Chosen)
    → i < length nodes → node ≡ get_or nodes i node → bytes ≡ node.calculator → numbers ≡ kept stock bytes → places ≡ kept groups bytes
    → kind ≡ kind_by (kind_at (node_view node)) numbers (length places) → new ≡ old ++ with_kind kind (node_view node) []
    → IsStock stock outers → IsWanted groups (map node_view (take i nodes))
    → old ++ chosen_after outers (map node_view (take i nodes)) (map node_view (drop i nodes)) ≡ all
    → new ++ chosen_after outers (map node_view (take (i + 1) nodes)) (map node_view (drop (i + 1) nodes)) ≡ all
chosen_put outers nodes i node stock groups bytes numbers places kind old new all inside here name found taken_there is put is_stock is_wanted so_far =
    let before = map node_view (take i nodes) in
    let rest = chosen_after outers (map node_view (take (i + 1) nodes)) (map node_view (drop (i + 1) nodes)) in
    let known : kind ≡ kind_of outers before (node_view node) =
    is ∙ (kind_is stock groups outers before (kind_at (node_view node)) bytes numbers (length places) is_stock is_wanted found (ap length taken_there)
    ∙ ap (λ b. kind_by (kind_at (node_view node)) (outers_named outers b) (wanted before b)) name) in
    ap (λ l. l ++ rest) put
    ∙ (append_assoc old (with_kind kind (node_view node) []) rest
    ∙ (ap (λ l. old ++ l) (with_more kind (node_view node) rest)
    ∙ (sym (ap (λ l. old ++ l) (chosen_step outers nodes i node kind inside here known)) ∙ so_far)))
