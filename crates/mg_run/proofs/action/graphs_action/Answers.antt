use Rattle.std.proofs.Common.{◌≡◌, ◌∙◌, ◌<◌, List, [], ◌∷◌, Result, Ok, Err, refl, sym, ap, subst, map, length, drop, get_or, arith}
use Rattle.std.specs.Prelude.{IfOk}
use Rattle.std.specs.declared.alloc.AllocError.{AllocError}
use Rattle.std.specs.List.{All}
use Rattle.std.proofs.lemmas.Bool.Decides.{nat_tests}
use Rattle.std.proofs.lemmas.List.Elements.{All-drop}
use Rattle.mg_calc.specs.declared.shape.OuterShape.{OuterShape}
use Rattle.mg_config.specs.Config.{GraphView, graph_view}
use Rattle.mg_config.specs.Sound.{IsSound, IsPrintable}
use Rattle.mg_config.specs.declared.graph.GraphConfig.{GraphConfig}
use Rattle.mg_subgraph.specs.Expansion.{expansion_of}
use Rattle.mg_words.specs.declared.words.Instruction.{Instruction}
use Rattle.mg_run.specs.Answer as answers
use Rattle.mg_run.specs.Code.Action.{action_view}
use Rattle.mg_run.specs.declared.action.Action.{Action}
use Rattle.mg_run.proofs.action.graphs_action.Goals as goal

-- An action of the first of some graphs, with those after it, is the action of all of them. What the actions are doesn't count: `all` and
-- `by` are any two functions that agree so.
of_all : {J : Type 0} (all : List GraphView → J) (by : GraphView → List GraphView → J) → ((g : GraphView) (gs : List GraphView) → by g gs ≡ all (g ∷ gs))
    → (graphs : List GraphConfig) (main : GraphConfig) (library : List GraphConfig) → 0 < length graphs → main ≡ get_or graphs 0 main → library ≡ drop 1 graphs
    → by (graph_view main) (map graph_view library) ≡ all (map graph_view graphs)
of_all all by agree [] main library some here rest = absurd (omega arith)
of_all all by agree (x ∷ xs) main library some here rest =
    ap (λ (g : GraphConfig). by (graph_view g) (map graph_view library)) here ∙ (ap (λ (gs : List GraphConfig). by (graph_view x) (map graph_view gs)) rest ∙ agree (graph_view x) (map graph_view xs))

-- the same of a result
due_of : (instruction : Instruction) (outers : List OuterShape) (graphs : List GraphConfig) (main : GraphConfig) (library : List GraphConfig) (result : Result Action AllocError)
    → 0 < length graphs → main ≡ get_or graphs 0 main → library ≡ drop 1 graphs
    → IfOk result (λ action. action_view action ≡ answers.expanded_action instruction outers (expansion_of (graph_view main) (map graph_view library)))
    → IfOk result (λ action. action_view action ≡ answers.graphs_action instruction outers (map graph_view graphs))
due_of instruction outers graphs main library (Ok action) some here rest same =
    same ∙ of_all (answers.graphs_action instruction outers) (λ g gs. answers.expanded_action instruction outers (expansion_of g gs)) (λ g gs. refl) graphs main library some here rest
due_of instruction outers graphs main library (Err fault) some here rest same = tt

empty : (xs : List GraphConfig) → length xs ≡ 0 → [] ≡ xs
empty [] none = refl
empty (x ∷ xs) none = absurd (omega arith)

pub returns-then-is_empty-clause-due : goal.returns-then-is_empty-clause-due
returns-then-is_empty-clause-due c =
    let known = c.args.graphs.ok.0 in
    let counted = sym c.is_empty.ensures ∙ c.if-is_empty.true in
    let none : length c.args.graphs.items ≡ 0 = grind (arith, nat_tests) in
    ap answers.refuse c.new.ensures.items ∙ ap (λ (gs : List GraphConfig). answers.graphs_action c.args.instruction c.args.outers.now (map graph_view gs)) (empty c.args.graphs.items none)

pub main_action-requires-clause-sound : goal.main_action-requires-clause-sound
main_action-requires-clause-sound c =
    let known = c.args.graphs.ok.0 in
    let some : 0 < length c.args.graphs.items = omega (arith, c.remove-main.ensures.len) in
    subst (λ (g : GraphConfig). IsSound (graph_view g)) (sym c.remove-main.ensures.value) (c.requires.sound 0 c.remove-main.result some)

pub main_action-requires-clause-printable : goal.main_action-requires-clause-printable
main_action-requires-clause-printable c =
    let known = c.args.graphs.ok.0 in
    let some : 0 < length c.args.graphs.items = omega (arith, c.remove-main.ensures.len) in
    subst (λ (g : GraphConfig). IsPrintable (graph_view g)) (sym c.remove-main.ensures.value) (c.requires.printable 0 c.remove-main.result some)

pub main_action-requires-clause-sound_files : goal.main_action-requires-clause-sound_files
main_action-requires-clause-sound_files c =
    subst (All {X = GraphConfig} (λ g. IsSound (graph_view g))) (sym (c.as_slice.ensures.value ∙ c.remove-main.ensures.by_index.2))
    (All-drop {X = GraphConfig} (λ g. IsSound (graph_view g)) 1 c.args.graphs.items c.requires.sound)

pub main_action-requires-clause-printable_files : goal.main_action-requires-clause-printable_files
main_action-requires-clause-printable_files c =
    subst (All {X = GraphConfig} (λ g. IsPrintable (graph_view g))) (sym (c.as_slice.ensures.value ∙ c.remove-main.ensures.by_index.2))
    (All-drop {X = GraphConfig} (λ g. IsPrintable (graph_view g)) 1 c.args.graphs.items c.requires.printable)

pub returns-clause-due : goal.returns-clause-due
returns-clause-due c =
    let known = c.args.graphs.ok.0 in
    let some : 0 < length c.args.graphs.items = omega (arith, c.remove-main.ensures.len) in
    due_of c.args.instruction c.args.outers.now c.args.graphs.items c.remove-main.result c.as_slice.result.now c.main_action.result some c.remove-main.ensures.value (c.as_slice.ensures.value ∙ c.remove-main.ensures.by_index.2) c.main_action.ensures.due
