-- Calculators that come back to their places.
use Rattle.std.proofs.Common.{◌≡◌, ℕ, zero, suc, ◌+◌, Bool, true, false, is_some, if◌then◌else◌, List, [], ◌∷◌, ◌++◌, length, map, drop, Option, Some, None, option_map, IfSome, slice_get, ap, sym, refl, ◌∙◌, arith}
use Rattle.std.specs.List.{filter_map}
use Rattle.std.proofs.lemmas.List.{length-map}
use Rattle.mg_calc.specs.Told.{BoxTold}
use Rattle.mg_calc.specs.declared.plan_node.PlanNode.{PlanNode}
use Rattle.mg_node.specs.Views.{EngineView}
use Rattle.mg_sched.specs.Views.{WorkQueueView}
use Rattle.mg_sched.specs.GivesBack.{cell_told, with_told, with_cells}
use Rattle.mg_sched.proofs.Finding.{put_long}

-- what a work gives, as one equation
pub handed_by : {X : Type 0} (told : X → BoxTold) (o : Option X) (handed : Bool) (t : BoxTold) → is_some o ≡ handed → IfSome o (λ c. told c ≡ t) → option_map told o ≡ (if handed then Some t else None)
handed_by told None true t there is = absurd cc
handed_by told None false t there is = refl
handed_by told (Some c) true t there is = ap Some is
handed_by told (Some c) false t there is = absurd cc

-- what is left from a place on
pub drop_here : {X : Type 0} (xs : List X) (i : ℕ) (x : X) → slice_get xs i ≡ Some x → drop i xs ≡ x ∷ drop (i + 1) xs
drop_here [] i x at = absurd cc
drop_here {X} (y ∷ xs) zero x at = (let same : y ≡ x = cc in ap (λ (z : X). z ∷ xs) same)
drop_here {X} (y ∷ xs) (suc i) x at = drop_here xs i x at ∙ ap (λ (k : ℕ). x ∷ drop k (y ∷ xs)) (let e : suc (i + 1) ≡ suc i + 1 = omega arith in e)

-- with the nodes that are left the result is the same
pub cells_next : (places now : List (Option BoxTold)) (nodes : List PlanNode) (i : ℕ) (node read : PlanNode) (o : Option BoxTold) (engines_left engines : List EngineView) (work_queues_left work_queues : List WorkQueueView) (engine : EngineView) (work_queue : WorkQueueView)
    (total : List (Option BoxTold)) → slice_get nodes i ≡ Some node → engines_left ≡ engine ∷ engines → work_queues_left ≡ work_queue ∷ work_queues → now ≡ with_told places read.box_number o → node ≡ read → o ≡ cell_told engine work_queue
    → with_cells places (drop i nodes) engines_left work_queues_left ≡ total → with_cells now (drop (i + 1) nodes) engines work_queues ≡ total
cells_next places now nodes i node read o engines_left engines work_queues_left work_queues engine work_queue total at es ds is same own all =
    ap (λ (ps : List (Option BoxTold)). with_cells ps (drop (i + 1) nodes) engines work_queues)
    (is ∙ ap (λ (n : PlanNode). with_told places n.box_number o) (sym same) ∙ ap (λ (t : Option BoxTold). with_told places node.box_number t) own)
    ∙ ap (λ (ns : List PlanNode). with_cells places ns (engine ∷ engines) (work_queue ∷ work_queues)) (sym (drop_here nodes i node at))
    ∙ ap (λ (qs : List EngineView). with_cells places (drop i nodes) qs (work_queue ∷ work_queues)) (sym es)
    ∙ ap (λ (qs : List WorkQueueView). with_cells places (drop i nodes) engines_left qs) (sym ds)
    ∙ all

-- the places stay as many
pub told_long : (places : List (Option BoxTold)) (number : Option ℕ) (told : Option BoxTold) → length (with_told places number told) ≡ length places
told_long places None told = refl
told_long places (Some number) None = refl
told_long places (Some number) (Some told) = put_long places number (Some told)

pub cells_long : (places : List (Option BoxTold)) (nodes : List PlanNode) (engines : List EngineView) (work_queues : List WorkQueueView) → length (with_cells places nodes engines work_queues) ≡ length places
cells_long places [] engines work_queues = refl
cells_long places (node ∷ nodes) [] work_queues = refl
cells_long places (node ∷ nodes) (engine ∷ engines) [] = refl
cells_long places (node ∷ nodes) (engine ∷ engines) (work_queue ∷ work_queues) =
    cells_long (with_told places node.box_number (cell_told engine work_queue)) nodes engines work_queues ∙ told_long places node.box_number (cell_told engine work_queue)

pub places_long : {X : Type 0} (told : X → BoxTold) (now places : List (Option X)) (nodes : List PlanNode) (engines : List EngineView) (work_queues : List WorkQueueView)
    → map (option_map told) now ≡ with_cells (map (option_map told) places) nodes engines work_queues → length now ≡ length places
places_long {X} told now places nodes engines work_queues is =
    sym (length-map now (option_map told)) ∙ ap length is ∙ cells_long (map (option_map told) places) nodes engines work_queues ∙ length-map places (option_map told)

-- what lies in the places is all that comes back
pub all_given : {X : Type 0} (told : X → BoxTold) (result boxes : List X) (places now : List (Option X)) (given : List (Option BoxTold)) (total : List BoxTold)
    → map told result ≡ map told boxes ++ filter_map (λ (p : Option BoxTold). p) (map (option_map told) places) → boxes ≡ [] → places ≡ now → map (option_map told) now ≡ given
    → filter_map (λ (p : Option BoxTold). p) given ≡ total → map told result ≡ total
all_given {X} told result boxes places now given total is none same are all =
    is ∙ ap (λ (bs : List X). map told bs ++ filter_map (λ (p : Option BoxTold). p) (map (option_map told) places)) none
    ∙ ap (λ (ps : List (Option X)). filter_map (λ (p : Option BoxTold). p) (map (option_map told) ps)) same
    ∙ ap (λ (ps : List (Option BoxTold)). filter_map (λ (p : Option BoxTold). p) ps) are
    ∙ all
