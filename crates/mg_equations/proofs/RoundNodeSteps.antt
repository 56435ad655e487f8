-- Nodes go on one after the other, each once.
use Rattle.std.proofs.Common.{◌≡◌, ℕ, zero, suc, ◌+◌, ◌<◌, Bool, true, false, List, [], ◌∷◌, ◌++◌, All, Some, length, drop, set, option_map, slice_get, get_or, unwrap_or, length-set, get_or-set_same, get_or-set_other, inl, inr, ⊎_elim, refl, sym, ap, ◌∙◌, subst, arith}
use Rattle.std.specs.Prelude.{Contains}
use Rattle.std.specs.List.{flat_map}
use Rattle.std.proofs.lemmas.Bool.{cases_eq, cases_lt}
use Rattle.std.proofs.lemmas.Option.{same_Some, slice_get_within, slice_get-get_or, slice_get_cases}
use Rattle.std.proofs.lemmas.List.{get_or_default}
use Rattle.std.proofs.lemmas.List.Elements.{Contains-append_left, Contains-push, Contains-get_or, All-push, All-nil}
use Rattle.mg_value.specs.Payload.{Plain}
use Rattle.mg_settled.specs.Prefix.{StreamPrefix}
use Rattle.mg_settled.specs.Settled.{inputs_of as inputs_at}
use Rattle.mg_calc.specs.declared.plan.Plan.{Plan}
use Rattle.mg_calc.specs.declared.plan_node.PlanNode.{PlanNode}
use Rattle.mg_calc.specs.Plan.{IsValid}
use Rattle.mg_equations.specs.declared.progress.Progress.{Progress}
use Rattle.mg_equations.specs.declared.round_nodes.RoundNodes.{RoundNodes}
use Rattle.mg_equations.specs.Code.Progress.{CanGoOn, NodeGoesOn}
use Rattle.mg_equations.specs.Code.Readers.{HasReaders}
use Rattle.mg_equations.specs.Code.RoundNodes.{has_gone, outputs_at, Goes, GoesOnIf, HaveGone, HaveGoneOn}
use Rattle.mg_equations.proofs.Places.{contains_flat, all_flat, outputs_within}

set_other : {X : Type 0} (xs : List X) (i : ℕ) (x : X) (k : ℕ) → (k ≡ i → ⊥) → slice_get (set xs i x) k ≡ slice_get xs k
set_other [] i x k apart = refl
set_other (y ∷ xs) zero x zero apart = absurd (apart refl)
set_other (y ∷ xs) zero x (suc k) apart = refl
set_other (y ∷ xs) (suc i) x zero apart = refl
set_other (y ∷ xs) (suc i) x (suc k) apart = set_other xs i x k (λ e. apart (ap (λ (n : ℕ). suc n) e))

set_here : {X : Type 0} (xs : List X) (i : ℕ) (x : X) → i < length xs → slice_get (set xs i x) i ≡ Some x
set_here [] i x below = absurd (omega (arith, below))
set_here (y ∷ xs) zero x below = refl
set_here (y ∷ xs) (suc i) x below = set_here xs i x (omega (arith, below))

-- a node that hasn't gone on is what it was at first
pub still_can : (nodes : List PlanNode) (streams : List (StreamPrefix Plain)) (first : List Progress) (numbers : List ℕ) (i k : ℕ) (going : RoundNodes) (node : PlanNode) (progress : Progress) → HaveGone nodes streams first numbers i going
    → ((n : ℕ) (other : PlanNode) (then : Progress) → slice_get nodes n ≡ Some other → slice_get first n ≡ Some then → CanGoOn other (inputs_at streams other.inputs) then)
    → has_gone going k ≡ false → slice_get nodes k ≡ Some node → slice_get going.nodes.items k ≡ Some progress → CanGoOn node (inputs_at streams node.inputs) progress
still_can nodes streams first numbers i k going node progress h can not at is =
    let below : k < length first = (let many = h.many in omega (arith, many, slice_get_within going.nodes.items k progress is)) in
    let was : slice_get first k ≡ Some (get_or first k progress) = slice_get-get_or first k progress below in
    let stays : progress ≡ get_or first k progress = subst (λ (gone : Bool). GoesOnIf gone node streams (get_or first k progress) progress) not (h.each k node (get_or first k progress) progress at was is) in
    subst (CanGoOn node (inputs_at streams node.inputs)) (sym stays) (can k node (get_or first k progress) at was)

-- one more has gone on
done_more : (numbers : List ℕ) (i k : ℕ) (before now : RoundNodes) → ((n : ℕ) → has_gone before n ≡ true → has_gone now n ≡ true) → has_gone now k ≡ true → k ≡ get_or numbers i k
    → ((j : ℕ) → j < i → j < length numbers → has_gone before (get_or numbers j 0) ≡ true) → (j : ℕ) → j < i + 1 → j < length numbers → has_gone now (get_or numbers j 0) ≡ true
done_more numbers i k before now keeps gone is done j early there = elim (cases_lt j i) [
  | inl before_it ↦ keeps (get_or numbers j 0) (done j before_it there)
  | inr after ↦
      (let last : j ≡ i = omega (arith, early, after) in
      let here : k ≡ get_or numbers j 0 = is ∙ ap (λ n. get_or numbers n k) (sym last) ∙ get_or_default numbers j k 0 there in
      subst (λ n. has_gone now n ≡ true) here gone)
]

marked : (before now : RoundNodes) (k n : ℕ) → now.gone.items ≡ set before.gone.items k true → k < length before.gone.items → n ≡ k → has_gone now n ≡ true
marked before now k n marks below same = ap (λ (gone : List Bool). get_or gone n false) marks ∙ ap (λ m. get_or (set before.gone.items k true) m false) same ∙ get_or-set_same before.gone.items k true false below

unmarked : (before now : RoundNodes) (k n : ℕ) → now.gone.items ≡ set before.gone.items k true → (n ≡ k → ⊥) → has_gone now n ≡ has_gone before n
unmarked before now k n marks other = ap (λ (gone : List Bool). get_or gone n false) marks ∙ get_or-set_other before.gone.items k n true false other

gone_by : (gone : Bool) (nodes : List PlanNode) (streams : List (StreamPrefix Plain)) (first : List Progress) (numbers : List ℕ) (i k : ℕ) (before now : RoundNodes) → has_gone before k ≡ gone → HaveGone nodes streams first numbers i before
    → Goes gone nodes streams k before now → k ≡ get_or numbers i k → k < length first → HaveGone nodes streams first numbers (i + 1) now
gone_by true nodes streams first numbers i k before now holds h goes is below = subst (HaveGone nodes streams first numbers (i + 1)) (sym goes) (record {
  many = h.many;
  marks = h.marks;
  each = h.each;
  listed = h.listed;
  within = h.within;
  done = done_more numbers i k before before (λ n e. e) holds is h.done;
})
gone_by false nodes streams first numbers i k before now not h goes is below = record {
  many = ap length goes.stands ∙ length-set before.nodes.items k goes.progress ∙ h.many;
  marks = ap length goes.marks ∙ length-set before.gone.items k true ∙ h.marks;
  each = λ n node was then at there here. elim (cases_eq n k) [
    | inl same ↦ (
        let inside : k < length before.nodes.items = (let many = h.many in omega (arith, many, below)) in
        let stood = get_or before.nodes.items n was in
        let stood_is : slice_get before.nodes.items n ≡ Some stood = slice_get-get_or before.nodes.items n was (omega (arith, inside, same)) in
        let unmoved : stood ≡ was = subst (λ (gone : Bool). GoesOnIf gone node streams was stood) (ap (has_gone before) same ∙ not) (h.each n node was stood at there stood_is) in
        let reached : then ≡ goes.progress = same_Some then goes.progress (sym here ∙ ap (λ (l : List Progress). slice_get l n) goes.stands ∙ ap (slice_get (set before.nodes.items k goes.progress)) same ∙ set_here before.nodes.items k goes.progress inside) in
        let went : NodeGoesOn node.law node (inputs_at streams node.inputs) stood goes.progress = goes.goes node stood (ap (slice_get nodes) (sym same) ∙ at) (ap (slice_get before.nodes.items) (sym same) ∙ stood_is) in
        subst (λ (gone : Bool). GoesOnIf gone node streams was then) (sym (marked before now k n goes.marks there_marked same))
        (subst (λ (p : Progress). NodeGoesOn node.law node (inputs_at streams node.inputs) was p) (sym reached) (subst (λ (p : Progress). NodeGoesOn node.law node (inputs_at streams node.inputs) p goes.progress) unmoved went)))
    | inr other ↦ subst (λ (gone : Bool). GoesOnIf gone node streams was then) (sym (unmarked before now k n goes.marks other))
        (h.each n node was then at there (sym (ap (λ (l : List Progress). slice_get l n) goes.stands ∙ set_other before.nodes.items k goes.progress n other) ∙ here))
  ];
  listed = λ n holds. subst (λ (l : List ℕ). Contains l n) (sym goes.listed) (elim (cases_eq n k) [
    | inl same ↦ subst (Contains (before.listed.items ++ k ∷ [])) (sym same) (Contains-push before.listed.items k)
    | inr other ↦ Contains-append_left before.listed.items (k ∷ []) n (h.listed n (sym (unmarked before now k n goes.marks other) ∙ holds))
  ]);
  within = subst (λ (l : List ℕ). All (λ n. n < length first) l) (sym goes.listed) (All-push (λ n. n < length first) before.listed.items k h.within below);
  done = done_more numbers i k before now keeps (marked before now k k goes.marks there_marked refl) is h.done;
}
  where
    there_marked : k < length before.gone.items
    there_marked = let marks = h.marks in omega (arith, marks, below)

    keeps : (n : ℕ) → has_gone before n ≡ true → has_gone now n ≡ true
    keeps n holds = elim (cases_eq n k) [ inl same ↦ marked before now k n goes.marks there_marked same | inr other ↦ unmarked before now k n goes.marks other ∙ holds ]

pub gone_more : (nodes : List PlanNode) (streams : List (StreamPrefix Plain)) (first : List Progress) (numbers : List ℕ) (i k : ℕ) (before now : RoundNodes) → HaveGone nodes streams first numbers i before
    → Goes (has_gone before k) nodes streams k before now → k ≡ get_or numbers i k → k < length first → HaveGone nodes streams first numbers (i + 1) now
gone_more nodes streams first numbers i k before now h goes is below = gone_by (has_gone before k) nodes streams first numbers i k before now refl h goes is below

-- what a call has done that lets a node go on
pub went_on : (nodes : List PlanNode) (streams : List (StreamPrefix Plain)) (k : ℕ) (before now : RoundNodes) (node : PlanNode) (old progress : Progress) → has_gone before k ≡ false → slice_get nodes k ≡ Some node → slice_get before.nodes.items k ≡ Some old
    → now.nodes.items ≡ set before.nodes.items k progress → now.gone.items ≡ set before.gone.items k true → now.listed.items ≡ before.listed.items ++ k ∷ []
    → NodeGoesOn node.law node (inputs_at streams node.inputs) old progress → Goes (has_gone before k) nodes streams k before now
went_on nodes streams k before now node old progress not at there stands marks listed went =
    subst (λ (gone : Bool). Goes gone nodes streams k before now) (sym not) (record {
      progress = progress;
      stands = stands;
      goes = λ other first other_at first_at.
          subst (λ (n : PlanNode). NodeGoesOn n.law n (inputs_at streams n.inputs) first progress) (same_Some node other (sym at ∙ other_at))
          (subst (λ (p : Progress). NodeGoesOn node.law node (inputs_at streams node.inputs) p progress) (same_Some old first (sym there ∙ first_at)) went);
      marks = marks;
      listed = listed;
    })

-- Marks are taken away.
pub record AreUnmarked (before : List Bool) (listed : List ℕ) (i : ℕ) (now : List Bool) : Type 0 where
  pub many : length now ≡ length before
  pub left : (k : ℕ) → get_or now k false ≡ true → Contains (drop i listed) k

-- The nodes and the streams of a round.
pub outputs_are : (nodes : List PlanNode) (k : ℕ) (node : PlanNode) → slice_get nodes k ≡ Some node → outputs_at nodes k ≡ node.outputs
outputs_are nodes k node at = ap (λ o. unwrap_or (option_map (λ (n : PlanNode). n.outputs) o) []) at

pub readers_within : (plan : Plan) (readers : List (List ℕ)) (changed numbers : List ℕ) → HasReaders plan (length plan.nodes) readers → numbers ≡ flat_map (λ s. get_or readers s []) changed → All (λ k. k < length plan.nodes) numbers
readers_within plan readers changed numbers h is = subst (λ (l : List ℕ). All (λ k. k < length plan.nodes) l) (sym is) (all_flat (λ k. k < length plan.nodes) (λ s. get_or readers s []) changed h.within)

known_outputs : (plan : Plan) (k : ℕ) → IsValid plan → All (λ s. s < length plan.streams) (outputs_at plan.nodes k)
known_outputs plan k valid =
    ⊎_elim
    (λ here. subst (λ (l : List ℕ). All (λ s. s < length plan.streams) l) (sym (outputs_are plan.nodes k here.0 here.2))
    (λ j d below. outputs_within plan k here.0 (get_or here.0.outputs j d) valid here.2 (Contains-get_or here.0.outputs j d below)))
    (λ past. subst (λ (l : List ℕ). All (λ s. s < length plan.streams) l) (sym (ap (λ o. unwrap_or (option_map (λ (n : PlanNode). n.outputs) o) []) past.1)) (All-nil (λ s. s < length plan.streams)))
    (slice_get_cases plan.nodes k).1

pub all_gone_on : (plan : Plan) (streams : List (StreamPrefix Plain)) (readers : List (List ℕ)) (changed numbers : List ℕ) (first now : List Progress) (going : RoundNodes) (due : List ℕ) → IsValid plan → HasReaders plan (length plan.nodes) readers
    → numbers ≡ flat_map (λ s. get_or readers s []) changed → HaveGone plan.nodes streams first numbers (length numbers) going → due ≡ flat_map (outputs_at plan.nodes) going.listed.items → now ≡ going.nodes.items
    → HaveGoneOn plan streams changed first now due
all_gone_on plan streams readers changed numbers first now going due valid read numbers_are h due_is now_is =
    subst (λ (ps : List Progress). HaveGoneOn plan streams changed first ps due) (sym now_is) (record {
      gone = has_gone going;
      many = h.many;
      each = h.each;
      stays = λ k node s at not reads change. (
          let reader : Contains (get_or readers s []) k = read.there k node s (slice_get_within plan.nodes k node at) at reads in
          let c : Contains numbers k = subst (λ (l : List ℕ). Contains l k) (sym numbers_are) (contains_flat (λ n. get_or readers n []) changed s k change reader) in
          let is : get_or numbers c.0 0 ≡ k = get_or_default numbers c.0 0 k c.1 ∙ c.2 in
          let bad : true ≡ false = sym (h.done c.0 c.1 c.1) ∙ ap (has_gone going) is ∙ not in
          absurd cc);
      written = λ k node s at holds writes. subst (λ (l : List ℕ). Contains l s) (sym due_is)
          (contains_flat (outputs_at plan.nodes) going.listed.items k s (h.listed k holds) (subst (λ (l : List ℕ). Contains l s) (sym (outputs_are plan.nodes k node at)) writes));
      within = subst (λ (l : List ℕ). All (λ s. s < length plan.streams) l) (sym due_is) (all_flat (λ s. s < length plan.streams) (outputs_at plan.nodes) going.listed.items (λ k. known_outputs plan k valid));
    })
