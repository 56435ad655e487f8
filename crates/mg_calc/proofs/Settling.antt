-- The rounds settle: there is one that the equations leave unchanged. The proof goes along the order of the nodes. If all nodes before
-- a node are held, its inputs stay, so it may be held too. A loopback is held at what it answers now, though its LOOP may still grow.
-- Either the other nodes then settle and it answers no more packets, or it answers more. It answers at most as many packets as MAIN
-- has.
use Rattle.std.proofs.Common.{◌≡◌, ℕ, zero, suc, ◌+◌, ◌<◌, ◌≤◌, length, List, [], ◌∷◌, ◌++◌, append-nil, append_assoc, map, take, length-take, Option, Some, None, IsSome, unwrap_or, slice_get, refl, sym, ap, subst, ◌∙◌, arith, inl, inr, ◌⊎◌}
use Rattle.std.specs.List.{AllByRecursion}
use Rattle.std.proofs.lemmas.Bool.{cases_lt}
use Rattle.std.proofs.lemmas.Option.{slice_get_within}
use Rattle.std.proofs.lemmas.List.Elements.{recursion_from_All}
use Rattle.mg_value.specs.Payload.{Plain}
use Rattle.mg_settled.specs.Prefix.{StreamPrefix, IsPrefix}
use Rattle.mg_settled.specs.Extension.{IsExtendedBy, AreExtendedBy}
use Rattle.mg_settled.specs.Loopback.{Reply, loopback, replies}
use Rattle.mg_settled.proofs.Lemmas.{extended_by_itself, all_by_themselves, all_further}
use Rattle.mg_settled.proofs.Lemmas.{replies-stay, replies-most, loopback-same}
use Rattle.mg_calc.specs.declared.law.Law.{Law}
use Rattle.mg_calc.specs.declared.law.Law.TheVariants.{Count, SideOnce, Constants, Loopback}
use Rattle.mg_calc.specs.declared.plan_node.PlanNode.{PlanNode}
use Rattle.mg_calc.specs.Plan.{IsValid, producers}
use Rattle.mg_calc.specs.Outcome.{Outcome, node_outcome, loopback_outcome}
use Rattle.mg_calc.specs.Equations.{Job, rules_at, stream_of, inputs_of, sides_of, outcome_by, outcome_of}
use Rattle.mg_calc.proofs.Rounds.{IsKnown, stream_extends, streams_extend}
use Rattle.mg_calc.proofs.Positions.{Agree}
use Rattle.mg_calc.proofs.Earlier.{KnownBy, IsNext, known_inputs, known_main, at_place, there, behind, get_or_some}
use Rattle.mg_calc.proofs.Holding.{Held, HeldFits, OfNodes, IsHeld, given, given_long, given_keeps, held_same, held_round, held_follow, held_keep, rounds_agree, with_held, with_held_same, with_held_fits, with_held_holds, with_held_more, parts_same}

-- a node's outcome is a function of its inputs
pub outcome_of_inputs_by : (law : Law) (job : Job) (node : PlanNode) (xs ys : List (StreamPrefix Plain)) → map (stream_of xs) node.inputs ≡ map (stream_of ys) node.inputs → outcome_by law job xs node ≡ outcome_by law job ys node
outcome_of_inputs_by (Count count start step) job node xs ys same = refl
outcome_of_inputs_by (SideOnce at) job node xs ys same = refl
outcome_of_inputs_by Constants job node xs ys same = refl
outcome_of_inputs_by Loopback job node xs ys same = ap (λ inputs. loopback_outcome (stream_of inputs 1) (stream_of inputs 0)) same
outcome_of_inputs_by law job node xs ys same = ap (λ inputs. node_outcome (rules_at job node) node.shape.offset node.policy (length node.outputs) (sides_of job node) inputs) same

loop_cases : (law : Law) → (law ≡ Loopback) ⊎ (¬ (law ≡ Loopback))
loop_cases Loopback = inl refl
loop_cases law = inr (λ e. absurd cc)

-- the streams after a number of held rounds
abbrev pub iterate : Job → Held → ℕ → List (StreamPrefix Plain) → List (StreamPrefix Plain)
iterate job held zero xs = xs
iterate job held (suc n) xs = held_round job held (iterate job held n xs)

iterate_shift : (job : Job) (held : Held) (n : ℕ) (xs : List (StreamPrefix Plain)) → iterate job held n (held_round job held xs) ≡ held_round job held (iterate job held n xs)
iterate_shift job held zero xs = refl
iterate_shift job held (suc n) xs = ap (held_round job held) (iterate_shift job held n xs)

-- held rounds settle from some streams on
abbrev pub Settles : Job → Held → List (StreamPrefix Plain) → Type 0
Settles job held xs = (n : ℕ) × (held_round job held (iterate job held n xs) ≡ iterate job held n xs)

settles_before : (job : Job) (held : Held) (xs : List (StreamPrefix Plain)) → Settles job held (held_round job held xs) → Settles job held xs
settles_before job held xs s =
    let same = iterate_shift job held s.0 xs in
    (suc s.0, ap (held_round job held) (sym same) ∙ (s.1 ∙ same))

settles_long_before : (job : Job) (held : Held) (n : ℕ) (xs : List (StreamPrefix Plain)) → Settles job held (iterate job held n xs) → Settles job held xs
settles_long_before job held zero xs s = s
settles_long_before job held (suc n) xs s = settles_long_before job held n xs (settles_before job held (iterate job held n xs) s)

-- What is known of streams on the way: they are prefixes that the next round extends.
pub record Stands (job : Job) (held : Held) (xs : List (StreamPrefix Plain)) : Type 0 where
  pub keeps : AllByRecursion IsPrefix xs
  pub rises : AreExtendedBy xs (held_round job held xs)

-- what a job and a plan have to have
pub record Sound (job : Job) : Type 0 where
  pub known : IsKnown job
  pub valid : IsValid job.plan
  pub many : length job.inputs.streams ≡ length job.plan.inputs

stands_next : (job : Job) (held : Held) (xs : List (StreamPrefix Plain)) → Sound job → HeldFits job held → Stands job held xs → Stands job held (held_round job held xs)
stands_next job held xs sound fits s =
    let next = held_keep job held xs sound.known fits s.keeps in
    record { keeps = next; rises = held_follow job held xs (held_round job held xs) sound.known s.keeps next s.rises }

stands_later : (job : Job) (held : Held) (n : ℕ) (xs : List (StreamPrefix Plain)) → Sound job → HeldFits job held → Stands job held xs → Stands job held (iterate job held n xs)
stands_later job held zero xs sound fits s = s
stands_later job held (suc n) xs sound fits s = stands_next job held (iterate job held n xs) sound fits (stands_later job held n xs sound fits s)

later_extends : (job : Job) (held : Held) (n : ℕ) (xs : List (StreamPrefix Plain)) → Sound job → HeldFits job held → Stands job held xs → AreExtendedBy xs (iterate job held n xs)
later_extends job held zero xs sound fits s = all_by_themselves xs
later_extends job held (suc n) xs sound fits s =
    all_further xs (iterate job held n xs) _ (later_extends job held n xs sound fits s) (stands_later job held n xs sound fits s).rises

-- streams that a held round gave
record IsGiven (job : Job) (held : Held) (xs : List (StreamPrefix Plain)) : Type 0 where
  pub from : List (StreamPrefix Plain)
  pub keeps : AllByRecursion IsPrefix from
  pub is : xs ≡ held_round job held from

given_round : (job : Job) (held : Held) (xs : List (StreamPrefix Plain)) → AllByRecursion IsPrefix xs → IsGiven job held (held_round job held xs)
given_round job held xs k = record { from = xs; keeps = k; is = refl }

-- The case of a node that gives the same in all rounds that come: it is held as well, and no round changes.
iterates_same : (job : Job) (held other : Held) (xs : List (StreamPrefix Plain)) (n : ℕ)
    → ((i : ℕ) → i < n → iterate job held i xs ≡ iterate job other i xs → held_round job held (iterate job held i xs) ≡ held_round job other (iterate job held i xs))
    → iterate job held n xs ≡ iterate job other n xs
iterates_same job held other xs zero same = refl
iterates_same job held other xs (suc n) same =
    let before = iterates_same job held other xs n (λ i le e. same i (omega (arith, le)) e) in
    same n (omega arith) before ∙ ap (held_round job other) before

agrees : (job : Job) (held : Held) (xs ys : List (StreamPrefix Plain)) → Sound job → HeldFits job held → IsGiven job held xs → IsGiven job held ys
    → Agree (KnownBy (IsHeld held)) (producers job.plan) xs ys
agrees job held xs ys sound fits gx gy =
    subst (λ (zs : List (StreamPrefix Plain)). Agree (KnownBy (IsHeld held)) (producers job.plan) zs ys) (sym gx.is)
    (subst (λ (zs : List (StreamPrefix Plain)). Agree (KnownBy (IsHeld held)) (producers job.plan) (held_round job held gx.from) zs) (sym gy.is)
    (rounds_agree job held gx.from gy.from sound.known sound.many fits gx.keeps gy.keeps))

iterate_given : (job : Job) (held : Held) (n : ℕ) (xs : List (StreamPrefix Plain)) → Sound job → HeldFits job held → Stands job held xs → IsGiven job held xs → IsGiven job held (iterate job held n xs)
iterate_given job held zero xs sound fits s g = g
iterate_given job held (suc n) xs sound fits s g = given_round job held (iterate job held n xs) (stands_later job held n xs sound fits s).keeps

-- a node that is held, with what is known of it
record Holds (job : Job) (held : Held) (w : ℕ) (node : PlanNode) (outs : List (StreamPrefix Plain)) : Type 0 where
  pub there : slice_get job.plan.nodes w ≡ Some node
  pub fits : HeldFits job held
  pub long : length outs ≡ length node.outputs
  pub keeps : AllByRecursion IsPrefix outs

more_fits : (job : Job) (held : Held) (w : ℕ) (node : PlanNode) (outs : List (StreamPrefix Plain)) → Holds job held w node outs → HeldFits job (with_held held w outs)
more_fits job held w node outs h = with_held_fits job held w node outs h.there h.fits h.long h.keeps

stands_held : (job : Job) (held : Held) (w : ℕ) (node : PlanNode) (outs xs : List (StreamPrefix Plain)) → slice_get job.plan.nodes w ≡ Some node → given job held xs w node ≡ outs → Stands job held xs → Stands job (with_held held w outs) xs
stands_held job held w node outs xs at is s = record {
  keeps = s.keeps;
  rises = subst (AreExtendedBy xs) (sym (with_held_same job held w node outs xs at is)) s.rises;
}

constant_settles : (job : Job) (held : Held) (w : ℕ) (node : PlanNode) (outs xs : List (StreamPrefix Plain)) → Sound job → Holds job held w node outs
    → ((ys : List (StreamPrefix Plain)) → IsGiven job held ys → given job held ys w node ≡ outs) → ((ys : List (StreamPrefix Plain)) → Stands job (with_held held w outs) ys → Settles job (with_held held w outs) ys)
    → Stands job held xs → IsGiven job held xs → Settles job held xs
constant_settles job held w node outs xs sound h constant others s g =
    let settled = others xs (stands_held job held w node outs xs h.there (constant xs g) s) in
    let n = settled.0 in
    let same : (ys : List (StreamPrefix Plain)) → IsGiven job held ys → held_round job held ys ≡ held_round job (with_held held w outs) ys =
    λ ys gy. sym (with_held_same job held w node outs ys h.there (constant ys gy)) in
    let all : iterate job held n xs ≡ iterate job (with_held held w outs) n xs =
    iterates_same job held (with_held held w outs) xs n (λ i le e. same (iterate job held i xs) (iterate_given job held i xs sound h.fits s g)) in
    (n, same (iterate job held n xs) (iterate_given job held n xs sound h.fits s g) ∙ (ap (held_round job (with_held held w outs)) all ∙ (settled.1 ∙ sym all)))

-- The case of a loopback.
abbrev main_of : PlanNode → List (StreamPrefix Plain) → StreamPrefix Plain
main_of node xs = stream_of (inputs_of xs node) 1

abbrev loop_of : PlanNode → List (StreamPrefix Plain) → StreamPrefix Plain
loop_of node xs = stream_of (inputs_of xs node) 0

loop_extends : (node : PlanNode) (xs ys : List (StreamPrefix Plain)) → AreExtendedBy xs ys → IsExtendedBy (loop_of node xs) (loop_of node ys)
loop_extends node xs ys e = stream_extends (inputs_of xs node) (inputs_of ys node) 0 (streams_extend xs ys node.inputs e)

replies_rise : (main loop more : StreamPrefix Plain) → IsExtendedBy loop more → length (replies main loop) ≤ length (replies main more)
replies_rise main loop more e =
    let same = ap length (replies-stay main main loop more (extended_by_itself main) e) in
    let most = length-take_most (length (replies main loop)) (replies main more) in
    omega (arith, same, most)
  where
    length-take_most : (n : ℕ) (rs : List (Reply Plain)) → length (take n rs) ≤ length rs
    length-take_most n rs = omega (arith, length-take n rs)

-- what a loopback gives, which isn't held
loop_gives : (job : Job) (held : Held) (w : ℕ) (node : PlanNode) (xs : List (StreamPrefix Plain)) → held w ≡ None → node.law ≡ Loopback → given job held xs w node ≡ loopback (main_of node xs) (loop_of node xs) ∷ []
loop_gives job held w node xs none is = ap (λ h. unwrap_or h (outcome_of job xs node).outputs) none ∙ ap (λ law. (outcome_by law job xs node).outputs) is

record IsLoop (job : Job) (held : Held) (w : ℕ) (node : PlanNode) (main : StreamPrefix Plain) : Type 0 where
  pub sound : Sound job
  pub there : slice_get job.plan.nodes w ≡ Some node
  pub fits : HeldFits job held
  pub unheld : held w ≡ None
  pub law : node.law ≡ Loopback
  pub main_stays : (ys : List (StreamPrefix Plain)) → IsGiven job held ys → main_of node ys ≡ main

-- as many answers, and so the same output
loop_same : (job : Job) (held : Held) (w : ℕ) (node : PlanNode) (main : StreamPrefix Plain) (xs ys : List (StreamPrefix Plain)) → IsLoop job held w node main → IsGiven job held xs → IsGiven job held ys → AreExtendedBy xs ys
    → length (replies main (loop_of node ys)) ≡ length (replies main (loop_of node xs)) → given job held ys w node ≡ given job held xs w node
loop_same job held w node main xs ys l gx gy e many =
    loop_gives job held w node ys l.unheld l.law
    ∙ (ap (λ m. loopback m (loop_of node ys) ∷ []) (l.main_stays ys gy)
    ∙ (ap (λ s. s ∷ []) (loopback-same main (loop_of node xs) (loop_of node ys) (loop_extends node xs ys e) (extended_by_itself main) many)
    ∙ (ap (λ m. loopback m (loop_of node xs) ∷ []) (sym (l.main_stays xs gx)) ∙ sym (loop_gives job held w node xs l.unheld l.law))))

-- the first of some numbers that is greater than the number of old, or all of them are that number
abbrev NoneGreater : (ℕ → ℕ) → ℕ → ℕ → Type 0
NoneGreater f old n = (i : ℕ) → i < n → f i ≡ old

first_greater : (f : ℕ → ℕ) (old n : ℕ) → ((i : ℕ) → old ≤ f i) → NoneGreater f old n ⊎ ((i : ℕ) × (i < n) × NoneGreater f old i × (old < f i))
first_greater f old zero rises = inl (λ i le. absurd (omega (arith, le)))
first_greater f old (suc n) rises = elim (first_greater f old n rises) [
  | inr (i, le, none, greater) ↦ inr (i, omega (arith, le), none, greater)
  | inl none ↦ elim (cases_lt old (f n)) [
    | inl greater ↦ inr (n, omega arith, none, greater)
    | inr le ↦ inl (λ i less. elim (cases_lt i n) [
      | inl before ↦ none i before
      | inr after ↦ (let here : i ≡ n = omega (arith, less, after) in ap f here ∙ (let up = rises n in omega (arith, le, up)))
    ])
  ]
]

-- the other nodes settle with a node held at some outputs, whatever these are
abbrev OthersSettle : Job → Held → ℕ → PlanNode → Type 0
OthersSettle job held w node =
    (outs : List (StreamPrefix Plain)) → Holds job held w node outs → (ys : List (StreamPrefix Plain)) → Stands job (with_held held w outs) ys → Settles job (with_held held w outs) ys

-- With a loopback held at what it answers now, the other nodes settle. Then all is settled, or some round comes in which the loopback
-- answers more.
loop_step : (job : Job) (held : Held) (w : ℕ) (node : PlanNode) (main : StreamPrefix Plain) (xs : List (StreamPrefix Plain)) → IsLoop job held w node main → OthersSettle job held w node
    → Stands job held xs → IsGiven job held xs
    → Settles job held xs ⊎ ((i : ℕ) × (length (replies main (loop_of node xs)) < length (replies main (loop_of node (iterate job held i xs)))))
loop_step job held w node main xs l others s g =
    let outs = given job held xs w node in
    let more = with_held held w outs in
    let h : Holds job held w node outs = record {
      there = l.there;
      fits = l.fits;
      long = given_long job held xs l.sound.known l.fits s.keeps w node l.there;
      keeps = given_keeps job held xs l.sound.known l.fits s.keeps w node l.there;
    } in
    let standing : Stands job more xs = stands_held job held w node outs xs l.there refl s in
    let settled = others outs h xs standing in
    let n = settled.0 in
    let answered : ℕ → ℕ = λ i. length (replies main (loop_of node (iterate job more i xs))) in
    let old = length (replies main (loop_of node xs)) in
    let rises : (i : ℕ) → old ≤ answered i = λ i. replies_rise main (loop_of node xs) (loop_of node (iterate job more i xs))
    (loop_extends node xs (iterate job more i xs) (later_extends job more i xs l.sound (more_fits job held w node outs h) standing)) in
    let same : (i : ℕ) → answered i ≡ old → iterate job held i xs ≡ iterate job more i xs → held_round job held (iterate job held i xs) ≡ held_round job more (iterate job held i xs) =
    λ i many e. sym (with_held_same job held w node outs (iterate job held i xs) l.there
    (loop_same job held w node main xs (iterate job held i xs) l g (iterate_given job held i xs l.sound l.fits s g) (later_extends job held i xs l.sound l.fits s)
    (ap (λ zs. length (replies main (loop_of node zs))) e ∙ many))) in
    elim (first_greater answered old (suc n) rises) [
      | inl none ↦
          (let all : iterate job held n xs ≡ iterate job more n xs = iterates_same job held more xs n (λ i le e. same i (none i (omega (arith, le))) e) in
          inl (n, same n (none n (omega arith)) all ∙ (ap (held_round job more) all ∙ (settled.1 ∙ sym all))))
      | inr (i, le, none, greater) ↦
          (let all : iterate job held i xs ≡ iterate job more i xs = iterates_same job held more xs i (λ k less e. same k (none k less) e) in
          inr (i, subst (λ zs. old < length (replies main (loop_of node zs))) (sym all) greater))
    ]

loop_settles : (fuel : ℕ) (job : Job) (held : Held) (w : ℕ) (node : PlanNode) (main : StreamPrefix Plain) (xs : List (StreamPrefix Plain)) → IsLoop job held w node main → OthersSettle job held w node
    → Stands job held xs → IsGiven job held xs → length main.packets ≤ length (replies main (loop_of node xs)) + fuel → Settles job held xs
loop_settles zero job held w node main xs l others s g few = elim (loop_step job held w node main xs l others s g) [
  | inl settled ↦ settled
  | inr (i, greater) ↦ absurd (let most = replies-most main (loop_of node (iterate job held i xs)) in omega (arith, few, greater, most))
]
loop_settles (suc fuel) job held w node main xs l others s g few = elim (loop_step job held w node main xs l others s g) [
  | inl settled ↦ settled
  | inr (i, greater) ↦ settles_long_before job held i xs
      (loop_settles fuel job held w node main (iterate job held i xs) l others (stands_later job held i xs l.sound l.fits s) (iterate_given job held i xs l.sound l.fits s g) (omega (arith, few, greater)))
]

-- The case of no further node.
held_at : (job : Job) (held : Held) (earlier : List ℕ) → IsValid job.plan → job.plan.order ≡ earlier → AllByRecursion (IsHeld held) earlier → OfNodes job.plan.nodes (λ k node. IsHeld held k)
held_at job held earlier valid order all k node at =
    let found = valid.order.there k (slice_get_within job.plan.nodes k node at) in
    let here : slice_get job.plan.order found.0 ≡ Some k = get_or_some job.plan.order found.0 k found.1 found.2 in
    at_place (IsHeld held) earlier found.0 k all (subst (λ (o : List ℕ). slice_get o found.0 ≡ Some k) order here)

all_held_settles : (job : Job) (held : Held) (xs : List (StreamPrefix Plain)) → OfNodes job.plan.nodes (λ k node. IsHeld held k) → Settles job held xs
all_held_settles job held xs all = (
  1,
  ap (λ rest. job.inputs.streams ++ rest)
      (parts_same (given job held (held_round job held xs)) (given job held xs) job.plan.nodes
      (λ k node at. held_same (held k) (outcome_of job (held_round job held xs) node).outputs (outcome_of job xs node).outputs (all k node at))),
)

option_cases : (o : Option (List (StreamPrefix Plain))) → (o ≡ None) ⊎ IsSome o
option_cases None = inl refl
option_cases (Some outs) = inr refl

all_more : (held : Held) (w : ℕ) (outs : List (StreamPrefix Plain)) (ks : List ℕ) → AllByRecursion (IsHeld held) ks → AllByRecursion (IsHeld (with_held held w outs)) (ks ++ w ∷ [])
all_more held w outs [] all = (with_held_holds held w outs, tt)
all_more held w outs (k ∷ ks) all = (with_held_more held w outs k all.0, all_more held w outs ks all.1)

-- One node further, if the other nodes settle with it held.
node_settles : (job : Job) (held : Held) (w : ℕ) (node : PlanNode) (xs : List (StreamPrefix Plain)) → Sound job → HeldFits job held → slice_get job.plan.nodes w ≡ Some node
    → IsNext job.plan (IsHeld held) w → OthersSettle job held w node → Stands job held xs → IsGiven job held xs → Settles job held xs
node_settles job held w node xs sound fits at next others s g =
    let outs = given job held xs w node in
    let h : Holds job held w node outs = record {
      there = at;
      fits = fits;
      long = given_long job held xs sound.known fits s.keeps w node at;
      keeps = given_keeps job held xs sound.known fits s.keeps w node at;
    } in
    elim (option_cases (held w)) [
      | inr is ↦ constant_settles job held w node outs xs sound h
          (λ ys gy. held_same (held w) (outcome_of job ys node).outputs (outcome_of job xs node).outputs is) (others outs h) s g
      | inl unheld ↦ elim (loop_cases node.law) [
        | inr other ↦ constant_settles job held w node outs xs sound h
            (λ ys gy. ap (λ (o : Outcome). unwrap_or (held w) o.outputs)
            (outcome_of_inputs_by node.law job node ys xs (known_inputs job.plan (IsHeld held) w node ys xs sound.valid next at other (agrees job held ys xs sound fits gy g))))
            (others outs h) s g
        | inl law ↦ (let main = main_of node xs in
            loop_settles (length main.packets) job held w node main xs
            (record {
              sound = sound;
              there = at;
              fits = fits;
              unheld = unheld;
              law = law;
              main_stays = (λ ys gy. known_main job.plan (IsHeld held) w node ys xs sound.valid next at (agrees job held ys xs sound fits gy g));
            })
            others s g (omega arith))
      ]
    ]

pub rest_settles : (rest earlier : List ℕ) (job : Job) (held : Held) (xs : List (StreamPrefix Plain)) → Sound job → job.plan.order ≡ earlier ++ rest → HeldFits job held → AllByRecursion (IsHeld held) earlier
    → Stands job held xs → Settles job held xs
rest_settles [] earlier job held xs sound order fits all s = all_held_settles job held xs (held_at job held earlier sound.valid (order ∙ append-nil earlier) all)
rest_settles (w ∷ rest) earlier job held xs sound order fits all s =
    let below : w < length job.plan.nodes =
    at_place (λ (n : ℕ). n < length job.plan.nodes) job.plan.order (length earlier) w (recursion_from_All (λ (n : ℕ). n < length job.plan.nodes) job.plan.order sound.valid.order.below)
    (subst (λ (o : List ℕ). slice_get o (length earlier) ≡ Some w) (sym order) (behind earlier rest w)) in
    let node = there job.plan.nodes w below in
    settles_before job held xs
    (node_settles job held w node.0 (held_round job held xs) sound fits node.1 (record { earlier = earlier; later = rest; order = order; held = all })
    (λ outs h ys stands. rest_settles rest (earlier ++ w ∷ []) job (with_held held w outs) ys sound (order ∙ sym (append_assoc earlier (w ∷ []) rest)) (more_fits job held w node.0 outs h) (all_more held w outs earlier all) stands)
    (stands_next job held xs sound fits s) (given_round job held xs s.keeps))
