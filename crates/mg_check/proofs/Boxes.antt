-- No two drafts have the same user-supplied calculator: each node takes another calculator of its name.
use Rattle.std.proofs.Common.{◌≡◌, ◌≢◌, ℕ, zero, suc, ◌+◌, ◌<◌, ◌≤◌, List, [], ◌∷◌, ◌++◌, map, filter, Bool, true, false, Option, None, Some, cond, slice_get, All, AllPairs, filter_map, is_none, ◌&&◌, bytes_eq, refl, sym, ap, subst, ◌∙◌, arith, le_of_eq, le_trans}
use Rattle.std.specs.List.{enumerate_from, cons_option}
use Rattle.std.proofs.lemmas.Bool.{true≢false}
use Rattle.std.proofs.lemmas.List.Elements.{All-nil, All-cons, All-weaker}
use Rattle.std.proofs.lemmas.List.Kept.{AllPairs-cons}
use Rattle.std.proofs.lemmas.List.Sums.{sum_by-append}
use Rattle.std.proofs.lemmas.Option.{none-some, same_Some}
use Rattle.std.proofs.lemmas.Slice.Eq.{bytes_eq-Decides}
use Rattle.mg_config.specs.Config.{NodeView}
use Rattle.mg_calc.specs.declared.shape.OuterShape.{OuterShape}
use Rattle.mg_kinds.specs.Kinds.{kind_at}
use Rattle.mg_kinds.specs.declared.kind.CalculatorKind.{CalculatorKind}
use Rattle.mg_kinds.proofs.Made.{mapped}
use Rattle.mg_check.specs.Choosing.{Chosen, outers_named, wants, wanted, kind_by, kind_of, with_kind, chosen_after}
use Rattle.mg_check.specs.Drafts.{DraftView, draft_of, drafts, box_of}
use Rattle.mg_check.specs.declared.node_kind.NodeKind.{NodeKind}
use Rattle.mg_check.specs.declared.node_kind.NodeKind.TheVariants.{BuiltIn, Outer}
use Rattle.mg_check.proofs.SoundDrafts.{is-made}

-- The numbers of the calculators of a name, if the first calculator of the list has the number k.
abbrev named_from : ℕ → List OuterShape → List ℕ → List ℕ
named_from k outers name = map (λ e. e.0) (filter (λ e. bytes_eq name e.1.shape.name) (enumerate_from k outers))

abbrev named_with : Bool → ℕ → List ℕ → List ℕ
named_with here k more = cond here (k ∷ more) more

named_step : (here : Bool) (k : ℕ) (outer : OuterShape) (more : List (ℕ × OuterShape)) → map (λ e. e.0) (cond here ((k, outer) ∷ more) more) ≡ named_with here k (map (λ e. e.0) more)
named_step true k outer more = refl
named_step false k outer more = refl

named_cons : (k : ℕ) (outer : OuterShape) (outers : List OuterShape) (name : List ℕ) → named_from k (outer ∷ outers) name ≡ named_with (bytes_eq name outer.shape.name) k (named_from (k + 1) outers name)
named_cons k outer outers name = named_step (bytes_eq name outer.shape.name) k outer (filter (λ e. bytes_eq name e.1.shape.name) (enumerate_from (k + 1) outers))

-- a number and its place, in a list that perhaps begins with k
at_least : (here : Bool) (k : ℕ) (more : List ℕ) (i n : ℕ) → ((i : ℕ) → slice_get more i ≡ Some n → k + 1 ≤ n) → slice_get (named_with here k more) i ≡ Some n → k ≤ n
at_least true k more zero n rest at = le_of_eq (same_Some k n at)
at_least true k more (suc i) n rest at = let above = rest i at in omega arith
at_least false k more i n rest at = let above = rest i at in omega arith

low : (k : ℕ) (outers : List OuterShape) (name : List ℕ) (n : ℕ) (i : ℕ) → slice_get (named_from k outers name) i ≡ Some n → k ≤ n
low k [] name n i at = absurd (none-some n at)
low k (outer ∷ outers) name n i at =
    at_least (bytes_eq name outer.shape.name) k (named_from (k + 1) outers name) i n (low (k + 1) outers name n) (subst (λ l. slice_get l i ≡ Some n) (named_cons k outer outers name) at)

-- it has one place, in one list
module _ (k n : ℕ) (a b owner : List ℕ) (xs ys : List ℕ) (above_a : (i : ℕ) → slice_get xs i ≡ Some n → k + 1 ≤ n) (above_b : (i : ℕ) → slice_get ys i ≡ Some n → k + 1 ≤ n)
    (rest : (i j : ℕ) → slice_get xs i ≡ Some n → slice_get ys j ≡ Some n → (a ≡ b) × (i ≡ j)) where
  not_first : k + 1 ≤ n → k ≡ n → ⊥
  not_first above same = omega arith

  one_place : (s t : Bool) → bytes_eq a owner ≡ s → bytes_eq b owner ≡ t → (i j : ℕ) → slice_get (named_with s k xs) i ≡ Some n → slice_get (named_with t k ys) j ≡ Some n → (a ≡ b) × (i ≡ j)
  one_place true true p q zero zero at to = ((bytes_eq-Decides a owner).0 p ∙ sym ((bytes_eq-Decides b owner).0 q), refl)
  one_place true true p q zero (suc j) at to = absurd (not_first (above_b j to) (same_Some k n at))
  one_place true true p q (suc i) zero at to = absurd (not_first (above_a i at) (same_Some k n to))
  one_place true true p q (suc i) (suc j) at to = let r = rest i j at to in (r.0, ap suc r.1)
  one_place true false p q zero j at to = absurd (not_first (above_b j to) (same_Some k n at))
  one_place true false p q (suc i) j at to = absurd (true≢false (sym p ∙ (ap (λ name. bytes_eq name owner) (rest i j at to).0 ∙ q)))
  one_place false true p q i zero at to = absurd (not_first (above_a i at) (same_Some k n to))
  one_place false true p q i (suc j) at to = absurd (true≢false (sym q ∙ (ap (λ name. bytes_eq name owner) (sym (rest i j at to).0) ∙ p)))
  one_place false false p q i j at to = rest i j at to

same_place : (k : ℕ) (outers : List OuterShape) (a b : List ℕ) (n i j : ℕ) → slice_get (named_from k outers a) i ≡ Some n → slice_get (named_from k outers b) j ≡ Some n → (a ≡ b) × (i ≡ j)
same_place k [] a b n i j at to = absurd (none-some n at)
same_place k (outer ∷ outers) a b n i j at to =
    one_place k n a b outer.shape.name (named_from (k + 1) outers a) (named_from (k + 1) outers b) (low (k + 1) outers a n) (low (k + 1) outers b n) (same_place (k + 1) outers a b n)
    (bytes_eq a outer.shape.name) (bytes_eq b outer.shape.name) refl refl i j
    (subst (λ l. slice_get l i ≡ Some n) (named_cons k outer outers a) at) (subst (λ l. slice_get l j ≡ Some n) (named_cons k outer outers b) to)

-- A number that the nodes so far haven't taken: it stands at the place of the next of its name or later.
abbrev IsFresh : List OuterShape → List NodeView → ℕ → Type 0
IsFresh outers before n = (name : List ℕ) (i : ℕ) → slice_get (outers_named outers name) i ≡ Some n → wanted before name ≤ i

wanted_more : (before : List NodeView) (node : NodeView) (name : List ℕ) → wanted (before ++ node ∷ []) name ≡ wanted before name + (cond (wants name node) 1 0)
wanted_more before node name = sum_by-append (λ n. cond (wants name n) 1 0) before (node ∷ []) ∙ ap (λ c. wanted before name + c) (nothing_before (cond (wants name node) 1 0))
  where
    nothing_before : (c : ℕ) → 0 + c ≡ c
    nothing_before c = omega arith

wanted_least : (before : List NodeView) (node : NodeView) (name : List ℕ) → wanted before name ≤ wanted (before ++ node ∷ []) name
wanted_least before node name = let more = wanted_more before node name in omega arith

pub wanted_own : (before : List NodeView) (node : NodeView) → kind_at node ≡ None → wanted before node.calculator < wanted (before ++ node ∷ []) node.calculator
wanted_own before node none =
    let more = wanted_more before node node.calculator in
    let own : cond {A = ℕ} (wants node.calculator node) 1 0 ≡ 1 =
    ap (λ k. cond (is_none k && bytes_eq node.calculator node.calculator) 1 0) none ∙ ap (λ t. cond t 1 0) ((bytes_eq-Decides node.calculator node.calculator).1 refl) in
    omega arith

fresh_before : (outers : List OuterShape) (before : List NodeView) (node : NodeView) (n : ℕ) → IsFresh outers (before ++ node ∷ []) n → IsFresh outers before n
fresh_before outers before node n h name i at = le_trans (wanted_least before node name) (h name i at)

not_outer : (kind : CalculatorKind) (n : ℕ) → BuiltIn kind ≡ Outer n → ⊥
not_outer kind n e = cc

same_outer : (m n : ℕ) → Outer m ≡ Outer n → m ≡ n
same_outer m n e = cc

-- the number that a node takes, which has no built-in calculator
taken_place : (outers : List OuterShape) (before : List NodeView) (node : NodeView) (n : ℕ) → kind_of outers before node ≡ Some (Outer n)
    → (slice_get (outers_named outers node.calculator) (wanted before node.calculator) ≡ Some n) × (kind_at node ≡ None)
taken_place outers before node n e = by (kind_at node) e
  where
    by : (kind : Option CalculatorKind) → kind_by kind (outers_named outers node.calculator) (wanted before node.calculator) ≡ Some (Outer n)
        → (slice_get (outers_named outers node.calculator) (wanted before node.calculator) ≡ Some n) × (kind ≡ None)
    by (Some kind) e = absurd (not_outer kind n (same_Some (BuiltIn kind) (Outer n) e))
    by None e =
        let made = mapped Outer (slice_get (outers_named outers node.calculator) (wanted before node.calculator)) (Outer n) e in
        (made.1 ∙ ap Some (same_outer made.0 n made.2), refl)

fresh_taken : (outers : List OuterShape) (before : List NodeView) (node : NodeView) (n : ℕ) → kind_of outers before node ≡ Some (Outer n) → IsFresh outers before n
fresh_taken outers before node n e name i at =
    let same = same_place 0 outers node.calculator name n (wanted before node.calculator) i (taken_place outers before node n e).0 at in
    subst (λ a. wanted before a ≤ i) same.0 (le_of_eq same.1)

taken_apart : (outers : List OuterShape) (before : List NodeView) (node : NodeView) (n m : ℕ) → kind_of outers before node ≡ Some (Outer n) → IsFresh outers (before ++ node ∷ []) m → n ≢ m
taken_apart outers before node n m e fresh same =
    let place = taken_place outers before node n e in
    let most = fresh node.calculator (wanted before node.calculator) (place.0 ∙ ap Some same) in
    let least = wanted_own before node place.1 in
    omega arith

-- The calculators of nodes that stand after others are fresh, and no two are the same.
abbrev boxes : List DraftView → List ℕ
boxes ds = filter_map (λ d. d.box_number) ds

record AreTaken (outers : List OuterShape) (before : List NodeView) (ns : List ℕ) : Type 0 where
  fresh : All (IsFresh outers before) ns
  apart : AllPairs ◌≢◌ ns

taken_before : (outers : List OuterShape) (before : List NodeView) (node : NodeView) (ns : List ℕ) → AreTaken outers (before ++ node ∷ []) ns → AreTaken outers before ns
taken_before outers before node ns h = record {
  fresh = All-weaker (IsFresh outers (before ++ node ∷ [])) (IsFresh outers before) (fresh_before outers before node) ns h.fresh;
  apart = h.apart;
}

taken_more : (outers : List OuterShape) (before : List NodeView) (node : NodeView) (box : Option ℕ) (ns : List ℕ) → ((n : ℕ) → box ≡ Some n → kind_of outers before node ≡ Some (Outer n))
    → AreTaken outers (before ++ node ∷ []) ns → AreTaken outers before (cons_option box ns)
taken_more outers before node None ns is h = taken_before outers before node ns h
taken_more outers before node (Some n) ns is h = record {
  fresh = All-cons (IsFresh outers before) n ns (fresh_taken outers before node n (is n refl)) (taken_before outers before node ns h).fresh;
  apart = AllPairs-cons ◌≢◌ n ns (All-weaker (IsFresh outers (before ++ node ∷ [])) (λ m. n ≢ m) (λ m. taken_apart outers before node n m (is n refl)) ns h.fresh) h.apart;
}

box_is : (kind : NodeKind) (n : ℕ) → box_of kind ≡ Some n → kind ≡ Outer n
box_is (BuiltIn kind) n e = absurd (none-some n e)
box_is (Outer m) n e = ap Outer (same_Some m n e)

draft_taken : (outers : List OuterShape) (before : List NodeView) (c : Chosen) (d : Option DraftView) (ds : List DraftView) → draft_of outers c ≡ d → kind_of outers before c.node ≡ Some c.kind
    → AreTaken outers (before ++ c.node ∷ []) (boxes ds) → AreTaken outers before (boxes (cons_option d ds))
draft_taken outers before c None ds made chose h = taken_before outers before c.node (boxes ds) h
draft_taken outers before c (Some d) ds made chose h =
    let own = is-made outers c d made in
    taken_more outers before c.node d.box_number (boxes ds) (λ n box. chose ∙ ap Some (box_is c.kind n (ap (λ d. d.box_number) own.is ∙ box))) h

taken_after : (outers : List OuterShape) (before nodes : List NodeView) → AreTaken outers before (boxes (filter_map (draft_of outers) (chosen_after outers before nodes)))
taken_after outers before [] = record { fresh = All-nil (IsFresh outers before); apart = λ i j d below within. absurd (omega arith) }
taken_after outers before (node ∷ nodes) = by (kind_of outers before node) (chosen_after outers (before ++ node ∷ []) nodes) refl (taken_after outers (before ++ node ∷ []) nodes)
  where
    by : (kind : Option NodeKind) (more : List Chosen) → kind_of outers before node ≡ kind → AreTaken outers (before ++ node ∷ []) (boxes (filter_map (draft_of outers) more))
        → AreTaken outers before (boxes (filter_map (draft_of outers) (with_kind kind node more)))
    by None more is h = taken_before outers before node (boxes (filter_map (draft_of outers) more)) h
    by (Some kind) more is h = draft_taken outers before (record { node = node; kind = kind }) (draft_of outers (record { node = node; kind = kind })) (filter_map (draft_of outers) more) refl is h

pub boxes-apart : (outers : List OuterShape) (nodes : List NodeView) → AllPairs ◌≢◌ (filter_map (λ d. d.box_number) (drafts outers nodes))
boxes-apart outers nodes = (taken_after outers [] nodes).apart
