-- The nodes without inputs, found one by one.
use Rattle.std.proofs.Common.{◌≡◌, ◌≢◌, ℕ, ◌+◌, ◌<◌, ◌≤◌, Bool, true, false, not, cond, eqb, List, [], ◌∷◌, ◌++◌, length, map, filter, take, get_or, slice_set, All, Some, inl, inr, ◌∙◌, sym, ap, subst, refl, arith, add-zero, append-nil, length-set, get_or-set_same, get_or-set_other}
use Rattle.std.proofs.lemmas.Bool.{cases_eq}
use Rattle.std.proofs.lemmas.List.{take_more, map-append, length-take, length-map, get_or_default}
use Rattle.std.proofs.lemmas.List.Elements.{filter-append, All-map, All-filter, All-set}
use Rattle.std.proofs.lemmas.List.Filters.{length-filter_both}
use Rattle.std.proofs.lemmas.Option.{slice_get-get_or, get_or_from_slice_get}
use Rattle.std.proofs.lemmas.List.FromFn.{get_or-enumerate_from, length-enumerate_from}
use Rattle.std.specs.List.{enumerate_from}
use Rattle.mg_calc.specs.declared.plan_node.PlanNode.{PlanNode}
use Rattle.mg_throttle.specs.Throttle.{reached_at, is_reached}
use Rattle.mg_throttle.specs.Code.Rows.{is_marked}
use Rattle.mg_throttle.specs.Code.Reach.{sources_among, IsMarkOf, MarksSources}

enumerate-append : (n : ℕ) (xs ys : List PlanNode) → enumerate_from n (xs ++ ys) ≡ enumerate_from n xs ++ enumerate_from (n + length xs) ys
enumerate-append n [] ys = ap (λ m. enumerate_from m ys) (sym (add-zero n))
enumerate-append n (x ∷ xs) ys = ap (λ es. (n, x) ∷ es) (enumerate-append (n + 1) xs ys ∙ ap (λ m. enumerate_from (n + 1) xs ++ enumerate_from m ys) (omega arith))

-- one node more
pub sources_among-more : (nodes : List PlanNode) (i : ℕ) (d : PlanNode) → i < length nodes
    → sources_among (take (i + 1) nodes) ≡ sources_among (take i nodes) ++ cond (eqb (length (get_or nodes i d).inputs) 0) (i ∷ []) []
sources_among-more nodes i d within =
    let front : List PlanNode = take i nodes in
    let node : PlanNode = get_or nodes i d in
    let first : ℕ × PlanNode → ℕ = λ e. e.0 in
    let passes : ℕ × PlanNode → Bool = λ e. eqb (length e.1.inputs) 0 in
    let len : length front ≡ i = length-take i nodes ∙ omega arith in
    ap sources_among (take_more nodes i d within)
    ∙ ap (λ es. map first (filter passes es)) (enumerate-append 0 front (node ∷ []))
    ∙ ap (λ es. map first es) (filter-append passes (enumerate_from 0 front) ((0 + length front, node) ∷ []))
    ∙ map-append first (filter passes (enumerate_from 0 front)) (filter passes ((0 + length front, node) ∷ []))
    ∙ ap (λ es. sources_among front ++ es) (one (eqb (length node.inputs) 0) (0 + length front) (omega arith))
  where
    one : (b : Bool) (n : ℕ) → n ≡ i → map {A = ℕ × PlanNode} (λ e. e.0) (cond b ((n, get_or nodes i d) ∷ []) []) ≡ cond b (i ∷ []) []
    one true n e = ap (λ m. m ∷ []) e
    one false n e = refl

-- the sources are nodes
pub sources_below : (nodes : List PlanNode) → All (λ n. n < length nodes) (sources_among nodes)
sources_below nodes =
    All-map (λ n. n < length nodes) (λ e. e.0) (filter (λ e. eqb (length e.1.inputs) 0) (enumerate_from 0 nodes))
    (All-filter (λ e. eqb (length e.1.inputs) 0) (λ e. e.0 < length nodes) (enumerate_from 0 nodes)
    (λ k d within. let l = length-enumerate_from 0 nodes in
    let small : k < length nodes = omega arith in
    rw (get_or-enumerate_from 0 nodes k d small) (let low : 0 + k < length nodes = omega arith in low)))

-- what the code has found with one node more, which is a source or isn't
pub sources-yes : (nodes : List PlanNode) (i : ℕ) (d : PlanNode) (found more : List ℕ) → i < length nodes → d ≡ get_or nodes i d → eqb (length d.inputs) 0 ≡ true
    → found ≡ sources_among (take i nodes) → more ≡ found ++ i ∷ [] → more ≡ sources_among (take (i + 1) nodes)
sources-yes nodes i d found more within read passes old is_more =
    let source : eqb (length (get_or nodes i d).inputs) 0 ≡ true = subst (λ n. eqb (length n.inputs) 0 ≡ true) read passes in
    is_more ∙ ap (λ xs. xs ++ i ∷ []) old ∙ sym (sources_among-more nodes i d within ∙ ap (λ b. sources_among (take i nodes) ++ cond b (i ∷ []) []) source)

pub sources-no : (nodes : List PlanNode) (i : ℕ) (d : PlanNode) (found : List ℕ) → i < length nodes → d ≡ get_or nodes i d → eqb (length d.inputs) 0 ≡ false
    → found ≡ sources_among (take i nodes) → found ≡ sources_among (take (i + 1) nodes)
sources-no nodes i d found within read fails old =
    let none : eqb (length (get_or nodes i d).inputs) 0 ≡ false = subst (λ n. eqb (length n.inputs) 0 ≡ false) read fails in
    old ∙ sym (append-nil (sources_among (take i nodes))) ∙ sym (sources_among-more nodes i d within ∙ ap (λ b. sources_among (take i nodes) ++ cond b (i ∷ []) []) none)

-- there are no more sources than nodes
pub length-sources : (nodes : List PlanNode) → length (sources_among nodes) ≤ length nodes
length-sources nodes =
    let passes : ℕ × PlanNode → Bool = λ e. eqb (length e.1.inputs) 0 in
    let kept : length (filter passes (enumerate_from 0 nodes)) ≤ length (enumerate_from 0 nodes) =
    omega (arith, length-filter_both passes (λ e. not (passes e)) (λ _. refl) (enumerate_from 0 nodes)) in
    omega (arith, length-map (filter passes (enumerate_from 0 nodes)) (λ e. e.0), length-enumerate_from 0 nodes)

-- ---- the marks of sources
row_of : (rows : List (List Bool)) (n : ℕ) (row : List Bool) → n < length rows → row ≡ get_or rows n row → row ≡ reached_at rows n
row_of rows n row within read = read ∙ get_or_default rows n row [] within

pub MarksSources-more : (numbers : List ℕ) (inputs feeder_count nodes place : ℕ) (rows : List (List Bool)) (row new : List Bool)
    → MarksSources numbers inputs feeder_count nodes place rows → All (λ n. n < nodes) numbers → place < length numbers → feeder_count ≡ inputs + length numbers
    → row ≡ get_or rows (get_or numbers place 0) row → new ≡ slice_set row (inputs + place) true
    → MarksSources numbers inputs feeder_count nodes (place + 1) (slice_set rows (get_or numbers place 0) new)
MarksSources-more numbers inputs feeder_count nodes place rows row new old below within is_count read is_new =
    let n : ℕ = get_or numbers place 0 in
    let inside : n < length rows = let b = below place 0 within in omega (arith, old.len) in
    let is_row : row ≡ reached_at rows n = row_of rows n row inside read in
    let row_len : length row ≡ feeder_count = subst (λ r. length r ≡ feeder_count) (sym is_row) (old.rows_len n [] inside) in
    let here : is_marked new (inputs + place) ≡ true = rw is_new (get_or-set_same row (inputs + place) true false (omega arith)) in
    let there : (f : ℕ) → f ≢ inputs + place → is_marked new f ≡ is_reached rows f n = λ f other.
    ap (λ r. is_marked r f) is_new ∙ get_or-set_other row (inputs + place) f true false other ∙ ap (λ r. is_marked r f) is_row in
    let same : (f : ℕ) → is_reached (slice_set rows n new) f n ≡ is_marked new f = λ f. ap (λ r. is_marked r f) (get_or-set_same rows n new [] inside) in
    let apart : (f node : ℕ) → node ≢ n → is_reached (slice_set rows n new) f node ≡ is_reached rows f node = λ f node other.
    ap (λ r. is_marked r f) (get_or-set_other rows n node new [] other) in
    record {
      len = length-set rows n new ∙ old.len;
      rows_len = All-set (λ r. length r ≡ feeder_count) rows n new (ap length is_new ∙ length-set row (inputs + place) true ∙ row_len) old.rows_len;
      own = λ f node mark. elim (cases_eq mark.place place) [
        | inl last ↦
            let is_node : node ≡ n = sym (get_or_from_slice_get numbers mark.place node 0 mark.source) ∙ ap (λ p. get_or numbers p 0) last in
            let is_f : f ≡ inputs + place = mark.at ∙ ap (λ p. inputs + p) last in
            rw (is_node, is_f, same (inputs + place)) here
        | inr before ↦
            let marked : is_reached rows f node ≡ true = old.own f node (record { place = mark.place; among = let a = mark.among in omega arith; at = mark.at; source = mark.source }) in
            elim (cases_eq node n) [
              | inl is_node ↦ elim (cases_eq f (inputs + place)) [
                | inl is_f ↦ rw (is_node, is_f, same (inputs + place)) here
                | inr other ↦ subst (λ k. is_reached (slice_set rows n new) f k ≡ true) (sym is_node) (same f ∙ there f other ∙ subst (λ k. is_reached rows f k ≡ true) is_node marked)
              ]
              | inr other ↦ apart f node other ∙ marked
            ]
      ];
      only = λ f node marked. elim (cases_eq node n) [
        | inl is_node ↦ elim (cases_eq f (inputs + place)) [
          | inl is_f ↦ record { place = place; among = omega arith; at = is_f; source = slice_get-get_or numbers place 0 within ∙ ap Some (sym is_node) }
          | inr other ↦ wider f node (old.only f node (subst (λ k. is_reached rows f k ≡ true) (sym is_node)
              (sym (same f ∙ there f other) ∙ subst (λ k. is_reached (slice_set rows n new) f k ≡ true) is_node marked)))
        ]
        | inr other ↦ wider f node (old.only f node (sym (apart f node other) ∙ marked))
      ];
    }
  where
    wider : (f node : ℕ) → IsMarkOf numbers inputs place f node → IsMarkOf numbers inputs (place + 1) f node
    wider f node mark = record { place = mark.place; among = let a = mark.among in omega arith; at = mark.at; source = mark.source }
