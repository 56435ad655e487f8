-- The streams that are due grow, one after the other.
use Rattle.std.proofs.Common.{◌≡◌, ℕ, suc, ◌+◌, ◌<◌, ◌≤◌, ◌&&◌, Bool, true, false, not, cond, List, [], ◌∷◌, ◌++◌, append-nil, All, Some, length, set, slice_get, get_or, length-set, get_or-set_same, get_or-set_other, ◌⊎◌, inl, inr, refl, sym, ap, ap₂, ◌∙◌, subst, arith}
use Rattle.std.specs.Prelude.{Contains}
use Rattle.std.proofs.lemmas.Bool.{cases_eq, cases_lt, eq-eqb}
use Rattle.std.proofs.lemmas.Option.{slice_get-get_or}
use Rattle.std.proofs.lemmas.List.{get_or_default}
use Rattle.std.proofs.lemmas.List.Elements.{Contains-append_left, Contains-push, All-push, length_all_zip}
use Rattle.mg_value.specs.Payload.{Plain}
use Rattle.mg_settled.specs.Prefix.{StreamPrefix, empty_prefix}
use Rattle.mg_settled.specs.Extension.{IsExtendedBy, AreExtendedBy}
use Rattle.mg_settled.proofs.Lemmas.{extended_by_itself}
use Rattle.mg_calc.specs.declared.plan.Plan.{Plan}
use Rattle.mg_calc.specs.declared.plan_stream.PlanStream.{PlanStream}
use Rattle.mg_calc.specs.Equations.{stream_of}
use Rattle.mg_calc.proofs.Rounds.{stream_extends}
use Rattle.mg_equations.specs.Code.Changes.{is_changed}
use Rattle.mg_equations.specs.declared.progress.Progress.{Progress}
use Rattle.mg_equations.specs.Code.Growing.{given_streams, IsGivenBy, AreChanged}
use Rattle.mg_equations.proofs.Changing.{unchanged_one}

-- streams that are the same, one by one
pub same_streams : (xs ys : List (StreamPrefix Plain)) → length xs ≡ length ys → ((s : ℕ) → s < length xs → stream_of xs s ≡ stream_of ys s) → xs ≡ ys
same_streams [] [] long each = refl
same_streams [] (y ∷ ys) long each = absurd (omega (arith, long))
same_streams (x ∷ xs) [] long each = absurd (omega (arith, long))
same_streams (x ∷ xs) (y ∷ ys) long each =
    ap₂ (λ (s : StreamPrefix Plain) (ss : List (StreamPrefix Plain)). s ∷ ss) (each 0 (omega arith)) (same_streams xs ys (omega (arith, long)) (λ s below. each (suc s) (omega (arith, below))))

unchanged_itself : (s : StreamPrefix Plain) → is_changed s s ≡ false
unchanged_itself s = ap₂ (λ (a b : Bool). not (a && b)) (eq-eqb (length s.packets) (length s.packets) refl) (eq-eqb s.bound s.bound refl)

-- what the producer of a stream gives
pub given_there : (plan : Plan) (inputs : List (StreamPrefix Plain)) (nodes : List Progress) (s : ℕ) (stream : PlanStream) (shown : List PlanStream) → s < length plan.streams → shown ≡ plan.streams
    → ((x : PlanStream) → slice_get plan.streams s ≡ Some x → IsGivenBy inputs nodes x.producer (stream_of (given_streams inputs nodes) s)) → IsGivenBy inputs nodes (get_or shown s stream).producer (stream_of (given_streams inputs nodes) s)
given_there plan inputs nodes s stream shown below same given = given (get_or shown s stream) (slice_get-get_or plan.streams s stream below ∙ ap (λ (ss : List PlanStream). Some (get_or ss s stream)) (sym same))

-- the first `i` streams that are due are those of `next`. Each other stream is as it was or that of `next`. A list has the
-- streams that changed
pub record HaveGrown (before next : List (StreamPrefix Plain)) (due : List ℕ) (i : ℕ) (now : List (StreamPrefix Plain)) (changed : List ℕ) : Type 0 where
  pub many : length now ≡ length before
  pub each : (s : ℕ) → s < length before → (stream_of now s ≡ stream_of before s) ⊎ ((stream_of now s ≡ stream_of next s) × Contains changed s)
  pub done : (j : ℕ) → j < i → j < length due → stream_of now (get_or due j 0) ≡ stream_of next (get_or due j 0)
  pub only : All (λ s. (s < length before) × (is_changed (stream_of before s) (stream_of next s) ≡ true)) changed

pub one_extends : (before next : List (StreamPrefix Plain)) (due : List ℕ) (i : ℕ) (now : List (StreamPrefix Plain)) (changed : List ℕ) (s : ℕ) → AreExtendedBy before next → HaveGrown before next due i now changed → s < length before
    → IsExtendedBy (stream_of now s) (stream_of next s)
one_extends before next due i now changed s e h below = elim (h.each s below) [
  | inl was ↦ subst (λ (x : StreamPrefix Plain). IsExtendedBy x (stream_of next s)) (sym was) (stream_extends before next s e)
  | inr is ↦ subst (λ (x : StreamPrefix Plain). IsExtendedBy x (stream_of next s)) (sym is.0) (extended_by_itself (stream_of next s))
]

put_stream : (now : List (StreamPrefix Plain)) (s t : ℕ) (x : StreamPrefix Plain) → s < length now → t ≡ s → stream_of (set now s x) t ≡ x
put_stream now s t x below same = ap (stream_of (set now s x)) same ∙ get_or-set_same now s x empty_prefix below

grown_by : (change : Bool) (before next : List (StreamPrefix Plain)) (due : List ℕ) (i : ℕ) (now : List (StreamPrefix Plain)) (changed : List ℕ) (s : ℕ) → change ≡ is_changed (stream_of now s) (stream_of next s) → AreExtendedBy before next
    → HaveGrown before next due i now changed → i < length due → s ≡ get_or due i 0 → s < length before → HaveGrown before next due (i + 1) (set now s (stream_of next s)) (changed ++ cond change (s ∷ []) [])
grown_by change before next due i now changed s change_is e h there is below = record {
  many = length-set now s (stream_of next s) ∙ h.many;
  each = λ t low. elim (cases_eq t s) [
    | inl same ↦ here t same (h.each t low)
    | inr other ↦ elim (h.each t low) [
      | inl was ↦ inl (get_or-set_other now s t (stream_of next s) empty_prefix other ∙ was)
      | inr new ↦ inr (get_or-set_other now s t (stream_of next s) empty_prefix other ∙ new.0, Contains-append_left changed (cond change (s ∷ []) []) t new.1)
    ]
  ];
  done = λ j early within. elim (cases_eq (get_or due j 0) s) [
    | inl same ↦ put_stream now s (get_or due j 0) (stream_of next s) inside same ∙ ap (stream_of next) (sym same)
    | inr other ↦ elim (cases_lt j i) [
      | inl before_it ↦ get_or-set_other now s (get_or due j 0) (stream_of next s) empty_prefix other ∙ h.done j before_it within
      | inr after ↦ absurd (let last : j ≡ i = omega (arith, early, after) in other (ap (λ n. get_or due n 0) last ∙ sym is))
    ]
  ];
  only = only_by change change_is;
}
  where
    inside : s < length now
    inside = let many = h.many in omega (arith, many, below)

    here_by : (c : Bool) → c ≡ is_changed (stream_of now s) (stream_of next s) → (stream_of now s ≡ stream_of before s) ⊎ ((stream_of now s ≡ stream_of next s) × Contains changed s)
        → (stream_of next s ≡ stream_of before s) ⊎ Contains (changed ++ cond c (s ∷ []) []) s
    here_by true c_is known = inr (Contains-push changed s)
    here_by false c_is (inl was) = inl (sym (unchanged_one (stream_of now s) (stream_of next s) (one_extends before next due i now changed s e h below) (sym c_is)) ∙ was)
    here_by false c_is (inr new) = inr (Contains-append_left changed [] s new.1)

    here : (t : ℕ) → t ≡ s → (stream_of now t ≡ stream_of before t) ⊎ ((stream_of now t ≡ stream_of next t) × Contains changed t)
        → (stream_of (set now s (stream_of next s)) t ≡ stream_of before t) ⊎ ((stream_of (set now s (stream_of next s)) t ≡ stream_of next t) × Contains (changed ++ cond change (s ∷ []) []) t)
    here t same known =
        let K : ℕ → Type 0 = λ n. (stream_of now n ≡ stream_of before n) ⊎ ((stream_of now n ≡ stream_of next n) × Contains changed n) in
        elim (here_by change change_is (subst K same known)) [
          | inl was ↦ inl (put_stream now s t (stream_of next s) inside same ∙ was ∙ ap (stream_of before) (sym same))
          | inr noted ↦ inr (put_stream now s t (stream_of next s) inside same ∙ ap (stream_of next) (sym same), subst (Contains (changed ++ cond change (s ∷ []) [])) (sym same) noted)
        ]

    Only : ℕ → Type 0
    Only n = (n < length before) × (is_changed (stream_of before n) (stream_of next n) ≡ true)

    only_by : (c : Bool) → c ≡ is_changed (stream_of now s) (stream_of next s) → All (λ n. (n < length before) × (is_changed (stream_of before n) (stream_of next n) ≡ true)) (changed ++ cond c (s ∷ []) [])
    only_by false c_is = subst (λ (l : List ℕ). All Only l) (sym (append-nil changed)) h.only
    only_by true c_is = All-push Only changed s h.only (elim (h.each s below) [
      | inl was ↦ (below, ap (λ (x : StreamPrefix Plain). is_changed x (stream_of next s)) (sym was) ∙ sym c_is)
      | inr new ↦ absurd (let bad : true ≡ false = c_is ∙ ap (λ (x : StreamPrefix Plain). is_changed x (stream_of next s)) new.0 ∙ unchanged_itself (stream_of next s) in cc)
    ])

pub one_grown : (before next : List (StreamPrefix Plain)) (due : List ℕ) (i : ℕ) (now then : List (StreamPrefix Plain)) (changed noted : List ℕ) (s : ℕ) (change : Bool) → AreExtendedBy before next → HaveGrown before next due i now changed
    → i < length due → s ≡ get_or due i s → s < length before → then ≡ set now s (stream_of next s) → change ≡ is_changed (stream_of now s) (stream_of next s) → noted ≡ changed ++ cond change (s ∷ []) [] → HaveGrown before next due (i + 1) then noted
one_grown before next due i now then changed noted s change e h there is below then_is change_is noted_is =
    subst (λ (ss : List (StreamPrefix Plain)). HaveGrown before next due (i + 1) ss noted) (sym then_is)
    (subst (HaveGrown before next due (i + 1) (set now s (stream_of next s))) (sym noted_is)
    (grown_by change before next due i now changed s change_is e h there (is ∙ get_or_default due i s 0 there) below))

-- in the end all are the given ones
pub all_grown : (before next : List (StreamPrefix Plain)) (due : List ℕ) (i : ℕ) (now : List (StreamPrefix Plain)) (changed : List ℕ) → AreExtendedBy before next → HaveGrown before next due i now changed → length due ≤ i
    → ((s : ℕ) → s < length before → Contains due s ⊎ (stream_of before s ≡ stream_of next s)) → now ≡ next
all_grown before next due i now changed e h over others =
    let many : length now ≡ length next = h.many ∙ length_all_zip IsExtendedBy before next e in
    same_streams now next many (λ s low.
    (let below : s < length before = (let same = h.many in omega (arith, same, low)) in
    elim (others s below) [
      | inl c ↦ (let at : get_or due c.0 0 ≡ s = get_or_default due c.0 0 s c.1 ∙ c.2 in subst (λ n. stream_of now n ≡ stream_of next n) at (h.done c.0 (let inside = c.1 in omega (arith, inside, over)) c.1))
      | inr stays ↦ elim (h.each s below) [ inl was ↦ was ∙ stays | inr new ↦ new.0 ]
    ]))

pub all_changed : (before next : List (StreamPrefix Plain)) (due : List ℕ) (i : ℕ) (now : List (StreamPrefix Plain)) (changed : List ℕ) → HaveGrown before next due i now changed → now ≡ next → AreChanged changed before next
all_changed before next due i now changed h same = record {
  all = λ s below. elim (h.each s below) [ inl was ↦ inl (sym was ∙ ap (λ (ss : List (StreamPrefix Plain)). stream_of ss s) same) | inr new ↦ inr new.1 ];
  only = h.only;
}
