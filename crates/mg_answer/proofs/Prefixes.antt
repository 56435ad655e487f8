-- What good lines give to a plan's graph fits the plan: a prefix for each input, and a place for each side packet.
use Rattle.std.proofs.Common.{◌≡◌, ◌≢◌, ◌≤◌, ◌+◌, ℕ, zero, suc, List, [], ◌∷◌, ◌++◌, length, replicate, Bool, true, false, if◌then◌else◌, Option, Some, None, IfSome, All, option_and_then, slice_get, refl, sym, ap, ◌∙◌, subst, append_assoc, append-nil, arith}
use Rattle.std.proofs.lemmas.Slice.Eq.{bytes_eq-Decides}
use Rattle.std.proofs.lemmas.List.Elements.{All-from_recursion}
use Rattle.std.specs.List.{AllByRecursion as Each}
use Rattle.std.specs.Str.{bytes_eq}
use Rattle.mg_time.specs.Time.{done}
use Rattle.mg_value.specs.Payload.{Plain}
use Rattle.mg_value.specs.Packet.{Stamped}
use Rattle.mg_settled.specs.Prefix.{StreamPrefix, IsPrefix, MayFollow, empty_prefix, appended, raised, closed}
use Rattle.mg_settled.proofs.Lemmas.{empty_is_prefix, appended_is_prefix, raised_is_prefix, closed_is_prefix}
use Rattle.mg_feed.specs.Graph.{GraphInputs, place_of, numbered}
use Rattle.mg_feed.specs.declared.places.Placed.{Placed}
use Rattle.mg_feed.specs.Form.{Named, Form, packets, bound, close, side, form_of, json_value}
use Rattle.mg_feed.specs.Value.{plain_of}
use Rattle.mg_feed.specs.Given.{ended_stream, ended_streams}
use Rattle.mg_feed.specs.Recorded.{AllRecorded}
use Rattle.mg_feed.specs.Accepted.{State, before, stepped, stepped_at, with_packets, with_form, with_line, time_or_none, given_by, placed, first_refusal, form_refusals, words_refusal}
use Rattle.mg_feed.proofs.Holding.{given-more}
use Rattle.mg_feed.proofs.Judging.{if-weaker, if-always, MayStand, Stand, packets-stand, bound-low, recorded-keeps}
use Rattle.mg_answer.proofs.Keys.{HasApart, AreApart, IsNew, apart-line}

-- Places --

above-by : (b : Bool) (k i : ℕ) (o : Option ℕ) → (if b then Some k else o) ≡ Some i → (o ≡ Some i → k + 1 ≤ i) → k ≤ i
above-by true k i o e more = let same : k ≡ i = cc in omega arith
above-by false k i o e more = let later : k + 1 ≤ i = more e in omega arith

place-above : (k : ℕ) (names : List (List ℕ)) (m : List ℕ) (i : ℕ) → place_of (numbered k names) m ≡ Some i → k ≤ i
place-above k [] m i e = cc
place-above k (x ∷ xs) m i e = above-by (bytes_eq x m) k i (place_of (numbered (k + 1) xs) m) e (place-above (k + 1) xs m i)

-- one place has one name
same-by : (a b : Bool) (x n m : List ℕ) (k i : ℕ) (o p : Option ℕ) → bytes_eq x n ≡ a → bytes_eq x m ≡ b → (if a then Some k else o) ≡ Some i → (if b then Some k else p) ≡ Some i
    → (o ≡ Some i → k + 1 ≤ i) → (p ≡ Some i → k + 1 ≤ i) → (o ≡ Some i → p ≡ Some i → n ≡ m) → n ≡ m
same-by true true x n m k i o p is_n is_m e f above above' later = sym ((bytes_eq-Decides x n).0 is_n) ∙ (bytes_eq-Decides x m).0 is_m
same-by true false x n m k i o p is_n is_m e f above above' later = let same : k ≡ i = cc in let more : k + 1 ≤ i = above' f in absurd (omega arith)
same-by false true x n m k i o p is_n is_m e f above above' later = let same : k ≡ i = cc in let more : k + 1 ≤ i = above e in absurd (omega arith)
same-by false false x n m k i o p is_n is_m e f above above' later = later e f

same-name : (k : ℕ) (names : List (List ℕ)) (n m : List ℕ) (i : ℕ) → place_of (numbered k names) n ≡ Some i → place_of (numbered k names) m ≡ Some i → n ≡ m
same-name k [] n m i e f = cc
same-name k (x ∷ xs) n m i e f =
    same-by (bytes_eq x n) (bytes_eq x m) x n m k i (place_of (numbered (k + 1) xs) n) (place_of (numbered (k + 1) xs) m) refl refl e f
    (place-above (k + 1) xs n i) (place-above (k + 1) xs m i) (same-name (k + 1) xs n m i)

-- Streams --

pub each-stepped : {X : Type 0} (P : X → Type 0) (i : ℕ) (f : X → X) (xs : List X) → IfSome (slice_get xs i) (λ x. P x → P (f x)) → Each P xs → Each P (stepped i f xs)
each-stepped P i f [] step h = tt
each-stepped P zero f (x ∷ xs) step h = (step h.0, h.1)
each-stepped P (suc i) f (x ∷ xs) step h = (h.0, each-stepped P i f xs step h.1)

each-stepped_at : {X : Type 0} (P : X → Type 0) (place : Option ℕ) (f : X → X) (xs : List X) → IfSome (placed place xs) (λ x. P x → P (f x)) → Each P xs → Each P (stepped_at place f xs)
each-stepped_at P None f xs step h = h
each-stepped_at P (Some i) f xs step h = each-stepped P i f xs step h

-- what stands at another place stays
get-stepped : {X : Type 0} (i j : ℕ) (f : X → X) (xs : List X) → i ≢ j → slice_get (stepped i f xs) j ≡ slice_get xs j
get-stepped i j f [] apart = refl
get-stepped zero zero f (x ∷ xs) apart = absurd (apart refl)
get-stepped zero (suc j) f (x ∷ xs) apart = refl
get-stepped (suc i) zero f (x ∷ xs) apart = refl
get-stepped (suc i) (suc j) f (x ∷ xs) apart = get-stepped i j f xs (λ e. apart (ap suc e))

placed-stepped : {X : Type 0} (p q : Option ℕ) (f : X → X) (xs : List X) → ((i : ℕ) → p ≡ Some i → q ≡ Some i → ⊥) → placed q (stepped_at p f xs) ≡ placed q xs
placed-stepped None q f xs apart = refl
placed-stepped (Some i) None f xs apart = refl
placed-stepped (Some i) (Some j) f xs apart = get-stepped i j f xs (λ e. apart i refl (ap Some (sym e)))

-- Packets --

may-follow : (s : StreamPrefix Plain) (p : Stamped Plain) → MayStand p.at s → MayFollow s p
may-follow s p h = record { allowed = h.allowed; above = h.above; alone = h.alone }

stand-stepped : (k : ℕ) (names : List (List ℕ)) (t : ℕ) (f : StreamPrefix Plain → StreamPrefix Plain) (ss : List (StreamPrefix Plain)) (name : List ℕ) (vs : List Named)
    → IsNew name vs → Stand (numbered k names) t ss vs → Stand (numbered k names) t (stepped_at (place_of (numbered k names) name) f ss) vs
stand-stepped k names t f ss name [] new h = tt
stand-stepped k names t f ss name (v ∷ vs) new h = (
  subst (λ (o : Option (StreamPrefix Plain)). IfSome o (MayStand t))
      (sym (placed-stepped (place_of (numbered k names) name) (place_of (numbered k names) v.name) f ss (λ i e g. new.0 (same-name k names name v.name i e g)))) h.0,
  stand-stepped k names t f ss name vs new.1 h.1,
)

each-packets : (graph : GraphInputs) (names : List (List ℕ)) (t : ℕ) (vs : List Named) (ss : List (StreamPrefix Plain)) → graph.streams ≡ numbered 0 names
    → AreApart vs → Stand graph.streams t ss vs → Each IsPrefix ss → Each IsPrefix (with_packets graph t vs ss)
each-packets graph names t [] ss places apart h all = all
each-packets graph names t (v ∷ vs) ss places apart h all =
    let p : Stamped Plain = record { at = t; value = plain_of v.value } in
    let place = place_of graph.streams v.name in
    let step : StreamPrefix Plain → StreamPrefix Plain = λ s. appended s p in
    let next : Stand graph.streams t (stepped_at place step ss) vs =
    subst (λ (l : List Placed). Stand l t (stepped_at (place_of l v.name) step ss) vs) (sym places)
    (stand-stepped 0 names t step ss v.name vs apart.0 (subst (λ (l : List Placed). Stand l t ss vs) places h.1)) in
    each-packets graph names t vs (stepped_at place step ss) places apart.1 next
    (each-stepped_at IsPrefix place step ss (if-weaker (placed place ss) (MayStand t) (λ s. IsPrefix s → IsPrefix (appended s p))
    (λ s may is. appended_is_prefix s p is (may-follow s p may)) h.0) all)

-- Lines --

each-form : (graph : GraphInputs) (names : List (List ℕ)) (n : ℕ) (given : State) (form : Form) → graph.streams ≡ numbered 0 names → HasApart form
    → first_refusal (form_refusals (before graph n given) form) ≡ None → Each IsPrefix given.streams → Each IsPrefix (with_form graph given form).streams
each-form graph names n given (packets t vs) places apart none all =
    each-packets graph names (time_or_none t) vs given.streams places apart (packets-stand graph n given t vs none) all
each-form graph names n given (bound name t) places apart none all =
    let low : time_or_none t ≤ done = bound-low graph n given name t none in
    each-stepped_at IsPrefix (place_of graph.streams name) (λ s. raised s (time_or_none t)) given.streams
    (if-always (placed (place_of graph.streams name) given.streams) (λ s. IsPrefix s → IsPrefix (raised s (time_or_none t))) (λ s h. raised_is_prefix s (time_or_none t) h low)) all
each-form graph names n given (close name) places apart none all =
    each-stepped_at IsPrefix (place_of graph.streams name) closed given.streams
    (if-always (placed (place_of graph.streams name) given.streams) (λ s. IsPrefix s → IsPrefix (closed s)) (λ s h. closed_is_prefix s h)) all
each-form graph names n given (side name v) places apart none all = all

-- what holds of an option holds of what it has
if-some : {X : Type 0} (P : X → Type 0) (o : Option X) (x : X) → o ≡ Some x → IfSome o P → P x
if-some P o x is h = rw is at h

each-line : (graph : GraphInputs) (names : List (List ℕ)) (n : ℕ) (given : State) (line : List ℕ) → graph.streams ≡ numbered 0 names
    → words_refusal (before graph n given) line ≡ None → Each IsPrefix given.streams → Each IsPrefix (with_line graph given line).streams
each-line graph names n given line places none all =
    recorded-keeps (λ (s : State). Each IsPrefix s.streams) graph n given line none all (λ form is good.
    each-form graph names n given form places (if-some HasApart (option_and_then form_of (json_value line)) form is (apart-line line)) good all)

each-lines : (graph : GraphInputs) (names : List (List ℕ)) (before lines : List (List ℕ)) → graph.streams ≡ numbered 0 names → AllRecorded graph before lines
    → Each IsPrefix (given_by graph before).streams → Each IsPrefix (given_by graph (before ++ lines)).streams
each-lines graph names before [] places good all = subst (λ (l : List (List ℕ)). Each IsPrefix (given_by graph l).streams) (sym (append-nil before)) all
each-lines graph names before (line ∷ lines) places good all =
    let next : Each IsPrefix (given_by graph (before ++ line ∷ [])).streams =
    subst (λ (s : State). Each IsPrefix s.streams) (sym (given-more graph before line))
    (each-line graph names (length before) (given_by graph before) line places good.0 all) in
    subst (λ (l : List (List ℕ)). Each IsPrefix (given_by graph l).streams) (append_assoc before (line ∷ []) lines)
    (each-lines graph names (before ++ line ∷ []) lines places good.1 next)

pub each-fresh : (n : ℕ) → Each IsPrefix (replicate n (empty_prefix {X = Plain}))
each-fresh zero = tt
each-fresh (suc n) = (empty_is_prefix, each-fresh n)

each-ended : (ended : Bool) (ss : List (StreamPrefix Plain)) → Each IsPrefix ss → Each IsPrefix (ended_streams ended ss)
each-ended ended [] all = tt
each-ended ended (s ∷ ss) all = (by ended all.0, each-ended ended ss all.1)
  where
    by : (ended : Bool) → IsPrefix s → IsPrefix (ended_stream ended s)
    by true h = closed_is_prefix s h
    by false h = h

pub prefixes-given : (graph : GraphInputs) (names : List (List ℕ)) (ended : Bool) (lines : List (List ℕ)) → graph.streams ≡ numbered 0 names → AllRecorded graph [] lines
    → All IsPrefix (ended_streams ended (given_by graph lines).streams)
prefixes-given graph names ended lines places good =
    All-from_recursion IsPrefix (ended_streams ended (given_by graph lines).streams)
    (each-ended ended (given_by graph lines).streams (each-lines graph names [] lines places good (each-fresh (length graph.kinds))))
