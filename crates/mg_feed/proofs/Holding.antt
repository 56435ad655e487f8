-- What a feed stands for as lines are accepted and packets are taken.
use Rattle.std.proofs.Common.{◌≡◌, ◌||◌, ◌+◌, ℕ, zero, suc, List, [], ◌∷◌, ◌++◌, length, map, replicate, fold, Bool, true, false, if◌then◌else◌, Option, Some, None, option_and_then, refl, sym, ap, ◌∙◌, subst, append_assoc, append-nil, length-append, arith}
use Rattle.std.proofs.lemmas.Grind.{fold-append}
use Rattle.std.specs.List.{list_all}
use Rattle.mg_value.specs.Payload.{Plain}
use Rattle.mg_value.specs.Packet.{Stamped}
use Rattle.mg_settled.specs.Prefix.{StreamPrefix, empty_prefix, appended, raised, closed}
use Rattle.mg_feed.specs.Graph.{GraphInputs, place_of}
use Rattle.mg_feed.specs.Form.{Named, Form, packets, bound, close, side, is_blank, form_of, json_value}
use Rattle.mg_feed.specs.Value.{plain_of}
use Rattle.mg_feed.specs.Accepted.{State, Before, before, fresh, stepped, stepped_at, with_packets, with_form, with_said, with_line, time_or_none, given_by, standing, has_some, line_refusal, refusal}
use Rattle.mg_feed.specs.View.{View, standings, before_seen, with_counted_line, without_packets, all_taken, after_taking}
use Rattle.mg_feed.specs.Stands.{AllGood, with_gone, behind_all, HasAccepted, nothing_taken, taken_with}

-- packets before others
has_some-append : {X : Type 0} (xs ys : List X) → has_some (xs ++ ys) ≡ (has_some xs || has_some ys)
has_some-append [] ys = refl
has_some-append (x ∷ xs) ys = refl

standings-behind : (ts : List (List (Stamped Plain))) (ss : List (StreamPrefix Plain)) → map standing (behind_all ts ss) ≡ standings (map has_some ts) ss
standings-behind [] ss = refl
standings-behind (t ∷ ts) [] = refl
standings-behind (t ∷ ts) (s ∷ ss) = rw (has_some-append t s.packets, standings-behind ts ss) refl

pub behind-stepped : (step : StreamPrefix Plain → StreamPrefix Plain) → ((t : List (Stamped Plain)) (s : StreamPrefix Plain) → with_gone t (step s) ≡ step (with_gone t s))
    → (place : ℕ) (ts : List (List (Stamped Plain))) (ss : List (StreamPrefix Plain)) → behind_all ts (stepped place step ss) ≡ stepped place step (behind_all ts ss)
behind-stepped step same place [] ss = refl
behind-stepped step same place (t ∷ ts) [] = refl
behind-stepped step same zero (t ∷ ts) (s ∷ ss) = ap (λ x. x ∷ behind_all ts ss) (same t s)
behind-stepped step same (suc place) (t ∷ ts) (s ∷ ss) = ap (λ l. with_gone t s ∷ l) (behind-stepped step same place ts ss)

behind-stepped_at : (step : StreamPrefix Plain → StreamPrefix Plain) → ((t : List (Stamped Plain)) (s : StreamPrefix Plain) → with_gone t (step s) ≡ step (with_gone t s))
    → (place : Option ℕ) (ts : List (List (Stamped Plain))) (ss : List (StreamPrefix Plain)) → behind_all ts (stepped_at place step ss) ≡ stepped_at place step (behind_all ts ss)
behind-stepped_at step same None ts ss = refl
behind-stepped_at step same (Some place) ts ss = behind-stepped step same place ts ss

pub behind-appended : (p : Stamped Plain) (t : List (Stamped Plain)) (s : StreamPrefix Plain) → with_gone t (appended s p) ≡ appended (with_gone t s) p
behind-appended p t s = rw append_assoc refl

behind-packets : (graph : GraphInputs) (time : ℕ) (vs : List Named) (ts : List (List (Stamped Plain))) (ss : List (StreamPrefix Plain))
    → behind_all ts (with_packets graph time vs ss) ≡ with_packets graph time vs (behind_all ts ss)
behind-packets graph time [] ts ss = refl
behind-packets graph time (v ∷ vs) ts ss =
    let p : Stamped Plain = record { at = time; value = plain_of v.value } in
    behind-packets graph time vs ts (stepped_at (place_of graph.streams v.name) (λ s. appended s p) ss)
    ∙ ap (with_packets graph time vs) (behind-stepped_at (λ s. appended s p) (behind-appended p) (place_of graph.streams v.name) ts ss)

-- what is given with the packets that were taken
abbrev pub whole : List (List (Stamped Plain)) → State → State
whole ts given = record { streams = behind_all ts given.streams; sides = given.sides; named = given.named }

whole-form : (graph : GraphInputs) (ts : List (List (Stamped Plain))) (given : State) (form : Form) → with_form graph (whole ts given) form ≡ whole ts (with_form graph given form)
whole-form graph ts given (packets t vs) = rw (behind-packets graph (time_or_none t) vs ts given.streams) refl
whole-form graph ts given (bound name t) = rw (behind-stepped_at (λ s. raised s (time_or_none t)) (λ t s. refl) (place_of graph.streams name) ts given.streams) refl
whole-form graph ts given (close name) = rw (behind-stepped_at closed (λ t s. refl) (place_of graph.streams name) ts given.streams) refl
whole-form graph ts given (side name v) = refl

whole-said : (graph : GraphInputs) (ts : List (List (Stamped Plain))) (given : State) (said : Option Form) → with_said graph (whole ts given) said ≡ whole ts (with_said graph given said)
whole-said graph ts given None = refl
whole-said graph ts given (Some form) = whole-form graph ts given form

whole-by : (ts : List (List (Stamped Plain))) (b : Bool) (x y x' y' : State) → x ≡ whole ts x' → y ≡ whole ts y' → (if b then x else y) ≡ whole ts (if b then x' else y')
whole-by ts true x y x' y' one two = one
whole-by ts false x y x' y' one two = two

whole-line : (graph : GraphInputs) (ts : List (List (Stamped Plain))) (given : State) (line : List ℕ) → with_line graph (whole ts given) line ≡ whole ts (with_line graph given line)
whole-line graph ts given line =
    whole-by ts (list_all is_blank line) _ _ _ _ refl (whole-said graph ts given (option_and_then form_of (json_value line)))

pub given_by-append : (graph : GraphInputs) (xs ys : List (List ℕ)) → given_by graph (xs ++ ys) ≡ fold (λ given l. with_line graph given l) (given_by graph xs) ys
given_by-append graph xs ys = fold-append (λ given l. with_line graph given l) (fresh graph) xs ys

pub given-more : (graph : GraphInputs) (before : List (List ℕ)) (line : List ℕ) → given_by graph (before ++ line ∷ []) ≡ with_line graph (given_by graph before) line
given-more graph before line = given_by-append graph before (line ∷ [])

-- a good line after good lines
pub AllGood-push : (graph : GraphInputs) (before lines : List (List ℕ)) (line : List ℕ)
    → AllGood graph before lines → refusal graph (before ++ lines) line ≡ None → AllGood graph before (lines ++ line ∷ [])
AllGood-push graph before [] line good none = (rw append-nil at none, tt)
AllGood-push graph before (l ∷ ls) line good none = (good.0, AllGood-push graph (before ++ l ∷ []) ls line good.1 (rw append_assoc none))

-- a line is judged by what the feed has
pub refusal-seen : (lines : List (List ℕ)) (ts : List (List (Stamped Plain))) (v : View) (line : List ℕ) → HasAccepted lines ts v
    → refusal v.graph lines line ≡ line_refusal (before_seen v) line
refusal-seen lines ts v line stands =
    ap (λ (b : Before). line_refusal b line)
    (ap (λ (g : State). before v.graph (length lines) g) stands.given
    ∙ rw (standings-behind ts v.given.streams, sym stands.taken, sym stands.number) refl)

-- a line leaves as many streams
pub length-stepped : {X : Type 0} (place : ℕ) (step : X → X) (xs : List X) → length (stepped place step xs) ≡ length xs
length-stepped place step [] = refl
length-stepped zero step (x ∷ xs) = refl
length-stepped (suc place) step (x ∷ xs) = ap suc (length-stepped place step xs)

length-stepped_at : {X : Type 0} (place : Option ℕ) (step : X → X) (xs : List X) → length (stepped_at place step xs) ≡ length xs
length-stepped_at None step xs = refl
length-stepped_at (Some place) step xs = length-stepped place step xs

length-packets : (graph : GraphInputs) (time : ℕ) (vs : List Named) (ss : List (StreamPrefix Plain)) → length (with_packets graph time vs ss) ≡ length ss
length-packets graph time [] ss = refl
length-packets graph time (v ∷ vs) ss =
    let step = λ (s : StreamPrefix Plain). appended s (record { at = time; value = plain_of v.value }) in
    length-packets graph time vs (stepped_at (place_of graph.streams v.name) step ss) ∙ length-stepped_at (place_of graph.streams v.name) step ss

length-form : (graph : GraphInputs) (given : State) (form : Form) → length (with_form graph given form).streams ≡ length given.streams
length-form graph given (packets t vs) = length-packets graph (time_or_none t) vs given.streams
length-form graph given (bound name t) = length-stepped_at (place_of graph.streams name) (λ s. raised s (time_or_none t)) given.streams
length-form graph given (close name) = length-stepped_at (place_of graph.streams name) closed given.streams
length-form graph given (side name v) = refl

length-said : (graph : GraphInputs) (given : State) (said : Option Form) → length (with_said graph given said).streams ≡ length given.streams
length-said graph given None = refl
length-said graph given (Some form) = length-form graph given form

length-by : (b : Bool) (given x : State) → length x.streams ≡ length given.streams → length (if b then given else x).streams ≡ length given.streams
length-by true given x is = refl
length-by false given x is = is

pub length-line : (graph : GraphInputs) (given : State) (line : List ℕ) → length (with_line graph given line).streams ≡ length given.streams
length-line graph given line =
    length-by (list_all is_blank line) given (with_said graph given (option_and_then form_of (json_value line))) (length-said graph given (option_and_then form_of (json_value line)))

pub stands-next : (lines : List (List ℕ)) (ts : List (List (Stamped Plain))) (v w : View) (line : List ℕ) → HasAccepted lines ts v
    → line_refusal (before_seen v) line ≡ None → w ≡ with_counted_line v (with_line v.graph v.given line)
    → (refusal v.graph lines line ≡ None) × HasAccepted (lines ++ line ∷ []) ts w
stands-next lines ts v w line stands good is =
    let none = refusal-seen lines ts v line stands ∙ good in
    let s : HasAccepted (lines ++ line ∷ []) ts (with_counted_line v (with_line v.graph v.given line)) = record {
      number = ap (λ n. n + 1) stands.number ∙ sym (length-append lines (line ∷ []));
      good = AllGood-push v.graph [] lines line stands.good none;
      given = given_by-append v.graph lines (line ∷ []) ∙ ap (λ g. with_line v.graph g line) stands.given ∙ whole-line v.graph ts v.given line;
      many = stands.many ∙ sym (length-line v.graph v.given line);
      taken = stands.taken;
    } in
    (none, subst (λ (x : View). HasAccepted (lines ++ line ∷ []) ts x) (sym is) s)

-- at the start
length-behind : (n : ℕ) → length (replicate {A = List (Stamped Plain)} n []) ≡ length (replicate n (empty_prefix {X = Plain}))
length-behind zero = refl
length-behind (suc n) = ap suc (length-behind n)

behind-nothing : (n : ℕ) → behind_all (replicate n []) (replicate n empty_prefix) ≡ replicate n empty_prefix
behind-nothing zero = refl
behind-nothing (suc n) = ap (λ l. empty_prefix ∷ l) (behind-nothing n)

nothing-some : (n : ℕ) → replicate n false ≡ map (has_some {X = Stamped Plain}) (replicate n [])
nothing-some zero = refl
nothing-some (suc n) = ap (λ l. false ∷ l) (nothing-some n)

pub stands-fresh : (graph : GraphInputs) (v : View)
    → v ≡ record { graph = graph; given = fresh graph; taken = replicate (length graph.kinds) false; lines = 0 } → HasAccepted [] (nothing_taken graph) v
stands-fresh graph v is = subst (λ (x : View). HasAccepted [] (nothing_taken graph) x) (sym is) (record {
  number = refl;
  good = tt;
  given = rw (behind-nothing (length graph.kinds)) refl;
  many = length-behind (length graph.kinds);
  taken = nothing-some (length graph.kinds);
})

-- packets are taken
behind-taken : (ts : List (List (Stamped Plain))) (ss : List (StreamPrefix Plain)) → behind_all (taken_with ts ss) (map without_packets ss) ≡ behind_all ts ss
behind-taken [] ss = refl
behind-taken (t ∷ ts) [] = refl
behind-taken (t ∷ ts) (s ∷ ss) = rw (append-nil (t ++ s.packets), behind-taken ts ss) refl

length-taken : (ts : List (List (Stamped Plain))) (ss : List (StreamPrefix Plain)) → length ts ≡ length ss → length (taken_with ts ss) ≡ length (map without_packets ss)
length-taken [] [] is = refl
length-taken [] (s ∷ ss) is = absurd (omega (arith, is))
length-taken (t ∷ ts) [] is = absurd (omega (arith, is))
length-taken (t ∷ ts) (s ∷ ss) is = let same : length ts ≡ length ss = omega (arith, is) in ap suc (length-taken ts ss same)

taken-taken : (ts : List (List (Stamped Plain))) (ss : List (StreamPrefix Plain)) → all_taken (map has_some ts) ss ≡ map has_some (taken_with ts ss)
taken-taken [] ss = refl
taken-taken (t ∷ ts) [] = refl
taken-taken (t ∷ ts) (s ∷ ss) = rw (has_some-append t s.packets, taken-taken ts ss) refl

pub stands-taken : (lines : List (List ℕ)) (ts : List (List (Stamped Plain))) (v w : View) → HasAccepted lines ts v → w ≡ after_taking v → HasAccepted lines (taken_with ts v.given.streams) w
stands-taken lines ts v w stands is =
    let s : HasAccepted lines (taken_with ts v.given.streams) (after_taking v) = record {
      number = stands.number;
      good = stands.good;
      given = stands.given ∙ rw (behind-taken ts v.given.streams) refl;
      many = length-taken ts v.given.streams stands.many;
      taken = ap (λ t. all_taken t v.given.streams) stands.taken ∙ taken-taken ts v.given.streams;
    } in
    subst (λ (x : View). HasAccepted lines (taken_with ts v.given.streams) x) (sym is) s

-- if nothing was taken, the feed has all that its lines gave
pub behind-none : (n : ℕ) (ss : List (StreamPrefix Plain)) → n ≡ length ss → behind_all (replicate n []) ss ≡ ss
behind-none zero [] is = refl
behind-none zero (s ∷ ss) is = absurd (omega (arith, is))
behind-none (suc n) [] is = absurd (omega (arith, is))
behind-none (suc n) (s ∷ ss) is = let same : n ≡ length ss = omega (arith, is) in ap (λ l. s ∷ l) (behind-none n ss same)

pub length-none : (n : ℕ) → length (replicate {A = List (Stamped Plain)} n []) ≡ n
length-none zero = refl
length-none (suc n) = ap suc (length-none n)

pub given-untaken : (lines : List (List ℕ)) (v : View) → HasAccepted lines (nothing_taken v.graph) v → v.given ≡ given_by v.graph lines
given-untaken lines v stands =
    let n = length v.graph.kinds in
    let many : n ≡ length v.given.streams = sym (length-none n) ∙ stands.many in
    sym (stands.given ∙ ap (λ ss. record { streams = ss; sides = v.given.sides; named = v.given.named }) (behind-none n v.given.streams many))
