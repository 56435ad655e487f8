-- What lines give is extended by what more lines give.
use Rattle.std.proofs.Common.{◌≡◌, ◌≤◌, ◌<◌, ◌+◌, ℕ, zero, suc, List, [], ◌∷◌, ◌++◌, length, fold, replicate, Bool, true, false, if◌then◌else◌, cond, Option, Some, None, IfSome, option_and_then, slice_get, refl, sym, ap, ◌∙◌, subst, append_assoc, append-nil, arith}
use Rattle.std.proofs.lemmas.Bool.{true≢false}
use Rattle.std.proofs.lemmas.Bool.Decides.{nat_tests}
use Rattle.std.proofs.lemmas.List.Elements.{All-push}
use Rattle.std.proofs.lemmas.List.Sums.{sum_by-append}
use Rattle.std.specs.List.{AllZip, list_all}
use Rattle.mg_time.specs.Time.{next, done, IsAllowed}
use Rattle.mg_value.specs.Payload.{Plain}
use Rattle.mg_value.specs.Packet.{Stamped}
use Rattle.mg_settled.specs.Prefix.{StreamPrefix, empty_prefix, appended, raised, closed}
use Rattle.mg_settled.specs.Extension.{IsExtendedBy, AreExtendedBy}
use Rattle.mg_settled.proofs.Lemmas.{extended_by_itself, extended_further, raised_extends}
use Rattle.mg_feed.specs.Graph.{GraphInputs, place_of}
use Rattle.mg_feed.specs.Form.{Named, Form, packets, bound, close, side, is_blank, form_of, json_value}
use Rattle.mg_feed.specs.Value.{plain_of}
use Rattle.mg_feed.specs.Given.{ended_stream, ended_streams}
use Rattle.mg_feed.specs.Stands.{AllGood}
use Rattle.mg_feed.specs.Batch.{naming}
use Rattle.mg_feed.specs.Accepted.{State, before, stepped, stepped_at, placed, with_packets, with_form, with_said, with_line, time_or_none, given_by, first_refusal, form_refusals, line_refusal, form_names, names_stream}
use Rattle.mg_feed.proofs.Judging.{if-weaker, if-always, MayStand, Stand, packets-stand, bound-low, side-early, line-keeps}
use Rattle.mg_feed.proofs.Accepting.{good-front, good-behind}
use Rattle.mg_feed.proofs.Holding.{given_by-append, given-more}

-- One stream --

-- a stream goes on: it is extended, and its bound is at most Done
record Goes (s t : StreamPrefix Plain) : Type 0 where
  extended : IsExtendedBy s t
  within : t.bound ≤ done

goes-then : (s t u : StreamPrefix Plain) → Goes s t → Goes t u → Goes s u
goes-then s t u one two = record { extended = extended_further s t u one.extended two.extended; within = two.within }

goes-itself : (s t : StreamPrefix Plain) → Goes s t → Goes t t
goes-itself s t one = record { extended = extended_by_itself t; within = one.within }

after-time : (t : ℕ) → IsAllowed t → t ≤ next t
after-time t allowed = grind (arith, nat_tests)

next-within : (t : ℕ) → IsAllowed t → next t ≤ done
next-within t allowed = grind (arith, nat_tests)

goes-appended : (s t : StreamPrefix Plain) (p : Stamped Plain) → MayStand p.at s → Goes s t → Goes s (appended t p)
goes-appended s t p may one =
    let e = one.extended in
    let low = may.above in
    let up = after-time p.at may.allowed in
    record {
      extended = record {
        further = e.further ++ p ∷ [];
        packets = ap (λ ps. ps ++ p ∷ []) e.packets ∙ append_assoc s.packets e.further (p ∷ []);
        bound = omega (arith, low, up);
        above = All-push (λ (q : Stamped Plain). s.bound ≤ q.at) e.further p e.above low;
      };
      within = next-within p.at may.allowed;
    }

goes-raised : (s t : StreamPrefix Plain) (b : ℕ) → b ≤ done → Goes s t → Goes s (raised t b)
goes-raised s t b low one =
    let within = one.within in
    record { extended = extended_further s t (raised t b) one.extended (raised_extends t b); within = omega (arith, within, low) }

goes-closed : (s t : StreamPrefix Plain) → Goes s t → Goes s (closed t)
goes-closed s t one =
    let e = one.extended in
    let up = e.bound in
    let within = one.within in
    record { extended = record { further = e.further; packets = e.packets; bound = omega (arith, up, within); above = e.above }; within = omega arith }

-- All streams --

all-then : (ss ts us : List (StreamPrefix Plain)) → AllZip Goes ss ts → AllZip Goes ts us → AllZip Goes ss us
all-then [] [] us one two = two
all-then [] (t ∷ ts) us one two = absurd one
all-then (s ∷ ss) [] us one two = absurd one
all-then (s ∷ ss) (t ∷ ts) [] one two = absurd two
all-then (s ∷ ss) (t ∷ ts) (u ∷ us) one two = (goes-then s t u one.0 two.0, all-then ss ts us one.1 two.1)

all-themselves : (ss ts : List (StreamPrefix Plain)) → AllZip Goes ss ts → AllZip Goes ts ts
all-themselves [] [] one = tt
all-themselves [] (t ∷ ts) one = absurd one
all-themselves (s ∷ ss) [] one = absurd one
all-themselves (s ∷ ss) (t ∷ ts) one = (goes-itself s t one.0, all-themselves ss ts one.1)

all-stepped : (place : ℕ) (step : StreamPrefix Plain → StreamPrefix Plain) (ss ts : List (StreamPrefix Plain))
    → IfSome (slice_get ss place) (λ s. (t : StreamPrefix Plain) → Goes s t → Goes s (step t)) → AllZip Goes ss ts → AllZip Goes ss (stepped place step ts)
all-stepped place step [] [] h all = tt
all-stepped place step [] (t ∷ ts) h all = absurd all
all-stepped place step (s ∷ ss) [] h all = absurd all
all-stepped zero step (s ∷ ss) (t ∷ ts) h all = (h t all.0, all.1)
all-stepped (suc place) step (s ∷ ss) (t ∷ ts) h all = (all.0, all-stepped place step ss ts h all.1)

all-stepped_at : (place : Option ℕ) (step : StreamPrefix Plain → StreamPrefix Plain) (ss ts : List (StreamPrefix Plain))
    → IfSome (placed place ss) (λ s. (t : StreamPrefix Plain) → Goes s t → Goes s (step t)) → AllZip Goes ss ts → AllZip Goes ss (stepped_at place step ts)
all-stepped_at None step ss ts h all = all
all-stepped_at (Some place) step ss ts h all = all-stepped place step ss ts h all

all-packets : (graph : GraphInputs) (time : ℕ) (vs : List Named) (ss ts : List (StreamPrefix Plain)) → Stand graph.streams time ss vs → AllZip Goes ss ts
    → AllZip Goes ss (with_packets graph time vs ts)
all-packets graph time [] ss ts stand all = all
all-packets graph time (v ∷ vs) ss ts stand all =
    let p : Stamped Plain = record { at = time; value = plain_of v.value } in
    let place = place_of graph.streams v.name in
    let step : StreamPrefix Plain → StreamPrefix Plain = λ s. appended s p in
    all-packets graph time vs ss (stepped_at place step ts) stand.1
    (all-stepped_at place step ss ts (if-weaker (placed place ss) (MayStand time) (λ s. (t : StreamPrefix Plain) → Goes s t → Goes s (step t))
    (λ s may t one. goes-appended s t p may one) stand.0) all)

-- Lines --

all-form : (graph : GraphInputs) (n : ℕ) (given : State) (form : Form) → first_refusal (form_refusals (before graph n given) form) ≡ None
    → AllZip Goes given.streams given.streams → AllZip Goes given.streams (with_form graph given form).streams
all-form graph n given (packets t vs) none all = all-packets graph (time_or_none t) vs given.streams given.streams (packets-stand graph n given t vs none) all
all-form graph n given (bound name t) none all =
    let low = bound-low graph n given name t none in
    let step : StreamPrefix Plain → StreamPrefix Plain = λ s. raised s (time_or_none t) in
    all-stepped_at (place_of graph.streams name) step given.streams given.streams
    (if-always (placed (place_of graph.streams name) given.streams) (λ s. (t : StreamPrefix Plain) → Goes s t → Goes s (step t)) (λ s u one. goes-raised s u (time_or_none t) low one)) all
all-form graph n given (close name) none all =
    all-stepped_at (place_of graph.streams name) closed given.streams given.streams
    (if-always (placed (place_of graph.streams name) given.streams) (λ s. (t : StreamPrefix Plain) → Goes s t → Goes s (closed t)) (λ s t one. goes-closed s t one)) all
all-form graph n given (side name v) none all = all

all-line : (graph : GraphInputs) (n : ℕ) (given : State) (line : List ℕ) → line_refusal (before graph n given) line ≡ None
    → AllZip Goes given.streams given.streams → AllZip Goes given.streams (with_line graph given line).streams
all-line graph n given line none all =
    line-keeps (λ (s : State). AllZip Goes given.streams s.streams) graph n given line none all (λ form is good. all-form graph n given form good all)

all-lines : (graph : GraphInputs) (before lines : List (List ℕ)) → AllGood graph before lines → AllZip Goes (given_by graph before).streams (given_by graph before).streams
    → AllZip Goes (given_by graph before).streams (given_by graph (before ++ lines)).streams
all-lines graph before [] good all =
    subst (λ (l : List (List ℕ)). AllZip Goes (given_by graph before).streams (given_by graph l).streams) (sym (append-nil before)) all
all-lines graph before (line ∷ lines) good all =
    let here = (given_by graph before).streams in
    let there = (given_by graph (before ++ line ∷ [])).streams in
    let one : AllZip Goes here there = subst (λ (s : State). AllZip Goes here s.streams) (sym (given-more graph before line))
    (all-line graph (length before) (given_by graph before) line good.0 all) in
    let rest : AllZip Goes there (given_by graph ((before ++ line ∷ []) ++ lines)).streams =
    all-lines graph (before ++ line ∷ []) lines good.1 (all-themselves here there one) in
    subst (λ (l : List (List ℕ)). AllZip Goes here (given_by graph l).streams) (append_assoc before (line ∷ []) lines)
    (all-then here there (given_by graph ((before ++ line ∷ []) ++ lines)).streams one rest)

all-fresh : (n : ℕ) → AllZip Goes (replicate n (empty_prefix {X = Plain})) (replicate n empty_prefix)
all-fresh zero = tt
all-fresh (suc n) = (record { extended = extended_by_itself empty_prefix; within = omega arith }, all-fresh n)

all-ended : (ended : Bool) (ss ts : List (StreamPrefix Plain)) → AllZip Goes ss ts → AreExtendedBy ss (ended_streams ended ts)
all-ended ended [] [] all = tt
all-ended ended [] (t ∷ ts) all = absurd all
all-ended ended (s ∷ ss) [] all = absurd all
all-ended ended (s ∷ ss) (t ∷ ts) all = (by ended all.0, all-ended ended ss ts all.1)
  where
    by : (ended : Bool) → Goes s t → IsExtendedBy s (ended_stream ended t)
    by true one = (goes-closed s t one).extended
    by false one = one.extended

pub streams-grow : (graph : GraphInputs) (lines more : List (List ℕ)) (ended : Bool) → AllGood graph [] (lines ++ more)
    → AreExtendedBy (given_by graph lines).streams (ended_streams ended (given_by graph (lines ++ more)).streams)
streams-grow graph lines more ended good =
    let here = (given_by graph lines).streams in
    let start = all-fresh (length graph.kinds) in
    let all : AllZip Goes here here = all-themselves (given_by graph []).streams here (all-lines graph [] lines (good-front graph [] lines more good) start) in
    all-ended ended here (given_by graph (lines ++ more)).streams (all-lines graph lines more (good-behind graph [] lines more good) all)

-- Whether a line named a stream --

named-form : (graph : GraphInputs) (given : State) (form : Form) → given.named ≡ true → (with_form graph given form).named ≡ true
named-form graph given (packets t vs) named = refl
named-form graph given (bound name t) named = refl
named-form graph given (close name) named = refl
named-form graph given (side name v) named = named

named-line : (graph : GraphInputs) (given : State) (line : List ℕ) → given.named ≡ true → (with_line graph given line).named ≡ true
named-line graph given line named = by (list_all is_blank line) (option_and_then form_of (json_value line))
  where
    by : (blank : Bool) (said : Option Form) → (if blank then given else with_said graph given said).named ≡ true
    by true said = named
    by false None = named
    by false (Some form) = named-form graph given form named

named-on : (graph : GraphInputs) (given : State) (lines : List (List ℕ)) → given.named ≡ true → (fold (λ given l. with_line graph given l) given lines).named ≡ true
named-on graph given [] named = named
named-on graph given (line ∷ lines) named = named-on graph (with_line graph given line) lines (named-line graph given line named)

-- a line that names a stream
names-form : (graph : GraphInputs) (given : State) (form : Form) → form_names (Some form) ≡ true → (with_form graph given form).named ≡ true
names-form graph given (packets t vs) names = refl
names-form graph given (bound name t) names = refl
names-form graph given (close name) names = refl
names-form graph given (side name v) names = cc

names-line : (graph : GraphInputs) (given : State) (line : List ℕ) → names_stream line ≡ true → (with_line graph given line).named ≡ true
names-line graph given line names = by (list_all is_blank line) (option_and_then form_of (json_value line)) names
  where
    by : (blank : Bool) (said : Option Form) → (if blank then false else form_names said) ≡ true → (if blank then given else with_said graph given said).named ≡ true
    by true said names = cc
    by false None names = cc
    by false (Some form) names = names-form graph given form names

naming-first : (line : List ℕ) (lines : List (List ℕ)) → naming (line ∷ lines) ≡ naming (line ∷ []) + naming lines
naming-first line lines = sum_by-append _ (line ∷ []) lines

-- a line that counts names a stream
naming-one : (line : List ℕ) (b : Bool) → names_stream line ≡ b → naming (line ∷ []) ≡ cond {A = ℕ} b 1 0
naming-one line true is = rw is refl
naming-one line false is = rw is refl

naming-on : (graph : GraphInputs) (given : State) (lines : List (List ℕ)) → 0 < naming lines → (fold (λ given l. with_line graph given l) given lines).named ≡ true
naming-on graph given [] some = absurd (omega arith)
naming-on graph given (line ∷ lines) some = by (names_stream line) refl (naming-on graph (with_line graph given line) lines)
  where
    by : (b : Bool) → names_stream line ≡ b → (0 < naming lines → (fold (λ given l. with_line graph given l) (with_line graph given line) lines).named ≡ true)
        → (fold (λ given l. with_line graph given l) (with_line graph given line) lines).named ≡ true
    by true is later = named-on graph (with_line graph given line) lines (names-line graph given line is)
    by false is later = later (omega (arith, some, naming-first line lines, naming-one line false is))

pub named-stays : (graph : GraphInputs) (lines more : List (List ℕ)) → (given_by graph lines).named ≡ true → (given_by graph (lines ++ more)).named ≡ true
named-stays graph lines more named = ap (λ (s : State). s.named) (given_by-append graph lines more) ∙ named-on graph (given_by graph lines) more named

pub naming-names : (graph : GraphInputs) (lines taken : List (List ℕ)) → 0 < naming taken → (given_by graph (lines ++ taken)).named ≡ true
naming-names graph lines taken some = ap (λ (s : State). s.named) (given_by-append graph lines taken) ∙ naming-on graph (given_by graph lines) taken some

-- Side packets --

sides-form : (graph : GraphInputs) (n : ℕ) (given : State) (form : Form) → first_refusal (form_refusals (before graph n given) form) ≡ None → given.named ≡ true
    → (with_form graph given form).sides ≡ given.sides
sides-form graph n given (packets t vs) none named = refl
sides-form graph n given (bound name t) none named = refl
sides-form graph n given (close name) none named = refl
sides-form graph n given (side name v) none named = absurd (true≢false (sym named ∙ side-early graph n given name v none))

sides-line : (graph : GraphInputs) (n : ℕ) (given : State) (line : List ℕ) → line_refusal (before graph n given) line ≡ None → given.named ≡ true
    → (with_line graph given line).sides ≡ given.sides
sides-line graph n given line none named =
    line-keeps (λ (s : State). s.sides ≡ given.sides) graph n given line none refl (λ form is good. sides-form graph n given form good named)

sides-on : (graph : GraphInputs) (before lines : List (List ℕ)) → AllGood graph before lines → (given_by graph before).named ≡ true
    → (given_by graph (before ++ lines)).sides ≡ (given_by graph before).sides
sides-on graph before [] good named = ap (λ (l : List (List ℕ)). (given_by graph l).sides) (append-nil before)
sides-on graph before (line ∷ lines) good named =
    ap (λ (l : List (List ℕ)). (given_by graph l).sides) (sym (append_assoc before (line ∷ []) lines))
    ∙ sides-on graph (before ++ line ∷ []) lines good.1 (named-stays graph before (line ∷ []) named)
    ∙ ap (λ (s : State). s.sides) (given-more graph before line) ∙ sides-line graph (length before) (given_by graph before) line good.0 named

pub sides-stay : (graph : GraphInputs) (lines more : List (List ℕ)) → AllGood graph [] (lines ++ more) → (given_by graph lines).named ≡ true
    → (given_by graph (lines ++ more)).sides ≡ (given_by graph lines).sides
sides-stay graph lines more good named = sides-on graph lines more (good-behind graph [] lines more good) named
