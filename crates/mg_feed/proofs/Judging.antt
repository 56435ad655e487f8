-- What is known of a line that isn't refused.
use Rattle.std.proofs.Common.{◌≡◌, ◌≤◌, ◌==◌, ◌&&◌, ℕ, zero, suc, ℤ, List, [], ◌∷◌, ◌++◌, length, map, Bool, true, false, not, nat_lt, nat_le, is_some, if◌then◌else◌, Option, Some, None, IfSome, option_map, option_and_then, unwrap_or, slice_get, codes, refl, sym, ap, ◌∙◌, subst, arith}
use Rattle.std.proofs.lemmas.Bool.{false≢true}
use Rattle.std.specs.List.{list_all}
use Rattle.std.specs.Str.{bytes_eq}
use Rattle.serde_json.specs.Data as json
use Rattle.serde_json.specs.Find.{as_i64}
use Rattle.mg_time.specs.Time.{IsAllowed, least, greatest, pre_stream, post_stream, done, place_of as time_place}
use Rattle.mg_value.specs.Payload.{Plain}
use Rattle.mg_value.specs.declared.kind.Kind.{Kind}
use Rattle.mg_value.specs.Packet.{Stamped}
use Rattle.mg_json.specs.Json.{first_fault}
use Rattle.mg_settled.specs.Prefix.{StreamPrefix}
use Rattle.mg_feed.specs.Graph.{GraphInputs, place_of}
use Rattle.mg_feed.specs.declared.places.Placed.{Placed}
use Rattle.mg_feed.specs.Form.{Named, Form, packets, bound, side, is_blank, form_of, json_value, time_of, time_numbered, is_of_range}
use Rattle.mg_feed.specs.Value.{plain_of, takes}
use Rattle.mg_feed.specs.Accepted.{State, Before, before, with_form, with_said, with_line, time_or_none, standing, has_some, placed, no_stream, kind_at, standing_at, side_at, when, first_refusal, packet_refusals, bound_refusals, side_refusals, several_refusals, form_refusals, shape_refusal, json_refusal, words_refusal, line_refusal, longest_line, most_lines, is_stream, is_side}
use Rattle.mg_feed.specs.declared.standing.Standing.{Standing}
use Rattle.mg_feed.specs.declared.line_fault.LineFault.{LineFault}
use Rattle.mg_feed.specs.declared.line_fault.LineFault.TheVariants.{BadTimestamp, NotAscending, Closed, KindMismatch, BadValue, TooLong, TooManyLines, NotAlone, UnknownStream, SideLate, SideTwice}

-- Reasons --

-- if no reason holds, the first doesn't, and none of the later ones does
pub first-parts : (x : Option LineFault) (xs : List (Option LineFault)) → first_refusal (x ∷ xs) ≡ None → (x ≡ None) × (first_refusal xs ≡ None)
first-parts None xs none = (refl, none)
first-parts (Some fault) xs none = cc

pub first-both : (xs ys : List (Option LineFault)) → first_refusal (xs ++ ys) ≡ None → (first_refusal xs ≡ None) × (first_refusal ys ≡ None)
first-both [] ys none = (refl, none)
first-both (None ∷ xs) ys none = first-both xs ys none
first-both (Some fault ∷ xs) ys none = cc

pub when-none : (test : Bool) (fault : LineFault) → when test fault ≡ None → test ≡ false
when-none true fault none = cc
when-none false fault none = refl

-- a test before other reasons
past-if : {X : Type 0} (test : Bool) (x : X) (o : Option X) → (if test then Some x else o) ≡ None → o ≡ None
past-if true x o none = cc
past-if false x o none = none

-- Times --

allowed-range : (t : ℕ) (b : Bool) (u : ℕ) → b ≡ (nat_le least t && nat_le t greatest) → (if b then Some t else None) ≡ Some u → IsAllowed u
allowed-range t true u is e = grind arith
allowed-range t false u is e = cc

allowed-number : (z : Option ℤ) (u : ℕ) → option_and_then time_numbered z ≡ Some u → IsAllowed u
allowed-number None u e = cc
allowed-number (Some z) u e = allowed-range (time_place z) (is_of_range z) u refl e

allowed-named : (a b : Bool) (u : ℕ) → (if a then Some pre_stream else (if b then Some post_stream else None)) ≡ Some u → IsAllowed u
allowed-named true b u e = grind arith
allowed-named false true u e = grind arith
allowed-named false false u e = cc

-- a time of a line may be a packet's
pub allowed-time : (t : json.Data) (u : ℕ) → time_of t ≡ Some u → IsAllowed u
allowed-time json.null u e = cc
allowed-time (json.boolean b) u e = cc
allowed-time (json.number n) u e = allowed-number (as_i64 n) u e
allowed-time (json.string s) u e = allowed-named (bytes_eq s (codes "PreStream")) (bytes_eq s (codes "PostStream")) u e
allowed-time (json.array ds) u e = cc
allowed-time (json.object ms) u e = cc

pub some-time : (time : Option ℕ) → not (is_some time) ≡ false → time ≡ Some (unwrap_or time 0)
some-time None is = absurd (false≢true (sym is))
some-time (Some t) is = refl

bound-done : (t : json.Data) (u : ℕ) → time_of t ≡ Some u → u ≤ done
bound-done t u is = let allowed = allowed-time t u is in grind arith

-- Packets --

-- what holds of an option that is there
pub if-weaker : {X : Type 0} (o : Option X) (P Q : X → Type 0) → ((x : X) → P x → Q x) → IfSome o P → IfSome o Q
if-weaker None P Q step h = tt
if-weaker (Some x) P Q step h = step x h

pub if-always : {X : Type 0} (o : Option X) (Q : X → Type 0) → ((x : X) → Q x) → IfSome o Q
if-always None Q h = tt
if-always (Some x) Q h = h x

-- what is at a place of a mapped list
placed-map : {X Y : Type 0} (p : Option ℕ) (f : X → Y) (xs : List X) → placed p (map f xs) ≡ option_map f (placed p xs)
placed-map None f xs = refl
placed-map (Some i) f xs = get-map i f xs
  where
    get-map : {X Y : Type 0} (i : ℕ) (f : X → Y) (xs : List X) → slice_get (map f xs) i ≡ option_map f (slice_get xs i)
    get-map i f [] = refl
    get-map zero f (x ∷ xs) = refl
    get-map (suc i) f (x ∷ xs) = get-map i f xs

-- a packet at a time may follow a stream, whatever its value
pub record MayStand (t : ℕ) (s : StreamPrefix Plain) : Type 0 where
  pub allowed : IsAllowed t
  pub above : s.bound ≤ t
  pub alone : t ≡ post_stream → length s.packets ≡ 0

-- if no reason against a packet holds, it may follow its stream
none-begun : (ps : List (Stamped Plain)) → has_some ps ≡ false → length ps ≡ 0
none-begun [] none = refl
none-begun (p ∷ ps) none = absurd (false≢true (sym none))

not-both : (a b : Bool) → (a && b) ≡ false → a ≡ true → b ≡ false
not-both true b e is = e
not-both false b e is = absurd (false≢true is)

eq-true : (a b : ℕ) → a ≡ b → (a == b) ≡ true
eq-true a b e = grind arith

may-stand : (kind : Kind) (s : StreamPrefix Plain) (t v : json.Data) → first_refusal (packet_refusals kind (standing s) (time_of t) v) ≡ None → MayStand (time_or_none t) s
may-stand kind s t v none =
    let time = time_of t in
    let u = unwrap_or time 0 in
    let later = when (s.bound == done) Closed ∷ option_map BadValue (first_fault v) ∷ when (not (takes kind (plain_of v))) KindMismatch
    ∷ when (nat_lt u s.bound) NotAscending ∷ when ((u == post_stream) && has_some s.packets) NotAlone ∷ [] in
    let one = first-parts (when (not (is_some time)) BadTimestamp) later none in
    let two = first-parts (when (s.bound == done) Closed) _ one.1 in
    let three = first-parts (option_map BadValue (first_fault v)) _ two.1 in
    let four = first-parts (when (not (takes kind (plain_of v))) KindMismatch) _ three.1 in
    let five = first-parts (when (nat_lt u s.bound) NotAscending) _ four.1 in
    let six = first-parts (when ((u == post_stream) && has_some s.packets) NotAlone) [] five.1 in
    let is : time_of t ≡ Some u = some-time time (when-none (not (is_some time)) BadTimestamp one.0) in
    let high : nat_lt u s.bound ≡ false = when-none (nat_lt u s.bound) NotAscending five.0 in
    let solo : ((u == post_stream) && has_some s.packets) ≡ false = when-none _ NotAlone six.0 in
    record {
      allowed = allowed-time t u is;
      above = grind arith;
      alone = λ e. none-begun s.packets (not-both (u == post_stream) (has_some s.packets) solo (eq-true u post_stream e));
    }

-- the streams of some names may have a packet at a time
abbrev pub Stand : List Placed → ℕ → List (StreamPrefix Plain) → List Named → Type 0
Stand places t ss [] = Unit {0}
Stand places t ss (v ∷ vs) = IfSome (placed (place_of places v.name) ss) (MayStand t) × Stand places t ss vs

standing-some : (o : Option (StreamPrefix Plain)) (Q : StreamPrefix Plain → Type 0) → ((s : StreamPrefix Plain) → unwrap_or (option_map standing o) no_stream ≡ standing s → Q s) → IfSome o Q
standing-some None Q h = tt
standing-some (Some s) Q h = h s refl

several-stand : (graph : GraphInputs) (n : ℕ) (given : State) (t : json.Data) (vs : List Named)
    → first_refusal (several_refusals (before graph n given) (time_of t) vs) ≡ None → Stand graph.streams (time_or_none t) given.streams vs
several-stand graph n given t [] none = tt
several-stand graph n given t (v ∷ vs) none =
    let b = before graph n given in
    let both = first-both (packet_refusals (kind_at b v.name) (standing_at b v.name) (time_of t) v.value) (several_refusals b (time_of t) vs) none in
    let place = place_of graph.streams v.name in (
      standing-some (placed place given.streams) (MayStand (time_or_none t)) (λ s is.
          may-stand (kind_at b v.name) s t v.value
          (subst (λ (x : Standing). first_refusal (packet_refusals (kind_at b v.name) x (time_of t) v.value) ≡ None)
          (ap (λ o. unwrap_or o no_stream) (placed-map place standing given.streams) ∙ is) both.0)),
      several-stand graph n given t vs both.1,
    )

-- Forms --

-- each stream that is named may have a packet at the line's time
pub packets-stand : (graph : GraphInputs) (n : ℕ) (given : State) (t : json.Data) (vs : List Named)
    → first_refusal (form_refusals (before graph n given) (packets t vs)) ≡ None → Stand graph.streams (time_or_none t) given.streams vs
packets-stand graph n given t vs none =
    let b = before graph n given in
    several-stand graph n given t vs (first-parts (when (not (list_all (λ v. is_stream b v.name) vs)) UnknownStream) (several_refusals b (time_of t) vs) none).1

-- a bound is at most Done
pub bound-low : (graph : GraphInputs) (n : ℕ) (given : State) (name : List ℕ) (t : json.Data)
    → first_refusal (form_refusals (before graph n given) (bound name t)) ≡ None → time_or_none t ≤ done
bound-low graph n given name t none =
    let b = before graph n given in
    let st = standing_at b name in
    let one = first-parts (when (not (is_stream b name)) UnknownStream) (bound_refusals st (time_of t)) none in
    let two = first-parts (when (not (is_some (time_of t))) BadTimestamp) (when (st.bound == done) Closed ∷ []) one.1 in
    bound-done t (time_or_none t) (some-time (time_of t) (when-none (not (is_some (time_of t))) BadTimestamp two.0))

-- a side packet comes before all lines that name a stream
pub side-early : (graph : GraphInputs) (n : ℕ) (given : State) (name : List ℕ) (v : json.Data)
    → first_refusal (form_refusals (before graph n given) (side name v)) ≡ None → given.named ≡ false
side-early graph n given name v none =
    let b = before graph n given in
    let later = when (is_some (side_at b name)) SideTwice ∷ option_map BadValue (first_fault v) ∷ [] in
    let one = first-parts (when (not (is_side b name)) UnknownStream) (side_refusals b.named (side_at b name) v) none in
    when-none given.named SideLate (first-parts (when given.named SideLate) later one.1).0

-- Lines --

said-keeps : (P : State → Type 0) (graph : GraphInputs) (n : ℕ) (given : State) (v : Option json.Data) → json_refusal (before graph n given) v ≡ None → P given
    → ((form : Form) → option_and_then form_of v ≡ Some form → first_refusal (form_refusals (before graph n given) form) ≡ None → P (with_form graph given form))
    → P (with_said graph given (option_and_then form_of v))
said-keeps P graph n given None none start step = start
said-keeps P graph n given (Some d) none start step = by (form_of d) none step
  where
    by : (o : Option Form) → shape_refusal (before graph n given) o ≡ None
        → ((form : Form) → o ≡ Some form → first_refusal (form_refusals (before graph n given) form) ≡ None → P (with_form graph given form)) → P (with_said graph given o)
    by None none step = start
    by (Some form) none step = step form refl none

words-keep : (P : State → Type 0) (graph : GraphInputs) (n : ℕ) (given : State) (blank : Bool) (v : Option json.Data)
    → (if blank then None else json_refusal (before graph n given) v) ≡ None → P given
    → ((form : Form) → option_and_then form_of v ≡ Some form → first_refusal (form_refusals (before graph n given) form) ≡ None → P (with_form graph given form))
    → P (if blank then given else with_said graph given (option_and_then form_of v))
words-keep P graph n given true v none start step = start
words-keep P graph n given false v none start step = said-keeps P graph n given v none start step

-- a good line is good whatever its length and number
pub good-words : (b : Before) (line : List ℕ) → line_refusal b line ≡ None → words_refusal b line ≡ None
good-words b line none =
    let few = past-if (nat_lt longest_line (length line)) TooLong (if nat_le most_lines b.lines then Some TooManyLines else words_refusal b line) none in
    past-if (nat_le most_lines b.lines) TooManyLines (words_refusal b line) few

-- a property of what is given holds after a good line, if it holds after what the line says
pub recorded-keeps : (P : State → Type 0) (graph : GraphInputs) (n : ℕ) (given : State) (line : List ℕ) → words_refusal (before graph n given) line ≡ None → P given
    → ((form : Form) → option_and_then form_of (json_value line) ≡ Some form → first_refusal (form_refusals (before graph n given) form) ≡ None → P (with_form graph given form))
    → P (with_line graph given line)
recorded-keeps P graph n given line none start step = words-keep P graph n given (list_all is_blank line) (json_value line) none start step

pub line-keeps : (P : State → Type 0) (graph : GraphInputs) (n : ℕ) (given : State) (line : List ℕ) → line_refusal (before graph n given) line ≡ None → P given
    → ((form : Form) → option_and_then form_of (json_value line) ≡ Some form → first_refusal (form_refusals (before graph n given) form) ≡ None → P (with_form graph given form))
    → P (with_line graph given line)
line-keeps P graph n given line none start step = recorded-keeps P graph n given line (good-words (before graph n given) line none) start step
