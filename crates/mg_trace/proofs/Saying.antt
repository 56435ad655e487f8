-- What the canonical lines of a stream give, one after the other.
use Rattle.std.proofs.Common.{◌≡◌, ◌≢◌, ◌<◌, ◌≤◌, ◌^◌, ◌==◌, ℕ, suc, ℤ, pos, negsuc, max, List, [], ◌∷◌, ◌++◌, Bool, true, false, Some, option_and_then, unwrap_or, map, fold, length, IsUtf8, codes, nat_le, nat_lt, inl, inr, refl, sym, subst, ap, ap₂, ◌∙◌, arith, rules, FitsSigned, append_assoc, append-nil, All}
use Rattle.std.specs.Int.{w64}
use Rattle.std.proofs.lemmas.Int.{ints}
use Rattle.std.proofs.lemmas.Bool.{cases_eq, cases_Bool, eqb-true}
use Rattle.json.proofs.Printed.Utf8.{are_ascii, IsUtf8-are_ascii}
use Rattle.serde_json.specs.Data.{Data, string, number, boolean, object, member, no_members}
use Rattle.serde_json.specs.Data as serde
use Rattle.serde_json.specs.Find.{of_integer, as_i64}
use Rattle.serde_json.specs.Written.{compact_text}
use Rattle.mg_time.specs.Time.{raw_of, place_of as place_at, pre_stream, post_stream, done, least, greatest, IsAllowed}
use Rattle.mg_value.specs.Payload.{Plain}
use Rattle.mg_value.specs.Plain.{depth, items_depth, entries_depth, flag, int, text, items, entries, Items, no_items, item, Entries, no_entries, entry}
use Rattle.mg_value.specs.Packet.{Stamped}
use Rattle.mg_json.specs.Json.{json_of, json_items, json_members}
use Rattle.mg_settled.specs.Prefix.{StreamPrefix, IsPrefix, Ascends, first_time, empty_prefix, appended, all_appended, raised, closed}
use Rattle.mg_feed.specs.Graph.{GraphInputs, place_of}
use Rattle.mg_feed.specs.Form.{form_of, time_of}
use Rattle.mg_feed.specs.Value.{plain_of}
use Rattle.mg_feed.specs.Output.{time_data, packet_data}
use Rattle.mg_feed.specs.Accepted.{State, with_said, with_line, time_or_none, stepped, stepped_at}
use Rattle.mg_feed.proofs.Values.{plain_of-json}
use Rattle.mg_trace.specs.Readable.{IsReadable}
use Rattle.mg_trace.specs.Job.{side_data, bound_data, close_data, bound_after, end_lines, stream_lines}
use Rattle.mg_trace.specs.Told.{IsTellable, IsToldBound, IsToldStream}
use Rattle.mg_trace.proofs.ReadBack.{value_back}

-- Times --

number_fits : (t : ℕ) → t < 2 ^ 64 → FitsSigned w64 (raw_of t)
number_fits t fits = search (rules, ints)

place_back : (t : ℕ) → t < 2 ^ 64 → place_at (raw_of t) ≡ t
place_back t fits = search (rules, ints)

whole_back : (z : ℤ) → FitsSigned w64 z → as_i64 (of_integer z) ≡ Some z
whole_back (pos n) fits = let within : n < 2 ^ 63 = fits.sfits in let small : nat_lt n (2 ^ 63) ≡ true = grind arith in rw small refl
whole_back (negsuc n) fits = refl

numbered_back : (z : ℤ) (t : ℕ) → as_i64 (of_integer z) ≡ Some z → place_at z ≡ t → least ≤ t → t ≤ greatest → time_of (number (of_integer z)) ≡ Some t
numbered_back z t whole place above below =
    let a : nat_le least t ≡ true = grind arith in
    let b : nat_le t greatest ≡ true = grind arith in
    rw (whole, place, a, b) refl

number_back : (t : ℕ) → pre_stream < t → t < post_stream → time_of (number (of_integer (raw_of t))) ≡ Some t
number_back t above below =
    numbered_back (raw_of t) t (whole_back (raw_of t) (number_fits t (omega arith))) (place_back t (omega arith)) (omega arith) (omega arith)

number_is_readable : (z : ℤ) → FitsSigned w64 z → IsReadable (number (of_integer z))
number_is_readable (pos n) fits = let within : n < 2 ^ 63 = fits.sfits in omega arith
number_is_readable (negsuc n) fits = let within : n < 2 ^ 63 = fits.sfits in within

pub time_back : (t : ℕ) → IsAllowed t → time_of (time_data t) ≡ Some t
time_back t allowed = elim (cases_eq t pre_stream) [
  | inl first ↦ rw first refl
  | inr other ↦ elim (cases_eq t post_stream) [
    | inl last ↦ rw last refl
    | inr between ↦ middle t other between (number_back t (omega (arith, other, allowed.0)) (omega (arith, between, allowed.1)))
  ]
]
  where
    middle : (t : ℕ) → t ≢ pre_stream → t ≢ post_stream → time_of (number (of_integer (raw_of t))) ≡ Some t → time_of (time_data t) ≡ Some t
    middle t a b e =
        let first_no : (t == pre_stream) ≡ false = grind arith in
        let none : (t == post_stream) ≡ false = grind arith in
        rw (first_no, none) e

-- One line --

-- what is given with what a JSON value says
abbrev pub with_data : GraphInputs → State → Data → State
with_data graph given d = with_said graph given (form_of d)

-- a value whose line says it
pub record IsLineOf (d : Data) : Type 0 where
  pub members : serde.Members
  pub an_object : d ≡ object members
  pub readable : IsReadable d
  pub shallow : serde.depth d ≤ 127

object_is_data : (graph : GraphInputs) (given : State) (ms : serde.Members) → IsReadable (object ms) → serde.depth (object ms) ≤ 127
    → with_line graph given (compact_text (object ms)) ≡ with_data graph given (object ms)
object_is_data graph given ms readable shallow = ap (λ o. with_said graph given (option_and_then form_of o)) (value_back (object ms) readable shallow)

pub line_is_data : (graph : GraphInputs) (given : State) (d : Data) → IsLineOf d → with_line graph given (compact_text d) ≡ with_data graph given d
line_is_data graph given d is =
    subst (λ e. with_line graph given (compact_text e) ≡ with_data graph given e) (sym is.an_object)
    (object_is_data graph given is.members (subst IsReadable is.an_object is.readable) (omega (arith, is.shallow, ap serde.depth is.an_object)))

-- all of them
abbrev pub AreLines : List Data → Type 0
AreLines [] = Unit {0}
AreLines (d ∷ ds) = IsLineOf d × AreLines ds

pub lines_are_data : (graph : GraphInputs) (given : State) (ds : List Data) → AreLines ds
    → fold (λ given line. with_line graph given line) given (map compact_text ds) ≡ fold (with_data graph) given ds
lines_are_data graph given [] is = refl
lines_are_data graph given (d ∷ ds) is =
    ap (λ g. fold (λ given line. with_line graph given line) g (map compact_text ds)) (line_is_data graph given d is.0)
    ∙ lines_are_data graph (with_data graph given d) ds is.1

pub AreLines-append : (ds es : List Data) → AreLines ds → AreLines es → AreLines (ds ++ es)
AreLines-append [] es a b = b
AreLines-append (d ∷ ds) es a b = (a.0, AreLines-append ds es a.1 b)

pub fold-append : (graph : GraphInputs) (given : State) (ds es : List Data) → fold (with_data graph) given (ds ++ es) ≡ fold (with_data graph) (fold (with_data graph) given ds) es
fold-append graph given [] es = refl
fold-append graph given (d ∷ ds) es = fold-append graph (with_data graph given d) ds es

mutual
  json_depth : (p : Plain) → serde.depth (json_of p) ≡ depth p
  json_depth (flag b) = refl
  json_depth (int n) = refl
  json_depth (text s) = refl
  json_depth (items is) = ap suc (json_items_depth is)
  json_depth (entries es) = ap suc (json_members_depth es)

  json_items_depth : (is : Items) → serde.items_depth (json_items is) ≡ items_depth is
  json_items_depth no_items = refl
  json_items_depth (item p ps) = ap₂ max (json_depth p) (json_items_depth ps)

  json_members_depth : (es : Entries) → serde.members_depth (json_members es) ≡ entries_depth es
  json_members_depth no_entries = refl
  json_members_depth (entry k p es) = ap₂ max (json_depth p) (json_members_depth es)

-- Each line is one of a readable value --

time_is_readable : (t : ℕ) → t < 2 ^ 64 → IsReadable (time_data t)
time_is_readable t fits = elim (cases_eq t pre_stream) [
  | inl first ↦ rw first (IsUtf8-are_ascii (codes "PreStream") refl)
  | inr other ↦ elim (cases_eq t post_stream) [
    | inl last ↦ rw last (IsUtf8-are_ascii (codes "PostStream") refl)
    | inr between ↦ (
        let first_no : (t == pre_stream) ≡ false = grind arith in
        let none : (t == post_stream) ≡ false = grind arith in
        rw (first_no, none) (number_is_readable (raw_of t) (number_fits t fits)))
  ]
]

time_is_flat : (t : ℕ) → serde.depth (time_data t) ≡ 0
time_is_flat t = elim (cases_eq t pre_stream) [
  | inl first ↦ rw first refl
  | inr other ↦ elim (cases_eq t post_stream) [
    | inl last ↦ rw last refl
    | inr between ↦ (
        let first_no : (t == pre_stream) ≡ false = grind arith in
        let none : (t == post_stream) ≡ false = grind arith in
        rw (first_no, none) refl)
  ]
]

key : (k : List ℕ) → are_ascii k ≡ true → IsUtf8 k
key k e = IsUtf8-are_ascii k e

pub packet_is_line : (name : List ℕ) (p : Stamped Plain) → IsUtf8 name → IsAllowed p.at → IsTellable p.value → IsLineOf (packet_data name p)
packet_is_line name p utf8 allowed told = record {
  members = member (codes "stream") (string name) (member (codes "ts") (time_data p.at) (member (codes "value") (json_of p.value) no_members));
  an_object = refl;
  readable = (
    key (codes "stream") refl,
    utf8,
    (refl, (refl, tt)),
    (key (codes "ts") refl, time_is_readable p.at (omega (arith, allowed.1)), (refl, tt), (key (codes "value") refl, told.readable, tt, tt)),
  );
  shallow = omega (arith, time_is_flat p.at, json_depth p.value, told.shallow);
}

pub side_is_line : (name : List ℕ) (value : Plain) → IsUtf8 name → IsTellable value → IsLineOf (side_data name value)
side_is_line name value utf8 told = record {
  members = member (codes "side") (string name) (member (codes "value") (json_of value) no_members);
  an_object = refl;
  readable = (key (codes "side") refl, utf8, (refl, tt), (key (codes "value") refl, told.readable, tt, tt));
  shallow = omega (arith, json_depth value, told.shallow);
}

pub bound_is_line : (name : List ℕ) (t : ℕ) → IsUtf8 name → t < 2 ^ 64 → IsLineOf (bound_data name t)
bound_is_line name t utf8 fits = record {
  members = member (codes "bound") (time_data t) (member (codes "stream") (string name) no_members);
  an_object = refl;
  readable = (key (codes "bound") refl, time_is_readable t fits, (refl, tt), (key (codes "stream") refl, utf8, tt, tt));
  shallow = omega (arith, time_is_flat t);
}

pub close_is_line : (name : List ℕ) → IsUtf8 name → IsLineOf (close_data name)
close_is_line name utf8 = record {
  members = member (codes "close") (boolean true) (member (codes "stream") (string name) no_members);
  an_object = refl;
  readable = (key (codes "close") refl, tt, (refl, tt), (key (codes "stream") refl, utf8, tt, tt));
  shallow = omega arith;
}

packets_are_lines : (name : List ℕ) (ps : List (Stamped Plain)) → IsUtf8 name → All (λ p. IsAllowed p.at) ps → All (λ p. IsTellable p.value) ps → AreLines (map (packet_data name) ps)
packets_are_lines name [] utf8 allowed told = tt
packets_are_lines name (p ∷ ps) utf8 allowed told = (
  packet_is_line name p utf8 (allowed 0 p (omega arith)) (told 0 p (omega arith)),
  packets_are_lines name ps utf8 (λ k d lt. allowed (suc k) d (omega arith)) (λ k d lt. told (suc k) d (omega arith)),
)

end_is_line : (name : List ℕ) (s : StreamPrefix Plain) → IsUtf8 name → s.bound ≤ done → AreLines (end_lines name s)
end_is_line name s utf8 within = elim (cases_Bool (s.bound == done)) [
  | inl here ↦ rw here (close_is_line name utf8, tt)
  | inr open_still ↦ elim (cases_Bool (s.bound == bound_after s.packets)) [
    | inl same ↦ rw (open_still, same) tt
    | inr other ↦ rw (open_still, other) (bound_is_line name s.bound utf8 (omega (arith, within)), tt)
  ]
]

pub stream_is_lines : (ended : Bool) (name : List ℕ) (s : StreamPrefix Plain) → IsUtf8 name → IsToldStream ended s → AreLines (stream_lines ended name s)
stream_is_lines true name s utf8 told = AreLines-append (map (packet_data name) s.packets) [] (packets_are_lines name s.packets utf8 told.prefix.allowed told.values) tt
stream_is_lines false name s utf8 told =
    AreLines-append (map (packet_data name) s.packets) (end_lines name s) (packets_are_lines name s.packets utf8 told.prefix.allowed told.values) (end_is_line name s utf8 told.prefix.within)

-- What the lines of a stream give --

-- the lines give these streams, and no side packet
pub record Says (graph : GraphInputs) (given : State) (ds : List Data) (streams : List (StreamPrefix Plain)) : Type 0 where
  pub are : (fold (with_data graph) given ds).streams ≡ streams
  pub stay : (fold (with_data graph) given ds).sides ≡ given.sides

says_nothing : (graph : GraphInputs) (given : State) (ss : List (StreamPrefix Plain)) → given.streams ≡ ss → Says graph given [] ss
says_nothing graph given ss e = record { are = e; stay = refl }

pub says_both : (graph : GraphInputs) (given : State) (ds es : List Data) (ss more : List (StreamPrefix Plain)) → Says graph given ds ss
    → ((next : State) → next.streams ≡ ss → Says graph next es more) → Says graph given (ds ++ es) more
says_both graph given ds es ss more first go_on =
    let next = fold (with_data graph) given ds in
    let later = go_on next first.are in
    record {
      are = ap (λ g. g.streams) (fold-append graph given ds es) ∙ later.are;
      stay = ap (λ g. g.sides) (fold-append graph given ds es) ∙ later.stay ∙ first.stay;
    }

stepped_there : (first rest : List (StreamPrefix Plain)) (s : StreamPrefix Plain) (step : StreamPrefix Plain → StreamPrefix Plain)
    → stepped (length first) step (first ++ s ∷ rest) ≡ first ++ step s ∷ rest
stepped_there [] rest s step = refl
stepped_there (t ∷ first) rest s step = ap (λ l. t ∷ l) (stepped_there first rest s step)

-- a step of the stream of a name
at_place : (graph : GraphInputs) (given : State) (name : List ℕ) (first rest : List (StreamPrefix Plain)) (s : StreamPrefix Plain) (step : StreamPrefix Plain → StreamPrefix Plain)
    → place_of graph.streams name ≡ Some (length first) → given.streams ≡ first ++ s ∷ rest
    → stepped_at (place_of graph.streams name) step given.streams ≡ first ++ step s ∷ rest
at_place graph given name first rest s step place is =
    ap (λ o. stepped_at o step given.streams) place ∙ ap (stepped (length first) step) is ∙ stepped_there first rest s step

time_or : (t : ℕ) → IsAllowed t → time_or_none (time_data t) ≡ t
time_or t allowed = ap (λ o. unwrap_or o 0) (time_back t allowed)

pub packet_says : (graph : GraphInputs) (given : State) (name : List ℕ) (first rest : List (StreamPrefix Plain)) (s : StreamPrefix Plain) (p : Stamped Plain)
    → place_of graph.streams name ≡ Some (length first) → given.streams ≡ first ++ s ∷ rest → IsAllowed p.at
    → Says graph given (packet_data name p ∷ []) (first ++ appended s p ∷ rest)
packet_says graph given name first rest s p place is allowed =
    let same : record { at = time_or_none (time_data p.at); value = plain_of (json_of p.value) } ≡ p = λ i. record { at = time_or p.at allowed i; value = plain_of-json p.value i } in
    record {
      are = at_place graph given name first rest s (λ s. appended s (record { at = time_or_none (time_data p.at); value = plain_of (json_of p.value) })) place is
          ∙ ap (λ q. first ++ appended s q ∷ rest) same;
      stay = refl;
    }

pub packets_say : (graph : GraphInputs) (given : State) (name : List ℕ) (first rest : List (StreamPrefix Plain)) (s : StreamPrefix Plain) (ps : List (Stamped Plain))
    → place_of graph.streams name ≡ Some (length first) → given.streams ≡ first ++ s ∷ rest → All (λ p. IsAllowed p.at) ps
    → Says graph given (map (packet_data name) ps) (first ++ all_appended s ps ∷ rest)
packets_say graph given name first rest s [] place is allowed = says_nothing graph given _ is
packets_say graph given name first rest s (p ∷ ps) place is allowed =
    says_both graph given (packet_data name p ∷ []) (map (packet_data name) ps) _ _
    (packet_says graph given name first rest s p place is (allowed 0 p (omega arith)))
    (λ next e. packets_say graph next name first rest (appended s p) ps place e (λ k d lt. allowed (suc k) d (omega arith)))

-- the prefix of packets alone
abbrev pub of_packets : List (Stamped Plain) → StreamPrefix Plain
of_packets ps = record { packets = ps; bound = bound_after ps }

appended_behind : (s : StreamPrefix Plain) (ps : List (Stamped Plain)) → (all_appended s ps).packets ≡ s.packets ++ ps
appended_behind s [] = sym (append-nil s.packets)
appended_behind s (p ∷ ps) = appended_behind (appended s p) ps ∙ append_assoc s.packets (p ∷ []) ps

pub appended_are : (ps : List (Stamped Plain)) → all_appended empty_prefix ps ≡ of_packets ps
appended_are ps = λ i. record { packets = appended_behind empty_prefix ps i; bound = bound_after ps }

bound_within : (s : StreamPrefix Plain) (ps : List (Stamped Plain)) (b : ℕ) → Ascends ps b → s.bound ≤ first_time ps b → (all_appended s ps).bound ≤ b
bound_within s [] b up low = low
bound_within s (p ∷ ps) b up low = bound_within (appended s p) ps b up.1 up.0

left_below : (s : StreamPrefix Plain) → IsPrefix s → bound_after s.packets ≤ s.bound
left_below s is = bound_within empty_prefix s.packets s.bound is.ascends (first_above s.packets is.allowed)
  where
    first_above : (ps : List (Stamped Plain)) → All (λ p. IsAllowed p.at) ps → pre_stream ≤ first_time ps s.bound
    first_above [] allowed = is.opened
    first_above (p ∷ ps) allowed = (allowed 0 p (omega arith)).0

end_says : (graph : GraphInputs) (given : State) (name : List ℕ) (first rest : List (StreamPrefix Plain)) (s : StreamPrefix Plain)
    → place_of graph.streams name ≡ Some (length first) → given.streams ≡ first ++ of_packets s.packets ∷ rest → IsPrefix s → IsToldBound s
    → Says graph given (end_lines name s) (first ++ s ∷ rest)
end_says graph given name first rest s place is prefix told = elim (cases_Bool (s.bound == done)) [
  | inl here ↦ (let ends = eqb-true s.bound done here in rw here (record {
    are = at_place graph given name first rest (of_packets s.packets) closed place is ∙ ap (λ (b : ℕ). first ++ record { packets = s.packets; bound = b } ∷ rest) (sym ends);
    stay = refl;
  }))
  | inr open_still ↦ elim (cases_Bool (s.bound == bound_after s.packets)) [
    | inl same ↦ rw (open_still, same) (says_nothing graph given _ (is ∙ ap (λ (b : ℕ). first ++ record { packets = s.packets; bound = b } ∷ rest) (sym (eqb-true s.bound (bound_after s.packets) same))))
    | inr other ↦ rw (open_still, other) (record {
      are = at_place graph given name first rest (of_packets s.packets) (λ p. raised p (time_or_none (time_data s.bound))) place is
          ∙ ap (λ (b : ℕ). first ++ record { packets = s.packets; bound = b } ∷ rest) (greater (time_or s.bound (allowed told open_still other)));
      stay = refl;
    })
  ]
]
  where
    allowed : IsToldBound s → (s.bound == done) ≡ false → (s.bound == bound_after s.packets) ≡ false → IsAllowed s.bound
    allowed (inl e) above other = absurd (grind (arith, e, above))
    allowed (inr (inl e)) above other = absurd (grind (arith, e, other))
    allowed (inr (inr h)) above other = h

    greater : time_or_none (time_data s.bound) ≡ s.bound → max (bound_after s.packets) (time_or_none (time_data s.bound)) ≡ s.bound
    greater e = rw e (let low = left_below s prefix in omega (arith, low))

-- what the lines of a stream give: if the input ended well, its packets alone
abbrev pub left_of : Bool → StreamPrefix Plain → StreamPrefix Plain
left_of true s = of_packets s.packets
left_of false s = s

pub stream_says : (graph : GraphInputs) (given : State) (ended : Bool) (name : List ℕ) (first rest : List (StreamPrefix Plain)) (s : StreamPrefix Plain)
    → place_of graph.streams name ≡ Some (length first) → given.streams ≡ first ++ empty_prefix ∷ rest → IsToldStream ended s
    → Says graph given (stream_lines ended name s) (first ++ left_of ended s ∷ rest)
stream_says graph given true name first rest s place is told =
    says_both graph given (map (packet_data name) s.packets) [] _ _ (packets_say graph given name first rest empty_prefix s.packets place is told.prefix.allowed)
    (λ next e. says_nothing graph next _ (e ∙ ap (λ q. first ++ q ∷ rest) (appended_are s.packets)))
stream_says graph given false name first rest s place is told =
    says_both graph given (map (packet_data name) s.packets) (end_lines name s) _ _ (packets_say graph given name first rest empty_prefix s.packets place is told.prefix.allowed)
    (λ next e. end_says graph next name first rest s place (e ∙ ap (λ q. first ++ q ∷ rest) (appended_are s.packets)) told.prefix told.bound)
