-- Lines that were good before one line could name several streams.
use Rattle.std.proofs.Common.{◌≡◌, ◌==◌, ◌&&◌, ℕ, List, [], ◌∷◌, ◌++◌, Bool, true, false, if◌then◌else◌, Option, None, Some, option_map, option_and_then, length, refl, sym, ap, ◌∙◌, subst, append-nil, append_assoc, codes}
use Rattle.std.proofs.lemmas.Grind.{fold-append}
use Rattle.std.specs.List.{list_all}
use Rattle.serde_json.specs.Data.{Data}
use Rattle.serde_json.specs.Find.{get}
use Rattle.mg_feed.specs.Graph.{GraphInputs}
use Rattle.mg_feed.specs.Form.{Form, packets, bound, close, side, is_blank, form_of, json_value, packet_form, bound_form, close_form, side_form, packets_form, either, text_at, flag_at, members_at, member_count, time_of}
use Rattle.mg_feed.specs.Accepted.{State, Before, before, fresh, first_refusal, form_refusals, shape_refusal, json_refusal, line_refusal, refusal, with_form, with_said, with_line, given_by, is_stream, packet_refusals, kind_at, standing_at}
use Rattle.mg_feed.specs.Stands.{AllGood}
use Rattle.mg_feed.specs.OldText.{OldForm, old_packet, old_bound, old_close, old_side, old_packet_form, old_bound_form, old_close_form, old_side_form, old_either, old_form_of, with_old, with_old_said, with_old_line, old_given_by, old_refusals, old_shape_refusal, old_json_refusal, old_line_refusal, old_refusal, AllGoodBefore}
use Rattle.mg_feed.specs.declared.line_fault.LineFault.{LineFault}
use Rattle.mg_feed.specs.declared.line_fault.LineFault.TheVariants.{TooLong, TooManyLines}

-- the form now
abbrev now : OldForm → Form
now (old_packet name t v) = packets t (record { name = name; value = v } ∷ [])
now (old_bound name t) = bound name t
now (old_close name) = close name
now (old_side name v) = side name v

packet-now : (a : Option (List ℕ)) (b c : Option Data) → packet_form a b c ≡ option_map now (old_packet_form a b c)
packet-now None b c = refl
packet-now (Some name) None c = refl
packet-now (Some name) (Some t) None = refl
packet-now (Some name) (Some t) (Some v) = refl

bound-now : (a : Option (List ℕ)) (b : Option Data) → bound_form a b ≡ option_map now (old_bound_form a b)
bound-now None b = refl
bound-now (Some name) None = refl
bound-now (Some name) (Some t) = refl

close-now : (a : Option (List ℕ)) (b : Option Bool) → close_form a b ≡ option_map now (old_close_form a b)
close-now None b = refl
close-now (Some name) None = refl
close-now (Some name) (Some true) = refl
close-now (Some name) (Some false) = refl

side-now : (a : Option (List ℕ)) (b : Option Data) → side_form a b ≡ option_map now (old_side_form a b)
side-now None b = refl
side-now (Some name) None = refl
side-now (Some name) (Some t) = refl

either-now : (x y z : Option OldForm) (p : Option Form) (f : OldForm) → old_either x (old_either y z) ≡ Some f
    → either (option_map now x) (either (option_map now y) (either (option_map now z) p)) ≡ Some (now f)
either-now (Some g) y z p f is = ap (option_map now) is
either-now None (Some g) z p f is = ap (option_map now) is
either-now None None (Some g) p f is = ap (option_map now) is
either-now None None None p f is = cc

-- a value of an old form has it now
by-counts : (three two : Bool) (x a b c : Option OldForm) (p : Option Form) (f : OldForm)
    → (if three then x else (if two then old_either a (old_either b c) else None)) ≡ Some f
    → (if three then option_map now x else (if two then either (option_map now a) (either (option_map now b) (either (option_map now c) p)) else None)) ≡ Some (now f)
by-counts true two x a b c p f is = ap (option_map now) is
by-counts false true x a b c p f is = either-now a b c p f is
by-counts false false x a b c p f is = cc

form-now : (d : Data) (f : OldForm) → old_form_of d ≡ Some f → form_of d ≡ Some (now f)
form-now d f is =
    rw (packet-now, bound-now, close-now, side-now)
    (by-counts (member_count d == 3) (member_count d == 2)
    (old_packet_form (text_at (codes "stream") d) (get (codes "ts") d) (get (codes "value") d))
    (old_bound_form (text_at (codes "stream") d) (get (codes "bound") d))
    (old_close_form (text_at (codes "stream") d) (flag_at (codes "close") d))
    (old_side_form (text_at (codes "side") d) (get (codes "value") d))
    (packets_form (get (codes "at") d) (members_at (codes "packets") d)) f is)

with-now : (graph : GraphInputs) (given : State) (f : OldForm) → with_form graph given (now f) ≡ with_old graph given f
with-now graph given (old_packet name t v) = refl
with-now graph given (old_bound name t) = refl
with-now graph given (old_close name) = refl
with-now graph given (old_side name v) = refl

known-one : (b : Bool) → (b && true) ≡ b
known-one true = refl
known-one false = refl

refusals-now : (b : Before) (f : OldForm) → first_refusal (form_refusals b (now f)) ≡ first_refusal (old_refusals b f)
refusals-now b (old_packet name t v) =
    rw (known-one (is_stream b name), append-nil (packet_refusals (kind_at b name) (standing_at b name) (time_of t) v)) refl
refusals-now b (old_bound name t) = refl
refusals-now b (old_close name) = refl
refusals-now b (old_side name v) = refl

-- what a line says that was good
pub record SaysSame (b : Before) (graph : GraphInputs) (given : State) (refused : Option LineFault) (now_given old : State) : Type 0 where
  pub good : refused ≡ None
  pub same : now_given ≡ old

shape-by : (b : Before) (graph : GraphInputs) (given : State) (d : Data) (o : Option OldForm) → old_form_of d ≡ o → old_shape_refusal b o ≡ None
    → SaysSame b graph given (shape_refusal b (form_of d)) (with_said graph given (form_of d)) (with_old_said graph given o)
shape-by b graph given d None is good = cc
shape-by b graph given d (Some f) is good = rw (form-now d f is) (record { good = refusals-now b f ∙ good; same = with-now graph given f })

json-by : (b : Before) (graph : GraphInputs) (given : State) (j : Option Data) → old_json_refusal b j ≡ None
    → SaysSame b graph given (json_refusal b j) (with_said graph given (option_and_then form_of j)) (with_old_said graph given (option_and_then old_form_of j))
json-by b graph given None good = cc
json-by b graph given (Some d) good = shape-by b graph given d (old_form_of d) refl good

line-by : (b : Before) (graph : GraphInputs) (given : State) (long many blank : Bool) (j : Option Data)
    → (if long then Some TooLong else (if many then Some TooManyLines else (if blank then None else old_json_refusal b j))) ≡ None
    → SaysSame b graph given (if long then Some TooLong else (if many then Some TooManyLines else (if blank then None else json_refusal b j)))
    (if blank then given else with_said graph given (option_and_then form_of j)) (if blank then given else with_old_said graph given (option_and_then old_form_of j))
line-by b graph given true many blank j good = cc
line-by b graph given false true blank j good = cc
line-by b graph given false false true j good = record { good = refl; same = refl }
line-by b graph given false false false j good = json-by b graph given j good

line-now : (b : Before) (graph : GraphInputs) (given : State) (line : List ℕ) → old_line_refusal b line ≡ None
    → SaysSame b graph given (line_refusal b line) (with_line graph given line) (with_old_line graph given line)
line-now b graph given line good = line-by b graph given _ _ (list_all is_blank line) (json_value line) good

given-more : (graph : GraphInputs) (xs : List (List ℕ)) (line : List ℕ) → given_by graph (xs ++ line ∷ []) ≡ with_line graph (given_by graph xs) line
given-more graph xs line = fold-append (λ given l. with_line graph given l) (fresh graph) xs (line ∷ [])

old-more : (graph : GraphInputs) (xs : List (List ℕ)) (line : List ℕ) → old_given_by graph (xs ++ line ∷ []) ≡ with_old_line graph (old_given_by graph xs) line
old-more graph xs line = fold-append (λ given l. with_old_line graph given l) (fresh graph) xs (line ∷ [])

one-line : (graph : GraphInputs) (xs : List (List ℕ)) (line : List ℕ) → given_by graph xs ≡ old_given_by graph xs → old_refusal graph xs line ≡ None
    → (refusal graph xs line ≡ None) × (given_by graph (xs ++ line ∷ []) ≡ old_given_by graph (xs ++ line ∷ []))
one-line graph xs line same good =
    let says = line-now (before graph (length xs) (old_given_by graph xs)) graph (old_given_by graph xs) line good in (
      ap (λ (g : State). line_refusal (before graph (length xs) g) line) same ∙ says.good,
      given-more graph xs line ∙ ap (λ (g : State). with_line graph g line) same ∙ says.same ∙ sym (old-more graph xs line),
    )

pub lines-good : (graph : GraphInputs) (xs lines : List (List ℕ)) → given_by graph xs ≡ old_given_by graph xs → AllGoodBefore graph xs lines → AllGood graph xs lines
lines-good graph xs [] same good = tt
lines-good graph xs (line ∷ lines) same good =
    let one = one-line graph xs line same good.0 in (one.0, lines-good graph (xs ++ line ∷ []) lines one.1 good.1)

pub lines-same : (graph : GraphInputs) (xs lines : List (List ℕ)) → given_by graph xs ≡ old_given_by graph xs → AllGoodBefore graph xs lines
    → given_by graph (xs ++ lines) ≡ old_given_by graph (xs ++ lines)
lines-same graph xs [] same good = rw append-nil same
lines-same graph xs (line ∷ lines) same good =
    let one = one-line graph xs line same good.0 in
    subst (λ (l : List (List ℕ)). given_by graph l ≡ old_given_by graph l) (append_assoc xs (line ∷ []) lines) (lines-same graph (xs ++ line ∷ []) lines one.1 good.1)
