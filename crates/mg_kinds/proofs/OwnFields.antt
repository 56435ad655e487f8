-- The fields of a calculator's own options messages.
use Rattle.std.proofs.Common.{ℕ, ◌+◌, ◌<◌, ◌≤◌, ◌≡◌, List, ◌++◌, Bool, true, false, Option, None, Some, length, drop, get_or, map, refl, sym, ap, ◌∙◌, if◌then◌else◌, append_assoc, append-nil}
use Rattle.std.specs.Prelude.{option_map, option_and_then}
use Rattle.mg_text.specs.declared.tree.Field.{Field}
use Rattle.mg_text.specs.declared.tree.Tree.{Tree}
use Rattle.mg_text.specs.declared.tree.TreeValue.TheVariants.{Message}
use Rattle.mg_text.specs.View.{Value, Entry, field_view, value_view, view, fields_view}
use Rattle.mg_text.proofs.Views.{field-record, value-message}
use Rattle.mg_config.specs.Values.{entries}
use Rattle.mg_config.proofs.Loops.{entries_view}
use Rattle.mg_kinds.specs.Options.{is_own, own_fields, fields_inside, calculator_options}
use Rattle.mg_kinds.proofs.Lists.{left, none_left}

own_by : (calculator name : List ℕ) (value : Value) (t : Bool) → is_own calculator name ≡ t → own_fields calculator (record { name = name; value = value }) ≡ (if t then fields_inside value else None)
own_by calculator name value true h = rw h refl
own_by calculator name value false h = rw h refl

-- a message of the calculator's own
pub own_message : (calculator : List ℕ) (f : Field) (tree : Tree) (slice : List Field) → is_own calculator f.name ≡ true → f.value ≡ Message tree → fields_view slice ≡ view tree
    → Some (map field_view slice) ≡ own_fields calculator (field_view f)
own_message calculator f tree slice own is same =
    sym (ap (own_fields calculator) (field-record f)
    ∙ (own_by calculator f.name (value_view f.value) true own
    ∙ (ap (λ v. fields_inside (value_view v)) is ∙ (ap fields_inside (value-message tree)
    ∙ (sym (ap (λ fs. Some (entries fs)) same) ∙ ap Some (entries_view slice))))))

pub other_name : (calculator : List ℕ) (f : Field) → is_own calculator f.name ≡ false → None ≡ own_fields calculator (field_view f)
other_name calculator f other = sym (ap (own_fields calculator) (field-record f) ∙ own_by calculator f.name (value_view f.value) false other)

-- options put after those so far
put_more : (a b : List Entry) (rest : Option (List Entry)) → option_map (λ more. a ++ more) (option_map (λ more. b ++ more) rest) ≡ option_map (λ more. (a ++ b) ++ more) rest
put_more a b None = refl
put_more a b (Some more) = ap Some (sym (append_assoc a b more))

pub options_step : (calculator : List ℕ) (fs : List Field) (i : ℕ) (d : Field) (own : List Field) (before after : List Entry) (all : Option (List Entry)) → i < length fs → d ≡ get_or fs i d
    → Some (map field_view own) ≡ own_fields calculator (field_view d) → after ≡ before ++ map field_view own
    → all ≡ option_map (λ more. before ++ more) (calculator_options calculator (map field_view (drop i fs)))
    → all ≡ option_map (λ more. after ++ more) (calculator_options calculator (map field_view (drop (i + 1) fs)))
options_step calculator fs i d own before after all inside same mine put known =
    let rest = calculator_options calculator (map field_view (drop (i + 1) fs)) in
    known ∙ (ap (λ l. option_map (λ more. before ++ more) (calculator_options calculator l)) (left field_view fs i d inside same)
    ∙ (ap (λ o. option_map (λ more. before ++ more) (option_and_then (λ mine. option_map (λ more. mine ++ more) rest) o)) (sym mine)
    ∙ (put_more before (map field_view own) rest ∙ ap (λ l. option_map (λ more. l ++ more) rest) (sym put))))

pub options_other : (calculator : List ℕ) (fs : List Field) (i : ℕ) (d : Field) (before : List Entry) (all : Option (List Entry)) → i < length fs → d ≡ get_or fs i d
    → None ≡ own_fields calculator (field_view d)
    → all ≡ option_map (λ more. before ++ more) (calculator_options calculator (map field_view (drop i fs))) → None ≡ all
options_other calculator fs i d before all inside same other known =
    let rest = calculator_options calculator (map field_view (drop (i + 1) fs)) in
    sym (known ∙ (ap (λ l. option_map (λ more. before ++ more) (calculator_options calculator l)) (left field_view fs i d inside same)
    ∙ ap (λ o. option_map (λ more. before ++ more) (option_and_then (λ mine. option_map (λ more. mine ++ more) rest) o)) (sym other)))

pub options_end : (calculator : List ℕ) (fs : List Field) (i : ℕ) (before : List Entry) (all : Option (List Entry)) → length fs ≤ i
    → all ≡ option_map (λ more. before ++ more) (calculator_options calculator (map field_view (drop i fs))) → Some before ≡ all
options_end calculator fs i before all past known =
    sym (known ∙ (ap (λ l. option_map (λ more. before ++ more) (calculator_options calculator l)) (none_left field_view fs i past) ∙ ap Some (append-nil before)))
