-- Options, one field after another.
use Rattle.std.proofs.Common.{ℕ, ◌+◌, ◌<◌, ◌≤◌, ◌≡◌, List, [], ◌∷◌, ◌++◌, Bool, true, false, length, drop, get_or, map, refl, sym, ap, subst, ◌∙◌}
use Rattle.std.specs.List.{list_any}
use Rattle.std.proofs.lemmas.Bool.{or_parts}
use Rattle.mg_text.specs.Tree.{Fields, none, append}
use Rattle.mg_text.specs.declared.tree.Field.{Field}
use Rattle.mg_text.specs.declared.tree.Tree.{Tree}
use Rattle.mg_text.specs.declared.tree.TreeValue as values
use Rattle.mg_text.specs.View.{Entry, put, fields_of, field_view, value_view, fields_view, view}
use Rattle.mg_text.proofs.Views.{put-append, field-record, value-message}
use Rattle.mg_text.proofs.Appending.{append_none, append_fields_assoc}
use Rattle.mg_config.specs.Values.{fields_of_value}
use Rattle.mg_config.specs.Config.{is_option, options_in}
use Rattle.mg_config.proofs.Lists.{rest_of, none_after}

pub fields_of-append : (a b : List Entry) → fields_of (a ++ b) ≡ append (fields_of a) (fields_of b)
fields_of-append [] b = refl
fields_of-append (e ∷ a) b = ap (put e.name e.value) (fields_of-append a b) ∙ sym (put-append e.name e.value (fields_of a) (fields_of b))

-- the options so far, and those that are left
pub record AreJoined (fs : List Field) (i : ℕ) (options : Fields) : Type 0 where
  pub whole : options_in (map field_view fs) ≡ append options (options_in (map field_view (drop i fs)))

options_cons : (e : Entry) (es : List Entry) (t : Bool) → is_option e ≡ t → options_in (e ∷ es) ≡ append (elim t as (λ _. Fields) [ true ↦ fields_of_value e.value | false ↦ none ]) (options_in es)
options_cons e es true h = rw h refl
options_cons e es false h = rw h refl

pub joined_more : (fs : List Field) (i : ℕ) (d : Field) (options more : Fields) → i < length fs → d ≡ get_or fs i d → is_option (field_view d) ≡ true → AreJoined fs i options
    → more ≡ fields_of_value (value_view d.value) → AreJoined fs (i + 1) (append options more)
joined_more fs i d options more inside same here at is =
    let later = options_in (map field_view (drop (i + 1) fs)) in
    record {
      whole = at.whole ∙ ap (λ es. append options (options_in es)) (rest_of fs i d inside ∙ ap (λ f. field_view f ∷ map field_view (drop (i + 1) fs)) (sym same))
          ∙ ap (append options) (options_cons (field_view d) (map field_view (drop (i + 1) fs)) true here)
          ∙ ap (λ v. append options (append (fields_of_value v) later)) (ap (λ e. e.value) (field-record d))
          ∙ ap (λ f. append options (append f later)) (sym is)
          ∙ sym (append_fields_assoc options more later);
    }

pub joined_all : (fs : List Field) (i : ℕ) (options : Fields) → length fs ≤ i → AreJoined fs i options → options ≡ options_in (map field_view fs)
joined_all fs i options past at = sym (at.whole ∙ ap (λ es. append options (options_in es)) (none_after fs i past) ∙ append_none options)

-- copies at the end of the options so far
pub joined_copies : (fs : List Field) (i : ℕ) (d : Field) (options made more : List Field) → i < length fs → d ≡ get_or fs i d → is_option (field_view d) ≡ true → AreJoined fs i (fields_view options)
    → fields_view more ≡ fields_of_value (value_view d.value) → map field_view made ≡ map field_view options ++ map field_view more → AreJoined fs (i + 1) (fields_view made)
joined_copies fs i d options made more inside same here at view is =
    subst (AreJoined fs (i + 1)) (sym (ap fields_of is ∙ fields_of-append (map field_view options) (map field_view more)))
    (joined_more fs i d (fields_view options) (fields_view more) inside same here at view)

-- no options
pub none_of : (fs : List Field) → list_any (λ f. is_option (field_view f)) fs ≡ false → options_in (map field_view fs) ≡ none
none_of [] absent = refl
none_of (f ∷ fs) absent =
    let apart = or_parts (is_option (field_view f)) (list_any (λ f. is_option (field_view f)) fs) absent in
    options_cons (field_view f) (map field_view fs) false apart.0 ∙ none_of fs apart.1

-- if one field has all options, its message is them
pub joined_only : (fs : List Field) (i : ℕ) (d : Field) (tree : Tree) → i < length fs → d ≡ get_or fs i d → is_option (field_view d) ≡ true → AreJoined fs i none
    → d.value ≡ values.Message tree → list_any (λ f. is_option (field_view f)) (drop (i + 1) fs) ≡ false → view tree ≡ options_in (map field_view fs)
joined_only fs i d tree inside same here at value alone =
    let all = joined_more fs i d none (view tree) inside same here at (sym (ap fields_of_value (ap value_view value ∙ value-message tree))) in
    sym (all.whole ∙ ap (append (view tree)) (none_of (drop (i + 1) fs) alone) ∙ append_none (view tree))
