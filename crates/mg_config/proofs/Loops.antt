-- The texts and the messages of a name, one field after another.
use Rattle.std.proofs.Common.{ℕ, ◌+◌, ◌<◌, ◌≤◌, ◌≡◌, List, [], ◌∷◌, ◌++◌, true, false, length, drop, get_or, map, append_assoc, append-nil, refl, sym, ap, ◌∙◌}
use Rattle.mg_text.specs.declared.tree.Field.{Field}
use Rattle.mg_text.specs.View.{Value, simple, inner, Entry, put, fields_of, fields_view, field_view, value_view}
use Rattle.mg_text.specs.Tree.{Fields}
use Rattle.mg_config.specs.Values.{has_name, entry, entries, values_of, text_of_value, fields_of_value}
use Rattle.mg_config.proofs.Lists.{values_here, values_skip, no_values}

abbrev pub texts_from : List ℕ → List Field → ℕ → List (List ℕ)
texts_from name fs i = map text_of_value (values_of name (map field_view (drop i fs)))

pub texts_here : (name : List ℕ) (fs : List Field) (i : ℕ) (d : Field) (all texts : List (List ℕ)) (text : List ℕ) → i < length fs → d ≡ get_or fs i d → has_name name (field_view d) ≡ true
    → text ≡ text_of_value (value_view d.value) → all ≡ texts ++ texts_from name fs i → all ≡ (texts ++ text ∷ []) ++ texts_from name fs (i + 1)
texts_here name fs i d all texts text inside same here is before =
    before ∙ ap (λ vs. texts ++ map text_of_value vs) (values_here name fs i d inside same here)
    ∙ ap (λ t. texts ++ t ∷ texts_from name fs (i + 1)) (sym is) ∙ sym (append_assoc texts (text ∷ []) (texts_from name fs (i + 1)))

pub texts_skip : (name : List ℕ) (fs : List Field) (i : ℕ) (d : Field) (all texts : List (List ℕ)) → i < length fs → d ≡ get_or fs i d → has_name name (field_view d) ≡ false
    → all ≡ texts ++ texts_from name fs i → all ≡ texts ++ texts_from name fs (i + 1)
texts_skip name fs i d all texts inside same here before = before ∙ ap (λ vs. texts ++ map text_of_value vs) (values_skip name fs i d inside same here)

pub texts_end : (name : List ℕ) (fs : List Field) (i : ℕ) (all texts : List (List ℕ)) → length fs ≤ i → all ≡ texts ++ texts_from name fs i → texts ≡ all
texts_end name fs i all texts past before = sym (before ∙ ap (λ vs. texts ++ map text_of_value vs) (no_values name fs i past) ∙ append-nil texts)

abbrev pub messages_from : List ℕ → List Field → ℕ → List Fields
messages_from name fs i = map fields_of_value (values_of name (map field_view (drop i fs)))

pub messages_here : (name : List ℕ) (fs : List Field) (i : ℕ) (d : Field) → i < length fs → d ≡ get_or fs i d → has_name name (field_view d) ≡ true
    → messages_from name fs i ≡ fields_of_value (value_view d.value) ∷ messages_from name fs (i + 1)
messages_here name fs i d inside same here = ap (map fields_of_value) (values_here name fs i d inside same here)

pub messages_skip : (name : List ℕ) (fs : List Field) (i : ℕ) (d : Field) → i < length fs → d ≡ get_or fs i d → has_name name (field_view d) ≡ false
    → messages_from name fs i ≡ messages_from name fs (i + 1)
messages_skip name fs i d inside same here = ap (map fields_of_value) (values_skip name fs i d inside same here)

pub messages_end : (name : List ℕ) (fs : List Field) (i : ℕ) → length fs ≤ i → messages_from name fs i ≡ []
messages_end name fs i past = ap (map fields_of_value) (no_values name fs i past)

entries-put : (n : List ℕ) (v : Value) (rest : Fields) → entries (put n v rest) ≡ entry n v ∷ entries rest
entries-put n (simple kind bytes) rest = refl
entries-put n (inner fields) rest = refl

pub entries-of : (es : List Entry) → entries (fields_of es) ≡ es
entries-of [] = refl
entries-of (e ∷ es) = entries-put e.name e.value (fields_of es) ∙ ap (λ es. e ∷ es) (entries-of es)

pub entries_view : (fs : List Field) → entries (fields_view fs) ≡ map field_view fs
entries_view fs = entries-of (map field_view fs)

-- the entries of a field's message, in the fields that the code has of it
pub entries_within : (field : Field) (own : List Field) → fields_view own ≡ fields_of_value (value_view field.value) → entries (fields_of_value (value_view field.value)) ≡ map field_view own
entries_within field own same = ap entries (sym same) ∙ entries_view own
