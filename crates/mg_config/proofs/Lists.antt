-- Fields, one after another, beside what they stand for.
use Rattle.std.proofs.Common.{ℕ, ◌+◌, ◌<◌, ◌≤◌, ◌≡◌, List, [], ◌∷◌, ◌++◌, Bool, true, false, length, take, drop, get_or, map, add-one, drop-cons, refl, sym, ap, ◌∙◌}
use Rattle.std.proofs.lemmas.List.{take_more, map-append}
use Rattle.std.proofs.Math.ListN.{drop_of_length-le}
use Rattle.mg_text.specs.declared.tree.Field.{Field}
use Rattle.mg_text.specs.View.{Value, Entry, field_view, value_view}
use Rattle.mg_text.proofs.Views.{field-record}
use Rattle.mg_config.specs.Values.{has_name, values_of}

-- the fields from a place on
pub rest_of : (fs : List Field) (i : ℕ) (d : Field) → i < length fs → map field_view (drop i fs) ≡ field_view (get_or fs i d) ∷ map field_view (drop (i + 1) fs)
rest_of fs i d inside = let rest : drop i fs ≡ get_or fs i d ∷ drop (i + 1) fs = rw (add-one, drop-cons fs i d) refl in ap (map field_view) rest

-- the fields up to a place, with the field there
pub front_of : (fs : List Field) (i : ℕ) (d : Field) → i < length fs → map field_view (take (i + 1) fs) ≡ map field_view (take i fs) ++ field_view (get_or fs i d) ∷ []
front_of fs i d inside = ap (map field_view) (take_more fs i d inside) ∙ map-append field_view (take i fs) (get_or fs i d ∷ [])

pub none_after : (fs : List Field) (i : ℕ) → length fs ≤ i → map field_view (drop i fs) ≡ []
none_after fs i past = ap (map field_view) (drop_of_length-le fs past)

-- the values of a name, from a field on that has the name, and from a field on that has another name
values_cons : (name : List ℕ) (e : Entry) (es : List Entry) (t : Bool) → has_name name e ≡ t → values_of name (e ∷ es) ≡ (elim t as (λ _. List Value) [ true ↦ e.value ∷ values_of name es | false ↦ values_of name es ])
values_cons name e es true h = rw h refl
values_cons name e es false h = rw h refl

pub values_here : (name : List ℕ) (fs : List Field) (i : ℕ) (d : Field) → i < length fs → d ≡ get_or fs i d → has_name name (field_view d) ≡ true
    → values_of name (map field_view (drop i fs)) ≡ value_view d.value ∷ values_of name (map field_view (drop (i + 1) fs))
values_here name fs i d inside same here =
    ap (values_of name) (rest_of fs i d inside ∙ ap (λ f. field_view f ∷ map field_view (drop (i + 1) fs)) (sym same))
    ∙ values_cons name (field_view d) (map field_view (drop (i + 1) fs)) true here
    ∙ ap (λ e. e.value ∷ values_of name (map field_view (drop (i + 1) fs))) (field-record d)

pub values_skip : (name : List ℕ) (fs : List Field) (i : ℕ) (d : Field) → i < length fs → d ≡ get_or fs i d → has_name name (field_view d) ≡ false
    → values_of name (map field_view (drop i fs)) ≡ values_of name (map field_view (drop (i + 1) fs))
values_skip name fs i d inside same here =
    ap (values_of name) (rest_of fs i d inside ∙ ap (λ f. field_view f ∷ map field_view (drop (i + 1) fs)) (sym same))
    ∙ values_cons name (field_view d) (map field_view (drop (i + 1) fs)) false here

pub no_values : (name : List ℕ) (fs : List Field) (i : ℕ) → length fs ≤ i → values_of name (map field_view (drop i fs)) ≡ []
no_values name fs i past = ap (values_of name) (none_after fs i past)
