-- Side packets that stand in a graph, one after another.
use Rattle.std.proofs.Common.{ℕ, ◌+◌, ◌<◌, ◌≤◌, ◌≡◌, List, [], ◌∷◌, ◌++◌, Option, None, Some, length, drop, get_or, map, refl, sym, ap, ◌∙◌, append_assoc, append-nil}
use Rattle.std.specs.Prelude.{option_map, option_and_then}
use Rattle.std.specs.Borrow.{Bor}
use Rattle.mg_text.specs.declared.tree.Field.{Field}
use Rattle.mg_text.specs.View.{Value, field_view, value_view}
use Rattle.mg_text.proofs.Views.{field-record}
use Rattle.mg_value.specs.Plain.{Plain}
use Rattle.mg_kinds.specs.Values.{payload_in, payloads_in}
use Rattle.mg_kinds.specs.Views.{fields_of}
use Rattle.mg_kinds.proofs.Lists.{left, none_left}

abbrev pub values_left : List (Bor Field) → ℕ → List Value
values_left options i = map (λ field. field.value) (fields_of (drop i options))

value_left : (options : List (Bor Field)) (i : ℕ) (d : Bor Field) → i < length options → d ≡ get_or options i d → values_left options i ≡ value_view d.now.value ∷ values_left options (i + 1)
value_left options i d inside same =
    ap (map (λ field. field.value)) (left (λ f. field_view f.now) options i d inside same) ∙ ap (λ e. e.value ∷ values_left options (i + 1)) (field-record d.now)

put_more : (a : List Plain) (p : Plain) (rest : Option (List Plain)) → option_map (λ more. a ++ more) (option_map (λ more. p ∷ more) rest) ≡ option_map (λ more. (a ++ p ∷ []) ++ more) rest
put_more a p None = refl
put_more a p (Some more) = ap Some (sym (append_assoc a (p ∷ []) more))

pub payloads_step : (options : List (Bor Field)) (i : ℕ) (d : Bor Field) (new : Plain) (before after : List Plain) (all : Option (List Plain)) → i < length options → d ≡ get_or options i d
    → Some new ≡ payload_in (value_view d.now.value) → after ≡ before ++ new ∷ []
    → all ≡ option_map (λ more. before ++ more) (payloads_in (values_left options i))
    → all ≡ option_map (λ more. after ++ more) (payloads_in (values_left options (i + 1)))
payloads_step options i d new before after all inside same is put known =
    let rest = payloads_in (values_left options (i + 1)) in
    known ∙ (ap (λ l. option_map (λ more. before ++ more) (payloads_in l)) (value_left options i d inside same)
    ∙ (ap (λ o. option_map (λ more. before ++ more) (option_and_then (λ p. option_map (λ more. p ∷ more) rest) o)) (sym is)
    ∙ (put_more before new rest ∙ ap (λ l. option_map (λ more. l ++ more) rest) (sym put))))

pub payloads_other : (options : List (Bor Field)) (i : ℕ) (d : Bor Field) (before : List Plain) (all : Option (List Plain)) → i < length options → d ≡ get_or options i d
    → None ≡ payload_in (value_view d.now.value)
    → all ≡ option_map (λ more. before ++ more) (payloads_in (values_left options i)) → None ≡ all
payloads_other options i d before all inside same is known =
    let rest = payloads_in (values_left options (i + 1)) in
    sym (known ∙ (ap (λ l. option_map (λ more. before ++ more) (payloads_in l)) (value_left options i d inside same)
    ∙ ap (λ o. option_map (λ more. before ++ more) (option_and_then (λ p. option_map (λ more. p ∷ more) rest) o)) (sym is)))

pub payloads_end : (options : List (Bor Field)) (i : ℕ) (before : List Plain) (all : Option (List Plain)) → length options ≤ i
    → all ≡ option_map (λ more. before ++ more) (payloads_in (values_left options i)) → Some before ≡ all
payloads_end options i before all past known =
    sym (known ∙ (ap (λ l. option_map (λ more. before ++ more) (payloads_in (map (λ field. field.value) l))) (none_left (λ f. field_view f.now) options i past)
    ∙ ap Some (append-nil before)))
