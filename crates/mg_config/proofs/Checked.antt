-- The faults of fields, one field after another.
use Rattle.std.proofs.Common.{ℕ, ◌+◌, ◌<◌, ◌≤◌, ◌≡◌, List, [], ◌∷◌, ◌++◌, Bool, true, Option, None, Some, length, take, drop, get_or, map, refl, sym, ap, ◌∙◌, not, ◌&&◌, ◌||◌}
use Rattle.std.specs.List.{list_any}
use Rattle.mg_text.specs.Tree.{Fields}
use Rattle.mg_text.specs.declared.tree.Field.{Field}
use Rattle.mg_text.specs.declared.tree.Scalar.{Scalar}
use Rattle.mg_text.specs.declared.tree.Scalar.TheVariants as scalars
use Rattle.mg_text.specs.declared.tree.Tree.{Tree}
use Rattle.mg_text.specs.declared.tree.TreeValue as values
use Rattle.mg_text.specs.declared.tree.TreeValue.{TreeValue}
use Rattle.mg_text.proofs.Views.{value-scalar, value-message, field-record}
use Rattle.mg_text.specs.View.{Value, simple, inner, Entry, put, fields_of, field_view, value_view, scalar_view, view}
use Rattle.mg_config.specs.Schema.{rule_of, judged_by}
use Rattle.mg_config.specs.Values.{entry, has_name}
use Rattle.mg_config.specs.Path.{step, within}
use Rattle.mg_config.specs.Faults.{own_fault, has_shape, repeated_by, shaped_by, or_else, inner_fault, inside_fault, fault_within, fault_after, field_fault}
use Rattle.mg_config.specs.declared.schema.Message.{Message}
use Rattle.mg_config.specs.declared.schema.FieldRule.{FieldRule}
use Rattle.mg_config.specs.declared.fault.ConfigFault.{ConfigFault}
use Rattle.mg_config.proofs.Lists.{rest_of, front_of, none_after}

-- the fault inside a field, which only a message has
abbrev pub fault_inside : Option FieldRule → List Entry → List ℕ → Value → Option ConfigFault
fault_inside rule before name (simple kind bytes) = None
fault_inside rule before name (inner fields) = inner_fault rule before name (λ inside. fault_after fields inside [])

pub fault_put : (kind : Message) (before : List Entry) (n : List ℕ) (v : Value) (rest : Fields)
    → fault_after (put n v rest) kind before ≡ or_else (own_fault (rule_of kind n) before n v) (or_else (fault_inside (rule_of kind n) before n v) (fault_after rest kind (before ++ entry n v ∷ [])))
fault_put kind before n (simple k bytes) rest = refl
fault_put kind before n (inner fields) rest = refl

-- what is left to be judged from a field on
abbrev pub left_from : Message → List Field → ℕ → Option ConfigFault
left_from kind fs i = fault_after (fields_of (map field_view (drop i fs))) kind (map field_view (take i fs))

abbrev pub own_of : Message → List Field → ℕ → Field → Option ConfigFault
own_of kind fs i f = own_fault (rule_of kind (field_view f).name) (map field_view (take i fs)) (field_view f).name (field_view f).value

abbrev pub inside_of : Message → List Field → ℕ → Field → Option ConfigFault
inside_of kind fs i f = fault_inside (rule_of kind (field_view f).name) (map field_view (take i fs)) (field_view f).name (field_view f).value

judged : (kind : Message) (fs : List Field) (i : ℕ) (f : Field) → i < length fs → f ≡ get_or fs i f
    → left_from kind fs i ≡ or_else (own_of kind fs i f) (or_else (inside_of kind fs i f) (left_from kind fs (i + 1)))
judged kind fs i f inside same =
    ap (λ es. fault_after (fields_of es) kind (map field_view (take i fs))) (rest_of fs i f inside ∙ ap (λ g. field_view g ∷ map field_view (drop (i + 1) fs)) (sym same))
    ∙ fault_put kind (map field_view (take i fs)) (field_view f).name (field_view f).value (fields_of (map field_view (drop (i + 1) fs)))
    ∙ ap (λ b. or_else (own_of kind fs i f) (or_else (inside_of kind fs i f) (fault_after (fields_of (map field_view (drop (i + 1) fs))) kind b)))
    (sym (front_of fs i f inside ∙ ap (λ g. map field_view (take i fs) ++ field_view g ∷ []) (sym same)))

pub own_found : (kind : Message) (fs : List Field) (i : ℕ) (f : Field) (fault : ConfigFault) → i < length fs → f ≡ get_or fs i f
    → own_of kind fs i f ≡ Some fault → left_from kind fs i ≡ Some fault
own_found kind fs i f fault inside same own = judged kind fs i f inside same ∙ ap (λ o. or_else o (or_else (inside_of kind fs i f) (left_from kind fs (i + 1)))) own

pub inside_found : (kind : Message) (fs : List Field) (i : ℕ) (f : Field) (fault : ConfigFault) → i < length fs → f ≡ get_or fs i f
    → own_of kind fs i f ≡ None → inside_of kind fs i f ≡ Some fault → left_from kind fs i ≡ Some fault
inside_found kind fs i f fault inside same own found =
    judged kind fs i f inside same ∙ ap (λ o. or_else o (or_else (inside_of kind fs i f) (left_from kind fs (i + 1)))) own
    ∙ ap (λ o. or_else o (left_from kind fs (i + 1))) found

pub one_judged : (kind : Message) (fs : List Field) (i : ℕ) (f : Field) → i < length fs → f ≡ get_or fs i f
    → own_of kind fs i f ≡ None → inside_of kind fs i f ≡ None → left_from kind fs i ≡ left_from kind fs (i + 1)
one_judged kind fs i f inside same own clear =
    judged kind fs i f inside same ∙ ap (λ o. or_else o (or_else (inside_of kind fs i f) (left_from kind fs (i + 1)))) own
    ∙ ap (λ o. or_else o (left_from kind fs (i + 1))) clear

pub all_judged : (kind : Message) (fs : List Field) (i : ℕ) → length fs ≤ i → left_from kind fs i ≡ None
all_judged kind fs i past = ap (λ es. fault_after (fields_of es) kind (map field_view (take i fs))) (none_after fs i past)

-- where the reading of a list of fields stands, in the values that the code has
pub record IsAt (kind : Message) (fs : List Field) (i : ℕ) (f : Field) (rule : Option FieldRule) (before : List Field) : Type 0 where
  pub inside : i < length fs
  pub field : f ≡ get_or fs i f
  pub ruled : rule ≡ rule_of kind f.name
  pub front : before ≡ take i fs

name-is : (f : Field) → (field_view f).name ≡ f.name
name-is f = ap (λ e. e.name) (field-record f)

own-is : (kind : Message) (fs : List Field) (i : ℕ) (f : Field) (rule : Option FieldRule) (before : List Field) → IsAt kind fs i f rule before
    → own_fault rule (map field_view before) (field_view f).name (field_view f).value ≡ own_of kind fs i f
own-is kind fs i f rule before at =
    let r : rule ≡ rule_of kind (field_view f).name = at.ruled ∙ ap (rule_of kind) (sym (name-is f)) in
    ap (λ r. own_fault r (map field_view before) (field_view f).name (field_view f).value) r
    ∙ ap (λ b. own_fault (rule_of kind (field_view f).name) (map field_view b) (field_view f).name (field_view f).value) at.front

pub found_own : (kind : Message) (fs : List Field) (i : ℕ) (f : Field) (rule : Option FieldRule) (before : List Field) (fault : ConfigFault) → IsAt kind fs i f rule before
    → own_fault rule (map field_view before) (field_view f).name (field_view f).value ≡ Some fault → left_from kind fs i ≡ Some fault
found_own kind fs i f rule before fault at own = own_found kind fs i f fault at.inside at.field (sym (own-is kind fs i f rule before at) ∙ own)

-- what is inside a message
message-inside : (rule : Option FieldRule) (before : List Entry) (name : List ℕ) (value : TreeValue) (tree : Tree) → value ≡ values.Message tree
    → fault_inside rule before name (value_view value) ≡ inner_fault rule before name (λ inside. fault_after (view tree) inside [])
message-inside rule before name value tree e = ap (fault_inside rule before name) (ap value_view e ∙ value-message tree)

inside-is : (kind : Message) (fs : List Field) (i : ℕ) (f : Field) (rule : Option FieldRule) (before : List Field) (tree : Tree) → IsAt kind fs i f rule before → f.value ≡ values.Message tree
    → inside_of kind fs i f ≡ inner_fault rule (map field_view before) f.name (λ inside. fault_after (view tree) inside [])
inside-is kind fs i f rule before tree at e =
    let r : rule_of kind (field_view f).name ≡ rule = ap (rule_of kind) (name-is f) ∙ sym at.ruled in
    let v : (field_view f).value ≡ value_view f.value = ap (λ e. e.value) (field-record f) in
    ap (λ r. fault_inside r (map field_view (take i fs)) (field_view f).name (field_view f).value) r
    ∙ ap (λ b. fault_inside rule (map field_view b) (field_view f).name (field_view f).value) (sym at.front)
    ∙ ap (λ n. fault_inside rule (map field_view before) n (field_view f).value) (name-is f)
    ∙ ap (fault_inside rule (map field_view before) f.name) v
    ∙ message-inside rule (map field_view before) f.name f.value tree e

pub found_inside : (kind : Message) (fs : List Field) (i : ℕ) (f : Field) (rule : Option FieldRule) (before : List Field) (tree : Tree) (many : Bool) (within_kind : Message) (found fault : ConfigFault)
    → IsAt kind fs i f rule before → own_fault rule (map field_view before) (field_view f).name (field_view f).value ≡ None
    → f.value ≡ values.Message tree → Some (many, within_kind) ≡ judged_by rule → field_fault within_kind (view tree) ≡ Some found
    → fault ≡ within (step many f.name (map field_view before)) found → left_from kind fs i ≡ Some fault
found_inside kind fs i f rule before tree many within_kind found fault at own value judge deep place =
    inside_found kind fs i f fault at.inside at.field (sym (own-is kind fs i f rule before at) ∙ own)
    (inside-is kind fs i f rule before tree at value
    ∙ ap (λ j. inside_fault j (map field_view before) f.name (λ inside. fault_after (view tree) inside [])) (sym judge)
    ∙ ap (fault_within (step many f.name (map field_view before))) deep ∙ ap Some (sym place))

pub clear_inside : (kind : Message) (fs : List Field) (i : ℕ) (f : Field) (rule : Option FieldRule) (before : List Field) (tree : Tree) (many : Bool) (within_kind : Message)
    → IsAt kind fs i f rule before → own_fault rule (map field_view before) (field_view f).name (field_view f).value ≡ None
    → f.value ≡ values.Message tree → Some (many, within_kind) ≡ judged_by rule → field_fault within_kind (view tree) ≡ None
    → left_from kind fs i ≡ left_from kind fs (i + 1)
clear_inside kind fs i f rule before tree many within_kind at own value judge deep =
    one_judged kind fs i f at.inside at.field (sym (own-is kind fs i f rule before at) ∙ own)
    (inside-is kind fs i f rule before tree at value
    ∙ ap (λ j. inside_fault j (map field_view before) f.name (λ inside. fault_after (view tree) inside [])) (sym judge)
    ∙ ap (fault_within (step many f.name (map field_view before))) deep)

-- a message whose fields are not judged
pub not_judged : (kind : Message) (fs : List Field) (i : ℕ) (f : Field) (rule : Option FieldRule) (before : List Field) (tree : Tree)
    → IsAt kind fs i f rule before → own_fault rule (map field_view before) (field_view f).name (field_view f).value ≡ None
    → f.value ≡ values.Message tree → None ≡ judged_by rule → left_from kind fs i ≡ left_from kind fs (i + 1)
not_judged kind fs i f rule before tree at own value judge =
    one_judged kind fs i f at.inside at.field (sym (own-is kind fs i f rule before at) ∙ own)
    (inside-is kind fs i f rule before tree at value
    ∙ ap (λ j. inside_fault j (map field_view before) f.name (λ inside. fault_after (view tree) inside [])) (sym judge))

-- a scalar
pub scalar_clear : (kind : Message) (fs : List Field) (i : ℕ) (f : Field) (rule : Option FieldRule) (before : List Field) (s : Scalar)
    → IsAt kind fs i f rule before → own_fault rule (map field_view before) (field_view f).name (field_view f).value ≡ None
    → f.value ≡ values.Scalar s → left_from kind fs i ≡ left_from kind fs (i + 1)
scalar_clear kind fs i f rule before s at own value =
    one_judged kind fs i f at.inside at.field (sym (own-is kind fs i f rule before at) ∙ own)
    (ap (λ e. fault_inside (rule_of kind (field_view f).name) (map field_view (take i fs)) (field_view f).name e.value) (field-record f)
    ∙ ap (λ v. fault_inside (rule_of kind (field_view f).name) (map field_view (take i fs)) (field_view f).name (value_view v)) value
    ∙ ap (fault_inside (rule_of kind (field_view f).name) (map field_view (take i fs)) (field_view f).name) (value-scalar s)
    ∙ nothing s)
  where
    nothing : (s : Scalar) → fault_inside (rule_of kind (field_view f).name) (map field_view (take i fs)) (field_view f).name (scalar_view s) ≡ None
    nothing (scalars.Word text) = refl
    nothing (scalars.Number text) = refl
    nothing (scalars.Quoted text) = refl

-- a field of the right shape, which may be a second one
pub own_by : (rule : FieldRule) (before : List Field) (f : Field) (name : List ℕ) (again : Bool) → name ≡ f.name → has_shape rule.shape (value_view f.value) ≡ true
    → again ≡ (not rule.many && list_any (λ field. has_name name (field_view field)) before)
    → own_fault (Some rule) (map field_view before) (field_view f).name (field_view f).value ≡ repeated_by again f.name
own_by rule before f name again same shaped second =
    ap (λ e. own_fault (Some rule) (map field_view before) e.name e.value) (field-record f)
    ∙ ap (λ b. shaped_by b rule (map field_view before) f.name) shaped
    ∙ ap (λ b. repeated_by (not rule.many && b) f.name) (any-map (has_name f.name) field_view before)
    ∙ ap (λ n. repeated_by (not rule.many && list_any (λ field. has_name n (field_view field)) before) f.name) (sym same)
    ∙ ap (λ b. repeated_by b f.name) (sym second)
  where
    any-map : {A B : Type 0} (p : B → Bool) (g : A → B) (xs : List A) → list_any p (map g xs) ≡ list_any (λ x. p (g x)) xs
    any-map p g [] = refl
    any-map p g (x ∷ xs) = ap (λ b. p (g x) || b) (any-map p g xs)
