-- Trees, level by level, beside the fields that they stand for.
use Rattle.std.proofs.Common.{arith, zero, suc, max, ◌+◌, ◌<◌, ◌≤◌, length, get_or, take, append_assoc, ◌≡◌, ℕ, List, [], ◌∷◌, ◌++◌, map, refl, sym, ap, ◌∙◌, rules}
use Rattle.std.proofs.lemmas.List.{map-append, append-nil, take_more}
use Rattle.mg_text.specs.declared.tree.Scalar.{Scalar}
use Rattle.mg_text.specs.declared.tree.Field.{Field}
use Rattle.mg_text.specs.declared.tree.Tree.{Tree}
use Rattle.mg_text.specs.declared.tree.TreeValue as values
use Rattle.mg_text.specs.declared.tree.TreeValue.{TreeValue, the_lemmas}
use Rattle.mg_text.specs.Tree.{Fields, none, scalar, message, append, depth}
use Rattle.mg_text.specs.Canonical.{lines_of, scalar_line, message_lines}
use Rattle.mg_text.specs.Code.Printing.{entry_lines, entry_depth}
use Rattle.mg_text.specs.View.{Value, simple, inner, Entry, put, fields_of, fields_view, field_view, value_view, view, scalar_view}
use Rattle.mg_text.specs.declared.machine.Frame.{Frame}
use Rattle.mg_text.specs.Code.Machine as model

pub put-append : (n : List ℕ) (v : Value) (a b : Fields) → append (put n v a) b ≡ put n v (append a b)
put-append n (simple k bytes) a b = refl
put-append n (inner x) a b = refl

pub fields_of-push : (es : List Entry) (e : Entry) → fields_of (es ++ e ∷ []) ≡ append (fields_of es) (put e.name e.value none)
fields_of-push [] e = refl
fields_of-push (x ∷ es) e = ap (put x.name x.value) (fields_of-push es e) ∙ sym (put-append x.name x.value (fields_of es) (put e.name e.value none))

pub fields_view-push : (fs : List Field) (f : Field) → fields_view (fs ++ f ∷ []) ≡ append (fields_view fs) (put (field_view f).name (field_view f).value none)
fields_view-push fs f = ap fields_of (map-append field_view fs (f ∷ [])) ∙ fields_of-push (map field_view fs) (field_view f)

pub value-scalar : (s : Scalar) → value_view (values.Scalar s) ≡ scalar_view s
value-scalar s = search (rules, the_lemmas)

pub value-message : (t : Tree) → value_view (values.Message t) ≡ inner (view t)
value-message t = search (rules, the_lemmas)

pub field-record : (f : Field) → field_view f ≡ record { name = f.name; value = value_view f.value }
field-record f = search (rules, the_lemmas)

pub pushed : (fs gs : List Field) (name : List ℕ) (value : TreeValue) (v : Value)
    → gs ≡ fs ++ (record { name = name; value = value }) ∷ [] → value_view value ≡ v → fields_view gs ≡ append (fields_view fs) (put name v none)
pushed fs gs name value v e h =
    ap fields_view e ∙ fields_view-push fs _ ∙ ap (λ x. append (fields_view fs) (put x.name x.value none)) (field-record _)
    ∙ ap (λ v. append (fields_view fs) (put name v none)) h

abbrev pub record_of : Fields → List model.Frame → model.Spot → model.State
record_of d fs spot = record { done = d; frames = fs; spot = spot }

-- a state by its parts
pub same_state : (a b : Fields) (x y : List model.Frame) (p q : model.Spot) → a ≡ b → x ≡ y → p ≡ q
    → record_of a x p ≡ record_of b y q
same_state a b x y p q e f h = cc

-- the lines of one field after those before it

lines-append : (k : ℕ) (a b : Fields) → lines_of k (append a b) ≡ lines_of k a ++ lines_of k b
lines-append k none b = refl
lines-append k (scalar n kind bytes a) b = ap (λ z. scalar_line k n kind bytes ++ z) (lines-append k a b) ∙ sym (append_assoc (scalar_line k n kind bytes) (lines_of k a) (lines_of k b))
lines-append k (message n x a) b = ap (λ z. message_lines k n (lines_of (suc k) x) ++ z) (lines-append k a b) ∙ sym (append_assoc (message_lines k n (lines_of (suc k) x)) (lines_of k a) (lines_of k b))

lines-put : (k : ℕ) (n : List ℕ) (v : Value) → lines_of k (put n v none) ≡ entry_lines k n v
lines-put k n (simple kind bytes) = append-nil (scalar_line k n kind bytes)
lines-put k n (inner x) = append-nil (message_lines k n (lines_of (suc k) x))

pub lines_more : (k : ℕ) (fs : List Field) (i : ℕ) (f : Field) → i < length fs → f ≡ get_or fs i f
    → lines_of k (fields_view (take (i + 1) fs)) ≡ lines_of k (fields_view (take i fs)) ++ entry_lines k f.name (value_view f.value)
lines_more k fs i f h e =
    ap (λ z. lines_of k (fields_view z)) (take_more fs i f h ∙ ap (λ z. take i fs ++ z ∷ []) (sym e))
    ∙ ap (lines_of k) (fields_view-push (take i fs) f) ∙ lines-append k (fields_view (take i fs)) (put (field_view f).name (field_view f).value none)
    ∙ ap (λ z. lines_of k (fields_view (take i fs)) ++ z) (lines-put k (field_view f).name (field_view f).value ∙ ap (λ x. entry_lines k x.name x.value) (field-record f))

depth-put : (n : List ℕ) (v : Value) (a : Fields) → depth (put n v a) ≡ max (entry_depth v) (depth a)
depth-put n (simple kind bytes) a = omega arith
depth-put n (inner x) a = refl

pub entry_within : (fs : List Field) (i : ℕ) (d : Field) → i < length fs → entry_depth (value_view (get_or fs i d).value) ≤ depth (fields_view fs)
entry_within [] i d h = absurd (omega arith)
entry_within (f ∷ fs) zero d h =
    let e = depth-put (field_view f).name (field_view f).value (fields_view fs) in
    let s : entry_depth (value_view f.value) ≡ entry_depth (field_view f).value = sym (ap (λ x. entry_depth x.value) (field-record f)) in
    omega (arith, e, s)
entry_within (f ∷ fs) (suc i) d h =
    let e = depth-put (field_view f).name (field_view f).value (fields_view fs) in
    let r = entry_within fs i d (omega arith) in
    omega (arith, e, r)
