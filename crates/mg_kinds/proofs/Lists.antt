-- Lists of options and of names, one after another.
use Rattle.std.proofs.Common.{ℕ, suc, zero, ◌+◌, ◌<◌, ◌≤◌, ◌≡◌, List, [], ◌∷◌, ◌++◌, Bool, true, false, ◌||◌, ◌&&◌, None, Some, length, take, drop, get_or, map, refl, sym, ap, ◌∙◌, arith, if◌then◌else◌, nat_le, append_assoc, zero-add}
use Rattle.std.proofs.lemmas.Bool.Decides.{nat_tests}
use Rattle.std.proofs.lemmas.List.Sums.{sum_by-cons}
use Rattle.std.proofs.lemmas.List.Recursion.{is_count_by}
use Rattle.std.specs.Prelude.{count_by}
use Rattle.std.specs.Borrow.{Bor}
use Rattle.std.specs.Str.{bytes_eq}
use Rattle.std.proofs.lemmas.List.{take_more, take_all, map-append}
use Rattle.std.proofs.Math.ListN.{drop_of_length-le}
use Rattle.mg_text.specs.declared.tree.Field.{Field}
use Rattle.mg_text.specs.View.{Entry, field_view, value_view}
use Rattle.mg_text.proofs.Views.{field-record}
use Rattle.mg_config.specs.Number.{is_one_of}
use Rattle.mg_config.specs.Values.{has_name}
use Rattle.mg_calc.specs.declared.setting.Setting.{Setting}
use Rattle.mg_calc.specs.Row.{said}
use Rattle.mg_kinds.specs.Kinds.{names_of, said_by, settings_of}
use Rattle.mg_kinds.specs.Options.{are_known, are_once, set_to}
use Rattle.mg_kinds.specs.Views.{fields_of}

-- what is left from an element on is that element, and what is left after it
drop_suc : {X : Type 0} (xs : List X) (i : ℕ) (x : X) → i < length xs → x ≡ get_or xs i x → drop i xs ≡ x ∷ drop (suc i) xs
drop_suc [] i x inside here = absurd (omega arith)
drop_suc (y ∷ xs) zero x inside here = ap (λ z. z ∷ xs) (sym here)
drop_suc (y ∷ xs) (suc i) x inside here = drop_suc xs i x (omega arith) here

pub left : {X Y : Type 0} (f : X → Y) (xs : List X) (i : ℕ) (x : X) → i < length xs → x ≡ get_or xs i x → map f (drop i xs) ≡ f x ∷ map f (drop (i + 1) xs)
left f xs i x inside here = let count : suc i ≡ i + 1 = omega arith in ap (map f) (drop_suc xs i x inside here) ∙ ap (λ k. f x ∷ map f (drop k xs)) count

pub none_left : {X Y : Type 0} (f : X → Y) (xs : List X) (i : ℕ) → length xs ≤ i → map f (drop i xs) ≡ []
none_left f xs i past = ap (map f) (drop_of_length-le xs past)

-- a name among others
one_cons : (word name : List ℕ) (words : List (List ℕ)) (t : Bool) → bytes_eq name word ≡ t → is_one_of (word ∷ words) name ≡ (t || is_one_of words name)
one_cons word name words t h = ap (λ b. b || is_one_of words name) h

pub one_here : (names : List (Bor (List ℕ))) (name : List ℕ) (i : ℕ) (d : Bor (List ℕ)) → i < length names → d ≡ get_or names i d → bytes_eq name d.now ≡ true → is_one_of (names_of (drop i names)) name ≡ true
one_here names name i d inside same here = ap (λ l. is_one_of l name) (left (λ w. w.now) names i d inside same) ∙ one_cons d.now name (names_of (drop (i + 1) names)) true here

pub one_skip : (names : List (Bor (List ℕ))) (name : List ℕ) (i : ℕ) (d : Bor (List ℕ)) → i < length names → d ≡ get_or names i d → bytes_eq name d.now ≡ false
    → is_one_of (names_of (drop i names)) name ≡ is_one_of (names_of (drop (i + 1) names)) name
one_skip names name i d inside same here = ap (λ l. is_one_of l name) (left (λ w. w.now) names i d inside same) ∙ one_cons d.now name (names_of (drop (i + 1) names)) false here

pub one_none : (names : List (Bor (List ℕ))) (name : List ℕ) (i : ℕ) → length names ≤ i → is_one_of (names_of (drop i names)) name ≡ false
one_none names name i past = ap (λ l. is_one_of l name) (none_left (λ w. w.now) names i past)

-- options of known names
known_cons : (names : List (List ℕ)) (o : Field) (os : List Entry) (t : Bool) → is_one_of names o.name ≡ t → are_known names (field_view o ∷ os) ≡ (t && are_known names os)
known_cons names o os t h = ap (λ e. is_one_of names e.name && are_known names os) (field-record o) ∙ ap (λ b. b && are_known names os) h

pub known_not : (names : List (List ℕ)) (options : List (Bor Field)) (i : ℕ) (d : Bor Field) → i < length options → d ≡ get_or options i d → is_one_of names d.now.name ≡ false
    → are_known names (fields_of (drop i options)) ≡ false
known_not names options i d inside same here = ap (are_known names) (left (λ f. field_view f.now) options i d inside same) ∙ known_cons names d.now (fields_of (drop (i + 1) options)) false here

pub known_next : (names : List (List ℕ)) (options : List (Bor Field)) (i : ℕ) (d : Bor Field) → i < length options → d ≡ get_or options i d → is_one_of names d.now.name ≡ true
    → are_known names (fields_of (drop i options)) ≡ are_known names (fields_of (drop (i + 1) options))
known_next names options i d inside same here = ap (are_known names) (left (λ f. field_view f.now) options i d inside same) ∙ known_cons names d.now (fields_of (drop (i + 1) options)) true here

pub known_end : (names : List (List ℕ)) (options : List (Bor Field)) (i : ℕ) → length options ≤ i → are_known names (fields_of (drop i options)) ≡ true
known_end names options i past = ap (are_known names) (none_left (λ f. field_view f.now) options i past)

-- names that stand once at most
small : (count : ℕ) → count ≤ 1 → nat_le count 1 ≡ true
small count h = grind (arith, nat_tests)

large : (count : ℕ) → 1 < count → nat_le count 1 ≡ false
large count h = grind (arith, nat_tests)

once_cons : (name : List ℕ) (names : List (List ℕ)) (options : List Entry) (t : Bool) → nat_le (count_by (has_name name) options) 1 ≡ t → are_once (name ∷ names) options ≡ (t && are_once names options)
once_cons name names options t h = ap (λ b. b && are_once names options) h

pub once_not : (names : List (Bor (List ℕ))) (options : List Entry) (i : ℕ) (d : Bor (List ℕ)) → i < length names → d ≡ get_or names i d → 1 < count_by (has_name d.now) options
    → are_once (names_of (drop i names)) options ≡ false
once_not names options i d inside same more =
    ap (λ l. are_once l options) (left (λ w. w.now) names i d inside same) ∙ once_cons d.now (names_of (drop (i + 1) names)) options false (large (count_by (has_name d.now) options) more)

pub once_next : (names : List (Bor (List ℕ))) (options : List Entry) (i : ℕ) (d : Bor (List ℕ)) → i < length names → d ≡ get_or names i d → count_by (has_name d.now) options ≤ 1
    → are_once (names_of (drop i names)) options ≡ are_once (names_of (drop (i + 1) names)) options
once_next names options i d inside same few =
    ap (λ l. are_once l options) (left (λ w. w.now) names i d inside same) ∙ once_cons d.now (names_of (drop (i + 1) names)) options true (small (count_by (has_name d.now) options) few)

pub once_end : (names : List (Bor (List ℕ))) (options : List Entry) (i : ℕ) → length names ≤ i → are_once (names_of (drop i names)) options ≡ true
once_end names options i past = ap (λ l. are_once l options) (none_left (λ w. w.now) names i past)

counted_by : (t : Bool) (n : ℕ) → (if t then 1 else 0) + n ≡ (if t then 1 + n else n)
counted_by true n = refl
counted_by false n = zero-add n

count_by-cons : {X : Type 0} (p : X → Bool) (x : X) (xs : List X) → count_by p (x ∷ xs) ≡ (if p x then 1 + count_by p xs else count_by p xs)
count_by-cons p x xs = sum_by-cons (λ y. if p y then 1 else 0) x xs ∙ counted_by (p x) (count_by p xs)

pub counted : (p : Entry → Bool) (options : List (Bor Field)) → count_by p (fields_of options) ≡ count_by (λ o. p (field_view o.now)) options
counted p options = is_count_by (λ os. count_by p (fields_of os)) (λ o. p (field_view o.now)) refl (λ o os. count_by-cons p (field_view o.now) (fields_of os)) options

first_cons : (name : List ℕ) (e : Entry) (es : List Entry) (t : Bool) → has_name name e ≡ t → set_to name (e ∷ es) ≡ (if t then Some e.value else set_to name es)
first_cons name e es true h = rw h refl
first_cons name e es false h = rw h refl

pub set_here : (name : List ℕ) (fs : List (Bor Field)) (i : ℕ) (d : Bor Field) → i < length fs → d ≡ get_or fs i d → has_name name (field_view d.now) ≡ true
    → set_to name (fields_of (drop i fs)) ≡ Some (value_view d.now.value)
set_here name fs i d inside same here =
    ap (set_to name) (left (λ f. field_view f.now) fs i d inside same) ∙ first_cons name (field_view d.now) (fields_of (drop (i + 1) fs)) true here
    ∙ ap (λ e. Some e.value) (field-record d.now)

pub set_skip : (name : List ℕ) (fs : List (Bor Field)) (i : ℕ) (d : Bor Field) → i < length fs → d ≡ get_or fs i d → has_name name (field_view d.now) ≡ false
    → set_to name (fields_of (drop i fs)) ≡ set_to name (fields_of (drop (i + 1) fs))
set_skip name fs i d inside same here =
    ap (set_to name) (left (λ f. field_view f.now) fs i d inside same) ∙ first_cons name (field_view d.now) (fields_of (drop (i + 1) fs)) false here

pub set_none : (name : List ℕ) (fs : List (Bor Field)) (i : ℕ) → length fs ≤ i → set_to name (fields_of (drop i fs)) ≡ None
set_none name fs i past = ap (set_to name) (none_left (λ f. field_view f.now) fs i past)

-- fields put at the end, one after another
pub one_appended : (before out : List (Bor Field)) (new : Bor Field) (fs : List Field) (i : ℕ) (d : Field) → i < length fs → d ≡ get_or fs i d → new.now ≡ d
    → fields_of out ≡ fields_of before ++ map field_view (take i fs) → fields_of (out ++ new ∷ []) ≡ fields_of before ++ map field_view (take (i + 1) fs)
one_appended before out new fs i d inside same is known =
    map-append (λ f. field_view f.now) out (new ∷ [])
    ∙ (ap (λ l. l ++ field_view new.now ∷ []) known
    ∙ (append_assoc (fields_of before) (map field_view (take i fs)) (field_view new.now ∷ [])
    ∙ ap (λ l. fields_of before ++ l) (ap (λ e. map field_view (take i fs) ++ field_view e ∷ []) (is ∙ same)
    ∙ (sym (map-append field_view (take i fs) (get_or fs i d ∷ [])) ∙ sym (ap (map field_view) (take_more fs i d inside))))))

pub all_appended : (before out : List (Bor Field)) (fs : List Field) (i : ℕ) → length fs ≤ i → fields_of out ≡ fields_of before ++ map field_view (take i fs)
    → fields_of out ≡ fields_of before ++ map field_view fs
all_appended before out fs i past known = known ∙ ap (λ l. fields_of before ++ map field_view l) (take_all i fs past)

-- what options say, one name after another
pub one_said : (options : List Entry) (out : List Setting) (new : Setting) (names : List (Bor (List ℕ))) (i : ℕ) (d : Bor (List ℕ)) → i < length names → d ≡ get_or names i d
    → said new ≡ said_by (set_to d.now options) → map said out ≡ settings_of (names_of (take i names)) options
    → map said (out ++ new ∷ []) ≡ settings_of (names_of (take (i + 1) names)) options
one_said options out new names i d inside same is known =
    map-append said out (new ∷ [])
    ∙ (ap (λ l. l ++ said new ∷ []) known
    ∙ (ap (λ s. settings_of (names_of (take i names)) options ++ s ∷ []) (is ∙ ap (λ (n : Bor (List ℕ)). said_by (set_to n.now options)) same)
    ∙ (sym (map-append (λ name. said_by (set_to name options)) (names_of (take i names)) ((get_or names i d).now ∷ []))
    ∙ (ap (λ l. settings_of l options) (sym (map-append (λ name. name.now) (take i names) (get_or names i d ∷ [])))
    ∙ sym (ap (λ l. settings_of (names_of l) options) (take_more names i d inside))))))

pub all_said : (options : List Entry) (out : List Setting) (names : List (Bor (List ℕ))) (i : ℕ) → length names ≤ i
    → map said out ≡ settings_of (names_of (take i names)) options → map said out ≡ settings_of (names_of names) options
all_said options out names i past known = known ∙ ap (λ l. settings_of (names_of l) options) (take_all i names past)
