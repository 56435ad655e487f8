-- Fields that are written have no fault: a list of them, piece after piece.
use Rattle.std.proofs.Common.{ℕ, ℤ, pos, negsuc, ◌≡◌, List, [], ◌∷◌, ◌++◌, Bool, true, false, ◌||◌, ◌==◌, if◌then◌else◌, None, Some, is_some, append_assoc, append-nil, refl, sym, ap, ◌∙◌}
use Rattle.std.specs.List.{list_any}
use Rattle.std.specs.Str.{bytes_eq}
use Rattle.std.specs.Fmt.{signed_decimal}
use Rattle.std.proofs.lemmas.List.Folds.{list_any-append}
use Rattle.mg_text.specs.Tree.{Fields, number, quoted}
use Rattle.mg_text.specs.View.{Value, simple, inner, Entry, put, fields_of}
use Rattle.mg_names.specs.Ports.{text_of}
use Rattle.mg_names.specs.declared.port.Port.{Port}
use Rattle.mg_config.specs.Schema.{once, many, rule_of, judged_by}
use Rattle.mg_config.specs.Values.{entry, has_name}
use Rattle.mg_config.specs.Path.{step}
use Rattle.mg_config.specs.Faults.{own_fault, has_shape, repeated_by, shaped_by, or_else, inside_fault, fault_within, fault_after, field_fault}
use Rattle.mg_config.specs.Written.{text_entry, text_field, number_field, port_fields}
use Rattle.mg_config.specs.Sound.{FitsI32}
use Rattle.mg_config.specs.declared.schema.Message.{Message}
use Rattle.mg_config.specs.declared.schema.Shape.{Shape}
use Rattle.mg_config.specs.declared.schema.Shape.TheVariants.{Text, Number}
use Rattle.mg_config.proofs.Checked.{fault_inside, fault_put}
use Rattle.mg_config.proofs.Numbers.{number_of-decimal}

one_clear : (kind : Message) (before : List Entry) (n : List ℕ) (v : Value) (rest : Fields) → own_fault (rule_of kind n) before n v ≡ None → fault_inside (rule_of kind n) before n v ≡ None
    → fault_after (put n v rest) kind before ≡ fault_after rest kind (before ++ entry n v ∷ [])
one_clear kind before n v rest own clear =
    fault_put kind before n v rest
    ∙ ap (λ o. or_else o (or_else (fault_inside (rule_of kind n) before n v) (fault_after rest kind (before ++ entry n v ∷ [])))) own
    ∙ ap (λ o. or_else o (fault_after rest kind (before ++ entry n v ∷ []))) clear

-- fields that have no fault after others: what follows them is judged as if it stood after both
pub record AreClear (kind : Message) (before fields : List Entry) : Type 0 where
  pub passed : (more : List Entry) → fault_after (fields_of (fields ++ more)) kind before ≡ fault_after (fields_of more) kind (before ++ fields)

pub none_clear : (kind : Message) (before : List Entry) → AreClear kind before []
none_clear kind before = record { passed = λ more. ap (fault_after (fields_of more) kind) (sym (append-nil before)) }

pub first_clear : (kind : Message) (before : List Entry) (n : List ℕ) (v : Value) (fields : List Entry) → own_fault (rule_of kind n) before n v ≡ None → fault_inside (rule_of kind n) before n v ≡ None
    → AreClear kind (before ++ entry n v ∷ []) fields → AreClear kind before (entry n v ∷ fields)
first_clear kind before n v fields own clear rest = record {
  passed = λ more. one_clear kind before n v (fields_of (fields ++ more)) own clear ∙ rest.passed more
      ∙ ap (fault_after (fields_of more) kind) (append_assoc before (entry n v ∷ []) fields);
}

pub single_clear : (kind : Message) (before : List Entry) (n : List ℕ) (v : Value) → own_fault (rule_of kind n) before n v ≡ None → fault_inside (rule_of kind n) before n v ≡ None
    → AreClear kind before (entry n v ∷ [])
single_clear kind before n v own clear = first_clear kind before n v [] own clear (none_clear kind (before ++ entry n v ∷ []))

pub both_clear : (kind : Message) (before fields more : List Entry) → AreClear kind before fields → AreClear kind (before ++ fields) more → AreClear kind before (fields ++ more)
both_clear kind before fields more first second = record {
  passed = λ rest. ap (λ es. fault_after (fields_of es) kind before) (append_assoc fields more rest) ∙ first.passed (more ++ rest) ∙ second.passed rest
      ∙ ap (fault_after (fields_of rest) kind) (append_assoc before fields more);
}

-- a field that may stand any number of times, and one that may stand once
pub own_many : (kind : Message) (before : List Entry) (n : List ℕ) (v : Value) (shape : Shape) → rule_of kind n ≡ Some (many shape) → has_shape shape v ≡ true
    → own_fault (rule_of kind n) before n v ≡ None
own_many kind before n v shape ruled shaped = ap (λ r. own_fault r before n v) ruled ∙ ap (λ b. shaped_by b (many shape) before n) shaped

pub own_once : (kind : Message) (before : List Entry) (n : List ℕ) (v : Value) (shape : Shape) → rule_of kind n ≡ Some (once shape) → has_shape shape v ≡ true
    → list_any (has_name n) before ≡ false → own_fault (rule_of kind n) before n v ≡ None
own_once kind before n v shape ruled shaped fresh =
    ap (λ r. own_fault r before n v) ruled ∙ ap (λ b. shaped_by b (once shape) before n) shaped ∙ ap (λ b. repeated_by b n) fresh

pub inside_clear : (kind within : Message) (starred : Bool) (before : List Entry) (n : List ℕ) (fields : Fields) → judged_by (rule_of kind n) ≡ Some (starred, within) → fault_after fields within [] ≡ None
    → fault_inside (rule_of kind n) before n (inner fields) ≡ None
inside_clear kind within starred before n fields judged clear =
    ap (λ j. inside_fault j before n (λ inside. fault_after fields inside [])) judged ∙ ap (fault_within (step starred n before)) clear

-- fields of one name
abbrev pub AreCalled : List ℕ → List Entry → Type 0
AreCalled n fields = (other : List ℕ) → bytes_eq n other ≡ false → list_any (has_name other) fields ≡ false

pub none_called : (n : List ℕ) → AreCalled n []
none_called n other apart = refl

pub more_called : (n : List ℕ) (v : Value) (fields : List Entry) → AreCalled n fields → AreCalled n (entry n v ∷ fields)
more_called n v fields rest other apart = ap (λ b. b || list_any (has_name other) fields) apart ∙ rest other apart

pub one_called : (n : List ℕ) (v : Value) → AreCalled n (entry n v ∷ [])
one_called n v = more_called n v [] (none_called n)

-- the fields of a message so far: they have no fault, and each has one of these names
pub record IsChain (kind : Message) (names : List (List ℕ)) (fields : List Entry) : Type 0 where
  pub clear : AreClear kind [] fields
  pub fresh : (other : List ℕ) → list_any (λ n. bytes_eq n other) names ≡ false → list_any (has_name other) fields ≡ false

pub chain_begun : (kind : Message) → IsChain kind [] []
chain_begun kind = record { clear = none_clear kind []; fresh = λ other apart. refl }

pub chain_more : (kind : Message) (names : List (List ℕ)) (fields : List Entry) (n : List ℕ) (more : List Entry) → IsChain kind names fields → AreClear kind fields more → AreCalled n more
    → IsChain kind (n ∷ names) (fields ++ more)
chain_more kind names fields n more chain clear called = record {
  clear = both_clear kind [] fields more chain.clear clear;
  fresh = λ other apart. by other (bytes_eq n other) (list_any (λ m. bytes_eq m other) names) refl refl apart;
}
  where
    by : (other : List ℕ) (here later : Bool) → bytes_eq n other ≡ here → list_any (λ m. bytes_eq m other) names ≡ later → (here || later) ≡ false → list_any (has_name other) (fields ++ more) ≡ false
    by other true later own rest apart = cc
    by other false true own rest apart = cc
    by other false false own rest apart = list_any-append (has_name other) fields more ∙ ap (λ b. b || list_any (has_name other) more) (chain.fresh other rest) ∙ called other own

pub chain_clear : (kind : Message) (names : List (List ℕ)) (fields : List Entry) → IsChain kind names fields → field_fault kind (fields_of fields) ≡ None
chain_clear kind names fields chain = ap (λ es. field_fault kind (fields_of es)) (sym (append-nil fields)) ∙ chain.clear.passed []

-- a text that is written if it isn't empty
text_clear : (kind : Message) (before : List Entry) (n text : List ℕ) → rule_of kind n ≡ Some (once Text) → list_any (has_name n) before ≡ false → AreClear kind before (text_field n text)
text_clear kind before n text ruled fresh = by (bytes_eq text [])
  where
    by : (t : Bool) → AreClear kind before (if t then [] else text_entry n text ∷ [])
    by true = none_clear kind before
    by false = single_clear kind before n (simple quoted text) (own_once kind before n (simple quoted text) Text ruled refl fresh) refl

pub text_called : (n text : List ℕ) → AreCalled n (text_field n text)
text_called n text = by (bytes_eq text [])
  where
    by : (t : Bool) → AreCalled n (if t then [] else text_entry n text ∷ [])
    by true = none_called n
    by false = one_called n (simple quoted text)

pub chain_text : (kind : Message) (names : List (List ℕ)) (fields : List Entry) (n text : List ℕ) → rule_of kind n ≡ Some (once Text) → list_any (λ m. bytes_eq m n) names ≡ false
    → IsChain kind names fields → IsChain kind (n ∷ names) (fields ++ text_field n text)
chain_text kind names fields n text ruled apart chain =
    chain_more kind names fields n (text_field n text) chain (text_clear kind fields n text ruled (chain.fresh n apart)) (text_called n text)

-- a number that is written if it isn't 0
number_clear : (kind : Message) (before : List Entry) (n : List ℕ) (value : ℤ) → FitsI32 value → rule_of kind n ≡ Some (once Number) → list_any (has_name n) before ≡ false
    → AreClear kind before (number_field n value)
number_clear kind before n value fits ruled fresh = by value one
  where
    one : AreClear kind before (entry n (simple number (signed_decimal value)) ∷ [])
    one = single_clear kind before n (simple number (signed_decimal value))
        (own_once kind before n (simple number (signed_decimal value)) Number ruled (ap is_some (number_of-decimal value fits)) fresh) refl

    if_some : (t : Bool) (v : ℤ) → AreClear kind before (entry n (simple number (signed_decimal v)) ∷ []) → AreClear kind before (if t then [] else entry n (simple number (signed_decimal v)) ∷ [])
    if_some true v written = none_clear kind before
    if_some false v written = written

    by : (v : ℤ) → AreClear kind before (entry n (simple number (signed_decimal v)) ∷ []) → AreClear kind before (number_field n v)
    by (pos k) written = if_some (k == 0) (pos k) written
    by (negsuc k) written = written

pub number_called : (n : List ℕ) (value : ℤ) → AreCalled n (number_field n value)
number_called n (pos k) = by (k == 0)
  where
    by : (t : Bool) → AreCalled n (if t then [] else entry n (simple number (signed_decimal (pos k))) ∷ [])
    by true = none_called n
    by false = one_called n (simple number (signed_decimal (pos k)))
number_called n (negsuc k) = one_called n (simple number (signed_decimal (negsuc k)))

pub chain_number : (kind : Message) (names : List (List ℕ)) (fields : List Entry) (n : List ℕ) (value : ℤ) → FitsI32 value → rule_of kind n ≡ Some (once Number)
    → list_any (λ m. bytes_eq m n) names ≡ false → IsChain kind names fields → IsChain kind (n ∷ names) (fields ++ number_field n value)
chain_number kind names fields n value fits ruled apart chain =
    chain_more kind names fields n (number_field n value) chain (number_clear kind fields n value fits ruled (chain.fresh n apart)) (number_called n value)

-- the ports of a list
ports_clear : (kind : Message) (before : List Entry) (n : List ℕ) (ports : List Port) → rule_of kind n ≡ Some (many Text) → AreClear kind before (port_fields n ports)
ports_clear kind before n [] ruled = none_clear kind before
ports_clear kind before n (port ∷ ports) ruled =
    first_clear kind before n (simple quoted (text_of port)) (port_fields n ports) (own_many kind before n (simple quoted (text_of port)) Text ruled refl) refl
    (ports_clear kind (before ++ text_entry n (text_of port) ∷ []) n ports ruled)

pub ports_called : (n : List ℕ) (ports : List Port) → AreCalled n (port_fields n ports)
ports_called n [] = none_called n
ports_called n (port ∷ ports) = more_called n (simple quoted (text_of port)) (port_fields n ports) (ports_called n ports)

pub chain_ports : (kind : Message) (names : List (List ℕ)) (fields : List Entry) (n : List ℕ) (ports : List Port) → rule_of kind n ≡ Some (many Text)
    → IsChain kind names fields → IsChain kind (n ∷ names) (fields ++ port_fields n ports)
chain_ports kind names fields n ports ruled chain = chain_more kind names fields n (port_fields n ports) chain (ports_clear kind fields n ports ruled) (ports_called n ports)
