-- The faults of fields, in the order of the text, and of nodes without a calculator.
use Rattle.std.specs.Prelude.{ℕ, suc, List, [], ◌∷◌, ◌++◌, Bool, true, false, ◌&&◌, not, Option, None, Some, is_some, if◌then◌else◌, codes}
use Rattle.std.specs.List.{list_any}
use Rattle.std.specs.Str.{bytes_eq}
use Rattle.mg_text.specs.Tree.{quoted, Fields, none, scalar, message}
use Rattle.mg_text.specs.View.{Value, simple, inner, Entry}
use Rattle.mg_config.specs.Schema.{rule_of, judged_by}
use Rattle.mg_config.specs.Values.{entry, entries, has_name, number_in_value, truth_in_value, text_in}
use Rattle.mg_config.specs.Path.{step, numbered, below, within}
use Rattle.mg_config.specs.declared.schema.Message.{Message}
use Rattle.mg_config.specs.declared.schema.Shape.{Shape}
use Rattle.mg_config.specs.declared.schema.Shape.TheVariants.{Text, Number, Truth, Options, Inside}
use Rattle.mg_config.specs.declared.schema.FieldRule.{FieldRule}
use Rattle.mg_config.specs.declared.fault.ConfigFault.{ConfigFault}
use Rattle.mg_config.specs.declared.fault.ConfigFault.TheVariants.{UnknownField, WrongShape, Repeated}

abbrev pub is_text : Value → Bool
is_text (simple quoted bytes) = true
is_text value = false

abbrev pub is_message : Value → Bool
is_message (inner fields) = true
is_message value = false

-- whether a value has a shape
abbrev pub has_shape : Shape → Value → Bool
has_shape Text value = is_text value
has_shape Number value = is_some (number_in_value value)
has_shape Truth value = is_some (truth_in_value value)
has_shape Options value = is_message value
has_shape (Inside inside) value = is_message value

-- the fault of a field, if it stands a second time and may stand once
abbrev pub repeated_by : Bool → List ℕ → Option ConfigFault
repeated_by true name = Some (Repeated name)
repeated_by false name = None

abbrev pub shaped_by : Bool → FieldRule → List Entry → List ℕ → Option ConfigFault
shaped_by true rule before name = repeated_by (not rule.many && list_any (has_name name) before) name
shaped_by false rule before name = Some (WrongShape (step rule.many name before))

-- The fault of a field itself, by the rule of its name and the fields before it. The field is unknown, its value has
-- another shape, or it stands a second time and may stand once.
abbrev pub own_fault : Option FieldRule → List Entry → List ℕ → Value → Option ConfigFault
own_fault None before name value = Some (UnknownField name)
own_fault (Some rule) before name value = shaped_by (has_shape rule.shape value) rule before name

-- the first fault, if there is one, or else the second
abbrev pub or_else : Option ConfigFault → Option ConfigFault → Option ConfigFault
or_else (Some fault) other = Some fault
or_else None other = other

abbrev pub fault_within : List ℕ → Option ConfigFault → Option ConfigFault
fault_within place None = None
fault_within place (Some fault) = Some (within place fault)

-- the fault of the fields inside a field, if they are judged
abbrev pub inside_fault : Option (Bool × Message) → List Entry → List ℕ → (Message → Option ConfigFault) → Option ConfigFault
inside_fault None before name fault = None
inside_fault (Some judged) before name fault = fault_within (step judged.0 name before) (fault judged.1)

abbrev pub inner_fault : Option FieldRule → List Entry → List ℕ → (Message → Option ConfigFault) → Option ConfigFault
inner_fault rule before name fault = inside_fault (judged_by rule) before name fault

-- the first fault of the fields of a message that stand after others
abbrev pub fault_after : Fields → Message → List Entry → Option ConfigFault
fault_after none kind before = None
fault_after (scalar name form bytes rest) kind before =
    or_else (own_fault (rule_of kind name) before name (simple form bytes))
    (fault_after rest kind (before ++ entry name (simple form bytes) ∷ []))
fault_after (message name fields rest) kind before =
    or_else (own_fault (rule_of kind name) before name (inner fields))
    (or_else (inner_fault (rule_of kind name) before name (λ inside. fault_after fields inside []))
    (fault_after rest kind (before ++ entry name (inner fields) ∷ [])))

-- the first fault of the fields of a message
abbrev pub field_fault : Message → Fields → Option ConfigFault
field_fault kind fields = fault_after fields kind []

-- the path of the calculator of the node with a number
abbrev pub calculator_path : ℕ → List ℕ
calculator_path k = below (numbered (codes "node") k) (codes "calculator")

-- the fault of the first node whose calculator is absent or empty; the nodes are counted from k on
abbrev pub calculator_fault : ℕ → List Fields → Option ConfigFault
calculator_fault k [] = None
calculator_fault k (fields ∷ more) =
    if bytes_eq (text_in (codes "calculator") (entries fields)) [] then Some (WrongShape (calculator_path k)) else calculator_fault (suc k) more
