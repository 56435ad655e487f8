-- What a fault says of ports is never out of memory.
use Rattle.std.proofs.Common.{ℕ, suc, ◌≢◌, List, [], ◌∷◌, ◌++◌, Bool, true, false, Option, None, Some, Result, Ok, Err, if◌then◌else◌, not, ◌&&◌, subst, refl, codes}
use Rattle.std.specs.List.{list_any}
use Rattle.std.specs.Str.{bytes_eq}
use Rattle.mg_text.specs.Tree.{Fields, none, scalar, message}
use Rattle.mg_text.specs.View.{Value, simple, inner, Entry}
use Rattle.mg_names.specs.TagIndex.{tag_index_of}
use Rattle.mg_names.specs.Ports.{placed_ports_of}
use Rattle.mg_names.specs.declared.port.Port.{Port}
use Rattle.mg_names.specs.declared.fault.NameFault.{NameFault}
use Rattle.mg_names.specs.declared.fault.NameFault.TheVariants as names
use Rattle.mg_names.specs.declared.placed_fault.PlacedFault.{PlacedFault}
use Rattle.mg_names.specs.declared.placed_fault.PlacedFault.TheVariants as placed
use Rattle.mg_names.proofs.Causes.{IsPlaced, placed_ports_caused, tag_index_caused}
use Rattle.mg_names.proofs.Causes as texts
use Rattle.mg_config.specs.Schema.{rule_of, judged_by}
use Rattle.mg_config.specs.Values.{entry, entries, has_name, texts_in, text_in, truth_in, messages_in}
use Rattle.mg_config.specs.Path.{step, numbered, within, result_within, then_do}
use Rattle.mg_config.specs.Faults.{has_shape, repeated_by, shaped_by, own_fault, or_else, fault_within, inside_fault, inner_fault, fault_after, calculator_fault, calculator_path}
use Rattle.mg_config.specs.Config.{ports_by, ports_in, pair_in, streams_in, sides_in, mark_by, mark_in, kept, marks_from, node_with, node_of, nodes_from, graph_with, graph_of, unless, config_of}
use Rattle.mg_config.specs.declared.schema.FieldRule.{FieldRule}
use Rattle.mg_config.specs.declared.schema.Message.{Message}
use Rattle.mg_config.specs.declared.schema.Message.TheVariants.{Graph}
use Rattle.mg_config.specs.declared.ports.PortPair.{PortPair}
use Rattle.mg_config.specs.declared.fault.ConfigFault.{ConfigFault}
use Rattle.mg_config.specs.declared.fault.ConfigFault.TheVariants.{UnknownField, WrongShape, Repeated, BadPort, OutOfMemory}

abbrev HasCause : ConfigFault → Type 0
HasCause (BadPort path cause) = cause ≢ names.OutOfMemory
HasCause fault = Unit {0}

within_caused : (place : List ℕ) (fault : ConfigFault) → HasCause fault → HasCause (within place fault)
within_caused place (UnknownField path) caused = tt
within_caused place (WrongShape path) caused = tt
within_caused place (Repeated path) caused = tt
within_caused place (BadPort path cause) caused = caused
within_caused place OutOfMemory caused = tt

-- faults of fields

abbrev MayBeCaused : Option ConfigFault → Type 0
MayBeCaused None = Unit {0}
MayBeCaused (Some fault) = HasCause fault

either_caused : (one other : Option ConfigFault) → MayBeCaused one → MayBeCaused other → MayBeCaused (or_else one other)
either_caused (Some fault) other first second = first
either_caused None other first second = second

own_caused : (rule : Option FieldRule) (before : List Entry) (name : List ℕ) (value : Value) → MayBeCaused (own_fault rule before name value)
own_caused None before name value = tt
own_caused (Some rule) before name value = by (has_shape rule.shape value)
  where
    again : (second : Bool) → MayBeCaused (repeated_by second name)
    again true = tt
    again false = tt

    by : (shaped : Bool) → MayBeCaused (shaped_by shaped rule before name)
    by true = again (not rule.many && list_any (has_name name) before)
    by false = tt

inside_caused : (place : List ℕ) (fault : Option ConfigFault) → MayBeCaused fault → MayBeCaused (fault_within place fault)
inside_caused place None caused = tt
inside_caused place (Some fault) caused = within_caused place fault caused

inner_caused : (judged : Option (Bool × Message)) (before : List Entry) (name : List ℕ) (fault : Message → Option ConfigFault) → ((kind : Message) → MayBeCaused (fault kind)) → MayBeCaused (inside_fault judged before name fault)
inner_caused None before name fault each = tt
inner_caused (Some judged) before name fault each = inside_caused (step judged.0 name before) (fault judged.1) (each judged.1)

fields_caused : (fields : Fields) (kind : Message) (before : List Entry) → MayBeCaused (fault_after fields kind before)
fields_caused none kind before = tt
fields_caused (scalar name form bytes rest) kind before =
    either_caused (own_fault (rule_of kind name) before name (simple form bytes)) (fault_after rest kind (before ++ entry name (simple form bytes) ∷ []))
    (own_caused (rule_of kind name) before name (simple form bytes)) (fields_caused rest kind (before ++ entry name (simple form bytes) ∷ []))
fields_caused (message name fields rest) kind before =
    either_caused (own_fault (rule_of kind name) before name (inner fields))
    (or_else (inner_fault (rule_of kind name) before name (λ inside. fault_after fields inside [])) (fault_after rest kind (before ++ entry name (inner fields) ∷ [])))
    (own_caused (rule_of kind name) before name (inner fields))
    (either_caused (inner_fault (rule_of kind name) before name (λ inside. fault_after fields inside [])) (fault_after rest kind (before ++ entry name (inner fields) ∷ []))
    (inner_caused (judged_by (rule_of kind name)) before name (λ inside. fault_after fields inside []) (λ inside. fields_caused fields inside []))
    (fields_caused rest kind (before ++ entry name (inner fields) ∷ [])))

calculators_caused : (k : ℕ) (nodes : List Fields) → MayBeCaused (calculator_fault k nodes)
calculators_caused k [] = tt
calculators_caused k (fields ∷ more) = by (bytes_eq (text_in (codes "calculator") (entries fields)) []) (calculators_caused (suc k) more)
  where
    by : (lacks : Bool) → MayBeCaused (calculator_fault (suc k) more) → MayBeCaused (if lacks then Some (WrongShape (calculator_path k)) else calculator_fault (suc k) more)
    by true later = tt
    by false later = later

-- faults of ports

abbrev IsCaused : {A : Type 0} → Result A ConfigFault → Type 0
IsCaused (Ok value) = Unit {0}
IsCaused (Err fault) = HasCause fault

then_caused : {A B : Type 0} (result : Result A ConfigFault) (next : A → Result B ConfigFault) → IsCaused result → ((value : A) → IsCaused (next value)) → IsCaused (then_do result next)
then_caused (Ok value) next caused each = each value
then_caused (Err fault) next caused each = caused

result_caused : {A : Type 0} (place : List ℕ) (result : Result A ConfigFault) → IsCaused result → IsCaused (result_within place result)
result_caused place (Ok value) caused = tt
result_caused place (Err fault) caused = within_caused place fault caused

ports_by_caused : (name : List ℕ) (result : Result (List Port) PlacedFault) → IsPlaced result → IsCaused (ports_by name result)
ports_by_caused name (Ok ports) caused = tt
ports_by_caused name (Err (placed.At place cause)) caused = caused
ports_by_caused name (Err (placed.Whole cause)) caused = caused
ports_by_caused name (Err placed.OutOfMemory) caused = tt

ports_caused : (name : List ℕ) (fields : List Entry) → IsCaused (ports_in name fields)
ports_caused name fields = ports_by_caused name (placed_ports_of (texts_in name fields)) (placed_ports_caused (texts_in name fields))

pair_caused : (input output : List ℕ) (fields : List Entry) → IsCaused (pair_in input output fields)
pair_caused input output fields =
    then_caused (ports_in input fields) (λ inputs. then_do (ports_in output fields) (λ outputs. Ok (record { inputs = inputs; outputs = outputs })))
    (ports_caused input fields)
    (λ inputs. then_caused (ports_in output fields) (λ outputs. Ok (record { inputs = inputs; outputs = outputs })) (ports_caused output fields) (λ outputs. tt))

mark_by_caused : (result : Result (List ℕ × ℕ) NameFault) → texts.IsCaused result → IsCaused (mark_by result)
mark_by_caused (Ok read) caused = tt
mark_by_caused (Err cause) caused = caused

marks_caused : (k : ℕ) (infos : List Fields) → IsCaused (marks_from k infos)
marks_caused k [] = tt
marks_caused k (fields ∷ more) =
    let place = numbered (codes "input_stream_info") k in
    then_caused (result_within place (mark_in (entries fields)))
    (λ mark. then_do (marks_from (suc k) more) (λ marks. Ok (kept (truth_in (codes "back_edge") (entries fields)) mark marks)))
    (result_caused place (mark_in (entries fields)) (mark_by_caused (tag_index_of (text_in (codes "tag_index") (entries fields))) (tag_index_caused (text_in (codes "tag_index") (entries fields)))))
    (λ mark. then_caused (marks_from (suc k) more) (λ marks. Ok (kept (truth_in (codes "back_edge") (entries fields)) mark marks)) (marks_caused (suc k) more) (λ marks. tt))

-- the ports of a graph or a node, and what follows them
lists_caused : {A : Type 0} (fields : List Entry) (next : PortPair → PortPair → Result A ConfigFault) → ((streams sides : PortPair) → IsCaused (next streams sides))
    → IsCaused (then_do (streams_in fields) (λ streams. then_do (sides_in fields) (λ sides. next streams sides)))
lists_caused fields next each =
    then_caused (streams_in fields) (λ streams. then_do (sides_in fields) (λ sides. next streams sides)) (pair_caused (codes "input_stream") (codes "output_stream") fields)
    (λ streams. then_caused (sides_in fields) (λ sides. next streams sides) (pair_caused (codes "input_side_packet") (codes "output_side_packet") fields) (each streams))

node_caused : (fields : List Entry) → IsCaused (node_of fields)
node_caused fields =
    lists_caused fields (λ streams sides. then_do (marks_from 0 (messages_in (codes "input_stream_info") fields)) (λ back_marks. Ok (node_with fields streams sides back_marks)))
    (λ streams sides. then_caused (marks_from 0 (messages_in (codes "input_stream_info") fields)) (λ back_marks. Ok (node_with fields streams sides back_marks))
    (marks_caused 0 (messages_in (codes "input_stream_info") fields)) (λ back_marks. tt))

nodes_caused : (k : ℕ) (nodes : List Fields) → IsCaused (nodes_from k nodes)
nodes_caused k [] = tt
nodes_caused k (fields ∷ more) =
    let place = numbered (codes "node") k in
    then_caused (result_within place (node_of (entries fields))) (λ node. then_do (nodes_from (suc k) more) (λ nodes. Ok (node ∷ nodes)))
    (result_caused place (node_of (entries fields)) (node_caused (entries fields)))
    (λ node. then_caused (nodes_from (suc k) more) (λ nodes. Ok (node ∷ nodes)) (nodes_caused (suc k) more) (λ nodes. tt))

graph_caused : (fields : List Entry) → IsCaused (graph_of fields)
graph_caused fields =
    lists_caused fields (λ streams sides. then_do (nodes_from 0 (messages_in (codes "node") fields)) (λ nodes. Ok (graph_with fields streams sides nodes)))
    (λ streams sides. then_caused (nodes_from 0 (messages_in (codes "node") fields)) (λ nodes. Ok (graph_with fields streams sides nodes))
    (nodes_caused 0 (messages_in (codes "node") fields)) (λ nodes. tt))

unless_caused : {A : Type 0} (fault : Option ConfigFault) (result : Result A ConfigFault) → MayBeCaused fault → IsCaused result → IsCaused (unless fault result)
unless_caused None result first second = second
unless_caused (Some fault) result first second = first

config_caused : (fields : Fields) → IsCaused (config_of fields)
config_caused fields =
    let nodes = messages_in (codes "node") (entries fields) in
    unless_caused (fault_after fields Graph []) (unless (calculator_fault 0 nodes) (graph_of (entries fields))) (fields_caused fields Graph [])
    (unless_caused (calculator_fault 0 nodes) (graph_of (entries fields)) (calculators_caused 0 nodes) (graph_caused (entries fields)))

pub never_for_memory : (fields : Fields) (path : List ℕ) → config_of fields ≢ Err (BadPort path names.OutOfMemory)
never_for_memory fields path answered =
    let caused : names.OutOfMemory ≢ names.OutOfMemory = subst IsCaused answered (config_caused fields) in
    caused refl
