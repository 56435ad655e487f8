-- What the names inside a file become where a node uses the file.
use Rattle.std.specs.Prelude.{ℕ, ◌+◌, List, [], ◌∷◌, ◌++◌, Bool, not, ◌&&◌, ◌==◌, nat_lt, slice_index, Option, unwrap_or, map, codes, option_map, find, drop}
use Rattle.std.specs.Option.{option_or, option_and_then}
use Rattle.std.specs.List.{prefix_len}
use Rattle.std.specs.Str.{bytes_eq}
use Rattle.std.specs.Fmt.{decimal}
use Rattle.mg_names.specs.Grammar.{is_digit}
use Rattle.mg_names.specs.Ports.{is_at}
use Rattle.mg_names.specs.declared.port.Port.{Port}
use Rattle.mg_config.specs.Config.{NodeView, GraphView}

-- whether a text isn't empty and is this name
abbrev pub names : List ℕ → List ℕ → Bool
names text name = not (bytes_eq text []) && bytes_eq text name

-- `s<n>__`: what stands in front of the inner names of the node with the number n
abbrev pub prefix : ℕ → List ℕ
prefix n = codes "s" ++ decimal n ++ codes "__"

-- how many digits follow the first byte of a name
abbrev pub digit_count : List ℕ → ℕ
digit_count name = prefix_len is_digit (drop 1 name)

-- whether a name begins with `s`, one digit or more, and `__`
abbrev pub is_reserved : List ℕ → Bool
is_reserved name =
    (slice_index name 0 == 115) && nat_lt 0 (digit_count name)
    && (slice_index name (digit_count name + 1) == 95) && (slice_index name (digit_count name + 2) == 95)

-- The outer name of an inner name. It stands at the node's port with the tag and index of the file's port at which the
-- inner name stands. There is none if the inner name stands at no port of the file, or the node doesn't connect that
-- port.
abbrev pub outer_name : List Port → List Port → List ℕ → Option (List ℕ)
outer_name given ports name =
    option_and_then (λ port. option_map (λ outer. outer.name) (find (is_at port.tag port.index) given)) (find (λ port. names name port.name) ports)

-- the outer name of a name at a port that comes in, or else at a port that goes out
abbrev pub joined_name : List Port → List Port → List Port → List Port → List ℕ → Option (List ℕ)
joined_name given_in given_out inputs outputs name = option_or (outer_name given_in inputs name) (outer_name given_out outputs name)

-- the outer name of a stream of a file, where a node uses the file
abbrev pub outer_stream : NodeView → GraphView → List ℕ → Option (List ℕ)
outer_stream node file = joined_name node.inputs node.outputs file.inputs file.outputs

-- the outer name of a side packet of a file, where a node uses the file
abbrev pub outer_side : NodeView → GraphView → List ℕ → Option (List ℕ)
outer_side node file = joined_name node.input_sides node.output_sides file.input_sides file.output_sides

-- the new name of a stream of a file: the outer name, or else the inner name with the prefix of the node's number
abbrev pub stream_name : ℕ → NodeView → GraphView → List ℕ → List ℕ
stream_name n node file name = unwrap_or (outer_stream node file name) (prefix n ++ name)

-- the new name of a side packet of a file, likewise
abbrev pub side_name : ℕ → NodeView → GraphView → List ℕ → List ℕ
side_name n node file name = unwrap_or (outer_side node file name) (prefix n ++ name)

-- the new name of a node of a file: the name with the prefix, or the empty name if the name is empty
abbrev pub node_name : ℕ → List ℕ → List ℕ
node_name n [] = []
node_name n (first ∷ rest) = prefix n ++ first ∷ rest

-- a port of the same tag and index with another name
abbrev pub renamed_port : (List ℕ → List ℕ) → Port → Port
renamed_port rename port = record port { name = rename port.name }

-- ports of the same tags and indexes with other names
abbrev pub renamed_ports : (List ℕ → List ℕ) → List Port → List Port
renamed_ports rename ports = map (renamed_port rename) ports

-- a node from inside a file, where the node with the number n uses the file
abbrev pub renamed : ℕ → NodeView → GraphView → NodeView → NodeView
renamed n node file inner = record inner {
  name = node_name n inner.name;
  inputs = renamed_ports (stream_name n node file) inner.inputs;
  outputs = renamed_ports (stream_name n node file) inner.outputs;
  input_sides = renamed_ports (side_name n node file) inner.input_sides;
  output_sides = renamed_ports (side_name n node file) inner.output_sides;
}
