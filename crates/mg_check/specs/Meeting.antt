-- The kinds that meet at a stream: that of the port that writes it, and those of the ports that read it.
use Rattle.std.specs.Prelude.{ℕ, List, [], ◌∷◌, Bool, true, false, not, ◌&&◌, ◌==◌, if◌then◌else◌, map, filter}
use Rattle.std.specs.List.{list_any, enumerate_from}
use Rattle.mg_value.specs.declared.kind.Kind.{Kind}
use Rattle.mg_value.specs.declared.kind.Kind.TheVariants.{Any, Flag, Int, Text, Items, Record}

abbrev pub is_any : Kind → Bool
is_any Any = true
is_any kind = false

abbrev pub is_kind : Kind → Kind → Bool
is_kind Any Any = true
is_kind Flag Flag = true
is_kind Int Int = true
is_kind Text Text = true
is_kind Items Items = true
is_kind Record Record = true
is_kind a b = false

-- the kind of a stream is the first other than Any, or else Any
abbrev pub inferred_kind : List Kind → Kind
inferred_kind [] = Any
inferred_kind (kind ∷ kinds) = if is_any kind then inferred_kind kinds else kind

-- whether two different kinds other than Any meet
abbrev pub clashes : List Kind → Bool
clashes kinds = list_any (λ kind. not (is_any kind) && not (is_kind kind (inferred_kind kinds))) kinds

-- a port that reads: the number of its stream, and its kind
pub record PortReading : Type 0 where
  pub stream : ℕ
  pub kind : Kind

-- the kinds that meet at the stream of a number, which a port of this kind writes
abbrev pub kinds_at : List PortReading → ℕ → Kind → List Kind
kinds_at readings number written = written ∷ map (λ r. r.kind) (filter (λ r. r.stream == number) readings)

-- the kinds that meet at each stream, by the kinds of the ports that write and the ports that read
abbrev pub meetings : List Kind → List PortReading → List (List Kind)
meetings written readings = map (λ e. kinds_at readings e.0 e.1) (enumerate_from 0 written)
