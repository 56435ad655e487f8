-- What is known of a stream while the ports that read it are gone through: its kind so far, and whether two kinds clashed.
use Rattle.std.specs.Prelude.{ℕ, List, [], ◌∷◌, false, not, ◌&&◌, ◌||◌, Option, None, Some, if◌then◌else◌, slice_get, slice_set, map, zip}
use Rattle.mg_value.specs.declared.kind.Kind.{Kind}
use Rattle.mg_calc.specs.declared.edge.Edge.{Edge}
use Rattle.mg_check.specs.Meeting.{PortReading, is_any, is_kind, inferred_kind, clashes}
use Rattle.mg_check.specs.declared.inferred.Inferred.{Inferred}

-- what is known of a stream by the port that writes it
abbrev pub begun : Kind → Inferred
begun kind = record { kind = kind; clash = false }

-- what is known of a stream after one more port, of this kind
abbrev pub meet : Inferred → Kind → Inferred
meet inferred kind =
    if is_any inferred.kind then record { kind = kind; clash = inferred.clash }
    else record { kind = inferred.kind; clash = inferred.clash || not (is_any kind) && not (is_kind kind inferred.kind) }

-- What is known of all streams after one more port, which reads the stream of a number. The last argument is what was known of that stream.
abbrev pub meet_by : List Inferred → ℕ → Kind → Option Inferred → List Inferred
meet_by mets stream kind None = mets
meet_by mets stream kind (Some inferred) = slice_set mets stream (meet inferred kind)

-- what is known of all streams after one more port, which reads the stream of a number
abbrev pub meet_at : List Inferred → ℕ → Kind → List Inferred
meet_at mets stream kind = meet_by mets stream kind (slice_get mets stream)

-- what is known of all streams after all these ports
abbrev pub meet_all : List Inferred → List PortReading → List Inferred
meet_all mets [] = mets
meet_all mets (r ∷ rs) = meet_all (meet_at mets r.stream r.kind) rs

-- the ports that read streams, by the edges into them and their kinds
abbrev pub readings_of : List Edge → List Kind → List PortReading
readings_of edges kinds = map (λ e. record { stream = e.0.stream; kind = e.1 }) (zip edges kinds)

-- what is known of a stream at which these kinds met
abbrev pub inferred_of : List Kind → Inferred
inferred_of kinds = record { kind = inferred_kind kinds; clash = clashes kinds }
