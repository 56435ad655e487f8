-- The streams and side packets of a plan, made of lists of what is known of each.
use Rattle.std.specs.Prelude.{ℕ, List, map, zip}
use Rattle.std.specs.List.{enumerate_from}
use Rattle.mg_value.specs.Plain.{Plain}
use Rattle.mg_calc.specs.Side.{PlainSide, given_at, fixed}
use Rattle.mg_calc.specs.declared.plan_stream.PlanStream.{PlanStream}
use Rattle.mg_calc.specs.declared.plan_stream.Producer.{Producer}
use Rattle.mg_check.specs.declared.inferred.Inferred.{Inferred}

-- the plan's stream by its name, what is known of its kind, and its producer
abbrev pub stream_of : List ℕ × (Inferred × Producer) → PlanStream
stream_of e = record { name = e.0; kind = e.1.0.kind; producer = e.1.1 }

abbrev pub streams_of : List (List ℕ) → List Inferred → List Producer → List PlanStream
streams_of names mets writers = map stream_of (zip names (zip mets writers))

-- the graph's input side packets, with their places counted from a number on
abbrev pub given_from : ℕ → List (List ℕ) → List PlainSide
given_from from names = map (λ e. record { name = e.1; value = given_at e.0 }) (enumerate_from from names)

-- the side packets that a node writes, with these payloads
abbrev pub fixed_by : List (List ℕ) → List Plain → List PlainSide
fixed_by names constants = map (λ e. record { name = e.0; value = fixed e.1 }) (zip names constants)
