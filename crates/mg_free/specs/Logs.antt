-- Logs: the arrivals of a free node, in order. What a free node lays is a function of its log.
use Rattle.std.specs.Prelude.{◌≡◌, ℕ, ◌<◌, ◌==◌, Bool, List, [], ◌∷◌, map, filter, take, length, All, if◌then◌else◌}
use Rattle.std.specs.List.{fold, list_all}
use Rattle.mg_time.specs.Time.{done}
use Rattle.mg_value.specs.Packet.{Stamped}
use Rattle.mg_settled.specs.Prefix.{StreamPrefix, closed}
use Rattle.mg_settled.specs.Settled.{port_of}
use Rattle.mg_free.specs.declared.law.FreeLaw.{FreeLaw}
use Rattle.mg_free.specs.declared.law.FreeLaw.TheVariants.{FirstCome, Limiter}
use Rattle.mg_free.specs.Free.{Arrival, Flow, begun, arrived, MayArrive}

-- the flow of a free node after the arrivals of a log
abbrev pub flow_of : {X : Type 0} → FreeLaw → List (Arrival X) → Flow X
flow_of law log = fold (arrived law) begun log

-- each arrival of a log may come once those before it have come
abbrev pub MayAllArrive : {X : Type 0} → FreeLaw → Flow X → List (Arrival X) → Type 0
MayAllArrive law flow [] = Unit {0}
MayAllArrive law flow (arrival ∷ log) = MayArrive law flow arrival × MayAllArrive law (arrived law flow arrival) log

-- the packets that arrived at a port
abbrev pub arrived_at : {X : Type 0} → ℕ → List (Arrival X) → List (Stamped X)
arrived_at port log = map (λ a. a.packet) (filter (λ a. a.port == port) log)

-- a log is lawful so far at input streams, one stream per port: at each port the stream's first packets have arrived, in order
pub record IsLawfulSoFar {X : Type 0} (inputs : List (StreamPrefix X)) (log : List (Arrival X)) : Type 0 where
  pub ports : All (λ a. a.port < length inputs) log
  pub first : (port : ℕ) → port < length inputs → arrived_at port log ≡ take (length (arrived_at port log)) (port_of inputs port).packets

-- a log is lawful: at each port all packets of its stream have arrived, in order
pub record IsLawful {X : Type 0} (inputs : List (StreamPrefix X)) (log : List (Arrival X)) : Type 0 where
  pub ports : All (λ a. a.port < length inputs) log
  pub all : (port : ℕ) → port < length inputs → arrived_at port log ≡ (port_of inputs port).packets

-- the input streams that have to end before the output ends: all of them, and for Limiter the first
abbrev pub ending : {X : Type 0} → FreeLaw → List (StreamPrefix X) → List (StreamPrefix X)
ending (FirstCome lanes) inputs = inputs
ending (Limiter most) inputs = take 1 inputs

-- whether the input streams have ended that have to end before the output ends
abbrev pub has_ended : {X : Type 0} → FreeLaw → List (StreamPrefix X) → Bool
has_ended law inputs = list_all (λ s. s.bound == done) (ending law inputs)

-- the output of a free node once all packets of its input streams have arrived, by its log
abbrev pub output_of : {X : Type 0} → FreeLaw → List (StreamPrefix X) → List (Arrival X) → StreamPrefix X
output_of law inputs log = if has_ended law inputs then closed (flow_of law log).output else (flow_of law log).output
