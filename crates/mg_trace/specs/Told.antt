-- Jobs that packet lines can tell.
use Rattle.std.specs.Prelude.{◌≡◌, ◌≤◌, ◌⊎◌, ℕ, Bool, true, List, length, Some, IfSome, IsUtf8, All, slice_get, unwrap_or, ⊤}
use Rattle.mg_time.specs.Time.{done, IsAllowed}
use Rattle.mg_value.specs.Plain.{depth, NumbersFit}
use Rattle.mg_value.specs.Payload.{Plain}
use Rattle.mg_value.specs.declared.kind.Kind.{Kind}
use Rattle.mg_value.specs.declared.kind.Kind.TheVariants.{Any}
use Rattle.mg_json.specs.Json.{json_of}
use Rattle.mg_settled.specs.Prefix.{StreamPrefix, IsPrefix}
use Rattle.mg_calc.specs.Side.{PlainSideValue, given_at, fixed}
use Rattle.mg_calc.specs.Plan.{InputsFit, given_places, numbers}
use Rattle.mg_calc.specs.declared.inputs.Inputs.{Inputs}
use Rattle.mg_calc.specs.declared.plan.Plan.{Plan}
use Rattle.mg_feed.specs.Graph.{inputs_of, place_of}
use Rattle.mg_trace.specs.Readable.{IsReadable}
use Rattle.mg_feed.specs.Value.{takes}
use Rattle.mg_feed.specs.Accepted.{longest_line, most_lines}
use Rattle.mg_trace.specs.Job.{input_names, bound_after, job_lines}

-- a payload that lines can tell. Its JSON value is readable, its whole numbers have 64 signed bits, and it nests no deeper than the
-- payload of a packet line may
pub record IsTellable (value : Plain) : Type 0 where
  pub readable : IsReadable (json_of value)
  pub numbers : NumbersFit value
  pub shallow : depth value ≤ 16

-- the name of a user-supplied side packet leads to its place
abbrev pub IsFound : Plan → List ℕ → PlainSideValue → Type 0
IsFound plan name (given_at place) = place_of (inputs_of plan).sides name ≡ Some place
IsFound plan name (fixed value) = ⊤

-- the names of a plan's inputs are UTF-8, and each is that of its own input alone
pub record HasNames (plan : Plan) : Type 0 where
  pub streams : (input : ℕ) (name : List ℕ) → slice_get (input_names plan) input ≡ Some name → IsUtf8 name × (place_of (inputs_of plan).streams name ≡ Some input)
  pub all_streams : length (input_names plan) ≡ length plan.inputs
  pub sides : All (λ side. IsUtf8 side.name × IsFound plan side.name side.value) plan.sides
  pub places : given_places plan ≡ numbers (length (given_places plan))

-- a bound that lines can tell: that of a closed stream, the bound that the packets leave, or a bound that a line may have
abbrev pub IsToldBound : StreamPrefix Plain → Type 0
IsToldBound s = (s.bound ≡ done) ⊎ ((s.bound ≡ bound_after s.packets) ⊎ IsAllowed s.bound)

-- a stream that lines can tell. If the input ended well, it is closed
pub record IsToldStream (ended : Bool) (s : StreamPrefix Plain) : Type 0 where
  pub prefix : IsPrefix s
  pub bound : IsToldBound s
  pub closed : ended ≡ true → s.bound ≡ done
  pub values : All (λ p. IsTellable p.value) s.packets

-- the inputs of a job that lines can tell
pub record IsTold (plan : Plan) (inputs : Inputs) : Type 0 where
  pub names : HasNames plan
  pub fit : InputsFit plan inputs
  pub streams : All (IsToldStream inputs.ended) inputs.streams
  pub sides : All (λ side. IfSome side IsTellable) inputs.sides

-- the kind that a graph input takes
abbrev pub kind_of : Plan → ℕ → Kind
kind_of plan input = unwrap_or (slice_get (inputs_of plan).kinds input) Any

-- each packet is of its stream's kind
abbrev pub HasKinds : Plan → Inputs → Type 0
HasKinds plan inputs = (input : ℕ) (s : StreamPrefix Plain) → slice_get inputs.streams input ≡ Some s → All (λ p. takes (kind_of plan input) p.value ≡ true) s.packets

-- the canonical lines of a job are no longer and no more than those of an input may be. Each packet is of its stream's kind
pub record FitsInput (plan : Plan) (inputs : Inputs) : Type 0 where
  pub short : All (λ line. length line ≤ longest_line) (job_lines plan inputs)
  pub few : length (job_lines plan inputs) ≤ most_lines
  pub kinds : HasKinds plan inputs
