-- What a turn of a free node looks at: the next packet at each port, and the bounds of the streams.
use Rattle.std.proofs.Common.{◌≡◌, ℕ, zero, suc, ◌+◌, Bool, true, false, ◌&&◌, ◌==◌, List, [], ◌∷◌, map, length, Option, Some, None, slice_get, option_map, refl, ap, ap₂, ◌∙◌, subst, arith}
use Rattle.std.specs.List.{cons_option, list_all}
use Rattle.mg_time.specs.Time.{done}
use Rattle.mg_value.specs.Payload.{Plain}
use Rattle.mg_value.specs.Packet.{Stamped}
use Rattle.mg_settled.specs.Prefix.{StreamPrefix}
use Rattle.mg_calc.specs.Equations.{stream_of}
use Rattle.mg_free.specs.declared.law.FreeLaw.{FreeLaw}
use Rattle.mg_free.specs.declared.law.FreeLaw.TheVariants.{FirstCome, Limiter}
use Rattle.mg_free.specs.declared.node.FreeNode.{FreeNode}
use Rattle.mg_free.specs.Free.{Arrival}
use Rattle.mg_free.specs.Logs.{arrived_at, has_ended}
use Rattle.mg_free.specs.Rounds.{Taken, free_inputs, next_arrivals, last_of, with_next, turn}
use Rattle.mg_free.proofs.Turning.{arrivals_from}

-- At each port of a free node the next packet and the bound are the same in two lists of streams.
pub record SeesAlike (one two : List (StreamPrefix Plain)) (free : FreeNode) (taken : Taken) : Type 0 where
  pub packets : (port stream : ℕ) → slice_get free.inputs port ≡ Some stream
      → slice_get (stream_of one stream).packets (length (arrived_at port taken.log)) ≡ slice_get (stream_of two stream).packets (length (arrived_at port taken.log))
  pub bounds : (port stream : ℕ) → slice_get free.inputs port ≡ Some stream → (stream_of one stream).bound ≡ (stream_of two stream).bound

-- the next packet of a stream at a port
abbrev next_in : List (Arrival Plain) → List (StreamPrefix Plain) → ℕ → ℕ → Option (Stamped Plain)
next_in log ss port stream = slice_get (stream_of ss stream).packets (length (arrived_at port log))

arrivals_alike : (one two : List (StreamPrefix Plain)) (log : List (Arrival Plain)) (n : ℕ) (inputs : List ℕ) → ((port stream : ℕ) → slice_get inputs port ≡ Some stream → next_in log one (n + port) stream ≡ next_in log two (n + port) stream)
    → arrivals_from log n (map (stream_of one) inputs) ≡ arrivals_from log n (map (stream_of two) inputs)
arrivals_alike one two log n [] same = refl
arrivals_alike one two log n (s ∷ inputs) same =
    let here : n + 0 ≡ n = omega arith in
    ap₂ (λ (o : Option (Stamped Plain)) (later : List (Arrival Plain)). cons_option (option_map (λ p. record { port = n; packet = p }) o) later)
    (subst (λ (k : ℕ). next_in log one k s ≡ next_in log two k s) here (same zero s refl))
    (arrivals_alike one two log (n + 1) inputs (λ port stream at.
    let there : n + suc port ≡ n + 1 + port = omega arith in
    subst (λ (k : ℕ). next_in log one k stream ≡ next_in log two k stream) there (same (suc port) stream at)))

all_ended_alike : (one two : List (StreamPrefix Plain)) (inputs : List ℕ) → ((port stream : ℕ) → slice_get inputs port ≡ Some stream → (stream_of one stream).bound ≡ (stream_of two stream).bound)
    → list_all (λ s. s.bound == done) (map (stream_of one) inputs) ≡ list_all (λ s. s.bound == done) (map (stream_of two) inputs)
all_ended_alike one two [] same = refl
all_ended_alike one two (s ∷ inputs) same =
    ap₂ (λ (b c : Bool). b && c) (ap (λ (bound : ℕ). bound == done) (same zero s refl)) (all_ended_alike one two inputs (λ port stream at. same (suc port) stream at))

ended_alike : (law : FreeLaw) (one two : List (StreamPrefix Plain)) (inputs : List ℕ) → ((port stream : ℕ) → slice_get inputs port ≡ Some stream → (stream_of one stream).bound ≡ (stream_of two stream).bound)
    → has_ended law (map (stream_of one) inputs) ≡ has_ended law (map (stream_of two) inputs)
ended_alike (FirstCome lanes) one two inputs same = all_ended_alike one two inputs same
ended_alike (Limiter most) one two [] same = refl
ended_alike (Limiter most) one two (s ∷ inputs) same = ap (λ (bound : ℕ). (bound == done) && true) (same zero s refl)

next_alike : (one two : List (StreamPrefix Plain)) (free : FreeNode) (taken : Taken) (next : Option (Arrival Plain)) → has_ended free.law (free_inputs one free) ≡ has_ended free.law (free_inputs two free) → with_next one free taken next ≡ with_next two free taken next
next_alike one two free taken (Some a) same = refl
next_alike one two free taken None same = ap (λ (b : Bool). (elim b [ true ↦ record { log = taken.log; closed = true } | false ↦ taken ])) same

-- so the node's turn is the same
pub turn_alike : (one two : List (StreamPrefix Plain)) (free : FreeNode) (taken : Taken) → SeesAlike one two free taken → turn one free taken ≡ turn two free taken
turn_alike one two free taken h =
    next_alike one two free taken (last_of (next_arrivals one free taken)) (ended_alike free.law one two free.inputs h.bounds)
    ∙ ap (λ (arrivals : List (Arrival Plain)). with_next two free taken (last_of arrivals)) (arrivals_alike one two taken.log 0 free.inputs (λ port stream at.
    let here : port ≡ 0 + port = omega arith in
    subst (λ (k : ℕ). next_in taken.log one k stream ≡ next_in taken.log two k stream) here (h.packets port stream at)))
