-- What is kept of a free node goes on with what it has taken.
use Rattle.std.proofs.Common.{◌≡◌, ℕ, ◌+◌, Bool, true, false, List, [], ◌∷◌, ◌++◌, drop, length, length-append, slice_index_or, if◌then◌else◌, refl, sym, ap, ◌∙◌, subst, arith}
use Rattle.std.proofs.lemmas.List.{append-nil}
use Rattle.std.proofs.lemmas.List.Sums.{fold-append}
use Rattle.mg_time.specs.Time.{done}
use Rattle.mg_value.specs.Payload.{Plain}
use Rattle.mg_value.specs.Packet.{Stamped}
use Rattle.mg_settled.specs.Prefix.{StreamPrefix, closed}
use Rattle.mg_free.specs.declared.law.FreeLaw.{FreeLaw}
use Rattle.mg_free.specs.declared.node.FreeNode.{FreeNode}
use Rattle.mg_free.specs.Code.Room.{rest_handed}
use Rattle.mg_free.specs.Free.{Arrival, Flow, FreeRest, IsRestOf, begun, nothing_laid, arrived}
use Rattle.mg_free.specs.Logs.{flow_of}
use Rattle.mg_free.specs.Rounds.{Taken, output_so_far}
use Rattle.mg_free.proofs.Keeping.{nothing_gone}
use Rattle.mg_live.specs.declared.taker.Taker.{Taker}
use Rattle.mg_live.specs.Takes.{HasTaken, HasHanded, piece_behind}
use Rattle.mg_live.specs.Code.Counted.{HasCounted}
use Rattle.mg_live.proofs.HandedOn.{drop_front}

pub counted_of : (free : FreeNode) (taken : Taken) (taker : Taker) → HasTaken free taken taker → HasCounted free taken taker
counted_of free taken taker h = record { law = h.law; ports = h.ports; counts = h.counts; log = h.log; closed = h.closed }

pub taken_of : (free : FreeNode) (taken : Taken) (taker : Taker) → HasCounted free taken taker → IsRestOf (flow_of free.law taken.log) taker.state.rest → HasTaken free taken taker
taken_of free taken taker c rest = record { law = c.law; flow = rest; ports = c.ports; counts = c.counts; log = c.log; closed = c.closed }

-- at first
pub none_taken : (free : FreeNode) (taker : Taker) → HasCounted free (record { log = []; closed = false }) taker → taker.state.rest ≡ nothing_laid → HasTaken free (record { log = []; closed = false }) taker
none_taken free taker c is = taken_of free (record { log = []; closed = false }) taker c (subst (λ (r : FreeRest). IsRestOf begun r) (sym is) nothing_gone)

-- after an arrival
pub taken_with : (free : FreeNode) (taken : Taken) (before now : Taker) (a : Arrival Plain) → HasTaken free taken before → HasCounted free (record { log = taken.log ++ a ∷ []; closed = taken.closed }) now
    → IsRestOf (arrived before.state.law (flow_of free.law taken.log) a) now.state.rest → HasTaken free (record { log = taken.log ++ a ∷ []; closed = taken.closed }) now
taken_with free taken before now a h c rest =
    taken_of free (record { log = taken.log ++ a ∷ []; closed = taken.closed }) now c
    (subst (λ (f : Flow Plain). IsRestOf f now.state.rest) (sym (fold-append (arrived free.law) begun taken.log (a ∷ [])))
    (subst (λ (l : FreeLaw). IsRestOf (arrived l (flow_of free.law taken.log) a) now.state.rest) h.law rest))

-- What is handed on.

-- an output that may be closed
abbrev out_by : StreamPrefix Plain → Bool → StreamPrefix Plain
out_by s shut = elim shut [ true ↦ closed s | false ↦ s ]

out_long : (s : StreamPrefix Plain) (shut : Bool) → length (out_by s shut).packets ≡ length s.packets
out_long s true = refl
out_long s false = refl

abbrev ended_by : FreeRest → Bool → StreamPrefix Plain
ended_by rest shut = record { packets = rest.piece.packets; bound = (if shut then done else rest.piece.bound) }

kept_packets : (flow : Flow Plain) (rest : FreeRest) → IsRestOf flow rest → rest.piece.packets ≡ drop rest.handed flow.output.packets
kept_packets flow rest h =
    sym (ap (λ (ps : List (Stamped Plain)). drop rest.handed ps) h.packets ∙ ap (λ (n : ℕ). drop n (h.gone ++ rest.piece.packets)) h.count ∙ drop_front h.gone rest.piece.packets)

ended_behind : (flow : Flow Plain) (rest : FreeRest) (shut : Bool) → IsRestOf flow rest → ended_by rest shut ≡ piece_behind rest.handed (out_by flow.output shut)
ended_behind flow rest true h = λ i. record { packets = kept_packets flow rest h i; bound = done }
ended_behind flow rest false h = λ i. record { packets = kept_packets flow rest h i; bound = sym h.bound i }

pub piece_is : (free : FreeNode) (taken : Taken) (taker : Taker) → HasTaken free taken taker
    → record { packets = taker.state.rest.piece.packets; bound = (if taker.closed then done else taker.state.rest.piece.bound) } ≡ piece_behind taker.state.rest.handed (output_so_far free taken)
piece_is free taken taker h = ap (ended_by taker.state.rest) h.closed ∙ ended_behind (flow_of free.law taken.log) taker.state.rest taken.closed h.flow

-- how many were handed on then
pub handed_all : (free : FreeNode) (taken : Taken) (before now : Taker) → HasTaken free taken before → now.state.rest ≡ rest_handed before.state.rest → HasHanded free taken now
handed_all free taken before now h is =
    let all = ap (λ (ps : List (Stamped Plain)). length ps) h.flow.packets in
    let both = length-append h.flow.gone before.state.rest.piece.packets in
    let count = h.flow.count in
    let long = out_long (flow_of free.law taken.log).output taken.closed in
    ap (λ (r : FreeRest). r.handed) is ∙ (let e : before.state.rest.handed + length before.state.rest.piece.packets ≡ length (out_by (flow_of free.law taken.log).output taken.closed).packets = omega (arith, all, both, count, long) in e)

-- and what is kept then is of the same flow
rest_on : (flow : Flow Plain) (rest : FreeRest) → IsRestOf flow rest → IsRestOf flow (rest_handed rest)
rest_on flow rest h = record {
  gone = h.gone ++ rest.piece.packets;
  packets = h.packets ∙ sym (append-nil (h.gone ++ rest.piece.packets));
  count = (let count = h.count in let both = length-append h.gone rest.piece.packets in omega (arith, count, both));
  bound = h.bound;
  flight = h.flight;
}

-- what else a taker has stays as it was
abbrev pub KeepsCounts : Taker → Taker → Type 0
KeepsCounts before now = (now.state.law ≡ before.state.law) × (now.counts ≡ before.counts) × (now.log ≡ before.log) × (now.closed ≡ before.closed)

pub taken_still : (free : FreeNode) (taken : Taken) (before now : Taker) → HasTaken free taken before → now.state.rest ≡ rest_handed before.state.rest → KeepsCounts before now → HasTaken free taken now
taken_still free taken before now h is others = record {
  law = others.0 ∙ h.law;
  flow = subst (λ (r : FreeRest). IsRestOf (flow_of free.law taken.log) r) (sym is) (rest_on (flow_of free.law taken.log) before.state.rest h.flow);
  ports = ap (λ v. length v.items) others.1 ∙ h.ports;
  counts = λ port within. ap (λ v. slice_index_or v.items port 0) others.1 ∙ h.counts port within;
  log = ap (λ v. v.items) others.2 ∙ h.log;
  closed = others.3 ∙ h.closed;
}
