-- What is kept of a free node, as it goes on.
use Rattle.std.proofs.Common.{◌≡◌, ℕ, zero, suc, ◌+◌, ◌<◌, ◌≤◌, cond, ◌==◌, List, [], ◌∷◌, ◌++◌, map, filter, fold, length, slice_get, get_or, Some, option_map, refl, sym, ap, ◌∙◌, subst, inl, inr, arith}
use Rattle.std.proofs.lemmas.Bool.{cases_Bool}
use Rattle.std.proofs.lemmas.List.{length-map}
use Rattle.std.proofs.lemmas.List.Elements.{recursion_from_All}
use Rattle.mg_time.specs.Time.{IsAllowed}
use Rattle.mg_value.specs.Payload.{Plain}
use Rattle.mg_value.specs.Packet.{Stamped}
use Rattle.mg_settled.specs.Prefix.{StreamPrefix, IsPrefix}
use Rattle.mg_settled.specs.Settled.{port_of}
use Rattle.mg_free.specs.declared.law.FreeLaw.{FreeLaw}
use Rattle.mg_free.specs.declared.node.FreeNode.{FreeNode}
use Rattle.mg_free.specs.Free.{Arrival, Flow, begun, arrived, MayArrive, ports_of}
use Rattle.mg_free.specs.Logs.{MayAllArrive, arrived_at}
use Rattle.mg_free.specs.Rounds.{Taken, free_inputs, next_arrivals, last_of}
use Rattle.mg_free.proofs.Logging.{lawful_may}
use Rattle.mg_free.proofs.Turning.{IsNext, lawful_with}
use Rattle.mg_live.specs.declared.arrived.Arrived.{Arrived}
use Rattle.mg_live.specs.declared.taker.Taker.{Taker}
use Rattle.mg_live.specs.Takes.{told, MayTurn}
use Rattle.mg_live.specs.Code.Counted.{HasCounted}
use Rattle.mg_live.proofs.LastWaits.{is_last}

-- fewer arrived at a port than in all
pub few_at : (port : ℕ) (log : List (Arrival Plain)) → length (arrived_at port log) ≤ length log
few_at port [] = omega arith
few_at port (a ∷ log) = elim (cases_Bool (a.port == port)) [
  | inl is ↦ (let rest = few_at port log in let e = ap (λ b. length (map (λ (x : Arrival Plain). x.packet) (cond b (a ∷ filter (λ x. x.port == port) log) (filter (λ x. x.port == port) log)))) is in omega (arith, rest, e))
  | inr isnt ↦ (let rest = few_at port log in let e = ap (λ b. length (map (λ (x : Arrival Plain). x.packet) (cond b (a ∷ filter (λ x. x.port == port) log) (filter (λ x. x.port == port) log)))) isnt in omega (arith, rest, e))
]

pub few_counted : (free : FreeNode) (taken : Taken) (taker : Taker) (port : ℕ) → HasCounted free taken taker → port < length free.inputs → get_or taker.counts.items port 0 ≤ length taker.log.items
few_counted free taken taker port h within =
    let count = h.counts port within in
    let few = few_at port taken.log in
    let long = ap (λ (l : List Arrived). length l) h.log ∙ length-map taken.log told in
    omega (arith, count, few, long)

same_get : (xs : List ℕ) (i a b : ℕ) → i < length xs → get_or xs i a ≡ get_or xs i b
same_get [] i a b less = absurd (omega (arith, less))
same_get (x ∷ xs) zero a b less = refl
same_get (x ∷ xs) (suc i) a b less = same_get xs i a b (omega (arith, less))

pub few_read : (free : FreeNode) (taken : Taken) (taker : Taker) (port n d : ℕ) → HasCounted free taken taker → port < length free.inputs → n ≡ get_or taker.counts.items port d → n ≤ length taker.log.items
few_read free taken taker port n d h within is =
    let few = few_counted free taken taker port h within in
    let ports = h.ports in
    let same = same_get taker.counts.items port d 0 (omega (arith, within, ports)) in
    omega (arith, few, same, is)

-- It may come.

last_may : (law : FreeLaw) (flow : Flow Plain) (log : List (Arrival Plain)) (a : Arrival Plain) → MayAllArrive law flow (log ++ a ∷ []) → MayArrive law (fold (arrived law) flow log) a
last_may law flow [] a may = may.0
last_may law flow (b ∷ log) a may = last_may law (arrived law flow b) log a may.1

pub may_come : (streams : List (StreamPrefix Plain)) (free : FreeNode) (taken : Taken) (port : ℕ) (packet : Stamped Plain) → MayTurn streams free taken
    → Some port ≡ option_map (λ a. a.port) (last_of (next_arrivals streams free taken))
    → Some packet ≡ slice_get (port_of (free_inputs streams free) port).packets (length (arrived_at port taken.log)) → IsAllowed packet.at
may_come streams free taken port packet may waits is =
    let l = is_last streams free taken port waits in
    let a : Arrival Plain = record { port = port; packet = packet } in
    let next : IsNext (free_inputs streams free) taken.log a = record { port = l.next.port; next = sym is } in
    let lawful = lawful_with (free_inputs streams free) taken.log a may.lawful next in
    let many : length (free_inputs streams free) ≡ ports_of free.law = length-map free.inputs _ ∙ may.ports in
    let all = lawful_may free.law (free_inputs streams free) (taken.log ++ a ∷ []) many (recursion_from_All IsPrefix (free_inputs streams free) may.prefixes) lawful in
    (last_may free.law begun taken.log a all).allowed
