-- What goes from a queue, packet by packet.
use Rattle.std.proofs.Common.{◌≡◌, ℕ, suc, ◌+◌, ◌<◌, true, List, [], ◌∷◌, drop, length, Some, option_map, slice_get, inl, inr, ap, ap₂, sym, refl, ◌∙◌, arith, ltb, leb, lt-ltb, eq-eqb}
use Rattle.std.specs.List.{prefix_len}
use Rattle.std.proofs.lemmas.Bool.{cases_order, ne_eqb, le-ltb, le-leb, lt-leb}
use Rattle.std.proofs.lemmas.List.{set-set}
use Rattle.mg_value.specs.Packet.{Stamped}
use Rattle.mg_settled.specs.Prefix.{IsPrefix}
use Rattle.mg_settled.specs.Settled.{packet_at}
use Rattle.mg_settled.proofs.Fronts.{one_more}
use Rattle.mg_settled.proofs.Climbs.{Climbs, prefix-climbs}
use Rattle.mg_settled.proofs.FirstSets.{found-first}
use Rattle.mg_stream.specs.Queue.{Waiting, rest_of, front_at, popped_at}
use Rattle.mg_stream.specs.Pool.{Backlog, Pooled, backlog_of, queue_at, with_queue}
use Rattle.mg_stream.proofs.Laid.{queue_at-with_queue}
use Rattle.mg_policy.specs.Code.Taking.{dropped_before, dropped_through}

-- a queue by its fields
abbrev queue : {X : Type 0} → ℕ → List (Stamped X) → ℕ → ℕ → Waiting X
queue g ps b s = record { gone = g; packets = ps; bound = b; spare = s }

same_queue : {X : Type 0} (g h : ℕ) (ps qs : List (Stamped X)) (b s t : ℕ) → g ≡ h → ps ≡ qs → s ≡ t → queue g ps b s ≡ queue h qs b t
same_queue {X} g h ps qs b s t gone packets spare =
    ap₂ (λ (n : ℕ) (rs : List (Stamped X)). queue n rs b s) gone packets ∙ ap (λ (n : ℕ). queue h qs b n) spare

-- if the first packet goes, what still goes is what goes of all
drop_first : {X : Type 0} (t first g b s : ℕ) (ps : List (Stamped X)) → option_map (λ p. p.at) (slice_get ps 0) ≡ Some first → first < t
    → dropped_before t (popped_at first (queue g ps b s)) ≡ dropped_before t (queue g ps b s)
drop_first t first g b s [] is below = absurd cc
drop_first {X} t first g b s (p ∷ ps) is below =
    let at : p.at ≡ first = cc in
    let goes : ltb p.at t ≡ true = lt-ltb p.at t (omega (arith, at, below)) in
    let k = prefix_len (λ (q : Stamped X). ltb q.at t) ps in
    rw (eq-eqb p.at first at, goes, one_more k) (same_queue (g + 1 + k) (g + suc k) (drop k ps) (drop k ps) b (s + 1 + k) (s + suc k) (omega arith) refl (omega arith))

pub drop_step : {X : Type 0} (t first : ℕ) (q : Waiting X) → option_map (λ p. p.at) (slice_get q.packets 0) ≡ Some first → first < t → dropped_before t (popped_at first q) ≡ dropped_before t q
drop_step t first q is below = drop_first t first q.gone q.bound q.spare q.packets is below

-- a queue that is put in place of another
pub with_queue-twice : {X : Type 0} (pool mid new : Pooled X) (port : ℕ) (q r : Waiting X) → mid ≡ with_queue pool port q → new ≡ with_queue mid port r → new ≡ with_queue pool port r
with_queue-twice {X} pool mid new port q r first then =
    then
    ∙ ap (λ (v : Pooled X). with_queue v port r) first
    ∙ ap (λ (bs : List (Backlog X)). (let v : Pooled X = record { ports = bs; spare = r.spare } in v)) (set-set pool.ports port (backlog_of q) (backlog_of r))

pub with_queue-again : {X : Type 0} (pool mid new : Pooled X) (port : ℕ) (q r : Waiting X) → port < length mid.ports → mid ≡ with_queue pool port q → new ≡ with_queue mid port r → new ≡ with_queue pool port (queue_at new port)
with_queue-again {X} pool mid new port q r there first then =
    with_queue-twice pool mid new port q r first then
    ∙ ap (λ (w : Waiting X). with_queue pool port w) (sym (ap (λ (v : Pooled X). queue_at v port) then ∙ queue_at-with_queue mid port r there))

-- none of packets above a time stands at it or before it
none_through : {X : Type 0} (t a b : ℕ) (ps : List (Stamped X)) → t < a → Climbs a ps b → prefix_len (λ p. leb p.at t) ps ≡ 0
none_through t a b [] below h = refl
none_through t a b (p ∷ ps) below h = rw (lt-leb p.at t (let first = h.0 in omega (arith, below, first))) refl

-- what stands before a time goes, and then what stands at it
through : {X : Type 0} (t a b g c s : ℕ) (ps : List (Stamped X)) → Climbs a ps b → popped_at t (dropped_before t (queue g ps c s)) ≡ dropped_through t (queue g ps c s)
through t a b g c s [] h = same_queue (g + 0) (g + 0) [] [] c (s + 0) (s + 0) refl refl refl
through {X} t a b g c s (p ∷ ps) h = elim (cases_order p.at t) [
  | inl same ↦ here same
  | inr other ↦ elim other [ inl below ↦ early below (through t (p.at + 1) b (g + 1) c (s + 1) ps h.1) | inr above ↦ late above ]
]
  where
    here : p.at ≡ t → popped_at t (dropped_before t (queue g (p ∷ ps) c s)) ≡ dropped_through t (queue g (p ∷ ps) c s)
    here same =
        rw (le-ltb p.at t (omega (arith, same)), eq-eqb p.at t same, le-leb p.at t (omega (arith, same)), none_through t (p.at + 1) b ps (omega (arith, same)) h.1)
        (same_queue (g + 0 + 1) (g + 1) ps ps c (s + 0 + 1) (s + 1) (omega arith) refl (omega arith))

    early : p.at < t → popped_at t (dropped_before t (queue (g + 1) ps c (s + 1))) ≡ dropped_through t (queue (g + 1) ps c (s + 1))
        → popped_at t (dropped_before t (queue g (p ∷ ps) c s)) ≡ dropped_through t (queue g (p ∷ ps) c s)
    early below rest =
        let k = prefix_len (λ (q : Stamped X). ltb q.at t) ps in
        let m = prefix_len (λ (q : Stamped X). leb q.at t) ps in
        rw (lt-ltb p.at t below, le-leb p.at t (omega (arith, below)), one_more k, one_more m)
        (ap (λ (q : Waiting X). popped_at t q) (same_queue (g + suc k) (g + 1 + k) (drop k ps) (drop k ps) c (s + suc k) (s + 1 + k) (omega arith) refl (omega arith))
        ∙ rest
        ∙ same_queue (g + 1 + m) (g + suc m) (drop m ps) (drop m ps) c (s + 1 + m) (s + suc m) (omega arith) refl (omega arith))

    late : t < p.at → popped_at t (dropped_before t (queue g (p ∷ ps) c s)) ≡ dropped_through t (queue g (p ∷ ps) c s)
    late above = rw (le-ltb p.at t (omega (arith, above)), ne_eqb p.at t (λ e. omega (arith, e, above)), lt-leb p.at t above) refl

pub through_time : {X : Type 0} (t : ℕ) (q : Waiting X) → IsPrefix (rest_of q) → popped_at t (dropped_before t q) ≡ dropped_through t q
through_time t q h = through t 0 q.bound q.gone q.bound q.spare q.packets (prefix-climbs (rest_of q) h)

-- what stands first then is the packet at that time
pub front_through : {X : Type 0} (t : ℕ) (q : Waiting X) → IsPrefix (rest_of q) → front_at t (dropped_before t q).packets ≡ packet_at t q.packets
front_through t q h = sym (found-first t 0 q.bound q.packets (prefix-climbs (rest_of q) h))
