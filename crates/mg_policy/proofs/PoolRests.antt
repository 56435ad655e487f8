-- What waits in a pool, as the prefixes of all ports.
use Rattle.std.proofs.Common.{◌≡◌, ℕ, suc, ◌+◌, ◌-◌, ◌<◌, true, false, List, [], ◌∷◌, map, drop, length, get_or, All, Option, Some, None, option_map, unwrap_or, slice_get, ap, subst, sym, refl, ◌∙◌, arith, ltb}
use Rattle.std.specs.List.{take_while, prefix_len}
use Rattle.mg_settled.proofs.Fronts.{one_more}
use Rattle.std.proofs.lemmas.List.{length-map, get_or-map}
use Rattle.std.proofs.lemmas.List.Elements.{All-head, All-from_recursion}
use Rattle.std.specs.List.{AllByRecursion}
use Rattle.mg_time.specs.Time.{done, IsAllowed}
use Rattle.mg_value.specs.Payload.{Plain}
use Rattle.mg_value.specs.declared.policy.Policy.TheVariants.{Mux}
use Rattle.mg_value.specs.Packet.{Stamped}
use Rattle.mg_settled.specs.Prefix.{StreamPrefix, IsPrefix, first_time, closed, empty_prefix}
use Rattle.mg_settled.specs.Settled.{port_of, select_of, selected, is_settled, reach}
use Rattle.mg_stream.specs.Queue.{rest_of}
use Rattle.mg_stream.specs.Pool.{Backlog, Pooled, empty_backlog, queue_of, queues_of, queue_at}
use Rattle.mg_policy.specs.Inbox.{rests}

-- there is a prefix for each port
pub rests-long : (pool : Pooled Plain) → length (rests (queues_of pool)) ≡ length pool.ports
rests-long pool = length-map (queues_of pool) rest_of ∙ length-map pool.ports (queue_of pool.spare)

pub rest-at : (pool : Pooled Plain) (i : ℕ) → i < length pool.ports → port_of (rests (queues_of pool)) i ≡ rest_of (queue_at pool i)
rest-at pool i there =
    let in_queues : i < length (queues_of pool) = (let long = length-map pool.ports (queue_of pool.spare) in omega (arith, there, long)) in
    get_or-map rest_of (queues_of pool) i (queue_of pool.spare empty_backlog) (closed empty_prefix) in_queues
    ∙ ap rest_of (get_or-map (queue_of pool.spare) pool.ports i empty_backlog (queue_of pool.spare empty_backlog) there)

pub select-at : (pool : Pooled Plain) (select : ℕ) → select + 1 ≡ length pool.ports → select_of (rests (queues_of pool)) ≡ rest_of (queue_at pool select)
select-at pool select last =
    let number : length (rests (queues_of pool)) - 1 ≡ select = (let long = rests-long pool in omega (arith, last, long)) in
    ap (port_of (rests (queues_of pool))) number ∙ rest-at pool select (omega (arith, last))

-- each of them is a prefix if what waits at each port is a prefix
pub rests-prefixes : (pool : Pooled Plain) → ((port : ℕ) → IsPrefix (rest_of (queue_at pool port))) → All IsPrefix (rests (queues_of pool))
rests-prefixes pool each = All-from_recursion IsPrefix (rests (queues_of pool)) (go pool.ports each)
  where
    go : (bs : List (Backlog Plain)) → ((port : ℕ) → IsPrefix (rest_of (queue_of pool.spare (get_or bs port empty_backlog)))) → AllByRecursion IsPrefix (rests (map (queue_of pool.spare) bs))
    go [] each = tt
    go (b ∷ bs) each = (each 0, go bs (λ port. each (suc port)))

-- SELECT's packets --

-- whether a packet is settled that selects a port
pub settled-by : (ss : List (StreamPrefix Plain)) (p : Stamped Plain) (n i b : ℕ) → length ss ≡ n → selected n p.value ≡ Some i → (port_of ss i).bound ≡ b → is_settled ss p ≡ ltb p.at b
settled-by ss p n i b long is bound =
    ap (λ (m : ℕ). unwrap_or (option_map (λ j. ltb p.at (port_of ss j).bound) (selected m p.value)) true) long
    ∙ ap (λ (o : Option ℕ). unwrap_or (option_map (λ j. ltb p.at (port_of ss j).bound) o) true) is
    ∙ ap (ltb p.at) bound

-- how far the sets reach from some packets of SELECT on
abbrev pub reach_from : List (StreamPrefix Plain) → List (Stamped Plain) → ℕ
reach_from ss ps = first_time (drop (length (take_while (is_settled ss) ps)) ps) (select_of ss).bound

pub reach_from-settled : (ss : List (StreamPrefix Plain)) (p : Stamped Plain) (ps : List (Stamped Plain)) → is_settled ss p ≡ true → reach_from ss (p ∷ ps) ≡ reach_from ss ps
reach_from-settled ss p ps settled = rw (settled, one_more (prefix_len (is_settled ss) ps)) refl

pub reach_from-unsettled : (ss : List (StreamPrefix Plain)) (p : Stamped Plain) (ps : List (Stamped Plain)) → is_settled ss p ≡ false → reach_from ss (p ∷ ps) ≡ p.at
reach_from-unsettled ss p ps settled = rw settled refl

pub reach-none : (ss : List (StreamPrefix Plain)) (ps : List (Stamped Plain)) → (select_of ss).packets ≡ ps → slice_get ps 0 ≡ None → reach Mux ss ≡ (select_of ss).bound
reach-none ss [] is none = ap (reach_from ss) is
reach-none ss (p ∷ ps) is none = absurd cc

-- if SELECT's first packet isn't settled, the reach isn't the end of all times
pub reach-unsettled : (ss : List (StreamPrefix Plain)) (ps : List (Stamped Plain)) (p : Stamped Plain) → IsPrefix (select_of ss) → (select_of ss).packets ≡ ps → slice_get ps 0 ≡ Some p → is_settled ss p ≡ false → reach Mux ss ≡ done → ⊥
reach-unsettled ss [] p h is first unsettled ended = absurd cc
reach-unsettled ss (q ∷ ps) p h is first unsettled ended =
    let same : q ≡ p = cc in
    let allowed : All (λ (r : Stamped Plain). IsAllowed r.at) (q ∷ ps) = subst (λ (rs : List (Stamped Plain)). All (λ (r : Stamped Plain). IsAllowed r.at) rs) is h.allowed in
    let here : IsAllowed q.at = All-head (λ (r : Stamped Plain). IsAllowed r.at) q ps allowed in
    let at : q.at ≡ done = sym (reach_from-unsettled ss q ps (ap (is_settled ss) same ∙ unsettled)) ∙ sym (ap (reach_from ss) is) ∙ ended in
    omega (arith, at, here.1)

-- the time of the first packet
pub first_time-is : {X : Type 0} (ps : List (Stamped X)) (b : ℕ) → unwrap_or (option_map (λ p. p.at) (slice_get ps 0)) b ≡ first_time ps b
first_time-is [] b = refl
first_time-is (p ∷ ps) b = refl
