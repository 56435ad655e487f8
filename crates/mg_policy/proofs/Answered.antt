-- What a look and a claim answer, in the words of contracts: of what waits, and of whole streams.
use Rattle.std.proofs.Common.{◌≡◌, ℕ, zero, suc, ◌+◌, ◌<◌, List, [], ◌∷◌, map, drop, length, length-drop, All, Option, Some, None, option_map, slice_get, IsSome, IsSomeAnd, IfSome, IfNone, IsTrue, true, ◌↔◌, replicate, ap, subst, sym, refl, ◌∙◌, arith, eq-eqb}
use Rattle.std.specs.List.{AllByRecursion}
use Rattle.std.proofs.lemmas.Bool.{false≢true}
use Rattle.std.proofs.lemmas.List.Elements.{All-head, All-tail, All-from_recursion}
use Rattle.mg_time.specs.Time.{done, IsAllowed}
use Rattle.mg_value.specs.Payload.{Plain}
use Rattle.mg_value.specs.declared.policy.Policy.{Policy}
use Rattle.mg_value.specs.Packet.{Stamped}
use Rattle.mg_settled.specs.Prefix.{StreamPrefix, IsPrefix, empty_prefix}
use Rattle.mg_settled.specs.Settled.{TimedSet, settled_sets, reach, port_of, packet_at, is_among, IsBelowBounds}
use Rattle.mg_settled.specs.FirstSet.{first_set_time}
use Rattle.mg_settled.specs.Left.{leads, after_sets, HasLeadingPacket}
use Rattle.mg_settled.proofs.FirstSets.{first-time, after-first}
use Rattle.mg_settled.proofs.SetSteps.{sets-over}
use Rattle.mg_settled.proofs.AfterSets.{sets-after}
use Rattle.mg_settled.proofs.PolicySets.{below-bounds}
use Rattle.mg_settled.proofs.LeadingPackets.{all-leading}
use Rattle.mg_settled.proofs.Ports.{port-prefix}
use Rattle.mg_stream.specs.Queue.{Waiting, IsLike, empty_queue}
use Rattle.mg_stream.specs.Pool.{Pooled, empty_backlog, queue_of, queues_of}
use Rattle.mg_policy.specs.Inbox.{rests, next_set, IsOver, Tells, TellsOf, ShowsNext, StandAfter}
use Rattle.mg_policy.specs.declared.readiness.Readiness.TheVariants.{Ready, Close, NotReady}
use Rattle.mg_policy.proofs.Standing.{all_prefixes, what_is_next, what_is_the_reach, claim_counts, fresh_stands}
use Rattle.mg_policy.proofs.Claims.{taken, rests-taken, each-taken}

-- The readiness of what waits --

ready_by : (o : Option (TimedSet Plain)) (t : ℕ) → option_map (λ e. e.at) o ≡ Some t → IsSomeAnd o (λ e. e.at ≡ t)
ready_by None t is = absurd cc
ready_by (Some e) t is = cc

pub tells_ready : (policy : Policy) (qs : List (Waiting Plain)) (t : ℕ) → All IsPrefix (rests qs) → first_set_time policy (rests qs) ≡ Some t → Tells policy (Ready t) qs
tells_ready policy qs t h is = ready_by (next_set policy qs) t (first-time policy (rests qs) h ∙ is)

time_by : (o : Option (TimedSet Plain)) (t : ℕ) → IsSomeAnd o (λ e. e.at ≡ t) → option_map (λ e. e.at) o ≡ Some t
time_by None t h = absurd h
time_by (Some e) t h = ap Some h

pub told_time : (policy : Policy) (qs : List (Waiting Plain)) (t : ℕ) → All IsPrefix (rests qs) → Tells policy (Ready t) qs → first_set_time policy (rests qs) ≡ Some t
told_time policy qs t h told = sym (first-time policy (rests qs) h) ∙ time_by (next_set policy qs) t told

no_next : (policy : Policy) (qs : List (Waiting Plain)) → All IsPrefix (rests qs) → first_set_time policy (rests qs) ≡ None → settled_sets policy (rests qs) ≡ []
no_next policy qs h none = sets-over policy (rests qs) h none

-- if no set is settled and the reach is the end of all times, no packet waits at a port that leads
over_by : (policy : Policy) (ss : List (StreamPrefix Plain)) (i : ℕ) (ps : List (Stamped Plain)) → All IsPrefix ss → settled_sets policy ss ≡ [] → reach policy ss ≡ done → i < length ss
    → IsTrue (leads policy (length ss) i) → (port_of ss i).packets ≡ ps → ps ≡ []
over_by policy ss i [] h none ended there lead is = refl
over_by policy ss i (p ∷ ps) h none ended there lead is =
    let prefix = port-prefix ss h i in
    let allowed : IsAllowed p.at = All-head (λ (r : Stamped Plain). IsAllowed r.at) p ps (subst (λ (rs : List (Stamped Plain)). All (λ (r : Stamped Plain). IsAllowed r.at) rs) is prefix.allowed) in
    let stands : packet_at p.at (port_of ss i).packets ≡ Some p = ap (packet_at p.at) is ∙ rw (eq-eqb p.at p.at refl) refl in
    let leading : HasLeadingPacket policy ss p.at = record { port = i; there = there; lead = lead; packet = rw stands refl } in
    let among = all-leading policy ss p.at h leading (let last = allowed.1 in omega (arith, last, ended)) in
    absurd (false≢true (ap (λ (es : List (TimedSet Plain)). is_among (map (λ e. e.at) es) p.at) (sym none) ∙ among))

is_over : (policy : Policy) (qs : List (Waiting Plain)) → All IsPrefix (rests qs) → first_set_time policy (rests qs) ≡ None → reach policy (rests qs) ≡ done → IsOver policy qs
is_over policy qs h none ended = record {
  empty = λ i there lead. over_by policy (rests qs) i (port_of (rests qs) i).packets h (no_next policy qs h none) ended there lead refl;
  closed = ended;
}

pub tells_close : (policy : Policy) (qs : List (Waiting Plain)) → All IsPrefix (rests qs) → first_set_time policy (rests qs) ≡ None → reach policy (rests qs) ≡ done → Tells policy Close qs
tells_close policy qs h none ended = is_over policy qs h none ended

pub tells_not_ready : (policy : Policy) (qs : List (Waiting Plain)) → All IsPrefix (rests qs) → first_set_time policy (rests qs) ≡ None → (reach policy (rests qs) ≡ done → ⊥) → Tells policy NotReady qs
tells_not_ready policy qs h none further = (ap (λ (es : List (TimedSet Plain)). slice_get es 0) (no_next policy qs h none), (λ over. further over.closed))

-- Told of whole streams --

slice_get-drop : {Y : Type 0} (k : ℕ) (ys : List Y) → slice_get (drop k ys) 0 ≡ slice_get ys k
slice_get-drop zero [] = refl
slice_get-drop zero (y ∷ ys) = refl
slice_get-drop (suc k) [] = refl
slice_get-drop (suc k) (y ∷ ys) = slice_get-drop k ys

All-slice_get : {Y : Type 0} (P : Y → Type 0) (k : ℕ) (ys : List Y) (y : Y) → All P ys → slice_get ys k ≡ Some y → P y
All-slice_get P k [] y all is = absurd cc
All-slice_get P zero (x ∷ xs) y all is = (let same : x ≡ y = cc in subst P same (All-head P x xs all))
All-slice_get P (suc k) (x ∷ xs) y all is = All-slice_get P k xs y (All-tail P x xs all) is

-- the next set of what waits is the first that isn't claimed, below the bounds
pub shows_next : (policy : Policy) (k : ℕ) (qs : List (Waiting Plain)) (ss : List (StreamPrefix Plain)) (t : ℕ) (set : List (Option (Stamped Plain)))
    → StandAfter policy k qs ss → next_set policy qs ≡ Some (record { at = t; set = set }) → ShowsNext policy k ss t set
shows_next policy k qs ss t set h is =
    let next = sym (slice_get-drop k (settled_sets policy ss)) ∙ ap (λ (es : List (TimedSet Plain)). slice_get es 0) (sym (what_is_next policy k qs ss h)) ∙ is in
    record {
      next = next;
      below = All-slice_get (λ (e : TimedSet Plain). IsBelowBounds policy ss e.at) k (settled_sets policy ss) _ (below-bounds policy ss (all_prefixes qs ss h.each)) next;
    }

-- if no set is next, as many are claimed as there are
pub none_next : (policy : Policy) (k : ℕ) (qs : List (Waiting Plain)) (ss : List (StreamPrefix Plain)) → StandAfter policy k qs ss → settled_sets policy (rests qs) ≡ [] → length (settled_sets policy ss) ≡ k
none_next policy k qs ss h none =
    let few = h.gone.claimed in
    omega (arith, few, length-drop k (settled_sets policy ss), ap length (sym (what_is_next policy k qs ss h) ∙ none))

some_by : (o : Option (TimedSet Plain)) (t : ℕ) → option_map (λ e. e.at) o ≡ Some t → (set : List (Option (Stamped Plain))) × (o ≡ Some (record { at = t; set = set }))
some_by None t is = absurd cc
some_by (Some e) t is = (let same : e.at ≡ t = cc in (e.set, ap (λ (u : ℕ). Some (let it : TimedSet Plain = record { at = u; set = e.set } in it)) same))

pub whole_ready : (policy : Policy) (qs : List (Waiting Plain)) (t : ℕ) → All IsPrefix (rests qs) → first_set_time policy (rests qs) ≡ Some t → (k : ℕ) (ss : List (StreamPrefix Plain)) → StandAfter policy k qs ss → TellsOf policy k ss (Ready t)
whole_ready policy qs t h is k ss stand =
    let next = some_by (next_set policy qs) t (first-time policy (rests qs) h ∙ is) in
    (next.0, shows_next policy k qs ss t next.0 stand next.1)

pub whole_close : (policy : Policy) (qs : List (Waiting Plain)) → All IsPrefix (rests qs) → first_set_time policy (rests qs) ≡ None → reach policy (rests qs) ≡ done → (k : ℕ) (ss : List (StreamPrefix Plain)) → StandAfter policy k qs ss → TellsOf policy k ss Close
whole_close policy qs h none ended k ss stand = (none_next policy k qs ss stand (no_next policy qs h none), sym (what_is_the_reach policy k qs ss stand) ∙ ended)

pub whole_not_ready : (policy : Policy) (qs : List (Waiting Plain)) → All IsPrefix (rests qs) → first_set_time policy (rests qs) ≡ None → (reach policy (rests qs) ≡ done → ⊥) → (k : ℕ) (ss : List (StreamPrefix Plain)) → StandAfter policy k qs ss → TellsOf policy k ss NotReady
whole_not_ready policy qs h none further k ss stand = (none_next policy k qs ss stand (no_next policy qs h none), (λ ended. further (what_is_the_reach policy k qs ss stand ∙ ended)))

-- A claim --

-- what a claim of the set at a time did
pub record IsClaim (policy : Policy) (old new : Pooled Plain) (t : ℕ) (set : List (Option (Stamped Plain))) : Type 0 where
  pub prefixes : All IsPrefix (rests (queues_of old))
  pub first : first_set_time policy (rests (queues_of old)) ≡ Some t
  pub next : next_set policy (queues_of old) ≡ Some (record { at = t; set = set })
  pub ports : new.ports ≡ map (taken t) old.ports

pub claim_left : (policy : Policy) (old new : Pooled Plain) (t : ℕ) (set : List (Option (Stamped Plain))) → IsClaim policy old new t set → rests (queues_of new) ≡ after_sets policy 1 (rests (queues_of old))
claim_left policy old new t set h = rests-taken old new t h.ports ∙ sym (after-first policy (rests (queues_of old)) t h.prefixes h.first)

pub claim_others : (policy : Policy) (old new : Pooled Plain) (t : ℕ) (set : List (Option (Stamped Plain))) → IsClaim policy old new t set
    → settled_sets policy (rests (queues_of new)) ≡ drop 1 (settled_sets policy (rests (queues_of old)))
claim_others policy old new t set h =
    ap (λ (ss : List (StreamPrefix Plain)). settled_sets policy ss) (claim_left policy old new t set h)
    ∙ sets-after policy 1 (rests (queues_of old)) h.prefixes

some_waits : {Y : Type 0} (ys : List Y) (y : Y) → slice_get ys 0 ≡ Some y → 0 < length ys
some_waits [] y e = absurd cc
some_waits (z ∷ zs) y e = omega arith

pub claim_whole : (policy : Policy) (old new : Pooled Plain) (t : ℕ) (set : List (Option (Stamped Plain))) → IsClaim policy old new t set
    → (k : ℕ) (ss : List (StreamPrefix Plain)) → StandAfter policy k (queues_of old) ss
    → ((at : ℕ) × ShowsNext policy k ss at set) × StandAfter policy (k + 1) (queues_of new) ss
claim_whole policy old new t set h k ss stand = (
  (t, shows_next policy k (queues_of old) ss t set stand h.next),
  claim_counts policy k (queues_of old) (queues_of new) ss stand (each-taken old new t ss h.ports stand.each)
      (some_waits (settled_sets policy (rests (queues_of old))) _ h.next) (claim_left policy old new t set h),
)

-- a set is claimed
pub claimed_some : (o : Option (TimedSet Plain)) (set : List (Option (Stamped Plain))) → IsSomeAnd o (λ e. set ≡ e.set) → IsTrue true ↔ IsSome o
claimed_some None set h = absurd h
claimed_some (Some e) set h = (λ yes. yes, λ yes. yes)

pub shown_if : (o : Option (TimedSet Plain)) (set : List (Option (Stamped Plain))) → IsSomeAnd o (λ e. set ≡ e.set) → IfSome o (λ e. set ≡ e.set)
shown_if None set h = absurd h
shown_if (Some e) set h = h

-- if no set is claimed
pub no_claim : (policy : Policy) (qs : List (Waiting Plain)) → All IsPrefix (rests qs) → first_set_time policy (rests qs) ≡ None → settled_sets policy (rests qs) ≡ []
no_claim policy qs h none = no_next policy qs h none

pub no_claim-set : (policy : Policy) (qs : List (Waiting Plain)) → All IsPrefix (rests qs) → first_set_time policy (rests qs) ≡ None → next_set policy qs ≡ None
no_claim-set policy qs h none = ap (λ (es : List (TimedSet Plain)). slice_get es 0) (no_next policy qs h none)

pub none_then : (o : Option ℕ) (P : Type 0) → o ≡ None → IfNone o P → P
none_then None P is h = h
none_then (Some t) P is h = absurd cc

-- queues to which nothing came
pub fresh : (policy : Policy) (n : ℕ) (pool : Pooled Plain) → pool ≡ record { ports = replicate n empty_backlog; spare = 0 } → StandAfter policy 0 (queues_of pool) (replicate n empty_prefix)
fresh policy n pool is = rw is (fresh_stands policy n (map (queue_of 0) (replicate n empty_backlog)) (long n) (All-from_recursion (λ (q : Waiting Plain). IsLike q empty_queue) (map (queue_of 0) (replicate n empty_backlog)) (each n)))
  where
    long : (m : ℕ) → length (map (queue_of {X = Plain} 0) (replicate m empty_backlog)) ≡ m
    long zero = refl
    long (suc m) = ap suc (long m)

    each : (m : ℕ) → AllByRecursion (λ (q : Waiting Plain). IsLike q empty_queue) (map (queue_of 0) (replicate m empty_backlog))
    each zero = tt
    each (suc m) = (record { gone = refl; packets = refl; bound = refl }, each m)
