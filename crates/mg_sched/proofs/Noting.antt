-- Limits that hear of one queue after the other.
use Rattle.std.proofs.Common.{◌≡◌, ℕ, zero, suc, ◌+◌, ◌<◌, List, [], ◌∷◌, length, drop, Some, slice_get, ap, sym, refl, ◌∙◌, arith}
use Rattle.std.proofs.lemmas.List.FromFn.{length-map-range_with_len, get_or-map-range_with_len}
use Rattle.std.proofs.lemmas.Option.{slice_get-get_or}
use Rattle.mg_node.specs.declared.pending.Pending.{Pending}
use Rattle.mg_node.specs.Ports.{ports_in, port_queue}
use Rattle.mg_throttle.specs.declared.queue.Queue.{Queue}
use Rattle.mg_throttle.specs.Throttle.{QueueLimits, noted}
use Rattle.mg_sched.specs.Places.{lengths_of}
use Rattle.mg_sched.specs.Acts.{all_noted}

drop_at : {X : Type 0} (xs : List X) (i : ℕ) (x : X) → slice_get xs i ≡ Some x → drop i xs ≡ x ∷ drop (suc i) xs
drop_at [] i x at = absurd cc
drop_at (y ∷ xs) zero x at = cc
drop_at (y ∷ xs) (suc i) x at = drop_at xs i x at

abbrev length_at : Pending → ℕ → ℕ
length_at waits port = length (port_queue waits port).packets

length_there : (waits : Pending) (port : ℕ) → port < ports_in waits → slice_get (lengths_of waits) port ≡ Some (length_at waits port)
length_there waits port within =
    slice_get-get_or (lengths_of waits) port 0 (let long = length-map-range_with_len (length_at waits) 0 (ports_in waits) in omega (arith, within, long))
    ∙ ap Some (get_or-map-range_with_len (length_at waits) 0 (ports_in waits) port port 0 within (omega arith))

one_more : (n : ℕ) → suc n ≡ n + 1
one_more n = omega arith

pub lengths_left : (waits : Pending) (port : ℕ) → port < ports_in waits → drop port (lengths_of waits) ≡ length_at waits port ∷ drop (port + 1) (lengths_of waits)
lengths_left waits port within =
    drop_at (lengths_of waits) port (length_at waits port) (length_there waits port within) ∙ ap (λ (n : ℕ). length_at waits port ∷ drop n (lengths_of waits)) (one_more port)

pub noted_long : (qs : List Queue) (k n : ℕ) → length (noted qs k n) ≡ length qs
noted_long [] k n = refl
noted_long (q ∷ qs) zero n = refl
noted_long (q ∷ qs) (suc k) n = ap suc (noted_long qs k n)

drop_past : {X : Type 0} (xs : List X) (n : ℕ) → length xs ≡ n → drop n xs ≡ []
drop_past [] zero is = refl
drop_past [] (suc n) is = refl
drop_past (x ∷ xs) zero is = absurd (omega (arith, is))
drop_past (x ∷ xs) (suc n) is = drop_past xs n (omega (arith, is))

pub none_left : (waits : Pending) → drop (ports_in waits) (lengths_of waits) ≡ []
none_left waits = drop_past (lengths_of waits) (ports_in waits) (length-map-range_with_len (length_at waits) 0 (ports_in waits))

-- one more queue of an intake is told, and then those that are left
pub noted_next : (before now start : QueueLimits) (waits : Pending) (first port : ℕ) → port < ports_in waits → now ≡ record before { queues = noted before.queues (first + port) (length_at waits port) }
    → record before { queues = all_noted before.queues (first + port) (drop port (lengths_of waits)) } ≡ record start { queues = all_noted start.queues first (lengths_of waits) }
    → record now { queues = all_noted now.queues (first + (port + 1)) (drop (port + 1) (lengths_of waits)) } ≡ record start { queues = all_noted start.queues first (lengths_of waits) }
noted_next before now start waits first port within is so_far =
    let next : (first + port) + 1 ≡ first + (port + 1) = omega arith in
    ap (λ (t : QueueLimits). record t { queues = all_noted t.queues (first + (port + 1)) (drop (port + 1) (lengths_of waits)) }) is
    ∙ ap (λ (k : ℕ). record before { queues = all_noted (noted before.queues (first + port) (length_at waits port)) k (drop (port + 1) (lengths_of waits)) }) (sym next)
    ∙ ap (λ (ns : List ℕ). record before { queues = all_noted before.queues (first + port) ns }) (sym (lengths_left waits port within))
    ∙ so_far

pub noted_end : (now start : QueueLimits) (waits : Pending) (first port : ℕ) → port ≡ ports_in waits
    → record now { queues = all_noted now.queues (first + port) (drop port (lengths_of waits)) } ≡ record start { queues = all_noted start.queues first (lengths_of waits) }
    → now ≡ record start { queues = all_noted start.queues first (lengths_of waits) }
noted_end now start waits first port end so_far =
    ap (λ (ns : List ℕ). record now { queues = all_noted now.queues (first + port) ns }) (sym (ap (λ (k : ℕ). drop k (lengths_of waits)) end ∙ none_left waits)) ∙ so_far

-- an intake with a single port
pub noted_only : (now start : QueueLimits) (waits : Pending) (first n : ℕ) → ports_in waits ≡ 1 → n ≡ length (port_queue waits 0).packets → now ≡ record start { queues = noted start.queues first n }
    → now ≡ record start { queues = all_noted start.queues first (lengths_of waits) }
noted_only now start waits first n one long is =
    let none : drop 1 (lengths_of waits) ≡ [] = ap (λ (k : ℕ). drop k (lengths_of waits)) (sym one) ∙ none_left waits in
    let whole : lengths_of waits ≡ length_at waits 0 ∷ [] = lengths_left waits 0 (omega (arith, one)) ∙ ap (λ (ns : List ℕ). length_at waits 0 ∷ ns) none in
    is
    ∙ ap (λ (k : ℕ). record start { queues = noted start.queues first k }) long
    ∙ ap (λ (ns : List ℕ). record start { queues = all_noted start.queues first ns }) (sym whole)
