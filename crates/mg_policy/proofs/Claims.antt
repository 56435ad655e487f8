-- What a claim takes and leaves, port by port.
use Rattle.std.proofs.Common.{◌≡◌, ℕ, zero, suc, ◌+◌, ◌<◌, Bool, List, [], ◌∷◌, ◌++◌, map, take, drop, length, length-drop, get_or, drop-drop, inl, inr, ap, ap₂, refl, ◌∙◌, arith, leb}
use Rattle.std.specs.List.{AllZip, prefix_len}
use Rattle.std.proofs.lemmas.Bool.{cases_Bool}
use Rattle.std.proofs.lemmas.List.Sums.{sum_by-set}
use Rattle.mg_value.specs.Payload.{Plain}
use Rattle.mg_value.specs.Packet.{Stamped}
use Rattle.mg_settled.specs.Prefix.{StreamPrefix}
use Rattle.mg_settled.specs.FirstSet.{behind}
use Rattle.mg_stream.specs.Queue.{StandsFor, count_of, rest_of}
use Rattle.mg_stream.specs.Pool.{Backlog, Pooled, empty_backlog, queue_of, queues_of, queue_at, backlog_of, with_queue, pool_len}
use Rattle.mg_policy.specs.Inbox.{rests}
use Rattle.mg_policy.specs.Code.Taking.{dropped_through}

-- what is left at a port without what stands at a time or before it
abbrev pub taken : {X : Type 0} → ℕ → Backlog X → Backlog X
taken at b = backlog_of (dropped_through at (queue_of 0 b))

-- the packets that go and those that are left are all packets together
few_go : {X : Type 0} (f : X → Bool) (xs : List X) → length (drop (prefix_len f xs) xs) + prefix_len f xs ≡ length xs
few_go f [] = refl
few_go {X} f (x ∷ xs) = elim (cases_Bool (f x)) [
  | inl goes ↦ rw goes (let rest = few_go f xs in let one : 1 + prefix_len f xs ≡ suc (prefix_len f xs) = omega arith in rw one (omega (arith, rest)))
  | inr stays ↦ rw stays (omega arith)
]

-- a list that is mapped in place is as long
pub mapped_long : {X : Type 0} (f : X → X) (xs : List X) (i : ℕ) → length (map f (take i xs) ++ drop i xs) ≡ length xs
mapped_long f [] zero = refl
mapped_long f [] (suc i) = refl
mapped_long f (x ∷ xs) zero = refl
mapped_long f (x ∷ xs) (suc i) = ap suc (mapped_long f xs i)

-- the room and what waits, together
pub room_taken : (pool new : Pooled Plain) (i at : ℕ) → i < length pool.ports → new ≡ with_queue pool i (dropped_through at (queue_at pool i)) → new.spare + pool_len new ≡ pool.spare + pool_len pool
room_taken pool new i at there is =
    let b : Backlog Plain = get_or pool.ports i empty_backlog in
    let k = prefix_len (λ (p : Stamped Plain). leb p.at at) b.packets in
    let few = few_go (λ (p : Stamped Plain). leb p.at at) b.packets in
    let moved = sum_by-set (λ (c : Backlog Plain). length c.packets) pool.ports i (taken at b) empty_backlog there in
    ap (λ (v : Pooled Plain). v.spare + pool_len v) is ∙ omega (arith, few, moved)

-- what waits once a set is claimed, at all ports
pub rests-taken : (old new : Pooled Plain) (at : ℕ) → new.ports ≡ map (taken at) old.ports → rests (queues_of new) ≡ map (behind at) (rests (queues_of old))
rests-taken old new at is = ap (λ (bs : List (Backlog Plain)). rests (map (queue_of new.spare) bs)) is ∙ go old.ports
  where
    go : (bs : List (Backlog Plain)) → rests (map (queue_of new.spare) (map (taken at) bs)) ≡ map (behind at) (rests (map (queue_of old.spare) bs))
    go [] = refl
    go (b ∷ bs) = ap (λ (ss : List (StreamPrefix Plain)). behind at (rest_of (queue_of old.spare b)) ∷ ss) (go bs)

pub counts-taken : (old new : Pooled Plain) (at : ℕ) → new.ports ≡ map (taken at) old.ports → map count_of (queues_of new) ≡ map count_of (queues_of old)
counts-taken old new at is = ap (λ (bs : List (Backlog Plain)). map count_of (map (queue_of new.spare) bs)) is ∙ go old.ports
  where
    go : (bs : List (Backlog Plain)) → map count_of (map (queue_of new.spare) (map (taken at) bs)) ≡ map count_of (map (queue_of old.spare) bs)
    go [] = refl
    go (b ∷ bs) = ap₂ (λ (n : ℕ) (ns : List ℕ). n ∷ ns) (let few = few_go (λ (p : Stamped Plain). leb p.at at) b.packets in omega (arith, few)) (go bs)

stands_taken : (s t at : ℕ) (b : Backlog Plain) (p : StreamPrefix Plain) → StandsFor (queue_of s b) p → StandsFor (queue_of t (taken at b)) p
stands_taken s t at b p h =
    let k = prefix_len (λ (r : Stamped Plain). leb r.at at) b.packets in
    record {
      prefix = h.prefix;
      gone = (let few = few_go (λ (r : Stamped Plain). leb r.at at) b.packets in let gone = h.gone in omega (arith, few, gone, ap length h.waiting, length-drop b.gone p.packets));
      waiting = ap (λ (ps : List (Stamped Plain)). drop k ps) h.waiting ∙ drop-drop k b.gone p.packets;
      bound = h.bound;
    }

pub each-taken : (old new : Pooled Plain) (at : ℕ) (ss : List (StreamPrefix Plain)) → new.ports ≡ map (taken at) old.ports → AllZip StandsFor (queues_of old) ss → AllZip StandsFor (queues_of new) ss
each-taken old new at ss is each = rw is (go old.ports ss each)
  where
    go : (bs : List (Backlog Plain)) (ts : List (StreamPrefix Plain)) → AllZip StandsFor (map (queue_of old.spare) bs) ts → AllZip StandsFor (map (queue_of new.spare) (map (taken at) bs)) ts
    go [] [] h = tt
    go [] (t ∷ ts) h = absurd h
    go (b ∷ bs) [] h = absurd h
    go (b ∷ bs) (t ∷ ts) h = (stands_taken old.spare new.spare at b t h.0, go bs ts h.1)
