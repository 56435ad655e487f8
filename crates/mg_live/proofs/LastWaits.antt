-- The last port at which a packet waits, found from the last port down.
use Rattle.std.proofs.Common.{◌≡◌, ℕ, zero, suc, ◌+◌, ◌-◌, ◌<◌, ◌≤◌, Bool, true, false, List, [], ◌∷◌, ◌++◌, take, length, slice_get, Option, None, Some, IfSome, is_some, option_map, option_copied, Bor, refl, sym, ap, ◌∙◌, subst, arith}
use Rattle.std.specs.List.{cons_option}
use Rattle.std.proofs.lemmas.List.{length-map, take_all, append-nil}
use Rattle.mg_value.specs.Payload.{Plain}
use Rattle.mg_value.specs.Packet.{Stamped}
use Rattle.mg_settled.specs.Prefix.{StreamPrefix}
use Rattle.mg_settled.specs.Settled.{port_of}
use Rattle.mg_calc.specs.Equations.{stream_of}
use Rattle.mg_calc.proofs.Earlier.{some_same}
use Rattle.mg_free.specs.declared.node.FreeNode.{FreeNode}
use Rattle.mg_free.specs.Free.{Arrival}
use Rattle.mg_free.specs.Logs.{arrived_at}
use Rattle.mg_free.specs.Rounds.{Taken, free_inputs, next_arrivals, last_of, with_next, turn}
use Rattle.mg_free.proofs.Turning.{IsNext, arrivals_from, all_next, last_keeps}

-- the last of more
pub last_more : {X : Type 0} (xs : List X) (x : X) → last_of (xs ++ x ∷ []) ≡ Some x
last_more [] x = refl
last_more (y ∷ []) x = refl
last_more (y ∷ z ∷ xs) x = last_more (z ∷ xs) x

-- what waits at the first ports, a number of them
abbrev pub waits_below : List (StreamPrefix Plain) → List (Arrival Plain) → ℕ → List (Arrival Plain)
waits_below inputs log count = arrivals_from log 0 (take count inputs)

abbrev of_port : ℕ → Option (Stamped Plain) → List (Arrival Plain)
of_port port o = cons_option (option_map (λ p. record { port = port; packet = p }) o) []

one_more : (log : List (Arrival Plain)) (n k : ℕ) (inputs : List (StreamPrefix Plain)) → k < length inputs
    → arrivals_from log n (take (suc k) inputs) ≡ arrivals_from log n (take k inputs) ++ of_port (n + k) (slice_get (port_of inputs k).packets (length (arrived_at (n + k) log)))
one_more log n k [] less = absurd (omega (arith, less))
one_more log n zero (s ∷ inputs) less = ap (λ (m : ℕ). of_port m (slice_get s.packets (length (arrived_at m log)))) (let e : n ≡ n + 0 = omega arith in e)
one_more log n (suc k) (s ∷ inputs) less =
    let rest = one_more log (n + 1) k inputs (omega (arith, less)) in
    let place : n + 1 + k ≡ n + suc k = omega arith in
    joined (slice_get s.packets (length (arrived_at n log))) _ _ _
    (rest ∙ ap (λ (m : ℕ). arrivals_from log (n + 1) (take k inputs) ++ of_port m (slice_get (port_of inputs k).packets (length (arrived_at m log)))) place)
  where
    joined : (o : Option (Stamped Plain)) (xs ys zs : List (Arrival Plain)) → xs ≡ ys ++ zs
        → cons_option (option_map (λ p. record { port = n; packet = p }) o) xs ≡ cons_option (option_map (λ p. record { port = n; packet = p }) o) ys ++ zs
    joined None xs ys zs e = e
    joined (Some p) xs ys zs e = ap (λ l. record { port = n; packet = p } ∷ l) e

more_below : (log : List (Arrival Plain)) (k : ℕ) (inputs : List (StreamPrefix Plain)) → k < length inputs
    → waits_below inputs log (suc k) ≡ waits_below inputs log k ++ of_port k (slice_get (port_of inputs k).packets (length (arrived_at k log)))
more_below log k inputs less =
    one_more log 0 k inputs less
    ∙ ap (λ (m : ℕ). waits_below inputs log k ++ of_port m (slice_get (port_of inputs k).packets (length (arrived_at m log)))) (let e : 0 + k ≡ k = omega arith in e)

-- no packet waits at a port: the last port with a packet is below it
pub none_at_it : (inputs : List (StreamPrefix Plain)) (log : List (Arrival Plain)) (k : ℕ) → k < length inputs → slice_get (port_of inputs k).packets (length (arrived_at k log)) ≡ None
    → waits_below inputs log (suc k) ≡ waits_below inputs log k
none_at_it inputs log k less none =
    more_below log k inputs less ∙ ap (λ (o : Option (Stamped Plain)). waits_below inputs log k ++ of_port k o) none ∙ append-nil (waits_below inputs log k)

-- a packet waits at a port: it is the last of the packets up to that port
pub one_at_it : (inputs : List (StreamPrefix Plain)) (log : List (Arrival Plain)) (k : ℕ) (packet : Stamped Plain) → k < length inputs → slice_get (port_of inputs k).packets (length (arrived_at k log)) ≡ Some packet
    → last_of (waits_below inputs log (suc k)) ≡ Some (record { port = k; packet = packet })
one_at_it inputs log k packet less is =
    ap (λ (l : List (Arrival Plain)). last_of l) (more_below log k inputs less ∙ ap (λ (o : Option (Stamped Plain)). waits_below inputs log k ++ of_port k o) is)
    ∙ last_more (waits_below inputs log k) (record { port = k; packet = packet })

pub all_below : (streams : List (StreamPrefix Plain)) (free : FreeNode) (taken : Taken) (count : ℕ) → length (free_inputs streams free) ≤ count → waits_below (free_inputs streams free) taken.log count ≡ next_arrivals streams free taken
all_below streams free taken count long = ap (λ (l : List (StreamPrefix Plain)). arrivals_from taken.log 0 l) (take_all count (free_inputs streams free) long)

-- What is told of the last.

last_is_next : (streams : List (StreamPrefix Plain)) (free : FreeNode) (taken : Taken) → IfSome (last_of (next_arrivals streams free taken)) (IsNext (free_inputs streams free) taken.log)
last_is_next streams free taken = last_keeps (IsNext (free_inputs streams free) taken.log) (next_arrivals streams free taken) (all_next [] (free_inputs streams free) taken.log)

-- the port of the last is told: there is one, and the packet there is the next of its port
pub record IsLast (streams : List (StreamPrefix Plain)) (free : FreeNode) (taken : Taken) (port : ℕ) : Type 0 where
  pub packet : Stamped Plain
  pub last : last_of (next_arrivals streams free taken) ≡ Some (record { port = port; packet = packet })
  pub next : IsNext (free_inputs streams free) taken.log (record { port = port; packet = packet })

last_told : (inputs : List (StreamPrefix Plain)) (log : List (Arrival Plain)) (o : Option (Arrival Plain)) (port : ℕ) → Some port ≡ option_map (λ a. a.port) o → IfSome o (IsNext inputs log)
    → (packet : Stamped Plain) × (o ≡ Some (record { port = port; packet = packet })) × IsNext inputs log (record { port = port; packet = packet })
last_told inputs log None port e next = absurd cc
last_told inputs log (Some a) port e next =
    let same : a.port ≡ port = sym (some_same port a.port e) in
    let is : a ≡ record { port = port; packet = a.packet } = ap (λ (n : ℕ). record { port = n; packet = a.packet }) same in
    (a.packet, ap Some is, subst (λ (b : Arrival Plain). IsNext inputs log b) is next)

pub is_last : (streams : List (StreamPrefix Plain)) (free : FreeNode) (taken : Taken) (port : ℕ) → Some port ≡ option_map (λ a. a.port) (last_of (next_arrivals streams free taken)) → IsLast streams free taken port
is_last streams free taken port told =
    let r = last_told (free_inputs streams free) taken.log (last_of (next_arrivals streams free taken)) port told (last_is_next streams free taken) in
    record { packet = r.0; last = r.1; next = r.2 }

-- so a turn takes it
pub turn_takes : (streams : List (StreamPrefix Plain)) (free : FreeNode) (taken : Taken) (port : ℕ) (packet : Stamped Plain) → Some port ≡ option_map (λ a. a.port) (last_of (next_arrivals streams free taken))
    → Some packet ≡ slice_get (port_of (free_inputs streams free) port).packets (length (arrived_at port taken.log))
    → turn streams free taken ≡ record { log = taken.log ++ record { port = port; packet = packet } ∷ []; closed = taken.closed }
turn_takes streams free taken port packet told is =
    let l = is_last streams free taken port told in
    let same : l.packet ≡ packet = some_same l.packet packet (sym l.next.next ∙ sym is) in
    ap (λ (o : Option (Arrival Plain)). with_next streams free taken o) (l.last ∙ ap (λ (p : Stamped Plain). Some (record { port = port; packet = p })) same)

-- The loop goes down to a port below.

copied_some : {X : Type 0} (o : Option (Bor X)) (p : Option X) → option_copied o ≡ p → is_some o ≡ true → (x : X) × (p ≡ Some x)
copied_some None p e is = absurd cc
copied_some (Some b) p e is = (b.now, sym e)

copied_none : {X : Type 0} (o : Option (Bor X)) (p : Option X) → option_copied o ≡ p → is_some o ≡ false → p ≡ None
copied_none None p e isnt = sym e
copied_none (Some b) p e isnt = absurd cc

pub last_here : (streams : List (StreamPrefix Plain)) (free : FreeNode) (taken : Taken) (port : ℕ) (o : Option (Bor (Stamped Plain))) (some : Bool) → 0 < port → port ≤ length free.inputs
    → option_copied o ≡ slice_get (port_of (free_inputs streams free) (port - 1)).packets (length (arrived_at (port - 1) taken.log)) → some ≡ is_some o → some ≡ true
    → last_of (waits_below (free_inputs streams free) taken.log port) ≡ last_of (next_arrivals streams free taken) → Some (port - 1) ≡ option_map (λ a. a.port) (last_of (next_arrivals streams free taken))
last_here streams free taken port o some less within read is test same =
    let here = copied_some o _ read (sym is ∙ test) in
    let long = length-map free.inputs (stream_of streams) in
    let up : suc (port - 1) ≡ port = omega (arith, less) in
    sym (ap (λ (r : Option (Arrival Plain)). option_map (λ a. a.port) r)
    (sym same ∙ ap (λ (k : ℕ). last_of (waits_below (free_inputs streams free) taken.log k)) (sym up) ∙ one_at_it (free_inputs streams free) taken.log (port - 1) here.0 (omega (arith, less, within, long)) here.1))

pub last_below : (streams : List (StreamPrefix Plain)) (free : FreeNode) (taken : Taken) (port : ℕ) (o : Option (Bor (Stamped Plain))) (some : Bool) → 0 < port → port ≤ length free.inputs
    → option_copied o ≡ slice_get (port_of (free_inputs streams free) (port - 1)).packets (length (arrived_at (port - 1) taken.log)) → some ≡ is_some o → some ≡ false
    → last_of (waits_below (free_inputs streams free) taken.log port) ≡ last_of (next_arrivals streams free taken)
    → last_of (waits_below (free_inputs streams free) taken.log (port - 1)) ≡ last_of (next_arrivals streams free taken)
last_below streams free taken port o some less within read is test same =
    let none = copied_none o _ read (sym is ∙ test) in
    let long = length-map free.inputs (stream_of streams) in
    let up : suc (port - 1) ≡ port = omega (arith, less) in
    ap last_of (sym (none_at_it (free_inputs streams free) taken.log (port - 1) (omega (arith, less, within, long)) none))
    ∙ ap (λ (k : ℕ). last_of (waits_below (free_inputs streams free) taken.log k)) up ∙ same
