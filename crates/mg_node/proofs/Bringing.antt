-- The steps of a delivery.
use Rattle.std.proofs.Common.{◌≡◌, ℕ, zero, suc, ◌+◌, ◌-◌, ◌<◌, ◌≤◌, ◌==◌, min, nat_lt, Bool, false, List, [], ◌∷◌, ◌++◌, length, length-drop, take, drop, drop-drop, get_or, Option, Some, None, slice_get, ne_eqb, inl, inr, ap, sym, refl, subst, ◌∙◌, arith}
use Rattle.std.proofs.Math.Seq.{drop-length}
use Rattle.std.proofs.lemmas.Bool.Decides.{eqb_tells}
use Rattle.std.proofs.lemmas.List.{take_more, take_all}
use Rattle.mg_value.specs.Payload.{Plain}
use Rattle.mg_value.specs.Packet.{Stamped}
use Rattle.mg_stream.specs.Queue.{Waiting, with_packet, raised_to, count_of}
use Rattle.mg_node.specs.declared.pending.Pending.{Pending}
use Rattle.mg_node.specs.declared.delivered.Delivered.TheVariants.{Moved}
use Rattle.mg_node.specs.Ports.{ports_in, port_queue, with_port, with_room}
use Rattle.mg_node.specs.Delivery.{missing, with_packets, delivered, Delivers, AreOfOne}
use Rattle.mg_node.specs.Code.Bringing.{Brought}
use Rattle.mg_node.proofs.PortSteps.{queue-there, ports-same, port-twice}
use Rattle.mg_node.proofs.Delivering.{none_first, of_one_next, of_one_room, missing-next, with_packets-push}

-- the first of what is left, by its place
at_place : {X : Type 0} (xs : List X) (n : ℕ) (x : X) → slice_get (drop n xs) 0 ≡ Some x → (n < length xs) × (get_or xs n x ≡ x)
at_place [] zero x h = absurd cc
at_place [] (suc n) x h = absurd cc
at_place (y ∷ xs) zero x h = (omega arith, cc)
at_place (y ∷ xs) (suc n) x h = (let later = at_place xs n x h in (omega (arith, later.0), later.1))

-- the first of what is left stands after as many of the output's packets as have come
pub first_at : {X : Type 0} (xs : List X) (n : ℕ) → slice_get (drop n xs) 0 ≡ slice_get xs n
first_at [] zero = refl
first_at [] (suc n) = refl
first_at (x ∷ xs) zero = refl
first_at (x ∷ xs) (suc n) = first_at xs n

pub next_missing : (o : Waiting Plain) (port n m first : ℕ) (before now : Pending) (next : Option (Stamped Plain)) → Brought o port n before now → first ≡ count_of (port_queue before port) - o.gone → m ≡ n
    → next ≡ slice_get o.packets (first + m) → slice_get (missing o (port_queue now port)) 0 ≡ next
next_missing o port n m first before now next b is same found =
    ap (λ (ps : List (Stamped Plain)). slice_get ps 0) b.left
    ∙ ap (λ (k : ℕ). slice_get (drop n (drop k o.packets)) 0) (sym is)
    ∙ ap (λ (ps : List (Stamped Plain)). slice_get ps 0) (drop-drop n first o.packets)
    ∙ first_at o.packets (first + n)
    ∙ ap (λ (k : ℕ). slice_get o.packets (first + k)) (sym same)
    ∙ sym found

-- one more has come
pub brought_more : (o : Waiting Plain) (port n : ℕ) (before now next : Pending) (p : Stamped Plain) (spare : ℕ) → Brought o port n before now
    → slice_get (missing o (port_queue now port)) 0 ≡ Some p → next ≡ with_port now port (with_room (with_packet (port_queue now port) p) spare) → Brought o port (n + 1) before next
brought_more o port n before now next p spare b first is =
    let all = missing o (port_queue before port) in
    let q = with_room (with_packet (port_queue now port) p) spare in
    let here : port_queue next port ≡ q = ap (λ (w : Pending). port_queue w port) is ∙ queue-there now port q b.there in
    let place = at_place all n p (ap (λ (ps : List (Stamped Plain)). slice_get ps 0) (sym b.left) ∙ first) in
    let before_there : port < ports_in before = (let same = ap ports_in b.came in let there = b.there in omega (arith, there, same, ports-same before port (with_room (with_packets (port_queue before port) (take n all)) (port_queue now port).spare))) in
    let old : port_queue now port ≡ with_room (with_packets (port_queue before port) (take n all)) (port_queue now port).spare =
    ap (λ (w : Pending). port_queue w port) b.came ∙ queue-there before port _ before_there in
    let longer : with_packet (with_packets (port_queue before port) (take n all)) p ≡ with_packets (port_queue before port) (take (n + 1) all) =
    with_packets-push (port_queue before port) (take n all) p ∙ ap (with_packets (port_queue before port)) (ap (λ (x : Stamped Plain). take n all ++ x ∷ []) (sym place.1) ∙ sym (take_more all n p place.0)) in
    let same : q ≡ with_room (with_packets (port_queue before port) (take (n + 1) all)) spare =
    ap (λ (r : Waiting Plain). with_room (with_packet r p) spare) old ∙ ap (λ (r : Waiting Plain). with_room r spare) longer in
    let room : (port_queue next port).spare ≡ spare = ap (λ (r : Waiting Plain). r.spare) here in
    record {
      there = (let there = b.there in omega (arith, there, ap ports_in is, ports-same now port q));
      of_one = subst (λ (r : Waiting Plain). AreOfOne o r) (sym here) (of_one_room o _ spare (of_one_next o (port_queue now port) p b.of_one first));
      within = (let le = place.0 in omega (arith, le));
      came = is ∙ ap (λ (w : Pending). with_port w port q) b.came ∙ port-twice before port _ q ∙ ap (λ (r : Waiting Plain). with_port before port r) (same ∙ ap (with_room (with_packets (port_queue before port) (take (n + 1) all))) (sym room));
      left = ap (missing o) here ∙ missing-next o (port_queue now port) p b.of_one.held ∙ ap (λ (ps : List (Stamped Plain)). drop 1 ps) b.left ∙ drop-drop 1 n all;
    }

-- nothing has come, but the room is another one
pub brought_same : (o : Waiting Plain) (port n : ℕ) (before now next : Pending) (spare : ℕ) → Brought o port n before now
    → next ≡ with_port now port (with_room (port_queue now port) spare) → Brought o port n before next
brought_same o port n before now next spare b is =
    let all = missing o (port_queue before port) in
    let q = with_room (port_queue now port) spare in
    let here : port_queue next port ≡ q = ap (λ (w : Pending). port_queue w port) is ∙ queue-there now port q b.there in
    let before_there : port < ports_in before = (let same = ap ports_in b.came in let there = b.there in omega (arith, there, same, ports-same before port (with_room (with_packets (port_queue before port) (take n all)) (port_queue now port).spare))) in
    let old : port_queue now port ≡ with_room (with_packets (port_queue before port) (take n all)) (port_queue now port).spare =
    ap (λ (w : Pending). port_queue w port) b.came ∙ queue-there before port _ before_there in
    let room : (port_queue next port).spare ≡ spare = ap (λ (r : Waiting Plain). r.spare) here in
    record {
      there = (let there = b.there in omega (arith, there, ap ports_in is, ports-same now port q));
      of_one = subst (λ (r : Waiting Plain). AreOfOne o r) (sym here) (of_one_room o _ spare b.of_one);
      within = b.within;
      came = is ∙ ap (λ (w : Pending). with_port w port q) b.came ∙ port-twice before port _ q
          ∙ ap (λ (r : Waiting Plain). with_port before port r) (ap (λ (r : Waiting Plain). with_room r spare) old ∙ ap (with_room (with_packets (port_queue before port) (take n all))) (sym room));
      left = ap (missing o) here ∙ b.left;
    }

-- if there is no next packet, none is left; if there is a next packet, some are left
pub none_left : (o : Waiting Plain) (port n most : ℕ) (before now : Pending) → Brought o port n before now → n ≤ most → slice_get (missing o (port_queue now port)) 0 ≡ None
    → n ≡ min most (length (missing o (port_queue before port)))
none_left o port n most before now b le none =
    let all = missing o (port_queue before port) in
    let within = b.within in
    omega (arith, le, within, ap length (sym b.left ∙ none_first (missing o (port_queue now port)) none), length-drop n all)

pub some_left : (o : Waiting Plain) (port n most : ℕ) (before now : Pending) (p : Stamped Plain) → Brought o port n before now → n < most → slice_get (missing o (port_queue now port)) 0 ≡ Some p
    → n < min most (length (missing o (port_queue before port)))
some_left o port n most before now p b le first =
    let all = missing o (port_queue before port) in
    let place = at_place all n p (ap (λ (ps : List (Stamped Plain)). slice_get ps 0) (sym b.left) ∙ first) in
    omega (arith, le, place.0)

-- what a call of a queue's place finds
pub found : {X : Type 0} (o r : Option X) (x : X) → o ≡ r → o ≡ Some x → r ≡ Some x
found o r x same is = sym same ∙ is

-- a delivery of all that may come
moved_by : (o q r : Waiting Plain) (n spare : ℕ) → r ≡ with_room (with_packets q (take n (missing o q))) spare → missing o r ≡ drop n (missing o q) → n ≤ length (missing o q)
    → delivered o r 0 ≡ with_room (delivered o q n) spare
moved_by o q r n spare is left within = elim (eqb_tells n (length (missing o q))) [
  | inl (test, same) ↦
      (let none : missing o r ≡ [] = left ∙ ap (λ (k : ℕ). drop k (missing o q)) same ∙ drop-length (missing o q) in
      let whole : take n (missing o q) ≡ missing o q = ap (λ (k : ℕ). take k (missing o q)) same ∙ take_all (length (missing o q)) (missing o q) (omega arith) in
      rw (test, none) (ap (λ (x : Waiting Plain). raised_to x o.bound) (is ∙ ap (λ (ps : List (Stamped Plain)). with_room (with_packets q ps) spare) whole)))
  | inr (test, other) ↦
      (let some : (0 == length (missing o r)) ≡ false = ne_eqb 0 (length (missing o r)) (λ e. other (omega (arith, e, ap length left, length-drop n (missing o q), within))) in
      rw (test, some) is)
]

pub delivers : (o : Waiting Plain) (port n most : ℕ) (before now next : Pending) (raised : Bool) → port < ports_in before → Brought o port n before now → n ≡ min most (length (missing o (port_queue before port)))
    → next ≡ with_port now port (delivered o (port_queue now port) 0) → raised ≡ nat_lt (port_queue now port).bound (port_queue next port).bound
    → Delivers (Moved n raised) o port most before next
delivers o port n most before now next raised there b count is rose =
    let all = missing o (port_queue before port) in
    let came : port_queue now port ≡ with_room (with_packets (port_queue before port) (take n all)) (port_queue now port).spare =
    ap (λ (w : Pending). port_queue w port) b.came ∙ queue-there before port _ there in
    let ends : delivered o (port_queue now port) 0 ≡ with_room (delivered o (port_queue before port) n) (port_queue now port).spare =
    moved_by o (port_queue before port) (port_queue now port) n (port_queue now port).spare came b.left b.within in
    let last : next ≡ with_port before port (with_room (delivered o (port_queue before port) n) (port_queue now port).spare) =
    is ∙ ap (λ (w : Pending). with_port w port (delivered o (port_queue now port) 0)) b.came ∙ port-twice before port _ _ ∙ ap (with_port before port) ends in
    let room : (port_queue next port).spare ≡ (port_queue now port).spare =
    ap (λ (w : Pending). (port_queue w port).spare) last ∙ ap (λ (q : Waiting Plain). q.spare) (queue-there before port (with_room (delivered o (port_queue before port) n) (port_queue now port).spare) there) in (
      count,
      last ∙ ap (λ (k : ℕ). with_port before port (with_room (delivered o (port_queue before port) n) k)) (sym room),
      rose ∙ ap (λ (q : Waiting Plain). nat_lt q.bound (port_queue next port).bound) came,
    )

-- nothing has moved
pub moved_none : (n : ℕ) (raised : Bool) → Moved n raised ≡ Moved 0 false → (n ≡ 0) × (raised ≡ false)
moved_none n raised same = (cc, cc)
