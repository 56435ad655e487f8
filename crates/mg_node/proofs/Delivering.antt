-- Deliveries: the packet that a port gets next may come, and what was laid and what came stay prefixes of one stream.
use Rattle.std.proofs.Common.{◌≡◌, ℕ, zero, suc, ◌+◌, ◌-◌, ◌≤◌, List, [], ◌∷◌, ◌++◌, length, length-append, length-drop, drop, drop-drop, append_assoc, All, Some, None, slice_get, ap, sym, refl, subst, ◌∙◌, arith}
use Rattle.std.specs.List.{AllByRecursion}
use Rattle.std.proofs.lemmas.List.Elements.{All-head, All-from_recursion, recursion_from_All}
use Rattle.mg_time.specs.Time.{IsAllowed, next, post_stream}
use Rattle.mg_value.specs.Payload.{Plain}
use Rattle.mg_value.specs.Packet.{Stamped}
use Rattle.mg_settled.specs.Prefix.{StreamPrefix, IsPrefix, MayFollow, Ascends, appended}
use Rattle.mg_settled.specs.Extension.{IsExtendedBy}
use Rattle.mg_settled.proofs.Climbs.{Ascends-climbs, Climbs-from, Climbs-first, Climbs-most}
use Rattle.mg_stream.specs.Queue.{Waiting, StandsFor, MayCome, count_of, with_packet}
use Rattle.mg_stream.proofs.QueueSteps.{stands_appended}
use Rattle.mg_node.specs.Ports.{with_room}
use Rattle.mg_node.specs.Delivery.{missing, with_packets, AreOfOne}

-- the first of some packets, and what follows it
pub first_is : {X : Type 0} (xs : List X) (x : X) → slice_get xs 0 ≡ Some x → xs ≡ x ∷ drop 1 xs
first_is [] x h = absurd cc
first_is {X} (y ∷ xs) x h = (let same : y ≡ x = cc in ap (λ (z : X). z ∷ xs) same)

pub none_first : {X : Type 0} (xs : List X) → slice_get xs 0 ≡ None → xs ≡ []
none_first [] h = refl
none_first (x ∷ xs) h = absurd cc

last_ascend : {X : Type 0} (b : ℕ) (ps qs : List (Stamped X)) → Ascends (ps ++ qs) b → Ascends qs b
last_ascend b [] qs h = h
last_ascend b (p ∷ ps) qs h = last_ascend b ps qs h.1

pub last_have : {X : Type 0} (P : X → Type 0) (ps qs : List X) → AllByRecursion P (ps ++ qs) → AllByRecursion P qs
last_have P [] qs h = h
last_have P (p ∷ ps) qs h = last_have P ps qs h.1

same_behind : {X : Type 0} (ps qs us vs : List X) (p : X) (n : ℕ) → ps ++ us ≡ qs ++ vs → n ≡ length ps → slice_get (drop n qs) 0 ≡ Some p → slice_get us 0 ≡ Some p
same_behind [] qs us vs p zero same n first = rw same (elim_first p vs qs first)
  where
    elim_first : {X : Type 0} (p : X) (rs qs : List X) → slice_get qs 0 ≡ Some p → slice_get (qs ++ rs) 0 ≡ Some p
    elim_first p rs [] h = absurd cc
    elim_first p rs (q ∷ qs) h = h
same_behind [] qs us vs p (suc n) same is first = absurd (omega (arith, is))
same_behind (x ∷ ps) [] us vs p zero same is first = absurd (omega (arith, is))
same_behind (x ∷ ps) [] us vs p (suc n) same is first = absurd cc
same_behind (x ∷ ps) (y ∷ qs) us vs p zero same is first = absurd (omega (arith, is))
same_behind (x ∷ ps) (y ∷ qs) us vs p (suc n) same is first = same_behind ps qs us vs p n (cc) (omega (arith, is)) first

-- of a stream, the packet after what came may follow it, and the stream extends what came with that packet
pub record GoesOn (stream came : StreamPrefix Plain) (p : Stamped Plain) : Type 0 where
  pub may : MayFollow came p
  pub extended : IsExtendedBy (appended came p) stream

pub goes_on_by : (stream came : StreamPrefix Plain) (p : Stamped Plain) (more : List (Stamped Plain)) → IsPrefix stream → stream.packets ≡ came.packets ++ p ∷ more → All (λ q. came.bound ≤ q.at) (p ∷ more) → GoesOn stream came p
goes_on_by stream came p more is same above =
    let All_allowed : AllByRecursion (λ (q : Stamped Plain). IsAllowed q.at) (p ∷ more) =
    last_have (λ (q : Stamped Plain). IsAllowed q.at) came.packets (p ∷ more) (subst (λ (ps : List (Stamped Plain)). AllByRecursion (λ (q : Stamped Plain). IsAllowed q.at) ps) same (recursion_from_All (λ (q : Stamped Plain). IsAllowed q.at) stream.packets is.allowed)) in
    let ascend : Ascends (p ∷ more) stream.bound = last_ascend stream.bound came.packets (p ∷ more) (subst (λ (ps : List (Stamped Plain)). Ascends ps stream.bound) same is.ascends) in
    let alone : AllByRecursion (λ (q : Stamped Plain). q.at ≡ post_stream → length stream.packets ≡ 1) (p ∷ more) =
    last_have (λ (q : Stamped Plain). q.at ≡ post_stream → length stream.packets ≡ 1) came.packets (p ∷ more) (subst (λ (ps : List (Stamped Plain)). AllByRecursion (λ (q : Stamped Plain). q.at ≡ post_stream → length stream.packets ≡ 1) ps) same (recursion_from_All (λ (q : Stamped Plain). q.at ≡ post_stream → length stream.packets ≡ 1) stream.packets is.alone)) in
    let climbs = Ascends-climbs (next p.at) stream.bound more All_allowed.1 ascend.1 ascend.0 in
    record {
      may = record {
        allowed = All_allowed.0;
        above = All-head (λ (q : Stamped Plain). came.bound ≤ q.at) p more above;
        alone = (λ e. (let one = alone.0 e in omega (arith, one, ap length same, length-append came.packets (p ∷ more))));
      };
      extended = record {
        further = more;
        packets = same ∙ sym (append_assoc came.packets (p ∷ []) more);
        bound = (let first = Climbs-first (next p.at) stream.bound more climbs in let most = Climbs-most (next p.at) stream.bound more climbs in omega (arith, first, most));
        above = All-from_recursion (λ (q : Stamped Plain). next p.at ≤ q.at) more (Climbs-from (next p.at) stream.bound more climbs);
      };
    }

pub goes_on : (stream came laid : StreamPrefix Plain) (p : Stamped Plain) → IsPrefix stream → IsExtendedBy came stream → IsExtendedBy laid stream
    → slice_get (drop (length came.packets) laid.packets) 0 ≡ Some p → GoesOn stream came p
goes_on stream came laid p is e f first =
    let here : slice_get e.further 0 ≡ Some p = same_behind came.packets laid.packets e.further f.further p (length came.packets) (sym e.packets ∙ f.packets) refl first in
    let starts = first_is e.further p here in
    goes_on_by stream came p (drop 1 e.further) is (e.packets ∙ ap (λ (ps : List (Stamped Plain)). came.packets ++ ps) starts) (subst (λ (ps : List (Stamped Plain)). All (λ q. came.bound ≤ q.at) ps) starts e.above)

-- as many packets came as are counted
pub counted : (q : Waiting Plain) (s : StreamPrefix Plain) → StandsFor q s → count_of q ≡ length s.packets
counted q s h = (let gone = h.gone in omega (arith, gone, ap length h.waiting, length-drop q.gone s.packets))

-- what a port hasn't got is what was laid after the packets that it has got
pub missing-is : (o q : Waiting Plain) (h : AreOfOne o q) → missing o q ≡ drop (length h.came.packets) h.laid.packets
missing-is o q h =
    let n : count_of q ≡ length h.came.packets = counted q h.came h.stands_there in
    let held = h.held in
    let all : o.gone + (count_of q - o.gone) ≡ length h.came.packets = omega (arith, n, held) in
    ap (λ (ps : List (Stamped Plain)). drop (count_of q - o.gone) ps) h.stands.waiting ∙ drop-drop (count_of q - o.gone) o.gone h.laid.packets ∙ ap (λ (k : ℕ). drop k h.laid.packets) all

pub may_come : (o q : Waiting Plain) (p : Stamped Plain) → AreOfOne o q → slice_get (missing o q) 0 ≡ Some p → MayCome q p.at
may_come o q p h first =
    let go = goes_on h.stream h.came h.laid p h.whole h.extended_there h.extended (ap (λ (ps : List (Stamped Plain)). slice_get ps 0) (sym (missing-is o q h)) ∙ first) in
    let n = counted q h.came h.stands_there in
    let bound = h.stands_there.bound in
    let above = go.may.above in
    record {
      allowed = go.may.allowed;
      above = omega (arith, bound, above);
      alone = (λ e. (let none = go.may.alone e in omega (arith, none, n)));
    }

-- with another room they are of one stream too
abbrev pub of_one_room : (o q : Waiting Plain) (spare : ℕ) → AreOfOne o q → AreOfOne o (with_room q spare)
of_one_room o q spare h = record {
  stream = h.stream;
  whole = h.whole;
  laid = h.laid;
  came = h.came;
  stands = h.stands;
  stands_there = record { prefix = h.stands_there.prefix; gone = h.stands_there.gone; waiting = h.stands_there.waiting; bound = h.stands_there.bound };
  extended = h.extended;
  extended_there = h.extended_there;
  held = h.held;
}

abbrev pub of_one_next : (o q : Waiting Plain) (p : Stamped Plain) → AreOfOne o q → slice_get (missing o q) 0 ≡ Some p → AreOfOne o (with_packet q p)
of_one_next o q p h first =
    let go = goes_on h.stream h.came h.laid p h.whole h.extended_there h.extended (ap (λ (ps : List (Stamped Plain)). slice_get ps 0) (sym (missing-is o q h)) ∙ first) in
    let held = h.held in
    record {
      stream = h.stream;
      whole = h.whole;
      laid = h.laid;
      came = appended h.came p;
      stands = h.stands;
      stands_there = stands_appended q p h.came (may_come o q p h first) h.stands_there;
      extended = h.extended;
      extended_there = go.extended;
      held = omega (arith, held, length-append q.packets (p ∷ []));
    }

-- a port has one packet less to get
pub missing-next : (o q : Waiting Plain) (p : Stamped Plain) → o.gone ≤ count_of q → missing o (with_packet q p) ≡ drop 1 (missing o q)
missing-next o q p held =
    let more : count_of (with_packet q p) - o.gone ≡ count_of q - o.gone + 1 = omega (arith, held, length-append q.packets (p ∷ [])) in
    ap (λ (k : ℕ). drop k o.packets) more ∙ sym (drop-drop 1 (count_of q - o.gone) o.packets)

-- packets one by one
pub with_packets-push : (q : Waiting Plain) (ps : List (Stamped Plain)) (p : Stamped Plain) → with_packet (with_packets q ps) p ≡ with_packets q (ps ++ p ∷ [])
with_packets-push q [] p = refl
with_packets-push q (x ∷ ps) p = with_packets-push (with_packet q x) ps p
