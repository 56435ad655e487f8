-- What queues and outputs stand for is told by them, where it stands in known streams; and how far outputs are raised.
use Rattle.std.proofs.Common.{◌≡◌, ℕ, suc, ℤ, ◌<◌, ◌≤◌, Bool, true, false, nat_lt, List, [], ◌∷◌, take, length, length-drop, map, get_or, Option, Some, None, ap, ap₂, sym, refl, ◌∙◌, arith, if◌then◌else◌}
use Rattle.std.specs.List.{AllZip, AllByRecursion}
use Rattle.std.proofs.Math.Seq.{take-append_seam}
use Rattle.std.proofs.lemmas.Bool.{ltb-false}
use Rattle.mg_time.specs.Time.{shift}
use Rattle.mg_value.specs.Payload.{Plain}
use Rattle.mg_settled.specs.Prefix.{StreamPrefix, IsPrefix, empty_prefix, raised}
use Rattle.mg_settled.specs.Extension.{IsExtendedBy, AreExtendedBy}
use Rattle.mg_settled.proofs.Extending.{same_prefix}
use Rattle.mg_stream.specs.Queue.{Waiting, StandsFor}
use Rattle.mg_stream.specs.Pool.{Backlog, empty_backlog, queue_of}
use Rattle.mg_calc.specs.Laying.{all_raised}
use Rattle.mg_node.specs.Advances.{any_moved}
use Rattle.mg_node.specs.Lawful.{IsRaised, StandForAll}
use Rattle.mg_node.proofs.LayingRaised.{raised_extended, none_raised}

-- a queue stands for one prefix of a stream at most: as many packets came, and the bound is the queue's
pub stood_same : (q : Waiting Plain) (s t u : StreamPrefix Plain) → StandsFor q s → StandsFor q t → IsExtendedBy s u → IsExtendedBy t u → s ≡ t
stood_same q s t u h k e f =
    let gone = h.gone in
    let gone_too = k.gone in
    let long : length s.packets ≡ length t.packets = omega (arith, gone, gone_too, ap length h.waiting, ap length k.waiting, length-drop q.gone s.packets, length-drop q.gone t.packets) in
    same_prefix s t
    (sym (take-append_seam s.packets e.further) ∙ ap (take (length s.packets)) (sym e.packets) ∙ ap (λ (n : ℕ). take n u.packets) long ∙ ap (take (length t.packets)) f.packets ∙ take-append_seam t.packets f.further)
    (sym h.bound ∙ k.bound)

-- and so do several
pub all_stood_same : {B : Type 0} (f : B → Waiting Plain) (bs : List B) (ss ts us : List (StreamPrefix Plain)) → AllZip (λ b s. StandsFor (f b) s) bs ss → AllZip (λ b s. StandsFor (f b) s) bs ts → AreExtendedBy ss us → AreExtendedBy ts us → ss ≡ ts
all_stood_same f [] [] [] us h k e g = refl
all_stood_same f [] [] (t ∷ ts) us h k e g = absurd k
all_stood_same f [] (s ∷ ss) ts us h k e g = absurd h
all_stood_same f (b ∷ bs) [] ts us h k e g = absurd h
all_stood_same f (b ∷ bs) (s ∷ ss) [] us h k e g = absurd k
all_stood_same f (b ∷ bs) (s ∷ ss) (t ∷ ts) [] h k e g = absurd e
all_stood_same f (b ∷ bs) (s ∷ ss) (t ∷ ts) (u ∷ us) h k e g =
    ap₂ (λ (x : StreamPrefix Plain) (xs : List (StreamPrefix Plain)). x ∷ xs) (stood_same (f b) s t u h.0 k.0 e.0 g.0) (all_stood_same f bs ss ts us h.1 k.1 e.1 g.1)

-- by the numbers of the ports
pub each_stands : (spare : ℕ) (bs : List (Backlog Plain)) (ss : List (StreamPrefix Plain)) → length ss ≡ length bs → ((i : ℕ) → i < length ss → StandsFor (queue_of spare (get_or bs i empty_backlog)) (get_or ss i empty_prefix))
    → AllZip StandsFor (map (queue_of spare) bs) ss
each_stands spare [] [] long h = tt
each_stands spare [] (s ∷ ss) long h = absurd (omega (arith, long))
each_stands spare (b ∷ bs) [] long h = absurd (omega (arith, long))
each_stands spare (b ∷ bs) (s ∷ ss) long h = (h 0 (omega arith), each_stands spare bs ss (omega (arith, long)) (λ i le. h (suc i) (omega (arith, le))))

pub each_prefix : (ss : List (StreamPrefix Plain)) → ((i : ℕ) → i < length ss → IsPrefix (get_or ss i empty_prefix)) → AllByRecursion IsPrefix ss
each_prefix [] h = tt
each_prefix (s ∷ ss) h = (h 0 (omega arith), each_prefix ss (λ i le. h (suc i) (omega (arith, le))))

-- Prefixes that are perhaps raised.
pub all_raised_extended : (base whole : List (StreamPrefix Plain)) → AllZip IsRaised base whole → AreExtendedBy base whole
all_raised_extended [] [] r = tt
all_raised_extended [] (w ∷ ws) r = absurd r
all_raised_extended (s ∷ ss) [] r = absurd r
all_raised_extended (s ∷ ss) (w ∷ ws) r = (raised_extended s w r.0, all_raised_extended ss ws r.1)

pub none_are_raised : (base whole : List (StreamPrefix Plain)) → AllZip IsRaised base whole → AreExtendedBy whole base → whole ≡ base
none_are_raised [] [] r e = refl
none_are_raised [] (w ∷ ws) r e = absurd r
none_are_raised (s ∷ ss) [] r e = absurd r
none_are_raised (s ∷ ss) (w ∷ ws) r e = ap₂ (λ (x : StreamPrefix Plain) (xs : List (StreamPrefix Plain)). x ∷ xs) (none_raised s w r.0 e.0) (none_are_raised ss ws r.1 e.1)

-- Outputs that a bound doesn't move.
not_moved : (b c : Bool) → (if b then true else c) ≡ false → (b ≡ false) × (c ≡ false)
not_moved true c e = absurd cc
not_moved false c e = (refl, e)

pub none_moved : (bound : ℕ) (outputs : List (Backlog Plain)) → any_moved bound outputs ≡ false → AllByRecursion (λ o. bound ≤ o.bound) outputs
none_moved bound [] e = tt
none_moved bound (o ∷ os) e =
    let parts = not_moved (nat_lt o.bound bound) (any_moved bound os) e in
    (ltb-false o.bound bound parts.0, none_moved bound os parts.1)

-- what such outputs stand for has at least that bound
pub already_raised : (bound : ℕ) (outputs : List (Backlog Plain)) (base whole : List (StreamPrefix Plain)) → AllZip IsRaised base whole → StandForAll outputs whole → AllByRecursion (λ o. bound ≤ o.bound) outputs → AllZip IsRaised (map (λ s. raised s bound) base) whole
already_raised bound outputs [] [] r k le = tt
already_raised bound outputs [] (w ∷ ws) r k le = absurd r
already_raised bound outputs (s ∷ ss) [] r k le = absurd r
already_raised bound [] (s ∷ ss) (w ∷ ws) r k le = absurd k
already_raised bound (o ∷ os) (s ∷ ss) (w ∷ ws) r k le =
    (record { packets = r.0.packets; bound = (let up = r.0.bound in let first = le.0 in let same = k.0.bound in omega (arith, up, first, same)) }, already_raised bound os ss ws r.1 k.1 le.1)

pub raised_by_offset : (offset : Option ℤ) (t : ℕ) (outputs : List (Backlog Plain)) (base whole : List (StreamPrefix Plain)) → AllZip IsRaised base whole → StandForAll outputs whole → ((o : ℤ) → offset ≡ Some o → AllByRecursion (λ b. shift t o ≤ b.bound) outputs)
    → AllZip IsRaised (all_raised offset t base) whole
raised_by_offset None t outputs base whole r k le = r
raised_by_offset (Some o) t outputs base whole r k le = already_raised (shift t o) outputs base whole r k (le o refl)

-- a loopback's one output, which tells its stream up to a time
pub one_told : (t : ℕ) (u base : StreamPrefix Plain) (outputs : List (Backlog Plain)) (whole : List (StreamPrefix Plain)) → base.packets ≡ u.packets → t ≡ u.bound → AllZip IsRaised (base ∷ []) whole → StandForAll outputs whole → AllByRecursion (λ o. t ≤ o.bound) outputs
    → AllZip IsRaised (u ∷ []) whole
one_told t u base outputs [] same at r k le = absurd r
one_told t u base [] (w ∷ ws) same at r k le = absurd k
one_told t u base (o ∷ os) (w ∷ []) same at r k le = (record { packets = r.0.packets ∙ same; bound = (let first = le.0 in let bound = k.0.bound in omega (arith, first, bound, at)) }, tt)
one_told t u base (o ∷ os) (w ∷ x ∷ ws) same at r k le = absurd r.1
