-- Ports put in order: they ascend, each tag and index once, and have the tag and index of every port that was given.
use Rattle.std.proofs.Common.{◌≡◌, suc, ◌+◌, ◌≤◌, List, [], ◌∷◌, length, true, refl, sym, ap, ap₂, ◌∙◌, arith, fold, inl, inr, ◌⊎◌, bytes_eq, All, ◌==◌, true≢false}
use Rattle.std.specs.declared.cmp.Ordering.{Ordering}
use Rattle.std.specs.declared.cmp.Ordering.TheVariants.{Less, Equal, Greater}
use Rattle.std.specs.Ordering.{ordering_reverse}
use Rattle.std.specs.Cmp.{IsTotalOrder, then_total, on_total, nat_cmp_total, tied_itself}
use Rattle.std.specs.Cmp.Lexicographic.{nat_list_cmp_total}
use Rattle.std.specs.List.{AllByRecursion}
use Rattle.std.specs.List.Sorted.{IsStrictlySortedBy}
use Rattle.std.proofs.lemmas.Bool.{and_parts, or_cases, eqb-true}
use Rattle.std.proofs.lemmas.List.Elements.{All-from_recursion}
use Rattle.std.proofs.lemmas.Slice.Eq.{bytes_eq-Decides}
use Rattle.mg_value.specs.declared.kind.Kind.TheVariants.{Any}
use Rattle.mg_names.specs.Ports.{has_port, is_at}
use Rattle.mg_names.specs.declared.port.Port.{Port}
use Rattle.mg_calc.specs.declared.port_kind.PortKind.{PortKind}
use Rattle.mg_calc.specs.Shape.{port_cmp, ArePorts}
use Rattle.mg_kinds.specs.Ports.{port}
use Rattle.mg_kinds.specs.PortOrder.{put_in_order, put_by, any_port, in_order}

pub port_total : IsTotalOrder port_cmp
port_total = then_total (on_total (λ (p : PortKind). p.tag) nat_list_cmp_total) (on_total (λ (p : PortKind). p.index) nat_cmp_total)

-- a port stands before all of these
abbrev pub IsBefore : PortKind → List PortKind → Type 0
IsBefore p qs = AllByRecursion (λ q. port_cmp p q ≡ Less) qs

-- also before those that come after one of them
pub before_more : (p q : PortKind) (qs : List PortKind) → port_cmp p q ≡ Less → IsBefore q qs → IsBefore p qs
before_more p q [] below all = tt
before_more p q (r ∷ qs) below all = (port_total.trans p q r below all.0, before_more p q qs below all.1)

-- a result of three cases, each with the comparison's answer
by_order : (P : List PortKind → Type 0) (p q : PortKind) (qs more : List PortKind) → (port_cmp p q ≡ Less → P (p ∷ q ∷ qs)) → (port_cmp p q ≡ Equal → P (q ∷ qs)) → (port_cmp p q ≡ Greater → P (q ∷ more))
    → P (put_by (port_cmp p q) p q qs more)
by_order P p q qs more less equal greater = by (port_cmp p q) refl
  where
    by : (o : Ordering) → port_cmp p q ≡ o → P (put_by o p q qs more)
    by Less e = less e
    by Equal e = equal e
    by Greater e = greater e

turned : (p q : PortKind) → port_cmp p q ≡ Greater → port_cmp q p ≡ Less
turned p q e = port_total.antisymm q p ∙ ap ordering_reverse e

-- a port that comes before some ports still does once a later port is put among them
put_after : (q : PortKind) (ps : List PortKind) (p : PortKind) → port_cmp q p ≡ Less → IsBefore q ps → IsBefore q (put_in_order ps p)
put_after q [] p below all = (below, tt)
put_after q (r ∷ ps) p below all = by_order (IsBefore q) p r ps (put_in_order ps p) (λ e. (below, all)) (λ e. all) (λ e. (all.0, put_after q ps p below all.1))

put_ascends : (ps : List PortKind) (p : PortKind) → ArePorts ps → ArePorts (put_in_order ps p)
unfolding IsStrictlySortedBy
put_ascends [] p h = (tt, tt)
put_ascends (q ∷ ps) p h =
    by_order ArePorts p q ps (put_in_order ps p)
    (λ e. ((e, before_more p q ps e h.0), h))
    (λ e. h)
    (λ e. (put_after q ps p (turned p q e) h.0, put_ascends ps p h.1))

ascends_from : (ps : List Port) (done : List PortKind) → ArePorts done → ArePorts (fold (λ done p. put_in_order done (any_port p)) done ps)
ascends_from [] done h = h
ascends_from (p ∷ ps) done h = ascends_from ps (put_in_order done (any_port p)) (put_ascends done (any_port p) h)

pub in_order-ascends : (ps : List Port) → ArePorts (in_order ps)
unfolding IsStrictlySortedBy
in_order-ascends ps = ascends_from ps [] tt

-- each takes any kind
abbrev TakeAny : List PortKind → Type 0
TakeAny ps = AllByRecursion (λ p. p.kind ≡ Any) ps

put_any : (ps : List PortKind) (p : PortKind) → p.kind ≡ Any → TakeAny ps → TakeAny (put_in_order ps p)
put_any [] p any h = (any, tt)
put_any (q ∷ ps) p any h = by_order TakeAny p q ps (put_in_order ps p) (λ e. (any, h)) (λ e. h) (λ e. (h.0, put_any ps p any h.1))

any_from : (ps : List Port) (done : List PortKind) → TakeAny done → TakeAny (fold (λ done p. put_in_order done (any_port p)) done ps)
any_from [] done h = h
any_from (p ∷ ps) done h = any_from ps (put_in_order done (any_port p)) (put_any done (any_port p) refl h)

pub in_order-any : (ps : List Port) → All (λ p. p.kind ≡ Any) (in_order ps)
in_order-any ps = All-from_recursion (λ p. p.kind ≡ Any) (in_order ps) (any_from ps [] tt)

-- how many they are
put_most : (ps : List PortKind) (p : PortKind) → length (put_in_order ps p) ≤ suc (length ps)
put_most [] p = omega arith
put_most (q ∷ ps) p =
    let most = put_most ps p in
    by_order (λ l. length l ≤ suc (suc (length ps))) p q ps (put_in_order ps p) (λ e. omega arith) (λ e. omega arith) (λ e. omega arith)

put_least : (ps : List PortKind) (p : PortKind) → 1 ≤ length (put_in_order ps p)
put_least [] p = omega arith
put_least (q ∷ ps) p = by_order (λ l. 1 ≤ length l) p q ps (put_in_order ps p) (λ e. omega arith) (λ e. omega arith) (λ e. omega arith)

most_from : (ps : List Port) (done : List PortKind) → length (fold (λ done p. put_in_order done (any_port p)) done ps) ≤ length ps + length done
most_from [] done = omega arith
most_from (p ∷ ps) done =
    let more = most_from ps (put_in_order done (any_port p)) in
    let one = put_most done (any_port p) in
    omega arith

least_from : (ps : List Port) (done : List PortKind) → 1 ≤ length done → 1 ≤ length (fold (λ done p. put_in_order done (any_port p)) done ps)
least_from [] done h = h
least_from (p ∷ ps) done h = least_from ps (put_in_order done (any_port p)) (put_least done (any_port p))

pub in_order-most : (ps : List Port) → length (in_order ps) ≤ length ps
in_order-most ps = let most = most_from ps [] in omega arith

pub in_order-none : (ps : List Port) → length ps ≡ 0 → length (in_order ps) ≡ 0
in_order-none ps none = let most = in_order-most ps in omega arith

pub in_order-some : (ps : List Port) → 1 ≤ length ps → 1 ≤ length (in_order ps)
in_order-some [] some = absurd (omega arith)
in_order-some (p ∷ ps) some = least_from ps (any_port p ∷ []) (omega arith)

-- a port of this tag and index is among these
abbrev pub Among : PortKind → List PortKind → Type 0
Among p [] = ⊥
Among p (q ∷ qs) = (port_cmp p q ≡ Equal) ⊎ Among p qs

put_keeps : (r p : PortKind) (ps : List PortKind) → Among r ps → Among r (put_in_order ps p)
put_keeps r p [] h = absurd h
put_keeps r p (q ∷ ps) (inl e) = by_order (Among r) p q ps (put_in_order ps p) (λ _. inr (inl e)) (λ _. inl e) (λ _. inl e)
put_keeps r p (q ∷ ps) (inr h) = by_order (Among r) p q ps (put_in_order ps p) (λ _. inr (inr h)) (λ _. inr h) (λ _. inr (put_keeps r p ps h))

put_has : (r p : PortKind) (ps : List PortKind) → port_cmp r p ≡ Equal → Among r (put_in_order ps p)
put_has r p [] e = inl e
put_has r p (q ∷ ps) e = by_order (Among r) p q ps (put_in_order ps p) (λ _. inl e) (λ same. inl (port_total.congr r p q e ∙ same)) (λ _. inr (put_has r p ps e))

kept_from : (r : PortKind) (ps : List Port) (done : List PortKind) → Among r done → Among r (fold (λ done p. put_in_order done (any_port p)) done ps)
kept_from r [] done h = h
kept_from r (p ∷ ps) done h = kept_from r ps (put_in_order done (any_port p)) (put_keeps r (any_port p) done h)

-- a port that has this tag and index compares as equal to it
at_same : (r : PortKind) (p : Port) → is_at r.tag r.index p ≡ true → port_cmp r (any_port p) ≡ Equal
at_same r p at =
    let parts = and_parts (bytes_eq r.tag p.tag) (r.index == p.index) at in
    let tag : r.tag ≡ p.tag = (bytes_eq-Decides r.tag p.tag).0 parts.0 in
    let index : r.index ≡ p.index = eqb-true r.index p.index parts.1 in
    ap₂ (λ t i. port_cmp r (port t Any i)) (sym tag) (sym index) ∙ tied_itself port_total r

has_from : (r : PortKind) (ps : List Port) (done : List PortKind) → has_port r.tag r.index ps ≡ true → Among r (fold (λ done p. put_in_order done (any_port p)) done ps)
has_from r [] done there = absurd (true≢false (sym there))
has_from r (p ∷ ps) done there =
    elim (or_cases (is_at r.tag r.index p) (has_port r.tag r.index ps) there) [
      | inl here ↦ kept_from r ps (put_in_order done (any_port p)) (put_has r (any_port p) done (at_same r p here))
      | inr later ↦ has_from r ps (put_in_order done (any_port p)) later
    ]

pub in_order-has : (r : PortKind) (ps : List Port) → has_port r.tag r.index ps ≡ true → Among r (in_order ps)
in_order-has r ps there = has_from r ps [] there
