-- What fits a row has its ports, and no more than there are indexes.
use Rattle.std.proofs.Common.{◌≡◌, ℕ, zero, suc, ◌+◌, ◌<◌, ◌≤◌, List, [], ◌∷◌, ◌++◌, length, true, ◌==◌, nat_le, None, Some, refl, sym, ap, ap₂, subst, ◌∙◌, arith, inl, inr, map, eqb-true, leb-true, append-nil, zero-le}
use Rattle.std.specs.declared.cmp.Ordering.{Ordering}
use Rattle.std.specs.declared.cmp.Ordering.TheVariants.{Less, Equal, Greater}
use Rattle.std.specs.Ordering.{is_eq, ordering_then, ordering_reverse, nat_cmp}
use Rattle.std.specs.Cmp.{tied_itself}
use Rattle.std.specs.Cmp.Lexicographic.{nat_list_cmp_total}
use Rattle.std.specs.List.{AllByRecursion, list_all, range_with_len}
use Rattle.std.specs.List.Sorted.{IsStrictlySortedBy}
use Rattle.std.proofs.lemmas.Bool.{and_parts, true≢false, lt-ltb}
use Rattle.std.proofs.lemmas.Option.{cond_some}
use Rattle.std.proofs.lemmas.List.FromFn.{length-map-range_with_len}
use Rattle.mg_value.specs.declared.kind.Kind.{Kind}
use Rattle.mg_names.specs.Ports.{has_port}
use Rattle.mg_names.specs.declared.port.Port.{Port}
use Rattle.mg_calc.specs.declared.port_kind.PortKind.{PortKind}
use Rattle.mg_calc.specs.Shape.{port_cmp, ArePorts, ports}
use Rattle.mg_kinds.specs.Ports.{port, has_just, has_row, ports_in, end_port, fitting}
use Rattle.mg_kinds.specs.PortOrder.{in_order}
use Rattle.mg_kinds.specs.Tags.{tag_text}
use Rattle.mg_kinds.specs.declared.row.Row.{Row}
use Rattle.mg_kinds.proofs.InOrder.{port_total, IsBefore, before_more, Among, in_order-ascends, in_order-most, in_order-has}

-- Lists that ascend: one whose ports are all among another's isn't longer.

abbrev AreAmong : List PortKind → List PortKind → Type 0
AreAmong ps qs = AllByRecursion (λ p. Among p qs) ps

not_equal : {o : Ordering} → o ≡ Less → o ≡ Equal → ⊥
not_equal less equal = true≢false (ap is_eq (sym equal ∙ less))

-- a port kind that stands before all of these isn't among them
none_before : (p : PortKind) (qs : List PortKind) → IsBefore p qs → Among p qs → ⊥
none_before p [] all h = h
none_before p (q ∷ qs) all (inl e) = not_equal all.0 e
none_before p (q ∷ qs) all (inr h) = none_before p qs all.1 h

-- those that come after the first are among the others
among_rest : (q : PortKind) (qs : List PortKind) (ps : List PortKind) → IsBefore q ps → AreAmong ps (q ∷ qs) → AreAmong ps qs
among_rest q qs [] after h = tt
among_rest q qs (p ∷ ps) after h = (by h.0, among_rest q qs ps after.1 h.1)
  where
    by : Among p (q ∷ qs) → Among p qs
    by (inl e) = absurd (not_equal after.0 (port_total.antisymm q p ∙ ap ordering_reverse e))
    by (inr there) = there

tied_all : (q p : PortKind) (ps : List PortKind) → port_cmp p q ≡ Equal → IsBefore p ps → IsBefore q ps
tied_all q p [] same h = tt
tied_all q p (r ∷ ps) same h = (sym (port_total.congr p q r same) ∙ h.0, tied_all q p ps same h.1)

pub no_longer : (qs ps : List PortKind) → ArePorts ps → ArePorts qs → AreAmong ps qs → length ps ≤ length qs
unfolding IsStrictlySortedBy
no_longer qs [] up over h = zero-le
no_longer [] (p ∷ ps) up over h = absurd h.0
no_longer (q ∷ qs) (p ∷ ps) up over h = by (port_cmp p q) refl (λ same. no_longer qs ps up.1 over.1 (among_rest q qs ps (tied_all q p ps same up.0) h.1))
    (λ turned. no_longer qs (p ∷ ps) up over.1 (among_rest q qs (p ∷ ps) (turned, before_more q p ps turned up.0) h))
  where
    by : (o : Ordering) → port_cmp p q ≡ o → (port_cmp p q ≡ Equal → length ps ≤ length qs) → (port_cmp q p ≡ Less → suc (length ps) ≤ length qs) → suc (length ps) ≤ suc (length qs)
    by Less e equal greater = absurd (none_before p (q ∷ qs) (e, before_more p q qs e over.0) h.0)
    by Equal e equal greater = let most = equal e in omega arith
    by Greater e equal greater = let most = greater (port_total.antisymm q p ∙ ap ordering_reverse e) in omega arith

-- Ports of one tag ascend.

less_numbers : (a b : ℕ) → a < b → nat_cmp a b ≡ Less
less_numbers a b below = rw (lt-ltb a b below) refl

same_tag : (tag : List ℕ) (kind : Kind) (a b : ℕ) → a < b → port_cmp (port tag kind a) (port tag kind b) ≡ Less
same_tag tag kind a b below = ap (λ o. ordering_then o (nat_cmp a b)) (tied_itself nat_list_cmp_total tag) ∙ less_numbers a b below

one_before : (tag : List ℕ) (kind : Kind) (a from count : ℕ) → a < from → IsBefore (port tag kind a) (map (port tag kind) (range_with_len from count))
one_before tag kind a from zero below = tt
one_before tag kind a from (suc count) below = (same_tag tag kind a from below, one_before tag kind a (from + 1) count (omega arith))

tag_from : (tag : List ℕ) (kind : Kind) (from count : ℕ) → ArePorts (map (port tag kind) (range_with_len from count))
unfolding IsStrictlySortedBy
tag_from tag kind from zero = tt
tag_from tag kind from (suc count) = (one_before tag kind from (from + 1) count (omega arith), tag_from tag kind (from + 1) count)

pub ports-ascend : (tag : List ℕ) (kind : Kind) (count : ℕ) → ArePorts (ports tag count kind)
ports-ascend tag kind count = tag_from tag kind 0 count

-- Ports that are just those wanted have each once, if those ascend: put in order, they are as many.

all_among : (given : List Port) (wanted : List PortKind) → list_all (λ p. has_port p.tag p.index given) wanted ≡ true → AreAmong wanted (in_order given)
all_among given [] h = tt
all_among given (p ∷ ps) h =
    let parts = and_parts (has_port p.tag p.index given) (list_all (λ p. has_port p.tag p.index given) ps) h in
    (in_order-has p given parts.0, all_among given ps parts.1)

pub just-as-many : (given : List Port) (wanted : List PortKind) → ArePorts wanted → has_just given wanted ≡ true → length (in_order given) ≡ length wanted
just-as-many given wanted up just =
    let parts = and_parts (length given == length wanted) (list_all (λ p. has_port p.tag p.index given) wanted) just in
    let same : length given ≡ length wanted = eqb-true (length given) (length wanted) parts.0 in
    let most = in_order-most given in
    let least = no_longer (in_order given) wanted up (in_order-ascends given) (all_among given wanted parts.1) in
    omega arith

-- Rows.

pub record FitsRow (given : List Port) (row : Row) (ps : List PortKind) : Type 0 where
  pub same : ps ≡ ports_in row
  pub most : row.count ≤ 64
  pub just : has_just given (ports_in row) ≡ true

pub fits-row : (given : List Port) (row : Row) (ps : List PortKind) → fitting given row ≡ Some ps → FitsRow given row ps
fits-row given row ps e =
    let both = cond_some (has_row given row) (ports_in row) ps e in
    let parts = and_parts (nat_le row.count 64) (has_just given (ports_in row)) both.0 in
    record { same = sym both.1; most = leb-true row.count 64 parts.0; just = parts.1 }

-- ports of one tag
pub one-tag : (given : List Port) (row : Row) → row.first ≡ None → row.last ≡ None → has_just given (ports_in row) ≡ true → length (in_order given) ≡ row.count
one-tag given row first last just =
    let alone : ports_in row ≡ ports (tag_text row.tag) row.count row.kind = ap₂ (λ f l. end_port f ++ (ports (tag_text row.tag) row.count row.kind ++ end_port l)) first last ∙ append-nil (ports (tag_text row.tag) row.count row.kind) in
    just-as-many given (ports (tag_text row.tag) row.count row.kind) (ports-ascend (tag_text row.tag) row.kind row.count) (subst (λ l. has_just given l ≡ true) alone just)
    ∙ length-map-range_with_len (port (tag_text row.tag) row.kind) 0 row.count
