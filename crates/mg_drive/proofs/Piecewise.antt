-- Inputs, pieces that come after them, and both together, place by place.
use Rattle.std.proofs.Common.{◌≡◌, ◌<◌, ℕ, zero, suc, List, [], ◌∷◌, ◌++◌, length, max, map, replicate, slice_index_or, refl, sym, ap, arith, append-nil}
use Rattle.std.specs.List.{AllZip}
use Rattle.mg_value.specs.Payload.{Plain}
use Rattle.mg_settled.specs.Prefix.{StreamPrefix, IsPrefix, empty_prefix}
use Rattle.mg_settled.specs.Extension.{IsExtendedBy, AreExtendedBy}
use Rattle.mg_node.specs.Extending.{joined}
use Rattle.mg_live.specs.Takes.{piece_behind, pieces_behind}
use Rattle.mg_live.proofs.HandedOn.{packets_behind, bound_behind}

abbrev pub Piecewise : List (StreamPrefix Plain) → List (StreamPrefix Plain) → List (StreamPrefix Plain) → Type 0
Piecewise [] [] [] = Unit {0}
Piecewise (s ∷ ss) (m ∷ ms) (a ∷ zs) = (a ≡ joined s m) × Piecewise ss ms zs
Piecewise _ _ _ = ⊥

-- By places --

pub by_places : (ss ms zs : List (StreamPrefix Plain)) → length ms ≡ length ss → length zs ≡ length ss
    → ((i : ℕ) → i < length ms → slice_index_or zs i empty_prefix ≡ joined (slice_index_or ss i empty_prefix) (slice_index_or ms i empty_prefix)) → Piecewise ss ms zs
by_places [] [] [] a b each = tt
by_places [] [] (x ∷ zs) a b each = absurd (omega (arith, b))
by_places [] (m ∷ ms) zs a b each = absurd (omega (arith, a))
by_places (s ∷ ss) [] zs a b each = absurd (omega (arith, a))
by_places (s ∷ ss) (m ∷ ms) [] a b each = absurd (omega (arith, b))
by_places (s ∷ ss) (m ∷ ms) (x ∷ zs) a b each = (each 0 (omega arith), by_places ss ms zs (omega (arith, a)) (omega (arith, b)) (λ i less. each (suc i) (omega (arith, less))))

pub at_place : (ss ms zs : List (StreamPrefix Plain)) → Piecewise ss ms zs → (i : ℕ) → i < length ms → slice_index_or zs i empty_prefix ≡ joined (slice_index_or ss i empty_prefix) (slice_index_or ms i empty_prefix)
at_place [] [] [] p i less = absurd (omega (arith, less))
at_place [] [] (x ∷ zs) p i less = absurd p
at_place [] (m ∷ ms) zs p i less = absurd p
at_place (s ∷ ss) [] zs p i less = absurd p
at_place (s ∷ ss) (m ∷ ms) [] p i less = absurd p
at_place (s ∷ ss) (m ∷ ms) (x ∷ zs) p zero less = p.0
at_place (s ∷ ss) (m ∷ ms) (x ∷ zs) p (suc i) less = at_place ss ms zs p.1 i (omega (arith, less))

pub as_many_pieces : (ss ms zs : List (StreamPrefix Plain)) → Piecewise ss ms zs → length ms ≡ length ss
as_many_pieces [] [] [] p = refl
as_many_pieces [] [] (x ∷ zs) p = absurd p
as_many_pieces [] (m ∷ ms) zs p = absurd p
as_many_pieces (s ∷ ss) [] zs p = absurd p
as_many_pieces (s ∷ ss) (m ∷ ms) [] p = absurd p
as_many_pieces (s ∷ ss) (m ∷ ms) (x ∷ zs) p = ap suc (as_many_pieces ss ms zs p.1)

-- some streams after other streams
pub both : (ss ms zs us vs ws : List (StreamPrefix Plain)) → Piecewise ss ms zs → Piecewise us vs ws → Piecewise (ss ++ us) (ms ++ vs) (zs ++ ws)
both [] [] [] us vs ws p q = q
both [] [] (x ∷ zs) us vs ws p q = absurd p
both [] (m ∷ ms) zs us vs ws p q = absurd p
both (s ∷ ss) [] zs us vs ws p q = absurd p
both (s ∷ ss) (m ∷ ms) [] us vs ws p q = absurd p
both (s ∷ ss) (m ∷ ms) (x ∷ zs) us vs ws p q = (p.0, both ss ms zs us vs ws p.1 q)

-- Pieces --

-- a stream stays as it is if nothing comes
pub nothing_behind : (s : StreamPrefix Plain) → IsPrefix s → s ≡ joined s empty_prefix
nothing_behind s is = (let low = is.opened in let bound : s.bound ≡ max s.bound 2 = omega (arith, low) in λ i. record { packets = sym (append-nil s.packets) i; bound = bound i })

pub nothing_comes : (ss : List (StreamPrefix Plain)) → AllZip (λ s t. IsPrefix s) ss ss → Piecewise ss (replicate (length ss) empty_prefix) ss
nothing_comes [] all = tt
nothing_comes (s ∷ ss) all = (nothing_behind s all.0, nothing_comes ss all.1)

-- an extended stream is what was there, joined with the piece after it
piece_joined : (s t : StreamPrefix Plain) → IsExtendedBy s t → t ≡ joined s (piece_behind (length s.packets) t)
piece_joined s t e = λ i. record { packets = sym (packets_behind s t e) i; bound = sym (bound_behind s t e) i }

pub pieces_come : (ss ts : List (StreamPrefix Plain)) → AreExtendedBy ss ts → Piecewise ss (pieces_behind (map (λ s. length s.packets) ss) ts) ts
pieces_come [] [] e = tt
pieces_come [] (t ∷ ts) e = absurd e
pieces_come (s ∷ ss) [] e = absurd e
pieces_come (s ∷ ss) (t ∷ ts) e = (piece_joined s t e.0, pieces_come ss ts e.1)
