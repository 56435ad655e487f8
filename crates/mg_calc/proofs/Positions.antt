-- Where streams stand: two lists of streams agree at the streams whose producers are known to give the same.
use Rattle.std.proofs.Common.{◌≡◌, ℕ, zero, suc, ◌+◌, length, List, [], ◌∷◌, ◌++◌, map, Some, None, slice_get, refl, sym, ap, subst, ◌∙◌, arith}
use Rattle.std.specs.List.{flat_map, range_with_len, enumerate_from}
use Rattle.std.proofs.lemmas.List.Concat.{flat_map-cons}
use Rattle.mg_value.specs.Payload.{Plain}
use Rattle.mg_settled.specs.Prefix.{StreamPrefix}
use Rattle.mg_calc.specs.declared.plan_node.PlanNode.{PlanNode}
use Rattle.mg_calc.specs.declared.plan_stream.Producer.{Producer}
use Rattle.mg_calc.specs.declared.plan_stream.Producer.TheVariants.{Node}
use Rattle.mg_calc.specs.Equations.{stream_of}

-- streams agree if their producers are known
abbrev pub Agree : (Producer → Type 0) → List Producer → List (StreamPrefix Plain) → List (StreamPrefix Plain) → Type 0
Agree K [] [] [] = Unit {0}
Agree K (p ∷ ps) (x ∷ xs) (y ∷ ys) = (K p → x ≡ y) × Agree K ps xs ys
Agree K _ _ _ = ⊥

pub agree_at : (K : Producer → Type 0) (ps : List Producer) (xs ys : List (StreamPrefix Plain)) (s : ℕ) (p : Producer) → Agree K ps xs ys → slice_get ps s ≡ Some p → K p → stream_of xs s ≡ stream_of ys s
agree_at K [] [] [] s p a e k = refl
agree_at K [] [] (y ∷ ys) s p a e k = absurd a
agree_at K [] (x ∷ xs) [] s p a e k = absurd a
agree_at K [] (x ∷ xs) (y ∷ ys) s p a e k = absurd a
agree_at K (q ∷ ps) [] [] s p a e k = absurd a
agree_at K (q ∷ ps) [] (y ∷ ys) s p a e k = absurd a
agree_at K (q ∷ ps) (x ∷ xs) [] s p a e k = absurd a
agree_at K (q ∷ ps) (x ∷ xs) (y ∷ ys) zero p a e k = a.0 (subst K (sym (some_same q p e)) k)
  where
    some_same : (q p : Producer) → Some q ≡ Some p → q ≡ p
    some_same q p e = ap (λ o. (elim o [ Some r ↦ r | None ↦ q ])) e
agree_at K (q ∷ ps) (x ∷ xs) (y ∷ ys) (suc s) p a e k = agree_at K ps xs ys s p a.1 e k

pub agree_both : (K : Producer → Type 0) (ps qs : List Producer) (xs ys zs us : List (StreamPrefix Plain)) → Agree K ps xs ys → Agree K qs zs us → Agree K (ps ++ qs) (xs ++ zs) (ys ++ us)
agree_both K [] qs [] [] zs us a b = b
agree_both K [] qs [] (y ∷ ys) zs us a b = absurd a
agree_both K [] qs (x ∷ xs) [] zs us a b = absurd a
agree_both K [] qs (x ∷ xs) (y ∷ ys) zs us a b = absurd a
agree_both K (p ∷ ps) qs [] [] zs us a b = absurd a
agree_both K (p ∷ ps) qs [] (y ∷ ys) zs us a b = absurd a
agree_both K (p ∷ ps) qs (x ∷ xs) [] zs us a b = absurd a
agree_both K (p ∷ ps) qs (x ∷ xs) (y ∷ ys) zs us a b = (a.0, agree_both K ps qs xs ys zs us a.1 b)

-- a list agrees with itself
pub agree_same : (K : Producer → Type 0) (ps : List Producer) (xs : List (StreamPrefix Plain)) → length xs ≡ length ps → Agree K ps xs xs
agree_same K [] [] l = tt
agree_same K [] (x ∷ xs) l = absurd (omega (arith, l))
agree_same K (p ∷ ps) [] l = absurd (omega (arith, l))
agree_same K (p ∷ ps) (x ∷ xs) l = ((λ k. refl), agree_same K ps xs (omega (arith, l)))

-- the outputs of a node
agree_outputs : (K : Producer → Type 0) (node from count : ℕ) (xs ys : List (StreamPrefix Plain)) → length xs ≡ count → length ys ≡ count → ((port : ℕ) → K (Node node port) → xs ≡ ys)
    → Agree K (map (λ port. Node node port) (range_with_len from count)) xs ys
agree_outputs K node from zero [] [] l m same = tt
agree_outputs K node from zero [] (y ∷ ys) l m same = absurd (omega (arith, m))
agree_outputs K node from zero (x ∷ xs) ys l m same = absurd (omega (arith, l))
agree_outputs K node from (suc count) [] ys l m same = absurd (omega (arith, l))
agree_outputs K node from (suc count) (x ∷ xs) [] l m same = absurd (omega (arith, m))
agree_outputs K node from (suc count) (x ∷ xs) (y ∷ ys) l m same = (
  (λ k. ap (λ l. (elim l [ [] ↦ x | h ∷ t ↦ h ])) (same from k)),
  agree_outputs K node (from + 1) count xs ys (omega (arith, l)) (omega (arith, m)) (λ port k. ap (λ l. (elim l [ [] ↦ xs | h ∷ t ↦ t ])) (same port k)),
)

-- what the nodes give, by their numbers from k on
abbrev pub parts : (ℕ → PlanNode → List (StreamPrefix Plain)) → ℕ → List PlanNode → List (StreamPrefix Plain)
parts give k [] = []
parts give k (node ∷ nodes) = give k node ++ parts give (k + 1) nodes

-- who gives it
abbrev pub givers : ℕ → List PlanNode → List Producer
givers k nodes = flat_map (λ e. map (λ port. Node e.0 port) (range_with_len 0 (length e.1.outputs))) (enumerate_from k nodes)

-- each node gives all its outputs
abbrev pub GivesAll : (ℕ → PlanNode → List (StreamPrefix Plain)) → ℕ → List PlanNode → Type 0
GivesAll give k [] = Unit {0}
GivesAll give k (node ∷ nodes) = (length (give k node) ≡ length node.outputs) × GivesAll give (k + 1) nodes

-- nodes that are known give the same
abbrev pub GiveSame : (Producer → Type 0) → (ℕ → PlanNode → List (StreamPrefix Plain)) → (ℕ → PlanNode → List (StreamPrefix Plain)) → ℕ → List PlanNode → Type 0
GiveSame K give other k [] = Unit {0}
GiveSame K give other k (node ∷ nodes) = ((port : ℕ) → K (Node k port) → give k node ≡ other k node) × GiveSame K give other (k + 1) nodes

pub agree_parts : (K : Producer → Type 0) (give other : ℕ → PlanNode → List (StreamPrefix Plain)) (k : ℕ) (nodes : List PlanNode) → GivesAll give k nodes → GivesAll other k nodes → GiveSame K give other k nodes
    → Agree K (givers k nodes) (parts give k nodes) (parts other k nodes)
agree_parts K give other k [] g o same = tt
agree_parts K give other k (node ∷ nodes) g o same =
    rw (flat_map-cons (λ e. map (λ port. Node e.0 port) (range_with_len 0 (length e.1.outputs))) (k, node) (enumerate_from (k + 1) nodes))
    (agree_both K (map (λ port. Node k port) (range_with_len 0 (length node.outputs))) (givers (k + 1) nodes) (give k node) (other k node) (parts give (k + 1) nodes) (parts other (k + 1) nodes)
    (agree_outputs K k 0 (length node.outputs) (give k node) (other k node) g.0 o.0 same.0)
    (agree_parts K give other (k + 1) nodes g.1 o.1 same.1))

-- without numbers it is one list
pub parts_flat : (give : PlanNode → List (StreamPrefix Plain)) (k : ℕ) (nodes : List PlanNode) → parts (λ _ node. give node) k nodes ≡ flat_map give nodes
parts_flat give k [] = refl
parts_flat give k (node ∷ nodes) = ap (λ rest. give node ++ rest) (parts_flat give (k + 1) nodes) ∙ sym (flat_map-cons give node nodes)
