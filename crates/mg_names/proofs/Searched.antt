-- Where a tag and index stand, and whether they stand twice, from one port on.
use Rattle.std.proofs.Common.{◌≡◌, ◌≢◌, ℕ, ◌+◌, ◌<◌, ◌≤◌, ◌==◌, List, ◌∷◌, None, Some, Bool, true, false, ◌&&◌, ◌||◌, cond, length, get_or, drop, refl, sym, ap, ◌∙◌, arith}
use Rattle.std.specs.Str.{bytes_eq}
use Rattle.std.proofs.lemmas.Bool.Decides.{nat_tests}
use Rattle.std.proofs.lemmas.List.{drop_more, drop_all}
use Rattle.std.specs.List.{position_from}
use Rattle.mg_names.specs.Ports.{is_at, has_port, stands_twice}
use Rattle.mg_names.specs.declared.port.Port.{Port}

-- a port of another index, and one of the same index
pub at_other_index : (tag : List ℕ) (index : ℕ) (port : Port) → index ≢ port.index → false ≡ is_at tag index port
at_other_index tag index port apart = by (bytes_eq tag port.tag) (index == port.index) refl
  where
    by : (same here : Bool) → (index == port.index) ≡ here → false ≡ (same && here)
    by same true here = absurd (apart (grind (arith, nat_tests)))
    by true false here = refl
    by false false here = refl

pub at_same_index : (tag : List ℕ) (index : ℕ) (port : Port) → index ≡ port.index → bytes_eq tag port.tag ≡ is_at tag index port
at_same_index tag index port same = by (bytes_eq tag port.tag) (index == port.index) refl
  where
    by : (tags here : Bool) → (index == port.index) ≡ here → tags ≡ (tags && here)
    by true true here = refl
    by false true here = refl
    by true false here = grind (arith, nat_tests)
    by false false here = refl

twins_from : (ports : List Port) (i : ℕ) (port : Port) → i < length ports → port ≡ get_or ports i port
    → stands_twice (drop i ports) ≡ (has_port port.tag port.index (drop (i + 1) ports) || stands_twice (drop (i + 1) ports))
twins_from ports i port inside here = ap stands_twice (drop_more ports i port inside ∙ ap (λ p. p ∷ drop (i + 1) ports) (sym here))

-- a port whose tag and index stand after it too
pub twins_here : (ports : List Port) (i : ℕ) (port : Port) → i < length ports → port ≡ get_or ports i port
    → has_port port.tag port.index (drop (i + 1) ports) ≡ true → stands_twice (drop i ports) ≡ true
twins_here ports i port inside here again = twins_from ports i port inside here ∙ ap (λ b. b || stands_twice (drop (i + 1) ports)) again

-- a port whose tag and index don't
pub twins_skip : (ports : List Port) (i : ℕ) (port : Port) → i < length ports → port ≡ get_or ports i port
    → has_port port.tag port.index (drop (i + 1) ports) ≡ false → stands_twice (drop i ports) ≡ stands_twice (drop (i + 1) ports)
twins_skip ports i port inside here none = twins_from ports i port inside here ∙ ap (λ b. b || stands_twice (drop (i + 1) ports)) none

-- no port is left
pub twins_end : (ports : List Port) (i : ℕ) → length ports ≤ i → stands_twice (drop i ports) ≡ false
twins_end ports i past = ap stands_twice (drop_all i ports past)

place_from : (tag : List ℕ) (index : ℕ) (ports : List Port) (i : ℕ) (port : Port) → i < length ports → port ≡ get_or ports i port
    → position_from (is_at tag index) i (drop i ports) ≡ cond (is_at tag index port) (Some i) (position_from (is_at tag index) (i + 1) (drop (i + 1) ports))
place_from tag index ports i port inside here =
    ap (position_from (is_at tag index) i) (drop_more ports i port inside ∙ ap (λ p. p ∷ drop (i + 1) ports) (sym here))

-- the port is here
pub place_here : (tag : List ℕ) (index : ℕ) (ports : List Port) (i : ℕ) (port : Port) → i < length ports → port ≡ get_or ports i port
    → is_at tag index port ≡ true → position_from (is_at tag index) i (drop i ports) ≡ Some i
place_here tag index ports i port inside here found =
    place_from tag index ports i port inside here ∙ ap (λ b. cond b (Some i) (position_from (is_at tag index) (i + 1) (drop (i + 1) ports))) found

-- it is further on
pub place_skip : (tag : List ℕ) (index : ℕ) (ports : List Port) (i : ℕ) (port : Port) → i < length ports → port ≡ get_or ports i port
    → is_at tag index port ≡ false → position_from (is_at tag index) i (drop i ports) ≡ position_from (is_at tag index) (i + 1) (drop (i + 1) ports)
place_skip tag index ports i port inside here other =
    place_from tag index ports i port inside here ∙ ap (λ b. cond b (Some i) (position_from (is_at tag index) (i + 1) (drop (i + 1) ports))) other

-- no port is left
pub place_end : (tag : List ℕ) (index : ℕ) (ports : List Port) (i : ℕ) → length ports ≤ i → position_from (is_at tag index) i (drop i ports) ≡ None
place_end tag index ports i past = ap (position_from (is_at tag index) i) (drop_all i ports past)
