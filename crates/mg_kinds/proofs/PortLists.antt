-- Ports, one after another.
use Rattle.std.proofs.Common.{ℕ, ◌+◌, ◌≡◌, List, [], ◌∷◌, ◌++◌, Option, sym, ap, ◌∙◌, arith, is_some, append_assoc}
use Rattle.std.proofs.lemmas.List.FromFn.{map-range_with_len_more}
use Rattle.mg_names.specs.Ports.{has_port, place_of, is_at}
use Rattle.mg_names.specs.declared.port.Port.{Port}
use Rattle.mg_names.proofs.Standing.{any_has_place}
use Rattle.mg_value.specs.declared.kind.Kind.{Kind}
use Rattle.mg_calc.specs.declared.port_kind.PortKind.{PortKind}
use Rattle.mg_calc.specs.Shape.{ports}
use Rattle.mg_kinds.specs.Ports.{port}

-- a port has a place if it is among the ports
pub has_place : (tag : List ℕ) (index : ℕ) (given : List Port) (found : Option ℕ) → found ≡ place_of tag index given → is_some found ≡ has_port tag index given
has_place tag index given found is = ap is_some is ∙ sym (any_has_place (is_at tag index) given)

-- the ports of a tag, with one port more
pub one_more_port : (before out new : List PortKind) (tag : List ℕ) (kind : Kind) (i : ℕ) → new ≡ out ++ port tag kind i ∷ [] → out ≡ before ++ ports tag i kind
    → new ≡ before ++ ports tag (i + 1) kind
one_more_port before out new tag kind i put known =
    put ∙ (ap (λ l. l ++ port tag kind i ∷ []) known
    ∙ (append_assoc before (ports tag i kind) (port tag kind i ∷ [])
    ∙ sym (ap (λ l. before ++ l) (map-range_with_len_more (port tag kind) 0 i i (omega arith)))))
