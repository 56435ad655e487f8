-- Fields appended to fields.
use Rattle.std.proofs.Common.{◌≡◌, refl, ap}
use Rattle.mg_text.specs.Tree.{Fields, none, scalar, message, append}

pub append_none : (d : Fields) → append d none ≡ d
append_none none = refl
append_none (scalar n k b d) = ap (scalar n k b) (append_none d)
append_none (message n x d) = ap (message n x) (append_none d)

pub append_fields_assoc : (a b c : Fields) → append (append a b) c ≡ append a (append b c)
append_fields_assoc none b c = refl
append_fields_assoc (scalar n k s a) b c = ap (scalar n k s) (append_fields_assoc a b c)
append_fields_assoc (message n x a) b c = ap (message n x) (append_fields_assoc a b c)
