-- Options that are written.
use Rattle.std.proofs.Common.{ℕ, ◌<◌, ◌≡◌, List, [], ◌∷◌, length, arith, refl, codes}
use Rattle.mg_text.specs.Tree.{Fields}
use Rattle.mg_text.specs.View.{Value, simple, inner, put, field_view, fields_view}
use Rattle.mg_text.specs.declared.tree.Field.{Field}
use Rattle.mg_config.specs.Values.{entry}
use Rattle.mg_config.specs.Written.{options_field}

options-put : (n : List ℕ) (v : Value) (rest : Fields) → options_field (put n v rest) ≡ entry (codes "options") (inner (put n v rest)) ∷ []
options-put n (simple kind bytes) rest = refl
options-put n (inner fields) rest = refl

pub options_some : (fs : List Field) → 0 < length fs → options_field (fields_view fs) ≡ entry (codes "options") (inner (fields_view fs)) ∷ []
options_some [] some = absurd (omega arith)
options_some (f ∷ fs) some = options-put (field_view f).name (field_view f).value (fields_view fs)

pub options_none : (fs : List Field) → length fs ≡ 0 → options_field (fields_view fs) ≡ []
options_none [] none = refl
options_none (f ∷ fs) none = absurd (omega arith)
