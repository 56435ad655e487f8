use Rattle.std.proofs.Common.{◌≡◌, List, [], ◌∷◌, ◌++◌, ap, ◌∙◌, subst, sym, refl}
use Rattle.atomic_table.specs.Table.{opening}
use Rattle.mg_turns.specs.Code.Stored.{Stored}

module _ {S V : Type 0} where
  pub stored : (fits : S → Type 0) (x : S) (xs old : List S) (w : V) → old ≡ [] → xs ≡ old ++ x ∷ [] → fits x → Stored fits (opening [] xs w)
  stored fits x xs old w none is ok = subst (λ (l : List S). Stored fits (opening [] l w)) (sym (is ∙ ap (λ (l : List S). l ++ x ∷ []) none)) (x, refl, ok)
