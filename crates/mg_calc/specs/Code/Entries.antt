-- What contracts see of a list that may keep its single entry in itself.
use Rattle.std.specs.Prelude.{List, [], ◌∷◌, ◌<◌, ◌^◌, vec_len, ⊤}
use Rattle.mg_calc.specs.declared.short_list.Kept.{Kept}
use Rattle.mg_calc.specs.declared.short_list.Kept.TheVariants.{One, Many}

-- the entries of a list, in order
abbrev pub entries_of : {T : Type 0} → Kept T → List T
entries_of (One entry) = entry ∷ []
entries_of (Many entries) = entries.items

-- a list has fewer than 2^32 entries
abbrev pub AreFew : {T : Type 0} → Kept T → Type 0
AreFew (One entry) = ⊤
AreFew (Many entries) = vec_len entries < 2 ^ 32
