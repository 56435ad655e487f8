use Rattle.std.proofs.Common.{◌≡◌, List, [], ◌∷◌, ◌++◌, map, sym, ap, ◌∙◌, subst}
use Rattle.std.specs.List.Sorted.{IsStrictlySortedBy}
use Rattle.mg_value.specs.Payload.{plain_entry, KeysAscend}
use Rattle.mg_value.specs.declared.record_list.Entry.{Entry}
use Rattle.mg_feed.proofs.generating.record_of.Goals as goal

one-ascends : (e : Entry) → KeysAscend (map plain_entry (e ∷ []))
unfolding IsStrictlySortedBy
one-ascends e = (tt, tt)

ascends-from : (es old : List Entry) (e : Entry) → es ≡ old ++ e ∷ [] → old ≡ [] → KeysAscend (map plain_entry es)
ascends-from es old e is none = subst (λ (l : List Entry). KeysAscend (map plain_entry l)) (sym (is ∙ ap (λ l. l ++ e ∷ []) none)) (one-ascends e)

pub from_vec-requires : goal.from_vec-requires
from_vec-requires c = ascends-from _ _ _ c.in_ok-push.ensures.items c.new-entries.ensures.items
