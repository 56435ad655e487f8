-- Ports put in order by a tree of their tags and indexes.
use Rattle.std.proofs.Common.{ℕ, zero, suc, ◌+◌, ◌<◌, ◌≤◌, ◌≡◌, ◌∙◌, List, [], ◌∷◌, None, Some, arith, map, refl, sym, ap, Bor, take, length, get_or}
use Rattle.std.specs.Prelude.{slice_get}
use Rattle.std.proofs.lemmas.List.Sums.{fold_more}
use Rattle.mg_names.specs.declared.port.Port.{Port}
use Rattle.std.specs.declared.cmp.Ordering.{Ordering}
use Rattle.std.specs.declared.cmp.Ordering.TheVariants.{Less, Equal, Greater}
use Rattle.std.specs.Ordering.{nat_cmp, ordering_then, match_ordering}
use Rattle.std.specs.Cmp.Lexicographic.{slice_cmp}
use Rattle.std.specs.BTreeMap.{insert_entry}
use Rattle.mg_value.specs.declared.kind.Kind.TheVariants.{Any}
use Rattle.mg_calc.specs.declared.port_kind.PortKind.{PortKind}
use Rattle.mg_kinds.specs.Ports.{port}
use Rattle.mg_kinds.specs.PortOrder.{put_in_order, put_by, any_port, in_order}

abbrev pub Key : Type 0
Key = Bor (List ℕ) × ℕ

-- the port of an entry
abbrev pub entry_port : {U : Type 0} → Key × U → PortKind
entry_port e = port e.0.0.now Any e.0.1

abbrev pub key_cmp : Key → Key → Ordering
key_cmp a b = ordering_then (slice_cmp nat_cmp a.0.now b.0.now) (nat_cmp a.1 b.1)

got_at : (ps : List Port) (i : ℕ) (p : Port) → slice_get ps i ≡ Some p → p ≡ get_or ps i p
got_at [] i p at = refl
got_at (q ∷ ps) zero p at = let same : q ≡ p = cc in sym same
got_at (q ∷ ps) (suc i) p at = got_at ps i p at

pub put_entry : {U : Type 0} (es : List (Key × U)) (k : Key) (v : U) → map entry_port (insert_entry key_cmp es k v) ≡ put_in_order (map entry_port es) (entry_port (k, v))
put_entry [] k v = refl
put_entry (e ∷ es) k v = by (key_cmp k e.0) (put_entry es k v)
  where
    by : (o : Ordering) → map entry_port (insert_entry key_cmp es k v) ≡ put_in_order (map entry_port es) (entry_port (k, v)) → map entry_port (match_ordering o ((k, v) ∷ e ∷ es) ((e.0, v) ∷ es) (e ∷ insert_entry key_cmp es k v))
        ≡ put_by o (entry_port (k, v)) (entry_port e) (map entry_port es) (put_in_order (map entry_port es) (entry_port (k, v)))
    by Less rest = refl
    by Equal rest = refl
    by Greater rest = ap (λ l. entry_port e ∷ l) rest

-- ports in order, with one port more put in
pub put_port : {U : Type 0} (es new : List (Key × U)) (ps : List Port) (i : ℕ) (p : Port) (k : Key) (v : U) → i < length ps → slice_get ps i ≡ Some p → entry_port (k, v) ≡ any_port p
    → new ≡ insert_entry key_cmp es k v → map entry_port es ≡ in_order (take i ps) → map entry_port new ≡ in_order (take (i + 1) ps)
put_port es new ps i p k v inside at same put known =
    ap (map entry_port) put ∙ (put_entry es k v
    ∙ (ap (λ l. put_in_order l (entry_port (k, v))) known
    ∙ (ap (put_in_order (in_order (take i ps))) (same ∙ ap any_port (got_at ps i p at))
    ∙ sym (fold_more (λ done q. put_in_order done (any_port q)) [] ps i p inside))))

-- one port at most
pub none_alone : (ps : List Port) → slice_get ps 0 ≡ None → [] ≡ in_order ps
none_alone [] none = refl
none_alone (p ∷ ps) none = cc

pub one_alone : (ps : List Port) (p : Port) → length ps ≤ 1 → slice_get ps 0 ≡ Some p → any_port p ∷ [] ≡ in_order ps
one_alone [] p few here = cc
one_alone (q ∷ []) p few here = let same : p ≡ q = cc in ap (λ x. any_port x ∷ []) same
one_alone (q ∷ r ∷ ps) p few here = absurd (omega arith)
