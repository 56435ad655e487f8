-- The prefix of a port by its number.
use Rattle.std.proofs.Common.{◌≡◌, ℕ, ◌≤◌, ◌-◌, inl, inr, List, [], ◌∷◌, length, All, Option, Some, None, option_map, unwrap_or, true, Bool, refl, arith, subst}
use Rattle.std.proofs.lemmas.Bool.{cases_lt}
use Rattle.std.proofs.lemmas.List.{get_or_past}
use Rattle.std.proofs.lemmas.List.Elements.{AllZip-get_or, length_all_zip}
use Rattle.mg_settled.specs.Prefix.{StreamPrefix, IsPrefix, closed, empty_prefix}
use Rattle.mg_settled.specs.Extension.{IsExtendedBy, AreExtendedBy}
use Rattle.mg_settled.specs.Settled.{port_of, select_of, inputs_of}
use Rattle.mg_settled.proofs.PrefixSteps.{empty_is_prefix, closed_is_prefix}
use Rattle.mg_settled.proofs.Extending.{extended_by_itself}

pub port-prefix : {X : Type 0} (ss : List (StreamPrefix X)) → All IsPrefix ss → (i : ℕ) → IsPrefix (port_of ss i)
port-prefix {X} ss h i = elim (cases_lt i (length ss)) [
  | inl there ↦ h i (closed empty_prefix) there
  | inr past ↦ rw (get_or_past ss i (closed empty_prefix) past) (closed_is_prefix (empty_prefix {X = X}) empty_is_prefix)
]

pub same_ports : {X : Type 0} (ss ts : List (StreamPrefix X)) → AreExtendedBy ss ts → length ss ≡ length ts
same_ports ss ts e = length_all_zip IsExtendedBy ss ts e

pub port-extended : {X : Type 0} (ss ts : List (StreamPrefix X)) → AreExtendedBy ss ts → (i : ℕ) → IsExtendedBy (port_of ss i) (port_of ts i)
port-extended {X} ss ts e i = elim (cases_lt i (length ss)) [
  | inl there ↦ AllZip-get_or IsExtendedBy ss ts i (closed empty_prefix) (closed empty_prefix) e there
  | inr past ↦
      (let past' : length ts ≤ i = omega (arith, past, same_ports ss ts e) in
      rw (get_or_past ss i (closed empty_prefix) past, get_or_past ts i (closed empty_prefix) past') (extended_by_itself (closed (empty_prefix {X = X}))))
]

pub inputs-extended : {X : Type 0} (ss ts : List (StreamPrefix X)) (ports : List ℕ) → AreExtendedBy ss ts → AreExtendedBy (inputs_of ss ports) (inputs_of ts ports)
inputs-extended ss ts [] e = tt
inputs-extended ss ts (i ∷ ports) e = (port-extended ss ts e i, inputs-extended ss ts ports e)

pub select-prefix : {X : Type 0} (ss : List (StreamPrefix X)) → All IsPrefix ss → IsPrefix (select_of ss)
select-prefix ss h = port-prefix ss h (length ss - 1)

pub select-extended : {X : Type 0} (ss ts : List (StreamPrefix X)) → AreExtendedBy ss ts → IsExtendedBy (select_of ss) (select_of ts)
select-extended ss ts e = subst (λ (n : ℕ). IsExtendedBy (select_of ss) (port_of ts (n - 1))) (same_ports ss ts e) (port-extended ss ts e (length ss - 1))

-- what holds of the number that an option gives
pub passes_by : (o : Option ℕ) (f g : ℕ → Bool) → ((i : ℕ) → f i ≡ true → g i ≡ true) → unwrap_or (option_map f o) true ≡ true → unwrap_or (option_map g o) true ≡ true
passes_by None f g more passes = refl
passes_by (Some i) f g more passes = more i passes

pub agree_by : {Y : Type 0} (o : Option ℕ) (f : ℕ → Bool) (h k : ℕ → Y) (z : Y) → ((i : ℕ) → f i ≡ true → h i ≡ k i) → unwrap_or (option_map f o) true ≡ true → unwrap_or (option_map h o) z ≡ unwrap_or (option_map k o) z
agree_by None f h k z same passes = refl
agree_by (Some i) f h k z same passes = same i passes

pub same_by : {Y : Type 0} (o : Option ℕ) (h k : ℕ → Y) (z : Y) → ((i : ℕ) → h i ≡ k i) → unwrap_or (option_map h o) z ≡ unwrap_or (option_map k o) z
same_by None h k z same = refl
same_by (Some i) h k z same = same i
