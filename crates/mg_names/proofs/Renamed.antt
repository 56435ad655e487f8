-- Ports under other names.
use Rattle.std.proofs.Common.{ℕ, suc, ◌+◌, ◌<◌, ◌≤◌, ◌≡◌, Option, None, Some, List, [], ◌∷◌, ◌++◌, length, slice_index_or, slice_set, refl, ap, arith, cond, not, min, subst, sym, ◌∙◌}
use Rattle.std.specs.List.{position_or_len}
use Rattle.mg_names.specs.Ports.{is_at, place_of}
use Rattle.mg_names.specs.Code.Places.{found_in}
use Rattle.mg_names.specs.Renaming.{with_names}
use Rattle.mg_names.specs.declared.places.Places.{Places}
use Rattle.mg_names.specs.declared.port.Port.{Port}

pub no_names : (ports : List Port) → with_names ports [] ≡ ports
no_names [] = refl
no_names (port ∷ ports) = refl

pub length-with_names : (ports : List Port) (names : List (List ℕ)) → length (with_names ports names) ≡ length ports
length-with_names [] names = refl
length-with_names (port ∷ ports) [] = refl
length-with_names (port ∷ ports) (name ∷ names) = ap suc (length-with_names ports names)

-- to take one more name is to rename the port at its place
pub named_here : (ports : List Port) (names : List (List ℕ)) (name : List ℕ) (d : Port) → length names < length ports
    → with_names ports (names ++ name ∷ []) ≡ slice_set (with_names ports names) (length names) (record (slice_index_or (with_names ports names) (length names) d) { name = name })
named_here [] names name d inside = refl
named_here (port ∷ []) [] name d inside = refl
named_here (port ∷ other ∷ ports) [] name d inside = refl
named_here (port ∷ ports) (first ∷ names) name d inside = ap (λ l. record port { name = first } ∷ l) (named_here ports names name d (omega arith))

-- one more name is taken; a count says how many names were taken before
pub named_next : (start ports : List Port) (names : List (List ℕ)) (name : List ℕ) (d : Port) (i : ℕ) → ports ≡ with_names start names → i ≡ min (length names) (length ports) → i < length ports
    → slice_set ports i (record (slice_index_or ports i d) { name = name }) ≡ with_names start (names ++ name ∷ [])
named_next start ports names name d i named counted inside =
    let same : length ports ≡ length start = ap length named ∙ length-with_names start names in
    let here : i ≡ length names = omega arith in
    let P : List Port → ℕ → Type 0 = λ l n. slice_set l n (record (slice_index_or l n d) { name = name }) ≡ with_names start (names ++ name ∷ []) in
    subst (λ l. P l i) (sym named) (subst (P (with_names start names)) (sym here) (sym (named_here start names name d (omega arith))))

pub named_past : (ports : List Port) (names : List (List ℕ)) (name : List ℕ) → length ports ≤ length names → with_names ports (names ++ name ∷ []) ≡ with_names ports names
named_past [] names name past = refl
named_past (port ∷ ports) [] name past = absurd (omega arith)
named_past (port ∷ ports) (first ∷ names) name past = ap (λ l. record port { name = first } ∷ l) (named_past ports names name (omega arith))

-- a port is found at the same place under another name
same_first : (tag : List ℕ) (index : ℕ) (ports : List Port) (names : List (List ℕ)) → position_or_len (is_at tag index) (with_names ports names) ≡ position_or_len (is_at tag index) ports
same_first tag index [] names = refl
same_first tag index (port ∷ ports) [] = refl
same_first tag index (port ∷ ports) (name ∷ names) = ap (λ n. cond (not (is_at tag index port)) (1 + n) 0) (same_first tag index ports names)

pub same_places : (tag : List ℕ) (index : ℕ) (ports : List Port) (names : List (List ℕ)) → place_of tag index (with_names ports names) ≡ place_of tag index ports
same_places tag index ports names =
    let first = same_first tag index ports names in
    let count = length-with_names ports names in
    cc

-- a table says the places under other names too
pub found_renamed : (places : Option Places) (ports renamed : List Port) (names : List (List ℕ)) (tag : List ℕ) (index : ℕ) → renamed ≡ with_names ports names
    → found_in places ports tag index ≡ place_of tag index ports → found_in places renamed tag index ≡ place_of tag index renamed
found_renamed None ports renamed names tag index same found = refl
found_renamed (Some places) ports renamed names tag index same found = found ∙ sym (ap (place_of tag index) same ∙ same_places tag index ports names)
