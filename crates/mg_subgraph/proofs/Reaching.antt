-- Which files nodes use, directly or not: nothing more is found through more files than there are.
use Rattle.std.proofs.Common.{ℕ, suc, zero, ◌+◌, ◌<◌, ◌≤◌, ◌≡◌, ◌⊎◌, inl, inr, ⊎_elim, List, [], ◌∷◌, Some, Bool, true, false, ◌&&◌, ◌||◌, if◌then◌else◌, refl, sym, ap, ◌∙◌, map, length, arith, subst}
use Rattle.std.specs.Prelude.{slice_get}
use Rattle.std.specs.List.{list_any}
use Rattle.std.proofs.lemmas.Bool.{cases_Bool, false≢true}
use Rattle.mg_config.specs.Config.{NodeView, GraphView}
use Rattle.mg_subgraph.specs.Library.{uses, reaches, uses_file}
use Rattle.mg_subgraph.proofs.Joins.{or_left, or_right, or_cases, and_both, and_join}

-- two tests that agree on a list find the same in it
pub any_same : {X : Type 0} (p q r : X → Bool) (xs : List X) → map p xs ≡ map q xs → list_any (λ x. p x && r x) xs ≡ list_any (λ x. q x && r x) xs
any_same p q r [] same = refl
any_same p q r (x ∷ xs) same =
    let head : p x ≡ q x = cc in
    let tail : map p xs ≡ map q xs = cc in
    ap (λ b. (b && r x) || list_any (λ y. p y && r y) xs) head ∙ ap (λ b. (q x && r x) || b) (any_same p q r xs tail)

-- tests that agree at each place of a list agree on it, and the other way round
pub same_everywhere : {X : Type 0} (p q : X → Bool) (xs : List X) → ((i : ℕ) (x : X) → slice_get xs i ≡ Some x → p x ≡ q x) → map p xs ≡ map q xs
same_everywhere p q [] same = refl
same_everywhere p q (x ∷ xs) same =
    ap (λ b. b ∷ map p xs) (same 0 x refl) ∙ ap (λ l. q x ∷ l) (same_everywhere p q xs (λ i y here. same (suc i) y here))

pub same_at : {X : Type 0} (p q : X → Bool) (xs : List X) → map p xs ≡ map q xs → (i : ℕ) (x : X) → slice_get xs i ≡ Some x → p x ≡ q x
same_at p q [] same i x here = cc
same_at p q (y ∷ xs) same zero x here =
    let head : p y ≡ q y = cc in
    let found : y ≡ x = cc in
    subst (λ z. p z ≡ q z) found head
same_at p q (y ∷ xs) same (suc i) x here = same_at p q xs (let tail : map p xs ≡ map q xs = cc in tail) i x here

-- how many pass a test
pub passing : {X : Type 0} → (X → Bool) → List X → ℕ
passing p [] = 0
passing p (x ∷ xs) = (if p x then 1 else 0) + passing p xs

pub passing-le-length : {X : Type 0} (p : X → Bool) (xs : List X) → passing p xs ≤ length xs
unfolding passing
passing-le-length p [] = omega arith
passing-le-length p (x ∷ xs) =
    ⊎_elim
    (λ known. rw known (omega (arith, passing-le-length p xs)))
    (λ fails. rw fails (omega (arith, passing-le-length p xs)))
    (cases_Bool (p x))

-- If all that pass the first test pass the second, the second counts more, or they agree.
wider_by : (a b : Bool) (m n : ℕ) (firsts seconds : List Bool) → (a ≡ true → b ≡ true) → (firsts ≡ seconds) ⊎ (m < n) → ((firsts ≡ seconds) → m ≡ n)
    → (a ∷ firsts ≡ b ∷ seconds) ⊎ ((if a then 1 else 0) + m < (if b then 1 else 0) + n)
wider_by true true m n firsts seconds wider (inl same) equal = inl (ap (λ l. true ∷ l) same)
wider_by false false m n firsts seconds wider (inl same) equal = inl (ap (λ l. false ∷ l) same)
wider_by false true m n firsts seconds wider (inl same) equal = let counts : m ≡ n = equal same in inr (omega arith)
wider_by true false m n firsts seconds wider known equal = absurd (false≢true (wider refl))
wider_by true true m n firsts seconds wider (inr less) equal = inr (omega arith)
wider_by false false m n firsts seconds wider (inr less) equal = inr (omega arith)
wider_by false true m n firsts seconds wider (inr less) equal = inr (omega arith)

counts_same : {X : Type 0} (p q : X → Bool) (xs : List X) → map p xs ≡ map q xs → passing p xs ≡ passing q xs
unfolding passing
counts_same p q [] same = refl
counts_same p q (x ∷ xs) same =
    let head : p x ≡ q x = cc in
    let tail : map p xs ≡ map q xs = cc in
    ap (λ b. (if b then 1 else 0) + passing p xs) head ∙ ap (λ n. (if q x then 1 else 0) + n) (counts_same p q xs tail)

pub wider_counts : {X : Type 0} (p q : X → Bool) (xs : List X) → ((i : ℕ) (x : X) → slice_get xs i ≡ Some x → p x ≡ true → q x ≡ true) → (map p xs ≡ map q xs) ⊎ (passing p xs < passing q xs)
unfolding passing
wider_counts p q [] wider = inl refl
wider_counts p q (x ∷ xs) wider =
    wider_by (p x) (q x) (passing p xs) (passing q xs) (map p xs) (map q xs) (wider 0 x refl) (wider_counts p q xs (λ i y here. wider (suc i) y here)) (counts_same p q xs)

-- through one more file
pub reached_further : (library : List GraphView) (nodes : List NodeView) (k : ℕ) (file : GraphView) → reaches k library nodes file ≡ true → reaches (suc k) library nodes file ≡ true
reached_further library nodes k file known = or_left (reaches k library nodes file) (list_any (λ other. reaches k library nodes other && uses other.nodes file) library) known

absorbed : (a b : Bool) → ((a || b) || b) ≡ (a || b)
absorbed true b = refl
absorbed false true = refl
absorbed false false = refl

-- once no more is found, no more is found later
abbrev IsStill : List GraphView → List NodeView → ℕ → Type 0
IsStill library nodes k = map (reaches k library nodes) library ≡ map (reaches (suc k) library nodes) library

pub still_next : (library : List GraphView) (nodes : List NodeView) (k : ℕ) → IsStill library nodes k → (file : GraphView) → reaches (suc (suc k)) library nodes file ≡ reaches (suc k) library nodes file
still_next library nodes k still file =
    ap (λ b. reaches (suc k) library nodes file || b) (sym (any_same (reaches k library nodes) (reaches (suc k) library nodes) (λ other. uses other.nodes file) library still))
    ∙ absorbed (reaches k library nodes file) (list_any (λ other. reaches k library nodes other && uses other.nodes file) library)

still_later : (library : List GraphView) (nodes : List NodeView) (k : ℕ) → IsStill library nodes k → IsStill library nodes (suc k)
still_later library nodes k still =
    same_everywhere (reaches (suc k) library nodes) (reaches (suc (suc k)) library nodes) library (λ i file here. sym (still_next library nodes k still file))

-- either no more is found, or each further file finds one
still_or_many : (library : List GraphView) (nodes : List NodeView) (k : ℕ) → IsStill library nodes k ⊎ (k < passing (reaches (suc k) library nodes) library)
still_or_many library nodes zero =
    ⊎_elim inl (λ more. inr (omega arith)) (wider_counts (reaches 0 library nodes) (reaches 1 library nodes) library (λ i file here. reached_further library nodes 0 file))
still_or_many library nodes (suc k) =
    ⊎_elim
    (λ still. inl (still_later library nodes k still))
    (λ many.
    ⊎_elim inl (λ more. inr (omega arith))
    (wider_counts (reaches (suc k) library nodes) (reaches (suc (suc k)) library nodes) library (λ i file here. reached_further library nodes (suc k) file)))
    (still_or_many library nodes k)

pub still_at_end : (library : List GraphView) (nodes : List NodeView) → IsStill library nodes (length library)
still_at_end library nodes =
    ⊎_elim (λ still. still) (λ many. absurd (omega (arith, passing-le-length (reaches (suc (length library)) library nodes) library))) (still_or_many library nodes (length library))

-- What a file uses is used by who uses the file.
pub found_by : {X : Type 0} (p : X → Bool) (xs : List X) (i : ℕ) (x : X) → slice_get xs i ≡ Some x → p x ≡ true → list_any p xs ≡ true
found_by p [] i x here known = cc
found_by p (y ∷ xs) zero x here known =
    let same : y ≡ x = cc in
    or_left (p y) (list_any p xs) (subst (λ z. p z ≡ true) (sym same) known)
found_by p (y ∷ xs) (suc i) x here known = or_right (p y) (list_any p xs) (found_by p xs i x here known)

pub found_at : {X : Type 0} (p : X → Bool) (xs : List X) → list_any p xs ≡ true → (i : ℕ) × (x : X) × (slice_get xs i ≡ Some x) × (p x ≡ true)
found_at p [] some = absurd (false≢true some)
found_at p (x ∷ xs) some =
    ⊎_elim
    (λ here. (0, x, refl, here))
    (λ later. let rest = found_at p xs later in (suc rest.0, rest.1, rest.2, rest.3))
    (or_cases (p x) (list_any p xs) some)

-- what is found through one more file is found already, if it is in the library
still_found : (library : List GraphView) (nodes : List NodeView) (i : ℕ) (file : GraphView) → slice_get library i ≡ Some file → reaches (suc (length library)) library nodes file ≡ true → uses_file library nodes file ≡ true
still_found library nodes i file here known =
    same_at (reaches (length library) library nodes) (reaches (suc (length library)) library nodes) library (still_at_end library nodes) i file here ∙ known

-- what a used file uses is used
pub used_on : (library : List GraphView) (nodes : List NodeView) (i j : ℕ) (other file : GraphView) → slice_get library i ≡ Some other → slice_get library j ≡ Some file
    → uses_file library nodes other ≡ true → uses other.nodes file ≡ true → uses_file library nodes file ≡ true
used_on library nodes i j other file at_other at_file known next =
    still_found library nodes j file at_file
    (or_right (uses_file library nodes file) (list_any (λ o. uses_file library nodes o && uses o.nodes file) library)
    (found_by (λ o. uses_file library nodes o && uses o.nodes file) library i other at_other (and_join (uses_file library nodes other) (uses other.nodes file) known next)))

-- what is used directly is used
used_within : (library : List GraphView) (nodes : List NodeView) (k : ℕ) (file : GraphView) → uses nodes file ≡ true → reaches k library nodes file ≡ true
used_within library nodes zero file known = known
used_within library nodes (suc k) file known = reached_further library nodes k file (used_within library nodes k file known)

pub used_directly : (library : List GraphView) (nodes : List NodeView) (file : GraphView) → uses nodes file ≡ true → uses_file library nodes file ≡ true
used_directly library nodes file known = used_within library nodes (length library) file known

-- The used files are in each set of places that has those used directly and goes along uses.
least_within : (library : List GraphView) (nodes : List NodeView) (test : ℕ → Bool)
    → ((i : ℕ) (file : GraphView) → slice_get library i ≡ Some file → uses nodes file ≡ true → test i ≡ true)
    → ((i j : ℕ) (other file : GraphView) → slice_get library i ≡ Some other → slice_get library j ≡ Some file → test i ≡ true → uses other.nodes file ≡ true → test j ≡ true)
    → (k i : ℕ) (file : GraphView) → slice_get library i ≡ Some file → reaches k library nodes file ≡ true → test i ≡ true
least_within library nodes test started closed zero i file here known = started i file here known
least_within library nodes test started closed (suc k) i file here known =
    ⊎_elim
    (λ before. least_within library nodes test started closed k i file here before)
    (λ through.
    let found = found_at (λ o. reaches k library nodes o && uses o.nodes file) library through in
    let both = and_both (reaches k library nodes found.1) (uses found.1.nodes file) found.3 in
    closed found.0 i found.1 file found.2 here (least_within library nodes test started closed k found.0 found.1 found.2 both.0) both.1)
    (or_cases (reaches k library nodes file) (list_any (λ o. reaches k library nodes o && uses o.nodes file) library) known)

pub least_used : (library : List GraphView) (nodes : List NodeView) (test : ℕ → Bool)
    → ((i : ℕ) (file : GraphView) → slice_get library i ≡ Some file → uses nodes file ≡ true → test i ≡ true)
    → ((i j : ℕ) (other file : GraphView) → slice_get library i ≡ Some other → slice_get library j ≡ Some file → test i ≡ true → uses other.nodes file ≡ true → test j ≡ true)
    → (i : ℕ) (file : GraphView) → slice_get library i ≡ Some file → uses_file library nodes file ≡ true → test i ≡ true
least_used library nodes test started closed i file here known = least_within library nodes test started closed (length library) i file here known

-- what a used file uses, directly or not, is used
through_within : (library : List GraphView) (nodes : List NodeView) (i : ℕ) (other : GraphView) → slice_get library i ≡ Some other → uses_file library nodes other ≡ true
    → (k j : ℕ) (file : GraphView) → slice_get library j ≡ Some file → reaches k library other.nodes file ≡ true → uses_file library nodes file ≡ true
through_within library nodes i other at_other used zero j file here known = used_on library nodes i j other file at_other here used known
through_within library nodes i other at_other used (suc k) j file here known =
    ⊎_elim
    (λ before. through_within library nodes i other at_other used k j file here before)
    (λ through.
    let found = found_at (λ o. reaches k library other.nodes o && uses o.nodes file) library through in
    let both = and_both (reaches k library other.nodes found.1) (uses found.1.nodes file) found.3 in
    used_on library nodes found.0 j found.1 file found.2 here (through_within library nodes i other at_other used k found.0 found.1 found.2 both.0) both.1)
    (or_cases (reaches k library other.nodes file) (list_any (λ o. reaches k library other.nodes o && uses o.nodes file) library) known)

pub used_through : (library : List GraphView) (nodes : List NodeView) (i j : ℕ) (other file : GraphView) → slice_get library i ≡ Some other → slice_get library j ≡ Some file
    → uses_file library nodes other ≡ true → uses_file library other.nodes file ≡ true → uses_file library nodes file ≡ true
used_through library nodes i j other file at_other at_file used known = through_within library nodes i other at_other used (length library) j file at_file known

-- how many files nodes use
pub use_count : List GraphView → List NodeView → ℕ
use_count library nodes = passing (uses_file library nodes) library

pub use_count-le-length : (library : List GraphView) (nodes : List NodeView) → use_count library nodes ≤ length library
unfolding use_count
use_count-le-length library nodes = passing-le-length (uses_file library nodes) library

-- A file that is used and doesn't use itself uses fewer files.
pub fewer_inside : (library : List GraphView) (nodes : List NodeView) (i : ℕ) (file : GraphView) → slice_get library i ≡ Some file → uses_file library nodes file ≡ true
    → uses_file library file.nodes file ≡ false → use_count library file.nodes < use_count library nodes
unfolding use_count
fewer_inside library nodes i file here used apart =
    ⊎_elim
    (λ same. absurd (false≢true (sym apart ∙ (same_at (uses_file library file.nodes) (uses_file library nodes) library same i file here ∙ used))))
    (λ fewer. fewer)
    (wider_counts (uses_file library file.nodes) (uses_file library nodes) library (λ j other at known. used_through library nodes i j file other here at used known))

-- If some nodes use directly all files that other nodes use directly, they use all files that those use.
more_within : (library : List GraphView) (few many : List NodeView) → ((file : GraphView) → uses few file ≡ true → uses many file ≡ true)
    → (k i : ℕ) (file : GraphView) → slice_get library i ≡ Some file → reaches k library few file ≡ true → uses_file library many file ≡ true
more_within library few many wider zero i file here known = used_directly library many file (wider file known)
more_within library few many wider (suc k) i file here known =
    ⊎_elim
    (λ before. more_within library few many wider k i file here before)
    (λ through.
    let found = found_at (λ o. reaches k library few o && uses o.nodes file) library through in
    let both = and_both (reaches k library few found.1) (uses found.1.nodes file) found.3 in
    used_on library many found.0 i found.1 file found.2 here (more_within library few many wider k found.0 found.1 found.2 both.0) both.1)
    (or_cases (reaches k library few file) (list_any (λ o. reaches k library few o && uses o.nodes file) library) known)

pub used_by_more : (library : List GraphView) (few many : List NodeView) → ((file : GraphView) → uses few file ≡ true → uses many file ≡ true)
    → (i : ℕ) (file : GraphView) → slice_get library i ≡ Some file → uses_file library few file ≡ true → uses_file library many file ≡ true
used_by_more library few many wider i file here known = more_within library few many wider (length library) i file here known

pub no_more_used : (library : List GraphView) (few many : List NodeView) → ((file : GraphView) → uses few file ≡ true → uses many file ≡ true) → use_count library few ≤ use_count library many
unfolding use_count
no_more_used library few many wider =
    ⊎_elim
    (λ same. omega (arith, counts_same (uses_file library few) (uses_file library many) library same))
    (λ fewer. omega arith)
    (wider_counts (uses_file library few) (uses_file library many) library (λ i file here known. used_by_more library few many wider i file here known))
