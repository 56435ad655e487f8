-- The payload of a JSON value that was read, and that has no fault, can be told by a line again.
use Rattle.std.proofs.Common.{◌≡◌, ◌<◌, ◌≤◌, ◌+◌, ◌^◌, ℕ, pos, negsuc, List, [], ◌∷◌, ◌++◌, Bool, true, false, nat_lt, None, FitsSigned, refl, arith, rules, if◌then◌else◌}
use Rattle.std.specs.Int.{w64}
use Rattle.std.proofs.lemmas.Bool.Decides.{nat_tests}
use Rattle.std.proofs.lemmas.Int.{ints}
use Rattle.serde_json.specs.Data as json
use Rattle.serde_json.specs.Data.{Num, unsigned, negative, float, Data}
use Rattle.mg_value.specs.Plain.{depth, items_depth, entries_depth, NumbersFit, ItemsFit, EntriesFit}
use Rattle.mg_json.specs.Json.{json_of, json_items, json_members, number_faults, depth_faults, faults_at, items_faults, members_faults, first, first_fault}
use Rattle.mg_json.specs.declared.value_fault.ValueFault.{ValueFault}
use Rattle.mg_json.specs.declared.value_fault.ValueFault.TheVariants.{TooDeep, TooWide}
use Rattle.mg_feed.specs.Value.{plain_of, plain_items, plain_entries}
use Rattle.mg_trace.specs.Readable.{IsBelow, IsReadable, ItemsAreReadable, MembersAreReadable}
use Rattle.mg_trace.specs.Told.{IsTellable}
use Rattle.mg_trace.proofs.ValuesRead.{IsReadNumber, IsRead, ItemsAreRead, MembersAreRead}

-- No faults --

none_first : (faults : List ValueFault) → first faults ≡ None → faults ≡ []
none_first [] is = refl
none_first (fault ∷ faults) is = absurd cc

none_both : (xs ys : List ValueFault) → xs ++ ys ≡ [] → (xs ≡ []) × (ys ≡ [])
none_both [] ys is = (refl, is)
none_both (x ∷ xs) ys is = absurd cc

none_if : (b : Bool) (fault : ValueFault) → (if b then fault ∷ [] else []) ≡ [] → b ≡ false
none_if true fault is = absurd cc
none_if false fault is = refl

none_unless : (b : Bool) (fault : ValueFault) → (if b then [] else fault ∷ []) ≡ [] → b ≡ true
none_unless true fault is = refl
none_unless false fault is = absurd cc

is_below : (a b : ℕ) → nat_lt a b ≡ true → a < b
is_below a b is = grind (arith, nat_tests, is)

not_below : (a b : ℕ) → nat_lt a b ≡ false → b ≤ a
not_below a b is = grind (arith, nat_tests, is)

-- Its JSON value --

number_readable : (n : Num) → IsReadNumber n → number_faults n ≡ [] → IsReadable (json_of (plain_of (json.number n)))
number_readable (unsigned n) h none = h
number_readable (negative (pos n)) h none = absurd h
number_readable (negative (negsuc n)) h none = h
number_readable (float x) h none = absurd cc

below_kept : (k : List ℕ) (ms : json.Members) → IsBelow k ms → IsBelow k (json_members (plain_entries ms))
below_kept k json.no_members below = tt
below_kept k (json.member l d ms) below = (below.0, below_kept k ms below.1)

mutual
  readable : (k : ℕ) (d : Data) → IsRead d → faults_at k d ≡ [] → IsReadable (json_of (plain_of d))
  readable k json.null h none = absurd cc
  readable k (json.boolean b) h none = tt
  readable k (json.number n) h none = number_readable n h none
  readable k (json.string s) h none = h
  readable k (json.array ds) h none = items_readable (k + 1) ds h (none_both (depth_faults k) (items_faults (k + 1) ds) none).1
  readable k (json.object ms) h none = members_readable (k + 1) ms h (none_both (depth_faults k) (members_faults (k + 1) ms) none).1

  items_readable : (k : ℕ) (ds : json.Items) → ItemsAreRead ds → items_faults k ds ≡ [] → ItemsAreReadable (json_items (plain_items ds))
  items_readable k json.no_items h none = tt
  items_readable k (json.item d ds) h none =
      let both = none_both (faults_at k d) (items_faults k ds) none in
      (readable k d h.0 both.0, items_readable k ds h.1 both.1)

  members_readable : (k : ℕ) (ms : json.Members) → MembersAreRead ms → members_faults k ms ≡ [] → MembersAreReadable (json_members (plain_entries ms))
  members_readable k json.no_members h none = tt
  members_readable k (json.member l d ms) h none =
      let both = none_both (faults_at k d) (members_faults k ms) none in
      (h.0, readable k d h.1 both.0, below_kept l ms h.2, members_readable k ms h.3 both.1)

-- Its numbers --

unsigned_fits : (n : ℕ) → n < 2 ^ 63 → FitsSigned w64 (pos n)
unsigned_fits n fits = search (rules, ints)

negative_fits : (n : ℕ) → n < 2 ^ 63 → FitsSigned w64 (negsuc n)
negative_fits n fits = search (rules, ints)

number_fits : (n : Num) → IsReadNumber n → number_faults n ≡ [] → NumbersFit (plain_of (json.number n))
number_fits (unsigned n) h none = unsigned_fits n (is_below n (2 ^ 63) (none_unless (nat_lt n (2 ^ 63)) TooWide none))
number_fits (negative (pos n)) h none = absurd h
number_fits (negative (negsuc n)) h none = negative_fits n h
number_fits (float x) h none = absurd cc

mutual
  numbers_fit : (k : ℕ) (d : Data) → IsRead d → faults_at k d ≡ [] → NumbersFit (plain_of d)
  numbers_fit k json.null h none = absurd cc
  numbers_fit k (json.boolean b) h none = tt
  numbers_fit k (json.number n) h none = number_fits n h none
  numbers_fit k (json.string s) h none = tt
  numbers_fit k (json.array ds) h none = items_fit (k + 1) ds h (none_both (depth_faults k) (items_faults (k + 1) ds) none).1
  numbers_fit k (json.object ms) h none = members_fit (k + 1) ms h (none_both (depth_faults k) (members_faults (k + 1) ms) none).1

  items_fit : (k : ℕ) (ds : json.Items) → ItemsAreRead ds → items_faults k ds ≡ [] → ItemsFit (plain_items ds)
  items_fit k json.no_items h none = tt
  items_fit k (json.item d ds) h none =
      let both = none_both (faults_at k d) (items_faults k ds) none in
      (numbers_fit k d h.0 both.0, items_fit k ds h.1 both.1)

  members_fit : (k : ℕ) (ms : json.Members) → MembersAreRead ms → members_faults k ms ≡ [] → EntriesFit (plain_entries ms)
  members_fit k json.no_members h none = tt
  members_fit k (json.member l d ms) h none =
      let both = none_both (faults_at k d) (members_faults k ms) none in
      (numbers_fit k d h.1 both.0, members_fit k ms h.3 both.1)

-- How deep it nests --

level : (k : ℕ) → depth_faults k ≡ [] → k ≤ 16
level k none = not_below 16 k (none_if (nat_lt 16 k) TooDeep none)

mutual
  shallow : (k : ℕ) (d : Data) → k ≤ 17 → faults_at k d ≡ [] → depth (plain_of d) + k ≤ 17
  shallow k json.null within none = absurd cc
  shallow k (json.boolean b) within none = omega (arith, within)
  shallow k (json.number n) within none = omega (arith, within)
  shallow k (json.string s) within none = omega (arith, within)
  shallow k (json.array ds) within none =
      let both = none_both (depth_faults k) (items_faults (k + 1) ds) none in
      let here = level k both.0 in
      let later = items_shallow (k + 1) ds (omega (arith, here)) both.1 in
      omega (arith, later)
  shallow k (json.object ms) within none =
      let both = none_both (depth_faults k) (members_faults (k + 1) ms) none in
      let here = level k both.0 in
      let later = members_shallow (k + 1) ms (omega (arith, here)) both.1 in
      omega (arith, later)

  items_shallow : (k : ℕ) (ds : json.Items) → k ≤ 17 → items_faults k ds ≡ [] → items_depth (plain_items ds) + k ≤ 17
  items_shallow k json.no_items within none = omega (arith, within)
  items_shallow k (json.item d ds) within none =
      let both = none_both (faults_at k d) (items_faults k ds) none in
      let one = shallow k d within both.0 in
      let more = items_shallow k ds within both.1 in
      omega (arith, one, more)

  members_shallow : (k : ℕ) (ms : json.Members) → k ≤ 17 → members_faults k ms ≡ [] → entries_depth (plain_entries ms) + k ≤ 17
  members_shallow k json.no_members within none = omega (arith, within)
  members_shallow k (json.member l d ms) within none =
      let both = none_both (faults_at k d) (members_faults k ms) none in
      let one = shallow k d within both.0 in
      let more = members_shallow k ms within both.1 in
      omega (arith, one, more)

-- All of it --

pub value_is_told : (d : Data) → IsRead d → first_fault d ≡ None → IsTellable (plain_of d)
value_is_told d h none =
    let faultless = none_first (faults_at 1 d) none in
    let within = shallow 1 d (omega arith) faultless in
    record { readable = readable 1 d h faultless; numbers = numbers_fit 1 d h faultless; shallow = omega (arith, within) }
