-- The states that are kept are of a form.
use Rattle.std.proofs.Common.{◌≡◌, ◌==◌, ℕ, ◌+◌, ◌-◌, ◌^◌, ◌<◌, ◌≤◌, min, ℤ, pos, negsuc, ◌+ℤ◌, Bool, true, false, List, [], ◌∷◌, ◌++◌, map, take, length, replicate, get_or, All, Option, Some, None, Result, Ok, Err, IfOk, subst, sym, option_map, unwrap_or, slice_get, IsTrue, inl, inr, ◌⊎◌, codes, lit≤, refl, ◌∙◌, ap, arith, if◌then◌else◌, nat_le}
use Rattle.std.specs.List.{zip}
use Rattle.std.proofs.lemmas.Int.{ints}
use Rattle.std.proofs.lemmas.Bool.Decides.{nat_tests, eqb_tells}
use Rattle.std.proofs.lemmas.List.{length-take-le, length-map, length-append}
use Rattle.std.proofs.lemmas.List.Elements.{All-map, All-nil, All-cons, All-append}
use Rattle.std.proofs.lemmas.List.FromFn.{length-map-range_with_len}
use Rattle.std.proofs.lemmas.Grind.{common_steps}
use Rattle.std.proofs.lemmas.Slice.Zip.{length-zip}
use Rattle.std.proofs.lemmas.Option.{slice_get_cases}
use Rattle.mg_time.specs.Time.{raw_of, place_of, pre_stream, one_over_post_stream}
use Rattle.mg_value.specs.Plain.{Plain, int, depth}
use Rattle.mg_value.specs.Packet.{Stamped}
use Rattle.mg_calc.specs.declared.law.Law.TheVariants.{Cloner, Thin, Scripted, BeginLoop}
use Rattle.mg_calc.specs.declared.shape.Shape.{Shape}
use Rattle.mg_calc.specs.declared.port_kind.PortKind.{PortKind}
use Rattle.mg_calc.specs.declared.emission.Laid.{Laid}
use Rattle.mg_calc.specs.declared.cause.Cause.{Cause}
use Rattle.mg_calc.specs.declared.cause.Cause.TheVariants.{TooDeep}
use Rattle.mg_calc.specs.Answer.{Answer}
use Rattle.mg_calc.specs.Values.{place_at, number_of, fits, time_of, is_in_range, stored, kept_in}
use Rattle.mg_calc.specs.State.{state_of, number_in, count_in, time_kept, next_valid, places_in, full_places}
use Rattle.mg_calc.specs.StateForm.{IsStateOf, IsStateOfRow, IsNumber, CountsTo, ArePlaces, AreItems}
use Rattle.mg_calc.specs.Row.{Row, each, sets, keeping, answer, with_state, with_number, keeps_nothing}
use Rattle.mg_calc.specs.Routing.{renewed, renewed_places, valid_after, chosen, thinned}
use Rattle.mg_calc.specs.Batch.{last_inner, begun_batch, with_item, gathered}
use Rattle.mg_calc.specs.Law.{emits_number, emits_at}
use Rattle.mg_calc.proofs.StateLists.{kept-full_places}
use Rattle.mg_value.specs.declared.kind.Kind.TheVariants.{Any}
use Rattle.mg_calc.specs.Shape.{IsShapeOf, FitsInputs, untagged, tagged}

-- an answer keeps a state that passes, if it keeps one
abbrev pub Keeps : (List Plain → Type 0) → Answer → Type 0
Keeps P answer = IfOk answer (λ given. P given.0)

-- an answer by a test, and one by a place
pub by_test : (P : List Plain → Type 0) (b : Bool) (one other : Answer) → (b ≡ true → Keeps P one) → Keeps P other → Keeps P (if b then one else other)
by_test P true one other here there = here refl
by_test P false one other here there = there

pub by_place : (P : List Plain → Type 0) {X : Type 0} (place : Option X) (f : X → Answer) (other : Answer) → ((x : X) → Keeps P (f x)) → Keeps P other
    → Keeps P (unwrap_or (option_map f place) other)
by_place P None f other here there = there
by_place P (Some x) f other here there = here x

-- a number that is emitted leaves the state that goes with it
pub emits : (P : List Plain → Type 0) (state : List Plain) (t : ℕ) (n : ℤ) → (fits n ≡ true → P state) → Keeps P (emits_number state t n)
emits P state t n good = by_test P (fits n) _ _ good tt

pub moves : (P : List Plain → Type 0) (state : List Plain) (at : Option ℕ) (value : Plain) → P state → Keeps P (emits_at state at value)
moves P state None value good = tt
moves P state (Some t) value good = good

-- a computation keeps what its row asks for, whatever its functions give
with_the_state : (P : List Plain → Type 0) (state : List Plain) (given : Result (List Laid) Cause) → P state → Keeps P (with_state state given)
with_the_state P state (Err cause) good = tt
with_the_state P state (Ok emission) good = good

with_the_number : (state : List Plain) (given : Result (Option ℤ × List Laid) Cause) → IsNumber (λ n. IsTrue (fits n)) state
    → Keeps (IsNumber (λ n. IsTrue (fits n))) (with_number state given)
with_the_number state (Err cause) good = tt
with_the_number state (Ok (None, emission)) good = good
with_the_number state (Ok (Some n, emission)) good = by_test (IsNumber (λ n. IsTrue (fits n))) (fits n) _ _ (λ fit. fit) tt

pub computes : (row : Row) (state : List Plain) (t : ℕ) (set : List (Option (Stamped Plain))) → IsStateOfRow row state → Keeps (IsStateOfRow row) (answer row state t set)
computes (each f) state t set good =
    by_place (λ state. state ≡ []) (place_at set 0) _ _ (λ p. emits (λ state. state ≡ []) state t (f (number_of p.value)) (λ _. good)) good
computes (sets f) state t set good = with_the_state (λ state. state ≡ []) state (f t set) good
computes (keeping f) state t set good = with_the_number state (f (number_in state) t set) good

-- a row that keeps nothing has the empty state alone
pub row_empty : (row : Row) (state : List Plain) → keeps_nothing row ≡ true → IsStateOfRow row state → state ≡ []
row_empty (each f) state is good = good
row_empty (sets f) state is good = good
row_empty (keeping f) state is good = absurd cc

pub empty_row : (row : Row) (state : List Plain) → keeps_nothing row ≡ true → state ≡ [] → IsStateOfRow row state
empty_row (each f) state is good = good
empty_row (sets f) state is good = good
empty_row (keeping f) state is good = absurd cc

-- Mux
pub picks : (P : List Plain → Type 0) (state : List Plain) (set : List (Option (Stamped Plain))) (o : Option ℕ) → P state → Keeps P (chosen state set o)
picks P state set None good = tt
picks P state set (Some i) good = good

-- Cloner: places are renewed one by one
kept_in-stored : (o : Option Plain) → stored (kept_in (stored o)) ≡ stored o
kept_in-stored None = refl
kept_in-stored (Some p) = refl

all_stored : (places : List (Option Plain)) → All (λ p. stored (kept_in p) ≡ p) (map stored places)
all_stored places = All-map (λ p. stored (kept_in p) ≡ p) stored places (λ k d h. kept_in-stored (get_or places k d))

are_places : (lanes : ℕ) (state : List Plain) → length state ≡ lanes → All (λ p. stored (kept_in p) ≡ p) state → ArePlaces lanes state
are_places lanes [] long all = tt
are_places lanes (p ∷ ps) long all = (long, all)

length_places : (lanes : ℕ) (state : List Plain) → length (places_in lanes state) ≡ lanes
length_places lanes state = length-take-le lanes (map kept_in state ++ replicate lanes None) (grind (arith, common_steps))

length_renewed : (lanes : ℕ) (state : List Plain) (set : List (Option (Stamped Plain))) → lanes ≤ length set
    → length (map stored (renewed_places lanes state set)) ≡ lanes
length_renewed lanes state set enough =
    let front = length-take-le lanes set enough in
    let back = length_places lanes state in
    let least : min (length (take lanes set)) (length (places_in lanes state)) ≡ lanes = omega arith in
    length-map (renewed_places lanes state set) stored ∙ length-map (zip (take lanes set) (places_in lanes state)) renewed
    ∙ length-zip (take lanes set) (places_in lanes state) ∙ least

length_lanes : (lanes : ℕ) (ps : List PortKind) → ps ≡ untagged lanes Any ++ tagged (codes "TICK") Any → length ps ≡ lanes + 1
length_lanes lanes ps same =
    rw (same, length-append (untagged lanes Any) (tagged (codes "TICK") Any)) (ap (λ n. n + 1) (length-map-range_with_len _ 0 lanes))

pub cloned : (lanes : ℕ) (shape : Shape) (state : List Plain) (set : List (Option (Stamped Plain))) → IsShapeOf (Cloner lanes) shape → FitsInputs shape set
    → ArePlaces lanes (map stored (renewed_places lanes state set))
cloned lanes shape state set of_law places =
    let all = length_lanes lanes shape.inputs of_law.inputs in
    let enough : lanes ≤ length set = omega arith in
    are_places lanes _ (length_renewed lanes state set enough) (all_stored (renewed_places lanes state set))

-- Thin: the next valid timestamp is of the range, or OneOverPostStream
place_is : (z : ℤ) (u : ℕ) → z ≡ raw_of u → place_of z ≡ u
place_is (pos n) u e = omega (arith, ints)
place_is (negsuc n) u e = omega (arith, ints)

abbrev IsValid : ℕ → Type 0
IsValid u = (is_in_range u ≡ true) ⊎ (u ≡ one_over_post_stream)

not_before : (u : ℕ) → is_in_range u ≡ true → (u == pre_stream) ≡ false
not_before u inside = elim (eqb_tells u pre_stream) [ inl (test, e) ↦ absurd (grind (arith, nat_tests, inside, e)) | inr (test, other) ↦ test ]

valid_number : (u : ℕ) → IsValid u → raw_of (time_kept (raw_of u)) ≡ raw_of u
valid_number u (inl inside) = rw (place_is (raw_of u) u refl, not_before u inside, inside) refl
valid_number u (inr over) = rw over refl

valid_time : (u : ℕ) (b : Bool) → is_in_range u ≡ b → IsValid (unwrap_or (if b then Some u else None) one_over_post_stream)
valid_time u true inside = inl inside
valid_time u false outside = inr refl

valid_next : (period : ℤ) (t : ℕ) (b : Bool)
    → IsValid (if b then unwrap_or (time_of (raw_of t +ℤ period)) one_over_post_stream else one_over_post_stream)
valid_next period t true = valid_time (place_of (raw_of t +ℤ period)) _ refl
valid_next period t false = inr refl

pub thins : (period : ℤ) (state : List Plain) (t : ℕ) (p : Stamped Plain) → IsStateOf (Thin period) state
    → Keeps (IsStateOf (Thin period)) (thinned period state t p)
thins period state t p good =
    by_test (IsStateOf (Thin period)) (nat_le (next_valid state) t) _ _ (λ _. valid_number (valid_after period t) (valid_next period t (is_in_range t))) good

-- Tally: a count that fits goes on counting
pub counts : (state : List Plain) → IsNumber (CountsTo (2 ^ 63 - 1)) state → fits (number_in state +ℤ pos 1) ≡ true
    → CountsTo (2 ^ 63 - 1) (number_in state +ℤ pos 1)
counts [] good fit = lit≤ tt
counts (int (pos n) ∷ []) good fit = grind (arith, nat_tests)
counts (int (pos n) ∷ p ∷ ps) good fit = absurd good
counts (int (negsuc n) ∷ []) good fit = absurd good
counts (int (negsuc n) ∷ p ∷ ps) good fit = absurd good
counts (p ∷ ps) good fit = absurd good

-- Scripted: a step that is there is counted
within : {X : Type 0} (xs : List X) (i : ℕ) (x : X) → Some x ≡ slice_get xs i → i < length xs
within xs i x e = elim (slice_get_cases xs i).1 [ inl found ↦ found.1 | inr past ↦ absurd (cc (e ∙ past.1)) ]

pub steps_on : (offset : Option ℤ) (first : List Laid) (steps : List (List Laid)) (last : List Laid) (state : List Plain) (o : Option (List Laid))
    → o ≡ slice_get steps (count_in state) → IsStateOf (Scripted offset first steps last) state
    → Keeps (IsStateOf (Scripted offset first steps last)) (unwrap_or (option_map (λ emission. Ok (state_of (pos (count_in state + 1)), emission)) o) (Ok (state, [])))
steps_on offset first steps last state None e good = good
steps_on offset first steps last state (Some emission) e good = omega (arith, within steps (count_in state) emission e)

-- BeginLoop: the next inner time goes on up to Max
begins : (clones : ℕ) (always_end : Bool) (c t : ℕ) (list : List Plain) (set : List (Option (Stamped Plain))) → Keeps (IsStateOf (BeginLoop clones always_end)) (begun_batch clones c t list set)
begins clones always_end c t list set =
    by_test (IsStateOf (BeginLoop clones always_end)) (nat_le (last_inner c (length list) + 1) (2 ^ 63 - 4)) _ _ (λ e. grind (arith, nat_tests, e)) tt

pub by_batch : (clones : ℕ) (always_end : Bool) (state : List Plain) (t : ℕ) (set : List (Option (Stamped Plain))) (o : Option (List Plain)) → IsStateOf (BeginLoop clones always_end) state
    → Keeps (IsStateOf (BeginLoop clones always_end)) (unwrap_or (option_map (λ list. begun_batch clones (count_in state) t list set) o) (Ok (state, [])))
by_batch clones always_end state t set None good = good
by_batch clones always_end state t set (Some list) good = begins clones always_end (count_in state) t list set

-- EndLoop: the items are kept in full places
are_items : (list : List Plain) → All (λ v. depth v < 16) list → AreItems (full_places list)
are_items list all = (ap full_places (sym (kept-full_places list)), subst (All (λ v. depth v < 16)) (sym (kept-full_places list)) all)

pub keeps_list : (empty_as_bound : Bool) (end : Option (Stamped Plain)) (list : Result (List Plain) Cause) → IfOk list (λ vs. All (λ v. depth v < 16) vs) → Keeps AreItems (gathered empty_as_bound end list)
keeps_list empty_as_bound end (Err cause) all = tt
keeps_list empty_as_bound None (Ok list) all = are_items list all
keeps_list empty_as_bound (Some end) (Ok list) all = are_items [] (All-nil (λ v. depth v < 16))

pub items_stay : (list : List Plain) (item : Option (Stamped Plain)) → All (λ v. depth v < 16) list → IfOk (with_item list item) (λ vs. All (λ v. depth v < 16) vs)
items_stay list None all = all
items_stay list (Some p) all = by_depth (nat_le 16 (depth p.value)) refl
  where
    by_depth : (b : Bool) → nat_le 16 (depth p.value) ≡ b → IfOk (if b then Err TooDeep else Ok (list ++ p.value ∷ [])) (λ vs. All (λ v. depth v < 16) vs)
    by_depth true e = tt
    by_depth false e =
        All-append (λ v. depth v < 16) list (p.value ∷ []) all (All-cons (λ v. depth v < 16) p.value [] (grind (arith, nat_tests, e)) (All-nil (λ v. depth v < 16)))
