-- Laying by a loop: the rest of a list decides, and the loop has laid what may be laid.
use Rattle.std.proofs.Common.{◌≡◌, ℕ, zero, suc, ◌+◌, ◌<◌, ◌≤◌, ℤ, Bool, true, false, nat_lt, is_some, List, [], ◌∷◌, ◌++◌, length, take, drop, get_or, set, map, Option, Some, None, Result, Ok, Err, refl, sym, ap, ap₂, ◌∙◌, arith, add-one, drop-cons}
use Rattle.mg_value.specs.Payload.{Plain}
use Rattle.mg_value.specs.Packet.{Stamped}
use Rattle.mg_settled.specs.Prefix.{StreamPrefix, appended, all_appended}
use Rattle.mg_calc.specs.declared.cause.Cause.{Cause}
use Rattle.mg_calc.specs.declared.emission.Laid.{Laid}
use Rattle.mg_calc.specs.declared.node_fault.Phase.{Phase}
use Rattle.mg_calc.specs.Laying.{laying_fault, unless, after, with_packets, raised_to, with_laid, laid_behind}
use Rattle.mg_settled.proofs.SetSteps.{mapped-more, mapped-later}
use Rattle.mg_route.specs.Reasons.{reason_of, laid_each, laid_on, all_laid_on}

-- what is left of a list from a place on
pub from_here : {X : Type 0} (xs : List X) (i : ℕ) (x : X) → i < length xs → x ≡ get_or xs i x → drop i xs ≡ x ∷ drop (i + 1) xs
from_here xs i x below is =
    drop-cons xs i x below ∙ ap₂ (λ h t. h ∷ t) (sym is) (ap (λ (n : ℕ). drop n xs) (sym (add-one i)))

-- and at its end nothing
pub at_end : {X : Type 0} (xs : List X) (i : ℕ) → length xs ≤ i → drop i xs ≡ []
at_end [] zero le = refl
at_end [] (suc i) le = refl
at_end (x ∷ xs) zero le = absurd (omega (arith, le))
at_end (x ∷ xs) (suc i) le = at_end xs i (omega (arith, le))

-- Packets that were passed without a reason against them: what is left decides.
pub record ArePassed (offset : Option ℤ) (phase : Phase) (output : StreamPrefix Plain) (packets rest : List (Stamped Plain)) (bound : ℕ) (has_packets : Bool) : Type 0 where
  pub longer : StreamPrefix Plain
  pub same : with_packets offset phase output packets ≡ with_packets offset phase longer rest
  pub bound_is : longer.bound ≡ bound
  pub some_is : nat_lt 0 (length longer.packets) ≡ has_packets

-- Of a single packet its own cause decides.
only_reason : (fault : Option Cause) (output : StreamPrefix Plain) → fault ≡ reason_of (unless fault (Ok output))
only_reason None output = refl
only_reason (Some cause) output = refl

pub packet_reason : (offset : Option ℤ) (phase : Phase) (output : StreamPrefix Plain) (packets : List (Stamped Plain)) (packet : Stamped Plain) → length packets ≡ 1 → packet ≡ get_or packets 0 packet
    → laying_fault offset phase output packet ≡ reason_of (with_packets offset phase output packets)
packet_reason offset phase output [] packet one is = absurd (omega (arith, one))
packet_reason offset phase output (p ∷ []) packet one is = ap (laying_fault offset phase output) is ∙ only_reason (laying_fault offset phase output p) (appended output p)
packet_reason offset phase output (p ∷ q ∷ packets) packet one is = absurd (omega (arith, one))

-- An emission, one part further.
reason_after : {A B : Type 0} (answer : Result A Cause) (make : A → Result B Cause) → is_some (reason_of answer) ≡ true → reason_of (after answer make) ≡ reason_of answer
reason_after (Ok value) make some = absurd cc
reason_after (Err cause) make some = refl

reason_later : {A B : Type 0} (answer : Result A Cause) (make : A → Result B Cause) (wanted : Option Cause) → is_some (reason_of answer) ≡ false → ((value : A) → reason_of (make value) ≡ wanted) → reason_of (after answer make) ≡ wanted
reason_later (Ok value) make wanted none then = then value
reason_later (Err cause) make wanted none then = absurd cc

reason_through : {A B : Type 0} (answer : Result A Cause) (make : A → B) → reason_of (after answer (λ value. Ok (make value))) ≡ reason_of answer
reason_through (Ok value) make = refl
reason_through (Err cause) make = refl

laid_reason : (offset : Option ℤ) (phase : Phase) (output : StreamPrefix Plain) (laid : Laid) → reason_of (with_laid offset phase output laid) ≡ reason_of (with_packets offset phase output laid.packets)
laid_reason offset phase output laid = reason_through (with_packets offset phase output laid.packets) (raised_to laid.bound)

part_refused : (offset : Option ℤ) (phase : Phase) (output : StreamPrefix Plain) (outputs : List (StreamPrefix Plain)) (laid : Laid) (emission : List Laid) (fault : Option Cause)
    → fault ≡ reason_of (with_packets offset phase output laid.packets) → is_some fault ≡ true → reason_of (laid_behind offset phase (output ∷ outputs) (laid ∷ emission)) ≡ fault
part_refused offset phase output outputs laid emission fault is some =
    let same : reason_of (with_laid offset phase output laid) ≡ fault = laid_reason offset phase output laid ∙ sym is in
    reason_after (with_laid offset phase output laid) (λ longer. after (laid_behind offset phase outputs emission) (λ others. Ok (longer ∷ others))) (ap is_some same ∙ some) ∙ same

part_passed : (offset : Option ℤ) (phase : Phase) (output : StreamPrefix Plain) (outputs : List (StreamPrefix Plain)) (laid : Laid) (emission : List Laid) (fault : Option Cause)
    → fault ≡ reason_of (with_packets offset phase output laid.packets) → is_some fault ≡ false → reason_of (laid_behind offset phase (output ∷ outputs) (laid ∷ emission)) ≡ reason_of (laid_behind offset phase outputs emission)
part_passed offset phase output outputs laid emission fault is none =
    let same : reason_of (with_laid offset phase output laid) ≡ fault = laid_reason offset phase output laid ∙ sym is in
    reason_later (with_laid offset phase output laid) (λ longer. after (laid_behind offset phase outputs emission) (λ others. Ok (longer ∷ others))) (reason_of (laid_behind offset phase outputs emission)) (ap is_some same ∙ none)
    (λ longer. reason_through (laid_behind offset phase outputs emission) (λ others. longer ∷ others))

-- a place of the outputs and of the emission
pub record IsPart (outputs : List (StreamPrefix Plain)) (emission : List Laid) (i : ℕ) (output : StreamPrefix Plain) (laid : Laid) : Type 0 where
  pub output_there : i < length outputs
  pub output_is : output ≡ get_or outputs i output
  pub laid_there : i < length emission
  pub laid_is : laid ≡ get_or emission i laid

both_here : (offset : Option ℤ) (phase : Phase) (outputs : List (StreamPrefix Plain)) (emission : List Laid) (i : ℕ) (output : StreamPrefix Plain) (laid : Laid) → IsPart outputs emission i output laid
    → reason_of (laid_behind offset phase (drop i outputs) (drop i emission)) ≡ reason_of (laid_behind offset phase (output ∷ drop (i + 1) outputs) (laid ∷ drop (i + 1) emission))
both_here offset phase outputs emission i output laid part =
    ap₂ (λ (xs : List (StreamPrefix Plain)) (es : List Laid). reason_of (laid_behind offset phase xs es))
    (from_here outputs i output part.output_there part.output_is) (from_here emission i laid part.laid_there part.laid_is)

pub emission_refused : (offset : Option ℤ) (phase : Phase) (outputs : List (StreamPrefix Plain)) (emission : List Laid) (i : ℕ) (output : StreamPrefix Plain) (laid : Laid) (fault : Option Cause) → IsPart outputs emission i output laid
    → reason_of (laid_behind offset phase outputs emission) ≡ reason_of (laid_behind offset phase (drop i outputs) (drop i emission))
    → fault ≡ reason_of (with_packets offset phase output laid.packets) → is_some fault ≡ true → fault ≡ reason_of (laid_behind offset phase outputs emission)
emission_refused offset phase outputs emission i output laid fault part so_far is some =
    sym (so_far ∙ (both_here offset phase outputs emission i output laid part ∙ part_refused offset phase output (drop (i + 1) outputs) laid (drop (i + 1) emission) fault is some))

pub emission_passed : (offset : Option ℤ) (phase : Phase) (outputs : List (StreamPrefix Plain)) (emission : List Laid) (i : ℕ) (output : StreamPrefix Plain) (laid : Laid) (fault : Option Cause) → IsPart outputs emission i output laid
    → reason_of (laid_behind offset phase outputs emission) ≡ reason_of (laid_behind offset phase (drop i outputs) (drop i emission))
    → fault ≡ reason_of (with_packets offset phase output laid.packets) → is_some fault ≡ false
    → reason_of (laid_behind offset phase outputs emission) ≡ reason_of (laid_behind offset phase (drop (i + 1) outputs) (drop (i + 1) emission))
emission_passed offset phase outputs emission i output laid fault part so_far is none =
    so_far ∙ (both_here offset phase outputs emission i output laid part ∙ part_passed offset phase output (drop (i + 1) outputs) laid (drop (i + 1) emission) fault is none)

-- What is laid, part by part.
laid_more : {X : Type 0} (f : X → Laid → X) (outputs : List X) (emission : List Laid) (i : ℕ) (output : X) (laid : Laid) → i < length emission → laid ≡ get_or emission i laid
    → output ≡ get_or (laid_each f outputs (take i emission)) i output → set (laid_each f outputs (take i emission)) i (f output laid) ≡ laid_each f outputs (take (suc i) emission)
laid_more f outputs [] i output laid below is output_is = absurd (omega (arith, below))
laid_more f [] (e ∷ emission) zero output laid below is output_is = refl
laid_more f [] (e ∷ emission) (suc i) output laid below is output_is = refl
laid_more {X} f (o ∷ outputs) (e ∷ emission) zero output laid below is output_is = ap₂ (λ (a : X) (b : Laid). f a b ∷ outputs) output_is is
laid_more {X} f (o ∷ outputs) (e ∷ emission) (suc i) output laid below is output_is =
    ap (λ (rest : List X). f o e ∷ rest) (laid_more f outputs emission i output laid (omega (arith, below)) is output_is)

pub laid_further : {X : Type 0} (f : X → Laid → X) (outputs now : List X) (emission : List Laid) (i : ℕ) (output new : X) (laid : Laid) → now ≡ laid_each f outputs (take i emission) → i < length emission → laid ≡ get_or emission i laid
    → output ≡ get_or now i output → new ≡ f (get_or now i output) laid → set now i new ≡ laid_each f outputs (take (i + 1) emission)
laid_further {X} f outputs now emission i output new laid so_far below is output_is new_is =
    ap₂ (λ (xs : List X) (s : X). set xs i s) so_far (new_is ∙ ap (λ (s : X). f s laid) (sym output_is))
    ∙ (laid_more f outputs emission i output laid below is (output_is ∙ ap (λ (xs : List X). get_or xs i output) so_far)
    ∙ ap (λ (n : ℕ). laid_each f outputs (take n emission)) (sym (add-one i)))

-- parts beyond the outputs lay nothing
beyond : {X : Type 0} (f : X → Laid → X) (outputs : List X) (emission : List Laid) (i : ℕ) → length outputs ≤ i → laid_each f outputs (take i emission) ≡ laid_each f outputs (take (suc i) emission)
beyond f outputs [] zero over = refl
beyond f outputs [] (suc i) over = refl
beyond f [] (e ∷ emission) zero over = refl
beyond f [] (e ∷ emission) (suc i) over = refl
beyond f (o ∷ outputs) (e ∷ emission) zero over = absurd (omega (arith, over))
beyond {X} f (o ∷ outputs) (e ∷ emission) (suc i) over = ap (λ (rest : List X). f o e ∷ rest) (beyond f outputs emission i (omega (arith, over)))

pub laid_long : {X : Type 0} (f : X → Laid → X) (outputs : List X) (emission : List Laid) → length (laid_each f outputs emission) ≡ length outputs
laid_long f outputs [] = refl
laid_long f [] (e ∷ emission) = refl
laid_long f (o ∷ outputs) (e ∷ emission) = ap (λ (n : ℕ). suc n) (laid_long f outputs emission)

pub laid_beyond : {X : Type 0} (f : X → Laid → X) (outputs now : List X) (emission : List Laid) (i : ℕ) → now ≡ laid_each f outputs (take i emission) → length now ≤ i → now ≡ laid_each f outputs (take (i + 1) emission)
laid_beyond f outputs now emission i so_far over =
    so_far ∙ (beyond f outputs emission i (let same = ap length so_far in omega (arith, same, over, laid_long f outputs (take i emission)))
    ∙ ap (λ (n : ℕ). laid_each f outputs (take n emission)) (sym (add-one i)))

where_passed : {A : Type 0} (fault : Option Cause) (answer : Result A Cause) (value : A) → reason_of (unless fault answer) ≡ None → (reason_of answer ≡ None → answer ≡ Ok value) → unless fault answer ≡ Ok value
where_passed (Some cause) answer value none good = absurd cc
where_passed None answer value none good = good none

packets_laid : (offset : Option ℤ) (phase : Phase) (output : StreamPrefix Plain) (packets : List (Stamped Plain)) → reason_of (with_packets offset phase output packets) ≡ None → with_packets offset phase output packets ≡ Ok (all_appended output packets)
packets_laid offset phase output [] none = refl
packets_laid offset phase output (packet ∷ packets) none =
    where_passed (laying_fault offset phase output packet) (with_packets offset phase (appended output packet) packets) (all_appended (appended output packet) packets) none
    (packets_laid offset phase (appended output packet) packets)

after_none : {A B : Type 0} (answer : Result A Cause) (make : A → Result B Cause) → reason_of (after answer make) ≡ None → reason_of answer ≡ None
after_none (Ok value) make none = refl
after_none (Err cause) make none = none

part_laid : (offset : Option ℤ) (phase : Phase) (output : StreamPrefix Plain) (laid : Laid) → reason_of (with_laid offset phase output laid) ≡ None → with_laid offset phase output laid ≡ Ok (laid_on output laid)
part_laid offset phase output laid none =
    ap (λ (answer : Result (StreamPrefix Plain) Cause). after answer (λ longer. Ok (raised_to laid.bound longer)))
    (packets_laid offset phase output laid.packets (after_none (with_packets offset phase output laid.packets) (λ longer. Ok (raised_to laid.bound longer)) none))

pub emission_laid : (offset : Option ℤ) (phase : Phase) (outputs : List (StreamPrefix Plain)) (emission : List Laid) → reason_of (laid_behind offset phase outputs emission) ≡ None → laid_behind offset phase outputs emission ≡ Ok (all_laid_on outputs emission)
emission_laid offset phase outputs [] none = refl
emission_laid offset phase [] (laid ∷ emission) none = refl
emission_laid offset phase (output ∷ outputs) (laid ∷ emission) none =
    let first = part_laid offset phase output laid (after_none (with_laid offset phase output laid) (λ longer. after (laid_behind offset phase outputs emission) (λ others. Ok (longer ∷ others))) none) in
    let rest : reason_of (after (laid_behind offset phase outputs emission) (λ others. Ok (laid_on output laid ∷ others))) ≡ None =
    sym (ap (λ (answer : Result (StreamPrefix Plain) Cause). reason_of (after answer (λ longer. after (laid_behind offset phase outputs emission) (λ others. Ok (longer ∷ others))))) first) ∙ none in
    let others = emission_laid offset phase outputs emission (after_none (laid_behind offset phase outputs emission) (λ others. Ok (laid_on output laid ∷ others)) rest) in
    ap (λ (answer : Result (StreamPrefix Plain) Cause). after answer (λ longer. after (laid_behind offset phase outputs emission) (λ others. Ok (longer ∷ others)))) first
    ∙ ap (λ (answer : Result (List (StreamPrefix Plain)) Cause). after answer (λ others. Ok (laid_on output laid ∷ others))) others

-- A list that is mapped in place, one further.
pub mapped_further : {X : Type 0} (f : X → X) (xs now : List X) (i : ℕ) (x new : X) → i < length xs → x ≡ get_or now i x → new ≡ f (get_or now i x)
    → now ≡ map f (take i xs) ++ drop i xs → set now i new ≡ map f (take (i + 1) xs) ++ drop (i + 1) xs
mapped_further {X} f xs now i x new below is new_is so_far =
    ap (set now i) (new_is ∙ ap f (sym is))
    ∙ mapped-more f xs now i x below (is ∙ (ap (λ (l : List X). get_or l i x) so_far ∙ mapped-later f xs i x below)) so_far
