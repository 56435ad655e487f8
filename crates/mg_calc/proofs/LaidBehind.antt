-- Laying extends each output, and keeps prefixes.
use Rattle.std.proofs.Common.{◌≡◌, ℕ, ℤ, pos, negsuc, min, max, append-nil, ◌≤◌, Bool, true, false, not, nat_lt, List, [], ◌∷◌, map, Option, Some, None, Result, Ok, Err, refl, sym, ap, subst, arith, if◌then◌else◌}
use Rattle.std.specs.List.{AllByRecursion}
use Rattle.std.proofs.lemmas.Bool.Decides.{nat_tests}
use Rattle.std.proofs.lemmas.List.Elements.{All-nil}
use Rattle.mg_time.specs.Time.{done, shift}
use Rattle.mg_value.specs.Payload.{Plain}
use Rattle.mg_value.specs.Packet.{Stamped}
use Rattle.mg_settled.specs.Prefix.{StreamPrefix, IsPrefix, MayFollow, appended, raised, closed}
use Rattle.mg_settled.specs.Extension.{IsExtendedBy, AreExtendedBy}
use Rattle.mg_settled.proofs.Lemmas.{extended_by_itself, extended_further, all_by_themselves, appended_extends, raised_extends, closed_extends}
use Rattle.mg_settled.proofs.Lemmas.{appended_is_prefix, raised_is_prefix, closed_is_prefix}
use Rattle.mg_calc.specs.declared.cause.Cause.{Cause}
use Rattle.mg_calc.specs.declared.emission.Laid.{Laid}
use Rattle.mg_calc.specs.declared.node_fault.Phase.{Phase}
use Rattle.mg_calc.specs.Laying.{is_allowed, is_below_offset, is_bound_to_silence, is_not_alone, laying_fault, unless, after, with_packets, raised_to, with_laid, laid_behind, all_raised}

-- what follows from a good answer
pub unless_good : {A : Type 0} (fault : Option Cause) (answer : Result A Cause) (value : A) → unless fault answer ≡ Ok value → (fault ≡ None) × (answer ≡ Ok value)
unless_good (Some cause) answer value h = absurd cc
unless_good None answer value h = (refl, h)

pub after_good : {A B : Type 0} (answer : Result A Cause) (make : A → Result B Cause) (value : B) → after answer make ≡ Ok value → (x : A) × (answer ≡ Ok x) × (make x ≡ Ok value)
after_good (Err cause) make value h = absurd cc
after_good (Ok x) make value h = (x, refl, h)

good_same : {A : Type 0} (x y : A) → (let r : Result A Cause = Ok x in r) ≡ Ok y → x ≡ y
good_same {A} x y h = ap (λ r. (elim r [ Ok z ↦ z | Err cause ↦ x ])) h

-- none of the reasons holds
no_reason : (a b c d e : Bool) (A B C D E : Cause)
    → (if not a then Some A else (if b then Some B else (if c then Some C else (if d then Some D else (if e then Some E else None))))) ≡ None
    → (a ≡ true) × (d ≡ false) × (e ≡ false)
no_reason false b c d e A B C D E h = absurd cc
no_reason true true c d e A B C D E h = absurd cc
no_reason true false true d e A B C D E h = absurd cc
no_reason true false false true e A B C D E h = absurd cc
no_reason true false false false true A B C D E h = absurd cc
no_reason true false false false false A B C D E h = (refl, refl, refl)

pub may_be_laid : (offset : Option ℤ) (phase : Phase) (output : StreamPrefix Plain) (packet : Stamped Plain) → laying_fault offset phase output packet ≡ None → MayFollow output packet
may_be_laid offset phase output packet h =
    let tests = no_reason (is_allowed packet.at) (is_below_offset offset phase packet.at) (is_bound_to_silence offset phase) (nat_lt packet.at output.bound) (is_not_alone output.packets packet.at) _ _ _ _ _ h in
    record {
      allowed = grind (arith, nat_tests, tests.0);
      above = grind (arith, nat_tests, tests.1);
      alone = (λ e. grind (arith, nat_tests, tests.2, e));
    }

-- packets that are appended to an output extend it, and a prefix stays a prefix
pub packets_extend : (offset : Option ℤ) (phase : Phase) (output longer : StreamPrefix Plain) (packets : List (Stamped Plain)) → with_packets offset phase output packets ≡ Ok longer → IsExtendedBy output longer
packets_extend offset phase output longer [] h = subst (IsExtendedBy output) (good_same output longer h) (extended_by_itself output)
packets_extend offset phase output longer (packet ∷ packets) h =
    let good = unless_good (laying_fault offset phase output packet) (with_packets offset phase (appended output packet) packets) longer h in
    extended_further output (appended output packet) longer
    (appended_extends output packet (may_be_laid offset phase output packet good.0))
    (packets_extend offset phase (appended output packet) longer packets good.1)

pub packets_keep : (offset : Option ℤ) (phase : Phase) (output longer : StreamPrefix Plain) (packets : List (Stamped Plain)) → with_packets offset phase output packets ≡ Ok longer → IsPrefix output → IsPrefix longer
packets_keep offset phase output longer [] h k = subst IsPrefix (good_same output longer h) k
packets_keep offset phase output longer (packet ∷ packets) h k =
    let good = unless_good (laying_fault offset phase output packet) (with_packets offset phase (appended output packet) packets) longer h in
    packets_keep offset phase (appended output packet) longer packets good.1
    (appended_is_prefix output packet k (may_be_laid offset phase output packet good.0))

raised_to_extends : (bound : Option ℕ) (output : StreamPrefix Plain) → IsExtendedBy output (raised_to bound output)
raised_to_extends None output = extended_by_itself output
raised_to_extends (Some b) output = raised_extends output (min b done)

raised_to_keeps : (bound : Option ℕ) (output : StreamPrefix Plain) → IsPrefix output → IsPrefix (raised_to bound output)
raised_to_keeps None output k = k
raised_to_keeps (Some b) output k = raised_is_prefix output (min b done) k (omega arith)

laid_extends : (offset : Option ℤ) (phase : Phase) (output longer : StreamPrefix Plain) (laid : Laid) → with_laid offset phase output laid ≡ Ok longer → IsExtendedBy output longer
laid_extends offset phase output longer laid h =
    let good = after_good (with_packets offset phase output laid.packets) (λ l. Ok (raised_to laid.bound l)) longer h in
    subst (IsExtendedBy output) (good_same (raised_to laid.bound good.0) longer good.2)
    (extended_further output good.0 (raised_to laid.bound good.0) (packets_extend offset phase output good.0 laid.packets good.1) (raised_to_extends laid.bound good.0))

laid_keeps : (offset : Option ℤ) (phase : Phase) (output longer : StreamPrefix Plain) (laid : Laid) → with_laid offset phase output laid ≡ Ok longer → IsPrefix output → IsPrefix longer
laid_keeps offset phase output longer laid h k =
    let good = after_good (with_packets offset phase output laid.packets) (λ l. Ok (raised_to laid.bound l)) longer h in
    subst IsPrefix (good_same (raised_to laid.bound good.0) longer good.2)
    (raised_to_keeps laid.bound good.0 (packets_keep offset phase output good.0 laid.packets good.1 k))

-- so does an emission
pub emission_extends : (offset : Option ℤ) (phase : Phase) (outputs longer : List (StreamPrefix Plain)) (emission : List Laid) → laid_behind offset phase outputs emission ≡ Ok longer → AreExtendedBy outputs longer
emission_extends offset phase outputs longer [] h = subst (AreExtendedBy outputs) (good_same outputs longer h) (all_by_themselves outputs)
emission_extends offset phase [] longer (laid ∷ emission) h = subst (AreExtendedBy []) (good_same [] longer h) tt
emission_extends offset phase (output ∷ outputs) longer (laid ∷ emission) h =
    let here = after_good (with_laid offset phase output laid) (λ l. after (laid_behind offset phase outputs emission) (λ others. Ok (l ∷ others))) longer h in
    let rest = after_good (laid_behind offset phase outputs emission) (λ others. Ok (here.0 ∷ others)) longer here.2 in
    subst (AreExtendedBy (output ∷ outputs)) (good_same (here.0 ∷ rest.0) longer rest.2)
    (laid_extends offset phase output here.0 laid here.1, emission_extends offset phase outputs rest.0 emission rest.1)

pub emission_keeps : (offset : Option ℤ) (phase : Phase) (outputs longer : List (StreamPrefix Plain)) (emission : List Laid) → laid_behind offset phase outputs emission ≡ Ok longer → AllByRecursion IsPrefix outputs → AllByRecursion IsPrefix longer
emission_keeps offset phase outputs longer [] h k = subst (AllByRecursion IsPrefix) (good_same outputs longer h) k
emission_keeps offset phase [] longer (laid ∷ emission) h k = subst (AllByRecursion IsPrefix) (good_same [] longer h) tt
emission_keeps offset phase (output ∷ outputs) longer (laid ∷ emission) h k =
    let here = after_good (with_laid offset phase output laid) (λ l. after (laid_behind offset phase outputs emission) (λ others. Ok (l ∷ others))) longer h in
    let rest = after_good (laid_behind offset phase outputs emission) (λ others. Ok (here.0 ∷ others)) longer here.2 in
    subst (AllByRecursion IsPrefix) (good_same (here.0 ∷ rest.0) longer rest.2)
    (laid_keeps offset phase output here.0 laid here.1 k.0, emission_keeps offset phase outputs rest.0 emission rest.1 k.1)

-- outputs that are raised are extended, and stay prefixes; the higher the bound, the further
abbrev raised_by : ℤ → ℕ → StreamPrefix Plain → StreamPrefix Plain
raised_by offset bound output = raised output (shift bound offset)

raise_each : (offset : ℤ) (bound : ℕ) (outputs : List (StreamPrefix Plain)) → AreExtendedBy outputs (map (raised_by offset bound) outputs)
raise_each offset bound [] = tt
raise_each offset bound (output ∷ outputs) = (raised_extends output (shift bound offset), raise_each offset bound outputs)

pub raise_extends : (offset : Option ℤ) (bound : ℕ) (outputs : List (StreamPrefix Plain)) → AreExtendedBy outputs (all_raised offset bound outputs)
raise_extends None bound outputs = all_by_themselves outputs
raise_extends (Some o) bound outputs = raise_each o bound outputs

pub shift_order : (t u : ℕ) (offset : ℤ) → t ≤ u → shift t offset ≤ shift u offset
shift_order t u (pos n) le = grind (arith, nat_tests)
shift_order t u (negsuc n) le = grind (arith, nat_tests)

pub shift_within : (t : ℕ) (offset : ℤ) → t ≤ done → shift t offset ≤ done
shift_within t (pos n) le = grind (arith, nat_tests)
shift_within t (negsuc n) le = grind (arith, nat_tests)

raise_each_higher : (offset : ℤ) (low high : ℕ) (outputs : List (StreamPrefix Plain)) → low ≤ high → AreExtendedBy (map (raised_by offset low) outputs) (map (raised_by offset high) outputs)
raise_each_higher offset low high [] le = tt
raise_each_higher offset low high (output ∷ outputs) le =
    (raised_higher output (shift low offset) (shift high offset) (shift_order low high offset le), raise_each_higher offset low high outputs le)
  where
    raised_higher : (s : StreamPrefix Plain) (b c : ℕ) → b ≤ c → IsExtendedBy (raised s b) (raised s c)
    raised_higher s b c le = record { further = []; packets = sym (append-nil s.packets); bound = omega (arith, le); above = All-nil (λ (p : Stamped Plain). max s.bound b ≤ p.at) }

pub raise_higher : (offset : Option ℤ) (low high : ℕ) (outputs : List (StreamPrefix Plain)) → low ≤ high → AreExtendedBy (all_raised offset low outputs) (all_raised offset high outputs)
raise_higher None low high outputs le = all_by_themselves outputs
raise_higher (Some o) low high outputs le = raise_each_higher o low high outputs le

raise_each_keeps : (offset : ℤ) (bound : ℕ) (outputs : List (StreamPrefix Plain)) → bound ≤ done → AllByRecursion IsPrefix outputs → AllByRecursion IsPrefix (map (raised_by offset bound) outputs)
raise_each_keeps offset bound [] le k = tt
raise_each_keeps offset bound (output ∷ outputs) le k =
    (raised_is_prefix output (shift bound offset) k.0 (shift_within bound offset le), raise_each_keeps offset bound outputs le k.1)

pub raise_keeps : (offset : Option ℤ) (bound : ℕ) (outputs : List (StreamPrefix Plain)) → bound ≤ done → AllByRecursion IsPrefix outputs → AllByRecursion IsPrefix (all_raised offset bound outputs)
raise_keeps None bound outputs le k = k
raise_keeps (Some o) bound outputs le k = raise_each_keeps o bound outputs le k

-- outputs that close
pub close_extends : (outputs : List (StreamPrefix Plain)) → AllByRecursion IsPrefix outputs → AreExtendedBy outputs (map closed outputs)
close_extends [] k = tt
close_extends (output ∷ outputs) k = (closed_extends output k.0, close_extends outputs k.1)

pub close_keeps : (outputs : List (StreamPrefix Plain)) → AllByRecursion IsPrefix outputs → AllByRecursion IsPrefix (map closed outputs)
close_keeps [] k = tt
close_keeps (output ∷ outputs) k = (closed_is_prefix output k.0, close_keeps outputs k.1)
