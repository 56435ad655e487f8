-- What a node that doesn't fail has put at an output: what its calls emit there, one after the other.
use Rattle.std.proofs.Common.{◌≡◌, ℕ, zero, suc, ◌+◌, ◌<◌, ℤ, Bool, true, false, ◌==◌, List, [], ◌∷◌, ◌++◌, map, length, replicate, get_or, Option, Some, None, option_map, unwrap_or, slice_get, Result, Ok, Err, refl, sym, ap, subst, ◌∙◌, arith, if◌then◌else◌}
use Rattle.std.specs.List.{fold}
use Rattle.std.proofs.lemmas.List.{append-nil, append_assoc, length-map, length-replicate}
use Rattle.mg_time.specs.Time.{done, shift}
use Rattle.mg_value.specs.Payload.{Plain}
use Rattle.mg_value.specs.Packet.{Stamped}
use Rattle.mg_value.specs.declared.policy.Policy.{Policy}
use Rattle.mg_settled.specs.Prefix.{StreamPrefix, empty_prefix, appended, raised, closed}
use Rattle.mg_settled.specs.Settled.{TimedSet, settled_sets, reach}
use Rattle.mg_calc.specs.declared.cause.Cause.{Cause}
use Rattle.mg_calc.specs.declared.law.Law.{Law}
use Rattle.mg_calc.specs.declared.emission.Laid.{Laid}
use Rattle.mg_calc.specs.declared.node_fault.Phase.{Phase}
use Rattle.mg_calc.specs.declared.node_fault.Phase.TheVariants.{Open, Process, Close}
use Rattle.mg_calc.specs.Answer.{Answer}
use Rattle.mg_calc.specs.Law.{opening, step, finish, table_rules}
use Rattle.mg_calc.specs.Laying.{laying_fault, unless, after, with_packets, raised_to, with_laid, laid_behind, all_raised}
use Rattle.mg_calc.specs.Outcome.{Failure, Outcome, after_laying, after_call, unless_failed, unopened, opened, shown, after_close, closed_with, finished, with_reach, ended, node_outcome}
use Rattle.mg_calc.proofs.Outcomes.{failed_stays}

-- the packets of an output, and what an emission has there
abbrev pub packets_at : ℕ → List (StreamPrefix Plain) → List (Stamped Plain)
packets_at i outputs = (get_or outputs i empty_prefix).packets

abbrev pub emitted : ℕ → List Laid → List (Stamped Plain)
emitted i emission = unwrap_or (option_map (λ l. l.packets) (slice_get emission i)) []

-- a calculator that is shown sets from a state on, and what it emits at an output; no call fails
abbrev pub Runs : Law → List Plain → List (TimedSet Plain) → ℕ → List (Stamped Plain) → Type 0
Runs law state [] i ps = ps ≡ []
Runs law state (set ∷ sets) i ps =
    (given : List Plain × List Laid) × (rest : List (Stamped Plain)) × (step law state set.at set.set ≡ Ok given) × (ps ≡ emitted i given.1 ++ rest) × Runs law given.0 sets i rest

put_packets : (offset : Option ℤ) (phase : Phase) (output longer : StreamPrefix Plain) (ps : List (Stamped Plain)) → with_packets offset phase output ps ≡ Ok longer → longer.packets ≡ output.packets ++ ps
put_packets offset phase output longer [] is = (let same : output ≡ longer = cc in ap (λ (s : StreamPrefix Plain). s.packets) (sym same) ∙ sym (append-nil output.packets))
put_packets offset phase output longer (p ∷ ps) is = by (laying_fault offset phase output p) (put_packets offset phase (appended output p) longer ps) is
  where
    by : (o : Option Cause) → (with_packets offset phase (appended output p) ps ≡ Ok longer → longer.packets ≡ (appended output p).packets ++ ps)
        → unless o (with_packets offset phase (appended output p) ps) ≡ Ok longer → longer.packets ≡ output.packets ++ p ∷ ps
    by None rest is = rest is ∙ append_assoc output.packets (p ∷ []) ps
    by (Some cause) rest is = absurd cc

raised_packets : (bound : Option ℕ) (output : StreamPrefix Plain) → (raised_to bound output).packets ≡ output.packets
raised_packets None output = refl
raised_packets (Some b) output = refl

laid_packets : (offset : Option ℤ) (phase : Phase) (output longer : StreamPrefix Plain) (l : Laid) → with_laid offset phase output l ≡ Ok longer → longer.packets ≡ output.packets ++ l.packets
laid_packets offset phase output longer l is = by (with_packets offset phase output l.packets) refl is
  where
    by : (r : Result (StreamPrefix Plain) Cause) → with_packets offset phase output l.packets ≡ r → after r (λ s. Ok (raised_to l.bound s)) ≡ Ok longer → longer.packets ≡ output.packets ++ l.packets
    by (Err cause) put is = absurd cc
    by (Ok s) put is = (
        let same : raised_to l.bound s ≡ longer = cc in
        ap (λ (x : StreamPrefix Plain). x.packets) (sym same) ∙ raised_packets l.bound s ∙ put_packets offset phase output s l.packets put
        )

-- an emission that can be laid leaves as many outputs
laid_length : (offset : Option ℤ) (phase : Phase) (outputs longer : List (StreamPrefix Plain)) (emission : List Laid) → laid_behind offset phase outputs emission ≡ Ok longer → length longer ≡ length outputs
laid_length offset phase outputs longer [] is = (let same : outputs ≡ longer = cc in ap length (sym same))
laid_length offset phase [] longer (l ∷ ls) is = (let same : [] ≡ longer = cc in ap length (sym same))
laid_length offset phase (output ∷ outputs) longer (l ∷ ls) is = by (with_laid offset phase output l) (laid_behind offset phase outputs ls) (λ others put. laid_length offset phase outputs others ls put) is
  where
    by : (r : Result (StreamPrefix Plain) Cause) (q : Result (List (StreamPrefix Plain)) Cause) → ((others : List (StreamPrefix Plain)) → q ≡ Ok others → length others ≡ length outputs)
        → after r (λ first. after q (λ others. Ok (first ∷ others))) ≡ Ok longer → length longer ≡ length (output ∷ outputs)
    by (Err cause) q rest is = absurd cc
    by (Ok first) (Err cause) rest is = absurd cc
    by (Ok first) (Ok others) rest is = (let same : first ∷ others ≡ longer = cc in ap length (sym same) ∙ ap suc (rest others refl))

-- and each gets its own part
laid_part : (offset : Option ℤ) (phase : Phase) (outputs longer : List (StreamPrefix Plain)) (emission : List Laid) (i : ℕ) → laid_behind offset phase outputs emission ≡ Ok longer → i < length outputs
    → packets_at i longer ≡ packets_at i outputs ++ emitted i emission
laid_part offset phase outputs longer [] i is below = (let same : outputs ≡ longer = cc in ap (packets_at i) (sym same) ∙ sym (append-nil (packets_at i outputs)))
laid_part offset phase [] longer (l ∷ ls) i is below = absurd (omega (arith, below))
laid_part offset phase (output ∷ outputs) longer (l ∷ ls) zero is below = by (with_laid offset phase output l) refl (laid_behind offset phase outputs ls) is
  where
    by : (r : Result (StreamPrefix Plain) Cause) → with_laid offset phase output l ≡ r → (q : Result (List (StreamPrefix Plain)) Cause) → after r (λ first. after q (λ others. Ok (first ∷ others))) ≡ Ok longer
        → packets_at 0 longer ≡ output.packets ++ l.packets
    by (Err cause) put q is = absurd cc
    by (Ok first) put (Err cause) is = absurd cc
    by (Ok first) put (Ok others) is = (let same : first ∷ others ≡ longer = cc in ap (packets_at 0) (sym same) ∙ laid_packets offset phase output first l put)
laid_part offset phase (output ∷ outputs) longer (l ∷ ls) (suc i) is below =
    by (with_laid offset phase output l) (laid_behind offset phase outputs ls) (λ others put. laid_part offset phase outputs others ls i put (omega (arith, below))) is
  where
    by : (r : Result (StreamPrefix Plain) Cause) (q : Result (List (StreamPrefix Plain)) Cause) → ((others : List (StreamPrefix Plain)) → q ≡ Ok others → packets_at i others ≡ packets_at i outputs ++ emitted i ls)
        → after r (λ first. after q (λ others. Ok (first ∷ others))) ≡ Ok longer → packets_at (suc i) longer ≡ packets_at i outputs ++ emitted i ls
    by (Err cause) q rest is = absurd cc
    by (Ok first) (Err cause) rest is = absurd cc
    by (Ok first) (Ok others) rest is = (let same : first ∷ others ≡ longer = cc in ap (packets_at (suc i)) (sym same) ∙ rest others refl)

pub behind_packets : (offset : Option ℤ) (phase : Phase) (outputs longer : List (StreamPrefix Plain)) (emission : List Laid) (i : ℕ) → laid_behind offset phase outputs emission ≡ Ok longer → i < length outputs
    → (packets_at i longer ≡ packets_at i outputs ++ emitted i emission) × (length longer ≡ length outputs)
behind_packets offset phase outputs longer emission i is below = (laid_part offset phase outputs longer emission i is below, laid_length offset phase outputs longer emission is)

-- raising and closing change no packets
map_packets : (f : StreamPrefix Plain → StreamPrefix Plain) → ((s : StreamPrefix Plain) → (f s).packets ≡ s.packets) → (outputs : List (StreamPrefix Plain)) (i : ℕ) → packets_at i (map f outputs) ≡ packets_at i outputs
map_packets f same [] i = refl
map_packets f same (o ∷ os) zero = same o
map_packets f same (o ∷ os) (suc i) = map_packets f same os i

all_raised_packets : (offset : Option ℤ) (bound : ℕ) (outputs : List (StreamPrefix Plain)) (i : ℕ) → (packets_at i (all_raised offset bound outputs) ≡ packets_at i outputs) × (length (all_raised offset bound outputs) ≡ length outputs)
all_raised_packets None bound outputs i = (refl, refl)
all_raised_packets (Some offset) bound outputs i =
    (map_packets (λ output. raised output (shift bound offset)) (λ s. refl) outputs i, length-map outputs (λ output. raised output (shift bound offset)))

-- what one set results in, if the node hasn't failed after it
pub record Stepped (law : Law) (before : Outcome) (set : TimedSet Plain) (now : Outcome) (i : ℕ) : Type 0 where
  pub given : List Plain × List Laid
  pub answers : step law before.state set.at set.set ≡ Ok given
  pub state : now.state ≡ given.0
  pub packets : packets_at i now.outputs ≡ packets_at i before.outputs ++ emitted i given.1
  pub outputs : length now.outputs ≡ length before.outputs

laid_step : (law : Law) (offset : Option ℤ) (before : Outcome) (set : TimedSet Plain) (i : ℕ) → i < length before.outputs → (answer : Answer) → step law before.state set.at set.set ≡ answer
    → (after_call offset (Process set.at) (record before { outputs = all_raised offset set.at before.outputs; taken = before.taken + 1 }) answer).fault ≡ None
    → Stepped law before set (after_call offset (Process set.at) (record before { outputs = all_raised offset set.at before.outputs; taken = before.taken + 1 }) answer) i
laid_step law offset before set i below (Err cause) is none = absurd cc
laid_step law offset before set i below (Ok given) is none = by (laid_behind offset (Process set.at) (all_raised offset set.at before.outputs) given.1) refl none
  where
    first : Outcome
    first = record before { state = given.0; outputs = all_raised offset set.at before.outputs; taken = before.taken + 1 }

    by : (r : Result (List (StreamPrefix Plain)) Cause) → laid_behind offset (Process set.at) (all_raised offset set.at before.outputs) given.1 ≡ r → (after_laying (Process set.at) first r).fault ≡ None
        → Stepped law before set (after_laying (Process set.at) first r) i
    by (Err cause) put none = absurd cc
    by (Ok longer) put none = (
        let raise = all_raised_packets offset set.at before.outputs i in
        let laid = behind_packets offset (Process set.at) (all_raised offset set.at before.outputs) longer given.1 i put (omega (arith, below, raise.1)) in
        record {
          given = given;
          answers = is;
          state = refl;
          packets = laid.0 ∙ ap (λ ps. ps ++ emitted i given.1) raise.0;
          outputs = laid.1 ∙ raise.1;
        }
        )

pub one_step : (law : Law) (offset : Option ℤ) (before : Outcome) (set : TimedSet Plain) (i : ℕ) → i < length before.outputs → (shown (table_rules law) offset before set).fault ≡ None → Stepped law before set (shown (table_rules law) offset before set) i
one_step law offset before set i below none = by before.fault refl none
  where
    next : Outcome
    next = after_call offset (Process set.at) (record before { outputs = all_raised offset set.at before.outputs; taken = before.taken + 1 }) (step law before.state set.at set.set)

    by : (f : Option Failure) → before.fault ≡ f → (unless_failed f before next).fault ≡ None → Stepped law before set (unless_failed f before next) i
    by (Some failure) is none = absurd cc
    by None is none = laid_step law offset before set i below (step law before.state set.at set.set) refl none

pub all_steps : (law : Law) (offset : Option ℤ) (before : Outcome) (sets : List (TimedSet Plain)) (i : ℕ) → i < length before.outputs → (fold (shown (table_rules law) offset) before sets).fault ≡ None
    → (ps : List (Stamped Plain)) × Runs law before.state sets i ps × (packets_at i (fold (shown (table_rules law) offset) before sets).outputs ≡ packets_at i before.outputs ++ ps)
all_steps law offset before [] i below none = ([], refl, sym (append-nil (packets_at i before.outputs)))
all_steps law offset before (set ∷ sets) i below none = by (shown (table_rules law) offset before set).fault refl (λ h. all_steps law offset (shown (table_rules law) offset before set) sets i (omega (arith, below, h)) none)
  where
    next : Outcome
    next = shown (table_rules law) offset before set

    by : (f : Option Failure) → next.fault ≡ f
        → (length next.outputs ≡ length before.outputs → (ps : List (Stamped Plain)) × Runs law next.state sets i ps × (packets_at i (fold (shown (table_rules law) offset) next sets).outputs ≡ packets_at i next.outputs ++ ps))
        → (ps : List (Stamped Plain)) × Runs law before.state (set ∷ sets) i ps × (packets_at i (fold (shown (table_rules law) offset) next sets).outputs ≡ packets_at i before.outputs ++ ps)
    by (Some failure) is later = (let stays = ap (λ (o : Outcome). o.fault) (failed_stays (table_rules law) offset next failure sets is) in absurd cc)
    by None is later = (
        let h = one_step law offset before set i below is in
        let rest = later h.outputs in (
          emitted i h.given.1 ++ rest.0,
          (h.given, rest.0, h.answers, refl, subst (λ (s : List Plain). Runs law s sets i rest.0) h.state rest.1),
          rest.2 ∙ ap (λ ps. ps ++ rest.0) h.packets ∙ append_assoc (packets_at i before.outputs) (emitted i h.given.1) rest.0,
        )
        )

nothing_yet : (n i : ℕ) → packets_at i (replicate n empty_prefix) ≡ []
nothing_yet zero i = refl
nothing_yet (suc n) zero = refl
nothing_yet (suc n) (suc i) = nothing_yet n i

-- what becomes of a node that emits nothing in Open and in Close
pub node_packets : (law : Law) (offset : Option ℤ) (policy : Policy) (outputs : ℕ) (sides : List (Option Plain)) (inputs : List (StreamPrefix Plain)) (i : ℕ) → opening law sides ≡ Ok ([], [])
    → ((state : List Plain) → finish law state ≡ Ok (state, [])) → i < outputs → (node_outcome (table_rules law) offset policy outputs sides inputs).fault ≡ None
    → (ps : List (Stamped Plain)) × Runs law [] (settled_sets policy inputs) i ps × (packets_at i (node_outcome (table_rules law) offset policy outputs sides inputs).outputs ≡ ps)
node_packets law offset policy outputs sides inputs i opens closes below none =
    let opened_as : opened (table_rules law) offset outputs sides ≡ unopened outputs = ap (after_call offset Open (unopened outputs)) opens in
    subst (λ (o : Outcome). (ended (table_rules law) offset (reach policy inputs) (fold (shown (table_rules law) offset) o (settled_sets policy inputs))).fault ≡ None
    → (ps : List (Stamped Plain)) × Runs law [] (settled_sets policy inputs) i ps × (packets_at i (ended (table_rules law) offset (reach policy inputs) (fold (shown (table_rules law) offset) o (settled_sets policy inputs))).outputs ≡ ps))
    (sym opened_as) from_unopened none
  where
    folded : Outcome
    folded = fold (shown (table_rules law) offset) (unopened outputs) (settled_sets policy inputs)

    closing : (o : Outcome) (b : Bool) → let last = (if b then finished (table_rules law) offset (record o { outputs = all_raised offset (reach policy inputs) o.outputs }) else record o { outputs = all_raised offset (reach policy inputs) o.outputs }) in
        packets_at i last.outputs ≡ packets_at i o.outputs
    closing o false = (all_raised_packets offset (reach policy inputs) o.outputs i).0
    closing o true = (
        let outs = all_raised offset (reach policy inputs) o.outputs in
        let same : finished (table_rules law) offset (record o { outputs = outs }) ≡ record o { outputs = map closed outs } =
        ap (closed_with offset (record o { outputs = outs })) (closes o.state) in
        ap (λ (x : Outcome). packets_at i x.outputs) same ∙ map_packets closed (λ s. refl) outs i ∙ (all_raised_packets offset (reach policy inputs) o.outputs i).0
        )

    from_unopened : (ended (table_rules law) offset (reach policy inputs) folded).fault ≡ None
        → (ps : List (Stamped Plain)) × Runs law [] (settled_sets policy inputs) i ps × (packets_at i (ended (table_rules law) offset (reach policy inputs) folded).outputs ≡ ps)
    from_unopened none = by folded.fault refl none
      where
        by : (f : Option Failure) → folded.fault ≡ f → (unless_failed f folded (with_reach (table_rules law) offset (reach policy inputs) folded)).fault ≡ None
            → (ps : List (Stamped Plain)) × Runs law [] (settled_sets policy inputs) i ps × (packets_at i (unless_failed f folded (with_reach (table_rules law) offset (reach policy inputs) folded)).outputs ≡ ps)
        by (Some failure) is none = absurd cc
        by None is none = (
            let steps = all_steps law offset (unopened outputs) (settled_sets policy inputs) i (omega (arith, below, length-replicate outputs (empty_prefix {X = Plain}))) is in
            (steps.0, steps.1, closing folded (reach policy inputs == done) ∙ steps.2 ∙ ap (λ ps. ps ++ steps.0) (nothing_yet outputs i))
            )
