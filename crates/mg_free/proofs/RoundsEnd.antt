-- The rounds end. A stream has no more packets than there are times, so what there is to take is limited. Each round takes some of
-- that, or is the last.
use Rattle.std.proofs.Common.{◌≡◌, ℕ, zero, suc, ◌+◌, ◌*◌, ◌<◌, ◌≤◌, List, [], ◌∷◌, map, length, sum_by, refl, sym, ap, ◌∙◌, subst, inl, inr, arith}
use Rattle.std.specs.List.{AllByRecursion}
use Rattle.std.proofs.lemmas.List.Elements.{recursion_from_All}
use Rattle.std.proofs.lemmas.List.Sums.{sum_by-cons}
use Rattle.mg_time.specs.Time.{done, IsAllowed}
use Rattle.mg_value.specs.Payload.{Plain}
use Rattle.mg_value.specs.Packet.{Stamped}
use Rattle.mg_settled.specs.Prefix.{StreamPrefix, IsPrefix, Ascends, first_time}
use Rattle.mg_calc.specs.declared.inputs.Inputs.{Inputs}
use Rattle.mg_calc.specs.Rules.{Laws}
use Rattle.mg_calc.specs.Equations.{stream_of}
use Rattle.mg_calc.proofs.Solutions.{one_solution}
use Rattle.mg_free.specs.declared.node.FreeNode.{FreeNode}
use Rattle.mg_free.specs.declared.plan.FreePlan.{FreePlan}
use Rattle.mg_free.specs.Rounds.{Taken, core_job, free_inputs, IsRound, Rounds, rests, round, AllRounds, ends, batch}
use Rattle.mg_free.specs.Turns.{taken_by_all, room_of, room_of_all}
use Rattle.mg_free.proofs.Arriving.{next_over}
use Rattle.mg_free.proofs.Placing.{zipped_long}
use Rattle.mg_free.proofs.Turning.{turns, turns_rise}
use Rattle.mg_free.proofs.TurnEnds.{all_short}
use Rattle.mg_free.proofs.WellTaken.{IsWell}
use Rattle.mg_free.proofs.UnderWay.{FitsCore, BatchesFit, IsUnderWay, a_round, a_batch, all_turn, kept, inputs_keep, lawfuls, rounds_come}

-- A stream has no more packets than there are times.
few_packets : (bound : ℕ) (ps : List (Stamped Plain)) → AllByRecursion (λ p. IsAllowed p.at) ps → Ascends ps bound → length ps + first_time ps bound ≤ bound
few_packets bound [] allowed up = omega arith
few_packets bound (p ∷ ps) allowed up =
    let over = next_over p.at allowed.0 in
    let before = up.0 in
    let rest = few_packets bound ps allowed.1 up.1 in
    omega (arith, over, before, rest)

prefix_short : (s : StreamPrefix Plain) → IsPrefix s → length s.packets ≤ done
prefix_short s h =
    let few = few_packets s.bound s.packets (recursion_from_All (λ (p : Stamped Plain). IsAllowed p.at) s.packets h.allowed) h.ascends in
    let within = h.within in
    omega (arith, few, within)

all_prefixes_short : (ss : List (StreamPrefix Plain)) → AllByRecursion IsPrefix ss → sum_by (λ s. length s.packets) ss ≤ length ss * done
all_prefixes_short [] all = omega arith
all_prefixes_short (s ∷ ss) all =
    let here = prefix_short s all.0 in
    let rest = all_prefixes_short ss all.1 in
    let sum = sum_by-cons (λ (t : StreamPrefix Plain). length t.packets) s ss in
    let times : suc (length ss) * done ≡ done + length ss * done = omega arith in
    omega (arith, here, rest, sum, times)

image_long : (streams : List (StreamPrefix Plain)) (ports : List ℕ) → length (map (stream_of streams) ports) ≡ length ports
image_long streams [] = refl
image_long streams (p ∷ ports) = ap suc (image_long streams ports)

-- so there is only so much to take
abbrev most_of : FreeNode → ℕ
most_of free = length free.inputs * done + 1

abbrev most : List FreeNode → ℕ
most frees = sum_by most_of frees

room_short : (streams : List (StreamPrefix Plain)) (frees : List FreeNode) → AllByRecursion IsPrefix streams → room_of_all streams frees ≤ most frees
room_short streams [] all = omega arith
room_short streams (f ∷ frees) all =
    let here = all_prefixes_short (free_inputs streams f) (inputs_keep streams f.inputs all) in
    let long : length (free_inputs streams f) * done ≡ length f.inputs * done = ap (λ (n : ℕ). n * done) (image_long streams f.inputs) in
    let rest = room_short streams frees all in
    let room = sum_by-cons (room_of streams) f frees in
    let more = sum_by-cons most_of f frees in
    omega (arith, here, long, rest, room, more)

not_same : (before after : List Taken) → taken_by_all before < taken_by_all after → after ≡ before → ⊥
not_same before after less same = (let e = ap taken_by_all same in omega (arith, less, e))

-- there is a last round
pub rounds_end_from : (laws : Laws) (fuel : ℕ) (split : FreePlan) (inputs : Inputs) (before : List Taken) → FitsCore split inputs → IsUnderWay laws split inputs before → most split.free ≤ taken_by_all before + fuel
    → (last : List Taken) × Rounds laws split inputs before last
rounds_end_from laws zero split inputs before fits u enough =
    let after = turns u.streams split.free before in
    let all = kept (core_job laws split inputs before) u.streams u.job u.solution in
    elim (turns_rise u.streams split.free before (zipped_long (λ free taken. IsWell (free_inputs u.streams free) free taken) split.free before u.well)) [
      | inl same ↦ (before, rests (record { streams = u.streams; solution = u.solution; turns = sym same }))
      | inr less ↦ absurd (
          let short = all_short u.streams split.free after (lawfuls u.streams split.free after (all_turn u.streams split.free before u.well)) in
          let room = room_short u.streams split.free all in
          omega (arith, less, short, room, enough)
          )
    ]
rounds_end_from laws (suc fuel) split inputs before fits u enough =
    let after = turns u.streams split.free before in
    elim (turns_rise u.streams split.free before (zipped_long (λ free taken. IsWell (free_inputs u.streams free) free taken) split.free before u.well)) [
      | inl same ↦ (before, rests (record { streams = u.streams; solution = u.solution; turns = sym same }))
      | inr less ↦ (
          let r : IsRound laws split inputs before after = record { streams = u.streams; solution = u.solution; turns = refl } in
          let rest = rounds_end_from laws fuel split inputs after fits (a_round laws split inputs before after fits u r) (omega (arith, less, enough)) in
          (rest.0, round r (not_same before after less) rest.1)
          )
    ]

pub rounds_end : (laws : Laws) (split : FreePlan) (inputs : Inputs) (before : List Taken) → FitsCore split inputs → IsUnderWay laws split inputs before → (last : List Taken) × Rounds laws split inputs before last
rounds_end laws split inputs before fits u = rounds_end_from laws (most split.free) split inputs before fits u (omega arith)

-- and so of each batch
pub all_rounds_end : (laws : Laws) (split : FreePlan) (inputs : Inputs) (later : List Inputs) (before : List Taken) → FitsCore split inputs → BatchesFit split inputs later → IsUnderWay laws split inputs before
    → (last : List Taken) × AllRounds laws split (inputs ∷ later) before last
all_rounds_end laws split inputs [] before fits more u = (let r = rounds_end laws split inputs before fits u in (r.0, batch r.1 ends))
all_rounds_end laws split inputs (next ∷ later) before fits more u =
    let r = rounds_end laws split inputs before fits u in
    let come = rounds_come laws split inputs before r.0 fits u r.1 in
    let rest = all_rounds_end laws split next later r.0 more.0 more.3 (a_batch laws split inputs next r.0 more.0 more.1 more.2 come.goes_on) in
    (rest.0, batch r.1 rest.1)

-- The rounds are determined: each has one solution, and the turns in it.
same_round : (laws : Laws) (split : FreePlan) (inputs : Inputs) (before after other : List Taken) → IsRound laws split inputs before after → IsRound laws split inputs before other → after ≡ other
same_round laws split inputs before after other r q =
    r.turns ∙ (ap (λ (streams : List (StreamPrefix Plain)). turns streams split.free before) (one_solution (core_job laws split inputs before) r.streams q.streams r.solution q.solution) ∙ sym q.turns)

pub rounds_one : (laws : Laws) (split : FreePlan) (inputs : Inputs) (before last other : List Taken) → Rounds laws split inputs before last → Rounds laws split inputs before other → last ≡ other
rounds_one laws split inputs before last other (rests r) (rests q) = refl
rounds_one laws split inputs before last other (rests r) (round q changed more) = absurd (changed (same_round laws split inputs _ _ _ q r))
rounds_one laws split inputs before last other (round r changed more) (rests q) = absurd (changed (same_round laws split inputs _ _ _ r q))
rounds_one laws split inputs before last other (round r changed more) (round q differs rest) =
    rounds_one laws split inputs _ last other more (subst (λ (t : List Taken). Rounds laws split inputs t other) (sym (same_round laws split inputs _ _ _ r q)) rest)

pub all_rounds_one : (laws : Laws) (split : FreePlan) (batches : List Inputs) (before last other : List Taken) → AllRounds laws split batches before last → AllRounds laws split batches before other → last ≡ other
all_rounds_one laws split [] before last other ends ends = refl
all_rounds_one laws split (inputs ∷ batches) before last other (batch r rest) (batch q later) =
    all_rounds_one laws split batches _ last other rest (subst (λ (t : List Taken). AllRounds laws split batches t other) (sym (rounds_one laws split inputs before _ _ r q)) later)
