-- What becomes of a node once its input streams have all ended: if it doesn't fail, its outputs end.
use Rattle.std.proofs.Common.{◌≡◌, ℕ, ℤ, zero, suc, ◌-◌, ◌≤◌, Bool, true, cond, eqb, ltb, List, [], ◌∷◌, map, drop, length, Option, Some, None, option_map, unwrap_or, Result, Ok, Err, refl, sym, ap, subst, ◌∙◌, arith, lt-ltb}
use Rattle.std.specs.List.{AllByRecursion, prefix_len, take_while}
use Rattle.std.proofs.lemmas.Bool.{eq-eqb}
use Rattle.std.proofs.lemmas.List.Elements.{recursion_from_All}
use Rattle.std.proofs.lemmas.Option.{none-some}
use Rattle.mg_time.specs.Time.{done, post_stream}
use Rattle.mg_value.specs.Payload.{Plain}
use Rattle.mg_value.specs.Packet.{Stamped}
use Rattle.mg_value.specs.declared.policy.Policy.{Policy}
use Rattle.mg_value.specs.declared.policy.Policy.TheVariants.{Default, Mux}
use Rattle.mg_settled.specs.Prefix.{StreamPrefix, IsPrefix, first_time, closed}
use Rattle.mg_settled.specs.Settled.{low, port_of, select_of, selected, is_settled, settled_selects, reach}
use Rattle.mg_settled.specs.Loopback.{turns, with_previous, is_answered, reply, replies, loopback}
use Rattle.mg_settled.proofs.Fronts.{one_more}
use Rattle.mg_calc.specs.declared.cause.Cause.{Cause}
use Rattle.mg_calc.specs.declared.law.Law.{Law}
use Rattle.mg_calc.specs.declared.law.Law.TheVariants.{Count, SideOnce, Constants, Loopback}
use Rattle.mg_calc.specs.declared.node_fault.Phase.TheVariants.{Close}
use Rattle.mg_calc.specs.declared.plan_node.PlanNode.{PlanNode}
use Rattle.mg_calc.specs.Shape.{calls_of}
use Rattle.mg_calc.specs.Laying.{laid_behind, all_raised}
use Rattle.mg_calc.specs.Law.{finish}
use Rattle.mg_calc.specs.Answer.{Answer}
use Rattle.mg_calc.specs.Outcome.{Failure, Outcome, unless_failed, with_last_call, called, opened, after_close, closed_with, finished, with_reach, ended, shown_all}
use Rattle.mg_calc.specs.Equations.{Job, rules_at, stream_of, inputs_of, sides_of, outcome_by, outcome_of}
use Rattle.std.specs.List.{fold, range_with_len}
use Rattle.mg_settled.specs.Settled.{settled_sets}
use Rattle.mg_calc.specs.Rules.{Rules}

-- streams that have all ended are as they would be if they were closed
abbrev pub AreEnded : List (StreamPrefix Plain) → Type 0
AreEnded ss = map closed ss ≡ ss

-- ---- lists whose elements all pass
all_pass : {X : Type 0} (f : X → Bool) (xs : List X) → AllByRecursion (λ x. f x ≡ true) xs → take_while f xs ≡ xs
all_pass f [] all = refl
all_pass {X} f (x ∷ xs) all = rw (all.0, one_more (prefix_len f xs)) (ap (λ (rest : List X). x ∷ rest) (all_pass f xs all.1))

drop_all : {X : Type 0} (xs : List X) → drop (length xs) xs ≡ []
drop_all [] = refl
drop_all (x ∷ xs) = drop_all xs

map_long : {X Y : Type 0} (f : X → Y) (xs : List X) → length (map f xs) ≡ length xs
map_long f [] = refl
map_long f (x ∷ xs) = ap suc (map_long f xs)

-- a packet's time is below the end of all times
before_done : (bound t : ℕ) → bound ≡ done → t ≤ post_stream → ltb t bound ≡ true
before_done bound t is le = subst (λ (b : ℕ). ltb t b ≡ true) (sym is) (lt-ltb t done (omega (arith, le)))

packets_pass : (s : StreamPrefix Plain) → IsPrefix s → AllByRecursion (λ p. p.at ≤ post_stream) s.packets
packets_pass s h = go s.packets (recursion_from_All (λ (p : Stamped Plain). (2 ≤ p.at) × (p.at ≤ post_stream)) s.packets h.allowed)
  where
    go : (ps : List (Stamped Plain)) → AllByRecursion (λ p. (2 ≤ p.at) × (p.at ≤ post_stream)) ps → AllByRecursion (λ p. p.at ≤ post_stream) ps
    go [] all = tt
    go (p ∷ ps) all = (all.0.1, go ps all.1)

-- ---- how far sets reach
low_ended : (ss : List (StreamPrefix Plain)) → AllByRecursion (λ s. s.bound ≡ done) ss → low ss ≡ done
low_ended [] all = refl
low_ended (s ∷ ss) all = (let first = all.0 in let rest = low_ended ss all.1 in omega (arith, first, rest))

port_ended : (ss : List (StreamPrefix Plain)) → AllByRecursion (λ s. s.bound ≡ done) ss → (i : ℕ) → (port_of ss i).bound ≡ done
port_ended [] all i = refl
port_ended (s ∷ ss) all zero = all.0
port_ended (s ∷ ss) all (suc i) = port_ended ss all.1 i

settled_by : (o : Option ℕ) (ss : List (StreamPrefix Plain)) (t : ℕ) → AllByRecursion (λ s. s.bound ≡ done) ss → t ≤ post_stream → unwrap_or (option_map (λ i. ltb t (port_of ss i).bound) o) true ≡ true
settled_by None ss t all le = refl
settled_by (Some i) ss t all le = before_done (port_of ss i).bound t (port_ended ss all i) le

selects_settle : (ss : List (StreamPrefix Plain)) (ps : List (Stamped Plain)) → AllByRecursion (λ s. s.bound ≡ done) ss → AllByRecursion (λ p. p.at ≤ post_stream) ps → AllByRecursion (λ p. is_settled ss p ≡ true) ps
selects_settle ss [] all low = tt
selects_settle ss (p ∷ ps) all low = (settled_by (selected (length ss) p.value) ss p.at all low.0, selects_settle ss ps all low.1)

pub reach_ended : (policy : Policy) (ss : List (StreamPrefix Plain)) → AllByRecursion (λ s. s.bound ≡ done) ss → IsPrefix (select_of ss) → reach policy ss ≡ done
reach_ended Default ss all h = low_ended ss all
reach_ended Mux ss all h =
    let ps = (select_of ss).packets in
    let is : settled_selects ss ≡ ps = all_pass (is_settled ss) ps (selects_settle ss ps all (packets_pass (select_of ss) h)) in
    ap (λ (n : ℕ). first_time (drop n ps) (select_of ss).bound) (ap length is) ∙ (ap (λ (l : List (Stamped Plain)). first_time l (select_of ss).bound) (drop_all ps) ∙ port_ended ss all (length ss - 1))

-- ---- a loopback
abbrev comes_before : Option (Stamped Plain) → Type 0
comes_before None = Unit {0}
comes_before (Some p) = p.at ≤ post_stream

answered_by : (loop : StreamPrefix Plain) (before : Option (Stamped Plain)) (p : Stamped Plain) → loop.bound ≡ done → comes_before before → is_answered loop (before, p) ≡ true
answered_by loop None p is le = refl
answered_by loop (Some q) p is le = before_done loop.bound q.at is le

all_answered : (loop : StreamPrefix Plain) (before : Option (Stamped Plain)) (ps : List (Stamped Plain)) → loop.bound ≡ done → comes_before before → AllByRecursion (λ p. p.at ≤ post_stream) ps
    → AllByRecursion (λ turn. is_answered loop turn ≡ true) (turns before ps)
all_answered loop before [] is le all = tt
all_answered loop before (p ∷ ps) is le all = (answered_by loop before p is le, all_answered loop (Some p) ps is all.0 all.1)

turns_long : (before : Option (Stamped Plain)) (ps : List (Stamped Plain)) → length (turns before ps) ≡ length ps
turns_long before [] = refl
turns_long before (p ∷ ps) = ap suc (turns_long (Some p) ps)

pub loopback_ended : (main loop : StreamPrefix Plain) → IsPrefix main → main.bound ≡ done → loop.bound ≡ done → (loopback main loop).bound ≡ done
loopback_ended main loop h main_is loop_is =
    let ps = main.packets in
    let long : length (replies main loop) ≡ length ps =
    map_long (reply loop) (take_while (is_answered loop) (with_previous ps))
    ∙ (ap length (all_pass (is_answered loop) (with_previous ps) (all_answered loop None ps loop_is tt (packets_pass main h))) ∙ turns_long None ps) in
    ap (λ (n : ℕ). first_time (drop n ps) main.bound) long ∙ (ap (λ (l : List (Stamped Plain)). first_time l main.bound) (drop_all ps) ∙ main_is)

-- ---- the ends of nodes
closed_twice : (ss : List (StreamPrefix Plain)) → AreEnded (map closed ss)
closed_twice [] = refl
closed_twice (s ∷ ss) = ap (λ (rest : List (StreamPrefix Plain)). closed s ∷ rest) (closed_twice ss)

some_none : {X : Type 0} (x : X) → Some x ≡ None → ⊥
some_none x same = none-some x (sym same)

-- if a node goes on and doesn't fail then, what holds of the next outcome holds of the node's
goes_to : (P : Outcome → Type 0) (fault : Option Failure) (outcome next : Outcome) → fault ≡ outcome.fault → (unless_failed fault outcome next).fault ≡ None → (next.fault ≡ None → P next) → P (unless_failed fault outcome next)
goes_to P None outcome next same good holds = holds good
goes_to P (Some failure) outcome next same good holds = absurd (some_none failure (same ∙ good))

source_ends : (outcome : Outcome) → (with_last_call outcome).fault ≡ None → AreEnded (with_last_call outcome).outputs
source_ends outcome good =
    goes_to (λ (o : Outcome). AreEnded o.outputs) outcome.fault outcome (record outcome { outputs = map closed outcome.outputs }) refl good (λ _. closed_twice outcome.outputs)

close_ends : (outcome : Outcome) (laid : Result (List (StreamPrefix Plain)) Cause) → (after_close outcome laid).fault ≡ None → AreEnded (after_close outcome laid).outputs
close_ends outcome (Ok outputs) good = closed_twice outputs
close_ends outcome (Err cause) good = absurd (some_none (record { phase = Close; cause = cause }) good)

closing_ends : (offset : Option ℤ) (outcome : Outcome) (answer : Answer) → (closed_with offset outcome answer).fault ≡ None → AreEnded (closed_with offset outcome answer).outputs
closing_ends offset outcome (Err cause) good = absurd (some_none (record { phase = Close; cause = cause }) good)
closing_ends offset outcome (Ok given) good = close_ends (record outcome { state = given.0 }) (laid_behind offset Close outcome.outputs given.1) good

reached_by : (P : Outcome → Type 0) (test : Bool) (there other : Outcome) → test ≡ true → P (cond test there other) → P there
reached_by P test there other is holds = subst (λ (b : Bool). P (cond b there other)) is holds

from_reached : (P : Outcome → Type 0) (test : Bool) (there other : Outcome) → test ≡ true → P there → P (cond test there other)
from_reached P test there other is holds = subst (λ (b : Bool). P (cond b there other)) (sym is) holds

node_ends : (rules : Rules) (offset : Option ℤ) (reached : ℕ) (outcome : Outcome) → reached ≡ done → (ended rules offset reached outcome).fault ≡ None → AreEnded (ended rules offset reached outcome).outputs
node_ends rules offset reached outcome is good =
    goes_to (λ (o : Outcome). AreEnded o.outputs) outcome.fault outcome (with_reach rules offset reached outcome) refl good (λ fine.
    let raised : Outcome = record outcome { outputs = all_raised offset reached outcome.outputs } in
    let test : eqb reached done ≡ true = eq-eqb reached done is in
    let here : (finished rules offset raised).fault ≡ None = reached_by (λ (o : Outcome). o.fault ≡ None) (eqb reached done) (finished rules offset raised) raised test fine in
    from_reached (λ (o : Outcome). AreEnded o.outputs) (eqb reached done) (finished rules offset raised) raised test
    (closing_ends offset raised (rules.finish raised.state) here))

one_ended : (s : StreamPrefix Plain) → s.bound ≡ done → AreEnded (s ∷ [])
one_ended s is = ap (λ (b : ℕ). (let t : StreamPrefix Plain = record { packets = s.packets; bound = b } in t ∷ [])) (sym is)

-- what a loopback reads: MAIN and LOOP have ended
pub record LoopEnded (streams : List (StreamPrefix Plain)) (node : PlanNode) : Type 0 where
  pub main : IsPrefix (stream_of (inputs_of streams node) 1)
  pub at_main : (stream_of (inputs_of streams node) 1).bound ≡ done
  pub at_loop : (stream_of (inputs_of streams node) 0).bound ≡ done

ends_by : (law : Law) (job : Job) (streams : List (StreamPrefix Plain)) (node : PlanNode) → (law ≡ Loopback → LoopEnded streams node) → (AllByRecursion (λ s. s.bound ≡ done) (inputs_of streams node)) → IsPrefix (select_of (inputs_of streams node))
    → (outcome_by law job streams node).fault ≡ None → AreEnded (outcome_by law job streams node).outputs
ends_by (Count count start step) job streams node loop all select good = source_ends (fold (called node.law) (opened (rules_at job node) None (length node.outputs) (sides_of job node)) (range_with_len 0 (calls_of node.law))) good
ends_by (SideOnce at) job streams node loop all select good = source_ends (fold (called node.law) (opened (rules_at job node) None (length node.outputs) (sides_of job node)) (range_with_len 0 (calls_of node.law))) good
ends_by Constants job streams node loop all select good = source_ends (fold (called node.law) (opened (rules_at job node) None (length node.outputs) (sides_of job node)) (range_with_len 0 (calls_of node.law))) good
ends_by Loopback job streams node loop all select good =
    let r = loop refl in
    let main = stream_of (inputs_of streams node) 1 in
    let back = stream_of (inputs_of streams node) 0 in
    one_ended (loopback main back) (loopback_ended main back r.main r.at_main r.at_loop)
ends_by law job streams node loop all select good =
    node_ends (rules_at job node) node.shape.offset (reach node.policy (inputs_of streams node))
    (shown_all (rules_at job node) node.shape.offset (length node.outputs) (sides_of job node) (settled_sets node.policy (inputs_of streams node)))
    (reach_ended node.policy (inputs_of streams node) all select) good

pub outcome_ends : (job : Job) (streams : List (StreamPrefix Plain)) (node : PlanNode) → (node.law ≡ Loopback → LoopEnded streams node) → (AllByRecursion (λ s. s.bound ≡ done) (inputs_of streams node)) → IsPrefix (select_of (inputs_of streams node))
    → (outcome_of job streams node).fault ≡ None → AreEnded (outcome_of job streams node).outputs
outcome_ends job streams node = ends_by node.law job streams node
