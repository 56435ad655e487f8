-- A node goes on from what becomes of it from some streams to what becomes of it from later ones.
use Rattle.std.proofs.Common.{◌≡◌, ℕ, ◌+◌, ◌-◌, ◌==◌, Bool, false, replicate, List, [], ◌∷◌, drop, get_or, length, length-append, length-drop, All, Option, None, sym, ap, ap₂, subst, ◌∙◌, arith, inl, inr, eqb-true}
use Rattle.std.specs.List.{fold}
use Rattle.std.proofs.lemmas.Bool.{cases_Bool}
use Rattle.std.proofs.lemmas.List.Elements.{length_all_zip}
use Rattle.mg_time.specs.Time.{done, pre_stream}
use Rattle.mg_value.specs.Payload.{Plain}
use Rattle.mg_value.specs.declared.policy.Policy.{Policy}
use Rattle.mg_settled.specs.Prefix.{StreamPrefix, IsPrefix, first_time}
use Rattle.mg_settled.specs.Extension.{IsExtendedBy, AreExtendedBy}
use Rattle.mg_settled.specs.Settled.{settled_sets, reach, port_of}
use Rattle.mg_settled.specs.Left.{without_first, AreGone}
use Rattle.mg_settled.specs.Loopback.{replies, StandsBehind, IsPast, last_of, behind_first, AreAnswers}
use Rattle.mg_settled.proofs.Lemmas.{port-extended, sets-gone, reach-gone, none-gone, gone-extended, gone-further, sets-end, loopback-behind, loopback-further}
use Rattle.mg_calc.specs.declared.plan_node.PlanNode.{PlanNode}
use Rattle.mg_calc.specs.Outcome.{Outcome, shown, ended, opened, node_outcome, loopback_outcome}
use Rattle.mg_equations.specs.declared.progress.Progress.{Progress}
use Rattle.mg_equations.specs.Code.Seen.{seen, with_answers}
use Rattle.mg_equations.specs.Code.Progress.{AreWithin, HasRead, LoopbackHasAnswered, IsShownMore, ShowsMore, AnswersMore}
use Rattle.mg_equations.proofs.NodeSteps.{node_resumed, node_over, reach_same}
use Rattle.mg_calc.specs.Law.{table_rules}

-- Sets.

-- the packets that are read after further sets
read_further : (node : PlanNode) (ss : List (StreamPrefix Plain)) (before now : Progress) (k : ℕ) → All IsPrefix ss → AreGone node.policy k ss before.read.items → IsShownMore node ss before now → HasRead node ss now
read_further node ss before now k h gone more =
    let policy = node.policy in
    let rs = without_first before.read.items ss in
    let left = sets-gone policy k ss before.read.items h gone in
    let claimed = gone.claimed in
    let all : k + length (settled_sets policy rs) ≡ length (settled_sets policy ss) = omega (arith, claimed, ap length left, length-drop k (settled_sets policy ss)) in
    record {
      gone = subst (λ (n : ℕ). AreGone policy n ss now.read.items) all (subst (AreGone policy (k + length (settled_sets policy rs)) ss) (sym more.read) (gone-further policy k (length (settled_sets policy rs)) ss more.left before.read.items h gone more.are_left));
      reached = more.reached ∙ reach-gone policy k ss before.read.items h gone;
    }

pub shown_more : (node : PlanNode) (outputs : ℕ) (sides : List (Option Plain)) (ss tt : List (StreamPrefix Plain)) (before now : Progress) → All IsPrefix ss → All IsPrefix tt → AreExtendedBy ss tt → HasRead node ss before
    → seen before.outcome ≡ node_outcome (table_rules node.law) node.shape.offset node.policy outputs sides ss → ShowsMore (before.reached == done) node tt before now
    → (seen now.outcome ≡ node_outcome (table_rules node.law) node.shape.offset node.policy outputs sides tt) × HasRead node tt now
shown_more node outputs sides ss tt before now hs ht e read is more = elim (cases_Bool (before.reached == done)) [
  | inl over ↦
      (let law = node.law in
      let policy = node.policy in
      let same : now ≡ before = subst (λ (test : Bool). ShowsMore test node tt before now) over more in
      let at_done : reach policy ss ≡ done = sym read.reached ∙ eqb-true before.reached done over in
      let kept : HasRead node tt before = record {
        gone = subst (λ (n : ℕ). AreGone policy n tt before.read.items) (sym (ap length (sets-end policy ss tt ht e at_done))) (gone-extended policy (length (settled_sets policy ss)) ss tt before.read.items hs e read.gone);
        reached = read.reached ∙ sym (reach_same policy ss tt ht e at_done);
      } in
      (ap (λ (p : Progress). seen p.outcome) same ∙ is ∙ node_over (table_rules law) node.shape.offset policy outputs sides ss tt ht e at_done, subst (HasRead node tt) (sym same) kept))
  | inr goes ↦
      (let law = node.law in
      let offset = node.shape.offset in
      let policy = node.policy in
      let k = length (settled_sets policy ss) in
      let made : IsShownMore node tt before now = subst (λ (test : Bool). ShowsMore test node tt before now) goes more in
      let gone = gone-extended policy k ss tt before.read.items hs e read.gone in
      let test : (reach policy ss == done) ≡ false = ap (λ (r : ℕ). r == done) (sym read.reached) ∙ goes in (
        made.outcome
            ∙ ap₂ (λ r sets. ended (table_rules law) offset r (fold (shown (table_rules law) offset) (seen before.outcome) sets)) (reach-gone policy k tt before.read.items ht gone) (sets-gone policy k tt before.read.items ht gone)
            ∙ ap (λ (o : Outcome). ended (table_rules law) offset (reach policy tt) (fold (shown (table_rules law) offset) o (drop k (settled_sets policy tt)))) is
            ∙ node_resumed (table_rules law) offset policy outputs sides ss tt ht e test,
        read_further node tt before now k ht gone made,
      ))
]

-- a node that was opened
pub shown_first : (node : PlanNode) (outputs : ℕ) (sides : List (Option Plain)) (tt : List (StreamPrefix Plain)) (before now : Progress) → All IsPrefix tt → before.read.items ≡ replicate (length tt) 0 → before.reached ≡ pre_stream
    → seen before.outcome ≡ opened (table_rules node.law) node.shape.offset outputs sides → ShowsMore (before.reached == done) node tt before now
    → (seen now.outcome ≡ node_outcome (table_rules node.law) node.shape.offset node.policy outputs sides tt) × HasRead node tt now
shown_first node outputs sides tt before now ht none at_start is more =
    let law = node.law in
    let offset = node.shape.offset in
    let policy = node.policy in
    let test : (before.reached == done) ≡ false = ap (λ (r : ℕ). r == done) at_start in
    let made : IsShownMore node tt before now = subst (λ (t : Bool). ShowsMore t node tt before now) test more in
    let gone : AreGone policy 0 tt before.read.items = subst (AreGone policy 0 tt) (sym none) (none-gone policy tt) in (
      made.outcome
          ∙ ap₂ (λ r sets. ended (table_rules law) offset r (fold (shown (table_rules law) offset) (seen before.outcome) sets)) (reach-gone policy 0 tt before.read.items ht gone) (sets-gone policy 0 tt before.read.items ht gone)
          ∙ ap (λ (o : Outcome). ended (table_rules law) offset (reach policy tt) (fold (shown (table_rules law) offset) o (settled_sets policy tt))) is,
      read_further node tt before now 0 ht gone made,
    )

-- The loopback.
pub answered_more : (main wider loop more : StreamPrefix Plain) (before now : Progress) → IsPrefix wider → IsExtendedBy main wider → IsExtendedBy loop more → LoopbackHasAnswered main loop before → seen before.outcome ≡ loopback_outcome main loop → AnswersMore wider more before now
    → (seen now.outcome ≡ loopback_outcome wider more) × LoopbackHasAnswered wider more now
answered_more main wider loop more before now h e f answered is made =
    let n = length (replies main loop) in
    let gone = get_or before.read.items 0 0 in
    let stands = subst (λ (k : ℕ). StandsBehind (last_of None k wider.packets) (drop k wider.packets)) (sym answered.turns) (loopback-behind n wider h) in
    let answers = subst (λ (k : ℕ). AreAnswers (last_of None k wider.packets) (behind_first k wider) (behind_first gone more) made.packets made.left made.rest) answered.turns (made.answers stands) in
    let goes = loopback-further main wider loop more made.left made.rest made.packets gone h e f answered.past answers in
    let taken : length (replies wider more) ≡ length wider.packets - length made.left.packets = goes.answered in (
      made.outcome
          ∙ ap (λ (o : Outcome). with_answers o made.packets (first_time made.left.packets made.left.bound) (length wider.packets - length made.left.packets)) is
          ∙ ap₂ (λ (s : StreamPrefix Plain) (k : ℕ). (let it : Outcome = record { state = []; outputs = s ∷ []; taken = k; fault = None } in it)) (sym goes.stream) (sym taken),
      record {
        turns = ap (λ (ns : List ℕ). get_or ns 1 0) made.read ∙ sym taken;
        past = subst (λ (k : ℕ). IsPast (last_of None (length (replies wider more)) wider.packets) more k) (sym (ap (λ (ns : List ℕ). get_or ns 0 0) made.read)) goes.past;
      },
    )

-- Counts.
pub within_gone : (policy : Policy) (k : ℕ) (ss : List (StreamPrefix Plain)) (read : List ℕ) → AreGone policy k ss read → AreWithin read ss
within_gone policy k ss read gone = record { ports = gone.ports; each = λ i there. (gone.each i there).within }

pub within_later : (read : List ℕ) (ss tt : List (StreamPrefix Plain)) → AreExtendedBy ss tt → AreWithin read ss → AreWithin read tt
within_later read ss tt e within =
    let many = length_all_zip IsExtendedBy ss tt e in
    record {
      ports = within.ports ∙ many;
      each = λ i there. (let few = within.each i (omega (arith, there, many)) in let longer = port-extended ss tt e i in
          omega (arith, few, ap length longer.packets, length-append (port_of ss i).packets longer.further));
    }
