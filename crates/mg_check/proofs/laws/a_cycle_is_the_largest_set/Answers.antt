use Rattle.std.proofs.Common.{◌≡◌, ℕ, List, [], ◌∷◌, All, Contains, Some, None, length, refl, sym, ap, subst, arith}
use Rattle.std.proofs.lemmas.Option.{none-some, same_Some}
use Rattle.mg_config.specs.Config.{GraphView}
use Rattle.mg_check.specs.Cycle.{IsLargestCycle, largest_cycle}
use Rattle.mg_check.specs.Drafts.{DraftView}
use Rattle.mg_check.specs.Joining.{links, cycle_of}
use Rattle.mg_check.specs.declared.fault.CheckFault.{CheckFault}
use Rattle.mg_check.specs.declared.fault.CheckFault.TheVariants.{Cycle}
use Rattle.mg_check.proofs.LargestCycle.{one_cycle}
use Rattle.mg_check.proofs.CycleRounds.{rounds_leave_the_largest}
use Rattle.mg_check.proofs.ValidOrder.{links_between}
use Rattle.mg_check.proofs.laws.a_cycle_is_the_largest_set.Goals as goal

is_largest : (graph : GraphView) (ds : List DraftView) → IsLargestCycle (links graph ds) (largest_cycle (length ds) (links graph ds))
is_largest graph ds = rounds_leave_the_largest (length ds) (links graph ds) (links_between graph ds)

abbrev nodes_of : CheckFault → List ℕ
nodes_of (Cycle ns) = ns
nodes_of fault = []

the_nodes : (ns ms : List ℕ) → cycle_of ns ≡ Some (Cycle ms) → ns ≡ ms
the_nodes [] ms is = absurd (none-some (Cycle ms) is)
the_nodes (n ∷ ns) ms is = ap nodes_of (same_Some (Cycle (n ∷ ns)) (Cycle ms) is)

no_nodes : (ns : List ℕ) → cycle_of ns ≡ None → ns ≡ []
no_nodes [] is = refl
no_nodes (n ∷ ns) is = absurd (none-some (Cycle (n ∷ ns)) (sym is))

nothing_in : (ns ms : List ℕ) → ns ≡ [] → All (Contains ns) ms → ms ≡ []
nothing_in ns [] none all = refl
nothing_in ns (m ∷ ms) none all = absurd (let there = all 0 m (omega arith) in let b = there.1 in let e = ap length none in omega (arith, b, e))

pub returns-clause-named : goal.returns-clause-named
returns-clause-named c = λ graph ds ns is. subst (IsLargestCycle (links graph ds)) (the_nodes (largest_cycle (length ds) (links graph ds)) ns is) (is_largest graph ds)

pub returns-clause-none : goal.returns-clause-none
returns-clause-none c = λ graph ds none ns feeds.
    nothing_in (largest_cycle (length ds) (links graph ds)) ns (no_nodes (largest_cycle (length ds) (links graph ds)) none) ((is_largest graph ds).largest ns feeds)

pub returns-clause-only : goal.returns-clause-only
returns-clause-only c = λ graph ds ns is. ap cycle_of (one_cycle (links graph ds) (largest_cycle (length ds) (links graph ds)) ns (is_largest graph ds) is)
