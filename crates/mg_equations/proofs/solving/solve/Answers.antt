use Rattle.std.proofs.Common.{◌≡◌, ℕ, List, replicate, length, subst, ap, ◌∙◌, arith}
use Rattle.std.specs.List.{range_with_len}
use Rattle.mg_value.specs.Payload.{Plain}
use Rattle.mg_settled.specs.Prefix.{StreamPrefix, empty_prefix}
use Rattle.mg_calc.specs.Rules.{Laws, no_laws}
use Rattle.mg_calc.specs.Equations.{IsSolution}
use Rattle.mg_calc.specs.Meaning.{counts, faults}
use Rattle.mg_equations.specs.declared.solving.Streams.{Streams}
use Rattle.mg_equations.specs.Code.Progress.{HaveCome}
use Rattle.mg_equations.proofs.SolveSteps.{first_way, may_grow, going_is, going_stays, going_changes, going_solution, going_counts, going_faults, going_prefixes, going_many, going_known, going_can, going_less, going_way, ok_for_all}
use Rattle.mg_equations.proofs.solving.solve.Goals as goal

pub rounds-init : goal.rounds-init
rounds-init c = λ laws.
    first_way (record { plan = c.args.plan.now; inputs = c.args.inputs.now; laws = laws }) c.in_ok-streams.streams.items c.in_ok-going.going c.in_ok-first_nodes.field-0.items c.in_ok-due.due.items (record { plan = c.requires.plan; inputs = c.requires.inputs }) (c.in_ok-streams.ensures ∙ ap (λ (n : ℕ). replicate n empty_prefix) c.len.ensures)
    (subst (λ (ss : List (StreamPrefix Plain)). HaveCome (record { plan = c.args.plan.now; inputs = c.args.inputs.now; laws = laws }) ss c.in_ok-first_nodes.field-0.items) c.deref.ensures.value (c.in_ok-first_nodes.ensures laws)) c.in_ok-going.ensures.nodes c.in_ok-going.ensures.begun (c.in_ok-due.ensures ∙ ap (λ (n : ℕ). range_with_len 0 n) c.len-2.ensures)

pub grow_due-requires : goal.grow_due-requires
grow_due-requires c = may_grow (record { plan = c.args.plan.now; inputs = c.args.inputs.now; laws = no_laws }) c.rounds.streams.items c.rounds.going c.rounds.due.items c.deref-in-rounds.result.now c.deref-in-rounds-2.result.now (record { plan = c.requires.plan; inputs = c.requires.inputs }) (c.rounds.invariant no_laws) c.deref-in-rounds.ensures.value c.deref-in-rounds-2.ensures.value

pub returns-then-not-has_change-clause-solution : goal.returns-then-not-has_change-clause-solution
returns-then-not-has_change-clause-solution c =
    ok_for_all (λ (laws : Laws) (s : Streams). IsSolution (record { plan = c.args.plan.now; inputs = c.args.inputs.now; laws = laws }) s.prefixes) c.told.result
    (λ laws. going_solution (record { plan = c.args.plan.now; inputs = c.args.inputs.now; laws = laws }) c.rounds.streams.items c.grow_due.new.streams.items c.in_ok-changed.changed.items c.rounds.going c.told.result (going_is (record { plan = c.args.plan.now; inputs = c.args.inputs.now; laws = laws }) c.rounds.streams.items c.grow_due.new.streams.items c.in_ok-changed.changed.items c.rounds.due.items c.rounds.going c.deref-in-rounds.result.now (record { plan = c.requires.plan; inputs = c.requires.inputs }) c.requires.unstated (c.rounds.invariant laws) c.deref-in-rounds.ensures.value c.in_ok-changed.ensures.streams c.in_ok-changed.ensures.changed)
    (going_stays (record { plan = c.args.plan.now; inputs = c.args.inputs.now; laws = laws }) c.rounds.streams.items c.grow_due.new.streams.items c.in_ok-changed.changed.items c.deref-in-rounds-3.result.now c.rounds.going c.has_change.result (going_is (record { plan = c.args.plan.now; inputs = c.args.inputs.now; laws = laws }) c.rounds.streams.items c.grow_due.new.streams.items c.in_ok-changed.changed.items c.rounds.due.items c.rounds.going c.deref-in-rounds.result.now (record { plan = c.requires.plan; inputs = c.requires.inputs }) c.requires.unstated (c.rounds.invariant laws) c.deref-in-rounds.ensures.value c.in_ok-changed.ensures.streams c.in_ok-changed.ensures.changed) c.deref-in-rounds-3.ensures.value c.has_change.ensures c.if-not-has_change.true) c.told.ensures.prefixes)

pub returns-then-not-has_change-clause-sets : goal.returns-then-not-has_change-clause-sets
returns-then-not-has_change-clause-sets c =
    ok_for_all (λ (laws : Laws) (s : Streams). s.sets ≡ counts (record { plan = c.args.plan.now; inputs = c.args.inputs.now; laws = laws }) s.prefixes) c.told.result
    (λ laws. going_counts (record { plan = c.args.plan.now; inputs = c.args.inputs.now; laws = laws }) c.rounds.streams.items c.grow_due.new.streams.items c.in_ok-changed.changed.items c.rounds.going c.deref-then-not-has_change.result.now c.told.result (going_is (record { plan = c.args.plan.now; inputs = c.args.inputs.now; laws = laws }) c.rounds.streams.items c.grow_due.new.streams.items c.in_ok-changed.changed.items c.rounds.due.items c.rounds.going c.deref-in-rounds.result.now (record { plan = c.requires.plan; inputs = c.requires.inputs }) c.requires.unstated (c.rounds.invariant laws) c.deref-in-rounds.ensures.value c.in_ok-changed.ensures.streams c.in_ok-changed.ensures.changed)
    (going_stays (record { plan = c.args.plan.now; inputs = c.args.inputs.now; laws = laws }) c.rounds.streams.items c.grow_due.new.streams.items c.in_ok-changed.changed.items c.deref-in-rounds-3.result.now c.rounds.going c.has_change.result (going_is (record { plan = c.args.plan.now; inputs = c.args.inputs.now; laws = laws }) c.rounds.streams.items c.grow_due.new.streams.items c.in_ok-changed.changed.items c.rounds.due.items c.rounds.going c.deref-in-rounds.result.now (record { plan = c.requires.plan; inputs = c.requires.inputs }) c.requires.unstated (c.rounds.invariant laws) c.deref-in-rounds.ensures.value c.in_ok-changed.ensures.streams c.in_ok-changed.ensures.changed) c.deref-in-rounds-3.ensures.value c.has_change.ensures c.if-not-has_change.true) c.deref-then-not-has_change.ensures.value c.told.ensures.prefixes c.told.ensures.sets)

pub returns-then-not-has_change-clause-faults : goal.returns-then-not-has_change-clause-faults
returns-then-not-has_change-clause-faults c =
    ok_for_all (λ (laws : Laws) (s : Streams). s.faults ≡ faults (record { plan = c.args.plan.now; inputs = c.args.inputs.now; laws = laws }) s.prefixes) c.told.result
    (λ laws. going_faults (record { plan = c.args.plan.now; inputs = c.args.inputs.now; laws = laws }) c.rounds.streams.items c.grow_due.new.streams.items c.in_ok-changed.changed.items c.rounds.going c.deref-then-not-has_change.result.now c.told.result (going_is (record { plan = c.args.plan.now; inputs = c.args.inputs.now; laws = laws }) c.rounds.streams.items c.grow_due.new.streams.items c.in_ok-changed.changed.items c.rounds.due.items c.rounds.going c.deref-in-rounds.result.now (record { plan = c.requires.plan; inputs = c.requires.inputs }) c.requires.unstated (c.rounds.invariant laws) c.deref-in-rounds.ensures.value c.in_ok-changed.ensures.streams c.in_ok-changed.ensures.changed)
    (going_stays (record { plan = c.args.plan.now; inputs = c.args.inputs.now; laws = laws }) c.rounds.streams.items c.grow_due.new.streams.items c.in_ok-changed.changed.items c.deref-in-rounds-3.result.now c.rounds.going c.has_change.result (going_is (record { plan = c.args.plan.now; inputs = c.args.inputs.now; laws = laws }) c.rounds.streams.items c.grow_due.new.streams.items c.in_ok-changed.changed.items c.rounds.due.items c.rounds.going c.deref-in-rounds.result.now (record { plan = c.requires.plan; inputs = c.requires.inputs }) c.requires.unstated (c.rounds.invariant laws) c.deref-in-rounds.ensures.value c.in_ok-changed.ensures.streams c.in_ok-changed.ensures.changed) c.deref-in-rounds-3.ensures.value c.has_change.ensures c.if-not-has_change.true) c.deref-then-not-has_change.ensures.value c.told.ensures.prefixes c.told.ensures.faults)

pub take-requires-clause-streams : goal.take-requires-clause-streams
take-requires-clause-streams c = going_prefixes (record { plan = c.args.plan.now; inputs = c.args.inputs.now; laws = no_laws }) c.rounds.streams.items c.grow_due.new.streams.items c.deref-in-rounds-4.result.now c.in_ok-changed.changed.items c.rounds.going (going_is (record { plan = c.args.plan.now; inputs = c.args.inputs.now; laws = no_laws }) c.rounds.streams.items c.grow_due.new.streams.items c.in_ok-changed.changed.items c.rounds.due.items c.rounds.going c.deref-in-rounds.result.now (record { plan = c.requires.plan; inputs = c.requires.inputs }) c.requires.unstated (c.rounds.invariant no_laws) c.deref-in-rounds.ensures.value c.in_ok-changed.ensures.streams c.in_ok-changed.ensures.changed) c.deref-in-rounds-4.ensures.value

pub take-requires-clause-many : goal.take-requires-clause-many
take-requires-clause-many c = going_many (record { plan = c.args.plan.now; inputs = c.args.inputs.now; laws = no_laws }) c.rounds.streams.items c.grow_due.new.streams.items c.deref-in-rounds-4.result.now c.in_ok-changed.changed.items c.rounds.going (going_is (record { plan = c.args.plan.now; inputs = c.args.inputs.now; laws = no_laws }) c.rounds.streams.items c.grow_due.new.streams.items c.in_ok-changed.changed.items c.rounds.due.items c.rounds.going c.deref-in-rounds.result.now (record { plan = c.requires.plan; inputs = c.requires.inputs }) c.requires.unstated (c.rounds.invariant no_laws) c.deref-in-rounds.ensures.value c.in_ok-changed.ensures.streams c.in_ok-changed.ensures.changed) c.deref-in-rounds-4.ensures.value

pub take-requires-clause-changed : goal.take-requires-clause-changed
take-requires-clause-changed c = going_known (record { plan = c.args.plan.now; inputs = c.args.inputs.now; laws = no_laws }) c.rounds.streams.items c.grow_due.new.streams.items c.in_ok-changed.changed.items c.deref-in-rounds-6.result.now c.rounds.going (going_is (record { plan = c.args.plan.now; inputs = c.args.inputs.now; laws = no_laws }) c.rounds.streams.items c.grow_due.new.streams.items c.in_ok-changed.changed.items c.rounds.due.items c.rounds.going c.deref-in-rounds.result.now (record { plan = c.requires.plan; inputs = c.requires.inputs }) c.requires.unstated (c.rounds.invariant no_laws) c.deref-in-rounds.ensures.value c.in_ok-changed.ensures.streams c.in_ok-changed.ensures.changed) c.deref-in-rounds-6.ensures.value

pub take-requires-clause-can : goal.take-requires-clause-can
take-requires-clause-can c = going_can (record { plan = c.args.plan.now; inputs = c.args.inputs.now; laws = no_laws }) c.rounds.streams.items c.grow_due.new.streams.items c.deref-in-rounds-4.result.now c.in_ok-changed.changed.items c.rounds.going (going_is (record { plan = c.args.plan.now; inputs = c.args.inputs.now; laws = no_laws }) c.rounds.streams.items c.grow_due.new.streams.items c.in_ok-changed.changed.items c.rounds.due.items c.rounds.going c.deref-in-rounds.result.now (record { plan = c.requires.plan; inputs = c.requires.inputs }) c.requires.unstated (c.rounds.invariant no_laws) c.deref-in-rounds.ensures.value c.in_ok-changed.ensures.streams c.in_ok-changed.ensures.changed) c.deref-in-rounds-4.ensures.value

pub rounds-smaller : goal.rounds-smaller
rounds-smaller c =
    going_less (record { plan = c.args.plan.now; inputs = c.args.inputs.now; laws = no_laws }) c.rounds.streams.items c.grow_due.new.streams.items c.in_ok-changed.changed.items c.rounds.going (going_is (record { plan = c.args.plan.now; inputs = c.args.inputs.now; laws = no_laws }) c.rounds.streams.items c.grow_due.new.streams.items c.in_ok-changed.changed.items c.rounds.due.items c.rounds.going c.deref-in-rounds.result.now (record { plan = c.requires.plan; inputs = c.requires.inputs }) c.requires.unstated (c.rounds.invariant no_laws) c.deref-in-rounds.ensures.value c.in_ok-changed.ensures.streams c.in_ok-changed.ensures.changed)
    (going_changes (record { plan = c.args.plan.now; inputs = c.args.inputs.now; laws = no_laws }) c.rounds.streams.items c.grow_due.new.streams.items c.in_ok-changed.changed.items c.deref-in-rounds-3.result.now c.rounds.going c.has_change.result (going_is (record { plan = c.args.plan.now; inputs = c.args.inputs.now; laws = no_laws }) c.rounds.streams.items c.grow_due.new.streams.items c.in_ok-changed.changed.items c.rounds.due.items c.rounds.going c.deref-in-rounds.result.now (record { plan = c.requires.plan; inputs = c.requires.inputs }) c.requires.unstated (c.rounds.invariant no_laws) c.deref-in-rounds.ensures.value c.in_ok-changed.ensures.streams c.in_ok-changed.ensures.changed) c.deref-in-rounds-3.ensures.value c.has_change.ensures c.if-not-has_change.false)

pub rounds-preserved : goal.rounds-preserved
rounds-preserved c = λ laws.
    going_way (record { plan = c.args.plan.now; inputs = c.args.inputs.now; laws = laws }) c.rounds.streams.items c.grow_due.new.streams.items c.deref-in-rounds-4.result.now c.in_ok-changed.changed.items c.deref-in-rounds-6.result.now _ c.rounds.going c.take.new.self (going_is (record { plan = c.args.plan.now; inputs = c.args.inputs.now; laws = laws }) c.rounds.streams.items c.grow_due.new.streams.items c.in_ok-changed.changed.items c.rounds.due.items c.rounds.going c.deref-in-rounds.result.now (record { plan = c.requires.plan; inputs = c.requires.inputs }) c.requires.unstated (c.rounds.invariant laws) c.deref-in-rounds.ensures.value c.in_ok-changed.ensures.streams c.in_ok-changed.ensures.changed)
    (going_changes (record { plan = c.args.plan.now; inputs = c.args.inputs.now; laws = laws }) c.rounds.streams.items c.grow_due.new.streams.items c.in_ok-changed.changed.items c.deref-in-rounds-3.result.now c.rounds.going c.has_change.result (going_is (record { plan = c.args.plan.now; inputs = c.args.inputs.now; laws = laws }) c.rounds.streams.items c.grow_due.new.streams.items c.in_ok-changed.changed.items c.rounds.due.items c.rounds.going c.deref-in-rounds.result.now (record { plan = c.requires.plan; inputs = c.requires.inputs }) c.requires.unstated (c.rounds.invariant laws) c.deref-in-rounds.ensures.value c.in_ok-changed.ensures.streams c.in_ok-changed.ensures.changed) c.deref-in-rounds-3.ensures.value c.has_change.ensures c.if-not-has_change.false) c.deref-in-rounds-4.ensures.value c.deref-in-rounds-6.ensures.value c.in_ok-due-2.ensures.begun c.in_ok-due-2.ensures.gone_on

pub told-requires : goal.told-requires
told-requires c =
    let many = (c.rounds.invariant no_laws).come.many in
    omega (arith, many, ap length c.deref-then-not-has_change.ensures.value)

pub take-requires-clause-nodes : goal.take-requires-clause-nodes
take-requires-clause-nodes c = (c.rounds.invariant no_laws).come.many

pub take-requires-clause-begun : goal.take-requires-clause-begun
take-requires-clause-begun c = (c.rounds.invariant no_laws).begun
