-- How the logic stores the parts of a cell.
use Rattle.std.specs.Prelude.{ℕ, ℤ, Bool, List, Option, Result, refl}
use Rattle.std.specs.Coded.{Coded, code_by, coded×, coded_ℕ, coded_ℤ, coded_bool, coded_list, coded_option, coded_result}
use Rattle.mg_value.specs.Payload.{Plain}
use Rattle.mg_value.specs.Packet.{Stamped}
use Rattle.mg_settled.specs.Codes.{set_code}
use Rattle.mg_stream.specs.Pool.{Backlog}
use Rattle.mg_stream.specs.PoolCodes.{backlog_code}
use Rattle.mg_calc.specs.declared.cause.Cause.{Cause}
use Rattle.mg_calc.specs.declared.emission.Laid.{Laid}
use Rattle.mg_calc.specs.declared.node_fault.Phase.{Phase}
use Rattle.mg_calc.specs.declared.node_fault.NodeFault.{NodeFault}
use Rattle.mg_calc.specs.contracts.cause.Cause as cause
use Rattle.mg_calc.specs.contracts.node_fault.Phase as phase
use Rattle.mg_calc.specs.contracts.node_fault.NodeFault as node_fault
use Rattle.mg_route.specs.HolderView.{HolderView}
use Rattle.mg_calc.specs.ToldCodes.{emission_code}
use Rattle.mg_route.specs.HolderCodes.{holder_code}
use Rattle.mg_node.specs.declared.role.Role.{Role}
use Rattle.mg_node.specs.declared.pending.Pending.{Pending}
use Rattle.mg_node.specs.contracts.role.Role as role
use Rattle.mg_node.specs.contracts.pending.Pending as waits
use Rattle.mg_node.specs.Views.{IntakeView, ContextView, WorkView, PerformedView, OutcomeView, EntryView, EngineView}

abbrev pub intake_code : Coded IntakeView
intake_code =
    code_by (ℕ × Pending) (coded× coded_ℕ waits.the_row.coded) (λ i. (i.claimed, i.waits)) (λ p. record { claimed = p.0; waits = p.1 }) (λ _. refl)

abbrev pub context_code : Coded ContextView
context_code =
    code_by (HolderView × List (Option (Stamped Plain))) (coded× holder_code set_code)
    (λ b. (b.told, b.set)) (λ p. record { told = p.0; set = p.1 }) (λ _. refl)

abbrev pub phase_code : Coded Phase
phase_code = phase.the_row.coded

abbrev pub work_code : Coded WorkView
work_code =
    code_by ((ℕ × ℕ) × (Phase × ContextView)) (coded× (coded× coded_ℕ coded_ℕ) (coded× phase_code context_code))
    (λ w. ((w.node, w.number), (w.phase, w.context))) (λ p. record { node = p.0.0; number = p.0.1; phase = p.1.0; context = p.1.1 }) (λ _. refl)

abbrev pub answer_code : Coded (Result (List Laid) Cause)
answer_code = coded_result emission_code cause.the_row.coded

abbrev pub performed_code : Coded PerformedView
performed_code =
    code_by (WorkView × Result (List Laid) Cause) (coded× work_code answer_code) (λ d. (d.work, d.answer)) (λ p. record { work = p.0; answer = p.1 }) (λ _. refl)

abbrev pub outcome_code : Coded OutcomeView
outcome_code =
    code_by (WorkView × Option (Result (List Laid) Cause)) (coded× work_code (coded_option answer_code))
    (λ o. (o.work, o.answer)) (λ p. record { work = p.0; answer = p.1 }) (λ _. refl)

abbrev pub entry_code : Coded EntryView
entry_code =
    code_by (Phase × (Option OutcomeView × Bool)) (coded× phase_code (coded× (coded_option outcome_code) coded_bool))
    (λ e. (e.phase, (e.outcome, e.committed))) (λ p. record { phase = p.0; outcome = p.1.0; committed = p.1.1 }) (λ _. refl)

abbrev pub engine_code : Coded EngineView
engine_code =
    code_by (((Role × (ℕ × ℕ)) × (Option ℤ × (ℕ × ℕ))) × ((List (Backlog Plain) × (ℕ × ℕ)) × ((List EntryView × List ContextView) × (Bool × (Bool × Option NodeFault)))))
    (coded× (coded× (coded× role.the_row.coded (coded× coded_ℕ coded_ℕ)) (coded× (coded_option coded_ℤ) (coded× coded_ℕ coded_ℕ)))
    (coded× (coded× (coded_list backlog_code) (coded× coded_ℕ coded_ℕ))
    (coded× (coded× (coded_list entry_code) (coded_list context_code)) (coded× coded_bool (coded× coded_bool (coded_option node_fault.the_row.coded))))))
    (λ e. (((e.role, (e.node, e.first)), (e.offset, (e.in_flight, e.inputs))), ((e.outputs, (e.laid, e.claimed)), ((e.window, e.idle), (e.begun, (e.closed, e.fault))))))
    (λ p. record {
      role = p.0.0.0;
      node = p.0.0.1.0;
      first = p.0.0.1.1;
      offset = p.0.1.0;
      in_flight = p.0.1.1.0;
      inputs = p.0.1.1.1;
      outputs = p.1.0.0;
      laid = p.1.0.1.0;
      claimed = p.1.0.1.1;
      window = p.1.1.0.0;
      idle = p.1.1.0.1;
      begun = p.1.1.1.0;
      closed = p.1.1.1.1.0;
      fault = p.1.1.1.1.1;
    }) (λ _. refl)
