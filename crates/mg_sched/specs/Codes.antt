-- How the logic stores a work queue, an agenda, a net, and what stays of one.
use Rattle.std.specs.Prelude.{ℕ, Bool, List, Option, refl}
use Rattle.std.specs.Coded.{Coded, code_by, coded×, coded_ℕ, coded_bool, coded_list, coded_option}
use Rattle.mg_value.specs.Payload.{Plain}
use Rattle.mg_value.specs.Codes.{plain_code}
use Rattle.mg_calc.specs.declared.plan.Plan.{Plan}
use Rattle.mg_calc.specs.Told.{BoxTold}
use Rattle.mg_calc.specs.ToldCodes.{told_code, plan_code}
use Rattle.mg_node.specs.Views.{IntakeView, WorkView, EngineView}
use Rattle.mg_node.specs.Codes.{work_code, intake_code, engine_code}
use Rattle.mg_ready.specs.Ready.{ReadyNodes}
use Rattle.mg_throttle.specs.declared.queue.Queue.{Queue}
use Rattle.mg_throttle.specs.contracts.queue.Queue as queue
use Rattle.mg_throttle.specs.Throttle.{QueueLimits}
use Rattle.mg_sched.specs.Views.{WorkQueueView, NetView}
use Rattle.mg_sched.specs.ComesApart.{RestView}
use Rattle.mg_sched.specs.Code.Agendas.{AgendaView}

abbrev pub work_queue_code : Coded WorkQueueView
work_queue_code = code_by (ℕ × List WorkView) (coded× coded_ℕ (coded_list work_code)) (λ d. (d.room, d.works)) (λ p. record { room = p.0; works = p.1 }) (λ _. refl)

abbrev pub ready_code : Coded ReadyNodes
ready_code = code_by (List ℕ × List Bool) (coded× (coded_list coded_ℕ) (coded_list coded_bool)) (λ r. (r.order, r.is_in)) (λ p. record { order = p.0; is_in = p.1 }) (λ _. refl)

abbrev pub agenda_code : Coded AgendaView
agenda_code =
    code_by ((ReadyNodes × (ReadyNodes × ReadyNodes)) × (List (Option ℕ) × (List (Option ℕ) × List (Option ℕ))))
    (coded× (coded× ready_code (coded× ready_code ready_code)) (coded× (coded_list (coded_option coded_ℕ)) (coded× (coded_list (coded_option coded_ℕ)) (coded_list (coded_option coded_ℕ)))))
    (λ a. ((a.ready, (a.held, a.touched)), (a.heads, (a.starts, a.links)))) (λ p. record { ready = p.0.0; held = p.0.1.0; touched = p.0.1.1; heads = p.1.0; starts = p.1.1.0; links = p.1.1.1 }) (λ _. refl)

abbrev pub limits_code : Coded QueueLimits
limits_code =
    code_by (List Queue × (List (List Bool) × ℕ)) (coded× (coded_list queue.the_row.coded) (coded× (coded_list (coded_list coded_bool)) coded_ℕ))
    (λ t. (t.queues, (t.reached, t.feeders))) (λ p. record { queues = p.0; reached = p.1.0; feeders = p.1.1 }) (λ _. refl)

abbrev pub rest_code : Coded RestView
rest_code =
    code_by (List (Option Plain) × (List WorkQueueView × (QueueLimits × (List (Option BoxTold) × List Bool))))
    (coded× (coded_list (coded_option plain_code)) (coded× (coded_list work_queue_code) (coded× limits_code (coded× (coded_list (coded_option told_code)) (coded_list coded_bool)))))
    (λ r. (r.given, (r.work_queues, (r.limits, (r.spare, r.kept))))) (λ p. record { given = p.0; work_queues = p.1.0; limits = p.1.1.0; spare = p.1.1.1.0; kept = p.1.1.1.1 }) (λ _. refl)

abbrev pub net_code : Coded NetView
net_code =
    code_by ((Plan × List (Option Plain)) × ((List EngineView × (List IntakeView × List WorkQueueView)) × (QueueLimits × ((List (Option BoxTold) × List Bool) × (ℕ × ℕ)))))
    (coded× (coded× plan_code (coded_list (coded_option plain_code)))
    (coded× (coded× (coded_list engine_code) (coded× (coded_list intake_code) (coded_list work_queue_code)))
    (coded× limits_code (coded× (coded× (coded_list (coded_option told_code)) (coded_list coded_bool)) (coded× coded_ℕ coded_ℕ)))))
    (λ n. ((n.plan, n.given), ((n.engines, (n.intakes, n.work_queues)), (n.limits, ((n.spare, n.kept), (n.begun, n.wound))))))
    (λ p. record { plan = p.0.0; given = p.0.1; engines = p.1.0.0; intakes = p.1.0.1.0; work_queues = p.1.0.1.1; limits = p.1.1.0; spare = p.1.1.1.0.0; kept = p.1.1.1.0.1; begun = p.1.1.1.1.0; wound = p.1.1.1.1.1 })
    (λ _. refl)
