-- What is read of a stream of a net at rest is the solution's.
use Rattle.std.proofs.Common.{◌≡◌, ℕ, zero, suc, ◌-◌, ◌≤◌, Bool, if◌then◌else◌, List, [], ◌∷◌, drop, get_or, Some, None, slice_get, option_map, ap, refl, subst, ◌∙◌, arith}
use Rattle.std.proofs.lemmas.Bool.{le-ltb}
use Rattle.std.proofs.lemmas.Option.{same_Some, get_or_from_slice_get}
use Rattle.mg_value.specs.Payload.{Plain}
use Rattle.mg_value.specs.Packet.{Stamped}
use Rattle.mg_settled.specs.Prefix.{StreamPrefix}
use Rattle.mg_stream.specs.Queue.{StandsFor as IsQueueOf}
use Rattle.mg_stream.specs.Pool.{Backlog, empty_backlog, queue_of}
use Rattle.mg_calc.specs.Rules.{Laws}
use Rattle.mg_calc.specs.declared.plan_stream.PlanStream.{PlanStream}
use Rattle.mg_calc.specs.declared.plan_stream.Producer.{Producer}
use Rattle.mg_calc.specs.Equations.{stream_of}
use Rattle.mg_node.specs.Job.{LoggedJob, Solves}
use Rattle.mg_node.specs.Looking.{kept_packet}
use Rattle.mg_sched.specs.Views.{NetView}
use Rattle.mg_sched.specs.Places.{place_of}
use Rattle.mg_sched.specs.StandsFor.{StandsFor, IsRunning}
use Rattle.mg_sched.specs.AtRest.{IsAtRest}
use Rattle.mg_sched.specs.Writers.{output_of}
use Rattle.mg_sched.specs.Looks.{IsOutputOf, HasFrom}
use Rattle.mg_sched.proofs.StreamOutputs.{have_outputs}
use Rattle.mg_sched.proofs.RestingNets.{rests_with_streams}

dropped_get : {X : Type 0} (n k : ℕ) (xs : List X) → n ≤ k → slice_get (drop n xs) (k - n) ≡ slice_get xs k
dropped_get zero k xs le = ap (slice_get xs) (let e : k - 0 ≡ k = omega arith in e)
dropped_get (suc n) k [] le = refl
dropped_get (suc n) zero (x ∷ xs) le = absurd (omega (arith, le))
dropped_get (suc n) (suc k) (x ∷ xs) le = ap (slice_get (drop n xs)) (let e : suc k - suc n ≡ k - n = omega arith in e) ∙ dropped_get n k xs (omega (arith, le))

kept_from : (output : Backlog Plain) (s : StreamPrefix Plain) (k : ℕ) → IsQueueOf (queue_of 0 output) s → output.gone ≤ k → kept_packet output k ≡ slice_get s.packets k
kept_from output s k q le =
    ap (λ (b : Bool). if b then None else slice_get output.packets (k - output.gone)) (le-ltb k output.gone le)
    ∙ ap (λ (ps : List (Stamped Plain)). slice_get ps (k - output.gone)) q.waiting ∙ dropped_get output.gone k s.packets le

-- who writes a stream of the plan
plan_stream : (streams : List PlanStream) (stream : ℕ) (producer : Producer) → option_map (λ s. s.producer) (slice_get streams stream) ≡ Some producer → (s : PlanStream) × (slice_get streams stream ≡ Some s) × (s.producer ≡ producer)
plan_stream [] stream producer e = absurd cc
plan_stream (s ∷ streams) zero producer e = (s, refl, same_Some s.producer producer e)
plan_stream (s ∷ streams) (suc stream) producer e = plan_stream streams stream producer e

output_stands : {laws : Laws} (job : LoggedJob laws) (net : NetView) (solution : List (StreamPrefix Plain)) (stream : ℕ) (output : Backlog Plain) → StandsFor job net → IsRunning net → IsAtRest laws net → Solves job solution → IsOutputOf net stream output
    → IsQueueOf (queue_of 0 output) (stream_of solution stream)
output_stands {laws} job net solution stream output h running rests solves is =
    let s = plan_stream net.plan.streams stream is.producer is.written in
    let at : slice_get net.engines (place_of net.plan s.0.producer) ≡ Some is.engine = ap (λ (p : Producer). slice_get net.engines (place_of net.plan p)) s.2 ∙ is.engine_is in
    let q = rests_with_streams job net solution stream s.0 is.engine h running rests solves s.1 at in
    let laid = (have_outputs job net h).output stream (place_of net.plan is.producer) (output_of is.producer) is.engine (record { producer = is.producer; written = is.written; place_is = refl; port_is = refl }) is.engine_is in
    let first = laid.stream_is in
    let port : stream - is.engine.first ≡ output_of is.producer = omega (arith, first) in
    let read : get_or is.engine.outputs (stream - is.engine.first) empty_backlog ≡ output = ap (λ (k : ℕ). get_or is.engine.outputs k empty_backlog) port ∙ get_or_from_slice_get is.engine.outputs (output_of is.producer) output empty_backlog is.output_is in
    subst (λ (b : Backlog Plain). IsQueueOf (queue_of 0 b) (stream_of solution stream)) read q

pub packet_at_rest : {laws : Laws} (job : LoggedJob laws) (net : NetView) (solution : List (StreamPrefix Plain)) (stream number : ℕ) (output : Backlog Plain) → StandsFor job net → IsRunning net → IsAtRest laws net → Solves job solution → IsOutputOf net stream output
    → HasFrom net stream number → kept_packet output number ≡ slice_get (stream_of solution stream).packets number
packet_at_rest {laws} job net solution stream number output h running rests solves is has = kept_from output (stream_of solution stream) number (output_stands job net solution stream output h running rests solves is) (has output is)

pub bound_at_rest : {laws : Laws} (job : LoggedJob laws) (net : NetView) (solution : List (StreamPrefix Plain)) (stream : ℕ) (output : Backlog Plain) → StandsFor job net → IsRunning net → IsAtRest laws net → Solves job solution → IsOutputOf net stream output
    → output.bound ≡ (stream_of solution stream).bound
bound_at_rest {laws} job net solution stream output h running rests solves is = (output_stands job net solution stream output h running rests solves is).bound
