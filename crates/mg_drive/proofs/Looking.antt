-- What is read of a net that has come to rest is its job's solution.
use Rattle.std.proofs.Common.{◌≡◌, ◌<◌, ◌≤◌, ◌+◌, ◌-◌, ℕ, Bool, if◌then◌else◌, List, length, Option, Some, None, slice_get, option_map, inl, inr, refl, ap, subst, sym, ◌∙◌, arith}
use Rattle.std.proofs.lemmas.Bool.{cases_lt, le-ltb}
use Rattle.std.proofs.lemmas.Option.{none-some, slice_get_past}
use Rattle.std.proofs.lemmas.List.{get_or_past}
use Rattle.mg_value.specs.Payload.{Plain}
use Rattle.mg_value.specs.Packet.{Stamped}
use Rattle.mg_settled.specs.Prefix.{StreamPrefix, empty_prefix}
use Rattle.mg_stream.specs.Pool.{Backlog}
use Rattle.mg_calc.specs.Rules.{Laws}
use Rattle.mg_calc.specs.declared.plan.Plan.{Plan}
use Rattle.mg_calc.specs.declared.plan_stream.PlanStream.{PlanStream}
use Rattle.mg_calc.specs.Equations.{stream_of}
use Rattle.mg_calc.proofs.Jobs.{job_known}
use Rattle.mg_calc.proofs.Solutions.{solution_has_each}
use Rattle.mg_node.specs.Views.{EngineView}
use Rattle.mg_node.specs.Job.{LoggedJob}
use Rattle.mg_node.specs.Looking.{kept_packet}
use Rattle.mg_sched.specs.Views.{NetView}
use Rattle.mg_sched.specs.Places.{place_of}
use Rattle.mg_sched.specs.StandsFor.{StandsFor, StandsForSome}
use Rattle.mg_sched.specs.Writers.{writer_at, output_of}
use Rattle.mg_sched.specs.Looks.{IsOutputOf, IsOutputAmong, HasFrom}
use Rattle.mg_sched.specs.Code.Outputs.{LaidAt}
use Rattle.mg_sched.proofs.Finding.{found}
use Rattle.mg_sched.proofs.NothingGone.{leaves_keep}
use Rattle.mg_sched.proofs.StreamOutputs.{have_outputs}
use Rattle.mg_sched.proofs.RestingLooks.{packet_at_rest, bound_at_rest}
use Rattle.mg_drive.specs.Nets.{HasAtMost}
use Rattle.mg_drive.specs.Code.Live.{AreRested}
use Rattle.mg_drive.proofs.Jobs.{plan_stood}

pub some_stands : {laws : Laws} (net : NetView) (streams : List (StreamPrefix Plain)) → AreRested laws net streams → StandsForSome laws net
some_stands {laws} net streams are = record { job = are.job; stands = are.stands }

-- there are as many streams as the plan has
pub as_many_streams : {laws : Laws} (net : NetView) (streams : List (StreamPrefix Plain)) → AreRested laws net streams → length streams ≡ length net.plan.streams
as_many_streams {laws} net streams are =
    solution_has_each are.job.job (job_known are.job.job are.solves.is_job) streams are.solves.solution ∙ ap (λ (p : Plan). length p.streams) (sym (plan_stood are.job net are.stands))

-- each has its output
written_by : (streams : List PlanStream) (stream : ℕ) (s : PlanStream) → slice_get streams stream ≡ Some s → option_map (λ (x : PlanStream). x.producer) (slice_get streams stream) ≡ Some s.producer
written_by streams stream s at = ap (option_map (λ (x : PlanStream). x.producer)) at

pub has_output : {laws : Laws} (job : LoggedJob laws) (net : NetView) (stream : ℕ) → StandsFor job net → stream < length net.plan.streams → (output : Backlog Plain) × IsOutputOf net stream output
has_output {laws} job net stream stands less =
    let s = found net.plan.streams stream less in
    let written : writer_at net.plan stream ≡ Some s.0.producer = written_by net.plan.streams stream s.0 s.1 in
    let have = have_outputs job net stands in
    let laid : LaidAt net.plan stream (place_of net.plan s.0.producer) (output_of s.0.producer) = record { producer = s.0.producer; written = written; place_is = refl; port_is = refl } in
    let engine = found net.engines (place_of net.plan s.0.producer) (have.place stream (place_of net.plan s.0.producer) (output_of s.0.producer) laid) in
    let output = found engine.0.outputs (output_of s.0.producer) (have.output stream (place_of net.plan s.0.producer) (output_of s.0.producer) engine.0 laid engine.1).within in
    let is : IsOutputOf net stream output.0 = record { producer = s.0.producer; engine = engine.0; written = written; engine_is = engine.1; output_is = output.1 } in
    (output.0, is)

-- only sets were taken since the net came to rest, so its outputs are the same
pub at_rest : {laws : Laws} (net : NetView) (streams : List (StreamPrefix Plain)) (are : AreRested laws net streams) (stream : ℕ) (output : Backlog Plain) → IsOutputOf net stream output → IsOutputOf are.has_rested.rested stream output
at_rest {laws} net streams are stream output is =
    subst (λ (es : List EngineView). IsOutputAmong are.has_rested.rested.plan es stream output) (ap (λ (v : NetView). v.engines) are.has_rested.since)
    (subst (λ (p : Plan). IsOutputAmong p net.engines stream output) (ap (λ (v : NetView). v.plan) are.has_rested.since) is)

pub there_at_rest : {laws : Laws} (net : NetView) (streams : List (StreamPrefix Plain)) (are : AreRested laws net streams) (stream number : ℕ) → HasFrom net stream number → HasFrom are.has_rested.rested stream number
there_at_rest {laws} net streams are stream number has =
    leaves_keep net are.has_rested.rested stream number (sym (ap (λ (v : NetView). v.plan) are.has_rested.since)) (sym (ap (λ (v : NetView). v.engines) are.has_rested.since)) has

pub packet_seen : {laws : Laws} (net : NetView) (streams : List (StreamPrefix Plain)) (stream number : ℕ) (result : Option (Stamped Plain)) → AreRested laws net streams → HasFrom net stream number
    → ((output : Backlog Plain) → IsOutputOf net stream output → result ≡ kept_packet output number) → (length net.plan.streams ≤ stream → result ≡ None) → result ≡ slice_get (stream_of streams stream).packets number
packet_seen {laws} net streams stream number result are has seen past = elim (cases_lt stream (length net.plan.streams)) [
  | inl less ↦
      (let output = has_output are.job net stream are.stands less in
      seen output.0 output.1
      ∙ packet_at_rest are.job are.has_rested.rested streams stream number output.0 are.has_rested.stands are.has_rested.running are.has_rested.rests are.solves (at_rest net streams are stream output.0 output.1)
      (there_at_rest net streams are stream number has))
  | inr more ↦
      (let many = as_many_streams net streams are in
      past more ∙ ap (λ (s : StreamPrefix Plain). slice_get s.packets number) (sym (get_or_past streams stream empty_prefix (omega (arith, many, more)))))
]

pub bound_seen : {laws : Laws} (net : NetView) (streams : List (StreamPrefix Plain)) (stream bound : ℕ) → AreRested laws net streams → stream < length streams → ((output : Backlog Plain) → IsOutputOf net stream output → bound ≡ output.bound)
    → bound ≡ (stream_of streams stream).bound
bound_seen {laws} net streams stream bound are less seen =
    let many = as_many_streams net streams are in
    let output = has_output are.job net stream are.stands (omega (arith, many, less)) in
    seen output.0 output.1
    ∙ bound_at_rest are.job are.has_rested.rested streams stream output.0 are.has_rested.stands are.has_rested.running are.has_rested.rests are.solves (at_rest net streams are stream output.0 output.1)

-- A packet that wasn't given up stands among those that are left. This serves the next lemma: if a stream has at most so many packets, at
-- most so many are laid.
kept_there : (output : Backlog Plain) (k : ℕ) (x : Stamped Plain) → output.gone ≤ k → slice_get output.packets (k - output.gone) ≡ Some x → kept_packet output k ≡ Some x
kept_there output k x le there = ap (λ (b : Bool). if b then None else slice_get output.packets (k - output.gone)) (le-ltb k output.gone le) ∙ there

pub at_most_laid : {laws : Laws} (net : NetView) (streams : List (StreamPrefix Plain)) (stream number : ℕ) → AreRested laws net streams → HasFrom net stream number → length (stream_of streams stream).packets ≤ number → HasAtMost net stream number
at_most_laid {laws} net streams stream number are has few output is =
    let low = has output is in
    elim (cases_lt number (output.gone + length output.packets)) [
      | inl less ↦
          (let k = output.gone + length output.packets - 1 in
          let last = found output.packets (k - output.gone) (omega (arith, low, less)) in
          let seen = packet_at_rest are.job are.has_rested.rested streams stream k output are.has_rested.stands are.has_rested.running are.has_rested.rests are.solves (at_rest net streams are stream output is)
          (there_at_rest net streams are stream k (λ other other_is. let h = has other other_is in omega (arith, h, less))) in
          absurd (none-some last.0 (sym (slice_get_past (stream_of streams stream).packets k (omega (arith, few, less))) ∙ sym seen ∙ kept_there output k last.0 (omega (arith, low, less)) last.1)))
      | inr most ↦ most
    ]
