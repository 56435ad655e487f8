-- Steps give up nothing of what is laid, nor does further input. A trim gives up nothing of what is kept.
use Rattle.std.proofs.Common.{◌≡◌, ℕ, zero, suc, ◌+◌, ◌-◌, ◌≤◌, Bool, true, false, if◌then◌else◌, List, [], ◌∷◌, map, length, get_or, set, Option, Some, None, slice_get, inl, inr, ap, sym, refl, ◌∙◌, arith}
use Rattle.std.proofs.lemmas.Bool.{cases_eq}
use Rattle.std.proofs.lemmas.Option.{same_Some, none-some, slice_get_within, get_or_from_slice_get}
use Rattle.mg_value.specs.Payload.{Plain}
use Rattle.mg_settled.specs.Prefix.{StreamPrefix}
use Rattle.mg_stream.specs.Pool.{Backlog, empty_backlog}
use Rattle.mg_calc.specs.Rules.{Laws}
use Rattle.mg_calc.specs.declared.event.Event.{Event}
use Rattle.mg_calc.specs.declared.event.Event.TheVariants.{Deliver, Advance, Claim, Perform, Commit, Relax}
use Rattle.mg_calc.specs.declared.event.Effect.{Effect}
use Rattle.mg_calc.specs.declared.event.Effect.TheVariants.{Did, Idle, OutOfMemory}
use Rattle.mg_calc.specs.declared.inputs.Inputs.{Inputs}
use Rattle.mg_calc.specs.declared.plan.Plan.{Plan}
use Rattle.mg_node.specs.declared.claimed.Claimed.TheVariants.{Work, Answered, NotReady, InFlightFull, Draining, Ended, OutOfMemory as NoMemory}
use Rattle.mg_node.specs.Views.{IntakeView, PerformedView, EngineView}
use Rattle.mg_node.specs.Advances.{advanced}
use Rattle.mg_node.specs.Shelves.{outcome_of, shelved, shelf_at}
use Rattle.mg_node.proofs.Lemmas.{get_other, put_there, advance_set_up, claim_set_up, commits_set_up, unshelving_set_up}
use Rattle.mg_sched.specs.Views.{WorkQueueView, NetView}
use Rattle.mg_sched.specs.Places.{place_of}
use Rattle.mg_sched.specs.Acts.{Rests, ClaimsBy, ClaimsNext, Performs, CommittedAt, Acts}
use Rattle.mg_sched.specs.Sweeps.{Becomes, itself, step}
use Rattle.mg_sched.specs.Writers.{writer_at, output_of}
use Rattle.mg_sched.specs.Looks.{IsOutputOf, HasFrom}
use Rattle.mg_node.specs.Extending.{lengthened}
use Rattle.mg_node.specs.Job.{LoggedJob}
use Rattle.mg_node.specs.Outputs.{without_first}
use Rattle.mg_sched.specs.StandsFor.{StandsFor, StandsForSome}
use Rattle.mg_sched.specs.Begins.{BeginsNet}
use Rattle.mg_sched.specs.Extends.{GoesOnWith, MayGoOnWith, Extends}
use Rattle.mg_sched.specs.Trims.{is_kept, goes_of, got_by_all, Trims}
use Rattle.mg_sched.proofs.Finding.{found}
use Rattle.mg_sched.proofs.WoundNets.{order_of}
use Rattle.mg_sched.proofs.ExtendedNets.{extended_at}
use Rattle.mg_sched.proofs.StreamOutputs.{have_outputs}

-- how many packets each output has given up
abbrev pub gones : EngineView → List ℕ
gones engine = map (λ (b : Backlog Plain). b.gone) engine.outputs

-- The engine at a place had given up as much before.
pub record HadGone (engines : List EngineView) (place : ℕ) (now : EngineView) : Type 0 where
  pub old : EngineView
  pub at : slice_get engines place ≡ Some old
  pub gone : gones now ≡ gones old

pub record SameGone (before now : NetView) : Type 0 where
  pub plan : now.plan ≡ before.plan
  pub engines : (place : ℕ) (engine : EngineView) → slice_get now.engines place ≡ Some engine → HadGone before.engines place engine

same_gone : (before now : NetView) → now.plan ≡ before.plan → now.engines ≡ before.engines → SameGone before now
same_gone before now plan engines = record {
  plan = plan;
  engines = λ place engine at. record { old = engine; at = ap (λ (es : List EngineView). slice_get es place) (sym engines) ∙ at; gone = refl };
}

another_gone : (before now : NetView) (node : ℕ) (engine engine_now : EngineView) → now.plan ≡ before.plan → slice_get before.engines node ≡ Some engine → now.engines ≡ set before.engines node engine_now → gones engine_now ≡ gones engine
    → SameGone before now
another_gone before now node engine engine_now plan there is gone = record {
  plan = plan;
  engines = λ place e at. elim (cases_eq place node) [
    | inl here ↦
        (let own : e ≡ engine_now = put_there before.engines node engine_now e (ap (λ (k : ℕ). slice_get (set before.engines node engine_now) k) (sym here) ∙ ap (λ (es : List EngineView). slice_get es place) (sym is) ∙ at) in
        record { old = engine; at = ap (slice_get before.engines) here ∙ there; gone = ap gones own ∙ gone })
    | inr other ↦
        record { old = e; at = sym (get_other before.engines node place engine_now other) ∙ ap (λ (es : List EngineView). slice_get es place) (sym is) ∙ at; gone = refl }
  ];
}

pub gone_on : (a b c : NetView) → SameGone a b → SameGone b c → SameGone a c
gone_on a b c one two = record {
  plan = two.plan ∙ one.plan;
  engines = λ place engine at.
      let second = two.engines place engine at in
      let first = one.engines place second.old second.at in
      record { old = first.old; at = first.at; gone = second.gone ∙ first.gone };
}

-- Steps.

rest_gone : (effect : Effect) (before now : NetView) → Rests effect before now → SameGone before now
rest_gone effect before now r = same_gone before now (ap (λ (v : NetView). v.plan) r.same) (ap (λ (v : NetView). v.engines) r.same)

claims_gone : (effect : Effect) (engine engine_now : EngineView) (intake intake_now : IntakeView) (work_queue work_queue_now : WorkQueueView) → ClaimsBy effect engine engine_now intake intake_now work_queue work_queue_now → gones engine_now ≡ gones engine
claims_gone Did engine engine_now intake intake_now work_queue work_queue_now (inl t) = (claim_set_up {X = ℕ} (Work t.work) engine engine_now intake intake_now t.claims).given_up
claims_gone Did engine engine_now intake intake_now work_queue work_queue_now (inr a) = (claim_set_up {X = ℕ} Answered engine engine_now intake intake_now a.0).given_up
claims_gone Idle engine engine_now intake intake_now work_queue work_queue_now c = elim c.0 [
  | inl early ↦ (claim_set_up {X = ℕ} NotReady engine engine_now intake intake_now early).given_up
  | inr (inl full) ↦ (claim_set_up {X = ℕ} InFlightFull engine engine_now intake intake_now full).given_up
  | inr (inr (inl draining)) ↦ (claim_set_up {X = ℕ} Draining engine engine_now intake intake_now draining).given_up
  | inr (inr (inr ended)) ↦ (claim_set_up {X = ℕ} Ended engine engine_now intake intake_now ended).given_up
]
claims_gone OutOfMemory engine engine_now intake intake_now work_queue work_queue_now c = (claim_set_up {X = ℕ} NoMemory engine engine_now intake intake_now c.0).given_up

next_gone : (node : ℕ) (effect : Effect) (before now : NetView) → ClaimsNext node effect before now → SameGone before now
next_gone node effect before now c =
    another_gone before now node c.engine c.engine_now (ap (λ (v : NetView). v.plan) c.now_is) c.at (ap (λ (v : NetView). v.engines) c.now_is)
    (claims_gone effect c.engine c.engine_now c.intake c.intake_now c.work_queue c.work_queue_now c.claims)

performs_gone : {laws : Laws} (node number : ℕ) (effect : Effect) (work_queue : WorkQueueView) (before now : NetView) → Performs laws node number effect work_queue before now → SameGone before now
performs_gone {laws} node number Did work_queue before now p =
    let is = p.performed.2 in
    another_gone before now node p.engine (shelved p.engine (outcome_of p.performed.0)) (ap (λ (v : NetView). v.plan) is) p.at (ap (λ (v : NetView). v.engines) is) refl
performs_gone {laws} node number Idle work_queue before now p = absurd p.performed
performs_gone {laws} node number OutOfMemory work_queue before now p = same_gone before now (ap (λ (v : NetView). v.plan) p.performed) (ap (λ (v : NetView). v.engines) p.performed)

commits_gone : (node number : ℕ) (shelf : Option PerformedView) (effect : Effect) (engine : EngineView) (before now : NetView) → slice_get before.engines node ≡ Some engine → CommittedAt node number shelf effect engine before now
    → SameGone before now
commits_gone node number None effect engine before now at r = rest_gone effect before now r
commits_gone node number (Some p) Did engine before now at c =
    let one = unshelving_set_up (Some p) engine c.taken number c.takes in
    let two = commits_set_up (outcome_of p) c.laid c.taken c.engine_now c.commits in
    another_gone before now node engine c.engine_now (ap (λ (v : NetView). v.plan) c.now_is) at (ap (λ (v : NetView). v.engines) c.now_is) (two.given_up ∙ one.given_up)
commits_gone node number (Some p) Idle engine before now at c = absurd c
commits_gone node number (Some p) OutOfMemory engine before now at c = same_gone before now (ap (λ (v : NetView). v.plan) c) (ap (λ (v : NetView). v.engines) c)

acts_gone : (laws : Laws) (event : Event) (effect : Effect) (before now : NetView) → Acts laws event effect before now → SameGone before now
acts_gone laws (Deliver edge) effect before now a = elim a.delivered [
  | inl held ↦ rest_gone effect before now held.1
  | inr brings ↦ (let b = brings.1 in same_gone before now (ap (λ (v : NetView). v.plan) b.now_is) (ap (λ (v : NetView). v.engines) b.now_is))
]
acts_gone laws (Advance node) effect before now a =
    another_gone before now node a.engine (advanced a.engine a.intake.waits) (ap (λ (v : NetView). v.plan) a.now_is) a.at (ap (λ (v : NetView). v.engines) a.now_is) (advance_set_up a.engine (advanced a.engine a.intake.waits) a.intake.waits refl).given_up
acts_gone laws (Claim node) effect before now a = elim a [
  | inl held ↦ rest_gone effect before now held.1
  | inr claims ↦ next_gone node effect before now claims.1
]
acts_gone laws (Perform node number) effect before now a = elim a.performed [
  | inl none ↦ rest_gone effect before now none.1
  | inr performs ↦ performs_gone node number effect a.work_queue before now performs
]
acts_gone laws (Commit node number) effect before now a = commits_gone node number (shelf_at a.engine number) effect a.engine before now a.at a.committed
acts_gone laws Relax effect before now a = elim a [
  | inl none ↦ rest_gone effect before now none.1
  | inr full ↦ same_gone before now (ap (λ (v : NetView). v.plan) full.2) (ap (λ (v : NetView). v.engines) full.2)
]

becomes_gone : {laws : Laws} (before now : NetView) → Becomes laws before now → SameGone before now
becomes_gone {laws} before now itself = same_gone before now refl refl
becomes_gone {laws} before now (step event effect between after h of acts) = gone_on before between after (becomes_gone before between h) (acts_gone laws event effect between after acts)

-- So what is there from a number on stays there.

gone_at : (xs ys : List (Backlog Plain)) (port : ℕ) (a : Backlog Plain) → map (λ (b : Backlog Plain). b.gone) xs ≡ map (λ (b : Backlog Plain). b.gone) ys → slice_get xs port ≡ Some a
    → (b : Backlog Plain) × (slice_get ys port ≡ Some b) × (a.gone ≡ b.gone)
gone_at [] ys port a same at = absurd (none-some a at)
gone_at (x ∷ xs) [] port a same at = absurd cc
gone_at (x ∷ xs) (y ∷ ys) zero a same at =
    let own : x ≡ a = same_Some x a at in
    let here : x.gone ≡ y.gone = ap (λ (l : List ℕ). (elim l [ [] ↦ 0 | n ∷ ns ↦ n ])) same in
    (y, refl, ap (λ (b : Backlog Plain). b.gone) (sym own) ∙ here)
gone_at (x ∷ xs) (y ∷ ys) (suc port) a same at = gone_at xs ys port a (ap (λ (l : List ℕ). (elim l [ [] ↦ [] | n ∷ ns ↦ ns ])) same) at

pub has_from : (before now : NetView) (stream number : ℕ) → SameGone before now → HasFrom before stream number → HasFrom now stream number
has_from before now stream number g has output is =
    let plan = g.plan in
    let there : slice_get now.engines (place_of before.plan is.producer) ≡ Some is.engine = ap (λ (p : Plan). slice_get now.engines (place_of p is.producer)) (sym plan) ∙ is.engine_is in
    let old = g.engines (place_of before.plan is.producer) is.engine there in
    let at = gone_at is.engine.outputs old.old.outputs (output_of is.producer) output old.gone is.output_is in
    let was : IsOutputOf before stream at.0 = record {
      producer = is.producer;
      engine = old.old;
      written = ap (λ (p : Plan). writer_at p stream) (sym plan) ∙ is.written;
      engine_is = old.at;
      output_is = at.1;
    } in
    let few = has at.0 was in
    let same = at.2 in
    omega (arith, few, same)

pub steps_keep : {laws : Laws} (before now : NetView) (stream number : ℕ) → Becomes laws before now → HasFrom before stream number → HasFrom now stream number
steps_keep {laws} before now stream number h = has_from before now stream number (becomes_gone before now h)

-- Further input.

lengthened_gone : (outputs : List (Backlog Plain)) (piece : StreamPrefix Plain) → map (λ (b : Backlog Plain). b.gone) (map (λ output. lengthened output piece) outputs) ≡ map (λ (b : Backlog Plain). b.gone) outputs
lengthened_gone [] piece = refl
lengthened_gone (b ∷ outputs) piece = ap (λ (l : List ℕ). b.gone ∷ l) (lengthened_gone outputs piece)

extends_at : {laws : Laws} (more : Inputs) (first later : LoggedJob laws) (before now : NetView) (place : ℕ) (engine : EngineView) → GoesOnWith more first later → Extends more before now → StandsFor first before → slice_get now.engines place ≡ Some engine
    → HadGone before.engines place engine
extends_at {laws} more first later before now place engine g x h at = elim (order_of place (length before.plan.nodes)) [
  | inl less ↦ record { old = engine; at = sym (x.nodes place less) ∙ at; gone = refl }
  | inr past ↦
      (let same : place ≡ length before.plan.nodes + (place - length before.plan.nodes) = omega (arith, past) in
      let it = extended_at more first later before now (place - length before.plan.nodes) engine g x h (ap (λ (k : ℕ). slice_get now.engines k) (sym same) ∙ at) in
      record {
        old = it.old;
        at = ap (λ (k : ℕ). slice_get before.engines k) same ∙ it.old_at;
        gone = ap gones it.is ∙ lengthened_gone it.old.outputs it.piece;
      })
]

pub extends_keep : {laws : Laws} (more : Inputs) (before now : NetView) (stream number : ℕ) → MayGoOnWith laws more before → Extends more before now → HasFrom before stream number → HasFrom now stream number
extends_keep {laws} more before now stream number may x =
    has_from before now stream number (record {
      plan = ap (λ (v : NetView). v.plan) x.parts;
      engines = λ place engine at. extends_at more may.first may.later before now place engine may.goes_on x may.stands at;
    })

-- A trim, of a stream that is kept.

none_goes : (b : Bool) (n : ℕ) (o : Backlog Plain) → b ≡ true → (without_first (if b then 0 else n) o).gone ≤ o.gone
none_goes true n o is = omega arith
none_goes false n o is = absurd cc

pub trims_keep : {laws : Laws} (before now : NetView) (stream number : ℕ) → StandsForSome laws before → Trims before now → is_kept before stream ≡ true → HasFrom before stream number → HasFrom now stream number
trims_keep {laws} before now stream number h t kept has output is =
    let plan = ap (λ (v : NetView). v.plan) t.parts in
    let place = place_of before.plan is.producer in
    let there : slice_get now.engines place ≡ Some is.engine = ap (λ (p : Plan). slice_get now.engines (place_of p is.producer)) (sym plan) ∙ is.engine_is in
    let places = t.places in
    let old = found before.engines place (let within = slice_get_within now.engines place is.engine there in omega (arith, within, places)) in
    let one = t.engines place old.0 is.engine old.1 there in
    let port = output_of is.producer in
    let count = one.count in
    let was = found old.0.outputs port (let within = slice_get_within is.engine.outputs port output is.output_is in omega (arith, within, count)) in
    let written : writer_at before.plan stream ≡ Some is.producer = ap (λ (p : Plan). writer_at p stream) (sym plan) ∙ is.written in
    let laid = (have_outputs h.job before h.stands).output stream place port old.0 (record { producer = is.producer; written = written; place_is = refl; port_is = refl }) old.1 in
    let goes : output ≡ without_first (goes_of before (old.0.first + port) was.0) was.0 = one.outputs port was.0 output was.1 is.output_is in
    let own : is_kept before (old.0.first + port) ≡ true = ap (is_kept before) laid.stream_is ∙ kept in
    let low = none_goes (is_kept before (old.0.first + port)) (got_by_all before (old.0.first + port) was.0) was.0 own in
    let few = has was.0 (record { producer = is.producer; engine = old.0; written = written; engine_is = old.1; output_is = was.1 }) in
    let same = ap (λ (b : Backlog Plain). b.gone) goes in
    omega (arith, low, few, same)

-- If the nodes are left as they were.
pub leaves_keep : (before now : NetView) (stream number : ℕ) → now.plan ≡ before.plan → now.engines ≡ before.engines → HasFrom before stream number → HasFrom now stream number
leaves_keep before now stream number plan engines = has_from before now stream number (same_gone before now plan engines)

-- Begins.

gone_found : (outputs : List (Backlog Plain)) (port : ℕ) (output : Backlog Plain) → slice_get outputs port ≡ Some output → (get_or outputs port empty_backlog).gone ≡ output.gone
gone_found outputs port output at = ap (λ (b : Backlog Plain). b.gone) (get_or_from_slice_get outputs port output empty_backlog at)

gone_or_none : (outputs : List (Backlog Plain)) (port number : ℕ) → ((output : Backlog Plain) → slice_get outputs port ≡ Some output → output.gone ≤ number) → (get_or outputs port empty_backlog).gone ≤ number
gone_or_none [] port number each = omega arith
gone_or_none (b ∷ outputs) zero number each = each b refl
gone_or_none (b ∷ outputs) (suc port) number each = gone_or_none outputs port number each

pub begins_keep : {laws : Laws} (before now : NetView) (stream number : ℕ) → BeginsNet laws before now → HasFrom before stream number → HasFrom now stream number
begins_keep {laws} before now stream number b has output is =
    let plan : now.plan ≡ before.plan = ap (λ (v : NetView). v.plan) b.parts in
    let place = place_of before.plan is.producer in
    let there : slice_get now.engines place ≡ Some is.engine = ap (λ (p : Plan). slice_get now.engines (place_of p is.producer)) (sym plan) ∙ is.engine_is in
    let places = b.places in
    let old = found before.engines place (let within = slice_get_within now.engines place is.engine there in omega (arith, within, places)) in
    let port = output_of is.producer in
    let written : writer_at before.plan stream ≡ Some is.producer = ap (λ (p : Plan). writer_at p stream) (sym plan) ∙ is.written in
    let less = b.gone place old.0 is.engine old.1 there port in
    let own = gone_found is.engine.outputs port output is.output_is in
    let few = gone_or_none old.0.outputs port number (λ was at. has was (record { producer = is.producer; engine = old.0; written = written; engine_is = old.1; output_is = at })) in
    omega (arith, less, own, few)
