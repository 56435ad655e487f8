-- What the answers of a delivery say of what the seat knows.
use Rattle.std.proofs.Common.{◌≡◌, ℕ, ◌+◌, ◌-◌, ◌*◌, ◌<◌, ◌≤◌, ◌⊎◌, Bool, ◌∷◌, length, length-drop, take, Some, slice_get, inl, inr, refl, ap, sym, subst, ◌∙◌, arith, if◌then◌else◌}
use Rattle.std.proofs.lemmas.Bool.{eq-eqb, cases_lt}
use Rattle.std.proofs.Math.Nat.{le-max_right}
use Rattle.mg_value.specs.Payload.{Plain}
use Rattle.mg_stream.specs.Queue.{Waiting, count_of, raised_to}
use Rattle.mg_calc.specs.Rules.{Laws}
use Rattle.mg_calc.specs.declared.edge.Edge.{Edge}
use Rattle.mg_node.specs.declared.delivered.Delivered.{Delivered}
use Rattle.mg_node.specs.declared.delivered.Delivered.TheVariants.{Moved, OutOfMemory}
use Rattle.mg_node.specs.declared.pending.Pending.{Pending}
use Rattle.mg_node.specs.Views.{IntakeView, EngineView}
use Rattle.mg_node.specs.Ports.{ports_in, port_queue, with_room}
use Rattle.mg_node.specs.Outputs.{laid_at}
use Rattle.mg_node.specs.Leading.{output_at, Leads}
use Rattle.mg_node.specs.Delivery.{missing, with_packets, delivered, Delivers}
use Rattle.mg_node.specs.IntakeStanding.{HasGrown}
use Rattle.mg_node.proofs.PortSteps.{queue-there}
use Rattle.mg_node.proofs.Leads.{leads_port}
use Rattle.mg_turns.specs.Parts.{LayoutView, an_engine, an_intake, arrived_in, Follows, FitsSome, source_at, EdgesFit}
use Rattle.mg_turns.specs.Sights.{sight, left_two}
use Rattle.mg_turns.specs.Standings.{bound_in, laid_in, laid_bound_in, known_came, known_bound, known_laid, known_laid_bound}
use Rattle.mg_turns.specs.Calls.{HasBrought, TriesAppend}
use Rattle.mg_turns.specs.Code.Counts.{packets_in}
use Rattle.mg_turns.specs.Told.{output_of, HasCome, TellsMoved, AppendTells}
use Rattle.mg_turns.specs.declared.view.View.{View}
use Rattle.mg_turns.specs.declared.tried.Tried.{Tried}
use Rattle.mg_turns.specs.declared.tried.Tried.TheVariants.{Done, Busy}
use Rattle.mg_turns.proofs.Claims.{engine_of_part, intake_of_part}
use Rattle.mg_turns.proofs.Appends.{EdgeParts, leads_of}
use Rattle.mg_turns.proofs.ArrivesWithin.{arrives_count}
use Rattle.mg_turns.proofs.Bringing.{ends_apart}
use Rattle.mg_turns.proofs.Standings.{most_below, last_counts, second_counts, two_below, came_rises, laid_rises, laid_bound_rises}

-- The port and the output.

bound_there : (o q : Waiting Plain) (n : ℕ) → n ≡ length (missing o q) → o.bound ≤ (delivered o q n).bound
bound_there o q n all = subst (λ (b : Bool). o.bound ≤ (if b then raised_to (with_packets q (missing o q)) o.bound else with_packets q (take n (missing o q))).bound) (sym (eq-eqb n (length (missing o q)) all)) (le-max_right (with_packets q (missing o q)).bound o.bound)

port_now : (n : ℕ) (raised : Bool) (o : Waiting Plain) (port : ℕ) (before now : Pending) → port < ports_in before → Delivers (Moved n raised) o port 256 before now
    → port_queue now port ≡ with_room (delivered o (port_queue before port) n) (port_queue now port).spare
port_now n raised o port before now there d = ap (λ (w : Pending). port_queue w port) d.1 ∙ queue-there before port (with_room (delivered o (port_queue before port) n) (port_queue now port).spare) there

enough_by : (n : ℕ) (raised : Bool) (o : Waiting Plain) (port : ℕ) (before now : Pending) → port < ports_in before → o.gone ≤ count_of (port_queue before port) → Delivers (Moved n raised) o port 256 before now
    → (count_of o ≤ count_of (port_queue now port)) ⊎ (count_of (port_queue before port) + 256 ≤ count_of (port_queue now port))
enough_by n raised o port before now there held d =
    let q = port_queue before port in
    let least = d.0 in
    let came = arrives_count (Moved n raised) o port 256 before now there d in
    let long = length-drop (count_of q - o.gone) o.packets in
    elim (cases_lt (length (missing o q)) 256) [
      | inl few ↦ inl (omega (arith, least, came, long, held, few))
      | inr many ↦ inr (omega (arith, least, came, many))
    ]

bound_by : (n : ℕ) (raised : Bool) (o : Waiting Plain) (port : ℕ) (before now : Pending) → port < ports_in before → o.gone ≤ count_of (port_queue before port) → Delivers (Moved n raised) o port 256 before now
    → count_of o ≤ count_of (port_queue now port) → o.bound ≤ (port_queue now port).bound
bound_by n raised o port before now there held d all =
    let q = port_queue before port in
    let least = d.0 in
    let came = arrives_count (Moved n raised) o port 256 before now there d in
    let long = length-drop (count_of q - o.gone) o.packets in
    let whole : n ≡ length (missing o q) = omega (arith, least, came, long, held, all) in
    subst (λ (r : Waiting Plain). o.bound ≤ r.bound) (sym (port_now n raised o port before now there d)) (bound_there o q n whole)

-- What the seat knows.

module _ {laws : Laws} (key : LayoutView) (k : ℕ) (e : Edge) (v : View) (exists : FitsSome laws key) (edges : EdgesFit key) (there : slice_get key.plan.edges k ≡ Some e) (key-is : v.key ≡ key) where
  source : ℕ
  source = source_at key.plan e

  module _ (result : Delivered) (w : View) (h : HasBrought laws result (source_at key.plan e) e v w) where
    parts : EdgeParts laws key k e (an_engine h.engine) (an_intake h.intake) h.engine h.intake
    parts = record {
      edges = edges;
      there = there;
      engine = subst (λ (x : LayoutView). Follows laws x (source_at key.plan e) (an_engine h.engine)) key-is h.engine_found.follows;
      intake = subst (λ (x : LayoutView). Follows laws x (2 * e.node) (an_intake h.intake)) key-is h.intake_found.follows;
      joined = λ x y at-x at-y. subst (λ (g : EngineView). HasGrown (port_queue y.waits e.port) (output_at g e)) (engine_of_part (an_engine h.engine) h.engine x refl at-x)
          (subst (λ (i : IntakeView). HasGrown (port_queue i.waits e.port) (output_at h.engine e)) (intake_of_part (an_intake h.intake) h.intake y refl at-y) h.behind);
      engine_is = refl;
      intake_is = refl;
    }

    lead : Leads laws h.engine e h.intake
    lead = leads_of key k e (an_engine h.engine) (an_intake h.intake) h.engine h.intake parts exists

    same_output : output_at h.engine e ≡ laid_at h.engine (output_of key e)
    same_output = ap (λ (n : ℕ). laid_at h.engine (e.stream - n)) parts.engine.first

    arrived : count_of (port_queue h.intake_now.waits e.port) ≡ count_of (port_queue h.intake.waits e.port) + packets_in result
    arrived = arrives_count result (output_at h.engine e) e.port 256 h.intake.waits h.intake_now.waits (leads_port h.engine e h.intake lead) h.moved

    -- the view that the call left
    abbrev Left : View
    Left = left_two v (source_at key.plan e) (an_engine h.engine) (2 * e.node) (an_intake h.intake_now) v.work

    came_before : known_came v e.node e.port ≤ count_of (port_queue h.intake.waits e.port)
    came_before = most_below (λ p. arrived_in p e.port) (came_rises e.port) (2 * e.node) (an_intake h.intake) v.seen h.intake_found.sights

    came_now : count_of (port_queue h.intake_now.waits e.port) ≤ known_came Left e.node e.port
    came_now = second_counts (λ p. arrived_in p e.port) (2 * e.node) (sight (source_at key.plan e) (an_engine h.engine)) (an_intake h.intake_now) v.seen

    has_come : HasCome (packets_in result) e v Left
    has_come = omega (arith, came_before, came_now, arrived)

    apart : {A : Type 0} → source_at key.plan e ≡ 2 * e.node → A
    apart same = absurd (ends_apart key k e (source_at key.plan e) edges there refl same)

    came_most : known_came Left e.node e.port ≤ count_of (port_queue h.intake_now.waits e.port)
    came_most = two_below (λ p. arrived_in p e.port) (2 * e.node) (sight (source_at key.plan e) (an_engine h.engine)) (sight (2 * e.node) (an_intake h.intake_now)) v.seen (count_of (port_queue h.intake_now.waits e.port))
        (λ same. apart same) (λ _. omega arith) (omega (arith, came_before, arrived))

    laid_now : count_of (output_at h.engine e) ≤ known_laid Left (source_at key.plan e) (output_of key e)
    laid_now = subst (λ (q : Waiting Plain). count_of q ≤ known_laid Left (source_at key.plan e) (output_of key e)) (sym same_output)
        (last_counts (λ p. laid_in p (output_of key e)) (source_at key.plan e) (an_engine h.engine) (sight (2 * e.node) (an_intake h.intake_now) ∷ v.seen))

    laid_most : known_laid Left (source_at key.plan e) (output_of key e) ≤ count_of (output_at h.engine e)
    laid_most = subst (λ (q : Waiting Plain). known_laid Left (source_at key.plan e) (output_of key e) ≤ count_of q) (sym same_output)
        (two_below (λ p. laid_in p (output_of key e)) (source_at key.plan e) (sight (source_at key.plan e) (an_engine h.engine)) (sight (2 * e.node) (an_intake h.intake_now)) v.seen (count_of (laid_at h.engine (output_of key e)))
        (λ _. omega arith) (λ same. apart (sym same)) (most_below (λ p. laid_in p (output_of key e)) (laid_rises (output_of key e)) (source_at key.plan e) (an_engine h.engine) v.seen h.engine_found.sights))

    bound_most : known_laid_bound Left (source_at key.plan e) (output_of key e) ≤ (output_at h.engine e).bound
    bound_most = subst (λ (q : Waiting Plain). known_laid_bound Left (source_at key.plan e) (output_of key e) ≤ q.bound) (sym same_output)
        (two_below (λ p. laid_bound_in p (output_of key e)) (source_at key.plan e) (sight (source_at key.plan e) (an_engine h.engine)) (sight (2 * e.node) (an_intake h.intake_now)) v.seen (laid_at h.engine (output_of key e)).bound
        (λ _. omega arith) (λ same. apart (sym same)) (most_below (λ p. laid_bound_in p (output_of key e)) (laid_bound_rises (output_of key e)) (source_at key.plan e) (an_engine h.engine) v.seen h.engine_found.sights))

    bound_now : (port_queue h.intake_now.waits e.port).bound ≤ known_bound Left e.node e.port
    bound_now = second_counts (λ p. bound_in p e.port) (2 * e.node) (sight (source_at key.plan e) (an_engine h.engine)) (an_intake h.intake_now) v.seen

  moved_tells : (n : ℕ) (raised : Bool) (w : View) → HasBrought laws (Moved n raised) (source_at key.plan e) e v w → TellsMoved n key e v w
  moved_tells n raised w h =
      let r = Moved n raised in
      let port = leads_port h.engine e h.intake (lead r w h) in
      let held = (lead r w h).held in
      let a = came_now r w h in let b = laid_most r w h in let c = came_before r w h in
      subst (λ (x : View). TellsMoved n key e v x) (sym h.left) (record {
        came = has_come r w h;
        enough = elim (enough_by n raised (output_at h.engine e) e.port h.intake.waits h.intake_now.waits port held h.moved) [
          | inl all ↦ inl (omega (arith, a, b, all))
          | inr many ↦ inr (omega (arith, a, c, many))
        ];
        bound = λ all.
            let l = laid_now r w h in let m = came_most r w h in
            let low = bound_by n raised (output_at h.engine e) e.port h.intake.waits h.intake_now.waits port held h.moved (omega (arith, l, m, all)) in
            let x = bound_most r w h in let y = bound_now r w h in
            omega (arith, low, x, y);
      })

  pub append_tells : (result : Tried Delivered) (w : View) → TriesAppend laws result key.plan e v w → AppendTells result key e v w
  append_tells (Done (Moved n raised)) w h = moved_tells n raised w h
  append_tells (Done (OutOfMemory n)) w h = subst (λ (x : View). HasCome n e v x) (sym h.left) (has_come (OutOfMemory n) w h)
  append_tells (Busy word) w h = tt
