-- Of a claim, the standing of the engine and of the intake only grows.
use Rattle.std.proofs.Common.{◌≡◌, ℕ, zero, suc, ◌≤◌, List, [], ◌∷◌, length-append, get_or, map, Option, Some, None, inl, inr, refl, ap, sym, subst, arith}
use Rattle.mg_time.specs.Time.{next as next_time}
use Rattle.mg_value.specs.Payload.{Plain}
use Rattle.mg_value.specs.Packet.{Stamped}
use Rattle.mg_settled.specs.Prefix.{StreamPrefix}
use Rattle.mg_settled.specs.Loopback.{packet_of}
use Rattle.mg_settled.proofs.Lemmas.{appended_extends}
use Rattle.mg_stream.specs.Queue.{MayCome}
use Rattle.mg_stream.specs.Pool.{Backlog, queue_of, backlog_of, empty_backlog}
use Rattle.mg_calc.specs.Rules.{Laws}
use Rattle.mg_calc.specs.declared.node_fault.Phase.{Phase}
use Rattle.mg_node.specs.declared.claimed.Claimed.{Claimed}
use Rattle.mg_node.specs.declared.claimed.Claimed.TheVariants.{Work, Answered, NotReady, InFlightFull, Draining, Ended, OutOfMemory}
use Rattle.mg_node.specs.declared.pending.Pending.{Pending}
use Rattle.mg_node.specs.declared.pending.Pending.TheVariants.{Loop}
use Rattle.mg_node.specs.Views.{IntakeView, ContextView, EngineView}
use Rattle.mg_node.specs.Lawful.{AreCell}
use Rattle.mg_node.specs.Ports.{port_queue}
use Rattle.mg_node.specs.Claims.{with_reply, with_answer, AreSame, MayClaim, Hands, TakesAnswer, Claims}
use Rattle.mg_node.specs.IntakeStanding.{HasGrown, IntakeGrows}
use Rattle.mg_node.specs.Standing.{EngineGrows}
use Rattle.mg_node.proofs.Looping.{cell_lays}
use Rattle.mg_node.proofs.Growing.{OutputsGrow, grown_by_itself, engine_same, window_grows}
use Rattle.mg_node.proofs.IntakesGrow.{intake_same, reply_grows}

-- both grow
pub record CellGrows (engine engine_now : EngineView) (intake intake_now : IntakeView) : Type 0 where
  pub engine_grows : EngineGrows engine engine_now
  pub intake_grows : IntakeGrows intake intake_now

both_same : (engine engine_now : EngineView) (intake intake_now : IntakeView) → AreSame engine intake engine_now intake_now → CellGrows engine engine_now intake intake_now
both_same engine engine_now intake intake_now s = record { engine_grows = engine_same engine engine_now s.same_engine; intake_grows = intake_same intake intake_now s.same_intake }

hands_grow : (engine engine_now : EngineView) (phase : Phase) (more : ℕ) (context : ContextView) → Hands engine engine_now phase more context → EngineGrows engine engine_now
hands_grow engine engine_now phase more context h =
    subst (λ (v : EngineView). EngineGrows engine v) (sym h.now) (record { laid = omega arith; claimed = omega arith; ended = (λ e. e); outputs = (λ output. grown_by_itself _) })

-- an answer that is laid; the packet may come there
behind_grown : (answer : Option (Stamped Plain)) (b : Backlog Plain) → ((p : Stamped Plain) → answer ≡ Some p → MayCome (queue_of 0 b) p.at) → HasGrown (queue_of 0 b) (queue_of 0 (with_reply answer b))
behind_grown None b may = grown_by_itself (queue_of 0 b)
behind_grown (Some p) b may =
    let comes = may p refl in
    let s : StreamPrefix Plain = record { packets = []; bound = b.bound } in
    let up : b.bound ≤ next_time p.at = (appended_extends s p (record { allowed = comes.allowed; above = comes.above; alone = (λ e. refl) })).bound in
    record { count = omega (arith, length-append b.packets (p ∷ [])); bound = up }

answer_grown : (answer : Option (Stamped Plain)) (outputs : List (Backlog Plain)) → ((b : Backlog Plain) (bs : List (Backlog Plain)) (p : Stamped Plain) → outputs ≡ b ∷ bs → answer ≡ Some p → MayCome (queue_of 0 b) p.at) → OutputsGrow outputs (with_answer answer outputs)
answer_grown answer [] may output = grown_by_itself (queue_of 0 empty_backlog)
answer_grown answer (b ∷ bs) may zero = behind_grown answer b (λ p is. may b bs p refl is)
answer_grown answer (b ∷ bs) may (suc output) = grown_by_itself _

seen : (bs : List (Backlog Plain)) → map backlog_of (map (queue_of 0) bs) ≡ bs
seen [] = refl
seen (b ∷ bs) = ap (λ (xs : List (Backlog Plain)). b ∷ xs) (seen bs)

answered_grows : {laws : Laws} (engine engine_now : EngineView) (intake intake_now : IntakeView) → AreCell laws engine intake → MayClaim engine → TakesAnswer engine engine_now intake intake_now → CellGrows engine engine_now intake intake_now
answered_grows {laws} engine engine_now intake intake_now cell may t =
    let comes : (b : Backlog Plain) (bs : List (Backlog Plain)) (p : Stamped Plain) → engine.outputs ≡ b ∷ bs → packet_of t.reply ≡ Some p → MayCome (queue_of 0 b) p.at =
    λ b bs p is packet.
    cell_lays engine intake (map (queue_of 0) engine.outputs) (queue_of 0 b) cell t.role may (seen engine.outputs)
    (ap (λ (xs : List (Backlog Plain)). get_or (map (queue_of 0) xs) 0 (queue_of 0 b)) (sym is)) t.held t.reply p t.waits t.next packet in
    record {
      engine_grows = subst (λ (v : EngineView). EngineGrows engine v) (sym t.now)
          (record { laid = omega arith; claimed = omega arith; ended = (λ e. e); outputs = answer_grown (packet_of t.reply) engine.outputs comes });
      intake_grows = record {
        claimed = (let more = ap (λ (v : IntakeView). v.claimed) t.intake_is in omega (arith, more));
        ports = (λ port. subst (λ (w : Pending). HasGrown (port_queue w port) (port_queue intake_now.waits port)) (sym t.waits)
            (subst (λ (v : IntakeView). HasGrown (port_queue (Loop t.held) port) (port_queue v.waits port)) (sym t.intake_is) (reply_grows t.held t.reply t.next port)));
      };
    }

pub claim_grows : {laws : Laws} {C : Type 0} (result : Claimed C) (engine engine_now : EngineView) (intake intake_now : IntakeView) → AreCell laws engine intake → Claims result engine engine_now intake intake_now → CellGrows engine engine_now intake intake_now
claim_grows {laws} Ended engine engine_now intake intake_now cell c = both_same engine engine_now intake intake_now c.1
claim_grows {laws} InFlightFull engine engine_now intake intake_now cell c = both_same engine engine_now intake intake_now c.3
claim_grows {laws} Draining engine engine_now intake intake_now cell c = both_same engine engine_now intake intake_now c.3
claim_grows {laws} NotReady engine engine_now intake intake_now cell c = both_same engine engine_now intake intake_now c.2
claim_grows {laws} OutOfMemory engine engine_now intake intake_now cell c = both_same engine engine_now intake intake_now c.2
claim_grows {laws} Answered engine engine_now intake intake_now cell c = answered_grows engine engine_now intake intake_now cell c.0 c.1
claim_grows {laws} (Work work) engine engine_now intake intake_now cell (inl c) = record {
  engine_grows = subst (λ (v : EngineView). EngineGrows engine v) (sym c.1.now) (window_grows engine engine_now.window engine.idle);
  intake_grows = intake_same intake intake_now c.2;
}
claim_grows {laws} (Work work) engine engine_now intake intake_now cell (inr (may, inl c)) = record { engine_grows = hands_grow engine engine_now _ 1 _ c.0.hands; intake_grows = intake_same intake intake_now c.1 }
claim_grows {laws} (Work work) engine engine_now intake intake_now cell (inr (may, inr (inl c))) = record { engine_grows = hands_grow engine engine_now _ 0 _ c.0.hands; intake_grows = intake_same intake intake_now c.1 }
claim_grows {laws} (Work work) engine engine_now intake intake_now cell (inr (may, inr (inr c))) = record { engine_grows = hands_grow engine engine_now _ 1 _ c.hands; intake_grows = c.takes.grows }
