-- The steps of an answer.
use Rattle.std.proofs.Common.{◌≡◌, ℕ, ◌+◌, length, Option, Some, None, is_some, ap, sym, refl, ◌∙◌, arith, if◌then◌else◌}
use Rattle.mg_value.specs.Payload.{Plain}
use Rattle.mg_value.specs.Packet.{Stamped}
use Rattle.mg_settled.specs.Loopback.{Reply, packet_of}
use Rattle.mg_stream.specs.Queue.{Waiting, MayCome, IsLike}
use Rattle.mg_stream.specs.Pool.{backlog_of}
use Rattle.mg_loopback.specs.Loopback.{Held, next_reply, replied, told, told_at}
use Rattle.mg_loopback.specs.declared.answered.Answered.{Answered}
use Rattle.mg_loopback.specs.declared.answered.Answered.TheVariants.{Packet, Silent, NotYet}
use Rattle.mg_node.specs.declared.pending.Pending.{Pending}
use Rattle.mg_node.specs.declared.pending.Pending.TheVariants.{Sets, Loop}
use Rattle.mg_node.specs.Views.{IntakeView}
use Rattle.mg_node.specs.Intakes.{AnswersBy}
use Rattle.mg_node.specs.Claims.{with_reply}
use Rattle.mg_node.specs.Code.Replying.{MayLay, LaysReply, TellsNone}

-- what is told of an answer
packet_told : (o : Option (Reply Plain)) (p : Stamped Plain) → Packet p ≡ told o → (r : Reply Plain) × (o ≡ Some r) × (packet_of r ≡ Some p)
packet_told None p e = absurd cc
packet_told (Some r) p e = by_value r p r.value refl e
  where
    by_value : (s : Reply Plain) (q : Stamped Plain) (v : Option Plain) → s.value ≡ v → Packet q ≡ told_at s.at s.value → (x : Reply Plain) × (Some s ≡ Some x) × (packet_of x ≡ Some q)
    by_value s q None is e = absurd (let f = rw is at e in cc)
    by_value s q (Some v) is e = (let f : Packet q ≡ Packet (record { at = s.at; value = v }) = rw is at e in (s, refl, rw is (cc)))

silent_told : (o : Option (Reply Plain)) (t : ℕ) → Silent t ≡ told o → (r : Reply Plain) × (o ≡ Some r) × (packet_of r ≡ None)
silent_told None t e = absurd cc
silent_told (Some r) t e = by_value r r.value refl e
  where
    by_value : (s : Reply Plain) (v : Option Plain) → s.value ≡ v → Silent t ≡ told_at s.at s.value → (x : Reply Plain) × (Some s ≡ Some x) × (packet_of x ≡ None)
    by_value s None is e = (s, refl, rw is refl)
    by_value s (Some v) is e = absurd (let f = rw is at e in cc)

none_told : (o : Option (Reply Plain)) → NotYet ≡ told o → o ≡ None
none_told None e = refl
none_told (Some r) e = by_value r r.value refl e
  where
    by_value : (s : Reply Plain) (v : Option Plain) → s.value ≡ v → NotYet ≡ told_at s.at s.value → Some s ≡ None
    by_value s None is e = absurd (let f = rw is at e in cc)
    by_value s (Some v) is e = absurd (let f = rw is at e in cc)

-- what an answer did
pub record AnswersOf (waits : Pending) (result : Answered) (before now : IntakeView) : Type 0 where
  pub held : Held Plain
  pub waits_is : waits ≡ Loop held
  pub told_is : result ≡ told (next_reply held)
  pub now_is : now ≡ (if is_some (next_reply held) then record { claimed = before.claimed + 1; waits = Loop (replied held) } else before)

pub answers_of : (waits : Pending) (result : Answered) (before now : IntakeView) → AnswersBy waits result before now → AnswersOf waits result before now
answers_of (Sets inbox) result before now h = absurd h
answers_of (Loop held) result before now h = record { held = held; waits_is = refl; told_is = h.0; now_is = h.1 }

-- two queues that differ in their room alone
pub same_backlog : (q r : Waiting Plain) → IsLike q r → backlog_of q ≡ backlog_of r
same_backlog q r like = λ i. record { gone = like.gone i; packets = like.packets i; bound = like.bound i }

-- a packet is laid
pub laid_packet : (output roomy now : Waiting Plain) (p : Stamped Plain) (before after : IntakeView) → AnswersBy before.waits (Packet p) before after → IsLike roomy output
    → backlog_of now ≡ with_reply (Some p) (backlog_of roomy) → LaysReply output now before after
laid_packet output roomy now p before after h like laid =
    let a = answers_of before.waits (Packet p) before after h in
    let t = packet_told (next_reply a.held) p a.told_is in
    record {
      held = a.held;
      waits = a.waits_is;
      reply = t.0;
      next = t.1;
      laid = laid ∙ ap (with_reply (Some p)) (same_backlog roomy output like) ∙ ap (λ (o : Option (Stamped Plain)). with_reply o (backlog_of output)) (sym t.2);
      intake_is = a.now_is ∙ ap (λ (o : Option (Reply Plain)). if is_some o then record { claimed = before.claimed + 1; waits = Loop (replied a.held) } else before) t.1;
    }

pub laid_nothing : (output now : Waiting Plain) (t : ℕ) (before after : IntakeView) → AnswersBy before.waits (Silent t) before after → IsLike now output → LaysReply output now before after
laid_nothing output now t before after h like =
    let a = answers_of before.waits (Silent t) before after h in
    let r = silent_told (next_reply a.held) t a.told_is in
    record {
      held = a.held;
      waits = a.waits_is;
      reply = r.0;
      next = r.1;
      laid = same_backlog now output like ∙ ap (λ (o : Option (Stamped Plain)). with_reply o (backlog_of output)) (sym r.2);
      intake_is = a.now_is ∙ ap (λ (o : Option (Reply Plain)). if is_some o then record { claimed = before.claimed + 1; waits = Loop (replied a.held) } else before) r.1;
    }

pub told_none : (output now : Waiting Plain) (before after : IntakeView) → AnswersBy before.waits NotYet before after → IsLike now output → TellsNone output now before after
told_none output now before after h like =
    let a = answers_of before.waits NotYet before after h in
    let none = none_told (next_reply a.held) a.told_is in
    record {
      held = a.held;
      waits = a.waits_is;
      none = none;
      same = same_backlog now output like;
      intake_is = a.now_is ∙ ap (λ (o : Option (Reply Plain)). if is_some o then record { claimed = before.claimed + 1; waits = Loop (replied a.held) } else before) none;
    }

-- the packet may come
pub may_lay_packet : (output roomy : Waiting Plain) (p : Stamped Plain) (before after : IntakeView) → MayLay output before.waits → AnswersBy before.waits (Packet p) before after → IsLike roomy output → MayCome roomy p.at
may_lay_packet output roomy p before after may h like =
    let a = answers_of before.waits (Packet p) before after h in
    let t = packet_told (next_reply a.held) p a.told_is in
    let m : MayCome output p.at = may a.held t.0 p a.waits_is t.1 t.2 in
    let above = m.above in
    let bound = like.bound in
    let gone = like.gone in
    record {
      allowed = m.allowed;
      above = omega (arith, above, bound);
      alone = (λ e. (let none = m.alone e in omega (arith, none, gone, ap length like.packets)));
    }
