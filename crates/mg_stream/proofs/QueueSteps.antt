-- Each step on a queue keeps what holds of every queue, and what it stands for.
use Rattle.std.proofs.Common.{◌≡◌, ℕ, zero, suc, ◌+◌, ◌-◌, ◌<◌, ◌≤◌, max, List, [], ◌∷◌, ◌++◌, length, length-append, length-drop, drop, ap, sym, refl, ◌∙◌, arith, drop-drop}
use Rattle.mg_time.specs.Time.{next, done}
use Rattle.mg_value.specs.Packet.{Stamped}
use Rattle.mg_settled.specs.Prefix.{StreamPrefix, MayFollow, appended, raised, closed}
use Rattle.mg_settled.proofs.PrefixSteps.{next_above, appended_is_prefix, raised_is_prefix, closed_is_prefix}
use Rattle.mg_stream.specs.Queue.{Waiting, IsQueue, StandsFor, MayCome, IsLike, rest_of, with_packet, raised_to, popped}

pub closed_queue : {X : Type 0} (q : Waiting X) → IsQueue q → IsQueue (record q { bound = done })
closed_queue q h = record { rest = closed_is_prefix (rest_of q) h.rest; counted = (let most = h.rest.within in let counted = h.counted in omega (arith, most, counted)) }

pub raised_queue : {X : Type 0} (q : Waiting X) (b : ℕ) → b ≤ done → IsQueue q → IsQueue (raised_to q b)
raised_queue q b le h = record { rest = raised_is_prefix (rest_of q) b h.rest le; counted = (let counted = h.counted in omega (arith, counted)) }

pub appended_queue : {X : Type 0} (q : Waiting X) (p : Stamped X) → MayCome q p.at → IsQueue q → IsQueue (with_packet q p)
appended_queue q p may h = record {
  rest = appended_is_prefix (rest_of q) p h.rest (record { allowed = may.allowed; above = may.above; alone = λ e. (let none = may.alone e in omega (arith, none)) });
  counted = (let counted = h.counted in let up = next_above p.at may.allowed in let above = may.above in omega (arith, counted, up, above, length-append q.packets (p ∷ [])));
}

-- what may come at a queue may follow the prefix that it stands for
pub may_follow : {X : Type 0} (q : Waiting X) (p : Stamped X) (s : StreamPrefix X) → MayCome q p.at → StandsFor q s → MayFollow s p
may_follow q p s may h =
    let gone = h.gone in
    let all : length q.packets + q.gone ≡ length s.packets = omega (arith, gone, ap length h.waiting, length-drop q.gone s.packets) in
    record {
      allowed = may.allowed;
      above = (let above = may.above in let bound = h.bound in omega (arith, above, bound));
      alone = λ e. (let none = may.alone e in omega (arith, none, all));
    }

-- stands for
pub stands_appended : {X : Type 0} (q : Waiting X) (p : Stamped X) (s : StreamPrefix X) → MayCome q p.at → StandsFor q s → StandsFor (with_packet q p) (appended s p)
stands_appended {X} q p s may h =
    let gone = h.gone in
    record {
      prefix = appended_is_prefix s p h.prefix (may_follow q p s may h);
      gone = omega (arith, gone, length-append s.packets (p ∷ []));
      waiting = ap (λ (ps : List (Stamped X)). ps ++ p ∷ []) h.waiting ∙ sym (drop-push q.gone s.packets p gone);
      bound = refl;
    }
  where
    drop-push : (n : ℕ) (ps : List (Stamped X)) (p : Stamped X) → n ≤ length ps → drop n (ps ++ p ∷ []) ≡ drop n ps ++ p ∷ []
    drop-push zero ps p le = refl
    drop-push (suc n) [] p le = absurd (omega (arith, le))
    drop-push (suc n) (q ∷ qs) p le = drop-push n qs p (omega (arith, le))

pub stands_raised : {X : Type 0} (q : Waiting X) (b : ℕ) (s : StreamPrefix X) → b ≤ done → StandsFor q s → StandsFor (raised_to q b) (raised s b)
stands_raised q b s le h = record { prefix = raised_is_prefix s b h.prefix le; gone = h.gone; waiting = h.waiting; bound = ap (λ n. max n b) h.bound }

pub stands_closed : {X : Type 0} (q : Waiting X) (s : StreamPrefix X) → StandsFor q s → StandsFor (record q { bound = done }) (closed s)
stands_closed q s h = record { prefix = closed_is_prefix s h.prefix; gone = h.gone; waiting = h.waiting; bound = refl }

pub stands_like : {X : Type 0} (q r : Waiting X) (s : StreamPrefix X) → IsLike r q → StandsFor q s → StandsFor r s
stands_like q r s like h = record {
  prefix = h.prefix;
  gone = (let gone = h.gone in let same = like.gone in omega (arith, gone, same));
  waiting = rw like.gone (like.packets ∙ h.waiting);
  bound = like.bound ∙ h.bound;
}

-- a packet is appended to a queue, told of its fields as the code leaves them
pub appended_fields : {X : Type 0} (q r : Waiting X) (p : Stamped X) → r.gone ≡ q.gone → r.packets ≡ q.packets ++ p ∷ [] → r.bound ≡ next p.at → MayCome q p.at → IsQueue q → IsQueue r
appended_fields {X} q r p gone packets bound may h =
    let to : IsQueue (with_packet q p) = appended_queue q p may h in
    record { rest = rw (packets, bound) to.rest; counted = (let counted = to.counted in omega (arith, counted, ap length packets, gone, bound)) }

pub stands_appended_fields : {X : Type 0} (q r : Waiting X) (p : Stamped X) (s : StreamPrefix X) → r.gone ≡ q.gone → r.packets ≡ q.packets ++ p ∷ [] → r.bound ≡ next p.at → MayCome q p.at → StandsFor q s → StandsFor r (appended s p)
stands_appended_fields q r p s gone packets bound may h =
    stands_like (with_packet q p) r (appended s p) (record { gone = gone; packets = packets; bound = bound }) (stands_appended q p s may h)

-- the first packet is gone
pub stands_without_first : {X : Type 0} (q : Waiting X) (s : StreamPrefix X) → 0 < length q.packets → StandsFor q s → StandsFor (popped q) s
stands_without_first {X} q s waits h = record {
  prefix = h.prefix;
  gone = omega (arith, waits, ap length h.waiting, length-drop q.gone s.packets);
  waiting = ap (λ (l : List (Stamped X)). drop 1 l) h.waiting ∙ drop-drop 1 q.gone s.packets;
  bound = h.bound;
}

-- a packet is put where there is room, told of the fields as the code leaves them
pub put_fields : {X : Type 0} (q r : Waiting X) (p : Stamped X) → r.gone ≡ q.gone → r.packets ≡ q.packets ++ p ∷ [] → r.bound ≡ next p.at → r.spare ≡ q.spare - 1
    → r ≡ (let w : Waiting X = record (with_packet q p) { spare = q.spare - 1 } in w)
put_fields q r p gone packets bound spare = λ i. record { gone = gone i; packets = packets i; bound = bound i; spare = spare i }

-- a packet after some that are the same as others
pub pushed_items : {X : Type 0} (new mid old : List (Stamped X)) (p : Stamped X) → new ≡ mid ++ p ∷ [] → mid ≡ old → new ≡ old ++ p ∷ []
pushed_items {X} new mid old p pushed same = pushed ∙ ap (λ (ps : List (Stamped X)). ps ++ p ∷ []) same
