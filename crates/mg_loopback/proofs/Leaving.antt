-- The packets of a queue at or below a time, one after the other.
use Rattle.std.proofs.Common.{◌≡◌, ℕ, ◌+◌, ◌<◌, ◌≤◌, List, [], ◌∷◌, take, drop, length, filter, ◌⊎◌, Option, Some, None, option_map, unwrap_or, slice_get, leb, ltb, inl, inr, ap, ap₂, refl, sym, ◌∙◌, arith, eq-eqb, ne_eqb, All, subst, length-drop, drop-drop}
use Rattle.std.proofs.Math.Seq.{take-add}
use Rattle.std.specs.List.{AllByRecursion}
use Rattle.std.proofs.lemmas.Bool.{cases_Bool, lt-ltb, le-ltb, le-leb, lt-leb, leb-true, leb-false}
use Rattle.std.proofs.lemmas.List.Elements.{All-from_recursion, All-append, All-weaker}
use Rattle.mg_value.specs.Packet.{Stamped}
use Rattle.mg_settled.specs.Prefix.{StreamPrefix, IsPrefix}
use Rattle.mg_settled.specs.Settled.{packet_at}
use Rattle.mg_settled.proofs.Climbs.{Climbs, prefix-climbs, Climbs-drop}
use Rattle.mg_stream.specs.Queue.{Waiting, StandsFor, rest_of, front_at, popped_at}
use Rattle.mg_loopback.specs.Loopback.{without}

-- of packets that climb from above a time, none is at or below it
record IsAbove {X : Type 0} (t : ℕ) (ps : List (Stamped X)) : Type 0 where
  gone : filter (λ p. leb p.at t) ps ≡ []
  left : filter (λ p. ltb t p.at) ps ≡ ps
  found : packet_at t ps ≡ None

above : {X : Type 0} (t a b : ℕ) (ps : List (Stamped X)) → t < a → Climbs a ps b → IsAbove t ps
above t a b [] lt h = record { gone = refl; left = refl; found = refl }
above {X} t a b (p ∷ ps) lt h =
    let up : t < p.at = (let first = h.0 in omega (arith, lt, first)) in
    let later = above t (p.at + 1) b ps (omega (arith, up)) h.1 in
    record {
      gone = rw (lt-leb p.at t up) later.gone;
      left = rw (lt-ltb t p.at up) (ap (λ (rest : List (Stamped X)). p ∷ rest) later.left);
      found = rw (ne_eqb p.at t (λ e. omega (arith, e, up))) later.found;
    }

-- a queue by its parts
abbrev queue_of : {X : Type 0} → ℕ → List (Stamped X) → ℕ → ℕ → Waiting X
queue_of g ps b s = record { gone = g; packets = ps; bound = b; spare = s }

same_queue : {X : Type 0} (g h : ℕ) (ps : List (Stamped X)) (b s t : ℕ) → g ≡ h → s ≡ t → queue_of g ps b s ≡ queue_of h ps b t
same_queue g h ps b s t e f = ap₂ (λ (n m : ℕ). queue_of n ps b m) e f

-- a packet below a time goes: the same others go after it, and the same packet is found
pub record Goes {X : Type 0} (t : ℕ) (q r : Waiting X) : Type 0 where
  pub left : without (Some t) r ≡ without (Some t) q
  pub found : packet_at t r.packets ≡ packet_at t q.packets
  pub fewer : length r.packets + 1 ≡ length q.packets

-- the first packet's time, as the call answers it
pub found_first : (t u v : ℕ) (answer first : Option ℕ) → answer ≡ first → answer ≡ Some v → t ≤ v → Some u ≡ first → t ≤ u
found_first t u v answer first is some le e = omega (arith, le, ap (λ (o : Option ℕ). unwrap_or o u) (e ∙ sym is ∙ some))

pub found_none : (t u : ℕ) (answer first : Option ℕ) → answer ≡ first → answer ≡ None → Some u ≡ first → t ≤ u
found_none t u answer first is none e = absurd (let clash : Some u ≡ None = e ∙ sym is ∙ none in cc)

-- if no packet is below the time, a packet exactly at it is the first, and no other goes
pub record Ends {X : Type 0} (t : ℕ) (q : Waiting X) : Type 0 where
  pub left : popped_at t q ≡ without (Some t) q
  pub found : front_at t q.packets ≡ packet_at t q.packets

ends_by : {X : Type 0} (t g b s : ℕ) (ps : List (Stamped X)) → Climbs 0 ps b → ((u : ℕ) → Some u ≡ option_map (λ p. p.at) (slice_get ps 0) → t ≤ u) → Ends t (queue_of g ps b s)
ends_by t g b s [] h far = record { left = same_queue g (g + 0) [] b s (s + 0) (omega arith) (omega arith); found = refl }
ends_by {X} t g b s (p ∷ ps) h far =
    let at : t ≤ p.at = far p.at refl in
    let later = above t (p.at + 1) b ps (omega (arith, at)) h.1 in
    elim (cases t p.at at) [
      | inl same ↦ record {
        left = rw (eq-eqb p.at t same, le-leb p.at t (omega (arith, same)), le-ltb t p.at (omega (arith, same)), later.gone, later.left) (same_queue (g + 1) (g + 1) ps b (s + 1) (s + 1) refl refl);
        found = rw (eq-eqb p.at t same) refl;
      }
      | inr up ↦ record {
        left = rw (ne_eqb p.at t (λ e. omega (arith, e, up)), lt-leb p.at t up, lt-ltb t p.at up, later.gone, later.left) (same_queue g (g + 0) (p ∷ ps) b s (s + 0) (omega arith) (omega arith));
        found = rw (ne_eqb p.at t (λ e. omega (arith, e, up))) (sym later.found);
      }
    ]
  where
    cases : (a c : ℕ) → a ≤ c → (c ≡ a) ⊎ (a < c)
    cases a c le = grind arith

pub ends : {X : Type 0} (t : ℕ) (q : Waiting X) → IsPrefix (rest_of q) → ((u : ℕ) → Some u ≡ option_map (λ p. p.at) (slice_get q.packets 0) → t ≤ u) → Ends t q
ends t q h far = ends_by t q.gone q.bound q.spare q.packets (prefix-climbs (rest_of q) h) far

-- the packets at or below a time are the first ones, and the others come after these
record IsSplit {X : Type 0} (t : ℕ) (ps : List (Stamped X)) : Type 0 where
  low : AllByRecursion (λ p. p.at ≤ t) (take (length (filter (λ p. leb p.at t) ps)) ps)
  high : filter (λ p. ltb t p.at) ps ≡ drop (length (filter (λ p. leb p.at t) ps)) ps
  few : length (filter (λ p. leb p.at t) ps) ≤ length ps

split : {X : Type 0} (t a b : ℕ) (ps : List (Stamped X)) → Climbs a ps b → IsSplit t ps
split t a b [] h = record { low = tt; high = refl; few = omega arith }
split {X} t a b (p ∷ ps) h = elim (cases_Bool (leb p.at t)) [
  | inl passes ↦
      (let le = leb-true p.at t passes in
      let later = split t (p.at + 1) b ps h.1 in
      record {
        low = rw passes (le, later.low);
        high = rw (passes, le-ltb t p.at le) later.high;
        few = rw passes (let few = later.few in omega (arith, few));
      })
  | inr fails ↦
      (let up = leb-false p.at t fails in
      let none = above t (p.at + 1) b ps (omega (arith, up)) h.1 in
      record {
        low = rw (fails, none.gone) tt;
        high = rw (fails, none.gone, lt-ltb t p.at up, none.left) refl;
        few = rw (fails, none.gone) (omega arith);
      })
]

climbs_left : {X : Type 0} (q : Waiting X) (s : StreamPrefix X) → StandsFor q s → Climbs 0 q.packets s.bound
climbs_left q s h = rw h.waiting (Climbs-drop 0 s.bound q.gone s.packets (prefix-climbs s h.prefix))

-- the queue still stands for its prefix
pub stands_without : {X : Type 0} (t : ℕ) (q : Waiting X) (s : StreamPrefix X) → StandsFor q s → StandsFor (without (Some t) q) s
stands_without {X} t q s h =
    let n = length (filter (λ p. leb p.at t) q.packets) in
    let parts = split t 0 s.bound q.packets (climbs_left q s h) in
    record {
      prefix = h.prefix;
      gone = (let gone = h.gone in let few = parts.few in omega (arith, gone, few, ap length h.waiting, length-drop q.gone s.packets));
      waiting = parts.high ∙ ap (λ (l : List (Stamped X)). drop n l) h.waiting ∙ drop-drop n q.gone s.packets;
      bound = h.bound;
    }

-- the packets that are gone then stood at or below the time, or were gone
pub gone_without : {X : Type 0} (P : Stamped X → Type 0) (t : ℕ) (q : Waiting X) (s : StreamPrefix X) → StandsFor q s → ((p : Stamped X) → p.at ≤ t → P p) → All P (take q.gone s.packets) → All P (take (without (Some t) q).gone s.packets)
gone_without {X} P t q s h low earlier =
    let n = length (filter (λ p. leb p.at t) q.packets) in
    let parts = split t 0 s.bound q.packets (climbs_left q s h) in
    let Low : Stamped X → Type 0 = λ p. p.at ≤ t in
    let rest : All P (take n (drop q.gone s.packets)) = subst (λ (l : List (Stamped X)). All P (take n l)) h.waiting (All-weaker Low P low (take n q.packets) (All-from_recursion Low (take n q.packets) parts.low)) in
    rw (take-add q.gone n s.packets) (All-append P (take q.gone s.packets) (take n (drop q.gone s.packets)) earlier rest)
