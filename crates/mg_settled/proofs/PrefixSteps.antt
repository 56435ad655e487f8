-- What a prefix's packets are, and that each step on a prefix makes a prefix that extends it.
use Rattle.std.proofs.Common.{◌≡◌, ℕ, ◌<◌, ◌≤◌, max, List, [], ◌∷◌, ◌++◌, length, length-append, All, ap, arith}
use Rattle.std.specs.List.{AllByRecursion}
use Rattle.std.proofs.lemmas.Bool.Decides.{nat_tests}
use Rattle.std.proofs.lemmas.List.Elements.{All-from_recursion, recursion_from_All, All-push, All-weaker, All-nil}
use Rattle.mg_time.specs.Time.{next, IsAllowed, post_stream, one_over_post_stream, done}
use Rattle.mg_value.specs.Packet.{Stamped}
use Rattle.mg_settled.specs.Prefix.{StreamPrefix, IsPrefix, MayFollow, MayAllFollow, Ascends, first_time, appended, all_appended, raised, closed, empty_prefix}

pub next_above : (t : ℕ) → IsAllowed t → t < next t
next_above t a = grind (arith, nat_tests)

pub next_most : (t : ℕ) → IsAllowed t → next t ≤ one_over_post_stream
next_most t a = grind (arith, nat_tests)

-- the packets of ascending ones, and the first, stand below the bound
pub first_time-most : {X : Type 0} (b : ℕ) (ps : List (Stamped X)) → AllByRecursion (λ p. IsAllowed p.at) ps → Ascends ps b → first_time ps b ≤ b
first_time-most b [] allowed r = omega arith
first_time-most b (p ∷ ps) allowed r =
    let up = next_above p.at allowed.0 in
    let later = first_time-most b ps allowed.1 r.1 in
    omega (arith, up, later, r.0)

pub Ascends-next : {X : Type 0} (b : ℕ) (ps : List (Stamped X)) → AllByRecursion (λ p. IsAllowed p.at) ps → Ascends ps b → AllByRecursion (λ p. next p.at ≤ b) ps
Ascends-next b [] allowed r = tt
Ascends-next b (p ∷ ps) allowed r = ((let later = first_time-most b ps allowed.1 r.1 in omega (arith, later, r.0)), Ascends-next b ps allowed.1 r.1)

-- ascending packets stay so under a higher bound, and with a packet at the bound or above
pub Ascends-raised : {X : Type 0} (b c : ℕ) (ps : List (Stamped X)) → b ≤ c → Ascends ps b → Ascends ps c
Ascends-raised b c [] le r = tt
Ascends-raised b c (p ∷ []) le r = (omega (arith, le, r.0), tt)
Ascends-raised b c (p ∷ q ∷ qs) le r = (r.0, Ascends-raised b c (q ∷ qs) le r.1)

pub Ascends-appended : {X : Type 0} (b : ℕ) (ps : List (Stamped X)) (p : Stamped X) → b ≤ p.at → Ascends ps b → Ascends (ps ++ p ∷ []) (next p.at)
Ascends-appended b [] p le r = (le_itself (next p.at), tt)
  where
    le_itself : (n : ℕ) → n ≤ n
    le_itself n = omega arith
Ascends-appended b (q ∷ []) p le r = (omega (arith, le, r.0), Ascends-appended b [] p le tt)
Ascends-appended b (q ∷ q' ∷ qs) p le r = (r.0, Ascends-appended b (q' ∷ qs) p le r.1)

-- the empty prefix
pub empty_is_prefix : {X : Type 0} → IsPrefix (empty_prefix {X = X})
empty_is_prefix {X} = record {
  opened = omega arith;
  within = omega arith;
  allowed = All-nil (λ (p : Stamped X). IsAllowed p.at);
  ascends = tt;
  alone = All-nil (λ (p : Stamped X). p.at ≡ post_stream → 0 ≡ 1);
}

-- a packet that may follow makes a prefix
pub appended_is_prefix : {X : Type 0} (s : StreamPrefix X) (p : Stamped X) → IsPrefix s → MayFollow s p → IsPrefix (appended s p)
appended_is_prefix {X} s p h may =
    let allowed = may.allowed in
    let above = may.above in
    let alone = may.alone in
    let next_times = All-from_recursion (λ (q : Stamped X). next q.at ≤ s.bound) s.packets (Ascends-next s.bound s.packets (recursion_from_All (λ (q : Stamped X). IsAllowed q.at) s.packets h.allowed) h.ascends) in
    let Alone : Stamped X → Type 0 = λ q. q.at ≡ post_stream → length (s.packets ++ p ∷ []) ≡ 1 in
    let earlier : (q : Stamped X) → next q.at ≤ s.bound → Alone q = λ q le e. absurd (let top : next q.at ≡ one_over_post_stream = ap next e in omega (arith, top, le, above, allowed.1)) in
    let last : Alone p = λ e. omega (arith, length-append s.packets (p ∷ []), alone e) in
    let up = next_above p.at allowed in
    let most = next_most p.at allowed in
    record {
      opened = omega (arith, up, allowed.0);
      within = omega (arith, most);
      allowed = All-push (λ (q : Stamped X). IsAllowed q.at) s.packets p h.allowed allowed;
      ascends = Ascends-appended s.bound s.packets p above h.ascends;
      alone = All-push Alone s.packets p (All-weaker (λ (q : Stamped X). next q.at ≤ s.bound) Alone earlier s.packets next_times) last;
    }

pub all_appended_is_prefix : {X : Type 0} (s : StreamPrefix X) (ps : List (Stamped X)) → IsPrefix s → MayAllFollow s ps → IsPrefix (all_appended s ps)
all_appended_is_prefix s [] h may = h
all_appended_is_prefix s (p ∷ ps) h may = all_appended_is_prefix (appended s p) ps (appended_is_prefix s p h may.0) may.1

pub raised_is_prefix : {X : Type 0} (s : StreamPrefix X) (b : ℕ) → IsPrefix s → b ≤ done → IsPrefix (raised s b)
raised_is_prefix s b h le = record {
  opened = (let opened = h.opened in omega (arith, opened));
  within = (let within = h.within in omega (arith, within, le));
  allowed = h.allowed;
  ascends = Ascends-raised s.bound (max s.bound b) s.packets (omega arith) h.ascends;
  alone = h.alone;
}

pub closed_is_prefix : {X : Type 0} (s : StreamPrefix X) → IsPrefix s → IsPrefix (closed s)
closed_is_prefix s h = record {
  opened = omega arith;
  within = omega arith;
  allowed = h.allowed;
  ascends = Ascends-raised s.bound done s.packets h.within h.ascends;
  alone = h.alone;
}

-- the packets of a prefix stand below its bound
pub packets_below : {X : Type 0} (s : StreamPrefix X) → IsPrefix s → All (λ p. p.at < s.bound) s.packets
packets_below {X} s h =
    let Here : Stamped X → Type 0 = λ p. p.at < s.bound in
    let go : (ps : List (Stamped X)) → AllByRecursion (λ p. IsAllowed p.at) ps → AllByRecursion (λ p. next p.at ≤ s.bound) ps → AllByRecursion Here ps =
    elim [ [] ↦ (λ a n. tt) | p ∷ (ps → rest) ↦ (λ a n. ((let up = next_above p.at a.0 in omega (arith, up, n.0)), rest a.1 n.1)) ] in
    let allowed = recursion_from_All (λ (p : Stamped X). IsAllowed p.at) s.packets h.allowed in
    All-from_recursion Here s.packets (go s.packets allowed (Ascends-next s.bound s.packets allowed h.ascends))
