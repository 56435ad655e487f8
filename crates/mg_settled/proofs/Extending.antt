-- Extension is an order, of prefixes and of lists of them, and each step on a prefix extends it.
use Rattle.std.proofs.Common.{◌≡◌, ℕ, ◌<◌, ◌≤◌, List, [], ◌∷◌, ◌++◌, length, length-append, append_assoc, append-nil, All, ap, ap₂, sym, refl, ◌∙◌, arith}
use Rattle.std.specs.List.{AllByRecursion}
use Rattle.std.proofs.lemmas.List.Elements.{All-nil, All-cons, All-append, All-weaker, All-head, recursion_from_All}
use Rattle.mg_time.specs.Time.{done}
use Rattle.mg_value.specs.Packet.{Stamped}
use Rattle.mg_settled.specs.Prefix.{StreamPrefix, IsPrefix, MayFollow, MayAllFollow, appended, all_appended, raised, closed}
use Rattle.mg_settled.specs.Extension.{IsExtendedBy, AreExtendedBy}
use Rattle.mg_settled.proofs.PrefixSteps.{next_above, packets_below}

pub extended_by_itself : {X : Type 0} (s : StreamPrefix X) → IsExtendedBy s s
extended_by_itself {X} s = record { further = []; packets = sym (append-nil s.packets); bound = omega arith; above = All-nil (λ (p : Stamped X). s.bound ≤ p.at) }

pub extended_further : {X : Type 0} (s t u : StreamPrefix X) → IsExtendedBy s t → IsExtendedBy t u → IsExtendedBy s u
extended_further {X} s t u e f = record {
  further = e.further ++ f.further;
  packets = f.packets ∙ ap (λ (ps : List (Stamped X)). ps ++ f.further) e.packets ∙ append_assoc s.packets e.further f.further;
  bound = (let first = e.bound in let second = f.bound in omega (arith, first, second));
  above = All-append (λ (p : Stamped X). s.bound ≤ p.at) e.further f.further e.above
      (All-weaker (λ (p : Stamped X). t.bound ≤ p.at) (λ (p : Stamped X). s.bound ≤ p.at) (λ p le. (let first = e.bound in omega (arith, first, le))) f.further f.above);
}

nothing_added : {X : Type 0} (ps qs rs : List X) → ps ≡ (ps ++ qs) ++ rs → qs ≡ []
nothing_added ps [] rs e = refl
nothing_added ps (q ∷ qs) rs e = absurd (omega (arith, ap length e, length-append (ps ++ q ∷ qs) rs, length-append ps (q ∷ qs)))

pub same_prefix : {X : Type 0} (s t : StreamPrefix X) → s.packets ≡ t.packets → s.bound ≡ t.bound → s ≡ t
same_prefix {X} s t same bounds = ap₂ (λ (ps : List (Stamped X)) (b : ℕ). (let it : StreamPrefix X = record { packets = ps; bound = b } in it)) same bounds

-- a prefix that is extended by nothing further
same_further : {X : Type 0} (s t : StreamPrefix X) (e : IsExtendedBy s t) → e.further ≡ [] → t.bound ≤ s.bound → s ≡ t
same_further {X} s t e none le =
    same_prefix s t (sym (e.packets ∙ ap (λ (ps : List (Stamped X)). s.packets ++ ps) none ∙ append-nil s.packets)) (let up = e.bound in omega (arith, up, le))

pub extended_both_ways : {X : Type 0} (s t : StreamPrefix X) → IsExtendedBy s t → IsExtendedBy t s → s ≡ t
extended_both_ways {X} s t e f =
    same_further s t e (nothing_added s.packets e.further f.further (f.packets ∙ ap (λ (ps : List (Stamped X)). ps ++ f.further) e.packets)) f.bound

-- laws of extension, told of lists of prefixes
pub all_by_themselves : {X : Type 0} (ss : List (StreamPrefix X)) → AreExtendedBy ss ss
all_by_themselves [] = tt
all_by_themselves (s ∷ ss) = (extended_by_itself s, all_by_themselves ss)

pub all_further : {X : Type 0} (ss ts us : List (StreamPrefix X)) → AreExtendedBy ss ts → AreExtendedBy ts us → AreExtendedBy ss us
all_further [] [] us e f = f
all_further [] (t ∷ ts) us e f = absurd e
all_further (s ∷ ss) [] us e f = absurd e
all_further (s ∷ ss) (t ∷ ts) [] e f = absurd f
all_further (s ∷ ss) (t ∷ ts) (u ∷ us) e f = (extended_further s t u e.0 f.0, all_further ss ts us e.1 f.1)

pub all_both_ways : {X : Type 0} (ss ts : List (StreamPrefix X)) → AreExtendedBy ss ts → AreExtendedBy ts ss → ss ≡ ts
all_both_ways [] [] e f = refl
all_both_ways [] (t ∷ ts) e f = absurd e
all_both_ways (s ∷ ss) [] e f = absurd e
all_both_ways {X} (s ∷ ss) (t ∷ ts) e f = ap₂ (λ (first : StreamPrefix X) (rest : List (StreamPrefix X)). first ∷ rest) (extended_both_ways s t e.0 f.0) (all_both_ways ss ts e.1 f.1)

-- if a stream has ended, nothing is added
none_after : {X : Type 0} (b : ℕ) (ps fs : List (Stamped X)) → AllByRecursion (λ p. p.at < b) (ps ++ fs) → All (λ p. b ≤ p.at) fs → fs ≡ []
none_after b ps [] below above = refl
none_after {X} b (p ∷ ps) (f ∷ fs) below above = none_after b ps (f ∷ fs) below.1 above
none_after {X} b [] (f ∷ fs) below above = absurd (let at : b ≤ f.at = All-head (λ (q : Stamped X). b ≤ q.at) f fs above in omega (arith, at, below.0))

pub ended_stays : {X : Type 0} (s t : StreamPrefix X) → s.bound ≡ done → IsPrefix t → IsExtendedBy s t → s ≡ t
ended_stays {X} s t end h e =
    let top : t.bound ≡ s.bound = let up = e.bound in let within = h.within in omega (arith, up, within, end) in
    let below : AllByRecursion (λ (p : Stamped X). p.at < s.bound) (s.packets ++ e.further) =
    rw (top, e.packets) at (recursion_from_All (λ (p : Stamped X). p.at < t.bound) t.packets (packets_below t h)) in
    same_further s t e (none_after s.bound s.packets e.further below e.above) (omega (arith, top))

pub all_ended_stay : {X : Type 0} (ss ts : List (StreamPrefix X)) → AllByRecursion (λ s. s.bound ≡ done) ss → AllByRecursion IsPrefix ts → AreExtendedBy ss ts → ss ≡ ts
all_ended_stay [] [] ends h e = refl
all_ended_stay [] (t ∷ ts) ends h e = absurd e
all_ended_stay (s ∷ ss) [] ends h e = absurd e
all_ended_stay {X} (s ∷ ss) (t ∷ ts) ends h e = ap₂ (λ (first : StreamPrefix X) (rest : List (StreamPrefix X)). first ∷ rest) (ended_stays s t ends.0 h.0 e.0) (all_ended_stay ss ts ends.1 h.1 e.1)

pub appended_extends : {X : Type 0} (s : StreamPrefix X) (p : Stamped X) → MayFollow s p → IsExtendedBy s (appended s p)
appended_extends {X} s p may = record {
  further = p ∷ [];
  packets = refl;
  bound = (let up = next_above p.at may.allowed in let le = may.above in omega (arith, up, le));
  above = All-cons (λ (q : Stamped X). s.bound ≤ q.at) p [] may.above (All-nil (λ (q : Stamped X). s.bound ≤ q.at));
}

pub all_appended_extend : {X : Type 0} (s : StreamPrefix X) (ps : List (Stamped X)) → MayAllFollow s ps → IsExtendedBy s (all_appended s ps)
all_appended_extend s [] may = extended_by_itself s
all_appended_extend s (p ∷ ps) may = extended_further s (appended s p) (all_appended (appended s p) ps) (appended_extends s p may.0) (all_appended_extend (appended s p) ps may.1)

pub all_appended_behind : {X : Type 0} (s : StreamPrefix X) (ps : List (Stamped X)) → (all_appended s ps).packets ≡ s.packets ++ ps
all_appended_behind s [] = sym (append-nil s.packets)
all_appended_behind s (p ∷ ps) = all_appended_behind (appended s p) ps ∙ append_assoc s.packets (p ∷ []) ps

pub raised_extends : {X : Type 0} (s : StreamPrefix X) (b : ℕ) → IsExtendedBy s (raised s b)
raised_extends {X} s b = record { further = []; packets = sym (append-nil s.packets); bound = omega arith; above = All-nil (λ (p : Stamped X). s.bound ≤ p.at) }

pub closed_extends : {X : Type 0} (s : StreamPrefix X) → IsPrefix s → IsExtendedBy s (closed s)
closed_extends {X} s h = record { further = []; packets = sym (append-nil s.packets); bound = h.within; above = All-nil (λ (p : Stamped X). s.bound ≤ p.at) }
