-- Outputs that were raised meanwhile: what can be laid at the outputs of a stage can be laid at them, too. The packets are the same. This
-- holds as long as the solution's streams extend both.
use Rattle.std.proofs.Common.{◌≡◌, ℕ, ℤ, ◌≤◌, min, Bool, true, false, not, nat_lt, List, [], ◌∷◌, ◌++◌, append_assoc, append-nil, All, Option, Some, None, Result, Ok, ap, sym, refl, subst, ◌∙◌, arith, if◌then◌else◌}
use Rattle.std.specs.List.{AllByRecursion}
use Rattle.std.proofs.lemmas.Bool.Decides.{nat_tests}
use Rattle.std.proofs.lemmas.List.{append_cancel_left}
use Rattle.std.proofs.lemmas.List.Elements.{All-nil, recursion_from_All}
use Rattle.mg_time.specs.Time.{done}
use Rattle.mg_value.specs.Payload.{Plain}
use Rattle.mg_value.specs.Packet.{Stamped}
use Rattle.mg_settled.specs.Prefix.{StreamPrefix, appended, raised}
use Rattle.mg_settled.specs.Extension.{IsExtendedBy}
use Rattle.mg_settled.proofs.Lemmas.{extended_further, extended_both_ways, same_prefix, raised_extends}
use Rattle.mg_calc.specs.declared.cause.Cause.{Cause}
use Rattle.mg_calc.specs.declared.emission.Laid.{Laid}
use Rattle.mg_calc.specs.declared.node_fault.Phase.{Phase}
use Rattle.mg_calc.specs.Laying.{is_allowed, is_below_offset, is_bound_to_silence, is_not_alone, laying_fault, unless, after, with_packets, raised_to, with_laid}
use Rattle.mg_calc.proofs.LaidBehind.{unless_good, after_good}
use Rattle.mg_node.specs.Lawful.{IsRaised}
use Rattle.mg_node.proofs.RaisedOutputs.{raised_between}

-- the packets of a prefix come first in a stream
pub record Begins (s t : StreamPrefix Plain) : Type 0 where
  pub further : List (Stamped Plain)
  pub packets : t.packets ≡ s.packets ++ further

-- A prefix that is raised, and one of the same packets that was raised meanwhile.
pub raise_both : (b : ℕ) (s r t : StreamPrefix Plain) → IsRaised s r → IsExtendedBy r t → IsExtendedBy (raised s b) t → IsExtendedBy (raised r b) t
raise_both b s r t up e f = raised_between b r (raised s b) t e f up.packets (omega arith)

pub raise_raised : (b : ℕ) (s r : StreamPrefix Plain) → IsRaised s r → IsRaised (raised s b) (raised r b)
raise_raised b s r up = record { packets = up.packets; bound = (let low = up.bound in omega (arith, low)) }

-- Packets at the end of one output.

-- with the same packets and a bound that is not above the packet's time no further reason arises
still : (a b c d e later : Bool) (A B C D E : Cause)
    → (if not a then Some A else (if b then Some B else (if c then Some C else (if d then Some D else (if e then Some E else None))))) ≡ None → later ≡ false
    → (if not a then Some A else (if b then Some B else (if c then Some C else (if later then Some D else (if e then Some E else None))))) ≡ None
still false b c d e later A B C D E h low = absurd cc
still true true c d e later A B C D E h low = absurd cc
still true false true d e later A B C D E h low = absurd cc
still true false false true e later A B C D E h low = absurd cc
still true false false false true later A B C D E h low = absurd cc
still true false false false false true A B C D E h low = absurd cc
still true false false false false false A B C D E h low = refl

still_laid : (offset : Option ℤ) (phase : Phase) (s r : StreamPrefix Plain) (p : Stamped Plain) → r.packets ≡ s.packets → r.bound ≤ p.at → laying_fault offset phase s p ≡ None → laying_fault offset phase r p ≡ None
still_laid offset phase s r p same low h =
    subst (λ (ps : List (Stamped Plain)). laying_fault offset phase (record { packets = ps; bound = r.bound }) p ≡ None) (sym same)
    (still (is_allowed p.at) (is_below_offset offset phase p.at) (is_bound_to_silence offset phase) (nat_lt p.at s.bound) (is_not_alone s.packets p.at) (nat_lt p.at r.bound) _ _ _ _ _ h (grind (arith, nat_tests, low)))

packets_behind : (offset : Option ℤ) (phase : Phase) (s longer : StreamPrefix Plain) (ps : List (Stamped Plain)) → with_packets offset phase s ps ≡ Ok longer → longer.packets ≡ s.packets ++ ps
packets_behind offset phase s longer [] h = (let same : s ≡ longer = cc in ap (λ (x : StreamPrefix Plain). x.packets) (sym same) ∙ sym (append-nil s.packets))
packets_behind offset phase s longer (p ∷ ps) h =
    let good = unless_good (laying_fault offset phase s p) (with_packets offset phase (appended s p) ps) longer h in
    packets_behind offset phase (appended s p) longer ps good.1 ∙ append_assoc s.packets (p ∷ []) ps

pub record PacketsToo (offset : Option ℤ) (phase : Phase) (r : StreamPrefix Plain) (ps : List (Stamped Plain)) (longer t : StreamPrefix Plain) : Type 0 where
  pub more : StreamPrefix Plain
  pub laid : with_packets offset phase r ps ≡ Ok more
  pub is_raised : IsRaised longer more
  pub extended : IsExtendedBy longer t → IsExtendedBy more t

packets_too : (offset : Option ℤ) (phase : Phase) (s r longer t : StreamPrefix Plain) (ps : List (Stamped Plain)) → IsRaised s r → IsExtendedBy r t → with_packets offset phase s ps ≡ Ok longer → Begins longer t → PacketsToo offset phase r ps longer t
packets_too offset phase s r longer t [] up e h first = (let same : s ≡ longer = cc in record {
  more = r;
  laid = refl;
  is_raised = subst (λ (x : StreamPrefix Plain). IsRaised x r) same up;
  extended = (λ f. e);
})
packets_too offset phase s r longer t (p ∷ ps) up e h first =
    let good = unless_good (laying_fault offset phase s p) (with_packets offset phase (appended s p) ps) longer h in
    let behind : e.further ≡ (p ∷ ps) ++ first.further =
    append_cancel_left s.packets e.further ((p ∷ ps) ++ first.further)
    (ap (λ (qs : List (Stamped Plain)). qs ++ e.further) (sym up.packets) ∙ sym e.packets ∙ first.packets ∙ ap (λ (qs : List (Stamped Plain)). qs ++ first.further) (packets_behind offset phase s longer (p ∷ ps) h)
    ∙ append_assoc s.packets (p ∷ ps) first.further) in
    let P : Stamped Plain → Type 0 = λ q. r.bound ≤ q.at in
    let above : AllByRecursion P ((p ∷ ps) ++ first.further) = recursion_from_All P ((p ∷ ps) ++ first.further) (subst (All P) behind e.above) in
    let goes : laying_fault offset phase r p ≡ None = still_laid offset phase s r p up.packets above.0 good.0 in
    let next : appended r p ≡ appended s p = same_prefix (appended r p) (appended s p) (ap (λ (qs : List (Stamped Plain)). qs ++ p ∷ []) up.packets) refl in
    record {
      more = longer;
      laid = ap (λ (o : Option Cause). unless o (with_packets offset phase (appended r p) ps)) goes ∙ ap (λ (x : StreamPrefix Plain). with_packets offset phase x ps) next ∙ good.1;
      is_raised = record { packets = refl; bound = omega arith };
      extended = (λ f. f);
    }

-- What is emitted at one output: the packets, and after them the bound.
pub record LaidToo (offset : Option ℤ) (phase : Phase) (r : StreamPrefix Plain) (laid : Laid) (longer t : StreamPrefix Plain) : Type 0 where
  pub more : StreamPrefix Plain
  pub goes : with_laid offset phase r laid ≡ Ok more
  pub is_raised : IsRaised longer more
  pub extended : IsExtendedBy longer t → IsExtendedBy more t

raised_to_too : (bound : Option ℕ) (s r t : StreamPrefix Plain) → IsRaised s r → (IsExtendedBy s t → IsExtendedBy r t) → IsRaised (raised_to bound s) (raised_to bound r) × (IsExtendedBy (raised_to bound s) t → IsExtendedBy (raised_to bound r) t)
raised_to_too None s r t up e = (up, e)
raised_to_too (Some b) s r t up e = (
  raise_raised (min b done) s r up,
  (λ f. raise_both (min b done) s r t up (e (extended_further s (raised s (min b done)) t (raised_extends s (min b done)) f)) f),
)

raised_to_packets : (bound : Option ℕ) (s : StreamPrefix Plain) → (raised_to bound s).packets ≡ s.packets
raised_to_packets None s = refl
raised_to_packets (Some b) s = refl

pub laid_too : (offset : Option ℤ) (phase : Phase) (s r longer t : StreamPrefix Plain) (laid : Laid) → IsRaised s r → IsExtendedBy r t → with_laid offset phase s laid ≡ Ok longer → Begins longer t → LaidToo offset phase r laid longer t
laid_too offset phase s r longer t laid up e h first =
    let good = after_good (with_packets offset phase s laid.packets) (λ l. Ok (raised_to laid.bound l)) longer h in
    let same : raised_to laid.bound good.0 ≡ longer = (let last = good.2 in cc) in
    let packets : longer.packets ≡ good.0.packets = ap (λ (x : StreamPrefix Plain). x.packets) (sym same) ∙ raised_to_packets laid.bound good.0 in
    let begins : Begins good.0 t = record { further = first.further; packets = first.packets ∙ ap (λ (ps : List (Stamped Plain)). ps ++ first.further) packets } in
    let it = packets_too offset phase s r good.0 t laid.packets up e good.1 begins in
    let both = raised_to_too laid.bound good.0 it.more t it.is_raised it.extended in
    subst (λ (l : StreamPrefix Plain). LaidToo offset phase r laid l t) same (record {
      more = raised_to laid.bound it.more;
      goes = ap (λ (a : Result (StreamPrefix Plain) Cause). after a (λ l. Ok (raised_to laid.bound l))) it.laid;
      is_raised = both.0;
      extended = both.1;
    })

-- a prefix that was raised is extended so, and if nothing more can come it wasn't raised
pub raised_extended : (s r : StreamPrefix Plain) → IsRaised s r → IsExtendedBy s r
raised_extended s r up = record { further = []; packets = up.packets ∙ sym (append-nil s.packets); bound = up.bound; above = All-nil (λ (p : Stamped Plain). s.bound ≤ p.at) }

pub none_raised : (s r : StreamPrefix Plain) → IsRaised s r → IsExtendedBy r s → r ≡ s
none_raised s r up e = extended_both_ways r s e (raised_extended s r up)
