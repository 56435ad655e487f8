-- An engine stays lawful when its outputs are raised, if nothing further stands below.
use Rattle.mg_calc.specs.Rules.{Laws}
use Rattle.std.proofs.Common.{◌≡◌, ℕ, ◌≤◌, max, List, [], ◌∷◌, ◌++◌, map, Some, ap, subst, sym, ◌∙◌, arith}
use Rattle.std.specs.List.{AllZip, AllByRecursion}
use Rattle.std.proofs.lemmas.List.Elements.{All-from_recursion, recursion_from_All}
use Rattle.mg_time.specs.Time.{done}
use Rattle.mg_value.specs.Payload.{Plain}
use Rattle.mg_value.specs.Packet.{Stamped}
use Rattle.mg_settled.specs.Prefix.{StreamPrefix, raised}
use Rattle.mg_settled.specs.Extension.{IsExtendedBy, AreExtendedBy}
use Rattle.mg_stream.specs.Pool.{Backlog, queue_of}
use Rattle.mg_stream.proofs.QueueSteps.{stands_raised}
use Rattle.mg_node.specs.Views.{EngineView}
use Rattle.mg_node.specs.Advances.{raised_output}
use Rattle.mg_node.specs.Job.{LoggedJob, streams_at}
use Rattle.mg_node.specs.Lawful.{IsRaised, StandForAll, IsEngineOf}
use Rattle.mg_node.proofs.Answering.{same_rest}

both_above : (a b : ℕ) (ps : List (Stamped Plain)) → AllByRecursion (λ p. a ≤ p.at) ps → AllByRecursion (λ p. b ≤ p.at) ps → AllByRecursion (λ p. max a b ≤ p.at) ps
both_above a b [] above below = tt
both_above a b (p ∷ ps) above below = (let first = above.0 in let second = below.0 in omega (arith, first, second), both_above a b ps above.1 below.1)

-- Of two prefixes of a stream with the same packets each may be raised to the other's bound, or below it.
pub raised_between : (b : ℕ) (s u stream : StreamPrefix Plain) → IsExtendedBy s stream → IsExtendedBy u stream → s.packets ≡ u.packets → b ≤ u.bound → IsExtendedBy (raised s b) stream
raised_between b s u stream e f same le =
    let rest : f.further ≡ e.further = same_rest s.packets f.further e.further (ap (λ (ps : List (Stamped Plain)). ps ++ f.further) same ∙ sym f.packets ∙ e.packets) in
    let above = recursion_from_All (λ (p : Stamped Plain). s.bound ≤ p.at) e.further e.above in
    let above_other : AllByRecursion (λ (p : Stamped Plain). u.bound ≤ p.at) e.further =
    subst (λ (ps : List (Stamped Plain)). AllByRecursion (λ (p : Stamped Plain). u.bound ≤ p.at) ps) rest (recursion_from_All (λ (p : Stamped Plain). u.bound ≤ p.at) f.further f.above) in
    record {
      further = e.further;
      packets = e.packets;
      bound = (let first = e.bound in let second = f.bound in omega (arith, first, second, le));
      above = All-from_recursion (λ (p : Stamped Plain). max s.bound b ≤ p.at) e.further (both_above s.bound b e.further above (lower e.further above_other));
    }
  where
    lower : (ps : List (Stamped Plain)) → AllByRecursion (λ p. u.bound ≤ p.at) ps → AllByRecursion (λ p. b ≤ p.at) ps
    lower [] a = tt
    lower (p ∷ ps) a = (let first = a.0 in omega (arith, first, le), lower ps a.1)

-- a prefix has the packets of another one, which a bound isn't above
abbrev pub IsUnder : ℕ → StreamPrefix Plain → StreamPrefix Plain → Type 0
IsUnder b u s = (s.packets ≡ u.packets) × (b ≤ u.bound)

pub all_between : (b : ℕ) (ss us streams : List (StreamPrefix Plain)) → AreExtendedBy ss streams → AreExtendedBy us streams → AllZip (IsUnder b) us ss → AreExtendedBy (map (λ s. raised s b) ss) streams
all_between b [] us [] e f g = tt
all_between b [] us (t ∷ ts) e f g = absurd e
all_between b (s ∷ ss) us [] e f g = absurd e
all_between b (s ∷ ss) [] (t ∷ ts) e f g = absurd f
all_between b (s ∷ ss) (u ∷ us) (t ∷ ts) e f g = (raised_between b s u t e.0 f.0 g.0.0 g.0.1, all_between b ss us ts e.1 f.1 g.1)

-- what is perhaps raised, under what is
pub raised_under : (b : ℕ) (base whole : List (StreamPrefix Plain)) → AllZip IsRaised base whole → AllZip (IsUnder b) (map (λ s. raised s b) base) whole
raised_under b [] [] r = tt
raised_under b [] (w ∷ ws) r = absurd r
raised_under b (s ∷ ss) [] r = absurd r
raised_under b (s ∷ ss) (w ∷ ws) r = ((r.0.packets, omega arith), raised_under b ss ws r.1)

still_raised : (b : ℕ) (base whole : List (StreamPrefix Plain)) → AllZip IsRaised base whole → AllZip IsRaised base (map (λ s. raised s b) whole)
still_raised b [] [] r = tt
still_raised b [] (w ∷ ws) r = absurd r
still_raised b (s ∷ ss) [] r = absurd r
still_raised b (s ∷ ss) (w ∷ ws) r = (record { packets = r.0.packets; bound = (let up = r.0.bound in omega (arith, up)) }, still_raised b ss ws r.1)

still_kept : (b : ℕ) (outputs : List (Backlog Plain)) (whole : List (StreamPrefix Plain)) → b ≤ done → StandForAll outputs whole → StandForAll (map (raised_output (Some b)) outputs) (map (λ s. raised s b) whole)
still_kept b [] [] le k = tt
still_kept b [] (w ∷ ws) le k = absurd k
still_kept b (o ∷ os) [] le k = absurd k
still_kept b (o ∷ os) (w ∷ ws) le k = (stands_raised (queue_of 0 o) b w le k.0, still_kept b os ws le k.1)

-- outputs may be raised: to a time, and nothing further stands below
pub record MayRise (b : ℕ) (whole streams : List (StreamPrefix Plain)) : Type 0 where
  pub within : b ≤ done
  pub extended : AreExtendedBy (map (λ s. raised s b) whole) streams

pub raised_engine : {laws : Laws} (job : LoggedJob laws) (number : ℕ) (engine : EngineView) (b : ℕ) (h : IsEngineOf job number engine) → MayRise b h.whole (streams_at h.streams h.node.outputs)
    → IsEngineOf job number (record engine { outputs = map (raised_output (Some b)) engine.outputs })
raised_engine {laws} job number engine b h may = record {
  streams = h.streams;
  solves = h.solves;
  node = h.node;
  there = h.there;
  set_up = record { role = h.set_up.role; number_is = h.set_up.number_is; first = h.set_up.first; offset = h.set_up.offset; in_flight = h.set_up.in_flight; inputs = h.set_up.inputs };
  begun = h.begun;
  claimed = h.claimed;
  taken = h.taken;
  closed = h.closed;
  whole = map (λ s. raised s b) h.whole;
  kept = still_kept b engine.outputs h.whole may.within h.kept;
  raised = still_raised b _ h.whole h.raised;
  extended = may.extended;
  fault = h.fault;
  order = h.order;
  entries = h.entries;
  idle = h.idle;
  contexts = h.contexts;
  waits = h.waits;
  ended = h.ended;
}
