-- What a delivery leaves of an intake, and what the seat may give back then.
use Rattle.std.proofs.Common.{◌≡◌, ◌≢◌, ◌<◌, ◌≤◌, ◌-◌, ◌*◌, ℕ, zero, suc, refl, [], ◌∷◌, List, length, map, get_or, ap, ◌∙◌, sym, subst, arith, Option, Some, None, slice_get}
use Rattle.std.proofs.lemmas.List.{length-map}
use Rattle.std.proofs.lemmas.Option.{none-some, slice_get_within}
use lib.ListN.{get_elem?}
use Rattle.atomic_table.specs.Table.{rest}
use Rattle.mg_value.specs.Payload.{Plain}
use Rattle.mg_value.specs.Packet.{Stamped}
use Rattle.mg_stream.specs.Queue.{count_of}
use Rattle.mg_stream.specs.Pool.{Backlog, empty_backlog}
use Rattle.mg_calc.specs.Rules.{Laws}
use Rattle.mg_calc.specs.declared.edge.Edge.{Edge}
use Rattle.mg_calc.specs.declared.plan.Plan.{Plan}
use Rattle.mg_node.specs.declared.delivered.Delivered.{Delivered}
use Rattle.mg_node.specs.Views.{IntakeView, EngineView}
use Rattle.mg_node.specs.Job.{LoggedJob, ports_of}
use Rattle.mg_node.specs.Lawful.{Owner, AgreeBy, LawfulEngine, LawfulIntake, Agree}
use Rattle.mg_node.specs.IntakeStanding.{HasGrown, IntakeGrows}
use Rattle.mg_node.specs.Ports.{ports_in, port_queue}
use Rattle.mg_node.specs.Delivery.{Delivers}
use Rattle.mg_node.specs.Leading.{output_at, Leads}
use Rattle.mg_node.proofs.Knowing.{intake_ports}
use Rattle.mg_node.proofs.Making.{some_same}
use Rattle.mg_node.proofs.Leads.{leads_port, leads_one}
use Rattle.mg_turns.specs.Parts.{PartView, LayoutView, at, nodes_in, owner_in, IsEngineWord, an_engine, an_intake, PartGrows, Grown, Fits, FitsSome, gone_by, gone_in, first_by, first_in, arrived_by, Follows, source_at, JoinedParts, EdgesFit}
use Rattle.mg_turns.specs.Turns.{Turn}
use Rattle.mg_turns.specs.Code.Plays.{Sat, turn_of_word, turning, with_miss, gave, Like, HoldsTurn, GivesPlainly, GivesBrought}
use Rattle.mg_turns.proofs.Grows.{part_same, like_self, joins_self}
use Rattle.mg_turns.proofs.Ends.{nil}
use Rattle.mg_turns.proofs.Claims.{gones, engine_of_part, engine_kind, intake_of_part, intake_kind, lawful_at, lawful_i, intake_follows_on}
use Rattle.mg_turns.proofs.ArrivesWithin.{arrives_within, others_like}

-- the parts at the ends of an edge
pub record EdgeParts (laws : Laws) (key : LayoutView) (k : ℕ) (e : Edge) (p q : PartView) (g : EngineView) (i : IntakeView) : Type 0 where
  pub edges : EdgesFit key
  pub there : slice_get key.plan.edges k ≡ Some e
  pub engine : Follows laws key (source_at key.plan e) p
  pub intake : Follows laws key (2 * e.node) q
  pub joined : JoinedParts p e q
  pub engine_is : p.engine ≡ Some g
  pub intake_is : q.intake ≡ Some i

pub source_of : {laws : Laws} (key : LayoutView) (k : ℕ) (e : Edge) (p q : PartView) (g : EngineView) (i : IntakeView) → EdgeParts laws key k e p q g i → IsEngineWord key (source_at key.plan e)
source_of {laws} key k e p q g i c = c.edges.sources k e c.there

pub consumer_of : {laws : Laws} (key : LayoutView) (k : ℕ) (e : Edge) (p q : PartView) (g : EngineView) (i : IntakeView) → EdgeParts laws key k e p q g i → e.node ≤ nodes_in key
consumer_of {laws} key k e p q g i c = c.edges.consumers k e c.there

stream_at : {laws : Laws} (key : LayoutView) (job : LoggedJob laws) (k : ℕ) (e : Edge) → Fits job key → EdgesFit key → slice_get key.plan.edges k ≡ Some e → slice_get (ports_of job.job.plan e.node) e.port ≡ Some e.stream
stream_at {laws} key job k e fits edges there = subst (λ (x : Plan). slice_get (ports_of x e.node) e.port ≡ Some e.stream) (sym fits.plan) (edges.ports k e there)

pub gone_get : (bs : List (Backlog Plain)) (k : ℕ) → (get_or bs k empty_backlog).gone ≡ get_or (map (λ (b : Backlog Plain). b.gone) bs) k 0
gone_get [] zero = refl
gone_get [] (suc k) = refl
gone_get (b ∷ bs) zero = refl
gone_get (b ∷ bs) (suc k) = gone_get bs k

count_grows : (a b : Option IntakeView) (i : IntakeView) (port : ℕ) → Grown IntakeGrows a b → b ≡ Some i → arrived_by a port ≤ count_of (port_queue i.waits port)
count_grows None b i port g is = omega arith
count_grows (Some x) None i port g is = absurd g
count_grows (Some x) (Some y) i port g is =
    let same : y ≡ i = some_same (Some y) y i refl is in
    let c = (g.ports port).count in
    subst (λ (v : IntakeView). count_of (port_queue x.waits port) ≤ count_of (port_queue v.waits port)) same c

pub leads_of : {laws : Laws} (key : LayoutView) (k : ℕ) (e : Edge) (p q : PartView) (g : EngineView) (i : IntakeView) → EdgeParts laws key k e p q g i → FitsSome laws key → Leads laws g e i
leads_of {laws} key k e p q g i c exists =
    let o = source_of key k e p q g i c in
    let first : g.first ≡ first_in (at key (source_at key.plan e)) = ap first_by (sym c.engine_is) ∙ c.engine.first in
    let gone : gones g ≡ gone_in (at key (source_at key.plan e)) = ap gone_by (sym c.engine_is) ∙ c.engine.gave_up in
    let long = ap (λ (l : List ℕ). length l) gone in
    let l = c.edges.leaves k e c.there in
    let kept = c.edges.kept k e c.there in
    let low : (output_at g e).gone ≡ get_or (gone_in (at key (source_at key.plan e))) (e.stream - first_in (at key (source_at key.plan e))) 0 =
    gone_get g.outputs (e.stream - g.first) ∙ (ap (λ (x : ℕ). get_or (gones g) (e.stream - x) 0) first ∙ ap (λ (x : List ℕ). get_or x (e.stream - first_in (at key (source_at key.plan e))) 0) gone) in
    let more = count_grows (at key (2 * e.node)).intake q.intake i e.port c.intake.grows.intake c.intake_is in
    record {
      job = exists.job;
      owner = o.owner;
      lawful_engine = lawful_at key exists.job (source_at key.plan e) o.owner p g exists.fits c.engine o.is c.engine_is;
      lawful_intake = lawful_i key exists.job e.node q i exists.fits c.intake (consumer_of key k e p q g i c) c.intake_is;
      stream = stream_at key exists.job k e exists.fits c.edges c.there;
      leaves = record { from = omega (arith, first, l.0); below = omega (arith, first, l.1, long, length-map g.outputs (λ (b : Backlog Plain). b.gone)) };
      held = omega (arith, low, kept, more);
    }

-- what a delivery makes of the intake
pub record BringFacts (laws : Laws) (key : LayoutView) (k : ℕ) (e : Edge) (p q : PartView) (j : IntakeView) : Type 0 where
  pub grows : PartGrows q (an_intake j)
  pub follows : Follows laws key (2 * e.node) (an_intake j)
  pub like : Like q (an_intake j)
  pub joined : JoinedParts p e (an_intake j)
  pub others : (l : ℕ) (x : Edge) (r : PartView) → l ≢ k → slice_get key.plan.edges l ≡ Some x → x.node ≡ e.node → JoinedParts r x q → JoinedParts r x (an_intake j)

bring_like : (q : PartView) (i j : IntakeView) → q ≡ an_intake i → q.intake ≡ Some i → j.claimed ≡ i.claimed → Like q (an_intake j)
bring_like q i j q-is is claimed = record {
  agree = λ r h e k no at. absurd (none-some e no);
  agree_there = λ r h e k at at'. subst (λ (v : IntakeView). Agree e v) (intake_of_part (an_intake j) j k refl at') (subst (λ (n : ℕ). AgreeBy e.role e.claimed n) (sym claimed) (h e i at is));
  out = λ x o. absurd (none-some o.0 (ap (λ (v : PartView). v.engine) (sym q-is) ∙ o.1));
  only = λ k m. absurd (none-some m.0 m.1);
}

pub edge_ports : {laws : Laws} (key : LayoutView) (k : ℕ) (e : Edge) (p q : PartView) (g : EngineView) (i : IntakeView) → EdgeParts laws key k e p q g i → FitsSome laws key → ports_in i.waits ≡ length (ports_of key.plan e.node)
edge_ports {laws} key k e p q g i c exists =
    intake_ports exists.job e.node i (lawful_i key exists.job e.node q i exists.fits c.intake (consumer_of key k e p q g i c) c.intake_is) ∙ ap (λ (x : Plan). length (ports_of x e.node)) exists.fits.plan

pub bring_facts : {laws : Laws} (key : LayoutView) (k : ℕ) (e : Edge) (p q : PartView) (g : EngineView) (i j : IntakeView) (most : ℕ) (result : Delivered) → EdgeParts laws key k e p q g i → FitsSome laws key
    → Delivers result (output_at g e) e.port most i.waits j.waits → j.claimed ≡ i.claimed → IntakeGrows i j
    → ((job : LoggedJob laws) (owner : Owner) → LawfulEngine job owner g → LawfulIntake job e.node i → slice_get (ports_of job.job.plan e.node) e.port ≡ Some e.stream → LawfulIntake job e.node j)
    → BringFacts laws key k e p q j
bring_facts {laws} key k e p q g i j most result c exists moved claimed grows keeps =
    let within = consumer_of key k e p q g i c in
    let q-is : q ≡ an_intake i = intake_kind key e.node q i c.intake within c.intake_is in
    let lead = leads_of key k e p q g i c exists in
    let there = leads_port g e i lead in
    let ports : ports_in i.waits ≡ length (ports_of key.plan e.node) = edge_ports key k e p q g i c exists in
    let follows = intake_follows_on key e.node q i j c.intake within c.intake_is grows (λ _. claimed) (λ job fits.
    let o = source_of key k e p q g i c in
    keeps job o.owner (lawful_at key job (source_at key.plan e) o.owner p g fits c.engine o.is c.engine_is) (lawful_i key job e.node q i fits c.intake within c.intake_is) (stream_at key job k e fits c.edges c.there)) in
    record {
      grows = follows.0;
      follows = follows.1;
      like = bring_like q i j q-is c.intake_is claimed;
      joined = λ x y at-x at-y.
          let before = c.joined g i c.engine_is c.intake_is in
          let now = arrives_within result (output_at g e) e.port most i.waits j.waits (leads_one g e i lead) there before moved in
          subst (λ (v : EngineView). HasGrown (port_queue y.waits e.port) (output_at v e)) (engine_of_part p g x c.engine_is at-x) (subst (λ (v : IntakeView). HasGrown (port_queue v.waits e.port) (output_at g e)) (intake_of_part (an_intake j) j y refl at-y) now);
      others = λ l x r ne at-l node old a y at-a at-y.
          let before = old a i at-a c.intake_is in
          let within : x.port < ports_in i.waits = omega (arith, ports, slice_get_within (ports_of key.plan e.node) x.port x.stream (ap (λ (n : ℕ). slice_get (ports_of key.plan n) x.port) (sym node) ∙ c.edges.ports l x at-l)) in
          let like = others_like result (output_at g e) e.port most i.waits j.waits x.port (c.edges.apart l k x e ne at-l c.there node) there within moved in
          let gone = like.gone in let packets = ap (λ (ps : List (Stamped Plain)). length ps) like.packets in let bound = like.bound in
          let count = before.count in let low = before.bound in
          subst (λ (v : IntakeView). HasGrown (port_queue v.waits x.port) (output_at a x)) (intake_of_part (an_intake j) j y refl at-y) (record { count = omega (arith, gone, packets, count); bound = omega (arith, bound, low) });
    }

-- what the seat has at each place of a delivery: it took the turn of the engine, and then that of the intake
module _ {laws : Laws} (m n₁ n₂ : Sat) (key : LayoutView) (k source word : ℕ) (e : Edge) (p q : PartView) (key-is : m.0.key ≡ key) (idle : length m.0.turns ≡ 0) (edges : EdgesFit key) (there : slice_get key.plan.edges k ≡ Some e) (source-is : source ≡ source_at key.plan e) (word-is : word ≡ 2 * e.node)
    (one : HoldsTurn laws m source p n₁) where
  first_key : n₁.0.key ≡ key
  first_key = ap (λ (s : Sat). s.0.key) one.0 ∙ key-is

  pub after_miss : n₂ ≡ (with_miss n₁.0 word, n₁.1) → GivesPlainly laws n₂ source p
  after_miss miss = subst (λ (s : Sat). GivesPlainly laws s source p) (sym (miss ∙ ap (λ (s : Sat). (with_miss s.0 word, s.1)) one.0))
      (turn_of_word m.0.key source p, m.0.turns, record { slot = refl; turns = refl; word_is = refl; grows = part_same p; follows = one.1.follows }, like_self p, joins_self p)

  module _ (two : HoldsTurn laws n₁ word q n₂) where
    both : n₂ ≡ (turning m.0 (turn_of_word m.0.key word q ∷ turn_of_word m.0.key source p ∷ m.0.turns), (word, None) ∷ (source, None) ∷ m.1)
    both = two.0 ∙ ap (λ (s : Sat). (turning s.0 (turn_of_word s.0.key word q ∷ s.0.turns), (word, None) ∷ s.1)) one.0

    pub ends : (g : EngineView) (i : IntakeView) → p.engine ≡ Some g → q.intake ≡ Some i → EdgeParts laws key k e p q g i
    ends g i is is' = record {
      edges = edges;
      there = there;
      engine = subst (λ (w : ℕ). Follows laws key w p) source-is (subst (λ (f : LayoutView). Follows laws f source p) key-is one.1.follows);
      intake = subst (λ (w : ℕ). Follows laws key w q) word-is (subst (λ (f : LayoutView). Follows laws f word q) first_key two.1.follows);
      joined = two.1.joined k 0 e (turn_of_word m.0.key source p) (ap (λ (f : LayoutView). slice_get f.plan.edges k) first_key ∙ there) word-is
          (ap (λ (s : Sat). get_elem? s.0.turns 0) one.0) (source-is ∙ ap (λ (f : LayoutView). source_at f.plan e) (sym first_key));
      engine_is = is;
      intake_is = is';
    }

    pub brought_back : (j : IntakeView) → BringFacts laws key k e p q j → GivesBrought laws n₂ word (an_intake j)
    brought_back j f = subst (λ (s : Sat). GivesBrought laws s word (an_intake j)) (sym both) (record {
      k = k;
      e = e;
      there = ap (λ (x : LayoutView). slice_get x.plan.edges k) key-is ∙ there;
      node = word-is;
      t = turn_of_word m.0.key word q;
      u = turn_of_word m.0.key source p;
      gives = record {
        slot = refl;
        turns = ap (λ (l : List Turn). turn_of_word m.0.key word q ∷ turn_of_word m.0.key source p ∷ l) (nil m.0.turns idle);
        word_is = refl;
        grows = f.grows;
        follows = subst (λ (x : LayoutView). Follows laws x word (an_intake j)) (sym key-is) (subst (λ (w : ℕ). Follows laws key w (an_intake j)) (sym word-is) f.follows);
      };
      at_u = source-is ∙ ap (λ (x : LayoutView). source_at x.plan e) (sym key-is);
      like = f.like;
      joined = f.joined;
      others = λ l x r ne at node old. f.others l x r ne (ap (λ (y : LayoutView). slice_get y.plan.edges l) (sym key-is) ∙ at) node old;
    })

    -- the engine is as it was found
    pub engine_again : (n₃ : Sat) (g : EngineView) (q' : PartView) → p.engine ≡ Some g → n₃ ≡ (gave n₂.0 word q', rest n₂.1) → GivesPlainly laws n₃ source (an_engine g)
    engine_again n₃ g q' is after =
        let follows : Follows laws key source p = subst (λ (f : LayoutView). Follows laws f source p) key-is one.1.follows in
        let o = edges.sources k e there in
        let p-is : p ≡ an_engine g = engine_kind key source o.owner p g follows (ap (owner_in key) source-is ∙ o.is) is in
        subst (λ (x : PartView). GivesPlainly laws n₃ source x) p-is (subst (λ (s : Sat). GivesPlainly laws s source p) (sym (after ∙ ap (λ (s : Sat). (gave s.0 word q', rest s.1)) both))
        (turn_of_word m.0.key source p, m.0.turns, record { slot = refl; turns = refl; word_is = refl; grows = part_same p; follows = one.1.follows }, like_self p, joins_self p))
