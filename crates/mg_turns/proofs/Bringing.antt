-- The engine and the intake at the two ends of an edge are taken, and given back.
use Rattle.std.proofs.Common.{◌≡◌, ◌<◌, ◌+◌, ◌*◌, ℕ, refl, ◌∷◌, List, length, ap, ◌∙◌, sym, subst, arith, Some, slice_get, is_some, true}
use Rattle.atomic_table.specs.Table.{rest}
use Rattle.mg_calc.specs.Rules.{Laws}
use Rattle.mg_calc.specs.declared.edge.Edge.{Edge}
use Rattle.mg_node.specs.declared.delivered.Delivered.{Delivered}
use Rattle.mg_node.specs.Views.{IntakeView, EngineView}
use Rattle.mg_node.specs.Job.{LoggedJob, ports_of}
use Rattle.mg_node.specs.Lawful.{Owner, LawfulEngine, LawfulIntake}
use Rattle.mg_node.specs.IntakeStanding.{IntakeGrows}
use Rattle.mg_node.specs.Ports.{ports_in}
use Rattle.mg_node.specs.Delivery.{Delivers}
use Rattle.mg_node.specs.Leading.{output_at, Leads}
use Rattle.mg_node.proofs.Leads.{leads_port}
use Rattle.mg_turns.specs.Parts.{PartView, LayoutView, nodes_in, owner_in, ports_by, an_engine, an_intake, tally_since, came_to, Follows, FitsSome, source_at, EdgesFit}
use Rattle.mg_turns.specs.Turns.{Sight}
use Rattle.mg_turns.specs.Rule.{Sights, doubled, word_of}
use Rattle.mg_turns.specs.Sights.{Finds, left_two}
use Rattle.mg_turns.specs.Calls.{HasBrought}
use Rattle.mg_turns.specs.Code.Counts.{packets_in}
use Rattle.mg_turns.specs.Code.Plays.{Sat, turn_of_word, turning, gave, GivesPlainly, GivesBrought, TakenPair}
use Rattle.mg_turns.proofs.Words.{intake_at, source_apart}
use Rattle.mg_turns.proofs.Claims.{has_engine, has_intake, engine_kind, intake_kind}
use Rattle.mg_turns.proofs.Cells.{pair_intake}
use Rattle.mg_turns.proofs.Appends.{EdgeParts, ends, leads_of, edge_ports, bring_facts, brought_back, engine_again}
use Rattle.mg_turns.proofs.ArrivesWithin.{arrives_count, others_like}
use Rattle.mg_turns.proofs.Tallies.{came_more, brought_word}

pub source_there : (key : LayoutView) (k : ℕ) (e : Edge) (source size : ℕ) → EdgesFit key → slice_get key.plan.edges k ≡ Some e → source ≡ source_at key.plan e → length key.parts ≡ size → source < size
source_there key k e source size edges there is long = (let s = (edges.sources k e there).within in omega (arith, s, is, long))

pub ends_apart : (key : LayoutView) (k : ℕ) (e : Edge) (source : ℕ) → EdgesFit key → slice_get key.plan.edges k ≡ Some e → source ≡ source_at key.plan e → source ≡ 2 * e.node → ⊥
ends_apart key k e source edges there is same = source_apart key (source_at key.plan e) e.node (edges.sources k e there) (edges.consumers k e there) (sym is ∙ same)

module _ {laws : Laws} (m n : Sat) (key : LayoutView) (k : ℕ) (e : Edge) (source : ℕ) (p q : PartView) (r s : ℕ) (key-is : m.0.key ≡ key) (idle : length m.0.turns ≡ 0) (edges : EdgesFit key) (there : slice_get key.plan.edges k ≡ Some e)
    (source-is : source ≡ source_at key.plan e) (t : TakenPair laws m source p r (2 * e.node) q s n) where
  pub from_engine : is_some p.engine ≡ true
  from_engine = (let o = edges.sources k e there in has_engine key source o.owner p (subst (λ (x : LayoutView). Follows laws x source p) key-is t.1.1.follows) (ap (owner_in key) source-is ∙ o.is))

  to_follows : Follows laws key (2 * e.node) q
  to_follows = pair_intake m n key source (2 * e.node) p q r s key-is t

  pub to_intake : is_some q.intake ≡ true
  to_intake = has_intake key e.node q to_follows (edges.consumers k e there)

  module _ (g : EngineView) (i : IntakeView) (is : p.engine ≡ Some g) (is' : q.intake ≡ Some i) (exists : FitsSome laws key) where
    both_ends : EdgeParts laws key k e p q g i
    both_ends = ends m t.0 n key k source (2 * e.node) e p q key-is idle edges there source-is refl t.1 t.2 g i is is'

    pub edge_leads : Leads laws g e i
    edge_leads = leads_of key k e p q g i both_ends exists

    pub back_engine : (n₃ : Sat) (q' : PartView) → n₃ ≡ (gave n.0 (2 * e.node) q', rest n.1) → GivesPlainly laws n₃ source (an_engine g)
    back_engine n₃ q' back = engine_again m t.0 n key k source (2 * e.node) e p q key-is idle edges there source-is refl t.1 t.2 n₃ g q' is back

    module _ (result : Delivered) (j : IntakeView) (moved : Delivers result (output_at g e) e.port 256 i.waits j.waits) where
      pub back_intake : j.claimed ≡ i.claimed → IntakeGrows i j
          → ((job : LoggedJob laws) (owner : Owner) → LawfulEngine job owner g → LawfulIntake job e.node i → slice_get (ports_of job.job.plan e.node) e.port ≡ Some e.stream → LawfulIntake job e.node j)
          → GivesBrought laws n (2 * e.node) (an_intake j)
      back_intake claimed grows keeps = brought_back m t.0 n key k source (2 * e.node) e p q key-is idle edges there source-is refl t.1 t.2 j
          (bring_facts key k e p q g i j 256 result both_ends exists moved claimed grows keeps)

      came : came_to j.waits (ports_by key (owner_in key (2 * e.node))) ≡ came_to i.waits (ports_by key (owner_in key (2 * e.node))) + packets_in result
      came =
          let ports : ports_in i.waits ≡ length (ports_of key.plan e.node) = edge_ports key k e p q g i both_ends exists in
          let within = leads_port g e i edge_leads in
          let all : ports_by key (owner_in key (2 * e.node)) ≡ ports_in i.waits = ap (ports_by key) (intake_at (nodes_in key) e.node (edges.consumers k e there)) ∙ sym ports in
          subst (λ (x : ℕ). came_to j.waits x ≡ came_to i.waits x + packets_in result) (sym all)
          (came_more i.waits j.waits e.port (packets_in result) (ports_in i.waits) within (arrives_count result (output_at g e) e.port 256 i.waits j.waits within moved)
          (λ o apart less. let like = others_like result (output_at g e) e.port 256 i.waits j.waits o apart within less moved in
          let gone = like.gone in let packets = ap length like.packets in omega (arith, gone, packets)))

      pub brought_counted : (word : ℕ) → word ≡ doubled (tally_since m.0.key (2 * e.node) q + packets_in result) → word ≡ word_of n.0.key (2 * e.node) (an_intake j)
      brought_counted word counts =
          let q-is : q ≡ an_intake i = intake_kind key e.node q i to_follows (edges.consumers k e there) is' in
          let same : n.0.key ≡ key = ap (λ (x : Sat). x.0.key) t.2.0 ∙ (ap (λ (x : Sat). x.0.key) t.1.0 ∙ key-is) in
          counts ∙ (ap (λ (x : LayoutView). doubled (tally_since x (2 * e.node) q + packets_in result)) key-is
          ∙ (ap (λ (x : PartView). doubled (tally_since key (2 * e.node) x + packets_in result)) q-is
          ∙ (ap doubled (brought_word key (2 * e.node) i j (packets_in result) (subst (λ (x : PartView). Follows laws key (2 * e.node) x) q-is to_follows) came)
          ∙ ap (λ (x : LayoutView). word_of x (2 * e.node) (an_intake j)) (sym same))))

      pub has_brought : j.claimed ≡ i.claimed → (n₃ n₄ : Sat) → n₃ ≡ (gave n.0 (2 * e.node) (an_intake j), rest n.1) → n₄ ≡ (gave n₃.0 source (an_engine g), rest n₃.1) → HasBrought laws result (source_at key.plan e) e m.0 n₄.0
      has_brought claimed n₃ n₄ back back' =
          let o = edges.sources k e there in
          let from : Follows laws key source p = subst (λ (x : LayoutView). Follows laws x source p) key-is t.1.1.follows in
          let p-is : p ≡ an_engine g = engine_kind key source o.owner p g from (ap (owner_in key) source-is ∙ o.is) is in
          let q-is : q ≡ an_intake i = intake_kind key e.node q i to_follows (edges.consumers k e there) is' in
          let old = ap (λ (x : Sat). x.0.key) t.1.0 in
          let sights : Sights (2 * e.node) q m.0.seen = subst (λ (x : List Sight). Sights (2 * e.node) q x) (ap (λ (x : Sat). x.0.seen) t.1.0) t.2.1.sights in
          let found : Finds laws m.0 source (an_engine g) = subst (λ (x : PartView). Finds laws m.0 source x) p-is (record { follows = t.1.1.follows; sights = t.1.1.sights }) in
          let twice : n₄.0 ≡ left_two m.0 source (an_engine g) (2 * e.node) (an_intake j) m.0.work =
          ap (λ (x : Sat). x.0) back' ∙ (ap (λ (x : Sat). gave x.0 source (an_engine g)) back ∙ (ap (λ (x : Sat). gave (gave x.0 (2 * e.node) (an_intake j)) source (an_engine g)) t.2.0
          ∙ ap (λ (x : Sat). gave (gave (turning x.0 (turn_of_word x.0.key (2 * e.node) q ∷ x.0.turns)) (2 * e.node) (an_intake j)) source (an_engine g)) t.1.0)) in
          record {
            engine = g;
            intake = i;
            intake_now = j;
            engine_found = subst (λ (x : ℕ). Finds laws m.0 x (an_engine g)) source-is found;
            intake_found = subst (λ (x : PartView). Finds laws m.0 (2 * e.node) x) q-is (record { follows = subst (λ (x : LayoutView). Follows laws x (2 * e.node) q) old t.2.1.follows; sights = sights });
            behind = both_ends.joined g i is is';
            moved = moved;
            claimed = claimed;
            left = subst (λ (x : ℕ). n₄.0 ≡ left_two m.0 x (an_engine g) (2 * e.node) (an_intake j) m.0.work) source-is twice;
          }
