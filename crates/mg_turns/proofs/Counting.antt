-- An intake is looked at, and given back as it was found.
use Rattle.std.proofs.Common.{◌≡◌, ◌<◌, ◌*◌, ℕ, refl, length, ap, ◌∙◌, sym, subst, Some, slice_get, is_some, true}
use Rattle.std.proofs.lemmas.Option.{slice_get_within}
use Rattle.atomic_table.specs.Table.{rest}
use Rattle.mg_calc.specs.Rules.{Laws}
use Rattle.mg_calc.specs.declared.edge.Edge.{Edge}
use Rattle.mg_calc.specs.declared.plan.Plan.{Plan}
use Rattle.mg_node.specs.Views.{IntakeView}
use Rattle.mg_node.specs.Job.{ports_of}
use Rattle.mg_node.proofs.Knowing.{intake_ports}
use Rattle.mg_node.specs.Ports.{ports_in, port_queue}
use Rattle.mg_turns.specs.Parts.{PartView, LayoutView, an_intake, Follows, FitsSome, EdgesFit}
use Rattle.mg_turns.specs.Sights.{Finds}
use Rattle.mg_turns.specs.Calls.{HasCounted}
use Rattle.mg_turns.specs.Code.Plays.{Sat, turn_of_word, gave, GivesPlainly, HoldsTurn}
use Rattle.mg_turns.proofs.Grows.{part_same, like_self, joins_self}
use Rattle.mg_turns.proofs.Claims.{has_intake, intake_kind, lawful_i}

module _ {laws : Laws} (m n : Sat) (key : LayoutView) (k : ℕ) (e : Edge) (q : PartView) (key-is : m.0.key ≡ key) (edges : EdgesFit key) (there : slice_get key.plan.edges k ≡ Some e) (one : HoldsTurn laws m (2 * e.node) q n) where
  follows : Follows laws key (2 * e.node) q
  follows = subst (λ (x : LayoutView). Follows laws x (2 * e.node) q) key-is one.1.follows

  pub it_is_intake : is_some q.intake ≡ true
  it_is_intake = has_intake key e.node q follows (edges.consumers k e there)

  module _ (i : IntakeView) (is : q.intake ≡ Some i) where
    kind : q ≡ an_intake i
    kind = intake_kind key e.node q i follows (edges.consumers k e there) is

    pub port_there : FitsSome laws key → e.port < ports_in i.waits
    port_there exists =
        let ports : ports_in i.waits ≡ length (ports_of key.plan e.node) = intake_ports exists.job e.node i (lawful_i key exists.job e.node q i exists.fits follows (edges.consumers k e there) is)
        ∙ ap (λ (x : Plan). length (ports_of x e.node)) exists.fits.plan in
        subst (λ (x : ℕ). e.port < x) (sym ports) (slice_get_within (ports_of key.plan e.node) e.port e.stream (edges.ports k e there))

    pub looked_at : GivesPlainly laws n (2 * e.node) (an_intake i)
    looked_at =
        subst (λ (x : PartView). GivesPlainly laws n (2 * e.node) x) kind (subst (λ (s : Sat). GivesPlainly laws s (2 * e.node) q) (sym one.0)
        (turn_of_word m.0.key (2 * e.node) q, m.0.turns, record { slot = refl; turns = refl; word_is = refl; grows = part_same q; follows = one.1.follows }, like_self q, joins_self q))

    pub has_counted : (waiting : ℕ) → waiting ≡ length (port_queue i.waits e.port).packets → (n₂ : Sat) → n₂ ≡ (gave n.0 (2 * e.node) (an_intake i), rest n.1) → HasCounted laws waiting e m.0 n₂.0
    has_counted waiting counted n₂ after = record {
      intake = i;
      found = subst (λ (x : PartView). Finds laws m.0 (2 * e.node) x) kind (record { follows = one.1.follows; sights = one.1.sights });
      waits = counted;
      left = ap (λ (s : Sat). s.0) after ∙ ap (λ (s : Sat). gave s.0 (2 * e.node) (an_intake i)) one.0;
    }
