-- The tallies of parts, and their words.
use Rattle.mg_calc.specs.Rules.{Laws}
use Rattle.std.proofs.Common.{◌≡◌, ℕ, zero, suc, ◌+◌, ◌-◌, ◌*◌, ◌<◌, ◌≤◌, ◌≢◌, refl, ap, sym, ◌∙◌, subst, arith, Option, Some, None}
use mathlib.Core.Logic.{dite}
use native.Mathlib.Decide.{ℕ_discrete}
use Rattle.mg_node.specs.Views.{IntakeView, EngineView}
use Rattle.mg_stream.specs.Queue.{count_of}
use Rattle.mg_node.specs.declared.pending.Pending.{Pending}
use Rattle.mg_node.specs.Ports.{port_queue}
use Rattle.mg_node.specs.IntakeStanding.{Stays, IntakeGrows}
use Rattle.mg_node.specs.Standing.{EngineGrows}
use Rattle.mg_turns.specs.Parts.{LayoutView, at, owner_in, an_engine, an_intake, came_to, tally_by, tally_of, tally_since, ports_by, Grown, Follows}
use Rattle.mg_turns.specs.Rule.{doubled, word_of}
use Rattle.mg_turns.specs.Code.Plays.{CellWords}

-- if each port counts the same number of packets, so do all together
pub came_same : (v w : Pending) (n : ℕ) → ((port : ℕ) → count_of (port_queue w port) ≡ count_of (port_queue v port)) → came_to w n ≡ came_to v n
came_same v w zero same = refl
came_same v w (suc n) same = omega (arith, came_same v w n same, same n)

came_less : (v w : Pending) (n : ℕ) → ((port : ℕ) → count_of (port_queue v port) ≤ count_of (port_queue w port)) → came_to v n ≤ came_to w n
came_less v w zero less = omega arith
came_less v w (suc n) less = omega (arith, came_less v w n less, less n)

-- more came to one port, and none to the others
came_none : (v w : Pending) (port n : ℕ) → n ≤ port → ((other : ℕ) → other < n → count_of (port_queue w other) ≡ count_of (port_queue v other)) → came_to w n ≡ came_to v n
came_none v w port zero less same = refl
came_none v w port (suc n) less same = omega (arith, came_none v w port n (omega (arith, less)) (λ o h. same o (omega (arith, h))), same n (omega arith))

pub came_more : (v w : Pending) (port more n : ℕ) → port < n → count_of (port_queue w port) ≡ count_of (port_queue v port) + more
    → ((other : ℕ) → other ≢ port → other < n → count_of (port_queue w other) ≡ count_of (port_queue v other)) → came_to w n ≡ came_to v n + more
came_more v w port more zero less here same = absurd (omega (arith, less))
came_more v w port more (suc n) less here same = dite (ℕ_discrete port n)
    (λ z.
    let at-n : count_of (port_queue w n) ≡ count_of (port_queue v n) + more = subst (λ (x : ℕ). count_of (port_queue w x) ≡ count_of (port_queue v x) + more) z here in
    omega (arith, came_none v w port n (omega (arith, z)) (λ o h. same o (λ e. omega (arith, e, h, z)) (omega (arith, h))), at-n))
    (λ ne. omega (arith, came_more v w port more n (omega (arith, less, ne)) here (λ o apart h. same o apart (omega (arith, h))), same n (λ e. ne (sym e)) (omega arith)))

-- what was laid before
engine_base : (ports : ℕ) (a : Option EngineView) (i : Option IntakeView) (e : EngineView) → Grown EngineGrows a (Some e) → tally_by ports a i ≤ e.laid
engine_base ports None i e g = absurd g
engine_base ports (Some x) i e g = g.laid

-- the word of an engine that laid more
pub cell_words : {laws : Laws} (key : LayoutView) (n : ℕ) (e f : EngineView) (i k : IntakeView) (engine_word laid intake_word : ℕ) → Follows laws key (2 * n + 1) (an_engine e)
    → engine_word ≡ word_of key (2 * n + 1) (an_engine e) → laid ≡ e.laid → intake_word ≡ word_of key (2 * n) (an_intake i)
    → EngineGrows e f → ((port : ℕ) → Stays (port_queue i.waits port) (port_queue k.waits port))
    → CellWords key n f engine_word laid k intake_word
cell_words {laws} key n e f i k engine_word laid intake_word follows word laid-is intake grows stays =
    let base = engine_base (ports_by key (owner_in key (2 * n + 1))) (at key (2 * n + 1)).engine (at key (2 * n + 1)).intake e follows.grows.engine in
    let more = grows.laid in
    record {
      tally = tally_since key (2 * n + 1) (an_engine e);
      found = word;
      more = omega (arith, laid-is, more);
      now = omega (arith, laid-is, more, base);
      intake = intake ∙ ap (λ (c : ℕ). doubled (c - tally_of key (2 * n) (at key (2 * n)))) (sym (came_same i.waits k.waits (ports_by key (owner_in key (2 * n))) (λ port. (stays port).count)));
    }

intake_base : (ports : ℕ) (a : Option EngineView) (b : Option IntakeView) (i : IntakeView) → Grown EngineGrows a None → Grown IntakeGrows b (Some i) → tally_by ports a b ≤ came_to i.waits ports
intake_base ports (Some x) b i g h = absurd g
intake_base ports None None i g h = absurd h
intake_base ports None (Some x) i g h = came_less x.waits i.waits ports (λ port. (h.ports port).count)

-- the word of an intake to which so many more came
pub brought_word : {laws : Laws} (key : LayoutView) (word : ℕ) (i j : IntakeView) (more : ℕ) → Follows laws key word (an_intake i) → came_to j.waits (ports_by key (owner_in key word)) ≡ came_to i.waits (ports_by key (owner_in key word)) + more
    → tally_since key word (an_intake i) + more ≡ tally_since key word (an_intake j)
brought_word {laws} key word i j more follows came =
    let base = intake_base (ports_by key (owner_in key word)) (at key word).engine (at key word).intake i follows.grows.engine follows.grows.intake in
    omega (arith, came, base)
