use Rattle.std.proofs.Common.{ℕ, ◌-◌, length, set, ap, sym, subst, ◌∙◌, arith}
use Rattle.std.proofs.lemmas.Option.{slice_get_within}
use Rattle.mg_node.specs.Views.{EngineView}
use Rattle.mg_node.specs.Lawful.{LawfulEngine, of_node}
use Rattle.mg_node.specs.Shelves.{back}
use Rattle.mg_node.specs.Standing.{EngineGrows}
use Rattle.mg_node.specs.Out.{ComesBack, KeepsSetUp}
use Rattle.mg_node.proofs.Growing.{window_grows}
use Rattle.mg_node.proofs.KeptOut.{window_set_up}
use Rattle.mg_node.proofs.StaysOut.{shelved_back}
use Rattle.mg_node.proofs.Shelving.{shelved_lawful, with_window}
use Rattle.mg_node.proofs.engine.Engine.shelve.Goals as goal

pub put_back-requires : goal.put_back-requires
put_back-requires g c =
    (let within = slice_get_within c.args.self.now.window _ c.requires.out.entry c.requires.out.there in
    let laid = ap (λ (v : EngineView). v.laid) c.self.view_is in
    let long = ap (λ (v : EngineView). length v.window) c.self.view_is in
    omega (arith, within, c.number.ensures, laid, long))

pub returns-clause-shelved : goal.returns-clause-shelved
returns-clause-shelved g c =
    ap (λ (v : EngineView). with_window v c.put_back.new.window.items) c.self.view_is
    ∙ ap (with_window c.args.self.now)
    (c.put_back.ensures.items ∙ ap (λ (k : ℕ). set c.self.inside.window.items (k - c.self.inside.laid) (back c.args.outcome)) c.number.ensures
    ∙ ap (λ (v : EngineView). set v.window (c.args.outcome.work.number - v.laid) (back c.args.outcome)) c.self.view_is)

pub returns-clause-comes_back : goal.returns-clause-comes_back
returns-clause-comes_back g c =
    subst (λ (v : EngineView). ComesBack c.args.self.now v c.args.outcome.work.number) (sym (returns-clause-shelved g c)) (shelved_back c.args.self.now c.args.outcome c.requires.out)

pub returns-clause-set_up : goal.returns-clause-set_up
returns-clause-set_up g c = subst (λ (v : EngineView). KeepsSetUp c.args.self.now v) (sym (returns-clause-shelved g c)) (window_set_up c.args.self.now _)

pub returns-clause-grows : goal.returns-clause-grows
returns-clause-grows g c = subst (λ (v : EngineView). EngineGrows c.args.self.now v) (sym (returns-clause-shelved g c)) (window_grows c.args.self.now _ c.args.self.now.idle)

pub returns-clause-lawful : goal.returns-clause-lawful
returns-clause-lawful g c = λ job number engine outcome.
    subst (λ (v : EngineView). LawfulEngine job (of_node number) v)
    (sym (returns-clause-shelved g c))
    (shelved_lawful job number c.args.self.now c.args.outcome c.requires.out engine outcome)
