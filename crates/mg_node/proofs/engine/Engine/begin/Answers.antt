use Rattle.std.proofs.Common.{ap, sym, subst}
use Rattle.mg_node.specs.Views.{EngineView}
use Rattle.mg_node.specs.Begun.{LawfulUnbegun}
use Rattle.mg_node.specs.Standing.{EngineGrows}
use Rattle.mg_node.proofs.Growing.{engine_same}
use Rattle.mg_node.proofs.FrontGrows.{opening_grows, begin_grows}
use Rattle.mg_node.proofs.EngineFronts.{on_err}
use Rattle.mg_node.proofs.BeginKeeps.{begin_lawful, opened_unbegun}
use Rattle.mg_node.proofs.EngineOpening.{opened_whole, opened_few, begun_so, with_begun}
use Rattle.mg_node.proofs.engine.Engine.begin.Goals as goal

pub lay_front-requires-clause-whole : goal.lay_front-requires-clause-whole
lay_front-requires-clause-whole g c =
    opened_whole c.requires.node c.requires.number c.requires.told c.args.sides.now c.open_once.new.self (c.in_ok-open_once.ensures.opened c.requires.node c.requires.number c.requires.told c.requires.unbegun)

pub lay_front-requires-clause-few : goal.lay_front-requires-clause-few
lay_front-requires-clause-few g c =
    opened_few c.requires.node c.requires.number c.requires.told c.args.sides.now c.open_once.new.self (c.in_ok-open_once.ensures.opened c.requires.node c.requires.number c.requires.told c.requires.unbegun)

pub returns-clause-begun : goal.returns-clause-begun
returns-clause-begun g c = λ node number told new unbegun.
    begun_so node number told c.args.sides.now c.open_once.new.self c.lay_front.new.self _ c.in_ok-lay_front.field-0 new (c.in_ok-open_once.ensures.opened node number told unbegun) c.in_ok-lay_front.ensures.laid (ap with_begun c.self.view_is)

pub returns-clause-grows : goal.returns-clause-grows
returns-clause-grows g c =
    begin_grows c.requires.node c.requires.number c.requires.told c.args.sides.now c.args.self.now c.open_once.new.self c.lay_front.new.self _ c.in_ok-lay_front.field-0 c.requires.unbegun
    (c.in_ok-open_once.ensures.opened c.requires.node c.requires.number c.requires.told c.requires.unbegun) c.in_ok-lay_front.ensures.laid (ap with_begun c.self.view_is)

pub returns-in_err-open_once-clause-grows : goal.returns-in_err-open_once-clause-grows
returns-in_err-open_once-clause-grows g c = engine_same _ _ c.in_err-open_once.ensures.unchanged

pub returns-in_err-lay_front-clause-grows : goal.returns-in_err-lay_front-clause-grows
returns-in_err-lay_front-clause-grows g c =
    subst (λ (v : EngineView). EngineGrows c.args.self.now v) (sym c.in_err-lay_front.ensures.unchanged)
    (opening_grows c.requires.node c.requires.number c.requires.told c.args.sides.now c.args.self.now c.open_once.new.self c.requires.unbegun (c.in_ok-open_once.ensures.opened c.requires.node c.requires.number c.requires.told c.requires.unbegun))

pub returns-clause-lawful : goal.returns-clause-lawful
returns-clause-lawful g c = λ job number node streams solves there sides unbegun.
    begin_lawful job streams number node c.args.sides.now c.args.self.now _ solves there sides unbegun (λ told new made. returns-clause-begun g c node number told new made)

pub returns-in_err-open_once-clause-lawful_unbegun : goal.returns-in_err-open_once-clause-lawful_unbegun
returns-in_err-open_once-clause-lawful_unbegun g c = λ job number node there sides unbegun. on_err _ _ (subst (λ (v : EngineView). LawfulUnbegun job number v) (sym c.in_err-open_once.ensures.unchanged) unbegun)

pub returns-in_err-lay_front-clause-lawful_unbegun : goal.returns-in_err-lay_front-clause-lawful_unbegun
returns-in_err-lay_front-clause-lawful_unbegun g c = λ job number node there sides unbegun.
    on_err _ _
    (opened_unbegun job number node c.args.sides.now c.args.self.now c.open_once.new.self c.lay_front.new.self there sides unbegun (λ told made. c.in_ok-open_once.ensures.opened node number told made) c.in_err-lay_front.ensures.unchanged)
