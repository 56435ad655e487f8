use Rattle.mg_calc.specs.declared.event.Event.TheVariants.{Commit}
use Rattle.mg_sched.specs.Code.Left.{RestsAt}
use Rattle.mg_sched.proofs.Becoming.{becomes_one}
use Rattle.mg_sched.proofs.RestingFinds.{finds_one, commits_found}
use Rattle.mg_sched.proofs.net.Net.lays_at.Goals as goal

pub returns-in_ok-did-in-Some-clause-finds : goal.returns-in_ok-did-in-Some-clause-finds
returns-in_ok-did-in-Some-clause-finds g c =
    commits_found g.C.NodeCalculator.laws c.in_ok-did-in-Some.did (RestsAt g.C.NodeCalculator.laws c.args.self.now c.args.node) c.args.node c.in-Some.number c.args.self.now c.commit.new.self c.in-Some.ensures.some
    (finds_one c.in_ok-did-in-Some.did (Commit c.args.node c.in-Some.number) c.commit.result c.args.self.now c.commit.new.self c.requires.there c.requires.running c.requires.stands c.in_ok-did-in-Some.ensures c.commit.ensures)

pub returns-in_ok-did-in-Some-clause-becomes : goal.returns-in_ok-did-in-Some-clause-becomes
returns-in_ok-did-in-Some-clause-becomes g c = becomes_one (Commit c.args.node c.in-Some.number) c.commit.result c.args.self.now c.commit.new.self c.requires.there c.commit.ensures

pub returns-in_err-did-in-Some-clause-becomes : goal.returns-in_err-did-in-Some-clause-becomes
returns-in_err-did-in-Some-clause-becomes g c = becomes_one (Commit c.args.node c.in-Some.number) c.commit.result c.args.self.now c.commit.new.self c.requires.there c.commit.ensures
