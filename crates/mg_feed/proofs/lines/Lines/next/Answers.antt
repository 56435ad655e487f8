use Rattle.std.proofs.Common.{refl, subst}
use Rattle.mg_feed.specs.Code.Readers.{reading_of, left_of}
use Rattle.mg_feed.specs.Code.Handing.{Finds}
use Rattle.mg_feed.specs.declared.lines.Found.{Found}
use Rattle.mg_feed.proofs.LinesOut.{next-stops, next-takes, stops-any, takes-any}
use Rattle.mg_feed.proofs.lines.Lines.next.Goals as goal

pub returns-in_ok-next-in-At-clause-comes : goal.returns-in_ok-next-in-At-clause-comes
returns-in_ok-next-in-At-clause-comes g c =
    next-takes c.args.longest c.in_ok-next-in-At.next _ _ _ _ _ _
    (subst (λ (f : Found). Finds c.args.longest f (left_of c.find.new.self.reader) (g.S.Source.told c.args.source.now) (g.S.Source.told c.find.new.source) (reading_of c.args.self.now.reader) (reading_of c.find.new.self.reader)) c.in-At.is c.in_ok-found.ensures.finds).0
    c.in_ok-next-in-At.ensures.takes

pub returns-in_ok-next-in-At-clause-any : goal.returns-in_ok-next-in-At-clause-any
returns-in_ok-next-in-At-clause-any g c = takes-any c.args.longest c.in_ok-next-in-At.next _ _ _ c.take.new.self.reader refl c.in_ok-next-in-At.ensures.takes

pub returns-in-Stop-clause-comes : goal.returns-in-Stop-clause-comes
returns-in-Stop-clause-comes g c =
    next-stops c.args.longest c.in-Stop.next _ _ _ _ _
    (subst (λ (f : Found). Finds c.args.longest f (left_of c.find.new.self.reader) (g.S.Source.told c.args.source.now) (g.S.Source.told c.find.new.source) (reading_of c.args.self.now.reader) (reading_of c.find.new.self.reader)) c.in-Stop.is c.in_ok-found.ensures.finds)

pub returns-in-Stop-clause-any : goal.returns-in-Stop-clause-any
returns-in-Stop-clause-any g c =
    stops-any c.args.longest c.in-Stop.next _ _ _ _ c.find.new.self.reader refl
    (subst (λ (f : Found). Finds c.args.longest f (left_of c.find.new.self.reader) (g.S.Source.told c.args.source.now) (g.S.Source.told c.find.new.source) (reading_of c.args.self.now.reader) (reading_of c.find.new.self.reader)) c.in-Stop.is c.in_ok-found.ensures.finds)
