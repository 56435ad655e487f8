use Rattle.std.proofs.Common.{◌≤◌, ℕ, List, length, refl, ap, sym, subst, ◌∙◌, ◌++◌}
use Rattle.mg_feed.specs.Fed.{Reading}
use Rattle.mg_feed.specs.Code.Readers.{reading_of, left_of}
use Rattle.mg_feed.proofs.LinesOut.{took-line, took-long}
use Rattle.mg_feed.proofs.lines.Lines.take.Goals as goal

pub returns-in_ok-next-in-Err-clause-takes : goal.returns-in_ok-next-in-Err-clause-takes
returns-in_ok-next-in-Err-clause-takes c =
    let r = c.args.self.now.reader in
    let long = c.in_ok-next-in-Err.ensures in
    took-long c.args.longest r.cut.items (left_of r) (reading_of r) _ c.in_ok-next-in-Err.next c.args.end _ long.0 c.in-Err.ensures.reading refl r.none c.requires (c.in-Err.ensures.fault long.1).1

pub returns-in-Ok-clause-takes : goal.returns-in-Ok-clause-takes
returns-in-Ok-clause-takes c =
    let r = c.args.self.now.reader in
    took-line c.args.longest r.cut.items (left_of r) _ (left_of c.hold.new.self) (left_of c.hand_over.new.self) (reading_of r) (reading_of c.hand_over.new.self) c.args.end refl r.none c.requires
    (c.hand_over.ensures.line ∙ c.in-Ok.ensures.held) c.in-Ok.ensures.left c.hand_over.ensures.left (ap (λ l. l ++ left_of c.hand_over.new.self) c.hand_over.ensures.cut)
    (c.hand_over.ensures.ended ∙ ap (λ (x : Reading). x.ended) c.in-Ok.ensures.reading)
    (subst (λ (l : List ℕ). length l ≤ c.args.longest) (sym c.hand_over.ensures.line) c.in-Ok.ensures.short)
