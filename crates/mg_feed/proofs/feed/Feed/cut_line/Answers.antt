use Rattle.std.proofs.Common.{◌∙◌, ap, refl, ◌++◌}
use Rattle.std.proofs.lemmas.Result.{err_from_is_err_and}
use Rattle.mg_feed.specs.FeedSeen.{seen, fed}
use Rattle.mg_feed.specs.Fed.{Fed, Reading}
use Rattle.mg_feed.specs.View.{View}
use Rattle.mg_feed.specs.Code.Readers.{left_of}
use Rattle.mg_feed.proofs.Stepping.{next-long, next-bad, took-cut}
use Rattle.mg_feed.proofs.feed.Feed.cut_line.Goals as goal

abbrev reading : View → Reading → Fed
reading v r = record { view = v; read = r }

abbrev fed_by : Reading → View → Fed
fed_by r v = record { view = v; read = r }

pub returns-in_err-hold : goal.returns-in_err-hold
returns-in_err-hold c =
    let r = c.args.self.now.reader in
    let p = err_from_is_err_and c.from_residual.result c.from_residual.ensures.1 in
    rw (p.1, p.2) (
      ap (reading (seen c.args.self.now)) c.in_err-hold.ensures.reading,
      λ other. let long = c.in_err-hold.ensures.fault other in
          next-long (fed c.args.self.now) _ r.cut.items (left_of r) c.args.end refl r.none c.requires long.0 long.1,
    )

pub returns-in_err-named : goal.returns-in_err-named
returns-in_err-named c =
    let r = c.args.self.now.reader in
    let p = err_from_is_err_and c.from_residual-in_err-named.result c.from_residual-in_err-named.ensures.1 in
    rw (p.1, p.2) (
      ap (reading _) c.in_ok-hold.ensures.reading ∙ ap (fed_by _) c.in_err-named.ensures.took.1,
      λ other. next-bad (fed c.args.self.now) _ r.cut.items c.deref.result.now (left_of r) c.args.end refl r.none c.requires
          (c.deref.ensures.value ∙ c.in_ok-hold.ensures.held) (c.in_err-named.ensures.took.0 other),
    )

pub returns : goal.returns
returns c =
    let r = c.args.self.now.reader in
    took-cut c.in_ok-named.named (fed c.args.self.now) _ r.cut.items c.deref.result.now (left_of r) (left_of c.hold.new.self) (left_of c.pass_cut.new.self) c.args.end refl r.none c.requires
    (c.deref.ensures.value ∙ c.in_ok-hold.ensures.held) c.in_ok-hold.ensures.left c.pass_cut.ensures.left
    (ap (λ l. l ++ left_of c.pass_cut.new.self) c.pass_cut.ensures.cut) (c.pass_cut.ensures.ended ∙ ap (λ x. x.ended) c.in_ok-hold.ensures.reading)
    c.in_ok-named.ensures.named c.in_ok-named.ensures.took.0 c.in_ok-named.ensures.took.1
