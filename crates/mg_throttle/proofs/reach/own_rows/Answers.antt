use Rattle.std.proofs.Common.{◌<◌, refl, sym, ap, subst, length, All, arith}
use Rattle.mg_throttle.specs.Code.Reach.{IsDone}
use Rattle.mg_throttle.proofs.Feeding.{rejoined_rows}
use Rattle.mg_throttle.proofs.Sources.{length-sources, sources_below}
use Rattle.mg_throttle.proofs.Feeding.{IsDone-start}
use Rattle.mg_throttle.proofs.reach.own_rows.Goals as goal

pub blank_rows-requires : goal.blank_rows-requires
blank_rows-requires c =
    let e = ap length c.requires.sources in
    omega (arith, length-sources c.args.plan.now.nodes, c.requires.valid.ranges.nodes, c.len-inputs.ensures)

pub mark_sources-requires-clause-sources : goal.mark_sources-requires-clause-sources
mark_sources-requires-clause-sources c =
    let rows = c.in_ok-rows.ensures.len in
    let lent = c.deref_mut.ensures.len in
    let below = subst (λ xs. All (λ n. n < length c.args.plan.now.nodes) xs) (sym c.requires.sources) (sources_below c.args.plan.now.nodes) in
    λ k d within. let low = below k d within in omega arith

pub returns : goal.returns
returns c =
    let whole = rejoined_rows c.in_ok-rows.rows.len c.mark_sources.new.rows c.in_ok-rows.rows.items (omega arith) in
    subst (λ rows. IsDone c.args.plan.now rows 0) (sym whole)
    (IsDone-start c.args.plan.now _ _ _ _ _ _ c.len-inputs.ensures c.requires.sources refl refl
    (omega (arith, c.deref_mut.ensures.len, c.in_ok-rows.ensures.len)) c.mark_sources.ensures)
