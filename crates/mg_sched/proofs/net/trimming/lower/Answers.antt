use Rattle.std.proofs.Common.{◌≡◌, ◌+◌, ◌∙◌, ℕ, Some, length-set, min, fold, drop, get_or, set, slice_get, ap, sym, arith}
use Rattle.std.proofs.lemmas.Option.{slice_get-get_or}
use Rattle.mg_calc.specs.declared.edge.Edge.{Edge}
use Rattle.mg_sched.specs.Trims.{came_of}
use Rattle.mg_sched.proofs.Finding.{no_edge, read_at}
use Rattle.mg_sched.proofs.Trimming.{came_next, came_there}
use Rattle.mg_sched.proofs.net.trimming.lower.Goals as goal

pub loop-edge-preserved : goal.loop-edge-preserved
loop-edge-preserved c =
    let i = c.loop-edge.edge-index in
    let edge : Edge = get_or c.args.edges.now i no_edge in
    let at : slice_get c.args.edges.now i ≡ Some edge = slice_get-get_or c.args.edges.now i no_edge c.loop-edge-test.true in
    let there = read_at c.args.intakes.now edge.node c.index-intakes-edge.result (c.requires.node i edge at) c.index-intakes-edge.is in
    let came = c.count-came.ensures ∙ sym (came_there c.args.intakes.now edge c.index-intakes-edge.result there) in
    let below = c.requires.stream i edge at in
    let long = c.loop-edge.invariant.1 in (
      λ s. ap (λ (n : ℕ). fold min (get_or (set c.loop-edge.got edge.stream n) s 0) (came_of c.args.intakes.now (drop (i + 1) c.args.edges.now) s)) c.min.ensures
          ∙ came_next c.args.intakes.now c.args.edges.now c.loop-edge.got i c.count-came.result s edge at came (omega (arith, below, long)) ∙ c.loop-edge.invariant.0 s,
      length-set c.loop-edge.got edge.stream c.min.result ∙ c.loop-edge.invariant.1,
    )
