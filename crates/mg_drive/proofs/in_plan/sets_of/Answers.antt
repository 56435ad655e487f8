use Rattle.std.proofs.Common.{◌≡◌, length, slice_get, true, false, not, Some, refl, sym, ap, ◌∙◌, arith}
use Rattle.std.proofs.lemmas.List.{length-map}
use Rattle.std.proofs.lemmas.Option.{slice_get_read, slice_get-get_or}
use Rattle.mg_free.specs.Core.{is_free}
use Rattle.mg_live.specs.Takes.{told}
use Rattle.mg_drive.proofs.LiveTells.{free_kept, core_kept, fewer_free, same_free, fewer_core, same_core}
use Rattle.mg_drive.proofs.in_plan.sets_of.Goals as goal
use Rattle.mg_drive.proofs.in_plan.sets_of.Goals.{then-is_free+in_ok-push, else-is_free+in_ok-push-2}

pub loop-node-preserved : goal.loop-node-preserved
loop-node-preserved c =
    let nodes = c.args.nodes.now in
    let i = c.loop-node.node-index in
    let node = c.node-item.result in
    let there : slice_get nodes i ≡ Some node = slice_get_read nodes (length nodes) i node refl c.loop-node-test.true c.node-item.is in
    elim c.if-is_free.branch [
      | then-is_free+in_ok-push w ↦ (
          let is : is_free node ≡ true = sym c.is_free.ensures ∙ w.if-is_free.true in
          let fewer = fewer_free nodes i node there is in
          let same = same_core nodes i node there (ap not is) in
          let frees = c.loop-node.invariant.frees in
          record {
            same = λ takens have. free_kept c.loop-node.now.items c.if-is_free.now.items _ nodes i c.loop-node.core c.loop-node.free c.if-is_free.core c.if-is_free.free node c.args.sets.now takens _ there is
                (omega (arith, fewer, frees, have.takers_long, have.takens_long))
                (λ taken at. ap length (w.log.ensures takens taken have at) ∙ length-map taken.log told)
                (ap (λ v. v.items) w.now-is ∙ w.in_ok-push.ensures.items) w.core-is w.free-is (c.loop-node.invariant.same takens have);
            frees = omega (arith, w.free-is, fewer, frees);
            cores = omega (arith, w.core-is, same, c.loop-node.invariant.cores);
          })
      | else-is_free+in_ok-push-2 w ↦ (
          let is : is_free node ≡ false = sym c.is_free.ensures ∙ w.if-is_free.false in
          let fewer = fewer_core nodes i node there (ap not is) in
          let same = same_free nodes i node there is in
          let cores = c.loop-node.invariant.cores in
          record {
            same = λ takens have. core_kept c.loop-node.now.items c.if-is_free.now.items _ nodes i c.loop-node.core c.loop-node.free c.if-is_free.core c.if-is_free.free node c.args.sets.now takens _ there is
                (slice_get-get_or c.args.sets.now c.loop-node.core 0 (omega (arith, fewer, cores)))
                (ap (λ v. v.items) w.now-is ∙ w.in_ok-push-2.ensures.items) w.core-is w.free-is (c.loop-node.invariant.same takens have);
            frees = omega (arith, w.free-is, same, c.loop-node.invariant.frees);
            cores = omega (arith, w.core-is, fewer, cores);
          })
    ]
