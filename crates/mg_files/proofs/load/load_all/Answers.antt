use Rattle.std.proofs.Common.{◌∙◌, inr, ℕ, suc, List, Option, Some, take, drop, ap, subst}
use Rattle.std.proofs.lemmas.Result.{err_from_is_err_and}
use Rattle.mg_edge.specs.Edge.{LoadGives, one_more}
use Rattle.mg_edge.specs.declared.store.Loaded.TheVariants.{Bytes}
use Rattle.mg_files.specs.Notes.{store_note}
use Rattle.mg_files.specs.Reads.{contents_of}
use Rattle.mg_files.proofs.Loading.{gives-loaded, loaded-step, split-at, loaded-then, once-more, front-then}
use Rattle.mg_files.proofs.load.load_all.Goals as goal

pub returns-in-Failed-clause-failed : goal.returns-in-Failed-clause-failed
returns-in-Failed-clause-failed g c =
    let names = c.args.names.now in
    let i = c.loop-name.name-index in
    let name = c.name-item.result in (
      name,
      record {
        kept = λ other. c.in-Failed.ensures.kept other ∙ c.loop-name.invariant.kept other;
        before = take i names;
        after = drop (suc i) names;
        order = split-at names i name c.loop-name-test.true c.name-item.is;
        loaded = loaded-then (g.T.Store.told c.args.store.now).loaded _ _ (take i names) _ name c.loop-name.invariant.loaded c.in-Failed.ensures.loaded c.as_str.ensures;
        contents = contents_of c.loop-name.contents.items;
        given = c.loop-name.invariant.given;
        once = c.in-Failed.ensures.fault ∙ ap one_more c.loop-name.invariant.steady;
        last = c.in-Failed.ensures.failed_name ∙ ap Some c.as_str.ensures;
      },
      c.in_ok-store_note-in-Failed.ensures ∙ ap store_note c.as_str-in-Failed.ensures,
    )

pub loop-name-preserved : goal.loop-name-preserved
loop-name-preserved g c =
    let before = g.T.Store.told c.args.store.now in
    let now = g.T.Store.told c.loop-name.store in
    let name = c.name-item.result in
    let content = c.in-Bytes.content in
    let gives : LoadGives (before.content name) (Bytes content) =
    subst (λ (o : Option (Option (List ℕ))). LoadGives o (Bytes content)) (ap now.content c.as_str.ensures ∙ c.loop-name.invariant.kept name) c.in-Bytes.ensures.bytes in
    record {
      kept = λ other. c.in-Bytes.ensures.kept other ∙ c.loop-name.invariant.kept other;
      loaded = once-more before.loaded now.loaded _ c.args.names.now c.loop-name.name-index _ name c.loop-name-test.true c.name-item.is c.as_str.ensures c.loop-name.invariant.loaded c.in-Bytes.ensures.loaded;
      given = loaded-step before.content c.args.names.now c.loop-name.name-index name c.loop-name.contents.items c.push.new.self.items content c.loop-name-test.true c.name-item.is
          c.in_ok-push-in-Bytes.ensures.items c.loop-name.invariant.given (gives-loaded (before.content name) content gives);
      steady = c.in-Bytes.ensures.fault ∙ c.loop-name.invariant.steady;
      last = c.in-Bytes.ensures.failed_name ∙ c.loop-name.invariant.last;
    }

-- Memory ran out --

pub returns-in_err-push-in-Bytes-clause-failed : goal.returns-in_err-push-in-Bytes-clause-failed
returns-in_err-push-in-Bytes-clause-failed g c =
    let p = err_from_is_err_and c.from_residual.result c.from_residual.ensures.1 in
    rw (p.1, p.2) (front-then c.args.names.now c.loop-name.name-index _ c.name-item.result (g.T.Store.told c.args.store.now) (g.T.Store.told c.loop-name.store) _ c.loop-name-test.true c.name-item.is c.as_str.ensures
    (λ other. c.in-Bytes.ensures.kept other ∙ c.loop-name.invariant.kept other) c.loop-name.invariant.loaded (inr c.in-Bytes.ensures.loaded))

pub returns-in_err-store_note-in-Failed-clause-failed : goal.returns-in_err-store_note-in-Failed-clause-failed
returns-in_err-store_note-in-Failed-clause-failed g c =
    let p = err_from_is_err_and c.from_residual-in_err-store_note-in-Failed.result c.from_residual-in_err-store_note-in-Failed.ensures.1 in
    rw (p.1, p.2) (front-then c.args.names.now c.loop-name.name-index _ c.name-item.result (g.T.Store.told c.args.store.now) (g.T.Store.told c.loop-name.store) _ c.loop-name-test.true c.name-item.is c.as_str.ensures
    (λ other. c.in-Failed.ensures.kept other ∙ c.loop-name.invariant.kept other) c.loop-name.invariant.loaded (inr c.in-Failed.ensures.loaded))

pub returns-in-OutOfMemory-clause-failed : goal.returns-in-OutOfMemory-clause-failed
returns-in-OutOfMemory-clause-failed g c =
    front-then c.args.names.now c.loop-name.name-index _ c.name-item.result (g.T.Store.told c.args.store.now) (g.T.Store.told c.loop-name.store) _ c.loop-name-test.true c.name-item.is c.as_str.ensures
    (λ other. c.in-OutOfMemory.ensures.kept other ∙ c.loop-name.invariant.kept other) c.loop-name.invariant.loaded c.in-OutOfMemory.ensures.loaded
