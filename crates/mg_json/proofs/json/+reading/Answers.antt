use Rattle.std.proofs.Common.{◌++◌, ◌∷◌, [], map, sym, ap, ap₂, ◌∙◌, append_assoc, append-nil, arith}
use Rattle.std.proofs.lemmas.List.{map-append, take_all}
use Rattle.std.proofs.lemmas.Result.{err_from_is_err_and}
use Rattle.serde_json.specs.View.{view}
use Rattle.mg_value.specs.Plain.{items_of, entries_of}
use Rattle.mg_json.specs.Json.{json_items, json_members}
use Rattle.mg_json.proofs.JsonLists.{Member, member_said, entry_said, items_are, members_are, keys_ascend}
use Rattle.mg_json.proofs.JsonFaults.{item_fault, member_fault, member_passed}
use Rattle.mg_json.proofs.json.+reading.Goals as goal

pub read_entries-returns-in_err-value-clause-fault :
    goal.read_entries-returns-in_err-value-clause-fault
read_entries-returns-in_err-value-clause-fault t c =
    let p = err_from_is_err_and c.from_residual-in_err-value.result c.from_residual-in_err-value.ensures.1 in
    let m : Member = (c.in-Some.name.now, c.in-Some.member.now) in
    rw (p.1, p.2)
    (λ other. member_fault _ c.args.members.now.entries _ _ m _ c.loop-name.invariant.0 c.loop-name.invariant.4 c.in-Some.ensures.steps (c.in_err-value.ensures.fault other))

pub read_entries-loop-name-preserved : goal.read_entries-loop-name-preserved
read_entries-loop-name-preserved t c =
    let kept = c.loop-name.invariant in
    let done = kept.1 in
    let m : Member = (c.in-Some.name.now, c.in-Some.member.now) in
    let left = c.next.new.self in (
      kept.0,
      done ++ m ∷ [],
      kept.2 ∙ ap (λ ms. done ++ ms) c.in-Some.ensures.steps ∙ sym (append_assoc done (m ∷ []) left),
      ap (map entry_said) c.in_ok-push.ensures.items ∙ map-append entry_said c.loop-name.entries.items _
          ∙ ap₂ (λ xs ys. xs ++ ys) kept.3 (ap₂ (λ k d. (k, d) ∷ []) (c.in_ok-key.ensures ∙ c.as_str.ensures.value) c.in_ok-value.ensures.says) ∙ sym (map-append member_said done (m ∷ [])),
      member_passed _ c.args.members.now.entries _ left m kept.4 c.in-Some.ensures.steps c.in_ok-value.ensures.clear,
    )

pub read_entries-from_vec-requires : goal.read_entries-from_vec-requires
read_entries-from_vec-requires t c =
    let kept = c.loop-name.invariant in
    let all = kept.2 ∙ ap (λ ms. kept.1 ++ ms) c.in-None.ensures.steps.0 ∙ append-nil kept.1 in
    keys_ascend c.loop-name.entries.items c.args.members.now.entries (kept.3 ∙ ap (map member_said) (sym all)) c.len.ensures.ordered

pub read_entries-returns-clause-says : goal.read_entries-returns-clause-says
read_entries-returns-clause-says t c =
    let kept = c.loop-name.invariant in
    let all = kept.2 ∙ ap (λ ms. kept.1 ++ ms) c.in-None.ensures.steps.0 ∙ append-nil kept.1 in
    ap (λ es. json_members (entries_of es)) c.in_ok-from_vec.ensures.entries
    ∙ members_are c.loop-name.entries.items c.args.members.now.entries (kept.3 ∙ ap (map member_said) (sym all))

pub read_items-returns-in_err-read-clause-fault : goal.read_items-returns-in_err-read-clause-fault
read_items-returns-in_err-read-clause-fault t c =
    let p = err_from_is_err_and c.from_residual-in_err-read.result c.from_residual-in_err-read.ensures.1 in
    rw (p.1, p.2)
    (λ other. item_fault _ c.args.values.now _ _ _ c.loop-value.invariant.0 c.loop-value.invariant.2 c.loop-value-test.true c.value-item.is (c.in_err-read.ensures.fault other))

pub read_items-returns-clause-says : goal.read_items-returns-clause-says
read_items-returns-clause-says t c =
    ap (λ ps. json_items (items_of ps)) c.in_ok-from_vec.ensures.payloads
    ∙ items_are c.loop-value.payloads.items c.args.values.now (c.loop-value.invariant.1 ∙ ap (map view) (take_all c.loop-value.value-index c.args.values.now (omega (arith, c.loop-value-test.false))))
