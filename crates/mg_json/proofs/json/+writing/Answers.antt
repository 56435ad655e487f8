use Rattle.std.proofs.Common.{map, sym, ap, ◌∙◌, subst, arith}
use Rattle.std.proofs.lemmas.List.{take_all}
use Rattle.serde_json.specs.View.{members_view}
use Rattle.serde_json.proofs.Views.{members_view-insert_entry}
use Rattle.mg_value.specs.Plain.{depth, items_of, items_depth, entries_of, entries_depth}
use Rattle.mg_value.specs.Payload.{plain, KeysAscend}
use Rattle.mg_json.specs.Json.{json_items}
use Rattle.mg_json.proofs.JsonLists.{payload_said, items_are, one_more}
use Rattle.mg_json.proofs.JsonWriting.{item_within, entry_within, entry_written, items_fit_next, entries_fit_next}
use Rattle.mg_json.proofs.json.+writing.Goals as goal

pub write_entries-write-requires : goal.write_entries-write-requires
write_entries-write-requires t c =
    let w = entry_within c.as_slice-entry-items.result.now c.loop-entry.entry-index c.entry-item.result (omega arith) in
    let s = ap (λ e. depth (plain e.value)) c.entry-item.is in
    let all = ap (λ es. entries_depth (entries_of es)) c.as_slice-entry-items.ensures.entries in
    (omega (arith, w, s, all, c.decreases), tt)

pub write_entries-loop-entry-preserved : goal.write_entries-loop-entry-preserved
write_entries-loop-entry-preserved t c =
    let es = c.as_slice-entry-items.result.now in
    let i = c.loop-entry.entry-index in
    let ascend = subst KeysAscend (sym c.as_slice-entry-items.ensures.entries) c.as_slice-entry-items.ensures.ascend in (
      ap members_view c.in_ok-insert.ensures.entries ∙ members_view-insert_entry c.loop-entry.members.entries c.in_ok-name.name c.in_ok-value.value
          ∙ entry_written es i c.entry-item.result _ _ _ ascend c.loop-entry-test.true c.entry-item.is (c.in_ok-name.ensures.ok ∙ c.as_str.ensures) c.in_ok-value.ensures.says c.loop-entry.invariant.0,
      entries_fit_next es i c.entry-item.result c.loop-entry-test.true c.entry-item.is c.loop-entry.invariant.1 c.in_ok-value.ensures.fit,
    )

pub write_items-write-requires : goal.write_items-write-requires
write_items-write-requires t c =
    let w = item_within c.as_slice-payload-items.result.now c.loop-payload.payload-index c.payload-item.result (omega arith) in
    let s = ap (λ p. depth (plain p)) c.payload-item.is in
    let all = ap (λ ps. items_depth (items_of ps)) c.as_slice-payload-items.ensures in
    (omega (arith, w, s, all, c.decreases), tt)

pub write_items-returns-clause-says : goal.write_items-returns-clause-says
write_items-returns-clause-says t c =
    let ps = c.as_slice-payload-items.result.now in
    sym (items_are ps c.loop-payload.values.items (sym (c.loop-payload.invariant.0 ∙ ap (map payload_said) (take_all c.loop-payload.payload-index ps (omega (arith, c.loop-payload-test.false))))))
    ∙ ap (λ list. json_items (items_of list)) c.as_slice-payload-items.ensures

pub write_items-loop-payload-preserved : goal.write_items-loop-payload-preserved
write_items-loop-payload-preserved t c =
    let ps = c.as_slice-payload-items.result.now in
    let i = c.loop-payload.payload-index in (
      one_more ps i c.payload-item.result c.loop-payload.values.items c.push.new.self.items c.in_ok-write.field-0 c.loop-payload-test.true c.payload-item.is c.loop-payload.invariant.0 c.in_ok-push.ensures.items c.in_ok-write.ensures.says,
      items_fit_next ps i c.payload-item.result c.loop-payload-test.true c.payload-item.is c.loop-payload.invariant.1 c.in_ok-write.ensures.fit,
    )
