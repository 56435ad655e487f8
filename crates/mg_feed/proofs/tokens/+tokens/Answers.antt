use Rattle.std.proofs.Common.{◌≡◌, ◌-◌, ◌<◌, ◌∷◌, length, Some, None, sym, ap, ◌∙◌, arith}
use Rattle.json.specs.Json.{parse_map, after_end_array, read_key, items, members, value}
use Rattle.json.specs.Reads.{token_of}
use Rattle.json.proofs.Grammar.{read_key-shorter}
use Rattle.serde_json.specs.Read.{of_json, of_items, converted}
use Rattle.serde_json.specs.View.{view, members_view}
use Rattle.mg_feed.proofs.JsonParts.{members_behind, item_read, items_over, member_read, members_over, items_before, none_behind, item_added, none_before}
use Rattle.mg_feed.proofs.Trees.{scalar_read, array_read, object_read}
use Rattle.mg_feed.proofs.tokens.+tokens.Goals as goal

pub array_by-returns-clause-value : goal.array_by-returns-clause-value
array_by-returns-clause-value t c =
    let r = c.items_by.new.reader in
    array_read c.args.depth c.args.reader.now r _ (omega arith) c.in_ok-items.ensures.items ∙ ap (λ d. Some (d, r)) (sym c.from.ensures)

pub object_by-returns-clause-value : goal.object_by-returns-clause-value
object_by-returns-clause-value t c =
    let r = c.members_by.new.reader in
    object_read c.args.depth c.args.reader.now r _ (omega arith) c.in_ok-members.ensures.members ∙ ap (λ d. Some (d, r)) (sym c.from.ensures)

pub value_by_tokens-returns-in_ok-scalar_by-in_default : goal.value_by_tokens-returns-in_ok-scalar_by-in_default
value_by_tokens-returns-in_ok-scalar_by-in_default t c =
    let r = c.next.new.self in
    let first : c.args.reader.now ≡ token_of c.in_ok-token.token ∷ r = grind arith in
    let lengths = ap length first in
    record {
      value = ap (λ ts. converted of_json (value c.args.depth ts)) first
          ∙ scalar_read c.args.depth (token_of c.in_ok-token.token) r _ c.in_ok-scalar_by-in_default.ensures;
      shorter = omega (arith, lengths);
    }

pub items_by-items-init : goal.items_by-items-init
items_by-items-init t c =
    let all = converted of_items (items (value c.args.depth) (length c.args.reader.now) c.args.reader.now) in
    (length c.args.reader.now, omega arith, none_before all ∙ ap (λ vs. parse_map (items_before vs) all) (sym c.new-found.ensures.items), omega arith)

pub items_by-items-preserved : goal.items_by-items-preserved
items_by-items-preserved t c =
    let p = value c.args.depth in
    let l = c.items in
    let n = l.invariant.0 in
    let going : (after_end_array l.reader ≡ None) × (c.take_end_array.new.self ≡ l.reader) = grind arith in
    let done = c.in_ok-item.ensures in
    let v = c.in_ok-item.item in
    let r = c.value_by_tokens.new.reader in
    let less : length r < length l.reader = rw (← going.1) done.shorter in
    let turn = item_read p n l.reader r (view v) (omega (arith, l.invariant.1)) going.0 (rw (← going.1) done.value) in (
      n - 1,
      omega (arith, l.invariant.1),
      l.invariant.2 ∙ ap (parse_map (items_before l.found.items)) turn ∙ item_added l.found.items v _
          ∙ ap (λ vs. parse_map (items_before vs) (converted of_items (items p (n - 1) r))) (sym c.in_ok-add_item.ensures),
      omega (arith, l.invariant.3),
    )

pub items_by-returns-clause-items : goal.items_by-returns-clause-items
items_by-returns-clause-items t c =
    let p = value c.args.depth in
    let l = c.items in
    let n = l.invariant.0 in
    let r = c.take_end_array.new.self in
    l.invariant.2 ∙ ap (parse_map (items_before l.found.items)) (items_over p n l.reader r l.invariant.1 (grind arith)) ∙ ap (λ ds. Some (ds, r)) (none_behind l.found.items)

pub members_by-members-init : goal.members_by-members-init
members_by-members-init t c =
    let all = members (value c.args.depth) (length c.args.reader.now) c.args.reader.now in
    (length c.args.reader.now, omega arith, ap (λ es. converted (members_behind (members_view es)) all) (sym c.new-found.ensures.empty), omega arith)

pub members_by-members-preserved : goal.members_by-members-preserved
members_by-members-preserved t c =
    let p = value c.args.depth in
    let l = c.members in
    let n = l.invariant.0 in
    let old = members_view l.found.entries in
    let k = c.in-Some.name.now in
    let s = c.name_by.new.reader in
    let named : read_key l.reader ≡ Some (Some k, s) = grind arith in
    let done = c.in_ok-member.ensures in
    let v = c.in_ok-member.member in
    let r = c.value_by_tokens.new.reader in
    let less = read_key-shorter l.reader (Some k) s named in
    let lesser = done.shorter in (
      n - 1,
      omega (arith, l.invariant.1),
      l.invariant.2 ∙ member_read p old n k l.reader s r (view v) (omega (arith, l.invariant.1)) named done.value
          ∙ ap (λ found. converted (members_behind found) (members p (n - 1) r)) (sym c.in_ok-add_member.ensures),
      omega (arith, l.invariant.3),
    )

pub members_by-returns-clause-members : goal.members_by-returns-clause-members
members_by-returns-clause-members t c =
    let p = value c.args.depth in
    let l = c.members in
    let n = l.invariant.0 in
    let old = members_view l.found.entries in
    l.invariant.2 ∙ members_over p old n l.reader c.name_by.new.reader l.invariant.1 (grind arith)
