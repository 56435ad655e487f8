use Rattle.std.proofs.Common.{◌≡◌, ◌+◌, ◌*◌, ◌++◌, ◌∷◌, false, map, drop}
use Rattle.mg_value.specs.Plain.{depth, items_of, items_depth}
use Rattle.mg_value.specs.Payload.{plain}
use Rattle.mg_feed.proofs.ItemTexts.{left_text}
use Rattle.mg_feed.proofs.WholeOrNone.{With}
use Rattle.mg_feed.proofs.payload_text.+payload_text.Given as goal

abbrev pub decreases-push_payload : goal.decreases-push_payload
decreases-push_payload l = 2 * depth (plain l.payload.now)

abbrev pub decreases-push_items : goal.decreases-push_items
decreases-push_items l = 2 * items_depth (items_of (map plain l.payloads.now)) + 1

-- the text so far, with the text of the items that are left, is the whole text
abbrev pub invariant-push_items-loop-payload : goal.invariant-push_items-loop-payload
invariant-push_items-loop-payload l =
    (l.text.items ++ left_text l.later (drop l.payload-index l.payloads) ≡ l.fn.text.items ++ 91 ∷ left_text false l.payloads) × With l.fn.text.items l.text.items
