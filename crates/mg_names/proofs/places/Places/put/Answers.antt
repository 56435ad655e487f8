use Rattle.std.proofs.Common.{rules, ◌==◌, ◌∙◌, ap, Some, if◌then◌else◌}
use Rattle.std.specs.Prelude.{option_map}
use Rattle.mg_names.specs.Code.Places.{slot_of}
use Rattle.mg_names.proofs.Keys.{slots_put, slots_put_first, on_ok}
use Rattle.mg_names.proofs.places.Places.put.Goals as goal

pub returns-in-Some : goal.returns-in-Some
returns-in-Some c =
    on_ok c.set_slot.result
    (λ slots. slots_put c.args.tag.now c.args.self.now.tags (c.get_mut.follows.lender c.set_slot.new.slots) c.set_slot.new.slots c.args.index c.args.place
    ((c.get_mut.follows.holds c.set_slot.new.slots).3 (search rules))
    (λ other. slots other ∙ ap (λ found. if other == c.args.index then Some c.args.place else slot_of (option_map (λ s. s.items) found) other) c.in-Some.ensures.value))
    c.set_slot.ensures

pub returns-in_ok-insert-in-None : goal.returns-in_ok-insert-in-None
returns-in_ok-insert-in-None c =
    slots_put_first c.in_ok-from_slice-in-None.field-0.items c.args.tag.now c.get_mut.follows.lender-at-none c.args.self.now.tags c.insert.new.self c.new-slots.result.items c.set_slot-in-None.new.slots c.args.index c.args.place
    c.in_ok-from_slice-in-None.ensures.items c.get_mut.follows.holds-at-none c.new-slots.ensures.items c.in-None.ensures.value
    c.in_ok-insert-in-None.ensures.updates c.in_ok-set_slot-in-None.ensures
