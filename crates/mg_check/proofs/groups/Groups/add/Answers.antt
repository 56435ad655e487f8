use Rattle.std.proofs.Common.{rules, refl, ◌∙◌, ap, ◌++◌, ◌∷◌, []}
use Rattle.mg_names.proofs.Keys.{on_ok}
use Rattle.mg_check.specs.Code.Groups.{places_in}
use Rattle.mg_check.proofs.Grouped.{place_added}
use Rattle.mg_check.proofs.groups.Groups.add.Goals as goal

pub returns-in-Some : goal.returns-in-Some
returns-in-Some c =
    on_ok c.push_place.result
    (λ put. place_added c.args.name.now c.args.name.now c.args.self.now.places c.args.self.now.places (c.get_mut.follows.lender c.push_place.new.places) c.push_place.new.places c.args.place refl refl
    ((c.get_mut.follows.holds c.push_place.new.places).3 (search rules))
    (put ∙ ap (λ found. places_in found ++ c.args.place ∷ []) c.in-Some.ensures.value))
    c.push_place.ensures

pub returns-in_ok-insert-in-None : goal.returns-in_ok-insert-in-None
returns-in_ok-insert-in-None c =
    place_added c.in_ok-from_slice-in-None.field-0.items c.args.name.now c.get_mut.follows.lender-at-none c.args.self.now.places c.insert.new.self c.push_place-in-None.new.places c.args.place
    c.in_ok-from_slice-in-None.ensures.items c.get_mut.follows.holds-at-none c.in_ok-insert-in-None.ensures.updates
    (c.in_ok-push_place-in-None.ensures ∙ (ap (λ l. l ++ c.args.place ∷ []) c.new-places.ensures.items ∙ ap (λ found. places_in found ++ c.args.place ∷ []) c.in-None.ensures.value))
