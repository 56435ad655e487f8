use Rattle.std.proofs.Common.{◌≡◌, ◌∙◌, Some, None, refl, sym, ap}
use Rattle.std.specs.Cow.{cow_str_bytes}
use Rattle.std.specs.Str.{bytes_eq}
use Rattle.indexmap.proofs.CallerLemmas.{insert_entry-new}
use Rattle.mg_index.specs.Tables.{kept_place}
use Rattle.mg_index.proofs.Tabled.{updates_at, name_new, name_seen}
use Rattle.mg_index.proofs.name_table.NameTable.insert.Goals as goal

pub returns-in-Some : goal.returns-in-Some
returns-in-Some c = λ is_name texts named count known.
    let old = c.args.self.now in
    let text = cow_str_bytes c.args.name in
    let stands : kept_place old text ≡ Some c.in-Some.first = ap (kept_place old) (sym c.as_str.ensures.value) ∙ (sym c.get.ensures ∙ c.in-Some.is) in
    name_seen is_name old (record { places = old.places; again = Some c.earlier_of.result }) texts text c.in-Some.first stands (λ other. refl) c.earlier_of.ensures known

pub returns : goal.returns
returns c = λ is_name texts named count known.
    let old = c.args.self.now in
    let key = c.args.name in
    let place = c.args.place in
    let none : kept_place old (cow_str_bytes key) ≡ None = ap (kept_place old) (sym c.as_str.ensures.value) ∙ (sym c.get.ensures ∙ c.in_default.is) in
    name_new is_name old (record { places = c.insert.new.self; again = old.again }) texts key (cow_str_bytes key) place refl named count none
    (updates_at old.places c.insert.new.self key (Some place) c.in_ok-insert.ensures.updates)
    refl (c.in_ok-insert.ensures.entries ∙ insert_entry-new (λ x y. bytes_eq (cow_str_bytes x) (cow_str_bytes y)) old.places key place none) known
