use Rattle.std.proofs.Common.{rules, ap, ◌∙◌, sym, Option, Some, List, ◌∷◌, ℕ}
use Rattle.atomic_table.specs.Table.{rest}
use Rattle.mg_turns.specs.Parts.{PartView}
use Rattle.mg_turns.proofs.Apart.{gives_apart}
use Rattle.mg_turns.proofs.shared.SharedNet.give_back.Goals as goal

pub store-requires : goal.store-requires
store-requires g c =
    let same = ap (λ m. m.0) c.exchange.ensures.3 in rw c.place.ensures (
      search rules,
      search rules,
      gives_apart _ _ _ _ g.N.After.after _ _ c.args.held.part (search rules) (search rules)
          (rw same c.requires.turn) (rw same c.requires.after.0) (rw same c.requires.after.1) (rw same c.requires.part)
          (let e = c.exchange.ensures.3 in ap (λ m. m.1) e ∙ ap (λ (l : List (ℕ × Option PartView)). (c.args.word, Some c.args.held.part) ∷ rest l) (sym (ap (λ m. m.1) e))),
    )
