use Rattle.std.proofs.Common.{rules, ◌≡◌, ℕ, min, List, length, take, ◌∙◌}
use Rattle.std.proofs.lemmas.List.{take_min}
use Rattle.mg_edge.specs.Edge.{most_loaded}
use Rattle.mg_edge.proofs.memory_store.first_bytes.Goals as goal

-- the first n bytes, if their count is the lesser of n and the length
take_lesser : (n m : ℕ) (xs : List ℕ) → m ≡ min n (length xs) → take m xs ≡ take n xs
take_lesser n m xs same = rw same (take_min n xs)

pub returns-in-Ok-clause-bytes : goal.returns-in-Ok-clause-bytes
returns-in-Ok-clause-bytes c =
    let shown : c.in-Ok.bytes.items ≡ take c.min-most.result c.args.content.now = search rules in
    shown ∙ take_lesser most_loaded c.min-most.result c.args.content.now c.min-most.ensures
