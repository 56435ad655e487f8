-- What a sink takes in pieces.
use Rattle.std.proofs.Common.{◌≡◌, ℕ, List, ◌++◌, take, drop, Option, sym, ap, ◌∙◌, append_assoc, take-append-drop}
use Rattle.mg_edge.specs.Edge.{WriteAppends}
use Rattle.mg_edge.specs.declared.sink.Put.TheVariants.{Took}
use Rattle.mg_edge.specs.Runs.{TookAll}
use Rattle.mg_edge.proofs.Runs.{TookAll-write}

-- one more write that took bytes
pub TookAll-on : (first before now : Option (List ℕ)) (bytes done left after : List ℕ) (n : ℕ)
    → bytes ≡ done ++ left → TookAll first before done → WriteAppends before now (Took n) left → after ≡ drop n left
    → (more : List ℕ) × (bytes ≡ more ++ after) × TookAll first now more
TookAll-on first before now bytes done left after n is took writes after_is = (
  done ++ take n left,
  is ∙ ap (λ l. done ++ l) (sym (take-append-drop n left) ∙ ap (λ l. take n left ++ l) (sym after_is)) ∙ sym (append_assoc done (take n left) after),
  TookAll-write first before now done left n took writes,
)
