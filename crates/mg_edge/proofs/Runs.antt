-- A run of calls, extended by one.
use Rattle.std.proofs.Common.{◌≡◌, ℕ, List, [], ◌++◌, take, drop, Option, None, Some, IfSome, refl, sym, ◌∙◌, ap, append_assoc}
use Rattle.std.proofs.lemmas.List.{take-append-drop, append-nil}
use Rattle.mg_edge.specs.declared.source.Got.TheVariants.{Bytes, End, Failed}
use Rattle.mg_edge.specs.declared.sink.Put.TheVariants.{Took}
use Rattle.mg_edge.specs.Edge.{ReadTakes, WriteAppends}
use Rattle.mg_edge.specs.Runs.{Gave, TookAll}

pub Gave-start : (told : Option (List ℕ)) → Gave told told []
Gave-start None = tt
Gave-start (Some left) = (left, refl, refl)

pub Gave-read : (first before now : Option (List ℕ)) (bytes buf : List ℕ) (n : ℕ) → Gave first before bytes → ReadTakes before now (Bytes n) buf → Gave first now (bytes ++ take n buf)
Gave-read None before now bytes buf n gave reads = tt
Gave-read (Some all) before now bytes buf n (left, was, split) reads =
    let taken = rw was at reads in
    let front : take n buf ≡ take n left = taken.1 in
    let parts : take n left ++ drop n left ≡ left = take-append-drop n left in
    (drop n left, taken.2, split ∙ sym (append_assoc bytes (take n buf) (drop n left) ∙ rw front (ap (λ xs. bytes ++ xs) parts)))

pub Gave-end : (first before now : Option (List ℕ)) (bytes buf : List ℕ) → Gave first before bytes → ReadTakes before now End buf → IfSome first (λ all. bytes ≡ all)
Gave-end None before now bytes buf gave reads = tt
Gave-end (Some all) before now bytes buf (left, was, split) reads =
    let taken = rw was at reads in
    sym (split ∙ rw taken.0 (append-nil bytes))

pub Gave-failed : (first before now : Option (List ℕ)) (bytes buf : List ℕ) → Gave first before bytes → ReadTakes before now Failed buf → Gave first now bytes
Gave-failed None before now bytes buf gave reads = tt
Gave-failed (Some all) before now bytes buf (left, was, split) reads = (left, (rw was at reads), split)

pub TookAll-start : (told : Option (List ℕ)) → TookAll told told []
TookAll-start None = tt
TookAll-start (Some taken) = rw append-nil refl

pub TookAll-write : (first before now : Option (List ℕ)) (bytes piece : List ℕ) (n : ℕ) → TookAll first before bytes → WriteAppends before now (Took n) piece → TookAll first now (bytes ++ take n piece)
TookAll-write None before now bytes piece n took writes = tt
TookAll-write (Some taken) before now bytes piece n took writes =
    (rw took at writes) ∙ ap (λ xs. Some xs) (append_assoc taken bytes (take n piece))
