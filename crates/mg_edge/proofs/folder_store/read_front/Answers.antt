use Rattle.std.proofs.Common.{arith, ◌≡◌, ℕ, List, [], ◌++◌, take, Option, None, Some, Vec, Global, IfSome, ◌∙◌}
use Rattle.std.specs.Option.{option_map}
use Rattle.std.proofs.lemmas.List.{take_all, length-take}
use Rattle.mg_edge.specs.declared.store.Loaded.TheVariants.{Bytes}
use Rattle.mg_edge.specs.Edge.{LoadGives, most_loaded}
use Rattle.mg_edge.proofs.folder_store.read_front.Goals as goal

-- the prefix of a prefix
take_twice : (n : ℕ) (xs : List ℕ) → take n (take n xs) ≡ take n xs
take_twice n xs = take_all n (take n xs) (omega (arith, length-take n xs))

-- the bytes that were read to the limit, and cut there, are a prefix of the bytes that are told
given : (n : ℕ) (xs got cut : List ℕ) → got ≡ [] ++ take n xs → cut ≡ take n got → cut ≡ take n xs
given n xs got cut read cuts = cuts ∙ rw read (take_twice n xs)

gives : (told : Option (List ℕ)) (got : List ℕ) (v : Vec ℕ Global) → IfSome (option_map (λ xs. take most_loaded xs) told) (λ xs. got ≡ [] ++ xs) → v.items ≡ take most_loaded got → LoadGives (option_map (λ x. Some x) told) (Bytes v)
gives None got v read cuts = tt
gives (Some xs) got v read cuts = given most_loaded xs got v.items read cuts

pub returns-in-Ok-clause-bytes : goal.returns-in-Ok-clause-bytes
returns-in-Ok-clause-bytes g c = gives (g.F.Read.remaining c.args.file) c.read_to_end.new.buf.items c.truncate.new.self (rw (c.take-front.ensures.limit, c.take-front.ensures.inner, c.new-bytes.ensures.items) at c.in-Ok.ensures.bytes) c.truncate.ensures.items
