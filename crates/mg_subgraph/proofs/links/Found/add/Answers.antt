use Rattle.std.proofs.Common.{◌≡◌, ◌∙◌, ◌+◌, ◌++◌, ◌∷◌, [], ◌==◌, ◌||◌, sym, ap, length, length-append, true, false, arith, if◌then◌else◌}
use Rattle.std.proofs.lemmas.Bool.Decides.{nat_tests}
use Rattle.mg_subgraph.specs.Code.Places.{listed, flag_at}
use Rattle.mg_subgraph.proofs.Flags.{flag_at-set, set_count-set, listed-push, set_already}
use Rattle.mg_subgraph.proofs.Steps.{flag_read, nothing_more}
use Rattle.mg_subgraph.proofs.links.Found.add.Goals as goal

pub invariant_of-self-then-not-index : goal.invariant_of-self-then-not-index
invariant_of-self-then-not-index c =
    let flags = c.args.self.now.flags.items in
    let places = c.args.self.now.places.items in
    let place = c.args.place in
    let pushed : c.push.new.self.items ≡ places ++ place ∷ [] = c.in_ok-push.ensures.items in
    let unset : flag_at flags place ≡ false = flag_read flags place c.index.result.now c.requires c.index.ensures ∙ grind (arith, nat_tests) in
    record {
      same = λ other.
          ap (listed other) pushed
          ∙ (listed-push places place other
          ∙ (ap (λ b. (other == place) || b) (c.args.self.now.same other) ∙ sym (flag_at-set flags place other c.requires)));
      once =
          ap length pushed
          ∙ (length-append places (place ∷ []) ∙ (ap (λ n. n + 1) c.args.self.now.once ∙ sym (set_count-set flags place c.requires unset)));
    }

pub returns-in_ok-push-clause-places : goal.returns-in_ok-push-clause-places
returns-in_ok-push-clause-places c =
    let flags = c.args.self.now.flags.items in
    let places = c.args.self.now.places.items in
    let place = c.args.place in
    let unset : flag_at flags place ≡ false = flag_read flags place c.index.result.now c.requires c.index.ensures ∙ grind (arith, nat_tests) in
    let pushed : c.push.new.self.items ≡ places ++ place ∷ [] = c.in_ok-push.ensures.items in
    pushed ∙ sym (ap (λ b. places ++ (if b then [] else place ∷ [])) unset)

pub returns-else-not-index-clause-flags : goal.returns-else-not-index-clause-flags
returns-else-not-index-clause-flags c = λ other.
    let flags = c.args.self.now.flags.items in
    let place = c.args.place in
    let set : flag_at flags place ≡ true = flag_read flags place c.index.result.now c.requires c.index.ensures ∙ grind (arith, nat_tests) in
    sym (set_already flags place other set)

pub returns-else-not-index-clause-places : goal.returns-else-not-index-clause-places
returns-else-not-index-clause-places c =
    let flags = c.args.self.now.flags.items in
    let places = c.args.self.now.places.items in
    let place = c.args.place in
    let set : flag_at flags place ≡ true = flag_read flags place c.index.result.now c.requires c.index.ensures ∙ grind (arith, nat_tests) in
    sym (ap (λ b. places ++ (if b then [] else place ∷ [])) set ∙ nothing_more places)
