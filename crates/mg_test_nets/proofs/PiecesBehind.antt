-- Pieces after prefixes, by their numbers.
use Rattle.std.proofs.Common.{◌≡◌, ℕ, List, Some, slice_get, sym, subst, ◌∙◌}
use Rattle.std.proofs.lemmas.Option.{same_Some}
use Rattle.mg_value.specs.Payload.{Plain}
use Rattle.mg_settled.specs.Prefix.{StreamPrefix}
use Rattle.mg_test_nets.specs.Behind.{IsBehind, IsBehindAt}

pub behind_there : (before pieces : List (StreamPrefix Plain)) (input : ℕ) (s piece now : StreamPrefix Plain) → slice_get before input ≡ Some s → slice_get pieces input ≡ Some piece → IsBehind s piece now → IsBehindAt before pieces input now
behind_there before pieces input s piece now at at_piece b = λ t more there there_too.
    subst (λ (m : StreamPrefix Plain). IsBehind t m now) (same_Some piece more (sym at_piece ∙ there_too)) (subst (λ (u : StreamPrefix Plain). IsBehind u piece now) (same_Some s t (sym at ∙ there)) b)
