use Rattle.std.proofs.Common.{◌∷◌, ◌++◌, [], List, length, map, ap, ap₂, sym, ◌∙◌}
use Rattle.std.proofs.lemmas.List.{length-map}
use Rattle.mg_time.specs.Time.{raw_of}
use Rattle.mg_value.specs.Plain.{int}
use Rattle.mg_value.specs.Payload.{plain}
use Rattle.mg_calc.specs.declared.emission.Laid.{Laid}
use Rattle.mg_calc.specs.Batch.{inner_time, at_inner_times, last_inner, laid_up_to, clones_laid}
use Rattle.mg_batch.proofs.begin_loop.batch.Goals as goal

pub returns : goal.returns
returns c =
    let first = c.args.span.now.first in
    let count = length c.args.items.now in
    let last = last_inner first count in
    let clones : List Laid = clones_laid c.args.clones first last count c.args.set.now in
    let end = c.in_ok-end_laid.ensures last c.requires.span in
    let items = c.in_ok-items.ensures last c.requires.span ∙ ap (laid_up_to last) c.in_ok-stamped.ensures in
    c.in_ok-from_vec.ensures.entries ∙ c.in_ok-push-2.ensures.items
    ∙ ap (λ (l : List Laid). l ++ c.in_ok-items.items ∷ [])
    (c.in_ok-put_clones.ensures ∙ ap (λ (l : List Laid). l ++ clones) (c.in_ok-push.ensures.items ∙ ap (λ (l : List Laid). l ++ c.in_ok-end_laid.field-0 ∷ []) c.in_ok-emission.ensures.items))
    ∙ ap₂ (λ (e i : Laid). e ∷ (clones ++ i ∷ [])) end items
    ∙ ap (λ n. laid_up_to last (record { at = inner_time last; value = int (raw_of c.args.at) } ∷ []) ∷ (clones_laid c.args.clones first last n c.args.set.now ++ laid_up_to last (at_inner_times first (map plain c.args.items.now)) ∷ []))
    (sym (length-map c.args.items.now plain))
