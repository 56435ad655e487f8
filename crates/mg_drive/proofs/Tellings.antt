-- What is told, set by set.
use Rattle.std.proofs.Common.{◌≡◌, ◌<◌, ◌-◌, ◌^◌, ℕ, List, [], ◌∷◌, ◌++◌, Option, sym, ap, ◌∙◌, subst, arith, append-nil}
use Rattle.std.proofs.lemmas.Grind.{flat_map-append}
use Rattle.mg_edge.specs.Edge.{SinkTold}
use Rattle.mg_value.specs.Payload.{Plain}
use Rattle.mg_value.specs.Packet.{Stamped}
use Rattle.mg_settled.specs.Settled.{TimedSet}
use Rattle.mg_calc.specs.declared.plan.Plan.{Plan}
use Rattle.mg_answer.specs.Text.{output_names, set_text, sets_text}
use Rattle.mg_answer.specs.Summary.{SummaryView, summary_text, HasSummed}
use Rattle.mg_answer.specs.Put.{TextView, HasPut}
use Rattle.mg_drive.specs.Told.{HasLines, HasSums, IsFewTold}

-- the lines of one more set
sets_more : (names : List (List ℕ)) (sets : List (TimedSet Plain)) (timed : TimedSet Plain) → sets_text names (sets ++ timed ∷ []) ≡ sets_text names sets ++ set_text names timed.set
sets_more names sets timed =
    flat_map-append (λ (t : TimedSet Plain). set_text names t.set) sets (timed ∷ []) ∙ ap (λ l. sets_text names sets ++ l) (append-nil (set_text names timed.set))

-- the lines of one more set were put
pub lines_more : (old new : TextView) (plan : Plan) (first was now : SinkTold) (sets : List (TimedSet Plain)) (timed : TimedSet Plain) (set : List (Option (Stamped Plain))) → new.names ≡ old.names
    → ((f : SinkTold) (text : List ℕ) → HasPut f was old text → HasPut f now new (text ++ set_text old.names set)) → timed.set ≡ set → HasLines old plan first was sets → HasLines new plan first now (sets ++ timed ∷ [])
lines_more old new plan first was now sets timed set names puts is h =
    let text_is : sets_text (output_names plan) (sets ++ timed ∷ []) ≡ sets_text (output_names plan) sets ++ set_text old.names set =
    sets_more (output_names plan) sets timed ∙ ap (λ s. sets_text (output_names plan) sets ++ set_text (output_names plan) s) is
    ∙ ap (λ (ns : List (List ℕ)). sets_text (output_names plan) sets ++ set_text ns set) (sym h.names_are) in
    record {
      names_are = names ∙ h.names_are;
      put = subst (λ (t : List ℕ). HasPut first now new t) (sym text_is) (puts first (sets_text (output_names plan) sets) h.put);
    }

-- the lines that were put were written
pub lines_written : (old new : TextView) (plan : Plan) (first was now : SinkTold) (sets : List (TimedSet Plain)) → new.names ≡ old.names
    → ((f : SinkTold) (text : List ℕ) → HasPut f was old text → HasPut f now new text) → HasLines old plan first was sets → HasLines new plan first now sets
lines_written old new plan first was now sets names puts h = record { names_are = names ∙ h.names_are; put = puts first (sets_text (output_names plan) sets) h.put }

-- one more set can be counted
pub few_sums : (sums : SummaryView) (now : SinkTold) → IsFewTold HasSums now sums → sums.sets < 2 ^ 64 - 1
few_sums sums now few =
    let counted = few.has.summed.counted in
    let less = few.few in
    omega (arith, counted, less)

-- one more set was added
pub sums_more : (old new : SummaryView) (plan : Plan) (first now : SinkTold) (sets : List (TimedSet Plain)) (timed : TimedSet Plain) (set : List (Option (Stamped Plain))) → new.names ≡ old.names
    → ((ss : List (TimedSet Plain)) (t : TimedSet Plain) → t.set ≡ set → HasSummed old ss → HasSummed new (ss ++ t ∷ [])) → timed.set ≡ set → HasSums old plan first now sets → HasSums new plan first now (sets ++ timed ∷ [])
sums_more old new plan first now sets timed set names adds is h = record { names_are = names ∙ h.names_are; summed = adds sets timed is h.summed; unwritten = h.unwritten }

-- the text of all sets
pub sums_text : (sums : SummaryView) (text : TextView) (plan : Plan) (first now : SinkTold) (sets : List (TimedSet Plain))
    → ((ss : List (TimedSet Plain)) (f : SinkTold) → HasSummed sums ss → HasPut f f text (summary_text sums.names ss)) → HasSums sums plan first now sets → HasPut first now text (summary_text (output_names plan) sets)
sums_text sums text plan first now sets puts h =
    subst (λ (s : SinkTold). HasPut first s text (summary_text (output_names plan) sets)) (sym h.unwritten)
    (subst (λ (ns : List (List ℕ)). HasPut first first text (summary_text ns sets)) h.names_are (puts sets first h.summed))
