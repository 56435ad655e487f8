-- The text of some lines is a prefix of the text of a whole input that begins with these lines.
use Rattle.std.proofs.Common.{◌≡◌, ℕ, zero, suc, List, [], ◌∷◌, ◌++◌, length, take, drop, false, sym, ap, ◌∙◌, subst}
use Rattle.std.specs.List.{flat_map}
use Rattle.std.proofs.lemmas.Grind.{flat_map-append}
use Rattle.std.proofs.lemmas.List.{map-id, take-append-drop}
use Rattle.mg_value.specs.Payload.{Plain}
use Rattle.mg_value.specs.declared.policy.Policy.TheVariants.{Default}
use Rattle.mg_settled.specs.Prefix.{StreamPrefix, empty_prefix, closed}
use Rattle.mg_settled.specs.Extension.{IsExtendedBy, AreExtendedBy}
use Rattle.mg_settled.specs.Settled.{TimedSet, settled_sets, port_of, inputs_of as ports_of}
use Rattle.mg_settled.proofs.Lemmas.{extended_by_itself, sets-stay}
use Rattle.mg_calc.specs.declared.inputs.Inputs.{Inputs}
use Rattle.mg_calc.specs.declared.plan.Plan.{Plan}
use Rattle.mg_calc.specs.Plan.{IsValid, InputsFit}
use Rattle.mg_calc.specs.Equations.{IsJob, IsSolution}
use Rattle.mg_calc.proofs.Jobs.{solution_grows}
use Rattle.mg_calc.specs.Rules.{Laws}
use Rattle.mg_feed.specs.Graph.{GraphInputs, inputs_of}
use Rattle.mg_feed.specs.Lines.{all_lines}
use Rattle.mg_feed.specs.Accepted.{given_by, accepted}
use Rattle.mg_feed.specs.Given.{ended_streams}
use Rattle.mg_feed.specs.Stands.{AllGood}
use Rattle.mg_feed.specs.declared.feed_end.FeedEnd.TheVariants.{Failed}
use Rattle.mg_answer.specs.Text.{output_names, set_text, output_text_of}
use Rattle.mg_answer.specs.Answer.{Read, ended_input, is_ended, inputs_by, job_of}
use Rattle.mg_answer.specs.Devices.{IsFront}
use Rattle.mg_answer.proofs.Fitting.{inputs-fit, accepted-fit}

-- Prefixes that are extended --

port-extends : (xs ys : List (StreamPrefix Plain)) (i : ℕ) → AreExtendedBy xs ys → IsExtendedBy (port_of xs i) (port_of ys i)
port-extends [] [] i e = extended_by_itself (closed empty_prefix)
port-extends [] (y ∷ ys) i e = absurd e
port-extends (x ∷ xs) [] i e = absurd e
port-extends (x ∷ xs) (y ∷ ys) zero e = e.0
port-extends (x ∷ xs) (y ∷ ys) (suc i) e = port-extends xs ys i e.1

ports-extend : (xs ys : List (StreamPrefix Plain)) (ports : List ℕ) → AreExtendedBy xs ys → AreExtendedBy (ports_of xs ports) (ports_of ys ports)
ports-extend xs ys [] e = tt
ports-extend xs ys (n ∷ ns) e = (port-extends xs ys n e, ports-extend xs ys ns e)

-- the settled sets stay, so their text does
text-grows : (plan : Plan) (streams later : List (StreamPrefix Plain)) → AreExtendedBy streams later → IsFront (output_text_of plan streams) (output_text_of plan later)
text-grows plan streams later e =
    let names = output_names plan in
    let lines : TimedSet Plain → List ℕ = λ timed. set_text names timed.set in
    let sets = settled_sets Default (ports_of streams plan.outputs) in
    let more = settled_sets Default (ports_of later plan.outputs) in
    let stay : take (length sets) more ≡ sets = sets-stay Default (ports_of streams plan.outputs) (ports_of later plan.outputs) (ports-extend streams later plan.outputs e) in (
      flat_map lines (drop (length sets) more),
      ap (flat_map lines) (sym (take-append-drop (length sets) more)) ∙ flat_map-append lines (take (length sets) more) (drop (length sets) more)
          ∙ ap (λ l. flat_map lines l ++ flat_map lines (drop (length sets) more)) stay,
    )

-- Lines --

good-front : (graph : GraphInputs) (before lines more : List (List ℕ)) → AllGood graph before (lines ++ more) → AllGood graph before lines
good-front graph before [] more good = tt
good-front graph before (line ∷ lines) more good = (good.0, good-front graph (before ++ line ∷ []) lines more good.1)

-- what some lines give, before the end of the input
abbrev given_so_far : GraphInputs → List (List ℕ) → Inputs
given_so_far graph lines = record { streams = (given_by graph lines).streams; sides = (given_by graph lines).sides; ended = false }

abbrev inputs_with : GraphInputs → List (List ℕ) → List (StreamPrefix Plain) → Inputs
inputs_with graph lines streams = record { streams = streams; sides = (given_by graph lines).sides; ended = false }

so-far-fits : (plan : Plan) (lines : List (List ℕ)) → IsValid plan → AllGood (inputs_of plan) [] lines → InputsFit plan (given_so_far (inputs_of plan) lines)
so-far-fits plan lines valid good =
    inputs-fit plan (record { lines = lines; end = Failed 0 }) (given_so_far (inputs_of plan) lines) valid good
    (ap (inputs_with (inputs_of plan) lines) (sym (map-id (given_by (inputs_of plan) lines).streams)))

abbrev read_of : Plan → List ℕ → Read
read_of plan bytes = ended_input (inputs_of plan) bytes

-- what an input gives whose lines are these
given-by-lines : (graph : GraphInputs) (read : Read) (lines : List (List ℕ)) (streams : List (StreamPrefix Plain)) → read.lines ≡ lines
    → AreExtendedBy streams (ended_streams (is_ended read.end) (given_by graph lines).streams) → AreExtendedBy streams (inputs_by graph read).streams
given-by-lines graph read lines streams is e = subst (λ (l : List (List ℕ)). AreExtendedBy streams (ended_streams (is_ended read.end) (given_by graph l).streams)) (sym is) e

pub texts-grow : (laws : Laws) (plan : Plan) (bytes : List ℕ) (lines more : List (List ℕ)) (streams longer : List (StreamPrefix Plain)) → IsValid plan
    → AllGood (inputs_of plan) [] (lines ++ more)
    → AreExtendedBy (given_by (inputs_of plan) lines).streams (ended_streams (is_ended (read_of plan bytes).end) (given_by (inputs_of plan) (lines ++ more)).streams)
    → accepted (inputs_of plan) (all_lines bytes) ≡ lines ++ more → (given_by (inputs_of plan) lines).sides ≡ (given_by (inputs_of plan) (lines ++ more)).sides
    → IsSolution (record { plan = plan; inputs = given_so_far (inputs_of plan) lines; laws = laws }) streams
    → IsSolution (job_of laws plan (read_of plan bytes)) longer → IsFront (output_text_of plan streams) (output_text_of plan longer)
texts-grow laws plan bytes lines more streams longer valid good grows is sides solution whole =
    let graph = inputs_of plan in
    let all = inputs_by graph (read_of plan bytes) in
    let here : IsJob (record { plan = plan; inputs = given_so_far graph lines; laws = laws }) = record { plan = valid; inputs = so-far-fits plan lines valid (good-front graph [] lines more good) } in
    let there : IsJob (record { plan = plan; inputs = all; laws = laws }) = record { plan = valid; inputs = accepted-fit plan (all_lines bytes) (read_of plan bytes).end valid } in
    let same : (given_so_far graph lines).sides ≡ all.sides = sides ∙ ap (λ l. (given_by graph l).sides) (sym is) in
    let later : AreExtendedBy streams longer =
    solution_grows plan (given_so_far graph lines) all streams longer here there same (given-by-lines graph (read_of plan bytes) (lines ++ more) _ is grows) solution whole in
    text-grows plan streams longer later
