-- The lines of JSON values, one after the other at the end of a text.
use Rattle.std.proofs.Common.{◌≡◌, ◌<◌, ◌+◌, ◌-◌, ℕ, Bool, false, List, [], ◌∷◌, ◌++◌, Some, length, map, drop, get_or, slice_get, refl, sym, ap, ◌∙◌, arith, append_assoc}
use Rattle.std.proofs.lemmas.List.{drop_more}
use Rattle.serde_json.specs.Data.{Data}
use Rattle.serde_json.specs.Written.{compact_text}
use Rattle.mg_time.specs.Time.{next}
use Rattle.mg_value.specs.Payload.{Plain}
use Rattle.mg_value.specs.Packet.{Stamped}
use Rattle.mg_settled.specs.Prefix.{StreamPrefix, empty_prefix, appended, all_appended}
use Rattle.mg_calc.specs.declared.inputs.Inputs.{Inputs}
use Rattle.mg_calc.specs.declared.plan.Plan.{Plan}
use Rattle.mg_feed.specs.Lines.{fed_lines}
use Rattle.mg_feed.specs.Output.{line_text, packet_data}
use Rattle.mg_trace.specs.Job.{bound_after, end_lines, stream_lines, all_stream_lines, end_word, job_text, side_lines, input_names}
use Rattle.mg_trace.specs.Code.{data_text}

pub text-append : (ds es : List Data) → data_text (ds ++ es) ≡ data_text ds ++ data_text es
text-append [] es = refl
text-append (d ∷ ds) es = ap (λ l. compact_text d ++ 10 ∷ l) (text-append ds es) ∙ sym (append_assoc (compact_text d) (10 ∷ data_text ds) (data_text es))

-- the line of a packet
pub text-packet : (name : List ℕ) (p : Stamped Plain) → line_text name p ≡ data_text (packet_data name p ∷ [])
unfolding line_text
text-packet name p = refl

-- the lines of one more packet
pub packets-step : (name old text more : List ℕ) (ps : List (Stamped Plain)) (i : ℕ) (p : Stamped Plain) → i < length ps → p ≡ get_or ps i p
    → old ++ data_text (map (packet_data name) ps) ≡ text ++ data_text (map (packet_data name) (drop i ps)) → more ≡ text ++ line_text name p
    → old ++ data_text (map (packet_data name) ps) ≡ more ++ data_text (map (packet_data name) (drop (i + 1) ps))
packets-step name old text more ps i p lt at is put =
    let left = data_text (map (packet_data name) (drop (i + 1) ps)) in
    let cut : drop i ps ≡ p ∷ drop (i + 1) ps = drop_more ps i p lt ∙ ap (λ q. q ∷ drop (i + 1) ps) (sym at) in
    is ∙ ap (λ l. text ++ data_text (map (packet_data name) l)) cut
    ∙ ap (λ l. text ++ l) (text-append (packet_data name p ∷ []) (map (packet_data name) (drop (i + 1) ps)))
    ∙ sym (append_assoc text (data_text (packet_data name p ∷ [])) left)
    ∙ ap (λ l. (text ++ l) ++ left) (sym (text-packet name p)) ∙ ap (λ l. l ++ left) (sym put)

-- the lines of one more stream
pub streams-step : (ended : Bool) (old text more : List ℕ) (names : List (List ℕ)) (ss : List (StreamPrefix Plain)) (i : ℕ) (name : List ℕ) (s : StreamPrefix Plain)
    → i < length names → name ≡ get_or names i name → i < length ss → s ≡ get_or ss i s
    → old ++ data_text (all_stream_lines ended names ss) ≡ text ++ data_text (all_stream_lines ended (drop i names) (drop i ss))
    → more ≡ text ++ data_text (stream_lines ended name s)
    → old ++ data_text (all_stream_lines ended names ss) ≡ more ++ data_text (all_stream_lines ended (drop (i + 1) names) (drop (i + 1) ss))
streams-step ended old text more names ss i name s lt at within there is put =
    let left = all_stream_lines ended (drop (i + 1) names) (drop (i + 1) ss) in
    let cut : drop i names ≡ name ∷ drop (i + 1) names = drop_more names i name lt ∙ ap (λ q. q ∷ drop (i + 1) names) (sym at) in
    let first : drop i ss ≡ s ∷ drop (i + 1) ss = drop_more ss i s within ∙ ap (λ q. q ∷ drop (i + 1) ss) (sym there) in
    is ∙ ap (λ l. text ++ data_text (all_stream_lines ended l (drop i ss))) cut
    ∙ ap (λ l. text ++ data_text (all_stream_lines ended (name ∷ drop (i + 1) names) l)) first
    ∙ ap (λ l. text ++ l) (text-append (stream_lines ended name s) left)
    ∙ sym (append_assoc text (data_text (stream_lines ended name s)) (data_text left))
    ∙ ap (λ l. l ++ data_text left) (sym put)

-- the bound that packets leave, by the last of them
pub bound_by_last : (ps : List (Stamped Plain)) (p : Stamped Plain) → Some p ≡ slice_get ps (length ps - 1) → next p.at ≡ bound_after ps
bound_by_last [] p there = absurd (cc)
bound_by_last (q ∷ ps) p there = from empty_prefix q ps (there ∙ ap (slice_get (q ∷ ps)) (omega arith))
  where
    same : (a b : Stamped Plain) → Some a ≡ Some b → a ≡ b
    same a b e = cc

    from : (s : StreamPrefix Plain) (q : Stamped Plain) (ps : List (Stamped Plain)) → Some p ≡ slice_get (q ∷ ps) (length ps) → next p.at ≡ (all_appended s (q ∷ ps)).bound
    from s q [] e = ap (λ r. next r.at) (same p q e)
    from s q (r ∷ ps) e = from (appended s q) r ps e

-- the lines of a stream, piece by piece
pub stream_pieces : (ended : Bool) (name : List ℕ) (s : StreamPrefix Plain) (old mid new : List ℕ) → ended ≡ false → mid ≡ old ++ data_text (map (packet_data name) s.packets)
    → new ≡ mid ++ data_text (end_lines name s) → new ≡ old ++ data_text (stream_lines ended name s)
stream_pieces ended name s old mid new unended first last =
    let packets = map (packet_data name) s.packets in
    rw unended (last ∙ ap (λ l. l ++ data_text (end_lines name s)) first ∙ append_assoc old (data_text packets) (data_text (end_lines name s))
    ∙ ap (λ l. old ++ l) (sym (text-append packets (end_lines name s))))

-- the whole text of a job, piece by piece
pub job_pieces : (plan : Plan) (inputs : Inputs) (sides streams whole : List ℕ) → sides ≡ data_text (side_lines inputs.sides plan.sides)
    → streams ≡ sides ++ data_text (all_stream_lines inputs.ended (input_names plan) inputs.streams) → whole ≡ streams ++ fed_lines (end_word inputs.ended ∷ [])
    → whole ≡ job_text plan inputs
unfolding job_text
job_pieces plan inputs sides streams whole first then end =
    let ds = side_lines inputs.sides plan.sides in
    let es = all_stream_lines inputs.ended (input_names plan) inputs.streams in
    end ∙ ap (λ l. l ++ fed_lines (end_word inputs.ended ∷ [])) (then ∙ ap (λ l. l ++ data_text es) first ∙ sym (text-append ds es)) ∙ last (ds ++ es) (end_word inputs.ended)
  where
    last : (ds : List Data) (word : List ℕ) → data_text ds ++ fed_lines (word ∷ []) ≡ fed_lines (map compact_text ds ++ word ∷ [])
    last [] word = refl
    last (d ∷ ds) word = append_assoc (compact_text d) (10 ∷ data_text ds) (fed_lines (word ∷ [])) ∙ ap (λ l. compact_text d ++ 10 ∷ l) (last ds word)
