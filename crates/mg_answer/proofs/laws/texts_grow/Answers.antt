use Rattle.std.proofs.Common.{List, [], ℕ, subst}
use Rattle.mg_feed.specs.Graph.{inputs_of}
use Rattle.mg_feed.specs.Lines.{all_lines}
use Rattle.mg_feed.specs.Stands.{AllGood}
use Rattle.mg_feed.proofs.Accepting.{good-accepted}
use Rattle.mg_feed.proofs.Growing.{streams-grow}
use Rattle.mg_answer.specs.Answer.{ended_input, is_ended}
use Rattle.mg_answer.proofs.LongerTexts.{texts-grow}
use Rattle.mg_answer.proofs.laws.texts_grow.Goals as goal

pub returns : goal.returns
returns c = λ laws plan bytes lines more streams longer valid is sides solution whole.
    let good = subst (λ (l : List (List ℕ)). AllGood (inputs_of plan) [] l) is (good-accepted (inputs_of plan) [] (all_lines bytes)) in
    texts-grow laws plan bytes lines more streams longer valid good
    (streams-grow (inputs_of plan) lines more (is_ended (ended_input (inputs_of plan) bytes).end) good) is sides solution whole
