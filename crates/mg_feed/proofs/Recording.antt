-- The lines of a recorded job, one after the other.
use Rattle.std.proofs.Common.{◌≡◌, ℕ, zero, suc, List, [], ◌∷◌, ◌++◌, length, map, replicate, Bool, false, Option, None, refl, sym, ap, ◌∙◌, subst, append_assoc, append-nil}
use Rattle.mg_value.specs.Payload.{Plain}
use Rattle.mg_value.specs.Packet.{Stamped}
use Rattle.mg_settled.specs.Prefix.{StreamPrefix}
use Rattle.mg_feed.specs.Graph.{GraphInputs}
use Rattle.mg_feed.specs.Accepted.{State, Before, before, has_some, standing, given_by, with_line, words_refusal}
use Rattle.mg_feed.specs.View.{View, standings, before_seen, with_given}
use Rattle.mg_feed.specs.Stands.{AllGood, HasAccepted, nothing_taken}
use Rattle.mg_feed.specs.declared.line_fault.LineFault.{LineFault}
use Rattle.mg_feed.specs.declared.standing.Standing.{Standing}
use Rattle.mg_feed.specs.Recorded.{recorded_refusal, AllRecorded, HasRecorded}
use Rattle.mg_feed.proofs.Holding.{given-more, given-untaken, length-line, length-none}
use Rattle.mg_feed.proofs.Judging.{good-words}

-- a good line after good lines
recorded-push : (graph : GraphInputs) (before lines : List (List ℕ)) (line : List ℕ)
    → AllRecorded graph before lines → recorded_refusal graph (before ++ lines) line ≡ None → AllRecorded graph before (lines ++ line ∷ [])
recorded-push graph before [] line good none = (rw append-nil at none, tt)
recorded-push graph before (l ∷ ls) line good none = (good.0, recorded-push graph (before ++ l ∷ []) ls line good.1 (rw append_assoc none))

-- good packet lines are good as lines of a recorded job
pub all-recorded : (graph : GraphInputs) (past lines : List (List ℕ)) → AllGood graph past lines → AllRecorded graph past lines
all-recorded graph past [] good = tt
all-recorded graph past (line ∷ lines) good =
    (good-words (before graph (length past) (given_by graph past)) line good.0, all-recorded graph (past ++ line ∷ []) lines good.1)

-- if no packet was taken, streams stand as their prefixes do
standings-untaken : (ss : List (StreamPrefix Plain)) → standings (replicate (length ss) false) ss ≡ map standing ss
standings-untaken [] = refl
standings-untaken (s ∷ ss) = ap (λ l. standing s ∷ l) (standings-untaken ss)

-- of what a line is judged by, how many lines come before it doesn't count
abbrev counting : ℕ → Before → Before
counting n b = record { graph = b.graph; lines = n; streams = b.streams; sides = b.sides; named = b.named }

words-any : (n : ℕ) (b : Before) (line : List ℕ) → words_refusal (counting n b) line ≡ words_refusal b line
words-any n b line = refl

abbrev standing-as : View → List ℕ → List Standing → Option LineFault
standing-as v line ss = words_refusal (record { graph = v.graph; lines = v.lines; streams = ss; sides = v.given.sides; named = v.given.named }) line

-- a line is judged by what the feed has
pub recorded-seen : (lines : List (List ℕ)) (v : View) (line : List ℕ) → HasRecorded lines v → recorded_refusal v.graph lines line ≡ words_refusal (before_seen v) line
recorded-seen lines v line has =
    ap (λ (g : State). words_refusal (before v.graph (length lines) g) line) (sym has.given)
    ∙ words-any (length lines) (before v.graph v.lines v.given) line
    ∙ ap (standing-as v line) (sym (ap (λ (t : List Bool). standings t v.given.streams) has.untaken ∙ standings-untaken v.given.streams))

pub recorded-next : (lines : List (List ℕ)) (v w : View) (line : List ℕ) → HasRecorded lines v → words_refusal (before_seen v) line ≡ None → w ≡ with_given v (with_line v.graph v.given line)
    → (recorded_refusal v.graph lines line ≡ None) × HasRecorded (lines ++ line ∷ []) w
recorded-next lines v w line has good is =
    let none = recorded-seen lines v line has ∙ good in (
      none,
      subst (HasRecorded (lines ++ line ∷ [])) (sym is) (record {
        good = recorded-push v.graph [] lines line has.good none;
        given = ap (λ (g : State). with_line v.graph g line) has.given ∙ sym (given-more v.graph lines line);
        untaken = has.untaken ∙ ap (λ (n : ℕ). replicate n false) (sym (length-line v.graph v.given line));
      }),
    )

-- at the start
untaken : (n : ℕ) → map (has_some {X = Stamped Plain}) (replicate n []) ≡ replicate n false
untaken zero = refl
untaken (suc n) = ap (λ l. false ∷ l) (untaken n)

-- a feed from which nothing was taken has recorded the lines that it accepted
pub accepted-recorded : (lines : List (List ℕ)) (v : View) → HasAccepted lines (nothing_taken v.graph) v → HasRecorded lines v
accepted-recorded lines v has = record {
  good = all-recorded v.graph [] lines has.good;
  given = given-untaken lines v has;
  untaken = has.taken ∙ untaken (length v.graph.kinds) ∙ ap (λ (n : ℕ). replicate n false) (sym (length-none (length v.graph.kinds)) ∙ has.many);
}
