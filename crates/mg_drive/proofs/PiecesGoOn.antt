-- What a piece of packets that are made gives: it goes on from the pieces before.
use Rattle.std.proofs.Common.{inl, inr, ◌≡◌, ◌≤◌, ◌<◌, ◌+◌, ◌==◌, ◌^◌, ℕ, List, [], ◌∷◌, length, map, min, Bool, true, false, slice_index_or, refl, sym, ap, ◌∙◌, subst, arith}
use Rattle.std.proofs.lemmas.Bool.{eqb-false}
use Rattle.std.proofs.lemmas.Bool.Decides.{eqb_tells}
use Rattle.mg_value.specs.Payload.{Plain}
use Rattle.mg_settled.specs.Prefix.{StreamPrefix, empty_prefix}
use Rattle.mg_settled.specs.Extension.{AreExtendedBy}
use Rattle.mg_calc.specs.declared.inputs.Inputs.{Inputs}
use Rattle.mg_calc.specs.declared.plan.Plan.{Plan}
use Rattle.mg_calc.specs.Plan.{IsValidWithFree, InputsFit}
use Rattle.mg_feed.specs.Graph.{GraphInputs, inputs_of}
use Rattle.mg_feed.specs.Generated.{generated_streams}
use Rattle.mg_feed.specs.Pieces.{Making, HasHandedOn, IsPiece}
use Rattle.mg_feed.specs.declared.feed_end.BatchEnd.{BatchEnd}
use Rattle.mg_feed.specs.declared.feed_end.BatchEnd.TheVariants.{More}
use Rattle.mg_feed.proofs.PiecesMade.{size-generated, first-piece, piece-joined}
use Rattle.mg_answer.proofs.GeneratedFits.{made-fit, generated-grow}
use Rattle.mg_node.specs.Extending.{joined}
use Rattle.mg_drive.specs.Batches.{IsMore, IsFirst, InputsGoOn, BatchesGoOn}
use Rattle.mg_drive.specs.Code.InPieces.{made_inputs, piece_end, AreToCome, WereMade, HaveComeInPieces, packets_left}
use Rattle.mg_drive.proofs.LinesGoOn.{not_ended}

-- a piece isn't the last if more comes after it
pub not_last : (b : Bool) → More ≡ piece_end b → b ≡ false
not_last true is = absurd cc
not_last false is = refl

-- what was given so far, if more comes
pub so_far_made : (plan : Plan) (number : ℕ) (m : Making) (inputs : Inputs) → WereMade plan number m More inputs → inputs ≡ made_inputs (inputs_of plan) m.made false
so_far_made plan number m inputs was = was.inputs_are ∙ ap (made_inputs (inputs_of plan) m.made) (not_last (m.made == number) was.end_is)

-- it is made of as many packets
were_made : (plan : Plan) (number : ℕ) (m : Making) (end : BatchEnd) (ended : Bool) → HasHandedOn (inputs_of plan) number m → number < 2 ^ 32 → end ≡ piece_end ended → ended ≡ (m.made == number)
    → WereMade plan number m end (made_inputs (inputs_of plan) m.made (m.made == number))
were_made plan number m end ended handed_on few is same = record {
  handed_on = handed_on;
  few = few;
  end_is = is ∙ ap piece_end same;
  inputs_are = refl;
}

fits_now : (plan : Plan) (number : ℕ) (m : Making) (ended : Bool) → IsValidWithFree plan → HasHandedOn (inputs_of plan) number m → number < 2 ^ 32 → InputsFit plan (made_inputs (inputs_of plan) m.made ended)
fits_now plan number m ended valid handed_on few = let le = handed_on.few in made-fit plan m.made ended valid (omega (arith, le, few))

-- The first piece --

first_inputs_made : (graph : GraphInputs) (before now : ℕ) (ended : Bool) (piece : Inputs) → IsPiece graph before now ended piece → before ≡ 0 → piece ≡ made_inputs graph now ended
first_inputs_made graph before now ended piece is none =
    let ss = first-piece graph before now ended piece is none in
    λ i. record { streams = ss i; sides = is.sides i; ended = is.ended_is i }

pub first_made : (plan : Plan) (number : ℕ) (old new : Making) (end : BatchEnd) (inputs : Inputs) → IsValidWithFree plan → AreToCome plan number old
    → IsPiece (inputs_of plan) old.made new.made (new.made == number) inputs → HasHandedOn (inputs_of plan) number new → end ≡ piece_end inputs.ended → IsFirst (WereMade plan number new) plan end inputs
first_made plan number old new end inputs valid fresh piece handed_on is =
    let graph = inputs_of plan in
    let same = first_inputs_made graph old.made new.made (new.made == number) inputs piece fresh.none in
    subst (λ (i : Inputs). IsFirst (WereMade plan number new) plan end i) (sym same) (record {
      given = were_made plan number new end inputs.ended handed_on fresh.few is piece.ended_is;
      fits = fits_now plan number new (new.made == number) valid handed_on fresh.few;
    })

pub first_made_came : (plan : Plan) (number most : ℕ) (old new : Making) (end : BatchEnd) (inputs : Inputs) → IsValidWithFree plan → AreToCome plan number old
    → IsPiece (inputs_of plan) old.made new.made (new.made == number) inputs → HasHandedOn (inputs_of plan) number new → new.made ≡ min (old.made + most) old.number → end ≡ piece_end inputs.ended
    → IsFirst (λ end inputs. WereMade plan number new end inputs × HaveComeInPieces plan number most most new end (inputs ∷ [])) plan end inputs
first_made_came plan number most old new end inputs valid fresh piece handed_on further is =
    let first = first_made plan number old new end inputs valid fresh piece handed_on is in
    let none = fresh.none in
    let all = fresh.handed_on.number_is in
    record {
      given = (
        first.given,
        record {
          inputs = inputs;
          given = first.given;
          earlier = [];
          history_is = refl;
          most_is = refl;
          at_once = λ le. (refl, omega (arith, further, none, all, le));
        },
      );
      fits = first.fits;
    }

-- A piece more --

goes_on : (plan : Plan) (number : ℕ) (old new : Making) (piece : Inputs) → IsValidWithFree plan → number < 2 ^ 32 → old.made ≤ new.made
    → IsPiece (inputs_of plan) old.made new.made (new.made == number) piece → HasHandedOn (inputs_of plan) number new
    → InputsGoOn plan (made_inputs (inputs_of plan) old.made false) piece (made_inputs (inputs_of plan) new.made (new.made == number))
goes_on plan number old new piece valid few le is handed_on =
    let graph = inputs_of plan in
    let before = generated_streams graph.kinds old.made in
    let all = made_inputs graph new.made (new.made == number) in
    let now : new.made < 2 ^ 32 = let within = handed_on.few in omega (arith, within, few) in
    let grow : AreExtendedBy before all.streams = generated-grow graph.kinds old.made new.made (new.made == number) le now in
    let count : length piece.streams ≡ length before = is.many ∙ sym (size-generated graph.kinds old.made) in
    record {
      fits = fits_now plan number new (new.made == number) valid handed_on few;
      sides = refl;
      extended = subst (λ (ss : List (StreamPrefix Plain)). AreExtendedBy ss all.streams) (sym (not_ended before)) grow;
      pieces = count ∙ ap length (sym (not_ended before));
      streams = λ input there.
          subst (λ (ss : List (StreamPrefix Plain)). slice_index_or all.streams input empty_prefix ≡ joined (slice_index_or ss input empty_prefix) (slice_index_or piece.streams input empty_prefix))
          (sym (not_ended before))
          (piece-joined before piece.streams all.streams input is.streams grow (omega (arith, there, count)) there);
    }

pub more_made : (plan : Plan) (number : ℕ) (old new : Making) (end : BatchEnd) (inputs so_far : Inputs) → IsValidWithFree plan → WereMade plan number old More so_far
    → IsPiece (inputs_of plan) old.made new.made (new.made == number) inputs → HasHandedOn (inputs_of plan) number new → old.made ≤ new.made → end ≡ piece_end inputs.ended
    → BatchesGoOn (WereMade plan number new end) plan so_far inputs
more_made plan number old new end inputs so_far valid was piece handed_on le is =
    let graph = inputs_of plan in
    record {
      all = made_inputs graph new.made (new.made == number);
      given = were_made plan number new end inputs.ended handed_on was.few is piece.ended_is;
      goes_on = subst (λ (i : Inputs). InputsGoOn plan i inputs (made_inputs graph new.made (new.made == number))) (sym (so_far_made plan number old so_far was))
          (goes_on plan number old new inputs valid was.few le piece handed_on);
    }

same_first : (a b : Inputs) (xs ys : List Inputs) → a ∷ xs ≡ b ∷ ys → a ≡ b
same_first a b xs ys same = ap (λ (l : List Inputs). slice_index_or l 0 a) same

pub more_made_came : (plan : Plan) (number most now : ℕ) (old new : Making) (end : BatchEnd) (inputs so_far : Inputs) (earlier : List Inputs) → IsValidWithFree plan → HaveComeInPieces plan number most now old More (so_far ∷ earlier)
    → IsPiece (inputs_of plan) old.made new.made (new.made == number) inputs → HasHandedOn (inputs_of plan) number new → old.made ≤ new.made → end ≡ piece_end inputs.ended
    → BatchesGoOn (λ all. WereMade plan number new end all × HaveComeInPieces plan number most now new end (all ∷ so_far ∷ earlier)) plan so_far inputs
more_made_came plan number most now old new end inputs so_far earlier valid came piece handed_on le is =
    let graph = inputs_of plan in
    let then : List Inputs = map (λ made. made_inputs graph made false) came.earlier in
    let same : so_far ≡ came.inputs = same_first so_far came.inputs earlier then came.history_is in
    let was : WereMade plan number old More so_far = subst (λ (i : Inputs). WereMade plan number old More i) (sym same) came.given in
    let on = more_made plan number old new end inputs so_far valid was piece handed_on le is in
    record {
      all = on.all;
      given = (
        on.given,
        record {
          inputs = on.all;
          given = on.given;
          earlier = old.made ∷ came.earlier;
          history_is = ap (λ (l : List Inputs). on.all ∷ l) (came.history_is ∙ ap (λ (i : Inputs). i ∷ then) (so_far_made plan number old came.inputs came.given));
          most_is = came.most_is;
          at_once = λ le. absurd (eqb-false old.made number (not_last (old.made == number) came.given.end_is) (came.at_once le).1);
        },
      );
      goes_on = on.goes_on;
    }

-- a piece more leaves fewer packets to come
pub fewer_left : (graph : GraphInputs) (number most : ℕ) (old new : Making) (end : BatchEnd) (ended : Bool) → HasHandedOn graph number old → HasHandedOn graph number new → ended ≡ (new.made == number) → end ≡ piece_end ended
    → new.made ≡ min (old.made + most) old.number → 0 < most → IsMore end → packets_left new < packets_left old
fewer_left graph number most old new end ended was now same is made some more = elim (eqb_tells new.made number) [
  | inl (test, last) ↦ absurd (subst IsMore (is ∙ ap piece_end (same ∙ test)) more)
  | inr (test, apart) ↦
      (let a = was.number_is in
      let b = now.number_is in
      let le = now.few in
      omega (arith, apart, a, b, le, made, some))
]

pub made_no_fewer : (old new number most : ℕ) → old ≤ number → new ≡ min (old + most) number → old ≤ new
made_no_fewer old new number most le is = omega (arith, le, is)

-- All are made of one number --

-- none is given yet
pub are_to_come : (plan : Plan) (number : ℕ) (m : Making) → AreToCome plan number m → AreToCome plan m.number m
are_to_come plan number m fresh = subst (λ n. AreToCome plan n m) (sym fresh.handed_on.number_is) fresh

-- what was given since is of so many packets
pub of_number : (plan : Plan) (number : ℕ) (began m : Making) (end : BatchEnd) (inputs : Inputs) → AreToCome plan number began → WereMade plan began.number m end inputs → WereMade plan number m end inputs
of_number plan number began m end inputs fresh was = subst (λ n. WereMade plan n m end inputs) fresh.handed_on.number_is was

pub of_number_came : (plan : Plan) (number most now : ℕ) (began m : Making) (end : BatchEnd) (history : List Inputs) → AreToCome plan number began → HaveComeInPieces plan began.number most now m end history → HaveComeInPieces plan number most now m end history
of_number_came plan number most now began m end history fresh came = subst (λ n. HaveComeInPieces plan n most now m end history) fresh.handed_on.number_is came
