-- Back edges, one message after another.
use Rattle.std.proofs.Common.{ℕ, suc, ◌+◌, ◌<◌, ◌≤◌, ◌≡◌, List, [], ◌∷◌, ◌++◌, Bool, true, false, length, get_or, map, append_assoc, append-nil, arith, refl, sym, ap, ◌∙◌, Result, Ok, Err, codes}
use Rattle.mg_text.specs.Tree.{Fields}
use Rattle.mg_text.specs.declared.tree.Field.{Field}
use Rattle.mg_text.specs.View.{field_view, value_view, fields_view}
use Rattle.mg_config.specs.Values.{has_name, entries, fields_of_value, messages_in, truth_in}
use Rattle.mg_config.specs.Path.{numbered, result_within, then_do}
use Rattle.mg_config.specs.Config.{mark_in, kept, marks_from}
use Rattle.mg_config.specs.declared.mark.Mark.{Mark}
use Rattle.mg_config.specs.declared.fault.ConfigFault.{ConfigFault}
use Rattle.mg_config.proofs.Loops.{messages_from, messages_here, messages_skip, messages_end, entries_within}

abbrev pub info_name : List ℕ
info_name = codes "input_stream_info"

abbrev pub all_marks : List Field → Result (List Mark) ConfigFault
all_marks fs = marks_from 0 (messages_in info_name (map field_view fs))

-- the back edges so far, and those that are left
pub record IsMarked (fs : List Field) (i k : ℕ) (marks : List Mark) : Type 0 where
  pub whole : all_marks fs ≡ then_do (marks_from k (messages_from info_name fs i)) (λ more. Ok (marks ++ more))
  pub few : k ≤ i

begun : (r : Result (List Mark) ConfigFault) → r ≡ then_do r (λ more. Ok ([] ++ more))
begun (Ok marks) = refl
begun (Err fault) = refl

pub marked_first : (fs : List Field) → IsMarked fs 0 0 []
marked_first fs = record { whole = begun (all_marks fs); few = omega arith }

mark_then : (k : ℕ) (fields : Fields) (more : List Fields) (marks : List Mark) (mark : Mark) → result_within (numbered info_name k) (mark_in (entries fields)) ≡ Ok mark
    → then_do (marks_from k (fields ∷ more)) (λ more. Ok (marks ++ more)) ≡ then_do (marks_from (suc k) more) (λ more. Ok ((marks ++ kept (truth_in (codes "back_edge") (entries fields)) mark []) ++ more))
mark_then k fields more marks mark read =
    ap (λ r. then_do (then_do r (λ mark. then_do (marks_from (suc k) more) (λ marks. Ok (kept (truth_in (codes "back_edge") (entries fields)) mark marks)))) (λ more. Ok (marks ++ more))) read
    ∙ joined (marks_from (suc k) more) (truth_in (codes "back_edge") (entries fields))
  where
    joined : (r : Result (List Mark) ConfigFault) (b : Bool) → then_do (then_do r (λ marks. Ok (kept b mark marks))) (λ more. Ok (marks ++ more)) ≡ then_do r (λ more. Ok ((marks ++ kept b mark []) ++ more))
    joined (Ok others) true = ap Ok (sym (append_assoc marks (mark ∷ []) others))
    joined (Ok others) false = ap (λ ms. Ok (ms ++ others)) (sym (append-nil marks))
    joined (Err fault) b = refl

mark_fails : (k : ℕ) (fields : Fields) (more : List Fields) (marks : List Mark) (fault : ConfigFault) → result_within (numbered info_name k) (mark_in (entries fields)) ≡ Err fault
    → then_do (marks_from k (fields ∷ more)) (λ more. Ok (marks ++ more)) ≡ Err fault
mark_fails k fields more marks fault read =
    ap (λ r. then_do (then_do r (λ mark. then_do (marks_from (suc k) more) (λ marks. Ok (kept (truth_in (codes "back_edge") (entries fields)) mark marks)))) (λ more. Ok (marks ++ more))) read

-- the fields of a message
pub marked_more : (fs : List Field) (i k next : ℕ) (d : Field) (info : List Field) (marks made : List Mark) (mark : Mark) (back : Bool) → i < length fs → d ≡ get_or fs i d
    → has_name info_name (field_view d) ≡ true → IsMarked fs i k marks → fields_view info ≡ fields_of_value (value_view d.value)
    → result_within (numbered info_name k) (mark_in (map field_view info)) ≡ Ok mark → back ≡ truth_in (codes "back_edge") (map field_view info)
    → made ≡ marks ++ kept back mark [] → next ≡ k + 1 → IsMarked fs (i + 1) next made
marked_more fs i k next d info marks made mark back inside same here at view read truth is count =
    let own = fields_of_value (value_view d.value) in
    let e : entries own ≡ map field_view info = entries_within d info view in
    let s : next ≡ suc k = omega arith in
    record {
      whole = at.whole ∙ ap (λ ms. then_do (marks_from k ms) (λ more. Ok (marks ++ more))) (messages_here info_name fs i d inside same here)
          ∙ mark_then k own (messages_from info_name fs (i + 1)) marks mark (ap (λ es. result_within (numbered info_name k) (mark_in es)) e ∙ read)
          ∙ ap (λ ms. then_do (marks_from (suc k) (messages_from info_name fs (i + 1))) (λ more. Ok (ms ++ more)))
          (ap (λ es. marks ++ kept (truth_in (codes "back_edge") es) mark []) e ∙ ap (λ b. marks ++ kept b mark []) (sym truth) ∙ sym is)
          ∙ ap (λ n. then_do (marks_from n (messages_from info_name fs (i + 1))) (λ more. Ok (made ++ more))) (sym s);
      few = omega (arith, at.few);
    }

pub marked_skip : (fs : List Field) (i k : ℕ) (d : Field) (marks : List Mark) → i < length fs → d ≡ get_or fs i d → has_name info_name (field_view d) ≡ false
    → IsMarked fs i k marks → IsMarked fs (i + 1) k marks
marked_skip fs i k d marks inside same here at = record {
  whole = at.whole ∙ ap (λ ms. then_do (marks_from k ms) (λ more. Ok (marks ++ more))) (messages_skip info_name fs i d inside same here);
  few = omega (arith, at.few);
}

pub marked_fault : (fs : List Field) (i k : ℕ) (d : Field) (info : List Field) (marks : List Mark) (fault : ConfigFault) → i < length fs → d ≡ get_or fs i d
    → has_name info_name (field_view d) ≡ true → IsMarked fs i k marks → fields_view info ≡ fields_of_value (value_view d.value)
    → result_within (numbered info_name k) (mark_in (map field_view info)) ≡ Err fault → all_marks fs ≡ Err fault
marked_fault fs i k d info marks fault inside same here at view read =
    let own = fields_of_value (value_view d.value) in
    at.whole ∙ ap (λ ms. then_do (marks_from k ms) (λ more. Ok (marks ++ more))) (messages_here info_name fs i d inside same here)
    ∙ mark_fails k own (messages_from info_name fs (i + 1)) marks fault (ap (λ es. result_within (numbered info_name k) (mark_in es)) (entries_within d info view) ∙ read)

pub marked_all : (fs : List Field) (i k : ℕ) (marks : List Mark) → length fs ≤ i → IsMarked fs i k marks → all_marks fs ≡ Ok marks
marked_all fs i k marks past at =
    at.whole ∙ ap (λ ms. then_do (marks_from k ms) (λ more. Ok (marks ++ more))) (messages_end info_name fs i past) ∙ ap Ok (append-nil marks)
