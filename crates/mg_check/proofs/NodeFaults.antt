-- What is wrong with nodes by themselves.
use Rattle.std.proofs.Common.{ℕ, ◌+◌, ◌<◌, ◌≡◌, List, [], ◌∷◌, ◌++◌, Bool, true, false, Option, None, Some, Result, Ok, Err, cond, if◌then◌else◌, length, take, get_or, map, refl, sym, ap, ◌∙◌}
use Rattle.std.specs.Prelude.{position, filter_map, codes, option_map}
use Rattle.std.specs.List.{position_from, cons_option}
use Rattle.std.specs.Option.{option_or}
use Rattle.std.proofs.lemmas.List.Elements.{filter_map-append}
use Rattle.mg_calc.specs.declared.shape.OuterShape.{OuterShape}
use Rattle.mg_config.specs.Config.{NodeView}
use Rattle.mg_subgraph.proofs.Steps.{taken, map-push}
use Rattle.mg_check.specs.Choosing.{Chosen, chosen_nodes, unknown_calculator, no_more_boxes}
use Rattle.mg_check.specs.Drafts.{draft_of, has_bad_ports, has_bad_options, is_unsupported, bad_ports, bad_options, unsupported, drafts, node_refusal}
use Rattle.mg_check.specs.DraftView.{drafts_view}
use Rattle.mg_check.specs.Code.Choices.{choice_view, choices_view, AreChosen, IsStock, short_in}
use Rattle.mg_check.specs.Code.Judged.{Judges, AreJudged, draft_in, wrong_in, wrong_of, is_wrong, fault_by}
use Rattle.mg_check.specs.declared.choosing.Choice.{Choice}
use Rattle.mg_check.specs.declared.choosing.Choices.{Choices}
use Rattle.mg_check.specs.declared.draft.Draft.{Draft}
use Rattle.mg_check.specs.declared.drafting.NodeDrafts.{NodeDrafts}
use Rattle.mg_check.specs.declared.groups.Groups.{Groups}
use Rattle.mg_check.specs.declared.node_draft.Wrong.{Wrong}
use Rattle.mg_check.specs.declared.node_draft.Wrong.TheVariants as wrong
use Rattle.mg_check.specs.declared.fault.CheckFault.TheVariants.{BadPorts, BadOptions, Unsupported}
use Rattle.mg_check.proofs.Firsts.{place_begins}

-- one more node
judged_one : (outers : List OuterShape) (c : Chosen) (answer : Result Draft Wrong) → Judges outers c answer → (filter_map (draft_of outers) (c ∷ []) ≡ draft_in answer) × (wrong_of outers c ≡ wrong_in answer)
judged_one outers c (Ok draft) known = (ap (λ o. cons_option o []) known.0, known.1)
judged_one outers c (Err fault) known = (ap (λ o. cons_option o []) known.0, known.1)

pub judged_more : (old new : NodeDrafts) (outers : List OuterShape) (choices : List Choice) (i : ℕ) (choice : Choice) (answer : Result Draft Wrong) → i < length choices → choice ≡ get_or choices i choice
    → Judges outers (choice_view choice) answer → drafts_view new.drafts.items ≡ drafts_view old.drafts.items ++ draft_in answer → new.wrongs.items ≡ old.wrongs.items ++ wrong_in answer ∷ []
    → AreJudged old outers (choices_view (take i choices)) → AreJudged new outers (choices_view (take (i + 1) choices))
judged_more old new outers choices i choice answer inside here known drafts wrongs so_far =
    let one = judged_one outers (choice_view choice) answer known in
    let before = choices_view (take i choices) in
    let split : choices_view (take (i + 1) choices) ≡ before ++ choice_view choice ∷ [] = taken choice_view choices i choice inside here in
    record {
      drafts =
          drafts
          ∙ (ap (λ l. l ++ draft_in answer) so_far.drafts
          ∙ (ap (λ l. filter_map (draft_of outers) before ++ l) (sym one.0)
          ∙ (sym (filter_map-append (draft_of outers) before (choice_view choice ∷ [])) ∙ ap (filter_map (draft_of outers)) (sym split))));
      wrongs =
          wrongs
          ∙ (ap (λ l. l ++ wrong_in answer ∷ []) so_far.wrongs
          ∙ (ap (λ w. map (wrong_of outers) before ++ w ∷ []) (sym one.1)
          ∙ (sym (map-push (wrong_of outers) before (choice_view choice)) ∙ ap (map (wrong_of outers)) (sym split))));
    }

-- Of all.
abbrev wrong_by : Bool → Bool → Bool → Option Wrong
wrong_by a b c = if a then Some wrong.Ports else (if b then Some wrong.Options else (if c then Some wrong.Policy else None))

first_by : (a b c : Bool) (n : ℕ) (later later' : Option ℕ) → later ≡ later' → cond (is_wrong wrong.Ports (wrong_by a b c)) (Some n) later ≡ cond a (Some n) later'
first_by true b c n later later' known = refl
first_by false true c n later later' known = known
first_by false false true n later later' known = known
first_by false false false n later later' known = known

second_by : (a b c : Bool) (n : ℕ) (rest later later' : Option ℕ) → cond a (Some n) rest ≡ None → (rest ≡ None → later ≡ later') → cond (is_wrong wrong.Options (wrong_by a b c)) (Some n) later ≡ cond b (Some n) later'
second_by true b c n rest later later' none known = cc
second_by false true c n rest later later' none known = refl
second_by false false true n rest later later' none known = known none
second_by false false false n rest later later' none known = known none

third_by : (a b c : Bool) (n : ℕ) (rest rest' later later' : Option ℕ) → cond a (Some n) rest ≡ None → cond b (Some n) rest' ≡ None → (rest ≡ None → rest' ≡ None → later ≡ later')
    → cond (is_wrong wrong.Policy (wrong_by a b c)) (Some n) later ≡ cond c (Some n) later'
third_by true b c n rest rest' later later' none none' known = cc
third_by false true c n rest rest' later later' none none' known = cc
third_by false false true n rest rest' later later' none none' known = refl
third_by false false false n rest rest' later later' none none' known = known none none'

first_at : (outers : List OuterShape) (n : ℕ) (cs : List Chosen) → position_from (is_wrong wrong.Ports) n (map (wrong_of outers) cs) ≡ position_from (has_bad_ports outers) n cs
first_at outers n [] = refl
first_at outers n (c ∷ cs) = first_by (has_bad_ports outers c) (has_bad_options outers c) (is_unsupported outers c) n _ _ (first_at outers (n + 1) cs)

second_at : (outers : List OuterShape) (n : ℕ) (cs : List Chosen) → position_from (has_bad_ports outers) n cs ≡ None
    → position_from (is_wrong wrong.Options) n (map (wrong_of outers) cs) ≡ position_from (has_bad_options outers) n cs
second_at outers n [] none = refl
second_at outers n (c ∷ cs) none =
    second_by (has_bad_ports outers c) (has_bad_options outers c) (is_unsupported outers c) n (position_from (has_bad_ports outers) (n + 1) cs) _ _ none (second_at outers (n + 1) cs)

third_at : (outers : List OuterShape) (n : ℕ) (cs : List Chosen) → position_from (has_bad_ports outers) n cs ≡ None → position_from (has_bad_options outers) n cs ≡ None
    → position_from (is_wrong wrong.Policy) n (map (wrong_of outers) cs) ≡ position_from (is_unsupported outers) n cs
third_at outers n [] none none' = refl
third_at outers n (c ∷ cs) none none' =
    third_by (has_bad_ports outers c) (has_bad_options outers c) (is_unsupported outers c) n (position_from (has_bad_ports outers) (n + 1) cs) (position_from (has_bad_options outers) (n + 1) cs) _ _ none none' (third_at outers (n + 1) cs)

at_zero : {X Y : Type 0} (p : X → Bool) (q : Y → Bool) (xs : List X) (ys : List Y) → position_from p 0 xs ≡ position_from q 0 ys → position p xs ≡ position q ys
at_zero p q xs ys known = place_begins p xs ∙ (known ∙ sym (place_begins q ys))

-- the first of three options; the later ones are known only if the earlier ones are none
three : {F : Type 0} (f g h : ℕ → F) (a a' b b' c c' : Option ℕ) → a ≡ a' → (a' ≡ None → b ≡ b') → (a' ≡ None → b' ≡ None → c ≡ c')
    → option_or (option_map f a) (option_or (option_map g b) (option_map h c)) ≡ option_or (option_map f a') (option_or (option_map g b') (option_map h c'))
three f g h a None b None c c' first second third =
    ap (λ o. option_or (option_map f o) (option_or (option_map g b) (option_map h c))) first
    ∙ (ap (λ o. option_or (option_map g o) (option_map h c)) (second refl) ∙ ap (option_map h) (third refl refl))
three f g h a None b (Some n) c c' first second third =
    ap (λ o. option_or (option_map f o) (option_or (option_map g b) (option_map h c))) first
    ∙ ap (λ o. option_or (option_map g o) (option_map h c)) (second refl)
three f g h a (Some n) b b' c c' first second third = ap (λ o. option_or (option_map f o) (option_or (option_map g b) (option_map h c))) first

faults : (outers : List OuterShape) (cs : List Chosen) → fault_by (map (wrong_of outers) cs) ≡ option_or (bad_ports outers cs) (option_or (bad_options outers cs) (unsupported outers cs))
faults outers cs =
    let ws = map (wrong_of outers) cs in
    three BadPorts BadOptions (λ n. Unsupported n (codes "input_stream_handler"))
    (position (is_wrong wrong.Ports) ws) (position (has_bad_ports outers) cs) (position (is_wrong wrong.Options) ws) (position (has_bad_options outers) cs) (position (is_wrong wrong.Policy) ws) (position (is_unsupported outers) cs)
    (at_zero (is_wrong wrong.Ports) (has_bad_ports outers) ws cs (first_at outers 0 cs))
    (λ none. at_zero (is_wrong wrong.Options) (has_bad_options outers) ws cs (second_at outers 0 cs (sym (place_begins (has_bad_ports outers) cs) ∙ none)))
    (λ none none'. at_zero (is_wrong wrong.Policy) (is_unsupported outers) ws cs
    (third_at outers 0 cs (sym (place_begins (has_bad_ports outers) cs) ∙ none) (sym (place_begins (has_bad_options outers) cs) ∙ none')))

-- the refusal of nodes if all their calculators are known and there are enough of each
pub refusal_is : (outers : List OuterShape) (nodes : List NodeView) (stock : Groups) (choices : Choices) (node_drafts : NodeDrafts) → unknown_calculator outers nodes ≡ None → short_in outers nodes nodes ≡ None
    → IsStock stock outers → AreChosen choices stock nodes → AreJudged node_drafts outers (choices_view choices.list.items) → fault_by node_drafts.wrongs.items ≡ node_refusal outers nodes
refusal_is outers nodes stock choices node_drafts known enough is_stock chose judge =
    ap fault_by (judge.wrongs ∙ ap (map (wrong_of outers)) (chose.list outers is_stock))
    ∙ (faults outers (chosen_nodes outers nodes)
    ∙ sym (ap (λ o. option_or o (option_or (no_more_boxes outers nodes) (option_or (bad_ports outers (chosen_nodes outers nodes)) (option_or (bad_options outers (chosen_nodes outers nodes)) (unsupported outers (chosen_nodes outers nodes)))))) known
    ∙ ap (λ o. option_or o (option_or (bad_ports outers (chosen_nodes outers nodes)) (option_or (bad_options outers (chosen_nodes outers nodes)) (unsupported outers (chosen_nodes outers nodes))))) enough))

pub drafts_are : (outers : List OuterShape) (nodes : List NodeView) (stock : Groups) (choices : Choices) (node_drafts : NodeDrafts) → IsStock stock outers → AreChosen choices stock nodes
    → AreJudged node_drafts outers (choices_view choices.list.items) → drafts_view node_drafts.drafts.items ≡ drafts outers nodes
drafts_are outers nodes stock choices node_drafts is_stock chose judge = judge.drafts ∙ ap (filter_map (draft_of outers)) (chose.list outers is_stock)
