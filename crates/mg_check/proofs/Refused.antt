-- Refusals, one after another.
use Rattle.std.proofs.Common.{ℕ, ◌≡◌, List, Option, None, Some, length, map, refl, sym, ap, ◌∙◌, option_map, position, slice_get, Result, Ok, Err, IfErr}
use Rattle.std.specs.Option.{option_or, option_and_then}
use Rattle.std.proofs.lemmas.List.{length-map}
use Rattle.mg_subgraph.proofs.Indexed.{position-map}
use Rattle.mg_check.specs.DraftView.{draft_view, drafts_view}
use Rattle.mg_check.specs.Names.{first_again}
use Rattle.mg_check.specs.Order.{left_out}
use Rattle.mg_check.specs.Code.Meets.{inferred_of}
use Rattle.mg_check.specs.declared.draft.Draft.{Draft}
use Rattle.mg_check.specs.declared.inferred.Inferred.{Inferred}
use Rattle.mg_check.specs.declared.fault.CheckFault.TheVariants.{KindClash, BackEdgeMisplaced, TwoProducers}
use Rattle.mg_config.specs.Config.{GraphView}
use Rattle.mg_check.specs.Drafts.{DraftView}
use Rattle.mg_check.specs.Joining.{two_producers, no_producer, side_missing, kind_clash, back_edge_misplaced, cycle, too_many, join_refusal, stream_names, side_names, stream_meetings, order, edges, cycle_of}
use Rattle.mg_check.specs.Code.Refusing.{name_refusal, wiring_refusal, clash_by, count_refusal}
use Rattle.mg_check.specs.declared.fault.CheckFault.{CheckFault}
use Rattle.mg_check.proofs.ValidOrder.{left_out_is}

pub or_first : {A : Type 0} (a b : Option A) (fault : A) → a ≡ Some fault → option_or a b ≡ Some fault
or_first a b fault known = ap (λ o. option_or o b) known

pub or_next : {A : Type 0} (a b c : Option A) → a ≡ None → b ≡ c → option_or a b ≡ c
or_next a b c none known = ap (λ o. option_or o b) none ∙ known

or_last : {A : Type 0} (a b c d : Option A) → option_or (option_or a (option_or b c)) d ≡ option_or a (option_or b (option_or c d))
or_last None None c d = refl
or_last None (Some b) c d = refl
or_last (Some a) b c d = refl

split : (graph : GraphView) (ds : List DraftView) → option_or (name_refusal graph ds) (wiring_refusal graph ds) ≡ join_refusal graph ds
split graph ds = or_last (two_producers graph ds) (no_producer graph ds) (side_missing graph ds) (wiring_refusal graph ds)

pub refused_by_names : (graph : GraphView) (ds : List DraftView) (fault : CheckFault) → name_refusal graph ds ≡ Some fault → join_refusal graph ds ≡ Some fault
refused_by_names graph ds fault known = sym (split graph ds) ∙ or_first (name_refusal graph ds) (wiring_refusal graph ds) fault known

pub refused_by_wiring : (graph : GraphView) (ds : List DraftView) (answer : Option CheckFault) → name_refusal graph ds ≡ None → wiring_refusal graph ds ≡ answer → join_refusal graph ds ≡ answer
refused_by_wiring graph ds answer none known = sym (split graph ds) ∙ or_next (name_refusal graph ds) (wiring_refusal graph ds) answer none known

-- a name that two give: a stream, or else a side packet
pub stream_again : (graph : GraphView) (ds : List DraftView) (names : List (List ℕ)) (fault : CheckFault) → names ≡ stream_names graph ds → option_map TwoProducers (first_again names) ≡ Some fault → two_producers graph ds ≡ Some fault
stream_again graph ds names fault same known = by_name (first_again (stream_names graph ds)) (ap (λ l. option_map TwoProducers (first_again l)) (sym same) ∙ known)
  where
    by_name : (first : Option (List ℕ)) → option_map TwoProducers first ≡ Some fault → option_map TwoProducers (option_or first (first_again (side_names graph ds))) ≡ Some fault
    by_name None is = cc
    by_name (Some name) is = is

pub side_again : (graph : GraphView) (ds : List DraftView) (streams sides : List (List ℕ)) → streams ≡ stream_names graph ds → sides ≡ side_names graph ds → first_again streams ≡ None
    → two_producers graph ds ≡ option_map TwoProducers (first_again sides)
side_again graph ds streams sides one two once =
    ap (λ o. option_map TwoProducers (option_or o (first_again (side_names graph ds)))) (ap first_again (sym one) ∙ once) ∙ ap (λ l. option_map TwoProducers (first_again l)) (sym two)

-- the refusals by what the code has
pub clash_is : (names : List (List ℕ)) (mets items : List Inferred) (graph : GraphView) (ds : List DraftView) → names ≡ stream_names graph ds → mets ≡ items → items ≡ map inferred_of (stream_meetings graph ds) → clash_by names mets ≡ kind_clash graph ds
clash_is names mets items graph ds same is known =
    ap (clash_by names) (is ∙ known)
    ∙ (ap (λ l. clash_by l (map inferred_of (stream_meetings graph ds))) same
    ∙ ap (λ o. option_map KindClash (option_and_then (λ n. slice_get (stream_names graph ds) n) o)) (position-map (λ inferred. inferred.clash) inferred_of (stream_meetings graph ds)))

pub misplaced_is : (drafts : List Draft) (found : Option ℕ) → found ≡ position (λ draft. draft.misplaced) drafts → option_map BackEdgeMisplaced found ≡ back_edge_misplaced (drafts_view drafts)
misplaced_is drafts found is = ap (option_map BackEdgeMisplaced) (is ∙ sym (position-map (λ d. d.misplaced) draft_view drafts))

pub cycle_is : (drafts : List Draft) (graph : GraphView) (ns items : List ℕ) → ns ≡ items → items ≡ order graph (drafts_view drafts) → cycle_of (left_out (length drafts) ns) ≡ cycle graph (drafts_view drafts)
cycle_is drafts graph ns items is known =
    ap (λ l. cycle_of (left_out (length drafts) l)) (is ∙ known)
    ∙ ap (λ n. cycle_of (left_out n (order graph (drafts_view drafts)))) (sym (length-map drafts draft_view))
    ∙ ap cycle_of (left_out_is graph (drafts_view drafts))

pub count_is : (graph : GraphView) (ds : List DraftView) (edge_count output_count : ℕ) → edge_count ≡ length (edges graph ds) → output_count ≡ length graph.outputs → count_refusal edge_count output_count ≡ too_many graph ds
count_is graph ds edge_count output_count is known = ap (λ n. count_refusal n output_count) is ∙ ap (count_refusal (length (edges graph ds))) known

-- exits
pub on_err : {T E : Type 0} {P Q : E → Type 0} (result : Result T E) → ((e : E) → P e → Q e) → IfErr result P → IfErr result Q
on_err (Ok value) next known = tt
on_err (Err fault) next known = next fault known
