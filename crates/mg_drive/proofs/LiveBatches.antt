-- The batches that a core gets if there are free nodes beside it.
use Rattle.std.proofs.Common.{◌≡◌, ◌<◌, ◌+◌, ℕ, zero, suc, slice_index_or, false, List, [], ◌∷◌, ◌++◌, length, map, zip, replicate, Option, Some, None, refl, sym, ap, ◌∙◌, subst, arith}
use Rattle.std.specs.List.{AllByRecursion, AllZip}
use Rattle.std.proofs.lemmas.List.Elements.{recursion_from_All, length_all_zip}
use Rattle.mg_edge.specs.Edge.{SourceTold}
use Rattle.mg_value.specs.Payload.{Plain}
use Rattle.mg_settled.specs.Prefix.{StreamPrefix, IsPrefix, empty_prefix}
use Rattle.mg_settled.specs.Extension.{AreExtendedBy}
use Rattle.mg_calc.specs.Rules.{Laws}
use Rattle.mg_calc.specs.declared.inputs.Inputs.{Inputs}
use Rattle.mg_calc.specs.declared.plan.Plan.{Plan}
use Rattle.mg_calc.specs.Plan.{InputsFit}
use Rattle.mg_calc.specs.Equations.{IsJob}
use Rattle.mg_feed.specs.declared.feed_end.FeedEnd.{FeedEnd}
use Rattle.mg_feed.specs.declared.feed_end.BatchEnd.{BatchEnd}
use Rattle.mg_feed.specs.declared.feed_end.BatchEnd.TheVariants.{More, End}
use Rattle.mg_free.specs.declared.node.FreeNode.{FreeNode}
use Rattle.mg_free.specs.Core.{split_of}
use Rattle.mg_free.specs.Rounds.{Taken, none_taken, output_so_far, core_inputs}
use Rattle.mg_live.specs.Takes.{outputs_so_far}
use Rattle.mg_live.specs.SoFar.{begins, comes, HaveCome}
use Rattle.mg_live.proofs.Following.{is_job, batch_goes_on}
use Rattle.mg_drive.specs.Batches.{Giving, Coming, Due, IsMore, IsFirst, InputsGoOn, BatchesGoOn}
use Rattle.mg_drive.specs.Code.Live.{LiveView, IsFreshLive, LiveGives, LiveCame, IsLiveDue, ended_of, end_by, batches_left}
use Rattle.mg_drive.specs.Code.LiveRunning.{IsWidened}
use Rattle.mg_drive.proofs.Piecewise.{Piecewise, by_places, at_place, as_many_pieces, both, nothing_comes}

pub end_back : (end : BatchEnd) → end_by (ended_of end) ≡ end
end_back More = refl
end_back (End end) = refl

-- Outputs --

-- a free node that has taken nothing has laid nothing
pub none_laid : (frees : List FreeNode) → map (λ e. output_so_far e.0 e.1) (zip frees (map (λ (free : FreeNode). record { log = []; closed = false }) frees)) ≡ replicate (length frees) empty_prefix
none_laid [] = refl
none_laid (free ∷ frees) = ap (λ (ss : List (StreamPrefix Plain)). empty_prefix ∷ ss) (none_laid frees)

abbrev zeros : ℕ → List ℕ
zeros n = replicate n 0

none_counted : (n : ℕ) → map (λ (s : StreamPrefix Plain). length s.packets) (replicate n empty_prefix) ≡ zeros n
none_counted zero = refl
none_counted (suc n) = ap (λ (ns : List ℕ). 0 ∷ ns) (none_counted n)

outputs_long : (frees : List FreeNode) (takens : List Taken) → length takens ≡ length frees → length (outputs_so_far frees takens) ≡ length frees
outputs_long [] takens long = refl
outputs_long (free ∷ frees) [] long = absurd (omega (arith, long))
outputs_long (free ∷ frees) (taken ∷ takens) long = ap suc (outputs_long frees takens (omega (arith, long)))

-- Inputs --

inputs_as : (a : Inputs) (streams : List (StreamPrefix Plain)) (b : Inputs) → b.streams ≡ streams → b.sides ≡ a.sides → b.ended ≡ a.ended → b ≡ record a { streams = streams }
inputs_as a streams b one two three = λ i. record { streams = one i; sides = two i; ended = three i }

-- prefixes are prefixes place by place, beside themselves
pub beside : (ss : List (StreamPrefix Plain)) → AllByRecursion IsPrefix ss → AllZip (λ s t. IsPrefix s) ss ss
beside [] all = tt
beside (s ∷ ss) all = (all.0, beside ss all.1)

behind : (ss us : List (StreamPrefix Plain)) → AllByRecursion IsPrefix (ss ++ us) → AllByRecursion IsPrefix us
behind [] us all = all
behind (s ∷ ss) us all = behind ss us all.1

pub outputs_stay : (core : Plan) (inputs : Inputs) (ss us : List (StreamPrefix Plain)) → inputs.streams ≡ ss ++ us → InputsFit core inputs → Piecewise us (replicate (length us) empty_prefix) us
outputs_stay core inputs ss us is fits =
    nothing_comes us (beside us (behind ss us (subst (AllByRecursion IsPrefix) is (recursion_from_All IsPrefix inputs.streams fits.prefixes))))

pub pieces_of : (plan : Plan) (so_far more all : Inputs) → InputsGoOn plan so_far more all → Piecewise so_far.streams more.streams all.streams
pieces_of plan so_far more all g = by_places so_far.streams more.streams all.streams g.pieces (sym (length_all_zip _ so_far.streams all.streams g.extended)) g.streams

-- the core's inputs go on
pub core_goes_on : (laws : Laws) (core : Plan) (so_far more all : Inputs) → IsJob (record { plan = core; inputs = all; laws = laws }) → so_far.sides ≡ all.sides → AreExtendedBy so_far.streams all.streams → Piecewise so_far.streams more.streams all.streams → InputsGoOn core so_far more all
core_goes_on laws core so_far more all is sides extended pieces = record {
  fits = is.inputs;
  sides = sides;
  extended = extended;
  pieces = as_many_pieces so_far.streams more.streams all.streams pieces;
  streams = at_place so_far.streams more.streams all.streams pieces;
}

-- The first batch --

pub live_first : {laws : Laws} {B : Type 0} (gives : Giving B) (came : Coming B) (is_fresh : B → Plan → Type 0) (is_due : Due B) (core : Plan) (old : LiveView B) (batches : B) (before source : SourceTold) (end : BatchEnd) (ended : Option FeedEnd) (inputs more : Inputs) → ended ≡ ended_of end
    → IsFreshLive is_fresh is_due core old → IsFirst (λ e i. gives old.batches batches old.whole before source e i × came old.batches batches old.whole before source e (i ∷ [])) old.whole end inputs → IsWidened inputs more (length old.takers)
    → IsFirst (LiveGives laws gives came is_due old.batches (record old { batches = batches; ended = ended; rested = false }) core before source) core More more
live_first {laws} {B} gives came is_fresh is_due core old batches before source end ended inputs more ended_is f first opened =
    let whole = old.whole in
    let split = split_of whole in
    let frees_long : length old.takers ≡ length split.free = f.taken.takers_long ∙ ap length f.of.frees_are in
    let laid : outputs_so_far split.free (none_taken split) ≡ replicate (length split.free) empty_prefix = none_laid split.free in
    let are : more ≡ core_inputs split inputs (none_taken split) =
    inputs_as inputs (inputs.streams ++ outputs_so_far split.free (none_taken split)) more
    (opened.streams ∙ ap (λ (n : ℕ). inputs.streams ++ replicate n empty_prefix) frees_long ∙ ap (λ (ss : List (StreamPrefix Plain)). inputs.streams ++ ss) (sym laid)) opened.sides opened.ended in
    record {
      given = record {
        of = record { whole_is = f.of.whole_is; valid = f.of.valid; core_is = f.of.core_is; numbers_are = f.of.numbers_are; frees_are = f.of.frees_are; due = f.of.due };
        base = inputs;
        earlier = [];
        given = subst (λ (e : BatchEnd). gives old.batches batches whole before source e inputs) (sym (ap end_by ended_is ∙ end_back end)) first.given.0;
        in_turn = subst (λ (e : BatchEnd). came old.batches batches whole before source e (inputs ∷ [])) (sym (ap end_by ended_is ∙ end_back end)) first.given.1;
        come = first.fits;
        takens = none_taken split;
        taken = f.taken;
        handed = f.none_handed ∙ ap (λ (fs : List FreeNode). zeros (length fs)) f.of.frees_are ∙ sym (none_counted (length split.free)) ∙ ap (map (λ (s : StreamPrefix Plain). length s.packets)) (sym laid)
            ∙ ap (λ (fs : List FreeNode). map (λ (s : StreamPrefix Plain). length s.packets) (outputs_so_far fs (none_taken split))) (sym f.of.frees_are);
        so_far = begins;
        inputs_are = are;
        rests = λ no. absurd cc;
        ends = tt;
      };
      fits = subst (InputsFit core) (sym are)
          (subst (λ (p : Plan). InputsFit p (core_inputs split inputs (none_taken split))) (sym f.of.core_is) (is_job laws whole inputs [] (none_taken split) f.of.valid first.fits begins).inputs);
    }

-- A batch more --

pub live_more : {laws : Laws} {B : Type 0} (gives : Giving B) (came : Coming B) (is_due : Due B) (began : B) (core : Plan) (old : LiveView B) (batches : B) (first before source : SourceTold) (end : BatchEnd) (ended : Option FeedEnd) (so_far inputs more : Inputs) → ended ≡ ended_of end
    → (l : LiveGives laws gives came is_due began old core first before More so_far) → IsLiveDue old → BatchesGoOn (λ all. gives began batches old.whole first source end all × came began batches old.whole first source end (all ∷ l.base ∷ l.earlier)) old.whole l.base inputs → IsWidened inputs more (length old.takers)
    → BatchesGoOn (LiveGives laws gives came is_due began (record old { batches = batches; ended = ended; rested = false }) core first source More) core so_far more
live_more {laws} {B} gives came is_due began core old batches first before source end ended so_far inputs more ended_is l due g opened =
    let whole = old.whole in
    let split = split_of whole in
    let come : HaveCome whole (g.all ∷ l.base ∷ l.earlier) = (g.goes_on.fits, g.goes_on.sides, g.goes_on.extended, l.come) in
    let outs = outputs_so_far split.free l.takens in
    let on = batch_goes_on laws whole l.base g.all l.earlier l.takens l.of.valid come l.so_far in
    let many : length old.takers ≡ length outs = l.taken.takers_long ∙ ap length l.of.frees_are ∙ sym (outputs_long split.free l.takens (l.taken.takens_long ∙ ap length l.of.frees_are)) in
    let was : InputsFit split.core (core_inputs split l.base l.takens) = (is_job laws whole l.base l.earlier l.takens l.of.valid l.come l.so_far).inputs in
    let stay : Piecewise outs (replicate (length outs) empty_prefix) outs = outputs_stay split.core (core_inputs split l.base l.takens) l.base.streams outs refl was in
    let pieces : Piecewise (l.base.streams ++ outs) more.streams (g.all.streams ++ outs) =
    subst (λ (ms : List (StreamPrefix Plain)). Piecewise (l.base.streams ++ outs) ms (g.all.streams ++ outs)) (ap (λ (n : ℕ). inputs.streams ++ replicate n empty_prefix) (sym many) ∙ sym opened.streams)
    (both l.base.streams inputs.streams g.all.streams outs (replicate (length outs) empty_prefix) outs (pieces_of whole l.base inputs g.all g.goes_on) stay) in
    let all : InputsGoOn split.core (core_inputs split l.base l.takens) more (core_inputs split g.all l.takens) =
    core_goes_on laws split.core (core_inputs split l.base l.takens) more (core_inputs split g.all l.takens) on.is_job on.sides on.extended pieces in
    record {
      all = core_inputs split g.all l.takens;
      given = record {
        of = record { whole_is = l.of.whole_is; valid = l.of.valid; core_is = l.of.core_is; numbers_are = l.of.numbers_are; frees_are = l.of.frees_are; due = l.of.due };
        base = g.all;
        earlier = l.base ∷ l.earlier;
        given = subst (λ (e : BatchEnd). gives began batches whole first source e g.all) (sym (ap end_by ended_is ∙ end_back end)) g.given.0;
        in_turn = subst (λ (e : BatchEnd). came began batches whole first source e (g.all ∷ l.base ∷ l.earlier)) (sym (ap end_by ended_is ∙ end_back end)) g.given.1;
        come = come;
        takens = l.takens;
        taken = l.taken;
        handed = l.handed;
        so_far = comes l.so_far (l.rests due.1);
        inputs_are = refl;
        rests = λ no. absurd cc;
        ends = tt;
      };
      goes_on = subst (λ (i : Inputs). InputsGoOn core i more (core_inputs split g.all l.takens)) (sym l.inputs_are)
          (subst (λ (p : Plan). InputsGoOn p (core_inputs split l.base l.takens) more (core_inputs split g.all l.takens)) (sym l.of.core_is) all);
    }

-- what the batches of the plan gave, if the next one is due
pub given_so_far : {laws : Laws} {B : Type 0} (gives : Giving B) (came : Coming B) (is_due : Due B) (began : B) (core : Plan) (live : LiveView B) (first source : SourceTold) (so_far : Inputs) (l : LiveGives laws gives came is_due began live core first source More so_far) → IsLiveDue live
    → gives began live.batches live.whole first source More l.base
given_so_far {laws} {B} gives came is_due began core live first source so_far l due = subst (λ (e : Option FeedEnd). gives began live.batches live.whole first source (end_by e) l.base) due.0 l.given

pub came_so_far : {laws : Laws} {B : Type 0} (gives : Giving B) (came : Coming B) (is_due : Due B) (began : B) (core : Plan) (live : LiveView B) (first source : SourceTold) (so_far : Inputs) (l : LiveGives laws gives came is_due began live core first source More so_far) → IsLiveDue live
    → came began live.batches live.whole first source More (l.base ∷ l.earlier)
came_so_far {laws} {B} gives came is_due began core live first source so_far l due = subst (λ (e : Option FeedEnd). came began live.batches live.whole first source (end_by e) (l.base ∷ l.earlier)) due.0 l.in_turn

pub opened_as : (inputs more : Inputs) (count long : ℕ) → count ≡ long → IsWidened inputs more count → IsWidened inputs more long
opened_as inputs more count long same opened = subst (λ (n : ℕ). IsWidened inputs more n) same opened

-- In turn --

pub live_first_came : {laws : Laws} {B : Type 0} (gives : Giving B) (came : Coming B) (is_due : Due B) (began : B) (live : LiveView B) (core : Plan) (first source : SourceTold) (more : Inputs) → IsFirst (LiveGives laws gives came is_due began live core first source) core More more
    → IsFirst (λ e i. LiveGives laws gives came is_due began live core first source e i × LiveCame laws gives came is_due began live core first source e (i ∷ [])) core More more
live_first_came {laws} {B} gives came is_due began live core first source more f = record {
  given = (f.given, record { inputs = more; earlier = []; history_is = refl; given = f.given });
  fits = f.fits;
}

pub live_more_came : {laws : Laws} {B : Type 0} (gives : Giving B) (came : Coming B) (is_due : Due B) (began : B) (live : LiveView B) (core : Plan) (first source : SourceTold) (so_far more : Inputs) (earlier : List Inputs) → BatchesGoOn (LiveGives laws gives came is_due began live core first source More) core so_far more
    → BatchesGoOn (λ all. LiveGives laws gives came is_due began live core first source More all × LiveCame laws gives came is_due began live core first source More (all ∷ so_far ∷ earlier)) core so_far more
live_more_came {laws} {B} gives came is_due began live core first source so_far more earlier g = record {
  all = g.all;
  given = (g.given, record { inputs = g.all; earlier = so_far ∷ earlier; history_is = refl; given = g.given });
  goes_on = g.goes_on;
}

heads : (a b : Inputs) (xs ys : List Inputs) → a ∷ xs ≡ b ∷ ys → a ≡ b
heads a b xs ys same = ap (λ (l : List Inputs). slice_index_or l 0 a) same

pub given_head : {laws : Laws} {B : Type 0} (gives : Giving B) (came : Coming B) (is_due : Due B) (began : B) (live : LiveView B) (core : Plan) (first source : SourceTold) (so_far : Inputs) (earlier : List Inputs) → LiveCame laws gives came is_due began live core first source More (so_far ∷ earlier)
    → LiveGives laws gives came is_due began live core first source More so_far
given_head {laws} {B} gives came is_due began live core first source so_far earlier c =
    subst (LiveGives laws gives came is_due began live core first source More) (sym (heads so_far c.inputs earlier c.earlier c.history_is)) c.given

-- a batch more leaves less to come
pub live_fewer : (old_end : Option FeedEnd) (end : BatchEnd) (ended : Option FeedEnd) (left left_now rounds : ℕ) → old_end ≡ None → ended ≡ ended_of end → (IsMore end → left_now < left)
    → batches_left ended left_now + rounds < batches_left old_end left + rounds
live_fewer None More ended left left_now rounds unended is fewer = subst (λ (e : Option FeedEnd). batches_left e left_now + rounds < left + 1 + rounds) (sym is) (let less = fewer tt in omega (arith, less))
live_fewer None (End end) ended left left_now rounds unended is fewer = subst (λ (e : Option FeedEnd). batches_left e left_now + rounds < left + 1 + rounds) (sym is) (omega arith)
live_fewer (Some end) last ended left left_now rounds unended is fewer = absurd cc
