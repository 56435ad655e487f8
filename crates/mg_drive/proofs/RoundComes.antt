-- What free nodes hand on after a round goes only to their own graph inputs of the core.
use Rattle.std.proofs.Common.{◌≡◌, ◌<◌, ◌+◌, ◌-◌, ℕ, zero, suc, List, [], ◌∷◌, ◌++◌, length, length-append, map, drop, replicate, Some, slice_get, slice_index_or, inl, inr, refl, sym, ap, ◌∙◌, subst, arith}
use Rattle.std.proofs.lemmas.Bool.{cases_lt}
use Rattle.std.proofs.lemmas.List.{length-map}
use Rattle.std.proofs.lemmas.List.Elements.{All-get_or}
use Rattle.std.proofs.lemmas.Option.{same_Some, none-some, slice_get_within}
use Rattle.mg_edge.specs.Edge.{SourceTold}
use Rattle.mg_value.specs.Payload.{Plain}
use Rattle.mg_settled.specs.Prefix.{StreamPrefix, IsPrefix, empty_prefix}
use Rattle.mg_calc.specs.Rules.{Laws}
use Rattle.mg_calc.specs.Told.{BoxTold}
use Rattle.mg_calc.specs.declared.inputs.Inputs.{Inputs}
use Rattle.mg_calc.specs.declared.plan.Plan.{Plan}
use Rattle.mg_feed.specs.declared.feed_end.BatchEnd.{BatchEnd}
use Rattle.mg_sched.specs.Views.{NetView}
use Rattle.mg_sched.specs.StandsFor.{StandsFor}
use Rattle.mg_sched.specs.Extends.{for_last, BringsNothing, ComesAt}
use Rattle.mg_sched.proofs.Finding.{found}
use Rattle.mg_free.specs.declared.node.FreeNode.{FreeNode}
use Rattle.mg_free.specs.Core.{split_of}
use Rattle.mg_free.specs.Rounds.{Taken, output_so_far}
use Rattle.mg_live.specs.declared.taker.Taker.{Taker}
use Rattle.mg_live.specs.Takes.{HaveTaken, turns_of, handed_of, outputs_so_far, piece_behind, pieces_behind, AreRising, IsNoneOf, DidAt, ArePiecesAt, AreCountedBut}
use Rattle.mg_live.proofs.HandedOn.{out_at, map_at, outs_long}
use Rattle.mg_live.proofs.InTurn.{turns_long}
use Rattle.mg_drive.specs.Batches.{Giving, Coming, Due, logged}
use Rattle.mg_drive.specs.Code.Live.{LiveView}
use Rattle.mg_drive.proofs.Jobs.{valid_plan, plan_stood}
use Rattle.mg_drive.proofs.LiveRounds.{IsStill, newest_fits}

-- Lists --

pieces_long : (ns : List ℕ) (ss : List (StreamPrefix Plain)) → length ns ≡ length ss → length (pieces_behind ns ss) ≡ length ss
pieces_long [] [] long = refl
pieces_long [] (s ∷ ss) long = absurd (omega (arith, long))
pieces_long (n ∷ ns) [] long = absurd (omega (arith, long))
pieces_long (n ∷ ns) (s ∷ ss) long = ap suc (pieces_long ns ss (omega (arith, long)))

dense_at : (ns : List ℕ) (ss : List (StreamPrefix Plain)) (p n : ℕ) (s : StreamPrefix Plain) → slice_get ns p ≡ Some n → slice_get ss p ≡ Some s → slice_get (pieces_behind ns ss) p ≡ Some (piece_behind n s)
dense_at [] ss p n s a b = absurd (none-some n a)
dense_at (m ∷ ns) [] p n s a b = absurd (none-some s b)
dense_at (m ∷ ns) (t ∷ ss) zero n s a b = (λ i. Some (piece_behind (same_Some m n a i) (same_Some t s b i)))
dense_at (m ∷ ns) (t ∷ ss) (suc p) n s a b = dense_at ns ss p n s a b

map_read : (f : ℕ → ℕ) (ns : List ℕ) (i m : ℕ) → slice_get (map f ns) i ≡ Some m → (n : ℕ) × (slice_get ns i ≡ Some n) × (m ≡ f n)
map_read f [] i m at = absurd (none-some m at)
map_read f (n ∷ ns) zero m at = (n, refl, sym (same_Some (f n) m at))
map_read f (n ∷ ns) (suc i) m at = map_read f ns i m at

behind : {X : Type 0} (xs ys : List X) (n p : ℕ) → length xs ≡ n → slice_get (xs ++ ys) (n + p) ≡ slice_get ys p
behind [] ys zero p long = ap (λ (k : ℕ). slice_get ys k) (let e : 0 + p ≡ p = omega arith in e)
behind [] ys (suc n) p long = absurd (omega (arith, long))
behind (x ∷ xs) ys zero p long = absurd (omega (arith, long))
behind (x ∷ xs) ys (suc n) p long = ap (λ (k : ℕ). slice_get (x ∷ (xs ++ ys)) k) (let e : suc n + p ≡ suc (n + p) = omega arith in e) ∙ behind xs ys n p (omega (arith, long))

empty_at : (n p : ℕ) (ys : List (StreamPrefix Plain)) (s : StreamPrefix Plain) → p < n → slice_get (replicate n empty_prefix ++ ys) p ≡ Some s → empty_prefix ≡ s
empty_at zero p ys s less at = absurd (omega (arith, less))
empty_at (suc n) zero ys s less at = same_Some empty_prefix s at
empty_at (suc n) (suc p) ys s less at = empty_at n p ys s (omega (arith, less)) at

replicate_long : (n : ℕ) → length (replicate n (empty_prefix {X = Plain})) ≡ n
replicate_long zero = refl
replicate_long (suc n) = ap suc (replicate_long n)

index_at : (ss : List (StreamPrefix Plain)) (p : ℕ) (s : StreamPrefix Plain) → slice_get ss p ≡ Some s → slice_index_or ss p empty_prefix ≡ s
index_at [] p s at = absurd (none-some s at)
index_at (t ∷ ss) zero s at = same_Some t s at
index_at (t ∷ ss) (suc p) s at = index_at ss p s at

drop_all : {X : Type 0} (xs : List X) → drop (length xs) xs ≡ []
drop_all [] = refl
drop_all (x ∷ xs) = drop_all xs

-- The pieces --

-- if a node did nothing, all that it has was handed on before
pub handed_but : {laws : Laws} {B : Type 0} (gives : Giving B) (came : Coming B) (is_due : Due B) (began : B) (live : LiveView B) (core : Plan) (first source : SourceTold) (last : BatchEnd) (so_far : Inputs) (net : NetView) (still : IsStill laws gives came is_due began live core first source last so_far net)
    (places : List ℕ) → DidAt places still.given.takens (turns_of still.streams live.frees still.given.takens) → AreCountedBut places (handed_of live.takers) (outputs_so_far live.frees (turns_of still.streams live.frees still.given.takens))
handed_but {laws} {B} gives came is_due began live core first source last so_far net still places did place n s none at_n at_s =
    let l = still.given in
    let after = turns_of still.streams live.frees l.takens in
    let a_long = turns_long still.streams live.frees l.takens l.taken.takens_long in
    let long = outs_long live.frees after a_long in
    let within = slice_get_within (outputs_so_far live.frees after) place s at_s in
    let t_long = l.taken.takens_long in
    let free = found live.frees place (omega (arith, within, long)) in
    let was = found l.takens place (omega (arith, within, long, t_long)) in
    let now = found after place (omega (arith, within, long, a_long)) in
    let same : now.0 ≡ was.0 = did.others place was.0 now.0 none was.1 now.1 in
    let s_is : s ≡ output_so_far free.0 now.0 = same_Some s (output_so_far free.0 now.0) (sym at_s ∙ out_at live.frees after place free.0 now.0 free.1 now.1) in
    let n_is : n ≡ length (output_so_far free.0 was.0).packets =
    same_Some n (length (output_so_far free.0 was.0).packets) (sym at_n ∙ ap (λ (ns : List ℕ). slice_get ns place) l.handed
    ∙ map_out (outputs_so_far live.frees l.takens) place (output_so_far free.0 was.0) (out_at live.frees l.takens place free.0 was.0 free.1 was.1)) in
    n_is ∙ ap (λ (t : Taken). length (output_so_far free.0 t).packets) (sym same) ∙ ap (λ (x : StreamPrefix Plain). length x.packets) (sym s_is)
  where
    map_out : (ss : List (StreamPrefix Plain)) (p : ℕ) (x : StreamPrefix Plain) → slice_get ss p ≡ Some x → slice_get (map (λ s. length s.packets) ss) p ≡ Some (length x.packets)
    map_out ss p x at = map_at (λ (s : StreamPrefix Plain). length s.packets) ss p x at

-- a piece for a node that did nothing brings nothing
little : (s : StreamPrefix Plain) (n : ℕ) → n ≡ length s.packets → BringsNothing s (piece_behind n s)
little s n all = record { packets = ap (λ (k : ℕ). drop k s.packets) all ∙ drop_all s.packets; bound = omega arith }

pub round_comes : {laws : Laws} {B : Type 0} (gives : Giving B) (came : Coming B) (is_due : Due B) (began : B) (live : LiveView B) (core : Plan) (first source : SourceTold) (last : BatchEnd) (so_far : Inputs) (net : NetView) (boxes : List BoxTold) → StandsFor (logged laws core so_far boxes) net
    → (still : IsStill laws gives came is_due began live core first source last so_far net) (places inputs : List ℕ) (pieces : List (StreamPrefix Plain)) → DidAt places still.given.takens (turns_of still.streams live.frees still.given.takens)
    → ArePiecesAt places pieces (handed_of live.takers) (outputs_so_far live.frees (turns_of still.streams live.frees still.given.takens)) → inputs ≡ map (λ p. length live.whole.inputs + p) places
    → ComesAt inputs pieces so_far.streams (for_last (length net.plan.inputs) (pieces_behind (handed_of live.takers) (outputs_so_far live.frees (turns_of still.streams live.frees still.given.takens))))
round_comes {laws} {B} gives came is_due began live core first source last so_far net boxes stands still places inputs pieces did are inputs_are =
    let l = still.given in
    let n0 = length live.whole.inputs in
    let after = turns_of still.streams live.frees l.takens in
    let handed = handed_of live.takers in
    let outs = outputs_so_far live.frees after in
    let dense = pieces_behind handed outs in
    let t_long = l.taken.takens_long in
    let k_long = l.taken.takers_long in
    let a_long = turns_long still.streams live.frees l.takens l.taken.takens_long in
    let o_long = outs_long live.frees after a_long in
    let h_long : length handed ≡ length live.takers = length-map live.takers (λ (t : Taker). t.state.rest.handed) in
    let d_long = pieces_long handed outs (omega (arith, h_long, k_long, o_long)) in
    let job = logged laws core so_far boxes in
    let is_job = valid_plan job net stands in
    let many : length so_far.streams ≡ length core.inputs = is_job.inputs.streams in
    let there : length net.plan.inputs ≡ length core.inputs = ap (λ (p : Plan). length p.inputs) (plan_stood job net stands) in
    let old = outputs_so_far (split_of live.whole).free l.takens in
    let old_is : old ≡ outputs_so_far live.frees l.takens = ap (λ (fs : List FreeNode). outputs_so_far fs l.takens) (sym l.of.frees_are) in
    let old_long : length old ≡ length live.frees = ap length old_is ∙ outs_long live.frees l.takens l.taken.takens_long in
    let streams_are : so_far.streams ≡ l.base.streams ++ old = ap (λ (i : Inputs). i.streams) l.inputs_are in
    let sum : length so_far.streams ≡ length l.base.streams + length old = ap length streams_are ∙ length-append l.base.streams old in
    let base : length l.base.streams ≡ n0 = (newest_fits live.whole l.base l.earlier l.come).streams in
    let left : length net.plan.inputs - length dense ≡ n0 = omega (arith, many, there, sum, old_long, base, d_long, o_long) in
    let more_is : (for_last (length net.plan.inputs) dense).streams ≡ replicate n0 empty_prefix ++ dense = ap (λ (n : ℕ). replicate n (empty_prefix {X = Plain}) ++ dense) left in
    let dense_there : (p : ℕ) → slice_get (for_last (length net.plan.inputs) dense).streams (n0 + p) ≡ slice_get dense p =
    λ p. ap (λ (ss : List (StreamPrefix Plain)). slice_get ss (n0 + p)) more_is ∙ behind (replicate n0 empty_prefix) dense n0 p (replicate_long n0) in
    let input_of : (i p : ℕ) → slice_get places i ≡ Some p → slice_get inputs i ≡ Some (n0 + p) = λ i p at. ap (λ (ns : List ℕ). slice_get ns i) inputs_are ∙ map_at (λ (p : ℕ). n0 + p) places i p at in
    let place_of : (i input : ℕ) → slice_get inputs i ≡ Some input → (p : ℕ) × (slice_get places i ≡ Some p) × (input ≡ n0 + p) =
    λ i input at. map_read (λ (p : ℕ). n0 + p) places i input (ap (λ (ns : List ℕ). slice_get ns i) (sym inputs_are) ∙ at) in
    record {
      rising = λ i j a b less at_a at_b.
          (let x = place_of i a at_a in
          let y = place_of j b at_b in
          let low = did.rising i j x.0 y.0 less x.1 y.1 in
          let x_is = x.2 in let y_is = y.2 in
          omega (arith, low, x_is, y_is));
      as_many = are.as_many ∙ sym (ap length inputs_are ∙ length-map places (λ (p : ℕ). n0 + p));
      given = λ i input piece at at_piece.
          (let p = place_of i input at in
          let within = did.within i p.0 p.1 in
          let n = found handed p.0 (omega (arith, within, h_long, k_long, t_long)) in
          let s = found outs p.0 (omega (arith, within, o_long, t_long)) in
          let own : piece_behind n.0 s.0 ≡ piece = same_Some (piece_behind n.0 s.0) piece (sym (are.each i p.0 n.0 s.0 p.1 n.1 s.1) ∙ at_piece) in
          ap (λ (k : ℕ). slice_get (for_last (length net.plan.inputs) dense).streams k) p.2 ∙ dense_there p.0 ∙ dense_at handed outs p.0 n.0 s.0 n.1 s.1 ∙ ap (λ (x : StreamPrefix Plain). Some x) own);
      others = λ input piece at none. elim (cases_lt input n0) [
        | inl low ↦
            (let is : empty_prefix ≡ piece = empty_at n0 input dense piece low (ap (λ (ss : List (StreamPrefix Plain)). slice_get ss input) (sym more_is) ∙ at) in
            let opened = (All-get_or IsPrefix so_far.streams input empty_prefix (omega (arith, low, sum, base)) is_job.inputs.prefixes).opened in
            subst (BringsNothing (slice_index_or so_far.streams input empty_prefix)) is (record { packets = refl; bound = omega (arith, opened) }))
        | inr high ↦
            (let p : ℕ = input - n0 in
            let p_is : input ≡ n0 + p = omega (arith, high) in
            let in_dense : slice_get dense p ≡ Some piece = sym (dense_there p) ∙ ap (λ (k : ℕ). slice_get (for_last (length net.plan.inputs) dense).streams k) (sym p_is) ∙ at in
            let within = slice_get_within dense p piece in_dense in
            let free = found live.frees p (omega (arith, within, d_long, o_long)) in
            let was = found l.takens p (omega (arith, within, d_long, o_long, t_long)) in
            let now = found after p (omega (arith, within, d_long, o_long, a_long)) in
            let n = found handed p (omega (arith, within, d_long, o_long, h_long, k_long)) in
            let apart : IsNoneOf places p = λ i e. none i (input_of i p e ∙ ap (λ (k : ℕ). Some k) (sym p_is)) in
            let same : now.0 ≡ was.0 = did.others p was.0 now.0 apart was.1 now.1 in
            let out = output_so_far free.0 now.0 in
            let out_now = out_at live.frees after p free.0 now.0 free.1 now.1 in
            let count = handed_but gives came is_due began live core first source last so_far net still places did p n.0 out apart n.1 out_now in
            let piece_is : piece_behind n.0 out ≡ piece = same_Some (piece_behind n.0 out) piece (sym (dense_at handed outs p n.0 out n.1 out_now) ∙ in_dense) in
            let old_out : slice_get old p ≡ Some out =
            ap (λ (ss : List (StreamPrefix Plain)). slice_get ss p) old_is ∙ out_at live.frees l.takens p free.0 was.0 free.1 was.1 ∙ ap (λ (t : Taken). Some (output_so_far free.0 t)) (sym same) in
            let here : slice_index_or so_far.streams input empty_prefix ≡ out =
            index_at so_far.streams input out (ap (λ (ss : List (StreamPrefix Plain)). slice_get ss input) streams_are ∙ ap (slice_get (l.base.streams ++ old)) p_is ∙ behind l.base.streams old n0 p base ∙ old_out) in
            subst (λ (s : StreamPrefix Plain). BringsNothing s piece) (sym here) (subst (BringsNothing out) piece_is (little out n.0 count)))
      ];
    }

-- The same, by what the calls have --

pub counted_as : (places moved handed was : List ℕ) (frees now : List FreeNode) (takens : List Taken) → moved ≡ places → handed ≡ was → now ≡ frees → AreCountedBut places was (outputs_so_far frees takens) → AreCountedBut moved handed (outputs_so_far now takens)
counted_as places moved handed was frees now takens one two three h =
    subst (λ (ps : List ℕ). AreCountedBut ps handed (outputs_so_far now takens)) (sym one)
    (subst (λ (ns : List ℕ). AreCountedBut places ns (outputs_so_far now takens)) (sym two) (subst (λ (fs : List FreeNode). AreCountedBut places was (outputs_so_far fs takens)) (sym three) h))

pub pieces_at_as : (places moved handed was : List ℕ) (pieces : List (StreamPrefix Plain)) (frees now : List FreeNode) (takens : List Taken) → moved ≡ places → handed ≡ was → now ≡ frees → ArePiecesAt moved pieces handed (outputs_so_far now takens) → ArePiecesAt places pieces was (outputs_so_far frees takens)
pieces_at_as places moved handed was pieces frees now takens one two three h =
    subst (λ (ps : List ℕ). ArePiecesAt ps pieces was (outputs_so_far frees takens)) one
    (subst (λ (ns : List ℕ). ArePiecesAt moved pieces ns (outputs_so_far frees takens)) two (subst (λ (fs : List FreeNode). ArePiecesAt moved pieces handed (outputs_so_far fs takens)) three h))

pub inputs_as : (inputs places moved : List ℕ) (first count : ℕ) → inputs ≡ map (λ p. first + p) moved → first ≡ count → moved ≡ places → inputs ≡ map (λ p. count + p) places
inputs_as inputs places moved first count is one two = is ∙ ap (λ (n : ℕ). map (λ p. n + p) moved) one ∙ ap (λ (ps : List ℕ). map (λ p. count + p) ps) two

pub rising_as : {X : Type 0} (places moved : List ℕ) (before after : List X) → moved ≡ places → DidAt places before after → AreRising moved
rising_as places moved before after same did = subst AreRising (sym same) did.rising

pub within_as : (places moved : List ℕ) (frees : List FreeNode) (before after : List Taken) (takers : List Taker) → moved ≡ places → length before ≡ length frees → HaveTaken frees after takers → DidAt places before after → (i place : ℕ) → slice_get moved i ≡ Some place → place < length takers
within_as places moved frees before after takers same long h did i place at =
    let within = did.within i place (ap (λ (ps : List ℕ). slice_get ps i) (sym same) ∙ at) in
    let all = h.takers_long in
    omega (arith, within, long, all)
