-- The loops of a trim: what is laid, what came along the edges, and what is given up.
use Rattle.std.proofs.Common.{◌≡◌, ℕ, zero, suc, ◌+◌, ◌<◌, ◌≤◌, Bool, true, false, cond, List, [], ◌∷◌, length, map, min, filter, fold, drop, set, get_or, Some, option_map, unwrap_or, slice_get, length-set, drop-cons, inl, inr, ap, ap₂, sym, subst, ◌∙◌, arith, if◌then◌else◌, ◌==◌}
use Rattle.std.proofs.lemmas.Bool.{cases_eq, cases_lt, cases_Bool, lt-ltb, le-ltb, eq-eqb, ne_eqb}
use Rattle.std.proofs.lemmas.Grind.{get_or-set_at}
use Rattle.std.proofs.lemmas.List.{get_or-set_other}
use Rattle.std.proofs.lemmas.Option.{same_Some, none-some, slice_get_within, get_or_from_slice_get}
use Rattle.mg_value.specs.Payload.{Plain}
use Rattle.mg_stream.specs.Queue.{count_of}
use Rattle.mg_stream.specs.Pool.{Backlog, empty_backlog}
use Rattle.mg_calc.specs.Rules.{Laws}
use Rattle.mg_calc.specs.declared.edge.Edge.{Edge}
use Rattle.mg_calc.specs.declared.plan.Plan.{Plan}
use Rattle.mg_node.specs.Views.{IntakeView, EngineView}
use Rattle.mg_node.specs.Job.{LoggedJob}
use Rattle.mg_node.specs.Lawful.{Owner, LawfulEngine}
use Rattle.mg_node.specs.Outputs.{count_at, without_first}
use Rattle.mg_node.specs.Ports.{port_queue}
use Rattle.mg_node.proofs.Lemmas.{get_other, put_there}
use Rattle.mg_sched.specs.Places.{place_of}
use Rattle.mg_sched.specs.Trims.{came_along, came_of}
use Rattle.mg_sched.specs.Writers.{writer_at, output_of}
use Rattle.mg_sched.specs.Code.Outputs.{LaidAt, HasOutput, HaveOutputs, AreLaid, AreWithin, given_below, GivenBelow, AllGiven}
use Rattle.mg_sched.proofs.Finding.{found}

-- What is laid.

only_there : (plan : Plan) (s t place port other_place other_port : ℕ) → s ≡ t → LaidAt plan s place port → LaidAt plan t other_place other_port → (place ≡ other_place) × (port ≡ other_port)
only_there plan s t place port other_place other_port same a b =
    let p = same_Some a.producer b.producer (sym a.written ∙ ap (writer_at plan) same ∙ b.written) in
    (sym a.place_is ∙ ap (place_of plan) p ∙ b.place_is, sym a.port_is ∙ ap output_of p ∙ b.port_is)

below_it : (a b : ℕ) → a < b + 1 → (a ≡ b → ⊥) → a < b
below_it a b less other = elim (cases_lt a b) [
  | inl below ↦ below
  | inr past ↦ absurd (other (omega (arith, less, past)))
]

pub laid_next : (plan : Plan) (engines : List EngineView) (got : List ℕ) (stream place port count : ℕ) (engine : EngineView) → HaveOutputs plan engines → LaidAt plan stream place port → slice_get engines place ≡ Some engine → count ≡ count_at engine port → stream < length got
    → AreLaid engines stream got → AreLaid engines (stream + 1) (set got stream count)
laid_next plan engines got stream place port count engine have at there is within laid k p e at_k less_p below = elim (cases_eq (e.first + p) stream) [
  | inl here ↦
      (let same = only_there plan (e.first + p) stream k p place port here (have.each k p e at_k less_p) at in
      let engine_is : e ≡ engine = same_Some e engine (sym at_k ∙ ap (slice_get engines) same.0 ∙ there) in
      get_or-set_at got stream (e.first + p) count 0 here within ∙ is ∙ sym (ap₂ (λ (v : EngineView) (n : ℕ). count_at v n) engine_is same.1))
  | inr other ↦ get_or-set_other got stream (e.first + p) count 0 other ∙ laid k p e at_k less_p (below_it (e.first + p) stream below other)
]

-- What came.

pub drop_one : {X : Type 0} (xs : List X) (i : ℕ) (x : X) → slice_get xs i ≡ Some x → drop i xs ≡ x ∷ drop (i + 1) xs
drop_one {X} xs i x at =
    let next : suc i ≡ i + 1 = omega arith in
    drop-cons xs i x (slice_get_within xs i x at) ∙ ap₂ (λ (y : X) (k : ℕ). y ∷ drop k xs) (get_or_from_slice_get xs i x x at) next

fold_first : (intakes : List IntakeView) (e : Edge) (rest : List Edge) (n s : ℕ) (b : Bool) → (e.stream == s) ≡ b → fold min n (came_of intakes (e ∷ rest) s) ≡ (if b then fold min (min n (came_along intakes e)) (came_of intakes rest s) else fold min n (came_of intakes rest s))
fold_first intakes e rest n s true is = ap (λ (t : Bool). fold min n (map (came_along intakes) (cond t (e ∷ filter (λ x. x.stream == s) rest) (filter (λ x. x.stream == s) rest)))) is
fold_first intakes e rest n s false is = ap (λ (t : Bool). fold min n (map (came_along intakes) (cond t (e ∷ filter (λ x. x.stream == s) rest) (filter (λ x. x.stream == s) rest)))) is

pub came_next : (intakes : List IntakeView) (edges : List Edge) (got : List ℕ) (i came s : ℕ) (e : Edge) → slice_get edges i ≡ Some e → came ≡ came_along intakes e → e.stream < length got
    → fold min (get_or (set got e.stream (min (get_or got e.stream 0) came)) s 0) (came_of intakes (drop (i + 1) edges) s) ≡ fold min (get_or got s 0) (came_of intakes (drop i edges) s)
came_next intakes edges got i came s e at is within =
    let first = ap (λ (es : List Edge). fold min (get_or got s 0) (came_of intakes es s)) (drop_one edges i e at) in
    elim (cases_eq s e.stream) [
      | inl here ↦
          (let read : get_or (set got e.stream (min (get_or got e.stream 0) came)) s 0 ≡ min (get_or got s 0) (came_along intakes e) =
          get_or-set_at got e.stream s (min (get_or got e.stream 0) came) 0 here within ∙ ap₂ (λ (k c : ℕ). min (get_or got k 0) c) (sym here) is in
          ap (λ (n : ℕ). fold min n (came_of intakes (drop (i + 1) edges) s)) read ∙ sym (first ∙ fold_first intakes e (drop (i + 1) edges) (get_or got s 0) s true (eq-eqb e.stream s (sym here))))
      | inr other ↦
          ap (λ (n : ℕ). fold min n (came_of intakes (drop (i + 1) edges) s)) (get_or-set_other got e.stream s (min (get_or got e.stream 0) came) 0 other)
          ∙ sym (first ∙ fold_first intakes e (drop (i + 1) edges) (get_or got s 0) s false (ne_eqb e.stream s (λ same. other (sym same))))
    ]

-- what came along an edge whose intake is there
pub came_there : (intakes : List IntakeView) (e : Edge) (intake : IntakeView) → slice_get intakes e.node ≡ Some intake → came_along intakes e ≡ count_of (port_queue intake.waits e.port)
came_there intakes e intake at = ap (λ o. unwrap_or (option_map (λ (i : IntakeView). count_of (port_queue i.waits e.port)) o) 0) at

-- the least of some numbers is no more than the first, nor than any other
pub least_low : (n : ℕ) (ns : List ℕ) → fold min n ns ≤ n
least_low n [] = omega arith
least_low n (m ∷ ns) = (let rest = least_low (min n m) ns in omega (arith, rest))

pub least_came : (intakes : List IntakeView) (edges : List Edge) (number n s : ℕ) (e : Edge) → slice_get edges number ≡ Some e → e.stream ≡ s → fold min n (came_of intakes edges s) ≤ came_along intakes e
least_came intakes [] number n s e at is = absurd (none-some e at)
least_came intakes (x ∷ edges) zero n s e at is =
    let own : x ≡ e = same_Some x e at in
    let first = fold_first intakes x edges n s true (eq-eqb x.stream s (ap (λ (y : Edge). y.stream) own ∙ is)) in
    let low = least_low (min n (came_along intakes x)) (came_of intakes edges s) in
    let same = ap (came_along intakes) own in
    omega (arith, first, low, same)
least_came intakes (x ∷ edges) (suc number) n s e at is = elim (cases_Bool (x.stream == s)) [
  | inl own ↦ (let rest = least_came intakes edges number (min n (came_along intakes x)) s e at is in let first = fold_first intakes x edges n s true own in omega (arith, first, rest))
  | inr other ↦ (let rest = least_came intakes edges number n s e at is in let first = fold_first intakes x edges n s false other in omega (arith, first, rest))
]

-- What is given up.

pub given_yes : (got : List ℕ) (upto s : ℕ) (output : Backlog Plain) → s < upto → given_below got upto s output ≡ without_first (get_or got s 0) output
given_yes got upto s output less = ap (λ (b : Bool). if b then without_first (get_or got s 0) output else output) (lt-ltb s upto less)

given_no : (got : List ℕ) (upto s : ℕ) (output : Backlog Plain) → upto ≤ s → given_below got upto s output ≡ output
given_no got upto s output past = ap (λ (b : Bool). if b then without_first (get_or got s 0) output else output) (le-ltb s upto past)

given_same : (got : List ℕ) (upto s : ℕ) (output : Backlog Plain) → (s ≡ upto → ⊥) → given_below got upto s output ≡ given_below got (upto + 1) s output
given_same got upto s output other = elim (cases_lt s upto) [
  | inl less ↦ given_yes got upto s output less ∙ sym (given_yes got (upto + 1) s output (omega (arith, less)))
  | inr past ↦ elim (cases_lt upto s) [
    | inl beyond ↦ given_no got upto s output past ∙ sym (given_no got (upto + 1) s output (omega (arith, beyond)))
    | inr upto_it ↦ absurd (other (omega (arith, past, upto_it)))
  ]
]

-- an engine that gives up at one output
abbrev pub giving : EngineView → ℕ → ℕ → EngineView
giving engine port number = record engine { outputs = set engine.outputs port (without_first number (get_or engine.outputs port empty_backlog)) }

-- what stands at an output that hasn't given up yet
not_yet : {laws : Laws} (got : List ℕ) (stream port : ℕ) (e e_now : EngineView) → HasOutput stream port e → GivenBelow laws got stream e e_now → get_or e_now.outputs port empty_backlog ≡ get_or e.outputs port empty_backlog
not_yet {laws} got stream port e e_now has g =
    let count = g.count in let less = has.within in let is = has.stream_is in
    let o = found e.outputs port less in
    let o_now = found e_now.outputs port (omega (arith, less, count)) in
    get_or_from_slice_get e_now.outputs port o_now.0 empty_backlog o_now.1 ∙ g.outputs port o.0 o_now.0 o.1 o_now.1 ∙ given_no got stream (e.first + port) o.0 (omega (arith, is)) ∙ sym (get_or_from_slice_get e.outputs port o.0 empty_backlog o.1)

one_given : {laws : Laws} (got : List ℕ) (stream port number : ℕ) (e e_now : EngineView) → HasOutput stream port e → number ≡ get_or got stream 0 → ((job : LoggedJob laws) (owner : Owner) → LawfulEngine job owner e_now → LawfulEngine job owner (giving e_now port number)) → GivenBelow laws got stream e e_now
    → GivenBelow laws got (stream + 1) e (giving e_now port number)
one_given {laws} got stream port number e e_now has is lawful g = record {
  rest = ap (λ (v : EngineView). (let w : EngineView = record v { outputs = set e_now.outputs port (without_first number (get_or e_now.outputs port empty_backlog)) } in w)) g.rest;
  count = length-set e_now.outputs port (without_first number (get_or e_now.outputs port empty_backlog)) ∙ g.count;
  outputs = λ k o o_now at at_now. elim (cases_eq k port) [
    | inl here ↦
        (let stream_is = has.stream_is in
        let own : e.first + k ≡ stream = omega (arith, here, stream_is) in
        let put = put_there e_now.outputs port (without_first number (get_or e_now.outputs port empty_backlog)) o_now (ap (slice_get (set e_now.outputs port (without_first number (get_or e_now.outputs port empty_backlog)))) (sym here) ∙ at_now) in
        let read : get_or e_now.outputs port empty_backlog ≡ o = not_yet got stream port e e_now has g ∙ get_or_from_slice_get e.outputs port o empty_backlog (ap (slice_get e.outputs) (sym here) ∙ at) in
        put ∙ ap₂ (λ (n : ℕ) (b : Backlog Plain). without_first n b) (is ∙ ap (λ (t : ℕ). get_or got t 0) (sym own)) read ∙ sym (given_yes got (stream + 1) (e.first + k) o (omega (arith, own))))
    | inr other ↦
        (let stream_is = has.stream_is in
        g.outputs k o o_now at (sym (get_other e_now.outputs port k (without_first number (get_or e_now.outputs port empty_backlog)) other) ∙ at_now) ∙ given_same got stream (e.first + k) o (λ same. other (omega (arith, same, stream_is))))
  ];
  lawful = λ job owner h. lawful job owner (g.lawful job owner h);
}

pub given_next : {laws : Laws} (plan : Plan) (got : List ℕ) (before now : List EngineView) (stream place port number : ℕ) (e_now e_new : EngineView) → HaveOutputs plan before → LaidAt plan stream place port → slice_get now place ≡ Some e_now → number ≡ get_or got stream 0
    → e_new ≡ giving e_now port number → ((job : LoggedJob laws) (owner : Owner) → LawfulEngine job owner e_now → LawfulEngine job owner e_new) → AllGiven laws got stream before now → AllGiven laws got (stream + 1) before (set now place e_new)
given_next {laws} plan got before now stream place port number e_now e_new have laid there is new_is lawful all = record {
  count = length-set now place e_new ∙ all.count;
  engines = λ k e e_then at at_then. elim (cases_eq k place) [
    | inl here ↦
        (let then_is : e_then ≡ e_new = put_there now place e_new e_then (ap (slice_get (set now place e_new)) (sym here) ∙ at_then) in
        let g = all.engines k e e_now at (ap (slice_get now) here ∙ there) in
        let has = have.output stream place port e laid (ap (slice_get before) (sym here) ∙ at) in
        subst (λ (v : EngineView). GivenBelow laws got (stream + 1) e v) (sym (then_is ∙ new_is))
        (one_given got stream port number e e_now has is (λ job owner h. subst (λ (v : EngineView). LawfulEngine job owner v) new_is (lawful job owner h)) g))
    | inr other ↦
        (let g = all.engines k e e_then at (sym (get_other now place k e_new other) ∙ at_then) in
        record {
          rest = g.rest;
          count = g.count;
          outputs = λ p o o_now in_it in_it_now. g.outputs p o o_now in_it in_it_now
              ∙ given_same got stream (e.first + p) o (λ same. other (only_there plan (e.first + p) stream k p place port same (have.each k p e at (slice_get_within e.outputs p o in_it)) laid).0);
          lawful = g.lawful;
        })
  ];
}

-- what a call that gives up needs
pub place_there : {laws : Laws} (plan : Plan) (got : List ℕ) (before now : List EngineView) (stream place port : ℕ) → HaveOutputs plan before → LaidAt plan stream place port → AllGiven laws got stream before now → place < length now
place_there {laws} plan got before now stream place port have laid all = (let less = have.place stream place port laid in let count = all.count in omega (arith, less, count))

pub output_there : {laws : Laws} (plan : Plan) (got : List ℕ) (before now : List EngineView) (stream place port : ℕ) (e_now : EngineView) → HaveOutputs plan before → LaidAt plan stream place port → slice_get now place ≡ Some e_now → AllGiven laws got stream before now → port < length e_now.outputs
output_there {laws} plan got before now stream place port e_now have laid there all =
    let e = found before place (have.place stream place port laid) in
    let less = (have.output stream place port e.0 laid e.1).within in
    let count = (all.engines place e.0 e_now e.1 there).count in
    omega (arith, less, count)

pub laid_enough : {laws : Laws} (plan : Plan) (got : List ℕ) (before now : List EngineView) (stream place port number : ℕ) (e_now : EngineView) → HaveOutputs plan before → AreWithin before got → LaidAt plan stream place port → slice_get now place ≡ Some e_now → number ≡ get_or got stream 0
    → AllGiven laws got stream before now → number ≤ count_at e_now port
laid_enough {laws} plan got before now stream place port number e_now have within laid there is all =
    let e = found before place (have.place stream place port laid) in
    let has = have.output stream place port e.0 laid e.1 in
    let same = ap (λ (b : Backlog Plain). b.gone + length b.packets) (not_yet got stream port e.0 e_now has (all.engines place e.0 e_now e.1 there)) in
    let read = ap (λ (s : ℕ). get_or got s 0) has.stream_is in
    let least = within place port e.0 e.1 has.within in
    omega (arith, same, read, least, is)
