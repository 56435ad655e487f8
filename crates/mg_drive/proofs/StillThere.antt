-- What is still to be read of a net is there.
use Rattle.std.proofs.Common.{◌≡◌, ◌≤◌, ◌+◌, ℕ, List, [], ◌∷◌, Bool, true, false, if◌then◌else◌, length, min, max, Some, slice_get, ap, subst, sym, ◌∙◌, arith}
use Rattle.std.specs.List.{AllByRecursion, fold}
use Rattle.std.proofs.lemmas.List.Elements.{All-weaker, All-from_recursion}
use Rattle.std.proofs.lemmas.Option.{slice_get_within}
use Rattle.mg_value.specs.Payload.{Plain}
use Rattle.mg_stream.specs.Pool.{Backlog}
use Rattle.mg_calc.specs.declared.plan.Plan.{Plan}
use Rattle.mg_sched.specs.Views.{NetView}
use Rattle.mg_sched.specs.Places.{place_of}
use Rattle.mg_sched.specs.Trims.{Trims, is_kept, came_of, got_by_all, goes_of}
use Rattle.mg_sched.specs.Writers.{writer_at, output_of}
use Rattle.mg_sched.specs.Looks.{HasFrom}
use Rattle.mg_sched.specs.Taking.{LeavesNodes}
use Rattle.mg_sched.proofs.Finding.{found}
use Rattle.mg_sched.proofs.NothingGone.{leaves_keep}
use Rattle.mg_drive.specs.Nets.{Wanted, AreThere, AreRead, HasAtMost, GaveNothingUp}

-- if all that was laid was read, and only that was given up since, what is still to be read is there
pub read_there : (wanted : List Wanted) (before after : NetView) → ((stream number : ℕ) → HasAtMost before stream number → HasFrom after stream number) → AreRead wanted before → AreThere wanted after
read_there wanted before after laid read = All-weaker (λ (w : Wanted). HasAtMost before w.stream w.from) (λ (w : Wanted). HasFrom after w.stream w.from) (λ w h. laid w.stream w.from h) wanted read

-- if nothing was given up since, what is still to be read is there
pub still_there : (wanted : List Wanted) (before after : NetView) → GaveNothingUp before after → AreThere wanted before → AreThere wanted after
still_there wanted before after whole there = All-weaker (λ (w : Wanted). HasFrom before w.stream w.from) (λ (w : Wanted). HasFrom after w.stream w.from) (λ w h. whole w.stream w.from h) wanted there

pub same_there : (before after : List Wanted) (net : NetView) → after ≡ before → AreThere before net → AreThere after net
same_there before after net same there = subst (λ (ws : List Wanted). AreThere ws net) (sym same) there

-- all packets of a net that was just made are there
from_there : (net : NetView) → ((stream : ℕ) → HasFrom net stream 0) → (stream number : ℕ) → HasFrom net stream number
from_there net whole stream number output is = (let none = whole stream output is in omega (arith, none))

each_there : (net : NetView) → ((stream : ℕ) → HasFrom net stream 0) → (wanted : List Wanted) → AllByRecursion (λ (w : Wanted). HasFrom net w.stream w.from) wanted
each_there net whole [] = tt
each_there net whole (w ∷ wanted) = (from_there net whole w.stream w.from, each_there net whole wanted)

pub made_there : (wanted : List Wanted) (net : NetView) → ((stream : ℕ) → HasFrom net stream 0) → AreThere wanted net
made_there wanted net whole = All-from_recursion (λ (w : Wanted). HasFrom net w.stream w.from) wanted (each_there net whole wanted)

-- Nets that give nothing up --

pub given_on : (a b c : NetView) → GaveNothingUp a b → GaveNothingUp b c → GaveNothingUp a c
given_on a b c one two = λ stream number h. two stream number (one stream number h)

pub same_whole : (before now : NetView) → now ≡ before → GaveNothingUp before now
same_whole before now same = λ stream number h. subst (λ (v : NetView). HasFrom v stream number) (sym same) h

pub takings_whole : (before now : NetView) → LeavesNodes before now → GaveNothingUp before now
takings_whole before now left = λ stream number. leaves_keep before now stream number (ap (λ (v : NetView). v.plan) left) (ap (λ (v : NetView). v.engines) left)

-- A trim --

fold_least : (n : ℕ) (ns : List ℕ) → fold min n ns ≤ n
fold_least n [] = omega arith
fold_least n (m ∷ ns) = (let less = fold_least (min n m) ns in omega (arith, less))

goes_most : (b : Bool) (n m : ℕ) → n ≤ m → (if b then 0 else n) ≤ m
goes_most true n m le = omega arith
goes_most false n m le = le

-- a trim gives up at most what is laid
pub trims_laid : (before now : NetView) (stream number : ℕ) → Trims before now → HasAtMost before stream number → HasFrom now stream number
trims_laid before now stream number t laid output is =
    let plan = ap (λ (v : NetView). v.plan) t.parts in
    let place = place_of before.plan is.producer in
    let there : slice_get now.engines place ≡ Some is.engine = ap (λ (p : Plan). slice_get now.engines (place_of p is.producer)) (sym plan) ∙ is.engine_is in
    let places = t.places in
    let old = found before.engines place (let within = slice_get_within now.engines place is.engine there in omega (arith, within, places)) in
    let one = t.engines place old.0 is.engine old.1 there in
    let port = output_of is.producer in
    let count = one.count in
    let was = found old.0.outputs port (let within = slice_get_within is.engine.outputs port output is.output_is in omega (arith, within, count)) in
    let written : writer_at before.plan stream ≡ Some is.producer = ap (λ (p : Plan). writer_at p stream) (sym plan) ∙ is.written in
    let goes = one.outputs port was.0 output was.1 is.output_is in
    let most = goes_most (is_kept before (old.0.first + port)) (got_by_all before (old.0.first + port) was.0) (was.0.gone + length was.0.packets)
    (fold_least (was.0.gone + length was.0.packets) (came_of before.intakes before.plan.edges (old.0.first + port))) in
    let few = laid was.0 (record { producer = is.producer; engine = old.0; written = written; engine_is = old.1; output_is = was.1 }) in
    let same : output.gone ≡ max was.0.gone (goes_of before (old.0.first + port) was.0) = ap (λ (b : Backlog Plain). b.gone) goes in
    omega (arith, most, few, same)
