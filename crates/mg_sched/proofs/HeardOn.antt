-- What hears the events of a net, step by step.
use Rattle.std.proofs.Common.{◌≡◌, List, [], ◌∷◌, ◌++◌, Result, Ok, Err, OnErr, refl, sym, subst, append_assoc, append-nil}
use Rattle.mg_calc.specs.Rules.{Laws}
use Rattle.mg_calc.specs.declared.event.Event.{Event}
use Rattle.mg_calc.specs.declared.event.Effect.TheVariants.{Did}
use Rattle.mg_sched.specs.Views.{NetView}
use Rattle.mg_sched.specs.Acts.{IsEventOf, Acts}
use Rattle.mg_sched.specs.Heard.{Heard, HeardSome}
use Rattle.mg_sched.proofs.RunsOn.{run_one, run_on}

pub heard_none : (laws : Laws) {H : Type 0} (has_heard : H → H → List Event → Type 0) (h : H) (net : NetView) → Heard laws has_heard h h net net
heard_none laws {H} has_heard h net = λ began events heard. ([], refl, subst (λ (es : List Event). has_heard began h es) (sym (append-nil events)) heard)

pub heard_same : (laws : Laws) {H : Type 0} (has_heard : H → H → List Event → Type 0) (h : H) (net now : NetView) → now ≡ net → Heard laws has_heard h h net now
heard_same laws {H} has_heard h net now same = subst (λ (v : NetView). Heard laws has_heard h h net v) (sym same) (heard_none laws has_heard h net)

pub heard_then : (laws : Laws) {H : Type 0} (has_heard : H → H → List Event → Type 0) (a b c : H) (k l m : NetView) → Heard laws has_heard a b k l → Heard laws has_heard b c l m → Heard laws has_heard a c k m
heard_then laws {H} has_heard a b c k l m one two = λ began events heard.
    let x = one began events heard in
    let y = two began (events ++ x.0) x.2 in
    (x.0 ++ y.0, run_on laws x.0 y.0 k l m x.1 y.1, subst (λ (es : List Event). has_heard began c es) (append_assoc events x.0 y.0) y.2)

pub heard_one : (laws : Laws) {H : Type 0} (has_heard : H → H → List Event → Type 0) (a b : H) (event : Event) (net now : NetView) → IsEventOf net event → Acts laws event Did net now
    → ((began : H) (events : List Event) → has_heard began a events → has_heard began b (events ++ event ∷ [])) → Heard laws has_heard a b net now
heard_one laws {H} has_heard a b event net now of acts hears = λ began events heard. (event ∷ [], run_one laws event net now of acts, hears began events heard)

-- if memory runs out

pub on_err : {T E P : Type 0} (r : Result T E) → P → OnErr r P
on_err (Ok v) p = tt
on_err (Err e) p = p

pub heard_so_far : (laws : Laws) {H : Type 0} (has_heard : H → H → List Event → Type 0) (h : H) (net : NetView) → HeardSome laws has_heard h h net
heard_so_far laws {H} has_heard h net = (net, heard_none laws has_heard h net)

pub heard_then_some : (laws : Laws) {H : Type 0} (has_heard : H → H → List Event → Type 0) (a b c : H) (k l : NetView) → Heard laws has_heard a b k l → HeardSome laws has_heard b c l → HeardSome laws has_heard a c k
heard_then_some laws {H} has_heard a b c k l one two = (two.0, heard_then laws has_heard a b c k l two.0 one two.1)
