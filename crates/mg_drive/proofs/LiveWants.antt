-- What free nodes still have to read of a net, port by port.
use Rattle.std.proofs.Common.{◌≡◌, ◌<◌, ℕ, zero, suc, List, [], ◌∷◌, ◌++◌, length, map, zip, Some, slice_get, slice_index_or, refl, sym, ap, ◌∙◌, subst, arith}
use Rattle.std.specs.List.{AllByRecursion}
use Rattle.std.proofs.lemmas.List.Elements.{All-from_recursion, recursion_from_All}
use Rattle.std.proofs.lemmas.Option.{same_Some, none-some, slice_get_within}
use Rattle.mg_sched.specs.Views.{NetView}
use Rattle.mg_sched.specs.Looks.{HasFrom}
use Rattle.mg_free.specs.declared.node.FreeNode.{FreeNode}
use Rattle.mg_free.specs.Logs.{arrived_at}
use Rattle.mg_free.specs.Rounds.{Taken}
use Rattle.mg_live.specs.declared.taker.Taker.{Taker}
use Rattle.mg_live.specs.Takes.{HaveTaken}
use Rattle.mg_drive.specs.Nets.{Wanted, AreThere, AreRead, HasAtMost}
use Rattle.mg_drive.specs.Code.Live.{wanted_at, wanted_by}

-- what holds of each port of each free node: of its stream, and of how many packets arrived there
abbrev pub AtPorts : (ℕ → ℕ → Type 0) → List FreeNode → List Taken → Type 0
AtPorts P frees takens = (place port stream : ℕ) (free : FreeNode) (taken : Taken) → slice_get frees place ≡ Some free → slice_get takens place ≡ Some taken → slice_get free.inputs port ≡ Some stream → P stream (length (arrived_at port taken.log))

abbrev wanted : (ℕ → ℕ → Type 0) → Wanted → Type 0
wanted P w = P w.stream w.from

-- Lists --

front_all : {X : Type 0} (P : X → Type 0) (xs ys : List X) → AllByRecursion P (xs ++ ys) → AllByRecursion P xs
front_all P [] ys all = tt
front_all P (x ∷ xs) ys all = (all.0, front_all P xs ys all.1)

back_all : {X : Type 0} (P : X → Type 0) (xs ys : List X) → AllByRecursion P (xs ++ ys) → AllByRecursion P ys
back_all P [] ys all = all
back_all P (x ∷ xs) ys all = back_all P xs ys all.1

both_all : {X : Type 0} (P : X → Type 0) (xs ys : List X) → AllByRecursion P xs → AllByRecursion P ys → AllByRecursion P (xs ++ ys)
both_all P [] ys one two = two
both_all P (x ∷ xs) ys one two = (one.0, both_all P xs ys one.1 two)

-- One node --

abbrev ports_wanted : List ℕ → List ℕ → List Wanted
ports_wanted inputs counts = map (λ (p : ℕ × ℕ). record { stream = p.0; from = p.1 }) (zip inputs counts)

at_port : (P : ℕ → ℕ → Type 0) (inputs counts : List ℕ) (port stream : ℕ) → AllByRecursion (wanted P) (ports_wanted inputs counts) → slice_get inputs port ≡ Some stream → port < length counts → P stream (slice_index_or counts port 0)
at_port P [] counts port stream all at less = absurd (none-some stream at)
at_port P (s ∷ inputs) [] port stream all at less = absurd (omega (arith, less))
at_port P (s ∷ inputs) (n ∷ counts) zero stream all at less = subst (λ (k : ℕ). P k n) (same_Some s stream at) all.0
at_port P (s ∷ inputs) (n ∷ counts) (suc port) stream all at less = at_port P inputs counts port stream all.1 at (omega (arith, less))

all_ports : (P : ℕ → ℕ → Type 0) (inputs counts : List ℕ) → ((port stream : ℕ) → slice_get inputs port ≡ Some stream → port < length counts → P stream (slice_index_or counts port 0)) → AllByRecursion (wanted P) (ports_wanted inputs counts)
all_ports P [] counts each = tt
all_ports P (s ∷ inputs) [] each = tt
all_ports P (s ∷ inputs) (n ∷ counts) each = (each zero s refl (omega arith), all_ports P inputs counts (λ port stream at less. each (suc port) stream at (omega (arith, less))))

-- All nodes --

pub later : (free : FreeNode) (taken : Taken) (taker : Taker) (frees : List FreeNode) (takens : List Taken) (takers : List Taker) → HaveTaken (free ∷ frees) (taken ∷ takens) (taker ∷ takers) → HaveTaken frees takens takers
later free taken taker frees takens takers h = record {
  takers_long = (let long = h.takers_long in omega (arith, long));
  takens_long = (let long = h.takens_long in omega (arith, long));
  each = λ place f t r a b c. h.each (suc place) f t r a b c;
}

ports_there : (P : ℕ → ℕ → Type 0) (frees : List FreeNode) (takens : List Taken) (takers : List Taker) → HaveTaken frees takens takers → AllByRecursion (wanted P) (wanted_by frees takers) → AtPorts P frees takens
ports_there P [] takens takers h all place port stream free taken a b c = absurd (none-some free a)
ports_there P (f ∷ frees) [] takers h all place port stream free taken a b c = absurd (none-some taken b)
ports_there P (f ∷ frees) (t ∷ takens) [] h all place port stream free taken a b c = absurd (let long = h.takers_long in omega (arith, long))
ports_there P (f ∷ frees) (t ∷ takens) (r ∷ takers) h all zero port stream free taken a b c =
    let has = h.each zero f t r refl refl refl in
    let input : slice_get f.inputs port ≡ Some stream = ap (λ (n : FreeNode). slice_get n.inputs port) (same_Some f free a) ∙ c in
    let less = slice_get_within f.inputs port stream input in
    let ports = has.ports in
    let at = at_port P f.inputs r.counts.items port stream (front_all (wanted P) (wanted_at (f, r)) (wanted_by frees takers) all) input (omega (arith, less, ports)) in
    subst (λ (n : ℕ). P stream n) (has.counts port less ∙ ap (λ (x : Taken). length (arrived_at port x.log)) (same_Some t taken b)) at
ports_there P (f ∷ frees) (t ∷ takens) (r ∷ takers) h all (suc place) port stream free taken a b c =
    ports_there P frees takens takers (later f t r frees takens takers h) (back_all (wanted P) (wanted_at (f, r)) (wanted_by frees takers) all) place port stream free taken a b c

all_there : (P : ℕ → ℕ → Type 0) (frees : List FreeNode) (takens : List Taken) (takers : List Taker) → HaveTaken frees takens takers → AtPorts P frees takens → AllByRecursion (wanted P) (wanted_by frees takers)
all_there P [] takens takers h at = tt
all_there P (f ∷ frees) takens [] h at = tt
all_there P (f ∷ frees) [] (r ∷ takers) h at = absurd (let long = h.takens_long in omega (arith, long))
all_there P (f ∷ frees) (t ∷ takens) (r ∷ takers) h at =
    let has = h.each zero f t r refl refl refl in
    both_all (wanted P) (wanted_at (f, r)) (wanted_by frees takers)
    (all_ports P f.inputs r.counts.items (λ port stream input less. subst (λ (n : ℕ). P stream n) (sym (has.counts port (slice_get_within f.inputs port stream input))) (at zero port stream f t refl refl input)))
    (all_there P frees takens takers (later f t r frees takens takers h) (λ place port stream free taken a b c. at (suc place) port stream free taken a b c))

pub there_at_ports : (net : NetView) (frees : List FreeNode) (takens : List Taken) (takers : List Taker) → HaveTaken frees takens takers → AreThere (wanted_by frees takers) net → AtPorts (HasFrom net) frees takens
there_at_ports net frees takens takers h there = ports_there (HasFrom net) frees takens takers h (recursion_from_All (wanted (HasFrom net)) (wanted_by frees takers) there)

pub all_are_there : (net : NetView) (frees : List FreeNode) (takens : List Taken) (takers : List Taker) → HaveTaken frees takens takers → AtPorts (HasFrom net) frees takens → AreThere (wanted_by frees takers) net
all_are_there net frees takens takers h at = All-from_recursion (wanted (HasFrom net)) (wanted_by frees takers) (all_there (HasFrom net) frees takens takers h at)

pub all_are_read : (net : NetView) (frees : List FreeNode) (takens : List Taken) (takers : List Taker) → HaveTaken frees takens takers → AtPorts (HasAtMost net) frees takens → AreRead (wanted_by frees takers) net
all_are_read net frees takens takers h at = All-from_recursion (wanted (HasAtMost net)) (wanted_by frees takers) (all_there (HasAtMost net) frees takens takers h at)
