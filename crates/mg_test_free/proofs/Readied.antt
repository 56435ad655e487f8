-- A free node that reads the first streams is ready, and is so after each round.
use Rattle.std.proofs.Common.{◌≡◌, ℕ, zero, suc, ◌+◌, ◌<◌, false, List, [], ◌∷◌, length, Some, slice_get, All, refl, sym, ap, ◌∙◌, subst, arith}
use Rattle.std.specs.List.{range_with_len}
use Rattle.std.proofs.lemmas.List.Elements.{All-from_recursion, recursion_from_All}
use Rattle.std.proofs.lemmas.Option.{same_Some, none-some}
use Rattle.mg_value.specs.Payload.{Plain}
use Rattle.mg_settled.specs.Prefix.{StreamPrefix, IsPrefix}
use Rattle.mg_free.specs.declared.law.FreeLaw.{FreeLaw}
use Rattle.mg_free.specs.declared.node.FreeNode.{FreeNode}
use Rattle.mg_free.specs.Free.{ports_of}
use Rattle.mg_free.specs.Logs.{IsLawfulSoFar}
use Rattle.mg_free.specs.Rounds.{Taken, free_inputs, turn}
use Rattle.mg_free.proofs.Turning.{turn_lawful}
use Rattle.mg_free.proofs.UnderWay.{inputs_keep}
use Rattle.mg_live.specs.declared.taker.Taker.{Taker}
use Rattle.mg_live.specs.Takes.{HaveTaken, MayTurn, MayAllTurn, MayRound, turns_of, nothing_taken}
use Rattle.mg_test_free.specs.Ready.{IsReady, IsOneNode}

range_at : (a n i s : ℕ) → slice_get (range_with_len a n) i ≡ Some s → s < a + n
range_at a zero i s at = absurd (none-some s at)
range_at a (suc n) zero s at = (let e = same_Some a s at in omega (arith, e))
range_at a (suc n) (suc i) s at = (let less = range_at (a + 1) n i s at in omega (arith, less))

range_long : (a n : ℕ) → length (range_with_len a n) ≡ n
range_long a zero = refl
range_long a (suc n) = ap suc (range_long (a + 1) n)

none_lawful : (inputs : List (StreamPrefix Plain)) → IsLawfulSoFar inputs []
none_lawful inputs = record { ports = All-from_recursion (λ a. a.port < length inputs) [] tt; first = λ port less. refl }

pub one_ready : (law : FreeLaw) (frees : List FreeNode) (takers : List Taker) (streams : List (StreamPrefix Plain)) → IsOneNode law frees → length streams ≡ ports_of law → All IsPrefix streams → HaveTaken frees (nothing_taken frees) takers
    → IsReady frees takers streams
one_ready law frees takers streams one long keeps have = record {
  takens = nothing_taken frees;
  have_taken = have;
  may = subst (λ (fs : List FreeNode). MayAllTurn streams fs (nothing_taken fs)) (sym one.alone) (λ place free taken at at_taken. may place free taken at at_taken);
}
  where
    ready : MayTurn streams one.free (record { log = []; closed = false })
    ready = record {
      ports = ap (λ (l : List ℕ). length l) one.inputs ∙ range_long 0 (ports_of law) ∙ ap ports_of (sym one.law_is);
      among = λ port stream at. (let less = range_at 0 (ports_of law) port stream (ap (λ (l : List ℕ). slice_get l port) (sym one.inputs) ∙ at) in omega (arith, less, long));
      prefixes = All-from_recursion IsPrefix (free_inputs streams one.free) (inputs_keep streams one.free.inputs (recursion_from_All IsPrefix streams keeps));
      lawful = none_lawful (free_inputs streams one.free);
    }

    may : (place : ℕ) (free : FreeNode) (taken : Taken) → slice_get (one.free ∷ []) place ≡ Some free → slice_get (nothing_taken (one.free ∷ [])) place ≡ Some taken → MayTurn streams free taken
    may zero free taken at at_taken = subst (λ (f : FreeNode). MayTurn streams f taken) (same_Some one.free free at) (subst (λ (t : Taken). MayTurn streams one.free t) (same_Some (record { log = []; closed = false }) taken at_taken) ready)
    may (suc place) free taken at at_taken = absurd (none-some free at)

turn_at : (streams : List (StreamPrefix Plain)) (frees : List FreeNode) (takens : List Taken) (i : ℕ) (free : FreeNode) (now : Taken) → slice_get frees i ≡ Some free → slice_get (turns_of streams frees takens) i ≡ Some now
    → (taken : Taken) × (slice_get takens i ≡ Some taken) × (now ≡ turn streams free taken)
turn_at streams [] takens i free now at at_now = absurd (none-some free at)
turn_at streams (f ∷ frees) [] i free now at at_now = absurd (none-some now at_now)
turn_at streams (f ∷ frees) (t ∷ takens) zero free now at at_now = (t, refl, sym (same_Some (turn streams f t) now at_now) ∙ ap (λ (x : FreeNode). turn streams x t) (same_Some f free at))
turn_at streams (f ∷ frees) (t ∷ takens) (suc i) free now at at_now = turn_at streams frees takens i free now at at_now

pub ready_then : (frees : List FreeNode) (before now : List Taker) (streams : List (StreamPrefix Plain)) → (r : IsReady frees before streams) → ((takens : List Taken) → HaveTaken frees takens before → HaveTaken frees (turns_of streams frees takens) now)
    → IsReady frees now streams
ready_then frees before now streams r turned = record {
  takens = turns_of streams frees r.takens;
  have_taken = turned r.takens r.have_taken;
  may = λ place free taken at at_taken.
      let old = turn_at streams frees r.takens place free taken at at_taken in
      let was = r.may place free old.0 at old.1 in
      record {
        ports = was.ports;
        among = was.among;
        prefixes = was.prefixes;
        lawful = subst (λ (t : Taken). IsLawfulSoFar (free_inputs streams free) t.log) (sym old.2) (turn_lawful streams free old.0 was.lawful);
      };
}

pub may_round : {S : Type 0} (are : S → List (StreamPrefix Plain) → Type 0) (has_from : S → ℕ → ℕ → Type 0) (read : S) (frees : List FreeNode) (takers : List Taker) (streams : List (StreamPrefix Plain)) → are read streams
    → ((stream number : ℕ) → has_from read stream number) → IsReady frees takers streams → MayRound are has_from read frees takers
may_round are has_from read frees takers streams they there r = record {
  streams = streams;
  takens = r.takens;
  are_they = they;
  have_taken = r.have_taken;
  may = r.may;
  can_read = λ place free taken at at_taken port stream at_port. there stream _;
}
