-- Free nodes hand on what came to their outputs: what stands at a place, and what a piece is.
use Rattle.std.proofs.Common.{◌≡◌, ℕ, zero, suc, ◌+◌, ◌<◌, List, [], ◌∷◌, ◌++◌, map, length, set, length-set, Some, slice_get, inl, inr, refl, sym, ap, ap₂, ◌∙◌, subst, arith, drop, max}
use Rattle.std.proofs.lemmas.Bool.{cases_eq}
use Rattle.std.proofs.lemmas.Option.{same_Some, none-some, slice_get_within}
use Rattle.mg_value.specs.Payload.{Plain}
use Rattle.mg_value.specs.Packet.{Stamped}
use Rattle.mg_settled.specs.Prefix.{StreamPrefix}
use Rattle.mg_settled.specs.Extension.{IsExtendedBy}
use Rattle.mg_free.specs.declared.node.FreeNode.{FreeNode}
use Rattle.mg_free.specs.Rounds.{Taken, output_so_far}
use Rattle.mg_live.specs.declared.taker.Taker.{Taker}
use Rattle.mg_live.specs.Takes.{HasTaken, HaveTaken, outputs_so_far, piece_behind}
use Rattle.mg_live.proofs.InTurn.{get_other}

-- Places.

pub map_at : {X Y : Type 0} (f : X → Y) (xs : List X) (i : ℕ) (x : X) → slice_get xs i ≡ Some x → slice_get (map f xs) i ≡ Some (f x)
map_at f [] i x at = absurd (none-some x at)
map_at f (y ∷ xs) zero x at = ap (λ z. Some (f z)) (same_Some y x at)
map_at f (y ∷ xs) (suc i) x at = map_at f xs i x at

pub out_at : (frees : List FreeNode) (takens : List Taken) (i : ℕ) (free : FreeNode) (taken : Taken) → slice_get frees i ≡ Some free → slice_get takens i ≡ Some taken → slice_get (outputs_so_far frees takens) i ≡ Some (output_so_far free taken)
out_at [] takens i free taken at at_taken = absurd (none-some free at)
out_at (f ∷ frees) [] i free taken at at_taken = absurd (none-some taken at_taken)
out_at (f ∷ frees) (t ∷ takens) zero free taken at at_taken = ap₂ (λ (x : FreeNode) (y : Taken). Some (output_so_far x y)) (same_Some f free at) (same_Some t taken at_taken)
out_at (f ∷ frees) (t ∷ takens) (suc i) free taken at at_taken = out_at frees takens i free taken at at_taken

pub put_there : (takers : List Taker) (i : ℕ) (now : Taker) → i < length takers → slice_get (set takers i now) i ≡ Some now
put_there [] i now less = absurd (omega (arith, less))
put_there (t ∷ takers) zero now less = refl
put_there (t ∷ takers) (suc i) now less = put_there takers i now (omega (arith, less))

pub put_taken : (frees : List FreeNode) (takens : List Taken) (takers : List Taker) (i : ℕ) (old now : Taker) → slice_get takers i ≡ Some old → ((free : FreeNode) (taken : Taken) → HasTaken free taken old → HasTaken free taken now)
    → HaveTaken frees takens takers → HaveTaken frees takens (set takers i now)
put_taken frees takens takers i old now at keeps h = record {
  takers_long = length-set takers i now ∙ h.takers_long;
  takens_long = h.takens_long;
  each = λ k free taken taker f_at t_at r_at. elim (cases_eq k i) [
    | inl here ↦
        (let own : taker ≡ now = same_Some taker now (sym r_at ∙ ap (slice_get (set takers i now)) here ∙ put_there takers i now (slice_get_within takers i old at)) in
        subst (λ (r : Taker). HasTaken free taken r) (sym own) (keeps free taken (h.each k free taken old f_at t_at (ap (slice_get takers) here ∙ at))))
    | inr other ↦ h.each k free taken taker f_at t_at (sym (get_other takers i k now other) ∙ r_at)
  ];
}

pub outs_long : (frees : List FreeNode) (takens : List Taken) → length takens ≡ length frees → length (outputs_so_far frees takens) ≡ length frees
outs_long [] [] long = refl
outs_long [] (t ∷ takens) long = absurd (omega (arith, long))
outs_long (f ∷ frees) [] long = absurd (omega (arith, long))
outs_long (f ∷ frees) (t ∷ takens) long = ap suc (outs_long frees takens (omega (arith, long)))

-- A piece follows the packets that were handed on before.
pub drop_front : {X : Type 0} (xs ys : List X) → drop (length xs) (xs ++ ys) ≡ ys
drop_front [] ys = refl
drop_front (x ∷ xs) ys = drop_front xs ys

pub packets_behind : (before after : StreamPrefix Plain) → IsExtendedBy before after → before.packets ++ (piece_behind (length before.packets) after).packets ≡ after.packets
packets_behind before after e =
    ap (λ (ps : List (Stamped Plain)). before.packets ++ drop (length before.packets) ps) e.packets ∙ ap (λ (ps : List (Stamped Plain)). before.packets ++ ps) (drop_front before.packets e.further) ∙ sym e.packets

pub bound_behind : (before after : StreamPrefix Plain) → IsExtendedBy before after → max before.bound (piece_behind (length before.packets) after).bound ≡ after.bound
bound_behind before after e = (let low = e.bound in omega (arith, low))
