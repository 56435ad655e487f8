-- The inputs of a plan's graph, one after the other.
use Rattle.std.proofs.Common.{◌≡◌, ◌<◌, ◌+◌, ℕ, zero, suc, List, [], ◌∷◌, ◌++◌, Option, length, map, drop, slice_get, option_and_then, refl, sym, ap, ◌∙◌, arith, append_assoc, add-one}
use Rattle.std.specs.List.{filter_map, cons_option}
use Rattle.mg_calc.specs.declared.plan_stream.PlanStream.{PlanStream}
use Rattle.mg_feed.specs.Graph.{numbered}
use Rattle.mg_feed.specs.declared.places.Placed.{Placed}

-- the streams of the inputs from one on
pub inputs-next : (streams : List PlanStream) (inputs : List ℕ) (i : ℕ) (o : Option PlanStream) → i < length inputs
    → o ≡ option_and_then (slice_get streams) (slice_get inputs i)
    → filter_map (slice_get streams) (drop i inputs) ≡ cons_option o (filter_map (slice_get streams) (drop (suc i) inputs))
inputs-next streams [] i o lt is = absurd (omega arith)
inputs-next streams (n ∷ inputs) zero o lt is = rw is refl
inputs-next streams (n ∷ inputs) (suc i) o lt is = inputs-next streams inputs i o (omega arith) is

-- one more name
pub names-some : (all placed more : List Placed) (n : ℕ) (s : PlanStream) (left next : List PlanStream) (p : Placed)
    → all ≡ placed ++ numbered n (map (λ s. s.name) left) → left ≡ s ∷ next → p.name ≡ s.name → p.place ≡ n → more ≡ placed ++ p ∷ []
    → all ≡ more ++ numbered (n + 1) (map (λ s. s.name) next)
names-some all placed more n s left next p is cut name place pushed =
    let q : p ≡ record { name = s.name; place = n } = λ i. record { name = name i; place = place i } in
    is ∙ ap (λ l. placed ++ numbered n (map (λ s. s.name) l)) cut
    ∙ ap (λ x. placed ++ x ∷ numbered (n + 1) (map (λ s. s.name) next)) (sym q)
    ∙ sym (append_assoc placed (p ∷ []) (numbered (n + 1) (map (λ s. s.name) next)))
    ∙ ap (λ l. l ++ numbered (n + 1) (map (λ s. s.name) next)) (sym pushed)

-- a list that is mapped item by item from its first
pub mapped-some : {X Y : Type 0} (f : X → Y) (all done more : List Y) (x : X) (left next : List X) (y : Y)
    → all ≡ done ++ map f left → left ≡ x ∷ next → y ≡ f x → more ≡ done ++ y ∷ [] → all ≡ more ++ map f next
mapped-some f all done more x left next y is cut same pushed =
    is ∙ ap (λ l. done ++ map f l) cut ∙ ap (λ z. done ++ z ∷ map f next) (sym same)
    ∙ sym (append_assoc done (y ∷ []) (map f next)) ∙ ap (λ l. l ++ map f next) (sym pushed)

pub inputs-more : (streams : List PlanStream) (inputs : List ℕ) (i : ℕ) (o : Option PlanStream) → i < length inputs
    → o ≡ option_and_then (slice_get streams) (slice_get inputs i)
    → filter_map (slice_get streams) (drop i inputs) ≡ cons_option o (filter_map (slice_get streams) (drop (i + 1) inputs))
inputs-more streams inputs i o lt is = rw add-one (inputs-next streams inputs i o lt is)

pub names-next : (all placed more : List Placed) (n m : ℕ) (s : PlanStream) (left next : List PlanStream) (p : Placed)
    → all ≡ placed ++ numbered n (map (λ s. s.name) left) → left ≡ s ∷ next → p.name ≡ s.name → p.place ≡ n → more ≡ placed ++ p ∷ [] → m ≡ n + 1
    → all ≡ more ++ numbered m (map (λ s. s.name) next)
names-next all placed more n m s left next p is cut name place pushed one =
    names-some all placed more n s left next p is cut name place pushed ∙ ap (λ k. more ++ numbered k (map (λ s. s.name) next)) (sym one)
