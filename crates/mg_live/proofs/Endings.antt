-- Whether the ports have ended after whose ends an output ends.
use Rattle.std.proofs.Common.{◌≡◌, ℕ, zero, suc, ◌+◌, ◌<◌, ◌≤◌, Bool, true, false, ◌==◌, ◌&&◌, List, [], ◌∷◌, map, drop, length, get_or, Some, slice_get, refl, sym, ap, ◌∙◌, subst, arith}
use Rattle.std.specs.List.{list_all}
use Rattle.std.proofs.lemmas.List.{length-map}
use Rattle.std.proofs.lemmas.Option.{slice_get-get_or}
use Rattle.mg_time.specs.Time.{done}
use Rattle.mg_value.specs.Payload.{Plain}
use Rattle.mg_settled.specs.Prefix.{StreamPrefix}
use Rattle.mg_settled.specs.Settled.{port_of}
use Rattle.mg_calc.specs.Equations.{stream_of}
use Rattle.mg_free.specs.declared.law.FreeLaw.{FreeLaw}
use Rattle.mg_free.specs.declared.law.FreeLaw.TheVariants.{FirstCome, Limiter}
use Rattle.mg_free.specs.declared.node.FreeNode.{FreeNode}
use Rattle.mg_free.specs.Logs.{ending, has_ended}
use Rattle.mg_free.specs.Rounds.{free_inputs}

few_by : (law : FreeLaw) (inputs : List (StreamPrefix Plain)) → length (ending law inputs) ≤ length inputs
few_by (FirstCome lanes) inputs = omega arith
few_by (Limiter most) [] = omega arith
few_by (Limiter most) (s ∷ inputs) = omega arith

pub ending_few : (free : FreeNode) (streams : List (StreamPrefix Plain)) → length (ending free.law (free_inputs streams free)) ≤ length free.inputs
ending_few free streams = (let few = few_by free.law (free_inputs streams free) in let long = length-map free.inputs (stream_of streams) in omega (arith, few, long))

dropped_at : (xs : List (StreamPrefix Plain)) (i : ℕ) → i < length xs → drop i xs ≡ port_of xs i ∷ drop (i + 1) xs
dropped_at [] i less = absurd (omega (arith, less))
dropped_at (x ∷ xs) zero less = refl
dropped_at (x ∷ xs) (suc i) less =
    dropped_at xs i (omega (arith, less)) ∙ ap (λ (k : ℕ). port_of xs i ∷ drop k (x ∷ xs)) (let e : suc (i + 1) ≡ suc i + 1 = omega arith in e)

ending_at : (law : FreeLaw) (inputs : List (StreamPrefix Plain)) (port : ℕ) → port < length (ending law inputs) → drop port (ending law inputs) ≡ port_of inputs port ∷ drop (port + 1) (ending law inputs)
ending_at (FirstCome lanes) inputs port less = dropped_at inputs port less
ending_at (Limiter most) [] port less = absurd (omega (arith, less))
ending_at (Limiter most) (s ∷ inputs) zero less = refl
ending_at (Limiter most) (s ∷ inputs) (suc port) less = absurd (omega (arith, less))

port_read : (streams : List (StreamPrefix Plain)) (ports : List ℕ) (i : ℕ) → i < length ports → port_of (map (stream_of streams) ports) i ≡ stream_of streams (get_or ports i 0)
port_read streams [] i less = absurd (omega (arith, less))
port_read streams (p ∷ ports) zero less = refl
port_read streams (p ∷ ports) (suc i) less = port_read streams ports i (omega (arith, less))

ended_from : (free : FreeNode) (streams : List (StreamPrefix Plain)) (port : ℕ) (ended : Bool) → port < length (ending free.law (free_inputs streams free)) → ended ≡ ((stream_of streams (get_or free.inputs port 0)).bound == done)
    → list_all (λ s. s.bound == done) (drop port (ending free.law (free_inputs streams free))) ≡ (ended && list_all (λ s. s.bound == done) (drop (port + 1) (ending free.law (free_inputs streams free))))
ended_from free streams port ended less is =
    let few = ending_few free streams in
    ap (λ (l : List (StreamPrefix Plain)). list_all (λ s. s.bound == done) l) (ending_at free.law (free_inputs streams free) port less)
    ∙ ap (λ (s : StreamPrefix Plain). (s.bound == done) && list_all (λ s. s.bound == done) (drop (port + 1) (ending free.law (free_inputs streams free)))) (port_read streams free.inputs port (omega (arith, less, few)))
    ∙ ap (λ (b : Bool). b && list_all (λ s. s.bound == done) (drop (port + 1) (ending free.law (free_inputs streams free)))) (sym is)

-- a port that hasn't ended
pub not_ended : (free : FreeNode) (shown : List ℕ) (streams : List (StreamPrefix Plain)) (port : ℕ) (ended : Bool) → shown ≡ free.inputs → port < length (ending free.law (free_inputs streams free))
    → ended ≡ ((stream_of streams (get_or shown port 0)).bound == done) → ended ≡ false
    → list_all (λ s. s.bound == done) (drop port (ending free.law (free_inputs streams free))) ≡ has_ended free.law (free_inputs streams free) → false ≡ has_ended free.law (free_inputs streams free)
not_ended free shown streams port ended same less is isnt all =
    sym (sym all ∙ ended_from free streams port ended less (is ∙ ap (λ (l : List ℕ). (stream_of streams (get_or l port 0)).bound == done) same)
    ∙ ap (λ (b : Bool). b && list_all (λ s. s.bound == done) (drop (port + 1) (ending free.law (free_inputs streams free)))) isnt)

-- a port that has ended
pub ended_more : (free : FreeNode) (shown : List ℕ) (streams : List (StreamPrefix Plain)) (port : ℕ) (ended : Bool) → shown ≡ free.inputs → port < length (ending free.law (free_inputs streams free))
    → ended ≡ ((stream_of streams (get_or shown port 0)).bound == done) → ended ≡ true
    → list_all (λ s. s.bound == done) (drop port (ending free.law (free_inputs streams free))) ≡ has_ended free.law (free_inputs streams free)
    → list_all (λ s. s.bound == done) (drop (port + 1) (ending free.law (free_inputs streams free))) ≡ has_ended free.law (free_inputs streams free)
ended_more free shown streams port ended same less is done_now all =
    sym (ended_from free streams port ended less (is ∙ ap (λ (l : List ℕ). (stream_of streams (get_or l port 0)).bound == done) same)
    ∙ ap (λ (b : Bool). b && list_all (λ s. s.bound == done) (drop (port + 1) (ending free.law (free_inputs streams free)))) done_now) ∙ all

pub input_there : (inputs shown : List ℕ) (port : ℕ) → shown ≡ inputs → port < length shown → slice_get inputs port ≡ Some (get_or shown port 0)
input_there inputs shown port same less = subst (λ (l : List ℕ). slice_get l port ≡ Some (get_or shown port 0)) same (slice_get-get_or shown port 0 less)

pub port_fits : (free : FreeNode) (shown : List ℕ) (streams : List (StreamPrefix Plain)) (port end : ℕ) → shown ≡ free.inputs → end ≡ length (ending free.law (free_inputs streams free)) → port < end → port < length shown
port_fits free shown streams port end same is less =
    let few = ending_few free streams in
    let long = ap (λ (l : List ℕ). length l) same in
    omega (arith, less, is, few, long)
