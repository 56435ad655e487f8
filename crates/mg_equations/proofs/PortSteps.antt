-- The streams at the ports of a node, one after the other.
use Rattle.std.proofs.Common.{◌≡◌, ℕ, zero, suc, ◌+◌, ◌-◌, ◌<◌, ◌≤◌, List, [], ◌∷◌, ◌++◌, take, length, get_or, All, refl, sym, ap, ap₂, subst, ◌∙◌, arith}
use Rattle.std.proofs.lemmas.List.{length-map, get_or-map, get_or_default, take_more, take_all}
use Rattle.mg_value.specs.Payload.{Plain}
use Rattle.mg_value.specs.declared.policy.Policy.{Policy}
use Rattle.mg_settled.specs.Prefix.{StreamPrefix, closed, empty_prefix}
use Rattle.mg_settled.specs.Settled.{port_of, inputs_of}
use Rattle.mg_settled.specs.Left.{without_first, gone_of, AreLeft}
use Rattle.mg_settled.specs.Loopback.{behind_first}

pub inputs_long : (streams : List (StreamPrefix Plain)) (ports : List ℕ) → length (inputs_of streams ports) ≡ length ports
inputs_long streams ports = length-map ports (port_of streams)

-- the stream at a port
pub input_at : (streams : List (StreamPrefix Plain)) (ports : List ℕ) (i number : ℕ) (s : StreamPrefix Plain) → All (λ n. n < length streams) ports → i < length ports → number ≡ get_or ports i 0 → s ≡ get_or streams number s → port_of (inputs_of streams ports) i ≡ s
input_at streams ports i number s known below is at =
    get_or-map (port_of streams) ports i 0 (closed empty_prefix) below
    ∙ ap (port_of streams) (sym is)
    ∙ get_or_default streams number (closed empty_prefix) s (subst (λ (n : ℕ). n < length streams) (sym is) (known i 0 below))
    ∙ sym at

pub without_long : (read : List ℕ) (ss : List (StreamPrefix Plain)) → length read ≡ length ss → length (without_first read ss) ≡ length ss
without_long [] [] e = refl
without_long [] (s ∷ ss) e = absurd (omega (arith, e))
without_long (n ∷ read) [] e = absurd (omega (arith, e))
without_long (n ∷ read) (s ∷ ss) e = omega (arith, without_long read ss (omega (arith, e)))

pub left_long : (policy : Policy) (k : ℕ) (ss rs : List (StreamPrefix Plain)) → AreLeft policy k ss rs → length rs ≡ length ss
left_long policy k ss rs left = ap length left.left ∙ without_long left.gone ss left.are.ports

without_at : (read : List ℕ) (ss : List (StreamPrefix Plain)) (i : ℕ) (d : StreamPrefix Plain) → length read ≡ length ss → i < length ss → get_or (without_first read ss) i d ≡ behind_first (get_or read i 0) (port_of ss i)
without_at [] [] i d e lt = absurd (omega (arith, lt))
without_at [] (s ∷ ss) i d e lt = absurd (omega (arith, e))
without_at (n ∷ read) [] i d e lt = absurd (omega (arith, lt))
without_at (n ∷ read) (s ∷ ss) zero d e lt = refl
without_at (n ∷ read) (s ∷ ss) (suc i) d e lt = without_at read ss i d (omega (arith, e)) (omega (arith, lt))

gone_long : (ss rs : List (StreamPrefix Plain)) → length ss ≡ length rs → length (gone_of ss rs) ≡ length rs
gone_long [] [] e = refl
gone_long [] (r ∷ rs) e = absurd (omega (arith, e))
gone_long (s ∷ ss) [] e = absurd (omega (arith, e))
gone_long (s ∷ ss) (r ∷ rs) e = omega (arith, gone_long ss rs (omega (arith, e)))

gone_at : (ss rs : List (StreamPrefix Plain)) (i : ℕ) (r : StreamPrefix Plain) (d : ℕ) → length ss ≡ length rs → i < length rs → r ≡ get_or rs i r → get_or (gone_of ss rs) i d ≡ length (port_of ss i).packets - length r.packets
gone_at [] [] i r d e lt is = absurd (omega (arith, lt))
gone_at [] (q ∷ rs) i r d e lt is = absurd (omega (arith, e))
gone_at (s ∷ ss) [] i r d e lt is = absurd (omega (arith, lt))
gone_at (s ∷ ss) (q ∷ rs) zero r d e lt is = ap (λ (t : StreamPrefix Plain). length s.packets - length t.packets) (sym is)
gone_at (s ∷ ss) (q ∷ rs) (suc i) r d e lt is = gone_at ss rs i r d (omega (arith, e)) (omega (arith, lt)) is

-- one more of the first
taken_more : {X : Type 0} (xs so_far : List X) (i : ℕ) (x : X) → i < length xs → get_or xs i x ≡ x → so_far ≡ take i xs → so_far ++ x ∷ [] ≡ take (i + 1) xs
taken_more {X} xs so_far i x lt is e = ap₂ (λ (front : List X) (y : X). front ++ y ∷ []) e (sym is) ∙ sym (take_more xs i x lt)

pub rests_more : (streams rests : List (StreamPrefix Plain)) (ports read : List ℕ) (i number n : ℕ) (s rest : StreamPrefix Plain) → All (λ k. k < length streams) ports → length read ≡ length (inputs_of streams ports) → i < length ports
    → number ≡ get_or ports i 0 → s ≡ get_or streams number s → n ≡ get_or read i 0 → rest ≡ behind_first n s → rests ≡ take i (without_first read (inputs_of streams ports)) → rests ++ rest ∷ [] ≡ take (i + 1) (without_first read (inputs_of streams ports))
rests_more streams rests ports read i number n s rest known many below is at n_is rest_is so_far =
    let ss = inputs_of streams ports in
    let long = inputs_long streams ports in
    let there : i < length ss = omega (arith, below, long) in
    taken_more (without_first read ss) rests i rest (omega (arith, there, without_long read ss many))
    (without_at read ss i rest many there
    ∙ ap₂ behind_first (sym n_is) (input_at streams ports i number s known below is at)
    ∙ sym rest_is) so_far

pub read_more : (streams rests : List (StreamPrefix Plain)) (ports read : List ℕ) (i number n : ℕ) (s rest : StreamPrefix Plain) → All (λ k. k < length streams) ports → length rests ≡ length ports → i < length rests
    → number ≡ get_or ports i 0 → s ≡ get_or streams number s → rest ≡ get_or rests i rest → n ≡ length s.packets - length rest.packets → read ≡ take i (gone_of (inputs_of streams ports) rests) → read ++ n ∷ [] ≡ take (i + 1) (gone_of (inputs_of streams ports) rests)
read_more streams rests ports read i number n s rest known many below is at rest_is n_is so_far =
    let ss = inputs_of streams ports in
    let long : length ss ≡ length rests = inputs_long streams ports ∙ sym many in
    taken_more (gone_of ss rests) read i n (omega (arith, below, gone_long ss rests long))
    (gone_at ss rests i rest n long below rest_is
    ∙ ap (λ (t : StreamPrefix Plain). length t.packets - length rest.packets) (input_at streams ports i number s known (omega (arith, below, many)) is at)
    ∙ sym n_is) so_far

pub rests_whole : (streams rests : List (StreamPrefix Plain)) (ports read : List ℕ) (i : ℕ) → length read ≡ length (inputs_of streams ports) → length ports ≤ i → rests ≡ take i (without_first read (inputs_of streams ports)) → rests ≡ without_first read (inputs_of streams ports)
rests_whole streams rests ports read i many over e =
    e ∙ take_all i (without_first read (inputs_of streams ports)) (omega (arith, over, without_long read (inputs_of streams ports) many, inputs_long streams ports))

pub read_whole : (streams rests : List (StreamPrefix Plain)) (ports read : List ℕ) (i : ℕ) → length rests ≡ length ports → length rests ≤ i → read ≡ take i (gone_of (inputs_of streams ports) rests) → read ≡ gone_of (inputs_of streams ports) rests
read_whole streams rests ports read i many over e =
    e ∙ take_all i (gone_of (inputs_of streams ports) rests) (omega (arith, over, gone_long (inputs_of streams ports) rests (inputs_long streams ports ∙ sym many)))
