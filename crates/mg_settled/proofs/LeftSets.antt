-- What is left when one more set is taken, told by how many packets are gone.
use Rattle.std.proofs.Common.{◌≡◌, ℕ, suc, ◌+◌, ◌-◌, ◌<◌, ◌≤◌, List, [], ◌∷◌, map, drop, get_or, length, length-drop, replicate, All, Some, ap, ap₂, subst, sym, refl, ◌∙◌, arith, leb}
use Rattle.std.specs.List.{AllZip, prefix_len}
use Rattle.std.proofs.lemmas.List.{length-map}
use Rattle.std.proofs.lemmas.List.Sums.{prefix_len-le-length}
use Rattle.mg_value.specs.Payload.{Plain}
use Rattle.mg_value.specs.declared.policy.Policy.{Policy}
use Rattle.mg_value.specs.Packet.{Stamped}
use Rattle.mg_settled.specs.Prefix.{StreamPrefix, IsPrefix}
use Rattle.mg_settled.specs.Settled.{settled_sets, port_of}
use Rattle.mg_settled.specs.FirstSet.{first_set_time, behind}
use Rattle.mg_settled.specs.Left.{after_sets, without_first, sums, gone_of, AreGone, AreLeft}
use Rattle.mg_settled.proofs.FirstSets.{after-first}
use Rattle.mg_settled.proofs.GonePackets.{none-gone, length-without_first}
use Rattle.mg_settled.proofs.ClaimedPackets.{gone-claimed}
use Rattle.mg_settled.proofs.ClaimsAdded.{gone-added, first-added}

-- how many packets of a prefix stand at a time or before it
abbrev up_to : ℕ → StreamPrefix Plain → ℕ
up_to t s = prefix_len (λ p. leb p.at t) s.packets

behind-up_to : (t : ℕ) (ss : List (StreamPrefix Plain)) → without_first (map (up_to t) ss) ss ≡ map (behind t) ss
behind-up_to t [] = refl
behind-up_to t (s ∷ ss) = ap (λ (rest : List (StreamPrefix Plain)). behind t s ∷ rest) (behind-up_to t ss)

few-up_to : (t : ℕ) (ss : List (StreamPrefix Plain)) → AllZip (λ s n. n ≤ length s.packets) ss (map (up_to t) ss)
few-up_to t [] = tt
few-up_to t (s ∷ ss) = (prefix_len-le-length (λ (p : Stamped Plain). leb p.at t) s.packets, few-up_to t ss)

without-none : (ss : List (StreamPrefix Plain)) → without_first (replicate (length ss) 0) ss ≡ ss
without-none [] = refl
without-none (s ∷ ss) = ap (λ (rest : List (StreamPrefix Plain)). s ∷ rest) (without-none ss)

pub left-none : (policy : Policy) (ss : List (StreamPrefix Plain)) → AreLeft policy 0 ss ss
left-none policy ss = record { gone = replicate (length ss) 0; are = none-gone policy ss; left = sym (without-none ss) }

-- the packets that go with the first set
first-gone : (policy : Policy) (rs : List (StreamPrefix Plain)) (t : ℕ) → All IsPrefix rs → first_set_time policy rs ≡ Some t → 0 < length (settled_sets policy rs) → AreGone policy 1 rs (map (up_to t) rs)
first-gone policy rs t h first some =
    gone-claimed policy 0 rs (replicate (length rs) 0) (map (up_to t) rs) h (none-gone policy rs) some (few-up_to t rs)
    (behind-up_to t rs ∙ sym (after-first policy rs t h first) ∙ ap (after_sets policy 1) (sym (without-none rs)))

pub left-more : (policy : Policy) (k : ℕ) (ss rs us : List (StreamPrefix Plain)) (t : ℕ) → All IsPrefix ss → All IsPrefix rs → AreLeft policy k ss rs → first_set_time policy rs ≡ Some t → 0 < length (settled_sets policy rs) → us ≡ map (behind t) rs → AreLeft policy (k + 1) ss us
left-more policy k ss rs us t hs h left first some is =
    let more = map (up_to t) rs in
    let go = first-gone policy rs t h first some in
    let many = left.are.ports in
    let ports : length more ≡ length ss = length-map rs (up_to t) ∙ ap length left.left ∙ length-without_first left.gone ss many in
    record {
      gone = sums left.gone more;
      are = gone-added policy k 1 ss left.gone more hs left.are (subst (λ (xs : List (StreamPrefix Plain)). AreGone policy 1 xs more) left.left go);
      left = is ∙ sym (behind-up_to t rs) ∙ ap (without_first more) left.left ∙ first-added ss left.gone more many ports;
    }

-- what is left tells what is gone
gone-told : (gone : List ℕ) (ss : List (StreamPrefix Plain)) → length gone ≡ length ss → ((i : ℕ) → i < length ss → get_or gone i 0 ≤ length (port_of ss i).packets) → gone_of ss (without_first gone ss) ≡ gone
gone-told [] [] long few = refl
gone-told [] (s ∷ ss) long few = absurd (omega (arith, long))
gone-told (n ∷ gone) [] long few = absurd (omega (arith, long))
gone-told (n ∷ gone) (s ∷ ss) long few =
    let here : n ≤ length s.packets = few 0 (omega arith) in
    let first : length s.packets - length (drop n s.packets) ≡ n = omega (arith, here, length-drop n s.packets) in
    ap₂ (λ (m : ℕ) (ms : List ℕ). m ∷ ms) first (gone-told gone ss (omega (arith, long)) (λ i there. few (suc i) (omega (arith, there))))

pub gone-further : (policy : Policy) (k j : ℕ) (ss us : List (StreamPrefix Plain)) (gone : List ℕ) → All IsPrefix ss → AreGone policy k ss gone → AreLeft policy j (without_first gone ss) us → AreGone policy (k + j) ss (gone_of ss us)
gone-further policy k j ss us gone hs are left =
    let both = gone-added policy k j ss gone left.gone hs are left.are in
    let many = left.are.ports in
    let is : us ≡ without_first (sums gone left.gone) ss = left.left ∙ first-added ss gone left.gone are.ports (many ∙ length-without_first gone ss are.ports) in
    let told : gone_of ss us ≡ sums gone left.gone = ap (gone_of ss) is ∙ gone-told (sums gone left.gone) ss both.ports (λ i there. (both.each i there).within) in
    subst (AreGone policy (k + j) ss) (sym told) both
