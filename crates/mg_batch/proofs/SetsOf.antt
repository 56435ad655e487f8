-- Packets at rising times, and what is found of them at all times of a longer list.
use Rattle.std.proofs.Common.{◌≡◌, ℕ, ◌+◌, ◌≤◌, ◌==◌, List, [], ◌∷◌, Option, Some, None, ◌⊎◌, inl, inr, refl, sym, ap, ap₂, subst, ◌∙◌, arith, eqb-true, eq-eqb}
use Rattle.std.specs.List.{filter_map, cons_option}
use Rattle.std.proofs.lemmas.Bool.{ne_eqb, cases_Bool}
use Rattle.mg_value.specs.Packet.{Stamped}
use Rattle.mg_settled.specs.Settled.{times_of, packet_at}
use Rattle.mg_settled.proofs.Times.{In, Rises, Rises-least}
use Rattle.mg_settled.proofs.SettledTimes.{packet_at-none}

-- each time of some packets is among some times
abbrev pub Among : {X : Type 0} → List (Stamped X) → List ℕ → Type 0
Among ps us = (t : ℕ) → In t (times_of ps) → In t us

-- of the packets whose times are among some, the first stands at the first time
pub record StandsFirst {X : Type 0} (u : ℕ) (us : List ℕ) (ps : List (Stamped X)) : Type 0 where
  pub first : Stamped X
  pub others : List (Stamped X)
  pub is : ps ≡ first ∷ others
  pub at : first.at ≡ u
  pub rises : Rises (u + 1) (times_of others)
  pub among : Among others us

-- or none does
pub record StandsLater {X : Type 0} (u : ℕ) (us : List ℕ) (ps : List (Stamped X)) : Type 0 where
  pub rises : Rises (u + 1) (times_of ps)
  pub among : Among ps us

pub first_or_later : {X : Type 0} (a b u : ℕ) (us : List ℕ) (ps : List (Stamped X)) → Rises a (u ∷ us) → Rises b (times_of ps) → Among ps (u ∷ us) → StandsFirst u us ps ⊎ StandsLater u us ps
first_or_later a b u us [] ru rp among = inr (record { rises = tt; among = (λ t i. absurd i) })
first_or_later {X} a b u us (p ∷ ps) ru rp among = by (among p.at (inl refl))
  where
    above : (t : ℕ) → In t (times_of ps) → p.at + 1 ≤ t
    above t i = Rises-least (p.at + 1) t (times_of ps) rp.1 i

    first : u ≡ p.at → StandsFirst u us (p ∷ ps)
    first e = record {
      first = p;
      others = ps;
      is = refl;
      at = sym e;
      rises = subst (λ (n : ℕ). Rises (n + 1) (times_of ps)) (sym e) rp.1;
      among = (λ t i. elim (among t (inr i)) [ inl same ↦ absurd (omega (arith, above t i, same, e)) | inr j ↦ j ]);
    }

    later : u + 1 ≤ p.at → In p.at us → StandsLater u us (p ∷ ps)
    later le there = record {
      rises = (le, rp.1);
      among = (λ t i. elim (among t i) [
        | inl same ↦ elim i [ inl here ↦ absurd (omega (arith, le, same, here)) | inr j ↦ absurd (omega (arith, above t j, le, same)) ]
        | inr j ↦ j
      ]);
    }

    by : In p.at (u ∷ us) → StandsFirst u us (p ∷ ps) ⊎ StandsLater u us (p ∷ ps)
    by (inl e) = inl (first e)
    by (inr i) = inr (later (Rises-least (u + 1) p.at us ru.1 i) i)

-- what is found at the first time, and at the others
pub found_first : {X : Type 0} (u : ℕ) (us : List ℕ) (ps : List (Stamped X)) (h : StandsFirst u us ps) → packet_at u ps ≡ Some h.first
found_first u us ps h = rw (h.is, eq-eqb h.first.at u h.at) refl

pub found_others : {X : Type 0} (a u t : ℕ) (us : List ℕ) (ps : List (Stamped X)) (h : StandsFirst u us ps) → Rises a (u ∷ us) → In t us → packet_at t ps ≡ packet_at t h.others
found_others a u t us ps h r i =
    let above = Rises-least (u + 1) t us r.1 i in
    rw (h.is, ne_eqb h.first.at t (λ e. omega (arith, above, e, h.at))) refl

pub none_first : {X : Type 0} (u : ℕ) (us : List ℕ) (ps : List (Stamped X)) → StandsLater u us ps → packet_at u ps ≡ None
none_first u us ps h = packet_at-none u ps (λ i. let above = Rises-least (u + 1) u (times_of ps) h.rises i in omega (arith, above))

pub filter_map-agree : {Y : Type 0} (f g : ℕ → Option Y) (us : List ℕ) → ((t : ℕ) → In t us → f t ≡ g t) → filter_map f us ≡ filter_map g us
filter_map-agree f g [] same = refl
filter_map-agree {Y} f g (u ∷ us) same = ap₂ (λ (o : Option Y) (ys : List Y). cons_option o ys) (same u (inl refl)) (filter_map-agree f g us (λ t i. same t (inr i)))

-- if the packets' times are among some times, the packets are found at these, and nothing else is
pub all_found : {X : Type 0} (a b : ℕ) (us : List ℕ) (ps : List (Stamped X)) → Rises a us → Rises b (times_of ps) → Among ps us → filter_map (λ t. packet_at t ps) us ≡ ps
all_found a b [] [] ru rp among = refl
all_found a b [] (p ∷ ps) ru rp among = absurd (among p.at (inl refl))
all_found {X} a b (u ∷ us) ps ru rp among = by (first_or_later a b u us ps ru rp among) (λ qs r m. all_found (u + 1) (u + 1) us qs ru.1 r m)
  where
    by : StandsFirst u us ps ⊎ StandsLater u us ps → ((qs : List (Stamped X)) → Rises (u + 1) (times_of qs) → Among qs us → filter_map (λ t. packet_at t qs) us ≡ qs) → filter_map (λ t. packet_at t ps) (u ∷ us) ≡ ps
    by (inl h) rest =
        ap (λ (o : Option (Stamped X)). cons_option o (filter_map (λ t. packet_at t ps) us)) (found_first u us ps h)
        ∙ ap (λ (qs : List (Stamped X)). h.first ∷ qs) (filter_map-agree (λ t. packet_at t ps) (λ t. packet_at t h.others) us (λ t i. found_others a u t us ps h ru i) ∙ rest h.others h.rises h.among)
        ∙ sym h.is
    by (inr h) rest = ap (λ (o : Option (Stamped X)). cons_option o (filter_map (λ t. packet_at t ps) us)) (none_first u us ps h) ∙ rest ps h.rises h.among

-- a packet that is found at a time stands there
pub found_at : {X : Type 0} (t : ℕ) (ps : List (Stamped X)) (p : Stamped X) → packet_at t ps ≡ Some p → p.at ≡ t
found_at t [] p e = absurd cc
found_at t (q ∷ ps) p e = elim (cases_Bool (q.at == t)) [
  | inl here ↦ (let same : Some q ≡ Some p = sym (rw here refl) ∙ e in let is : q ≡ p = cc in ap (λ (x : Stamped _). x.at) (sym is) ∙ eqb-true q.at t here)
  | inr fails ↦ found_at t ps p (sym (rw fails refl) ∙ e)
]
