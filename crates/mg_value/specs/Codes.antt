-- How the logic stores plain payloads, and values that hold one.
use Rattle.std.proofs.Common.{◌≡◌, ◌≢◌, ℕ, List, refl, ap, arith}
use Rattle.std.specs.Coded.{Coded, code_by, coded×, coded_ℕ, coded_ℤ, coded_bool, coded_list}
use base.Stored.{Gv, gnil, gnum, gcons}
use Rattle.mg_value.specs.Packet.{Stamped}
use Rattle.mg_value.specs.Plain.{Plain, flag, int, text, items, entries, Items, no_items, item, Entries, no_entries, entry, PlainEntry}

abbrev head : Gv → Gv
head gnil = gnil
head (gnum n) = gnil
head (gcons a b) = a

abbrev tail : Gv → Gv
tail gnil = gnil
tail (gnum n) = gnil
tail (gcons a b) = b

abbrev coded_text : Coded (List ℕ)
coded_text = coded_list coded_ℕ

-- how a payload, a list of them and the entries of a record are stored
abbrev mutual
  pub stored : Plain → Gv
  stored (flag b) = gcons (gnum 0) (coded_bool.code b)
  stored (int n) = gcons (gnum 1) (coded_ℤ.code n)
  stored (text s) = gcons (gnum 2) (coded_text.code s)
  stored (items is) = gcons (gnum 3) (stored_items is)
  stored (entries es) = gcons (gnum 4) (stored_entries es)

  pub stored_items : Items → Gv
  stored_items no_items = gnil
  stored_items (item p ps) = gcons (stored p) (stored_items ps)

  pub stored_entries : Entries → Gv
  stored_entries no_entries = gnil
  stored_entries (entry k p es) = gcons (coded_text.code k) (gcons (stored p) (stored_entries es))

apart : (m n : ℕ) {a b : Gv} → gcons (gnum m) a ≡ gcons (gnum n) b → m ≢ n → ⊥
apart m n p other = other (cc)

-- payloads that are stored alike are equal
mutual
  pub plain_inj : (x y : Plain) → stored x ≡ stored y → x ≡ y
  plain_inj (flag a) (flag b) p = ap flag (coded_bool.inj a b (ap tail p))
  plain_inj (int a) (int b) p = ap int (coded_ℤ.inj a b (ap tail p))
  plain_inj (text a) (text b) p = ap text (coded_text.inj a b (ap tail p))
  plain_inj (items a) (items b) p = ap items (items_inj a b (ap tail p))
  plain_inj (entries a) (entries b) p = ap entries (entries_inj a b (ap tail p))
  plain_inj x y p = absurd (apart _ _ p (omega arith))

  pub items_inj : (x y : Items) → stored_items x ≡ stored_items y → x ≡ y
  items_inj no_items no_items p = refl
  items_inj (item a more) (item b rest) p = λ i. item (plain_inj a b (ap head p) i) (items_inj more rest (ap tail p) i)
  items_inj x y p = absurd (cc)

  pub entries_inj : (x y : Entries) → stored_entries x ≡ stored_entries y → x ≡ y
  entries_inj no_entries no_entries p = refl
  entries_inj (entry j a more) (entry k b rest) p =
      λ i. entry (coded_text.inj j k (ap head p) i) (plain_inj a b (ap (λ g. head (tail g)) p) i) (entries_inj more rest (ap (λ g. tail (tail g)) p) i)
  entries_inj x y p = absurd (cc)

abbrev pub plain_code : Coded Plain
plain_code = record { code = stored; inj = plain_inj }

abbrev pub plain_entries_code : Coded (List PlainEntry)
plain_entries_code =
    coded_list (code_by (List ℕ × Plain) (coded× coded_text plain_code) (λ e. (e.key, e.value)) (λ p. record { key = p.0; value = p.1 }) (λ _. refl))

-- a packet, stored by the code of its value
abbrev pub stamped_code : {X : Type 0} → Coded X → Coded (Stamped X)
stamped_code {X} code = code_by (ℕ × X) (coded× coded_ℕ code) (λ p. (p.at, p.value)) (λ p. record { at = p.0; value = p.1 }) (λ _. refl)

-- the code of a packet of plain payloads
abbrev pub packet_code : Coded (Stamped Plain)
packet_code = stamped_code plain_code
