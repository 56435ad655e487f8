-- What a settled set shows at each port.
use Rattle.std.proofs.Common.{◌≡◌, ℕ, ◌+◌, ◌-◌, ◌<◌, ◌≤◌, Bool, false, ◌||◌, inl, inr, List, length, get_or, set, replicate, All, Option, Some, None, option_map, unwrap_or, cond, ap, sym, refl, ◌∙◌, subst, arith, eqb, eqb-true}
use Rattle.std.specs.List.{prefix_len}
use Rattle.std.proofs.lemmas.Bool.{cases_Bool, eqb-false}
use Rattle.std.proofs.lemmas.List.{get_or-map, length-set, length-replicate, get_or-set_same, get_or-set_other, get_or-replicate}
use Rattle.std.proofs.lemmas.List.Elements.{All-from_recursion, All-map, All-take}
use Rattle.mg_value.specs.Payload.{Plain}
use Rattle.mg_value.specs.declared.policy.Policy.{Policy}
use Rattle.mg_value.specs.declared.policy.Policy.TheVariants.{Default, Mux}
use Rattle.mg_value.specs.Packet.{Stamped}
use Rattle.mg_settled.specs.Prefix.{StreamPrefix, IsPrefix, closed, empty_prefix}
use Rattle.mg_settled.specs.Settled.{TimedSet, packet_at, port_of, select_of, selected, is_settled, settled_selects, settled_sets, select_alone, is_selected, shows}
use Rattle.mg_settled.proofs.Climbs.{prefix-climbs, Climbs-finds}
use Rattle.mg_settled.proofs.Ports.{select-prefix}
use Rattle.mg_settled.proofs.DefaultSets.{All-default_sets}
use Rattle.mg_settled.proofs.MuxSets.{set_of, selected_another}

abbrev pub Shows : Policy → List (StreamPrefix Plain) → TimedSet Plain → Type 0
Shows policy ss e = (i : ℕ) → i < length ss → get_or e.set i None ≡ cond (shows policy ss e.at i) (packet_at e.at (port_of ss i).packets) None

-- the set of a packet of SELECT, by the port that is selected
alone_at : (ss : List (StreamPrefix Plain)) (p : Stamped Plain) (i : ℕ) → i < length ss → get_or (select_alone ss p) i None ≡ cond (eqb (i + 1) (length ss)) (Some p) None
alone_at ss p i there =
    let n = length ss in
    let all = length-replicate {A = Option (Stamped Plain)} n None in
    elim (cases_Bool (eqb (i + 1) n)) [
      | inl last ↦
          (let is = eqb-true (i + 1) n last in
          let here : i ≡ n - 1 = omega (arith, is) in
          rw (last, here) (get_or-set_same (replicate n None) (n - 1) (Some p) None (omega (arith, all, there))))
      | inr other ↦
          (let apart = eqb-false (i + 1) n other in
          rw other (get_or-set_other (replicate n None) (n - 1) i (Some p) None (λ e. apart (omega (arith, e, there))) ∙ get_or-replicate n i None None there))
    ]

by_selected : (ss : List (StreamPrefix Plain)) (p : Stamped Plain) (f : ℕ → Option (Stamped Plain)) → ((j : ℕ) → j + 1 ≡ length ss → f j ≡ Some p) → (o : Option ℕ) → ((j : ℕ) → o ≡ Some j → j + 1 < length ss) → (i : ℕ) → i < length ss
    → get_or (unwrap_or (option_map (λ j. set (select_alone ss p) j (f j)) o) (select_alone ss p)) i None ≡ cond (eqb (i + 1) (length ss) || unwrap_or (option_map (λ j. eqb j i) o) false) (f i) None
by_selected ss p f last None other i there = elim (cases_Bool (eqb (i + 1) (length ss))) [
  | inl is ↦ (let at : get_or (select_alone ss p) i None ≡ Some p = rw is at (alone_at ss p i there) in rw is (at ∙ sym (last i (eqb-true (i + 1) (length ss) is))))
  | inr not ↦ rw not (let at : get_or (select_alone ss p) i None ≡ None = rw not at (alone_at ss p i there) in at)
]
by_selected ss p f last (Some j) other i there =
    let below = other j refl in
    let all : length (select_alone ss p) ≡ length ss = length-set (replicate (length ss) None) (length ss - 1) (Some p) ∙ length-replicate (length ss) None in
    elim (cases_Bool (eqb (i + 1) (length ss))) [
      | inl is ↦
          (let e = eqb-true (i + 1) (length ss) is in
          let at : get_or (select_alone ss p) i None ≡ Some p = rw is at (alone_at ss p i there) in
          rw is (get_or-set_other (select_alone ss p) j i (f j) None (λ same. omega (arith, same, below, e)) ∙ at ∙ sym (last i e)))
      | inr not ↦ elim (cases_Bool (eqb j i)) [
        | inl here ↦ rw (not, here, eqb-true j i here) (get_or-set_same (select_alone ss p) i (f i) None (omega (arith, all, there)))
        | inr apart ↦
            (let at : get_or (select_alone ss p) i None ≡ None = rw not at (alone_at ss p i there) in
            rw (not, apart) (get_or-set_other (select_alone ss p) j i (f j) None (λ same. eqb-false j i apart (sym same)) ∙ at))
      ]
    ]

-- what SELECT's own packet at the time says
selected_by : (ss : List (StreamPrefix Plain)) (p : Stamped Plain) (i : ℕ) → packet_at p.at (select_of ss).packets ≡ Some p → is_selected ss p.at i ≡ unwrap_or (option_map (λ j. eqb j i) (selected (length ss) p.value)) false
selected_by ss p i finds =
    ap (λ (o : Option (Stamped Plain)). unwrap_or (option_map (λ q. unwrap_or (option_map (λ j. eqb j i) (selected (length ss) q.value)) false) o) false) finds

pub mux-shows : (ss : List (StreamPrefix Plain)) (p : Stamped Plain) → packet_at p.at (select_of ss).packets ≡ Some p → Shows Mux ss (set_of ss p)
mux-shows ss p finds i there =
    by_selected ss p (λ j. packet_at p.at (port_of ss j).packets)
    (λ j e. (let here : length ss - 1 ≡ j = omega (arith, e) in subst (λ (k : ℕ). packet_at p.at (port_of ss k).packets ≡ Some p) here finds))
    (selected (length ss) p.value) (λ j e. selected_another (length ss) p.value j e) i there
    ∙ ap (λ (b : Bool). cond (eqb (i + 1) (length ss) || b) (packet_at p.at (port_of ss i).packets) None) (sym (selected_by ss p i finds))

pub sets-show : (policy : Policy) (ss : List (StreamPrefix Plain)) → All IsPrefix ss → All (Shows policy ss) (settled_sets policy ss)
sets-show Default ss h = All-default_sets (Shows Default ss) ss (λ t at i there. get_or-map (λ s. packet_at t s.packets) ss i (closed empty_prefix) None there)
sets-show Mux ss h =
    let s = select_of ss in
    let Finds : Stamped Plain → Type 0 = λ p. (0 ≤ p.at) × (packet_at p.at s.packets ≡ Some p) in
    let finds = All-take Finds (prefix_len (is_settled ss) s.packets) s.packets (All-from_recursion Finds s.packets (Climbs-finds 0 s.bound s.packets (prefix-climbs s (select-prefix ss h)))) in
    All-map (Shows Mux ss) (set_of ss) (settled_selects ss) (λ k d lt. mux-shows ss (get_or (settled_selects ss) k d) (finds k d lt).1)
