-- Each draft is sound, and a draft with a user-supplied calculator has that calculator's law and shape.
use Rattle.std.proofs.Common.{◌≡◌, ℕ, ℤ, pos, negsuc, ◌≤◌, List, [], ◌∷◌, length, Bool, true, false, ◌==◌, nat_lt, Option, None, Some, if◌then◌else◌, slice_get, All, IfSome, IsSome, IsSomeAnd, filter_map, bytes_eq, codes, refl, sym, ap, subst, ◌∙◌, arith, inl, inr}
use Rattle.std.specs.Prelude.{option_and_then, option_map}
use Rattle.std.specs.List.{list_any, cons_option}
use Rattle.std.proofs.lemmas.Bool.{or_cases, true≢false, eqb-false, ltb-false}
use Rattle.std.proofs.lemmas.List.{length-map}
use Rattle.std.proofs.lemmas.List.Elements.{All-nil, All-cons}
use Rattle.std.proofs.lemmas.Option.{none-some, same_Some}
use Rattle.mg_value.specs.declared.policy.Policy.{Policy}
use Rattle.mg_value.specs.declared.policy.Policy.TheVariants.{Default}
use Rattle.mg_config.specs.declared.mark.Mark.{Mark}
use Rattle.mg_calc.specs.declared.law.Law.{Law}
use Rattle.mg_calc.specs.declared.law.Law.TheVariants.{Loopback, Mux, FirstCome, Limiter}
use Rattle.mg_calc.specs.declared.shape.Shape.{Shape}
use Rattle.mg_calc.specs.declared.shape.OuterShape.{OuterShape}
use Rattle.mg_calc.specs.Plan.{MayHavePolicy}
use Rattle.mg_kinds.specs.PortOrder.{in_order}
use Rattle.mg_kinds.specs.Kinds.{SettingsView}
use Rattle.mg_kinds.specs.declared.ports.Ports.{Ports}
use Rattle.mg_kinds.proofs.Made.{made_by, mapped}
use Rattle.mg_check.specs.Check.{IsOuterShape}
use Rattle.mg_check.specs.Choosing.{Chosen}
use Rattle.mg_check.specs.Drafts.{DraftView, draft_of, draft_with, flight_of, up_to_64, may_be_back, back_port, back_of, name_at, box_of}
use Rattle.mg_check.specs.Fitting.{node_ports, node_settings, node_shape, policy_of, own_policy, default_policy, mux_policy, immediate_policy}
use Rattle.mg_check.specs.Code.Sound.{HasNames, HasFlight, IsBackPort, IsSound, FitsDraft}
use Rattle.mg_check.proofs.SoundKinds.{LooksSo, suits}

-- What a draft is made of.
pub record IsMade (outers : List OuterShape) (c : Chosen) (d : DraftView) : Type 0 where
  pub ps : Ports
  pub settings : SettingsView
  pub policy : Policy
  pub shape : Shape
  pub fit : node_ports outers c.node c.kind ≡ Some ps
  pub set : node_settings outers c.node c.kind ≡ Some settings
  pub asked : policy_of settings.law c.node.handler ≡ Some policy
  pub looks : node_shape outers c.node c.kind ps settings.law ≡ Some shape
  pub is : draft_with c.node c.kind ps settings policy shape ≡ d

abbrev pub with_policy : List OuterShape → Chosen → Ports → SettingsView → Policy → Option DraftView
with_policy outers c ps settings policy = option_map (draft_with c.node c.kind ps settings policy) (node_shape outers c.node c.kind ps settings.law)

abbrev pub with_settings : List OuterShape → Chosen → Ports → SettingsView → Option DraftView
with_settings outers c ps settings = option_and_then (with_policy outers c ps settings) (policy_of settings.law c.node.handler)

abbrev pub with_ports : List OuterShape → Chosen → Ports → Option DraftView
with_ports outers c ps = option_and_then (with_settings outers c ps) (node_settings outers c.node c.kind)

pub is-made : (outers : List OuterShape) (c : Chosen) (d : DraftView) → draft_of outers c ≡ Some d → IsMade outers c d
is-made outers c d e =
    let p = made_by (with_ports outers c) (node_ports outers c.node c.kind) d e in
    let s = made_by (with_settings outers c p.0) (node_settings outers c.node c.kind) d p.2 in
    let a = made_by (with_policy outers c p.0 s.0) (policy_of s.0.law c.node.handler) d s.2 in
    let l = mapped (draft_with c.node c.kind p.0 s.0 a.0) (node_shape outers c.node c.kind p.0 s.0.law) d a.2 in
    record { ps = p.0; settings = s.0; policy = a.0; shape = l.0; fit = p.1; set = s.1; asked = a.1; looks = l.1; is = l.2 }

-- Sets in flight.
up_to_64_some : (most : ℤ) → 1 ≤ up_to_64 most
up_to_64_some (pos n) = by (n == 0) (nat_lt 64 n) refl
  where
    by : (none many : Bool) → (n == 0) ≡ none → 1 ≤ (if none then 1 else (if many then 64 else n))
    by true many is = omega arith
    by false true is = omega arith
    by false false is = let some : n ≡ 0 → ⊥ = eqb-false n 0 is in omega arith
up_to_64_some (negsuc n) = omega arith

up_to_64_most : (most : ℤ) → up_to_64 most ≤ 64
up_to_64_most (pos n) = by (n == 0) (nat_lt 64 n) refl
  where
    by : (none many : Bool) → nat_lt 64 n ≡ many → (if none then 1 else (if many then 64 else n)) ≤ 64
    by true many is = omega arith
    by false true is = omega arith
    by false false is = ltb-false 64 n is
up_to_64_most (negsuc n) = omega arith

flight_some : (box : Option ℕ) (stateless : Bool) (most : ℤ) → 1 ≤ flight_of box stateless most
flight_some None true most = up_to_64_some most
flight_some None false most = omega arith
flight_some (Some n) stateless most = omega arith

flight_most : (box : Option ℕ) (stateless : Bool) (most : ℤ) → flight_of box stateless most ≤ 64
flight_most None true most = up_to_64_most most
flight_most None false most = omega arith
flight_most (Some n) stateless most = omega arith

flight_boxed : (box : Option ℕ) (stateless : Bool) (most : ℤ) → IsSome box → flight_of box stateless most ≡ 1
flight_boxed None stateless most some = absurd (true≢false (sym some))
flight_boxed (Some n) stateless most some = refl

flight_stateful : (box : Option ℕ) (stateless : Bool) (most : ℤ) → stateless ≡ false → flight_of box stateless most ≡ 1
flight_stateful None true most is = absurd (true≢false is)
flight_stateful None false most is = refl
flight_stateful (Some n) stateless most is = refl

-- The policy that a law may have.
may_have : (rule : Law) (policy : Policy) (a b c d : Bool)
    → (if a then Some (own_policy rule) else (if b then default_policy rule else (if c then mux_policy rule else (if d then immediate_policy rule else None)))) ≡ Some policy → MayHavePolicy rule policy
may_have (Mux lanes) policy a b c d e = tt
may_have (FirstCome lanes) policy true b c d e = sym (same_Some Default policy e)
may_have (FirstCome lanes) policy false true c d e = sym (same_Some Default policy e)
may_have (FirstCome lanes) policy false false true d e = absurd (none-some policy e)
may_have (FirstCome lanes) policy false false false true e = sym (same_Some Default policy e)
may_have (FirstCome lanes) policy false false false false e = absurd (none-some policy e)
may_have (Limiter most) policy true b c d e = sym (same_Some Default policy e)
may_have (Limiter most) policy false true c d e = absurd (none-some policy e)
may_have (Limiter most) policy false false true d e = absurd (none-some policy e)
may_have (Limiter most) policy false false false true e = sym (same_Some Default policy e)
may_have (Limiter most) policy false false false false e = absurd (none-some policy e)
may_have rule policy true b c d e = sym (same_Some Default policy e)
may_have rule policy false true c d e = sym (same_Some Default policy e)
may_have rule policy false false true d e = absurd (none-some policy e)
may_have rule policy false false false true e = absurd (none-some policy e)
may_have rule policy false false false false e = absurd (none-some policy e)

-- What may be back: LOOP of a loopback and FINISHED of a limiter.
back_marked : (rule : Law) (mark : Mark) → may_be_back rule mark ≡ true → IsBackPort rule (back_port rule)
back_marked Loopback mark e = inl (refl, refl)
back_marked (Limiter most) mark e = inr (refl, tt)
back_marked rule mark e = absurd (true≢false (sym e))

back_any : (rule : Law) (marks : List Mark) → list_any (may_be_back rule) marks ≡ true → IsBackPort rule (back_port rule)
back_any rule [] e = absurd (true≢false (sym e))
back_any rule (mark ∷ marks) e =
    elim (or_cases (may_be_back rule mark) (list_any (may_be_back rule) marks) e) [ inl here ↦ back_marked rule mark here | inr later ↦ back_any rule marks later ]

back_sound : (rule : Law) (marks : List Mark) → IfSome (back_of rule marks) (IsBackPort rule)
back_sound rule marks = by (list_any (may_be_back rule) marks) refl
  where
    by : (t : Bool) → list_any (may_be_back rule) marks ≡ t → IfSome (if t then Some (back_port rule) else None) (IsBackPort rule)
    by true is = back_any rule marks is
    by false is = tt

-- Each draft.
record HoldsOf (outers : List OuterShape) (d : DraftView) : Type 0 where
  sound : IsSound d
  fits : IfSome d.box_number (λ number. IsSomeAnd (slice_get outers number) (FitsDraft d))

fits_draft : (outers : List OuterShape) (d : DraftView) (box : Option ℕ) → IfSome box (λ number. IsSomeAnd (slice_get outers number) (LooksSo d.law d.shape)) → IfSome box (λ number. IsSomeAnd (slice_get outers number) (FitsDraft d))
fits_draft outers d None h = tt
fits_draft outers d (Some number) h = by (slice_get outers number) h
  where
    by : (o : Option OuterShape) → IsSomeAnd o (LooksSo d.law d.shape) → IsSomeAnd o (FitsDraft d)
    by None h = absurd h
    by (Some outer) h = record { same_law = h.same_law; same_shape = h.same_shape }

draft_holds : (outers : List OuterShape) (c : Chosen) (d : DraftView) → All IsOuterShape outers → draft_of outers c ≡ Some d → HoldsOf outers d
draft_holds outers c d all e =
    let m = is-made outers c d e in
    let h = suits outers c.node c.kind m.ps m.settings m.shape all m.fit m.set m.looks in
    let made = draft_with c.node c.kind m.ps m.settings m.policy m.shape in
    let names : HasNames made = record {
      inputs = length-map m.ps.inputs (name_at c.node.inputs) ∙ ap length (sym h.inputs);
      outputs = length-map m.ps.outputs (name_at c.node.outputs) ∙ ap length (sym h.outputs);
      sides = length-map m.ps.sides (name_at c.node.input_sides) ∙ ap length (sym h.sides);
      side_outputs = length-map (in_order c.node.output_sides) (name_at c.node.output_sides) ∙ h.constants;
    } in
    let flight : HasFlight made = record {
      some = flight_some (box_of c.kind) m.shape.stateless c.node.max_in_flight;
      most = flight_most (box_of c.kind) m.shape.stateless c.node.max_in_flight;
      boxed = flight_boxed (box_of c.kind) m.shape.stateless c.node.max_in_flight;
      stateful = flight_stateful (box_of c.kind) m.shape.stateless c.node.max_in_flight;
    } in
    let sound : IsSound made = record {
      names = names;
      parameters = h.parameters;
      shape = h.shape_of;
      flight = flight;
      policy = may_have m.settings.law m.policy (bytes_eq c.node.handler []) (bytes_eq c.node.handler (codes "DefaultInputStreamHandler")) (bytes_eq c.node.handler (codes "MuxInputStreamHandler"))
          (bytes_eq c.node.handler (codes "ImmediateInputStreamHandler")) m.asked;
      stated = h.stated;
      back = back_sound m.settings.law c.node.back_marks;
    } in
    let holds : HoldsOf outers made = record { sound = sound; fits = fits_draft outers made (box_of c.kind) h.outer } in
    subst (HoldsOf outers) m.is holds

-- what is made of a list's elements
pub all-made : {X Y : Type 0} (f : X → Option Y) (P : Y → Type 0) → ((x : X) (y : Y) → f x ≡ Some y → P y) → (xs : List X) → All P (filter_map f xs)
all-made f P each [] = All-nil P
all-made {X} {Y} f P each (x ∷ xs) = by (f x) refl (all-made f P each xs)
  where
    by : (o : Option Y) → f x ≡ o → All P (filter_map f xs) → All P (cons_option o (filter_map f xs))
    by None is rest = rest
    by (Some y) is rest = All-cons P y (filter_map f xs) (each x y is) rest

pub drafts-sound : (outers : List OuterShape) (cs : List Chosen) → All IsOuterShape outers → All IsSound (filter_map (draft_of outers) cs)
drafts-sound outers cs all = all-made (draft_of outers) IsSound (λ c d e. (draft_holds outers c d all e).sound) cs

pub drafts-fit : (outers : List OuterShape) (cs : List Chosen) → All IsOuterShape outers
    → All (λ d. IfSome d.box_number (λ number. IsSomeAnd (slice_get outers number) (FitsDraft d))) (filter_map (draft_of outers) cs)
drafts-fit outers cs all =
    all-made (draft_of outers) (λ d. IfSome d.box_number (λ number. IsSomeAnd (slice_get outers number) (FitsDraft d))) (λ c d e. (draft_holds outers c d all e).fits) cs
