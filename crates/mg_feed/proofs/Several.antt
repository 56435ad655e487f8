-- The packets of one line, one name after the other.
use Rattle.std.proofs.Common.{◌≡◌, ℕ, List, [], ◌∷◌, ◌++◌, Option, Some, None, unwrap_or, refl, sym, ap, ◌∙◌, subst, String}
use Rattle.std.specs.declared.alloc.Global.{Global}
use Rattle.std.specs.String.{string_bytes}
use Rattle.serde_json.specs.View.{view, members_view}
use Rattle.serde_json.specs.declared.value.Value.{Value}
use Rattle.serde_json.specs.Data.{Data}
use Rattle.mg_value.specs.declared.kind.Kind.{Kind}
use Rattle.mg_value.specs.declared.kind.Kind.TheVariants.{Any}
use Rattle.mg_feed.specs.declared.standing.Standing.{Standing}
use Rattle.mg_value.specs.Payload.{Plain}
use Rattle.mg_value.specs.Packet.{Stamped}
use Rattle.mg_feed.specs.Graph.{GraphInputs, place_of}
use Rattle.mg_feed.specs.Value.{plain_of}
use Rattle.mg_feed.specs.Code.Due.{AreDue}
use Rattle.mg_feed.specs.declared.due.Due.{Due}
use Rattle.mg_feed.proofs.Room.{due-push}
use Rattle.mg_feed.specs.Form.{Named, listed, time_of}
use Rattle.mg_feed.specs.Accepted.{Before, placed, no_stream, first_refusal, several_refusals, packet_refusals, kind_at, standing_at}
use Rattle.mg_feed.specs.declared.line_fault.LineFault.{LineFault}

abbrev pub Member : Type 0
Member = String Global × Value

abbrev pub member_named : Member → Named
member_named m = record { name = string_bytes m.0; value = view m.1 }

-- reasons before other reasons
pub first-none : (xs ys : List (Option LineFault)) → first_refusal xs ≡ None → first_refusal (xs ++ ys) ≡ first_refusal ys
first-none [] ys none = refl
first-none (None ∷ xs) ys none = first-none xs ys none
first-none (Some fault ∷ xs) ys none = cc

pub first-some : (xs ys : List (Option LineFault)) (fault : LineFault) → first_refusal xs ≡ Some fault → first_refusal (xs ++ ys) ≡ Some fault
first-some [] ys fault is = cc
first-some (None ∷ xs) ys fault is = first-some xs ys fault is
first-some (Some f ∷ xs) ys fault is = is

pub listed-push : (done : List Member) (m : Member) → listed (members_view (done ++ m ∷ [])) ≡ listed (members_view done) ++ member_named m ∷ []
listed-push [] m = refl
listed-push (d ∷ done) m = ap (λ l. member_named d ∷ l) (listed-push done m)

-- one more is good, or is the first that isn't
pub several-next : (b : Before) (time : Option ℕ) (whole all left : List Member) (m : Member)
    → first_refusal (several_refusals b time (listed (members_view whole))) ≡ first_refusal (several_refusals b time (listed (members_view all)))
    → all ≡ m ∷ left → first_refusal (packet_refusals (kind_at b (string_bytes m.0)) (standing_at b (string_bytes m.0)) time (view m.1)) ≡ None
    → first_refusal (several_refusals b time (listed (members_view whole))) ≡ first_refusal (several_refusals b time (listed (members_view left)))
several-next b time whole all left m is cut none =
    is ∙ ap (λ ms. first_refusal (several_refusals b time (listed (members_view ms)))) cut
    ∙ first-none (packet_refusals (kind_at b (string_bytes m.0)) (standing_at b (string_bytes m.0)) time (view m.1)) (several_refusals b time (listed (members_view left))) none

pub several-stop : (b : Before) (time : Option ℕ) (whole all left : List Member) (m : Member) (fault : LineFault)
    → first_refusal (several_refusals b time (listed (members_view whole))) ≡ first_refusal (several_refusals b time (listed (members_view all)))
    → all ≡ m ∷ left → first_refusal (packet_refusals (kind_at b (string_bytes m.0)) (standing_at b (string_bytes m.0)) time (view m.1)) ≡ Some fault
    → first_refusal (several_refusals b time (listed (members_view whole))) ≡ Some fault
several-stop b time whole all left m fault is cut bad =
    is ∙ ap (λ ms. first_refusal (several_refusals b time (listed (members_view ms)))) cut
    ∙ first-some (packet_refusals (kind_at b (string_bytes m.0)) (standing_at b (string_bytes m.0)) time (view m.1)) (several_refusals b time (listed (members_view left))) fault bad

-- the judgement of a stream's packet, by the stream's name
pub judged : (b : Before) (name : List ℕ) (place : Option ℕ) (kind : Kind) (s : Standing) (time : Option ℕ) (t v : Data) (r : Option LineFault)
    → place ≡ place_of b.graph.streams name → kind ≡ unwrap_or (placed place b.graph.kinds) Any → s ≡ unwrap_or (placed place b.streams) no_stream
    → time ≡ time_of t → first_refusal (packet_refusals kind s time v) ≡ r
    → first_refusal (packet_refusals (kind_at b name) (standing_at b name) (time_of t) v) ≡ r
judged b name place kind s time t v r is_place is_kind is_s is_time is =
    let k : kind ≡ kind_at b name = is_kind ∙ ap (λ p. unwrap_or (placed p b.graph.kinds) Any) is_place in
    let st : s ≡ standing_at b name = is_s ∙ ap (λ p. unwrap_or (placed p b.streams) no_stream) is_place in
    subst (λ (x : Option ℕ). first_refusal (packet_refusals (kind_at b name) (standing_at b name) x v) ≡ r) is_time
    (subst (λ (x : Standing). first_refusal (packet_refusals (kind_at b name) x time v) ≡ r) st
    (subst (λ (x : Kind). first_refusal (packet_refusals x s time v) ≡ r) k is))

-- one more packet
pub due-next : (graph : GraphInputs) (t : Data) (done : List Member) (ds more : List Due) (m : Member) (d : Due) (time : Option ℕ)
    → AreDue graph (time_of t) (listed (members_view done)) ds → d.place ≡ place_of graph.streams (string_bytes m.0) → time ≡ time_of t
    → d.packet ≡ record { at = unwrap_or time 0; value = plain_of (view m.1) } → more ≡ ds ++ d ∷ []
    → AreDue graph (time_of t) (listed (members_view (done ++ m ∷ []))) more
due-next graph t done ds more m d time due place is packet pushed =
    subst (λ (vs : List Named). AreDue graph (time_of t) vs more) (sym (listed-push done m))
    (subst (λ (l : List Due). AreDue graph (time_of t) (listed (members_view done) ++ member_named m ∷ []) l) (sym pushed)
    (due-push graph (time_of t) (listed (members_view done)) ds (member_named m) d due place
    (packet ∙ ap (λ (x : Option ℕ). let s : Stamped Plain = record { at = unwrap_or x 0; value = plain_of (view m.1) } in s) is)))
