-- Outputs of graph inputs: all packets of a prefix, and what is given up of them.
use Rattle.std.proofs.Common.{◌≡◌, ℕ, zero, suc, ◌+◌, ◌-◌, ◌<◌, ◌≤◌, max, List, [], ◌∷◌, ◌++◌, length, map, true, false, take, drop, drop-drop, append-nil, append_assoc, add-one, get_or, option_map, Some, None, slice_get, eq-eqb, ap, sym, refl, subst, ◌∙◌, arith}
use Rattle.std.proofs.lemmas.List.{take_more, take_all, drop_all}
use Rattle.mg_time.specs.Time.{next}
use Rattle.mg_value.specs.Payload.{Plain}
use Rattle.mg_value.specs.Packet.{Stamped}
use Rattle.mg_settled.specs.Prefix.{StreamPrefix, IsPrefix, Ascends, first_time, empty_prefix}
use Rattle.mg_settled.proofs.Lemmas.{appended_extends}
use Rattle.mg_stream.specs.Queue.{Waiting, StandsFor, MayCome, IsLike, with_packet, popped, popped_at}
use Rattle.mg_stream.specs.Pool.{Backlog, backlog_of, queue_of}
use Rattle.mg_calc.specs.Rules.{Laws}
use Rattle.mg_calc.specs.declared.plan.Plan.{Plan}
use Rattle.mg_calc.specs.Plan.{IsValid}
use Rattle.mg_node.specs.declared.role.Role.TheVariants.{Input}
use Rattle.mg_node.specs.Views.{ContextView, EntryView, EngineView}
use Rattle.mg_node.specs.Outputs.{kept_whole, input_engine}
use Rattle.mg_node.specs.Job.{LoggedJob, Solves}
use Rattle.mg_node.specs.Lawful.{of_input, LawfulEngine}
use Rattle.mg_node.proofs.Leads.{row_at}

-- what may follow a packet is at most the time of the one after it, or the bound
next_ascends : (ps : List (Stamped Plain)) (b i : ℕ) (p : Stamped Plain) → Ascends ps b → i < length ps → get_or ps i p ≡ p → next p.at ≤ first_time (drop (suc i) ps) b
next_ascends [] b i p r le is = absurd (omega (arith, le))
next_ascends (x ∷ ps) b zero p r le is = (let same : x ≡ p = is in subst (λ (y : Stamped Plain). next y.at ≤ first_time ps b) same r.0)
next_ascends (x ∷ ps) b (suc i) p r le is = next_ascends ps b i p r.1 (omega (arith, le)) is

-- the first `i` packets stand after those of a queue, and the queue's bound is at most the next packet's time
pub record IsFilled (start q : Waiting Plain) (ps : List (Stamped Plain)) (i : ℕ) : Type 0 where
  pub gone : q.gone ≡ start.gone
  pub packets : q.packets ≡ start.packets ++ take i ps
  pub bound : (b : ℕ) → Ascends ps b → start.bound ≤ first_time ps b → q.bound ≤ first_time (drop i ps) b
  pub above : (b : ℕ) → start.bound ≤ b → start.bound ≤ first_time (take i ps) b
  pub grows : start.bound ≤ q.bound

-- the first time of some packets with another one after them
first_behind : (ps : List (Stamped Plain)) (p : Stamped Plain) (a b : ℕ) → a ≤ p.at → (a ≤ b → a ≤ first_time ps b) → a ≤ b → a ≤ first_time (ps ++ p ∷ []) b
first_behind [] p a b here above le = here
first_behind (x ∷ ps) p a b here above le = above le

pub filled_none : (q : Waiting Plain) (ps : List (Stamped Plain)) → IsFilled q q ps 0
filled_none q ps = record { gone = refl; packets = sym (append-nil q.packets); bound = (λ b asc le. le); above = (λ b le. le); grows = omega arith }

pub filled_more : (start q r : Waiting Plain) (ps : List (Stamped Plain)) (i : ℕ) (p x : Stamped Plain) → IsFilled start q ps i → i < length ps → p ≡ get_or ps i p → x ≡ p → IsLike r (with_packet q x) → MayCome q x.at → IsFilled start r ps (i + 1)
filled_more start q r ps i p x f there is same like may = record {
  gone = like.gone ∙ f.gone;
  packets = like.packets ∙ ap (λ (qs : List (Stamped Plain)). qs ++ x ∷ []) f.packets ∙ append_assoc start.packets (take i ps) (x ∷ [])
      ∙ ap (λ (qs : List (Stamped Plain)). start.packets ++ qs) (ap (λ (y : Stamped Plain). take i ps ++ y ∷ []) (same ∙ is) ∙ sym (take_more ps i p there));
  bound = (λ b asc le. subst (λ (n : ℕ). r.bound ≤ first_time (drop n ps) b) (sym (add-one i))
      (subst (λ (n : ℕ). n ≤ first_time (drop (suc i) ps) b) (sym (like.bound ∙ ap (λ (y : Stamped Plain). next y.at) same)) (next_ascends ps b i p asc there (sym is))));
  above = (λ b le. subst (λ (qs : List (Stamped Plain)). start.bound ≤ first_time qs b)
      (sym (take_more ps i p there ∙ ap (λ (y : Stamped Plain). take i ps ++ y ∷ []) (sym is)))
      (first_behind (take i ps) p start.bound b (let grows = f.grows in let higher = may.above in let at = ap (λ (y : Stamped Plain). y.at) same in omega (arith, grows, higher, at)) (f.above b) le));
  grows = (let grows = f.grows in
      let bare : StreamPrefix Plain = record { packets = []; bound = q.bound } in
      let up : q.bound ≤ next x.at = (appended_extends bare x (record { allowed = may.allowed; above = may.above; alone = (λ e. refl) })).bound in
      let now = like.bound in
      omega (arith, grows, up, now));
}

pub filled_above : (start q : Waiting Plain) (ps : List (Stamped Plain)) (i : ℕ) → IsFilled start q ps i → length ps ≤ i → (b : ℕ) → start.bound ≤ b → start.bound ≤ first_time ps b
filled_above start q ps i f end b le = subst (λ (qs : List (Stamped Plain)). start.bound ≤ first_time qs b) (take_all i ps end) (f.above b le)

pub filled_all : (start q : Waiting Plain) (ps : List (Stamped Plain)) (i : ℕ) → IsFilled start q ps i → length ps ≤ i → (q.packets ≡ start.packets ++ ps) × ((b : ℕ) → Ascends ps b → start.bound ≤ first_time ps b → q.bound ≤ b)
filled_all start q ps i f end = (
  f.packets ∙ ap (λ (qs : List (Stamped Plain)). start.packets ++ qs) (take_all i ps end),
  (λ b asc le. subst (λ (qs : List (Stamped Plain)). q.bound ≤ first_time qs b) (drop_all i ps end) (f.bound b asc le)),
)

-- a filled queue has all of a prefix
pub same_backlog : (a b : Backlog Plain) → a.gone ≡ b.gone → a.packets ≡ b.packets → a.bound ≡ b.bound → a ≡ b
same_backlog a b gone packets bound = λ i. record { gone = gone i; packets = packets i; bound = bound i }

-- the engine of a graph input is lawful
pub input_lawful : {laws : Laws} (job : LoggedJob laws) (streams : List (StreamPrefix Plain)) (plan : Plan) (input : ℕ) (s : StreamPrefix Plain) → input < length plan.inputs → IsPrefix s → job.job.plan ≡ plan → Solves job streams
    → get_or streams input empty_prefix ≡ s → LawfulEngine job (of_input input) (input_engine input (get_or plan.inputs input 0) s)
unfolding LawfulEngine
input_lawful {laws} job streams plan input s there is same solves given =
    let valid : IsValid plan = subst IsValid same solves.is_job.plan in
    record {
      streams = streams;
      solves = solves;
      there = subst (λ (p : Plan). input < length p.inputs) (sym same) there;
      role = refl;
      number_is = refl;
      first = ap (λ (ns : List ℕ). get_or ns input 0) valid.inputs ∙ row_at 0 (length plan.inputs) input there ∙ omega arith;
      kept = (subst (λ (t : StreamPrefix Plain). StandsFor (queue_of 0 (kept_whole s)) t) (sym given) (record { prefix = is; gone = omega arith; waiting = refl; bound = refl }), tt);
      laid = refl;
      claimed = refl;
      window = refl;
      idle = refl;
      fault = refl;
    }

-- Giving up.

-- a queue on its way to give up its first `got` packets
pub record GivesUp (old now : Waiting Plain) (got : ℕ) : Type 0 where
  pub from : old.gone ≤ now.gone
  pub upto : now.gone ≤ max old.gone got
  pub packets : now.packets ≡ drop (now.gone - old.gone) old.packets
  pub bound : now.bound ≡ old.bound

popped_is : (q : Waiting Plain) (t : ℕ) → Some t ≡ option_map (λ p. p.at) (slice_get q.packets 0) → popped_at t q ≡ popped q
popped_is q t first = by_packets q.packets refl
  where
    by_packets : (ps : List (Stamped Plain)) → q.packets ≡ ps → popped_at t q ≡ popped q
    by_packets [] is = absurd (let e = rw is at first in cc)
    by_packets (p ∷ ps) is =
        (let f : Some t ≡ Some p.at = rw is at first in
        let e : t ≡ p.at = cc in
        rw (is, eq-eqb p.at t (sym e)) refl)

pub gives_more : (old now : Waiting Plain) (got t : ℕ) → GivesUp old now got → now.gone < got → Some t ≡ option_map (λ p. p.at) (slice_get now.packets 0) → GivesUp old (popped_at t now) got
gives_more old now got t g less first =
    let from = g.from in
    let upto = g.upto in
    subst (λ (q : Waiting Plain). GivesUp old q got) (sym (popped_is now t first)) (record {
      from = omega (arith, from);
      upto = omega (arith, less);
      packets = ap (λ (ps : List (Stamped Plain)). drop 1 ps) g.packets ∙ drop-drop 1 (now.gone - old.gone) old.packets ∙ ap (λ (n : ℕ). drop n old.packets) (omega (arith, from));
      bound = g.bound;
    })

-- the engine of a graph input, as the code makes it
pub input_made : (input stream first : ℕ) (s : StreamPrefix Plain) (items : List (Waiting Plain)) (q : Waiting Plain) (window : List EntryView) (idle : List ContextView) → first ≡ stream → items ≡ q ∷ [] → backlog_of q ≡ kept_whole s → window ≡ [] → idle ≡ []
    → (let e : EngineView = record {
      role = Input;
      node = input;
      first = first;
      offset = None;
      in_flight = 0;
      inputs = 0;
      outputs = map backlog_of items;
      laid = 0;
      claimed = 0;
      window = window;
      idle = idle;
      begun = true;
      closed = false;
      fault = None;
    } in e) ≡ input_engine input stream s
input_made input stream first s items q window idle e_first e_items e_whole e_window e_idle =
    let outputs : map backlog_of items ≡ kept_whole s ∷ [] = ap (map backlog_of) e_items ∙ ap (λ (b : Backlog Plain). b ∷ []) e_whole in
    λ i. record {
      role = Input;
      node = input;
      first = e_first i;
      offset = None;
      in_flight = 0;
      inputs = 0;
      outputs = outputs i;
      laid = 0;
      claimed = 0;
      window = e_window i;
      idle = e_idle i;
      begun = true;
      closed = false;
      fault = None;
    }
