-- The engine of a graph input goes on with what came later.
use Rattle.std.proofs.Common.{◌≡◌, ℕ, Result, Ok, Err, ◌≤◌, ◌<◌, max, List, [], ◌∷◌, ◌++◌, ◌-◌, length, length-append, length-drop, append-nil, map, set, take, take_at, get_or, ap, sym, refl, subst, subst₂, ◌∙◌, arith}
use Rattle.std.proofs.lemmas.List.{drop-append-le}
use Rattle.std.specs.Result.{OnErr}
use Rattle.mg_value.specs.Payload.{Plain}
use Rattle.mg_value.specs.Packet.{Stamped}
use Rattle.mg_settled.specs.Prefix.{StreamPrefix, IsPrefix, Ascends, first_time, empty_prefix}
use Rattle.mg_settled.proofs.Behind.{drop_is_prefix}
use Rattle.mg_stream.specs.Queue.{Waiting, StandsFor, IsLike, IsQueue, cut_back}
use Rattle.mg_stream.specs.Pool.{Backlog, backlog_of, queue_of, empty_backlog}
use Rattle.mg_calc.specs.Rules.{Laws}
use Rattle.mg_calc.proofs.Jobs.{job_known}
use Rattle.mg_calc.proofs.Rounds.{stream_is_prefix}
use Rattle.mg_calc.proofs.Solutions.{one_solution, solution_keeps}
use Rattle.mg_node.specs.Views.{EngineView}
use Rattle.mg_node.specs.Outputs.{laid_at}
use Rattle.mg_node.specs.Job.{LoggedJob, Solves}
use Rattle.mg_node.specs.Lawful.{of_input, StandForAll, LawfulEngine}
use Rattle.mg_node.specs.Extending.{joined, lengthened, extended, MayLengthen, MayExtend, WasExtended, SomeExtended}
use Rattle.mg_node.proofs.Filling.{same_backlog}
use Rattle.mg_node.proofs.FewWait.{prefix_counted}
use Rattle.mg_node.proofs.Giving.{with_outputs}
use Rattle.mg_node.proofs.Knowing.{input_known}

-- what ascends after other packets ascends by itself
ascends_behind : (ps qs : List (Stamped Plain)) (b : ℕ) → Ascends (ps ++ qs) b → Ascends qs b
ascends_behind [] qs b asc = asc
ascends_behind (p ∷ ps) qs b asc = ascends_behind ps qs b asc.1

-- a queue that was filled and raised
lengthened_so : (q full r : Waiting Plain) (more : StreamPrefix Plain) → MayLengthen q more → full.gone ≡ q.gone → full.packets ≡ q.packets ++ more.packets
    → ((b : ℕ) → Ascends more.packets b → q.bound ≤ first_time more.packets b → full.bound ≤ b) → ((b : ℕ) → q.bound ≤ b → q.bound ≤ first_time more.packets b) → q.bound ≤ full.bound
    → r ≡ record full { bound = max full.bound more.bound } → backlog_of r ≡ lengthened (backlog_of q) more
lengthened_so q full r more may gone packets below above grows raised =
    let most = max may.whole.bound more.bound in
    let stands = may.stands.bound in
    let asc : Ascends more.packets most = ascends_behind may.whole.packets more.packets most may.is_prefix.ascends in
    let high : full.bound ≤ most = below most asc (above most (omega (arith, stands))) in
    same_backlog (backlog_of r) (lengthened (backlog_of q) more)
    (ap (λ (w : Waiting Plain). w.gone) raised ∙ gone)
    (ap (λ (w : Waiting Plain). w.packets) raised ∙ packets)
    (ap (λ (w : Waiting Plain). w.bound) raised ∙ omega (arith, stands, high, grows))

pub lengthened_from : (q full r : Waiting Plain) (more : StreamPrefix Plain) (ps : List (Stamped Plain)) (b : ℕ) → MayLengthen q more → ps ≡ more.packets → b ≡ more.bound → full.gone ≡ q.gone → full.packets ≡ q.packets ++ ps
    → ((c : ℕ) → Ascends ps c → q.bound ≤ first_time ps c → full.bound ≤ c) → ((c : ℕ) → q.bound ≤ c → q.bound ≤ first_time ps c) → q.bound ≤ full.bound
    → r ≡ record full { bound = max full.bound b } → backlog_of r ≡ lengthened (backlog_of q) more
lengthened_from q full r more ps b may ps_is b_is gone packets below above grows raised =
    let given : StreamPrefix Plain = record { packets = ps; bound = b } in
    let same : given ≡ more = (λ i. record { packets = ps_is i; bound = b_is i }) in
    subst (λ (m : StreamPrefix Plain). backlog_of r ≡ lengthened (backlog_of q) m) same
    (lengthened_so q full r given (subst (MayLengthen q) (sym same) may) gone packets below above grows raised)

-- a queue from which what came last was taken back

-- what stands for a prefix is a queue
stands_queue : (q : Waiting Plain) (s : StreamPrefix Plain) → StandsFor q s → IsQueue q
stands_queue q s h = record {
  rest = subst IsPrefix (λ i. record { packets = (sym h.waiting) i; bound = (sym h.bound) i }) (drop_is_prefix q.gone s h.prefix);
  counted = (let counted = prefix_counted s h.prefix in let gone = h.gone in let bound = h.bound in omega (arith, counted, gone, bound, ap length h.waiting, length-drop q.gone s.packets));
}

like_queue : (q r : Waiting Plain) → IsLike r q → IsQueue q → IsQueue r
like_queue q r like is = record {
  rest = subst IsPrefix (λ i. record { packets = (sym like.packets) i; bound = (sym like.bound) i }) is.rest;
  counted = (let counted = is.counted in let gone = like.gone in let bound = like.bound in omega (arith, counted, gone, bound, ap length like.packets));
}

-- what is there before is a queue, when it is filled in part
pub left_queue : (q full : Waiting Plain) (more : StreamPrefix Plain) (waiting bound : ℕ) → MayLengthen q more → waiting ≡ length q.packets → bound ≡ q.bound → IsLike (cut_back (length q.packets) q.bound full) q
    → IsQueue (cut_back waiting bound full)
left_queue q full more waiting bound may waiting_is bound_is like =
    subst₂ (λ (n b : ℕ). IsQueue (cut_back n b full)) (sym waiting_is) (sym bound_is)
    (like_queue q (cut_back (length q.packets) q.bound full) like (stands_queue q may.whole may.stands))

pub left_same : (q full r : Waiting Plain) (waiting bound : ℕ) → waiting ≡ length q.packets → bound ≡ q.bound → IsLike (cut_back (length q.packets) q.bound full) q → IsLike r (cut_back waiting bound full)
    → backlog_of r ≡ backlog_of q
left_same q full r waiting bound waiting_is bound_is left like =
    same_backlog (backlog_of r) (backlog_of q) (like.gone ∙ left.gone) (like.packets ∙ ap (λ (n : ℕ). take n full.packets) waiting_is ∙ left.packets) (like.bound ∙ bound_is)

-- a queue that was lengthened, without the packets that came last
back_again : (b : Backlog Plain) (q : Waiting Plain) (more : StreamPrefix Plain) (bound : ℕ) → backlog_of q ≡ lengthened b more → b.bound ≡ bound → backlog_of (cut_back (length q.packets - length more.packets) bound q) ≡ b
back_again b q more bound is bound_was =
    let packets : q.packets ≡ b.packets ++ more.packets = ap (λ (c : Backlog Plain). c.packets) is in
    same_backlog (backlog_of (cut_back (length q.packets - length more.packets) bound q)) b
    (ap (λ (c : Backlog Plain). c.gone) is)
    (ap (λ (ps : List (Stamped Plain)). take (length q.packets - length more.packets) ps) packets
    ∙ take_at b.packets more.packets (length q.packets - length more.packets) (omega (arith, ap length packets, length-append b.packets more.packets)))
    (sym bound_was)

-- it stands for the longer prefix
longer_stands : (b : Backlog Plain) (s more : StreamPrefix Plain) → StandsFor (queue_of 0 b) s → IsPrefix (joined s more) → StandsFor (queue_of 0 (lengthened b more)) (joined s more)
longer_stands b s more h is =
    let gone = h.gone in
    record {
      prefix = is;
      gone = omega (arith, gone, length-append s.packets more.packets);
      waiting = ap (λ (ps : List (Stamped Plain)). ps ++ more.packets) h.waiting ∙ sym (drop-append-le b.gone s.packets more.packets gone);
      bound = ap (λ (n : ℕ). max n more.bound) h.bound;
    }

one_longer : (outputs : List (Backlog Plain)) (s more : StreamPrefix Plain) → StandForAll outputs (s ∷ []) → IsPrefix (joined s more) → StandForAll (map (λ b. lengthened b more) outputs) (joined s more ∷ [])
one_longer [] s more stand is = absurd stand
one_longer (b ∷ []) s more stand is = (longer_stands b s more stand.0 is, tt)
one_longer (b ∷ c ∷ outputs) s more stand is = absurd stand.1

pub extended_lawful : {laws : Laws} (job later : LoggedJob laws) (input : ℕ) (streams longer : List (StreamPrefix Plain)) (engine : EngineView) (more : StreamPrefix Plain) → LawfulEngine job (of_input input) engine → Solves job streams → Solves later longer
    → input < length later.job.plan.inputs → get_or longer input empty_prefix ≡ joined (get_or streams input empty_prefix) more → LawfulEngine later (of_input input) (extended engine more)
unfolding LawfulEngine
extended_lawful {laws} job later input streams longer engine more h solves further there is =
    let same : h.streams ≡ streams = one_solution job.job h.streams streams h.solves.solution solves.solution in
    let stand : StandForAll engine.outputs (get_or streams input empty_prefix ∷ []) = subst (λ (ss : List (StreamPrefix Plain)). StandForAll engine.outputs (get_or ss input empty_prefix ∷ [])) same h.kept in
    let whole : IsPrefix (get_or longer input empty_prefix) = stream_is_prefix longer input (solution_keeps later.job (job_known later.job further.is_job) longer further.solution) in
    record {
      streams = longer;
      solves = further;
      there = there;
      role = h.role;
      number_is = h.number_is;
      first = h.first;
      kept = subst (λ (s : StreamPrefix Plain). StandForAll (map (λ b. lengthened b more) engine.outputs) (s ∷ [])) (sym is)
          (one_longer engine.outputs (get_or streams input empty_prefix) more stand (subst IsPrefix is whole));
      laid = h.laid;
      claimed = h.claimed;
      window = h.window;
      idle = h.idle;
      fault = h.fault;
    }

-- an engine that is extended by nothing is as it was
nothing_behind : (outputs : List (Backlog Plain)) (s : StreamPrefix Plain) → StandForAll outputs (s ∷ []) → map (λ b. lengthened b empty_prefix) outputs ≡ outputs
nothing_behind [] s stand = refl
nothing_behind (b ∷ []) s stand =
    let opened = stand.0.prefix.opened in
    let bound = stand.0.bound in
    ap (λ (c : Backlog Plain). c ∷ []) (same_backlog (lengthened b empty_prefix) b refl (append-nil b.packets) (omega (arith, opened, bound)))
nothing_behind (b ∷ c ∷ outputs) s stand = absurd stand.1

pub extended_by_nothing : {laws : Laws} (job : LoggedJob laws) (input : ℕ) (engine : EngineView) → LawfulEngine job (of_input input) engine → extended engine empty_prefix ≡ engine
unfolding LawfulEngine
extended_by_nothing {laws} job input engine h = ap (with_outputs engine) (nothing_behind engine.outputs (get_or h.streams input empty_prefix) h.kept)

-- the code's steps

pub some_output : {laws : Laws} (engine : EngineView) (more : StreamPrefix Plain) (qs : List (Waiting Plain)) → map backlog_of qs ≡ engine.outputs → MayExtend laws engine more → 0 < length qs
some_output {laws} engine more [] is may = absurd (let one = (input_known may.job may.input engine may.lawful).one in let none = ap length is in omega (arith, one, none))
some_output {laws} engine more (q ∷ qs) is may = omega arith

-- what the code makes
pub made_longer : {laws : Laws} (engine : EngineView) (more : StreamPrefix Plain) (items : List (Waiting Plain)) (b q : Waiting Plain) → MayExtend laws engine more → map backlog_of items ≡ engine.outputs → b ≡ get_or items 0 b
    → backlog_of q ≡ lengthened (backlog_of b) more → with_outputs engine (map backlog_of (set items 0 q)) ≡ extended engine more
made_longer {laws} engine more [] b q may is first longer = absurd (let one = (input_known may.job may.input engine may.lawful).one in let none = ap length is in omega (arith, one, none))
made_longer {laws} engine more (p ∷ []) b q may is first longer =
    ap (with_outputs engine) (ap (λ (c : Backlog Plain). c ∷ []) (longer ∙ ap (λ (w : Waiting Plain). lengthened (backlog_of w) more) first) ∙ ap (map (λ c. lengthened c more)) is)
made_longer {laws} engine more (p ∷ r ∷ items) b q may is first longer = absurd (let one = (input_known may.job may.input engine may.lawful).one in let two = ap length is in omega (arith, one, two))

pub made_same : (engine : EngineView) (items : List (Waiting Plain)) (b q : Waiting Plain) → map backlog_of items ≡ engine.outputs → b ≡ get_or items 0 b → backlog_of q ≡ backlog_of b
    → with_outputs engine (map backlog_of (set items 0 q)) ≡ engine
made_same engine [] b q is first same = ap (with_outputs engine) is
made_same engine (p ∷ items) b q is first same = ap (with_outputs engine) (ap (λ (c : Backlog Plain). c ∷ map backlog_of items) (same ∙ ap backlog_of first) ∙ is)

pub may_lengthen : {laws : Laws} (engine : EngineView) (more : StreamPrefix Plain) (qs : List (Waiting Plain)) (b : Waiting Plain) → MayExtend laws engine more → map backlog_of qs ≡ engine.outputs → b ≡ get_or qs 0 b → MayLengthen b more
may_lengthen {laws} engine more [] b may is first = absurd (let one = (input_known may.job may.input engine may.lawful).one in let none = ap length is in omega (arith, one, none))
may_lengthen {laws} engine more (q ∷ qs) b may is first =
    let o = may.output in
    let stands : StandsFor (queue_of 0 (backlog_of q)) o.whole = subst (λ (bs : List (Backlog Plain)). StandsFor (queue_of 0 (get_or bs 0 empty_backlog)) o.whole) (sym is) o.stands in
    subst (λ (w : Waiting Plain). MayLengthen w more) (sym first)
    (record { whole = o.whole; stands = record { prefix = stands.prefix; gone = stands.gone; waiting = stands.waiting; bound = stands.bound }; is_prefix = o.is_prefix })

pub at_err : {A E : Type 0} (r : Result A E) (P : Type 0) → P → OnErr r P
at_err (Ok a) P p = tt
at_err (Err e) P p = p

-- and what it makes again of an engine that was extended

-- it has one output, which was lengthened
record WasLonger (more : StreamPrefix Plain) (bound : ℕ) (before : EngineView) (items : List (Waiting Plain)) : Type 0 where
  q : Waiting Plain
  b : Backlog Plain
  items_are : items ≡ q ∷ []
  outputs_were : before.outputs ≡ b ∷ []
  longer : backlog_of q ≡ lengthened b more
  bound_was : b.bound ≡ bound
  whole : StreamPrefix Plain
  stood : StandsFor (queue_of 0 b) whole

was_longer : {laws : Laws} (more : StreamPrefix Plain) (bound : ℕ) (before now : EngineView) (items : List (Waiting Plain)) → WasExtended laws more bound before now → map backlog_of items ≡ now.outputs → WasLonger more bound before items
was_longer {laws} more bound before now items was is =
    by_lists before.outputs items refl (is ∙ ap (λ (v : EngineView). v.outputs) was.is) was.may.output.stands
  where
    by_lists : (bs : List (Backlog Plain)) (qs : List (Waiting Plain)) → before.outputs ≡ bs → map backlog_of qs ≡ map (λ c. lengthened c more) before.outputs → StandsFor (laid_at before 0) was.may.output.whole
        → WasLonger more bound before qs
    by_lists [] qs bs_are qs_are stood = absurd (let one = (input_known was.may.job was.may.input before was.may.lawful).one in let none = ap length bs_are in omega (arith, one, none))
    by_lists (b ∷ c ∷ bs) qs bs_are qs_are stood = absurd (let one = (input_known was.may.job was.may.input before was.may.lawful).one in let two = ap length bs_are in omega (arith, one, two))
    by_lists (b ∷ []) [] bs_are qs_are stood = absurd (let none : 0 ≡ 1 = ap length (qs_are ∙ ap (map (λ c. lengthened c more)) bs_are) in omega (arith, none))
    by_lists (b ∷ []) (q ∷ p ∷ qs) bs_are qs_are stood = absurd (let two = ap length (qs_are ∙ ap (map (λ c. lengthened c more)) bs_are) in omega (arith, two))
    by_lists (b ∷ []) (q ∷ []) bs_are qs_are stood = record {
      q = q;
      b = b;
      items_are = refl;
      outputs_were = bs_are;
      longer = ap (λ (cs : List (Backlog Plain)). get_or cs 0 (backlog_of q)) (qs_are ∙ ap (map (λ c. lengthened c more)) bs_are);
      bound_was = ap (λ (cs : List (Backlog Plain)). (get_or cs 0 empty_backlog).bound) (sym bs_are) ∙ was.bound_was;
      whole = was.may.output.whole;
      stood = subst (λ (cs : List (Backlog Plain)). StandsFor (queue_of 0 (get_or cs 0 empty_backlog)) was.may.output.whole) bs_are stood;
    }

pub has_output : {laws : Laws} (more : StreamPrefix Plain) (bound : ℕ) (now : EngineView) (items : List (Waiting Plain)) → SomeExtended laws more bound now → map backlog_of items ≡ now.outputs → 0 < length items
has_output {laws} more bound now items h is = (let w = was_longer more bound h.before now items h.was is in let one = ap length w.items_are in omega (arith, one))

pub has_more : {laws : Laws} (more : StreamPrefix Plain) (bound : ℕ) (now : EngineView) (items : List (Waiting Plain)) (q : Waiting Plain) → SomeExtended laws more bound now → map backlog_of items ≡ now.outputs → q ≡ get_or items 0 q
    → length more.packets ≤ length q.packets
has_more {laws} more bound now items q h is first =
    let w = was_longer more bound h.before now items h.was is in
    let same : q ≡ w.q = first ∙ ap (λ (qs : List (Waiting Plain)). get_or qs 0 q) w.items_are in
    let long = ap (λ (r : Waiting Plain). length r.packets) same in
    let longer = ap (λ (c : Backlog Plain). length c.packets) w.longer in
    omega (arith, long, longer, length-append w.b.packets more.packets)

pub is_left : {laws : Laws} (more : StreamPrefix Plain) (bound : ℕ) (now : EngineView) (items : List (Waiting Plain)) (q : Waiting Plain) → SomeExtended laws more bound now → map backlog_of items ≡ now.outputs → q ≡ get_or items 0 q
    → IsQueue (cut_back (length q.packets - length more.packets) bound q)
is_left {laws} more bound now items q h is first =
    let w = was_longer more bound h.before now items h.was is in
    let same : q ≡ w.q = first ∙ ap (λ (qs : List (Waiting Plain)). get_or qs 0 q) w.items_are in
    let again : backlog_of (cut_back (length q.packets - length more.packets) bound q) ≡ w.b = back_again w.b q more bound (ap backlog_of same ∙ w.longer) w.bound_was in
    like_queue (queue_of 0 w.b) (cut_back (length q.packets - length more.packets) bound q)
    (record { gone = ap (λ (c : Backlog Plain). c.gone) again; packets = ap (λ (c : Backlog Plain). c.packets) again; bound = ap (λ (c : Backlog Plain). c.bound) again })
    (stands_queue (queue_of 0 w.b) w.whole w.stood)

pub made_again : {laws : Laws} (more : StreamPrefix Plain) (bound : ℕ) (before now : EngineView) (items : List (Waiting Plain)) (q r : Waiting Plain) → WasExtended laws more bound before now → map backlog_of items ≡ now.outputs → q ≡ get_or items 0 q
    → IsLike r (cut_back (length q.packets - length more.packets) bound q) → with_outputs now (map backlog_of (set items 0 r)) ≡ before
made_again {laws} more bound before now items q r was is first like =
    let w = was_longer more bound before now items was is in
    let same : q ≡ w.q = first ∙ ap (λ (qs : List (Waiting Plain)). get_or qs 0 q) w.items_are in
    let again : backlog_of (cut_back (length q.packets - length more.packets) bound q) ≡ w.b = back_again w.b q more bound (ap backlog_of same ∙ w.longer) w.bound_was in
    let taken : backlog_of r ≡ w.b = same_backlog (backlog_of r) (backlog_of (cut_back (length q.packets - length more.packets) bound q)) like.gone like.packets like.bound ∙ again in
    let outputs : map backlog_of (set items 0 r) ≡ before.outputs =
    ap (λ (qs : List (Waiting Plain)). map backlog_of (set qs 0 r)) w.items_are ∙ ap (λ (c : Backlog Plain). c ∷ []) taken ∙ sym w.outputs_were in
    ap (λ (v : EngineView). with_outputs v (map backlog_of (set items 0 r))) was.is ∙ ap (with_outputs before) outputs
