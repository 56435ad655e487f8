-- What a step at one port makes of a pool, in the words of contracts.
use Rattle.std.proofs.Common.{◌≡◌, ℕ, zero, suc, ◌+◌, ◌-◌, ◌<◌, ◌≤◌, max, List, [], ◌∷◌, ◌++◌, length, map, get_or, drop, replicate, Option, Some, None, option_map, inl, inr, subst, ap, ap₂, sym, refl, ◌∙◌, arith, slice_get}
use Rattle.std.proofs.lemmas.Bool.{cases_lt}
use Rattle.std.proofs.lemmas.List.{get_or_default, get_or_past, length-map}
use Rattle.std.specs.Vec.{with_item}
use Rattle.slab.specs.Slab.{slab_len}
use Rattle.mg_time.specs.Time.{done, next}
use Rattle.mg_value.specs.Payload.{Plain}
use Rattle.mg_value.specs.Packet.{Stamped}
use Rattle.mg_settled.specs.Prefix.{IsPrefix}
use Rattle.mg_settled.proofs.PrefixSteps.{empty_is_prefix}
use Rattle.mg_stream.specs.Queue.{Waiting, IsQueue, MayCome, rest_of, raised_to, with_packet, popped}
use Rattle.mg_stream.specs.Pool.{Backlog, Pooled, empty_backlog, queue_of, queue_at, with_queue}
use Rattle.mg_stream.specs.PoolView.{pool_view, IsPool}
use Rattle.mg_stream.specs.Code.Chain.{entry_at, linked, packets_of, entries_of, backlog_in, empty_chain, chain_at, IsWhole}
use Rattle.mg_stream.specs.declared.chain.Chain.{Chain}
use Rattle.mg_stream.specs.declared.chain.Entry.{Entry}
use Rattle.mg_stream.specs.declared.pool.Pool.TheInside.{Inside}
use Rattle.mg_stream.proofs.QueueSteps.{raised_queue, closed_queue}
use Rattle.mg_stream.proofs.Linked.{packets_of-push, begins}
use Rattle.mg_stream.proofs.Laid.{Changes, laid-changed, ports-changed, backlog-at, pop_changes, push_changes, bound_changes}

-- there is a chain for each port
pub port_there : (p : Inside) (v : Pooled Plain) (port : ℕ) → pool_view p ≡ v → port < length v.ports → port < length p.chains.items
port_there p v port is there = (let same = ap (λ (w : Pooled Plain). length w.ports) is in omega (arith, same, there, length-map p.chains.items (backlog_in p.entries.slots)))

-- the chain that was read
pub chain_read : (chains : List Chain) (port : ℕ) (c : Chain) → port < length chains → c ≡ get_or chains port c → c ≡ chain_at chains port
chain_read chains port c there is = is ∙ get_or_default chains port c empty_chain there

pub queue_at-view : (p : Inside) (port : ℕ) → port < length p.chains.items → queue_at (pool_view p) port ≡ queue_of (pool_view p).spare (backlog_in p.entries.slots (chain_at p.chains.items port))
queue_at-view p port there = ap (λ (b : Backlog Plain). queue_of (pool_view p).spare b) (backlog-at p.entries.slots p.chains.items port there)

pub whole_at : (p : Inside) (port : ℕ) (c : Chain) → IsPool p → c ≡ chain_at p.chains.items port → IsWhole p.entries.slots c
whole_at p port c pool is = subst (λ (d : Chain). IsWhole p.entries.slots d) (sym is) (pool.laid.each port)

-- a pool in which one chain is another
pub step_view : (p now : Inside) (port : ℕ) (c : Chain) → now.chains ≡ with_item p.chains port c → Changes p.entries.slots now.entries.slots p.chains.items port c
    → pool_view now ≡ with_queue (pool_view p) port (queue_of (pool_view now).spare (backlog_in now.entries.slots c))
step_view p now port c is step =
    ap (λ (ports : List (Backlog Plain)). (let v : Pooled Plain = record { ports = ports; spare = (pool_view now).spare } in v))
    (ap (λ (v : _). map (backlog_in now.entries.slots) v.items) is ∙ ports-changed p.entries.slots now.entries.slots p.chains.items port c step)

pub step_pool : (p now : Inside) (port : ℕ) (c : Chain) → IsPool p → now.chains ≡ with_item p.chains port c → Changes p.entries.slots now.entries.slots p.chains.items port c
    → slab_len now.entries ≤ now.room → now.room ≤ now.entries.capacity → IsPool now
step_pool p now port c pool is step held room = record {
  laid = rw is (laid-changed p.entries.slots now.entries.slots p.chains.items port c pool.laid step);
  few = rw is pool.few;
  held = held;
  room = room;
}

-- a bound moves
abbrev bounded : Inside → ℕ → ℕ → Chain → Inside
bounded p port b c = record { entries = p.entries; chains = with_item p.chains port (record c { bound = b }); room = p.room }

pub bound_step : (p : Inside) (port b : ℕ) (c : Chain) → IsPool p → port < length p.chains.items → c ≡ chain_at p.chains.items port
    → IsQueue (record (queue_of 0 (backlog_in p.entries.slots (chain_at p.chains.items port))) { bound = b })
    → IsPool (bounded p port b c) × (pool_view (bounded p port b c) ≡ with_queue (pool_view p) port (record (queue_at (pool_view p) port) { bound = b }))
bound_step p port b c pool there read queue = subst (λ (d : Chain). IsPool (bounded p port b d) × (pool_view (bounded p port b d) ≡ with_queue (pool_view p) port (record (queue_at (pool_view p) port) { bound = b }))) (sym read) (
  step_pool p now port moved pool refl step pool.held pool.room,
  step_view p now port moved refl step ∙ ap (λ (q : Waiting Plain). with_queue (pool_view p) port (let r : Waiting Plain = record q { bound = b } in r)) (sym (queue_at-view p port there)),
)
  where
    moved : Chain
    moved = record (chain_at p.chains.items port) { bound = b }

    now : Inside
    now = record { entries = p.entries; chains = with_item p.chains port (record (chain_at p.chains.items port) { bound = b }); room = p.room }

    step : Changes p.entries.slots p.entries.slots p.chains.items port (record (chain_at p.chains.items port) { bound = b })
    step = bound_changes p.entries.slots p.chains.items port b pool.laid there queue

-- what holds of a chain's queue, after a raise and a close
pub raised_at : (p : Inside) (port b : ℕ) → IsPool p → b ≤ done → IsQueue (raised_to (queue_of 0 (backlog_in p.entries.slots (chain_at p.chains.items port))) b)
raised_at p port b pool le = raised_queue (queue_of 0 (backlog_in p.entries.slots (chain_at p.chains.items port))) b le (pool.laid.each port).queue

pub closed_at : (p : Inside) (port : ℕ) → IsPool p → IsQueue (record (queue_of 0 (backlog_in p.entries.slots (chain_at p.chains.items port))) { bound = done })
closed_at p port pool = closed_queue (queue_of 0 (backlog_in p.entries.slots (chain_at p.chains.items port))) (pool.laid.each port).queue

-- The first packet goes --

-- what taking the first entry out of a chain leaves
pub record Pops (p now : Inside) (old c : Chain) (packet : Stamped Plain) : Type 0 where
  pub waits : 0 < old.waiting
  pub entries : entries_of p.entries.slots old ≡ (old.first, packet) ∷ entries_of now.entries.slots c
  pub chain : c ≡ record old { first = c.first; waiting = old.waiting - 1; gone = old.gone + 1 }
  pub others : (key : ℕ) → (key ≡ old.first → ⊥) → entry_at now.entries.slots key ≡ entry_at p.entries.slots key
  pub len : slab_len now.entries + 1 ≡ slab_len p.entries
  pub capacity : now.entries.capacity ≡ p.entries.capacity
  pub room : now.room ≡ p.room

pub pop_step : (p now : Inside) (port : ℕ) (old c : Chain) (packet : Stamped Plain) → IsPool p → port < length p.chains.items → old ≡ chain_at p.chains.items port
    → now.chains ≡ with_item p.chains port c → Pops p now old c packet
    → IsPool now × (pool_view now ≡ with_queue (pool_view p) port (popped (queue_at (pool_view p) port)))
    × (slice_get (queue_at (pool_view p) port).packets 0 ≡ Some packet)
pop_step p now port old c packet pool there read is pops = (
  step_pool p now port c pool is step (let held = pool.held in let len = h.len in let room = h.room in omega (arith, held, len, room)) (let room = pool.room in let same = h.room in let capacity = h.capacity in omega (arith, room, same, capacity)),
  step_view p now port c is step ∙ ap (λ (q : Waiting Plain). with_queue (pool_view p) port q) (seen ∙ sym (ap popped (queue_at-view p port there))),
  ap (λ (q : Waiting Plain). slice_get q.packets 0) (queue_at-view p port there) ∙ ap (λ (es : List (ℕ × Stamped Plain)). slice_get (packets_of es) 0) h.entries,
)
  where
    h : Pops p now (chain_at p.chains.items port) c packet
    h = subst (λ (d : Chain). Pops p now d c packet) read pops

    step : Changes p.entries.slots now.entries.slots p.chains.items port c
    step = pop_changes p.entries.slots now.entries.slots p.chains.items port c packet pool.laid there h.waits h.entries h.chain h.others

    seen : queue_of (pool_view now).spare (backlog_in now.entries.slots c) ≡ popped (queue_of (pool_view p).spare (backlog_in p.entries.slots (chain_at p.chains.items port)))
    seen =
        let gone = ap (λ (d : Chain). d.gone) h.chain in
        let bound = ap (λ (d : Chain). d.bound) h.chain in
        let packets = ap (λ (es : List (ℕ × Stamped Plain)). drop 1 (packets_of es)) (sym h.entries) in
        let spare : now.room - slab_len now.entries ≡ p.room - slab_len p.entries + 1 = (let held = pool.held in let len = h.len in let room = h.room in omega (arith, held, len, room)) in
        ap (λ (n : ℕ). (let q : Waiting Plain = record { gone = n; packets = packets_of (entries_of now.entries.slots c); bound = c.bound; spare = now.room - slab_len now.entries } in q)) gone
        ∙ ap (λ (b : ℕ). (let q : Waiting Plain = record { gone = (chain_at p.chains.items port).gone + 1; packets = packets_of (entries_of now.entries.slots c); bound = b; spare = now.room - slab_len now.entries } in q)) bound
        ∙ ap₂ (λ (ps : List (Stamped Plain)) (n : ℕ). (let q : Waiting Plain = record { gone = (chain_at p.chains.items port).gone + 1; packets = ps; bound = (chain_at p.chains.items port).bound; spare = n } in q)) packets spare

-- A packet comes --

-- what is left when an entry is put after the end of a chain
pub record Pushes (p now : Inside) (old c : Chain) (packet : Stamped Plain) (key : ℕ) : Type 0 where
  pub entries : entries_of now.entries.slots c ≡ entries_of p.entries.slots old ++ (key, packet) ∷ []
  pub chain : c ≡ record old { first = c.first; last = key; waiting = old.waiting + 1; bound = next packet.at }
  pub vacant : entry_at p.entries.slots key ≡ None
  pub others : (k : ℕ) → (k ≡ key → ⊥) → (0 < old.waiting → k ≡ old.last → ⊥) → entry_at now.entries.slots k ≡ entry_at p.entries.slots k
  pub len : slab_len now.entries ≡ slab_len p.entries + 1
  pub capacity : now.entries.capacity ≡ p.entries.capacity
  pub room : now.room ≡ p.room

may_come-like : (q r : Waiting Plain) (t : ℕ) → q.gone ≡ r.gone → q.packets ≡ r.packets → q.bound ≡ r.bound → MayCome q t → MayCome r t
may_come-like q r t gone packets bound may = record {
  allowed = may.allowed;
  above = (let above = may.above in omega (arith, above, bound));
  alone = λ e. (let none = may.alone e in omega (arith, none, gone, ap length packets));
}

pub push_step : (p now : Inside) (port key : ℕ) (old c : Chain) (packet : Stamped Plain) → IsPool p → port < length p.chains.items → old ≡ chain_at p.chains.items port
    → now.chains ≡ with_item p.chains port c → MayCome (queue_at (pool_view p) port) packet.at → 0 < (pool_view p).spare → Pushes p now old c packet key
    → IsPool now × (pool_view now ≡ with_queue (pool_view p) port (record (with_packet (queue_at (pool_view p) port) packet) { spare = (pool_view p).spare - 1 }))
push_step p now port key old c packet pool there read is may some pushes = (
  step_pool p now port c pool is step (let len = h.len in let room = h.room in omega (arith, some, len, room)) (let room = pool.room in let same = h.room in let capacity = h.capacity in omega (arith, room, same, capacity)),
  step_view p now port c is step ∙ ap (λ (q : Waiting Plain). with_queue (pool_view p) port q)
      (seen ∙ sym (ap (λ (q : Waiting Plain). (let r : Waiting Plain = record (with_packet q packet) { spare = (pool_view p).spare - 1 } in r)) (queue_at-view p port there))),
)
  where
    h : Pushes p now (chain_at p.chains.items port) c packet key
    h = subst (λ (d : Chain). Pushes p now d c packet key) read pushes

    may_here : MayCome (queue_of 0 (backlog_in p.entries.slots (chain_at p.chains.items port))) packet.at
    may_here =
        let same = queue_at-view p port there in
        may_come-like (queue_at (pool_view p) port) (queue_of 0 (backlog_in p.entries.slots (chain_at p.chains.items port))) packet.at
        (ap (λ (q : Waiting Plain). q.gone) same) (ap (λ (q : Waiting Plain). q.packets) same) (ap (λ (q : Waiting Plain). q.bound) same) may

    step : Changes p.entries.slots now.entries.slots p.chains.items port c
    step = push_changes p.entries.slots now.entries.slots p.chains.items port key c packet pool.laid there may_here h.entries h.chain h.vacant h.others

    seen : queue_of (pool_view now).spare (backlog_in now.entries.slots c)
        ≡ record (with_packet (queue_of (pool_view p).spare (backlog_in p.entries.slots (chain_at p.chains.items port))) packet) { spare = (pool_view p).spare - 1 }
    seen =
        let gone = ap (λ (d : Chain). d.gone) h.chain in
        let bound = ap (λ (d : Chain). d.bound) h.chain in
        let packets = ap packets_of h.entries ∙ packets_of-push key packet (entries_of p.entries.slots (chain_at p.chains.items port)) in
        let spare : now.room - slab_len now.entries ≡ p.room - slab_len p.entries - 1 = (let len = h.len in let room = h.room in omega (arith, len, room)) in
        ap (λ (n : ℕ). (let q : Waiting Plain = record { gone = n; packets = packets_of (entries_of now.entries.slots c); bound = c.bound; spare = now.room - slab_len now.entries } in q)) gone
        ∙ ap (λ (b : ℕ). (let q : Waiting Plain = record { gone = (chain_at p.chains.items port).gone; packets = packets_of (entries_of now.entries.slots c); bound = b; spare = now.room - slab_len now.entries } in q)) bound
        ∙ ap₂ (λ (ps : List (Stamped Plain)) (n : ℕ). (let q : Waiting Plain = record { gone = (chain_at p.chains.items port).gone; packets = ps; bound = next packet.at; spare = n } in q)) packets spare

-- Answers of a pool, in the words of contracts --

pub raised_step : (p : Inside) (v : Pooled Plain) (port b m : ℕ) (c : Chain) → pool_view p ≡ v → IsPool p → port < length v.ports → c ≡ get_or p.chains.items port c → b ≤ done → m ≡ max c.bound b
    → IsPool (bounded p port m c) × (pool_view (bounded p port m c) ≡ with_queue v port (raised_to (queue_at v port) b))
raised_step p v port b m c seen pool in_v read le top =
    let there : port < length p.chains.items = port_there p v port seen in_v in
    let is : c ≡ chain_at p.chains.items port = chain_read p.chains.items port c there read in
    let bound : m ≡ max (chain_at p.chains.items port).bound b = top ∙ ap (λ (d : Chain). max d.bound b) is in
    let old : m ≡ max (queue_at (pool_view p) port).bound b = bound ∙ ap (λ (q : Waiting Plain). max q.bound b) (sym (queue_at-view p port there)) in
    let queue = subst (λ (n : ℕ). IsQueue (let q : Waiting Plain = record (queue_of 0 (backlog_in p.entries.slots (chain_at p.chains.items port))) { bound = n } in q)) (sym bound) (raised_at p port b pool le) in
    let step = bound_step p port m c pool there is queue in (
      step.0,
      step.1
          ∙ ap (λ (n : ℕ). with_queue (pool_view p) port (let q : Waiting Plain = record (queue_at (pool_view p) port) { bound = n } in q)) old
          ∙ ap (λ (w : Pooled Plain). with_queue w port (raised_to (queue_at w port) b)) seen,
    )

pub closed_step : (p : Inside) (v : Pooled Plain) (port : ℕ) (c : Chain) → pool_view p ≡ v → IsPool p → port < length v.ports → c ≡ get_or p.chains.items port c
    → IsPool (bounded p port done c) × (pool_view (bounded p port done c) ≡ with_queue v port (record (queue_at v port) { bound = done }))
closed_step p v port c seen pool in_v read =
    let there : port < length p.chains.items = port_there p v port seen in_v in
    let step = bound_step p port done c pool there (chain_read p.chains.items port c there read) (closed_at p port pool) in
    (step.0, step.1 ∙ ap (λ (w : Pooled Plain). with_queue w port (let q : Waiting Plain = record (queue_at w port) { bound = done } in q)) seen)

-- what a chain that was read says of the queue at its port
pub queue_read : (p : Inside) (v : Pooled Plain) (port : ℕ) (c : Chain) → pool_view p ≡ v → port < length v.ports → c ≡ get_or p.chains.items port c
    → queue_at v port ≡ queue_of v.spare (backlog_in p.entries.slots c)
queue_read p v port c seen in_v read =
    let there : port < length p.chains.items = port_there p v port seen in_v in
    subst (λ (w : Pooled Plain). queue_at w port ≡ queue_of w.spare (backlog_in p.entries.slots c)) seen
    (queue_at-view p port there ∙ ap (λ (d : Chain). queue_of (pool_view p).spare (backlog_in p.entries.slots d)) (sym (chain_read p.chains.items port c there read)))

pub whole_read : (p : Inside) (v : Pooled Plain) (port : ℕ) (c : Chain) → pool_view p ≡ v → IsPool p → port < length v.ports → c ≡ get_or p.chains.items port c → IsWhole p.entries.slots c
whole_read p v port c seen pool in_v read = whole_at p port c pool (chain_read p.chains.items port c (port_there p v port seen in_v) read)

pub front_none : (p : Inside) (v : Pooled Plain) (port : ℕ) (c : Chain) → pool_view p ≡ v → port < length v.ports → c ≡ get_or p.chains.items port c → c.waiting ≡ 0
    → slice_get (queue_at v port).packets 0 ≡ None
front_none p v port c seen in_v read none =
    ap (λ (q : Waiting Plain). slice_get q.packets 0) (queue_read p v port c seen in_v read)
    ∙ ap (λ (n : ℕ). slice_get (packets_of (linked p.entries.slots n c.first)) 0) none

pub front_some : (p : Inside) (v : Pooled Plain) (port : ℕ) (c : Chain) (e : Entry) → pool_view p ≡ v → IsPool p → port < length v.ports → c ≡ get_or p.chains.items port c → 0 < c.waiting
    → entry_at p.entries.slots c.first ≡ Some e → slice_get (queue_at v port).packets 0 ≡ Some e.packet
front_some p v port c e seen pool in_v read waits is =
    let first = begins p.entries.slots c (whole_read p v port c seen pool in_v read) waits in
    ap (λ (q : Waiting Plain). slice_get q.packets 0) (queue_read p v port c seen in_v read)
    ∙ ap (λ (es : List (ℕ × Stamped Plain)). slice_get (packets_of es) 0) first.list
    ∙ ap (option_map (λ (f : Entry). f.packet)) (sym first.there ∙ is)

pub rest_read : (p : Inside) (v : Pooled Plain) (port : ℕ) (c : Chain) → pool_view p ≡ v → IsPool p → port < length v.ports → c ≡ get_or p.chains.items port c → IsPrefix (rest_of (queue_at v port))
rest_read p v port c seen pool in_v read =
    subst (λ (q : Waiting Plain). IsPrefix (rest_of q)) (sym (queue_read p v port c seen in_v read)) (whole_read p v port c seen pool in_v read).queue.rest

-- A new pool --

pub view_none : (n : ℕ) → map (backlog_in []) (replicate n empty_chain) ≡ replicate n empty_backlog
view_none zero = refl
view_none (suc n) = ap (λ (bs : List (Backlog Plain)). empty_backlog ∷ bs) (view_none n)

-- a chain's numbers are small: no more packets come than there are times
pub waiting_few : (slots : List (Option Entry)) (c : Chain) → IsWhole slots c → c.gone + c.waiting + 2 ≤ done
waiting_few slots c whole =
    let counted = whole.queue.counted in
    let most = whole.queue.rest.within in
    let full = whole.full in
    let long : length (packets_of (entries_of slots c)) ≡ length (entries_of slots c) = length-map (entries_of slots c) (λ e. e.1) in
    omega (arith, counted, most, full, long)

-- if a packet waits at a port, its chain isn't empty
pub chain_waits : (p : Inside) (v : Pooled Plain) (port : ℕ) (c : Chain) → pool_view p ≡ v → IsPool p → port < length v.ports → c ≡ get_or p.chains.items port c
    → 0 < length (queue_at v port).packets → 0 < c.waiting
chain_waits p v port c seen pool in_v read some =
    let long : length (queue_at v port).packets ≡ length (packets_of (entries_of p.entries.slots c)) = ap (λ (q : Waiting Plain). length q.packets) (queue_read p v port c seen in_v read) in
    let as_many : length (packets_of (entries_of p.entries.slots c)) ≡ length (entries_of p.entries.slots c) = length-map (entries_of p.entries.slots c) (λ e. e.1) in
    let full = (whole_read p v port c seen pool in_v read).full in
    omega (arith, some, long, as_many, full)

pub view_new : (p : Inside) (n : ℕ) → p.entries.slots ≡ [] → p.chains.items ≡ replicate n empty_chain → p.room ≡ 0 → pool_view p ≡ record { ports = replicate n empty_backlog; spare = 0 }
view_new p n none chains room =
    let spare : p.room - slab_len p.entries ≡ 0 = omega (arith, room) in
    ap₂ (λ (ports : List (Backlog Plain)) (m : ℕ). (let v : Pooled Plain = record { ports = ports; spare = m } in v))
    (ap₂ (λ (slots : List (Option Entry)) (cs : List Chain). map (backlog_in slots) cs) none chains ∙ view_none n) spare

-- what waits at a port is a prefix, also if there is no such port
pub rests_all : (p : Inside) (v : Pooled Plain) → pool_view p ≡ v → IsPool p → (port : ℕ) → IsPrefix (rest_of (queue_at v port))
rests_all p v seen pool port = subst (λ (w : Pooled Plain). IsPrefix (rest_of (queue_at w port))) seen (elim (cases_lt port (length p.chains.items)) [
  | inl there ↦ subst (λ (q : Waiting Plain). IsPrefix (rest_of q)) (sym (queue_at-view p port there)) (pool.laid.each port).queue.rest
  | inr past ↦
      (let none : get_or (map (backlog_in p.entries.slots) p.chains.items) port empty_backlog ≡ empty_backlog = get_or_past (map (backlog_in p.entries.slots) p.chains.items) port empty_backlog (let long = length-map p.chains.items (backlog_in p.entries.slots) in omega (arith, past, long)) in
      subst (λ (b : Backlog Plain). IsPrefix (rest_of (queue_of (pool_view p).spare b))) (sym none) empty_is_prefix)
])
