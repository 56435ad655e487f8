-- What a step of one chain leaves of all chains of a pool, and what contracts see of it.
use Rattle.std.proofs.Common.{◌≡◌, ◌≢◌, ℕ, zero, suc, ◌+◌, ◌-◌, ◌<◌, List, [], ◌∷◌, ◌++◌, length, map, set, get_or, get_or-set_same, get_or-set_other, length-append, Option, Some, None, inl, inr, ◌⊎◌, subst, ap, ap₂, sym, refl, ◌∙◌, arith}
use Rattle.std.proofs.lemmas.Bool.{cases_eq}
use Rattle.std.proofs.lemmas.List.{get_or-map}
use Rattle.std.proofs.lemmas.List.Elements.{All-from_recursion, All-tail, All-weaker}
use Rattle.mg_time.specs.Time.{post_stream, IsAllowed, next}
use Rattle.mg_value.specs.Payload.{Plain}
use Rattle.mg_value.specs.Packet.{Stamped}
use Rattle.mg_settled.specs.Prefix.{StreamPrefix, IsPrefix, StandsAlone}
use Rattle.mg_stream.specs.Queue.{Waiting, IsQueue, IsLike, StandsFor, MayCome}
use Rattle.mg_stream.specs.Pool.{Backlog, Pooled, empty_backlog, queue_of, backlog_of, queue_at, with_queue}
use Rattle.mg_stream.specs.Code.Chain.{entry_at, keys_of, packets_of, last_key, IsKey, entries_of, backlog_in, empty_chain, chain_at, IsWhole, AreLaid}
use Rattle.mg_stream.specs.declared.chain.Entry.{Entry}
use Rattle.mg_stream.specs.declared.chain.Chain.{Chain}
use Rattle.mg_stream.proofs.QueueSteps.{appended_fields}
use Rattle.mg_stream.proofs.Linked.{linked-same, key_of_chain, last_of_chain, last_key-push, IsKey-push_from, packets_of-push}

-- the entries change to others, and the chain of a port to another
pub record Changes (slots now : List (Option Entry)) (chains : List Chain) (port : ℕ) (c : Chain) : Type 0 where
  pub there : port < length chains
  pub others : (other : ℕ) → other ≢ port → entries_of now (chain_at chains other) ≡ entries_of slots (chain_at chains other)
  pub whole : IsWhole now c
  pub keys : (key : ℕ) → IsKey key (keys_of (entries_of now c)) → IsKey key (keys_of (entries_of slots (chain_at chains port))) ⊎ (entry_at slots key ≡ None)

whole-same : (slots now : List (Option Entry)) (c : Chain) → IsWhole slots c → entries_of now c ≡ entries_of slots c → IsWhole now c
whole-same slots now c whole same = record {
  full = ap length same ∙ whole.full;
  last = ap (last_key c.last) same ∙ whole.last;
  queue = subst (λ (es : List (ℕ × Stamped Plain)). IsQueue (queue_of 0 (let b : Backlog Plain = record { gone = c.gone; packets = packets_of es; bound = c.bound } in b))) (sym same) whole.queue;
}

pub laid-changed : (slots now : List (Option Entry)) (chains : List Chain) (port : ℕ) (c : Chain) → AreLaid slots chains → Changes slots now chains port c → AreLaid now (set chains port c)
laid-changed slots now chains port c laid step = record { each = each; apart = apart }
  where
    here : chain_at (set chains port c) port ≡ c
    here = get_or-set_same chains port c empty_chain step.there

    there : (other : ℕ) → other ≢ port → chain_at (set chains port c) other ≡ chain_at chains other
    there other differs = get_or-set_other chains port other c empty_chain differs

    each : (other : ℕ) → IsWhole now (chain_at (set chains port c) other)
    each other = elim (cases_eq other port) [
      | inl same ↦ subst (λ (d : Chain). IsWhole now d) (sym (ap (chain_at (set chains port c)) same ∙ here)) step.whole
      | inr differs ↦ subst (λ (d : Chain). IsWhole now d) (sym (there other differs)) (whole-same slots now (chain_at chains other) (laid.each other) (step.others other differs))
    ]

    -- a key of the port's chain stands in no other
    new_apart : (other key : ℕ) → other ≢ port → IsKey key (keys_of (entries_of now c)) → IsKey key (keys_of (entries_of slots (chain_at chains other))) → ⊥
    new_apart other key differs among also = elim (step.keys key among) [
      | inl old ↦ laid.apart port other key (λ same. differs (sym same)) old also
      | inr free ↦ (let e = key_of_chain slots (chain_at chains other) key (laid.each other) also in absurd (let clash : ◌≡◌ {A = Option Entry} (Some e.0) None = sym e.1 ∙ free in cc))
    ]

    old_key : (other key : ℕ) → other ≢ port → IsKey key (keys_of (entries_of now (chain_at (set chains port c) other))) → IsKey key (keys_of (entries_of slots (chain_at chains other)))
    old_key other key differs among =
        subst (λ (es : List (ℕ × Stamped Plain)). IsKey key (keys_of es)) (ap (entries_of now) (there other differs) ∙ step.others other differs) among

    new_key : (other key : ℕ) → other ≡ port → IsKey key (keys_of (entries_of now (chain_at (set chains port c) other))) → IsKey key (keys_of (entries_of now c))
    new_key other key same among = subst (λ (d : Chain). IsKey key (keys_of (entries_of now d))) (ap (chain_at (set chains port c)) same ∙ here) among

    apart : (one other key : ℕ) → one ≢ other → IsKey key (keys_of (entries_of now (chain_at (set chains port c) one)))
        → IsKey key (keys_of (entries_of now (chain_at (set chains port c) other))) → ⊥
    apart one other key differs among also = elim (cases_eq one port) [
      | inl same ↦ (let aside : other ≢ port = λ e. differs (same ∙ sym e) in new_apart other key aside (new_key one key same among) (old_key other key aside also))
      | inr aside ↦ elim (cases_eq other port) [
        | inl same ↦ new_apart one key aside (new_key other key same also) (old_key one key aside among)
        | inr far ↦ laid.apart one other key differs (old_key one key aside among) (old_key other key far also)
      ]
    ]

-- what contracts see of it
map_agree : {X Y : Type 0} (f g : X → Y) (d : X) (xs : List X) → ((j : ℕ) → f (get_or xs j d) ≡ g (get_or xs j d)) → map f xs ≡ map g xs
map_agree f g d [] same = refl
map_agree {X} {Y} f g d (x ∷ xs) same = ap₂ (λ (y : Y) (ys : List Y). y ∷ ys) (same 0) (map_agree f g d xs (λ j. same (suc j)))

map-set_agree : {X Y : Type 0} (f g : X → Y) (d : X) (xs : List X) (p : ℕ) (x : X) → p < length xs → ((j : ℕ) → j ≢ p → f (get_or xs j d) ≡ g (get_or xs j d)) → map f (set xs p x) ≡ set (map g xs) p (f x)
map-set_agree f g d [] p x there same = absurd (omega (arith, there))
map-set_agree {X} {Y} f g d (y ∷ ys) zero x there same = ap (λ (zs : List Y). f x ∷ zs) (map_agree f g d ys (λ j. same (suc j) (λ e. omega (arith, e))))
map-set_agree {X} {Y} f g d (y ∷ ys) (suc p) x there same =
    ap₂ (λ (z : Y) (zs : List Y). z ∷ zs) (same 0 (λ e. omega (arith, e))) (map-set_agree f g d ys p x (omega (arith, there)) (λ j differs. same (suc j) (λ e. differs (omega (arith, e)))))

pub ports-changed : (slots now : List (Option Entry)) (chains : List Chain) (port : ℕ) (c : Chain) → Changes slots now chains port c
    → map (backlog_in now) (set chains port c) ≡ set (map (backlog_in slots) chains) port (backlog_in now c)
ports-changed slots now chains port c step =
    map-set_agree (backlog_in now) (backlog_in slots) empty_chain chains port c step.there
    (λ j differs. ap (λ (es : List (ℕ × Stamped Plain)). (let b : Backlog Plain = record { gone = (chain_at chains j).gone; packets = packets_of es; bound = (chain_at chains j).bound } in b)) (step.others j differs))

-- what waits at a port
pub backlog-at : (slots : List (Option Entry)) (chains : List Chain) (port : ℕ) → port < length chains → get_or (map (backlog_in slots) chains) port empty_backlog ≡ backlog_in slots (chain_at chains port)
backlog-at slots chains port there = get_or-map (backlog_in slots) chains port empty_chain empty_backlog there

-- The steps --

-- a first packet that is gone
alone_rest : {X : Type 0} (p : Stamped X) (ps : List (Stamped X)) → StandsAlone (p ∷ ps) → StandsAlone ps
alone_rest {X} p [] all = All-from_recursion (λ (r : Stamped X). r.at ≡ post_stream → 0 ≡ 1) [] tt
alone_rest {X} p (s ∷ ss) all =
    All-weaker (λ (r : Stamped X). r.at ≡ post_stream → length (p ∷ s ∷ ss) ≡ 1) (λ (r : Stamped X). r.at ≡ post_stream → length (s ∷ ss) ≡ 1)
    (λ r one e. absurd (let long = one e in omega (arith, long))) (s ∷ ss) (All-tail (λ (r : Stamped X). r.at ≡ post_stream → length (p ∷ s ∷ ss) ≡ 1) p (s ∷ ss) all)

pub popped_queue : {X : Type 0} (q : Waiting X) (p : Stamped X) (ps : List (Stamped X)) (spare : ℕ) → q.packets ≡ p ∷ ps → IsQueue q → IsQueue (record { gone = q.gone + 1; packets = ps; bound = q.bound; spare = spare })
popped_queue {X} q p ps spare is queue = record {
  rest = rest_prefix (subst (λ (l : List (Stamped X)). IsPrefix (let s : StreamPrefix X = record { packets = l; bound = q.bound } in s)) is queue.rest);
  counted = (let counted = queue.counted in omega (arith, counted, ap length is));
}
  where
    rest_prefix : IsPrefix (let s : StreamPrefix X = record { packets = p ∷ ps; bound = q.bound } in s) → IsPrefix (let s : StreamPrefix X = record { packets = ps; bound = q.bound } in s)
    rest_prefix h = record {
      opened = h.opened;
      within = h.within;
      allowed = All-tail (λ (r : Stamped X). IsAllowed r.at) p ps h.allowed;
      ascends = h.ascends.1;
      alone = alone_rest p ps h.alone;
    }

last_key-any : (d l : ℕ) (es : List (ℕ × Stamped Plain)) → last_key d es ≡ l → last_key l es ≡ l
last_key-any d l [] is = refl
last_key-any d l (e ∷ es) is = is

-- the first entry of a port's chain goes
pub pop_changes : (slots now : List (Option Entry)) (chains : List Chain) (port : ℕ) (c : Chain) (p : Stamped Plain)
    → AreLaid slots chains → port < length chains → 0 < (chain_at chains port).waiting
    → entries_of slots (chain_at chains port) ≡ ((chain_at chains port).first, p) ∷ entries_of now c
    → c ≡ record (chain_at chains port) { first = c.first; waiting = (chain_at chains port).waiting - 1; gone = (chain_at chains port).gone + 1 }
    → ((key : ℕ) → key ≢ (chain_at chains port).first → entry_at now key ≡ entry_at slots key)
    → Changes slots now chains port c
pop_changes slots now chains port c p laid there waits list is kept = record {
  there = there;
  others = λ other differs. linked-same slots now (chain_at chains other).waiting (chain_at chains other).first (laid.each other).full
      (λ key among. kept key (λ first. laid.apart other port key differs among (rw list (inl (sym first)))));
  whole = record {
    full = (let long = whole.full in let less = ap (λ (d : Chain). d.waiting) is in omega (arith, long, ap length list, less));
    last = (let same = ap (λ (d : Chain). d.last) is in
        subst (λ (l : ℕ). last_key l (entries_of now c) ≡ l) (sym same) (last_key-any old.first old.last (entries_of now c) (ap (last_key old.last) (sym list) ∙ whole.last)));
    queue = rw is_gone (rw is_bound (popped_queue (queue_of 0 (backlog_in slots old)) p (packets_of (entries_of now c)) 0 (ap packets_of list) whole.queue));
  };
  keys = λ key among. inl (rw list (inr among));
}
  where
    old : Chain
    old = chain_at chains port

    whole : IsWhole slots (chain_at chains port)
    whole = laid.each port

    is_gone : c.gone ≡ (chain_at chains port).gone + 1
    is_gone = ap (λ (d : Chain). d.gone) is

    is_bound : c.bound ≡ (chain_at chains port).bound
    is_bound = ap (λ (d : Chain). d.bound) is

-- an entry comes after the last of a port's chain
pub push_changes : (slots now : List (Option Entry)) (chains : List Chain) (port key : ℕ) (c : Chain) (p : Stamped Plain)
    → AreLaid slots chains → port < length chains
    → MayCome (queue_of 0 (backlog_in slots (chain_at chains port))) p.at
    → entries_of now c ≡ entries_of slots (chain_at chains port) ++ (key, p) ∷ []
    → c ≡ record (chain_at chains port) { first = c.first; last = key; waiting = (chain_at chains port).waiting + 1; bound = next p.at }
    → entry_at slots key ≡ None
    → ((k : ℕ) → k ≢ key → (0 < (chain_at chains port).waiting → k ≢ (chain_at chains port).last) → entry_at now k ≡ entry_at slots k)
    → Changes slots now chains port c
push_changes slots now chains port key c p laid there may list is free kept = record {
  there = there;
  others = λ other differs. linked-same slots now (chain_at chains other).waiting (chain_at chains other).first (laid.each other).full
      (λ k among. kept k
      (λ same. (let e = key_of_chain slots (chain_at chains other) k (laid.each other) among in
      absurd (let clash : ◌≡◌ {A = Option Entry} (Some e.0) None = sym e.1 ∙ ap (entry_at slots) same ∙ free in cc)))
      (λ waits same. laid.apart other port k differs among
      (subst (λ (j : ℕ). IsKey j (keys_of (entries_of slots (chain_at chains port)))) (sym same) (last_of_chain slots (chain_at chains port) whole waits))));
  whole = record {
    full = (let long = whole.full in let more = ap (λ (d : Chain). d.waiting) is in omega (arith, long, ap length list, more, length-append (entries_of slots (chain_at chains port)) ((key, p) ∷ [])));
    last = ap (last_key c.last) list ∙ last_key-push c.last key p (entries_of slots (chain_at chains port)) ∙ sym (ap (λ (d : Chain). d.last) is);
    queue = appended_fields (queue_of 0 (backlog_in slots (chain_at chains port))) (queue_of 0 (backlog_in now c)) p (ap (λ (d : Chain). d.gone) is)
        (ap packets_of list ∙ packets_of-push key p (entries_of slots (chain_at chains port))) (ap (λ (d : Chain). d.bound) is) may whole.queue;
  };
  keys = λ k among. elim (IsKey-push_from k key p (entries_of slots (chain_at chains port)) (subst (λ (es : List (ℕ × Stamped Plain)). IsKey k (keys_of es)) list among)) [
    | inl old ↦ inl old
    | inr same ↦ inr (ap (entry_at slots) (sym same) ∙ free)
  ];
}
  where
    whole : IsWhole slots (chain_at chains port)
    whole = laid.each port

-- the bound of a port becomes another
pub bound_changes : (slots : List (Option Entry)) (chains : List Chain) (port b : ℕ) → AreLaid slots chains → port < length chains
    → IsQueue (record (queue_of 0 (backlog_in slots (chain_at chains port))) { bound = b })
    → Changes slots slots chains port (record (chain_at chains port) { bound = b })
bound_changes slots chains port b laid there queue = record {
  there = there;
  others = λ other differs. refl;
  whole = record { full = (laid.each port).full; last = (laid.each port).last; queue = queue };
  keys = λ key among. inl among;
}

-- The queue of a port --

-- the queue that was put at a port is there
pub queue_at-with_queue : {X : Type 0} (pool : Pooled X) (port : ℕ) (q : Waiting X) → port < length pool.ports → queue_at (with_queue pool port q) port ≡ q
queue_at-with_queue {X} pool port q there = ap (λ (b : Backlog X). queue_of q.spare b) (get_or-set_same pool.ports port (backlog_of q) empty_backlog there)

pub stands_with : {X : Type 0} (old new : Pooled X) (port : ℕ) (q : Waiting X) (s : StreamPrefix X) → port < length old.ports → new ≡ with_queue old port q → StandsFor q s → StandsFor (queue_at new port) s
stands_with {X} old new port q s there is stands = subst (λ (r : Waiting X). StandsFor r s) (sym (ap (λ (pool : Pooled X). queue_at pool port) is ∙ queue_at-with_queue old port q there)) stands

-- the other ports keep theirs, but for the room
pub other_like : {X : Type 0} (pool : Pooled X) (port other : ℕ) (q : Waiting X) → other ≢ port → IsLike (queue_at (with_queue pool port q) other) (queue_at pool other)
other_like {X} pool port other q differs =
    let same : get_or (set pool.ports port (backlog_of q)) other empty_backlog ≡ get_or pool.ports other empty_backlog = get_or-set_other pool.ports port other (backlog_of q) empty_backlog differs in
    record { gone = ap (λ (b : Backlog X). b.gone) same; packets = ap (λ (b : Backlog X). b.packets) same; bound = ap (λ (b : Backlog X). b.bound) same }
