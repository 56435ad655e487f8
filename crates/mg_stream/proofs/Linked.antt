-- Entries that each name the next: what they hold, and what becomes of them when others change.
use Rattle.std.proofs.Common.{◌≡◌, ◌≢◌, ℕ, zero, suc, ◌+◌, ◌<◌, List, [], ◌∷◌, ◌++◌, length, ◌-◌, Option, Some, None, option_map, unwrap_or, inl, inr, ◌⊎◌, subst, ap, sym, refl, ◌∙◌, arith}
use Rattle.mg_value.specs.Payload.{Plain}
use Rattle.mg_value.specs.Packet.{Stamped}
use Rattle.mg_settled.specs.Settled.{times_of}
use Rattle.mg_settled.proofs.Times.{In, Rises, Rises-least}
use Rattle.slab.specs.Slab.{Slab, get, ContainsKey, Updates, with_value}
use Rattle.slab.proofs.SlabLemmas.{Updates-with_value}
use Rattle.mg_settled.proofs.Climbs.{prefix-rises}
use Rattle.mg_stream.specs.Queue.{rest_of}
use Rattle.mg_stream.specs.Pool.{queue_of}
use Rattle.mg_stream.specs.Code.Chain.{entry_at, linked, keys_of, packets_of, last_key, IsKey, entries_of, backlog_in, IsWhole}
use Rattle.mg_stream.specs.declared.chain.Chain.{Chain}
use Rattle.mg_stream.specs.declared.chain.Entry.{Entry}

-- the first entry, if it is there
pub linked-one : (slots : List (Option Entry)) (n key : ℕ) (e : Entry) → entry_at slots key ≡ Some e → linked slots (suc n) key ≡ (key, e.packet) ∷ linked slots n e.next
linked-one slots n key e is = ap (λ (o : Option Entry). unwrap_or (option_map (λ f. (key, f.packet) ∷ linked slots n f.next) o) []) is

-- if so many entries are there, the first is, and so are the others
pub first_there : (slots : List (Option Entry)) (n key : ℕ) → length (linked slots (suc n) key) ≡ suc n → (e : Entry) × (entry_at slots key ≡ Some e) × (length (linked slots n e.next) ≡ n)
first_there slots n key full = go (entry_at slots key) refl
  where
    go : (o : Option Entry) → entry_at slots key ≡ o → (e : Entry) × (entry_at slots key ≡ Some e) × (length (linked slots n e.next) ≡ n)
    go None is = absurd (let none : 0 ≡ suc n = rw is at full in omega (arith, none))
    go (Some e) is = (e, is, (let more : suc (length (linked slots n e.next)) ≡ suc n = ap length (sym (linked-one slots n key e is)) ∙ full in omega (arith, more)))

-- each key has an entry, whose packet is among them
pub key_there : (slots : List (Option Entry)) (n key k : ℕ) → length (linked slots n key) ≡ n → IsKey k (keys_of (linked slots n key))
    → (e : Entry) × (entry_at slots k ≡ Some e) × In e.packet.at (times_of (packets_of (linked slots n key)))
key_there slots zero key k full is = absurd is
key_there slots (suc n) key k full is =
    let first = first_there slots n key full in
    let e = first.0 in
    let list : linked slots (suc n) key ≡ (key, e.packet) ∷ linked slots n e.next = linked-one slots n key e first.1 in
    let among : IsKey k (key ∷ keys_of (linked slots n e.next)) = rw list at is in
    rw list (elim among [
      | inl here ↦ (e, ap (entry_at slots) (sym here) ∙ first.1, inl refl)
      | inr later ↦ (let found = key_there slots n e.next k first.2 later in (found.0, found.1, inr found.2))
    ])

-- entries whose keys keep what they had stay
pub linked-same : (slots now : List (Option Entry)) (n key : ℕ) → length (linked slots n key) ≡ n
    → ((k : ℕ) → IsKey k (keys_of (linked slots n key)) → entry_at now k ≡ entry_at slots k) → linked now n key ≡ linked slots n key
linked-same slots now zero key full same = refl
linked-same slots now (suc n) key full same =
    let first = first_there slots n key full in
    let e = first.0 in
    let list : linked slots (suc n) key ≡ (key, e.packet) ∷ linked slots n e.next = linked-one slots n key e first.1 in
    let keeps : (k : ℕ) → IsKey k (key ∷ keys_of (linked slots n e.next)) → entry_at now k ≡ entry_at slots k = rw list at same in
    linked-one now n key e (keeps key (inl refl) ∙ first.1)
    ∙ ap (λ (rest : List (ℕ × Stamped Plain)). (key, e.packet) ∷ rest) (linked-same slots now n e.next first.2 (λ k is. keeps k (inr is)))
    ∙ sym list

-- if the times rise, no key comes twice: the first isn't among the others
pub first_apart : (slots : List (Option Entry)) (n key a : ℕ) (e : Entry) → entry_at slots key ≡ Some e → length (linked slots n e.next) ≡ n
    → Rises a (times_of (packets_of (linked slots (suc n) key))) → IsKey key (keys_of (linked slots n e.next)) → ⊥
first_apart slots n key a e is full rises among =
    let list = linked-one slots n key e is in
    let up : Rises a (e.packet.at ∷ times_of (packets_of (linked slots n e.next))) = rw list at rises in
    let found = key_there slots n e.next key full among in
    let same : Some found.0 ≡ Some e = sym found.1 ∙ is in
    let at : found.0.packet.at ≡ e.packet.at = ap (λ (o : Option Entry). unwrap_or (option_map (λ f. f.packet.at) o) 0) same in
    let above = Rises-least (e.packet.at + 1) found.0.packet.at (times_of (packets_of (linked slots n e.next))) up.1 found.2 in
    omega (arith, above, at)

-- the last key is among them
last_there : (d : ℕ) (e : ℕ × Stamped Plain) (es : List (ℕ × Stamped Plain)) → IsKey (last_key d (e ∷ es)) (keys_of (e ∷ es))
last_there d e [] = inl refl
last_there d e (f ∷ es) = inr (last_there e.0 f es)

pub last_among : (slots : List (Option Entry)) (n key d : ℕ) → length (linked slots (suc n) key) ≡ suc n → IsKey (last_key d (linked slots (suc n) key)) (keys_of (linked slots (suc n) key))
last_among slots n key d full =
    let first = first_there slots n key full in
    rw (linked-one slots n key first.0 first.1) (last_there d (key, first.0.packet) (linked slots n first.0.next))

-- an entry after the last one, which then names it
pub linked-push : (slots now : List (Option Entry)) (n key d last fresh a : ℕ) (new : Entry) → length (linked slots (suc n) key) ≡ suc n
    → Rises a (times_of (packets_of (linked slots (suc n) key))) → last_key d (linked slots (suc n) key) ≡ last
    → entry_at slots fresh ≡ None → entry_at now fresh ≡ Some new
    → ((k : ℕ) → k ≢ last → k ≢ fresh → entry_at now k ≡ entry_at slots k)
    → ((e : Entry) → entry_at slots last ≡ Some e → entry_at now last ≡ Some (record e { next = fresh }))
    → linked now (suc (suc n)) key ≡ linked slots (suc n) key ++ (fresh, new.packet) ∷ []
linked-push slots now zero key d last fresh a new full rises is_last free there others names =
    let first = first_there slots zero key full in
    let e = first.0 in
    let list : linked slots 1 key ≡ (key, e.packet) ∷ [] = linked-one slots zero key e first.1 in
    let here : key ≡ last = ap (last_key d) (sym list) ∙ is_last in
    let moved : entry_at now key ≡ Some (record e { next = fresh }) = ap (entry_at now) here ∙ names e (ap (entry_at slots) (sym here) ∙ first.1) in
    linked-one now 1 key (record e { next = fresh }) moved
    ∙ ap (λ (rest : List (ℕ × Stamped Plain)). (key, e.packet) ∷ rest) (linked-one now zero fresh new there)
    ∙ ap (λ (front : List (ℕ × Stamped Plain)). front ++ (fresh, new.packet) ∷ []) (sym list)
linked-push slots now (suc n) key d last fresh a new full rises is_last free there others names =
    let first = first_there slots (suc n) key full in
    let e = first.0 in
    let list : linked slots (suc (suc n)) key ≡ (key, e.packet) ∷ linked slots (suc n) e.next = linked-one slots (suc n) key e first.1 in
    let up : Rises a (e.packet.at ∷ times_of (packets_of (linked slots (suc n) e.next))) = rw list at rises in
    let later : last_key key (linked slots (suc n) e.next) ≡ last = ap (last_key d) (sym list) ∙ is_last in
    let rest : List ℕ = keys_of (linked slots (suc n) e.next) in
    let not_last : key ≢ last = λ same. first_apart slots (suc n) key a e first.1 first.2 rises (subst (λ (k : ℕ). IsKey k rest) (later ∙ sym same) (last_among slots n e.next key first.2)) in
    let not_fresh : key ≢ fresh = λ same. absurd (let clash : ◌≡◌ {A = Option Entry} (Some e) None = sym first.1 ∙ ap (entry_at slots) same ∙ free in cc) in
    linked-one now (suc (suc n)) key e (others key not_last not_fresh ∙ first.1)
    ∙ ap (λ (rest : List (ℕ × Stamped Plain)). (key, e.packet) ∷ rest) (linked-push slots now n e.next key last fresh (e.packet.at + 1) new first.2 up.1 later free there others names)
    ∙ ap (λ (front : List (ℕ × Stamped Plain)). front ++ (fresh, new.packet) ∷ []) (sym list)

-- the keys and the last entry of a list with a further entry after it
pub last_key-push : (d k : ℕ) (p : Stamped Plain) (es : List (ℕ × Stamped Plain)) → last_key d (es ++ (k, p) ∷ []) ≡ k
last_key-push d k p [] = refl
last_key-push d k p (e ∷ es) = last_key-push e.0 k p es

pub IsKey-push_from : (key k : ℕ) (p : Stamped Plain) (es : List (ℕ × Stamped Plain)) → IsKey key (keys_of (es ++ (k, p) ∷ [])) → IsKey key (keys_of es) ⊎ (k ≡ key)
IsKey-push_from key k p [] is = elim is [ inl here ↦ inr here | inr none ↦ absurd none ]
IsKey-push_from key k p (e ∷ es) is = elim is [
  | inl here ↦ inl (inl here)
  | inr later ↦ elim (IsKey-push_from key k p es later) [ inl among ↦ inl (inr among) | inr new ↦ inr new ]
]

pub packets_of-push : (k : ℕ) (p : Stamped Plain) (es : List (ℕ × Stamped Plain)) → packets_of (es ++ (k, p) ∷ []) ≡ packets_of es ++ p ∷ []
packets_of-push k p [] = refl
packets_of-push k p (e ∷ es) = ap (λ (rest : List (Stamped Plain)). e.1 ∷ rest) (packets_of-push k p es)

-- A chain --

pub chain_rises : (slots : List (Option Entry)) (c : Chain) → IsWhole slots c → Rises 0 (times_of (packets_of (entries_of slots c)))
chain_rises slots c whole = prefix-rises (rest_of (queue_of 0 (backlog_in slots c))) whole.queue.rest

-- the first entry of a chain that isn't empty, and the entries after it
pub record Begins (slots : List (Option Entry)) (c : Chain) : Type 0 where
  pub entry : Entry
  pub there : entry_at slots c.first ≡ Some entry
  pub full : length (linked slots (c.waiting - 1) entry.next) ≡ c.waiting - 1
  pub list : entries_of slots c ≡ (c.first, entry.packet) ∷ linked slots (c.waiting - 1) entry.next
  pub apart : IsKey c.first (keys_of (linked slots (c.waiting - 1) entry.next)) → ⊥

pub begins : (slots : List (Option Entry)) (c : Chain) → IsWhole slots c → 0 < c.waiting → Begins slots c
begins slots c whole waits = go c.waiting refl
  where
    go : (n : ℕ) → c.waiting ≡ n → Begins slots c
    go zero is = absurd (omega (arith, waits, is))
    go (suc n) is =
        let full : length (linked slots (suc n) c.first) ≡ suc n = subst (λ (m : ℕ). length (linked slots m c.first) ≡ m) is whole.full in
        let first = first_there slots n c.first full in
        let less : c.waiting - 1 ≡ n = omega (arith, is) in
        let rises : Rises 0 (times_of (packets_of (linked slots (suc n) c.first))) = subst (λ (m : ℕ). Rises 0 (times_of (packets_of (linked slots m c.first)))) is (chain_rises slots c whole) in
        record {
          entry = first.0;
          there = first.1;
          full = rw less first.2;
          list = rw less (ap (λ (m : ℕ). linked slots m c.first) is ∙ linked-one slots n c.first first.0 first.1);
          apart = rw less (first_apart slots n c.first 0 first.0 first.1 first.2 rises);
        }

-- the last entry of a chain that isn't empty
pub last_of_chain : (slots : List (Option Entry)) (c : Chain) → IsWhole slots c → 0 < c.waiting → IsKey c.last (keys_of (entries_of slots c))
last_of_chain slots c whole waits = go c.waiting refl
  where
    go : (n : ℕ) → c.waiting ≡ n → IsKey c.last (keys_of (entries_of slots c))
    go zero is = absurd (omega (arith, waits, is))
    go (suc n) is =
        let full : length (linked slots (suc n) c.first) ≡ suc n = subst (λ (m : ℕ). length (linked slots m c.first) ≡ m) is whole.full in
        let last : last_key c.last (linked slots (suc n) c.first) ≡ c.last = subst (λ (m : ℕ). last_key c.last (linked slots m c.first) ≡ c.last) is whole.last in
        let among : IsKey c.last (keys_of (linked slots (suc n) c.first)) = subst (λ (k : ℕ). IsKey k (keys_of (linked slots (suc n) c.first))) last (last_among slots n c.first c.last full) in
        subst (λ (m : ℕ). IsKey c.last (keys_of (linked slots m c.first))) (sym is) among

-- each key of a chain has an entry
pub key_of_chain : (slots : List (Option Entry)) (c : Chain) (k : ℕ) → IsWhole slots c → IsKey k (keys_of (entries_of slots c)) → (e : Entry) × (entry_at slots k ≡ Some e)
key_of_chain slots c k whole among = let found = key_there slots c.waiting c.first k whole.full among in (found.0, found.1)

pub last_entry : (slots : List (Option Entry)) (c : Chain) → IsWhole slots c → 0 < c.waiting → (e : Entry) × (entry_at slots c.last ≡ Some e)
last_entry slots c whole waits = key_of_chain slots c c.last whole (last_of_chain slots c whole waits)

-- the entries after the first, once the first is gone
pub popped_entries : (slots now : List (Option Entry)) (c : Chain) (e : Entry) → IsWhole slots c → 0 < c.waiting → entry_at slots c.first ≡ Some e
    → ((k : ℕ) → k ≢ c.first → entry_at now k ≡ entry_at slots k)
    → entries_of slots c ≡ (c.first, e.packet) ∷ linked now (c.waiting - 1) e.next
popped_entries slots now c e whole waits is others =
    let first = begins slots c whole waits in
    let same : first.entry ≡ e = (let both : Some first.entry ≡ Some e = sym first.there ∙ is in cc) in
    let now_same : linked now (c.waiting - 1) first.entry.next ≡ linked slots (c.waiting - 1) first.entry.next =
    linked-same slots now (c.waiting - 1) first.entry.next first.full
    (λ k among. others k (λ here. first.apart (subst (λ (j : ℕ). IsKey j (keys_of (linked slots (c.waiting - 1) first.entry.next))) here among))) in
    first.list
    ∙ ap (λ (rest : List (ℕ × Stamped Plain)). (c.first, first.entry.packet) ∷ rest) (sym now_same)
    ∙ ap (λ (f : Entry). (c.first, f.packet) ∷ linked now (c.waiting - 1) f.next) same

-- the last entry of a chain is there still when another comes
pub last_kept : (s t : Slab Entry) (c : Chain) (key : ℕ) (new : Entry) → IsWhole s.slots c → 0 < c.waiting → get s key ≡ None → Updates s t key (Some new)
    → (e : Entry) × (get s c.last ≡ Some e) × (get t c.last ≡ Some e)
last_kept s t c key new whole waits free comes =
    let last = last_entry s.slots c whole waits in
    let apart : c.last ≢ key = λ same. absurd (let clash : ◌≡◌ {A = Option Entry} (Some last.0) None = sym last.1 ∙ ap (entry_at s.slots) same ∙ free in cc) in
    (last.0, last.1, comes.others c.last apart ∙ last.1)

pub last_contained : (s t : Slab Entry) (c : Chain) (key : ℕ) (new : Entry) → IsWhole s.slots c → 0 < c.waiting → get s key ≡ None → Updates s t key (Some new) → ContainsKey t c.last
last_contained s t c key new whole waits free comes = let last = last_kept s t c key new whole waits free comes in rw last.2 refl

-- an entry after the last of a chain
pub pushed_behind : (s t : Slab Entry) (c : Chain) (key : ℕ) (new f : Entry) → IsWhole s.slots c → 0 < c.waiting → get s key ≡ None → Updates s t key (Some new)
    → get t c.last ≡ Some f
    → linked (with_value t c.last (record f { next = key })).slots (c.waiting + 1) c.first ≡ entries_of s.slots c ++ (key, new.packet) ∷ []
pushed_behind s t c key new f whole waits free comes is = go c.waiting refl
  where
    last : (e : Entry) × (get s c.last ≡ Some e) × (get t c.last ≡ Some e)
    last = last_kept s t c key new whole waits free comes

    now : Slab Entry
    now = with_value t c.last (record f { next = key })

    written : Updates t (with_value t c.last (record f { next = key })) c.last (Some (record f { next = key }))
    written = Updates-with_value t c.last (record f { next = key }) (rw is refl)

    apart : c.last ≢ key
    apart same = absurd (let clash : ◌≡◌ {A = Option Entry} (Some last.0) None = sym last.1 ∙ ap (entry_at s.slots) same ∙ free in cc)

    go : (n : ℕ) → c.waiting ≡ n → linked (with_value t c.last (record f { next = key })).slots (c.waiting + 1) c.first ≡ entries_of s.slots c ++ (key, new.packet) ∷ []
    go zero e = absurd (omega (arith, waits, e))
    go (suc n) e =
        let full : length (linked s.slots (suc n) c.first) ≡ suc n = subst (λ (m : ℕ). length (linked s.slots m c.first) ≡ m) e whole.full in
        let ends : last_key c.last (linked s.slots (suc n) c.first) ≡ c.last = subst (λ (m : ℕ). last_key c.last (linked s.slots m c.first) ≡ c.last) e whole.last in
        let rises : Rises 0 (times_of (packets_of (linked s.slots (suc n) c.first))) = subst (λ (m : ℕ). Rises 0 (times_of (packets_of (linked s.slots m c.first)))) e (chain_rises s.slots c whole) in
        let one_more : c.waiting + 1 ≡ suc (suc n) = omega (arith, e) in
        ap (λ (m : ℕ). linked (with_value t c.last (record f { next = key })).slots m c.first) one_more
        ∙ linked-push s.slots (with_value t c.last (record f { next = key })).slots n c.first c.last c.last key 0 new full rises ends free
        (written.others key (λ same. apart (sym same)) ∙ comes.changed)
        (λ k other fresh. written.others k other ∙ comes.others k fresh)
        (λ g there. written.changed ∙ (let both : ◌≡◌ {A = Option Entry} (Some f) (Some g) = sym is ∙ comes.others c.last apart ∙ there in ap (option_map (λ (h : Entry). (let moved : Entry = record h { next = key } in moved))) both))
        ∙ ap (λ (m : ℕ). linked s.slots m c.first ++ (key, new.packet) ∷ []) (sym e)
