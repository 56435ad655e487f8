-- The kinds that meet at streams: taken reading by reading, they give the kinds of each stream.
use Rattle.std.proofs.Common.{ℕ, zero, suc, ◌+◌, ◌<◌, ◌≤◌, ◌≡◌, List, [], ◌∷◌, Bool, true, false, not, ◌&&◌, ◌||◌, ◌==◌, cond, Option, None, Some, length, drop, get_or, map, filter, min, refl, sym, ap, ◌∙◌, arith}
use Rattle.std.specs.Prelude.{slice_get}
use Rattle.std.specs.List.{enumerate_from}
use Rattle.std.proofs.lemmas.Bool.Decides.{nat_tests}
use Rattle.mg_value.specs.declared.kind.Kind.{Kind}
use Rattle.mg_value.specs.declared.kind.Kind.TheVariants.{Any, Flag, Int, Text, Items, Record}
use Rattle.mg_calc.specs.declared.edge.Edge.{Edge}
use Rattle.mg_check.specs.Meeting.{PortReading, is_any, is_kind, inferred_kind, clashes, kinds_at, meetings}
use Rattle.mg_check.specs.declared.inferred.Inferred.{Inferred}
use Rattle.mg_check.specs.Code.Meets.{begun, meet, meet_by, meet_at, meet_all, readings_of, inferred_of}
use Rattle.mg_check.proofs.Filling.{zip_end, zip_get, past_one}

-- what is known of one stream after these kinds
abbrev pub meet_on : Inferred → List Kind → Inferred
meet_on inferred [] = inferred
meet_on inferred (k ∷ ks) = meet_on (meet inferred k) ks

or_false : (a : Bool) → (a || false) ≡ a
or_false true = refl
or_false false = refl

or_assoc : (a b c : Bool) → ((a || b) || c) ≡ (a || (b || c))
or_assoc true b c = refl
or_assoc false b c = refl

abbrev with_clash : Kind → Bool → Inferred
with_clash kind clash = record { kind = kind; clash = clash }

meet_on_all : (k : Kind) (c : Bool) (ks : List Kind) → meet_on (record { kind = k; clash = c }) ks ≡ record { kind = inferred_kind (k ∷ ks); clash = c || clashes (k ∷ ks) }
meet_on_all Any c [] = ap (with_clash Any) (sym (or_false c))
meet_on_all Flag c [] = ap (with_clash Flag) (sym (or_false c))
meet_on_all Int c [] = ap (with_clash Int) (sym (or_false c))
meet_on_all Text c [] = ap (with_clash Text) (sym (or_false c))
meet_on_all Items c [] = ap (with_clash Items) (sym (or_false c))
meet_on_all Record c [] = ap (with_clash Record) (sym (or_false c))
meet_on_all Any c (x ∷ xs) = meet_on_all x c xs
meet_on_all Flag c (x ∷ xs) = let d = not (is_any x) && not (is_kind x Flag) in meet_on_all Flag (c || d) xs ∙ ap (with_clash Flag) (or_assoc c d (clashes (Flag ∷ xs)))
meet_on_all Int c (x ∷ xs) = let d = not (is_any x) && not (is_kind x Int) in meet_on_all Int (c || d) xs ∙ ap (with_clash Int) (or_assoc c d (clashes (Int ∷ xs)))
meet_on_all Text c (x ∷ xs) = let d = not (is_any x) && not (is_kind x Text) in meet_on_all Text (c || d) xs ∙ ap (with_clash Text) (or_assoc c d (clashes (Text ∷ xs)))
meet_on_all Items c (x ∷ xs) = let d = not (is_any x) && not (is_kind x Items) in meet_on_all Items (c || d) xs ∙ ap (with_clash Items) (or_assoc c d (clashes (Items ∷ xs)))
meet_on_all Record c (x ∷ xs) = let d = not (is_any x) && not (is_kind x Record) in meet_on_all Record (c || d) xs ∙ ap (with_clash Record) (or_assoc c d (clashes (Record ∷ xs)))

-- the kinds of the ports that read a stream
abbrev pub kinds_read : List PortReading → ℕ → List Kind
kinds_read readings number = map (λ r. r.kind) (filter (λ r. r.stream == number) readings)

same_number : (a b : ℕ) → a ≡ b → (a == b) ≡ true
same_number a b same = grind (arith, nat_tests)

other_number : (a b : ℕ) → a < b → (a == b) ≡ false
other_number a b less = grind (arith, nat_tests)

later_number : (a b : ℕ) → b < a → (a == b) ≡ false
later_number a b less = grind (arith, nat_tests)

read_by : (r : PortReading) (rs : List PortReading) (n : ℕ) (test : Bool) → (r.stream == n) ≡ test → kinds_read (r ∷ rs) n ≡ cond test (r.kind ∷ kinds_read rs n) (kinds_read rs n)
read_by r rs n true known = ap (λ b. map (λ q. q.kind) (cond b (r ∷ filter (λ q. q.stream == n) rs) (filter (λ q. q.stream == n) rs))) known
read_by r rs n false known = ap (λ b. map (λ q. q.kind) (cond b (r ∷ filter (λ q. q.stream == n) rs) (filter (λ q. q.stream == n) rs))) known

-- all streams, counted from a number on, with the kinds of the ports that read them
abbrev pub inferred_from : List PortReading → ℕ → List Inferred → List Inferred
inferred_from rs from mets = map (λ e. meet_on e.1 (kinds_read rs e.0)) (enumerate_from from mets)

read_by_none : (from : ℕ) (mets : List Inferred) → mets ≡ inferred_from [] from mets
read_by_none from [] = refl
read_by_none from (m ∷ mets) = ap (λ l. m ∷ l) (read_by_none (from + 1) mets)

read_before : (r : PortReading) (rs : List PortReading) (from : ℕ) (mets : List Inferred) → r.stream < from → inferred_from rs from mets ≡ inferred_from (r ∷ rs) from mets
read_before r rs from [] less = refl
read_before r rs from (m ∷ mets) less =
    ap (λ ks. meet_on m ks ∷ inferred_from rs (from + 1) mets) (sym (read_by r rs from false (other_number r.stream from less)))
    ∙ ap (λ l. meet_on m (kinds_read (r ∷ rs) from) ∷ l) (read_before r rs (from + 1) mets (omega arith))

suc_by : (m : Inferred) (mets : List Inferred) (i : ℕ) (k : Kind) (found : Option Inferred) → meet_by (m ∷ mets) (suc i) k found ≡ m ∷ meet_by mets i k found
suc_by m mets i k None = refl
suc_by m mets i k (Some inferred) = refl

read_one : (r : PortReading) (rs : List PortReading) (from i : ℕ) (mets : List Inferred) → r.stream ≡ from + i → inferred_from rs from (meet_at mets i r.kind) ≡ inferred_from (r ∷ rs) from mets
read_one r rs from i [] at = refl
read_one r rs from zero (m ∷ mets) at =
    ap (λ ks. meet_on m ks ∷ inferred_from rs (from + 1) mets) (sym (read_by r rs from true (same_number r.stream from (omega arith))))
    ∙ ap (λ l. meet_on m (kinds_read (r ∷ rs) from) ∷ l) (read_before r rs (from + 1) mets (omega arith))
read_one r rs from (suc i) (m ∷ mets) at =
    ap (inferred_from rs from) (suc_by m mets i r.kind (slice_get mets i))
    ∙ (ap (λ ks. meet_on m ks ∷ inferred_from rs (from + 1) (meet_at mets i r.kind)) (sym (read_by r rs from false (later_number r.stream from (omega arith))))
    ∙ ap (λ l. meet_on m (kinds_read (r ∷ rs) from) ∷ l) (read_one r rs (from + 1) i mets (omega arith)))

read_all : (rs : List PortReading) (mets : List Inferred) → meet_all mets rs ≡ inferred_from rs 0 mets
read_all [] mets = read_by_none 0 mets
read_all (r ∷ rs) mets = read_all rs (meet_at mets r.stream r.kind) ∙ read_one r rs 0 r.stream mets (omega arith)

begun_all : (rs : List PortReading) (from : ℕ) (written : List Kind) → inferred_from rs from (map begun written) ≡ map inferred_of (map (λ e. kinds_at rs e.0 e.1) (enumerate_from from written))
begun_all rs from [] = refl
begun_all rs from (w ∷ written) =
    ap (λ m. m ∷ inferred_from rs (from + 1) (map begun written)) (meet_on_all w false (kinds_read rs from))
    ∙ ap (λ l. inferred_of (w ∷ kinds_read rs from) ∷ l) (begun_all rs (from + 1) written)

-- all readings of a graph
pub all_meetings : (new mets : List Inferred) (written read : List Kind) (edges edges' : List Edge) (read' : List Kind) → new ≡ meet_all mets (readings_of edges' read') → mets ≡ map begun written → read' ≡ read → edges' ≡ edges
    → new ≡ map inferred_of (meetings written (readings_of edges read))
all_meetings new mets written read edges edges' read' is begin same_read same_edges =
    is ∙ (ap (λ l. meet_all l (readings_of edges' read')) begin
    ∙ (ap (λ l. meet_all (map begun written) (readings_of l read')) same_edges
    ∙ (ap (λ l. meet_all (map begun written) (readings_of edges l)) same_read
    ∙ (read_all (readings_of edges read) (map begun written) ∙ begun_all (readings_of edges read) 0 written))))

-- one more reading, and the last
within_both : (a b i end : ℕ) → i < end → end ≡ min a b → (i < a) × (i < b)
within_both a b i end inside is = (omega (arith, inside, is), omega (arith, inside, is))

pub inferred_more : (new old all : List Inferred) (edges : List Edge) (kinds : List Kind) (i end : ℕ) (d : Edge) (k : Kind) → i < end → end ≡ min (length edges) (length kinds)
    → new ≡ meet_at old (get_or edges i d).stream (get_or kinds i k) → meet_all old (readings_of (drop i edges) (drop i kinds)) ≡ all → meet_all new (readings_of (drop (i + 1) edges) (drop (i + 1) kinds)) ≡ all
inferred_more new old all edges kinds i end d k inside is step known =
    let both = within_both (length edges) (length kinds) i end inside is in
    ap (λ l. meet_all l (readings_of (drop (i + 1) edges) (drop (i + 1) kinds))) step
    ∙ (sym (ap (λ l. meet_all old (map (λ e. record { stream = e.0.stream; kind = e.1 }) l)) (zip_get edges kinds i d k both.0 both.1)) ∙ known)

pub inferred_end : (old all : List Inferred) (edges : List Edge) (kinds : List Kind) (i end : ℕ) → end ≤ i → end ≡ min (length edges) (length kinds) → meet_all old (readings_of (drop i edges) (drop i kinds)) ≡ all → old ≡ all
inferred_end old all edges kinds i end past is known =
    sym (ap (λ l. meet_all old (map (λ e. record { stream = e.0.stream; kind = e.1 }) l)) (zip_end edges kinds i (past_one (length edges) (length kinds) i end past is))) ∙ known
