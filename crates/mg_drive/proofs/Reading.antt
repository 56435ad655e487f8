-- The free nodes that read the streams of a core's engines.
use Rattle.std.proofs.Common.{◌≡◌, ℕ, zero, suc, ◌+◌, ◌<◌, List, [], ◌∷◌, ◌++◌, length, length-append, length-set, set, Some, slice_get, option_map, inl, inr, refl, sym, ap, ◌∙◌, subst, arith}
use Rattle.std.specs.Global.{Vec}
use Rattle.std.proofs.lemmas.Bool.{cases_eq}
use Rattle.std.proofs.lemmas.Option.{same_Some, none-some, slice_get_within}
use Rattle.mg_calc.specs.declared.plan.Plan.{Plan}
use Rattle.mg_calc.specs.declared.plan_stream.PlanStream.{PlanStream}
use Rattle.mg_calc.specs.declared.plan_stream.Producer.{Producer}
use Rattle.mg_sched.specs.Places.{place_of}
use Rattle.mg_sched.specs.Writers.{writer_at}
use Rattle.mg_free.specs.declared.node.FreeNode.{FreeNode}
use Rattle.mg_live.specs.declared.due.Due.{Due}
use Rattle.mg_live.specs.Takes.{IsNoneOf}
use Rattle.mg_live.specs.Due.{IsUndue}
use Rattle.mg_live.proofs.InTurn.{get_other}
use Rattle.mg_live.proofs.Places.{new_at, kept_at}
use Rattle.mg_node.proofs.Frames.{put_there}
use Rattle.mg_drive.specs.Code.Readers.{AreNoReaders, HasReader, ReadersGrow, AreReadersOf}

pub none_yet : (lists : List (Vec ℕ)) → lists ≡ [] → AreNoReaders 0 lists
none_yet lists none = record { long = ap length none }

pub one_more : (lists now : List (Vec ℕ)) (list : Vec ℕ) (n : ℕ) → now ≡ lists ++ list ∷ [] → AreNoReaders n lists → AreNoReaders (n + 1) now
one_more lists now list n is h = record { long = (let long = h.long in let both = ap length is in let more = length-append lists (list ∷ []) in omega (arith, long, both, more)) }

pub grow_none : (lists : List (Vec ℕ)) → ReadersGrow lists lists
grow_none lists = record { long = refl; stay = λ place reader has. has }

pub grow_on : (a b c : List (Vec ℕ)) → ReadersGrow a b → ReadersGrow b c → ReadersGrow a c
grow_on a b c one two = record { long = two.long ∙ one.long; stay = λ place reader has. two.stay place reader (one.stay place reader has) }

-- one more reader at a place
pub grow_there : (lists : List (Vec ℕ)) (place reader : ℕ) (entry now : Vec ℕ) → slice_get lists place ≡ Some entry → now.items ≡ entry.items ++ reader ∷ [] → ReadersGrow lists (set lists place now)
grow_there lists place reader entry now at is = record {
  long = length-set lists place now;
  stay = λ p r has list list_at none. elim (cases_eq p place) [
    | inl here ↦
        (let own : list ≡ now = put_there lists place now list (ap (slice_get (set lists place now)) (sym here) ∙ list_at) in
        has entry (ap (slice_get lists) here ∙ at) (λ k old. none k (ap (λ (v : Vec ℕ). slice_get v.items k) own ∙ ap (λ (ns : List ℕ). slice_get ns k) is ∙ kept_at entry.items reader k r old)))
    | inr other ↦ has list (sym (get_other lists place p now other) ∙ list_at) none
  ];
}

pub has_there : (lists : List (Vec ℕ)) (place reader : ℕ) (entry now : Vec ℕ) → now.items ≡ entry.items ++ reader ∷ [] → HasReader (set lists place now) place reader
has_there lists place reader entry now is list list_at none =
    let own : list ≡ now = put_there lists place now list list_at in
    none (length entry.items) (ap (λ (v : Vec ℕ). slice_get v.items (length entry.items)) own ∙ ap (λ (ns : List ℕ). slice_get ns (length entry.items)) is ∙ new_at entry.items reader)

-- there is no such place
pub has_nowhere : (lists : List (Vec ℕ)) (place reader : ℕ) → ¬ (place < length lists) → HasReader lists place reader
has_nowhere lists place reader past list at = absurd (past (slice_get_within lists place list at))

-- the place of the engine that writes a stream
pub written_at : (core : Plan) (stream place reader : ℕ) (lists : List (Vec ℕ)) → option_map (place_of core) (writer_at core stream) ≡ Some place → HasReader lists place reader → (writer : Producer) → writer_at core stream ≡ Some writer → HasReader lists (place_of core writer) reader
written_at core stream place reader lists is has writer written =
    let own : place ≡ place_of core writer = same_Some place (place_of core writer) (sym is ∙ ap (option_map (place_of core)) written) in
    subst (λ (p : ℕ). HasReader lists p reader) own has

pub unwritten : (core : Plan) (stream : ℕ) (writer : Producer) → ¬ (stream < length core.streams) → writer_at core stream ≡ Some writer → ⊥
unwritten core stream writer past written = past (there core.streams stream writer written)
  where
    there : (ss : List PlanStream) (k : ℕ) (w : Producer) → option_map (λ s. s.producer) (slice_get ss k) ≡ Some w → k < length ss
    there [] k w e = absurd (none-some w e)
    there (s ∷ ss) zero w e = omega arith
    there (s ∷ ss) (suc k) w e = (let less = there ss k w e in omega (arith, less))

-- The next of the streams, and of the readers.
pub all_added : (core : Plan) (streams : List ℕ) (upto : ℕ) (reader : ℕ) (before now : List (Vec ℕ)) → {stream_at : ℕ} → slice_get streams upto ≡ Some stream_at → ReadersGrow before now
    → ((writer : Producer) → writer_at core stream_at ≡ Some writer → HasReader now (place_of core writer) reader)
    → ((port stream : ℕ) (writer : Producer) → port < upto → slice_get streams port ≡ Some stream → writer_at core stream ≡ Some writer → HasReader before (place_of core writer) reader)
    → (port stream : ℕ) (writer : Producer) → port < upto + 1 → slice_get streams port ≡ Some stream → writer_at core stream ≡ Some writer → HasReader now (place_of core writer) reader
all_added core streams upto reader before now {stream_at} here grows own was port stream writer less at written = elim (cases_eq port upto) [
  | inl same ↦
      (let it : stream_at ≡ stream = same_Some stream_at stream (sym here ∙ ap (slice_get streams) (sym same) ∙ at) in
      own writer (ap (writer_at core) it ∙ written))
  | inr other ↦ grows.stay (place_of core writer) reader (was port stream writer (omega (arith, less, other)) at written)
]

pub more_woken : (readers : List ℕ) (upto reader_at : ℕ) (before now : Due) → slice_get readers upto ≡ Some reader_at → ¬ IsUndue now reader_at → ((other : ℕ) → IsUndue now other → IsUndue before other)
    → ((k reader : ℕ) → k < upto → slice_get readers k ≡ Some reader → ¬ IsUndue before reader) → (k reader : ℕ) → k < upto + 1 → slice_get readers k ≡ Some reader → ¬ IsUndue now reader
more_woken readers upto reader_at before now here woken others was k reader less at undue = elim (cases_eq k upto) [
  | inl same ↦
      (let it : reader ≡ reader_at = same_Some reader reader_at (sym at ∙ ap (slice_get readers) same ∙ here) in
      woken (subst (IsUndue now) it undue))
  | inr other ↦ was k reader (omega (arith, less, other)) at (others reader undue)
]

pub more_readers_woken : (places : List ℕ) (lists : List (Vec ℕ)) (upto place_at : ℕ) (before now : Due) → slice_get places upto ≡ Some place_at → ((reader : ℕ) → HasReader lists place_at reader → place_at < length lists → ¬ IsUndue now reader) → ((other : ℕ) → IsUndue now other → IsUndue before other)
    → ((k place reader : ℕ) → k < upto → slice_get places k ≡ Some place → HasReader lists place reader → place < length lists → ¬ IsUndue before reader)
    → (k place reader : ℕ) → k < upto + 1 → slice_get places k ≡ Some place → HasReader lists place reader → place < length lists → ¬ IsUndue now reader
more_readers_woken places lists upto place_at before now here woken others was k place reader less at has within undue = elim (cases_eq k upto) [
  | inl same ↦
      (let it : place ≡ place_at = same_Some place place_at (sym at ∙ ap (slice_get places) same ∙ here) in
      woken reader (subst (λ (p : ℕ). HasReader lists p reader) it has) (subst (λ (p : ℕ). p < length lists) it within) undue)
  | inr other ↦ was k place reader (omega (arith, less, other)) at has within (others reader undue)
]

-- one more free node is among the readers
pub each_added : (core : Plan) (frees : List FreeNode) (upto : ℕ) (free_at : FreeNode) (streams : List ℕ) (before now : List (Vec ℕ)) → slice_get frees upto ≡ Some free_at → streams ≡ free_at.inputs → ReadersGrow before now → AreReadersOf core streams upto now
    → ((reader : ℕ) (free : FreeNode) → reader < upto → slice_get frees reader ≡ Some free → AreReadersOf core free.inputs reader before)
    → (reader : ℕ) (free : FreeNode) → reader < upto + 1 → slice_get frees reader ≡ Some free → AreReadersOf core free.inputs reader now
each_added core frees upto free_at streams before now here is grows own was reader free less at port stream writer input written = elim (cases_eq reader upto) [
  | inl same ↦
      (let it : free_at ≡ free = same_Some free_at free (sym here ∙ ap (slice_get frees) (sym same) ∙ at) in
      subst (λ (r : ℕ). HasReader now (place_of core writer) r) (sym same)
      (own port stream writer (ap (λ (ns : List ℕ). slice_get ns port) (is ∙ ap (λ (f : FreeNode). f.inputs) it) ∙ input) written))
  | inr other ↦ grows.stay (place_of core writer) reader (was reader free (omega (arith, less, other)) at port stream writer input written)
]
