-- Laying at the ends of the outputs' queues is laying at the ends of the prefixes that they stand for.
use Rattle.std.proofs.Common.{◌≡◌, min, ℕ, zero, suc, ℤ, ◌+◌, ◌-◌, ◌<◌, ◌≤◌, true, false, is_some, List, [], ◌∷◌, ◌++◌, length, length-drop, drop, slice_get, get_or, set, map, Option, Some, None, Result, Ok, Err, IfSome, refl, sym, ap, ap₂, subst, ◌∙◌, arith}
use Rattle.std.proofs.lemmas.List.{get_or_default}
use Rattle.mg_time.specs.Time.{done, shift}
use Rattle.mg_value.specs.Payload.{Plain}
use Rattle.mg_value.specs.Packet.{Stamped}
use Rattle.mg_settled.specs.Prefix.{StreamPrefix, MayFollow, raised, closed, empty_prefix}
use Rattle.mg_settled.specs.Prefix as prefix
use Rattle.mg_stream.specs.Queue.{Waiting, StandsFor, MayCome, empty_queue}
use Rattle.mg_stream.specs.Queue as queue
use Rattle.mg_stream.proofs.QueueSteps.{stands_appended_fields, stands_raised, stands_closed}
use Rattle.mg_calc.specs.declared.cause.Cause.{Cause}
use Rattle.mg_calc.specs.declared.emission.Laid.{Laid}
use Rattle.mg_calc.specs.declared.node_fault.Phase.{Phase}
use Rattle.mg_calc.specs.declared.node_fault.Phase.TheVariants.{Open, Call, Process, Close}
use Rattle.mg_calc.specs.Laying.{laying_fault, after, with_packets, with_laid, laid_behind, all_raised}
use Rattle.mg_calc.specs.Laying as laying
use Rattle.mg_calc.proofs.LaidBehind.{unless_good, after_good, may_be_laid, shift_within}
use Rattle.mg_route.specs.Reasons.{reason_of, laid_each, laid_on, all_laid_on}
use Rattle.mg_route.proofs.LayingLemmas.{at_end, IsPart, emission_refused as refused_there, emission_passed as passed_there, emission_laid}
use Rattle.mg_node.specs.Commits.{raised_before, closed_after, outputs_by}
use Rattle.mg_node.specs.Code.QueueLaying.{Stand, StandForSome, appended, all_appended, MayAllCome, perhaps_raised, with_part, MayBeLaid, HasTime, raised_queues, queues_before, closed_queue, queues_after, IsTimed, packets_in, room_at, HasRoomFor, IsLaid}
use Rattle.mg_node.proofs.Zips.{zip_at, zip_put, zip_both, zip_long}

-- What the queues stand for.

all_stand : (q : Waiting Plain) (ps : List (Stamped Plain)) (s : StreamPrefix Plain) → MayAllCome q ps → StandsFor q s → StandsFor (all_appended q ps) (prefix.all_appended s ps)
all_stand q [] s may h = h
all_stand q (p ∷ ps) s may h = all_stand (appended q p) ps (prefix.appended s p) may.2 (stands_appended_fields q (appended q p) p s refl refl refl may.0 h)

raise_stands : (bound : Option ℕ) (q : Waiting Plain) (s : StreamPrefix Plain) → IfSome bound (λ b. b ≤ done) → StandsFor q s → StandsFor (perhaps_raised bound q) (laying.raised_to bound s)
raise_stands None q s le h = h
raise_stands (Some b) q s le h = (let same : b ≡ min b done = omega (arith, le) in subst (λ (n : ℕ). StandsFor (queue.raised_to q b) (raised s n)) same (stands_raised q b s le h))

pub part_stands : (q : Waiting Plain) (laid : Laid) (s : StreamPrefix Plain) → MayAllCome q laid.packets → HasTime laid → StandsFor q s → StandsFor (with_part q laid) (laid_on s laid)
part_stands q laid s may time h = raise_stands laid.bound (all_appended q laid.packets) (prefix.all_appended s laid.packets) time (all_stand q laid.packets s may h)

-- The last part of an emission is laid first.

pub laid_last : {X : Type 0} (f : X → Laid → X) (xs : List X) (es : List Laid) (e : Laid) (d : X) → laid_each f xs (es ++ e ∷ []) ≡ laid_each f (set xs (length es) (f (get_or xs (length es) d) e)) es
laid_last f [] [] e d = refl
laid_last f [] (u ∷ es) e d = refl
laid_last f (x ∷ xs) [] e d = refl
laid_last {X} f (x ∷ xs) (u ∷ es) e d = ap (λ (l : List X). f x u ∷ l) (laid_last f xs es e d)

pub may_last : (qs : List (Waiting Plain)) (es : List Laid) (e : Laid) → MayBeLaid qs (es ++ e ∷ []) → length es < length qs → MayAllCome (get_or qs (length es) empty_queue) e.packets
may_last [] es e may le = absurd (omega (arith, le))
may_last (q ∷ qs) [] e may le = may.0
may_last (q ∷ qs) (u ∷ es) e may le = may_last qs es e may.1 (omega (arith, le))

pub may_rest : (qs : List (Waiting Plain)) (es : List Laid) (e : Laid) (v : Waiting Plain) → MayBeLaid qs (es ++ e ∷ []) → MayBeLaid (set qs (length es) v) es
may_rest qs [] e v may = tt
may_rest [] (u ∷ es) e v may = tt
may_rest (q ∷ qs) (u ∷ es) e v may = (may.0, may_rest qs es e v may.1)

-- laying the parts that are left gives the wanted prefixes
pub record ComesTo (now : List (Waiting Plain)) (parts : List Laid) (wanted : List (StreamPrefix Plain)) : Type 0 where
  pub whole : List (StreamPrefix Plain)
  pub stand : Stand now whole
  pub same : all_laid_on whole parts ≡ wanted

pub comes_further : (now : List (Waiting Plain)) (es : List Laid) (e : Laid) (wanted : List (StreamPrefix Plain)) → ComesTo now (es ++ e ∷ []) wanted → MayBeLaid now (es ++ e ∷ []) → (length es < length now → HasTime e)
    → ComesTo (set now (length es) (with_part (get_or now (length es) empty_queue) e)) es wanted
comes_further now es e wanted c may time = record {
  whole = set c.whole (length es) (laid_on (get_or c.whole (length es) empty_prefix) e);
  stand = zip_put StandsFor now c.whole (length es) _ _ c.stand
      (λ le. part_stands (get_or now (length es) empty_queue) e (get_or c.whole (length es) empty_prefix) (may_last now es e may le) (time le)
      (zip_at StandsFor now c.whole (length es) empty_queue empty_prefix c.stand le));
  same = sym (laid_last laid_on c.whole es e empty_prefix) ∙ c.same;
}

-- the same, for the parts as the code takes them
pub part_may : (now : List (Waiting Plain)) (parts es : List Laid) (e : Laid) (n : ℕ) → parts ≡ es ++ e ∷ [] → n ≡ length es → MayBeLaid now parts → n < length now → MayAllCome (get_or now n empty_queue) e.packets
part_may now parts es e n is count may le =
    subst (λ (k : ℕ). MayAllCome (get_or now k empty_queue) e.packets) (sym count) (may_last now es e (subst (MayBeLaid now) is may) (omega (arith, count, le)))

pub part_put : (now new : List (Waiting Plain)) (parts es : List Laid) (e : Laid) (n : ℕ) → parts ≡ es ++ e ∷ [] → n ≡ length es → new ≡ set now n (with_part (get_or now n empty_queue) e) → laid_each with_part new es ≡ laid_each with_part now parts
part_put now new parts es e n is count put =
    ap (λ (l : List (Waiting Plain)). laid_each with_part l es) (put ∙ ap (λ (k : ℕ). set now k (with_part (get_or now k empty_queue) e)) count)
    ∙ sym (laid_last with_part now es e empty_queue) ∙ ap (laid_each with_part now) (sym is)

pub part_left : (now new : List (Waiting Plain)) (parts es : List Laid) (e : Laid) (n : ℕ) → parts ≡ es ++ e ∷ [] → n ≡ length es → new ≡ set now n (with_part (get_or now n empty_queue) e) → MayBeLaid now parts → MayBeLaid new es
part_left now new parts es e n is count put may =
    subst (λ (l : List (Waiting Plain)). MayBeLaid l es) (sym (put ∙ ap (λ (k : ℕ). set now k (with_part (get_or now k empty_queue) e)) count))
    (may_rest now es e (with_part (get_or now (length es) empty_queue) e) (subst (MayBeLaid now) is may))

pub part_comes : (now new : List (Waiting Plain)) (parts es : List Laid) (e : Laid) (n : ℕ) (wanted : List (StreamPrefix Plain)) → parts ≡ es ++ e ∷ [] → n ≡ length es → new ≡ set now n (with_part (get_or now n empty_queue) e) → MayBeLaid now parts
    → (n < length now → HasTime e) → ComesTo now parts wanted → ComesTo new es wanted
part_comes now new parts es e n wanted is count put may time c =
    subst (λ (l : List (Waiting Plain)). ComesTo l es wanted) (sym (put ∙ ap (λ (k : ℕ). set now k (with_part (get_or now k empty_queue) e)) count))
    (comes_further now es e wanted (subst (λ (l : List Laid). ComesTo now l wanted) is c) (subst (MayBeLaid now) is may) (λ le. time (omega (arith, count, le))))

pub none_left : (now : List (Waiting Plain)) (parts : List Laid) (wanted : List (StreamPrefix Plain)) → parts ≡ [] → ComesTo now parts wanted → Stand now wanted
none_left now parts wanted none c =
    let all : ComesTo now [] wanted = subst (λ (l : List Laid). ComesTo now l wanted) none c in
    subst (Stand now) all.same all.stand

-- an emission of one part
pub only_stands : (now new : List (Waiting Plain)) (es : List Laid) (e : Laid) (whole : List (StreamPrefix Plain)) → es ≡ e ∷ [] → new ≡ set now 0 (with_part (get_or now 0 empty_queue) e) → MayBeLaid now es
    → (0 < length now → HasTime e) → Stand now whole → Stand new (all_laid_on whole es)
only_stands now new es e whole is put may time stand =
    none_left new [] (all_laid_on whole es) refl (part_comes now new es [] e 0 (all_laid_on whole es) is refl put may time (record { whole = whole; stand = stand; same = refl }))

-- Why an emission can't be laid, part by part.

stands_there : (qs : List (Waiting Plain)) (whole : List (StreamPrefix Plain)) (i : ℕ) (q : Waiting Plain) → Stand qs whole → i < length qs → q ≡ get_or qs i q → StandsFor q (get_or whole i empty_prefix)
stands_there qs whole i q stand le is = subst (λ (r : Waiting Plain). StandsFor r (get_or whole i empty_prefix)) (sym is) (zip_at StandsFor qs whole i q empty_prefix stand le)

part_there : (qs : List (Waiting Plain)) (whole : List (StreamPrefix Plain)) (es : List Laid) (i : ℕ) (e : Laid) → Stand qs whole → i < length qs → i < length es → e ≡ get_or es i e → IsPart whole es i (get_or whole i empty_prefix) e
part_there qs whole es i e stand le below is =
    let there : i < length whole = omega (arith, le, zip_long StandsFor qs whole stand) in
    record { output_there = there; output_is = get_or_default whole i empty_prefix (get_or whole i empty_prefix) there; laid_there = below; laid_is = is }

pub fault_found : (offset : Option ℤ) (phase : Phase) (qs : List (Waiting Plain)) (whole : List (StreamPrefix Plain)) (es : List Laid) (i : ℕ) (q : Waiting Plain) (e : Laid) (fault : Option Cause) → Stand qs whole → i < length qs → q ≡ get_or qs i q
    → i < length es → e ≡ get_or es i e → reason_of (laid_behind offset phase whole es) ≡ reason_of (laid_behind offset phase (drop i whole) (drop i es))
    → ((s : StreamPrefix Plain) → StandsFor q s → fault ≡ reason_of (with_packets offset phase s e.packets)) → is_some fault ≡ true → fault ≡ reason_of (laid_behind offset phase whole es)
fault_found offset phase qs whole es i q e fault stand le is below laid_is so_far found some =
    refused_there offset phase whole es i (get_or whole i empty_prefix) e fault (part_there qs whole es i e stand le below laid_is) so_far (found (get_or whole i empty_prefix) (stands_there qs whole i q stand le is)) some

pub fault_passed : (offset : Option ℤ) (phase : Phase) (qs : List (Waiting Plain)) (whole : List (StreamPrefix Plain)) (es : List Laid) (i : ℕ) (q : Waiting Plain) (e : Laid) (fault : Option Cause) → Stand qs whole → i < length qs → q ≡ get_or qs i q
    → i < length es → e ≡ get_or es i e → reason_of (laid_behind offset phase whole es) ≡ reason_of (laid_behind offset phase (drop i whole) (drop i es))
    → ((s : StreamPrefix Plain) → StandsFor q s → fault ≡ reason_of (with_packets offset phase s e.packets)) → is_some fault ≡ false
    → reason_of (laid_behind offset phase whole es) ≡ reason_of (laid_behind offset phase (drop (i + 1) whole) (drop (i + 1) es))
fault_passed offset phase qs whole es i q e fault stand le is below laid_is so_far found none =
    passed_there offset phase whole es i (get_or whole i empty_prefix) e fault (part_there qs whole es i e stand le below laid_is) so_far (found (get_or whole i empty_prefix) (stands_there qs whole i q stand le is)) none

-- without outputs, nothing speaks against an emission
no_outputs : (offset : Option ℤ) (phase : Phase) (es : List Laid) → reason_of (laid_behind offset phase [] es) ≡ None
no_outputs offset phase [] = refl
no_outputs offset phase (e ∷ es) = refl

pub fault_none : (offset : Option ℤ) (phase : Phase) (qs : List (Waiting Plain)) (whole : List (StreamPrefix Plain)) (es : List Laid) (i : ℕ) → Stand qs whole → length qs ≤ i
    → reason_of (laid_behind offset phase whole es) ≡ reason_of (laid_behind offset phase (drop i whole) (drop i es)) → None ≡ reason_of (laid_behind offset phase whole es)
fault_none offset phase qs whole es i stand over so_far =
    sym (so_far ∙ ap (λ (w : List (StreamPrefix Plain)). reason_of (laid_behind offset phase w (drop i es))) (at_end whole i (omega (arith, over, zip_long StandsFor qs whole stand))) ∙ no_outputs offset phase (drop i es))

-- of an emission of one part that part's reason decides
one_reason : (answer : Result (StreamPrefix Plain) Cause) (bound : Option ℕ) (whole : List (StreamPrefix Plain))
    → reason_of (after (after answer (λ longer. Ok (laying.raised_to bound longer))) (λ longer. Ok (longer ∷ whole))) ≡ reason_of answer
one_reason (Ok value) bound whole = refl
one_reason (Err cause) bound whole = refl

pub part_reason : (offset : Option ℤ) (phase : Phase) (qs : List (Waiting Plain)) (whole : List (StreamPrefix Plain)) (q : Waiting Plain) (e : Laid) (fault : Option Cause) → Stand qs whole → 0 < length qs → q ≡ get_or qs 0 q
    → ((s : StreamPrefix Plain) → StandsFor q s → fault ≡ reason_of (with_packets offset phase s e.packets)) → fault ≡ reason_of (laid_behind offset phase whole (e ∷ []))
part_reason offset phase [] whole q e fault stand le is found = absurd (omega (arith, le))
part_reason offset phase (p ∷ qs) [] q e fault stand le is found = absurd stand
part_reason offset phase (p ∷ qs) (s ∷ whole) q e fault stand le is found =
    found s (subst (λ (x : Waiting Plain). StandsFor x s) (sym is) stand.0) ∙ sym (one_reason (with_packets offset phase s e.packets) e.bound whole)

-- a list of one element is that element
pub only_one : {X : Type 0} (xs : List X) (x : X) → length xs ≡ 1 → x ≡ get_or xs 0 x → x ∷ [] ≡ xs
only_one [] x one is = absurd (omega (arith, one))
only_one {X} (y ∷ []) x one is = ap (λ (z : X). z ∷ []) is
only_one (y ∷ z ∷ xs) x one is = absurd (omega (arith, one))

-- how many packets an emission has at an output
pub packets_none : (output : ℕ) (es : List Laid) → None ≡ slice_get es output → 0 ≡ packets_in output es
packets_none output [] none = refl
packets_none zero (e ∷ es) none = absurd cc
packets_none (suc output) (e ∷ es) none = packets_none output es none

-- What laying keeps: the packets that were given up, and the room that isn't taken.

gone_all : (q : Waiting Plain) (ps : List (Stamped Plain)) → (all_appended q ps).gone ≡ q.gone
gone_all q [] = refl
gone_all q (p ∷ ps) = gone_all (appended q p) ps

gone_raised : (bound : Option ℕ) (q : Waiting Plain) → (perhaps_raised bound q).gone ≡ q.gone
gone_raised None q = refl
gone_raised (Some b) q = refl

gone_each : (qs : List (Waiting Plain)) (es : List Laid) → map (λ q. q.gone) (laid_each with_part qs es) ≡ map (λ q. q.gone) qs
gone_each qs [] = refl
gone_each [] (e ∷ es) = refl
gone_each (q ∷ qs) (e ∷ es) = ap₂ (λ (n : ℕ) (ns : List ℕ). n ∷ ns) (gone_raised e.bound (all_appended q e.packets) ∙ gone_all q e.packets) (gone_each qs es)

room_all : (q : Waiting Plain) (ps : List (Stamped Plain)) → q.spare ≤ (all_appended q ps).spare + length ps
room_all q [] = omega arith
room_all q (p ∷ ps) = (let later : q.spare - 1 ≤ (all_appended (appended q p) ps).spare + length ps = room_all (appended q p) ps in omega (arith, later))

room_raised : (bound : Option ℕ) (q : Waiting Plain) → (perhaps_raised bound q).spare ≡ q.spare
room_raised None q = refl
room_raised (Some b) q = refl

room_each : (qs : List (Waiting Plain)) (es : List Laid) (output : ℕ) → room_at output qs ≤ room_at output (laid_each with_part qs es) + packets_in output es
room_each qs [] output = omega arith
room_each [] (e ∷ es) output = omega arith
room_each (q ∷ qs) (e ∷ es) zero = (let all = room_all q e.packets in let same = room_raised e.bound (all_appended q e.packets) in omega (arith, all, same))
room_each (q ∷ qs) (e ∷ es) (suc output) = room_each qs es output

gone_map : (f : Waiting Plain → Waiting Plain) (qs : List (Waiting Plain)) → ((q : Waiting Plain) → (f q).gone ≡ q.gone) → map (λ q. q.gone) (map f qs) ≡ map (λ q. q.gone) qs
gone_map f [] same = refl
gone_map f (q ∷ qs) same = ap₂ (λ (n : ℕ) (ns : List ℕ). n ∷ ns) (same q) (gone_map f qs same)

room_map : (f : Waiting Plain → Waiting Plain) (qs : List (Waiting Plain)) (output : ℕ) → ((q : Waiting Plain) → (f q).spare ≡ q.spare) → room_at output (map f qs) ≡ room_at output qs
room_map f [] output same = refl
room_map f (q ∷ qs) zero same = same q
room_map f (q ∷ qs) (suc output) same = room_map f qs output same

-- Where there is no reason against an emission, it may be laid.

follows : (q : Waiting Plain) (s : StreamPrefix Plain) (p : Stamped Plain) → MayFollow s p → StandsFor q s → MayCome q p.at
follows q s p may h =
    let above = may.above in
    let bound = h.bound in
    let gone = h.gone in
    record {
      allowed = may.allowed;
      above = omega (arith, above, bound);
      alone = (λ e. (let none = may.alone e in omega (arith, none, gone, ap length h.waiting, length-drop q.gone s.packets)));
    }

come_all : (offset : Option ℤ) (phase : Phase) (q : Waiting Plain) (s longer : StreamPrefix Plain) (ps : List (Stamped Plain)) → with_packets offset phase s ps ≡ Ok longer → StandsFor q s → length ps ≤ q.spare → MayAllCome q ps
come_all offset phase q s longer [] good h room = tt
come_all offset phase q s longer (p ∷ ps) good h room =
    let parts = unless_good (laying_fault offset phase s p) (with_packets offset phase (prefix.appended s p) ps) longer good in
    let may : MayCome q p.at = follows q s p (may_be_laid offset phase s p parts.0) h in
    (may, omega (arith, room), come_all offset phase (appended q p) (prefix.appended s p) longer ps parts.1 (stands_appended_fields q (appended q p) p s refl refl refl may h) (omega (arith, room)))

lay_good : (offset : Option ℤ) (phase : Phase) (qs : List (Waiting Plain)) (whole longer : List (StreamPrefix Plain)) (es : List Laid) → laid_behind offset phase whole es ≡ Ok longer → Stand qs whole
    → ((output : ℕ) → output < length qs → packets_in output es ≤ room_at output qs) → MayBeLaid qs es
lay_good offset phase qs whole longer [] good h room = tt
lay_good offset phase [] whole longer (e ∷ es) good h room = tt
lay_good offset phase (q ∷ qs) [] longer (e ∷ es) good h room = absurd h
lay_good offset phase (q ∷ qs) (s ∷ whole) longer (e ∷ es) good h room =
    let here = after_good (with_laid offset phase s e) (λ l. after (laid_behind offset phase whole es) (λ others. Ok (l ∷ others))) longer good in
    let rest = after_good (laid_behind offset phase whole es) (λ others. Ok (here.0 ∷ others)) longer here.2 in
    let packets = after_good (with_packets offset phase s e.packets) (λ l. Ok (laying.raised_to e.bound l)) here.0 here.1 in (
      come_all offset phase q s packets.0 e.packets packets.1 h.0 (room 0 (omega arith)),
      lay_good offset phase qs whole rest.0 es rest.1 h.1 (λ output le. room (suc output) (omega (arith, le))),
    )

pub may_lay : (offset : Option ℤ) (phase : Phase) (qs : List (Waiting Plain)) (es : List Laid) (some : StandForSome qs) → None ≡ reason_of (laid_behind offset phase some.whole es) → HasRoomFor qs (Ok es) → MayBeLaid qs es
may_lay offset phase qs es some none room = lay_good offset phase qs some.whole _ es (emission_laid offset phase some.whole es (sym none)) some.stand room

-- Raising and closing.

raised_stand : (offset : Option ℤ) (at : ℕ) (qs : List (Waiting Plain)) (whole : List (StreamPrefix Plain)) → at ≤ done → Stand qs whole → Stand (raised_queues offset at qs) (all_raised offset at whole)
raised_stand None at qs whole le h = h
raised_stand (Some offset) at qs whole le h =
    zip_both StandsFor (λ q. queue.raised_to q (shift at offset)) (λ s. raised s (shift at offset)) qs whole (λ q s. stands_raised q (shift at offset) s (shift_within at offset le)) h

before_stand : (offset : Option ℤ) (phase : Phase) (qs : List (Waiting Plain)) (whole : List (StreamPrefix Plain)) → IsTimed phase → Stand qs whole → Stand (queues_before offset phase qs) (raised_before offset phase whole)
before_stand offset Open qs whole timed h = h
before_stand offset (Call n) qs whole timed h = h
before_stand offset (Process at) qs whole timed h = raised_stand offset at qs whole timed h
before_stand offset Close qs whole timed h = raised_stand offset done qs whole (omega arith) h

raised_gone : (offset : Option ℤ) (at : ℕ) (qs : List (Waiting Plain)) → map (λ q. q.gone) (raised_queues offset at qs) ≡ map (λ q. q.gone) qs
raised_gone None at qs = refl
raised_gone (Some offset) at qs = gone_map (λ q. queue.raised_to q (shift at offset)) qs (λ q. refl)

before_gone : (offset : Option ℤ) (phase : Phase) (qs : List (Waiting Plain)) → map (λ q. q.gone) (queues_before offset phase qs) ≡ map (λ q. q.gone) qs
before_gone offset Open qs = refl
before_gone offset (Call n) qs = refl
before_gone offset (Process at) qs = raised_gone offset at qs
before_gone offset Close qs = raised_gone offset done qs

raised_room : (offset : Option ℤ) (at : ℕ) (qs : List (Waiting Plain)) (output : ℕ) → room_at output (raised_queues offset at qs) ≡ room_at output qs
raised_room None at qs output = refl
raised_room (Some offset) at qs output = room_map (λ q. queue.raised_to q (shift at offset)) qs output (λ q. refl)

before_room : (offset : Option ℤ) (phase : Phase) (qs : List (Waiting Plain)) (output : ℕ) → room_at output (queues_before offset phase qs) ≡ room_at output qs
before_room offset Open qs output = refl
before_room offset (Call n) qs output = refl
before_room offset (Process at) qs output = raised_room offset at qs output
before_room offset Close qs output = raised_room offset done qs output

after_stand : (phase : Phase) (qs : List (Waiting Plain)) (whole : List (StreamPrefix Plain)) → Stand qs whole → Stand (queues_after phase qs) (closed_after phase whole)
after_stand Open qs whole h = h
after_stand (Call n) qs whole h = h
after_stand (Process at) qs whole h = h
after_stand Close qs whole h = zip_both StandsFor closed_queue closed qs whole (λ q s. stands_closed q s) h

after_gone : (phase : Phase) (qs : List (Waiting Plain)) → map (λ q. q.gone) (queues_after phase qs) ≡ map (λ q. q.gone) qs
after_gone Open qs = refl
after_gone (Call n) qs = refl
after_gone (Process at) qs = refl
after_gone Close qs = gone_map closed_queue qs (λ q. refl)

after_room : (phase : Phase) (qs : List (Waiting Plain)) (output : ℕ) → room_at output (queues_after phase qs) ≡ room_at output qs
after_room Open qs output = refl
after_room (Call n) qs output = refl
after_room (Process at) qs output = refl
after_room Close qs output = room_map closed_queue qs output (λ q. refl)

-- An emission is laid, or there is a cause why it can't be.

refused_by : (phase : Phase) (cause : Cause) (whole : List (StreamPrefix Plain)) (given : Result (List (StreamPrefix Plain)) Cause) (now : List (Waiting Plain)) → Some cause ≡ reason_of given → Stand now whole
    → (Some cause ≡ reason_of (after given (λ longer. Ok (closed_after phase longer)))) × Stand now (outputs_by whole (after given (λ longer. Ok (closed_after phase longer))))
refused_by phase cause whole (Ok longer) now is h = absurd cc
refused_by phase cause whole (Err other) now is h = (is, h)

pub emission_refused : (offset : Option ℤ) (phase : Phase) (emission : List Laid) (qs : List (Waiting Plain)) (cause : Cause)
    → ((whole : List (StreamPrefix Plain)) → Stand qs whole → Some cause ≡ reason_of (laid_behind offset phase whole emission)) → IsLaid offset phase (λ whole. whole) (Ok emission) qs qs (Some cause)
emission_refused offset phase emission qs cause is = record {
  laid = (λ whole h. refused_by phase cause whole (laid_behind offset phase whole emission) qs (is whole h) h);
  gone = refl;
  room = (λ output le. omega arith);
}

pub emission_put : (offset : Option ℤ) (phase : Phase) (emission : List Laid) (qs laid now : List (Waiting Plain))
    → ((whole : List (StreamPrefix Plain)) → Stand qs whole → None ≡ reason_of (laid_behind offset phase whole emission))
    → laid ≡ laid_each with_part qs emission → ((whole : List (StreamPrefix Plain)) → Stand qs whole → Stand laid (all_laid_on whole emission)) → now ≡ queues_after phase laid
    → IsLaid offset phase (λ whole. whole) (Ok emission) qs now None
emission_put offset phase emission qs laid now none laid_is stand is = record {
  laid = (λ whole h. (
      (let good = emission_laid offset phase whole emission (sym (none whole h)) in
      let stands : Stand now (closed_after phase (all_laid_on whole emission)) = subst (λ (l : List (Waiting Plain)). Stand l (closed_after phase (all_laid_on whole emission))) (sym is) (after_stand phase laid (all_laid_on whole emission) (stand whole h)) in
      subst (λ (r : Result (List (StreamPrefix Plain)) Cause). (None ≡ reason_of (after r (λ longer. Ok (closed_after phase longer)))) × Stand now (outputs_by whole (after r (λ longer. Ok (closed_after phase longer))))) (sym good) (refl, stands))));
  gone = ap (map (λ (q : Waiting Plain). q.gone)) is ∙ after_gone phase laid ∙ ap (map (λ (q : Waiting Plain). q.gone)) laid_is ∙ gone_each qs emission;
  room = (λ output le. (
      (let same : room_at output now ≡ room_at output (laid_each with_part qs emission) = ap (room_at output) is ∙ after_room phase laid output ∙ ap (room_at output) laid_is in
      let each = room_each qs emission output in
      omega (arith, same, each))));
}

-- An answer is laid, after the outputs are raised.

long_before : (offset : Option ℤ) (phase : Phase) (qs : List (Waiting Plain)) → length (queues_before offset phase qs) ≡ length qs
long_before offset phase qs = sym (counts (queues_before offset phase qs)) ∙ ap length (before_gone offset phase qs) ∙ counts qs
  where
    counts : (l : List (Waiting Plain)) → length (map (λ q. q.gone) l) ≡ length l
    counts [] = refl
    counts (q ∷ l) = ap suc (counts l)

pub raised_room_for : (offset : Option ℤ) (phase : Phase) (answer : Result (List Laid) Cause) (qs raised : List (Waiting Plain)) → raised ≡ queues_before offset phase qs → HasRoomFor qs answer → HasRoomFor raised answer
raised_room_for offset phase answer qs raised is room = subst (λ (l : List (Waiting Plain)). HasRoomFor l answer) (sym is)
    (λ output le. (let room_here = room output (let same = long_before offset phase qs in omega (arith, le, same)) in let same = before_room offset phase qs output in omega (arith, room_here, same)))

pub raised_some : (offset : Option ℤ) (phase : Phase) (qs raised : List (Waiting Plain)) → raised ≡ queues_before offset phase qs → IsTimed phase → StandForSome qs → StandForSome raised
raised_some offset phase qs raised is timed some = record {
  whole = raised_before offset phase some.whole;
  stand = subst (λ (l : List (Waiting Plain)). Stand l (raised_before offset phase some.whole)) (sym is) (before_stand offset phase qs some.whole timed some.stand);
}

pub answer_put : (offset : Option ℤ) (phase : Phase) (answer : Result (List Laid) Cause) (qs raised now : List (Waiting Plain)) (cause : Option Cause) → raised ≡ queues_before offset phase qs → IsTimed phase
    → IsLaid offset phase (λ whole. whole) answer raised now cause → IsLaid offset phase (raised_before offset phase) answer qs now cause
answer_put offset phase answer qs raised now cause is timed h = record {
  laid = (λ whole stand. h.laid (raised_before offset phase whole) (subst (λ (l : List (Waiting Plain)). Stand l (raised_before offset phase whole)) (sym is) (before_stand offset phase qs whole timed stand)));
  gone = h.gone ∙ ap (map (λ (q : Waiting Plain). q.gone)) is ∙ before_gone offset phase qs;
  room = (λ output le. (
      (let long = ap length is ∙ long_before offset phase qs in
      let room = h.room output (omega (arith, le, long)) in
      let same : room_at output raised ≡ room_at output qs = ap (room_at output) is ∙ before_room offset phase qs output in
      omega (arith, room, same))));
}

pub cause_put : (offset : Option ℤ) (phase : Phase) (cause : Cause) (qs : List (Waiting Plain)) → IsLaid offset phase (λ whole. whole) (Err cause) qs qs (Some cause)
cause_put offset phase cause qs = record {
  laid = (λ whole stand. (refl, stand));
  gone = refl;
  room = (λ output le. omega arith);
}
