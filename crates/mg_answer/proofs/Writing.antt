-- A text that is written in blocks, one set of lines after the other.
use Rattle.std.proofs.Common.{◌≡◌, ◌<◌, ◌≤◌, ◌+◌, ℕ, zero, suc, List, [], ◌∷◌, ◌++◌, length, drop, get_or, slice_get, Bool, true, false, Option, None, Some, unwrap_or, not, refl, sym, ap, ◌∙◌, subst, arith, append_assoc, append-nil}
use Rattle.mg_edge.specs.Edge.{SinkTold, HasRisen}
use Rattle.mg_edge.specs.Runs.{TookAll}
use Rattle.mg_edge.proofs.Runs.{TookAll-start}
use Rattle.mg_value.specs.Payload.{Plain}
use Rattle.mg_value.specs.Packet.{Stamped}
use Rattle.mg_settled.specs.Settled.{TimedSet}
use Rattle.mg_feed.specs.Sent.{SentAll, SentPart, Sent}
use Rattle.mg_answer.specs.Text.{packet_text, set_text, sets_text}
use Rattle.mg_answer.specs.Devices.{Device, device, IsFront, TookFront}
use Rattle.mg_answer.specs.Put.{TextView, nothing_put, PutBy, HasPut}
use Rattle.mg_answer.specs.Code.Written.{Pours, HandedOn}

-- One sink --

TookAll-then : (first before now : Option (List ℕ)) (xs ys : List ℕ) → TookAll first before xs → TookAll before now ys → TookAll first now (xs ++ ys)
TookAll-then None before now xs ys one two = tt
TookAll-then (Some taken) before now xs ys one two =
    let two' : now ≡ Some ((taken ++ xs) ++ ys) = subst (λ (b : Option (List ℕ)). TookAll b now ys) one two in
    two' ∙ ap (λ l. Some l) (append_assoc taken xs ys)

sent-then : (first before now : SinkTold) (xs ys : List ℕ) → SentAll first before xs → SentAll before now ys → SentAll first now (xs ++ ys)
sent-then first before now xs ys one two = record {
  whole = TookAll-then first.taken before.taken now.taken xs ys one.whole two.whole;
  steady = two.steady ∙ one.steady;
}

part-then : (first before now : SinkTold) (xs ys : List ℕ) → SentAll first before xs → SentPart before now ys → SentPart first now (xs ++ ys)
part-then first before now xs ys one two = record {
  front = xs ++ two.front;
  rest = two.rest;
  cut = ap (λ l. xs ++ l) two.cut ∙ sym (append_assoc xs two.front two.rest);
  taken = TookAll-then first.taken before.taken now.taken xs two.front one.whole two.taken;
  rose = subst (λ (n : ℕ). HasRisen n now.faults) one.steady two.rose;
}

-- whether a write failed or not, the sink took a prefix
pub front-sent : (all : Bool) (first now : SinkTold) (text : List ℕ) → Sent all first now text → TookFront (device first now) text
front-sent true first now text sent = (text, ([], sym (append-nil text)), sent.whole)
front-sent false first now text sent = (sent.front, (sent.rest, sent.cut), sent.taken)

pub front-none : (told : SinkTold) (text : List ℕ) → TookFront (device told told) text
front-none told text = ([], (text, refl), TookAll-start told.taken)

-- a prefix of a prefix
pub front-on : (sink : Device SinkTold) (text longer : List ℕ) → IsFront text longer → TookFront sink text → TookFront sink longer
front-on sink text longer begins took =
    (took.0, (took.1.0 ++ begins.0, begins.1 ∙ ap (λ l. l ++ begins.0) took.1.1 ∙ append_assoc took.0 took.1.0 begins.0), took.2)

-- A text that is put --

pub nothing-put : (first : SinkTold) (names : List (List ℕ)) → HasPut first first (nothing_put names) []
nothing-put first names = ([], record { whole = TookAll-start first.taken; steady = refl }, refl)

-- the sink took a prefix of what is put so far
pub put-front : (failed : Bool) (first now : SinkTold) (kept text : List ℕ) → PutBy failed first now kept text → TookFront (device first now) text
put-front true first now kept text put = (put.front, (put.rest, put.cut), put.taken)
put-front false first now kept text put = (put.0, (kept, put.2), put.1.whole)

-- more text is kept, and then handed on or not
put-by : (all : Bool) (first before now : SinkTold) (kept more kept' left text : List ℕ) → PutBy false first before kept text → kept' ≡ kept ++ more
    → HandedOn all before now kept' left → PutBy (not all) first now left (text ++ more)
put-by true first before now kept more kept' left text put is handed = (
  put.0 ++ handed.0,
  sent-then first before now put.0 handed.0 put.1 handed.1,
  ap (λ l. l ++ more) put.2 ∙ append_assoc put.0 kept more ∙ ap (λ l. put.0 ++ l) (sym is ∙ handed.2) ∙ sym (append_assoc put.0 handed.0 left),
)
put-by false first before now kept more kept' left text put is part =
    subst (λ (l : List ℕ). SentPart first now l) (ap (λ l. put.0 ++ l) is ∙ sym (append_assoc put.0 kept more) ∙ ap (λ l. l ++ more) (sym put.2))
    (part-then first before now put.0 kept' put.1 part)

pub put-more : (all failed failed' : Bool) (first before now : SinkTold) (kept more kept' left text : List ℕ) → failed ≡ false → PutBy failed first before kept text
    → kept' ≡ kept ++ more → HandedOn all before now kept' left → failed' ≡ not all → PutBy failed' first now left (text ++ more)
put-more all failed failed' first before now kept more kept' left text was put is handed told =
    subst (λ (b : Bool). PutBy b first now left (text ++ more)) (sym told)
    (put-by all first before now kept more kept' left text (subst (λ (b : Bool). PutBy b first before kept text) was put) is handed)

-- all that is kept is written
rest-by : (all : Bool) (first before now : SinkTold) (kept left text : List ℕ) → PutBy false first before kept text → Sent all before now kept → left ≡ []
    → PutBy (not all) first now left text
rest-by true first before now kept left text put sent none =
    (put.0 ++ kept, sent-then first before now put.0 kept put.1 sent, put.2 ∙ sym (append-nil (put.0 ++ kept)) ∙ ap (λ l. (put.0 ++ kept) ++ l) (sym none))
rest-by false first before now kept left text put part none =
    subst (λ (l : List ℕ). SentPart first now l) (sym put.2) (part-then first before now put.0 kept put.1 part)

pub put-rest : (all failed failed' : Bool) (first before now : SinkTold) (kept left text : List ℕ) → failed ≡ false → PutBy failed first before kept text
    → Sent all before now kept → left ≡ [] → failed' ≡ not all → PutBy failed' first now left text
put-rest all failed failed' first before now kept left text was put sent none told =
    subst (λ (b : Bool). PutBy b first now left text) (sym told)
    (rest-by all first before now kept left text (subst (λ (b : Bool). PutBy b first before kept text) was put) sent none)

-- a text was sent if nothing of it is kept, unless a write has failed
pub put-sent : (failed : Bool) (first now : SinkTold) (kept text : List ℕ) → (failed ≡ false → kept ≡ []) → PutBy failed first now kept text → Sent (not failed) first now text
put-sent true first now kept text none put = put
put-sent false first now kept text none put =
    subst (λ (l : List ℕ). SentAll first now l) (sym (put.2 ∙ ap (λ l. put.0 ++ l) (none refl) ∙ append-nil put.0)) put.1

-- Sets --

-- the next set's lines stand before the lines of the later sets
sets-next : (names : List (List ℕ)) (sets : List (TimedSet Plain)) (i : ℕ) (timed : TimedSet Plain) → i < length sets → timed ≡ get_or sets i timed
    → sets_text names (drop i sets) ≡ set_text names timed.set ++ sets_text names (drop (suc i) sets)
sets-next names [] i timed lt is = absurd (omega arith)
sets-next names (s ∷ sets) zero timed lt is = ap (λ (t : TimedSet Plain). set_text names t.set ++ sets_text names sets) (sym is)
sets-next names (s ∷ sets) (suc i) timed lt is = sets-next names sets i timed (omega arith) is

sets-past : (names : List (List ℕ)) (sets : List (TimedSet Plain)) (i : ℕ) → length sets ≤ i → sets_text names (drop i sets) ≡ []
sets-past names [] zero past = refl
sets-past names [] (suc i) past = refl
sets-past names (s ∷ sets) zero past = absurd (omega arith)
sets-past names (s ∷ sets) (suc i) past = sets-past names sets i (omega arith)

pub pours-start : (told : SinkTold) (view : TextView) (whole : List ℕ) → view ≡ nothing_put view.names → Pours told told view whole whole
pours-start told view whole is = record { so_far = []; has = subst (λ (v : TextView). HasPut told told v []) (sym is) (nothing-put told view.names); is = refl }

-- the lines of one more set
pub pours-set : (first before now : SinkTold) (view view' : TextView) (names : List (List ℕ)) (sets : List (TimedSet Plain)) (i : ℕ) (timed : TimedSet Plain)
    (set : List (Option (Stamped Plain))) (whole : List ℕ) → Pours first before view whole (sets_text names (drop i sets)) → i < length sets → timed ≡ get_or sets i timed → set ≡ timed.set
    → view.names ≡ names
    → ((told : SinkTold) (text : List ℕ) → HasPut told before view text → HasPut told now view' (text ++ set_text view.names set))
    → Pours first now view' whole (sets_text names (drop (i + 1) sets))
pours-set first before now view view' names sets i timed set whole pours lt is is_set named put =
    let more : suc i ≡ i + 1 = omega arith in
    let rest = sets_text names (drop (suc i) sets) in
    let same : set_text view.names set ≡ set_text names timed.set = ap (λ l. set_text l set) named ∙ ap (λ (p : List (Option (Stamped Plain))). set_text names p) is_set in
    subst (λ (j : ℕ). Pours first now view' whole (sets_text names (drop j sets))) more
    (record {
      so_far = pours.so_far ++ set_text names timed.set;
      has = subst (λ (l : List ℕ). HasPut first now view' (pours.so_far ++ l)) same (put first pours.so_far pours.has);
      is = pours.is ∙ ap (λ l. pours.so_far ++ l) (sets-next names sets i timed lt is) ∙ sym (append_assoc pours.so_far (set_text names timed.set) rest);
    })

pub pours-end : (first now : SinkTold) (view : TextView) (names : List (List ℕ)) (sets : List (TimedSet Plain)) (i : ℕ) (whole : List ℕ)
    → Pours first now view whole (sets_text names (drop i sets)) → length sets ≤ i → HasPut first now view whole
pours-end first now view names sets i whole pours past =
    subst (λ (l : List ℕ). HasPut first now view l) (sym (pours.is ∙ ap (λ l. pours.so_far ++ l) (sets-past names sets i past) ∙ append-nil pours.so_far)) pours.has

-- the text that was put is a prefix of the whole text
pub pours-front : (first before now : SinkTold) (view : TextView) (whole rest : List ℕ) → Pours first before view whole rest → now ≡ before → TookFront (device first now) whole
pours-front first before now view whole rest pours is =
    subst (λ (t : SinkTold). TookFront (device first t) whole) (sym is)
    (front-on (device first before) pours.so_far whole (rest, pours.is) (put-front view.failed first before view.kept pours.so_far pours.has))

-- Places of one set --

abbrev Places : Type 0
Places = List (Option (Stamped Plain))

set-past : (names : List (List ℕ)) → set_text names [] ≡ []
set-past [] = refl
set-past (name ∷ names) = refl

-- an output's place, and the places after this one
set-next : (names : List (List ℕ)) (set : Places) (i : ℕ) (name : List ℕ) → i < length names → name ≡ get_or names i name
    → set_text (drop i names) (drop i set) ≡ packet_text name (unwrap_or (slice_get set i) None) ++ set_text (drop (suc i) names) (drop (suc i) set)
set-next [] set i name lt is = absurd (omega arith)
set-next (n ∷ names) [] zero name lt is = sym (set-past names)
set-next (n ∷ names) [] (suc i) name lt is = set-past (drop i names) ∙ sym (set-past (drop (suc i) names))
set-next (n ∷ names) (p ∷ set) zero name lt is = ap (λ m. packet_text m p ++ set_text names set) (sym is)
set-next (n ∷ names) (p ∷ set) (suc i) name lt is = set-next names set i name (omega arith) is

-- one more output's line
pub set-step : (names : List (List ℕ)) (set : Places) (i : ℕ) (name : List ℕ) (place : Option (Stamped Plain)) (whole text text' : List ℕ)
    → whole ≡ text ++ set_text (drop i names) (drop i set) → i < length names → name ≡ get_or names i name → place ≡ unwrap_or (slice_get set i) None
    → text' ≡ text ++ packet_text name place → whole ≡ text' ++ set_text (drop (i + 1) names) (drop (i + 1) set)
set-step names set i name place whole text text' so_far lt is_name is_place is =
    let more : suc i ≡ i + 1 = omega arith in
    subst (λ (j : ℕ). whole ≡ text' ++ set_text (drop j names) (drop j set)) more
    (so_far ∙ ap (λ l. text ++ l) (set-next names set i name lt is_name)
    ∙ ap (λ o. text ++ (packet_text name o ++ set_text (drop (suc i) names) (drop (suc i) set))) (sym is_place)
    ∙ sym (append_assoc text (packet_text name place) (set_text (drop (suc i) names) (drop (suc i) set)))
    ∙ ap (λ l. l ++ set_text (drop (suc i) names) (drop (suc i) set)) (sym is))

pub set-end : (names : List (List ℕ)) (set : Places) (i : ℕ) (whole text : List ℕ) → whole ≡ text ++ set_text (drop i names) (drop i set) → length names ≤ i → text ≡ whole
set-end names set i whole text so_far past = sym (so_far ∙ ap (λ l. text ++ l) (none names set i past) ∙ append-nil text)
  where
    none : (names : List (List ℕ)) (set : Places) (i : ℕ) → length names ≤ i → set_text (drop i names) (drop i set) ≡ []
    none [] set zero past = refl
    none [] set (suc i) past = refl
    none (n ∷ names) set zero past = absurd (omega arith)
    none (n ∷ names) [] (suc i) past = set-past (drop i names)
    none (n ∷ names) (p ∷ set) (suc i) past = none names set i (omega arith)
