-- One more event's line is put after those of the earlier events, or memory runs out.
use Rattle.std.proofs.Common.{◌≡◌, ℕ, List, [], ◌∷◌, ◌++◌, Bool, true, false, Result, Ok, Err, OnOk, OnErr, sym, ap, ◌∙◌, subst, append_assoc, append-nil}
use Rattle.std.specs.Result.{is_err}
use Rattle.std.proofs.lemmas.Bool.{false≢true}
use Rattle.std.proofs.lemmas.List.Concat.{flat_map-append}
use Rattle.mg_edge.specs.Edge.{SinkTold}
use Rattle.mg_calc.specs.declared.event.Event.{Event}
use Rattle.mg_trace.specs.Event.{event_text}
use Rattle.mg_trace.specs.Trace.{events_text}
use Rattle.mg_answer.specs.Devices.{device, TookFront}
use Rattle.mg_answer.specs.Put.{BlockView, HasPutIn}
use Rattle.mg_answer.proofs.Writing.{put-front, front-on}
use Rattle.mg_drive.specs.Recorded.{HasEvents}

events_more : (text : List ℕ) (events : List Event) (event : Event) → (text ++ events_text events) ++ event_text event ≡ text ++ events_text (events ++ event ∷ [])
events_more text events event =
    append_assoc text (events_text events) (event_text event)
    ∙ ap (λ (l : List ℕ). text ++ l) (ap (λ (l : List ℕ). events_text events ++ l) (sym (append-nil (event_text event))) ∙ sym (flat_map-append event_text events (event ∷ [])))

front_more : (first now : SinkTold) (text : List ℕ) (events : List Event) (event : Event) → TookFront (device first now) (text ++ events_text events) → TookFront (device first now) (text ++ events_text (events ++ event ∷ []))
front_more first now text events event took =
    front-on (device first now) (text ++ events_text events) (text ++ events_text (events ++ event ∷ [])) (event_text event, sym (events_more text events event)) took

-- memory had run out before
pub event_past : (began now : SinkTold) (blocks_began blocks : BlockView) (event : Event) (out_of_memory : Bool) → out_of_memory ≡ true → (events : List Event)
    → HasEvents began blocks_began out_of_memory now blocks events → HasEvents began blocks_began out_of_memory now blocks (events ++ event ∷ [])
event_past began now blocks_began blocks event true is events has = λ first text there. front_more first now text events event (has first text there)
event_past began now blocks_began blocks event false is events has = absurd (false≢true is)

put_on : {T E : Type 0} (r : Result T E) (began before now : SinkTold) (blocks_began blocks blocks_now : BlockView) (event : Event)
    → OnOk r ((first : SinkTold) (text : List ℕ) → HasPutIn first before blocks text → HasPutIn first now blocks_now (text ++ event_text event)) → OnErr r (now ≡ before)
    → (events : List Event) → HasEvents began blocks_began false before blocks events → HasEvents began blocks_began (is_err r) now blocks_now (events ++ event ∷ [])
put_on (Ok v) began before now blocks_began blocks blocks_now event put unwritten events has = λ first text there.
    subst (λ (l : List ℕ). HasPutIn first now blocks_now l) (events_more text events event) (put first (text ++ events_text events) (has first text there))
put_on (Err e) began before now blocks_began blocks blocks_now event put unwritten events has = λ first text there.
    front_more first now text events event
    (subst (λ (t : SinkTold). TookFront (device first t) (text ++ events_text events)) (sym unwritten)
    (put-front blocks.failed first before blocks.kept (text ++ events_text events) (has first text there)))

-- memory runs out now, or not
pub event_put : {T E : Type 0} (r : Result T E) (began before now : SinkTold) (blocks_began blocks blocks_now : BlockView) (event : Event) (out_of_memory : Bool) → out_of_memory ≡ false
    → OnOk r ((first : SinkTold) (text : List ℕ) → HasPutIn first before blocks text → HasPutIn first now blocks_now (text ++ event_text event)) → OnErr r (now ≡ before)
    → (events : List Event) → HasEvents began blocks_began out_of_memory before blocks events → HasEvents began blocks_began (is_err r) now blocks_now (events ++ event ∷ [])
event_put r began before now blocks_began blocks blocks_now event out_of_memory is put unwritten events has =
    put_on r began before now blocks_began blocks blocks_now event put unwritten events (subst (λ (b : Bool). HasEvents began blocks_began b before blocks events) is has)
