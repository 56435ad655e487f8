-- The lines of the events of a run, which are put into a text one by one.
use Rattle.std.specs.Prelude.{ℕ, List, ◌++◌, Bool, true, false}
use Rattle.mg_edge.specs.Edge.{SinkTold}
use Rattle.mg_calc.specs.declared.event.Event.{Event}
use Rattle.mg_trace.specs.Trace.{events_text}
use Rattle.mg_answer.specs.Devices.{device, TookFront}
use Rattle.mg_answer.specs.Put.{BlockView, HasPutIn}

-- All of a text was put since a sink told `first`; or memory ran out, and the sink took a prefix of the text.
abbrev pub HasPutUnless : Bool → SinkTold → SinkTold → BlockView → List ℕ → Type 0
HasPutUnless false first now blocks text = HasPutIn first now blocks text
HasPutUnless true first now blocks text = TookFront (device first now) text

-- The lines of these events were put after whatever text was put before, unless memory ran out.
abbrev pub HasEvents : SinkTold → BlockView → Bool → SinkTold → BlockView → List Event → Type 0
HasEvents sink blocks out_of_memory sink_now blocks_now events =
    (first : SinkTold) (text : List ℕ) → HasPutIn first sink blocks text → HasPutUnless out_of_memory first sink_now blocks_now (text ++ events_text events)
