-- The standing of an engine only grows: when its outputs stay the same, are raised, or give up packets.
use Rattle.std.proofs.Common.{◌≡◌, ℕ, zero, suc, ◌-◌, List, [], ◌∷◌, length-drop, get_or, set, map, true, Option, Some, None, subst, sym, arith}
use Rattle.std.specs.List.{AllZip}
use Rattle.mg_value.specs.Payload.{Plain}
use Rattle.mg_stream.specs.Queue.{Waiting}
use Rattle.mg_stream.specs.Pool.{Backlog, queue_of, empty_backlog}
use Rattle.mg_node.specs.declared.pending.Pending.{Pending}
use Rattle.mg_node.specs.Views.{ContextView, PerformedView, EntryView, EngineView}
use Rattle.mg_node.specs.Outputs.{without_first}
use Rattle.mg_node.specs.Advances.{raised_output, advance_bound, advanced}
use Rattle.mg_node.specs.Shelves.{Unshelves}
use Rattle.mg_node.specs.IntakeStanding.{HasGrown}
use Rattle.mg_node.specs.Standing.{EngineGrows}

pub grown_by_itself : (q : Waiting Plain) → HasGrown q q
grown_by_itself q = record { count = omega arith; bound = omega arith }

pub grown_further : (q r s : Waiting Plain) → HasGrown q r → HasGrown r s → HasGrown q s
grown_further q r s g h = (let a = g.count in let b = h.count in let c = g.bound in let d = h.bound in record { count = omega (arith, a, b); bound = omega (arith, c, d) })

-- what outputs have grown to, place by place and by number
abbrev pub OutputsGrow : List (Backlog Plain) → List (Backlog Plain) → Type 0
OutputsGrow before now = (output : ℕ) → HasGrown (queue_of 0 (get_or before output empty_backlog)) (queue_of 0 (get_or now output empty_backlog))

pub by_number : (before now : List (Backlog Plain)) → AllZip (λ b n. HasGrown (queue_of 0 b) (queue_of 0 n)) before now → OutputsGrow before now
by_number [] [] z output = grown_by_itself (queue_of 0 empty_backlog)
by_number [] (n ∷ now) z output = absurd z
by_number (b ∷ before) [] z output = absurd z
by_number (b ∷ before) (n ∷ now) z zero = z.0
by_number (b ∷ before) (n ∷ now) z (suc output) = by_number before now z.1 output

-- Engines.

pub engine_same : (e now : EngineView) → now ≡ e → EngineGrows e now
engine_same e now is = subst (λ (v : EngineView). EngineGrows e v) (sym is) (record { laid = omega arith; claimed = omega arith; ended = (λ h. h); outputs = (λ output. grown_by_itself _) })

pub engine_further : (e f g : EngineView) → EngineGrows e f → EngineGrows f g → EngineGrows e g
engine_further e f g one two = record {
  laid = (let a = one.laid in let b = two.laid in omega (arith, a, b));
  claimed = (let a = one.claimed in let b = two.claimed in omega (arith, a, b));
  ended = (λ h. two.ended (one.ended h));
  outputs = (λ output. grown_further _ _ _ (one.outputs output) (two.outputs output));
}

-- if only the window and the contexts change
pub window_grows : (e : EngineView) (window : List EntryView) (idle : List ContextView) → EngineGrows e (record e { window = window; idle = idle })
window_grows e window idle = record { laid = omega arith; claimed = omega arith; ended = (λ h. h); outputs = (λ output. grown_by_itself _) }

pub begun_grows : (e : EngineView) → EngineGrows e (record e { begun = true })
begun_grows e = record { laid = omega arith; claimed = omega arith; ended = (λ h. h); outputs = (λ output. grown_by_itself _) }

pub outputs_grow : (e : EngineView) (outputs : List (Backlog Plain)) → OutputsGrow e.outputs outputs → EngineGrows e (record e { outputs = outputs })
outputs_grow e outputs grown = record { laid = omega arith; claimed = omega arith; ended = (λ h. h); outputs = grown }

-- outputs that are raised
one_raised : (bound : Option ℕ) (b : Backlog Plain) → HasGrown (queue_of 0 b) (queue_of 0 (raised_output bound b))
one_raised None b = grown_by_itself (queue_of 0 b)
one_raised (Some bound) b = record { count = omega arith; bound = omega arith }

all_raised : (bound : Option ℕ) (outputs : List (Backlog Plain)) → OutputsGrow outputs (map (raised_output bound) outputs)
all_raised bound [] output = grown_by_itself (queue_of 0 empty_backlog)
all_raised bound (b ∷ outputs) zero = one_raised bound b
all_raised bound (b ∷ outputs) (suc output) = all_raised bound outputs output

pub advance_grows : (e now : EngineView) (waits : Pending) → now ≡ advanced e waits → EngineGrows e now
advance_grows e now waits is = subst (λ (v : EngineView). EngineGrows e v) (sym is) (outputs_grow e (map (raised_output (advance_bound e waits)) e.outputs) (all_raised (advance_bound e waits) e.outputs))

-- packets that are given up are still counted
one_without : (got : ℕ) (b : Backlog Plain) → HasGrown (queue_of 0 b) (queue_of 0 (without_first got b))
one_without got b = record { count = omega (arith, length-drop (got - b.gone) b.packets); bound = omega arith }

all_without : (outputs : List (Backlog Plain)) (place got : ℕ) → OutputsGrow outputs (set outputs place (without_first got (get_or outputs place empty_backlog)))
all_without [] place got output = grown_by_itself (queue_of 0 empty_backlog)
all_without (b ∷ outputs) zero got zero = one_without got b
all_without (b ∷ outputs) zero got (suc output) = grown_by_itself _
all_without (b ∷ outputs) (suc place) got zero = grown_by_itself (queue_of 0 b)
all_without (b ∷ outputs) (suc place) got (suc output) = all_without outputs place got output

pub giving_grows : (e now : EngineView) (place got : ℕ) → now ≡ record e { outputs = set e.outputs place (without_first got (get_or e.outputs place empty_backlog)) } → EngineGrows e now
giving_grows e now place got is =
    subst (λ (v : EngineView). EngineGrows e v) (sym is) (outputs_grow e (set e.outputs place (without_first got (get_or e.outputs place empty_backlog))) (all_without e.outputs place got))

-- works that come back, and are taken again
pub unshelving_grows : (taken : Option PerformedView) (e now : EngineView) (number : ℕ) → Unshelves taken e now number → EngineGrows e now
unshelving_grows None e now number is = engine_same e now is
unshelving_grows (Some p) e now number is = subst (λ (v : EngineView). EngineGrows e v) (sym is) (window_grows e _ e.idle)
