-- Nothing is ready at the front of a window: what keeps it so, and how a front ends at which nothing is.
use Rattle.std.proofs.Common.{◌≡◌, ℕ, zero, suc, ℤ, Bool, true, false, List, [], ◌∷◌, ◌++◌, set, Option, Some, None, option_map, option_and_then, is_some, ◌||◌, ap, sym, refl, ◌∙◌, if◌then◌else◌}
use Rattle.mg_calc.specs.declared.node_fault.NodeFault.{NodeFault}
use Rattle.mg_calc.specs.Outcome.{Failure}
use Rattle.mg_node.specs.Views.{PerformedView, EntryView}
use Rattle.mg_node.specs.Shelves.{performed_of}
use Rattle.mg_node.specs.Windows.{ready_of, starts_ready}
use Rattle.mg_node.specs.Commits.{Front, answer_laid, has_stopped, with_ready, front_laid, fault_at}

not_ready : (entry : EntryView) → entry.committed ≡ false → is_some (ready_of entry) ≡ false
not_ready entry open_yet = ap (λ (b : Bool). is_some (if b then option_and_then performed_of entry.outcome else None)) open_yet

-- an entry that isn't committed is put in place of another one, or at the end
pub set_waits : (window : List EntryView) (place : ℕ) (entry : EntryView) → entry.committed ≡ false → starts_ready window ≡ false → starts_ready (set window place entry) ≡ false
set_waits [] place entry open_yet h = h
set_waits (x ∷ window) zero entry open_yet h = not_ready entry open_yet
set_waits (x ∷ window) (suc place) entry open_yet h = h

pub snoc_waits : (window : List EntryView) (entry : EntryView) → entry.committed ≡ false → starts_ready window ≡ false → starts_ready (window ++ entry ∷ []) ≡ false
snoc_waits [] entry open_yet h = not_ready entry open_yet
snoc_waits (x ∷ window) entry open_yet h = h

-- a front that is laid and goes on has nothing ready at its front
ends_by : (offset : Option ℤ) (front : Front) (entry : EntryView) (entries : List EntryView) → front.window ≡ entry ∷ entries
    → ((next : Front) → next.window ≡ entries → has_stopped (front_laid offset entries next) ≡ false → starts_ready (front_laid offset entries next).window ≡ false)
    → (stops : Bool) (ready : Option PerformedView) → has_stopped front ≡ stops → ready_of entry ≡ ready
    → has_stopped (if stops then front else with_ready ready front (λ p. front_laid offset entries (answer_laid offset entry.phase p.work.context p.answer entries front))) ≡ false
    → starts_ready (if stops then front else with_ready ready front (λ p. front_laid offset entries (answer_laid offset entry.phase p.work.context p.answer entries front))).window ≡ false
ends_by offset front entry entries window go_on true ready stop is goes = absurd (let clash : true ≡ false = sym stop ∙ goes in cc)
ends_by offset front entry entries window go_on false None stop is goes = ap starts_ready window ∙ ap is_some is
ends_by offset front entry entries window go_on false (Some p) stop is goes = go_on (answer_laid offset entry.phase p.work.context p.answer entries front) refl goes

pub laid_waits : (offset : Option ℤ) (entries : List EntryView) (front : Front) → front.window ≡ entries → has_stopped (front_laid offset entries front) ≡ false → starts_ready (front_laid offset entries front).window ≡ false
laid_waits offset [] front window goes = ap starts_ready window
laid_waits offset (entry ∷ entries) front window goes = ends_by offset front entry entries window (λ next w g. laid_waits offset entries next w g) (has_stopped front) (ready_of entry) refl refl goes

-- an engine has ended exactly if its front has stopped
pub stops_by : (node : ℕ) (closed : Bool) (fault : Option Failure) → (closed || is_some (option_map (fault_at node) fault)) ≡ false → (closed || is_some fault) ≡ false
stops_by node closed None goes = goes
stops_by node closed (Some f) goes = goes

pub stopped_by : (node : ℕ) (closed : Bool) (fault : Option Failure) → (closed || is_some (option_map (fault_at node) fault)) ≡ true → (closed || is_some fault) ≡ true
stopped_by node closed None stops = stops
stopped_by node closed (Some f) stops = stops

-- and an engine has ended if the front made of it has stopped
pub ended_by : (closed : Bool) (fault : Option NodeFault) → (closed || is_some (option_map (λ (f : NodeFault). (let it : Failure = record { phase = f.phase; cause = f.cause } in it)) fault)) ≡ true → (closed || is_some fault) ≡ true
ended_by closed None stops = stops
ended_by closed (Some f) stops = stops
