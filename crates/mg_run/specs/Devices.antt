-- The devices of a call, with the user-supplied calculators, and what the call did to each. A device has what it told of itself before the
-- call, and what it tells now. The definitions for the devices of a run stand in mg_answer.
use Rattle.std.specs.Prelude.{◌≡◌, List, [], map, Some, IfSome}
use Rattle.std.specs.Global.{Vec}
use Rattle.mg_calc.specs.Told.{BoxTold}
use Rattle.mg_edge.specs.Edge.{SourceTold, SinkTold, StoreTold}
use Rattle.mg_answer.specs.declared.devices.Devices.{Devices as Held}
pub use Rattle.mg_answer.specs.Held.{told_by, SameDevices}
pub use Rattle.mg_answer.specs.Devices.{Device, device, Untouched, HasRisen, Unrisen, IsFront, TookFront, TookText, TookPart, TookNotes, RunDevices, run_devices}

pub record CallDevices : Type 0 where
  pub store : Device StoreTold
  pub input : Device SourceTold
  pub output : Device SinkTold
  pub notes : Device SinkTold
  pub boxes : Device (List BoxTold)

abbrev pub devices : Device StoreTold → Device SourceTold → Device SinkTold → Device SinkTold → Device (List BoxTold) → CallDevices
devices store input output notes boxes = record { store = store; input = input; output = output; notes = notes; boxes = boxes }

-- the devices of a run
abbrev pub run_devices_of : CallDevices → RunDevices
run_devices_of all = run_devices all.input all.output all.notes

-- the devices of a call, made of a store, the devices of a run and the user-supplied calculators
abbrev pub with_run : Device StoreTold → RunDevices → Device (List BoxTold) → CallDevices
with_run store run boxes = devices store run.input run.output run.notes boxes

-- what the devices of a call tell, before the call and after it, if the devices of a run are held as one value
abbrev pub told_at : {T S K E C : Type 0} → (T → StoreTold) → (S → SourceTold) → (K → SinkTold) → (E → SinkTold) → (C → BoxTold)
    → T → T → Held S K E → Held S K E → Vec C → Vec C → CallDevices
told_at t s k e c store store_now held held_now boxes boxes_now =
    with_run (device (t store) (t store_now)) (told_by s k e held held_now) (device (map c boxes.items) (map c boxes_now.items))

-- what the devices of a call tell, before the call and after it, if each device is held by itself
abbrev pub told_apart : {T S K E C : Type 0} → (T → StoreTold) → (S → SourceTold) → (K → SinkTold) → (E → SinkTold) → (C → BoxTold)
    → T → T → S → S → K → K → E → E → Vec C → Vec C → CallDevices
told_apart t s k e c store store_now input input_now output output_now notes notes_now boxes boxes_now =
    devices (device (t store) (t store_now)) (device (s input) (s input_now)) (device (k output) (k output_now)) (device (e notes) (e notes_now))
    (device (map c boxes.items) (map c boxes_now.items))

-- Faults --

-- No device failed: each count of faults is as it was.
pub record NoneFailed (devices : CallDevices) : Type 0 where
  pub store : Unrisen devices.store.before.faults devices.store.now.faults
  pub input : Unrisen devices.input.before.faults devices.input.now.faults
  pub output : Unrisen devices.output.before.faults devices.output.now.faults
  pub notes : Unrisen devices.notes.before.faults devices.notes.now.faults

-- Sources --

-- The source answered `End`, and if it tells its bytes, none is left.
pub record InputHasEnded (input : Device SourceTold) : Type 0 where
  pub rose : HasRisen input.before.ends input.now.ends
  pub none : IfSome input.before.left (λ bytes. input.now.left ≡ Some [])
