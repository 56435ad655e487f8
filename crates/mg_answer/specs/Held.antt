-- The devices that a run holds, as one value.
use Rattle.std.specs.Prelude.{◌≡◌}
use Rattle.mg_edge.specs.Edge.{SourceTold, SinkTold}
use Rattle.mg_answer.specs.Devices.{RunDevices, device, run_devices}
use Rattle.mg_answer.specs.declared.devices.Devices.{Devices}

-- what the devices of a run tell, before a call and after it
abbrev pub told_by : {S K E : Type 0} → (S → SourceTold) → (K → SinkTold) → (E → SinkTold) → Devices S K E → Devices S K E → RunDevices
told_by input output notes before now =
    run_devices (device (input before.input.now) (input now.input.now)) (device (output before.output.now) (output now.output.now)) (device (notes before.notes.now) (notes now.notes.now))

-- the devices before a call and after it are the same, whatever was done to them
pub record SameDevices {S K E : Type 0} (before now : Devices S K E) : Type 0 where
  pub same_input : now.input.ghost_name ≡ before.input.ghost_name
  pub same_output : now.output.ghost_name ≡ before.output.ghost_name
  pub same_notes : now.notes.ghost_name ≡ before.notes.ghost_name
