-- What workers keep of a net.
use Rattle.mg_calc.specs.Rules.{Laws}
use Rattle.mg_sched.specs.Views.{NetView}
use Rattle.mg_workers.specs.Became.{Became}
use Rattle.mg_drive.specs.Nets.{Keeps}

pub became_keeps : {laws : Laws} (before now : NetView) → Became laws before now → Keeps before now
became_keeps {laws} before now b = record { plan = b.plan; spare = b.spare }
