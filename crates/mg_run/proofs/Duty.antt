-- What there is to do with files that were loaded, by what is known of the user-supplied calculators.
use Rattle.std.proofs.Common.{◌≡◌, ℕ, List, All, subst}
use Rattle.mg_edge.specs.Edge.{StoreTold}
use Rattle.mg_calc.specs.declared.shape.OuterShape.{OuterShape}
use Rattle.mg_calc.specs.Told.{BoxTold}
use Rattle.mg_check.specs.Check.{IsOuterShape}
use Rattle.mg_words.specs.Command.{Command}
use Rattle.mg_files.specs.Loads.{LoadedAll}
use Rattle.mg_run.specs.Invocation.{invocation}
use Rattle.mg_run.specs.Boxes.{outers_told}
use Rattle.mg_run.specs.Devices.{Device}
use Rattle.mg_run.specs.Answer.{Action}
use Rattle.mg_run.specs.Call.{IsActionOf, IsDue}

pub due_by : (request : Command) (known outers : List OuterShape) (contents : List (List ℕ)) (store : Device StoreTold) (action : Action) → known ≡ outers → All IsOuterShape known
    → LoadedAll request.files contents store → IsActionOf (invocation request known) contents action → IsDue (invocation request outers) store action
due_by request known outers contents store action same shaped loaded due =
    record { shaped = subst (λ (o : List OuterShape). All IsOuterShape o) same shaped; contents = contents; loaded = loaded; due = subst (λ (o : List OuterShape). IsActionOf (invocation request o) contents action) same due }

pub due_among : (request : Command) (handed boxes : List BoxTold) (store : Device StoreTold) (action : Action) → handed ≡ boxes → IsDue (invocation request (outers_told handed)) store action
    → IsDue (invocation request (outers_told boxes)) store action
due_among request handed boxes store action same due = subst (λ (bs : List BoxTold). IsDue (invocation request (outers_told bs)) store action) same due
