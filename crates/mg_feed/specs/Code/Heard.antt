-- What a function that takes a line leaves.
use Rattle.std.specs.Prelude.{◌≡◌, ◌≢◌, Option, None, Some, Result, Ok, Err}
use Rattle.mg_feed.specs.Accepted.{State}
use Rattle.mg_feed.specs.View.{View, with_given, with_counted_line}
use Rattle.mg_feed.specs.declared.line_fault.LineFault.{LineFault}
use Rattle.mg_feed.specs.declared.line_fault.LineFault.TheVariants.{OutOfMemory}

-- If what a line says is taken, it is good, and the view has what is given then. If it isn't taken, the answer is why it isn't
-- good, or that memory ran out, and the view is as it was.
abbrev pub Heard : {X : Type 0} → View → View → Result X LineFault → Option LineFault → State → Type 0
Heard old new (Ok x) refusal given = (refusal ≡ None) × (new ≡ with_given old given)
Heard old new (Err fault) refusal given = (fault ≢ OutOfMemory → refusal ≡ Some fault) × (new ≡ old)

-- If a whole line is taken, it is good, and the view has what is given then and counts the line. If it isn't taken, the answer is
-- why it isn't good, or that memory ran out, and the view is as it was.
abbrev pub Took : {X : Type 0} → View → View → Result X LineFault → Option LineFault → State → Type 0
Took old new (Ok x) refusal given = (refusal ≡ None) × (new ≡ with_counted_line old given)
Took old new (Err fault) refusal given = (fault ≢ OutOfMemory → refusal ≡ Some fault) × (new ≡ old)
