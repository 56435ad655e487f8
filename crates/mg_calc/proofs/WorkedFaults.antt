-- Worked graphs whose emissions are written down, for each reason against laying one.
use Rattle.std.proofs.Common.{◌≡◌, ℕ, ℤ, pos, List, [], ◌∷◌, map, Option, Some, None, refl}
use Rattle.mg_time.specs.Time.{post_stream, done}
use Rattle.mg_value.specs.Plain.{int}
use Rattle.mg_calc.specs.declared.cause.Cause.TheVariants.{NotAllowed, NotAlone, BelowOffset, EmitsInClose}
use Rattle.mg_calc.specs.declared.emission.Laid.{Laid}
use Rattle.mg_calc.specs.declared.law.Law.TheVariants.{Scripted}
use Rattle.mg_calc.specs.declared.node_fault.Phase.TheVariants.{Open, Process, Close}
use Rattle.mg_calc.specs.Equations.{Job, round}
use Rattle.mg_calc.specs.Meaning.{faults}
use Rattle.mg_calc.proofs.WorkedGraphs.{node, job_of, at, pk, ended, until}

-- What is written for Open, one set and Close, at an offset or none.
abbrev laid_at : ℕ → Laid
laid_at t = record { packets = pk t 1 ∷ []; bound = None }

abbrev written : Option ℤ → List Laid → List Laid → List Laid → Job
written offset first step last = job_of 2 (node (Scripted offset first (step ∷ []) last) (0 ∷ []) (1 ∷ []) ∷ []) (ended (pk 10 1 ∷ []) ∷ [])

written_shows : round (written None (laid_at 1 ∷ []) (laid_at 2 ∷ []) (laid_at 3 ∷ [])) 2 ≡ ended (pk 10 1 ∷ []) ∷ ended (pk 1 1 ∷ pk 2 1 ∷ pk 3 1 ∷ []) ∷ []
written_shows = refl

-- A node with an offset emits nothing in Close, and nothing below its promise; the fault of Close leaves its output at Done.
written_in_close : faults (written (Some (pos 0)) [] (laid_at 10 ∷ []) (laid_at 20 ∷ [])) (round (written (Some (pos 0)) [] (laid_at 10 ∷ []) (laid_at 20 ∷ [])) 2) ≡ record { node = 0; phase = Close; cause = EmitsInClose } ∷ []
written_in_close = refl

written_in_close_ends : round (written (Some (pos 0)) [] (laid_at 10 ∷ []) (laid_at 20 ∷ [])) 2 ≡ ended (pk 10 1 ∷ []) ∷ ended (pk 10 1 ∷ []) ∷ []
written_in_close_ends = refl

written_below : faults (written (Some (pos 0)) [] (laid_at 9 ∷ []) []) (round (written (Some (pos 0)) [] (laid_at 9 ∷ []) []) 2) ≡ record { node = 0; phase = Process (at 10); cause = BelowOffset } ∷ []
written_below = refl

written_below_stops : round (written (Some (pos 0)) [] (laid_at 9 ∷ []) []) 2 ≡ ended (pk 10 1 ∷ []) ∷ until (at 10) [] ∷ []
written_below_stops = refl

-- No packet stands at Done, and none beside one at PostStream.
abbrev laid_special : List ℕ → Laid
laid_special ts = record { packets = map (λ t. record { at = t; value = int (pos 1) }) ts; bound = None }

written_at_done : faults (written None (laid_special (done ∷ []) ∷ []) [] []) (round (written None (laid_special (done ∷ []) ∷ []) [] []) 2) ≡ record { node = 0; phase = Open; cause = NotAllowed } ∷ []
written_at_done = refl

written_beside : faults (written None [] (laid_special (at 5 ∷ post_stream ∷ []) ∷ []) []) (round (written None [] (laid_special (at 5 ∷ post_stream ∷ []) ∷ []) []) 2) ≡ record { node = 0; phase = Process (at 10); cause = NotAlone } ∷ []
written_beside = refl
