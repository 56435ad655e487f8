-- A recorded run while it is read: which lines were handed out since a source told `first`, and what they led to so far.
use Rattle.std.specs.Prelude.{◌≡◌, ℕ, Bool, true, false, List, [], ◌∷◌, ◌++◌, length, None}
use Rattle.mg_edge.specs.Edge.{SourceTold}
use Rattle.mg_edge.specs.Runs.{Gave}
use Rattle.mg_calc.specs.Rules.{Laws}
use Rattle.mg_calc.specs.declared.inputs.Inputs.{Inputs}
use Rattle.mg_calc.specs.declared.plan.Plan.{Plan}
use Rattle.mg_calc.specs.Told.{BoxTold}
use Rattle.mg_feed.specs.Graph.{inputs_of}
use Rattle.mg_feed.specs.View.{View}
use Rattle.mg_feed.specs.Recorded.{HasRecorded}
use Rattle.mg_feed.specs.Lines.{all_lines}
use Rattle.mg_feed.specs.Fed.{Reading}
use Rattle.mg_feed.specs.Ran.{MetEnd, Unfailed}
use Rattle.mg_feed.specs.Handed.{HasHanded}
use Rattle.mg_trace.specs.Job.{end_word}
use Rattle.mg_sched.specs.Views.{NetView}
use Rattle.mg_answer.specs.Devices.{Device, device}
use Rattle.mg_replay.specs.Opening.{ArePackets, inputs_with}
use Rattle.mg_replay.specs.Replay.{LinesLedTo, WasRead}
use Rattle.mg_replay.specs.declared.opening.Opened.{Opened}
use Rattle.mg_replay.specs.declared.opening.Opened.TheVariants.{Job, Stopped}

-- Of the bytes that came since a source told `first` these lines were handed out, and no read failed.
pub record IsReading (first now : SourceTold) (read : Reading) (number : ℕ) (lines : List (List ℕ)) : Type 0 where
  pub came : List ℕ
  pub gave : Gave first.left now.left came
  pub met : MetEnd false read.ended first now
  pub unfailed : Unfailed first now
  pub handed : HasHanded came lines read
  pub counted : number ≡ length lines

-- The lines that were handed out are all packet lines, and a feed has taken them.
pub record IsOpening (plan : Plan) (first now : SourceTold) (read : Reading) (number : ℕ) (view : View) : Type 0 where
  pub lines : List (List ℕ)
  pub reading : IsReading first now read number lines
  pub graph : view.graph ≡ inputs_of plan
  pub stands : HasRecorded lines view
  pub packets : ArePackets (inputs_of plan) [] lines

-- the lines that were handed out are packet lines for some plan, from some source
pub record IsSomeOpening (now : SourceTold) (read : Reading) (number : ℕ) (view : View) : Type 0 where
  pub plan : Plan
  pub first : SourceTold
  pub opening : IsOpening plan first now read number view

-- The packet lines of a job have ended with a word after them, and a feed has taken them.
pub record HasJob (plan : Plan) (ended : Bool) (first now : SourceTold) (read : Reading) (number : ℕ) (view : View) : Type 0 where
  pub given : List (List ℕ)
  pub reading : IsReading first now read number (given ++ end_word ended ∷ [])
  pub graph : view.graph ≡ inputs_of plan
  pub stands : HasRecorded given view
  pub packets : ArePackets (inputs_of plan) [] given

-- The result of reading a job's lines: the job, or where the reading stopped, with no node begun.
abbrev pub Opens : Laws → Opened → Plan → SourceTold → SourceTold → Reading → ℕ → View → Type 0
Opens laws (Job ended) plan first now read number view = HasJob plan ended first now read number view
Opens laws (Stopped end) plan first now read number view = (boxes : List BoxTold) → WasRead laws plan boxes (device first now) None end

-- The lines that were read led a net to where it is.
pub record IsMaking (laws : Laws) (plan : Plan) (boxes : List BoxTold) (inputs : Inputs) (first now : SourceTold) (read : Reading) (number : ℕ) (net : NetView) : Type 0 where
  pub lines : List (List ℕ)
  pub reading : IsReading first now read number lines
  pub has_run : LinesLedTo laws plan boxes lines inputs net

-- The bytes that came begin with the lines of a job that has these inputs, whatever bytes may follow. No bytes follow if the source
-- has ended.
pub record BeginsWithJob (plan : Plan) (input : Device SourceTold) (inputs : Inputs) : Type 0 where
  pub came : List ℕ
  pub gave : Gave input.before.left input.now.left came
  pub ended : Bool
  pub met : MetEnd false ended input.before input.now
  pub given : List (List ℕ)
  pub packets : ArePackets (inputs_of plan) [] given
  pub inputs_are : inputs ≡ inputs_with plan given inputs.ended
  pub opens : (more : List ℕ) → (ended ≡ true → more ≡ []) → (rest : List (List ℕ)) × (all_lines (came ++ more) ≡ given ++ end_word inputs.ended ∷ rest)
