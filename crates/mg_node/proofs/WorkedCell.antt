-- A worked cell: one node that hands its packet on, from the delivery of 7 at 5 to its Close. Each part is lawful at each step.
use Rattle.std.proofs.Common.{◌≡◌, ℕ, zero, suc, pos, ◌+◌, ◌<◌, ◌≤◌, Bool, true, false, List, [], ◌∷◌, length, All, Some, None, Ok, slice_get, get_or, IsTrue, refl, subst, codes, arith}
use Rattle.std.specs.List.{AllByRecursion}
use Rattle.std.proofs.lemmas.List.Elements.{All-from_recursion, All-nil}
use Rattle.mg_time.specs.Time.{done, place_of, post_stream, IsAllowed, pre_stream, next}
use Rattle.mg_value.specs.Plain.{Plain, int}
use Rattle.mg_value.specs.Packet.{Stamped}
use Rattle.mg_value.specs.declared.kind.Kind.TheVariants.{Any}
use Rattle.mg_value.specs.declared.policy.Policy.TheVariants.{Default}
use Rattle.mg_settled.specs.Prefix.{StreamPrefix, IsPrefix, empty_prefix}
use Rattle.mg_settled.specs.Left.{AreGone, MayBeGone, goes, leads}
use Rattle.mg_settled.specs.Settled.{port_of}
use Rattle.mg_settled.proofs.Lemmas.{extended_by_itself, all_by_themselves, none-gone, empty_is_prefix}
use Rattle.mg_calc.specs.Rules.{Laws}
use Rattle.mg_calc.specs.declared.emission.Laid.{Laid}
use Rattle.mg_calc.specs.declared.law.Law.TheVariants.{Pass}
use Rattle.mg_calc.specs.declared.node_fault.Phase.TheVariants.{Process, Close}
use Rattle.mg_calc.specs.declared.plan.Plan.{Plan}
use Rattle.mg_calc.specs.declared.plan_node.PlanNode.{PlanNode}
use Rattle.mg_calc.specs.declared.plan_stream.Producer.TheVariants.{Input, Node}
use Rattle.mg_calc.specs.Equations.{round, next_round}
use Rattle.mg_calc.specs.Shape.{untagged}
use Rattle.mg_route.specs.HolderView.{HolderView}
use Rattle.mg_node.specs.declared.role.Role.TheVariants.{Sets as SetsRole}
use Rattle.mg_node.specs.declared.pending.Pending.TheVariants.{Sets}
use Rattle.mg_node.specs.Views.{IntakeView, ContextView, WorkView, EntryView, EngineView}
use Rattle.mg_node.specs.Job.{LoggedJob, Solves}
use Rattle.mg_node.specs.Lawful.{LawfulIntake, LawfulWork, LawfulPerformed, LawfulEngine, IsEntry, IsIdle, of_node}

-- the graph: `in`, a node that passes it on, and `out`
abbrev node : PlanNode
node = record {
  label = [];
  law = Pass;
  shape = record { name = []; inputs = untagged 1 Any; outputs = untagged 1 Any; sides = []; offset = Some (pos 0); stateless = true };
  inputs = 0 ∷ [];
  outputs = 1 ∷ [];
  sides = [];
  in_flight = 1;
  box_number = None;
  policy = Default;
}

abbrev plan : Plan
plan = record {
  nodes = node ∷ [];
  streams = record { name = codes "in"; kind = Any; producer = Input 0 } ∷ record { name = codes "out"; kind = Any; producer = Node 0 0 } ∷ [];
  edges = record { stream = 0; node = 0; port = 0; back = false } ∷ record { stream = 1; node = 1; port = 0; back = false } ∷ [];
  order = 0 ∷ [];
  inputs = 0 ∷ [];
  outputs = 1 ∷ [];
  sides = [];
  limit = pos 100;
  workers = 0;
}

-- 7 at 5, and no more
abbrev five : ℕ
five = place_of (pos 5)

abbrev seven : Stamped Plain
seven = record { at = five; value = int (pos 7) }

abbrev whole : StreamPrefix Plain
whole = record { packets = seven ∷ []; bound = done }

abbrev job : (laws : Laws) → LoggedJob laws
job laws = record { job = record { plan = plan; inputs = record { streams = whole ∷ []; sides = []; ended = true }; laws = laws }; boxes = []; same = refl }

abbrev streams : List (StreamPrefix Plain)
streams = whole ∷ whole ∷ []

-- the second round is the solution's
reached : (laws : Laws) → streams ≡ round (job laws).job 2
reached laws = refl

meets : (laws : Laws) → next_round (job laws).job streams ≡ streams
meets laws = refl

all : {X : Type 0} (P : X → Type 0) (xs : List X) → AllByRecursion P xs → All P xs
all P xs a = All-from_recursion P xs a

whole_is : IsPrefix whole
whole_is = record {
  opened = omega arith;
  within = omega arith;
  allowed = all (λ p. IsAllowed p.at) (seven ∷ []) ((omega arith, omega arith), tt);
  ascends = (omega arith, tt);
  alone = all (λ p. p.at ≡ post_stream → length (seven ∷ []) ≡ 1) (seven ∷ []) ((λ e. refl), tt);
}

-- before the claim, and after it
abbrev intake : ℕ → ℕ → List (Stamped Plain) → IntakeView
intake claimed gone packets = record {
  claimed = claimed;
  waits = Sets (record { policy = Default; pool = record { ports = record { gone = gone; packets = packets; bound = done } ∷ []; spare = 3 } });
}

gone_one : AreGone Default 1 (whole ∷ []) (1 ∷ [])
gone_one = record {
  ports = refl;
  claimed = omega arith;
  each = each;
}
  where
    each : (i : ℕ) → i < 1 → MayBeGone Default (leads Default 1 i) (five ∷ []) (port_of (whole ∷ []) i) (get_or (1 ∷ []) i 0)
    each zero le = record {
      within = omega arith;
      go = all (λ (p : Stamped Plain). IsTrue (goes Default (five ∷ []) p.at)) (seven ∷ []) (refl, tt);
      stay = (λ lead. All-nil (λ (p : Stamped Plain). goes Default (five ∷ []) p.at ≡ false));
    }
    each (suc i) le = absurd (omega (arith, le))

-- the calculator, and the context with the set
abbrev told : HolderView
told = record { law = Pass; shape = node.shape; state = []; log = None; handed = false }

abbrev context : ContextView
context = record { told = told; set = Some seven ∷ [] }

abbrev work : WorkView
work = record { node = 0; number = 0; phase = Process five; context = context }

abbrev emission : List Laid
emission = record { packets = seven ∷ []; bound = None } ∷ []

-- the engine, with so many packets laid, and with its window and its idle contexts
abbrev engine : List (Stamped Plain) → ℕ → ℕ → ℕ → List EntryView → List ContextView → Bool → EngineView
engine packets bound laid claimed window idle closed = record {
  role = SetsRole;
  node = 0;
  first = 1;
  offset = Some (pos 0);
  in_flight = 1;
  inputs = 1;
  outputs = record { gone = 0; packets = packets; bound = bound } ∷ [];
  laid = laid;
  claimed = claimed;
  window = window;
  idle = idle;
  begun = true;
  closed = closed;
  fault = None;
}

abbrev out_at_five : EntryView
out_at_five = record { phase = Process five; outcome = None; committed = false }

abbrev out_for_close : EntryView
out_for_close = record { phase = Close; outcome = None; committed = false }

before_is : IsPrefix {X = Plain} empty_prefix
before_is = empty_is_prefix

raised_to_five : IsPrefix (record { packets = seven ∷ []; bound = next five })
raised_to_five = record {
  opened = omega arith;
  within = omega arith;
  allowed = whole_is.allowed;
  ascends = (omega arith, tt);
  alone = whole_is.alone;
}

module _ {laws : Laws} (solves : Solves (job laws) streams) where
  came_lawful : LawfulIntake (job laws) 0 (intake 0 0 (seven ∷ []))
  unfolding LawfulIntake
  came_lawful = record {
    streams = streams;
    solves = solves;
    is_there = omega arith;
    holds = (
      (λ e. absurd cc),
      record {
        policy = refl;
        came = whole ∷ [];
        extended = all_by_themselves (whole ∷ []);
        stands = record { each = (record { prefix = whole_is; gone = omega arith; waiting = refl; bound = refl }, tt); gone = none-gone Default (whole ∷ []) };
      },
    );
  }

  claimed_lawful : LawfulIntake (job laws) 0 (intake 1 1 [])
  unfolding LawfulIntake
  claimed_lawful = record {
    streams = streams;
    solves = solves;
    is_there = omega arith;
    holds = (
      (λ e. absurd cc),
      record {
        policy = refl;
        came = whole ∷ [];
        extended = all_by_themselves (whole ∷ []);
        stands = record { each = (record { prefix = whole_is; gone = omega arith; waiting = refl; bound = refl }, tt); gone = gone_one };
      },
    );
  }

  work_lawful : LawfulWork (job laws) work
  unfolding LawfulWork
  work_lawful = record { streams = streams; solves = solves; node = node; there = refl; fits = record { same_law = refl; same_shape = refl; same_handed = refl }; places = refl; task = (tt, refl); at_work = (refl, refl) }

  performed_lawful : LawfulPerformed (job laws) (record { work = work; answer = Ok emission })
  unfolding LawfulPerformed
  performed_lawful = record { streams = streams; solves = solves; node = node; there = refl; fits = record { same_law = refl; same_shape = refl; same_handed = refl }; places = refl; task = (tt, refl); at_work = (refl, refl) }

  -- begun: nothing is laid, and the context is idle
  begun_lawful : LawfulEngine (job laws) (of_node 0) (engine [] pre_stream 0 0 [] (context ∷ []) false)
  unfolding LawfulEngine
  begun_lawful = record {
    streams = streams;
    solves = solves;
    node = node;
    there = refl;
    set_up = record { role = refl; number_is = refl; first = refl; offset = refl; in_flight = refl; inputs = refl };
    begun = refl;
    claimed = omega arith;
    taken = omega arith;
    closed = (λ e. absurd cc);
    whole = empty_prefix ∷ [];
    kept = (record { prefix = before_is; gone = omega arith; waiting = refl; bound = refl }, tt);
    raised = (record { packets = refl; bound = omega arith }, tt);
    extended = (record { further = seven ∷ []; packets = refl; bound = omega arith; above = all (λ p. pre_stream ≤ p.at) (seven ∷ []) (omega arith, tt) }, tt);
    fault = refl;
    order = refl;
    entries = (λ i entry h. absurd (cc));
    idle = all (IsIdle (job laws) streams node 0 false) (context ∷ []) (record { fits = record { same_law = refl; same_shape = refl; same_handed = refl }; places = refl; state = refl; log = refl }, tt);
    contexts = refl;
    waits = (λ goes. refl);
    ended = (λ e. absurd cc);
  }

  entry_at_five : (i : ℕ) (entry : EntryView) → slice_get (out_at_five ∷ []) i ≡ Some entry → IsEntry (job laws) streams node 0 (0 + i) 0 entry
  entry_at_five zero entry h = subst (IsEntry (job laws) streams node 0 0 0) (let same : out_at_five ≡ entry = cc in same) (record {
    set = Some seven ∷ [];
    task = (tt, refl);
    outcome = tt;
    committed = (λ e. absurd cc);
    close = (λ e. absurd cc);
  })
  entry_at_five (suc i) entry h = absurd cc

  -- claimed: its work is out
  out_lawful : LawfulEngine (job laws) (of_node 0) (engine [] pre_stream 0 1 (out_at_five ∷ []) [] false)
  unfolding LawfulEngine
  out_lawful = record {
    streams = streams;
    solves = solves;
    node = node;
    there = refl;
    set_up = record { role = refl; number_is = refl; first = refl; offset = refl; in_flight = refl; inputs = refl };
    begun = refl;
    claimed = omega arith;
    taken = omega arith;
    closed = (λ e. absurd cc);
    whole = empty_prefix ∷ [];
    kept = (record { prefix = before_is; gone = omega arith; waiting = refl; bound = refl }, tt);
    raised = (record { packets = refl; bound = omega arith }, tt);
    extended = (record { further = seven ∷ []; packets = refl; bound = omega arith; above = all (λ p. pre_stream ≤ p.at) (seven ∷ []) (omega arith, tt) }, tt);
    fault = refl;
    order = refl;
    entries = entry_at_five;
    idle = All-nil (IsIdle (job laws) streams node 0 false);
    contexts = refl;
    waits = (λ goes. refl);
    ended = (λ e. absurd cc);
  }

  -- committed: 7 is laid at 5
  laid_lawful : LawfulEngine (job laws) (of_node 0) (engine (seven ∷ []) (next five) 1 1 [] (context ∷ []) false)
  unfolding LawfulEngine
  laid_lawful = record {
    streams = streams;
    solves = solves;
    node = node;
    there = refl;
    set_up = record { role = refl; number_is = refl; first = refl; offset = refl; in_flight = refl; inputs = refl };
    begun = refl;
    claimed = omega arith;
    taken = omega arith;
    closed = (λ e. absurd cc);
    whole = record { packets = seven ∷ []; bound = next five } ∷ [];
    kept = (record { prefix = raised_to_five; gone = omega arith; waiting = refl; bound = refl }, tt);
    raised = (record { packets = refl; bound = omega arith }, tt);
    extended = (record { further = []; packets = refl; bound = omega arith; above = All-nil (λ (p : Stamped Plain). next five ≤ p.at) }, tt);
    fault = refl;
    order = refl;
    entries = (λ i entry h. absurd (cc));
    idle = all (IsIdle (job laws) streams node 1 false) (context ∷ []) (record { fits = record { same_law = refl; same_shape = refl; same_handed = refl }; places = refl; state = refl; log = refl }, tt);
    contexts = refl;
    waits = (λ goes. refl);
    ended = (λ e. absurd cc);
  }

  entry_for_close : (i : ℕ) (entry : EntryView) → slice_get (out_for_close ∷ []) i ≡ Some entry → IsEntry (job laws) streams node 1 (1 + i) 0 entry
  entry_for_close zero entry h = subst (IsEntry (job laws) streams node 1 1 0) (let same : out_for_close ≡ entry = cc in same) (record {
    set = [];
    task = record { all = refl; good = refl; over = refl };
    outcome = tt;
    committed = (λ e. absurd cc);
    close = (λ e. refl);
  })
  entry_for_close (suc i) entry h = absurd cc

  -- Close is claimed, and counts as no set
  closing_lawful : LawfulEngine (job laws) (of_node 0) (engine (seven ∷ []) (next five) 1 1 (out_for_close ∷ []) [] false)
  unfolding LawfulEngine
  closing_lawful = record {
    streams = streams;
    solves = solves;
    node = node;
    there = refl;
    set_up = record { role = refl; number_is = refl; first = refl; offset = refl; in_flight = refl; inputs = refl };
    begun = refl;
    claimed = omega arith;
    taken = omega arith;
    closed = (λ e. absurd cc);
    whole = record { packets = seven ∷ []; bound = next five } ∷ [];
    kept = (record { prefix = raised_to_five; gone = omega arith; waiting = refl; bound = refl }, tt);
    raised = (record { packets = refl; bound = omega arith }, tt);
    extended = (record { further = []; packets = refl; bound = omega arith; above = All-nil (λ (p : Stamped Plain). next five ≤ p.at) }, tt);
    fault = refl;
    order = refl;
    entries = entry_for_close;
    idle = All-nil (IsIdle (job laws) streams node 1 false);
    contexts = refl;
    waits = (λ goes. refl);
    ended = (λ e. absurd cc);
  }

  -- Close is laid: the output is the solution's stream
  closed_lawful : LawfulEngine (job laws) (of_node 0) (engine (seven ∷ []) done 1 1 [] (context ∷ []) true)
  unfolding LawfulEngine
  closed_lawful = record {
    streams = streams;
    solves = solves;
    node = node;
    there = refl;
    set_up = record { role = refl; number_is = refl; first = refl; offset = refl; in_flight = refl; inputs = refl };
    begun = refl;
    claimed = omega arith;
    taken = omega arith;
    closed = (λ e. record { all = refl; good = refl; over = refl });
    whole = whole ∷ [];
    kept = (record { prefix = whole_is; gone = omega arith; waiting = refl; bound = refl }, tt);
    raised = (record { packets = refl; bound = omega arith }, tt);
    extended = (extended_by_itself whole, tt);
    fault = refl;
    order = refl;
    entries = (λ i entry h. absurd (cc));
    idle = all (IsIdle (job laws) streams node 1 true) (context ∷ []) (record { fits = record { same_law = refl; same_shape = refl; same_handed = refl }; places = refl; state = refl; log = refl }, tt);
    contexts = refl;
    waits = (λ goes. refl);
    ended = (λ e. omega arith);
  }
