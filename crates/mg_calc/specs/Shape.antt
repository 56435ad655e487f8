-- What each law may be given, and what a calculator of it looks like from outside. Ports go by tag, in byte order and the empty tag
-- first, and then by index.
use Rattle.std.specs.Prelude.{◌≡◌, ℕ, ℤ, pos, ◌≤◌, ◌≤ℤ◌, ◌⊎◌, Bool, true, false, List, [], ◌++◌, map, length, All, codes, Option, Some, None, ◌==◌, if◌then◌else◌, IsTrue, IfSome, ⊤}
use Rattle.std.specs.List.{range_with_len}
use Rattle.std.specs.List.Sorted.{IsStrictlySortedBy}
use Rattle.std.specs.Ordering.{ordering_then, nat_cmp}
use Rattle.std.specs.Cmp.Lexicographic.{slice_cmp}
use Rattle.std.specs.declared.cmp.Ordering.{Ordering}
use Rattle.mg_time.specs.Time.{pre_stream, post_stream, done, place_of}
use Rattle.mg_value.specs.declared.kind.Kind.{Kind}
use Rattle.mg_value.specs.declared.kind.Kind.TheVariants.{Any, Flag, Int, Items}
use Rattle.mg_calc.specs.declared.law.Law.{Law}
use Rattle.mg_calc.specs.declared.law.Law.TheVariants.{Pass, Gate, Mux, Cloner, Merge, Thin, Compute, Filter, Shift, Count, SideOnce, Constants, Loopback, Tally, Scripted, BeginLoop, EndLoop, FirstCome, Limiter, Stated}
use Rattle.mg_calc.specs.declared.emission.Laid.{Laid}
use Rattle.mg_calc.specs.declared.port_kind.PortKind.{PortKind}
use Rattle.mg_calc.specs.declared.shape.Shape.{Shape}
use Rattle.mg_calc.specs.Values.{is_in_range}
use Rattle.mg_calc.specs.Row.{keeps_nothing}
use Rattle.mg_calc.specs.Computations.{row_of}

-- The laws by who computes them.

-- the laws that mg_calc computes: those of numbers, Shift, Tally and Scripted
abbrev pub IsOwn : Law → Type 0
IsOwn (Compute computation) = ⊤
IsOwn (Filter keep raises) = ⊤
IsOwn (Shift offset) = ⊤
IsOwn Tally = ⊤
IsOwn (Scripted offset first steps last) = ⊤
IsOwn _ = ⊥

-- the laws that hand packets on, which mg_route computes
abbrev pub IsRouting : Law → Type 0
IsRouting Pass = ⊤
IsRouting (Gate lanes disallow empty_as_allow) = ⊤
IsRouting (Mux lanes) = ⊤
IsRouting (Cloner lanes) = ⊤
IsRouting (Merge lanes) = ⊤
IsRouting (Thin period) = ⊤
IsRouting _ = ⊥

-- the laws of loops over lists, which mg_batch computes
abbrev pub IsBatch : Law → Type 0
IsBatch (BeginLoop clones always_end) = ⊤
IsBatch (EndLoop empty_as_bound) = ⊤
IsBatch _ = ⊥

-- the laws that are served: all but those of free nodes, which take packets as they arrive and are shown no set. Only served laws have
-- calls, user-supplied calculators, and plans with a meaning by equations. The table of laws is total, and has for the others that
-- nothing is emitted.
abbrev pub IsServed : Law → Type 0
IsServed (FirstCome lanes) = ⊥
IsServed (Limiter most) = ⊥
IsServed _ = ⊤

-- the laws that authors state of calculators of their own
abbrev pub IsStated : Law → Type 0
IsStated (Stated number parameters offset) = ⊤
IsStated _ = ⊥

-- the law of a limiter
abbrev pub IsLimiter : Law → Type 0
IsLimiter (Limiter most) = ⊤
IsLimiter _ = ⊥

-- the laws of sources that are called
abbrev pub IsSource : Law → Type 0
IsSource (Count count start apart) = ⊤
IsSource (SideOnce at) = ⊤
IsSource _ = ⊥

-- all laws but those of sources, Constants and Loopback. Those of them that are served are shown sets, and a user-supplied calculator
-- may have any of these.
abbrev pub IsOuter : Law → Type 0
IsOuter (Count count start apart) = ⊥
IsOuter (SideOnce at) = ⊥
IsOuter Constants = ⊥
IsOuter Loopback = ⊥
IsOuter _ = ⊤

-- how many calls a source gets
abbrev pub calls_of : Law → ℕ
calls_of (Count count start apart) = count
calls_of (SideOnce at) = 1
calls_of _ = 0

-- Parameters.

-- a number of data ports: at least one, and at most 64, as many as one tag may have
abbrev pub IsLanes : ℕ → Type 0
IsLanes lanes = (1 ≤ lanes) × (lanes ≤ 64)

-- a law's parameters are in their ranges
abbrev pub ParametersFit : Law → Type 0
ParametersFit (Gate lanes disallow empty_as_allow) = IsLanes lanes
ParametersFit (Mux lanes) = IsLanes lanes
ParametersFit (Cloner lanes) = IsLanes lanes
ParametersFit (Merge lanes) = IsLanes lanes
ParametersFit (Compute computation) = IsLanes computation.lanes
ParametersFit (Thin period) = pos 1 ≤ℤ period
ParametersFit (Count count start apart) = (count ≤ 1000000) × IsTrue (is_in_range (place_of start)) × (pos 1 ≤ℤ apart)
ParametersFit (SideOnce at) = (at ≡ pre_stream) ⊎ (at ≡ place_of (pos 0)) ⊎ (at ≡ post_stream)
ParametersFit (BeginLoop clones always_end) = clones ≤ 64
ParametersFit (FirstCome lanes) = IsLanes lanes
ParametersFit (Limiter most) = (1 ≤ most) × (most ≤ 2147483647)
ParametersFit _ = ⊤

-- Shapes.

-- count ports of a tag and a kind, with indexes from 0 on
abbrev pub ports : List ℕ → ℕ → Kind → List PortKind
ports tag count kind = map (λ i. record { tag = tag; index = i; kind = kind }) (range_with_len 0 count)

-- count untagged ports of a kind
abbrev pub untagged : ℕ → Kind → List PortKind
untagged count kind = ports [] count kind

-- the one port of a tag and a kind
abbrev pub tagged : List ℕ → Kind → List PortKind
tagged tag kind = ports tag 1 kind

-- the order of ports: by tag, and then by index
abbrev pub port_cmp : PortKind → PortKind → Ordering
port_cmp a b = ordering_then (slice_cmp nat_cmp a.tag b.tag) (nat_cmp a.index b.index)

-- ports of any tags, each tag and index once, in their order
abbrev pub ArePorts : List PortKind → Type 0
ArePorts ps = IsStrictlySortedBy port_cmp ps

-- inputs of any tags and kinds, at least one
pub record AreInputs (ps : List PortKind) : Type 0 where
  pub some : 1 ≤ length ps
  pub ordered : ArePorts ps

-- inputs of any tags: at least one, and each takes any kind
pub record AreAnyInputs (ps : List PortKind) : Type 0 where
  pub some : 1 ≤ length ps
  pub ordered : ArePorts ps
  pub any : All (λ p. p.kind ≡ Any) ps

-- the tag of the input that controls a gate
abbrev pub control_tag : Bool → List ℕ
control_tag disallow = if disallow then codes "DISALLOW" else codes "ALLOW"

-- the ports CLONE of a BeginLoop, whose packets are copied for each item
abbrev pub clone_ports : ℕ → List PortKind
clone_ports clones = ports (codes "CLONE") clones Any

-- the output of SideOnce, which says when it emits: at PreStream, at 0 or at PostStream
abbrev pub HasTimeTag : ℕ → List PortKind → Type 0
HasTimeTag at ps =
    ((at ≡ pre_stream) × (ps ≡ tagged (codes "AT_PRESTREAM") Any))
    ⊎ ((at ≡ place_of (pos 0)) × (ps ≡ tagged (codes "AT_ZERO") Any))
    ⊎ ((at ≡ post_stream) × (ps ≡ tagged (codes "AT_POSTSTREAM") Any))

-- the inputs of a law
abbrev pub HasInputs : Law → List PortKind → Type 0
HasInputs Pass ps = AreAnyInputs ps
HasInputs (Gate lanes disallow empty_as_allow) ps = ps ≡ untagged lanes Any ++ tagged (control_tag disallow) Flag
HasInputs (Mux lanes) ps = ps ≡ ports (codes "INPUT") lanes Any ++ tagged (codes "SELECT") Int
HasInputs (Cloner lanes) ps = ps ≡ untagged lanes Any ++ tagged (codes "TICK") Any
HasInputs (Merge lanes) ps = ps ≡ untagged lanes Any
HasInputs (Thin period) ps = ps ≡ untagged 1 Any
HasInputs (Compute computation) ps = ps ≡ untagged computation.lanes computation.takes
HasInputs (Filter keep raises) ps = ps ≡ untagged 1 Int
HasInputs (Shift offset) ps = ps ≡ untagged 1 Any
HasInputs (Count count start apart) ps = ps ≡ []
HasInputs (SideOnce at) ps = ps ≡ []
HasInputs Constants ps = ps ≡ []
HasInputs Loopback ps = ps ≡ tagged (codes "LOOP") Any ++ tagged (codes "MAIN") Any
HasInputs Tally ps = ps ≡ untagged 1 Any
HasInputs (Scripted offset first steps last) ps = AreAnyInputs ps
HasInputs (BeginLoop clones always_end) ps = ps ≡ clone_ports clones ++ tagged (codes "ITERABLE") Items
HasInputs (EndLoop empty_as_bound) ps = ps ≡ tagged (codes "BATCH_END") Int ++ tagged (codes "ITEM") Any
HasInputs (FirstCome lanes) ps = ps ≡ untagged lanes Any
HasInputs (Limiter most) ps = ps ≡ untagged 1 Any ++ tagged (codes "FINISHED") Any
HasInputs (Stated number parameters offset) ps = AreInputs ps

-- the kind of an input by its place, for the laws of the table. A computation tells it. Filter takes whole numbers. The last input of Gate is a
-- truth value, that of Mux a whole number, and that of BeginLoop a list. The first input of EndLoop is a whole number. All other inputs
-- are of any kind.
abbrev pub input_kind : Law → ℕ → Kind
input_kind (Gate lanes disallow empty_as_allow) i = if i == lanes then Flag else Any
input_kind (Mux lanes) i = if i == lanes then Int else Any
input_kind (Compute computation) i = computation.takes
input_kind (Filter keep raises) i = Int
input_kind (BeginLoop clones always_end) i = if i == clones then Items else Any
input_kind (EndLoop empty_as_bound) i = if i == 0 then Int else Any
input_kind _ i = Any

-- written emissions have an entry for each output
pub record AreEmissions (outputs : ℕ) (first : List Laid) (steps : List (List Laid)) (last : List Laid) : Type 0 where
  pub at_open : length first ≡ outputs
  pub at_sets : All (λ emission. length emission ≡ outputs) steps
  pub at_close : length last ≡ outputs

-- the outputs of a law; Pass has the same ports as outputs and inputs
abbrev pub HasOutputs : Law → List PortKind → List PortKind → Type 0
HasOutputs Pass inputs ps = ps ≡ inputs
HasOutputs (Gate lanes disallow empty_as_allow) inputs ps = ps ≡ untagged lanes Any
HasOutputs (Mux lanes) inputs ps = ps ≡ tagged (codes "OUTPUT") Any
HasOutputs (Cloner lanes) inputs ps = ps ≡ untagged lanes Any
HasOutputs (Merge lanes) inputs ps = ps ≡ untagged 1 Any
HasOutputs (Thin period) inputs ps = ps ≡ untagged 1 Any
HasOutputs (Compute computation) inputs ps = ps ≡ untagged 1 computation.gives
HasOutputs (Filter keep raises) inputs ps = ps ≡ untagged 1 Int
HasOutputs (Shift offset) inputs ps = ps ≡ untagged 1 Any
HasOutputs (Count count start apart) inputs ps = ps ≡ untagged 1 Int
HasOutputs (SideOnce at) inputs ps = HasTimeTag at ps
HasOutputs Constants inputs ps = ps ≡ []
HasOutputs Loopback inputs ps = ps ≡ tagged (codes "PREV_LOOP") Any
HasOutputs Tally inputs ps = ps ≡ untagged 1 Int
HasOutputs (Scripted offset first steps last) inputs ps = ArePorts ps × AreEmissions (length ps) first steps last
HasOutputs (BeginLoop clones always_end) inputs ps = ps ≡ tagged (codes "BATCH_END") Int ++ (clone_ports clones ++ tagged (codes "ITEM") Any)
HasOutputs (EndLoop empty_as_bound) inputs ps = ps ≡ tagged (codes "ITERABLE") Items
HasOutputs (FirstCome lanes) inputs ps = ps ≡ untagged 1 Any
HasOutputs (Limiter most) inputs ps = ps ≡ untagged 1 Any
HasOutputs (Stated number parameters offset) inputs ps = ArePorts ps

-- the side packets that a law takes; those of Scripted and of stated laws are of any tags
abbrev pub HasSides : Law → List PortKind → Type 0
HasSides (SideOnce at) ps = ps ≡ untagged 1 Any
HasSides (Scripted offset first steps last) ps = ArePorts ps
HasSides (Stated number parameters offset) ps = ArePorts ps
HasSides _ ps = ps ≡ []

-- the offset of a law
abbrev pub offset_of : Law → Option ℤ
offset_of (Thin period) = None
offset_of (Filter keep raises) = None
offset_of (Shift offset) = Some offset
offset_of (Count count start apart) = None
offset_of (SideOnce at) = None
offset_of Constants = None
offset_of Loopback = None
offset_of (BeginLoop clones always_end) = None
offset_of (EndLoop empty_as_bound) = None
offset_of (FirstCome lanes) = None
offset_of (Limiter most) = None
offset_of (Scripted offset first steps last) = offset
offset_of (Stated number parameters offset) = offset
offset_of _ = Some (pos 0)

-- whether a law keeps no state, so that several of its sets may be worked on at once
abbrev pub is_stateless : Law → Bool
is_stateless Pass = true
is_stateless (Gate lanes disallow empty_as_allow) = true
is_stateless (Mux lanes) = true
is_stateless (Merge lanes) = true
is_stateless (Compute computation) = keeps_nothing (row_of computation.formula)
is_stateless (Filter keep raises) = true
is_stateless (Shift offset) = true
is_stateless _ = false

-- a shape is one that calculators of a law have, whatever its name
pub record IsShapeOf (law : Law) (shape : Shape) : Type 0 where
  pub inputs : HasInputs law shape.inputs
  pub outputs : HasOutputs law shape.inputs shape.outputs
  pub sides : HasSides law shape.sides
  pub offset : shape.offset ≡ offset_of law
  pub stateless : shape.stateless ≡ is_stateless law

-- a set has a place for each input of a shape
abbrev pub FitsInputs : Shape → {X : Type 0} → List X → Type 0
FitsInputs shape set = length set ≡ length shape.inputs
