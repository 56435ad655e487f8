use Rattle.std.proofs.Common.{◌≡◌, ◌+◌, take, drop, length, ap, arith, subst, refl}
use Rattle.mg_text.specs.Code.Running.{state_of, FileEnds, Lasts}
use Rattle.mg_text.proofs.Faults.{Reached, syntax_at, too_deep_at, reached_more, answered_end, reached_end, took_none, took_some}
use Rattle.mg_text.proofs.Lasting.{reached_plain}
use Rattle.mg_text.proofs.Clean.{run_clean}
use Rattle.mg_text.specs.Code.Machine.{begin}
use Rattle.mg_text.proofs.reader.read.Goals as goal

pub returns-then-not-branch : goal.returns-then-not-branch
returns-then-not-branch c =
    syntax_at c.args.bytes.now c.bytes.i _ (state_of c.bytes.machine) (omega arith) refl c.bytes.invariant.0 (took_none _ _ _ c.in_ok-step.ensures c.if-not-branch.true)

pub returns-then-depth-gt-MAX_DEPTH : goal.returns-then-depth-gt-MAX_DEPTH
returns-then-depth-gt-MAX_DEPTH c =
    too_deep_at c.args.bytes.now c.bytes.i _ (state_of c.bytes.machine) _ (omega arith) refl c.bytes.invariant.0
    (took_some _ _ _ c.in_ok-step.ensures c.if-not-branch.false) (omega arith)

pub bytes-preserved : goal.bytes-preserved
bytes-preserved c =
    let file = c.args.bytes.now in
    let n = c.in_ok-count.count in
    let next = c.take_plain.new.self in
    let here = reached_more file c.bytes.i _ (state_of c.bytes.machine) _ (omega arith) refl c.bytes.invariant.0
    (took_some _ _ _ c.in_ok-step.ensures c.if-not-branch.false) (omega arith) in
    let rest : c.split_at.result.1.now ≡ drop (c.bytes.i + 1) file = grind arith in
    let lasts = subst (λ bytes. Lasts (state_of c.step.new.self) (take n bytes) (state_of next)) rest c.in_ok-count.ensures.lasts in
    let within = c.in_ok-count.ensures.within in
    let lengths = ap length rest in
    let more = reached_plain file (c.bytes.i + 1) n _ (state_of next) here (omega arith) lasts in
    (subst (λ m. Reached (take m file) (state_of next)) (omega arith) more, omega (arith, within, lengths))

pub returns : goal.returns
returns c = answered_end c.args.bytes.now (state_of c.bytes.machine) _ (reached_end _ c.bytes.i _ (omega arith) c.bytes.invariant.0) (subst (λ n. FileEnds (state_of c.bytes.machine) n c.end.result) (omega arith) c.end.ensures)

pub step-requires : goal.step-requires
step-requires c = run_clean _ begin (state_of c.bytes.machine) c.bytes.invariant.0.ran tt

pub end-requires : goal.end-requires
end-requires c = run_clean _ begin (state_of c.bytes.machine) c.bytes.invariant.0.ran tt
