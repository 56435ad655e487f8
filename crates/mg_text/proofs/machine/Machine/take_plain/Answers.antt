use Rattle.std.proofs.Common.{◌≡◌, take, Some, subst, sym, arith, refl}
use Rattle.mg_text.specs.declared.state.Run.TheVariants.{Blank, Comment, Word, Piece}
use Rattle.mg_text.specs.Code.Plain.{run_of}
use Rattle.mg_text.specs.Code.Running.{state_of, Lasts}
use Rattle.mg_text.proofs.Lasting.{machine_lasts}
use Rattle.mg_text.proofs.machine.Machine.take_plain.Goals as goal

pub returns-in-Blank-clause-lasts : goal.returns-in-Blank-clause-lasts
returns-in-Blank-clause-lasts c =
    let s = c.args.self.now in
    let is : run_of s.reading ≡ Some Blank = grind arith in
    machine_lasts s s _ Blank is c.front.ensures.plain refl refl

pub returns-in-Comment-clause-lasts : goal.returns-in-Comment-clause-lasts
returns-in-Comment-clause-lasts c =
    let s = c.args.self.now in
    let is : run_of s.reading ≡ Some Comment = grind arith in
    machine_lasts s s _ Comment is c.front-in-Comment.ensures.plain refl refl

pub returns-in_ok-add_all-in-Word-clause-lasts : goal.returns-in_ok-add_all-in-Word-clause-lasts
returns-in_ok-add_all-in-Word-clause-lasts c =
    let s = c.args.self.now in
    let is : run_of s.reading ≡ Some Word = grind arith in
    let added = c.in_ok-add_all-in-Word.ensures in
    subst (λ n. Lasts (state_of s) (take n c.args.bytes.now) (state_of c.add_all.new.self)) (sym added.count)
    (machine_lasts s c.add_all.new.self _ Word is c.front-in-Word.ensures.plain added.same added.token)

pub returns-in_ok-add_all-in-Piece-clause-lasts : goal.returns-in_ok-add_all-in-Piece-clause-lasts
returns-in_ok-add_all-in-Piece-clause-lasts c =
    let s = c.args.self.now in
    let q = c.in-Piece.quote in
    let is : run_of s.reading ≡ Some (Piece q) = grind arith in
    let added = c.in_ok-add_all-in-Piece.ensures in
    subst (λ n. Lasts (state_of s) (take n c.args.bytes.now) (state_of c.add_all-in-Piece.new.self)) (sym added.count)
    (machine_lasts s c.add_all-in-Piece.new.self _ (Piece q) is c.front-in-Piece.ensures.plain added.same added.token)
