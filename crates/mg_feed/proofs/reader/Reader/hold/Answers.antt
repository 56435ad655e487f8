use Rattle.std.proofs.Common.{◌≡◌, ℕ, List, ◌++◌, ◌+◌, take, ap, ◌∙◌, Bool}
use Rattle.std.specs.List.{slice_range}
use Rattle.mg_feed.specs.Fed.{Reading}
use Rattle.mg_feed.specs.Code.LineEnd.{has_feed}
use Rattle.mg_feed.specs.Code.Readers.{left_of}
use Rattle.mg_feed.proofs.Cutting.{no_feed-of, of-no_feed, no_feed-append}
use Rattle.mg_feed.proofs.Blocks.{within-part, part-passed, part-front, part-held}
use Rattle.mg_feed.proofs.reader.Reader.hold.Goals as goal

abbrev reading_with : Bool → List ℕ → Reading
reading_with ended kept = record { kept = kept; ended = ended }

pub invariant_of-self-2-clause-none : goal.invariant_of-self-2-clause-none
invariant_of-self-2-clause-none c =
    let r = c.args.self.now in
    let le = within-part r.block.items r.at r.filled c.args.count r.ahead c.requires.within in
    let held : c.extend_from_slice.new.self.items ≡ r.cut.items ++ take c.args.count (left_of r) =
    c.in_ok-extend_from_slice.ensures.items ∙ ap (λ l. r.cut.items ++ l) (ap (λ b. slice_range b r.at (r.at + c.args.count)) c.deref.ensures.value ∙ part-front r.block.items r.at r.filled c.args.count le) in
    ap has_feed held ∙ of-no_feed _ (no_feed-append r.cut.items _ (no_feed-of r.cut.items r.none) c.requires.none)

pub returns-clause-reading : goal.returns-clause-reading
returns-clause-reading c =
    let r = c.args.self.now in
    let le = within-part r.block.items r.at r.filled c.args.count r.ahead c.requires.within in
    let held : c.extend_from_slice.new.self.items ≡ r.cut.items ++ take c.args.count (left_of r) =
    c.in_ok-extend_from_slice.ensures.items ∙ ap (λ l. r.cut.items ++ l) (ap (λ b. slice_range b r.at (r.at + c.args.count)) c.deref.ensures.value ∙ part-front r.block.items r.at r.filled c.args.count le) in
    ap (reading_with r.ended) (part-held r.cut.items c.extend_from_slice.new.self.items r.block.items r.at r.filled c.args.count le held)

pub returns-clause-left : goal.returns-clause-left
returns-clause-left c =
    let r = c.args.self.now in
    part-passed r.block.items r.at r.filled c.args.count (within-part r.block.items r.at r.filled c.args.count r.ahead c.requires.within)
