use Rattle.std.proofs.Common.{◌≡◌, true}
use Rattle.std.proofs.lemmas.Bool.Decides.{Decides-eqb}
use Rattle.std.proofs.lemmas.Slice.Eq.{starts_is}
use Rattle.mg_trace.proofs.event_reader.behind.Goals as goal

pub returns-else-starts_with-clause-none : goal.returns-else-starts_with-clause-none
returns-else-starts_with-clause-none c = λ _ rest is.
    let yes : c.starts_with.result ≡ true = (starts_is Decides-eqb c.args.line.now c.args.word.now c.starts_with.result c.starts_with.ensures.value).1 rest is in
    let no = c.if-starts_with.false in
    absurd (cc)
