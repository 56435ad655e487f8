use Rattle.std.proofs.Common.{◌≡◌, rules}
use Rattle.std.proofs.lemmas.Bool.Decides.{Decides-eqb}
use Rattle.std.proofs.lemmas.Slice.Eq.{slice_eq-Decides}
use Rattle.mg_trace.proofs.Numerals.{number_is_utf8, number_is_parsed}
use Rattle.mg_trace.proofs.event_reader.number_of.Goals as goal

pub returns-in_default : goal.returns-in_default
returns-in_default c = λ n. (λ e. absurd (cc), λ p. absurd (c.in_default.ensures.cases.0 (number_is_utf8 n c.args.text.now p.0 p.1)))

pub returns-in_default-parse : goal.returns-in_default-parse
returns-in_default-parse c = λ n. (
  λ e. absurd (cc),
  λ p. let parsed = number_is_parsed n c.in-Ok.digits.now c.parse.result p.0 (cc (c.in-Ok.ensures.cases.0)) c.parse.ensures.value.0 in absurd (cc),
)

pub returns-then-eq : goal.returns-then-eq
returns-then-eq c = λ n.
    let equal = (slice_eq-Decides Decides-eqb c.as_bytes.result.now c.args.text.now c.eq.result c.eq.ensures).0 c.if-eq.true in (
      λ e. let it : c.in-Ok-parse.number ≡ n = cc in (search rules, cc (c.as_bytes.ensures.value, c.format.ensures.text)),
      λ p. let parsed = number_is_parsed n c.in-Ok.digits.now c.parse.result p.0 (cc (c.in-Ok.ensures.cases.0)) c.parse.ensures.value.0 in
          cc (c.in-Ok-parse.is),
    )

pub returns-else-eq : goal.returns-else-eq
returns-else-eq c = λ n. (
  λ e. absurd (cc),
  λ p. let parsed = number_is_parsed n c.in-Ok.digits.now c.parse.result p.0 (cc (c.in-Ok.ensures.cases.0)) c.parse.ensures.value.0 in
      let equal : c.as_bytes.result.now ≡ c.args.text.now = cc (c.as_bytes.ensures.value, c.format.ensures.text, c.in-Ok-parse.is) in
      let true = (slice_eq-Decides Decides-eqb c.as_bytes.result.now c.args.text.now c.eq.result c.eq.ensures).1 equal in
      absurd (cc),
)
