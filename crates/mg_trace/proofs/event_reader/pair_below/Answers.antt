use Rattle.std.proofs.Common.{◌^◌, None, Some, sym, subst, ◌∙◌, arith, drop, ap}
use Rattle.mg_trace.proofs.Numerals.{IsNumberRead, IsPairRead, no_pair_without_space, no_pair_without_first, no_pair_without_second, pair_of_both}
use Rattle.mg_trace.proofs.event_reader.pair_below.Goals as goal

pub returns-in_err-space : goal.returns-in_err-space
returns-in_err-space c =
    subst (IsPairRead c.args.count c.args.text.now) (sym c.from_residual.ensures)
    (no_pair_without_space c.args.count c.args.text.now (omega (arith, c.ranges.count.fits)) (sym c.in_err-space.ensures))

pub returns-in_err-first : goal.returns-in_err-first
returns-in_err-first c =
    subst (IsPairRead c.args.count c.args.text.now) (sym c.from_residual-in_err-first.ensures)
    (no_pair_without_first c.args.count c.in_ok-space.space c.args.text.now (omega (arith, c.ranges.count.fits)) (sym c.in_ok-space.ensures)
    (subst (λ l. IsNumberRead c.args.count l None) c.split_at.ensures.front c.in_err-first.ensures))

pub returns-in_err-second : goal.returns-in_err-second
returns-in_err-second c =
    subst (IsPairRead c.args.count c.args.text.now) (sym c.from_residual-in_err-second.ensures)
    (no_pair_without_second c.args.count c.in_ok-space.space c.args.text.now (omega (arith, c.ranges.count.fits)) (sym c.in_ok-space.ensures)
    (subst (λ l. IsNumberRead (2 ^ 64) l None) (c.split_at-2.ensures.back ∙ ap (drop 1) c.split_at.ensures.back) c.in_err-second.ensures))

pub returns : goal.returns
returns c =
    pair_of_both c.args.count c.in_ok-space.space c.in_ok-first.first c.in_ok-second.second c.args.text.now (omega (arith, c.ranges.count.fits))
    (sym c.in_ok-space.ensures) (subst (λ l. IsNumberRead c.args.count l (Some c.in_ok-first.first)) c.split_at.ensures.front c.in_ok-first.ensures)
    (subst (λ l. IsNumberRead (2 ^ 64) l (Some c.in_ok-second.second)) (c.split_at-2.ensures.back ∙ ap (drop 1) c.split_at.ensures.back) c.in_ok-second.ensures)
