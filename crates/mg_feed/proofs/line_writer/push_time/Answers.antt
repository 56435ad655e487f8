use Rattle.std.proofs.Common.{◌∙◌, ap, sym, ◌++◌}
use Rattle.std.proofs.lemmas.Bool.{eqb-true}
use Rattle.mg_time.specs.Time.{pre_stream, post_stream}
use Rattle.mg_feed.proofs.Text.{time-pre_stream, time-post_stream}
use Rattle.mg_feed.proofs.line_writer.push_time.Goals as goal

pub returns-in_ok-push_bytes-clause-put : goal.returns-in_ok-push_bytes-clause-put
returns-in_ok-push_bytes-clause-put c =
    c.in_ok-push_bytes.ensures.put
    ∙ ap (λ t. c.args.text.now.items ++ t) (sym (time-pre_stream c.args.at (eqb-true c.args.at pre_stream (sym c.eq.ensures ∙ c.if-eq.true))))

pub returns-in_ok-push_bytes-2-clause-put : goal.returns-in_ok-push_bytes-2-clause-put
returns-in_ok-push_bytes-2-clause-put c =
    c.in_ok-push_bytes-2.ensures.put
    ∙ ap (λ t. c.args.text.now.items ++ t) (sym (time-post_stream c.args.at (eqb-true c.args.at post_stream (sym c.eq-else-eq.ensures ∙ c.if-eq-2.true))))
