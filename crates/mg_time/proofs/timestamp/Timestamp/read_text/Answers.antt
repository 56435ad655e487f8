use Rattle.std.proofs.Common.{◌≡◌, codes, rules}
use Rattle.mg_time.specs.Time.{pre_stream, post_stream}
use Rattle.mg_time.proofs.Names.{reads_pre_stream, reads_post_stream}
use Rattle.mg_time.proofs.timestamp.Timestamp.read_text.Goals as goal

pub returns-then-eq-clause-read : goal.returns-then-eq-clause-read
returns-then-eq-clause-read c = reads_pre_stream c.args.text.now (search rules)

pub returns-then-eq-clause-none : goal.returns-then-eq-clause-none
returns-then-eq-clause-none c =
    let name : c.args.text.now ≡ codes "PreStream" = search rules in
    (λ no. absurd (cc), λ nothing. absurd (nothing pre_stream (search rules)))

pub returns-then-eq-2-clause-read : goal.returns-then-eq-2-clause-read
returns-then-eq-2-clause-read c = reads_post_stream c.args.text.now (search rules)

pub returns-then-eq-2-clause-none : goal.returns-then-eq-2-clause-none
returns-then-eq-2-clause-none c =
    let name : c.args.text.now ≡ codes "PostStream" = search rules in
    (λ no. absurd (cc), λ nothing. absurd (nothing post_stream (search rules)))
