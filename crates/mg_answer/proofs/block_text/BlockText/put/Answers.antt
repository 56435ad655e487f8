use Rattle.std.proofs.Common.{refl, sym, subst}
use Rattle.mg_answer.specs.Put.{BlockView, HasPutIn}
use Rattle.mg_answer.proofs.Writing.{put-more}
use Rattle.mg_answer.proofs.block_text.BlockText.put.Goals as goal

pub returns-clause-put : goal.returns-clause-put
returns-clause-put g c first text put =
    put-more c.hand_on.result c.self.inside.failed _ first (g.K.Sink.told c.args.output.now) (g.K.Sink.told c.hand_on.new.output) c.self.inside.text.items
    (g.P.Puts.says c.args.part.now) c.put_at.new.text.items c.hand_on.new.text.items text
    c.if-self.false (subst (λ (v : BlockView). HasPutIn first (g.K.Sink.told c.args.output.now) v text) (sym c.self.view_is) put)
    c.in_ok-put_at.ensures.put
    c.hand_on.ensures refl
