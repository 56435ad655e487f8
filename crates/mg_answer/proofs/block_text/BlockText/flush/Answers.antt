use Rattle.std.proofs.Common.{ℕ, List, refl, sym, subst}
use Rattle.mg_feed.specs.Sent.{Sent}
use Rattle.mg_answer.specs.Put.{BlockView, HasPutIn}
use Rattle.mg_answer.proofs.Writing.{put-rest}
use Rattle.mg_answer.proofs.block_text.BlockText.flush.Goals as goal

pub returns-clause-put : goal.returns-clause-put
returns-clause-put g c first text put =
    put-rest c.put_all.result c.self.inside.failed _ first (g.K.Sink.told c.args.output.now) (g.K.Sink.told c.put_all.new.sink) c.self.inside.text.items c.clear.new.self.items text
    c.if-self.false (subst (λ (v : BlockView). HasPutIn first (g.K.Sink.told c.args.output.now) v text) (sym c.self.view_is) put)
    (subst (λ (l : List ℕ). Sent c.put_all.result (g.K.Sink.told c.args.output.now) (g.K.Sink.told c.put_all.new.sink) l) c.deref.ensures.value c.put_all.ensures)
    c.clear.ensures.items refl
