use Rattle.std.proofs.Common.{sym, ◌∙◌}
use Rattle.std.proofs.lemmas.Bool.{false≢true}
use Rattle.serde_json.specs.View.{view}
use Rattle.mg_feed.proofs.Forms.{packets_form-some}
use Rattle.mg_feed.proofs.form.packets_by.Goals as goal

pub returns-else-is_empty : goal.returns-else-is_empty
returns-else-is_empty c =
    rw (sym c.in_ok-time.ensures, sym c.in_ok-get.ensures, sym c.in_ok-packets.ensures)
    (sym (packets_form-some (view c.in_ok-time.time.now) c.in_ok-packets.packets.now.entries
    (λ none. false≢true (sym c.if-is_empty.false ∙ c.is_empty.ensures.1 none))))
