use Rattle.std.proofs.Common.{sym, ◌∙◌}
use Rattle.mg_feed.proofs.Forms.{count-members_view, member_count-as_object}
use Rattle.mg_feed.proofs.form.count_of.Goals as goal

pub returns-in-Some : goal.returns-in-Some
returns-in-Some c =
    c.len.ensures.len ∙ sym (count-members_view c.in-Some.members.now.entries) ∙ member_count-as_object _ _ c.in-Some.ensures
