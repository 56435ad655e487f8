use Rattle.std.proofs.Common.{◌≤◌, ◌∙◌, ap, sym, subst}
use Rattle.std.proofs.lemmas.Result.{IfOk-weaker}
use Rattle.mg_text.specs.Tree.{Fields, depth}
use Rattle.mg_text.specs.View.{fields_of}
use Rattle.mg_text.specs.Answer.{max_depth}
use Rattle.mg_text.specs.Canonical.{AreSpelled}
use Rattle.mg_config.specs.Config.{graph_view, config_of}
use Rattle.mg_config.proofs.WrittenBack.{written_back}
use Rattle.mg_config.proofs.Spelled.{spelled_tree}
use Rattle.mg_config.proofs.Shallow.{shallow_tree}
use Rattle.mg_config.proofs.writing.write.Goals as goal

pub returns-clause-read_back : goal.returns-clause-read_back
returns-clause-read_back c = IfOk-weaker c.new.result _ _
    (λ tree same sound. ap config_of (same ∙ ap fields_of c.in_ok-fields.ensures) ∙ written_back (graph_view c.args.config.now) sound) c.new.ensures

pub returns-clause-spelled : goal.returns-clause-spelled
returns-clause-spelled c = IfOk-weaker c.new.result _ _
    (λ tree same sound printable. subst AreSpelled (sym (same ∙ ap fields_of c.in_ok-fields.ensures)) (spelled_tree (graph_view c.args.config.now) sound printable)) c.new.ensures

pub returns-clause-shallow : goal.returns-clause-shallow
returns-clause-shallow c = IfOk-weaker c.new.result _ _
    (λ tree same printable. subst (λ (fields : Fields). depth fields ≤ max_depth) (sym (same ∙ ap fields_of c.in_ok-fields.ensures)) (shallow_tree (graph_view c.args.config.now) printable)) c.new.ensures
