use Rattle.std.proofs.Common.{◌≡◌, ◌∙◌, List, Bool, true, length, length-set, set, ap, sym, refl, subst, arith}
use Rattle.std.specs.Vec.{with_items}
use Rattle.std.proofs.lemmas.List.{with_items_is}
use Rattle.mg_sched.specs.Views.{NetView}
use Rattle.mg_sched.proofs.KeptStreams.{marks_long, keeps_one, kept_stands}
use Rattle.mg_sched.proofs.net.Net.keep.Goals as goal

pub mark-requires : goal.mark-requires
mark-requires g c =
    let own : length c.self.inside.kept.items ≡ length c.self.inside.plan.streams = subst (λ (v : NetView). length v.kept ≡ length v.plan.streams) (sym c.self.view_is) (marks_long c.args.self.now c.requires.stands) in
    let plan : length c.self.inside.plan.streams ≡ length c.args.self.now.plan.streams = ap (λ (v : NetView). length v.plan.streams) c.self.view_is in
    let shown : length c.deref_mut.result.now ≡ length c.self.inside.kept.items = ap (λ (ks : List Bool). length ks) c.deref_mut.ensures.value in
    let less = c.requires.stream in
    omega (arith, own, plan, shown, less)

pub returns-clause-keeps : goal.returns-clause-keeps
returns-clause-keeps g c =
    let own : length c.self.inside.kept.items ≡ length c.self.inside.plan.streams = subst (λ (v : NetView). length v.kept ≡ length v.plan.streams) (sym c.self.view_is) (marks_long c.args.self.now c.requires.stands) in
    let plan : length c.self.inside.plan.streams ≡ length c.args.self.now.plan.streams = ap (λ (v : NetView). length v.plan.streams) c.self.view_is in
    let less = c.requires.stream in
    let whole : (with_items c.self.inside.kept c.mark.new.marks).items ≡ c.mark.new.marks = with_items_is c.self.inside.kept c.mark.new.marks (ap (λ (ks : List Bool). length ks) c.mark.ensures ∙ length-set c.deref_mut.result.now c.args.stream true ∙ c.deref_mut.ensures.len) in
    keeps_one _ c.args.self.now _ c.args.stream c.self.view_is refl (whole ∙ c.mark.ensures ∙ ap (λ (ks : List Bool). set ks c.args.stream true) c.deref_mut.ensures.value) (omega (arith, own, plan, less))

pub returns-clause-stands : goal.returns-clause-stands
returns-clause-stands g c = λ job h.
    let keeps = returns-clause-keeps g c in
    let whole : (with_items c.self.inside.kept c.mark.new.marks).items ≡ c.mark.new.marks = with_items_is c.self.inside.kept c.mark.new.marks (ap (λ (ks : List Bool). length ks) c.mark.ensures ∙ length-set c.deref_mut.result.now c.args.stream true ∙ c.deref_mut.ensures.len) in
    kept_stands job c.args.self.now _ keeps.parts
    (ap (λ (ks : List Bool). length ks) (whole ∙ c.mark.ensures ∙ ap (λ (ks : List Bool). set ks c.args.stream true) c.deref_mut.ensures.value) ∙ length-set c.self.inside.kept.items c.args.stream true ∙ ap (λ (v : NetView). length v.kept) c.self.view_is) h
