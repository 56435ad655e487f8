use Rattle.std.proofs.Common.{◌≡◌, ◌∙◌, ℕ, List, Bool, false, length, min, fold, get_or, if◌then◌else◌, ap, ap₂, sym, subst, refl}
use Rattle.std.specs.Vec.{with_items}
use Rattle.std.proofs.lemmas.List.{with_items_is}
use Rattle.mg_calc.specs.declared.edge.Edge.{Edge}
use Rattle.mg_node.specs.Views.{IntakeView, EngineView}
use Rattle.mg_sched.specs.Views.{NetView}
use Rattle.mg_sched.specs.Code.Outputs.{HaveOutputs, LeadToPorts, AreLaid, AreWithin, AllGiven}
use Rattle.mg_sched.specs.Trims.{came_of}
use Rattle.mg_sched.proofs.StreamOutputs.{have_outputs, lead_to_ports}
use Rattle.mg_sched.proofs.KeptStreams.{marks_long}
use Rattle.mg_sched.proofs.TrimKeeps.{net_within, net_trims, net_stands}
use Rattle.mg_sched.proofs.net.Net.trim.Goals as goal

pub set_laid-requires-clause-outputs : goal.set_laid-requires-clause-outputs
set_laid-requires-clause-outputs g c =
    subst (HaveOutputs c.self.inside.plan) (sym c.deref.ensures.value) (subst (λ (v : NetView). HaveOutputs v.plan v.engines) (sym c.self.view_is) (have_outputs c.requires.stands.job c.args.self.now c.requires.stands.stands))

pub lower-requires : goal.lower-requires
lower-requires g c =
    let long : length c.deref_mut-2.result.now ≡ length c.self.inside.plan.streams = c.deref_mut-2.ensures.len ∙ c.self.invariant.3 in
    let own : LeadToPorts (length c.self.inside.plan.streams) c.self.inside.plan.edges c.self.inside.intakes.items = subst (λ (v : NetView). LeadToPorts (length v.plan.streams) v.plan.edges v.intakes) (sym c.self.view_is) (lead_to_ports c.args.self.now c.requires.stands) in
    subst (λ (n : ℕ). LeadToPorts n c.as_slice.result.now c.deref-2.result.now) (sym long)
    (subst (λ (es : List Edge). LeadToPorts (length c.self.inside.plan.streams) es c.deref-2.result.now) (sym c.as_slice.ensures)
    (subst (λ (is : List IntakeView). LeadToPorts (length c.self.inside.plan.streams) c.self.inside.plan.edges is) (sym c.deref-2.ensures.value) own))

pub spare-requires : goal.spare-requires
spare-requires g c =
    let own : length c.self.inside.kept.items ≡ length c.self.inside.plan.streams = subst (λ (v : NetView). length v.kept ≡ length v.plan.streams) (sym c.self.view_is) (marks_long c.args.self.now c.requires.stands) in
    let kept : length c.deref-3.result.now ≡ length c.self.inside.kept.items = ap (λ (ks : List Bool). length ks) c.deref-3.ensures.value in
    c.deref_mut-3.ensures.len ∙ c.self.invariant.3 ∙ sym (kept ∙ own)

pub give_up-requires-clause-outputs : goal.give_up-requires-clause-outputs
give_up-requires-clause-outputs g c =
    subst (HaveOutputs c.self.inside.plan) (sym c.deref_mut-4.ensures.value) (subst (λ (v : NetView). HaveOutputs v.plan v.engines) (sym c.self.view_is) (have_outputs c.requires.stands.job c.args.self.now c.requires.stands.stands))

pub give_up-requires-clause-within : goal.give_up-requires-clause-within
give_up-requires-clause-within g c =
    let laid = c.set_laid.new.got in
    let low = c.lower.new.got in
    let got = c.spare.new.got in
    let laid_is : c.deref_mut-2.result.now ≡ laid = c.deref_mut-2.ensures.value ∙ with_items_is c.self.inside.got laid (c.set_laid.ensures.count ∙ c.deref_mut.ensures.len) in
    let low_is : c.deref_mut-3.result.now ≡ low = c.deref_mut-3.ensures.value ∙ with_items_is (with_items c.self.inside.got laid) low (c.lower.ensures.count ∙ c.deref_mut-2.ensures.len) in
    let got_is : c.deref-4.result.now ≡ got = c.deref-4.ensures.value ∙ with_items_is (with_items (with_items c.self.inside.got laid) low) got (c.spare.ensures.count ∙ c.deref_mut-3.ensures.len) in
    let are : AreLaid c.self.inside.engines.items (length c.self.inside.plan.streams) laid = subst (λ (es : List EngineView). AreLaid es (length c.self.inside.plan.streams) laid) c.deref.ensures.value c.set_laid.ensures.laid in
    let lowered : (s : ℕ) → get_or low s 0 ≡ fold min (get_or laid s 0) (came_of c.self.inside.intakes.items c.self.inside.plan.edges s) =
    λ s. c.lower.ensures.lowered s ∙ ap (λ (ns : List ℕ). fold min (get_or ns s 0) (came_of c.deref-2.result.now c.as_slice.result.now s)) laid_is
    ∙ ap₂ (λ (is : List IntakeView) (es : List Edge). fold min (get_or laid s 0) (came_of is es s)) c.deref-2.ensures.value c.as_slice.ensures in
    let spared : (s : ℕ) → get_or got s 0 ≡ (if get_or c.self.inside.kept.items s false then 0 else fold min (get_or laid s 0) (came_of c.self.inside.intakes.items c.self.inside.plan.edges s)) =
    λ s. c.spare.ensures.spared s ∙ ap₂ (λ (ks : List Bool) (ns : List ℕ). if get_or ks s false then 0 else get_or ns s 0) c.deref-3.ensures.value low_is
    ∙ ap (λ (n : ℕ). if get_or c.self.inside.kept.items s false then 0 else n) (lowered s) in
    subst (λ (ns : List ℕ). AreWithin c.deref_mut-4.result.now ns) (sym got_is) (subst (λ (es : List EngineView). AreWithin es got) (sym c.deref_mut-4.ensures.value) (net_within _ c.args.self.now laid got c.self.view_is c.requires.stands are spared))

pub returns-clause-trims : goal.returns-clause-trims
returns-clause-trims g c =
    let laid = c.set_laid.new.got in
    let low = c.lower.new.got in
    let got = c.spare.new.got in
    let streams = length c.self.inside.plan.streams in
    let laid_is : c.deref_mut-2.result.now ≡ laid = c.deref_mut-2.ensures.value ∙ with_items_is c.self.inside.got laid (c.set_laid.ensures.count ∙ c.deref_mut.ensures.len) in
    let low_is : c.deref_mut-3.result.now ≡ low = c.deref_mut-3.ensures.value ∙ with_items_is (with_items c.self.inside.got laid) low (c.lower.ensures.count ∙ c.deref_mut-2.ensures.len) in
    let got_is : c.deref-4.result.now ≡ got = c.deref-4.ensures.value ∙ with_items_is (with_items (with_items c.self.inside.got laid) low) got (c.spare.ensures.count ∙ c.deref_mut-3.ensures.len) in
    let engines_is : (with_items c.self.inside.engines c.give_up.new.engines).items ≡ c.give_up.new.engines = with_items_is c.self.inside.engines c.give_up.new.engines (c.give_up.ensures.count ∙ c.deref_mut-4.ensures.len) in
    let are : AreLaid c.self.inside.engines.items streams laid = subst (λ (es : List EngineView). AreLaid es streams laid) c.deref.ensures.value c.set_laid.ensures.laid in
    let lowered : (s : ℕ) → get_or low s 0 ≡ fold min (get_or laid s 0) (came_of c.self.inside.intakes.items c.self.inside.plan.edges s) =
    λ s. c.lower.ensures.lowered s ∙ ap (λ (ns : List ℕ). fold min (get_or ns s 0) (came_of c.deref-2.result.now c.as_slice.result.now s)) laid_is
    ∙ ap₂ (λ (is : List IntakeView) (es : List Edge). fold min (get_or laid s 0) (came_of is es s)) c.deref-2.ensures.value c.as_slice.ensures in
    let spared : (s : ℕ) → get_or got s 0 ≡ (if get_or c.self.inside.kept.items s false then 0 else fold min (get_or laid s 0) (came_of c.self.inside.intakes.items c.self.inside.plan.edges s)) =
    λ s. c.spare.ensures.spared s ∙ ap₂ (λ (ks : List Bool) (ns : List ℕ). if get_or ks s false then 0 else get_or ns s 0) c.deref-3.ensures.value low_is
    ∙ ap (λ (n : ℕ). if get_or c.self.inside.kept.items s false then 0 else n) (lowered s) in
    let all : AllGiven g.C.NodeCalculator.laws got streams c.self.inside.engines.items (with_items c.self.inside.engines c.give_up.new.engines).items =
    subst (λ (es : List EngineView). AllGiven g.C.NodeCalculator.laws got streams c.self.inside.engines.items es) (sym engines_is)
    (subst (λ (es : List EngineView). AllGiven g.C.NodeCalculator.laws got streams es c.give_up.new.engines) c.deref_mut-4.ensures.value
    (subst (λ (ns : List ℕ). AllGiven g.C.NodeCalculator.laws ns streams c.deref_mut-4.result.now c.give_up.new.engines) got_is c.give_up.ensures)) in
    net_trims _ c.args.self.now _ laid got c.self.view_is c.requires.stands refl are spared all

pub returns-clause-stands : goal.returns-clause-stands
returns-clause-stands g c =
    let laid = c.set_laid.new.got in
    let low = c.lower.new.got in
    let got = c.spare.new.got in
    let streams = length c.self.inside.plan.streams in
    let low_is : c.deref_mut-3.result.now ≡ low = c.deref_mut-3.ensures.value ∙ with_items_is (with_items c.self.inside.got laid) low (c.lower.ensures.count ∙ c.deref_mut-2.ensures.len) in
    let got_is : c.deref-4.result.now ≡ got = c.deref-4.ensures.value ∙ with_items_is (with_items (with_items c.self.inside.got laid) low) got (c.spare.ensures.count ∙ c.deref_mut-3.ensures.len) in
    let engines_is : (with_items c.self.inside.engines c.give_up.new.engines).items ≡ c.give_up.new.engines = with_items_is c.self.inside.engines c.give_up.new.engines (c.give_up.ensures.count ∙ c.deref_mut-4.ensures.len) in
    let all : AllGiven g.C.NodeCalculator.laws got streams c.self.inside.engines.items (with_items c.self.inside.engines c.give_up.new.engines).items =
    subst (λ (es : List EngineView). AllGiven g.C.NodeCalculator.laws got streams c.self.inside.engines.items es) (sym engines_is)
    (subst (λ (es : List EngineView). AllGiven g.C.NodeCalculator.laws got streams es c.give_up.new.engines) c.deref_mut-4.ensures.value
    (subst (λ (ns : List ℕ). AllGiven g.C.NodeCalculator.laws ns streams c.deref_mut-4.result.now c.give_up.new.engines) got_is c.give_up.ensures)) in
    net_stands _ c.args.self.now _ got c.self.view_is (returns-clause-trims g c) all
