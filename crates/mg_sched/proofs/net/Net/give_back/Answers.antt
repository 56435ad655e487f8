use Rattle.std.proofs.Common.{◌≡◌, [], length, map, option_map, vec_len, ap, ◌∙◌, arith}
use Rattle.std.proofs.lemmas.List.{nil_from_length, with_items_is}
use Rattle.mg_sched.specs.GivesBack.{with_cells, given_back}
use Rattle.mg_sched.proofs.GivenBack.{places_long, all_given}
use Rattle.mg_sched.proofs.CountedBack.{knows_back, counted, own_back, unused_back}
use Rattle.mg_sched.proofs.net.Net.give_back.Goals as goal

pub returns-clause-told : goal.returns-clause-told
returns-clause-told g c =
    let empty = c.self.invariant.1 in
    let counted : vec_len c.self.inside.boxes ≡ length c.self.inside.boxes.items = c.self.inside.boxes.ok.0 in
    let none : c.self.inside.boxes.items ≡ [] = nil_from_length c.self.inside.boxes.items (omega (arith, empty, counted)) in
    let long : length c.put_back.new.places ≡ c.self.inside.spare.len = places_long g.C.NodeCalculator.told c.put_back.new.places c.deref_mut.result.now c.self.inside.plan.nodes c.self.inside.engines.items c.self.inside.work_queues.items c.put_back.ensures ∙ c.deref_mut.ensures.len in
    all_given g.C.NodeCalculator.told c.all_in.result.items c.self.inside.boxes.items _ c.put_back.new.places
    (with_cells (map (option_map g.C.NodeCalculator.told) c.self.inside.spare.items) c.self.inside.plan.nodes c.self.inside.engines.items c.self.inside.work_queues.items) _
    c.all_in.ensures none (with_items_is c.self.inside.spare c.put_back.new.places long)
    (c.put_back.ensures ∙ ap (λ ps. with_cells (map (option_map g.C.NodeCalculator.told) ps) c.self.inside.plan.nodes c.self.inside.engines.items c.self.inside.work_queues.items) c.deref_mut.ensures.value)
    (ap given_back c.self.view_is)

pub returns-clause-count : goal.returns-clause-count
returns-clause-count g c = λ job h. counted g.C.NodeCalculator.told c.all_in.result.items job c.args.self (returns-clause-told g c) (knows_back job c.args.self h)

pub returns-clause-own : goal.returns-clause-own
returns-clause-own g c = λ job number place node engine work_queue h there boxed at on. own_back (map g.C.NodeCalculator.told c.all_in.result.items) job c.args.self number place node engine work_queue (returns-clause-told g c) (knows_back job c.args.self h) there boxed at on

pub returns-clause-unused : goal.returns-clause-unused
returns-clause-unused g c = λ job place t h lies. unused_back (map g.C.NodeCalculator.told c.all_in.result.items) job c.args.self place t (returns-clause-told g c) (knows_back job c.args.self h) lies
