use Rattle.std.proofs.Common.{◌≡◌, ◌∙◌, sym, ap, length, false}
use Rattle.std.specs.Prelude.{replicate}
use Rattle.mg_subgraph.specs.Code.Places.{listed, flag_at, set_count}
use Rattle.mg_subgraph.proofs.Flags.{flag_at-none, set_count-none}
use Rattle.mg_subgraph.proofs.links.Found.new.Goals as goal

pub invariant_of-result : goal.invariant_of-result
invariant_of-result c =
    let flags : c.in_ok-vec.field-0.items ≡ replicate c.args.count false = c.in_ok-vec.ensures.items_if_clones_equal (λ y same. same) in
    record {
      same = λ place. ap (listed place) c.new.ensures.items ∙ sym (ap (λ l. flag_at l place) flags ∙ flag_at-none c.args.count place);
      once = ap length c.new.ensures.items ∙ sym (ap set_count flags ∙ set_count-none c.args.count);
    }
