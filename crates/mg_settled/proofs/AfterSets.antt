-- What is left when the first settled sets are claimed, for each policy.
use Rattle.std.proofs.Common.{◌≡◌, ℕ, Bool, List, map, take, drop, All, refl}
use Rattle.std.proofs.lemmas.List.{length-map, get_or-map}
use Rattle.mg_value.specs.Payload.{Plain}
use Rattle.mg_value.specs.declared.policy.Policy.{Policy}
use Rattle.mg_value.specs.declared.policy.Policy.TheVariants.{Default, Mux}
use Rattle.mg_settled.specs.Prefix.{StreamPrefix, IsPrefix, closed, empty_prefix}
use Rattle.mg_settled.specs.Settled.{settled_sets, reach, port_of}
use Rattle.mg_settled.specs.Left.{set_times, goes, without, after_sets}
use Rattle.mg_settled.proofs.Leaving.{packet_at-left_of}
use Rattle.mg_settled.proofs.Leaves.{AllLeave}
use Rattle.mg_settled.proofs.DefaultLeft.{default_sets-left, default_reach-left}
use Rattle.mg_settled.proofs.MuxLeft.{mux_sets-left, mux_reach-left}

pub sets-left : (policy : Policy) (k : ℕ) (ss rs : List (StreamPrefix Plain)) → All IsPrefix ss → AllLeave policy (goes policy (take k (set_times policy ss))) ss rs → settled_sets policy rs ≡ drop k (settled_sets policy ss)
sets-left Default k ss rs h left = default_sets-left k ss rs left
sets-left Mux k ss rs h left = mux_sets-left k ss rs h left

pub reach-left : (policy : Policy) (k : ℕ) (ss rs : List (StreamPrefix Plain)) → All IsPrefix ss → AllLeave policy (goes policy (take k (set_times policy ss))) ss rs → reach policy rs ≡ reach policy ss
reach-left Default k ss rs h left = default_reach-left (goes Default (take k (set_times Default ss))) ss rs left
reach-left Mux k ss rs h left = mux_reach-left k ss rs h left

-- without the packets that go, that is left
without-leaves : (policy : Policy) (test : ℕ → Bool) (ss : List (StreamPrefix Plain)) → AllLeave policy test ss (map (without test) ss)
without-leaves policy test ss = record {
  ports = length-map ss (without test);
  each = λ i there. rw (get_or-map (without test) ss i (closed empty_prefix) (closed empty_prefix) there) (record {
    bound = refl;
    finds = λ t out. packet_at-left_of test t (port_of ss i).packets out;
    rest = λ lead. refl;
  });
}

pub sets-after : (policy : Policy) (k : ℕ) (ss : List (StreamPrefix Plain)) → All IsPrefix ss → settled_sets policy (after_sets policy k ss) ≡ drop k (settled_sets policy ss)
sets-after policy k ss h = sets-left policy k ss (after_sets policy k ss) h (without-leaves policy (goes policy (take k (set_times policy ss))) ss)

pub reach-after : (policy : Policy) (k : ℕ) (ss : List (StreamPrefix Plain)) → All IsPrefix ss → reach policy (after_sets policy k ss) ≡ reach policy ss
reach-after policy k ss h = reach-left policy k ss (after_sets policy k ss) h (without-leaves policy (goes policy (take k (set_times policy ss))) ss)
