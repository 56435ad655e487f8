-- The laws as lemmas: proofs of the crates above cite these, and no other file of this folder.
use Rattle.std.proofs.Common.{◌≡◌, ℕ, is_some, cond, drop}
use Rattle.mg_settled.specs.Prefix.{StreamPrefix, IsPrefix}
use Rattle.mg_settled.specs.Settled.{packet_at}
use Rattle.mg_settled.specs.FirstSet.{front_at, from, behind}
use Rattle.mg_settled.proofs.Climbs.{prefix-climbs}
use Rattle.mg_settled.proofs.FirstSets.{found-first, left-first}
-- extension is an order, and each step extends
pub use Rattle.mg_settled.proofs.Extending.{same_prefix, extended_by_itself, all_by_themselves, extended_further, all_further, extended_both_ways, all_both_ways, ended_stays, appended_extends, all_appended_extend, all_appended_behind, raised_extends, closed_extends}
pub use Rattle.mg_settled.proofs.PrefixSteps.{empty_is_prefix, appended_is_prefix, all_appended_is_prefix, raised_is_prefix, closed_is_prefix, packets_below}
pub use Rattle.mg_settled.proofs.Ports.{port-prefix, port-extended, inputs-extended}
pub use Rattle.mg_settled.proofs.SetSteps.{all_inputs, shown-set, shown-is}
-- settled sets and the reach
pub use Rattle.mg_settled.proofs.PolicySets.{sets-stay, sets-further, sets-end, reach-rises, reach-least, reach-most, times-rise, below-reach, below-bounds, sets-places, sets-shown}
pub use Rattle.mg_settled.proofs.Times.{Rises}
pub use Rattle.mg_settled.proofs.SettledTimes.{Rises-increasing}
pub use Rattle.mg_settled.proofs.LeadingPackets.{each-leading, all-leading, no-sets}
pub use Rattle.mg_settled.proofs.ShownSets.{sets-show}
pub use Rattle.mg_settled.proofs.FirstSets.{first-time, leading-stays, after-first}
-- what is left
pub use Rattle.mg_settled.proofs.AfterSets.{sets-after, reach-after}
pub use Rattle.mg_settled.proofs.GonePackets.{sets-gone, reach-gone, none-gone, gone-extended, selects-gone}
pub use Rattle.mg_settled.proofs.ClaimedPackets.{gone-claimed}
pub use Rattle.mg_settled.proofs.ClaimsAdded.{after-added, gone-added, first-added}
pub use Rattle.mg_settled.proofs.LeftSets.{gone-further}
pub use Rattle.mg_settled.proofs.Behind.{drop_is_prefix, without_is_prefix, from_is_prefix, behind_is_prefix, all_after_sets, all_without_first}
-- the loopback
pub use Rattle.mg_settled.proofs.LoopbackStream.{loopback_is_prefix, loopback_extends, replies-most, replies-stay, loopback-same}
pub use Rattle.mg_settled.proofs.LoopbackFurther.{loopback-behind, loopback-further}

-- once all packets before a time are gone, the packet that a prefix has at the time stands first, and the rest stands after it
pub found-at : {X : Type 0} (t : ℕ) (s : StreamPrefix X) → IsPrefix s → packet_at t s.packets ≡ front_at t (from t s).packets
found-at t s h = found-first t 0 s.bound s.packets (prefix-climbs s h)

pub left-behind : {X : Type 0} (t : ℕ) (s : StreamPrefix X) → IsPrefix s → (behind t s).packets ≡ cond (is_some (packet_at t s.packets)) (drop 1 (from t s).packets) (from t s).packets
left-behind t s h = left-first t 0 s.bound s.packets (prefix-climbs s h)
