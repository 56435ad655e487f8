-- The laws as lemmas, and what callers want of the relations beside them. Proofs of the crates above cite these, and no other file of this
-- folder.

-- which works are out, what an engine keeps, and standings that grow
pub use Rattle.mg_node.proofs.KeptOut.{claim_puts_out, claim_set_up, claim_stays, commits_back, commits_set_up, window_set_up, unshelving_set_up, advance_out, advance_set_up, window_out}
pub use Rattle.mg_node.proofs.StaysOut.{shelved_back, unshelved_out}
pub use Rattle.mg_node.proofs.WorksOut.{claim_out, back_in_place}
pub use Rattle.mg_node.proofs.ClaimsGrow.{claim_grows}
pub use Rattle.mg_node.proofs.FrontGrows.{commit_grows}
pub use Rattle.mg_node.proofs.IntakesGrow.{deliver_grows}
pub use Rattle.mg_node.proofs.Growing.{advance_grows, unshelving_grows, engine_further, grown_by_itself, grown_further}
-- what is lawful after a step
pub use Rattle.mg_node.proofs.AdvanceKeeps.{advance_lawful}
pub use Rattle.mg_node.proofs.Cells.{claim_lawful}
pub use Rattle.mg_node.proofs.CommitKeeps.{commit_lawful}
pub use Rattle.mg_node.proofs.Performing.{performed_lawful}
pub use Rattle.mg_node.proofs.Shelving.{IsFound, found_at, shelved_lawful, unshelved_lawful}
pub use Rattle.mg_node.proofs.Outcomes.{ran_outcome, unrun_outcome}
pub use Rattle.mg_node.proofs.EngineFronts.{committed_whole, is_some_map}
pub use Rattle.mg_node.proofs.Leads.{delivery_lawful, leads_one, leads_port}
pub use Rattle.mg_node.proofs.Filling.{input_lawful}
pub use Rattle.mg_node.proofs.Making.{fresh_unbegun}
pub use Rattle.mg_node.proofs.BeginKeeps.{is_new, unbegun_parts}
pub use Rattle.mg_node.proofs.HandedBack.{first_told}
-- and for the job of more input
pub use Rattle.mg_node.proofs.Extending.{extended_lawful, extended_by_nothing}
pub use Rattle.mg_node.proofs.LaterParts.{engine_stays, intake_stays, unbegun_stays, work_stays}
-- what lawful parts are known by
pub use Rattle.mg_node.proofs.Knowing.{engine_known, engine_there, input_known, intake_ports, may_begin, nothing_ready}
pub use Rattle.mg_node.proofs.FewWait.{few_packets}
pub use Rattle.mg_node.proofs.SmallNumbers.{bounds_small, claims_counted, claims_small, counts_small, port_bounds_small}
pub use Rattle.mg_node.proofs.Held.{held_all}
pub use Rattle.mg_node.proofs.PortSteps.{queue-there}
-- parts and the solution
pub use Rattle.mg_node.proofs.LaidAndCame.{input_has_laid, intake_has_reached, node_has_laid}
pub use Rattle.mg_node.proofs.Resting.{meets_its_equation}
pub use Rattle.mg_node.proofs.RestingCounts.{rests_count, rests_fault}
pub use Rattle.mg_node.proofs.RestingStands.{all_stood_same, each_prefix, each_stands, stood_same}
pub use Rattle.mg_node.proofs.Zips.{zip_at, zip_long}
-- user-supplied calculators
pub use Rattle.mg_node.proofs.OneCalculator.{calculator_there, handed_there}
pub use Rattle.mg_node.proofs.CallsHad.{had_calls}
pub use Rattle.mg_node.proofs.FrontsHad.{engine_front, unbegun_front, work_out_front}
pub use Rattle.mg_node.proofs.ClosesHad.{held_after, wound_closed, wound_front}
-- lists with another element at a place
pub use Rattle.mg_node.proofs.Frames.{get_drop, get_first, get_other, put_there, same_put}
pub use Rattle.mg_node.proofs.ClaimsKeep.{set_get}
pub use Rattle.mg_node.proofs.ShelfLaws.{get_set}
pub use Rattle.mg_node.proofs.Making.{read_at, some_same}
pub use Rattle.mg_node.proofs.HeldRules.{of_node as at_each, rules_fit}
