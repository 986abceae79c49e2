-- The words of the lower crates, of the specs and of std that these proofs share.
pub use Rattle.loop_ir.specs.Chains.{chained, flow_finds, states_in, steps_find}
pub use Rattle.loop_ir.specs.Costs.{plain_cost, turn_cost}
pub use Rattle.loop_ir.specs.FlowTests.{is_safe, widths}
pub use Rattle.loop_ir.specs.Flows.{AllActs, AllFlow, EventOf, FlowOf, RunOf, TurnsOf, acts, cycle}
pub use Rattle.loop_ir.specs.Flows.{flow_map, moved, run, zeros}
pub use Rattle.loop_ir.specs.Flows.EventOf.{Counted, Done, Moved}
pub use Rattle.loop_ir.specs.Flows.FlowOf.{Do, End, If, Loop, Put}
pub use Rattle.loop_ir.specs.Flows.TurnsOf.{Last, Turn}
pub use Rattle.loop_ir.specs.Limits.{HasCommands}
pub use Rattle.loop_ir.specs.Loops.{RoundOf, all_rounds, flow_rounds, round_at, rounds}
pub use Rattle.loop_ir.specs.Plain.{AllParts, Block, StepOf}
pub use Rattle.loop_ir.specs.Plain.StepOf.{Along, Flowed, Single}
pub use Rattle.loop_ir.specs.Spots.{Spot, is_state, nth_place, spot_at}
pub use Rattle.loop_ir.specs.States.{enters, has_states, leaves, row_count, row_outs}
pub use Rattle.loop_ir.specs.declared.ir.Move.{Move}
pub use Rattle.loop_ir.specs.declared.ir.Move.TheVariants.{Add, AddI, Mov, SetI, SetN, SetT, SubI}
pub use Rattle.loop_ir.specs.declared.ir.Place.{Place}
pub use Rattle.loop_ir.specs.declared.ir.Space.{Space}
pub use Rattle.loop_ir.specs.declared.ir.Sub.{Sub}
pub use Rattle.mig_graph.specs.declared.Lit.{Lit}
pub use Rattle.std.proofs.Common.{Bool, List, [], ap, arith, cond, false, inl, inr, length, map}
pub use Rattle.std.proofs.Common.{refl, subst, suc, sym, true, zero, ℕ, ◌++◌, ◌+◌, ◌-◌, ◌<◌, ◌∙◌}
pub use Rattle.std.proofs.Common.{◌∷◌, ◌≡◌, ◌≤◌, ◌⊎◌}
pub use Rattle.std.proofs.lemmas.Bool.{and_parts, cases_Bool, cases_eq, eq-eqb, or_parts}
pub use Rattle.std.proofs.lemmas.Bool.Decides.{nat_tests}
pub use Rattle.std.proofs.lemmas.List.{length-map, map-append}
pub use Rattle.std.proofs.lemmas.List.Sums.{sum_by-cons}
pub use Rattle.std.specs.List.{AllByRecursion, list_all, list_any}
pub use Rattle.std.specs.Prelude.{nat_le, slice_index, slice_set, ◌==◌}
