-- The words of the lower crates, of the specs and of std that these proofs share.
pub use Rattle.bit_rows.specs.declared.TheConstants.{WIDTH_MAX}
pub use Rattle.loop_ir.specs.Costs.{same_sub}
pub use Rattle.loop_ir.specs.FlowTests.{counts, is_event_safe, is_safe, names, nests}
pub use Rattle.loop_ir.specs.Flows.{EventOf, FlowOf, TurnsOf, all_acts, all_flow, run}
pub use Rattle.loop_ir.specs.Flows.EventOf.{Counted, Done, Moved}
pub use Rattle.loop_ir.specs.Flows.FlowOf.{Do, End, If, Loop, Put}
pub use Rattle.loop_ir.specs.Flows.TurnsOf.{Last, Turn}
pub use Rattle.loop_ir.specs.Limits.{CanCompile, HasValues, IsRound, IsSmall, all_stand}
pub use Rattle.loop_ir.specs.Limits.{is_in_register, may_stand, stays_in_registers, step_stands}
pub use Rattle.loop_ir.specs.Loops.{RoundOf, all_rounds, flow_rounds, round_at, rounds, rounds_in}
pub use Rattle.loop_ir.specs.Loops.{step_rounds, sub_value}
pub use Rattle.loop_ir.specs.Plain.{Block, StepOf, flow_of, step_of}
pub use Rattle.loop_ir.specs.Plain.StepOf.{Along, Flowed, Single}
pub use Rattle.loop_ir.specs.Spots.{IsOwn, Spot, is_state, nth_place}
pub use Rattle.loop_ir.specs.declared.ir.Move.{Move}
pub use Rattle.loop_ir.specs.declared.ir.Move.TheVariants.{SetI, SetN}
pub use Rattle.loop_ir.specs.declared.ir.Place.{Place}
pub use Rattle.loop_ir.specs.declared.ir.Sub.{Sub}
pub use Rattle.loop_ir.specs.declared.ir.Sub.TheVariants.{Inner, InnerDown, Register, Zero}
pub use Rattle.loop_laws.proofs.Same.{sub_true}
pub use Rattle.std.proofs.Common.{Bool, List, [], ap, arith, cond, drop, false, get_or}
pub use Rattle.std.proofs.Common.{get_or-set_other, get_or-set_same, inl, inr, length, length-set}
pub use Rattle.std.proofs.Common.{map, refl, set, subst, suc, sym, take, true, zero, ℕ, ◌++◌, ◌+◌}
pub use Rattle.std.proofs.Common.{◌-◌, ◌<◌, ◌∙◌, ◌∷◌, ◌≡◌, ◌≤◌}
pub use Rattle.std.proofs.lemmas.Bool.{and_from, and_parts, cases_Bool, eq-eqb, lt-ltb, ltb-true}
pub use Rattle.std.proofs.lemmas.Bool.{ne_eqb}
pub use Rattle.std.proofs.lemmas.List.{length-map}
pub use Rattle.std.proofs.lemmas.List.Folds.{list_all-append}
pub use Rattle.std.specs.List.{AllByRecursion, list_all, range_with_len}
pub use Rattle.std.specs.Prelude.{filter, nat_le, nat_lt, not, slice_index, slice_set, ◌&&◌, ◌==◌}
pub use Rattle.std.specs.Prelude.{◌||◌}
