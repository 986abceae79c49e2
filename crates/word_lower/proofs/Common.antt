-- The words of the lower crates, of the specs and of std that these proofs share.
unfoldable pub use Rattle.bit_rows.specs.Bits.{majority}
pub use Rattle.loop_ir.specs.Costs.{turn_cost}
pub use Rattle.loop_ir.specs.Limits.{HasCommands}
pub use Rattle.loop_ir.specs.Loops.{all_rounds, round_at}
pub use Rattle.loop_ir.specs.Lowered.{slot_bits, slot_spot}
pub use Rattle.loop_ir.specs.Plain.{AllParts, Block, StepOf, step_of}
pub use Rattle.loop_ir.specs.Plain.StepOf.{Along, Single}
pub use Rattle.loop_ir.specs.Spots.{IsOwn, Spot, Spots, after_round, after_rounds, is_state}
pub use Rattle.loop_ir.specs.Spots.{nth_place, set_spot, spot_in}
pub use Rattle.loop_ir.specs.Statements.{Slots, holds_kind, slots_of}
pub use Rattle.loop_ir.specs.declared.ir.Place.{Place}
pub use Rattle.loop_ir.specs.declared.ir.Space.{Space}
pub use Rattle.loop_ir.specs.declared.ir.Space.TheVariants.{Cells, Result, ScratchBit, ScratchWord}
pub use Rattle.loop_ir.specs.declared.ir.Space.TheVariants.{Source}
pub use Rattle.loop_ir.specs.declared.names.Slot.{Slot}
pub use Rattle.loop_laws.proofs.Alike.{HaveRows}
pub use Rattle.loop_laws.proofs.EveryRound.{most_is, nth_placed, placed_same}
pub use Rattle.loop_laws.proofs.Fitting.{mark_at}
pub use Rattle.loop_laws.proofs.Good.{alone_sub, write_at, writes_once}
pub use Rattle.loop_laws.proofs.Same.{set_other, set_same}
pub use Rattle.loop_laws.specs.Forms.{IsMade}
pub use Rattle.loop_laws.specs.Rooms.{InCells, InRoom, IsOwned, Mark, Marked, Owner, Room}
pub use Rattle.loop_laws.specs.Rooms.{RoomsApart, extent, placed, placed_body, placed_steps}
pub use Rattle.loop_laws.specs.Rooms.{room_at, room_for, row_in, same_owner, steps_fit}
pub use Rattle.mig_graph.specs.Graph.{Graph, IsGraph}
pub use Rattle.mig_graph.specs.Outputs.{lit_at}
pub use Rattle.mig_graph.specs.declared.Lit.{Lit}
pub use Rattle.mig_graph.specs.declared.Node.{Node}
pub use Rattle.op_text.specs.Costs.{op_ceiling}
pub use Rattle.op_text.specs.Meaning.{width}
pub use Rattle.op_text.specs.Scratch.{bits_inside}
pub use Rattle.op_text.specs.Values.{bit_by_bit, differ, op_value, value}
unfoldable pub use Rattle.op_text.specs.Values.{bits}
pub use Rattle.op_text.specs.WordOps.{filled, forms, row_of}
pub use Rattle.op_text.specs.declared.tree.Kind.{Kind}
pub use Rattle.op_text.specs.declared.tree.Kind.TheVariants.{Bit, Word}
pub use Rattle.op_text.specs.declared.word_ops.Signature.{Signature}
pub use Rattle.op_text.specs.declared.word_ops.WordOp.{WordOp}
pub use Rattle.std.proofs.Common.{Bool, List, None, Option, Some, [], ap, arith, cond, false, inl}
pub use Rattle.std.proofs.Common.{inr, length, map, not, refl, slice_index_or, subst, suc, sym}
pub use Rattle.std.proofs.Common.{take, true, zero, ℕ, ◌%◌, ◌*◌, ◌++◌, ◌+◌, ◌-◌, ◌/◌, ◌<◌, ◌^◌, ◌∙◌}
pub use Rattle.std.proofs.Common.{◌∷◌, ◌≡◌, ◌≢◌, ◌≤◌, ◌⊎◌}
pub use Rattle.std.proofs.lemmas.Bool.{and_parts, eqb-true}
pub use Rattle.std.proofs.lemmas.Bool.Decides.{nat_tests}
pub use Rattle.std.proofs.lemmas.List.{take_more}
pub use Rattle.std.specs.Prelude.{if◌then◌else◌, nat_le, nat_lt, ◌&&◌, ◌==◌, ◌||◌}
