-- The words of the lower crates, of the specs and of std that these proofs share.
pub use Rattle.aoi_graph.specs.Blocks.{BlockReads, Numbers, all_parts, all_weights}
pub use Rattle.indexmap.specs.IndexMap.{get}
pub use Rattle.loop_ir.proofs.Outs.{one-rows}
pub use Rattle.loop_ir.specs.Chains.{chained, left_by}
pub use Rattle.loop_ir.specs.Costs.{body_cost, is_copy, plain_cost, rounds_cost, step_bodies}
pub use Rattle.loop_ir.specs.Costs.{step_cost, turn_cost}
pub use Rattle.loop_ir.specs.Flows.{FlowOf}
pub use Rattle.loop_ir.specs.Limits.{CanCompile, HasCommands, HasValues, IsRound, IsSmall}
pub use Rattle.loop_ir.specs.Limits.{step_stands}
pub use Rattle.loop_ir.specs.Loops.{RoundOf, all_rounds, flow_rounds, round_at, rounds, sub_value}
pub use Rattle.loop_ir.specs.Lowered.{Does, IsLowered, IsRowOf, IsStatementRow, slot_spot}
pub use Rattle.loop_ir.specs.Outputs.{AreRows}
pub use Rattle.loop_ir.specs.Plain.{StepOf, block_of, steps_of}
pub use Rattle.loop_ir.specs.Spots.{IsOwn, Spot, Spots, after_round, after_rounds, is_state}
pub use Rattle.loop_ir.specs.Spots.{nth_place, nth_spot, set_spot, spot_at, spot_in}
pub use Rattle.loop_ir.specs.Statements.{AreDistinct, BlockMeets, LetsMeet, Slots, equation_names}
pub use Rattle.loop_ir.specs.Statements.{holds_kind, slots_of, statement_names, targets_of}
pub use Rattle.loop_ir.specs.Statements.{term_names, written_names}
pub use Rattle.loop_ir.specs.States.{enters, leaves, row_count}
pub use Rattle.loop_ir.specs.WellFormed.{IsWellFormed}
pub use Rattle.loop_ir.specs.declared.ir.Place.{Place}
pub use Rattle.loop_ir.specs.declared.ir.Space.{Space}
pub use Rattle.loop_ir.specs.declared.ir.Space.TheVariants.{Cells, Result, ScratchBit, ScratchWord}
pub use Rattle.loop_ir.specs.declared.ir.Space.TheVariants.{Source}
pub use Rattle.loop_ir.specs.declared.ir.Sub.{Sub}
pub use Rattle.loop_ir.specs.declared.ir.Sub.TheVariants.{Zero}
pub use Rattle.loop_ir.specs.declared.names.Slot.{Slot}
pub use Rattle.loop_laws.proofs.NoStates.{HasRows}
pub use Rattle.loop_laws.proofs.Rowed.{all_count}
pub use Rattle.loop_laws.proofs.Summed.{rounds_sum}
pub use Rattle.mig_graph.specs.Graph.{Graph, IsGraph, node_at, size_of}
pub use Rattle.mig_graph.specs.Outputs.{AreNamed, KeepsOutputs, lit_at}
pub use Rattle.mig_graph.specs.declared.Lit.{Lit}
pub use Rattle.op_text.specs.Language.{Block, Conjunction, Disjunction, Equation, Majority, Named}
pub use Rattle.op_text.specs.Language.{Negation, Nought, Parity, Term, Unity, Visit, equation, term}
pub use Rattle.op_text.specs.Meaning.{NameValue, bit_read, bit_written, changed, term_bit, visited}
pub use Rattle.op_text.specs.Meaning.{width, with_blanks, with_lets, with_states}
pub use Rattle.op_text.specs.Rules.{is_among}
pub use Rattle.op_text.specs.Scratch.{state_names, word_names}
pub use Rattle.op_text.specs.Spelling.{TermMeets}
pub use Rattle.op_text.specs.declared.tree.Assign.{Assign}
pub use Rattle.op_text.specs.declared.tree.Kind.{Kind}
pub use Rattle.op_text.specs.declared.tree.Kind.TheVariants.{Bit, Word}
pub use Rattle.op_text.specs.declared.tree.State.{State}
pub use Rattle.row_alloc.specs.Body.{FitBody}
pub use Rattle.row_alloc.specs.Held.{DoesHeld}
pub use Rattle.row_alloc.specs.Rows.{out_at}
pub use Rattle.row_alloc.specs.declared.body.BodyCmd.{BodyCmd}
pub use Rattle.row_alloc.specs.declared.body.OutRow.{OutRow}
pub use Rattle.std.proofs.Common.{Bool, IfSome, List, None, Option, Some, [], ap, append-nil, arith}
pub use Rattle.std.proofs.Common.{bytes_eq, cond, false, filter, fold, get_or, inl, inr, is_some}
pub use Rattle.std.proofs.Common.{length, length-append, map, not, refl, slice_get, subst, suc, sym}
pub use Rattle.std.proofs.Common.{take, true, zero, ℕ, ◌*◌, ◌++◌, ◌+◌, ◌-◌, ◌<◌, ◌||◌, ◌∙◌, ◌∷◌}
pub use Rattle.std.proofs.Common.{◌≡◌, ◌≤◌, ◌⊎◌}
pub use Rattle.std.proofs.Math.Nat.{mul-le-mul_left}
pub use Rattle.std.proofs.lemmas.Bool.{and_from, and_parts, cases_Bool, cases_eq, cond-false}
pub use Rattle.std.proofs.lemmas.Bool.{cond-true, eqb-true, false_from_ne_true, ne_eqb, or_cases}
pub use Rattle.std.proofs.lemmas.Bool.{or_left, or_right}
pub use Rattle.std.proofs.lemmas.List.{length-map}
pub use Rattle.std.proofs.lemmas.List.Sums.{sum_by-cons}
pub use Rattle.std.proofs.lemmas.Option.{IfSome_then, slice_get_within}
pub use Rattle.std.proofs.lemmas.Result.{IfOk-weaker}
pub use Rattle.std.specs.List.{AllByRecursion, list_all, range_with_len}
pub use Rattle.std.specs.Prelude.{IfNone, slice_index_or, sum_by, ◌&&◌, ◌==◌}
