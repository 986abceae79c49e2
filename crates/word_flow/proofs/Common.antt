-- The words of the lower crates, of the specs and of std that these proofs share.
pub use Rattle.bit_rows.specs.Bits.{flip_if}
unfoldable pub use Rattle.bit_rows.specs.Bits.{majority}
pub use Rattle.bit_rows.specs.declared.TheConstants.{WIDTH_MAX}
pub use Rattle.loop_ir.specs.Chains.{chained, finds, left_by}
pub use Rattle.loop_ir.specs.Costs.{code_cost, is_ap, rounds_cost}
pub use Rattle.loop_ir.specs.Costs.{turn_aps, turn_cost}
pub use Rattle.loop_ir.specs.Flows.{AllActs, AllFlow, EventOf, FlowOf, TurnsOf, acts_map, all_flow}
pub use Rattle.loop_ir.specs.Flows.{flow_map, run, zeros}
pub use Rattle.loop_ir.specs.Flows.EventOf.{Counted, Done, Moved}
pub use Rattle.loop_ir.specs.Flows.FlowOf.{Do, End, If, Loop, Put}
pub use Rattle.loop_ir.specs.Flows.TurnsOf.{Last, Turn}
pub use Rattle.loop_ir.specs.Limits.{HasCommands, HasValues, IsRound, stays_in_registers}
pub use Rattle.loop_ir.specs.Loops.{RoundOf, all_rounds, flow_rounds, rounds_in, sub_value}
pub use Rattle.loop_ir.specs.Lowered.{Holds, HoldsAt, IsChanged, IsLowered, IsStatementRow}
pub use Rattle.loop_ir.specs.Lowered.{slot_bits}
pub use Rattle.loop_ir.specs.Plain.{AllParts, Block, StepOf, flow_of, steps_of}
pub use Rattle.loop_ir.specs.Plain.StepOf.{Flowed}
pub use Rattle.loop_ir.specs.Spots.{IsOwn, Spot, Spots, after_round, after_rounds, is_state}
pub use Rattle.loop_ir.specs.Spots.{nth_spot, set_spot, spot_in, write_all}
pub use Rattle.loop_ir.specs.Statements.{ComputeMeets, IsPlaced, SecondMeets, Slots, StatementMeets}
pub use Rattle.loop_ir.specs.Statements.{holds_kind, read_names, slots_of, statement_names}
pub use Rattle.loop_ir.specs.Statements.{written_names}
pub use Rattle.loop_ir.specs.declared.ir.Move.TheVariants.{AddI, Mov, SetI, SetN, SetT, SubI}
pub use Rattle.loop_ir.specs.declared.ir.Space.{Space}
pub use Rattle.loop_ir.specs.declared.ir.Space.TheVariants.{ScratchBit, ScratchWord, Source}
pub use Rattle.loop_ir.specs.declared.names.Slot.{Slot}
pub use Rattle.loop_laws.proofs.Alike.{HaveRows, finds_like}
pub use Rattle.loop_laws.proofs.Alike.{left_like, plain_like}
pub use Rattle.loop_laws.proofs.EveryRound.{most_is}
pub use Rattle.loop_laws.proofs.EveryRound.{owner_cases, owners_apart}
pub use Rattle.loop_laws.proofs.EveryRound.{rooms_row, rounds_among}
pub use Rattle.loop_laws.proofs.Fitting.{IsThere}
pub use Rattle.loop_laws.proofs.FlowFine.{Fine, IsSafe, safe_is}
pub use Rattle.loop_laws.proofs.FlowLogic.{Claim, sound, wp, wp_loop, wp_none, wp_some}
unfoldable pub use Rattle.loop_laws.proofs.FlowLogic.{AllFine, after}
pub use Rattle.loop_laws.proofs.FlowRounds.{event_map, run_all, run_map}
pub use Rattle.loop_laws.specs.Forms.{HasForm, IsMade, IsSlim}
pub use Rattle.loop_laws.specs.Rooms.{placed_body, RoomsApart, same_owner, writes_fit}
pub use Rattle.loop_laws.specs.Rooms.{is_there, room_for, InCells, IsOwned, room_at, Extent, InRoom}
pub use Rattle.loop_laws.specs.Rooms.{Marked, extent, placed, row_in, Owner, Full, Mark, Room, One}
pub use Rattle.mig_graph.specs.Graph.{start, values}
unfoldable pub use Rattle.mig_graph.specs.Graph.{values_from}
pub use Rattle.mig_graph.specs.declared.Lit.{Lit}
pub use Rattle.op_text.specs.Costs.{op_ceiling}
pub use Rattle.op_text.specs.Language.{Compute, Statement, statement}
pub use Rattle.op_text.specs.Meaning.{NameValue, after_statement, args_width, computed}
pub use Rattle.op_text.specs.Meaning.{second_computed, width}
pub use Rattle.op_text.specs.Rules.{is_among}
pub use Rattle.op_text.specs.Scratch.{bits_inside, need_inside, words_inside}
pub use Rattle.op_text.specs.Values.{half, ones_of, op_value, second_value, value}
unfoldable pub use Rattle.op_text.specs.Values.{bits}
pub use Rattle.op_text.specs.WordOps.{filled, forms, second_gives, second_kind, word_to, words_to}
pub use Rattle.op_text.specs.declared.tree.Kind.{Kind}
pub use Rattle.op_text.specs.declared.tree.Kind.TheVariants.{Bit, Word}
pub use Rattle.op_text.specs.declared.word_ops.WordOp.{WordOp}
unfoldable pub use Rattle.row_alloc.specs.Symbolic.{first_node, sense_three}
pub use Rattle.row_alloc.specs.declared.body.BodyCmd.{BodyCmd}
pub use Rattle.std.proofs.Common.{Bool, List, None, Option, Some, [], ap, arith, cond, drop, false}
pub use Rattle.std.proofs.Common.{inl, inr, length, map, not, refl, reverse, slice_index_or, subst}
pub use Rattle.std.proofs.Common.{suc, sym, take, true, zero, ℕ, ⊎_elim, ◌*◌, ◌++◌, ◌+◌, ◌-◌, ◌<◌}
pub use Rattle.std.proofs.Common.{◌^◌, ◌∙◌, ◌∷◌, ◌≡◌, ◌≤◌, ◌⊎◌}
pub use Rattle.std.proofs.Math.Nat.{pow-suc, pow-zero}
pub use Rattle.std.proofs.lemmas.Bool.{and_from, and_parts, cases_Bool, cases_eq, eq-eqb, eqb-true}
pub use Rattle.std.proofs.lemmas.Bool.{le-leb, lt-ltb, ne_eqb}
pub use Rattle.std.proofs.lemmas.List.{append-nil, drop_more, length-map, map-append}
pub use Rattle.std.proofs.lemmas.List.{reverse-append}
pub use Rattle.std.proofs.lemmas.List.Sums.{sum_by-cons}
pub use Rattle.std.proofs.lemmas.Nat.{div-mul-add, mod-mul-add, pow-add}
pub use Rattle.std.proofs.lemmas.Slice.Eq.{bytes_eq-Decides}
pub use Rattle.std.specs.List.{AllByRecursion, list_all, range_with_len}
pub use Rattle.std.specs.Option.{option_to_list}
pub use Rattle.std.specs.Prelude.{bytes_eq, count_by, if◌then◌else◌, nat_le, nat_lt, slice_index}
pub use Rattle.std.specs.Prelude.{slice_set, sum_by, unwrap_or, ◌%◌, ◌&&◌, ◌/◌, ◌==◌, ◌||◌}
pub use Rattle.word_flow.specs.Bodies.{coded_on, line_holds, lines_hold, slots_for}
pub use Rattle.word_lower.specs.Places.{slot_at}
pub use Rattle.word_lower.specs.Programs.{mark_of}
pub use Rattle.word_flow.specs.Places.{IsFlowWritten, rooms_for, rows_on, scratch_word, steps_for}
pub use Rattle.word_flow.specs.Plans.{coded_of, first_of, flows_on, four_of, line_on}
pub use Rattle.word_flow.specs.Plans.{others_of}
pub use Rattle.word_flow.specs.Programs.{digits, flow_aps, flow_for, flow_total, is_flow}
pub use Rattle.word_flow.specs.Programs.{is_flow_statement, lines_for, rounds_aps}
pub use Rattle.word_flow.specs.Programs.{statement_aps, statement_total}
pub use Rattle.word_flow.specs.declared.rows.Rows.{Rows}
pub use Rattle.word_lower.proofs.Filled.{filled_word, filled_words, no_slots, one_slot, slot_is}
pub use Rattle.word_lower.proofs.Lists.{bits_of_number, ones_of_more, ones_of_none, value_of_list}
pub use Rattle.word_lower.proofs.Lowering.{slots_width}
pub use Rattle.word_lower.proofs.Pieces.{AreApart, extent_is, moves_in, slot}
pub use Rattle.word_lower.proofs.Setting.{bit, number}
pub use Rattle.word_lower.proofs.Statements.{Places, among_arg, among_like, among_target, answer}
pub use Rattle.word_lower.proofs.Statements.{at_place, by_name, form_filled, held_args}
pub use Rattle.word_lower.proofs.Statements.{held_numbers, held_width, name_at, named_width}
pub use Rattle.word_lower.proofs.Statements.{one_place, places_of, same_name}
pub use Rattle.std.proofs.lemmas.Bool.{or_left, or_right}
pub use Rattle.word_lower.proofs.Statements.{same_slot, statement_rows, written}
pub use Rattle.word_lower.proofs.Sums.{last_sum, shl1_gives, shr1_gives, top_half, value_below}
pub use Rattle.word_lower.proofs.Sums.{value_same}
pub use Rattle.word_lower.specs.Places.{AreAt, place_on, room_of, rows_of, scratch_bit}
pub use Rattle.word_lower.specs.Shapes.{are_own, following}
