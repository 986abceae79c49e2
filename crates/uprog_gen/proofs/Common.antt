-- The words of the lower crates, of the specs and of std that these proofs share.
pub use Rattle.bit_rows.specs.declared.TheConstants.{WIDTH_MAX}
pub use Rattle.block_lower.specs.Form.{IsBlockProgram, constant, home, place_of, start}
pub use Rattle.block_lower.specs.Held.{each_last, held_body, held_last, held_start}
pub use Rattle.dram_model.specs.Column.{Column}
pub use Rattle.dram_model.specs.declared.address.Cell.TheVariants.{D}
pub use Rattle.loop_front.specs.Front.{front}
pub use Rattle.loop_front.specs.Like.{AreLike}
pub use Rattle.loop_ir.specs.Chains.{chained, finds, is_alive, left_by, states_in}
pub use Rattle.loop_ir.specs.Costs.{body_cost, is_aap, is_ap, rounds_cost, turn_aaps, turn_aps}
pub use Rattle.loop_ir.specs.Costs.{turn_cost}
pub use Rattle.loop_ir.specs.FlowTests.{all_count, all_keep, counts, is_low, nests}
pub use Rattle.loop_ir.specs.Flows.{AllActs, AllFlow, EventOf, FlowOf, TurnsOf, flow_size, run}
pub use Rattle.loop_ir.specs.Flows.EventOf.{Counted, Moved}
pub use Rattle.loop_ir.specs.Flows.FlowOf.{Do, End, If, Loop, Put}
pub use Rattle.loop_ir.specs.Flows.TurnsOf.{Last, Turn}
pub use Rattle.loop_ir.specs.Limits.{CanCompile, HasValues, IsRound, IsSmall, stays_in_registers}
pub use Rattle.loop_ir.specs.Loops.{RoundOf, all_rounds, rounds_in, sub_value}
pub use Rattle.loop_ir.specs.Lowered.{HoldsAt, args_width, slot_spot}
pub use Rattle.loop_ir.specs.Plain.{Block, StepOf, block_of, flow_of}
pub use Rattle.loop_ir.specs.Plain.StepOf.{Along, Flowed}
pub use Rattle.loop_ir.specs.Spots.{IsOwn, Spot, Spots, after_round, after_rounds, is_state}
pub use Rattle.loop_ir.specs.Spots.{nth_place, nth_spot, round_env, spot_at, spot_in}
pub use Rattle.loop_ir.specs.Statements.{ComputeMeets, HaveKinds, IsPlaced, Slots, block_reads}
pub use Rattle.loop_ir.specs.Statements.{holds_kind, read_names, slots_of, targets_of}
pub use Rattle.loop_ir.specs.Statements.{written_names}
pub use Rattle.loop_ir.specs.States.{enters, leaves, row_count}
pub use Rattle.loop_ir.specs.declared.ir.Flow.{Flow}
pub use Rattle.loop_ir.specs.declared.ir.Move.{Move}
pub use Rattle.loop_ir.specs.declared.ir.Move.TheVariants.{Add, AddI, Mov, SetI, SetN, SetT, SubI}
pub use Rattle.loop_ir.specs.declared.ir.Place.{Place}
pub use Rattle.loop_ir.specs.declared.ir.Space.{Space}
pub use Rattle.loop_ir.specs.declared.ir.Space.TheVariants.{Cells, Result, ScratchBit, ScratchWord}
pub use Rattle.loop_ir.specs.declared.ir.Space.TheVariants.{Source}
pub use Rattle.loop_ir.specs.declared.ir.Sub.{Sub}
pub use Rattle.loop_ir.specs.declared.ir.Sub.TheVariants.{Register}
pub use Rattle.loop_ir.specs.declared.names.NameMap.{NameMap}
pub use Rattle.loop_ir.specs.declared.names.Slot.{Slot}
pub use Rattle.loop_laws.proofs.Costing.{turn-most}
pub use Rattle.loop_laws.proofs.FlowRounds.{run_all}
pub use Rattle.loop_laws.proofs.Summed.{rounds_sum, sum_is}
pub use Rattle.mig_graph.specs.Graph.{value}
pub use Rattle.mig_graph.specs.Outputs.{lit_at}
pub use Rattle.mig_graph.specs.declared.Lit.{Lit}
pub use Rattle.op_rules.proofs.Few.{scratch_is_small}
pub use Rattle.op_rules.proofs.Names.{among-append, is_same, new-append, new-left, new-right}
pub use Rattle.op_rules.proofs.Names.{or_first, other_way, same_name}
pub use Rattle.op_rules.proofs.Standing.{names-append}
pub use Rattle.op_rules.specs.Laws.{all_names}
pub use Rattle.op_rules.specs.Meets.{BodyMeets, Context, Differ, IsKnown, IsNew, IsNewOf, LetsRead}
pub use Rattle.op_rules.specs.Meets.{OperationMeets, StatementMeets, at_start, can_read, let_names}
pub use Rattle.op_rules.specs.Meets.{names_of, next_context, targets, used}
pub use Rattle.op_text.specs.Language.{Compute, Conjunction, Disjunction, Equation, Majority, Named}
pub use Rattle.op_text.specs.Language.{Negation, Nought, Operation, Parity, Statement, Term, Unity}
pub use Rattle.op_text.specs.Language.{Visit, operation, result_names, statement}
pub use Rattle.op_text.specs.Meaning.{NameValue, after_statement, changed, width}
pub use Rattle.op_text.specs.Rules.{is_among, is_known, kind_among, second_of}
pub use Rattle.op_text.specs.Scratch.{bits_inside, body_defines, defines, greatest, kind_of}
pub use Rattle.op_text.specs.Scratch.{names_width, need_inside, param, result_kind, scratch_names}
pub use Rattle.op_text.specs.Scratch.{scratch_words, state_names, word_names, words_inside}
pub use Rattle.op_text.specs.Spelling.{Each, TermMeets}
pub use Rattle.op_text.specs.WordOps.{same_kind, second_kind}
pub use Rattle.op_text.specs.declared.tree.Kind.{Kind}
pub use Rattle.op_text.specs.declared.tree.Kind.TheVariants.{Bit, Word}
pub use Rattle.op_text.specs.declared.tree.Op.{Op}
pub use Rattle.op_text.specs.declared.tree.Param.{Param}
pub use Rattle.op_text.specs.declared.tree.State.{State}
pub use Rattle.op_text.specs.declared.tree.Stmt.{Stmt}
pub use Rattle.op_text.specs.declared.word_ops.WordOp.{WordOp}
pub use Rattle.row_alloc.specs.Held.{is_held, is_read, reads_rows}
pub use Rattle.row_alloc.specs.Layouts.{StandsIn}
pub use Rattle.row_alloc.specs.Legal.{are_legal, is_first_ref, is_legal_cmd, is_ref, is_second_ref}
pub use Rattle.row_alloc.specs.Rows.{Rows}
pub use Rattle.row_alloc.specs.declared.body.BodyCmd.{BodyCmd}
pub use Rattle.row_alloc.specs.declared.body.BodyCmd.TheVariants.{Aap, Ap}
pub use Rattle.row_alloc.specs.declared.body.BodyRef.{BodyRef}
pub use Rattle.row_alloc.specs.declared.body.Held.{Held}
pub use Rattle.std.proofs.Common.{Bool, List, None, Option, Some, [], ap, append-nil, append_assoc}
pub use Rattle.std.proofs.Common.{arith, bytes_eq, cond, false, inl, inr, length, length-append}
pub use Rattle.std.proofs.Common.{length-set, map, not, refl, subst, suc, sym, take, true, zero, ℕ}
pub use Rattle.std.proofs.Common.{⊎_elim, ◌*◌, ◌++◌, ◌+◌, ◌-◌, ◌<◌, ◌||◌, ◌∙◌, ◌∷◌, ◌≡◌, ◌≤◌, ◌⊎◌}
pub use Rattle.std.proofs.Math.Nat.{mul-le-mul_right, mul_comm}
pub use Rattle.std.proofs.Math.Seq.{get_or-append_seam}
pub use Rattle.std.proofs.lemmas.Bool.{and_from, and_parts, cases_eq, cases_lt, eqb-true, lt-ltb}
pub use Rattle.std.proofs.lemmas.Bool.{ltb-true, or_left, or_right}
pub use Rattle.std.proofs.lemmas.Bool.Decides.{nat_tests}
pub use Rattle.std.proofs.lemmas.List.{length-map, length-take, map-append, map_more, take_all}
pub use Rattle.std.proofs.lemmas.List.Sums.{sum_by-append, sum_by-cons}
pub use Rattle.std.proofs.lemmas.Nat.{mul-add-lt}
pub use Rattle.std.proofs.lemmas.Option.{slice_get-get_or}
pub use Rattle.std.proofs.lemmas.Result.{on_ok_weaker}
pub use Rattle.std.specs.List.{AllByRecursion, filter, list_all, range_with_len}
pub use Rattle.std.specs.Option.{option_to_list}
pub use Rattle.std.specs.Prelude.{count_by, nat_lt, slice_get, slice_index, slice_index_or}
pub use Rattle.std.specs.Prelude.{slice_set, sum_by, ◌&&◌, ◌==◌}
pub use Rattle.uprog_code.specs.Bound.{Bound, bound}
pub use Rattle.uprog_code.specs.Count.{counts_of, issues_aap, issues_ap}
pub use Rattle.uprog_code.specs.Fits.{AreBelow, Fits}
pub use Rattle.uprog_code.specs.Implements.{Implements}
pub use Rattle.uprog_code.specs.Machine.{Ended, Issue, Trace, act, all_in_range, issues_of, onto}
pub use Rattle.uprog_code.specs.Machine.{position}
unfoldable pub use Rattle.uprog_code.specs.Machine.{issue, trace}
pub use Rattle.uprog_code.specs.Shape.{Microprogram, Shape, microprogram_of, results, shape_of}
pub use Rattle.uprog_code.specs.Texts.{op_shape}
pub use Rattle.uprog_code.specs.declared.code.EntryCode.{EntryCode}
pub use Rattle.uprog_code.specs.declared.code.Head.{Head}
pub use Rattle.uprog_code.specs.declared.code.Uop.{Uop}
pub use Rattle.uprog_code.specs.declared.code.Uop.TheVariants.{Done}
pub use Rattle.uprog_code.specs.declared.walker.Counts.{Counts}
pub use Rattle.word_flow.specs.Programs.{is_flow}
