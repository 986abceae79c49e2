-- The words of the lower crates, of the specs and of std that these proofs share.
pub use Rattle.bbop_isa.specs.Forms.{Bbop, Fill, Free, Init, Instruction, Load, Order, Print}
pub use Rattle.bbop_isa.specs.Forms.{view_of}
pub use Rattle.bit_rows.specs.Bits.{bits_of_words}
pub use Rattle.dram_model.proofs.EventLaws.{Did-more, Kept-more}
pub use Rattle.dram_model.specs.Chip.{Banks, Event, after, all_counted}
pub use Rattle.dram_model.specs.Elements.{below, column_count, number, segments_of}
pub use Rattle.dram_model.specs.View.{ChipView, Did, DidRead, with_reads}
pub use Rattle.dram_model.specs.declared.dram.Counters.{Counters}
pub use Rattle.dram_model.specs.declared.geometry.Geometry.{Geometry}
pub use Rattle.grammar.specs.declared.Breach.{Breach}
pub use Rattle.machine_model.proofs.Parts.{pieces_go_on, scripts_go_on}
pub use Rattle.machine_model.specs.Agrees.{IsPlain}
pub use Rattle.machine_model.specs.Columns.{segments}
pub use Rattle.machine_model.specs.Pieces.{Piece, events_of_pieces, piece_events, piece_of, pieces}
pub use Rattle.machine_model.specs.Pieces.{turn_at_end}
pub use Rattle.machine_model.specs.Refusals.{refusal}
pub use Rattle.machine_model.specs.Routines.{Routines}
pub use Rattle.machine_model.specs.Script.{table_at_end}
pub use Rattle.machine_model.specs.Steps.{counts_for, if_done, reply_by}
pub use Rattle.machine_model.specs.declared.Why.{Why}
pub use Rattle.object_alloc.specs.Listed.{Named, has_name}
pub use Rattle.scan_model.proofs.Counted.{each_is_alone}
pub use Rattle.scan_model.proofs.Goes.{refused-append}
pub use Rattle.scan_model.proofs.Trees.{size_is}
pub use Rattle.scan_model.specs.Answers.{Refused}
pub use Rattle.scan_model.specs.Checks.{checked, checked_from, or_else, refused_from, refused_in}
pub use Rattle.scan_model.specs.Instructions.{count_of, node_instructions, scan_script, script_from}
pub use Rattle.scan_model.specs.Names.{free_among}
unfoldable pub use Rattle.scan_model.specs.Names.{free_name}
pub use Rattle.scan_model.specs.Queries.{Compare, Negate, Node, Query, Test, nodes_from, size}
pub use Rattle.scan_model.specs.declared.QueryKind.{QueryKind}
pub use Rattle.sim_machine.specs.Machine.{events_by, geometry_of, is_print, operations_by}
pub use Rattle.sim_machine.specs.Machine.{program_of, reads_by, reply_of, table_in, turn_in}
pub use Rattle.sim_machine.specs.Steps.{DidAndRead}
pub use Rattle.sim_machine.specs.declared.machine.Machine.{Machine}
pub use Rattle.std.proofs.Common.{Bool, Err, List, None, Ok, Option, Result, Some, [], ap}
pub use Rattle.std.proofs.Common.{append-nil, append_assoc, arith, codes, cond, drop, false, get_or}
pub use Rattle.std.proofs.Common.{length, length-append, map, not, refl, subst, suc, sym, take}
pub use Rattle.std.proofs.Common.{true, zero, ℕ, ◌*◌, ◌++◌, ◌+◌, ◌-◌, ◌/◌, ◌<◌, ◌==◌, ◌^◌, ◌∙◌, ◌∷◌}
pub use Rattle.std.proofs.Common.{◌≡◌, ◌≤◌}
pub use Rattle.std.proofs.Math.Nat.{pow-le-pow_right}
pub use Rattle.std.proofs.lemmas.List.{length-map, map-append, take-append-drop}
pub use Rattle.std.proofs.lemmas.Nat.{pow_pos}
pub use Rattle.std.proofs.lemmas.Result.{err_from_is_err_and}
pub use Rattle.std.specs.List.{AllByRecursion, range_with_len}
pub use Rattle.std.specs.Option.{option_map}
pub use Rattle.std.specs.Prelude.{count_by, filter, flat_map, is_none, slice_get}
pub use Rattle.std.specs.Result.{IsErrAnd}
pub use Rattle.std.specs.Str.{bytes_eq}
pub use Rattle.text_lex.specs.Lexical.{Bad, Item, Takes, Whole, items_of, lexeme_of}
pub use Rattle.text_lex.specs.declared.token.LexFault.{LexFault}
pub use Rattle.transpose_unit.specs.Stopped.{StoppedWithin}
pub use Rattle.uprog_code.specs.declared.TheConstants.{WALK_MAX}
pub use Rattle.uprog_code.specs.declared.walker.Counts.{Counts}
pub use Rattle.wave_model.specs.Schedule.{Turn}
