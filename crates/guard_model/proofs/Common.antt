-- The words of the lower crates, of the specs and of std that these proofs share.
pub use Rattle.bbop_isa.specs.Forms.{Bbop, Fill, Free, Init, Instruction, Load, Order, Print}
pub use Rattle.bbop_isa.specs.Forms.{number_or_zero}
pub use Rattle.bbop_isa.specs.Lines.{lines_of}
pub use Rattle.bbop_isa.specs.Words.{Word, words_in}
pub use Rattle.bbop_isa.specs.declared.instr.Part.{Part}
pub use Rattle.bbop_isa.specs.declared.instr.Place.{Place}
unfoldable pub use Rattle.bit_rows.specs.Bits.{majority}
pub use Rattle.dram_model.specs.Chip.{Banks}
pub use Rattle.dram_model.specs.Column.{Column, blank, run}
pub use Rattle.dram_model.specs.Elements.{below, column_count, number, padded_to}
pub use Rattle.dram_model.specs.declared.address.Cell.TheVariants.{D}
pub use Rattle.dram_model.specs.declared.dram.Counters.{Counters}
pub use Rattle.dram_model.specs.declared.geometry.Geometry.{Geometry}
pub use Rattle.machine_model.proofs.Bbops.{part_count}
pub use Rattle.machine_model.proofs.Places.{bytes_same, same_bytes}
pub use Rattle.machine_model.specs.Columns.{columns, object_size, segments}
pub use Rattle.machine_model.specs.Places.{put_all, seen}
pub use Rattle.machine_model.specs.Refusals.{goes_past, is_absent, nothing, object_named, refusal}
pub use Rattle.machine_model.specs.Refusals.{rows_of, when}
pub use Rattle.machine_model.specs.Routines.{Routines}
pub use Rattle.machine_model.specs.Script.{is_refused, replies, words_at_end}
pub use Rattle.machine_model.specs.Steps.{Held, computed, counts_for, dsts_of, if_done, new_numbers}
pub use Rattle.machine_model.specs.Steps.{numbers_at, numbers_named, reply_by, srcs_of, table_after}
pub use Rattle.machine_model.specs.Steps.{table_of, tabled, through, with_results, worded}
pub use Rattle.machine_model.specs.declared.Why.{Why}
unfoldable pub use Rattle.object_alloc.specs.Free.{free}
pub use Rattle.object_alloc.specs.Listed.{Named, has_name, limit_of}
pub use Rattle.object_alloc.specs.declared.table.Object.{Object}
pub use Rattle.std.proofs.Common.{Bool, List, None, Option, Some, [], ap, arith, cond, drop, eqb}
pub use Rattle.std.proofs.Common.{false, get_or, inl, inr, leb, length, ltb, map, not, refl, subst}
pub use Rattle.std.proofs.Common.{suc, sym, true, zero, ℕ, ◌&&◌, ◌*◌, ◌++◌, ◌+◌, ◌<◌, ◌||◌, ◌∙◌}
pub use Rattle.std.proofs.Common.{◌∷◌, ◌≡◌, ◌≢◌, ◌≤◌, ◌⊎◌}
pub use Rattle.std.proofs.lemmas.Bool.{and_parts, cases_lt, or_parts}
pub use Rattle.std.proofs.lemmas.Bool.Decides.{eqb_tells, nat_tests}
pub use Rattle.std.proofs.lemmas.List.{length-map, map-append}
pub use Rattle.std.specs.List.{AllByRecursion, find, flat_map, list_all, range_with_len}
pub use Rattle.std.specs.Option.{option_map, unwrap_or}
pub use Rattle.std.specs.Prelude.{Err, Ok, Result, filter, is_none, nat_lt, replicate, slice_index}
pub use Rattle.std.specs.Prelude.{take}
pub use Rattle.std.specs.Str.{bytes_eq}
pub use Rattle.text_lex.specs.Lexical.{items_of}
pub use Rattle.text_lex.specs.Spelled.{fits_name}
pub use Rattle.uprog_code.specs.declared.walker.Counts.{Counts}
pub use mathlib.Core.Path.{fun_ext}
