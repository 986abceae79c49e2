-- The words of the lower crates, of the specs and of std that these proofs share.
pub use Rattle.bbop_isa.specs.Forms.{Bbop, Fill, Free, Init, Instruction, whole}
pub use Rattle.bbop_isa.specs.declared.instr.Part.{Part}
pub use Rattle.bbop_isa.specs.declared.instr.Place.{Place}
pub use Rattle.bit_rows.specs.Bits.{bit_number}
pub use Rattle.bit_rows.specs.declared.TheConstants.{WIDTH_MAX}
pub use Rattle.dram_model.specs.Chip.{Banks}
pub use Rattle.dram_model.specs.Column.{Column}
pub use Rattle.dram_model.specs.Elements.{below, column_count, number}
pub use Rattle.dram_model.specs.declared.geometry.Geometry.{Geometry}
pub use Rattle.grammar.proofs.Found.{syntax_is_the_grammars}
pub use Rattle.grammar.specs.Laws.{all_seen}
unfoldable pub use Rattle.grammar.specs.Machine.{allowed}
pub use Rattle.grammar.specs.declared.Breach.{Breach}
pub use Rattle.machine_model.proofs.Places.{bytes_differ, entry_of, find_map, same_bytes}
pub use Rattle.machine_model.proofs.Texts.{Matched, both, matched}
pub use Rattle.machine_model.specs.Agrees.{Agrees, IsPlain, IsWidth}
pub use Rattle.machine_model.specs.Columns.{columns, object_size, segments}
pub use Rattle.machine_model.specs.Places.{cut, is_past, seen}
pub use Rattle.machine_model.specs.Refusals.{first, goes_past, nothing, object_named, refusal}
pub use Rattle.machine_model.specs.Refusals.{rows_of, walks_badly, when}
pub use Rattle.machine_model.specs.Routines.{Program, Routines, entry_named, meaning_in}
pub use Rattle.machine_model.specs.Routines.{routines_of, text_op_named, trace_of}
pub use Rattle.machine_model.specs.Script.{banks_at_end, table_at_end}
pub use Rattle.machine_model.specs.Steps.{Held, numbers_at, table_after, table_of, with_results}
pub use Rattle.machine_model.specs.Steps.{worded}
pub use Rattle.machine_model.specs.declared.Why.{Why}
pub use Rattle.object_alloc.specs.Free.{free}
pub use Rattle.object_alloc.specs.Listed.{Named, has_name, limit_of, objects_of}
pub use Rattle.object_alloc.specs.Spelling.{IsObject}
pub use Rattle.object_alloc.specs.declared.table.Object.{Object}
pub use Rattle.op_text.specs.declared.tree.Kind.{Kind}
pub use Rattle.op_text.specs.declared.tree.Kind.TheVariants.{Bit, Word}
pub use Rattle.std.proofs.Common.{Bool, List, None, Option, Result, Some, [], ap, append-nil, arith}
pub use Rattle.std.proofs.Common.{cond, drop, eqb, false, get_or, inl, inr, leb, length, ltb, map}
pub use Rattle.std.proofs.Common.{not, refl, subst, suc, sym, true, zero, ℕ, ◌%◌, ◌&&◌, ◌*◌, ◌++◌}
pub use Rattle.std.proofs.Common.{◌+◌, ◌<◌, ◌==◌, ◌^◌, ◌∙◌, ◌∷◌, ◌≡◌, ◌≢◌, ◌≤◌, ◌⊎◌}
pub use Rattle.std.proofs.lemmas.Bool.Decides.{nat_tests}
pub use Rattle.std.proofs.lemmas.List.{length-map, map-append}
pub use Rattle.std.proofs.lemmas.List.FromFn.{length-range_with_len}
pub use Rattle.std.proofs.lemmas.List.Sums.{sum_by-cons}
pub use Rattle.std.proofs.lemmas.Nat.{pow_pos}
pub use Rattle.std.specs.List.{AllByRecursion, find, range_with_len}
pub use Rattle.std.specs.Option.{option_map, unwrap_or}
pub use Rattle.std.specs.Prelude.{All, Err, codes, count_by, filter, is_none, option_and_then, ◌||◌}
pub use Rattle.std.specs.Str.{bytes_eq}
pub use Rattle.text_lex.specs.Lexical.{Bad, Item, Lexeme}
pub use Rattle.text_lex.specs.Spelled.{fits_name}
pub use Rattle.uprog_code.specs.Machine.{HasEnded, trace}
pub use Rattle.uprog_code.specs.Shape.{Microprogram, Shape, need}
pub use Rattle.uprog_code.specs.Texts.{ImplementsAll, TextOp}
