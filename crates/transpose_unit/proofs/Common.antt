-- The words of the lower crates, of the specs and of std that these proofs share.
pub use Rattle.bit_rows.specs.Bits.{bit_at, bit_in, bits_of_words, value}
pub use Rattle.bit_rows.specs.declared.TheConstants.{WIDTH_MAX}
pub use Rattle.dram_model.proofs.EventLaws.{Did-more, Kept-more}
pub use Rattle.dram_model.specs.Chip.{Banks, Event, after, all_counted, happens, row_in}
pub use Rattle.dram_model.specs.Chip.Event.{Write}
pub use Rattle.dram_model.specs.Column.{Column}
pub use Rattle.dram_model.specs.Elements.{column_count, number, numbers_in, padded_to, part_of}
pub use Rattle.dram_model.specs.Elements.{row_bits, segments_of, size_of}
unfoldable pub use Rattle.dram_model.specs.Elements.{write_events}
pub use Rattle.dram_model.specs.View.{Did, Kept}
pub use Rattle.dram_model.specs.declared.address.Cell.TheVariants.{D}
pub use Rattle.dram_model.specs.declared.dram.Counters.{Counters}
pub use Rattle.dram_model.specs.declared.geometry.Geometry.{Geometry}
pub use Rattle.std.proofs.Common.{Bool, List, [], ap, arith, drop, false, get_or, if◌then◌else◌}
pub use Rattle.std.proofs.Common.{inl, inr, length, length-set, map, mul-add, mul-le-mul_right}
pub use Rattle.std.proofs.Common.{mul_comm, refl, replicate, set, subst, suc, sym, take, true, zero}
pub use Rattle.std.proofs.Common.{ℕ, ◌%◌, ◌*◌, ◌++◌, ◌+◌, ◌-◌, ◌/◌, ◌<◌, ◌==◌, ◌^◌, ◌∙◌, ◌∷◌, ◌≡◌}
pub use Rattle.std.proofs.Common.{◌≢◌, ◌≤◌}
pub use Rattle.std.proofs.lemmas.Bool.{cases_lt, ne_eqb}
pub use Rattle.std.proofs.lemmas.Bool.Decides.{nat_tests}
pub use Rattle.std.proofs.lemmas.List.{get_or-drop, get_or-map, get_or-set_other, get_or-set_same}
pub use Rattle.std.proofs.lemmas.List.{get_or-take, get_or_append_left, length-drop, length-map}
pub use Rattle.std.proofs.lemmas.List.{length-take}
pub use Rattle.std.proofs.lemmas.Nat.{mul-add-lt, pow_pos}
pub use Rattle.std.specs.List.{flat_map, range_with_len}
pub use mir.Val.{bool_byte}
