-- The words of the lower crates, of the specs and of std that these proofs share.
pub use Rattle.bit_rows.specs.Bits.{bits_of_words}
pub use Rattle.dram_model.specs.Chip.{Event, Grew}
pub use Rattle.dram_model.specs.Chip.Event.{Row, Write}
pub use Rattle.dram_model.specs.View.{ChipView, Did, Kept}
pub use Rattle.dram_model.specs.declared.dram.Counters.{Counters}
pub use Rattle.dram_model.specs.declared.geometry.Geometry.{Geometry}
pub use Rattle.file_fields.specs.Fields.{IsBytes, rule, ◌>>=◌}
pub use Rattle.object_alloc.specs.Bytes.{bits_of_bytes, bytes_of_bits}
pub use Rattle.object_alloc.specs.Listed.{Named}
pub use Rattle.object_alloc.specs.Spelling.{object_bytes}
pub use Rattle.std.proofs.Common.{List, [], ap, append-nil, append_assoc, arith, drop, length}
pub use Rattle.std.proofs.Common.{length-append, refl, subst, suc, sym, take, true, zero, ℕ, ◌*◌}
pub use Rattle.std.proofs.Common.{◌++◌, ◌+◌, ◌-◌, ◌<◌, ◌^◌, ◌∙◌, ◌∷◌, ◌≡◌, ◌≤◌}
pub use Rattle.std.proofs.lemmas.List.{drop-drop, drop_at, length-drop}
pub use Rattle.std.specs.Int.{to_le_bytes, w16, w32}
pub use Rattle.std.specs.List.{flat_map}
pub use Rattle.std.specs.Prelude.{Err, Ok, Result}
pub use Rattle.trace_model.proofs.Files.{files_are_exact}
pub use Rattle.trace_model.specs.Reading.{TraceFault, bytes_at, head_in, is_legal_head, needed}
pub use Rattle.trace_model.specs.Reading.{trace_in, with_row}
unfoldable pub use Rattle.trace_model.specs.Reading.{event_at, events_at, head_at}
pub use Rattle.trace_model.specs.Spelling.{Commands, Head, IsEvent, Writes, event_head_bytes}
pub use Rattle.trace_model.specs.Spelling.{trace_head}
