-- The words of the lower crates, of the specs and of std that these proofs share.
pub use Rattle.bit_rows.specs.Bits.{bits_of_words}
unfoldable pub use Rattle.bit_rows.specs.Bits.{bits}
pub use Rattle.dram_model.specs.Elements.{column_count}
pub use Rattle.dram_model.specs.Geometry.{is_between}
pub use Rattle.dram_model.specs.declared.geometry.Geometry.{Geometry}
pub use Rattle.file_fields.proofs.Held.{Holds, Holds-back, Holds-front, Holds-then, bind_ok}
pub use Rattle.file_fields.proofs.Held.{field_again, field_takes, ok_is, rule_ok, wide16}
pub use Rattle.file_fields.proofs.Padded.{between_is, name_size}
pub use Rattle.file_fields.specs.Fields.{IsBytes, name_bytes, rule, ◌>>=◌}
pub use Rattle.std.proofs.Common.{Bool, Err, List, None, Ok, Option, Result, Some, [], ap}
pub use Rattle.std.proofs.Common.{append_assoc, arith, codes, cond, drop, false, get_or, inl, inr}
pub use Rattle.std.proofs.Common.{leb, length, not, refl, subst, suc, sym, take, true, vec_len}
pub use Rattle.std.proofs.Common.{zero, ℕ, ◌%◌, ◌&&◌, ◌*◌, ◌++◌, ◌+◌, ◌-◌, ◌/◌, ◌<◌, ◌==◌, ◌^◌, ◌∙◌}
pub use Rattle.std.proofs.Common.{◌∷◌, ◌≡◌, ◌≢◌, ◌≤◌}
pub use Rattle.std.proofs.Math.Nat.{pow-succ'}
pub use Rattle.std.proofs.lemmas.Bool.{cases_lt, false_from_ne_true}
pub use Rattle.std.proofs.lemmas.Bool.Decides.{nat_tests}
pub use Rattle.std.proofs.lemmas.Grind.{flat_map-append}
pub use Rattle.std.proofs.lemmas.List.{append-nil, drop-drop, drop_at, get_or-map, length-append}
pub use Rattle.std.proofs.lemmas.List.{length-map, take_all, take_at}
pub use Rattle.std.proofs.lemmas.List.Concat.{flat_map-cons}
pub use Rattle.std.proofs.lemmas.List.Elements.{All-filter, All-push}
pub use Rattle.std.proofs.lemmas.List.Folds.{list_all_at}
pub use Rattle.std.proofs.lemmas.List.FromFn.{get_or-range_with_len, length-range_with_len}
pub use Rattle.std.proofs.lemmas.Slice.Eq.{bytes_eq-Decides}
pub use Rattle.std.specs.Int.{to_le_bytes, w16, w32}
pub use Rattle.std.specs.List.{find, flat_map, list_all, range_with_len}
pub use Rattle.std.specs.Prelude.{All, vec_capacity}
pub use Rattle.std.specs.Str.{bytes_eq}
pub use Rattle.text_lex.specs.Spelled.{fits_name}
