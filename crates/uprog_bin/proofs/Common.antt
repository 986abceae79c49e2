-- The words of the lower crates, of the specs and of std that these proofs share.
pub use Rattle.arrayvec.specs.ArrayVec.{array_vec_len}
pub use Rattle.file_fields.proofs.Held.{Holds, Holds-back, Holds-front, Holds-then, bind_ok}
pub use Rattle.file_fields.proofs.Held.{bytes_again, bytes_takes, field_takes, ok_is, rule_ok}
pub use Rattle.file_fields.proofs.Held.{wide16, wide32, wide8}
pub use Rattle.file_fields.proofs.Padded.{between_is}
pub use Rattle.file_fields.specs.Fields.{IsBytes, is_between, name_bytes, rule, ◌>>=◌}
pub use Rattle.op_text.specs.declared.tree.Kind.{Kind}
pub use Rattle.op_text.specs.declared.tree.Kind.TheVariants.{Bit, Word}
pub use Rattle.std.proofs.Common.{All, Bool, Err, List, None, Ok, Result, Some, [], ap, append-nil}
pub use Rattle.std.proofs.Common.{append_assoc, arith, drop, eq-eqb, eqb, false, get_or, inl, inr}
pub use Rattle.std.proofs.Common.{leb, length, ltb, map, not, refl, subst, suc, sym, take, true}
pub use Rattle.std.proofs.Common.{zero, ℕ, ◌%◌, ◌&&◌, ◌*◌, ◌++◌, ◌+◌, ◌-◌, ◌/◌, ◌<◌, ◌^◌, ◌||◌, ◌∙◌}
pub use Rattle.std.proofs.Common.{◌∷◌, ◌≡◌, ◌≢◌, ◌≤◌, ◌⊎◌}
pub use Rattle.std.proofs.lemmas.Bool.{and_from, and_parts, eqb-true, leb-true, ltb-true}
pub use Rattle.std.proofs.lemmas.List.{drop-drop, drop_all, length-append, take_at}
pub use Rattle.std.proofs.lemmas.List.Concat.{flat_map-cons}
pub use Rattle.std.proofs.lemmas.Result.{err_from_is_err_and}
pub use Rattle.std.proofs.lemmas.Slice.Eq.{bytes_eq-Decides}
pub use Rattle.std.specs.Int.{to_le_bytes, w16, w32, w8}
pub use Rattle.std.specs.List.{AllByRecursion, AllPairs, flat_map, position}
pub use Rattle.std.specs.Prelude.{codes, cond, slice_get, slice_index, slice_index_or, slice_set}
pub use Rattle.std.specs.Str.{bytes_eq}
pub use Rattle.uprog_code.specs.Legal.{is_first, is_legal, is_second}
pub use Rattle.uprog_code.specs.Programs.{IsEntry, IsProgram}
pub use Rattle.uprog_code.specs.Shape.{Microprogram, Shape, microprogram_of, shape_of}
pub use Rattle.uprog_code.specs.declared.code.EntryCode.{EntryCode}
pub use Rattle.uprog_code.specs.declared.code.Uop.{Uop}
