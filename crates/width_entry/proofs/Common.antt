-- The words of the lower crates, of the specs and of std that these proofs share.
pub use Rattle.bit_rows.specs.declared.TheConstants.{WIDTH_MAX}
pub use Rattle.std.proofs.Common.{Bool, List, None, Option, Some, [], ap, arith, false, get_or}
pub use Rattle.std.proofs.Common.{length, map, refl, subst, suc, sym, take, true, zero, ℕ, ⊎_elim}
pub use Rattle.std.proofs.Common.{◌*◌, ◌++◌, ◌+◌, ◌-◌, ◌<◌, ◌∙◌, ◌∷◌, ◌≡◌, ◌≤◌}
pub use Rattle.std.proofs.Math.Dec.{eqb-suc-zero}
pub use Rattle.std.proofs.lemmas.Bool.{and_from, and_parts, cases_lt, eqb-true, false≢true, le-leb}
pub use Rattle.std.proofs.lemmas.Bool.{lt-ltb}
pub use Rattle.std.proofs.lemmas.List.{append-nil, append_assoc, length-append, take_more}
pub use Rattle.std.proofs.lemmas.Option.{slice_get-map}
pub use Rattle.std.specs.Option.{option_map}
pub use Rattle.std.specs.Prelude.{if◌then◌else◌, nat_le, nat_lt, slice_get, slice_index, slice_set}
pub use Rattle.std.specs.Prelude.{◌&&◌, ◌==◌, ◌^◌, ◌≢◌}
pub use Rattle.uprog_code.proofs.Steps.{legal_operands, some_first, trace_is}
pub use Rattle.uprog_code.specs.Issued.{is_issued_in}
pub use Rattle.uprog_code.specs.Legal.{IsLegalCode, may_be_first, may_be_second}
pub use Rattle.uprog_code.specs.Machine.{Ended, HasEnded, Issue, IssueAap, IssueAp, Next, Stuck}
pub use Rattle.uprog_code.specs.Machine.{Trace, act, act_at, all_in_range, command_at, issued, onto}
pub use Rattle.uprog_code.specs.Machine.{start, trace}
unfoldable pub use Rattle.uprog_code.specs.Machine.{issue}
pub use Rattle.uprog_code.specs.OneStep.{issue_of, turn_trace}
pub use Rattle.uprog_code.specs.Shape.{Microprogram, Shape, shape_of}
pub use Rattle.uprog_code.specs.declared.TheConstants.{WALK_MAX}
pub use Rattle.uprog_code.specs.declared.code.RowRef.{RowRef}
pub use Rattle.uprog_code.specs.declared.code.RowSpace.{RowSpace}
pub use Rattle.uprog_code.specs.declared.code.Uop.{Uop}
pub use Rattle.uprog_code.specs.declared.code.Uop.TheVariants.{Aap, Add, AddI, Ap, Bnez, Done, Mov}
pub use Rattle.uprog_code.specs.declared.code.Uop.TheVariants.{SetI, SetN, SetT, SubI}
pub use Rattle.uprog_code.specs.declared.registers.Issued.{Issued}
pub use Rattle.uprog_code.specs.declared.walker.Why3.{Why3}
pub use Rattle.uprog_code.specs.declared.walker.Why3.TheVariants.{Budget, Index, Register}
