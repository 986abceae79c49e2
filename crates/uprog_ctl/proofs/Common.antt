-- The words of the lower crates, of the specs and of std that these proofs share.
pub use Rattle.dram_model.proofs.EventLaws.{Did-more, Did-none, Kept-more, Kept-same, counted-bound}
pub use Rattle.dram_model.specs.Chip.{Banks, SameBut, all_counted}
pub use Rattle.dram_model.specs.Chip.Event.{Row}
pub use Rattle.dram_model.specs.Events.{row_events}
pub use Rattle.dram_model.specs.View.{ChipView, Did, FailedIn, Kept}
pub use Rattle.dram_model.specs.declared.address.Addr.TheVariants.{B}
pub use Rattle.dram_model.specs.declared.address.Command.{Command}
pub use Rattle.dram_model.specs.declared.address.Command.TheVariants.{Ap}
pub use Rattle.dram_model.specs.declared.dram.Counters.{Counters}
pub use Rattle.dram_model.specs.declared.geometry.Geometry.{Geometry}
pub use Rattle.std.proofs.Common.{Bool, List, Some, [], ap, append-nil, arith, cond, drop, false}
pub use Rattle.std.proofs.Common.{get_or, inl, inr, length, map, refl, subst, suc, sym, take, true}
pub use Rattle.std.proofs.Common.{zero, ℕ, ◌*◌, ◌++◌, ◌+◌, ◌<◌, ◌∙◌, ◌∷◌, ◌≡◌, ◌≤◌}
pub use Rattle.std.proofs.lemmas.List.{get_or-map, get_or_default, length-map, length_push, take_at}
pub use Rattle.std.proofs.lemmas.List.Sums.{sum_by-cons}
pub use Rattle.std.specs.List.{sum_by}
pub use Rattle.std.specs.Prelude.{All, count_by, if◌then◌else◌, nat_lt, slice_get}
pub use Rattle.uprog_code.proofs.Seek.{start_stands}
pub use Rattle.uprog_code.proofs.Steps.{trace_is}
pub use Rattle.uprog_code.specs.Bound.{bound, bound_command, bound_of}
pub use Rattle.uprog_code.specs.Commands.{StandsIn, commands_from}
pub use Rattle.uprog_code.specs.Count.{issues_aap, issues_ap}
pub use Rattle.uprog_code.specs.Machine.{Issue, IssueAap, IssueAp, Trace, issues_of}
pub use Rattle.uprog_code.specs.Shape.{Shape, shape_of}
pub use Rattle.uprog_code.specs.declared.TheConstants.{WALK_MAX}
pub use Rattle.uprog_code.specs.declared.code.Uop.{Uop}
pub use Rattle.uprog_code.specs.declared.commands.Walk.{Walk}
pub use Rattle.wave_model.proofs.Waves.{picks_whole}
pub use Rattle.wave_model.specs.Schedule.{Picker, PicksLive, Queues, live, total_left, whole_picks}
pub use Rattle.wave_model.specs.Schedule.{without_next}
