use Rattle.uprog_ctl.proofs.Common.{List, [], ◌∙◌, ap, get_or, inr, sym, get_or_default, Ap, B}
use Rattle.uprog_ctl.specs.declared.cursor.Cursor.{Cursor}
use Rattle.uprog_ctl.specs.Waves.{bound_jobs}
use Rattle.uprog_ctl.specs.Cursors.{left_after}
use Rattle.uprog_ctl.proofs.Follow.{refilled, taken}
use Rattle.uprog_ctl.proofs.cursor.go_on.Goals as goal

abbrev blank : Cursor
blank = record {
  bank = 0;
  next = Ap (B 0);
  job = 0;
  walk = record { pc = 0; regs = []; left = 0 };
}

pub returns : goal.returns
returns g c =
    let jobs = bound_jobs g.F.Fetch.shape g.F.Fetch.code c.args.jobs.now in
    let cs = c.args.cursors.now.items in
    inr (
      λ d. ap (λ (x : Cursor). left_after c.args.g.rows jobs x)
          (get_or_default cs c.args.k d blank c.requires.k
          ∙ ap (λ (xs : List Cursor). get_or xs c.args.k blank) (sym c.as_mut_slice.ensures.value))
          ∙ c.move_on.ensures.none c.if-move_on.false,
      taken cs _ _ c.args.k c.move_on.new.cursor c.remove.ensures.items
          (refilled cs c.as_mut_slice.result.now c.args.k c.move_on.new.cursor
          c.as_mut_slice.ensures.value),
    )
