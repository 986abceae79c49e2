use Rattle.optimise_job.proofs.Common.{◌≡◌, ◌+◌, ◌-◌, ◌<◌, ◌≤◌, List, [], ◌∷◌, ◌++◌, length, map}
use Rattle.optimise_job.proofs.Common.{take, sym, ap, ◌∙◌, subst, arith, slice_index_or}
use Rattle.optimise_job.proofs.Common.{AllByRecursion, map-append, Issued, microprogram_of}
use Rattle.std.proofs.lemmas.List.{take_all}
use Rattle.uprog_bin.specs.Opened.{program_of}
use Rattle.optimise_job.specs.Outcomes.{IsOutcome, lines_of}
use Rattle.optimise_job.specs.Promise.{AreAsGood}
use Rattle.optimise_job.proofs.AsGood.{all_good}
use Rattle.optimise_job.proofs.Pushed.{HasLegalCode, all_push, line_there, many_outcomes}
use Rattle.optimise_job.proofs.Pushed.{outcome_more, outcomes_of, room_left, room_more}
use Rattle.optimise_job.proofs.Pushed.{still_program, taken}
use Rattle.optimise_job.proofs.program.with_lines.Goals as goal

pub loop-k-preserved : goal.loop-k-preserved
loop-k-preserved c =
    let n = c.args.n in
    let room = c.args.room in
    let k = c.loop-k.k in
    let es = c.args.prog.now.programs in
    let ls = lines_of c.args.lines.now in
    let rs = map microprogram_of c.loop-k.entries.items in
    let xs = c.loop-k.outcomes.items in
    let e = program_of c.entry-entry.result in
    let y = c.index-lines-from.result in
    let r = microprogram_of c.in_ok-offered.offered.entry in
    let x = c.in_ok-offered.offered.outcome in
    let many = c.requires.lines in
    let count = c.entries-k-end.ensures in
    let lt : k < length c.args.lines.now =
    let test = c.loop-k-test.true in omega (arith, many, count, test) in
    let at = subst (λ j. y ≡ slice_index_or c.args.lines.now j y) c.from.ensures
    c.index-lines-from.is in
    let more_es = taken es k e c.entry-entry.ensures.program in
    let more_ls = taken ls k y.items (line_there c.args.lines.now k y lt at) in
    let more_rs : map microprogram_of c.keep.new.items.items ≡ rs ++ r ∷ [] =
    ap (map microprogram_of) c.in_ok-keep.ensures
    ∙ map-append microprogram_of c.loop-k.entries.items (c.in_ok-offered.offered.entry ∷ []) in
    let inv = c.loop-k.invariant in
    record {
      outcomes = λ ops does.
          let own = c.in_ok-offered.ensures.outcome ops does in
          let line = subst (λ (l : List Issued). IsOutcome n c.loop-k.left ops e l r x)
          c.deref.ensures.value own in
          outcomes_of n room ops (take k es ++ e ∷ []) (take (k + 1) es) (take k ls ++ y.items ∷ [])
          (take (k + 1) ls) (rs ++ r ∷ []) (map microprogram_of c.keep.new.items.items)
          (xs ++ x ∷ []) c.keep-in-loop-k.new.items.items more_es more_ls more_rs
          c.in_ok-keep-2.ensures
          (outcome_more n room ops (take k es) (take k ls) rs xs e y.items r x
          (inv.outcomes ops does)
          (subst (λ w. IsOutcome n w ops e y.items r x) inv.left line));
      legal = subst (AllByRecursion HasLegalCode) (sym more_rs)
          (all_push HasLegalCode rs r inv.legal c.in_ok-offered.ensures.legal);
      left =
          let as_many = many_outcomes n room c.requires.implements.0 (take k es) (take k ls) rs xs
          (inv.outcomes c.requires.implements.0 c.requires.implements.1) in
          let less = c.saturating_sub-left.ensures in
          let more = c.saturating_sub-more.ensures in
          let new = c.len.ensures in
          let own = c.len-in-loop-k.ensures in
          let from = c.from-in-loop-k.ensures in
          let long = c.in_ok-offered.offered.entry.code.ok.0 in
          let step : c.saturating_sub-left.result
          ≡ room_left room (take k es) rs - (length r.code - length e.code) =
          let so = inv.left in omega (arith, less, more, new, own, from, long, so) in
          step
          ∙ sym (room_more room (take k es) rs e r as_many)
          ∙ ap (λ ms. room_left room ms (rs ++ r ∷ [])) (sym more_es)
          ∙ ap (room_left room (take (k + 1) es)) (sym more_rs);
    }

pub returns-clause-program : goal.returns-clause-program
returns-clause-program c =
    let es = c.args.prog.now.programs in
    let ls = lines_of c.args.lines.now in
    let rs = map microprogram_of c.loop-k.entries.items in
    let ops = c.requires.implements.0 in
    let count = c.entries-k-end.ensures in
    let all : length es ≤ c.loop-k.k = let test = c.loop-k-test.false in omega (arith, count, test) in
    let good = all_good c.args.n c.args.room ops (take c.loop-k.k es) (take c.loop-k.k ls) rs
    c.loop-k.outcomes.items (c.loop-k.invariant.outcomes ops c.requires.implements.1) in
    still_program c.args.n ops es rs
    (subst (λ ms. AreAsGood c.args.n ops ms rs)
    (take_all c.loop-k.k es all) good) c.requires.program c.loop-k.invariant.legal
