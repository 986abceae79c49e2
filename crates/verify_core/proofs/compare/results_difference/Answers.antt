use Rattle.verify_core.proofs.Common.{◌≡◌, ◌+◌, D, shape_of, in_kind, column_of, ◌<◌, ℕ, Bool, true}
use Rattle.verify_core.specs.SymbolicRuns.{IsDifference, ResultsAgree, ResultsDiffer}
use Rattle.verify_core.proofs.Results.{agree-from, both-agree, difference-from, none-map, said}
use Rattle.verify_core.proofs.Results.{second-differs, some-map}
use Rattle.verify_core.proofs.compare.results_difference.Goals as goal

pub returns-in_ok-found-in-None-clause-none : goal.returns-in_ok-found-in-None-clause-none
returns-in_ok-found-in-None-clause-none c =
    let old = c.args.diagram.now.nodes in
    let mid = c.first_difference.new.diagram.nodes in
    let own = c.args.own.now in
    let made = c.args.made.now in
    let n = c.args.n in
    let head = c.args.head.now in
    let first = said c.in_ok-e.field-0 ((bits : ℕ → Bool) (i : ℕ) → i < c.rows_of_kind.result
    → column_of old bits own (D (0 + i)) ≡ column_of old bits made (D (0 + i))) c.in-None.is
    c.in_ok-e.ensures.none in
    none-map ((bits : ℕ → Bool) (i : ℕ) → in_kind head.second n i ≡ true
    → column_of mid bits own (D (n + i)) ≡ column_of mid bits made (D (n + i)))
    (ResultsAgree (shape_of head) n old own made) c.in_ok-found-in-None.found
    (λ second. both-agree (shape_of head) n old own made
    (λ bits i l. first bits i (rw c.rows_of_kind.ensures l))
    (agree-from old mid own made n head.second c.in_ok-e.ensures.keeps c.requires.own
    c.requires.made second))
    c.in_ok-found-in-None.ensures.none

pub returns-in_ok-found-in-None-clause-some : goal.returns-in_ok-found-in-None-clause-some
returns-in_ok-found-in-None-clause-some c =
    let old = c.args.diagram.now.nodes in
    let mid = c.first_difference.new.diagram.nodes in
    let new = c.second_difference.new.diagram.nodes in
    let own = c.args.own.now in
    let made = c.args.made.now in
    let n = c.args.n in
    let head = c.args.head.now in
    some-map (λ e. (i : ℕ) × (in_kind head.second n i ≡ true)
    × IsDifference mid new own made (n + i) e)
    (λ e. ResultsDiffer (shape_of head) n old new own made e) c.in_ok-found-in-None.found
    (λ e d. second-differs (shape_of head) n d.0 old new own made e d.1
    (difference-from old mid new own made (n + d.0) e c.in_ok-e.ensures.keeps c.requires.own
    c.requires.made d.2))
    c.in_ok-found-in-None.ensures.some
