-- One instruction of a guarded script was done, and the others are left.
use Rattle.guard_job.proofs.Common.{◌≡◌, ℕ, ◌+◌, List, ◌∷◌, length, sym, ◌∙◌, ap, subst, arith}
use Rattle.guard_job.proofs.Common.{count_by, FolderView, SinkView, Geometry, Banks, Event, Grew}
use Rattle.guard_job.proofs.Common.{ChipView, Grew-more, Named, Instruction, Turn, Routines}
use Rattle.guard_job.proofs.Common.{is_refused, World, world, Step, End, Done, Goes, Flip, due}
use Rattle.guard_job.proofs.Common.{guarded_reply, guarded_replies, guarded_rows}
use Rattle.guard_job.proofs.Common.{guarded_rows_at_end, guarded_table, guarded_table_at_end}
use Rattle.guard_job.proofs.Common.{guarded_tally, guarded_turn, mended, votes_at_end}
use Rattle.machine_model.specs.Routines.{Program, routines_in}
use Rattle.cli_model.proofs.Going.{goes_on}
use Rattle.guard_job.specs.Events.{instr_events, run_events}
use Rattle.guard_job.specs.Steps.{guarded_steps, instr_steps}
use Rattle.guard_job.specs.Parts.{InstrDone}
use Rattle.guard_job.proofs.Tallies.{count_more, tally_goes_on}

module _ (g : Geometry) (operations : Routines) (flips : List Flip) (k : ℕ) (instr : Instruction)
    (others : List Instruction) (turn turn' : Turn) (table table' : List Named) (a b : ChipView)
    (votes refused : ℕ)
    (d : InstrDone g operations (due k flips) instr turn turn' table table' a b votes refused)
  where
    pub table_goes : guarded_table_at_end g operations table' others
        ≡ guarded_table_at_end g operations table (instr ∷ others)
    table_goes = ap (λ (t : List Named). guarded_table_at_end g operations t others) d.tables

    pub banks_go : guarded_rows_at_end g operations flips (k + 1) table' b.banks others
        ≡ guarded_rows_at_end g operations flips k table a.banks (instr ∷ others)
    banks_go =
        ap (λ (t : List Named). guarded_rows_at_end g operations flips (k + 1) t b.banks others)
        d.tables
        ∙ ap (λ (x : Banks). guarded_rows_at_end g operations flips (k + 1)
        (guarded_table g operations table instr) x others) d.banks

    pub tally_goes : (left later : List Flip) → length left ≡ length (due k flips) + length later
        → guarded_tally g operations table' others later b.counters
        ≡ guarded_tally g operations table (instr ∷ others) left a.counters
    tally_goes left later e =
        ap (λ (t : List Named). guarded_tally g operations t others later b.counters) d.tables
        ∙ ap (guarded_tally g operations (guarded_table g operations table instr) others later)
        d.counters
        ∙ sym (tally_goes_on g operations table instr others left later (length (due k flips))
        a.counters e)

    events_are : run_events g operations flips (k + 1) turn' table' b.banks others
        ≡ run_events g operations flips (k + 1) (guarded_turn g operations turn table instr)
        (guarded_table g operations table instr)
        (guarded_rows g operations table (mended g flips k table a.banks) instr) others
    events_are =
        ap (λ (t : Turn). run_events g operations flips (k + 1) t table' b.banks others) d.turns
        ∙ ap (λ (t : List Named). run_events g operations flips (k + 1)
        (guarded_turn g operations turn table instr) t b.banks others) d.tables
        ∙ ap (λ (x : Banks). run_events g operations flips (k + 1)
        (guarded_turn g operations turn table instr) (guarded_table g operations table instr) x
        others) d.banks

    pub log_goes : (new : ChipView)
        → Grew b.log new.log (run_events g operations flips (k + 1) turn' table' b.banks others)
        → Grew a.log new.log (run_events g operations flips k turn table a.banks (instr ∷ others))
    log_goes new more =
        let following = run_events g operations flips (k + 1)
        (guarded_turn g operations turn table instr) (guarded_table g operations table instr)
        (guarded_rows g operations table (mended g flips k table a.banks) instr) others in
        Grew-more a.log b.log new.log
        (instr_events g operations (due k flips) turn table a.banks instr) following d.log
        (subst (λ (es : List Event). Grew b.log new.log es) events_are more)

    pub votes_go : (total : ℕ) → total + votes_at_end g operations table (instr ∷ others)
        ≡ total + votes + votes_at_end g operations table' others
    votes_go total =
        let e = ap (λ (t : List Named). votes_at_end g operations t others) d.tables in
        omega (arith, e, d.votes_are)

    pub refused_goes : (total : ℕ)
        → total + count_by is_refused (guarded_replies g operations table (instr ∷ others))
        ≡ total + refused + count_by is_refused (guarded_replies g operations table' others)
    refused_goes total =
        let e = ap (λ (t : List Named). count_by is_refused (guarded_replies g operations t others))
        d.tables in
        let more = count_more is_refused (guarded_reply g operations table instr)
        (guarded_replies g operations (guarded_table g operations table instr) others) in
        omega (arith, e, d.refused_is, more)

    steps_are : guarded_steps g operations flips (k + 1) turn' table' b.banks others
        ≡ guarded_steps g operations flips (k + 1) (guarded_turn g operations turn table instr)
        (guarded_table g operations table instr)
        (guarded_rows g operations table (mended g flips k table a.banks) instr) others
    steps_are =
        ap (λ (t : Turn). guarded_steps g operations flips (k + 1) t table' b.banks others) d.turns
        ∙ ap (λ (t : List Named). guarded_steps g operations flips (k + 1)
        (guarded_turn g operations turn table instr) t b.banks others) d.tables
        ∙ ap (λ (x : Banks). guarded_steps g operations flips (k + 1)
        (guarded_turn g operations turn table instr) (guarded_table g operations table instr) x
        others) d.banks

    pub goes_goes : (files : FolderView) (s t : SinkView) (end : End) (w : World)
        → Goes (instr_steps g operations (due k flips) k turn table a.banks instr) Done
        (world files s a) (world files t b)
        → Goes (guarded_steps g operations flips (k + 1) turn' table' b.banks others) end
        (world files t b) w
        → Goes (guarded_steps g operations flips k turn table a.banks (instr ∷ others)) end
        (world files s a) w
    goes_goes files s t end w one more =
        goes_on (instr_steps g operations (due k flips) k turn table a.banks instr)
        (guarded_steps g operations flips (k + 1) (guarded_turn g operations turn table instr)
        (guarded_table g operations table instr)
        (guarded_rows g operations table (mended g flips k table a.banks) instr) others) end
        (world files s a) (world files t b) w one
        (subst (λ (steps : List Step). Goes steps end (world files t b) w) steps_are more)

-- the same instruction, with another name for the shape, the program and the flips
pub moved : (h g : Geometry) (q p : Program) (now flips : List Flip) (instr : Instruction)
    (turn turn' : Turn) (table table' : List Named) (a b : ChipView) (votes refused : ℕ) → h ≡ g
    → q ≡ p → now ≡ flips
    → InstrDone h (routines_in q) now instr turn turn' table table' a b votes refused
    → InstrDone g (routines_in p) flips instr turn turn' table table' a b votes refused
moved h g q p now flips instr turn turn' table table' a b votes refused e f s d =
    subst (λ (x : Geometry). InstrDone x (routines_in p) flips instr turn turn' table table' a b
    votes refused) e
    (subst (λ (x : Program). InstrDone h (routines_in x) flips instr turn turn' table table' a b
    votes refused) f
    (subst (λ (x : List Flip). InstrDone h (routines_in q) x instr turn turn' table table' a b
    votes refused) s d))

pub line_moved : (h g : Geometry) (q p : Program) (now flips : List Flip) (k : ℕ)
    (turn : Turn) (table : List Named) (banks : Banks) (instr : Instruction) (end : End)
    (a b : World) → h ≡ g → q ≡ p → now ≡ flips
    → Goes (instr_steps h (routines_in q) now k turn table banks instr) end a b
    → Goes (instr_steps g (routines_in p) flips k turn table banks instr) end a b
line_moved h g q p now flips k turn table banks instr end a b e f s d =
    subst (λ (x : Geometry). Goes (instr_steps x (routines_in p) flips k turn table banks instr)
    end a b) e
    (subst (λ (x : Program). Goes (instr_steps h (routines_in x) flips k turn table banks instr)
    end a b) f
    (subst (λ (x : List Flip). Goes (instr_steps h (routines_in q) x k turn table banks instr)
    end a b) s d))
