-- A script that was done on an image, as the steps of a job.
use Rattle.simdram_cli.proofs.Common.{◌≡◌, ℕ, ◌+◌, ◌*◌, List, [], ◌∷◌, ◌++◌, ◌∙◌, refl, sym, ap}
use Rattle.simdram_cli.proofs.Common.{subst, append_assoc, count_by, Geometry, Counters, Banks}
use Rattle.simdram_cli.proofs.Common.{Event, Grew, after, all_counted, ChipView, HasBegun, Kept}
use Rattle.simdram_cli.proofs.Common.{with_reads, LogIs-more, Named, image_bytes, Instruction}
use Rattle.simdram_cli.proofs.Common.{Ahead, Program, routines_in, Image, opened, row_writes}
use Rattle.simdram_cli.proofs.Common.{rows_in_banks, script_events, banks_at_end, is_refused}
use Rattle.simdram_cli.proofs.Common.{replies, rows_printed, sum_done, table_at_end, total_line}
use Rattle.simdram_cli.proofs.Common.{events_are_steps, World, Step, Store, Put, End, Done, Stopped}
use Rattle.simdram_cli.proofs.Common.{Reason, Goes, goes_on, stops, Machine, geometry_of}
use Rattle.simdram_cli.proofs.Common.{program_of, table_in, machine_on, DidAndRead}
use Rattle.std.proofs.Common.{add_assoc}
use Rattle.simdram_cli.specs.Job.{image_by, opened_counters, refused_by, script_steps, tally_by}
use Rattle.simdram_cli.specs.Job.{opening, reading, reading_by, work_steps}
use Rattle.simdram_cli.specs.Tracing.{events_on, image_on, reading_on, reads_on, steps_on, unlogged}
use Rattle.simdram_cli.specs.Works.{OpenedOn, WorkDone}
use Rattle.simdram_cli.proofs.Progress.{Holds}
use Rattle.simdram_cli.proofs.Tallies.{tally_is}

pub reads_twice : (m n : ℕ) (k : Counters) → with_reads n (with_reads m k) ≡ with_reads (m + n) k
reads_twice m n k = ap (λ (r : ℕ). let c : Counters = record k { reads = r } in c)
    (add_assoc k.reads m n)

-- a machine that was opened on an image with a program, and the view of its chip
pub record Started (program : Program) (i : Image) (m : Machine) (start : ChipView) : Type 0 where
  pub machine_is : m ≡ machine_on i.geometry program i.table
  pub holds : Holds i.geometry i.table
  pub banks : start.banks ≡ opened i
  pub counters : start.counters ≡ opened_counters i.geometry
  pub geometry : start.geometry ≡ i.geometry

pub own_lines : (program : Program) (script : List Instruction) (i : Image) (m : Machine)
    (banks : Banks) → m ≡ machine_on i.geometry program i.table → banks ≡ opened i
    → steps_on m banks script ≡ script_steps program script i
own_lines program script i m banks e s = rw (e, s) refl

pub own_events : (program : Program) (script : List Instruction) (i : Image) (m : Machine)
    (start : ChipView) → Started program i m start
    → events_on m script ≡ script_events i.geometry (routines_in program) i.table script
own_events program script i m start s = rw s.machine_is refl

pub own_reads : (program : Program) (script : List Instruction) (i : Image) (m : Machine)
    (start : ChipView) → Started program i m start
    → reads_on m script ≡ sum_done rows_printed i.geometry (routines_in program) i.table script
    + i.geometry.banks * i.geometry.rows
own_reads program script i m start s = rw s.machine_is refl

pub own_banks : (program : Program) (script : List Instruction) (i : Image) (m : Machine)
    (start : ChipView) → Started program i m start → after (events_on m script) start.banks
    ≡ banks_at_end i.geometry (routines_in program) i.table (opened i) script
own_banks program script i m start s =
    ap (λ (es : List Event). after es start.banks) (own_events program script i m start s)
    ∙ ap (after (script_events i.geometry (routines_in program) i.table script)) s.banks
    ∙ events_are_steps i.geometry (routines_in program) Ahead i.table script (opened i)
    s.holds.words s.holds.fits

pub own_image : (program : Program) (script : List Instruction) (i : Image) (m : Machine)
    (start : ChipView) → Started program i m start
    → image_on m start.banks script ≡ image_by program script i
own_image program script i m start s =
    let o = routines_in program in
    let same : table_at_end (geometry_of m) (routines_in (program_of m)) (table_in m) script
    ≡ table_at_end i.geometry o i.table script =
    rw s.machine_is refl in
    let banks = own_banks program script i m start s in
    ap (λ (g : Geometry). image_bytes g (table_at_end (geometry_of m)
    (routines_in (program_of m)) (table_in m) script)
    (rows_in_banks (after (events_on m script) start.banks))) (ap geometry_of s.machine_is)
    ∙ ap (λ (t : List Named). image_bytes i.geometry t
    (rows_in_banks (after (events_on m script) start.banks))) same
    ∙ ap (λ (b : Banks). image_bytes i.geometry (table_at_end i.geometry o i.table script)
    (rows_in_banks b)) banks

-- the steps to the store of the image
abbrev pub first_steps : List ℕ → Program → List Instruction → Image → List Step
first_steps out program script i =
    script_steps program script i ++ (reading_by program script i
    ∷ Store out (image_by program script i) ∷ [])

pub first_are : (out : List ℕ) (program : Program) (script : List Instruction) (i : Image)
    (m : Machine) (start : ChipView) → Started program i m start
    → steps_on m start.banks script
    ++ (reading_on m start.banks script ∷ Store out (image_on m start.banks script) ∷ [])
    ≡ first_steps out program script i
first_are out program script i m start s =
    ap (λ (xs : List Step). xs ++ (reading_on m start.banks script ∷ Store out (image_on m start.banks script) ∷ []))
    (own_lines program script i m start.banks s.machine_is s.banks)
    ∙ ap (λ (banks : Banks). script_steps program script i ++ (reading (geometry_of m) banks
    ∷ Store out (image_on m start.banks script) ∷ []))
    (own_banks program script i m start s)
    ∙ ap (λ (g : Geometry). script_steps program script i ++ (reading g (banks_at_end i.geometry
    (routines_in program) i.table (opened i) script) ∷ Store out (image_on m start.banks script)
    ∷ [])) (ap geometry_of s.machine_is)
    ∙ ap (λ (bytes : List ℕ). script_steps program script i
    ++ (reading_by program script i ∷ Store out bytes ∷ []))
    (own_image program script i m start s)

-- what the chip shows when the script was done
pub left_by : (program : Program) (script : List Instruction) (i : Image) (m : Machine)
    (from last new : ChipView) (refused : ℕ) → Started program i m from
    → DidAndRead (events_on m script) (reads_on m script) from last
    → new.banks ≡ last.banks → new.counters ≡ last.counters
    → refused ≡ count_by is_refused (replies (geometry_of m) (routines_in (program_of m))
    (table_in m) script) → HasBegun new → new.geometry ≡ i.geometry
    → WorkDone program script i (unlogged new) refused
left_by program script i m from last new refused s did banks counters count begun geometry =
    let o = routines_in program in
    let events = script_events i.geometry o i.table script in
    let printed = sum_done rows_printed i.geometry o i.table script in
    let all = i.geometry.banks * i.geometry.rows in
    let own : DidAndRead events (printed + all) from last =
    subst (λ (es : List Event). DidAndRead es (printed + all) from last)
    (own_events program script i m from s)
    (subst (λ (n : ℕ). DidAndRead (events_on m script) n from last)
    (own_reads program script i m from s) did) in
    record {
      begun = begun;
      geometry = geometry;
      banks = banks ∙ own.banks ∙ ap (after events) s.banks
          ∙ events_are_steps i.geometry o Ahead i.table script (opened i) s.holds.words
          s.holds.fits;
      counters = counters ∙ own.counters
          ∙ ap (λ k. with_reads (printed + all) (all_counted events k)) s.counters
          ∙ sym (reads_twice printed all (all_counted events (opened_counters i.geometry)))
          ∙ tally_is program script i s.holds;
      log = tt;
      refused_is = count ∙ rw s.machine_is refl;
    }

pub own_table : (program : Program) (script : List Instruction) (i : Image) (m : Machine)
    (from : ChipView) → Started program i m from
    → table_at_end (geometry_of m) (routines_in (program_of m)) (table_in m) script
    ≡ table_at_end i.geometry (routines_in program) i.table script
own_table program script i m from s = rw s.machine_is refl

-- the chip that was opened is its start
pub started_on : (program : Program) (i : Image) (m : Machine) (start : ChipView)
    → m ≡ machine_on i.geometry program i.table → Holds i.geometry i.table → OpenedOn i start
    → Started program i m start
started_on program i m start e holds o = record {
  machine_is = e;
  holds = holds;
  banks = o.banks;
  counters = o.counters;
  geometry = o.geometry;
}

-- what stands when all is done, with the chip's log
pub all_done : (program : Program) (script : List Instruction) (i : Image) (m : Machine)
    (start last : ChipView) (refused : ℕ) → Started program i m start → OpenedOn i start
    → DidAndRead (events_on m script) (reads_on m script) start last → Kept start last
    → refused ≡ count_by is_refused (replies (geometry_of m) (routines_in (program_of m))
    (table_in m) script) → WorkDone program script i last refused
all_done program script i m start last refused s o did kept count =
    let w = left_by program script i m start last last refused s did refl refl count
    (kept.begun ∙ o.begun) (kept.geometry ∙ o.geometry) in
    record {
      begun = w.begun;
      geometry = w.geometry;
      banks = w.banks;
      counters = w.counters;
      log = LogIs-more (row_writes i) (script_events i.geometry (routines_in program) i.table script)
          start.log last.log o.log
          (subst (Grew start.log last.log) (own_events program script i m start s) did.log);
      refused_is = w.refused_is;
    }

-- the line of the totals is the job's
pub total_is : (program : Program) (script : List Instruction) (i : Image) (chip : ChipView)
    (refused : ℕ) (end : End) (a b : World) → WorkDone program script i chip refused
    → Goes (Put (total_line chip.counters refused) ∷ []) end a b
    → Goes (Put (total_line (tally_by program script i) (refused_by program script i)) ∷ []) end a b
total_is program script i chip refused end a b w g =
    subst (λ (x : Counters). Goes (Put (total_line x (refused_by program script i)) ∷ []) end a b)
    w.counters
    (subst (λ (n : ℕ). Goes (Put (total_line chip.counters n) ∷ []) end a b) w.refused_is g)

-- a job that stopped at the opening, before OUT was stored, or went on to its end
pub stopped_open : (name : List ℕ) (program : Program) (script : List Instruction) (i : Image)
    (reason : Reason) (a b : World) → Goes (opening i ∷ []) (Stopped reason) a b
    → Goes (work_steps name program script i) (Stopped reason) a b
stopped_open name program script i reason a b g =
    stops (opening i ∷ []) _ reason a b g

-- the steps to the store of the image, as the machine that was opened goes
pub own_first : (out : List ℕ) (program : Program) (script : List Instruction) (i : Image)
    (m : Machine) (start : ChipView) (end : End) (a b : World) → Started program i m start
    → Goes (steps_on m start.banks script ++ (reading_on m start.banks script
    ∷ Store out (image_on m start.banks script) ∷ [])) end a b
    → Goes (first_steps out program script i) end a b
own_first out program script i m start end a b s g =
    subst (λ (xs : List Step). Goes xs end a b) (first_are out program script i m start s) g

pub stopped_first : (out : List ℕ) (program : Program) (script : List Instruction) (i : Image)
    (reason : Reason) (a b c : World) → Goes (opening i ∷ []) Done a b
    → Goes (first_steps out program script i) (Stopped reason) b c
    → Goes (work_steps out program script i) (Stopped reason) a c
stopped_first out program script i reason a b c g h =
    goes_on (opening i ∷ []) _ (Stopped reason) a b c g
    (subst (λ (xs : List Step). Goes xs (Stopped reason) b c)
    (append_assoc (script_steps program script i) _ _)
    (stops (first_steps out program script i) (Put (total_line (tally_by program script i)
    (refused_by program script i)) ∷ []) reason b c h))

pub went_on : (out : List ℕ) (program : Program) (script : List Instruction) (i : Image)
    (end : End) (a b c d : World) → Goes (opening i ∷ []) Done a b
    → Goes (first_steps out program script i) Done b c
    → Goes (Put (total_line (tally_by program script i) (refused_by program script i)) ∷ []) end c d
    → Goes (work_steps out program script i) end a d
went_on out program script i end a b c d g h k =
    goes_on (opening i ∷ []) _ end a b d g
    (subst (λ (xs : List Step). Goes xs end b d) (append_assoc (script_steps program script i) _ _)
    (goes_on (first_steps out program script i) _ end b c d h k))
