-- What a chip's counters come to.
use Rattle.simdram_cli.proofs.Common.{and_parts, ◌≡◌, ℕ, zero, suc, ◌+◌, ◌*◌, List, [], ◌++◌, map}
use Rattle.simdram_cli.proofs.Common.{Option, refl, ◌∙◌, ap, subst, arith, append-nil, zero-add}
use Rattle.simdram_cli.proofs.Common.{true, ◌<◌, ◌&&◌, flat_map, nat_le, leb-true, range_with_len}
use Rattle.simdram_cli.proofs.Common.{suc-mul, Counters, Event, Log, LogIs, after, all_counted}
use Rattle.simdram_cli.proofs.Common.{Grew, LogIs-more, Write, with_reads, all_counted-append}
use Rattle.simdram_cli.proofs.Common.{Geometry, is_geometry, is_between, fits_size, Rows}
use Rattle.simdram_cli.proofs.Common.{Instruction, Ahead, Program, routines_in, Image, row_writes}
use Rattle.simdram_cli.proofs.Common.{opened, script_events, replies, rows_printed, sum_done}
use Rattle.simdram_cli.proofs.Common.{sum_of, counted_by_replies}
use Rattle.std.proofs.Common.{add-zero}
use Rattle.std.specs.Prelude.{Bool, false}
use Rattle.simdram_cli.specs.Job.{opened_counters, tally_by}
use Rattle.simdram_cli.proofs.Progress.{Holds}

abbrev pub more_writes : Counters → ℕ → Counters
more_writes k n = record k { writes = k.writes + n }

bank_counted : (rows : Rows) (bank from n : ℕ) (k : Counters)
    → all_counted (map (λ row. Write bank row (rows bank row)) (range_with_len from n)) k
    ≡ more_writes k n
bank_counted rows bank from zero k = rw (add-zero k.writes) refl
bank_counted rows bank from (suc n) k =
    let e : k.writes + 1 + n ≡ k.writes + suc n = omega arith in
    bank_counted rows bank (from + 1) n (more_writes k 1) ∙ rw e refl

banks_counted : (rows : Rows) (size from n : ℕ) (k : Counters)
    → all_counted (flat_map (λ bank. map (λ row. Write bank row (rows bank row))
    (range_with_len 0 size)) (range_with_len from n)) k ≡ more_writes k (n * size)
banks_counted rows size from zero k =
    let e : k.writes + 0 * size ≡ k.writes = omega arith in
    rw e refl
banks_counted rows size from (suc n) k =
    let e : k.writes + size + n * size ≡ k.writes + suc n * size = omega (arith, suc-mul n size) in
    all_counted-append (map (λ row. Write from row (rows from row)) (range_with_len 0 size))
    (flat_map (λ bank. map (λ row. Write bank row (rows bank row)) (range_with_len 0 size))
    (range_with_len (from + 1) n)) k
    ∙ ap (all_counted (flat_map (λ bank. map (λ row. Write bank row (rows bank row))
    (range_with_len 0 size)) (range_with_len (from + 1) n))) (bank_counted rows from 0 size k)
    ∙ banks_counted rows size (from + 1) n (more_writes k size)
    ∙ rw e refl

-- the counters of a chip that was opened on an image
pub opened_counted : (i : Image) → all_counted (row_writes i) (record {
  aap = 0;
  ap = 0;
  writes = 0;
  reads = 0;
}) ≡ opened_counters i.geometry
opened_counted i = banks_counted i.rows i.geometry.rows 0 i.geometry.banks
    (record { aap = 0; ap = 0; writes = 0; reads = 0 })
    ∙ rw (zero-add (i.geometry.banks * i.geometry.rows)) refl

-- the counters after a script and the reading of all rows
pub tally_is : (program : Program) (script : List Instruction) (i : Image)
    → Holds i.geometry i.table
    → with_reads (i.geometry.banks * i.geometry.rows)
    (with_reads (sum_done rows_printed i.geometry (routines_in program) i.table script)
    (all_counted (script_events i.geometry (routines_in program) i.table script)
    (opened_counters i.geometry))) ≡ tally_by program script i
tally_is program script i holds =
    let all = i.geometry.banks * i.geometry.rows in
    let o = routines_in program in
    let printed = sum_done rows_printed i.geometry o i.table script in
    let sum = sum_of (replies i.geometry o i.table script) in
    let turned : 0 + printed + all ≡ all + printed = omega arith in
    ap (λ k. with_reads all (with_reads printed k)) (counted_by_replies i.geometry o Ahead i.table
    script (opened_counters i.geometry) holds.words holds.fits)
    ∙ rw (zero-add sum.aap, zero-add sum.ap, turned) refl

pub log_is : (start : List Event) (a b c : Option Log) (events : List Event) → LogIs start a
    → Grew a b events → Grew b c [] → LogIs (start ++ events) c
log_is start a b c events is g h = subst (λ (all : List Event). LogIs all c)
    (append-nil (start ++ events))
    (LogIs-more (start ++ events) [] b c (LogIs-more start events a b is g) h)

pub some_words : (g : Geometry) → is_geometry g ≡ true → 0 < g.words
some_words g e =
    let one = and_parts (is_between 1 16 g.banks && is_between 64 1006 g.rows
    && is_between 1 1024 g.words) (fits_size g) e in
    let two = and_parts (is_between 1 16 g.banks && is_between 64 1006 g.rows)
    (is_between 1 1024 g.words) one.0 in
    let three = and_parts (nat_le 1 g.words) (nat_le g.words 1024) two.1 in
    leb-true 1 g.words three.0
