-- Laws of events, for those who do several
use Rattle.std.specs.Prelude.{◌≡◌, ℕ, ◌+◌, ◌<◌, ◌≤◌, List, [], ◌∷◌, ◌++◌}
use Rattle.std.specs.Prelude.{length, map, Option, Some, None, refl}
use Rattle.std.proofs.Common.{sym, ◌∙◌, ap, arith, inl, inr, append_assoc, map-id}
use Rattle.std.proofs.Common.{append-nil, add_assoc, zero-add, subst}
use Rattle.std.proofs.lemmas.Bool.{ne_eqb, eq-eqb}
use Rattle.std.proofs.lemmas.Bool.Decides.{eqb_tells}
use Rattle.dram_model.specs.declared.address.Command.{Command}
use Rattle.dram_model.specs.declared.address.Command.TheVariants.{Ap, Aap}
use Rattle.dram_model.specs.declared.dram.Counters.{Counters}
use Rattle.dram_model.specs.Column.{Column, step, run}
use Rattle.dram_model.specs.Chip.{Banks, Event, bank_of, on_bank, happens, after, counted}
use Rattle.dram_model.specs.Chip.{Log, LogIs, all_counted, event_bits, log_bits, with_events, Grew}
use Rattle.dram_model.specs.Chip.Event.{Row, Write}
use Rattle.dram_model.specs.Events.{events_of, row_events}
use Rattle.dram_model.specs.View.{ChipView, Kept, Did, DidRead, with_reads}

-- what events of one bank leave of its columns
abbrev pub on_bank_all : List Event → List Column → List Column
on_bank_all [] columns = columns
on_bank_all (event ∷ events) columns = on_bank_all events (on_bank event columns)

-- events in two parts leave the banks as all of them do
pub after-append : (es fs : List Event) (banks : Banks)
    → after (es ++ fs) banks ≡ after fs (after es banks)
after-append [] fs banks = refl
after-append (e ∷ es) fs banks = after-append es fs (happens e banks)

-- events in two parts are counted as all of them are
pub all_counted-append : (es fs : List Event) (counters : Counters)
    → all_counted (es ++ fs) counters ≡ all_counted fs (all_counted es counters)
all_counted-append [] fs counters = refl
all_counted-append (e ∷ es) fs counters = all_counted-append es fs (counted e counters)

-- what is more takes more room
pub log_bits-append : (es fs : List Event) → log_bits (es ++ fs) ≡ log_bits es + log_bits fs
log_bits-append [] fs = sym (zero-add (log_bits fs))
log_bits-append (e ∷ es) fs = ap (λ n. event_bits e + n) (log_bits-append es fs)
    ∙ sym (add_assoc (event_bits e) (log_bits es) (log_bits fs))

with_events-more : (es fs : List Event) (log : Log)
    → with_events fs (with_events es log) ≡ with_events (es ++ fs) log
with_events-more es fs log = ap (λ (all : List Event). let l : Log = record log { events = all } in
    l)
    (append_assoc log.events es fs)

with_events-none : (log : Log) → log ≡ with_events [] log
with_events-none log = ap (λ (all : List Event). let l : Log = record log { events = all } in l)
    (sym (append-nil log.events))

-- what does not fit still does not with more after it
full-more : (log : Log) (es fs : List Event) → log.room < log_bits (log.events ++ es)
    → log.room < log_bits (log.events ++ (es ++ fs))
full-more log es fs l =
    let e = log_bits-append (log.events ++ es) fs in
    let s : log_bits (log.events ++ es ++ fs) ≡ log_bits (log.events ++ (es ++ fs)) =
    ap log_bits (append_assoc log.events es fs) in
    omega (arith, l, e, s)

-- two growths make one
pub Grew-more : (a b c : Option Log) (es fs : List Event) → Grew a b es → Grew b c fs
    → Grew a c (es ++ fs)
Grew-more None None None es fs g h = tt
Grew-more None None (Some z) es fs g h = absurd h
Grew-more None (Some y) c es fs g h = absurd g
Grew-more (Some x) None None es fs g h = full-more x es fs g
Grew-more (Some x) None (Some z) es fs g h = absurd h
Grew-more (Some x) (Some y) None es fs g h =
    let full : (with_events es x).room < log_bits ((with_events es x).events ++ fs) =
    subst (λ (l : Log). l.room < log_bits (l.events ++ fs)) g h in
    subst (λ (all : List Event). x.room < log_bits all) (append_assoc x.events es fs) full
Grew-more (Some x) (Some y) (Some z) es fs g h =
    h ∙ ap (with_events fs) g ∙ with_events-more es fs x

-- a log that has these events has these and others after them
pub LogIs-more : (xs es : List Event) (a b : Option Log) → LogIs xs a → Grew a b es
    → LogIs (xs ++ es) b
LogIs-more xs es a None is g = tt
LogIs-more xs es None (Some y) is g = absurd g
LogIs-more xs es (Some x) (Some y) is g = ap (λ (l : Log). l.events) g ∙ ap (λ w. w ++ es) is

-- each bank is left as its own events alone leave it, whatever stands between them
pub projection : (events : List Event) (banks : Banks) (bank : ℕ)
    → after events banks bank ≡ on_bank_all (events_of bank events) (banks bank)
projection [] banks bank = refl
projection (event ∷ events) banks bank = elim (eqb_tells (bank_of event) bank) [
  | inl h ↦ projection events (happens event banks) bank ∙ rw h.0 refl
  | inr h ↦ projection events (happens event banks) bank ∙ rw h.0 refl
]

-- one command in all columns and then the others are all of them in each column
pub step-then-run : (command : Command) (commands : List Command) (columns : List Column)
    → map (run commands) (map (step command) columns) ≡ map (run (command ∷ commands)) columns
step-then-run command commands [] = refl
step-then-run command commands (column ∷ columns) =
    ap (λ rest. run commands (step command column) ∷ rest) (step-then-run command commands columns)

-- commands on one bank take each of its columns through them
pub on-its-bank : (bank : ℕ) (commands : List Command) (banks : Banks)
    → after (row_events bank commands) banks bank ≡ map (run commands) (banks bank)
on-its-bank bank [] banks = sym (map-id (banks bank))
on-its-bank bank (command ∷ commands) banks =
    on-its-bank bank commands (happens (Row bank command) banks)
    ∙ rw (eq-eqb bank bank refl) (step-then-run command commands (banks bank))

-- and leave the others
pub on-others : (bank : ℕ) (commands : List Command) (banks : Banks) (b : ℕ) → (b ≡ bank → ⊥)
    → after (row_events bank commands) banks b ≡ banks b
on-others bank [] banks b h = refl
on-others bank (command ∷ commands) banks b h =
    on-others bank commands (happens (Row bank command) banks) b h
    ∙ rw (ne_eqb bank b (λ e. h (sym e))) refl

-- a counter rises by at most one for each event
pub counted-bound : (events : List Event) (counters : Counters)
    → ((all_counted events counters).aap ≤ counters.aap + length events)
    × ((all_counted events counters).ap ≤ counters.ap + length events)
    × ((all_counted events counters).writes ≤ counters.writes + length events)
counted-bound [] counters = (omega arith, omega arith, omega arith)
counted-bound (Row bank (Ap x) ∷ events) counters = let h =
    counted-bound events (counted (Row bank (Ap x)) counters) in
    (omega arith, omega arith, omega arith)
counted-bound (Row bank (Aap x y) ∷ events) counters = let h =
    counted-bound events (counted (Row bank (Aap x y)) counters) in
    (omega arith, omega arith, omega arith)
counted-bound (Write bank row bits ∷ events) counters = let h =
    counted-bound events (counted (Write bank row bits) counters) in
    (omega arith, omega arith, omega arith)

-- a log to which nothing came is as it was
pub Grew-none : (log : Option Log) → Grew log log []
Grew-none None = tt
Grew-none (Some known) = with_events-none known

-- no event
pub Did-none : (chip : ChipView) → Did [] chip chip
Did-none chip = record {
  banks = refl;
  counters = refl;
  faults = refl;
  log = Grew-none chip.log;
}

-- some events, and then others
pub Did-more : (es fs : List Event) (a b c : ChipView) → Did es a b → Did fs b c
    → Did (es ++ fs) a c
Did-more es fs a b c d e = record {
  banks = e.banks ∙ ap (after fs) d.banks ∙ sym (after-append es fs a.banks);
  counters = e.counters ∙ ap (all_counted fs) d.counters
      ∙ sym (all_counted-append es fs a.counters);
  faults = e.faults ∙ d.faults;
  log = Grew-more a.log b.log c.log es fs d.log e.log;
}

-- what one call kept and the next kept, both kept
pub Kept-same : (chip : ChipView) → Kept chip chip
Kept-same chip = record { begun = refl; geometry = refl; faults = omega arith }

-- what two calls keep, one after the other
pub Kept-more : (a b c : ChipView) → Kept a b → Kept b c → Kept a c
Kept-more a b c h k = record {
  begun = k.begun ∙ h.begun;
  geometry = k.geometry ∙ h.geometry;
  faults = omega (arith, h.faults, k.faults);
}

more_reads : (m n : ℕ) (c : Counters) → with_reads n (with_reads m c) ≡ with_reads (m + n) c
more_reads m n c = ap (λ k. let d : Counters = record c { reads = k } in d) (add_assoc c.reads m n)

-- reads of two calls add up
pub DidRead-more : (m n : ℕ) (a b c : ChipView) → DidRead m a b → DidRead n b c
    → DidRead (m + n) a c
DidRead-more m n a b c d e = record {
  banks = e.banks ∙ d.banks;
  counters = e.counters ∙ ap (with_reads n) d.counters ∙ more_reads m n a.counters;
  faults = e.faults ∙ d.faults;
  log = Grew-more a.log b.log c.log [] [] d.log e.log;
}
