-- A call that failed in one of several turns of events.
use Rattle.transpose_unit.proofs.Common.{◌≡◌, ℕ, zero, suc, ◌+◌, ◌-◌, ◌<◌, List, [], ◌∷◌, ◌++◌}
use Rattle.transpose_unit.proofs.Common.{refl, sym, ◌∙◌, ap, arith, range_with_len, ne_eqb, Banks}
use Rattle.transpose_unit.proofs.Common.{Event, after, happens, subst, take, drop, flat_map, map}
use Rattle.std.proofs.Common.{append_assoc, append-nil, Some}
use Rattle.std.specs.Prelude.{slice_get}
use Rattle.dram_model.specs.Chip.{bank_of, SameBut}
use Rattle.dram_model.specs.View.{ChipView, StoppedIn}
use Rattle.dram_model.proofs.EventLaws.{after-append}
use Rattle.transpose_unit.specs.Stopped.{StoppedWithin, IsNext}
use Rattle.std.proofs.lemmas.List.{take-append-drop}
use Rattle.dram_model.specs.declared.address.Command.{Command}
use Rattle.dram_model.specs.Chip.Event.{Row}

turns_split : (E : ℕ → List Event) (a k i n m : ℕ) → a + k ≡ i → k + suc m ≡ n
    → flat_map E (range_with_len a k) ++ (E i ++ flat_map E (range_with_len (i + 1) m))
    ≡ flat_map E (range_with_len a n)
turns_split E a zero i n m at all =
    let same : i ≡ a = omega arith in
    let one : n ≡ suc m = omega arith in
    rw (same, one) refl
turns_split E a (suc k) i zero m at all = absurd (omega arith)
turns_split E a (suc k) i (suc n) m at all =
    append_assoc (E a) (flat_map E (range_with_len (a + 1) k)) _
    ∙ ap (λ xs. E a ++ xs) (turns_split E (a + 1) k i n m (omega arith) (omega arith))

-- the first of some events in one bank is the next one
pub next_in : (f : ℕ → Event) (w bank : ℕ) → 0 < w → bank_of (f 0) ≡ bank
    → IsNext 0 (map f (range_with_len 0 w)) bank
next_in f zero bank some same = absurd (omega (arith, some))
next_in f (suc w) bank some same = sym same

-- before any of them
pub stopped_first : (reads : ℕ) (events : List Event) (bank : ℕ) (a b : Banks)
    → IsNext reads events bank → SameBut bank a b → StoppedWithin reads events a b
stopped_first reads events bank a b next others = record {
  done = [];
  left = events;
  all = refl;
  bank = bank;
  failed = next;
  others = others;
}

-- after others
pub stopped_later : (reads : ℕ) (es fs : List Event) (a b c : Banks) → b ≡ after es a
    → StoppedWithin reads fs b c → StoppedWithin reads (es ++ fs) a c
stopped_later reads es fs a b c did s = record {
  done = es ++ s.done;
  left = s.left;
  all = append_assoc es s.done s.left ∙ ap (λ (l : List Event). es ++ l) s.all;
  bank = s.bank;
  failed = s.failed;
  others = λ i ne. s.others i ne ∙ ap (λ (banks : Banks). after s.done banks i) did
      ∙ ap (λ (banks : Banks). banks i) (sym (after-append es s.done a));
}

next_before : (reads : ℕ) (left more : List Event) (bank : ℕ) → IsNext 0 left bank
    → IsNext reads (left ++ more) bank
next_before reads [] more bank next = absurd (omega (arith, next))
next_before reads (event ∷ left) more bank next = next

-- and before others
pub stopped_before : (reads : ℕ) (es fs : List Event) (a b : Banks) → StoppedWithin 0 es a b
    → StoppedWithin reads (es ++ fs) a b
stopped_before reads es fs a b s = record {
  done = s.done;
  left = s.left ++ fs;
  all = sym (append_assoc s.done s.left fs) ∙ ap (λ (l : List Event). l ++ fs) s.all;
  bank = s.bank;
  failed = next_before reads s.left fs s.bank s.failed;
  others = s.others;
}

-- in one of so many turns
pub stopped_turn : (E : ℕ → List Event) (n k bank : ℕ) → k < n → (a b c : Banks)
    → IsNext 0 (E k) bank → b ≡ after (flat_map E (range_with_len 0 k)) a → SameBut bank b c
    → StoppedWithin 0 (flat_map E (range_with_len 0 n)) a c
stopped_turn E n k bank l a b c next did others =
    subst (λ (es : List Event). StoppedWithin 0 es a c)
    (turns_split E 0 k k n (n - (k + 1)) (omega arith) (omega (arith, l)))
    (stopped_later 0 (flat_map E (range_with_len 0 k)) _ a b c did
    (stopped_before 0 (E k) _ b c (stopped_first 0 (E k) bank b c next others)))

-- where none is read, and so where some are
pub stopped_more : (reads : ℕ) (events : List Event) (a b : Banks) → StoppedWithin 0 events a b
    → StoppedWithin reads events a b
stopped_more reads events a b s =
    subst (λ (es : List Event). StoppedWithin reads es a b) (append-nil events)
    (stopped_before reads events [] a b s)

-- where it is known at which event
pub stopped_at_event : (events : List Event) (a b : ChipView) → StoppedIn events a b
    → StoppedWithin 0 events a.banks b.banks
stopped_at_event events a b s = record {
  done = s.done;
  left = s.event ∷ s.left;
  all = s.all;
  bank = bank_of s.event;
  failed = refl;
  others = s.others;
}

next_at : (events : List Event) (n bank : ℕ) (command : Command)
    → slice_get events n ≡ Some (Row bank command) → IsNext 0 (drop n events) bank
next_at [] n bank command e = absurd (cc)
next_at (event ∷ events) zero bank command e = let is : event ≡ Row bank command = cc in rw is refl
next_at (event ∷ events) (suc n) bank command e = next_at events n bank command e

-- and by its number
pub stopped_at : (events : List Event) (n bank : ℕ) (command : Command) (a b : Banks)
    → slice_get events n ≡ Some (Row bank command) → SameBut bank (after (take n events) a) b
    → StoppedWithin 0 events a b
stopped_at events n bank command a b e others = record {
  done = take n events;
  left = drop n events;
  all = take-append-drop n events;
  bank = bank;
  failed = next_at events n bank command e;
  others = others;
}

-- events of one bank leave the others
pub others_stay : (f : ℕ → Event) (bank : ℕ) → ((k : ℕ) → bank_of (f k) ≡ bank) → (a n : ℕ)
    → (banks : Banks) → SameBut bank banks (after (map f (range_with_len a n)) banks)
others_stay f bank same a zero banks b ne = refl
others_stay f bank same a (suc n) banks b ne =
    others_stay f bank same (a + 1) n (happens (f a) banks) b ne
    ∙ rw (ne_eqb (bank_of (f a)) b (λ e. ne (sym e ∙ same a))) refl
