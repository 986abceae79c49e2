-- A read, one bit inverted, and a write.
use Rattle.tmr_guard.proofs.Common.{◌≡◌, ℕ, List, [], ◌∷◌, Bool, ◌∙◌, ap, subst, OnOk, OnErr, Event}
use Rattle.tmr_guard.proofs.Common.{Grew, after, ChipView, Did, DidRead, FailedIn, Did-more}
use Rattle.tmr_guard.proofs.Common.{Grew-more, Banks, Write, Flip, with_bit_inverted, Result, Ok}
use Rattle.tmr_guard.proofs.Common.{Err}
use Rattle.dram_model.specs.Chip.{SameBut, happens, row_in}
use Rattle.guard_model.specs.Flips.{flipped}
use Rattle.guard_model.proofs.Flips.{flip_is_write}

pub flip_done : (f : Flip) (old now : Banks) (read written : List Bool) → now ≡ old
    → read ≡ row_in f.row (old f.bank) → written ≡ with_bit_inverted f.column read
    → happens (Write f.bank f.row written) now ≡ flipped f old
flip_done f old now read written e r h =
    ap (happens (Write f.bank f.row written)) e
    ∙ ap (λ bits. happens (Write f.bank f.row bits) old) (h
    ∙ ap (with_bit_inverted f.column) r) ∙ flip_is_write f old

-- so the chip's banks are, where the write was Ok
pub banks_of : {T E : Type 0} (r : Result T E) (es : List Event) (a b : ChipView) (banks : Banks)
    → OnOk r (Did es a b) → after es a.banks ≡ banks → OnOk r (b.banks ≡ banks)
banks_of (Ok x) es a b banks d e = d.banks ∙ e
banks_of (Err x) es a b banks d e = tt

-- and no call failed
pub unfailed_of : {T E : Type 0} (r : Result T E) (es : List Event) (a b c : ChipView)
    → DidRead 1 a b → OnOk r (Did es b c) → OnOk r (c.faults ≡ a.faults)
unfailed_of (Ok x) es a b c read wrote = wrote.faults ∙ read.faults
unfailed_of (Err x) es a b c read wrote = tt

-- the log of a read and a write
pub log_of : {T E : Type 0} (r : Result T E) (bank row : ℕ) (bits other : List Bool)
    (a b c : ChipView) → DidRead 1 a b → OnOk r (Did (Write bank row bits ∷ []) b c)
    → bits ≡ other → OnOk r (Grew a.log c.log (Write bank row other ∷ []))
log_of (Ok x) bank row bits other a b c read wrote e =
    subst (λ (all : List Bool). Grew a.log c.log (Write bank row all ∷ [])) e
    (Grew-more a.log b.log c.log [] (Write bank row bits ∷ []) read.log wrote.log)
log_of (Err x) bank row bits other a b c read wrote e = tt

-- where the write failed, the other banks and the log are as before the read
pub others_of : {T E : Type 0} (r : Result T E) (bank : ℕ) (a b c : ChipView)
    → b.banks ≡ a.banks → OnErr r (FailedIn bank b c) → OnErr r (SameBut bank a.banks c.banks)
others_of (Ok x) bank a b c e failed = tt
others_of (Err x) bank a b c e failed =
    λ k other. failed.others k other ∙ ap (λ (banks : Banks). banks k) e

pub no_event_of : {T E : Type 0} (r : Result T E) (a b c : ChipView)
    → Grew a.log b.log [] → OnErr r (Grew b.log c.log []) → OnErr r (Grew a.log c.log [])
no_event_of (Ok x) a b c read failed = tt
no_event_of (Err x) a b c read failed = Grew-more a.log b.log c.log [] [] read failed

-- six events, one after another, the last of which may have failed
pub six_did : {T E : Type 0} (r : Result T E) (e f g h i j : Event)
    (a b c d k m n : ChipView) → Did (e ∷ []) a b → Did (f ∷ []) b c → Did (g ∷ []) c d
    → Did (h ∷ []) d k → Did (i ∷ []) k m → OnOk r (Did (j ∷ []) m n)
    → OnOk r (Did (e ∷ f ∷ g ∷ h ∷ i ∷ j ∷ []) a n)
six_did (Ok x) e f g h i j a b c d k m n one two three four five six =
    Did-more (e ∷ []) (f ∷ g ∷ h ∷ i ∷ j ∷ []) a b n one
    (Did-more (f ∷ []) (g ∷ h ∷ i ∷ j ∷ []) b c n two
    (Did-more (g ∷ []) (h ∷ i ∷ j ∷ []) c d n three
    (Did-more (h ∷ []) (i ∷ j ∷ []) d k n four (Did-more (i ∷ []) (j ∷ []) k m n five six))))
six_did (Err x) e f g h i j a b c d k m n one two three four five six = tt
