-- What stands where the chip fails among flips and votes.
use Rattle.guard_job.proofs.Common.{◌≡◌, List, [], ◌∷◌, refl, sym, ◌∙◌, ap, subst, Geometry, Banks}
use Rattle.guard_job.proofs.Common.{Event, after, row_in, Write, ChipView, StoppedWithin, Named}
use Rattle.guard_job.proofs.Common.{Flip, all_flipped, flipped, with_bit_inverted, vote_events}
use Rattle.guard_job.proofs.Common.{voted, vote_is_events}
use Rattle.dram_model.specs.Chip.{SameBut}
use Rattle.dram_model.specs.View.{StoppedIn}
use Rattle.transpose_unit.specs.Stopped.{IsNext}
use Rattle.transpose_unit.proofs.Stopping.{stopped_at_event, stopped_before, stopped_first}
use Rattle.transpose_unit.proofs.Stopping.{stopped_later}
use Rattle.guard_model.proofs.Flips.{flip_is_write}
use Rattle.guard_job.specs.Events.{flip_events, mend_events}
use Rattle.dram_model.proofs.EventLaws.{after-append}

-- flips are their writes
flips_are_events : (now : List Flip) (banks : Banks)
    → all_flipped now banks ≡ after (flip_events now banks) banks
flips_are_events [] banks = refl
flips_are_events (f ∷ now) banks =
    flips_are_events now (flipped f banks)
    ∙ ap (after (flip_events now (flipped f banks))) (sym (flip_is_write f banks))

-- at the first flip
pub flip_first : (f : Flip) (flips left : List Flip) (now last : Banks) → left ≡ f ∷ flips
    → SameBut f.bank now last → StoppedWithin 0 (flip_events left now) now last
flip_first f flips left now last e others = stopped_first 0 (flip_events left now) f.bank now last
    (subst (λ (l : List Flip). IsNext 0 (flip_events l now) f.bank) (sym e) refl) others

-- a flip more
pub flip_failed : (f : Flip) (flips left : List Flip) (start now one last : Banks)
    (whole : List Event) → left ≡ f ∷ flips → one ≡ flipped f now
    → (StoppedWithin 0 (flip_events left now) now last → StoppedWithin 0 whole start last)
    → StoppedWithin 0 (flip_events flips one) one last → StoppedWithin 0 whole start last
flip_failed f flips left start now one last whole e banks more s =
    let event = Write f.bank f.row (with_bit_inverted f.column (row_in f.row (now f.bank))) in
    let next : StoppedWithin 0 (flip_events flips (flipped f now)) one last =
    subst (λ (b : Banks). StoppedWithin 0 (flip_events flips b) one last) banks s in
    more (subst (λ (l : List Flip). StoppedWithin 0 (flip_events l now) now last) (sym e)
    (stopped_later 0 (event ∷ []) (flip_events flips (flipped f now)) now one last
    (banks ∙ sym (flip_is_write f now)) next))

-- the chip failed at a flip, or at a vote
pub flips_failed : (g : Geometry) (now : List Flip) (table : List Named) (a b : Banks)
    → StoppedWithin 0 (flip_events now a) a b → StoppedWithin 0 (mend_events g now table a) a b
flips_failed g now table a b s = stopped_before 0 (flip_events now a) (vote_events g table) a b s

pub votes_failed : (g : Geometry) (now : List Flip) (table : List Named) (a b c : ChipView)
    → b.banks ≡ all_flipped now a.banks → StoppedIn (vote_events g table) b c
    → StoppedWithin 0 (mend_events g now table a.banks) a.banks c.banks
votes_failed g now table a b c banks s =
    stopped_later 0 (flip_events now a.banks) (vote_events g table) a.banks b.banks c.banks
    (banks ∙ flips_are_events now a.banks) (stopped_at_event (vote_events g table) b c s)

-- what flips and votes leave is what their events leave
pub mend_left : (g : Geometry) (now : List Flip) (table : List Named) (banks left : Banks)
    → left ≡ voted g table (all_flipped now banks)
    → left ≡ after (mend_events g now table banks) banks
mend_left g now table banks left e =
    e ∙ sym (vote_is_events g table (all_flipped now banks))
    ∙ ap (after (vote_events g table)) (flips_are_events now banks)
    ∙ sym (after-append (flip_events now banks) (vote_events g table) banks)
