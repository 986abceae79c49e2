-- The commands so far and what is left to issue.
use Rattle.width_entry.proofs.Common.{◌≡◌, ℕ, List, [], ◌++◌, refl, sym, ap, subst, append_assoc}
use Rattle.width_entry.proofs.Common.{append-nil, Why3, Ended, HasEnded, Issue, Stuck, Trace, onto}

pub onto_nil : (t : Trace) → onto [] t ≡ t
onto_nil (Ended cs) = refl
onto_nil (Stuck at why) = refl

pub onto_both : (cs ds : List Issue) (t : Trace) → onto (cs ++ ds) t ≡ onto cs (onto ds t)
onto_both cs ds (Ended es) = ap Ended (append_assoc cs ds es)
onto_both cs ds (Stuck at why) = refl

pub onto_end : (cs : List Issue) → onto cs (Ended []) ≡ Ended cs
onto_end cs = ap Ended (append-nil cs)

pub never_stuck : (cs : List Issue) (at : ℕ) (why : Why3) (t : Trace) → HasEnded t
    → onto cs (Stuck at why) ≡ t → ⊥
never_stuck cs at why t h e = subst HasEnded (sym e) h
