-- How commands go.
use Rattle.cli_model.proofs.Common.{◌≡◌, ℕ, ◌≤◌, List, [], ◌∷◌, ◌++◌, Option, Some, None, refl, sym}
use Rattle.cli_model.proofs.Common.{◌∙◌, ap, subst, inl, inr, arith, append_assoc, append-nil}
use Rattle.cli_model.proofs.Common.{false, list_any, Files, FolderView, Known, RoseBy, Banks}
use Rattle.host_edge.specs.Views.{NoCountFalls, Unfailed}
use Rattle.cli_model.specs.World.{World}
use Rattle.cli_model.specs.Steps.{Step, Load, Take, Store, Open, Use, UseFor, Put, Print, Reason}
use Rattle.cli_model.specs.Steps.{CannotRead, TooLong, Refused, NoMemory, CannotWrite, PutFailed}
use Rattle.cli_model.specs.Steps.{ChipFailed, End, Done, Stopped, Goes, StepDone, Fails, ReadsOnly}
use Rattle.cli_model.specs.Steps.{Stored, Used, UseFailed, PrintFailed, Sent, Printed, Unstored}
use Rattle.cli_model.specs.Stands.{files_after, sent_by, CountsOn, left_by, all_left, NoneRose}
use Rattle.cli_model.specs.Ends.{is_on_chip, may_fault}

-- all of these steps were done
pub record Stands (steps : List Step) (old new : World) : Type 0 where
  pub files : Known (λ before after. after ≡ files_after steps before) old.files.holds
      new.files.holds
  pub sent : Known (λ before after. after ≡ before ++ sent_by steps) old.sink.sent new.sink.sent
  pub counts : CountsOn old new

-- steps, and then others
pub goes_on : (xs ys : List Step) (end : End) (a b c : World) → Goes xs Done a b → Goes ys end b c
    → Goes (xs ++ ys) end a c
goes_on [] ys end a b c e h = subst (λ w. Goes ys end w c) e h
goes_on (x ∷ xs) ys end a b c (inl (mid, (d, g))) h = inl (mid, (d, goes_on xs ys end mid b c g h))
goes_on (x ∷ xs) ys end a b c (inr f) h = elim f [ ]

-- an end is not undone by steps that would come after it
pub stops : (xs ys : List Step) (reason : Reason) (a b : World) → Goes xs (Stopped reason) a b
    → Goes (xs ++ ys) (Stopped reason) a b
stops [] ys reason a b g = elim g [ ]
stops (x ∷ xs) ys reason a b (inl (mid, (d, g))) = inl (mid, (d, stops xs ys reason mid b g))
stops (x ∷ xs) ys reason a b (inr f) = inr f

-- a count that rose since later has risen since earlier
pub within : (a b c : ℕ) (n : ℕ) → a ≤ b → RoseBy n b c → RoseBy n a c
within a b c n l r = omega (arith, r)

same_counts : (a : World) → CountsOn a a
same_counts a = record {
  files = record {
    load_faults = λ name. omega arith;
    store_faults = omega arith;
    taken = omega arith;
  };
  sink = omega arith;
  chip = omega arith;
}

pub more_counts : (a b c : World) → CountsOn a b → CountsOn b c → CountsOn a c
more_counts a b c p q = record {
  files = record {
    load_faults = λ name. let x = p.files.load_faults name in let y = q.files.load_faults name in
        omega arith;
    store_faults = omega arith;
    taken = omega arith;
  };
  sink = omega arith;
  chip = omega arith;
}

reads_count : (a b : World) → ReadsOnly a b → CountsOn a b
reads_count a b r = record {
  files = r.counts;
  sink = rw r.sink (omega arith);
  chip = rw (ap (λ v. v.faults) r.chip) (omega arith);
}

no_falls : (f : FolderView) → NoCountFalls f f
no_falls f = record {
  load_faults = λ name. omega arith;
  store_faults = omega arith;
  taken = omega arith;
}

used_count : (banks : Banks) (a b : World) → Used banks a b → CountsOn a b
used_count banks a b u = record {
  files = rw u.files (no_falls a.files);
  sink = rw u.sink (omega arith);
  chip = rw u.chip (omega arith);
}

unused_count : (a b : World) → UseFailed a b → CountsOn a b
unused_count a b u = record {
  files = rw u.files (no_falls a.files);
  sink = rw u.sink (omega arith);
  chip = u.chip;
}

pub sent_count : (R : List ℕ → List ℕ → Type 0) (a b : World) → Sent R a b → CountsOn a b
sent_count R a b s = record {
  files = rw s.files (no_falls a.files);
  sink = s.faults;
  chip = rw (ap (λ v. v.faults) s.chip) (omega arith);
}

pub printed_count : (R : List ℕ → List ℕ → Type 0) (banks : Banks) (a b : World)
    → Printed R banks a b → CountsOn a b
printed_count R banks a b p = record {
  files = rw p.files (no_falls a.files);
  sink = p.faults;
  chip = rw p.chip (omega arith);
}

unprinted_count : (bytes : List ℕ) (a b : World) → PrintFailed bytes a b → CountsOn a b
unprinted_count bytes a b p = record {
  files = rw p.files (no_falls a.files);
  sink = p.faults;
  chip = p.chip;
}

stored_count : (name bytes : List ℕ) (a b : World) → Stored name bytes a b → CountsOn a b
stored_count name bytes a b s = record {
  files = s.counts;
  sink = rw s.sink (omega arith);
  chip = rw (ap (λ v. v.faults) s.chip) (omega arith);
}

unstored_count : (name : List ℕ) (a b : World) → Unstored name a b → CountsOn a b
unstored_count name a b s = record {
  files = s.counts;
  sink = rw s.sink (omega arith);
  chip = rw (ap (λ v. v.faults) s.chip) (omega arith);
}

pub does_count : (step : Step) (a b : World) → StepDone step a b → CountsOn a b
does_count (Load name limit text refusal) a b d = reads_count a b d.1.reads
does_count Take a b d = subst (CountsOn a) (sym d) (same_counts a)
does_count (Store name bytes) a b d = stored_count name bytes a b d
does_count (Open on) a b d = used_count _ a b d
does_count (Use on) a b d = used_count _ a b d
does_count (UseFor wave) a b d = used_count _ a b d
does_count (Put bytes) a b d = sent_count _ a b d.0
does_count (Print on bytes) a b d = printed_count _ _ a b d.0

load_fails_count : (name : List ℕ) (limit : ℕ) (text : List ℕ) (refusal : _) (reason : Reason)
    (a b : World) → Fails (Load name limit text refusal) reason a b → CountsOn a b
load_fails_count name limit text refusal (CannotRead said) a b f = reads_count a b f.1
load_fails_count name limit text refusal (TooLong said) a b f = reads_count a b f.1
load_fails_count name limit text refusal (Refused r) a b f = reads_count a b f.1.reads
load_fails_count name limit text refusal NoMemory a b f = reads_count a b f
load_fails_count name limit text refusal (CannotWrite said) a b f = elim f [ ]
load_fails_count name limit text refusal PutFailed a b f = elim f [ ]
load_fails_count name limit text refusal ChipFailed a b f = elim f [ ]

pub fails_count : (step : Step) (reason : Reason) (a b : World) → Fails step reason a b
    → CountsOn a b
fails_count (Load name limit text refusal) reason a b f =
    load_fails_count name limit text refusal reason a b f
fails_count Take reason a b f = reads_count a b f.1
fails_count (Store name bytes) reason a b f = unstored_count name a b f.1
fails_count (Open on) reason a b (inl f) = unused_count a b f.1
fails_count (Open on) reason a b (inr f) = unused_count a b f.1
fails_count (Use on) reason a b f = unused_count a b f.1
fails_count (UseFor wave) reason a b f = unused_count a b f.1
fails_count (Put bytes) reason a b f = sent_count _ a b f.1
fails_count (Print on bytes) reason a b (inl f) = printed_count _ _ a b f.1
fails_count (Print on bytes) reason a b (inr f) = unprinted_count bytes a b f.1

pub known_same : {A : Type 0} (a b : Option A) → b ≡ a → Known (λ x y. y ≡ x) a b
known_same None b e = tt
known_same (Some x) b e = subst (λ o. Known (λ x y. y ≡ x) (Some x) o) (sym e) refl

-- what was sent in two parts was sent as one
pub known_sent : (first rest : List ℕ) (a b c : Option (List ℕ)) → Known (λ x y. y ≡ x ++ first) a b
    → Known (λ x y. y ≡ x ++ rest) b c → Known (λ x y. y ≡ x ++ (first ++ rest)) a c
known_sent first rest None b c p q = tt
known_sent first rest (Some x) None c p q = absurd p
known_sent first rest (Some x) (Some y) None p q = absurd q
known_sent first rest (Some x) (Some y) (Some z) p q = q ∙ ap (λ w. w ++ rest) p
    ∙ append_assoc x first rest

known_unsent : (a b : Option (List ℕ)) → b ≡ a → Known (λ x y. y ≡ x ++ []) a b
known_unsent None b e = tt
known_unsent (Some x) b e = subst (λ o. Known (λ x y. y ≡ x ++ []) (Some x) o) (sym e)
    (sym (append-nil x))

-- what stands after one step
pub one_stands : (step : Step) (a b : World) → StepDone step a b → Stands (step ∷ []) a b
one_stands (Load name limit text refusal) a b d =
    record {
      files = known_same _ _ d.1.reads.files;
      sent = known_unsent _ _ (ap (λ s. s.sent) d.1.reads.sink);
      counts =
          does_count (Load name limit text refusal) a b d;
    }
one_stands Take a b d = record {
  files = known_same _ _ (ap (λ (w : World). w.files.holds) d);
  sent = known_unsent _ _ (ap (λ (w : World). w.sink.sent) d);
  counts = does_count Take a b d;
}
one_stands (Store name bytes) a b d = record {
  files = d.files;
  sent = known_unsent _ _ (ap (λ s. s.sent) d.sink);
  counts = does_count (Store name bytes) a b d;
}
one_stands (Open on) a b d = record {
  files = known_same _ _ (ap (λ f. f.holds) d.files);
  sent = known_unsent _ _ (ap (λ s. s.sent) d.sink);
  counts = does_count (Open on) a b d;
}
one_stands (Use on) a b d = record {
  files = known_same _ _ (ap (λ f. f.holds) d.files);
  sent = known_unsent _ _ (ap (λ s. s.sent) d.sink);
  counts = does_count (Use on) a b d;
}
one_stands (UseFor wave) a b d = record {
  files = known_same _ _ (ap (λ f. f.holds) d.files);
  sent = known_unsent _ _ (ap (λ s. s.sent) d.sink);
  counts = does_count (UseFor wave) a b d;
}
one_stands (Put bytes) a b d = record {
  files = known_same _ _ (ap (λ f. f.holds) d.0.files);
  sent = rw append-nil d.0.sent;
  counts = does_count (Put bytes) a b d;
}
one_stands (Print on bytes) a b d = record {
  files = known_same _ _ (ap (λ f. f.holds) d.0.files);
  sent = rw append-nil d.0.sent;
  counts = does_count (Print on bytes) a b d;
}

files_after-cons : (step : Step) (steps : List Step) (f : Files)
    → files_after (step ∷ steps) f ≡ files_after steps (files_after (step ∷ []) f)
files_after-cons (Load name limit text refusal) steps f = refl
files_after-cons Take steps f = refl
files_after-cons (Store name bytes) steps f = refl
files_after-cons (Open on) steps f = refl
files_after-cons (Use on) steps f = refl
files_after-cons (UseFor wave) steps f = refl
files_after-cons (Put bytes) steps f = refl
files_after-cons (Print on bytes) steps f = refl

sent_by-cons : (step : Step) (steps : List Step)
    → sent_by (step ∷ steps) ≡ sent_by (step ∷ []) ++ sent_by steps
sent_by-cons (Load name limit text refusal) steps = refl
sent_by-cons Take steps = refl
sent_by-cons (Store name bytes) steps = refl
sent_by-cons (Open on) steps = refl
sent_by-cons (Use on) steps = refl
sent_by-cons (UseFor wave) steps = refl
sent_by-cons (Put bytes) steps = rw append-nil refl
sent_by-cons (Print on bytes) steps = rw append-nil refl

known_files : (step : Step) (steps : List Step) (a b c : Option Files)
    → Known (λ x y. y ≡ files_after (step ∷ []) x) a b → Known (λ x y. y ≡ files_after steps x) b c
    → Known (λ x y. y ≡ files_after (step ∷ steps) x) a c
known_files step steps None b c p q = tt
known_files step steps (Some x) None c p q = absurd p
known_files step steps (Some x) (Some y) None p q = absurd q
known_files step steps (Some x) (Some y) (Some z) p q = q ∙ ap (files_after steps) p
    ∙ sym (files_after-cons step steps x)

pub more_stand : (step : Step) (steps : List Step) (a b c : World) → StepDone step a b
    → Stands steps b c → Stands (step ∷ steps) a c
more_stand step steps a b c d s =
    let one = one_stands step a b d in
    record {
      files = known_files step steps _ _ _ one.files s.files;
      sent = rw (sent_by-cons step steps) (known_sent (sent_by (step ∷ [])) (sent_by steps) _ _ _
          one.sent s.sent);
      counts = more_counts a b c one.counts s.counts;
    }

none_stand : (a b : World) → b ≡ a → Stands [] a b
none_stand a b e = record {
  files = known_same _ _ (ap (λ w. w.files.holds) e);
  sent = known_unsent _ _ (ap (λ w. w.sink.sent) e);
  counts = rw e (same_counts a);
}

pub all_stand : (steps : List Step) (a b : World) → Goes steps Done a b → Stands steps a b
all_stand [] a b e = none_stand a b e
all_stand (step ∷ steps) a b (inl (mid, (d, g))) =
    more_stand step steps a mid b d (all_stand steps mid b g)
all_stand (step ∷ steps) a b (inr f) = elim f [ ]

-- a step that was done leaves the count of the chip's faults
does_faults : (step : Step) (a b : World) → StepDone step a b → b.chip.faults ≡ a.chip.faults
does_faults (Load name limit text refusal) a b d = ap (λ v. v.faults) d.1.reads.chip
does_faults Take a b d = ap (λ (w : World). w.chip.faults) d
does_faults (Store name bytes) a b d = ap (λ v. v.faults) d.chip
does_faults (Open on) a b d = d.chip
does_faults (Use on) a b d = d.chip
does_faults (UseFor wave) a b d = d.chip
does_faults (Put bytes) a b d = ap (λ v. v.faults) d.0.chip
does_faults (Print on bytes) a b d = d.0.chip

pub all_faults : (steps : List Step) (a b : World) → Goes steps Done a b
    → b.chip.faults ≡ a.chip.faults
all_faults [] a b e = ap (λ w. w.chip.faults) e
all_faults (step ∷ steps) a b (inl (mid, (d, g))) =
    all_faults steps mid b g ∙ does_faults step a mid d
all_faults (step ∷ steps) a b (inr f) = elim f [ ]

-- nor does it raise another count of faults
same_files : (a b : FolderView) → b ≡ a → Unfailed a b
same_files a b e = record {
  load_faults = λ name. ap (λ (f : FolderView). f.load_faults name) e;
  store_faults = ap (λ (f : FolderView). f.store_faults) e;
}

does_files : (step : Step) (a b : World) → StepDone step a b → Unfailed a.files b.files
does_files (Load name limit text refusal) a b d = d.1.unfailed
does_files Take a b d = same_files _ _ (ap (λ (w : World). w.files) d)
does_files (Store name bytes) a b d = d.unfailed
does_files (Open on) a b d = same_files _ _ d.files
does_files (Use on) a b d = same_files _ _ d.files
does_files (UseFor wave) a b d = same_files _ _ d.files
does_files (Put bytes) a b d = same_files _ _ d.0.files
does_files (Print on bytes) a b d = same_files _ _ d.0.files

does_sink : (step : Step) (a b : World) → StepDone step a b → b.sink.faults ≡ a.sink.faults
does_sink (Load name limit text refusal) a b d = ap (λ s. s.faults) d.1.reads.sink
does_sink Take a b d = ap (λ (w : World). w.sink.faults) d
does_sink (Store name bytes) a b d = ap (λ s. s.faults) d.sink
does_sink (Open on) a b d = ap (λ s. s.faults) d.sink
does_sink (Use on) a b d = ap (λ s. s.faults) d.sink
does_sink (UseFor wave) a b d = ap (λ s. s.faults) d.sink
does_sink (Put bytes) a b d = d.1
does_sink (Print on bytes) a b d = d.1

pub none_rose : (steps : List Step) (a b : World) → Goes steps Done a b → NoneRose a b
none_rose [] a b e = subst (NoneRose a) (sym e)
    (record { files = same_files a.files a.files refl; sink = refl; chip = refl })
none_rose (step ∷ steps) a b (inl (mid, (d, g))) =
    let one = does_files step a mid d in
    let more = none_rose steps mid b g in
    record {
      files = record {
        load_faults = λ name. more.files.load_faults name ∙ one.load_faults name;
        store_faults = more.files.store_faults ∙ one.store_faults;
      };
      sink = more.sink ∙ does_sink step a mid d;
      chip = more.chip ∙ does_faults step a mid d;
    }
none_rose (step ∷ steps) a b (inr f) = elim f [ ]

-- what it leaves in the banks
does_left : (step : Step) (a b : World) → StepDone step a b
    → b.chip.banks ≡ left_by step a.chip.banks
does_left (Load name limit text refusal) a b d = ap (λ v. v.banks) d.1.reads.chip
does_left Take a b d = ap (λ (w : World). w.chip.banks) d
does_left (Store name bytes) a b d = ap (λ v. v.banks) d.chip
does_left (Open on) a b d = d.left
does_left (Use on) a b d = d.left
does_left (UseFor wave) a b d = d.left
does_left (Put bytes) a b d = ap (λ v. v.banks) d.0.chip
does_left (Print on bytes) a b d = d.0.left

pub goes_left : (steps : List Step) (a b : World) → Goes steps Done a b
    → b.chip.banks ≡ all_left steps a.chip.banks
goes_left [] a b e = ap (λ (w : World). w.chip.banks) e
goes_left (step ∷ steps) a b (inl (mid, (d, g))) =
    goes_left steps mid b g ∙ ap (all_left steps) (does_left step a mid d)
goes_left (step ∷ steps) a b (inr f) = elim f [ ]

-- a step that is not on the chip leaves it
does_chip : (step : Step) (a b : World) → is_on_chip step ≡ false → StepDone step a b
    → b.chip ≡ a.chip
does_chip (Load name limit text refusal) a b off d = d.1.reads.chip
does_chip Take a b off d = ap (λ (w : World). w.chip) d
does_chip (Store name bytes) a b off d = d.chip
does_chip (Open on) a b off d = absurd (cc)
does_chip (Use on) a b off d = absurd (cc)
does_chip (UseFor wave) a b off d = absurd (cc)
does_chip (Put bytes) a b off d = d.0.chip
does_chip (Print on bytes) a b off d = absurd (cc)

load_chip : (name : List ℕ) (limit : ℕ) (text : List ℕ) (refusal : _) (reason : Reason)
    (a b : World) → Fails (Load name limit text refusal) reason a b → b.chip ≡ a.chip
load_chip name limit text refusal (CannotRead said) a b f = f.1.chip
load_chip name limit text refusal (TooLong said) a b f = f.1.chip
load_chip name limit text refusal (Refused r) a b f = f.1.reads.chip
load_chip name limit text refusal NoMemory a b f = f.chip
load_chip name limit text refusal (CannotWrite said) a b f = elim f [ ]
load_chip name limit text refusal PutFailed a b f = elim f [ ]
load_chip name limit text refusal ChipFailed a b f = elim f [ ]

fails_chip : (step : Step) (reason : Reason) (a b : World) → is_on_chip step ≡ false
    → Fails step reason a b → b.chip ≡ a.chip
fails_chip (Load name limit text refusal) reason a b off f =
    load_chip name limit text refusal reason a b f
fails_chip Take reason a b off f = f.1.chip
fails_chip (Store name bytes) reason a b off f = f.1.chip
fails_chip (Open on) reason a b off f = absurd (cc)
fails_chip (Use on) reason a b off f = absurd (cc)
fails_chip (UseFor wave) reason a b off f = absurd (cc)
fails_chip (Put bytes) reason a b off f = f.1.chip
fails_chip (Print on bytes) reason a b off f = absurd (cc)

-- and so does one that failed for another reason than the chip
fails_faults : (step : Step) (reason : Reason) (a b : World) → may_fault step reason ≡ false
    → Fails step reason a b → b.chip.faults ≡ a.chip.faults
fails_faults (Load name limit text refusal) reason a b none f =
    ap (λ v. v.faults) (load_chip name limit text refusal reason a b f)
fails_faults Take reason a b none f = ap (λ v. v.faults) f.1.chip
fails_faults (Store name bytes) reason a b none f = ap (λ v. v.faults) f.1.chip
fails_faults (Open on) reason a b none (inl f) = absurd (cc (none, f.0))
fails_faults (Open on) reason a b none (inr f) = absurd (cc (none, f.0))
fails_faults (Use on) reason a b none f = absurd (cc (none, f.0))
fails_faults (UseFor wave) reason a b none f = absurd (cc (none, f.0))
fails_faults (Put bytes) reason a b none f = ap (λ v. v.faults) f.1.chip
fails_faults (Print on bytes) reason a b none (inl f) = f.1.chip
fails_faults (Print on bytes) reason a b none (inr f) = absurd (cc (none, f.0))

fails_left : (step : Step) (reason : Reason) (a b : World) → may_fault step reason ≡ false
    → Fails step reason a b → b.chip.banks ≡ left_by step a.chip.banks
fails_left (Load name limit text refusal) reason a b none f =
    ap (λ v. v.banks) (load_chip name limit text refusal reason a b f)
fails_left Take reason a b none f = ap (λ v. v.banks) f.1.chip
fails_left (Store name bytes) reason a b none f = ap (λ v. v.banks) f.1.chip
fails_left (Open on) reason a b none (inl f) = absurd (cc (none, f.0))
fails_left (Open on) reason a b none (inr f) = absurd (cc (none, f.0))
fails_left (Use on) reason a b none f = absurd (cc (none, f.0))
fails_left (UseFor wave) reason a b none f = absurd (cc (none, f.0))
fails_left (Put bytes) reason a b none f = ap (λ v. v.banks) f.1.chip
fails_left (Print on bytes) reason a b none (inl f) = f.1.left
fails_left (Print on bytes) reason a b none (inr f) = absurd (cc (none, f.0))

-- the first step is off the chip, and so are the others
first_off : (step : Step) (steps : List Step) → list_any is_on_chip (step ∷ steps) ≡ false
    → (is_on_chip step ≡ false) × (list_any is_on_chip steps ≡ false)
first_off (Load name limit text refusal) steps off = (refl, off)
first_off Take steps off = (refl, off)
first_off (Store name bytes) steps off = (refl, off)
first_off (Open on) steps off = absurd (cc)
first_off (Use on) steps off = absurd (cc)
first_off (UseFor wave) steps off = absurd (cc)
first_off (Put bytes) steps off = (refl, off)
first_off (Print on bytes) steps off = absurd (cc)

pub all_off : (steps : List Step) (a b : World) → Goes steps Done a b
    → list_any is_on_chip steps ≡ false → b.chip ≡ a.chip
all_off [] a b e off = ap (λ w. w.chip) e
all_off (step ∷ steps) a b (inl (mid, (d, g))) off =
    let parts = first_off step steps off in
    all_off steps mid b g parts.1 ∙ does_chip step a mid parts.0 d
all_off (step ∷ steps) a b (inr f) off = elim f [ ]

-- the steps before one were done, and that one failed
pub record StoppedAt (steps : List Step) (reason : Reason) (old new : World) : Type 0 where
  pub front : List Step
  pub at : Step
  pub rest : List Step
  pub parts : front ++ at ∷ rest ≡ steps
  pub failing : World
  pub goes : Goes front Done old failing
  pub stands : Stands front old failing
  pub fails : Fails at reason failing new
  pub counts : CountsOn old new
  pub faults : may_fault at reason ≡ false → new.chip.faults ≡ old.chip.faults
  pub left : may_fault at reason ≡ false
      → new.chip.banks ≡ all_left (front ++ at ∷ []) old.chip.banks
  pub off : list_any is_on_chip (front ++ at ∷ []) ≡ false → new.chip ≡ old.chip

pub stopped_at : (steps : List Step) (reason : Reason) (a b : World)
    → Goes steps (Stopped reason) a b → StoppedAt steps reason a b
stopped_at [] reason a b g = elim g [ ]
stopped_at (step ∷ steps) reason a b (inl (mid, (d, g))) =
    let s = stopped_at steps reason mid b g in
    record {
      front = step ∷ s.front;
      at = s.at;
      rest = s.rest;
      parts = ap (λ xs. step ∷ xs) s.parts;
      failing = s.failing;
      goes = inl (mid, (d, s.goes));
      stands = more_stand step s.front a mid s.failing d s.stands;
      fails = s.fails;
      counts = more_counts a mid b (does_count step a mid d) s.counts;
      faults = λ none. s.faults none ∙ does_faults step a mid d;
      left = λ none. s.left none ∙ ap (all_left (s.front ++ s.at ∷ [])) (does_left step a mid d);
      off = λ o. let parts = first_off step (s.front ++ s.at ∷ []) o in
          s.off parts.1 ∙ does_chip step a mid parts.0 d;
    }
stopped_at (step ∷ steps) reason a b (inr f) = record {
  front = [];
  at = step;
  rest = steps;
  parts = refl;
  failing = a;
  goes = refl;
  stands = none_stand a a refl;
  fails = f;
  counts = fails_count step reason a b f;
  faults = λ none. fails_faults step reason a b none f;
  left = λ none. fails_left step reason a b none f;
  off = λ o. fails_chip step reason a b (first_off step [] o).0 f;
}
