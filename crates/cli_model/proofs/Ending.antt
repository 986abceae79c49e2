-- How a command that went through its steps ends.
use Rattle.cli_model.proofs.Common.{◌≡◌, ℕ, ◌≤◌, List, [], ◌∷◌, ◌++◌, Option, Some, None, refl, sym}
use Rattle.cli_model.proofs.Common.{◌∙◌, ap, subst, inl, inr, arith, append_assoc, append-nil}
use Rattle.cli_model.proofs.Common.{IfSome, Files, Known, AppendsPart, Rose, RoseBy, ChipView}
use Rattle.std.proofs.Common.{◌+◌}
use Rattle.host_edge.specs.Views.{IsPrefix}
use Rattle.cli_model.specs.World.{World}
use Rattle.cli_model.specs.Waves.{IsLeftBy, StoppedIn}
use Rattle.cli_model.specs.Steps.{IsLeftUnopened, Step, Load, Take, Store, Open, Use, UseFor, Put}
use Rattle.cli_model.specs.Steps.{Print, Reason, CannotRead, TooLong, Refused, NoMemory}
use Rattle.cli_model.specs.Steps.{CannotWrite, PutFailed, ChipFailed, End, Done, Stopped, Goes}
use Rattle.cli_model.specs.Steps.{Fails, Unopened}
use Rattle.dram_model.specs.View.{NotBegun}
use Rattle.cli_model.specs.Stands.{files_after, sent_by, CountsOn, NoneRose}
use Rattle.cli_model.specs.Status.{reason_status, reason_line, Says, Tells, end_status}
use Rattle.cli_model.specs.Ends.{Stop, All, At, Causes, LastOfPrint, IsLast, AppendsAfter, Sends}
use Rattle.cli_model.specs.Ends.{IsStoreOf, LeavesFiles, IsFault, IsForetold, Ends}
use Rattle.cli_model.specs.Laws.{FirstDecides}
use Rattle.cli_model.proofs.Causing.{Decided, files_decide}
use Rattle.cli_model.proofs.Going.{within, more_counts, known_sent, all_stand, Stands, all_faults}
use Rattle.cli_model.proofs.Going.{all_off, stopped_at, goes_left, none_rose}

-- why a step fails

load_causes : (name : List ℕ) (limit : ℕ) (text : List ℕ) (refusal : _) (reason : Reason)
    (a b : World) → Fails (Load name limit text refusal) reason a b
    → Causes (Load name limit text refusal) reason a b
load_causes name limit text refusal (CannotRead said) a b f = (f.0, f.2)
load_causes name limit text refusal (TooLong said) a b f = (f.0, f.2)
load_causes name limit text refusal (Refused r) a b f = f.0
load_causes name limit text refusal NoMemory a b f = tt
load_causes name limit text refusal (CannotWrite said) a b f = f
load_causes name limit text refusal PutFailed a b f = f
load_causes name limit text refusal ChipFailed a b f = f

fails_causes : (step : Step) (reason : Reason) (a b : World) → Fails step reason a b
    → Causes step reason a b
fails_causes (Load name limit text refusal) reason a b f =
    load_causes name limit text refusal reason a b f
fails_causes Take reason a b f = f.0
fails_causes (Store name bytes) reason a b f = (f.0, f.1.rose)
fails_causes (Open on) reason a b (inl f) = inl f.0
fails_causes (Open on) reason a b (inr f) = inr (f.0, f.2, f.3)
fails_causes (Use on) reason a b f = (f.0, f.2, f.3)
fails_causes (UseFor wave) reason a b f = (f.0, f.2, f.3)
fails_causes (Put bytes) reason a b f = (f.0, f.2)
fails_causes (Print on bytes) reason a b (inl f) = inl (f.0, f.2)
fails_causes (Print on bytes) reason a b (inr f) = inr (f.0, f.2, f.3)

-- a count that rose between two moments rose between moments around them
around : (a b c d n : ℕ) → a ≤ b → RoseBy n b c → c ≤ d → RoseBy n a d
around a b c d n l r m = omega (arith, r)

load_causes_around : (name : List ℕ) (limit : ℕ) (text : List ℕ) (refusal : _) (reason : Reason)
    (a b c d : World) → CountsOn a b → CountsOn c d
    → Causes (Load name limit text refusal) reason b c
    → Causes (Load name limit text refusal) reason a d
load_causes_around name limit text refusal (CannotRead said) a b c d p q f =
    (f.0, around _ _ _ _ 1 (p.files.load_faults name) f.1 (q.files.load_faults name))
load_causes_around name limit text refusal (TooLong said) a b c d p q f =
    (f.0, around _ _ _ _ (limit + 1) p.files.taken f.1 q.files.taken)
load_causes_around name limit text refusal (Refused r) a b c d p q f = f
load_causes_around name limit text refusal NoMemory a b c d p q f = tt
load_causes_around name limit text refusal (CannotWrite said) a b c d p q f = f
load_causes_around name limit text refusal PutFailed a b c d p q f = f
load_causes_around name limit text refusal ChipFailed a b c d p q f = f

causes_around : (step : Step) (reason : Reason) (a b c d : World) → CountsOn a b → CountsOn c d
    → d.chip ≡ c.chip → Causes step reason b c → Causes step reason a d
causes_around (Load name limit text refusal) reason a b c d p q e f =
    load_causes_around name limit text refusal reason a b c d p q f
causes_around Take reason a b c d p q e f = f
causes_around (Store name bytes) reason a b c d p q e f =
    (f.0, around _ _ _ _ 1 p.files.store_faults f.1 q.files.store_faults)
causes_around (Open on) reason a b c d p q e (inl f) = inl f
causes_around (Open on) reason a b c d p q e (inr f) = inr (
  f.0,
  around _ _ _ _ 1 p.chip f.1 q.chip,
  subst (IsLeftUnopened on) (sym e) f.2,
)
causes_around (Use on) reason a b c d p q e f = (
  f.0,
  around _ _ _ _ 1 p.chip f.1 q.chip,
  subst (λ (v : ChipView). IsLeftBy on v.banks) (sym e) f.2,
)
causes_around (UseFor wave) reason a b c d p q e f = (
  f.0,
  around _ _ _ _ 1 p.chip f.1 q.chip,
  subst (λ (v : ChipView). StoppedIn wave v.banks) (sym e) f.2,
)
causes_around (Put bytes) reason a b c d p q e f = (f.0, around _ _ _ _ 1 p.sink f.1 q.sink)
causes_around (Print on bytes) reason a b c d p q e (inl f) =
    inl (f.0, around _ _ _ _ 1 p.sink f.1 q.sink)
causes_around (Print on bytes) reason a b c d p q e (inr f) = inr (
  f.0,
  around _ _ _ _ 1 p.chip f.1 q.chip,
  subst (λ (v : ChipView). IsLeftBy on v.banks) (sym e) f.2,
)

-- what was sent

no_more_than : (a b c : ℕ) → a ≤ b → b ≤ c → a ≤ c
no_more_than a b c p q = omega (arith, p, q)

known_part : (certain last : List ℕ) (a b c : Option (List ℕ))
    → Known (λ x y. y ≡ x ++ certain) a b → Known (AppendsPart last) b c
    → Known (AppendsAfter certain last) a c
known_part certain last None b c p q = tt
known_part certain last (Some x) None c p q = absurd p
known_part certain last (Some x) (Some y) None p q = absurd q
known_part certain last (Some x) (Some y) (Some z) p (part, (is, e)) =
    (part, (is, e ∙ ap (λ w. w ++ part) p ∙ append_assoc x certain part))

-- a line after what was sent
line_sent : (certain line : List ℕ) (a b c d : World)
    → Known (λ x y. y ≡ x ++ certain) a.sink.sent b.sink.sent → a.sink.faults ≤ b.sink.faults
    → c.sink ≡ b.sink → Says line c d → Sends certain line a d
line_sent certain line a b c d t l e s =
    let before : Known (λ x y. y ≡ x ++ certain) a.sink.sent c.sink.sent =
    subst (λ (k : _). Known (λ x y. y ≡ x ++ certain) a.sink.sent k.sent) (sym e) t in
    let below : a.sink.faults ≤ c.sink.faults =
    subst (λ (k : _). a.sink.faults ≤ k.faults) (sym e) l in
    elim s.sent as (λ _. Sends certain line a d) [
      | inl whole ↦ inl (known_sent certain line _ _ _ before whole)
      | inr part ↦ inr (within _ _ _ 1 below part.0, known_part certain line _ _ _ before part.1)
    ]

no_part : (part rest : List ℕ) → part ++ rest ≡ [] → part ≡ []
no_part [] rest e = refl
no_part (x ∷ part) rest e = absurd (cc)

nothing_more : (x y : List ℕ) → AppendsPart [] x y → y ≡ x
nothing_more x y (part, ((rest, p), e)) =
    e ∙ ap (λ w. x ++ w) (no_part part rest p) ∙ append-nil x

known_nothing : (a b : Option (List ℕ)) → Known (AppendsPart []) a b → Known (λ x y. y ≡ x) a b
known_nothing None b t = tt
known_nothing (Some x) None t = absurd t
known_nothing (Some x) (Some y) t = nothing_more x y t

known_empty : (a b : Option (List ℕ)) → Known (λ x y. y ≡ x ++ []) a b → Known (λ x y. y ≡ x) a b
known_empty None b t = tt
known_empty (Some x) None t = absurd t
known_empty (Some x) (Some y) t = t ∙ append-nil x

says_nothing : (a b : World) → Says [] a b → Known (λ x y. y ≡ x) a.sink.sent b.sink.sent
says_nothing a b s = elim s.sent as (λ _. Known (λ x y. y ≡ x) a.sink.sent b.sink.sent) [
  | inl whole ↦ known_empty _ _ whole
  | inr part ↦ known_nothing _ _ part.1
]

known_then_same : (bytes : List ℕ) (a b c : Option (List ℕ)) → Known (AppendsPart bytes) a b
    → Known (λ x y. y ≡ x) b c → Known (AppendsPart bytes) a c
known_then_same bytes None b c p q = tt
known_then_same bytes (Some x) None c p q = absurd p
known_then_same bytes (Some x) (Some y) None p q = absurd q
known_then_same bytes (Some x) (Some y) (Some z) p q = subst (AppendsPart bytes x) (sym q) p

load_sink : (name : List ℕ) (limit : ℕ) (text : List ℕ) (refusal : _) (reason : Reason)
    (a b : World) → Fails (Load name limit text refusal) reason a b → b.sink ≡ a.sink
load_sink name limit text refusal (CannotRead said) a b f = f.1.sink
load_sink name limit text refusal (TooLong said) a b f = f.1.sink
load_sink name limit text refusal (Refused r) a b f = f.1.reads.sink
load_sink name limit text refusal NoMemory a b f = f.sink
load_sink name limit text refusal (CannotWrite said) a b f = elim f [ ]
load_sink name limit text refusal PutFailed a b f = elim f [ ]
load_sink name limit text refusal ChipFailed a b f = elim f [ ]

put_sent : (certain bytes : List ℕ) (reason : Reason) (a b c d : World)
    → Known (λ x y. y ≡ x ++ certain) a.sink.sent b.sink.sent → a.sink.faults ≤ b.sink.faults
    → Rose b.sink.faults c.sink.faults → Known (AppendsPart bytes) b.sink.sent c.sink.sent
    → reason ≡ PutFailed → Says (reason_line reason) c d → Sends certain bytes a d
put_sent certain bytes reason a b c d t l rose part is s =
    let says : Says [] c d = subst (λ (r : Reason). Says (reason_line r) c d) is s in
    inr (
      around _ _ _ _ 1 l rose says.faults,
      known_part certain bytes _ _ _ t
          (known_then_same bytes _ _ _ part (says_nothing c d says)),
    )

-- a line after a part of another
part_sent : (certain bytes : List ℕ) (a b c : Option (List ℕ))
    → Known (λ x y. y ≡ x ++ certain) a b → Known (AppendsPart bytes) b c
    → (part : List ℕ) × IsPrefix part bytes × Known (λ x y. y ≡ x ++ (certain ++ part)) a c
part_sent certain bytes None b c p q = ([], (bytes, refl), tt)
part_sent certain bytes (Some x) None c p q = absurd p
part_sent certain bytes (Some x) (Some y) None p q = absurd q
part_sent certain bytes (Some x) (Some y) (Some z) p (part, (is, e)) =
    (part, is, e ∙ ap (λ w. w ++ part) p ∙ append_assoc x certain part)

longer_part : (certain part line : List ℕ) (x y : List ℕ) → AppendsAfter (certain ++ part) line x y
    → AppendsAfter certain (part ++ line) x y
longer_part certain part line x y (more, ((rest, is), e)) = (
  part ++ more,
  (
    (rest, append_assoc part more rest ∙ ap (λ w. part ++ w) is),
    e ∙ ap (λ w. x ++ w) (append_assoc certain part more),
  ),
)

known_longer : (certain part line : List ℕ) (a b : Option (List ℕ))
    → Known (AppendsAfter (certain ++ part) line) a b
    → Known (AppendsAfter certain (part ++ line)) a b
known_longer certain part line None b t = tt
known_longer certain part line (Some x) None t = absurd t
known_longer certain part line (Some x) (Some y) t = longer_part certain part line x y t

known_joined : (certain part line : List ℕ) (a b : Option (List ℕ))
    → Known (λ x y. y ≡ x ++ ((certain ++ part) ++ line)) a b
    → Known (λ x y. y ≡ x ++ (certain ++ (part ++ line))) a b
known_joined certain part line None b t = tt
known_joined certain part line (Some x) None t = absurd t
known_joined certain part line (Some x) (Some y) t =
    t ∙ ap (λ w. x ++ w) (append_assoc certain part line)

print_sent : (certain bytes line : List ℕ) (a b c d : World)
    → Known (λ x y. y ≡ x ++ certain) a.sink.sent b.sink.sent → a.sink.faults ≤ c.sink.faults
    → Known (AppendsPart bytes) b.sink.sent c.sink.sent → Says line c d
    → (part : List ℕ) × IsPrefix part bytes × Sends certain (part ++ line) a d
print_sent certain bytes line a b c d t l p s =
    let cut = part_sent certain bytes _ _ _ t p in (
      cut.0,
      cut.1,
      elim (line_sent (certain ++ cut.0) line a c c d cut.2 l refl s)
          as (λ _. Sends certain (cut.0 ++ line) a d) [
            | inl whole ↦ inl (known_joined certain cut.0 line _ _ whole)
            | inr (rose, said) ↦ inr (rose, known_longer certain cut.0 line _ _ said)
          ],
    )

stop_sent : (certain : List ℕ) (step : Step) (reason : Reason) (a b c d : World)
    → Known (λ x y. y ≡ x ++ certain) a.sink.sent b.sink.sent → a.sink.faults ≤ b.sink.faults
    → Fails step reason b c → Says (reason_line reason) c d
    → (last : List ℕ) × IsLast step reason last × Sends certain last a d
stop_sent certain (Load name limit text refusal) reason a b c d t l f s = (
  reason_line reason,
  refl,
  line_sent certain (reason_line reason) a b c d t l
      (load_sink name limit text refusal reason b c f) s,
)
stop_sent certain Take reason a b c d t l f s =
    (reason_line reason, refl, line_sent certain (reason_line reason) a b c d t l f.1.sink s)
stop_sent certain (Store name bytes) reason a b c d t l f s =
    (reason_line reason, refl, line_sent certain (reason_line reason) a b c d t l f.1.sink s)
stop_sent certain (Open on) reason a b c d t l (inl f) s =
    (reason_line reason, refl, line_sent certain (reason_line reason) a b c d t l f.1.sink s)
stop_sent certain (Open on) reason a b c d t l (inr f) s =
    (reason_line reason, refl, line_sent certain (reason_line reason) a b c d t l f.1.sink s)
stop_sent certain (Use on) reason a b c d t l f s =
    (reason_line reason, refl, line_sent certain (reason_line reason) a b c d t l f.1.sink s)
stop_sent certain (UseFor wave) reason a b c d t l f s =
    (reason_line reason, refl, line_sent certain (reason_line reason) a b c d t l f.1.sink s)
stop_sent certain (Put bytes) reason a b c d t l f s =
    (bytes, refl, put_sent certain bytes reason a b c d t l f.2 f.1.sent f.0 s)
stop_sent certain (Print on bytes) reason a b c d t l (inl f) s = (
  bytes,
  subst (λ (r : Reason). LastOfPrint bytes r bytes) (sym f.0) refl,
  put_sent certain bytes reason a b c d t l f.2 f.1.sent f.0 s,
)
stop_sent certain (Print on bytes) reason a b c d t l (inr f) s =
    let says : Says (reason_line ChipFailed) c d =
    subst (λ (r : Reason). Says (reason_line r) c d) f.0 s in
    let said = print_sent certain bytes (reason_line ChipFailed) a b c d t
    (no_more_than _ _ _ l f.1.faults) f.1.sent says in (
      said.0 ++ reason_line ChipFailed,
      subst (λ (r : Reason). LastOfPrint bytes r (said.0 ++ reason_line ChipFailed)) (sym f.0)
          (said.0, said.1, refl),
      said.2,
    )

-- which files stand

abbrev KeepsBut : Step → Files → Files → Type 0
KeepsBut step old new = (name : List ℕ) → (IsStoreOf name step → ⊥) → new name ≡ old name

known_kept : (step : Step) (a b : Option Files) → b ≡ a → Known (KeepsBut step) a b
known_kept step None b e = tt
known_kept step (Some x) b e =
    subst (λ (o : Option Files). Known (KeepsBut step) (Some x) o) (sym e) (λ name not. refl)

load_files : (name : List ℕ) (limit : ℕ) (text : List ℕ) (refusal : _) (reason : Reason)
    (a b : World) → Fails (Load name limit text refusal) reason a b
    → b.files.holds ≡ a.files.holds
load_files name limit text refusal (CannotRead said) a b f = f.1.files
load_files name limit text refusal (TooLong said) a b f = f.1.files
load_files name limit text refusal (Refused r) a b f = f.1.reads.files
load_files name limit text refusal NoMemory a b f = f.files
load_files name limit text refusal (CannotWrite said) a b f = elim f [ ]
load_files name limit text refusal PutFailed a b f = elim f [ ]
load_files name limit text refusal ChipFailed a b f = elim f [ ]

fails_files : (step : Step) (reason : Reason) (a b : World) → Fails step reason a b
    → Known (KeepsBut step) a.files.holds b.files.holds
fails_files (Load name limit text refusal) reason a b f =
    known_kept (Load name limit text refusal) _ _ (load_files name limit text refusal reason a b f)
fails_files Take reason a b f = known_kept Take _ _ f.1.files
fails_files (Store name bytes) reason a b f = f.1.others
fails_files (Open on) reason a b (inl f) = known_kept (Open on) _ _ (ap (λ k. k.holds) f.1.files)
fails_files (Open on) reason a b (inr f) = known_kept (Open on) _ _ (ap (λ k. k.holds) f.1.files)
fails_files (Use on) reason a b f = known_kept (Use on) _ _ (ap (λ k. k.holds) f.1.files)
fails_files (UseFor wave) reason a b f =
    known_kept (UseFor wave) _ _ (ap (λ k. k.holds) f.1.files)
fails_files (Put bytes) reason a b f = known_kept (Put bytes) _ _ (ap (λ k. k.holds) f.1.files)
fails_files (Print on bytes) reason a b (inl f) =
    known_kept (Print on bytes) _ _ (ap (λ k. k.holds) f.1.files)
fails_files (Print on bytes) reason a b (inr f) =
    known_kept (Print on bytes) _ _ (ap (λ k. k.holds) f.1.files)

known_left : (stop : Stop) (a b c d : Option Files)
    → Known (λ x y. y ≡ files_after stop.before x) a b → Known (KeepsBut stop.failed) b c → d ≡ c
    → Known (LeavesFiles stop) a d
known_left stop None b c d p q e = tt
known_left stop (Some x) None c d p q e = absurd p
known_left stop (Some x) (Some y) None d p q e = absurd q
known_left stop (Some x) (Some y) (Some z) d p q e =
    subst (λ (o : Option Files). Known (LeavesFiles stop) (Some x) o) (sym e)
    (λ name not. q name not ∙ ap (λ (f : Files). f name) p)

-- what the files foretell

if_known : (o : Option Files) (P : Files → Type 0) → ((files : Files) → o ≡ Some files → P files)
    → IfSome o P
if_known None P h = tt
if_known (Some files) P h = h files refl

done_foretold : (steps : List Step) (files : Files) → Decided steps Done files
    → IsForetold steps All files
done_foretold steps files (inl e) = sym e
done_foretold steps files (inr (reason, e, is)) = absurd (cc)

stop_foretold : (steps : List Step) (stop : Stop) (files : Files)
    → Decided stop.before Done files → Decided steps (Stopped stop.reason) files
    → IsForetold steps (At stop) files
stop_foretold steps stop files before (inl e) =
    (done_foretold stop.before files before, inl (sym e))
stop_foretold steps stop files before (inr (reason, e, is)) =
    let same : stop.reason ≡ reason = cc in
    (done_foretold stop.before files before, inr (subst IsFault (sym same) is))

says_counts : (line : List ℕ) (a b : World) → Says line a b → CountsOn a b
says_counts line a b s = record {
  files = record {
    load_faults = λ name. rw (ap (λ f. f.load_faults name) s.files) (omega arith);
    store_faults = rw (ap (λ f. f.store_faults) s.files) (omega arith);
    taken = rw (ap (λ f. f.taken) s.files) (omega arith);
  };
  sink = s.faults;
  chip = rw (ap (λ v. v.faults) s.chip) (omega arith);
}

same_world : (steps : List Step) (a b c : World) → c ≡ b → Stands steps a b → Stands steps a c
same_world steps a b c e s = subst (Stands steps a) (sym e) s

-- a command out of memory leaves a chip that was not opened

load_unopened : (name : List ℕ) (limit : ℕ) (text : List ℕ) (refusal : _) (reason : Reason)
    (a b : World) → Fails (Load name limit text refusal) reason a b → b.chip ≡ a.chip
load_unopened name limit text refusal (CannotRead said) a b f = f.1.chip
load_unopened name limit text refusal (TooLong said) a b f = f.1.chip
load_unopened name limit text refusal (Refused r) a b f = f.1.reads.chip
load_unopened name limit text refusal NoMemory a b f = f.chip
load_unopened name limit text refusal (CannotWrite said) a b f = elim f [ ]
load_unopened name limit text refusal PutFailed a b f = elim f [ ]
load_unopened name limit text refusal ChipFailed a b f = elim f [ ]

fails_unopened : (step : Step) (reason : Reason) (a b : World) → Fails step reason a b
    → reason ≡ NoMemory → Unopened a.chip b.chip
fails_unopened (Load name limit text refusal) reason a b f e =
    inl (load_unopened name limit text refusal reason a b f)
fails_unopened Take reason a b f e = inl f.1.chip
fails_unopened (Store name bytes) reason a b f e = inl f.1.chip
fails_unopened (Open on) reason a b (inl f) e = f.2
fails_unopened (Open on) reason a b (inr f) e = let no : ChipFailed ≡ NoMemory = sym f.0 ∙ e in
    absurd (cc)
fails_unopened (Use on) reason a b f e = let no : ChipFailed ≡ NoMemory = sym f.0 ∙ e in absurd (cc)
fails_unopened (UseFor wave) reason a b f e =
    let no : ChipFailed ≡ NoMemory = sym f.0 ∙ e in absurd (cc)
fails_unopened (Put bytes) reason a b f e = inl f.1.chip
fails_unopened (Print on bytes) reason a b (inl f) e =
    let no : PutFailed ≡ NoMemory = sym f.0 ∙ e in absurd (cc)
fails_unopened (Print on bytes) reason a b (inr f) e =
    let no : ChipFailed ≡ NoMemory = sym f.0 ∙ e in absurd (cc)

unopened_around : (a b c d : ChipView) → b ≡ a → Unopened b c → d ≡ c → Unopened a d
unopened_around a b c d p (inl e) q = inl (q ∙ e ∙ p)
unopened_around a b c d p (inr n) q = inr (subst NotBegun (sym q) n)

-- the end of a command that was done, and of one that stopped
pub all_ends : (steps : List Step) (done : ℕ) (a b c : World) (status : ℕ) → Goes steps Done a b
    → c ≡ b → status ≡ done → (e : Ends steps done a c status) × (e.ended ≡ All)
all_ends steps done a b c status g e answers =
    let stands = same_world steps a b c e (all_stand steps a b g) in
    let ends : Ends steps done a c status = record {
      ended = All;
      so = record {
        answers = answers;
        sent = stands.sent;
        files = stands.files;
        unfailed = subst (NoneRose a) (sym e) (none_rose steps a b g);
      };
      foretold = if_known a.files.holds (IsForetold steps All)
          (λ files there. done_foretold steps files (files_decide steps Done a b files g there));
      counts = stands.counts;
      faults = λ none. ap (λ w. w.chip.faults) e ∙ all_faults steps a b g;
      banks = λ none. ap (λ w. w.chip.banks) e ∙ goes_left steps a b g;
      chip = λ off. ap (λ w. w.chip) e ∙ all_off steps a b g off;
      unopened = λ off w. elim w [ ];
    } in
    (ends, refl)

pub stop_ends : (steps : List Step) (done : ℕ) (reason : Reason) (a b c : World) (status : ℕ)
    → Goes steps (Stopped reason) a b → Says (reason_line reason) b c
    → status ≡ reason_status reason
    → (stop : Stop) × (e : Ends steps done a c status) × (e.ended ≡ At stop)
stop_ends steps done reason a b c status g says answers =
    let s = stopped_at steps reason a b g in
    let stop : Stop =
    record { before = s.front; failed = s.at; following = s.rest; reason = reason } in
    let ends : Ends steps done a c status = record {
      ended = At stop;
      so = record {
        place = s.parts;
        answers = answers;
        causes = causes_around s.at reason a s.failing b c s.stands.counts (says_counts _ b c says)
            says.chip (fails_causes s.at reason s.failing b s.fails);
        sent = stop_sent (sent_by s.front) s.at reason a s.failing b c s.stands.sent
            s.stands.counts.sink s.fails says;
        files = known_left stop _ _ _ _ s.stands.files
            (fails_files s.at reason s.failing b s.fails) (ap (λ f. f.holds) says.files);
      };
      foretold = if_known a.files.holds (IsForetold steps (At stop))
          (λ files there. stop_foretold steps stop files
          (files_decide s.front Done a s.failing files s.goes there)
          (files_decide steps (Stopped reason) a b files g there));
      counts = more_counts a b c s.counts (says_counts _ b c says);
      faults = λ none. ap (λ v. v.faults) says.chip ∙ s.faults none;
      banks = λ none. ap (λ v. v.banks) says.chip ∙ s.left none;
      chip = λ off. says.chip ∙ s.off off;
      unopened = λ off w. unopened_around a.chip s.failing.chip b.chip c.chip
          (all_off s.front a s.failing s.goes off)
          (fails_unopened s.at reason s.failing b s.fails w) says.chip;
    } in
    (stop, ends, refl)

ends_by : (steps : List Step) (done : ℕ) (end : End) (a b c : World) (status : ℕ)
    → Goes steps end a b → Tells end b c → status ≡ end_status done end
    → Ends steps done a c status
ends_by steps done Done a b c status g t answers = (all_ends steps done a b c status g t answers).0
ends_by steps done (Stopped reason) a b c status g t answers =
    (stop_ends steps done reason a b c status g t answers).1

pub first_decides : FirstDecides
first_decides steps done old new status ran =
    ends_by steps done ran.end old ran.stopped new status ran.goes ran.tells ran.answers
