-- How a soak goes through its steps.
use Rattle.soak_job.proofs.Common.{◌≡◌, ℕ, ◌≤◌, List, [], ◌∷◌, ◌++◌, length, refl, ap, ◌∙◌, subst}
use Rattle.soak_job.proofs.Common.{sym, inl, inr, arith, Result, Ok, Err, IfOk, FolderView, Known}
use Rattle.soak_job.proofs.Common.{AppendsPart, Counters, Banks, Event, after, ChipView, Kept}
use Rattle.soak_job.proofs.Common.{StoppedWithin, Did-none, Grew-more, after-append, Microprogram}
use Rattle.soak_job.proofs.Common.{World, world}
use Rattle.host_edge.specs.Views.{SinkView}
use Rattle.faults.specs.Counts.{Rose}
use Rattle.dram_model.specs.View.{Began}
use Rattle.dram_model.proofs.EventLaws.{LogIs-more}
use Rattle.cli_model.specs.Steps.{Goes, Sent, UseFailed, Used}
use Rattle.soak_job.specs.declared.cases.Case.{Case}
use Rattle.soak_job.specs.Cases.{soak_cases, source_kinds}
use Rattle.soak_job.specs.Words.{after_all}
use Rattle.soak_job.specs.Layout.{case_events, result_rows, soak_chip, source_rows}
use Rattle.soak_job.specs.Sums.{case_line, last_line}
use Rattle.soak_job.specs.OneCase.{CaseDone, IsFileOf, IsProgramOf, RisesLittle}
use Rattle.soak_job.proofs.Counting.{sum_cons}
use Rattle.soak_job.specs.declared.job.SoakError.{SoakError}
use Rattle.soak_job.specs.Steps.{cases_steps}
use Rattle.soak_job.specs.Done.{CaseWent, CasesDone, CasesGo, SoakGoes, SoakLeft, cases_events}
use Rattle.soak_job.specs.Done.{end_of}
use Rattle.soak_job.specs.declared.job.SoakError.TheVariants as no

chip_used : (banks : Banks) (files : FolderView) (s : SinkView) (a b : ChipView)
    → b.faults ≡ a.faults → b.banks ≡ banks → Used banks (world files s a) (world files s b)
chip_used banks files s a b e left = record { files = refl; sink = refl; chip = e; left = left }

-- the use of the chip failed
pub chip_broke : (files : FolderView) (s : SinkView) (a b : ChipView) → a.faults ≤ b.faults
    → UseFailed (world files s a) (world files s b)
chip_broke files s a b l = record { files = refl; sink = refl; chip = l }

pub bytes_sent : (R : List ℕ → List ℕ → Type 0) (files : FolderView) (s t : SinkView) (chip :
    ChipView)
    → Known R s.sent t.sent → s.faults ≤ t.faults
    → Sent R (world files s chip) (world files t chip)
bytes_sent R files s t chip known l = record { files = refl; sent = known; faults = l; chip = refl }

pub program_is : (c : Case) (bytes : List ℕ) → (f : IsFileOf c.op bytes) → IsProgramOf c f.program
program_is c bytes f = record { legal = f.legal.entries.0; does = f.does; exact = f.exact }

pub case_went : (state : ℕ) (c : Case) (m : Microprogram) (files : FolderView) (s t : SinkView)
    (a b : ChipView) → IsProgramOf c m
    → Known (λ before after. after ≡ before ++ case_line state c m) s.sent t.sent
    → t.faults ≡ s.faults → CaseDone state c m a b → RisesLittle a.counters b.counters
    → CaseWent state c (world files s a) (world files t b)
case_went state c m files s t a b is known k done few = record {
  program = m;
  is = is;
  does = λ rest end last g. inl (
    world files s a,
    (
      refl,
      inl (
        world files s b,
        (
          chip_used _ files s a b done.faults done.banks,
          inl (
            world files t b,
            (
              (bytes_sent _ files s t b known (omega (arith, k)), k),
              g,
            ),
          ),
        ),
      ),
    ),
  );
  done = done;
  few = few;
}

-- the chip failed in a case
pub stops_at_use : (state : ℕ) (c : Case) (cs : List Case) (m : Microprogram) (files : FolderView)
    (s : SinkView) (a b : ChipView) → IsProgramOf c m → a.faults ≤ b.faults → Rose a.faults b.faults
    → StoppedWithin 2 (case_events state c m) a.banks b.banks
    → CasesGo state (c ∷ cs) (world files s a) (world files s b) (Err no.ChipFailed)
stops_at_use state c cs m files s a b is l rose left = record {
  programs = m ∷ [];
  are = (is, tt);
  goes = inl (
    world files s a,
    (
      refl,
      inr (
        refl,
        chip_broke files s a b l,
        rose,
        left,
      ),
    ),
  );
  done = tt;
}

-- the line of a case could not be put
pub stops_at_put : (state : ℕ) (c : Case) (cs : List Case) (m : Microprogram) (files : FolderView)
    (s t : SinkView) (a b : ChipView) → IsProgramOf c m → b.faults ≡ a.faults
    → b.banks ≡ after (case_events state c m) a.banks → Known (AppendsPart (case_line state c m)) s.sent t.sent → s.faults ≤ t.faults
    → Rose s.faults t.faults
    → CasesGo state (c ∷ cs) (world files s a) (world files t b) (Err no.PutFailed)
stops_at_put state c cs m files s t a b is e left known k rose = record {
  programs = m ∷ [];
  are = (is, tt);
  goes = inl (
    world files s a,
    (
      refl,
      inl (
        world files s b,
        (
          chip_used _ files s a b e left,
          inr (refl, bytes_sent (AppendsPart (case_line state c m)) files s t b known k, rose),
        ),
      ),
    ),
  );
  done = tt;
}

pub counters_same : (a b c d e f g h : ℕ) → a ≡ e → b ≡ f → c ≡ g → d ≡ h
    → ◌≡◌ {A = Counters} (record { aap = a; ap = b; writes = c; reads = d })
    (record { aap = e; ap = f; writes = g; reads = h })
counters_same a b c d e f g h p q r s = rw (p, q, r, s) refl

both_done : (state : ℕ) (c : Case) (cs : List Case) (m : Microprogram) (ms : List Microprogram)
    (a b d : ChipView) → CaseDone state c m a b
    → CasesDone (after_all state (source_kinds c.op)) cs ms b d
    → CasesDone state (c ∷ cs) (m ∷ ms) a d
both_done state c cs m ms a b d one more =
    let writes = sum_cons source_rows c cs in
    let reads = sum_cons result_rows c cs in
    let aap_is = ap (λ (k : Counters). k.aap) one.counters in
    let ap_is = ap (λ (k : Counters). k.ap) one.counters in
    let writes_are = ap (λ (k : Counters). k.writes) one.counters in
    let reads_are = ap (λ (k : Counters). k.reads) one.counters in
    let first = case_events state c m in
    let rest = cases_events (after_all state (source_kinds c.op)) cs ms in
    record {
      all = omega (arith, more.all);
      banks = more.banks ∙ ap (after rest) one.banks ∙ sym (after-append first rest a.banks);
      counters = more.counters
          ∙ counters_same _ _ _ _ _ _ _ _ (omega (arith, aap_is)) (omega (arith, ap_is))
          (omega (arith, writes_are, writes)) (omega (arith, reads_are, reads));
      log = Grew-more a.log b.log d.log first rest one.log more.log;
    }

done_more : (state : ℕ) (c : Case) (cs : List Case) (m : Microprogram) (ms : List Microprogram)
    (a b d : ChipView) (result : Result Unit SoakError) → CaseDone state c m a b
    → IfOk result (λ u. CasesDone (after_all state (source_kinds c.op)) cs ms b d)
    → IfOk result (λ u. CasesDone state (c ∷ cs) (m ∷ ms) a d)
done_more state c cs m ms a b d (Ok u) one more = both_done state c cs m ms a b d one more
done_more state c cs m ms a b d (Err why) one more = tt

-- a case, and the others after it
pub goes_on : (state : ℕ) (c : Case) (cs : List Case) (old mid last : World)
    (result : Result Unit SoakError) → CaseWent state c old mid
    → CasesGo (after_all state (source_kinds c.op)) cs mid last result
    → CasesGo state (c ∷ cs) old last result
goes_on state c cs old mid last result one more = record {
  programs = one.program ∷ more.programs;
  are = (one.is, more.are);
  goes = (
      let next = after_all state (source_kinds c.op) in
      let banks = after (case_events state c one.program) old.chip.banks in
      one.does (cases_steps next banks cs more.programs) (end_of result) last
      (subst (λ (b : Banks). Goes (cases_steps next b cs more.programs) (end_of result) mid last)
      one.done.banks more.goes));
  done = done_more state c cs one.program more.programs old.chip mid.chip last.chip result one.done
      more.done;
}

-- the last line
abbrev pub known_last : List ℕ
known_last = last_line (length soak_cases)

-- no case is left, and the last line was put
pub all_known : (state : ℕ) (files : FolderView) (s t : SinkView) (chip : ChipView)
    → Known (λ before after. after ≡ before ++ known_last) s.sent t.sent → t.faults ≡ s.faults
    → CasesGo state [] (world files s chip) (world files t chip) (Ok tt)
all_known state files s t chip known l = record {
  programs = [];
  are = tt;
  goes = inl (
    world files t chip,
    ((bytes_sent _ files s t chip known (omega (arith, l)), l), refl),
  );
  done = record {
    all = refl;
    banks = refl;
    counters = counters_same _ _ _ _ _ _ _ _ (omega arith) (omega arith) (omega arith) (omega
        arith);
    log = (Did-none chip).log;
  };
}

pub not_known : (state : ℕ) (files : FolderView) (s t : SinkView) (chip : ChipView)
    → Known (AppendsPart known_last) s.sent t.sent → s.faults ≤ t.faults → Rose s.faults t.faults
    → CasesGo state [] (world files s chip) (world files t chip) (Err no.PutFailed)
not_known state files s t chip known l rose = record {
  programs = [];
  are = tt;
  goes = inr (refl, bytes_sent (AppendsPart known_last) files s t chip known l, rose);
  done = tt;
}

left_of : (seed : ℕ) (ms : List Microprogram) (begun last : ChipView)
    (result : Result Unit SoakError) → Began soak_chip begun → Kept begun last
    → IfOk result (λ u. CasesDone seed soak_cases ms begun last)
    → IfOk result (λ u. SoakLeft seed ms last)
left_of seed ms begun last (Err why) began kept done = tt
left_of seed ms begun last (Ok u) began kept done =
    let aap_is = ap (λ (k : Counters). k.aap) began.counters in
    let ap_is = ap (λ (k : Counters). k.ap) began.counters in
    let writes_are = ap (λ (k : Counters). k.writes) began.counters in
    let reads_are = ap (λ (k : Counters). k.reads) began.counters in
    record {
      begun = kept.begun ∙ began.begun;
      geometry = kept.geometry ∙ began.geometry;
      all = done.all;
      banks = done.banks ∙ ap (after (cases_events seed soak_cases ms)) began.banks;
      counters = done.counters ∙ counters_same _ _ _ _ _ _ _ _ (omega (arith, aap_is))
          (omega (arith, ap_is)) (omega (arith, writes_are)) (omega (arith, reads_are));
      log = LogIs-more [] (cases_events seed soak_cases ms) begun.log last.log began.log done.log;
    }

-- the chip began, and the cases followed
pub soak_goes : (seed : ℕ) (files : FolderView) (s : SinkView) (a b : ChipView) (last : World)
    (result : Result Unit SoakError) → Began soak_chip b → b.faults ≡ a.faults
    → Kept b last.chip → CasesGo seed soak_cases (world files s b) last result
    → SoakGoes seed (world files s a) last result
soak_goes seed files s a b last result began e kept go = record {
  programs = go.programs;
  are = go.are;
  goes = inl (
    world files s b,
    (
      chip_used _ files s a b e began.banks,
      subst (λ (banks : Banks). Goes (cases_steps seed banks soak_cases go.programs)
          (end_of result) (world files s b) last) began.banks go.goes,
    ),
  );
  left = left_of seed go.programs b last.chip result began kept go.done;
}
