-- The commands of votes.
use Rattle.guard_model.proofs.Common.{◌≡◌, ℕ, zero, suc, ◌+◌, ◌*◌, [], ◌∷◌, refl, ◌∙◌, ap, arith}
use Rattle.guard_model.proofs.Common.{range_with_len, flat_map, fun_ext, Counters, Banks, segments}
use Rattle.guard_model.proofs.Common.{through}
use Rattle.dram_model.specs.Chip.{after, all_counted}
use Rattle.dram_model.specs.Events.{row_events}
use Rattle.dram_model.proofs.EventLaws.{after-append, all_counted-append}
use Rattle.machine_model.specs.Steps.{job_events}
use Rattle.wave_model.specs.Schedule.{WaveJob}
use Rattle.machine_model.proofs.Fills.{through_bank}
use Rattle.guard_model.specs.Votes.{votes, vote_job, vote_events, vote_count}
use Rattle.guard_model.specs.Laws.{VoteIsEvents, VoteIsCounted}

job_is_through : (job : WaveJob) (banks : Banks) → after (job_events job) banks ≡ through job banks
job_is_through job banks = fun_ext (through_bank job.commands job.banks banks)

-- a vote's commands leave the banks voted
pub vote_is_events : VoteIsEvents
vote_is_events g [] banks = refl
vote_is_events g (x ∷ []) banks = refl
vote_is_events g (x ∷ y ∷ []) banks = refl
vote_is_events g (x ∷ y ∷ z ∷ rest) banks =
    let job = vote_job g x.1 y.1 z.1 in
    after-append (job_events job) (vote_events g rest) banks ∙ ap (after (vote_events g rest))
    (job_is_through job banks) ∙ vote_is_events g rest (through job banks)

with_more : (k : Counters) (a b : ℕ) → a ≡ b → record k { aap = a } ≡ record k { aap = b }
with_more k a b e = rw e refl

votes_counted : (bank x y z a n : ℕ) (k : Counters) → all_counted
    (row_events bank (votes x y z a n)) k ≡ record k { aap = k.aap + 6 * n }
votes_counted bank x y z a zero k = with_more k k.aap (k.aap + 6 * 0) (omega arith)
votes_counted bank x y z a (suc n) k =
    votes_counted bank x y z (a + 1) n (record k { aap = k.aap + 1 + 1 + 1 + 1 + 1 + 1 })
    ∙ with_more k (k.aap + 1 + 1 + 1 + 1 + 1 + 1 + 6 * n) (k.aap + 6 * suc n) (omega arith)

banks_counted : (x y z w a n : ℕ) (k : Counters) → all_counted
    (flat_map (λ bank. row_events bank (votes x y z 0 w)) (range_with_len a n)) k
    ≡ record k { aap = k.aap + 6 * (w * n) }
banks_counted x y z w a zero k = with_more k k.aap (k.aap + 6 * (w * 0)) (omega arith)
banks_counted x y z w a (suc n) k =
    all_counted-append (row_events a (votes x y z 0 w))
    (flat_map (λ bank. row_events bank (votes x y z 0 w)) (range_with_len (a + 1) n)) k
    ∙ ap (all_counted (flat_map (λ bank. row_events bank (votes x y z 0 w))
    (range_with_len (a + 1) n))) (votes_counted a x y z 0 w k)
    ∙ banks_counted x y z w (a + 1) n (record k { aap = k.aap + 6 * w })
    ∙ with_more k (k.aap + 6 * w + 6 * (w * n)) (k.aap + 6 * (w * suc n)) (omega arith)

-- a vote is counted as its commands
pub vote_is_counted : VoteIsCounted
vote_is_counted g [] k = with_more k k.aap (k.aap + 0) (omega arith)
vote_is_counted g (x ∷ []) k = with_more k k.aap (k.aap + 0) (omega arith)
vote_is_counted g (x ∷ y ∷ []) k = with_more k k.aap (k.aap + 0) (omega arith)
vote_is_counted g (x ∷ y ∷ z ∷ rest) k =
    all_counted-append (job_events (vote_job g x.1 y.1 z.1)) (vote_events g rest) k
    ∙ ap (all_counted (vote_events g rest))
    (banks_counted x.1.base y.1.base z.1.base x.1.width 0 (segments g x.1) k)
    ∙ vote_is_counted g rest (record k { aap = k.aap + 6 * (x.1.width * segments g x.1) })
    ∙ with_more k (k.aap + 6 * (x.1.width * segments g x.1) + vote_count g rest)
    (k.aap + (6 * (x.1.width * segments g x.1) + vote_count g rest)) (omega arith)
