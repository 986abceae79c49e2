-- Counters of a guarded script, over one instruction and at its end.
use Rattle.guard_job.proofs.Common.{◌≡◌, ℕ, ◌+◌, Bool, true, false, cond, List, [], ◌∷◌, ◌++◌}
use Rattle.guard_job.proofs.Common.{length, refl, sym, ◌∙◌, ap, arith, count_by, Counters, Geometry}
use Rattle.guard_job.proofs.Common.{Named, Instruction, Routines, Flip, vote_count, guarded_table}
use Rattle.guard_job.proofs.Common.{guarded_tally, plain_script}
use Rattle.std.proofs.lemmas.List.Recursion.{is_count_by}
use Rattle.uprog_code.specs.declared.walker.Counts.{Counts}
use Rattle.machine_model.specs.Script.{replies, rows_loaded, rows_printed, sum_of}
use Rattle.machine_model.proofs.Parts.{scripts_go_on, sum_append}
use Rattle.guard_model.specs.Guarded.{whole_script}
use Rattle.guard_job.specs.Parts.{instr_tally, mended_tally}

counters : (aap ap writes reads : ℕ) → Counters
counters aap ap writes reads = record { aap = aap; ap = ap; writes = writes; reads = reads }

-- counters are alike where their fields are
pub alike : (x y : Counters) → x.aap ≡ y.aap → x.ap ≡ y.ap → x.writes ≡ y.writes
    → x.reads ≡ y.reads → x ≡ y
alike x y e f g h =
    ap (λ (n : ℕ). let k : Counters =
    record { aap = n; ap = x.ap; writes = x.writes; reads = x.reads } in k) e
    ∙ ap (λ (n : ℕ). let k : Counters =
    record { aap = y.aap; ap = n; writes = x.writes; reads = x.reads } in k) f
    ∙ ap (λ (n : ℕ). let k : Counters =
    record { aap = y.aap; ap = y.ap; writes = n; reads = x.reads } in k) g
    ∙ ap (λ (n : ℕ). let k : Counters =
    record { aap = y.aap; ap = y.ap; writes = y.writes; reads = n } in k) h

-- over one instruction, before which so many flips are done
pub tally_goes_on : (g : Geometry) (operations : Routines) (table : List Named)
    (instr : Instruction) (script : List Instruction) (flips later : List Flip) (n : ℕ)
    (k : Counters) → length flips ≡ n + length later
    → guarded_tally g operations table (instr ∷ script) flips k
    ≡ guarded_tally g operations (guarded_table g operations table instr) script later
    (instr_tally g operations table n instr k)
tally_goes_on g operations table instr script flips later n k e =
    let own = plain_script g operations table instr in
    let following = guarded_table g operations table instr in
    let rest = whole_script g operations following script in
    let go = scripts_go_on g operations table own rest in
    let sums : sum_of (replies g operations table (own ++ rest)) ≡ _ = ap sum_of go.answers
    ∙ sum_append (replies g operations table own) (replies g operations following rest) in
    let aaps = ap (λ (c : Counts). c.aap) sums in
    let aps = ap (λ (c : Counts). c.ap) sums in
    let loaded = go.rows rows_loaded in
    let printed = go.rows rows_printed in
    alike (guarded_tally g operations table (instr ∷ script) flips k)
    (guarded_tally g operations following script later (instr_tally g operations table n instr k))
    (omega (arith, aaps)) (omega (arith, aps)) (omega (arith, loaded, e))
    (omega (arith, printed, e))

-- at the end
pub tally_ends : (g : Geometry) (operations : Routines) (table : List Named) (flips : List Flip)
    (k : Counters) → guarded_tally g operations table [] flips k
    ≡ mended_tally (length flips) (vote_count g table) k
tally_ends g operations table flips k =
    alike (guarded_tally g operations table [] flips k)
    (mended_tally (length flips) (vote_count g table) k)
    (omega arith) (omega arith) (omega arith) (omega arith)

-- how many of a list hold, one by one
tally : {X : Type 0} (p : X → Bool) → List X → ℕ
tally p [] = 0
tally p (x ∷ xs) = cond (p x) (1 + tally p xs) (tally p xs)

tally-is : {X : Type 0} (p : X → Bool) (xs : List X) → tally p xs ≡ count_by p xs
unfolding tally
tally-is p xs = is_count_by (tally p) p refl (λ x ys. refl) xs

one_more : (b : Bool) (n : ℕ) → cond b (1 + n) n ≡ cond b (1 + 0) 0 + n
one_more true n = omega arith
one_more false n = omega arith

tally_more : {X : Type 0} (p : X → Bool) (x : X) (xs : List X)
    → tally p (x ∷ xs) ≡ tally p (x ∷ []) + tally p xs
unfolding tally
tally_more p x xs = one_more (p x) (tally p xs)

pub count_more : {X : Type 0} (p : X → Bool) (x : X) (xs : List X)
    → count_by p (x ∷ xs) ≡ count_by p (x ∷ []) + count_by p xs
count_more p x xs = rw (← tally-is p (x ∷ xs), ← tally-is p (x ∷ []), ← tally-is p xs)
    (tally_more p x xs)

one_alone : (b : Bool) → cond b (1 + 0) 0 ≡ cond b 1 0
one_alone true = refl
one_alone false = refl

tally_one : {X : Type 0} (p : X → Bool) (x : X) → tally p (x ∷ []) ≡ cond (p x) 1 0
unfolding tally
tally_one p x = one_alone (p x)

pub count_one : {X : Type 0} (p : X → Bool) (x : X) → count_by p (x ∷ []) ≡ cond (p x) 1 0
count_one p x = sym (tally-is p (x ∷ [])) ∙ tally_one p x
