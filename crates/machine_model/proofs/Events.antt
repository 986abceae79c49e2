-- The events of a script.
use Rattle.machine_model.proofs.Common.{◌≡◌, ℕ, zero, suc, ◌+◌, ◌*◌, List, [], ◌∷◌, Option, Some}
use Rattle.machine_model.proofs.Common.{None, Bool, true, false, map, refl, sym, ◌∙◌, ap, arith}
use Rattle.machine_model.proofs.Common.{append-nil, cond, flat_map, count_by, is_none, suc-mul}
use Rattle.machine_model.proofs.Common.{sum_by-cons, range_with_len, fun_ext, Geometry, Counters}
use Rattle.machine_model.proofs.Common.{Banks, Event, after, all_counted, row_events, after-append}
use Rattle.machine_model.proofs.Common.{Counts, Shape, Issue, IssueAap, IssueAp, issues_of, bound}
use Rattle.machine_model.proofs.Common.{counts_of, issues_aap, issues_ap, Named, Init, Bbop, Load}
use Rattle.machine_model.proofs.Common.{Fill, Print, Free, Order, Place, WaveJob, Object, bit_at}
use Rattle.machine_model.proofs.Common.{bit_number, Aap, Row, Write, padded_to, Instruction}
use Rattle.std.proofs.Math.Nat.{mul-suc}
use Rattle.dram_model.proofs.EventLaws.{all_counted-append}
use Rattle.uprog_code.specs.Bound.{Bound}
use Rattle.dram_model.specs.declared.address.Addr.{Addr}
use Rattle.dram_model.specs.Elements.{row_bits}
use Rattle.machine_model.specs.declared.Why.{Why}
use Rattle.machine_model.specs.Routines.{Routine, Routines}
use Rattle.machine_model.specs.Refusals.{refusal}
use Rattle.machine_model.specs.Steps.{job_of, job_events, own_events, events_of, through}
use Rattle.machine_model.specs.Steps.{rowed, banks_after, table_after, if_done, times, counts_for}
use Rattle.machine_model.specs.Steps.{reply_to, reply_by, binding, issues_at, bound_at}
use Rattle.machine_model.specs.Script.{events_in_order, banks_at_end, replies, sum_of, counted_in}
use Rattle.machine_model.specs.Script.{with_counts, with_writes, counters_at_end, rows_loaded}
use Rattle.machine_model.specs.Script.{rows_if_done, sum_done}
use Rattle.machine_model.specs.Columns.{segments, object_size}
use Rattle.machine_model.specs.Steps.{new_object, fill_events}
use Rattle.machine_model.specs.Refusals.{rows_of}
use Rattle.dram_model.specs.declared.address.Addr.TheVariants as addr
use Rattle.machine_model.proofs.Fills.{through_bank}

job_is_through : (job : WaveJob) (banks : Banks) → after (job_events job) banks ≡ through job banks
job_is_through job banks = fun_ext (through_bank job.commands job.banks banks)

pub events_are_rows : (g : Geometry) (operations : Routines) (table : List Named) (banks : Banks)
    (instr : Instruction) → after (events_of g operations table instr) banks
    ≡ rowed g operations table banks instr
events_are_rows g operations table banks instr =
    after-append (job_events (job_of g operations table instr)) (own_events g table instr) banks
    ∙ ap (after (own_events g table instr)) (job_is_through (job_of g operations table instr) banks)

done_events : (r : Option Why) (es : List Event) (new banks : Banks) → after es banks ≡ new
    → after (if_done r es []) banks ≡ if_done r new banks
done_events None es new banks e = e
done_events (Some reason) es new banks e = refl

pub instr_events : (g : Geometry) (operations : Routines) (table : List Named) (banks : Banks)
    (instr : Instruction)
    → after (if_done (refusal g operations table instr) (events_of g operations table instr) [])
    banks ≡ banks_after g operations table banks instr
instr_events g operations table banks instr =
    done_events (refusal g operations table instr) (events_of g operations table instr)
    (rowed g operations table banks instr) banks (events_are_rows g operations table banks instr)

-- one instruction after another, the events leave the banks as the steps do
pub in_order_steps : (g : Geometry) (operations : Routines) (table : List Named)
    (script : List Instruction) (banks : Banks)
    → after (events_in_order g operations table script) banks
    ≡ banks_at_end g operations table banks script
in_order_steps g operations table [] banks = refl
in_order_steps g operations table (instr ∷ script) banks =
    after-append (if_done (refusal g operations table instr) (events_of g operations table instr)
    []) (events_in_order g operations (table_after g operations table instr) script) banks
    ∙ in_order_steps g operations (table_after g operations table instr) script _
    ∙ ap (λ b. banks_at_end g operations (table_after g operations table instr) b script)
    (instr_events g operations table banks instr)

plain_counts : (k : Counters) (a p : ℕ) → a ≡ k.aap → p ≡ k.ap → record k { aap = a; ap = p } ≡ k
plain_counts k a p e f = rw (e, f) refl

both_counts : (k : Counters) (a b p q : ℕ) → a ≡ b → p ≡ q
    → record k { aap = a; ap = p } ≡ record k { aap = b; ap = q }
both_counts k a b p q e f = rw (e, f) refl

one_counted : {X : Type 0} (x : ℕ) (p : X → Bool) (y : X) (ys : List X) → p y ≡ true
    → x + 1 + count_by p ys ≡ x + count_by p (y ∷ ys)
one_counted x p y ys h = rw (sum_by-cons (λ z. cond (p z) 1 0) y ys, h) (omega arith)

none_counted : {X : Type 0} (x : ℕ) (p : X → Bool) (y : X) (ys : List X) → p y ≡ false
    → x + count_by p ys ≡ x + count_by p (y ∷ ys)
none_counted x p y ys h = rw (sum_by-cons (λ z. cond (p z) 1 0) y ys, h) (omega arith)

add_none : (x : ℕ) → x + 0 ≡ x
add_none x = omega arith

pub row_counted : (bank rows : ℕ) (shape : Shape) (n : ℕ) (b : Bound) (issues : List Issue)
    (k : Counters) → all_counted (row_events bank (bound rows shape n b issues)) k
    ≡ with_counts k (counts_of issues)
row_counted bank rows shape n b [] k = sym (plain_counts k _ _ (add_none k.aap) (add_none k.ap))
row_counted bank rows shape n b (IssueAap x y ∷ issues) k =
    row_counted bank rows shape n b issues (record k { aap = k.aap + 1 })
    ∙ both_counts k _ _ _ _ (one_counted k.aap issues_aap (IssueAap x y) issues refl)
    (none_counted k.ap issues_ap (IssueAap x y) issues refl)
row_counted bank rows shape n b (IssueAp x ∷ issues) k =
    row_counted bank rows shape n b issues (record k { ap = k.ap + 1 })
    ∙ both_counts k _ _ _ _ (none_counted k.aap issues_aap (IssueAp x) issues refl)
    (one_counted k.ap issues_ap (IssueAp x) issues refl)

add_zero_times : (x c : ℕ) → x + 0 * c ≡ x
add_zero_times x c = omega arith

one_more : (x size c : ℕ) → x + c + size * c ≡ x + suc size * c
one_more x size c = rw (suc-mul size c) (omega arith)

banks_counted : (a size rows : ℕ) (shape : Shape) (n : ℕ) (b : Bound) (issues : List Issue)
    (k : Counters) →
    all_counted (flat_map (λ bank. row_events bank (bound rows shape n b issues))
    (range_with_len a size)) k ≡ with_counts k (times size (counts_of issues))
banks_counted a zero rows shape n b issues k =
    sym (plain_counts k _ _ (add_zero_times k.aap (count_by issues_aap issues))
    (add_zero_times k.ap (count_by issues_ap issues)))
banks_counted a (suc size) rows shape n b issues k =
    all_counted-append (row_events a (bound rows shape n b issues)) _ k
    ∙ banks_counted (a + 1) size rows shape n b issues
    (all_counted (row_events a (bound rows shape n b issues)) k)
    ∙ ap (λ c. with_counts c (times size (counts_of issues)))
    (row_counted a rows shape n b issues k)
    ∙ both_counts k _ _ _ _ (one_more k.aap size (count_by issues_aap issues))
    (one_more k.ap size (count_by issues_ap issues))

idle_counted : (a size : ℕ) (k : Counters)
    → all_counted (flat_map (λ bank. row_events bank []) (range_with_len a size)) k ≡ k
idle_counted a zero k = refl
idle_counted a (suc size) k = idle_counted (a + 1) size k

zero_times : (x c : ℕ) → x + c * 0 ≡ x
zero_times x c = omega arith

bbop_counted : (g : Geometry) (table : List Named) (o : Option Routine) (places : List Place)
    (n size : ℕ) (k : Counters) →
    all_counted (job_events (record { commands = bound_at g table o places n; banks = size })) k
    ≡ with_counts k (times size (counts_of (issues_at o n)))
bbop_counted g table None places n size k = idle_counted 0 size k
    ∙ sym (plain_counts k _ _ (zero_times k.aap size) (zero_times k.ap size))
bbop_counted g table (Some o) places n size k =
    banks_counted 0 size g.rows o.shape n (binding g table o.shape places n) (issues_of (o.trace n))
    k

-- counters of equal numbers
counters_are : (k : Counters) (a b p q w x : ℕ) → a ≡ b → p ≡ q → w ≡ x
    → record k { aap = a; ap = p; writes = w } ≡ record k { aap = b; ap = q; writes = x }
counters_are k a b p q w x e f h = rw (e, f, h) refl

aap_is : (k : Counters) (a : ℕ) → a ≡ k.aap → record k { aap = a } ≡ k
aap_is k a e = rw e refl

writes_is : (k : Counters) (w : ℕ) → w ≡ k.writes → record k { writes = w } ≡ k
writes_is k w e = rw e refl

none_done : (k : Counters)
    → k ≡ with_writes 0 (with_counts k (record { aap = 0; ap = 0 }))
none_done k = counters_are k _ _ _ _ _ _ (sym (add_none k.aap)) (sym (add_none k.ap))
    (sym (add_none k.writes))

next_is : (x n : ℕ) → x + 1 + n ≡ x + suc n
next_is x n = omega arith

bank_more : (x n size : ℕ) → x + n + n * size ≡ x + n * suc size
bank_more x n size = rw (mul-suc n size) (omega arith)

abbrev with_aaps : ℕ → Counters → Counters
with_aaps n k = record k { aap = k.aap + n }

-- rows filled: an AAP for each row of each bank
row_filled : (bank a n : ℕ) (from to : ℕ → Addr) (k : Counters)
    → all_counted (map (λ i. Row bank (Aap (from i) (to i))) (range_with_len a n)) k
    ≡ with_aaps n k
row_filled bank a zero from to k = sym (aap_is k _ (add_none k.aap))
row_filled bank a (suc n) from to k =
    row_filled bank (a + 1) n from to (record k { aap = k.aap + 1 })
    ∙ ap (λ x. record k { aap = x }) (next_is k.aap n)

rows_filled : (a size n : ℕ) (from to : ℕ → Addr) (k : Counters)
    → all_counted (flat_map (λ bank. map (λ i. Row bank (Aap (from i) (to i)))
    (range_with_len 0 n)) (range_with_len a size)) k ≡ with_aaps (n * size) k
rows_filled a zero n from to k = sym (aap_is k _ (zero_times k.aap n))
rows_filled a (suc size) n from to k =
    all_counted-append (map (λ i. Row a (Aap (from i) (to i))) (range_with_len 0 n)) _ k
    ∙ rows_filled (a + 1) size n from to _
    ∙ ap (with_aaps (n * size)) (row_filled a 0 n from to k)
    ∙ ap (λ x. record k { aap = x }) (bank_more k.aap n size)

-- rows loaded: a write for each
row_loaded : (bank a n : ℕ) (at : ℕ → ℕ) (bits : ℕ → List Bool) (k : Counters)
    → all_counted (map (λ i. Write bank (at i) (bits i)) (range_with_len a n)) k
    ≡ with_writes n k
row_loaded bank a zero at bits k = sym (writes_is k _ (add_none k.writes))
row_loaded bank a (suc n) at bits k =
    row_loaded bank (a + 1) n at bits (record k { writes = k.writes + 1 })
    ∙ ap (λ x. record k { writes = x }) (next_is k.writes n)

rows_written : (a size n : ℕ) (at : ℕ → ℕ) (bits : ℕ → ℕ → List Bool) (k : Counters)
    → all_counted (flat_map (λ bank. map (λ i. Write bank (at i) (bits bank i))
    (range_with_len 0 n)) (range_with_len a size)) k ≡ with_writes (n * size) k
rows_written a zero n at bits k = sym (writes_is k _ (zero_times k.writes n))
rows_written a (suc size) n at bits k =
    all_counted-append (map (λ i. Write a (at i) (bits a i)) (range_with_len 0 n)) _ k
    ∙ rows_written (a + 1) size n at bits _
    ∙ ap (with_writes (n * size)) (row_loaded a 0 n at (bits a) k)
    ∙ ap (λ x. record k { writes = x }) (bank_more k.writes n size)

fill_counted : (g : Geometry) (o : Object) (v : ℕ) (k : Counters)
    → all_counted (fill_events g o v) k
    ≡ with_writes 0 (with_counts k (record { aap = o.width * segments g o; ap = 0 }))
fill_counted g o v k =
    rows_filled 0 (segments g o) o.width (λ i. addr.C (bit_number (bit_at v i)))
    (λ i. addr.D (o.base + i)) k
    ∙ counters_are k _ _ _ _ _ _ refl (sym (add_none k.ap)) (sym (add_none k.writes))

-- the events of an instruction that is done are counted by its counts and the rows that it loads
pub done_counted : (g : Geometry) (operations : Routines) (table : List Named)
    (instr : Instruction) (k : Counters) → all_counted (events_of g operations table instr) k
    ≡ with_writes (rows_loaded g table instr)
    (with_counts k (counts_for g operations table instr))
done_counted g operations table (Bbop op dst srcs count n) k =
    ap (λ es. all_counted es k) (append-nil (job_events
    (job_of g operations table (Bbop op dst srcs count n))))
    ∙ bbop_counted g table (operations op) (dst ∷ srcs) n _ k
    ∙ counters_are k _ _ _ _ _ _ refl refl (sym (add_none k.writes))
done_counted g operations table (Init name count n) k =
    fill_counted g (new_object g table count n) 0 k
done_counted g operations table (Fill place value) k =
    fill_counted g (rows_of table place) value k
done_counted g operations table (Load place values) k =
    let o = rows_of table place in
    rows_written 0 (segments g o) o.width (λ i. o.base + i)
    (row_bits g (padded_to (object_size g o) values)) k
    ∙ counters_are k _ _ _ _ _ _ (sym (add_none k.aap)) (sym (add_none k.ap)) refl
done_counted g operations table (Print name) k = none_done k
done_counted g operations table (Free name) k = none_done k
done_counted g operations table (Order o) k = none_done k

reply_case : (r : Option Why) (es : List Event) (c : Counts) (n : ℕ) (k : Counters)
    → all_counted es k ≡ with_writes n (with_counts k c) → all_counted (if_done r es []) k
    ≡ with_writes (cond (is_none r) n 0) (with_counts k (counted_in (reply_by r c)))
reply_case None es c n k e = e
reply_case (Some reason) es c n k e = none_done k

pub instr_counted : (g : Geometry) (operations : Routines) (table : List Named)
    (instr : Instruction) (k : Counters)
    → all_counted (if_done (refusal g operations table instr) (events_of g operations table instr)
    []) k ≡ with_writes (rows_if_done rows_loaded g operations table instr)
    (with_counts k (counted_in (reply_to g operations table instr)))
instr_counted g operations table instr k = reply_case (refusal g operations table instr)
    (events_of g operations table instr) (counts_for g operations table instr)
    (rows_loaded g table instr) k (done_counted g operations table instr k)

regroup : (x a b : ℕ) → x + a + b ≡ x + (a + b)
regroup x a b = omega arith

-- One instruction after another, they are counted by the replies and the rows loaded
pub in_order_counted : (g : Geometry) (operations : Routines) (table : List Named)
    (script : List Instruction) (k : Counters)
    → all_counted (events_in_order g operations table script) k
    ≡ counters_at_end g operations table script k
in_order_counted g operations table [] k = none_done k
in_order_counted g operations table (instr ∷ script) k =
    let table' = table_after g operations table instr in
    let first = counted_in (reply_to g operations table instr) in
    let rows = rows_if_done rows_loaded g operations table instr in
    let rest = sum_of (replies g operations table' script) in
    let more = sum_done rows_loaded g operations table' script in
    all_counted-append (if_done (refusal g operations table instr)
    (events_of g operations table instr) []) (events_in_order g operations table' script) k
    ∙ in_order_counted g operations table' script _
    ∙ ap (λ c. with_writes more (with_counts c rest)) (instr_counted g operations table instr k)
    ∙ counters_are k _ _ _ _ _ _ (regroup k.aap first.aap rest.aap)
    (regroup k.ap first.ap rest.ap) (regroup k.writes rows more)
