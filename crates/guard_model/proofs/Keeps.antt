-- The guarded step of trios, for the instructions on objects that stand.
use Rattle.guard_model.proofs.Common.{◌≡◌, ℕ, true, false, cond, List, [], ◌∷◌, map, Option, Some}
use Rattle.guard_model.proofs.Common.{None, refl, sym, ◌∙◌, ap, inl, inr, ◌⊎◌, replicate}
use Rattle.guard_model.proofs.Common.{slice_index, Geometry, Place, Instruction, Bbop, Load, Fill}
use Rattle.guard_model.proofs.Common.{Why, object_size, padded_to, Routines, seen, refusal, rows_of}
use Rattle.guard_model.proofs.Common.{Held, table_of, numbers_named, numbers_at, computed, worded}
use Rattle.guard_model.proofs.Common.{tabled, with_results, new_numbers, dsts_of, srcs_of}
use Rattle.guard_model.proofs.Common.{words_at_end, is_refused, replies}
use Rattle.guard_model.specs.Triples.{x_letter, y_letter, z_letter}
use Rattle.guard_model.specs.Guarded.{plain_ones, plain_script, guarded_reply}
use Rattle.guard_model.specs.Guarded.{joined, adds, place_on}
use Rattle.guard_model.proofs.Trios.{Trio, copy, spread, alone, HaveNames, unplaced}
use Rattle.guard_model.proofs.Names.{Letter, is_x, is_y, is_z, copy_numbers, copies_like, under}
use Rattle.guard_model.proofs.Names.{new_under, given, given_same, table_given, other_given}
use Rattle.guard_model.proofs.Refused.{bbop_like, load_like, fill_like, named, mixed_refusal}
use Rattle.guard_model.proofs.Refused.{dsts_like, srcs_like}
use Rattle.guard_model.proofs.Runs.{AllDone, all_worded, words_all, script_for, script_done}
use Rattle.guard_model.proofs.Runs.{script_refused, reply_done, reply_first, none_yet}
use Rattle.guard_model.proofs.Runs.{guarded_words}

-- what a guarded instruction makes of trios: trios again, and of the one copy what the word machine
-- makes of it
pub record IsStep (g : Geometry) (operations : Routines) (meaning : List ℕ → ℕ → List ℕ → List ℕ)
    (ts : List Trio) (instr : Instruction) : Type 0 where
  pub trios : List Trio
  pub words : guarded_words g operations meaning (spread ts) instr ≡ spread trios
  pub named : HaveNames trios
  pub stays : is_refused (guarded_reply g operations (table_of (spread ts)) instr) ≡ true → trios
      ≡ ts
  pub even : adds instr ≡ false → (plain_script g operations (table_of (spread ts)) instr
      ≡ plain_ones instr) ⊎ (plain_script g operations (table_of (spread ts)) instr ≡ [])
  pub alone : map unplaced (map alone trios) ≡ map unplaced
      (cond (is_refused (guarded_reply g operations (table_of (spread ts)) instr)) (map alone ts)
      (worded g operations meaning (map alone ts) instr))

-- three plain instructions that are refused alike
pub three_alike : (g : Geometry) (operations : Routines) (meaning : List ℕ → ℕ → List ℕ → List ℕ)
    (ts : List Trio) (instr a b c : Instruction) (r : Option Why) (after : List Trio)
    → plain_ones instr ≡ a ∷ b ∷ c ∷ []
    → refusal g operations (table_of (spread ts)) a ≡ r
    → refusal g operations (tabled g (table_of (spread ts)) a) b ≡ r
    → refusal g operations (tabled g (tabled g (table_of (spread ts)) a) b) c ≡ r
    → all_worded g operations meaning (spread ts) (a ∷ b ∷ c ∷ []) ≡ spread after
    → HaveNames ts → HaveNames after
    → map alone after ≡ worded g operations meaning (map alone ts) instr
    → IsStep g operations meaning ts instr
three_alike g operations meaning ts instr a b c None after is p q s words have named one =
    let table = table_of (spread ts) in
    let d : AllDone g operations table (a ∷ b ∷ c ∷ []) = (p, (q, (s, tt))) in
    let script : plain_script g operations table instr ≡ a ∷ b ∷ c ∷ [] = ap
    (script_for g operations table) is ∙ script_done g operations table (a ∷ b ∷ c ∷ []) d in
    let reply : is_refused (guarded_reply g operations table instr) ≡ false = ap
    (λ l. is_refused (joined none_yet (replies g operations table l))) is
    ∙ reply_done g operations table (a ∷ b ∷ c ∷ []) none_yet d in
    record {
      trios = after;
      words = ap (words_at_end g operations meaning (spread ts)) script
          ∙ words_all g operations meaning (spread ts) (a ∷ b ∷ c ∷ []) d ∙ words;
      named = named;
      stays = λ h. let f = reply in cc;
      even = λ h. inl (script ∙ sym is);
      alone = ap (map unplaced) (one ∙ ap
          (λ b. cond b (map alone ts) (worded g operations meaning (map alone ts) instr))
          (sym reply));
    }
three_alike g operations meaning ts instr a b c (Some w) after is p q s words have named one =
    let table = table_of (spread ts) in
    let script : plain_script g operations table instr ≡ [] = ap (script_for g operations table) is
    ∙ script_refused g operations table a (b ∷ c ∷ []) w p in
    let reply : is_refused (guarded_reply g operations table instr) ≡ true = ap
    (λ l. is_refused (joined none_yet (replies g operations table l))) is ∙ ap is_refused
    (reply_first g operations table a (b ∷ c ∷ []) none_yet w p) in
    record {
      trios = ts;
      words = ap (words_at_end g operations meaning (spread ts)) script;
      named = have;
      stays = λ h. refl;
      even = λ h. inr script;
      alone = ap (λ b. map unplaced (cond b (map alone ts)
          (worded g operations meaning (map alone ts) instr))) (sym reply);
    }

-- a state with the table of these trios, whose copies under this letter have their numbers
abbrev pub HasCopies : List Trio → List Held → ℕ → Type 0
HasCopies ts state c = (table_of state ≡ table_of (spread ts))
    × ((name : List ℕ) → numbers_named state (c ∷ name) ≡ numbers_named (map alone ts) name)

-- how many numbers a copy has
sizes : (g : Geometry) (ts : List Trio) (state : List Held) (c : ℕ) (base : Trio → ℕ)
    (p : Place) → Letter c base → table_of state ≡ table_of (spread ts) → object_size g
    (rows_of (table_of state) (place_on c p)) ≡ object_size g
    (rows_of (table_of (map alone ts)) p)
sizes g ts state c base p l e =
    ap (λ t. object_size g (rows_of t (place_on c p))) e
    ∙ ap (λ k. object_size g (record { base = 0; width = 0; count = k }))
    ((copies_like c base ts l).counted p)

sources : (ts : List Trio) (state : List Held) (c : ℕ) (places : List Place)
    → HasCopies ts state c → map (numbers_at state) (named c places) ≡ map
    (numbers_at (map alone ts)) places
sources ts state c [] h = refl
sources ts state c (p ∷ places) h =
    rw (ap (map (seen p.part)) (h.1 p.name), sources ts state c places h) refl

-- New numbers for the results
abbrev pub trio_given : (List ℕ → List ℕ → List ℕ) → Trio → Trio
trio_given new t = record {
  name = t.name;
  x = t.x;
  y = t.y;
  z = t.z;
  width = t.width;
  count = t.count;
  numbers = new t.name t.numbers;
}

abbrev pub trios_given : List Trio → (List ℕ → List ℕ → List ℕ) → List Trio
trios_given ts new = map (trio_given new) ts

given_three : (ts : List Trio) (new : List ℕ → List ℕ → List ℕ)
    → map (given (under z_letter new)) (map (given (under y_letter new))
    (map (given (under x_letter new)) (spread ts))) ≡ spread (trios_given ts new)
given_three [] new = refl
given_three (t ∷ ts) new =
    let u = trio_given new t in
    ap (λ r. copy x_letter u.x u ∷ copy y_letter u.y u ∷ copy z_letter u.z u ∷ r)
    (given_three ts new)

pub alone_given : (ts : List Trio) (new : List ℕ → List ℕ → List ℕ)
    → map alone (trios_given ts new) ≡ map (given new) (map alone ts)
alone_given [] new = refl
alone_given (t ∷ ts) new = ap (λ r. alone (trio_given new t) ∷ r) (alone_given ts new)

pub named_given : (ts : List Trio) (new : List ℕ → List ℕ → List ℕ) → HaveNames ts
    → HaveNames (trios_given ts new)
named_given [] new h = tt
named_given (t ∷ ts) new h = (h.0, named_given ts new h.1)

abbrev step_with : (List Held → ℕ → ℕ → List ℕ) → (ℕ → List Place) → List Held → ℕ → List Held
step_with results places state c = with_results state (results state c) (places c)

one_given : (state : List Held) (c : ℕ) (results : List Held → ℕ → ℕ → List ℕ)
    (places : ℕ → List Place) (dsts : List Place) (result : ℕ → List ℕ)
    → results state c ≡ result → places c ≡ named c dsts
    → step_with results places state c ≡ map (given (under c (new_numbers result 0 dsts))) state
one_given state c results places dsts result e f =
    ap (λ r. with_results state r (places c)) e
    ∙ ap (with_results state result) f
    ∙ given_same state (new_numbers result 0 (named c dsts)) _ (new_under result c 0 dsts)

-- Three steps that each give a copy's destinations their results, where these are read off its own
-- letter
three_given : (ts : List Trio) (dsts : List Place) (results : List Held → ℕ → ℕ → List ℕ)
    (places : ℕ → List Place) (result : ℕ → List ℕ)
    → ((state : List Held) (c : ℕ) (base : Trio → ℕ) → Letter c base → HasCopies ts state c
    → results state c ≡ result)
    → ((c : ℕ) → places c ≡ named c dsts)
    → step_with results places (step_with results places (step_with results places (spread ts)
    x_letter) y_letter) z_letter ≡ spread (trios_given ts (new_numbers result 0 dsts))
three_given ts dsts results places result is are =
    let new = new_numbers result 0 dsts in
    let start = spread ts in
    let s1 = map (given (under x_letter new)) start in
    let s2 = map (given (under y_letter new)) s1 in
    let e1 : results start x_letter ≡ result = is start x_letter (λ t. t.x) is_x
    (refl, λ name. copy_numbers x_letter (λ t. t.x) ts name is_x) in
    let e2 : results s1 y_letter ≡ result = is s1 y_letter (λ t. t.y) is_y (
      table_given start (under x_letter new),
      λ name. other_given start (under x_letter new) (y_letter ∷ name) (λ ns. refl)
          ∙ copy_numbers y_letter (λ t. t.y) ts name is_y,
    ) in
    let e3 : results s2 z_letter ≡ result = is s2 z_letter (λ t. t.z) is_z (
      table_given s1 (under y_letter new) ∙ table_given start (under x_letter new),
      λ name. other_given s1 (under y_letter new) (z_letter ∷ name) (λ ns. refl)
          ∙ other_given start (under x_letter new) (z_letter ∷ name) (λ ns. refl)
          ∙ copy_numbers z_letter (λ t. t.z) ts name is_z,
    ) in
    ap (λ s. step_with results places (step_with results places s y_letter) z_letter)
    (one_given start x_letter results places dsts result e1 (are x_letter))
    ∙ ap (λ s. step_with results places s z_letter)
    (one_given s1 y_letter results places dsts result e2 (are y_letter))
    ∙ one_given s2 z_letter results places dsts result e3 (are z_letter)
    ∙ given_three ts new

-- what is loaded or filled into the three copies
pub load_step : (g : Geometry) (operations : Routines) (meaning : List ℕ → ℕ → List ℕ → List ℕ)
    (ts : List Trio) (place : Place) (values : List ℕ) → HaveNames ts
    → IsStep g operations meaning ts (Load place values)
load_step g operations meaning ts place values have =
    let table = table_of (spread ts) in
    let lone = table_of (map alone ts) in
    let result : ℕ → List ℕ = λ k. padded_to (object_size g (rows_of lone place)) values in
    let new = new_numbers result 0 (place ∷ []) in
    three_alike g operations meaning ts (Load place values) (Load (place_on x_letter place) values)
    (Load (place_on y_letter place) values) (Load (place_on z_letter place) values)
    (refusal g operations lone (Load place values)) (trios_given ts new) refl
    (load_like g operations table lone x_letter
    (copies_like x_letter (λ t. t.x) ts is_x) place values)
    (load_like g operations table lone y_letter
    (copies_like y_letter (λ t. t.y) ts is_y) place values)
    (load_like g operations table lone z_letter
    (copies_like z_letter (λ t. t.z) ts is_z) place values)
    (three_given ts (place ∷ []) (λ s c k. padded_to
    (object_size g (rows_of (table_of s) (place_on c place))) values)
    (λ c. place_on c place ∷ []) result
    (λ s c base l h. ap (λ n. λ (k : ℕ). padded_to n values) (sizes g ts s c base place l h.0))
    (λ c. refl))
    have (named_given ts new have) (alone_given ts new)

pub fill_step : (g : Geometry) (operations : Routines) (meaning : List ℕ → ℕ → List ℕ → List ℕ)
    (ts : List Trio) (place : Place) (value : ℕ) → HaveNames ts
    → IsStep g operations meaning ts (Fill place value)
fill_step g operations meaning ts place value have =
    let table = table_of (spread ts) in
    let lone = table_of (map alone ts) in
    let result : ℕ → List ℕ = λ k. replicate (object_size g (rows_of lone place)) value in
    let new = new_numbers result 0 (place ∷ []) in
    three_alike g operations meaning ts (Fill place value) (Fill (place_on x_letter place) value)
    (Fill (place_on y_letter place) value) (Fill (place_on z_letter place) value)
    (refusal g operations lone (Fill place value)) (trios_given ts new) refl
    (fill_like g operations table lone x_letter
    (copies_like x_letter (λ t. t.x) ts is_x) place value)
    (fill_like g operations table lone y_letter
    (copies_like y_letter (λ t. t.y) ts is_y) place value)
    (fill_like g operations table lone z_letter
    (copies_like z_letter (λ t. t.z) ts is_z) place value)
    (three_given ts (place ∷ []) (λ s c k. replicate
    (object_size g (rows_of (table_of s) (place_on c place))) value)
    (λ c. place_on c place ∷ []) result
    (λ s c base l h. ap (λ n. λ (k : ℕ). replicate n value) (sizes g ts s c base place l h.0))
    (λ c. refl))
    have (named_given ts new have) (alone_given ts new)

abbrev all_results : (List ℕ → List ℕ) → List (List ℕ) → ℕ → ℕ → List ℕ
all_results meaning values size k = computed (λ vs. slice_index (meaning vs) k) values size

pub bbop_step : (g : Geometry) (operations : Routines) (meaning : List ℕ → ℕ → List ℕ → List ℕ)
    (ts : List Trio) (op : List ℕ) (dst : Place) (srcs : List Place) (count n : ℕ) → HaveNames ts
    → IsStep g operations meaning ts (Bbop op dst srcs count n)
bbop_step g operations meaning ts op dst srcs count n have =
    let table = table_of (spread ts) in
    let lone = table_of (map alone ts) in
    let places = dst ∷ srcs in
    let o = operations op in
    let values = map (numbers_at (map alone ts)) (srcs_of o places) in
    let size = object_size g (rows_of lone dst) in
    let result = all_results (meaning op n) values size in
    let new = new_numbers result 0 (dsts_of o places) in
    three_alike g operations meaning ts (Bbop op dst srcs count n)
    (Bbop op (place_on x_letter dst) (named x_letter srcs) count n)
    (Bbop op (place_on y_letter dst) (named y_letter srcs) count n)
    (Bbop op (place_on z_letter dst) (named z_letter srcs) count n)
    (mixed_refusal g table lone o places count n) (trios_given ts new) refl
    (bbop_like g table lone x_letter (copies_like x_letter (λ t. t.x) ts is_x) o places count n)
    (bbop_like g table lone y_letter (copies_like y_letter (λ t. t.y) ts is_y) o places count n)
    (bbop_like g table lone z_letter (copies_like z_letter (λ t. t.z) ts is_z) o places count n)
    (three_given ts (dsts_of o places)
    (λ s c. all_results (meaning op n) (map (numbers_at s) (srcs_of o (named c places)))
    (object_size g (rows_of (table_of s) (place_on c dst))))
    (λ c. dsts_of o (named c places)) result
    (λ s c base l h. ap (λ k. all_results (meaning op n)
    (map (numbers_at s) (srcs_of o (named c places))) k) (sizes g ts s c base dst l h.0)
    ∙ ap (λ xs. all_results (meaning op n) xs size)
    (ap (map (numbers_at s)) (srcs_like c o places) ∙ sources ts s c (srcs_of o places) h))
    (λ c. dsts_like c o places))
    have (named_given ts new have) (alone_given ts new)
