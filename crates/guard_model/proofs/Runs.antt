-- A list of plain instructions, up to the first that is refused.
use Rattle.guard_model.proofs.Common.{◌≡◌, ℕ, Bool, true, false, cond, List, [], ◌∷◌, ◌++◌, Option}
use Rattle.guard_model.proofs.Common.{Some, None, refl, sym, ◌∙◌, ap, subst, Geometry, Named}
use Rattle.guard_model.proofs.Common.{Instruction, Why, Routines, refusal, Held, table_of, worded}
use Rattle.guard_model.proofs.Common.{tabled, table_after, if_done, reply_by, counts_for, replies}
use Rattle.guard_model.proofs.Common.{words_at_end, is_refused, flat_map, Counts}
use Rattle.machine_model.specs.declared.Reply.{Reply}
use Rattle.machine_model.specs.declared.Reply.TheVariants.{Refused}
use Rattle.machine_model.specs.Steps.{words_after}
use Rattle.machine_model.specs.Script.{table_at_end, plus}
use Rattle.machine_model.proofs.Scripts.{table_step}
use Rattle.guard_model.specs.Guarded.{joined, done_ones, plain_script, removal}

-- the numbers after a guarded instruction, copies and all
abbrev pub guarded_words : Geometry → Routines → (List ℕ → ℕ → List ℕ → List ℕ) → List Held
    → Instruction → List Held
guarded_words g operations meaning state instr =
    words_at_end g operations meaning state (plain_script g operations (table_of state) instr)

-- an instruction that is not refused is done
pub if_none : {S : Type 0} (r : Option Why) (x y : S) → r ≡ None → if_done r x y ≡ x
if_none None x y e = refl
if_none (Some w) x y e = cc

-- an instruction that is refused leaves all as it was
pub if_some : {S : Type 0} (r : Option Why) (w : Why) (x y : S) → r ≡ Some w → if_done r x y ≡ y
if_some None w x y e = cc
if_some (Some v) w x y e = refl

-- all of them are done
abbrev pub AllDone : Geometry → Routines → List Named → List Instruction → Type 0
AllDone g operations table [] = Unit {0}
AllDone g operations table (i ∷ rest) = (refusal g operations table i ≡ None) × AllDone g operations
    (tabled g table i) rest

pub done_all : (g : Geometry) (operations : Routines) (table : List Named)
    (script : List Instruction) → AllDone g operations table script
    → done_ones g operations table script ≡ script
done_all g operations table [] d = refl
done_all g operations table (i ∷ rest) d =
    if_none (refusal g operations table i) _ _ d.0
    ∙ ap (λ t. i ∷ done_ones g operations t rest)
    (if_none (refusal g operations table i) (tabled g table i) table d.0)
    ∙ ap (λ r. i ∷ r) (done_all g operations (tabled g table i) rest d.1)

joined_done : (r : Option Why) (k c : Counts) (rest : List Reply) → r ≡ None → joined c
    (reply_by r k ∷ rest) ≡ joined (plus c k) rest
joined_done None k c rest e = refl
joined_done (Some w) k c rest e = cc

pub joined_first : (r : Option Why) (w : Why) (k c : Counts) (rest : List Reply) → r ≡ Some w
    → joined c (reply_by r k ∷ rest) ≡ Refused w
joined_first None w k c rest e = cc
joined_first (Some v) w k c rest e = let f : v ≡ w = cc in ap (λ u. Reply.Refused u) f

pub reply_done : (g : Geometry) (operations : Routines) (table : List Named)
    (script : List Instruction) (c : Counts) → AllDone g operations table script → is_refused
    (joined c (replies g operations table script)) ≡ false
reply_done g operations table [] c d = refl
reply_done g operations table (i ∷ rest) c d =
    ap is_refused (joined_done (refusal g operations table i) (counts_for g operations table i) c
    (replies g operations (table_after g operations table i) rest) d.0)
    ∙ ap (λ t. is_refused (joined (plus c (counts_for g operations table i))
    (replies g operations t rest)))
    (if_none (refusal g operations table i) (tabled g table i) table d.0)
    ∙ reply_done g operations (tabled g table i) rest _ d.1

-- one more that is done before it
pub reply_more : (g : Geometry) (operations : Routines) (table : List Named) (i : Instruction)
    (rest : List Instruction) (c : Counts) → refusal g operations table i ≡ None
    → joined c (replies g operations table (i ∷ rest)) ≡ joined
    (plus c (counts_for g operations table i)) (replies g operations (tabled g table i) rest)
reply_more g operations table i rest c e =
    joined_done (refusal g operations table i) (counts_for g operations table i) c
    (replies g operations (table_after g operations table i) rest) e
    ∙ ap (λ t. joined (plus c (counts_for g operations table i)) (replies g operations t rest))
    (if_none (refusal g operations table i) (tabled g table i) table e)

-- where the first is not refused, it is done and the others go on
pub done_more : (g : Geometry) (operations : Routines) (table : List Named) (i : Instruction)
    (rest : List Instruction) → refusal g operations table i ≡ None
    → done_ones g operations table (i ∷ rest) ≡ i ∷ done_ones g operations (tabled g table i) rest
done_more g operations table i rest e =
    if_none (refusal g operations table i) _ _ e ∙ ap (λ t. i ∷ done_ones g operations t rest)
    (if_none (refusal g operations table i) (tabled g table i) table e)

-- where the first is refused, that is the reply to all
pub reply_first : (g : Geometry) (operations : Routines) (table : List Named) (i : Instruction)
    (rest : List Instruction) (c : Counts) (w : Why) → refusal g operations table i ≡ Some w
    → joined c (replies g operations table (i ∷ rest)) ≡ Refused w
reply_first g operations table i rest c w e = joined_first (refusal g operations table i) w
    (counts_for g operations table i) c _ e

-- where the first is refused, none is done
pub done_first : (g : Geometry) (operations : Routines) (table : List Named) (i : Instruction)
    (rest : List Instruction) (w : Why) → refusal g operations table i ≡ Some w
    → done_ones g operations table (i ∷ rest) ≡ []
done_first g operations table i rest w e = if_some (refusal g operations table i) w _ [] e

-- the counts before the first instruction
abbrev pub none_yet : Counts
none_yet = record { aap = 0; ap = 0 }

-- the plain script of these, from how many of them are done
abbrev pub script_by : Bool → List Instruction → List Instruction
script_by refused done = cond refused (done ++ flat_map removal done) done

-- the plain script of some instructions: all of them, or none where one is refused
abbrev pub script_for : Geometry → Routines → List Named → List Instruction → List Instruction
script_for g operations table script = script_by
    (is_refused (joined none_yet (replies g operations table script)))
    (done_ones g operations table script)

-- where none is refused, all are done
pub script_done : (g : Geometry) (operations : Routines) (table : List Named)
    (script : List Instruction) → AllDone g operations table script
    → script_for g operations table script ≡ script
script_done g operations table script d = ap
    (λ b. script_by b (done_ones g operations table script))
    (reply_done g operations table script none_yet d) ∙ done_all g operations table script d

empty_script : (b : Bool) → script_by b [] ≡ []
empty_script true = refl
empty_script false = refl

-- where the first is refused, nothing is done and nothing is taken back
pub script_refused : (g : Geometry) (operations : Routines) (table : List Named) (i : Instruction)
    (rest : List Instruction) (w : Why) → refusal g operations table i ≡ Some w
    → script_for g operations table (i ∷ rest) ≡ []
script_refused g operations table i rest w e = ap
    (script_by (is_refused (joined none_yet (replies g operations table (i ∷ rest)))))
    (done_first g operations table i rest w e) ∙ empty_script _

-- the words, where all are done
abbrev pub all_worded : Geometry → Routines → (List ℕ → ℕ → List ℕ → List ℕ) → List Held
    → List Instruction → List Held
all_worded g operations meaning state [] = state
all_worded g operations meaning state (i ∷ rest) = all_worded g operations meaning
    (worded g operations meaning state i) rest

pub table_worded : (g : Geometry) (operations : Routines) (meaning : List ℕ → ℕ → List ℕ → List ℕ)
    (state : List Held) (i : Instruction) → refusal g operations (table_of state) i ≡ None
    → table_of (worded g operations meaning state i) ≡ tabled g (table_of state) i
table_worded g operations meaning state i e =
    ap table_of (sym (if_none (refusal g operations (table_of state) i)
    (worded g operations meaning state i) state e)) ∙ table_step g operations meaning state i
    ∙ if_none (refusal g operations (table_of state) i) (tabled g (table_of state) i)
    (table_of state) e

pub words_all : (g : Geometry) (operations : Routines) (meaning : List ℕ → ℕ → List ℕ → List ℕ)
    (state : List Held) (script : List Instruction) → AllDone g operations (table_of state) script
    → words_at_end g operations meaning state script ≡ all_worded g operations meaning state script
words_all g operations meaning state [] d = refl
words_all g operations meaning state (i ∷ rest) d =
    ap (λ s. words_at_end g operations meaning s rest)
    (if_none (refusal g operations (table_of state) i)
    (worded g operations meaning state i) state d.0)
    ∙ words_all g operations meaning (worded g operations meaning state i) rest
    (subst (λ t. AllDone g operations t rest)
    (sym (table_worded g operations meaning state i d.0)) d.1)

-- the table of a whole script goes its own way
pub table_steps : (g : Geometry) (operations : Routines) (meaning : List ℕ → ℕ → List ℕ → List ℕ)
    (state : List Held) (script : List Instruction) → table_of
    (words_at_end g operations meaning state script) ≡ table_at_end g operations
    (table_of state) script
table_steps g operations meaning state [] = refl
table_steps g operations meaning state (i ∷ rest) =
    table_steps g operations meaning (words_after g operations meaning state i) rest ∙ ap
    (λ t. table_at_end g operations t rest) (table_step g operations meaning state i)
