-- A script in pieces beside its instructions one after another.
use Rattle.machine_model.proofs.Common.{◌≡◌, ◌<◌, Bool, true, false, cond, eqb, List, [], ◌∷◌, ◌++◌}
use Rattle.machine_model.proofs.Common.{length, refl, sym, ◌∙◌, ap, subst, append_assoc, append-nil}
use Rattle.machine_model.proofs.Common.{length-append, ◌+◌, ◌≤◌, arith, nat_tests, flat_map}
use Rattle.machine_model.proofs.Common.{AllByRecursion, Geometry, Banks, Event, after, all_counted}
use Rattle.machine_model.proofs.Common.{Counters, Named, Instruction, Init, Bbop, Load, Fill, Print}
use Rattle.machine_model.proofs.Common.{Free, Order, events_of_picks}
use Rattle.wave_model.specs.Schedule.{Turn, in_turn, whole_picks}
use Rattle.wave_model.proofs.Waves.{turns_whole}
use Rattle.machine_model.specs.Routines.{Routines}
use Rattle.machine_model.specs.Refusals.{refusal}
use Rattle.machine_model.specs.Steps.{job_of, job_events, own_events, if_done, table_after}
use Rattle.machine_model.specs.Script.{is_bbop, table_at_end, banks_at_end, events_in_order}
use Rattle.machine_model.specs.Script.{replies, sum_of}
use Rattle.machine_model.specs.Script.{with_counts, with_writes, counters_at_end}
use Rattle.machine_model.specs.Pieces.{Piece, Wave, Alone, instrs_in, gathered, pieces_from, pieces}
use Rattle.machine_model.specs.Pieces.{jobs_of, wave_queues, piece_events, turn_after}
use Rattle.machine_model.specs.Pieces.{events_of_pieces, AreBbops, IsPiece}
use Rattle.machine_model.specs.Laws.{FitsBanks, SeenInOrder, EventsAreSteps, CountedByReplies}
use Rattle.machine_model.specs.Laws.{OneBankInOrder, PiecesAreScript, WaveIsCounted}
use Rattle.machine_model.specs.Laws.{PieceIsCounted, PieceIsSteps}
use Rattle.machine_model.proofs.Parts.{waves_are_answered}
use Rattle.machine_model.proofs.Events.{in_order_steps, in_order_counted}
use Rattle.machine_model.proofs.Alike.{Alike, Alike-append, alike_after, alike_counted}
use Rattle.machine_model.proofs.InOrder.{wave_in_order, jobs_fit, picks_alike, picks_same}
use Rattle.machine_model.proofs.InOrder.{fits_after}

all_more : (wave : List Instruction) (instr : Instruction) → AreBbops wave
    → is_bbop instr ≡ true → AreBbops (wave ++ instr ∷ [])
all_more [] instr h e = (e, tt)
all_more (x ∷ wave) instr h e = (h.0, all_more wave instr h.1 e)

gathered_are : (wave : List Instruction) (rest : List Piece) → AreBbops wave
    → length wave ≤ 16 → AllByRecursion IsPiece rest
    → AllByRecursion IsPiece (gathered wave ++ rest)
gathered_are [] rest h l r = r
gathered_are (x ∷ wave) rest h l r = ((h, omega arith, l), r)

gathered_whole : (wave : List Instruction) (rest : List Piece)
    → flat_map instrs_in (gathered wave ++ rest) ≡ wave ++ flat_map instrs_in rest
gathered_whole [] rest = refl
gathered_whole (x ∷ wave) rest = refl

-- these pieces are pieces, and together they are these instructions
abbrev pub AreOf : List Instruction → List Piece → Type 0
AreOf instrs ps = AllByRecursion IsPiece ps × (flat_map instrs_in ps ≡ instrs)

pieces_case : (wave : List Instruction) (instr : Instruction) (script : List Instruction)
    (t full : Bool) (next one more : List Piece) → AreBbops wave → length wave ≤ 16
    → is_bbop instr ≡ t → eqb (length wave) 16 ≡ full
    → (is_bbop instr ≡ true → AreOf (instr ∷ script) one)
    → (is_bbop instr ≡ true → length (wave ++ instr ∷ []) ≤ 16
    → AreOf ((wave ++ instr ∷ []) ++ script) more)
    → AreOf script next
    → AreOf (wave ++ instr ∷ script)
    (cond t (cond full (Wave wave ∷ one) more) (gathered wave ++ Alone instr ∷ next))
pieces_case wave instr script true true next one more h l e f o m n =
    let r = o e in
    let some : 0 < length wave = grind (arith, nat_tests) in
    (((h, some, l), r.0), ap (λ xs. wave ++ xs) r.1)
pieces_case wave instr script true false next one more h l e f o m n =
    let long : length (wave ++ instr ∷ []) ≡ length wave + 1 = length-append wave (instr ∷ []) in
    let below : length wave + 1 ≤ 16 = grind (arith, nat_tests) in
    let r = m e (omega (arith, long, below)) in
    (r.0, r.1 ∙ append_assoc wave (instr ∷ []) script)
pieces_case wave instr script false full next one more h l e f o m n = (
  gathered_are wave (Alone instr ∷ next) h l (e, n.0),
  gathered_whole wave (Alone instr ∷ next) ∙ ap (λ xs. wave ++ instr ∷ xs) n.1,
)

pieces_are : (wave script : List Instruction) → AreBbops wave → length wave ≤ 16
    → AreOf (wave ++ script) (pieces_from wave script)
pieces_are wave [] h l = (
  subst (AllByRecursion IsPiece) (append-nil (gathered wave)) (gathered_are wave [] h l tt),
  ap (flat_map instrs_in) (sym (append-nil (gathered wave))) ∙ gathered_whole wave [],
)
pieces_are wave (instr ∷ script) h l =
    pieces_case wave instr script (is_bbop instr) (eqb (length wave) 16) (pieces_from [] script)
    (pieces_from (instr ∷ []) script) (pieces_from (wave ++ instr ∷ []) script) h l refl refl
    (λ e. pieces_are (instr ∷ []) script (e, tt) (omega arith))
    (λ e m. pieces_are (wave ++ instr ∷ []) script (all_more wave instr h e) m)
    (pieces_are [] script tt (omega arith))

-- the pieces of a script are the script
pub pieces_are_script : PiecesAreScript
pieces_are_script script = pieces_are [] script tt (omega arith)

order_append : (g : Geometry) (operations : Routines) (table : List Named)
    (xs ys : List Instruction) → events_in_order g operations table (xs ++ ys)
    ≡ events_in_order g operations table xs
    ++ events_in_order g operations (table_at_end g operations table xs) ys
order_append g operations table [] ys = refl
order_append g operations table (x ∷ xs) ys =
    let one = if_done (refusal g operations table x)
    (job_events (job_of g operations table x) ++ own_events g table x) [] in
    ap (λ es. one ++ es) (order_append g operations (table_after g operations table x) xs ys)
    ∙ sym (append_assoc one _ _)

no_job : (g : Geometry) (operations : Routines) (table : List Named) (instr : Instruction)
    → is_bbop instr ≡ false → job_events (job_of g operations table instr) ≡ []
no_job g operations table (Bbop op dst srcs count n) h = cc
no_job g operations table (Init name count n) h = refl
no_job g operations table (Load name values) h = refl
no_job g operations table (Fill name value) h = refl
no_job g operations table (Print name) h = refl
no_job g operations table (Free name) h = refl
no_job g operations table (Order o) h = refl

alone_same : (g : Geometry) (operations : Routines) (table : List Named) (instr : Instruction)
    → is_bbop instr ≡ false
    → if_done (refusal g operations table instr) (own_events g table instr) []
    ≡ events_in_order g operations table (instr ∷ [])
alone_same g operations table instr h =
    let own = own_events g table instr in
    let r = refusal g operations table instr in
    ap (λ es. if_done r (es ++ own) []) (sym (no_job g operations table instr h))
    ∙ sym (append-nil (if_done r (job_events (job_of g operations table instr) ++ own) []))

-- a relation that the events of each piece have to its instructions' events in order
module _ (R : List Event → List Event → Type 0) (same : (es : List Event) → R es es)
    (both : (a b c d : List Event) → R a b → R c d → R (a ++ c) (b ++ d))
    (g : Geometry) (operations : Routines)
    (wave_is : (turn : Turn) (table : List Named) (wave : List Instruction) → FitsBanks g table
    → AreBbops wave → R (piece_events g operations turn table (Wave wave))
    (events_in_order g operations table wave))
  where
    piece_is : (turn : Turn) (table : List Named) (piece : Piece) → FitsBanks g table
        → IsPiece piece → R (piece_events g operations turn table piece)
        (events_in_order g operations table (instrs_in piece))
    piece_is turn table (Wave wave) f h = wave_is turn table wave f h.0
    piece_is turn table (Alone instr) f h =
        let own = if_done (refusal g operations table instr) (own_events g table instr) [] in
        subst (R own) (alone_same g operations table instr h) (same own)

    pub pieces_is : (turn : Turn) (table : List Named) (ps : List Piece) → FitsBanks g table
        → AllByRecursion IsPiece ps → R (events_of_pieces g operations turn table ps)
        (events_in_order g operations table (flat_map instrs_in ps))
    pieces_is turn table [] f h = same []
    pieces_is turn table (p ∷ ps) f h =
        let table' = table_at_end g operations table (instrs_in p) in
        let turn' = turn_after g operations turn table p in
        let es = piece_events g operations turn table p in
        let rest = events_of_pieces g operations turn' table' ps in
        subst (R (es ++ rest))
        (sym (order_append g operations table (instrs_in p) (flat_map instrs_in ps)))
        (both es (events_in_order g operations table (instrs_in p)) rest
        (events_in_order g operations table' (flat_map instrs_in ps))
        (piece_is turn table p f h.0)
        (pieces_is turn' table' ps (fits_after g operations table (instrs_in p) f) h.1))

    pub script_is : (turn : Turn) (table : List Named) (script : List Instruction)
        → FitsBanks g table → R (events_of_pieces g operations turn table (pieces script))
        (events_in_order g operations table script)
    script_is turn table script f =
        let p = pieces_are_script script in
        subst (λ (s : List Instruction). R (events_of_pieces g operations turn table
        (pieces script))
        (events_in_order g operations table s)) p.1 (pieces_is turn table (pieces script) f p.0)

wave_alike : (g : Geometry) (operations : Routines) → 0 < g.words → (turn : Turn)
    (table : List Named) (wave : List Instruction) → FitsBanks g table → AreBbops wave
    → Alike (piece_events g operations turn table (Wave wave))
    (events_in_order g operations table wave)
wave_alike g operations some turn table wave f h =
    let left = wave_queues g operations table wave in
    let picks = whole_picks in_turn g.banks turn left in
    subst (Alike (piece_events g operations turn table (Wave wave)))
    (sym (wave_in_order g operations table wave h))
    (picks_alike g.banks picks (jobs_of g operations table wave)
    (jobs_fit g operations table _ some f) (turns_whole turn g.banks left))

-- each bank sees the events of its instructions in their order, under every order in force
pub seen_in_order : SeenInOrder
seen_in_order g operations turn table script bank some f =
    script_is Alike (λ es bank. refl) Alike-append g operations (wave_alike g operations some)
    turn table script f bank

-- pieces leave the banks as their instructions one after another do
pub pieces_steps : (g : Geometry) (operations : Routines) (turn : Turn) (table : List Named)
    (ps : List Piece) (chip : Banks) → 0 < g.words → FitsBanks g table
    → AllByRecursion IsPiece ps → after (events_of_pieces g operations turn table ps) chip
    ≡ banks_at_end g operations table chip (flat_map instrs_in ps)
pieces_steps g operations turn table ps chip some f h =
    alike_after (events_of_pieces g operations turn table ps)
    (events_in_order g operations table (flat_map instrs_in ps))
    (pieces_is Alike (λ es bank. refl) Alike-append g operations (wave_alike g operations some)
    turn table ps f h) chip
    ∙ in_order_steps g operations table (flat_map instrs_in ps) chip

-- a script's events leave the banks as its instructions one after another do
pub events_are_steps : EventsAreSteps
events_are_steps g operations turn table script chip some f =
    let p = pieces_are_script script in
    pieces_steps g operations turn table (pieces script) chip some f p.0
    ∙ ap (banks_at_end g operations table chip) p.1

-- a piece's events leave the banks as its instructions one after another do
pub piece_is_steps : PieceIsSteps
piece_is_steps g operations turn table piece chip some f h =
    ap (λ es. after es chip) (sym (append-nil (piece_events g operations turn table piece)))
    ∙ pieces_steps g operations turn table (piece ∷ []) chip some f (h, tt)
    ∙ ap (banks_at_end g operations table chip) (append-nil (instrs_in piece))

-- pieces are counted by their replies and the rows that they load
pub pieces_counted : (g : Geometry) (operations : Routines) (turn : Turn) (table : List Named)
    (ps : List Piece) (k : Counters) → 0 < g.words → FitsBanks g table → AllByRecursion IsPiece ps
    → all_counted (events_of_pieces g operations turn table ps) k
    ≡ counters_at_end g operations table (flat_map instrs_in ps) k
pieces_counted g operations turn table ps k some f h =
    alike_counted (events_of_pieces g operations turn table ps)
    (events_in_order g operations table (flat_map instrs_in ps))
    (pieces_is Alike (λ es bank. refl) Alike-append g operations (wave_alike g operations some)
    turn table ps f h) k
    ∙ in_order_counted g operations table (flat_map instrs_in ps) k

-- a script's events are counted by its replies and the rows it loads
pub counted_by_replies : CountedByReplies
counted_by_replies g operations turn table script k some f =
    let p = pieces_are_script script in
    pieces_counted g operations turn table (pieces script) k some f p.0
    ∙ ap (λ xs. counters_at_end g operations table xs k) p.1

-- a piece's events are counted by its replies and the rows it loads
pub piece_counted : PieceIsCounted
piece_counted g operations turn table piece k some f h =
    ap (λ es. all_counted es k) (sym (append-nil (piece_events g operations turn table piece)))
    ∙ pieces_counted g operations turn table (piece ∷ []) k some f (h, tt)
    ∙ ap (λ xs. counters_at_end g operations table xs k) (append-nil (instrs_in piece))

no_writes : (k : Counters) → with_writes 0 k ≡ k
no_writes k = let e : k.writes + 0 ≡ k.writes = omega arith in rw e refl

pub wave_counted : WaveIsCounted
wave_counted g operations table wave ps k some f h w =
    alike_counted (events_of_picks g.banks ps (wave_queues g operations table wave))
    (flat_map job_events (jobs_of g operations table wave))
    (picks_alike g.banks ps (jobs_of g operations table wave)
    (jobs_fit g operations table _ some f) w) k
    ∙ ap (λ es. all_counted es k) (sym (wave_in_order g operations table wave h))
    ∙ in_order_counted g operations table wave k
    ∙ ap (λ n. with_writes n (with_counts k (sum_of (replies g operations table wave))))
    (waves_are_answered g operations table wave h).loaded
    ∙ no_writes (with_counts k (sum_of (replies g operations table wave)))

wave_same : (g : Geometry) (operations : Routines) → g.banks ≡ 1 → 0 < g.words → (turn : Turn)
    (table : List Named) (wave : List Instruction) → FitsBanks g table → AreBbops wave
    → piece_events g operations turn table (Wave wave) ≡ events_in_order g operations table wave
wave_same g operations one some turn table wave f h =
    let left = wave_queues g operations table wave in
    let picks = whole_picks in_turn g.banks turn left in
    picks_same g.banks picks (jobs_of g operations table wave) one
    (jobs_fit g operations table _ some f) (turns_whole turn g.banks left)
    ∙ sym (wave_in_order g operations table wave h)

both_same : (a b c d : List Event) → a ≡ b → c ≡ d → a ++ c ≡ b ++ d
both_same a b c d e f = ap (λ x. x ++ c) e ∙ ap (λ x. b ++ x) f

pub one_bank : OneBankInOrder
one_bank g operations turn table script one some f =
    let same : (es : List Event) → es ≡ es = λ es. refl in
    script_is (λ a b. a ≡ b) same both_same g operations (wave_same g operations one some) turn
    table script f
