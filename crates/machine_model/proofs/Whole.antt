-- Every step, and so every script.
use Rattle.machine_model.proofs.Common.{ℕ, ◌<◌, List, [], ◌∷◌, AllByRecursion, Geometry}
use Rattle.machine_model.proofs.Common.{Instruction, Init, Bbop, Load, Fill, Print, Free, Order}
use Rattle.machine_model.specs.Routines.{Routines, routines_of, meaning_in}
use Rattle.machine_model.specs.Agrees.{DoesAll, IsPlain}
use Rattle.machine_model.specs.Laws.{RowsGiveWords, TextGivesWords}
use Rattle.machine_model.proofs.Steps.{StepAgrees, bbop_agrees, print_agrees, free_agrees}
use Rattle.machine_model.proofs.Steps.{order_agrees}
use Rattle.machine_model.proofs.Makes.{init_agrees, fill_agrees}
use Rattle.machine_model.proofs.Loaded.{load_agrees}
use Rattle.machine_model.proofs.Scripts.{script_agrees}
use Rattle.machine_model.proofs.Texts.{does_all}

-- each instruction on the rows gives what the word machine gives
pub every_step : (g : Geometry) (operations : Routines) (meaning : List ℕ → ℕ → List ℕ
    → List ℕ) (instr : Instruction) → 0 < g.words → DoesAll operations meaning → IsPlain instr
    → StepAgrees g operations meaning instr
every_step g operations meaning (Init name count n) words does plain =
    init_agrees g operations meaning name count n plain.1.0 words
every_step g operations meaning (Bbop op dst srcs count n) words does plain =
    bbop_agrees g operations meaning op dst srcs count n (λ o e. does op o e n plain.0 plain.1)
every_step g operations meaning (Load name values) words does plain =
    load_agrees g operations meaning name values words
every_step g operations meaning (Fill name value) words does plain =
    fill_agrees g operations meaning name value
every_step g operations meaning (Print name) words does plain =
    print_agrees g operations meaning name
every_step g operations meaning (Free name) words does plain = free_agrees g operations meaning name
every_step g operations meaning (Order o) words does plain = order_agrees g operations meaning o

every_steps : (g : Geometry) (operations : Routines) (meaning : List ℕ → ℕ → List ℕ
    → List ℕ) (script : List Instruction) → 0 < g.words → DoesAll operations meaning
    → AllByRecursion IsPlain script → AllByRecursion (StepAgrees g operations meaning) script
every_steps g operations meaning [] words does plain = tt
every_steps g operations meaning (instr ∷ script) words does plain = (
  every_step g operations meaning instr words does plain.0,
  every_steps g operations meaning script words does plain.1,
)

-- after a script the banks hold what the word machine holds
pub rows_give_words : RowsGiveWords
rows_give_words g operations meaning script words does plain =
    script_agrees g operations meaning script
    (every_steps g operations meaning script words does plain)

-- so it is with a program that does a text
pub text_gives_words : TextGivesWords
text_gives_words g p t script words i plain =
    rows_give_words g (routines_of t p) (meaning_in t) script words (does_all p t i) plain
