-- What `cost` says of a program that `compile` wrote.
use Rattle.std.specs.Prelude.{◌≡◌, ℕ, Bool, List, [], ◌∷◌, ◌++◌, Ok, codes}
use Rattle.std.specs.List.{flat_map}
use Rattle.host_edge.specs.Views.{Files, Known}
use Rattle.op_text.specs.Language.{Operation}
use Rattle.uprog_code.specs.Texts.{op_shape}
use Rattle.uprog_gen.specs.Totals.{AreExact, BlockCounts, op_counts}
use Rattle.prog_text.specs.Costs.{at_text, cost_text}
use Rattle.prog_text.specs.Widths.{is_single}
use Rattle.machine_model.specs.Routines.{Program}
use Rattle.cli_model.specs.World.{World}
use Rattle.simdram_cli.specs.declared.account.ProgramAccount.{ProgramAccount}
use Rattle.simdram_cli.specs.declared.account.ProgramAccount.TheVariants.{Listing, Costs}
use Rattle.simdram_cli.specs.declared.words.CompileNames.{CompileNames}
use Rattle.simdram_cli.specs.Accounts.{IsAsked, ProgramTold}
use Rattle.simdram_cli.specs.Compile.{Compiled}

-- the line of an op at a width, where its serial blocks take these
abbrev pub exact_line : Bool → Operation → List BlockCounts → ℕ → List ℕ
exact_line single op blocks n = op.name ++ at_text single n
    ++ cost_text (op_shape op) n (Ok (op_counts op blocks n)) ++ codes "\n"

-- the lines of each op
abbrev pub exact_costs : List ℕ → List Operation → List (List BlockCounts) → List ℕ
exact_costs widths [] bs = []
exact_costs widths (op ∷ ops) [] = []
exact_costs widths (op ∷ ops) (b ∷ bs) =
    flat_map (exact_line (is_single widths) op b) widths ++ exact_costs widths ops bs

-- the numbers of each op's serial blocks by which its entry is exact at all widths
abbrev pub blocks_of : (p : Program) (ops : List Operation) → AreExact p ops
    → List (List BlockCounts)
blocks_of [] [] x = []
blocks_of [] (op ∷ ops) x = []
blocks_of (e ∷ p) [] x = []
blocks_of (e ∷ p) (op ∷ ops) x = x.0.blocks ∷ blocks_of p ops x.1

-- of costs there was sent, for each op and width, the sum over its statements with these blocks
abbrev pub AccountIsExact : List Operation → List (List BlockCounts) → ProgramAccount
    → World → World → Type 0
AccountIsExact ops blocks Listing old new = Unit {0}
AccountIsExact ops blocks (Costs widths) old new =
    Known (λ x y. y ≡ x ++ exact_costs widths.items ops blocks) old.sink.sent new.sink.sent

-- a `cost` of PROG that `compile` stored sends these sums by the numbers exact at all widths
abbrev pub CostsOfCompiled : Type 0
CostsOfCompiled =
    (names : CompileNames) (before after last : Files) (a b c d : World) (account : ProgramAccount)
    → IsAsked account → (k : Compiled names before after a b)
    → ProgramTold names.prog.now account after last c d
    → AccountIsExact k.compiled.ops (blocks_of k.program k.compiled.ops k.compiled.exact) account
    c d
