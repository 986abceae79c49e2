-- The exact commands of operations: the sum over their statements.
use Rattle.std.specs.Prelude.{◌≡◌, ℕ, ◌+◌, ◌-◌, ◌*◌, ◌<◌, ◌≤◌, List, [], ◌∷◌, ◌++◌, sum_by}
use Rattle.bit_rows.specs.declared.TheConstants.{WIDTH_MAX}
use Rattle.op_text.specs.declared.tree.Param.{Param}
use Rattle.op_text.specs.declared.word_ops.WordOp.{WordOp}
use Rattle.op_text.specs.Language.{Statement, Compute, Visit, Operation}
use Rattle.op_text.specs.Scratch.{block_ceiling, defines, names_width}
use Rattle.uprog_code.specs.Machine.{trace, issues_of}
use Rattle.uprog_code.specs.declared.walker.Counts.{Counts}
use Rattle.uprog_code.specs.Count.{counts_of}
use Rattle.uprog_code.specs.Shape.{Microprogram}
use Rattle.loop_ir.specs.Plain.{Block, StepOf}
use Rattle.loop_ir.specs.Loops.{all_rounds}
use Rattle.loop_ir.specs.Costs.{turn_aaps, turn_aps}
use Rattle.uprog_gen.specs.Costs.{op_aaps, op_aps}

-- the sum over a body's statements, where these names are known: of a word operation its own
-- number, and of a block that of its bodies in all rounds
abbrev pub parts_total : (WordOp → ℕ → ℕ) → (Block → ℕ) → List Param → ℕ → List Statement
    → List (List (StepOf Block)) → ℕ
parts_total f g known n [] ps = 0
parts_total f g known n (s ∷ body) [] = 0
parts_total f g known n (Compute target second p args ∷ body) (q ∷ ps) =
    f p (names_width known n args)
    + parts_total f g (known ++ defines known (Compute target second p args)) n body ps
parts_total f g known n (Visit b ∷ body) (q ∷ ps) = sum_by (λ r. g r.part) (all_rounds n q)
    + parts_total f g (known ++ defines known (Visit b)) n body ps

-- an operation whose statements have these loop programs takes at each width exactly the commands
-- of its parts
abbrev pub IsExactOver : Microprogram → Operation → List (List (StepOf Block)) → Type 0
IsExactOver e op statements = (n : ℕ) → 0 < n → n ≤ WIDTH_MAX
    → counts_of (issues_of (trace e.shape e.code n)) ≡ record {
      aap = parts_total op_aaps turn_aaps op.params n op.body statements;
      ap = parts_total op_aps turn_aps op.params n op.body statements;
    }

-- what a serial block takes: before the positions, at each but the last one that is done, and there
pub record BlockCounts : Type 0 where
  pub start : Counts
  pub each : Counts
  pub last : Counts

-- its commands of one kind at width n
abbrev pub block_total : (Counts → ℕ) → BlockCounts → ℕ → ℕ
block_total g c n = g c.start + (n - 1) * g c.each + g c.last

-- the sum over a body's statements, where these names are known and the blocks take these: of a
-- word operation its own number, which on bits is that at width 1
abbrev pub body_total : (WordOp → ℕ → ℕ) → (Counts → ℕ) → List Param → ℕ → List Statement
    → List BlockCounts → ℕ
body_total f g known n [] cs = 0
body_total f g known n (Compute target second p args ∷ body) cs = f p (names_width known n args)
    + body_total f g (known ++ defines known (Compute target second p args)) n body cs
body_total f g known n (Visit b ∷ body) [] = 0
body_total f g known n (Visit b ∷ body) (c ∷ cs) = block_total g c n
    + body_total f g (known ++ defines known (Visit b)) n body cs

-- one for each serial block, in order, none above its block's ceiling
abbrev pub AreBlockCounts : List Statement → List BlockCounts → Type 0
AreBlockCounts [] [] = Unit {0}
AreBlockCounts [] (c ∷ cs) = ⊥
AreBlockCounts (Compute target second p args ∷ body) cs = AreBlockCounts body cs
AreBlockCounts (Visit b ∷ body) [] = ⊥
AreBlockCounts (Visit b ∷ body) (c ∷ cs) = ((n : ℕ) → 0 < n
    → block_total (λ k. k.aap) c n + block_total (λ k. k.ap) c n ≤ block_ceiling b n)
    × AreBlockCounts body cs

-- an operation's commands at width n, where its blocks take these
abbrev pub op_counts : Operation → List BlockCounts → ℕ → Counts
op_counts op blocks n = record {
  aap = body_total op_aaps (λ k. k.aap) op.params n op.body blocks;
  ap = body_total op_aps (λ k. k.ap) op.params n op.body blocks;
}

-- An operation takes at each width exactly the sum over its statements: of a word operation its
-- commands, and of a serial block by numbers that are the same at every width
pub record IsExact (e : Microprogram) (op : Operation) : Type 0 where
  pub blocks : List BlockCounts
  pub are : AreBlockCounts op.body blocks
  pub exact : (n : ℕ) → 0 < n → n ≤ WIDTH_MAX
      → counts_of (issues_of (trace e.shape e.code n)) ≡ op_counts op blocks n

-- and so each entry of a program
abbrev pub AreExact : List Microprogram → List Operation → Type 0
AreExact [] [] = Unit {0}
AreExact [] (op ∷ ops) = ⊥
AreExact (e ∷ es) [] = ⊥
AreExact (e ∷ es) (op ∷ ops) = IsExact e op × AreExact es ops
