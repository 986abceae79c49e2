-- Operations without where they lie in memory.
use Rattle.std.specs.Prelude.{ℕ, Bool, List, ◌∷◌, map, Option}
use Rattle.std.specs.Option.{option_to_list}
use Rattle.op_text.specs.declared.word_ops.WordOp.{WordOp}
use Rattle.op_text.specs.declared.tree.Param.{Param}
use Rattle.op_text.specs.declared.tree.State.{State}
use Rattle.op_text.specs.declared.tree.Assign.{Assign}
use Rattle.op_text.specs.declared.tree.Stmt.{Stmt}
use Rattle.op_text.specs.declared.tree.Stmt.TheVariants.{Word, Serial}
use Rattle.op_text.specs.declared.tree.Op.{Op}
use Rattle.op_text.specs.declared.tree.Ops.{Ops}
use Rattle.op_text.specs.declared.tree.Expr.{Expr}
use Rattle.op_text.specs.declared.tree.Expr.TheVariants.{Zero, One, Read, Not', And', Or', Xor'}
use Rattle.op_text.specs.declared.tree.Expr.TheVariants.{Maj'}

-- the value of a let or of an assignment: constants, bits that are read, and gates on them
pub data Term : Type 0 where
  Nought : Term
  Unity : Term
  Named : List ℕ → Term
  Negation : Term → Term
  Conjunction : Term → Term → Term
  Disjunction : Term → Term → Term
  Parity : Term → Term → Term
  Majority : Term → Term → Term → Term

-- the value that a parsed expression is, without where its tokens stand
abbrev pub term : Expr → Term
term Zero = Nought
term One = Unity
term (Read name) = Named name
term (Not' p a) = Negation (term a)
term (And' p a q b) = Conjunction (term a) (term b)
term (Or' p a q b) = Disjunction (term a) (term b)
term (Xor' p a q b) = Parity (term a) (term b)
term (Maj' p a q b r c) = Majority (term a) (term b) (term c)

-- a name and its value
pub record Equation : Type 0 where
  pub name : List ℕ
  pub value : Term

-- a serial block: its direction over the positions, its states with their starts, the lets and the
-- assignments of one position
pub record Block : Type 0 where
  pub down : Bool
  pub states : List State
  pub lets : List Equation
  pub assigns : List Equation

-- a word statement has a target and maybe a second one, an operation and arguments
pub data Statement : Type 0 where
  Compute : List ℕ → Option (List ℕ) → WordOp → List (List ℕ) → Statement
  Visit : Block → Statement

-- an op: its name, its one to four sources, its one or two results, and what it does in order
pub record Operation : Type 0 where
  pub name : List ℕ
  pub params : List Param
  pub result : Param
  pub second : Option Param
  pub body : List Statement

-- a parsed let or assignment as a name with its value
abbrev pub equation : Assign → Equation
equation a = record { name = a.name; value = term a.value }

-- a parsed statement, a word operation or a serial block, without where it lies in memory
abbrev pub statement : Stmt → Statement
statement (Word dst second p args) = Compute dst second p args.items
statement (Serial down states lets assigns) =
    Visit (record {
      down = down;
      states = states.items;
      lets = map equation lets.items;
      assigns = map equation assigns.items;
    })

-- a parsed op, without where it lies in memory
abbrev pub operation : Op → Operation
operation p = record {
  name = p.name;
  params = p.params.items;
  result = p.result;
  second = p.second;
  body = map statement p.body.items;
}

-- the ops of a parsed text, in its order
abbrev pub operations : Ops → List Operation
operations all = map operation all.ops.items

-- the one or two results of an operation, and their names
abbrev pub results : Operation → List Param
results op = op.result ∷ option_to_list op.second

-- the names of the results, which a body has to assign
abbrev pub result_names : Operation → List (List ℕ)
result_names op = map (λ (p : Param). p.name) (results op)
