-- The operations that a bbop can name: those of a text, or those of a program.
use Rattle.std.specs.Prelude.{ℕ, List, [], Option, Some, None}
use Rattle.std.specs.List.{find}
use Rattle.std.specs.Option.{option_map}
use Rattle.std.specs.Str.{bytes_eq}
use Rattle.uprog_code.specs.Shape.{Shape, Microprogram}
use Rattle.uprog_code.specs.Machine.{Issue, Trace, Stuck, trace}
use Rattle.uprog_code.specs.Implements.{Gives, Keeps}
use Rattle.uprog_code.specs.Texts.{TextOp}
use Rattle.uprog_code.specs.declared.walker.Why3.TheVariants.{Index}

-- a program as scripts see it: its entries in order
abbrev pub Program : Type 0
Program = List Microprogram

-- what a bbop names: what the operation takes and gives, and what is issued for it at each width
pub record Routine : Type 0 where
  pub shape : Shape
  pub trace : ℕ → Trace

-- by its name
abbrev pub Routines : Type 0
Routines = List ℕ → Option Routine

-- the first entry of this name
abbrev pub entry_named : Program → List ℕ → Option Microprogram
entry_named p name = find (λ e. bytes_eq e.name name) p

-- the op of a text with this name
abbrev pub text_op_named : List TextOp → List ℕ → Option TextOp
text_op_named t name = find (λ o. bytes_eq o.name name) t

-- the commands that an entry issues at a width; where there is no entry the walk is stuck
abbrev pub trace_of : Option Microprogram → ℕ → Trace
trace_of None n = Stuck 0 Index
trace_of (Some e) n = trace e.shape e.code n

-- the entry's own kinds and scratch, and its code's traces
abbrev pub routine_of : Microprogram → Routine
routine_of e = record { shape = e.shape; trace = trace_of (Some e) }

-- the operations that the entries of a program are by themselves
abbrev pub routines_in : Program → Routines
routines_in p name = option_map routine_of (entry_named p name)

-- the text's kinds and scratch, and the traces of the program's code
abbrev pub routines_of : List TextOp → Program → Routines
routines_of t p name = option_map (λ o. record {
  shape = o.shape;
  trace = trace_of (entry_named p name);
}) (text_op_named t name)

-- the numbers that the op of this name makes
abbrev pub meaning_of : Option TextOp → ℕ → List ℕ → List ℕ
meaning_of None n values = []
meaning_of (Some o) n values = o.meaning n values

-- the numbers that the ops of a text make, by name
abbrev pub meaning_in : List TextOp → List ℕ → ℕ → List ℕ → List ℕ
meaning_in t name = meaning_of (text_op_named t name)

-- the commands do an operation of this meaning at width n
pub record Performs (shape : Shape) (n : ℕ) (issues : List Issue) (meaning : List ℕ
    → List ℕ) : Type 0 where
  pub gives : Gives shape n issues meaning
  pub keeps : Keeps shape n issues
