-- From a trace to the commands on a bank.
use Rattle.std.specs.Prelude.{ℕ, ◌+◌, ◌-◌, ◌*◌, List, ◌∷◌, map, slice_index}
use Rattle.std.specs.Option.{option_to_list}
use Rattle.dram_model.specs.declared.address.Addr.{Addr}
use Rattle.dram_model.specs.declared.address.Addr.TheVariants as addr
use Rattle.dram_model.specs.declared.address.Command.{Command}
use Rattle.dram_model.specs.declared.address.Command.TheVariants.{Aap, Ap}
use Rattle.uprog_code.specs.declared.code.RowSpace.{RowSpace}
use Rattle.uprog_code.specs.declared.code.RowSpace.TheVariants as space
use Rattle.uprog_code.specs.declared.code.RowRef.{RowRef}
use Rattle.uprog_code.specs.declared.binding.Binding.{Binding}
use Rattle.uprog_code.specs.Shape.{Shape}
use Rattle.uprog_code.specs.Machine.{Issue, IssueAap, IssueAp}

-- the first row of each result, of each source and of the scratch
pub record Bound : Type 0 where
  pub results : List ℕ
  pub sources : List ℕ
  pub scratch : ℕ

-- the binding that a value of the program holds: the rows of its results, sources and scratch
abbrev pub bound_of : Binding → Bound
bound_of b = record {
  results = b.result ∷ option_to_list b.second;
  sources = b.sources.items;
  scratch = b.scratch;
}

-- the address of a row at a position, in a bank of so many data rows: the spill group is the last
-- 32
abbrev pub address_in : ℕ → Shape → ℕ → Bound → RowSpace → ℕ → ℕ → Addr
address_in rows shape n b space.B which i = addr.B which
address_in rows shape n b space.C which i = addr.C which
address_in rows shape n b space.Result which i = addr.D (slice_index b.results which + i)
address_in rows shape n b space.Source which i = addr.D (slice_index b.sources which + i)
address_in rows shape n b space.ScratchBit which i = addr.D (b.scratch + which)
address_in rows shape n b space.ScratchWord which i =
    addr.D (b.scratch + shape.bits + which * n + i)
address_in rows shape n b space.Spill which i = addr.D (rows - 32 + which)

-- the row of the bank that a row of a trace stands for, at width n
abbrev pub address : ℕ → Shape → ℕ → Bound → RowRef → Addr
address rows shape n b r = address_in rows shape n b r.space r.which r.index

-- a command of a trace with the rows of the bank that it activates
abbrev pub bound_command : ℕ → Shape → ℕ → Bound → Issue → Command
bound_command rows shape n b (IssueAap x y) =
    Aap (address rows shape n b x) (address rows shape n b y)
bound_command rows shape n b (IssueAp x) = Ap (address rows shape n b x)

-- a trace's commands, each row at its address
abbrev pub bound : ℕ → Shape → ℕ → Bound → List Issue → List Command
bound rows shape n b issues = map (bound_command rows shape n b) issues
