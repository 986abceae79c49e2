use Rattle.std.proofs.Common.{ap, refl}
use Rattle.dram_model.specs.declared.address.Command.TheVariants.{Ap}
use Rattle.uprog_code.specs.Shape.{shape_of}
use Rattle.uprog_code.specs.Machine.{IssueAap, IssueAp, row_at}
use Rattle.uprog_code.specs.Commands.{row_commands}
use Rattle.uprog_code.proofs.Seek.{first_good, one_good, second_good}
use Rattle.uprog_code.proofs.address.command_at.Goals as goal

pub address_at-first-requires-clause-good : goal.address_at-first-requires-clause-good
address_at-first-requires-clause-good c =
    first_good (shape_of c.args.head.now) c.args.binding.now.n
    (row_at c.args.regs.now c.in-Aap.x) (row_at c.args.regs.now c.in-Aap.y)
    (c.requires.good _ (ap (row_commands c.args.regs.now) c.in-Aap.is))

pub address_at-requires-clause-good : goal.address_at-requires-clause-good
address_at-requires-clause-good c =
    second_good (shape_of c.args.head.now) c.args.binding.now.n
    (row_at c.args.regs.now c.in-Aap.x) (row_at c.args.regs.now c.in-Aap.y)
    (c.requires.good _ (ap (row_commands c.args.regs.now) c.in-Aap.is))

pub address_at-requires-in-Ap-clause-good : goal.address_at-requires-in-Ap-clause-good
address_at-requires-in-Ap-clause-good c =
    one_good (shape_of c.args.head.now) c.args.binding.now.n
    (row_at c.args.regs.now c.in-Ap.x)
    (c.requires.good _ (ap (row_commands c.args.regs.now) c.in-Ap.is))

pub returns-in-Aap : goal.returns-in-Aap
returns-in-Aap c = (
  IssueAap (row_at c.args.regs.now c.in-Aap.x) (row_at c.args.regs.now c.in-Aap.y),
  ap (row_commands c.args.regs.now) c.in-Aap.is,
  rw (c.address_at-first.ensures, c.address_at.ensures) refl,
)

pub returns-in-Ap : goal.returns-in-Ap
returns-in-Ap c = (
  IssueAp (row_at c.args.regs.now c.in-Ap.x),
  ap (row_commands c.args.regs.now) c.in-Ap.is,
  ap Ap c.address_at-in-Ap.ensures,
)
