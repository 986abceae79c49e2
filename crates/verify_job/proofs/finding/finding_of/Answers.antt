use Rattle.uprog_bin.specs.Opened.{program_of}
use Rattle.verify_job.proofs.Found.{named_there, none_named}
use Rattle.verify_job.proofs.finding.finding_of.Goals as goal

pub returns-in-None : goal.returns-in-None
returns-in-None c = λ o does.
    none_named c.args.prog.now.programs c.args.made.now.head.name o does.name c.in-None.ensures

pub returns-in_ok-verdict-in-Some : goal.returns-in_ok-verdict-in-Some
returns-in_ok-verdict-in-Some c = λ o does. (
  program_of c.entry-entry.result,
  named_there c.args.prog.now.programs c.args.made.now.head.name o c.in-Some.at
      (program_of c.entry-entry.result) does.name c.in-Some.ensures c.entry-entry.ensures.program,
  c.head.ensures.shape,
  c.in_ok-verdict-in-Some.ensures.verdict o does.shape does.code,
)
