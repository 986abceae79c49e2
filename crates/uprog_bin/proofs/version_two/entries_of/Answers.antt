use Rattle.uprog_bin.proofs.Common.{sym, ◌∙◌}
use Rattle.uprog_bin.specs.Opened.{IsProgramFile}
use Rattle.uprog_bin.proofs.Versions.{file_long}
use Rattle.uprog_bin.proofs.version_two.entries_of.Goals as goal

pub returns-clause-long : goal.returns-clause-long
returns-clause-long c =
    let view = c.in_ok-view.view in
    let opened = c.in_ok-view.ensures in
    let file : IsProgramFile c.args.bytes.now = record {
      version = view.version;
      programs = view.programs;
      is = opened.spelled.0;
      has = opened.spelled.1;
      spelled = sym opened.bytes ∙ opened.spelled.2;
    } in
    file_long c.args.bytes.now file
