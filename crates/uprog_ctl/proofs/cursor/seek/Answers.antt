use Rattle.uprog_ctl.specs.Waves.{bound_job}
use Rattle.uprog_ctl.proofs.Queue.{found, not_its}
use Rattle.uprog_ctl.proofs.cursor.seek.Goals as goal

pub returns-then-bank-job : goal.returns-then-bank-job
returns-then-bank-job g c =
    not_its c.args.g.rows c.args.bank (bound_job g.F.Fetch.shape g.F.Fetch.code c.args.job.now)
    c.args.walk.now c.if-bank-job.true

pub returns : goal.returns
returns g c =
    found c.args.g.rows c.args.bank (bound_job g.F.Fetch.shape g.F.Fetch.code c.args.job.now)
    c.args.walk.now c.next_command.new.walk c.next_command.result c.if-bank-job.false
    c.next_command.ensures
