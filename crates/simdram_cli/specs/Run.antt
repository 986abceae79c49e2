-- The plan of `run`.
use Rattle.cli_model.specs.Plan.{Plan}
use Rattle.simdram_cli.specs.declared.words.RunNames.{RunNames}
use Rattle.simdram_cli.specs.declared.job.JobNames.{JobNames}
use Rattle.simdram_cli.specs.Plans.{compiled_plan, job_plan}

-- the files of its job
abbrev pub job_names : RunNames → JobNames
job_names names = record { script = names.script; image = names.image; out = names.out }

-- OPS is compiled and PROG stored, and then SCRIPT is done on IMAGE
abbrev pub run_plan : RunNames → Plan
run_plan names =
    compiled_plan names.ops.now names.prog.now (λ program. job_plan (job_names names) program)
