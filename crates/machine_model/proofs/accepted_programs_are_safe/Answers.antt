use Rattle.machine_model.proofs.Bounds.{work_is_bounded}
use Rattle.machine_model.proofs.Grants.{grants_fit}
use Rattle.machine_model.proofs.KeptAll.{untouched_stays}
use Rattle.machine_model.proofs.Others.{bbops_leave_others}
use Rattle.machine_model.proofs.accepted_programs_are_safe.Goals as goal

pub returns : goal.returns
returns c = record {
  grants = grants_fit;
  untouched = untouched_stays;
  others = bbops_leave_others;
  bounded = work_is_bounded;
}
