use Rattle.scan_model.proofs.Alike.{scans_answer_alike, scans_answer_the_same}
use Rattle.scan_model.proofs.Answered.{scans_answer}
use Rattle.scan_model.proofs.scans_answer.Goals as goal

pub returns : goal.returns
returns c = record {
  answer = scans_answer;
  alike = scans_answer_alike;
  same = scans_answer_the_same;
}
