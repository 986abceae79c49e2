use Rattle.machine_model.proofs.Pieces.{seen_in_order, events_are_steps, counted_by_replies}
use Rattle.machine_model.proofs.Pieces.{one_bank, piece_counted, piece_is_steps}
use Rattle.machine_model.proofs.Pieces.{pieces_are_script}
use Rattle.machine_model.proofs.events_are_steps.Goals as goal

pub returns : goal.returns
returns c = record {
  pieces = pieces_are_script;
  seen = seen_in_order;
  steps = events_are_steps;
  counted = counted_by_replies;
  piece_steps = piece_is_steps;
  piece_counted = piece_counted;
  one_bank = one_bank;
}
