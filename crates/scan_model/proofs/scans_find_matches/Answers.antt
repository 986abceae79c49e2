use Rattle.scan_model.proofs.Whole.{scan_in_words}
use Rattle.scan_model.proofs.FreeNames.{names_are_free, names_are_counted}
use Rattle.scan_model.proofs.Meant.{text_meets, text_means, text_offers}
use Rattle.scan_model.proofs.Counted.{nothing_is_moved, each_is_alone}
use Rattle.scan_model.proofs.InRows.{scan_in_rows, ones_are_found}
use Rattle.scan_model.proofs.Answered.{scan_is_plain}
use Rattle.scan_model.proofs.scans_find_matches.Goals as goal

pub returns : goal.returns
returns c = record {
  words = scan_in_words;
  names = names_are_free;
  counted_names =
      names_are_counted;
  text = record {
    meets = text_meets;
    means = text_means;
    offers =
        text_offers;
  };
  rows = scan_in_rows;
  ones = ones_are_found;
  plain = scan_is_plain;
  moved =
      nothing_is_moved;
  each = each_is_alone;
}
