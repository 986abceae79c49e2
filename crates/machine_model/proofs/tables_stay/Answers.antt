use Rattle.machine_model.proofs.Images.{image_stays}
use Rattle.machine_model.proofs.Tables.{table_stays}
use Rattle.machine_model.proofs.tables_stay.Goals as goal

pub returns : goal.returns
returns c = record { tables = table_stays; images = image_stays }
