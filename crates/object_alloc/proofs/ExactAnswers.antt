-- What the reader answers.
use Rattle.object_alloc.proofs.Common.{◌≡◌, List, ℕ, Result, Ok, Err, IsBytes}
use Rattle.std.specs.Prelude.{IfOk}
use Rattle.object_alloc.specs.declared.fault.ImageNo.{ImageNo}
use Rattle.object_alloc.specs.declared.image.Image.{Image}
use Rattle.object_alloc.specs.Spelling.{IsImage, image_bytes, rows_in}
use Rattle.object_alloc.specs.Reading.{Answers, image_in}
use Rattle.object_alloc.specs.Exact.{found_in}
use Rattle.object_alloc.proofs.Exact.{image_spelled}

pub is_spelled : (bytes : List ℕ) (r : Result Image ImageNo) → IsBytes bytes
    → Answers found_in r (image_in bytes)
    → IfOk r (λ i. let rows = rows_in i.geometry i.rows.now in IsImage i.geometry i.table.pairs rows
    × (bytes ≡ image_bytes i.geometry i.table.pairs rows))
is_spelled bytes (Ok i) fits given = image_spelled bytes (found_in i) fits given
is_spelled bytes (Err e) fits given = tt
