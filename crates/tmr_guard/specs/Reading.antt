-- What the parts of the reader of flips answer. Want of memory may come in place of each.
use Rattle.std.specs.Prelude.{◌≡◌, ℕ, List, Option, Some, None, Result, Ok, Err, Vec}
use Rattle.std.specs.Global.{Global}
use Rattle.std.specs.Option.{option_map}
use Rattle.text_lex.specs.Lexical.{items_of}
use Rattle.dram_model.specs.declared.geometry.Geometry.{Geometry}
use Rattle.bbop_isa.specs.Words.{words_in}
use Rattle.guard_model.specs.declared.Flip.{Flip}
use Rattle.guard_model.specs.declared.FlipsKind.TheVariants.{Lex}
use Rattle.guard_model.specs.FlipText.{numbers_of, flip_in, flips_of}
use Rattle.tmr_guard.specs.declared.texts.FlipLineError.{FlipLineError}
use Rattle.tmr_guard.specs.declared.texts.FlipLineError.TheVariants as line_no
use Rattle.tmr_guard.specs.declared.texts.FlipsNo.{FlipsNo}
use Rattle.tmr_guard.specs.declared.texts.FlipsNo.TheVariants as no

-- the numbers of the line, where its words are all numbers, or a byte of it starts no token
abbrev pub NumbersOf : List ℕ → Result (Option (Vec (Option ℕ) Global)) FlipLineError → Type 0
NumbersOf line (Ok found) = option_map numbers_of (words_in (items_of line))
    ≡ Some (option_map (λ v. v.items) found)
NumbersOf line (Err (line_no.Bad kind)) = (words_in (items_of line) ≡ None) × (kind ≡ Lex)
NumbersOf line (Err line_no.NoMemory) = Unit {0}

-- what the line says
abbrev pub FlipIn : Geometry → ℕ → ℕ → List ℕ → Result (Option Flip) FlipLineError → Type 0
FlipIn g instrs before line (Ok f) = flip_in g instrs before (words_in (items_of line)) ≡ Ok f
FlipIn g instrs before line (Err (line_no.Bad kind)) =
    flip_in g instrs before (words_in (items_of line)) ≡ Err kind
FlipIn g instrs before line (Err line_no.NoMemory) = Unit {0}

-- the text is refused with this fault, or there was no memory
abbrev pub Refused : Geometry → ℕ → List ℕ → FlipsNo → Type 0
Refused g instrs text (no.Fault fault) = flips_of g instrs text ≡ Err fault
Refused g instrs text no.NoMemory = Unit {0}
