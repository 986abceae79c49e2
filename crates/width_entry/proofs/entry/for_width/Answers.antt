use Rattle.width_entry.proofs.Common.{◌≡◌, ◌+◌, ◌≤◌, ◌<◌, List, length, sym, ap, ◌∙◌, arith, ◌^◌}
use Rattle.width_entry.proofs.Common.{false≢true, Uop, Microprogram, Shape, shape_of}
use Rattle.width_entry.specs.Lines.{AreNameable, first_unnamed, issues}
use Rattle.width_entry.specs.Code.{behind, line_code}
use Rattle.width_entry.proofs.Lines.{line_room_is}
use Rattle.width_entry.proofs.Made.{made_is, made_legal}
use Rattle.width_entry.proofs.Named.{none_unnamed}
use Rattle.width_entry.proofs.entry.for_width.Given.{Over}
use Rattle.width_entry.proofs.entry.for_width.Goals as goal

pub returns-then-has_no_room-clause-long : goal.returns-then-has_no_room-clause-long
returns-then-has_no_room-clause-long g c = λ e.
    let long = c.has_no_room.ensures.0 c.if-has_no_room.true in
    let line = ap length c.in-Ok.ensures in
    let room = line_room_is (issues c.args.line.now) in
    let first = c.len.ensures in
    let second = c.len-2.ensures in
    omega (arith, long, line, room, first, second)

-- the entry as a program's
abbrev own_of : (g : Over) → goal.After-drop-line-2 g → Microprogram
own_of g c = record {
  name = g.F.Fetch.name c.args.entry.now;
  shape = g.F.Fetch.shape c.args.entry.now;
  code = g.F.Fetch.code c.args.entry.now;
}

named : (g : Over) (c : goal.After-drop-line-2 g)
    → AreNameable (own_of g c).shape c.args.n (issues c.args.line.now)
named g c =
    let none = c.in_default.ensures
    ∙ ap (λ (s : Shape). first_unnamed s c.args.n c.args.line.now) c.head-head.ensures.shape in
    none_unnamed (own_of g c).shape c.args.n c.args.line.now none

room : (g : Over) (c : goal.After-drop-line-2 g)
    → length (line_code (issues c.args.line.now)) + 11 + length (own_of g c).code < 2 ^ 16
room g c =
    let long = ap length c.in-Ok.ensures in
    let first = c.len.ensures in
    let second = c.len-2.ensures in
    let not_long : 2 ^ 16 ≤ c.len.result + 11 + c.len-2.result → ⊥ = λ h.
    false≢true (sym c.if-has_no_room.false ∙ c.has_no_room.ensures.1 h) in
    omega (arith, long, first, second, not_long)

code_is : (g : Over) (c : goal.After-drop-line-2 g) → c.in-Ok-code_for.code.items
    ≡ behind c.args.n (line_code (issues c.args.line.now)) (own_of g c).code
code_is g c =
    c.in-Ok-code_for.ensures
    ∙ ap (λ (us : List Uop). behind c.args.n us (own_of g c).code)
    (c.deref.ensures.value ∙ c.in-Ok.ensures)

pub returns-clause-made : goal.returns-clause-made
returns-clause-made g c =
    let head = c.head-head.result in
    made_is (own_of g c) c.args.n (issues c.args.line.now) c.requires.some c.requires.narrow
    (named g c) (room g c) head.name (shape_of head) c.in-Ok-code_for.code.items
    c.head-head.ensures.name c.head-head.ensures.shape (code_is g c)

pub returns-clause-legal : goal.returns-clause-legal
returns-clause-legal g c =
    made_legal (own_of g c) c.args.n (issues c.args.line.now) c.requires.some c.requires.narrow
    (named g c) (room g c) (shape_of c.head-head.result) c.in-Ok-code_for.code.items
    c.requires.legal c.head-head.ensures.shape (code_is g c)
