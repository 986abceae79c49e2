use Rattle.uprog_bin.proofs.Common.{◌+◌, ◌*◌, length, drop, take, ap, ◌∙◌, arith, shape_of}
use Rattle.uprog_bin.proofs.Files.{entries_are}
use Rattle.uprog_bin.proofs.Found.{Hands, found_seen, hands}
use Rattle.uprog_bin.proofs.view.ProgView.entry.Goals as goal
use Rattle.uprog_bin.proofs.view.ProgView.entry.Goals.{After-copied}

pub bounds-listed-from : goal.bounds-listed-from
bounds-listed-from c =
    let many = entries_are c.self.inside.version c.self.inside.bytes.now c.self.inside.listed.items
    c.args.self.now
    c.self.view_is c.self.invariant in
    omega (arith, many, c.requires, c.from.ensures, ap length c.as_slice-listed.ensures.value)

pub part-code-requires : goal.part-code-requires
part-code-requires c =
    let f = found_seen c.self.inside.version c.self.inside.bytes.now c.self.inside.listed.items
    c.as_slice-listed.result.now c.args.self.now c.args.k c.from.result c.index-listed-from.result
    c.self.view_is c.self.invariant c.as_slice-listed.ensures.value c.from.ensures c.requires
    c.index-listed-from.is in
    omega (arith, f.within, c.from-2.ensures)

-- what is handed out is the entry
handed : (c : After-copied) → Hands c.self.inside.bytes.now c.args.self.now c.args.k (record {
  name = c.copied.result.name;
  shape = shape_of c.copied.result;
  bytes = c.part-code.result.now;
})
handed c =
    let bytes = c.self.inside.bytes.now in
    let xs = c.as_slice-listed.result.now in
    let l = c.index-listed-from.result in
    hands bytes c.args.self.now c.args.k l.head.name (shape_of l.head)
    (8 + 27 * length xs + 8 * l.start) l.count (record {
      name = c.copied.result.name;
      shape = shape_of c.copied.result;
      bytes = c.part-code.result.now;
    }) (found_seen c.self.inside.version bytes c.self.inside.listed.items xs c.args.self.now c.args.k
    c.from.result l c.self.view_is c.self.invariant c.as_slice-listed.ensures.value c.from.ensures
    c.requires c.index-listed-from.is) c.copied.ensures.name c.copied.ensures.shape
    (c.part-code.ensures
    ∙ ap (λ n. take (8 * n) (drop (8 + 27 * length xs + 8 * l.start) bytes)) c.from-2.ensures)

pub returns-clause-program : goal.returns-clause-program
returns-clause-program c = (handed (goal.at.returns-clause-program c).After-copied).program

pub returns-clause-bytes : goal.returns-clause-bytes
returns-clause-bytes c = (handed (goal.at.returns-clause-bytes c).After-copied).code

pub returns-clause-legal : goal.returns-clause-legal
returns-clause-legal c = (handed (goal.at.returns-clause-legal c).After-copied).legal
