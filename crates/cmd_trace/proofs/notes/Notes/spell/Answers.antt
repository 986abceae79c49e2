use Rattle.cmd_trace.proofs.Common.{◌≡◌, ◌+◌, ◌*◌, ◌-◌, ◌≤◌, ◌++◌, ◌∙◌, length, drop, ap, arith}
use Rattle.cmd_trace.proofs.Common.{sym, to_le_bytes, w32, trace_head}
use Rattle.std.specs.Vec.{with_items}
use Rattle.std.proofs.lemmas.List.{with_items_is}
use Rattle.cmd_trace.specs.Tape.{NotesView, kept_in}
use Rattle.cmd_trace.specs.declared.sizes.TheConstants.{HEAD_BYTES_MAX}
use Rattle.cmd_trace.proofs.Places.{head_file, head_kept, put_length}
use Rattle.cmd_trace.proofs.notes.Notes.spell.Goals as goal

pub returns-clause-file : goal.returns-clause-file
returns-clause-file c =
    let table = c.args.table.now.pairs in
    let head = trace_head c.args.g table ++ to_le_bytes w32 c.self.inside.count in
    let start = HEAD_BYTES_MAX - (14 + 24 * c.from.result + 4) in
    let old = c.as_mut_slice.result.now in
    let new = c.put_head.new.out in
    let bytes = c.self.inside.bytes in
    let room : HEAD_BYTES_MAX ≤ length old =
    omega (arith, c.self.invariant.1, ap length c.as_mut_slice.ensures.value) in
    let ends : HEAD_BYTES_MAX ≡ start + length head =
    omega (
      arith,
      c.put_head.ensures.len,
      c.from.ensures,
      c.len.ensures.value,
      c.len.ensures.kept.few,
    ) in
    let long = put_length start head old new (omega (arith, ends, room)) c.put_head.ensures.put in
    let items : (with_items bytes new).items ≡ new =
    with_items_is bytes new (long ∙ ap length c.as_mut_slice.ensures.value ∙ sym bytes.ok.0) in
    ap (drop start) items
    ∙ head_file start HEAD_BYTES_MAX head old new bytes.items c.as_mut_slice.ensures.value room ends
    c.put_head.ensures.put
    ∙ ap (λ (t : NotesView). (trace_head c.args.g table ++ to_le_bytes w32 t.count) ++ kept_in t)
    c.self.view_is

pub returns-clause-kept : goal.returns-clause-kept
returns-clause-kept c =
    let table = c.args.table.now.pairs in
    let head = trace_head c.args.g table ++ to_le_bytes w32 c.self.inside.count in
    let start = HEAD_BYTES_MAX - (14 + 24 * c.from.result + 4) in
    let old = c.as_mut_slice.result.now in
    let new = c.put_head.new.out in
    let bytes = c.self.inside.bytes in
    let room : HEAD_BYTES_MAX ≤ length old =
    omega (arith, c.self.invariant.1, ap length c.as_mut_slice.ensures.value) in
    let ends : HEAD_BYTES_MAX ≡ start + length head =
    omega (
      arith,
      c.put_head.ensures.len,
      c.from.ensures,
      c.len.ensures.value,
      c.len.ensures.kept.few,
    ) in
    let long = put_length start head old new (omega (arith, ends, room)) c.put_head.ensures.put in
    let items : (with_items bytes new).items ≡ new =
    with_items_is bytes new (long ∙ ap length c.as_mut_slice.ensures.value ∙ sym bytes.ok.0) in
    ap (drop HEAD_BYTES_MAX) items
    ∙ head_kept start HEAD_BYTES_MAX head old new bytes.items c.as_mut_slice.ensures.value room ends
    c.put_head.ensures.put ∙ ap kept_in c.self.view_is
