use Rattle.cmd_trace.proofs.Common.{◌*◌, ◌∙◌, ◌++◌, ap, arith, length, bits_of_words, bytes_of_bits}
use Rattle.cmd_trace.proofs.Common.{Writes, event_head_bytes}
use Rattle.object_alloc.proofs.Rows.{length-bytes_of_bits}
use Rattle.cmd_trace.specs.Tape.{NotesView, kept_on}
use Rattle.cmd_trace.proofs.Tapes.{over_room}
use Rattle.cmd_trace.proofs.notes.Notes.keep_write.Goals as goal

pub returns-then-len-words-gt-TRACE_BYTES_MAX : goal.returns-then-len-words-gt-TRACE_BYTES_MAX
returns-then-len-words-gt-TRACE_BYTES_MAX c =
    let words = c.args.words.now in
    let text = bytes_of_bits (8 * length words) (bits_of_words words) in
    let long = length-bytes_of_bits (8 * length words) (bits_of_words words) in
    let tape : NotesView = record {
      known = c.self.inside.known;
      count = c.self.inside.count;
      since = c.self.inside.since;
      start = c.self.inside.start;
      bytes = c.self.inside.bytes.items;
    } in
    over_room tape (event_head_bytes (Writes c.args.bank c.args.row) ++ text)
    (omega (
      arith,
      long,
      c.if-len-words-gt-TRACE_BYTES_MAX.true,
      c.len.ensures,
      c.self.inside.bytes.ok.0,
    ))
    ∙ ap (λ (t : NotesView). kept_on t (event_head_bytes (Writes c.args.bank c.args.row) ++ text))
    c.self.view_is
