use Rattle.uprog_bin.proofs.Common.{◌<◌, ◌^◌, length, All, List, sym, subst, EntryCode}
use Rattle.uprog_bin.proofs.Entries.{all_short}
use Rattle.uprog_bin.proofs.spelling.encode.Goals as goal

pub put_directory-requires-clause-short : goal.put_directory-requires-clause-short
put_directory-requires-clause-short c = subst
    (λ (es : List EntryCode). All (λ e. length e.code.items < 2 ^ 16) es)
    (sym c.as_slice-entries.ensures.value) (all_short c.args.p.now.entries.items c.requires.entries)
