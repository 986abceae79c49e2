use Rattle.uprog_code.proofs.Found.{entry_there}
use Rattle.optimise_job.proofs.search.searched_line.Goals as goal

pub said-requires-clause-made_legal : goal.said-requires-clause-made_legal
said-requires-clause-made_legal g c =
    (entry_there c.args.made.now.entries.items c.as_slice-entries.result.now c.requires.implements.0
    c.in-Some.k c.index-entries-k.result c.as_slice-entries.ensures.value c.requires.implements.1
    c.requires.made_legal c.in-Some.ensures.within c.index-entries-k.is).0

pub said-requires-clause-does : goal.said-requires-clause-does
said-requires-clause-does g c =
    (entry_there c.args.made.now.entries.items c.as_slice-entries.result.now c.requires.implements.0
    c.in-Some.k c.index-entries-k.result c.as_slice-entries.ensures.value c.requires.implements.1
    c.requires.made_legal c.in-Some.ensures.within c.index-entries-k.is).1
