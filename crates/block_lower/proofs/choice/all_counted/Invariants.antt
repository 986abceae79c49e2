use Rattle.block_lower.proofs.Common.{map, take}
use Rattle.block_lower.specs.Choice.{AreCounted, sketch_of}
use Rattle.block_lower.proofs.choice.all_counted.Given as goal

-- the offers before this one are counted
abbrev pub invariant-loop-offer : goal.invariant-loop-offer
invariant-loop-offer l = AreCounted l.reads l.writes l.first.mig l.first.outs.items
    (map sketch_of (take l.offer-index l.offers)) l.others.items
