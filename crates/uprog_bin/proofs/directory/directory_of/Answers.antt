use Rattle.uprog_bin.proofs.Common.{◌≡◌, ◌+◌, ◌-◌, ◌∷◌, [], ◌++◌, List, sym, ap, ◌∙◌, arith, Ok}
use Rattle.uprog_bin.proofs.Common.{Err, err_from_is_err_and}
use Rattle.uprog_bin.specs.declared.directory.Listed.{Listed}
use Rattle.uprog_bin.specs.Reading.{listing_at, directory_at, listings_of, listing_of, Listing}
use Rattle.uprog_bin.proofs.Listings.{listings_more, directory_more, directory_fault}
use Rattle.uprog_bin.proofs.Listings.{directory_done}
use Rattle.uprog_bin.proofs.directory.directory_of.Goals as goal

pub returns-in_err-next-clause-gives : goal.returns-in_err-next-clause-gives
returns-in_err-next-clause-gives c =
    let p = err_from_is_err_and c.from_residual.result c.from_residual.ensures.1 in
    let k = c.loop-k in
    let here : listing_at c.args.version (listings_of k.listed.items) k.start k.at c.args.bytes.now
    ≡ Err c.in_err-next.field-0.0 =
    ap (λ (ls : List Listed). listing_at c.args.version (listings_of ls) k.start k.at
    c.args.bytes.now)
    (sym c.as_slice.ensures.value) ∙ c.in_err-next.ensures.gives in
    rw (p.1, p.2) (directory_fault c.args.version c.args.count k._k (listings_of k.listed.items)
    k.start k.at
    c.args.bytes.now c.in_err-next.field-0.0 (directory_at c.args.version c.args.count [] 0 8
    c.args.bytes.now)
    c.loop-k-test.true here k.invariant.so_far)

pub loop-k-preserved : goal.loop-k-preserved
loop-k-preserved c =
    let k = c.loop-k in
    let next = c.in_ok-next.next in
    let here : listing_at c.args.version (listings_of k.listed.items) k.start k.at c.args.bytes.now
    ≡ Ok (listing_of next) =
    ap (λ (ls : List Listed). listing_at c.args.version (listings_of ls) k.start k.at
    c.args.bytes.now)
    (sym c.as_slice.ensures.value) ∙ c.in_ok-next.ensures.gives in
    let more = directory_more c.args.version c.args.count k._k (listings_of k.listed.items) k.start
    k.at
    c.args.bytes.now (listing_of next) (directory_at c.args.version c.args.count [] 0 8
    c.args.bytes.now)
    c.loop-k-test.true here k.invariant.so_far in
    let all : listings_of c.push.new.self.items ≡ listings_of k.listed.items ++ listing_of next
    ∷ [] = ap listings_of c.push.ensures.items ∙ listings_more k.listed.items next in
    record {
      len = omega (arith, c.push.ensures.len, k.invariant.len);
      place = omega (arith, k.invariant.place);
      within = omega (arith, c.in_ok-next.ensures.within);
      small = omega (arith, k.invariant.small, c.from-start.ensures, c.in_ok-next.ensures.count);
      so_far =
          ap (λ (ls : List Listing). directory_at c.args.version (c.args.count - (k._k + 1)) ls
          (k.start
          + c.from-start.result) (k.at + 27) c.args.bytes.now) all
          ∙ ap (λ n. directory_at c.args.version (c.args.count - (k._k + 1))
          (listings_of k.listed.items
          ++ listing_of next ∷ []) (k.start + n) (k.at + 27) c.args.bytes.now)
          c.from-start.ensures
          ∙ more;
    }

pub returns-clause-gives : goal.returns-clause-gives
returns-clause-gives c = directory_done c.args.version c.args.count c.loop-k._k
    (listings_of c.loop-k.listed.items)
    c.loop-k.start c.loop-k.at c.args.bytes.now
    (directory_at c.args.version c.args.count [] 0 8 c.args.bytes.now)
    c.loop-k-test.false c.loop-k.invariant.so_far
