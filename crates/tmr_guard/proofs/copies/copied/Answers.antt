use Rattle.tmr_guard.proofs.Common.{◌≡◌, ◌∙◌, ap, sym, subst, false, ◌||◌, List, map, list_any}
use Rattle.tmr_guard.proofs.Common.{view_of, Place, has_long_name, is_long}
use Rattle.tmr_guard.proofs.Long.{rest_no, short_at}
use Rattle.tmr_guard.proofs.copies.copied.Goals as goal

pub copy_places-requires-clause-short : goal.copy_places-requires-clause-short
copy_places-requires-clause-short c =
    let all : (is_long c.in-Bbop.dst.name
    || list_any is_long (map (λ (p : Place). p.name) c.in-Bbop.srcs.items)) ≡ false =
    sym (ap (λ i. has_long_name (view_of i)) c.in-Bbop.is) ∙ c.requires.short in
    short_at c.as_slice.result.now (subst (λ (places : List Place).
    list_any is_long (map (λ (p : Place). p.name) places) ≡ false) (sym c.as_slice.ensures.value)
    (rest_no (is_long c.in-Bbop.dst.name)
    (list_any is_long (map (λ (p : Place). p.name) c.in-Bbop.srcs.items)) all))
