-- What is read spells a query.
use Rattle.scan_query.proofs.Common.{◌≡◌, ℕ, ◌+◌, Bool, true, false, List, [], ◌∷◌, ◌++◌, map}
use Rattle.scan_query.proofs.Common.{length, Result, Ok, Err, Option, Some, None, ◌-◌, refl, sym}
use Rattle.scan_query.proofs.Common.{ap, ◌∙◌, arith, codes, append_assoc, length-append, map-append}
use Rattle.scan_query.proofs.Common.{length-map, Compare, Negate, Test, nodes_from, size, size_is}
use Rattle.std.specs.Result.{IfOk, OnOk}
use Rattle.scan_model.specs.declared.CmpOp.{CmpOp}
use Rattle.bbop_isa.specs.declared.instr.Part.{Part}
use Rattle.bbop_isa.specs.declared.instr.Place.{Place}
use Rattle.scan_model.specs.Queries.{Whole, Bit, Bits, last_from}
use Rattle.scan_model.specs.Queries as query
use Rattle.scan_model.specs.Texts as model
use Rattle.scan_query.specs.declared.query.Node.{Node}
use Rattle.scan_query.specs.declared.reading.ReadError.{ReadError}
use Rattle.scan_query.specs.Queries.{node_of}
use Rattle.scan_query.specs.Reading.{ParserView, Reads, SpellsPart, SpellsPlace, join_node}
use Rattle.scan_query.specs.Reading.{join_text, left}

pub test_reads : (r : Result ℕ ReadError) (op : CmpOp) (place : Place) (v : ℕ)
    (w0 w1 w2 w3 : List model.Word) (new : ParserView) (before after : List Node) (node : Node)
    → w0 ≡ model.Opens ∷ w1 → SpellsPlace w1 place w2
    → w2 ≡ model.Number v ∷ w3 → w3 ≡ model.Closes ∷ left new
    → IfOk r (λ k. k ≡ length before) → OnOk r (after ≡ before ++ node ∷ [])
    → node_of node ≡ Test op place v
    → IfOk r (λ k. Reads (model.Name (model.lead_text (model.Compares op)) ∷ w0) k new
    (map node_of before) (map node_of after))
test_reads (Err e) op place v w0 w1 w2 w3 new before after node a b c d last nodes is = tt
test_reads (Ok k) op place v w0 w1 w2 w3 new before after node a (o, means, spells) c d last nodes
    is =
    let many = length-map before node_of in
    record {
      tree = Compare op o v;
      spelling = ap (λ ws. model.Name (model.lead_text (model.Compares op)) ∷ ws)
          (a ∙ ap (λ ws. model.Opens ∷ ws) (spells
          ∙ ap (λ ws. model.in_front o (model.Comma ∷ ws)) (c
          ∙ ap (λ ws. model.Number v ∷ ws) d)));
      nodes = ap (map node_of) nodes ∙ map-append node_of before (node ∷ [])
          ∙ ap (λ n. map node_of before ++ n ∷ []) (is ∙ ap (λ p. Test op p v) (sym means));
      last = omega (arith, last, many);
    }

-- ---- what an operand is spelled by

pub whole_part : (rest : List model.Word) → SpellsPart (model.Comma ∷ rest) None
    (model.Comma ∷ rest)
whole_part rest name = (Whole name, refl, refl)

pub one_bit : (low : ℕ) (words rest : List model.Word) → words ≡ model.ClosesBits ∷ rest
    → SpellsPart (model.OpensBits ∷ model.Number low ∷ words)
    (Some (record { low = low; size = 1 })) rest
one_bit low words rest e name =
    (Bit name low, refl, ap (λ ws. model.Name name ∷ model.OpensBits ∷ model.Number low ∷ ws) e)

pub more_bits : (low high : ℕ) (w0 w1 w2 rest : List model.Word) → w0 ≡ model.Colon ∷ w1
    → w1 ≡ model.Number high ∷ w2 → w2 ≡ model.ClosesBits ∷ rest
    → SpellsPart (model.OpensBits ∷ model.Number low ∷ w0)
    (Some (record { low = low; size = high - low })) rest
more_bits low high w0 w1 w2 rest a b c name = (
  Bits name low high,
  refl,
  ap (λ ws. model.Name name ∷ model.OpensBits ∷ model.Number low ∷ ws)
      (a ∙ ap (λ ws. model.Colon ∷ ws) (b ∙ ap (λ ws. model.Number high ∷ ws) c)),
)

-- words that are other words
pub part_along : (words more rest then : List model.Word) (part : Option Part) → words ≡ more
    → rest ≡ then → SpellsPart more part rest → SpellsPart words part then
part_along words more rest then part e f h name =
    let (o, means, spells) = h name in
    (o, means, ap (λ ws. model.Name name ∷ ws) e ∙ spells ∙ ap (model.in_front o) f)

pub place_spelled : (words mid rest : List model.Word) (name : List ℕ) (part : Option Part)
    → words ≡ model.Name name ∷ mid → SpellsPart mid part (model.Comma ∷ rest)
    → SpellsPlace words (record { name = name; part = part }) rest
place_spelled words mid rest name part e h =
    let (o, means, spells) = h name in (o, means, e ∙ spells)

-- a query in front of a mark, and one node more
pub not_reads : (r : Result ℕ ReadError) (k : ℕ) (w0 w1 w2 : List model.Word) (mid new : ParserView)
    (before during after : List Node) (node : Node) → w0 ≡ model.Opens ∷ w1
    → Reads w1 k mid (map node_of before) (map node_of during)
    → left mid ≡ model.Closes ∷ left new
    → IfOk r (λ n. n ≡ length during) → OnOk r (after ≡ during ++ node ∷ [])
    → node_of node ≡ query.Not k
    → IfOk r (λ n. Reads (model.Name (codes "not") ∷ w0) n new (map node_of before)
    (map node_of after))
not_reads (Err e) k w0 w1 w2 mid new before during after node a h b last nodes is = tt
not_reads (Ok n) k w0 w1 w2 mid new before during after node a h b last nodes is =
    let many = length-map during node_of in
    let all = ap length h.nodes in
    let parts = length-append (map node_of before) (nodes_from (length (map node_of before))
    h.tree) in
    let sizes = size_is (length (map node_of before)) h.tree in
    record {
      tree = Negate h.tree;
      spelling = ap (λ ws. model.Name (codes "not") ∷ ws) (a ∙ ap (λ ws. model.Opens ∷ ws)
          (h.spelling ∙ ap (model.spelled h.tree) b));
      nodes = ap (map node_of) nodes ∙ map-append node_of during (node ∷ [])
          ∙ ap (λ n. map node_of during ++ n ∷ []) (is ∙ ap query.Not h.last)
          ∙ ap (λ ns. ns ++ query.Not (last_from (length (map node_of before)) h.tree) ∷ [])
          h.nodes
          ∙ append_assoc (map node_of before) (nodes_from (length (map node_of before)) h.tree)
          (query.Not (last_from (length (map node_of before)) h.tree) ∷ []);
      last = omega (arith, last, many, all, parts, sizes);
    }

-- two queries in front of a comma and a mark, and one node more
pub join_reads : (r : Result ℕ ReadError) (both : Bool) (k j : ℕ) (w0 w1 w2 w3 : List model.Word)
    (mid later new : ParserView) (before during then after : List Node) (node : Node)
    → w0 ≡ model.Opens ∷ w1
    → Reads w1 k mid (map node_of before) (map node_of during)
    → left mid ≡ model.Comma ∷ w3
    → Reads w3 j later (map node_of during) (map node_of then)
    → left later ≡ model.Closes ∷ left new
    → IfOk r (λ n. n ≡ length then) → OnOk r (after ≡ then ++ node ∷ [])
    → node_of node ≡ join_node both k j
    → IfOk r (λ n. Reads (model.Name (join_text both) ∷ w0) n new (map node_of before)
    (map node_of after))
join_reads (Err e) both k j w0 w1 w2 w3 mid later new before during then after node a h b i d last
    nodes is = tt
join_reads (Ok n) true k j w0 w1 w2 w3 mid later new before during then after node a h b i d last
    nodes is =
    let start = length (map node_of before) in
    let many = length-map then node_of in
    let first = ap length h.nodes in
    let parts = length-append (map node_of before) (nodes_from start h.tree) in
    let sizes = size_is start h.tree in
    let middle : length (map node_of during) ≡ start + size h.tree =
    omega (arith, first, parts, sizes) in
    let second = ap length i.nodes in
    let parts' = length-append (map node_of during) (nodes_from (length (map node_of during))
    i.tree) in
    let sizes' = size_is (length (map node_of during)) i.tree in
    let right : j ≡ last_from (start + size h.tree) i.tree = i.last
    ∙ ap (λ x. last_from x i.tree) middle in
    let node_is : node_of node ≡ query.And (last_from start h.tree)
    (last_from (start + size h.tree) i.tree) = is ∙ ap (λ x. query.And x j) h.last
    ∙ ap (query.And (last_from start h.tree)) right in
    let back = nodes_from (start + size h.tree) i.tree in
    let end = query.And (last_from start h.tree) (last_from (start + size h.tree) i.tree) in
    record {
      tree = query.Both h.tree i.tree;
      spelling = ap (λ ws. model.Name (codes "and") ∷ ws) (a ∙ ap (λ ws. model.Opens ∷ ws)
          (h.spelling ∙ ap (model.spelled h.tree) (b ∙ ap (λ ws. model.Comma ∷ ws)
          (i.spelling ∙ ap (model.spelled i.tree) d))));
      nodes = ap (map node_of) nodes ∙ map-append node_of then (node ∷ [])
          ∙ ap (λ x. map node_of then ++ x ∷ []) node_is
          ∙ ap (λ ns. ns ++ end ∷ []) (i.nodes
          ∙ ap (λ x. map node_of during ++ nodes_from x i.tree) middle
          ∙ ap (λ ns. ns ++ back) h.nodes
          ∙ append_assoc (map node_of before) (nodes_from start h.tree) back)
          ∙ append_assoc (map node_of before) (nodes_from start h.tree ++ back) (end ∷ [])
          ∙ ap (λ ns. map node_of before ++ ns)
          (append_assoc (nodes_from start h.tree) back (end ∷ []));
      last = omega (arith, last, many, first, parts, sizes, second, parts', sizes');
    }
join_reads (Ok n) false k j w0 w1 w2 w3 mid later new before during then after node a h b i d last
    nodes is =
    let start = length (map node_of before) in
    let many = length-map then node_of in
    let first = ap length h.nodes in
    let parts = length-append (map node_of before) (nodes_from start h.tree) in
    let sizes = size_is start h.tree in
    let middle : length (map node_of during) ≡ start + size h.tree =
    omega (arith, first, parts, sizes) in
    let second = ap length i.nodes in
    let parts' = length-append (map node_of during) (nodes_from (length (map node_of during))
    i.tree) in
    let sizes' = size_is (length (map node_of during)) i.tree in
    let right : j ≡ last_from (start + size h.tree) i.tree = i.last
    ∙ ap (λ x. last_from x i.tree) middle in
    let node_is : node_of node ≡ query.Or (last_from start h.tree)
    (last_from (start + size h.tree) i.tree) = is ∙ ap (λ x. query.Or x j) h.last
    ∙ ap (query.Or (last_from start h.tree)) right in
    let back = nodes_from (start + size h.tree) i.tree in
    let end = query.Or (last_from start h.tree) (last_from (start + size h.tree) i.tree) in
    record {
      tree = query.Either h.tree i.tree;
      spelling = ap (λ ws. model.Name (codes "or") ∷ ws) (a ∙ ap (λ ws. model.Opens ∷ ws)
          (h.spelling ∙ ap (model.spelled h.tree) (b ∙ ap (λ ws. model.Comma ∷ ws)
          (i.spelling ∙ ap (model.spelled i.tree) d))));
      nodes = ap (map node_of) nodes ∙ map-append node_of then (node ∷ [])
          ∙ ap (λ x. map node_of then ++ x ∷ []) node_is
          ∙ ap (λ ns. ns ++ end ∷ []) (i.nodes
          ∙ ap (λ x. map node_of during ++ nodes_from x i.tree) middle
          ∙ ap (λ ns. ns ++ back) h.nodes
          ∙ append_assoc (map node_of before) (nodes_from start h.tree) back)
          ∙ append_assoc (map node_of before) (nodes_from start h.tree ++ back) (end ∷ [])
          ∙ ap (λ ns. map node_of before ++ ns)
          (append_assoc (nodes_from start h.tree) back (end ∷ []));
      last = omega (arith, last, many, first, parts, sizes, second, parts', sizes');
    }
