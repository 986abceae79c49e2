-- What a text is parsed as.
use Rattle.std.specs.Prelude.{◌≡◌, ℕ, List, Some, None, Result, Ok, Err}
use Rattle.text_lex.specs.Lexical.{items_of}
use Rattle.scan_model.specs.Queries as model
use Rattle.scan_model.specs.Texts.{fault_in}
use Rattle.scan_model.specs.TextLaws.{Says, words_of}
use Rattle.scan_query.specs.Queries.{IsNodesOf, nodes_in}
use Rattle.scan_query.specs.declared.query.Query.{Query}
use Rattle.scan_query.specs.declared.query.QueryNo.{QueryNo}
use Rattle.scan_query.specs.declared.query.QueryNo.TheVariants as no

-- the nodes of the query that a text spells, which breaks no rule
pub record IsQueryOf (text : List ℕ) (nodes : List model.Node) : Type 0 where
  pub accepted : fault_in text ≡ None
  pub tree : model.Query
  pub says : Says (words_of (items_of text)) tree
  pub nodes_are : IsNodesOf tree nodes

-- What a text is parsed as: its query's nodes, where it breaks no rule; or the line and the kind of
-- the first token that does; or out of memory.
abbrev pub Parses : List ℕ → Result Query QueryNo → Type 0
Parses text (Ok q) = IsQueryOf text (nodes_in q)
Parses text (Err (no.Fault f)) = fault_in text ≡ Some f
Parses text (Err no.NoMemory) = Unit {0}
