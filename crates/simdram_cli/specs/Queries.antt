-- Which query texts are accepted, as what, and why others are refused; and why a scan is.
use Rattle.std.specs.Prelude.{ℕ, List, ◌++◌, Option, Some, None, Result, Ok, Err, codes, decimal}
use Rattle.text_lex.specs.Lexical.{items_of}
use Rattle.scan_model.specs.declared.QueryFault.{QueryFault}
use Rattle.scan_model.specs.declared.QueryKind.{QueryKind}
use Rattle.scan_model.specs.declared.QueryKind.TheVariants as kinds
use Rattle.scan_model.specs.declared.ScanWhy.{ScanWhy}
use Rattle.scan_model.specs.declared.ScanWhy.TheVariants as reasons
use Rattle.scan_model.specs.Queries.{Query}
use Rattle.scan_model.specs.Texts.{fault_in}
use Rattle.scan_model.specs.TextLaws.{Says, words_of}
use Rattle.cli_model.specs.Steps.{Refusal}

-- the word for a rule of queries
abbrev pub query_word : QueryKind → List ℕ
query_word kinds.Lex = codes "lex"
query_word kinds.Syntax = codes "syntax"
query_word kinds.BadName = codes "bad_name"
query_word kinds.BadNumber = codes "bad_number"
query_word kinds.TooMany = codes "too_many"

-- a query text that breaks a rule is refused by its line and the rule
abbrev pub query_refusal : QueryFault → Refusal
query_refusal fault = record {
  status = 15;
  line = codes "query line " ++ decimal fault.line
      ++ (codes " " ++ query_word fault.kind ++ codes "\n");
}

-- a query text goes on, unless it breaks a rule
abbrev pub unless_broken : Option QueryFault → Result (Unit {0}) Refusal
unless_broken None = Ok tt
unless_broken (Some fault) = Err (query_refusal fault)

-- a query text is accepted, or refused
abbrev pub query_in : List ℕ → Result (Unit {0}) Refusal
query_in text = unless_broken (fault_in text)

-- the tokens of the text spell this query
abbrev pub Asks : List ℕ → Query → Type 0
Asks text q = Says (words_of (items_of text)) q

-- the file is there, and its text asks this query
abbrev pub AsksIn : Option (List ℕ) → Query → Type 0
AsksIn None q = ⊥
AsksIn (Some text) q = Asks text q

-- the word for why a scan is refused
abbrev pub scan_word : ScanWhy → List ℕ
scan_word reasons.NoObject = codes "no_object"
scan_word reasons.Slice = codes "slice"
scan_word reasons.Count = codes "count"
scan_word reasons.Range = codes "range"
scan_word reasons.TableFull = codes "table_full"
scan_word reasons.NoRows = codes "no_rows"

-- a query that is refused on an image: why, and the number of the comparison or the node
abbrev pub scan_refusal : ScanWhy → ℕ → Refusal
scan_refusal why k = record {
  status = 16;
  line = (codes "query refused " ++ scan_word why ++ codes " ") ++ decimal k ++ codes "\n";
}
