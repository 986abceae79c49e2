-- The words of the lower crates and of std that these proofs share.
pub use Rattle.op_text.specs.Grammar.{follow}
pub use Rattle.op_text.specs.Items.{Breach, no_token, opens, terminal_of, texts}
pub use Rattle.op_text.specs.Language.{Compute, Conjunction, Disjunction, Equation, Majority, Named}
pub use Rattle.op_text.specs.Language.{Negation, Nought, Operation, Parity, Statement, Term, Unity}
pub use Rattle.op_text.specs.Language.{Visit, equation, operation, result_names, statement, term}
pub use Rattle.op_text.specs.Rules.{Scope, breach_of, close_rules, comma_rules, gate_named}
pub use Rattle.op_text.specs.Rules.{is_among, is_bad, is_plain, kind_among, known_op}
pub use Rattle.op_text.specs.Rules.{operation_texts, rules_at, unless}
pub use Rattle.op_text.specs.Spelling.{after_comma, after_commas, between_commas, direction_text}
pub use Rattle.op_text.specs.Spelling.{equation_text, in_turn, kind_text, let_text, name_text}
pub use Rattle.op_text.specs.Spelling.{operation_text, param_text, start_text, state_text}
pub use Rattle.op_text.specs.Spelling.{statement_text, term_text}
pub use Rattle.op_text.specs.WordOps.{op_named, op_text}
pub use Rattle.op_text.specs.declared.terminal.Terminal.{Terminal}
pub use Rattle.op_text.specs.declared.tree.Op.{Op}
pub use Rattle.op_text.specs.declared.tree.Param.{Param}
pub use Rattle.op_text.specs.declared.tree.State.{State}
pub use Rattle.op_text.specs.declared.wanted.Wanted.{Wanted}
pub use Rattle.op_text.specs.declared.word_ops.WordOp.{WordOp}
pub use Rattle.std.proofs.Common.{Bool, Err, List, None, Ok, Option, Result, Some, [], ap}
pub use Rattle.std.proofs.Common.{append-nil, append_assoc, arith, bytes_eq, codes, cond, count_by}
pub use Rattle.std.proofs.Common.{false, filter, get_or, length, length-append, lit≤, map, min, not}
pub use Rattle.std.proofs.Common.{refl, subst, suc, sym, take, true, zero, zero-add, ℕ, ◌&&◌, ◌*◌}
pub use Rattle.std.proofs.Common.{◌++◌, ◌+◌, ◌-◌, ◌<◌, ◌||◌, ◌∙◌, ◌∷◌, ◌≡◌, ◌≤◌}
pub use Rattle.std.proofs.lemmas.List.{map-append, take_more}
pub use Rattle.std.proofs.lemmas.Result.{err_from_is_err_and}
pub use Rattle.std.proofs.lemmas.Slice.Eq.{bytes_eq-Decides}
pub use Rattle.std.specs.Result.{IfErr, IfOk, IsErrAnd}
pub use Rattle.text_lex.specs.Lexical.{Bad, Item, Whole, lexeme_of}
