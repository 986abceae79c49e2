-- The words of the lower crates and of std that these proofs share.
pub use Rattle.grammar.specs.Machine.{after}
pub use Rattle.op_text.specs.Grammar.{let_or_assign, statement}
pub use Rattle.op_text.specs.Items.{Breach, is_opening, opens, spelling_of, terminal_of}
pub use Rattle.op_text.specs.Language.{Block, Compute, Conjunction, Disjunction, Equation, Majority}
pub use Rattle.op_text.specs.Language.{Named, Negation, Nought, Operation, Parity, Statement, Term}
pub use Rattle.op_text.specs.Language.{Unity, Visit, result_names, results}
pub use Rattle.op_text.specs.Rules.{Scope, argument_of_kind, breach_of, gate_arguments, gate_weight}
pub use Rattle.op_text.specs.Rules.{gives_kind, has_targets, is_among, is_bad, is_bit_result}
pub use Rattle.op_text.specs.Rules.{is_called, is_known, is_of_kind, is_other_result, is_plain}
pub use Rattle.op_text.specs.Rules.{is_readable, is_taken_name, is_taken_state, is_taken_target}
pub use Rattle.op_text.specs.Rules.{kind_among, known_op, new_block, new_word, second_of}
pub use Rattle.op_text.specs.Rules.{state_rules, statement_rules, step, unless, with_rules}
pub use Rattle.op_text.specs.Scratch.{bits_inside, body_defines, defines, greatest, kind_of}
pub use Rattle.op_text.specs.Scratch.{need_inside, param, result_kind, scratch_names, state_names}
pub use Rattle.op_text.specs.Scratch.{term_weight, word_names, words_inside}
pub use Rattle.op_text.specs.Spelling.{Each, HasEquation, HasNames, HasOperation, HasParam}
pub use Rattle.op_text.specs.Spelling.{HasState, HasStatement, IfThere, IsName, MeetRules}
pub use Rattle.op_text.specs.Spelling.{TermMeets, after_comma, after_commas, between_commas}
pub use Rattle.op_text.specs.Spelling.{equation_text, in_turn, is_good, items_spelled, kind_of_text}
pub use Rattle.op_text.specs.Spelling.{kind_text, let_text, name_text, operation_text, param_text}
pub use Rattle.op_text.specs.Spelling.{start_text, state_text, statement_text, term_text}
pub use Rattle.op_text.specs.WordOps.{filled, first_of, forms, given_first, is_begun, is_part}
pub use Rattle.op_text.specs.WordOps.{is_whole, lacks, op_text, same_kind, second_kind}
pub use Rattle.op_text.specs.declared.terminal.Spelling.{Spelling}
pub use Rattle.op_text.specs.declared.tree.Kind.{Kind}
pub use Rattle.op_text.specs.declared.tree.Kind.TheVariants.{Bit, Word}
pub use Rattle.op_text.specs.declared.tree.Param.{Param}
pub use Rattle.op_text.specs.declared.tree.State.{State}
pub use Rattle.op_text.specs.declared.wanted.Wanted.{Wanted}
pub use Rattle.op_text.specs.declared.wanted.Wanted.TheVariants.{Equals, Open}
pub use Rattle.op_text.specs.declared.word_ops.WordOp.{WordOp}
pub use Rattle.std.proofs.Common.{Bool, List, None, Ok, Option, Result, Some, [], ap, append-nil}
pub use Rattle.std.proofs.Common.{append_assoc, arith, bytes_eq, codes, cond, count_by, false, fold}
pub use Rattle.std.proofs.Common.{length, length-set, lit≤, map, nat_le, nat_lt, not, refl}
pub use Rattle.std.proofs.Common.{replicate, subst, suc, sym, true, zero, zero-add, ℕ, ◌&&◌, ◌*◌}
pub use Rattle.std.proofs.Common.{◌++◌, ◌+◌, ◌-◌, ◌/◌, ◌<◌, ◌||◌, ◌∙◌, ◌∷◌, ◌≡◌, ◌≤◌}
pub use Rattle.std.proofs.lemmas.List.{length-append, length-map, length-replicate, map-append}
pub use Rattle.std.proofs.lemmas.List.Sums.{count_by-le-length, sum_by-append, sum_by-cons}
pub use Rattle.std.specs.List.{filter, flat_map, list_any, sum}
pub use Rattle.std.specs.Option.{option_to_list, unwrap_or}
pub use Rattle.text_lex.specs.Lexical.{Item, Lexeme, Whole, is_token}
