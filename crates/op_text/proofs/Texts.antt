-- Texts, each with the line and the kind of its fault, if it has one.
use Rattle.std.proofs.Common.{◌≡◌, ℕ, List, [], ◌∷◌, ◌++◌, map, Option, Some, None, codes, refl}
use Rattle.text_lex.specs.Lexical.{items_from, front_of}
use Rattle.op_text.specs.declared.fault.OpsFault.{OpsFault}
use Rattle.op_text.specs.declared.fault.OpsKind.{OpsKind}
use Rattle.op_text.specs.declared.fault.OpsKind.TheVariants.{Lex, Syntax, BadName, Twice, Unknown}
use Rattle.op_text.specs.declared.fault.OpsKind.TheVariants.{Kind, NoResult, TooMany}
use Rattle.grammar.specs.Machine as machine
use Rattle.op_text.specs.Lines.{fault_in}

abbrev Each : List (List ℕ) → Option OpsFault → Type 0
Each texts found = map fault_in texts ≡ map (λ text. found) texts

abbrev at_line : ℕ → OpsKind → Option OpsFault
at_line line kind = Some (record { line = line; kind = kind })

accepted_a : Each (
    codes "" ∷
    codes "# only\n" ∷
    codes "op f(a: word, b: word, p: bit) -> y: word {\ny = and(a, b);\n}" ∷
    codes "op f(a: word, b: word, p: bit) -> y: word {\ny = zero();\n}" ∷
    codes "op f(a: word, b: word, p: bit) -> y: bit {\ny = eq(a, b);\n}" ∷
    codes "op f(a: word, b: word, p: bit) -> y: word {\nt = eq(a, b);\ny = if_else(a, b, t);\n}" ∷
    codes "op f(a: word, b: word, p: bit) -> y: bit {\ny = if_else(p, p, p);\n}" ∷
    codes "op abcdefghijklmnop(a: word) -> y: word { y = not(a); }" ∷ []) None
unfolding machine.breach_of items_from front_of
accepted_a = refl

accepted_b : Each (
    (codes "op f(a: word, b: word, p: bit) -> y: word {\nserial up (c = 0) {\n"
    ++ codes "y = xor(a, c); c = maj(a, b, c);\n}\n}") ∷
    (codes "op f(a: word, b: word, p: bit) -> y: word {\nserial up () {\n"
    ++ codes "let x = not(a); y = and(a, x);\n}\n}") ∷
    codes "op f(a: word, b: word, p: bit) -> y: word {\nserial up () {\nz = a;\n}\ny = not(z);\n}" ∷
    codes "op f(a: word, b: word, p: bit) -> y: bit {\nserial up (y = 0) {\ny = a;\n}\n}" ∷
    codes "op f(a: word, b: word, p: bit) -> y: bit {\nserial up (y = 0) {\nz = a;\n}\n}" ∷
    (codes "op f(a: word, b: word, p: bit) -> y: word {\nserial up () {\n"
    ++ codes "y = not(not(not(not(not(not(not(not(not(not(not(not(not(not(not(not(not(not(no"
    ++ codes "t(not(not(not(not(not(not(not(not(not(not(not(not(not(a)))))))))))))))))))))))"
    ++ codes ")))))))));\n}\n}") ∷
    codes "op f(a: word, b: word, p: bit) -> y: word {\nserial up () {\ny = not (a);\n}\n}" ∷
    (codes "op f(a: word, b: word, p: bit) -> y: word {\nserial up (s0 = 0, s1 = 0, s2 = 0"
    ++ codes ", s3 = 0, s4 = 0, s5 = 0, s6 = 0, s7 = 0) {\ny = 0;\n"
    ++ codes "}\n}") ∷ []) None
unfolding machine.breach_of items_from front_of
accepted_b = refl

accepted_c : Each (
    (codes "op f(a: word, b: word, p: bit) -> y: word {\nserial up () {\n"
    ++ codes "y = 0;t0 = 0;t1 = 0;t2 = 0;t3 = 0;t4 = 0;t5 = 0;t6 = 0;\n"
    ++ codes "}\n}") ∷
    (codes "op f(a: word, b: word, p: bit) -> y: word {\nserial up () {\n"
    ++ codes "let t0 = 0;let t1 = 0;let t2 = 0;let t3 = 0;let t4 = 0;let t5 = 0;let t6 = 0;l"
    ++ codes "et t7 = 0;let t8 = 0;let t9 = 0;let t10 = 0;let t11 = 0;let t12 = 0;let t13 = "
    ++ codes "0;let t14 = 0;let t15 = 0;y = 0;\n}\n}") ∷
    (codes "op f(a: word, b: word, p: bit) -> y: word {\nt0 = not(a);\n"
    ++ codes "t1 = not(a);\nt2 = not(a);\nt3 = not(a);\nt4 = not(a);\n"
    ++ codes "t5 = not(a);\nt6 = not(a);\nt7 = not(a);\nt8 = not(a);\n"
    ++ codes "t9 = not(a);\nt10 = not(a);\nt11 = not(a);\nt12 = not(a);\n"
    ++ codes "t13 = not(a);\nt14 = not(a);\ny = not(a);\n}") ∷
    codes "op f(a: word, b: word, p: bit) -> y: word {\nserial down () { y = a; }\n}" ∷
    (codes "op f(a: word, b: word, p: bit) -> y: word {\nserial up () {\n"
    ++ codes "let x1 = xor(a, b);let x2 = xor(x1, b);let x3 = xor(x2, b);let x4 = xor(x3, b)"
    ++ codes ";let x5 = xor(x4, b);let x6 = xor(x5, b);let x7 = xor(x6, b);let x8 = xor(x7, "
    ++ codes "b);\ny = x8;\n}\n}") ∷
    (codes "op f(a: word, b: word, p: bit) -> y: word {\nserial up () {\n"
    ++ codes "let x1 = xor(a, b);let x2 = xor(x1, b);let x3 = xor(x2, b);let x4 = xor(x3, b)"
    ++ codes ";let x5 = xor(x4, b);let x6 = xor(x5, b);let x7 = xor(x6, b);let x8 = xor(x7, "
    ++ codes "b);\ny = not(x8);\n}\n}") ∷
    (codes "op f0(a: word) -> y: word { y = not(a); }op f1(a: word) -> y: word { y = not(a"
    ++ codes "); }op f2(a: word) -> y: word { y = not(a); }op f3(a: word) -> y: word { y = n"
    ++ codes "ot(a); }op f4(a: word) -> y: word { y = not(a); }op f5(a: word) -> y: word { y"
    ++ codes " = not(a); }op f6(a: word) -> y: word { y = not(a); }op f7(a: word) -> y: word"
    ++ codes " { y = not(a); }op f8(a: word) -> y: word { y = not(a); }op f9(a: word) -> y: "
    ++ codes "word { y = not(a); }op f10(a: word) -> y: word { y = not(a); }op f11(a: word) "
    ++ codes "-> y: word { y = not(a); }op f12(a: word) -> y: word { y = not(a); }op f13(a: "
    ++ codes "word) -> y: word { y = not(a); }op f14(a: word) -> y: word { y = not(a); }op f"
    ++ codes "15(a: word) -> y: word { y = not(a); }op f16(a: word) -> y: word { y = not(a);"
    ++ codes " }op f17(a: word) -> y: word { y = not(a); }op f18(a: word) -> y: word { y = n"
    ++ codes "ot(a); }op f19(a: word) -> y: word { y = not(a); }op f20(a: word) -> y: word {"
    ++ codes " y = not(a); }op f21(a: word) -> y: word { y = not(a); }op f22(a: word) -> y: "
    ++ codes "word { y = not(a); }op f23(a: word) -> y: word { y = not(a); }op f24(a: word) "
    ++ codes "-> y: word { y = not(a); }op f25(a: word) -> y: word { y = not(a); }op f26(a: "
    ++ codes "word) -> y: word { y = not(a); }op f27(a: word) -> y: word { y = not(a); }op f"
    ++ codes "28(a: word) -> y: word { y = not(a); }op f29(a: word) -> y: word { y = not(a);"
    ++ codes " }op f30(a: word) -> y: word { y = not(a); }op f31(a: word) -> y: word { y = n"
    ++ codes "ot(a); }") ∷
    codes "op f(a: word) -> y: bit { serial up (y = 0) { y = a; t = y; } z = copy(y); }" ∷ []) None
unfolding machine.breach_of items_from front_of
accepted_c = refl

lex_1 : Each (
    codes "op f(a: word) - y: word { y = add(a,a); }" ∷ []) (at_line 1 Lex)
unfolding machine.breach_of items_from front_of
lex_1 = refl

lex_2 : Each (
    codes "op f(a: word, b: word, p: bit) -> y: word {\ny = not(a) @\n}" ∷ []) (at_line 2 Lex)
unfolding machine.breach_of items_from front_of
lex_2 = refl

syntax_1 : Each (
    codes "op" ∷
    codes "f" ∷
    codes "op f(a: up) -> y: word { y = not(a); }" ∷
    codes "op f() -> y: word { y = zero(); }" ∷
    codes "op f(a: word) -> y: word { y = add(a,a) }" ∷ []) (at_line 1 Syntax)
unfolding machine.breach_of items_from front_of
syntax_1 = refl

syntax_2 : Each (
    codes "op f(a: word, b: word, p: bit) -> y: word {\n}" ∷
    codes "op f(a: word, b: word, p: bit) -> y: word {\ny = and" ∷
    codes "op f(a: word, b: word, p: bit) -> y: word {\nserial = not(a);\n}" ∷
    (codes "op f(a: word, b: word, p: bit) -> y: word {\nserial up (c = 2) {\n"
    ++ codes "y = xor(a, c); c = maj(a, b, c);\n}\n}") ∷
    codes "op f(a: word, b: word, p: bit) -> y: word {\nserial sideways () { y = a; }\n}" ∷
    codes "op f(a: word, b: word, p: bit) -> y: word {\nserial up () { }\n}" ∷
    codes "op f(a: word, b: word, p: bit) -> y: word {\nserial up (c = 0,) { c = a; }\n}"
    ∷ []) (at_line 2 Syntax)
unfolding machine.breach_of items_from front_of
syntax_2 = refl

syntax_3 : Each (
    codes "op f(a: word, b: word, p: bit) -> y: word {\ny = not(a)\n}" ∷
    codes "op f(a: word, b: word, p: bit) -> y: word {\ny = not(a);\nz = " ∷
    codes "op f(a: word, b: word, p: bit) -> y: word {\nserial up () {\ny = 2;\n}\n}" ∷
    codes "op f(a: word, b: word, p: bit) -> y: word {\nserial up () {\ny = 01;\n}\n}"
    ∷ []) (at_line 3 Syntax)
unfolding machine.breach_of items_from front_of
syntax_3 = refl

syntax_4 : Each (
    codes "op f(a: word, b: word, p: bit) -> y: word {\nserial up () {\nlet x = not(a);\n}\n}"
    ∷ []) (at_line 4 Syntax)
unfolding machine.breach_of items_from front_of
syntax_4 = refl

bad_name_1 : Each (
    codes "op trsp_init(a: word) -> y: word { y = not(a); }" ∷
    codes "op up(a: word) -> y: word { y = not(a); }" ∷
    codes "op abcdefghijklmnopq(a: word) -> y: word { y = not(a); }" ∷
    codes "op f(a: word, up: bit) -> y: word { y = not(a); }" ∷
    codes "op f(a: word) -> y: word { let = a; }" ∷ []) (at_line 1 BadName)
unfolding machine.breach_of items_from front_of
bad_name_1 = refl

bad_name_2 : Each (
    codes "op f(a: word, b: word, p: bit) -> y: word {\nlet = not(a);\n}" ∷
    codes "op f(a: word, b: word, p: bit) -> y: word {\nword = not(a);\n}" ∷ []) (at_line 2 BadName)
unfolding machine.breach_of items_from front_of
bad_name_2 = refl

bad_name_3 : Each (
    codes "op f(a: word, b: word, p: bit) -> y: word {\nserial up () {\ny = a; let x = a;\n}\n}" ∷
    codes "op f(a: word, b: word, p: bit) -> y: word {\nserial up () {\ny = up;\n}\n}"
    ∷ []) (at_line 3 BadName)
unfolding machine.breach_of items_from front_of
bad_name_3 = refl

twice_1 : Each (
    codes "op f(a: word) -> a: word { a = copy(a); }" ∷
    codes "op f(a: word, b: bit, a: bit) -> y: word { y = not(a); }" ∷
    codes "op f(a: word) -> y: word { y = not(a); } op f(a: word) -> y: word { y = not(a); }" ∷
    codes "op f(a: word) -> y: bit { serial up (y = 0) { t = a; } y = and_red(a); }" ∷
    codes "op f(a: word) -> y: word { serial up (y = 0) { t = a; } }" ∷
    codes "op f(a: word) -> y: word { serial up () { t = a; } serial up (t = 0) { y = a; } }" ∷
    codes "op f(a: word) -> y: word { serial up (s = 0) { t = a; } serial up () { s = a; y = a;} }"
    ∷ []) (at_line 1 Twice)
unfolding machine.breach_of items_from front_of
twice_1 = refl

twice_2 : Each (
    codes "op f(a: word, b: word, p: bit) -> y: word {\na = not(a);\n}" ∷
    codes "op f(a: word, b: word, p: bit) -> y: bit {\nserial up (y = 0, y = 1) {\nz = a;\n}\n}" ∷
    codes "op f(a: word, b: word, p: bit) -> y: word {\nserial up (y = 0, y = 1) {\nz = a;\n}\n}"
    ∷ []) (at_line 2 Twice)
unfolding machine.breach_of items_from front_of
twice_2 = refl

twice_3 : Each (
    codes "op f(a: word, b: word, p: bit) -> y: word {\nt = and(a, b);\nt = not(t);\n}" ∷
    codes "op f(a: word, b: word, p: bit) -> y: word {\ny = not(a);\ny = not(y);\n}" ∷
    (codes "op f(a: word, b: word, p: bit) -> y: word {\nserial up () {\n"
    ++ codes "let x = a; let x = b; y = x;\n}\n}") ∷
    codes "op f(a: word, b: word, p: bit) -> y: word {\nserial up () {\nz = a; z = b;\n}\n}" ∷
    codes "op f(a: word, b: word, p: bit) -> y: word {\nserial up () {\na = b;\n}\n}" ∷
    (codes "op f(a: word, b: word, p: bit) -> y: bit {\ny = or_red(a);\n"
    ++ codes "serial up (y = 0) {\nz = a;\n}\n}") ∷ []) (at_line 3 Twice)
unfolding machine.breach_of items_from front_of
twice_3 = refl

twice_4 : Each (
    codes "op f(a: word, b: word, p: bit) -> y: bit {\ny = or_red(a);\nserial up () {\ny = a;\n}\n}"
    ∷ []) (at_line 4 Twice)
unfolding machine.breach_of items_from front_of
twice_4 = refl

twice_5 : Each (
    (codes "op f(a: word, b: word, p: bit) -> y: word {\nserial up () {\n"
    ++ codes "let x = a; y = x;\n}\nx = not(a);\n}") ∷
    (codes "op f(a: word, b: word, p: bit) -> y: word {\nserial up (c = 1) {\n"
    ++ codes "z = a;\n}\nc = not(p);\ny = not(z);\n}") ∷ []) (at_line 5 Twice)
unfolding machine.breach_of items_from front_of
twice_5 = refl

twice_18 : Each (
    (codes "op f(a: word, b: word, p: bit) -> y: word {\nt0 = not(a);\n"
    ++ codes "t1 = not(a);\nt2 = not(a);\nt3 = not(a);\nt4 = not(a);\n"
    ++ codes "t5 = not(a);\nt6 = not(a);\nt7 = not(a);\nt8 = not(a);\n"
    ++ codes "t9 = not(a);\nt10 = not(a);\nt11 = not(a);\nt12 = not(a);\n"
    ++ codes "t13 = not(a);\nt14 = not(a);\nt15 = not(a);\na = not(a);\n"
    ++ codes "}") ∷ []) (at_line 18 Twice)
unfolding machine.breach_of items_from front_of
twice_18 = refl

unknown_1 : Each (
    codes "op f(a: word) -> y: word { y = not(a); } op g(a: word) -> y: word { y = not(f); }" ∷
    codes "op f(a: word) -> y: word { serial up () { let l = a; t = l; } serial up () { y = l; } }"
    ∷ []) (at_line 1 Unknown)
unfolding machine.breach_of items_from front_of
unknown_1 = refl

unknown_2 : Each (
    codes "op f(a: word, b: word, p: bit) -> y: word {\ny = foo(a);\n}" ∷
    codes "op f(a: word, b: word, p: bit) -> y: word {\ny = zero(q);\n}" ∷
    codes "op f(a: word, b: word, p: bit) -> y: word {\ny = not(y);\n}" ∷ []) (at_line 2 Unknown)
unfolding machine.breach_of items_from front_of
unknown_2 = refl

unknown_3 : Each (
    codes "op f(a: word, b: word, p: bit) -> y: word {\nserial up () {\ny = and(a, x);\n}\n}" ∷
    (codes "op f(a: word, b: word, p: bit) -> y: word {\nserial up () {\n"
    ++ codes "let x = not(x); y = and(a, x);\n}\n}") ∷
    codes "op f(a: word, b: word, p: bit) -> y: word {\nserial up () {\nz = a; y = z;\n}\n}" ∷
    codes "op f(a: word, b: word, p: bit) -> y: word {\nserial up () {\ny = foo(a);\n}\n}" ∷
    codes "op f(a: word, b: word, p: bit) -> y: word {\nserial up () {\ny = foo;\n}\n}" ∷
    codes "op f(a: word, b: word, p: bit) -> y: word {\nserial up () {\ny = and;\n}\n}"
    ∷ []) (at_line 3 Unknown)
unfolding machine.breach_of items_from front_of
unknown_3 = refl

unknown_5 : Each (
    (codes "op f(a: word, b: word, p: bit) -> y: word {\nserial up () {\n"
    ++ codes "let x = a; y = x;\n}\nz = not(x);\n}") ∷ []) (at_line 5 Unknown)
unfolding machine.breach_of items_from front_of
unknown_5 = refl

unknown_6 : Each (
    (codes "op f(a: word, b: word, p: bit) -> y: word {\nserial up (c = 0) {\n"
    ++ codes "y = 0;\n}\n} op g(a: word, b: word, p: bit) -> y: word {\n"
    ++ codes "y = c;\n}") ∷ []) (at_line 6 Unknown)
unfolding machine.breach_of items_from front_of
unknown_6 = refl

kind_1 : Each (
    codes "op f(a: word) -> y: word { y = not(a,); }" ∷ []) (at_line 1 Kind)
unfolding machine.breach_of items_from front_of
kind_1 = refl

kind_2 : Each (
    codes "op f(a: word, b: word, p: bit) -> y: word {\ny = and(a, p);\n}" ∷
    codes "op f(a: word, b: word, p: bit) -> y: word {\ny = and(a);\n}" ∷
    codes "op f(a: word, b: word, p: bit) -> y: word {\ny = not(a, b);\n}" ∷
    codes "op f(a: word, b: word, p: bit) -> y: word {\ny = zero(a);\n}" ∷
    codes "op f(a: word, b: word, p: bit) -> y: word {\ny = eq(a, b);\n}" ∷
    codes "op f(a: word, b: word, p: bit) -> y: word {\ny = if_else(a, b, a);\n}"
    ∷ []) (at_line 2 Kind)
unfolding machine.breach_of items_from front_of
kind_2 = refl

kind_3 : Each (
    (codes "op f(a: word, b: word, p: bit) -> y: word {\nserial up (c = 0) {\n"
    ++ codes "y = xor(a, c); c = maj(a, b);\n}\n}") ∷
    codes "op f(a: word, b: word, p: bit) -> y: word {\nserial up () {\ny = and(a, b, a);\n}\n}" ∷
    codes "op f(a: word, b: word, p: bit) -> y: bit {\nserial up () {\ny = a;\n}\n}"
    ∷ []) (at_line 3 Kind)
unfolding machine.breach_of items_from front_of
kind_3 = refl

kind_5 : Each (
    (codes "op f(a: word, b: word, p: bit) -> y: word {\nserial up (c = 1) {\n"
    ++ codes "z = a;\n}\ny = not(c);\n}") ∷ []) (at_line 5 Kind)
unfolding machine.breach_of items_from front_of
kind_5 = refl

no_result_3 : Each (
    codes "op f(a: word, b: word, p: bit) -> y: word {\nt = and(a, b);\n}" ∷
    codes "op f(a: word, b: word, p: bit) -> y: word {\nserial up (c = 0) { c = a; }\n}"
    ∷ []) (at_line 3 NoResult)
unfolding machine.breach_of items_from front_of
no_result_3 = refl

too_many_1 : Each (
    codes "op f(a: word, b: bit, c: bit, d: bit, e: bit) -> y: word { y = not(a); }" ∷
    (codes "op f0(a: word) -> y: word { y = not(a); }op f1(a: word) -> y: word { y = not(a"
    ++ codes "); }op f2(a: word) -> y: word { y = not(a); }op f3(a: word) -> y: word { y = n"
    ++ codes "ot(a); }op f4(a: word) -> y: word { y = not(a); }op f5(a: word) -> y: word { y"
    ++ codes " = not(a); }op f6(a: word) -> y: word { y = not(a); }op f7(a: word) -> y: word"
    ++ codes " { y = not(a); }op f8(a: word) -> y: word { y = not(a); }op f9(a: word) -> y: "
    ++ codes "word { y = not(a); }op f10(a: word) -> y: word { y = not(a); }op f11(a: word) "
    ++ codes "-> y: word { y = not(a); }op f12(a: word) -> y: word { y = not(a); }op f13(a: "
    ++ codes "word) -> y: word { y = not(a); }op f14(a: word) -> y: word { y = not(a); }op f"
    ++ codes "15(a: word) -> y: word { y = not(a); }op f16(a: word) -> y: word { y = not(a);"
    ++ codes " }op f17(a: word) -> y: word { y = not(a); }op f18(a: word) -> y: word { y = n"
    ++ codes "ot(a); }op f19(a: word) -> y: word { y = not(a); }op f20(a: word) -> y: word {"
    ++ codes " y = not(a); }op f21(a: word) -> y: word { y = not(a); }op f22(a: word) -> y: "
    ++ codes "word { y = not(a); }op f23(a: word) -> y: word { y = not(a); }op f24(a: word) "
    ++ codes "-> y: word { y = not(a); }op f25(a: word) -> y: word { y = not(a); }op f26(a: "
    ++ codes "word) -> y: word { y = not(a); }op f27(a: word) -> y: word { y = not(a); }op f"
    ++ codes "28(a: word) -> y: word { y = not(a); }op f29(a: word) -> y: word { y = not(a);"
    ++ codes " }op f30(a: word) -> y: word { y = not(a); }op f31(a: word) -> y: word { y = n"
    ++ codes "ot(a); }op f32(a: word) -> y: word { y = not(a); }") ∷ []) (at_line 1 TooMany)
unfolding machine.breach_of items_from front_of
too_many_1 = refl

too_many_2 : Each (
    (codes "op f(a: word, b: word, p: bit) -> y: word {\nserial up (s0 = 0, s1 = 0, s2 = 0"
    ++ codes ", s3 = 0, s4 = 0, s5 = 0, s6 = 0, s7 = 0, s8 = 0) {\n"
    ++ codes "y = 0;\n}\n}") ∷ []) (at_line 2 TooMany)
unfolding machine.breach_of items_from front_of
too_many_2 = refl

too_many_3 : Each (
    (codes "op f(a: word, b: word, p: bit) -> y: word {\nserial up () {\n"
    ++ codes "y = not(not(not(not(not(not(not(not(not(not(not(not(not(not(not(not(not(not(no"
    ++ codes "t(not(not(not(not(not(not(not(not(not(not(not(not(not(not(a)))))))))))))))))))"
    ++ codes "))))))))))))));\n}\n}") ∷
    (codes "op f(a: word, b: word, p: bit) -> y: word {\nserial up () {\n"
    ++ codes "y = 0;t0 = 0;t1 = 0;t2 = 0;t3 = 0;t4 = 0;t5 = 0;t6 = 0;t7 = 0;\n"
    ++ codes "}\n}") ∷
    (codes "op f(a: word, b: word, p: bit) -> y: word {\nserial up () {\n"
    ++ codes "let t0 = 0;let t1 = 0;let t2 = 0;let t3 = 0;let t4 = 0;let t5 = 0;let t6 = 0;l"
    ++ codes "et t7 = 0;let t8 = 0;let t9 = 0;let t10 = 0;let t11 = 0;let t12 = 0;let t13 = "
    ++ codes "0;let t14 = 0;let t15 = 0;let t16 = 0;y = 0;\n}\n"
    ++ codes "}") ∷ []) (at_line 3 TooMany)
unfolding machine.breach_of items_from front_of
too_many_3 = refl

too_many_4 : Each (
    (codes "op f(a: word, b: word, p: bit) -> y: word {\nserial up () {\n"
    ++ codes "let x1 = xor(a, b);let x2 = xor(x1, b);let x3 = xor(x2, b);let x4 = xor(x3, b)"
    ++ codes ";let x5 = xor(x4, b);let x6 = xor(x5, b);let x7 = xor(x6, b);let x8 = xor(x7, "
    ++ codes "b);\ny = and(x8, a);\n}\n}") ∷ []) (at_line 4 TooMany)
unfolding machine.breach_of items_from front_of
too_many_4 = refl

too_many_18 : Each (
    (codes "op f(a: word, b: word, p: bit) -> y: word {\nt0 = not(a);\n"
    ++ codes "t1 = not(a);\nt2 = not(a);\nt3 = not(a);\nt4 = not(a);\n"
    ++ codes "t5 = not(a);\nt6 = not(a);\nt7 = not(a);\nt8 = not(a);\n"
    ++ codes "t9 = not(a);\nt10 = not(a);\nt11 = not(a);\nt12 = not(a);\n"
    ++ codes "t13 = not(a);\nt14 = not(a);\nt15 = not(a);\ny = not(a);\n"
    ++ codes "}") ∷
    (codes "op f(a: word, b: word, p: bit) -> y: word {\nt0 = not(a);\n"
    ++ codes "t1 = not(a);\nt2 = not(a);\nt3 = not(a);\nt4 = not(a);\n"
    ++ codes "t5 = not(a);\nt6 = not(a);\nt7 = not(a);\nt8 = not(a);\n"
    ++ codes "t9 = not(a);\nt10 = not(a);\nt11 = not(a);\nt12 = not(a);\n"
    ++ codes "t13 = not(a);\nt14 = not(a);\nt15 = not(a);\nserial up () { y = a; }\n"
    ++ codes "}") ∷ []) (at_line 18 TooMany)
unfolding machine.breach_of items_from front_of
too_many_18 = refl

-- two results and two targets
accepted_two : Each (
    codes "op dm(a: word, b: word) -> q: word, r: word { q, r = divmod(a, b); }" ∷
    codes "op dm(a: word, b: word) -> q: word, r: word { r, q = divmod(a, a); }" ∷
    codes "op f(a: word, b: word) -> y: word { y, t = divmod(a, b); }" ∷
    codes "op f(a: word, b: word) -> y: word { t, y = divmod(a, b); }" ∷
    codes "op f(a: word, b: word) -> y: word { t, u = divmod(a, b); y = add(u, t); }" ∷
    codes "op f(a: word, b: word) -> y: word, e: bit { y = add(a, b); e = eq(y, b); }" ∷
    codes "op f(a: word, b: word) -> e: bit, y: word { y = add(a, b); e = eq(y, b); }" ∷
    codes "op f(a: word) -> y: word, z: word { serial up () { y = a; z = not(a); } }" ∷ []) None
unfolding machine.breach_of items_from front_of
accepted_two = refl

accepted_states : Each (
    codes "op f(a: word) -> y: word, c: bit { serial up (c = 0) { y = a; c = or(c, a); } }" ∷
    codes "op f(a: word) -> c: bit, y: word { serial up (c = 0) { y = a; c = or(c, a); } }" ∷
    codes "op f(a: word) -> c: bit, d: bit { serial up (c = 0, d = 1) { d = a; } }" ∷
    codes "op f(a: word) -> c: bit, d: bit { serial up (d = 1) { d = a; } c = copy(d); }" ∷ []) None
unfolding machine.breach_of items_from front_of
accepted_states = refl

twice_two_2 : Each (
    codes "op f(a: word) -> q: word,\nq\n: word { q = copy(a); }" ∷
    codes "op f(a: word) -> q: word,\na\n: word { q = copy(a); }" ∷ []) (at_line 2 Twice)
unfolding machine.breach_of items_from front_of
twice_two_2 = refl

twice_two_3 : Each (
    codes "op f(a: word, b: word) -> q: word, r: word {\nq,\nq\n= divmod(a, b); }" ∷
    codes "op f(a: word, b: word) -> q: word, r: word {\nt,\nt\n= divmod(a, b); }" ∷
    codes "op f(a: word, b: word) -> q: word, r: word {\nq,\na\n= divmod(a, b); }" ∷
    (codes "op f(a: word, b: word) -> q: word, r: word { q, r = divmod(a, b);\nt,\nr"
    ++ codes "\n= divmod(a, b); }") ∷
    (codes "op f(a: word, b: word) -> q: word, r: word { r = copy(a);\nq,\nr\n= divm"
    ++ codes "od(a, b); }") ∷
    (codes "op f(a: word, b: word) -> q: word, r: word { t = copy(a);\nq,\nt\n= divm"
    ++ codes "od(a, b); }") ∷
    (codes "op f(a: word, b: word) -> q: word, r: word { q, r = divmod(a, b);\nseria"
    ++ codes "l up (s = 0) {\nr\n= a; } }") ∷
    (codes "op f(a: word) -> q: word, c: bit { c = or_red(a);\nserial up (\nc\n= 0) "
    ++ codes "{ q = a; } }") ∷
    codes "op f(a: word) -> q: word, r: word {\nserial up (\nr\n= 0) { q = a; } }" ∷
    (codes "op f(a: word, b: word) -> q: word, r: word { serial up () { let l = a; t"
    ++ codes " = l; }\nq,\nl\n= divmod(a, b); }") ∷
    (codes "op f(a: word, b: word) -> q: word, r: word { serial up (s = 0) { t = a; "
    ++ codes "}\nq,\ns\n= divmod(a, b); }") ∷ []) (at_line 3 Twice)
unfolding machine.breach_of items_from front_of
twice_two_3 = refl

twice_first : Each (
    (codes "op f(a: word, b: word) -> q: word, r: word { q = copy(a);\nq\n, r = divm"
    ++ codes "od(a, b); }") ∷
    (codes "op f(a: word, b: word) -> q: word, r: word { q, r = divmod(a, b);\nr\n, "
    ++ codes "t = divmod(a, b); }") ∷ []) (at_line 2 Twice)
unfolding machine.breach_of items_from front_of
twice_first = refl

kind_end : Each (
    codes "op f(a: word, b: word) -> q: word, r: bit {\nq, r = divmod(a, b)\n; }" ∷
    codes "op f(a: word, b: word) -> q: bit, r: word {\nq, r = divmod(a, b)\n; }" ∷
    codes "op f(a: word, b: word) -> y: bit {\nt, y = divmod(a, b)\n; }" ∷
    (codes "op f(a: word, b: word) -> q: word, e: bit {\ne = add(a, b)\n; q = copy(a"
    ++ codes "); }") ∷ []) (at_line 3 Kind)
unfolding machine.breach_of items_from front_of
kind_end = refl

kind_targets : Each (
    codes "op f(a: word, b: word) -> q: word, r: word {\nx, y =\nadd\n(a, b); }" ∷
    codes "op f(a: word, b: word) -> q: word, r: word {\nq =\ndivmod\n(a, b); }" ∷
    codes "op f(a: word, b: word) -> q: word, r: word {\nq, r =\nzero\n(); }" ∷
    (codes "op f(a: word) -> q: word, c: bit { q = copy(a);\nserial up () {\nc\n= a;"
    ++ codes " } }") ∷ []) (at_line 3 Kind)
unfolding machine.breach_of items_from front_of
kind_targets = refl

kind_arguments : Each (
    codes "op f(a: word, p: bit) -> q: word, r: word {\nq, r = divmod(a,\np); }" ∷
    codes "op f(a: word, b: word) -> q: word, r: word {\nq, r = divmod(a\n); }" ∷
    (codes "op f(a: word, b: word) -> q: word, r: word {\nq, r = divmod(a, b\n, a); "
    ++ codes "}") ∷ []) (at_line 3 Kind)
unfolding machine.breach_of items_from front_of
kind_arguments = refl

unknown_two : Each (
    codes "op f(a: word, b: word) -> q: word, r: word {\nq, r =\nfoo\n(a, b); }" ∷
    codes "op f(a: word, b: word) -> q: word, r: word {\nq, r = divmod(\nq\n, b); }" ∷
    (codes "op f(a: word, b: word) -> q: word, r: word { q = copy(a);\nt = add(a,\nr"
    ++ codes "\n); r = copy(a); }") ∷ []) (at_line 3 Unknown)
unfolding machine.breach_of items_from front_of
unknown_two = refl

no_result_two : Each (
    codes "op f(a: word, b: word) -> q: word, r: word {\nq = add(a, b);\n}" ∷
    codes "op f(a: word, b: word) -> q: word, r: word {\nr = add(a, b);\n}" ∷
    codes "op f(a: word, b: word) -> q: word, r: word {\nq, t = divmod(a, b);\n}" ∷
    codes "op f(a: word, b: word) -> q: word, r: word {\nt, r = divmod(a, b);\n}" ∷
    codes "op f(a: word, b: word) -> q: word, r: word {\nx, y = divmod(a, b);\n}" ∷
    codes "op f(a: word) -> q: word, c: bit {\nserial up () { q = a; }\n}" ∷
    codes "op f(a: word) -> q: word, c: bit {\nserial up (c = 0) { c = a; }\n}"
    ∷ []) (at_line 3 NoResult)
unfolding machine.breach_of items_from front_of
no_result_two = refl

syntax_two : Each (
    (codes "op f(a: word, b: word) -> q: word, r: word {\nq, r\n, t = divmod(a, b); "
    ++ codes "}") ∷
    codes "op f(a: word, b: word) -> q: word, r: word {\nq,\n= divmod(a, b); }" ∷
    codes "op f(a: word, b: word) -> q: word, r: word {\nq,\n( t = divmod(a, b); }" ∷
    (codes "op f(a: word, b: word) -> q: word, r: word {\nserial\n, q = divmod(a, b)"
    ++ codes "; }") ∷
    codes "op f(a: word)\n-> q: word, r: word\n, t: word { q = copy(a); }" ∷
    codes "op f(a: word)\n-> q: word,\n{ q = copy(a); }" ∷
    codes "op f(a: word)\n-> q: word, r:\n{ q = copy(a); }" ∷
    (codes "op f(a: word, b: word) -> q: word, r: word {\nserial up () { t\n, u = a;"
    ++ codes " } }") ∷
    codes "op f(a: word, b: word) -> q: word, r: word {\n\nq," ∷ []) (at_line 3 Syntax)
unfolding machine.breach_of items_from front_of
syntax_two = refl

bad_name_two : Each (
    codes "op f(a: word, b: word) -> q: word, r: word {\nq,\nword = divmod(a, b); }" ∷
    (codes "op f(a: word, b: word) -> q: word, r: word {\nq,\nserial = divmod(a, b);"
    ++ codes " }") ∷
    (codes "op f(a: word, b: word) -> q: word, r: word {\nq,\nabcdefghijklmnopq = di"
    ++ codes "vmod(a, b); }") ∷
    codes "op f(a: word)\n-> q: word,\nlet: word { q = copy(a); }" ∷ []) (at_line 3 BadName)
unfolding machine.breach_of items_from front_of
bad_name_two = refl
