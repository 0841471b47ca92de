-- What the grammar derives has lawful names, literals and lists.
use Rattle.std.proofs.Common.{◌≡◌, ℕ, ℤ, ◌+◌, ◌<◌, ◌≤◌, ◌^◌, Bool, true, false, ap, sym, subst, ◌∙◌, List, [], ◌∷◌, ◌++◌, length, Option, Some, None, arith, length-append}
use Rattle.std.specs.List.{All}
use Rattle.std.proofs.lemmas.List.Elements.{All-nil, All-cons}
use Rattle.rb_trees.specs.Spelling.{IsName}
use Rattle.rb_trees.specs.declared.tokens.Token.{Token}
use Rattle.rb_trees.specs.declared.values.Value.TheVariants as value
use Rattle.rb_trees.specs.declared.values.Value.{out-Value}
use Rattle.rb_trees.specs.declared.values.Value.TheOpen.{Value-F}
use Rattle.rb_trees.specs.declared.values.Value.TheViews.{out-roll-Value}
use Rattle.rb_trees.specs.declared.code.BinOp.TheVariants as binary
use Rattle.rb_trees.specs.mirror.Code as code
use Rattle.rb_trees.specs.mirror.Code.{Expr, Exprs, Stmts, NoStmts, MoreStmts}
use Rattle.rb_meaning_bytes.specs.grammar.Values.{name_of, number_of, text_of}
use Rattle.rb_meaning_bytes.specs.grammar.Symbols as s
use Rattle.rb_meaning_bytes.specs.grammar.Symbols.{Symbol, Terminal, The, Nonterminal, Chain, MoreChain, TreeOf, Trees, Makes, made}
use Rattle.rb_meaning_bytes.specs.grammar.Productions as r
use Rattle.rb_meaning_bytes.specs.grammar.Productions.{Production, member}
use Rattle.rb_meaning_bytes.specs.grammar.Derives as g
use Rattle.rb_meaning_bytes.specs.grammar.Derives.{Spells}
use Rattle.rb_meaning_types.specs.Values.{IsInt, IsText}
use Rattle.rb_meaning_types.specs.Lawful.{IsShort, IsLiteral, IsLiteralForm, IsLawfulType, IsLawfulExpr, AreLawfulExprs, expr_count, stmt_count, IsLawfulStmt, AreLawfulStmts, IsLawfulBlock, IsLawfulReturn, IsLawfulBody, IsLawfulParam, IsLawfulSignature, IsLawfulMethod, IsLawfulInterface, IsLawfulClass, IsLawfulLiteral, AreLawfulLiterals, IsLawfulGiven, IsLawfulObject}
use Rattle.rb_parse.proofs.readable.Tokens.{Tells, AllTell, tell_front, tell_back}
use Rattle.rb_parse.proofs.lawful.Numbers.{number_is_int, minus_is_int}
use Rattle.rb_parse.proofs.lawful.Sizes.{items, counted}

abbrev pub CallFormed : Option Exprs → Type 0
CallFormed None = Unit {0}
CallFormed (Some args) = AreLawfulExprs args × (expr_count args < 2 ^ 32)

-- The tree of a part is lawful. What follows an expression is, if the expression is.
abbrev pub Formed : (p : Nonterminal) → TreeOf p → Type 0
Formed s.TheProgram x = All IsLawfulInterface x.interfaces × IsShort x.interfaces × All IsLawfulClass x.classes × IsShort x.classes × IsLawfulType x.result × IsLawfulBody x.body
Formed s.Interfaces x = All IsLawfulInterface x
Formed s.AnInterface x = IsLawfulInterface x
Formed s.Signatures x = All IsLawfulSignature x
Formed s.ASignature x = IsLawfulSignature x
Formed s.Params x = All IsLawfulParam x
Formed s.MoreParams x = All IsLawfulParam x
Formed s.AParam x = IsLawfulParam x
Formed s.ResultType x = (at : ℕ) → IsLawfulType (x at)
Formed s.Classes x = All IsLawfulClass x
Formed s.AClass x = IsLawfulClass x
Formed s.Fields x = All IsLawfulParam x
Formed s.Methods x = All IsLawfulMethod x
Formed s.AMethod x = IsLawfulMethod x
Formed s.AType x = IsLawfulType x
Formed s.ABody x = IsLawfulBody x
Formed s.Returns x = IsLawfulReturn x
Formed s.Block x = AreLawfulStmts x
Formed s.Statements x = AreLawfulStmts x
Formed s.Statement x = IsLawfulStmt x
Formed s.StatementEnd x = (e : Expr) → IsLawfulExpr e → IsLawfulStmt (x e)
Formed s.Otherwise x = AreLawfulStmts x
Formed (Chain level) x = IsLawfulExpr x
Formed (MoreChain level) x = (e : Expr) → IsLawfulExpr e → IsLawfulExpr (x e)
Formed s.Prefix x = IsLawfulExpr x
Formed s.Postfix x = IsLawfulExpr x
Formed s.Members x = (e : Expr) → IsLawfulExpr e → IsLawfulExpr (x e)
Formed s.CallPart x = CallFormed x
Formed s.First x = IsLawfulExpr x
Formed s.Arguments x = AreLawfulExprs x
Formed s.MoreArguments x = AreLawfulExprs x
Formed s.TheService x = All IsLawfulClass x.classes × IsShort x.classes × All IsLawfulObject x.objects × IsShort x.objects
Formed s.Objects x = All IsLawfulObject x
Formed s.AnObject x = IsLawfulObject x
Formed s.GivenFields x = All IsLawfulGiven x
Formed s.ALiteral x = IsLawfulLiteral x
Formed s.Literals x = AreLawfulLiterals x
Formed s.MoreLiterals x = AreLawfulLiterals x

-- a part's tree, lawful and with few items
pub record Holds (p : Nonterminal) (x : TreeOf p) : Type 0 where
  pub formed : Formed p x
  pub short : items p x < 2 ^ 32

-- statements that are few are a block
block_of : (x : Stmts) → AreLawfulStmts x → stmt_count x < 2 ^ 32 → IsLawfulBlock x
block_of NoStmts h n = tt
block_of (MoreStmts x xs) h n = (h.0, h.1, n)

member_formed : (at : ℕ) (name : List ℕ) (args : Option Exprs) (e : Expr) → IsName name → CallFormed args → IsLawfulExpr e → IsLawfulExpr (member at name args e)
member_formed at name None e n a h = (h, n)
member_formed at name (Some args) e n a h = (h, n, a.0, a.1)

literal_int : (number : ℤ) → IsInt number → IsLiteral (value.Int number)
literal_int number h = subst IsLiteralForm (sym (ap out-Value (sym (value.rolls-Int number)) ∙ out-roll-Value (Value-F.Int number))) h

literal_bool : (truth : Bool) → IsLiteral (value.Bool truth)
literal_bool truth = subst IsLiteralForm (sym (ap out-Value (sym (value.rolls-Bool truth)) ∙ out-roll-Value (Value-F.Bool truth))) tt

literal_text : (text : List ℕ) → IsText text → IsLiteral (value.Text text)
literal_text text h = subst IsLiteralForm (sym (ap out-Value (sym (value.rolls-Text text)) ∙ out-roll-Value (Value-F.Text text))) h

module _ (source : List ℕ) where
  abbrev pub AllHold : (l : List Symbol) → Trees l → Type 0
  AllHold [] xs = Unit {0}
  AllHold (Terminal kind ∷ l) xs = Tells source true kind xs.0 × AllHold l xs.1
  AllHold (The p ∷ l) xs = Holds p xs.0 × AllHold l xs.1

  of_rule : {p : Nonterminal} {m : List Symbol} {f : Makes m (TreeOf p)} → Production source p m f → (xs : Trees m) → AllHold m xs → Formed p (made m (TreeOf p) f xs)
  of_rule r.program xs h = (h.0.formed, h.0.short, h.1.0.formed, h.1.0.short, h.1.1.1.0.formed xs.1.1.0.start, h.1.1.1.1.0.formed)
  of_rule r.no_interfaces xs h = All-nil IsLawfulInterface
  of_rule r.more_interfaces xs h = All-cons IsLawfulInterface xs.0 xs.1.0 h.0.formed h.1.0.formed
  of_rule r.interface xs h = (h.1.0, h.1.1.1.0.formed, h.1.1.1.0.short)
  of_rule r.no_signatures xs h = All-nil IsLawfulSignature
  of_rule r.more_signatures xs h = All-cons IsLawfulSignature xs.0 xs.1.1.0 h.0.formed h.1.1.0.formed
  of_rule r.signature xs h = (h.1.0, h.1.1.1.0.formed, h.1.1.1.0.short, h.1.1.1.1.1.0.formed xs.1.0.start)
  of_rule r.no_params xs h = All-nil IsLawfulParam
  of_rule r.params xs h = All-cons IsLawfulParam xs.0 xs.1.0 h.0.formed h.1.0.formed
  of_rule r.last_param xs h = All-nil IsLawfulParam
  of_rule r.more_params xs h = All-cons IsLawfulParam xs.1.0 xs.1.1.0 h.1.0.formed h.1.1.0.formed
  of_rule r.param xs h = (h.0, h.1.1.0.formed)
  of_rule r.no_result_type xs h = λ at. tt
  of_rule r.result_type xs h = λ at. h.1.0.formed
  of_rule r.no_classes xs h = All-nil IsLawfulClass
  of_rule r.more_classes xs h = All-cons IsLawfulClass xs.0 xs.1.0 h.0.formed h.1.0.formed
  of_rule r.class xs h = (h.1.0, h.1.1.1.0.formed, h.1.1.1.0.short, h.1.1.1.1.0.formed, h.1.1.1.1.0.short)
  of_rule r.no_fields xs h = All-nil IsLawfulParam
  of_rule r.more_fields xs h = All-cons IsLawfulParam xs.0 xs.1.1.0 h.0.formed h.1.1.0.formed
  of_rule r.no_methods xs h = All-nil IsLawfulMethod
  of_rule r.more_methods xs h = All-cons IsLawfulMethod xs.0 xs.1.0 h.0.formed h.1.0.formed
  of_rule r.local_method xs h = (h.0.formed, h.1.0.formed)
  of_rule r.remote_method xs h = (h.1.0.formed, h.1.1.0.formed)
  of_rule r.int_type xs h = tt
  of_rule r.bool_type xs h = tt
  of_rule r.text_type xs h = tt
  of_rule r.unit_type xs h = tt
  of_rule r.named_type xs h = h.0
  of_rule r.list_type xs h = h.1.1.0.formed
  of_rule r.rows_type xs h = h.1.1.0.formed
  of_rule r.body xs h = (block_of xs.1.0 h.1.0.formed h.1.0.short, h.1.1.0.formed)
  of_rule r.no_return xs h = tt
  of_rule r.«return» xs h = h.1.0.formed
  of_rule r.block xs h = h.1.0.formed
  of_rule r.no_statements xs h = tt
  of_rule r.more_statements xs h = (h.0.formed, h.1.0.formed)
  of_rule r.val xs h = (h.1.0, h.1.1.1.0.formed)
  of_rule r.var xs h = (h.1.0, h.1.1.1.0.formed)
  of_rule r.print xs h = h.1.1.0.formed
  of_rule r.throw xs h = h.1.0.formed
  of_rule r.«if» xs h = (h.1.1.0.formed, block_of xs.1.1.1.1.0 h.1.1.1.1.0.formed h.1.1.1.1.0.short, block_of xs.1.1.1.1.1.0 h.1.1.1.1.1.0.formed h.1.1.1.1.1.0.short)
  of_rule r.while xs h = (h.1.1.0.formed, block_of xs.1.1.1.1.0 h.1.1.1.1.0.formed h.1.1.1.1.0.short)
  of_rule r.for xs h = (h.1.1.0, h.1.1.1.1.0.formed, block_of xs.1.1.1.1.1.1.0 h.1.1.1.1.1.1.0.formed h.1.1.1.1.1.1.0.short)
  of_rule r.try xs h = (block_of xs.1.0 h.1.0.formed h.1.0.short, h.1.1.1.1.0, block_of xs.1.1.1.1.1.1.0 h.1.1.1.1.1.1.0.formed h.1.1.1.1.1.1.0.short)
  of_rule r.batch xs h = (h.1.1.0, h.1.1.1.0, block_of xs.1.1.1.1.1.0 h.1.1.1.1.1.0.formed h.1.1.1.1.1.0.short)
  of_rule r.expression_first xs h = h.1.0.formed xs.0 h.0.formed
  of_rule r.alone xs h = λ e k. k
  of_rule r.assigned xs h = λ e k. (k, h.1.0.formed)
  of_rule r.no_else xs h = tt
  of_rule r.«else» xs h = h.1.0.formed
  of_rule r.alternatives xs h = h.1.0.formed xs.0 h.0.formed
  of_rule r.conditions xs h = h.1.0.formed xs.0 h.0.formed
  of_rule r.comparison xs h = h.1.0.formed xs.0 h.0.formed
  of_rule r.ordering xs h = h.1.0.formed xs.0 h.0.formed
  of_rule r.sum xs h = h.1.0.formed xs.0 h.0.formed
  of_rule r.product xs h = h.1.0.formed xs.0 h.0.formed
  of_rule (r.last_operand level) xs h = λ e k. k
  of_rule r.or xs h = λ e k. h.1.1.0.formed (code.Binary xs.0.start binary.Or e xs.1.0) (k, h.1.0.formed)
  of_rule r.and xs h = λ e k. h.1.1.0.formed (code.Binary xs.0.start binary.And e xs.1.0) (k, h.1.0.formed)
  of_rule r.equal xs h = λ e k. (k, h.1.0.formed)
  of_rule r.unequal xs h = λ e k. (k, h.1.0.formed)
  of_rule r.less xs h = λ e k. (k, h.1.0.formed)
  of_rule r.at_most xs h = λ e k. (k, h.1.0.formed)
  of_rule r.greater xs h = λ e k. (k, h.1.0.formed)
  of_rule r.at_least xs h = λ e k. (k, h.1.0.formed)
  of_rule r.plus xs h = λ e k. h.1.1.0.formed (code.Binary xs.0.start binary.Add e xs.1.0) (k, h.1.0.formed)
  of_rule r.minus xs h = λ e k. h.1.1.0.formed (code.Binary xs.0.start binary.Sub e xs.1.0) (k, h.1.0.formed)
  of_rule r.times xs h = λ e k. h.1.1.0.formed (code.Binary xs.0.start binary.Mul e xs.1.0) (k, h.1.0.formed)
  of_rule r.divided xs h = λ e k. h.1.1.0.formed (code.Binary xs.0.start binary.Div e xs.1.0) (k, h.1.0.formed)
  of_rule r.remainder xs h = λ e k. h.1.1.0.formed (code.Binary xs.0.start binary.Rem e xs.1.0) (k, h.1.0.formed)
  of_rule r.not xs h = h.1.0.formed
  of_rule r.negative xs h = h.1.0.formed
  of_rule r.postfix xs h = h.0.formed
  of_rule r.first xs h = h.1.0.formed xs.0 h.0.formed
  of_rule r.no_members xs h = λ e k. k
  of_rule r.member_of xs h = λ e k. h.1.1.1.0.formed (member xs.1.0.start (name_of source xs.1.0) xs.1.1.0 e) (member_formed xs.1.0.start (name_of source xs.1.0) xs.1.1.0 e h.1.0 h.1.1.0.formed k)
  of_rule r.index xs h = λ e k. h.1.1.1.0.formed (code.Index xs.0.start e xs.1.0) (k, h.1.0.formed)
  of_rule r.no_call xs h = tt
  of_rule r.call xs h = (h.1.0.formed, h.1.0.short)
  of_rule r.number xs h = literal_int (number_of source xs.0) (number_is_int source xs.0)
  of_rule r.text xs h = literal_text (text_of source xs.0) h.0
  of_rule r.true_literal xs h = literal_bool true
  of_rule r.false_literal xs h = literal_bool false
  of_rule r.this xs h = tt
  of_rule r.name xs h = h.0
  of_rule r.len xs h = h.1.1.0.formed
  of_rule r.str xs h = h.1.1.0.formed
  of_rule r.new xs h = (h.1.0, h.1.1.1.0.formed, h.1.1.1.0.short)
  of_rule r.list xs h = (h.1.1.0.formed, h.1.1.1.1.1.0.formed, h.1.1.1.1.1.0.short)
  of_rule r.inside xs h = h.1.0.formed
  of_rule r.no_arguments xs h = tt
  of_rule r.arguments xs h = (h.0.formed, h.1.0.formed)
  of_rule r.last_argument xs h = tt
  of_rule r.more_arguments xs h = (h.1.0.formed, h.1.1.0.formed)
  of_rule r.service xs h = (h.0.formed, h.0.short, h.1.0.formed, h.1.0.short)
  of_rule r.no_objects xs h = All-nil IsLawfulObject
  of_rule r.more_objects xs h = All-cons IsLawfulObject xs.0 xs.1.0 h.0.formed h.1.0.formed
  of_rule r.object xs h = (h.1.1.1.0, h.1.1.1.1.1.0.formed, h.1.1.1.1.1.0.short)
  of_rule r.no_given_fields xs h = All-nil IsLawfulGiven
  of_rule r.more_given_fields xs h = All-cons IsLawfulGiven (name_of source xs.0, xs.1.1.0) xs.1.1.1.1.0 (h.0, h.1.1.0.formed) h.1.1.1.1.0.formed
  of_rule r.literal_number xs h = number_is_int source xs.0
  of_rule r.literal_minus xs h = minus_is_int source xs.1.0
  of_rule r.literal_text xs h = h.0
  of_rule r.literal_true xs h = tt
  of_rule r.literal_false xs h = tt
  of_rule r.literal_object xs h = tt
  of_rule r.literal_list xs h = (h.1.0.formed, h.1.0.short)
  of_rule r.no_literals xs h = tt
  of_rule r.literals xs h = (h.0.formed, h.1.0.formed)
  of_rule r.last_literal xs h = tt
  of_rule r.more_literals xs h = (h.1.0.formed, h.1.1.0.formed)

  -- the trees that tokens spell are lawful, where the tokens are few
  pub forms : {l : List Symbol} {ts : List Token} {xs : Trees l} → Spells source l ts xs → AllTell source ts → length ts < 2 ^ 32 → AllHold l xs
  forms g.nothing k few = tt
  forms (g.token t d) k few = (k.0, forms d k.1 (omega arith))
  forms (g.production {p} {m} {l} {f} {ts} {us} {ys} {xs} rule d e) k few =
      let c : length (ts ++ us) ≡ length ts + length us = length-append ts us in
      let a = forms d (tell_front source ts us k) (omega (arith, c)) in
      let b = forms e (tell_back source ts us k) (omega (arith, c)) in
      let w : items p (made m (TreeOf p) f ys) + 0 ≤ length (ts ++ []) = counted source (g.production {l = []} {xs = tt} rule d g.nothing) in
      let z : length (ts ++ []) ≡ length ts + 0 = length-append ts [] in
      (record { formed = of_rule rule ys a; short = omega (arith, w, z, c) }, b)
