-- Each item of a list takes a token at least, so a list has no more items than tokens.
use Rattle.std.proofs.Common.{ℕ, ◌+◌, ◌≤◌, List, [], ◌∷◌, length, Option, Some, None, arith, length-append}
use Rattle.rb_trees.specs.declared.tokens.Token.{Token}
use Rattle.rb_trees.specs.mirror.Code.{Exprs}
use Rattle.rb_meaning_bytes.specs.grammar.Symbols as s
use Rattle.rb_meaning_bytes.specs.grammar.Symbols.{Symbol, Terminal, The, Nonterminal, Chain, MoreChain, TreeOf, Trees, Makes, made}
use Rattle.rb_meaning_bytes.specs.grammar.Productions as r
use Rattle.rb_meaning_bytes.specs.grammar.Productions.{Production}
use Rattle.rb_meaning_bytes.specs.grammar.Derives as g
use Rattle.rb_meaning_bytes.specs.grammar.Derives.{Spells}
use Rattle.rb_meaning_types.specs.Lawful.{expr_count, stmt_count, literal_count}

abbrev pub call_items : Option Exprs → ℕ
call_items None = 0
call_items (Some args) = expr_count args

-- how many items a part's list has; what is an item counts as one
abbrev pub items : (p : Nonterminal) → TreeOf p → ℕ
items s.TheProgram x = 0
items s.Interfaces x = length x
items s.AnInterface x = 1
items s.Signatures x = length x
items s.ASignature x = 1
items s.Params x = length x
items s.MoreParams x = length x
items s.AParam x = 1
items s.ResultType x = 0
items s.Classes x = length x
items s.AClass x = 1
items s.Fields x = length x
items s.Methods x = length x
items s.AMethod x = 1
items s.AType x = 0
items s.ABody x = 0
items s.Returns x = 0
items s.Block x = stmt_count x
items s.Statements x = stmt_count x
items s.Statement x = 1
items s.StatementEnd x = 0
items s.Otherwise x = stmt_count x
items (Chain level) x = 1
items (MoreChain level) x = 0
items s.Prefix x = 1
items s.Postfix x = 1
items s.Members x = 0
items s.CallPart x = call_items x
items s.First x = 1
items s.Arguments x = expr_count x
items s.MoreArguments x = expr_count x
items s.TheService x = 0
items s.Objects x = length x
items s.AnObject x = 1
items s.GivenFields x = length x
items s.ALiteral x = 1
items s.Literals x = literal_count x
items s.MoreLiterals x = literal_count x

-- the items of all, where a token counts as one
abbrev pub total : (l : List Symbol) → Trees l → ℕ
total [] xs = 0
total (Terminal kind ∷ l) xs = 1 + total l xs.1
total (The p ∷ l) xs = items p xs.0 + total l xs.1

module _ (source : List ℕ) where
  within : {p : Nonterminal} {m : List Symbol} {f : Makes m (TreeOf p)} → Production source p m f → (xs : Trees m) → items p (made m (TreeOf p) f xs) ≤ total m xs
  within r.program xs = omega arith
  within r.no_interfaces xs = omega arith
  within r.more_interfaces xs = omega arith
  within r.interface xs = omega arith
  within r.no_signatures xs = omega arith
  within r.more_signatures xs = omega arith
  within r.signature xs = omega arith
  within r.no_params xs = omega arith
  within r.params xs = omega arith
  within r.last_param xs = omega arith
  within r.more_params xs = omega arith
  within r.param xs = omega arith
  within r.no_result_type xs = omega arith
  within r.result_type xs = omega arith
  within r.no_classes xs = omega arith
  within r.more_classes xs = omega arith
  within r.class xs = omega arith
  within r.no_fields xs = omega arith
  within r.more_fields xs = omega arith
  within r.no_methods xs = omega arith
  within r.more_methods xs = omega arith
  within r.local_method xs = omega arith
  within r.remote_method xs = omega arith
  within r.int_type xs = omega arith
  within r.bool_type xs = omega arith
  within r.text_type xs = omega arith
  within r.unit_type xs = omega arith
  within r.named_type xs = omega arith
  within r.list_type xs = omega arith
  within r.rows_type xs = omega arith
  within r.body xs = omega arith
  within r.no_return xs = omega arith
  within r.«return» xs = omega arith
  within r.block xs = omega arith
  within r.no_statements xs = omega arith
  within r.more_statements xs = omega arith
  within r.val xs = omega arith
  within r.var xs = omega arith
  within r.print xs = omega arith
  within r.throw xs = omega arith
  within r.«if» xs = omega arith
  within r.while xs = omega arith
  within r.for xs = omega arith
  within r.try xs = omega arith
  within r.batch xs = omega arith
  within r.expression_first xs = omega arith
  within r.alone xs = omega arith
  within r.assigned xs = omega arith
  within r.no_else xs = omega arith
  within r.«else» xs = omega arith
  within r.alternatives xs = omega arith
  within r.conditions xs = omega arith
  within r.comparison xs = omega arith
  within r.ordering xs = omega arith
  within r.sum xs = omega arith
  within r.product xs = omega arith
  within (r.last_operand level) xs = omega arith
  within r.or xs = omega arith
  within r.and xs = omega arith
  within r.equal xs = omega arith
  within r.unequal xs = omega arith
  within r.less xs = omega arith
  within r.at_most xs = omega arith
  within r.greater xs = omega arith
  within r.at_least xs = omega arith
  within r.plus xs = omega arith
  within r.minus xs = omega arith
  within r.times xs = omega arith
  within r.divided xs = omega arith
  within r.remainder xs = omega arith
  within r.not xs = omega arith
  within r.negative xs = omega arith
  within r.postfix xs = omega arith
  within r.first xs = omega arith
  within r.no_members xs = omega arith
  within r.member_of xs = omega arith
  within r.index xs = omega arith
  within r.no_call xs = omega arith
  within r.call xs = omega arith
  within r.number xs = omega arith
  within r.text xs = omega arith
  within r.true_literal xs = omega arith
  within r.false_literal xs = omega arith
  within r.this xs = omega arith
  within r.name xs = omega arith
  within r.len xs = omega arith
  within r.str xs = omega arith
  within r.new xs = omega arith
  within r.list xs = omega arith
  within r.inside xs = omega arith
  within r.no_arguments xs = omega arith
  within r.arguments xs = omega arith
  within r.last_argument xs = omega arith
  within r.more_arguments xs = omega arith
  within r.service xs = omega arith
  within r.no_objects xs = omega arith
  within r.more_objects xs = omega arith
  within r.object xs = omega arith
  within r.no_given_fields xs = omega arith
  within r.more_given_fields xs = omega arith
  within r.literal_number xs = omega arith
  within r.literal_minus xs = omega arith
  within r.literal_text xs = omega arith
  within r.literal_true xs = omega arith
  within r.literal_false xs = omega arith
  within r.literal_object xs = omega arith
  within r.literal_list xs = omega arith
  within r.no_literals xs = omega arith
  within r.literals xs = omega arith
  within r.last_literal xs = omega arith
  within r.more_literals xs = omega arith

  -- no more items than tokens
  pub counted : {l : List Symbol} {ts : List Token} {xs : Trees l} → Spells source l ts xs → total l xs ≤ length ts
  counted g.nothing = omega arith
  counted (g.token t d) = let n = counted d in omega arith
  counted (g.production {ts = ts} {us = us} {ys = ys} rule d e) = omega (arith, within rule ys, counted d, counted e, length-append ts us)
