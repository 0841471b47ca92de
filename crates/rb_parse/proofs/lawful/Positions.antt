-- Each position of what the grammar derives is the start of a token of its own.
use Rattle.std.proofs.Common.{◌≡◌, ℕ, ◌+◌, ◌≤◌, cond, nat_eq, List, [], ◌∷◌, ◌++◌, Option, Some, None, arith}
use Rattle.rb_trees.specs.declared.tokens.Token.{Token}
use Rattle.rb_trees.specs.declared.code.BinOp.TheVariants as binary
use Rattle.rb_trees.specs.mirror.Code as code
use Rattle.rb_trees.specs.mirror.Code.{Expr, Exprs}
use Rattle.rb_meaning_bytes.specs.grammar.Values.{name_of}
use Rattle.rb_meaning_bytes.specs.grammar.Symbols as s
use Rattle.rb_meaning_bytes.specs.grammar.Symbols.{Symbol, Terminal, The, Nonterminal, Chain, MoreChain, TreeOf, Trees, Makes, made}
use Rattle.rb_meaning_bytes.specs.grammar.Productions as r
use Rattle.rb_meaning_bytes.specs.grammar.Productions.{Production, member}
use Rattle.rb_meaning_bytes.specs.grammar.Derives as g
use Rattle.rb_meaning_bytes.specs.grammar.Derives.{Spells}
use Rattle.rb_meaning_types.specs.Lawful.{expr_positions, exprs_positions, stmt_positions, stmts_positions, return_positions, body_positions, methods_positions, classes_positions}

-- whether this is the number, as a count
unfoldable pub once : ℕ → ℕ → ℕ
once n x = cond (nat_eq n x) 1 0

-- how often the number stands in a list
abbrev pub times : ℕ → List ℕ → ℕ
times n [] = 0
times n (x ∷ xs) = once n x + times n xs

pub times_append : (n : ℕ) (xs ys : List ℕ) → times n (xs ++ ys) ≡ times n xs + times n ys
times_append n [] ys = omega arith
times_append n (x ∷ xs) ys = omega (arith, times_append n xs ys)

-- how often it is the start of a token
abbrev pub starts : ℕ → List Token → ℕ
starts n [] = 0
starts n (t ∷ ts) = once n t.start + starts n ts

starts_append : (n : ℕ) (ts us : List Token) → starts n (ts ++ us) ≡ starts n ts + starts n us
starts_append n [] us = omega arith
starts_append n (t ∷ ts) us = omega (arith, starts_append n ts us)

abbrev pub call_positions : Option Exprs → List ℕ
call_positions None = []
call_positions (Some args) = exprs_positions args

module _ (n : ℕ) where
  -- The number stands so often in the positions of a part's tree. What follows an expression adds so many.
  abbrev pub Hits : (p : Nonterminal) → TreeOf p → ℕ → Type 0
  Hits s.TheProgram x k = times n (classes_positions x.classes ++ body_positions x.body) ≤ k
  Hits s.Interfaces x k = Unit {0}
  Hits s.AnInterface x k = Unit {0}
  Hits s.Signatures x k = Unit {0}
  Hits s.ASignature x k = Unit {0}
  Hits s.Params x k = Unit {0}
  Hits s.MoreParams x k = Unit {0}
  Hits s.AParam x k = Unit {0}
  Hits s.ResultType x k = Unit {0}
  Hits s.Classes x k = times n (classes_positions x) ≤ k
  Hits s.AClass x k = times n (methods_positions x.methods) ≤ k
  Hits s.Fields x k = Unit {0}
  Hits s.Methods x k = times n (methods_positions x) ≤ k
  Hits s.AMethod x k = times n (body_positions x.body) ≤ k
  Hits s.AType x k = Unit {0}
  Hits s.ABody x k = times n (body_positions x) ≤ k
  Hits s.Returns x k = times n (return_positions x) ≤ k
  Hits s.Block x k = times n (stmts_positions x) ≤ k
  Hits s.Statements x k = times n (stmts_positions x) ≤ k
  Hits s.Statement x k = times n (stmt_positions x) ≤ k
  Hits s.StatementEnd x k = (e : Expr) → times n (stmt_positions (x e)) ≤ times n (expr_positions e) + k
  Hits s.Otherwise x k = times n (stmts_positions x) ≤ k
  Hits (Chain level) x k = times n (expr_positions x) ≤ k
  Hits (MoreChain level) x k = (e : Expr) → times n (expr_positions (x e)) ≤ times n (expr_positions e) + k
  Hits s.Prefix x k = times n (expr_positions x) ≤ k
  Hits s.Postfix x k = times n (expr_positions x) ≤ k
  Hits s.Members x k = (e : Expr) → times n (expr_positions (x e)) ≤ times n (expr_positions e) + k
  Hits s.CallPart x k = times n (call_positions x) ≤ k
  Hits s.First x k = times n (expr_positions x) ≤ k
  Hits s.Arguments x k = times n (exprs_positions x) ≤ k
  Hits s.MoreArguments x k = times n (exprs_positions x) ≤ k
  Hits s.TheService x k = times n (classes_positions x.classes) ≤ k
  Hits s.Objects x k = Unit {0}
  Hits s.AnObject x k = Unit {0}
  Hits s.GivenFields x k = Unit {0}
  Hits s.ALiteral x k = Unit {0}
  Hits s.Literals x k = Unit {0}
  Hits s.MoreLiterals x k = Unit {0}

  -- a token takes its start off the number of starts, and others have the rest
  pub record TokenTaken (t : Token) (R : ℕ → Type 0) (k : ℕ) : Type 0 where
    pub left : ℕ
    pub fits : once n t.start + left ≤ k
    pub rest : R left

  -- a part takes some of the starts, and others have the rest
  pub record PartTaken (p : Nonterminal) (x : TreeOf p) (R : ℕ → Type 0) (k : ℕ) : Type 0 where
    pub own : ℕ
    pub left : ℕ
    pub fits : own + left ≤ k
    pub hits : Hits p x own
    pub rest : R left

  abbrev pub AllHit : (l : List Symbol) → Trees l → ℕ → Type 0
  AllHit [] xs k = Unit {0}
  AllHit (Terminal kind ∷ l) xs k = TokenTaken xs.0 (AllHit l xs.1) k
  AllHit (The p ∷ l) xs k = PartTaken p xs.0 (AllHit l xs.1) k

  pub call_hits : (at : ℕ) (name : List ℕ) (args : Option Exprs) (e : Expr) (k : ℕ) → Hits s.CallPart args k → times n (expr_positions (member at name args e)) ≤ once n at + times n (expr_positions e) + k
  call_hits at name None e k h = omega (arith, h)
  call_hits at name (Some args) e k h = omega (arith, h, times_append n (expr_positions e) (exprs_positions args))

module _ (source : List ℕ) (n : ℕ) where
  of_rule : {p : Nonterminal} {m : List Symbol} {f : Makes m (TreeOf p)} → Production source p m f → (xs : Trees m) (k : ℕ) → AllHit n m xs k → Hits n p (made m (TreeOf p) f xs) k
  of_rule r.program xs k h = omega (arith, h.fits, h.rest.fits, h.rest.hits, h.rest.rest.fits, h.rest.rest.rest.fits, h.rest.rest.rest.rest.fits, h.rest.rest.rest.rest.hits, times_append n (classes_positions xs.1.0) (body_positions xs.1.1.1.1.0))
  of_rule r.no_interfaces xs k h = tt
  of_rule r.more_interfaces xs k h = tt
  of_rule r.interface xs k h = tt
  of_rule r.no_signatures xs k h = tt
  of_rule r.more_signatures xs k h = tt
  of_rule r.signature xs k h = tt
  of_rule r.no_params xs k h = tt
  of_rule r.params xs k h = tt
  of_rule r.last_param xs k h = tt
  of_rule r.more_params xs k h = tt
  of_rule r.param xs k h = tt
  of_rule r.no_result_type xs k h = tt
  of_rule r.result_type xs k h = tt
  of_rule r.no_classes xs k h = omega arith
  of_rule r.more_classes xs k h = omega (arith, h.fits, h.hits, h.rest.fits, h.rest.hits, times_append n (methods_positions xs.0.methods) (classes_positions xs.1.0))
  of_rule r.class xs k h = omega (arith, h.fits, h.rest.fits, h.rest.rest.fits, h.rest.rest.rest.fits, h.rest.rest.rest.rest.fits, h.rest.rest.rest.rest.hits, h.rest.rest.rest.rest.rest.fits)
  of_rule r.no_fields xs k h = tt
  of_rule r.more_fields xs k h = tt
  of_rule r.no_methods xs k h = omega arith
  of_rule r.more_methods xs k h = omega (arith, h.fits, h.hits, h.rest.fits, h.rest.hits, times_append n (body_positions xs.0.body) (methods_positions xs.1.0))
  of_rule r.local_method xs k h = omega (arith, h.fits, h.rest.fits, h.rest.hits)
  of_rule r.remote_method xs k h = omega (arith, h.fits, h.rest.fits, h.rest.rest.fits, h.rest.rest.hits)
  of_rule r.int_type xs k h = tt
  of_rule r.bool_type xs k h = tt
  of_rule r.text_type xs k h = tt
  of_rule r.unit_type xs k h = tt
  of_rule r.named_type xs k h = tt
  of_rule r.list_type xs k h = tt
  of_rule r.rows_type xs k h = tt
  of_rule r.body xs k h = omega (arith, h.fits, h.rest.fits, h.rest.hits, h.rest.rest.fits, h.rest.rest.hits, h.rest.rest.rest.fits, times_append n (stmts_positions xs.1.0) (return_positions xs.1.1.0))
  of_rule r.no_return xs k h = omega arith
  of_rule r.«return» xs k h = omega (arith, h.fits, h.rest.fits, h.rest.hits, h.rest.rest.fits)
  of_rule r.block xs k h = omega (arith, h.fits, h.rest.fits, h.rest.hits, h.rest.rest.fits)
  of_rule r.no_statements xs k h = omega arith
  of_rule r.more_statements xs k h = omega (arith, h.fits, h.hits, h.rest.fits, h.rest.hits, times_append n (stmt_positions xs.0) (stmts_positions xs.1.0))
  of_rule r.val xs k h = omega (arith, h.fits, h.rest.fits, h.rest.rest.fits, h.rest.rest.rest.fits, h.rest.rest.rest.hits, h.rest.rest.rest.rest.fits)
  of_rule r.var xs k h = omega (arith, h.fits, h.rest.fits, h.rest.rest.fits, h.rest.rest.rest.fits, h.rest.rest.rest.hits, h.rest.rest.rest.rest.fits)
  of_rule r.print xs k h = omega (arith, h.fits, h.rest.fits, h.rest.rest.fits, h.rest.rest.hits, h.rest.rest.rest.fits, h.rest.rest.rest.rest.fits)
  of_rule r.throw xs k h = omega (arith, h.fits, h.rest.fits, h.rest.hits, h.rest.rest.fits)
  of_rule r.«if» xs k h = omega (arith, h.fits, h.rest.fits, h.rest.rest.fits, h.rest.rest.hits, h.rest.rest.rest.fits, h.rest.rest.rest.rest.fits, h.rest.rest.rest.rest.hits, h.rest.rest.rest.rest.rest.fits, h.rest.rest.rest.rest.rest.hits, times_append n (expr_positions xs.1.1.0 ++ stmts_positions xs.1.1.1.1.0) (stmts_positions xs.1.1.1.1.1.0), times_append n (expr_positions xs.1.1.0) (stmts_positions xs.1.1.1.1.0))
  of_rule r.while xs k h = omega (arith, h.fits, h.rest.fits, h.rest.rest.fits, h.rest.rest.hits, h.rest.rest.rest.fits, h.rest.rest.rest.rest.fits, h.rest.rest.rest.rest.hits, times_append n (expr_positions xs.1.1.0) (stmts_positions xs.1.1.1.1.0))
  of_rule r.for xs k h = omega (arith, h.fits, h.rest.fits, h.rest.rest.fits, h.rest.rest.rest.fits, h.rest.rest.rest.rest.fits, h.rest.rest.rest.rest.hits, h.rest.rest.rest.rest.rest.fits, h.rest.rest.rest.rest.rest.rest.fits, h.rest.rest.rest.rest.rest.rest.hits, times_append n (expr_positions xs.1.1.1.1.0) (stmts_positions xs.1.1.1.1.1.1.0))
  of_rule r.try xs k h = omega (arith, h.fits, h.rest.fits, h.rest.hits, h.rest.rest.fits, h.rest.rest.rest.fits, h.rest.rest.rest.rest.fits, h.rest.rest.rest.rest.rest.fits, h.rest.rest.rest.rest.rest.rest.fits, h.rest.rest.rest.rest.rest.rest.hits, times_append n (stmts_positions xs.1.0) (stmts_positions xs.1.1.1.1.1.1.0))
  of_rule r.batch xs k h = omega (arith, h.fits, h.rest.fits, h.rest.rest.fits, h.rest.rest.rest.fits, h.rest.rest.rest.rest.fits, h.rest.rest.rest.rest.rest.fits, h.rest.rest.rest.rest.rest.hits)
  of_rule r.expression_first xs k h = omega (arith, h.fits, h.hits, h.rest.fits, h.rest.hits xs.0)
  of_rule r.alone xs k h = λ e. omega (arith, h.fits)
  of_rule r.assigned xs k h = λ e. omega (arith, h.fits, h.rest.fits, h.rest.hits, h.rest.rest.fits, times_append n (expr_positions e) (expr_positions xs.1.0))
  of_rule r.no_else xs k h = omega arith
  of_rule r.«else» xs k h = omega (arith, h.fits, h.rest.fits, h.rest.hits)
  of_rule r.alternatives xs k h = omega (arith, h.fits, h.hits, h.rest.fits, h.rest.hits xs.0)
  of_rule r.conditions xs k h = omega (arith, h.fits, h.hits, h.rest.fits, h.rest.hits xs.0)
  of_rule r.comparison xs k h = omega (arith, h.fits, h.hits, h.rest.fits, h.rest.hits xs.0)
  of_rule r.ordering xs k h = omega (arith, h.fits, h.hits, h.rest.fits, h.rest.hits xs.0)
  of_rule r.sum xs k h = omega (arith, h.fits, h.hits, h.rest.fits, h.rest.hits xs.0)
  of_rule r.product xs k h = omega (arith, h.fits, h.hits, h.rest.fits, h.rest.hits xs.0)
  of_rule (r.last_operand level) xs k h = λ e. omega arith
  of_rule r.or xs k h = λ e. omega (arith, h.fits, h.rest.fits, h.rest.hits, h.rest.rest.fits, h.rest.rest.hits (code.Binary xs.0.start binary.Or e xs.1.0), times_append n (expr_positions e) (expr_positions xs.1.0))
  of_rule r.and xs k h = λ e. omega (arith, h.fits, h.rest.fits, h.rest.hits, h.rest.rest.fits, h.rest.rest.hits (code.Binary xs.0.start binary.And e xs.1.0), times_append n (expr_positions e) (expr_positions xs.1.0))
  of_rule r.equal xs k h = λ e. omega (arith, h.fits, h.rest.fits, h.rest.hits, times_append n (expr_positions e) (expr_positions xs.1.0))
  of_rule r.unequal xs k h = λ e. omega (arith, h.fits, h.rest.fits, h.rest.hits, times_append n (expr_positions e) (expr_positions xs.1.0))
  of_rule r.less xs k h = λ e. omega (arith, h.fits, h.rest.fits, h.rest.hits, times_append n (expr_positions e) (expr_positions xs.1.0))
  of_rule r.at_most xs k h = λ e. omega (arith, h.fits, h.rest.fits, h.rest.hits, times_append n (expr_positions e) (expr_positions xs.1.0))
  of_rule r.greater xs k h = λ e. omega (arith, h.fits, h.rest.fits, h.rest.hits, times_append n (expr_positions e) (expr_positions xs.1.0))
  of_rule r.at_least xs k h = λ e. omega (arith, h.fits, h.rest.fits, h.rest.hits, times_append n (expr_positions e) (expr_positions xs.1.0))
  of_rule r.plus xs k h = λ e. omega (arith, h.fits, h.rest.fits, h.rest.hits, h.rest.rest.fits, h.rest.rest.hits (code.Binary xs.0.start binary.Add e xs.1.0), times_append n (expr_positions e) (expr_positions xs.1.0))
  of_rule r.minus xs k h = λ e. omega (arith, h.fits, h.rest.fits, h.rest.hits, h.rest.rest.fits, h.rest.rest.hits (code.Binary xs.0.start binary.Sub e xs.1.0), times_append n (expr_positions e) (expr_positions xs.1.0))
  of_rule r.times xs k h = λ e. omega (arith, h.fits, h.rest.fits, h.rest.hits, h.rest.rest.fits, h.rest.rest.hits (code.Binary xs.0.start binary.Mul e xs.1.0), times_append n (expr_positions e) (expr_positions xs.1.0))
  of_rule r.divided xs k h = λ e. omega (arith, h.fits, h.rest.fits, h.rest.hits, h.rest.rest.fits, h.rest.rest.hits (code.Binary xs.0.start binary.Div e xs.1.0), times_append n (expr_positions e) (expr_positions xs.1.0))
  of_rule r.remainder xs k h = λ e. omega (arith, h.fits, h.rest.fits, h.rest.hits, h.rest.rest.fits, h.rest.rest.hits (code.Binary xs.0.start binary.Rem e xs.1.0), times_append n (expr_positions e) (expr_positions xs.1.0))
  of_rule r.not xs k h = omega (arith, h.fits, h.rest.fits, h.rest.hits)
  of_rule r.negative xs k h = omega (arith, h.fits, h.rest.fits, h.rest.hits)
  of_rule r.postfix xs k h = omega (arith, h.fits, h.hits)
  of_rule r.first xs k h = omega (arith, h.fits, h.hits, h.rest.fits, h.rest.hits xs.0)
  of_rule r.no_members xs k h = λ e. omega arith
  of_rule r.member_of xs k h = λ e. omega (arith, h.fits, h.rest.fits, h.rest.rest.fits, h.rest.rest.hits, h.rest.rest.rest.fits, h.rest.rest.rest.hits (member xs.1.0.start (name_of source xs.1.0) xs.1.1.0 e), call_hits n xs.1.0.start (name_of source xs.1.0) xs.1.1.0 e h.rest.rest.own h.rest.rest.hits)
  of_rule r.index xs k h = λ e. omega (arith, h.fits, h.rest.fits, h.rest.hits, h.rest.rest.fits, h.rest.rest.rest.fits, h.rest.rest.rest.hits (code.Index xs.0.start e xs.1.0), times_append n (expr_positions e) (expr_positions xs.1.0))
  of_rule r.no_call xs k h = omega arith
  of_rule r.call xs k h = omega (arith, h.fits, h.rest.fits, h.rest.hits, h.rest.rest.fits)
  of_rule r.number xs k h = omega (arith, h.fits)
  of_rule r.text xs k h = omega (arith, h.fits)
  of_rule r.true_literal xs k h = omega (arith, h.fits)
  of_rule r.false_literal xs k h = omega (arith, h.fits)
  of_rule r.this xs k h = omega (arith, h.fits)
  of_rule r.name xs k h = omega (arith, h.fits)
  of_rule r.len xs k h = omega (arith, h.fits, h.rest.fits, h.rest.rest.fits, h.rest.rest.hits, h.rest.rest.rest.fits)
  of_rule r.str xs k h = omega (arith, h.fits, h.rest.fits, h.rest.rest.fits, h.rest.rest.hits, h.rest.rest.rest.fits)
  of_rule r.new xs k h = omega (arith, h.fits, h.rest.fits, h.rest.rest.fits, h.rest.rest.rest.fits, h.rest.rest.rest.hits, h.rest.rest.rest.rest.fits)
  of_rule r.list xs k h = omega (arith, h.fits, h.rest.fits, h.rest.rest.fits, h.rest.rest.rest.fits, h.rest.rest.rest.rest.fits, h.rest.rest.rest.rest.rest.fits, h.rest.rest.rest.rest.rest.hits, h.rest.rest.rest.rest.rest.rest.fits)
  of_rule r.inside xs k h = omega (arith, h.fits, h.rest.fits, h.rest.hits, h.rest.rest.fits)
  of_rule r.no_arguments xs k h = omega arith
  of_rule r.arguments xs k h = omega (arith, h.fits, h.hits, h.rest.fits, h.rest.hits, times_append n (expr_positions xs.0) (exprs_positions xs.1.0))
  of_rule r.last_argument xs k h = omega arith
  of_rule r.more_arguments xs k h = omega (arith, h.fits, h.rest.fits, h.rest.hits, h.rest.rest.fits, h.rest.rest.hits, times_append n (expr_positions xs.1.0) (exprs_positions xs.1.1.0))
  of_rule r.service xs k h = omega (arith, h.fits, h.hits)
  of_rule r.no_objects xs k h = tt
  of_rule r.more_objects xs k h = tt
  of_rule r.object xs k h = tt
  of_rule r.no_given_fields xs k h = tt
  of_rule r.more_given_fields xs k h = tt
  of_rule r.literal_number xs k h = tt
  of_rule r.literal_minus xs k h = tt
  of_rule r.literal_text xs k h = tt
  of_rule r.literal_true xs k h = tt
  of_rule r.literal_false xs k h = tt
  of_rule r.literal_object xs k h = tt
  of_rule r.literal_list xs k h = tt
  of_rule r.no_literals xs k h = tt
  of_rule r.literals xs k h = tt
  of_rule r.last_literal xs k h = tt
  of_rule r.more_literals xs k h = tt

  -- the number stands in the trees that tokens spell no more often than among the starts of the tokens
  pub hits : {l : List Symbol} {ts : List Token} {xs : Trees l} → Spells source l ts xs → AllHit n l xs (starts n ts)
  hits g.nothing = tt
  hits (g.token {ts = ts} t d) = record { left = starts n ts; fits = omega arith; rest = hits d }
  hits (g.production {p} {m} {l} {f} {ts} {us} {ys} {xs} rule d e) = record { own = starts n ts; left = starts n us; fits = omega (arith, starts_append n ts us); hits = of_rule rule ys (starts n ts) (hits d); rest = hits e }
