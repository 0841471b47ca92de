-- The productions of expressions keep what holds of parts.
use Rattle.std.proofs.Common.{◌≡◌, ℕ, suc, ◌+◌, ◌≤◌, true, false, List, [], ◌∷◌, refl, arith}
use Rattle.rb_trees.specs.declared.tokens.TokenKind.TheVariants as kind
use Rattle.rb_trees.specs.declared.code.UnOp.TheVariants as unary
use Rattle.rb_trees.specs.declared.code.BinOp.TheVariants as binary
use Rattle.rb_trees.specs.mirror.Code as code
use Rattle.rb_trees.specs.mirror.Code.{Expr, Exprs}
use Rattle.rb_trees.specs.printing.Exprs.{level_of}
use Rattle.rb_meaning_bytes.specs.tokens.Lists.{is_minus}
use Rattle.rb_trees.specs.Kinds as k
use Rattle.rb_meaning_bytes.specs.grammar.Symbols as s
use Rattle.rb_meaning_bytes.specs.grammar.Symbols.{Symbol, Chain, MoreChain, TreeOf, Makes}
use Rattle.rb_meaning_bytes.specs.grammar.Productions as r
use Rattle.rb_meaning_bytes.specs.grammar.Productions.{Production}
use Rattle.rb_meaning_bytes.specs.grammar.Values.{name_of, text_of}
use Rattle.rb_meaning_bytes.specs.grammar.Limits.{Nesting, after}
use Rattle.rb_parse.proofs.readable.Trees.{IsReadExpr, marks_of, marks_of_all}
use Rattle.rb_parse.proofs.readable.States.{afters}
use Rattle.rb_parse.proofs.readable.Heads.{list_opens, type_closes}
use Rattle.rb_parse.proofs.readable.Places.{lower, bare, enclosed}
use Rattle.rb_parse.proofs.readable.Tokens.{read_int, read_bool, read_text}
use Rattle.rb_parse.proofs.readable.Steps.{Fit, Step, led, token, sign, opens, lesses, greaters, steps_on, step_of, Placed, Carries}
use Rattle.rb_parse.proofs.readable.Invariants.{level_at, left_at, Keeping}
use Rattle.rb_parse.proofs.readable.Deepens.{carries_none, spans_none, followed, operated, compared, applied, prefixed, membered, indexed, bracketed, listed}
use Rattle.rb_parse.proofs.readable.Types.{item_read}

-- an operand, and the operators and operands that follow it
chained : {n m o : Nesting} {e : Expr} {f : Expr → Expr} (high inner outer : ℕ) → inner ≤ high → (Fit n → Placed n high e m) → (Fit m → Carries m inner outer f o) → Fit n → Placed n outer (f e) o
chained high inner outer h a b fit = let c = a fit in followed high inner outer h c (b c.step.fit)

pub at_chain : {source : List ℕ} {l : List Symbol} (level : s.Level) {f : Makes l (TreeOf (Chain level))} → Production source (Chain level) l f → Keeping source (Chain level) l f
at_chain _ r.alternatives = λ n ys run. chained 1 0 0 (omega arith) run.2 run.3.2
at_chain _ r.conditions = λ n ys run. chained 2 1 1 (omega arith) run.2 run.3.2
at_chain _ r.comparison = λ n ys run. chained 3 3 2 (omega arith) run.2 run.3.2
at_chain _ r.ordering = λ n ys run. chained 4 4 3 (omega arith) run.2 run.3.2
at_chain _ r.sum = λ n ys run. chained 5 4 4 (omega arith) run.2 run.3.2
at_chain _ r.product = λ n ys run. chained 6 5 5 (omega arith) run.2 run.3.2

lowers : (level : s.Level) → level_at level ≤ left_at level
lowers s.OrLevel = omega arith
lowers s.AndLevel = omega arith
lowers s.SameLevel = omega arith
lowers s.OrderLevel = omega arith
lowers s.SumLevel = omega arith
lowers s.ProductLevel = omega arith

pub at_more_chain : {source : List ℕ} {l : List Symbol} (level : s.Level) {f : Makes l (TreeOf (MoreChain level))} → Production source (MoreChain level) l f → Keeping source (MoreChain level) l f
at_more_chain _ (r.last_operand level) = λ n ys run fit. carries_none (left_at level) (level_at level) (lowers level) n fit
at_more_chain _ r.or = λ n ys run fit. operated ys.0.start binary.Or 0 refl refl (sign n k.sign_or refl refl fit) run.2.2 run.2.3.2
at_more_chain _ r.and = λ n ys run fit. operated ys.0.start binary.And 1 refl refl (sign n k.sign_and refl refl fit) run.2.2 run.2.3.2
at_more_chain _ r.equal = λ n ys run fit. compared ys.0.start binary.Eq 2 refl refl (sign n k.sign_equal refl refl fit) run.2.2
at_more_chain _ r.unequal = λ n ys run fit. compared ys.0.start binary.Ne 2 refl refl (sign n k.sign_unequal refl refl fit) run.2.2
at_more_chain _ r.less = λ n ys run fit. compared ys.0.start binary.Lt 3 refl refl (lesses n fit) run.2.2
at_more_chain _ r.at_most = λ n ys run fit. compared ys.0.start binary.Le 3 refl refl (sign n k.sign_at_most refl refl fit) run.2.2
at_more_chain _ r.greater = λ n ys run fit. compared ys.0.start binary.Gt 3 refl refl (greaters n fit) run.2.2
at_more_chain _ r.at_least = λ n ys run fit. compared ys.0.start binary.Ge 3 refl refl (sign n k.sign_at_least refl refl fit) run.2.2
at_more_chain _ r.plus = λ n ys run fit. operated ys.0.start binary.Add 4 refl refl (sign n k.sign_plus refl refl fit) run.2.2 run.2.3.2
at_more_chain _ r.minus = λ n ys run fit. operated ys.0.start binary.Sub 4 refl refl (sign n k.sign_minus refl refl fit) run.2.2 run.2.3.2
at_more_chain _ r.times = λ n ys run fit. operated ys.0.start binary.Mul 5 refl refl (sign n k.sign_star refl refl fit) run.2.2 run.2.3.2
at_more_chain _ r.divided = λ n ys run fit. operated ys.0.start binary.Div 5 refl refl (sign n k.sign_slash refl refl fit) run.2.2 run.2.3.2
at_more_chain _ r.remainder = λ n ys run fit. operated ys.0.start binary.Rem 5 refl refl (sign n k.sign_percent refl refl fit) run.2.2 run.2.3.2

pub at_prefix : {source : List ℕ} {l : List Symbol} {f : Makes l (TreeOf s.Prefix)} → Production source s.Prefix l f → Keeping source s.Prefix l f
at_prefix r.not = λ n ys run fit. prefixed ys.0.start unary.Not refl refl fit (sign n k.sign_not refl refl fit) run.2.2
at_prefix r.negative = λ n ys run fit. prefixed ys.0.start unary.Neg refl refl fit (sign n k.sign_minus refl refl fit) run.2.2
at_prefix r.postfix = λ n ys run fit. let a = run.2 fit in record { step = a.step; stands = lower 6 7 (omega arith) a.stands }

pub at_postfix : {source : List ℕ} {l : List Symbol} {f : Makes l (TreeOf s.Postfix)} → Production source s.Postfix l f → Keeping source s.Postfix l f
at_postfix r.first = λ n ys run. chained 8 7 7 (omega arith) run.2 run.3.2

pub at_members : {source : List ℕ} {l : List Symbol} {f : Makes l (TreeOf s.Members)} → Production source s.Members l f → Keeping source s.Members l f
at_members r.no_members = λ n ys run fit. carries_none 7 7 (omega arith) n fit
at_members {source} r.member_of = λ n ys run fit.
    let a = sign n k.sign_dot refl refl fit in
    membered ys.1.0.start (name_of source ys.1.0) ys.1.1.0 run.2.1 a (token (after n k.sign_dot) kind.Name refl refl refl a.fit) run.2.2.2 run.2.2.3.2
at_members r.index = λ n ys run fit. indexed ys.0.start refl (sign n k.sign_open_bracket refl refl fit) run.2.2 (λ g. token run.2.0 k.sign_close_bracket refl refl refl g) run.2.3.2.2

call_more : (n m own o q : ℕ) → m ≡ n + 1 → m + own ≤ o → o ≤ q → n + suc own ≤ q
call_more n m own o q e f g = omega arith

pub at_call : {source : List ℕ} {l : List Symbol} {f : Makes l (TreeOf s.CallPart)} → Production source s.CallPart l f → Keeping source s.CallPart l f
at_call r.no_call = λ n ys run fit. spans_none n (Unit {0}) fit tt
at_call r.call = λ n ys run fit.
    let a = opens n fit in
    let b = run.2.2 (record { fit = a.fit; no_minus = refl }) in
    let c = token run.2.0 k.sign_close refl refl refl b.step.fit in
    record {
      step = steps_on (step_of a) (steps_on b.step c);
      read = b.read;
      marks = call_more n.marks (after n k.sign_open).marks (marks_of_all ys.1.0) run.2.0.marks (after run.2.0 k.sign_close).marks a.more b.marks c.grows;
    }

-- a token that is an expression
single : (n m : Nesting) (e : Expr) → level_of e ≡ 8 → marks_of e ≡ 0 → IsReadExpr (is_minus n.last) e → Step n m → Placed n 8 e m
single n m e low own h a = record { step = a; stands = bare (is_minus n.last) 8 n.marks m.marks e (rw low refl) h (rw own (one n.marks m.marks a.grows)) }
  where
    one : (n m : ℕ) → n ≤ m → n + 0 ≤ m
    one n m h = omega arith

pub at_first : {source : List ℕ} {l : List Symbol} {f : Makes l (TreeOf s.First)} → Production source s.First l f → Keeping source s.First l f
at_first {source} r.number = λ n ys run fit. single n (after n kind.Number) _ refl refl (read_int source (is_minus n.last) ys.0 run.1) (token n kind.Number refl refl refl fit)
at_first {source} r.text = λ n ys run fit. single n (after n kind.TextLit) _ refl refl (read_text (is_minus n.last) (text_of source ys.0) run.1) (token n kind.TextLit refl refl refl fit)
at_first r.true_literal = λ n ys run fit. single n (after n k.keyword_true) _ refl refl (read_bool (is_minus n.last) true) (token n k.keyword_true refl refl refl fit)
at_first r.false_literal = λ n ys run fit. single n (after n k.keyword_false) _ refl refl (read_bool (is_minus n.last) false) (token n k.keyword_false refl refl refl fit)
at_first r.this = λ n ys run fit. single n (after n k.keyword_this) _ refl refl tt (token n k.keyword_this refl refl refl fit)
at_first r.name = λ n ys run fit. single n (after n kind.Name) _ refl refl run.1 (token n kind.Name refl refl refl fit)
at_first r.len = λ n ys run fit.
    let a = token n k.keyword_len refl refl refl fit in
    applied ys.0.start unary.Len 8 refl refl a (opens (after n k.keyword_len) a.fit) run.2.2.2 (λ g. token run.2.2.0 k.sign_close refl refl refl g)
at_first r.str = λ n ys run fit.
    let a = token n k.keyword_str refl refl refl fit in
    applied ys.0.start unary.Str 8 refl refl a (opens (after n k.keyword_str) a.fit) run.2.2.2 (λ g. token run.2.2.0 k.sign_close refl refl refl g)
at_first {source} r.new = λ n ys run fit.
    let a = token n k.keyword_new refl refl refl fit in
    let b = token (after n k.keyword_new) kind.Name refl refl refl a.fit in
    bracketed ys.1.1.1.0 (code.New ys.0.start (name_of source ys.1.0) ys.1.1.1.0) refl refl refl (λ h. (run.2.1, h)) (steps_on a b) (opens (afters n (k.keyword_new ∷ kind.Name ∷ [])) b.fit) run.2.2.2.2 (λ g. token run.2.2.2.0 k.sign_close refl refl refl g)
at_first r.list = λ n ys run fit.
    let a = list_opens n fit.ready in
    let b = run.2.2.2 a.ready run.2.0.types in
    let c = type_closes n (afters n (k.keyword_List ∷ k.sign_less ∷ [])) run.2.2.0 a b.moves in
    let d : Step n (after run.2.2.0 k.sign_greater) = record { fit = led n run.2.2.0 k.sign_greater refl b.moves.goes.ready c.goes fit.flat; blocks = c.goes.blocks; grows = c.grows } in
    bracketed ys.1.1.1.1.1.0 (code.Items ys.0.start ys.1.1.0 ys.1.1.1.1.1.0) refl refl refl (λ h. (item_read a b, h)) d (opens (after run.2.2.0 k.sign_greater) d.fit) run.2.2.3.2.2.2 (λ g. token run.2.2.3.2.2.0 k.sign_close refl refl refl g)
at_first r.inside = λ n ys run fit.
    let a = opens n fit in
    let b = run.2.2 a.fit in
    let c = token run.2.0 k.sign_close refl refl refl b.step.fit in
    record {
      step = steps_on (step_of a) (steps_on b.step c);
      stands = enclosed (is_minus n.last) 8 n.marks (after n k.sign_open).marks run.2.0.marks (after run.2.0 k.sign_close).marks ys.1.0 a.more c.grows b.stands;
    }

pub at_arguments : {source : List ℕ} {l : List Symbol} {f : Makes l (TreeOf s.Arguments)} → Production source s.Arguments l f → Keeping source s.Arguments l f
at_arguments r.no_arguments = λ n ys run rest. spans_none n (Unit {0}) rest.fit tt
at_arguments r.arguments = λ n ys run rest. listed ys.0 ys.1.0 rest.no_minus (run.2 rest.fit) run.3.2

marks_on : (n m own o : ℕ) → n ≤ m → m + own ≤ o → n + own ≤ o
marks_on n m own o e f = omega arith

pub at_more_arguments : {source : List ℕ} {l : List Symbol} {f : Makes l (TreeOf s.MoreArguments)} → Production source s.MoreArguments l f → Keeping source s.MoreArguments l f
at_more_arguments r.last_argument = λ n ys run fit. spans_none n (Unit {0}) fit tt
at_more_arguments r.more_arguments = λ n ys run fit.
    let a = token n k.sign_comma refl refl refl fit in
    let b = listed {n = after n k.sign_comma} ys.1.0 ys.1.1.0 refl (run.2.2 a.fit) run.2.3.2 in
    record { step = steps_on a b.step; read = b.read; marks = marks_on n.marks (after n k.sign_comma).marks (marks_of_all (code.MoreExprs ys.1.0 ys.1.1.0)) run.2.3.0.marks a.grows b.marks }
