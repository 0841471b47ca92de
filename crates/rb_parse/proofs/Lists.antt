-- Lists that are read one item after the other.
use Rattle.std.proofs.Common.{◌≡◌, ℕ, List, [], ◌∷◌, ◌++◌, refl, ap, ◌∙◌, Some, None, Ok, Err}
use Rattle.rb_trees.specs.declared.tokens.Token.{Token}
use Rattle.rb_trees.specs.declared.code.Expr as expr
use Rattle.rb_trees.specs.mirror.Code as code
use Rattle.rb_trees.specs.mirror.Code.{Expr, Exprs, mirror_expr, mirror_exprs}
use Rattle.rb_trees.specs.Kinds as k
use Rattle.rb_meaning_bytes.specs.grammar.Symbols as s
use Rattle.rb_parse.specs.Table.{cases, otherwise}
use Rattle.rb_parse.specs.Reading.{Read, ◌>>=◌, read_of, taken, on_taken}
use Rattle.rb_parse.specs.Parts.{put_exprs, more_on, arguments_on}
use Rattle.rb_parse.proofs.Equations.{reads_by, taken_bind, bind_bind}

put_exprs_last : (es : List expr.Expr) (e : expr.Expr) (l : Exprs) → put_exprs (es ++ e ∷ []) l ≡ put_exprs es (code.MoreExprs (mirror_expr e) l)
put_exprs_last [] e l = refl
put_exprs_last (x ∷ es) e l = ap (code.MoreExprs (mirror_expr x)) (put_exprs_last es e l)

put_exprs_all : (es : List expr.Expr) → put_exprs es code.NoExprs ≡ mirror_exprs es
put_exprs_all [] = refl
put_exprs_all (x ∷ es) = ap (code.MoreExprs (mirror_expr x)) (put_exprs_all es)

abbrev then_put : List expr.Expr → Exprs × List Token → Read Exprs
then_put es m = Ok (put_exprs es m.0, m.1)

arguments_by : (source : List ℕ) (es : List expr.Expr) (ts : List Token) → arguments_on source es ts ≡ on_taken (taken k.sign_comma ts) (λ w. read_of source s.Expression w.1 >>= λ a. read_of source s.MoreArguments a.1 >>= λ m. Ok (put_exprs es (code.MoreExprs a.0 m.0), m.1)) (Ok (put_exprs es code.NoExprs, ts))
unfolding cases otherwise arguments_on
arguments_by source es ts = simp (taken_bind, bind_bind) at (ap (λ z. z >>= then_put es) (reads_by source s.MoreArguments ts))

pub arguments_start : (source : List ℕ) (e : expr.Expr) (ts : List Token) → more_on source (mirror_expr e) ts ≡ arguments_on source (e ∷ []) ts
unfolding more_on arguments_on
arguments_start source e ts = refl

pub arguments_end : (source : List ℕ) (es : List expr.Expr) (ts : List Token) → taken k.sign_comma ts ≡ None → arguments_on source es ts ≡ Ok (mirror_exprs es, ts)
arguments_end source es ts h = arguments_by source es ts ∙ ap (λ o. on_taken o (λ w. read_of source s.Expression w.1 >>= λ a. read_of source s.MoreArguments a.1 >>= λ m. Ok (put_exprs es (code.MoreExprs a.0 m.0), m.1)) (Ok (put_exprs es code.NoExprs, ts))) h ∙ ap (λ l. Ok (l, ts)) (put_exprs_all es)

pub arguments_step : (source : List ℕ) (es : List expr.Expr) (e : expr.Expr) (t : Token) (ts vs us : List Token) → taken k.sign_comma ts ≡ Some (t, vs) → read_of source s.Expression vs ≡ Ok (mirror_expr e, us) → arguments_on source es ts ≡ arguments_on source (es ++ e ∷ []) us
unfolding arguments_on
arguments_step source es e t ts vs us h r = arguments_by source es ts ∙ rw (h, r) (simp put_exprs_last)

pub arguments_stop : (source : List ℕ) (es : List expr.Expr) (t : Token) (ts vs : List Token) (m : ℕ) → taken k.sign_comma ts ≡ Some (t, vs) → read_of source s.Expression vs ≡ Err m → arguments_on source es ts ≡ Err m
arguments_stop source es t ts vs m h r = arguments_by source es ts ∙ rw (h, r) refl

pub ruleset arguments = (arguments_start, arguments_end, arguments_step, arguments_stop)
