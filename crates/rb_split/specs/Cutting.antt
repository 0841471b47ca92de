-- What an expression is without its remote parts, where it isn't remote as a whole.
use Rattle.std.specs.Prelude.{ℕ, List, [], ◌++◌}
use Rattle.rb_trees.specs.declared.code.Expr as expr
use Rattle.rb_trees.specs.mirror.Code.{Expr, Exprs, Unary, Binary, Field, Call, Index, New, Items, mirror_expr, mirror_exprs}
use Rattle.rb_meaning_flow.specs.Facts.{Facts}
use Rattle.rb_meaning_flow.specs.Scopes.{Scope}
use Rattle.rb_meaning.specs.RemoteExprs.{remote_in, all_remote_in}
use Rattle.rb_meaning_split.specs.Cuts.{counted, cut, cut_all}

-- the remote expressions in the parts of an expression alone
abbrev pub below : Facts → Scope → Expr → List Expr
below x scope (Unary at op a) = remote_in x scope a
below x scope (Binary at op a b) = remote_in x scope a ++ remote_in x scope b
below x scope (Field at a name) = remote_in x scope a
below x scope (Call at a method args) = remote_in x scope a ++ all_remote_in x scope args
below x scope (Index at a b) = remote_in x scope a ++ remote_in x scope b
below x scope (New at class args) = all_remote_in x scope args
below x scope (Items at item items) = all_remote_in x scope items
below x scope _ = []

-- the number after those of the remote expressions in an expression, in its parts alone, and in some
abbrev pub number_after : Facts → Scope → ℕ → Expr → ℕ
number_after x scope n e = counted (remote_in x scope e) n

abbrev pub below_number : Facts → Scope → ℕ → Expr → ℕ
below_number x scope n e = counted (below x scope e) n

abbrev pub all_numbers_after : Facts → Scope → ℕ → Exprs → ℕ
all_numbers_after x scope n es = counted (all_remote_in x scope es) n

-- a tree that is cut, and some
abbrev pub cut_so : Facts → Scope → ℕ → expr.Expr → Expr
cut_so x scope n e = cut x scope n (mirror_expr e)

abbrev pub all_cut_so : Facts → Scope → ℕ → List expr.Expr → Exprs
all_cut_so x scope n es = cut_all x scope n (mirror_exprs es)

-- the expression, of which only parts are cut
abbrev pub parts_cut : Facts → Scope → ℕ → Expr → Expr
parts_cut x scope n (Unary at op a) = Unary at op (cut x scope n a)
parts_cut x scope n (Binary at op a b) = Binary at op (cut x scope n a) (cut x scope (number_after x scope n a) b)
parts_cut x scope n (Field at a name) = Field at (cut x scope n a) name
parts_cut x scope n (Call at a method args) = Call at (cut x scope n a) method (cut_all x scope (number_after x scope n a) args)
parts_cut x scope n (Index at a b) = Index at (cut x scope n a) (cut x scope (number_after x scope n a) b)
parts_cut x scope n (New at class args) = New at class (cut_all x scope n args)
parts_cut x scope n (Items at item items) = Items at item (cut_all x scope n items)
parts_cut x scope n e = e
