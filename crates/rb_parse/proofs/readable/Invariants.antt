-- What holds of the states before and behind each part, and of its tree.
use Rattle.std.proofs.Common.{◌≡◌, ℕ, suc, ◌+◌, ◌≤◌, List, [], ◌∷◌, Option, Some, None}
use Rattle.std.specs.List.{All}
use Rattle.rb_trees.specs.mirror.Code.{Expr, Exprs}
use Rattle.rb_trees.specs.mirror.Types.{TypeTree}
use Rattle.rb_meaning_bytes.specs.tokens.Lists.{is_minus}
use Rattle.rb_meaning_bytes.specs.grammar.Symbols as s
use Rattle.rb_meaning_bytes.specs.grammar.Symbols.{Symbol, Terminal, The, Nonterminal, Chain, MoreChain, TreeOf, Trees, Makes, made}
use Rattle.rb_meaning_bytes.specs.grammar.Limits.{Nesting, after}
use Rattle.rb_meaning_types.specs.Lawful.{IsLawfulType}
use Rattle.rb_parse.proofs.readable.Trees.{IsReadType, type_depth, AreReadExprs, marks_of_all, IsReadOutermost, IsReadStmt, AreReadStmts, IsReadReturn, IsReadBody, IsReadParam, IsReadSignature, IsReadInterface, IsReadMethod, IsReadClass, IsReadable}
use Rattle.rb_parse.proofs.readable.States.{Room, Ready, Moves}
use Rattle.rb_parse.proofs.readable.Tokens.{Tells}
use Rattle.rb_parse.proofs.readable.Steps.{Fit, Rest, Placed, Carries, Spans, Keeps, Stated}

-- the level of the places of a chain's expressions
abbrev pub level_at : s.Level → ℕ
level_at s.OrLevel = 0
level_at s.AndLevel = 1
level_at s.SameLevel = 2
level_at s.OrderLevel = 3
level_at s.SumLevel = 4
level_at s.ProductLevel = 5

-- the level of the places of its left operands
abbrev pub left_at : s.Level → ℕ
left_at s.OrLevel = 0
left_at s.AndLevel = 1
left_at s.SameLevel = 3
left_at s.OrderLevel = 4
left_at s.SumLevel = 4
left_at s.ProductLevel = 5

abbrev pub IsReadCall : Option Exprs → Type 0
IsReadCall None = Unit {0}
IsReadCall (Some args) = AreReadExprs args

abbrev pub call_marks : Option Exprs → ℕ
call_marks None = 0
call_marks (Some args) = suc (marks_of_all args)

-- The same is open, and a type is read.
pub record Typed (n : Nesting) (t : TypeTree) (m : Nesting) : Type 0 where
  pub moves : Moves n m
  pub names : IsLawfulType t
  pub depth : n.types + type_depth t ≤ 64

abbrev pub Shown : Nesting → Type 0 → Nesting → Type 0
Shown n P m = Ready n → n.types ≡ 0 → Keeps n P m

-- in no block
abbrev pub Outside : Nesting → Type 0 → Nesting → Type 0
Outside n P m = Ready n → n.types ≡ 0 → n.blocks ≡ 0 → Keeps n P m

-- of the states before and behind a part, and its tree
abbrev pub Good : (p : Nonterminal) → Nesting → TreeOf p → Nesting → Type 0
Good s.TheProgram n x m = Ready n → n.types ≡ 0 → n.blocks ≡ 0 → IsReadable x
Good s.Interfaces n x m = Outside n (All IsReadInterface x) m
Good s.AnInterface n x m = Outside n (IsReadInterface x) m
Good s.Signatures n x m = Shown n (All IsReadSignature x) m
Good s.ASignature n x m = Shown n (IsReadSignature x) m
Good s.Params n x m = Shown n (All IsReadParam x) m
Good s.MoreParams n x m = Shown n (All IsReadParam x) m
Good s.AParam n x m = Shown n (IsReadParam x) m
Good s.ResultType n x m = Shown n ((at : ℕ) → IsReadType (x at)) m
Good s.Classes n x m = Outside n (All IsReadClass x) m
Good s.AClass n x m = Outside n (IsReadClass x) m
Good s.Fields n x m = Shown n (All IsReadParam x) m
Good s.Methods n x m = Outside n (All IsReadMethod x) m
Good s.AMethod n x m = Outside n (IsReadMethod x) m
Good s.AType n x m = Ready n → n.types ≤ 64 → Typed n x m
Good s.ABody n x m = Outside n (IsReadBody x) m
Good s.Returns n x m = Shown n (IsReadReturn x) m
Good s.Block n x m = Ready n → n.types ≡ 0 → Stated n ((suc n.blocks ≤ 64) × AreReadStmts (suc n.blocks) x) m
Good s.Statements n x m = Rest n → Stated n (AreReadStmts n.blocks x) m
Good s.Statement n x m = Rest n → Stated n (IsReadStmt n.blocks x) m
Good s.StatementEnd n x m = Fit n → Stated n ((e : Expr) → IsReadOutermost e → IsReadStmt n.blocks (x e)) m
Good s.Otherwise n x m = Rest n → Stated n (AreReadStmts (suc n.blocks) x) m
Good (Chain level) n x m = Fit n → Placed n (level_at level) x m
Good (MoreChain level) n x m = Fit n → Carries n (left_at level) (level_at level) x m
Good s.Prefix n x m = Fit n → Placed n 6 x m
Good s.Postfix n x m = Fit n → Placed n 7 x m
Good s.Members n x m = Fit n → Carries n 7 7 x m
Good s.CallPart n x m = Fit n → Spans n (IsReadCall x) (call_marks x) m
Good s.First n x m = Fit n → Placed n 8 x m
Good s.Arguments n x m = Rest n → Spans n (AreReadExprs x) (marks_of_all x) m
Good s.MoreArguments n x m = Fit n → Spans n (AreReadExprs x) (marks_of_all x) m
-- of services this says nothing: their classes are read like those of programs, and no more is readable
Good s.TheService n x m = Unit {0}
Good s.Objects n x m = Unit {0}
Good s.AnObject n x m = Unit {0}
Good s.GivenFields n x m = Unit {0}
Good s.ALiteral n x m = Unit {0}
Good s.Literals n x m = Unit {0}
Good s.MoreLiterals n x m = Unit {0}

-- the states behind symbols, one after the other, and what their tokens tell
abbrev pub Run : List ℕ → (l : List Symbol) → Nesting → Trees l → Type 0
Run source [] n xs = Unit {0}
Run source (Terminal kind ∷ l) n xs = Room (after n kind) × Tells source (is_minus n.last) kind xs.0 × Run source l (after n kind) xs.1
Run source (The p ∷ l) n xs = (m : Nesting) × Room m × Good p n xs.0 m × Run source l m xs.1

-- the state behind all of them
abbrev pub end_of : (source : List ℕ) (l : List Symbol) (n : Nesting) (xs : Trees l) → Run source l n xs → Nesting
end_of source [] n xs r = n
end_of source (Terminal kind ∷ l) n xs r = end_of source l (after n kind) xs.1 r.2
end_of source (The p ∷ l) n xs r = end_of source l r.0 xs.1 r.3

-- A production keeps what holds of parts.
abbrev pub Keeping : List ℕ → (p : Nonterminal) (l : List Symbol) → Makes l (TreeOf p) → Type 0
Keeping source p l f = (n : Nesting) (ys : Trees l) (r : Run source l n ys) → Good p n (made l (TreeOf p) f ys) (end_of source l n ys r)
