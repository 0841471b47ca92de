-- The symbols of the grammar of programs and services, and what tree each has.
use Rattle.std.specs.Prelude.{ℕ, List, [], ◌∷◌, Option}
use Rattle.rb_trees.specs.declared.tokens.Token.{Token}
use Rattle.rb_trees.specs.declared.tokens.TokenKind.{TokenKind}
use Rattle.rb_trees.specs.mirror.Types.{TypeTree}
use Rattle.rb_trees.specs.mirror.Code.{Expr, Exprs, Stmt, Stmts}
use Rattle.rb_trees.specs.mirror.Declarations as tree
use Rattle.rb_trees.specs.mirror.Services as service

-- The levels of binary operators, from those that bind least.
pub data Level : Type 0 where
  OrLevel : Level
  AndLevel : Level
  SameLevel : Level
  OrderLevel : Level
  SumLevel : Level
  ProductLevel : Level

-- The parts of a text. What is repeated or may be absent is a part of its own.
pub data Nonterminal : Type 0 where
  TheProgram : Nonterminal
  Interfaces : Nonterminal
  AnInterface : Nonterminal
  -- signatures, each with its semicolon
  Signatures : Nonterminal
  ASignature : Nonterminal
  Params : Nonterminal
  MoreParams : Nonterminal
  AParam : Nonterminal
  -- a colon and a type, or nothing
  ResultType : Nonterminal
  Classes : Nonterminal
  AClass : Nonterminal
  -- fields, each with its semicolon
  Fields : Nonterminal
  Methods : Nonterminal
  AMethod : Nonterminal
  AType : Nonterminal
  ABody : Nonterminal
  -- the return of a body, or nothing
  Returns : Nonterminal
  Block : Nonterminal
  Statements : Nonterminal
  Statement : Nonterminal
  -- what follows the expression that a statement begins with
  StatementEnd : Nonterminal
  -- an else and its block, or nothing
  Otherwise : Nonterminal
  -- operands of a level joined by its operators
  Chain : Level → Nonterminal
  MoreChain : Level → Nonterminal
  Prefix : Nonterminal
  Postfix : Nonterminal
  -- members and indexes that follow an expression
  Members : Nonterminal
  -- the arguments of a call, or nothing
  CallPart : Nonterminal
  First : Nonterminal
  -- expressions with commas between them, or nothing
  Arguments : Nonterminal
  MoreArguments : Nonterminal
  TheService : Nonterminal
  Objects : Nonterminal
  AnObject : Nonterminal
  -- the fields that an object gives, each with its semicolon
  GivenFields : Nonterminal
  ALiteral : Nonterminal
  -- literals with commas between them, or nothing
  Literals : Nonterminal
  MoreLiterals : Nonterminal

-- A symbol of a production: a token of a kind, or a part.
pub data Symbol : Type 0 where
  Terminal : TokenKind → Symbol
  The : Nonterminal → Symbol

abbrev pub Expression : Nonterminal
Expression = Chain OrLevel

-- The tree of a part. What follows an expression has a tree in that expression, and an absent
-- result type has one in the position of its declaration.
abbrev pub TreeOf : Nonterminal → Type 0
TreeOf TheProgram = tree.Program
TreeOf Interfaces = List tree.Interface
TreeOf AnInterface = tree.Interface
TreeOf Signatures = List tree.Signature
TreeOf ASignature = tree.Signature
TreeOf Params = List tree.Param
TreeOf MoreParams = List tree.Param
TreeOf AParam = tree.Param
TreeOf ResultType = ℕ → TypeTree
TreeOf Classes = List tree.Class
TreeOf AClass = tree.Class
TreeOf Fields = List tree.Param
TreeOf Methods = List tree.Method
TreeOf AMethod = tree.Method
TreeOf AType = TypeTree
TreeOf ABody = tree.Body
TreeOf Returns = Option Expr
TreeOf Block = Stmts
TreeOf Statements = Stmts
TreeOf Statement = Stmt
TreeOf StatementEnd = Expr → Stmt
TreeOf Otherwise = Stmts
TreeOf (Chain level) = Expr
TreeOf (MoreChain level) = Expr → Expr
TreeOf Prefix = Expr
TreeOf Postfix = Expr
TreeOf Members = Expr → Expr
TreeOf CallPart = Option Exprs
TreeOf First = Expr
TreeOf Arguments = Exprs
TreeOf MoreArguments = Exprs
TreeOf TheService = service.ServiceText
TreeOf Objects = List service.ObjectText
TreeOf AnObject = service.ObjectText
TreeOf GivenFields = List (List ℕ × service.Literal)
TreeOf ALiteral = service.Literal
TreeOf Literals = service.Literals
TreeOf MoreLiterals = service.Literals

-- the tree of a symbol
abbrev pub Tree : Symbol → Type 0
Tree (Terminal kind) = Token
Tree (The part) = TreeOf part

-- the trees of symbols, one after the other
abbrev pub Trees : List Symbol → Type 0
Trees [] = Unit {0}
Trees (s ∷ l) = Tree s × Trees l

-- what makes a tree of the trees of symbols
abbrev pub Makes : List Symbol → Type 0 → Type 0
Makes [] T = T
Makes (s ∷ l) T = Tree s → Makes l T

-- the tree that is made
abbrev pub made : (l : List Symbol) (T : Type 0) → Makes l T → Trees l → T
made [] T f xs = f
made (s ∷ l) T f xs = made l T (f xs.0) xs.1
