-- Reading of what the code of statements reads by a function of its own.
use Rattle.std.specs.Prelude.{ℕ, List, [], ◌∷◌, Ok, Err, length}
use Rattle.rb_trees.specs.declared.tokens.Token.{Token}
use Rattle.rb_trees.specs.declared.tokens.TokenKind.TheVariants as kind
use Rattle.rb_trees.specs.declared.code.Stmt as stmt
use Rattle.rb_trees.specs.mirror.Code as code
use Rattle.rb_trees.specs.mirror.Code.{Expr, Stmt, Stmts, mirror_stmt}
use Rattle.rb_trees.specs.Kinds as k
use Rattle.rb_meaning_bytes.specs.grammar.Values.{name_of}
use Rattle.rb_meaning_bytes.specs.grammar.Symbols as s
use Rattle.rb_parse.specs.Reading.{Read, ◌>>=◌, take_kind, taken, on_taken, read_of}
use Rattle.rb_parse.specs.Parts.{expression_to_close}

-- an expression and the semicolon behind it
unfoldable pub expression_to_end : List ℕ → List Token → Read Expr
expression_to_end source ts = read_of source s.Expression ts >>= λ a. take_kind k.sign_semicolon a.1 >>= λ c. Ok (a.0, c.1)

-- a name and its value
unfoldable pub named_value_of : List ℕ → List Token → Read (List ℕ × Expr)
named_value_of source ts = take_kind kind.Name ts >>= λ n. take_kind k.sign_assign n.1 >>= λ e. expression_to_end source e.1 >>= λ a. Ok ((name_of source n.0, a.0), a.1)

-- a condition between brackets
unfoldable pub condition_of : List ℕ → List Token → Read Expr
condition_of source ts = take_kind k.sign_open ts >>= λ o. expression_to_close source o.1

-- what is printed
unfoldable pub printed_of : List ℕ → List Token → Read Expr
printed_of source ts = condition_of source ts >>= λ a. take_kind k.sign_semicolon a.1 >>= λ c. Ok (a.0, c.1)

-- what follows the expression that a statement begins with
unfoldable pub ended_of : List ℕ → Expr → List Token → Read Stmt
ended_of source left ts =
    on_taken (taken k.sign_semicolon ts) (λ w. Ok (code.Run w.0.start left, w.1))
    (on_taken (taken k.sign_assign ts) (λ w. expression_to_end source w.1 >>= λ a. Ok (code.Assign w.0.start left a.0, a.1))
    (Err (length ts)))

-- a statement without blocks
unfoldable pub simple_of : List ℕ → List Token → Read Stmt
simple_of source ts =
    on_taken (taken k.keyword_val ts) (λ w. named_value_of source w.1 >>= λ a. Ok (code.Val w.0.start a.0.0 a.0.1, a.1))
    (on_taken (taken k.keyword_var ts) (λ w. named_value_of source w.1 >>= λ a. Ok (code.Var w.0.start a.0.0 a.0.1, a.1))
    (on_taken (taken k.keyword_print ts) (λ w. printed_of source w.1 >>= λ a. Ok (code.Print w.0.start a.0, a.1))
    (on_taken (taken k.keyword_throw ts) (λ w. expression_to_end source w.1 >>= λ a. Ok (code.Throw w.0.start a.0, a.1))
    (read_of source s.Expression ts >>= λ a. ended_of source a.0 a.1))))

-- what follows `if`
unfoldable pub if_of : List ℕ → Token → List Token → Read Stmt
if_of source word ts = condition_of source ts >>= λ a. read_of source s.Block a.1 >>= λ b. read_of source s.Otherwise b.1 >>= λ c. Ok (code.If word.start a.0 b.0 c.0, c.1)

-- what follows `while`
unfoldable pub while_of : List ℕ → Token → List Token → Read Stmt
while_of source word ts = condition_of source ts >>= λ a. read_of source s.Block a.1 >>= λ b. Ok (code.While word.start a.0 b.0, b.1)

-- the name and the list of a `for`
unfoldable pub each_of : List ℕ → List Token → Read (List ℕ × Expr)
each_of source ts = take_kind k.sign_open ts >>= λ o. take_kind kind.Name o.1 >>= λ n. take_kind k.keyword_in n.1 >>= λ i. expression_to_close source i.1 >>= λ a. Ok ((name_of source n.0, a.0), a.1)

-- what follows `for`
unfoldable pub for_of : List ℕ → Token → List Token → Read Stmt
for_of source word ts = each_of source ts >>= λ a. read_of source s.Block a.1 >>= λ b. Ok (code.For word.start a.0.0 a.0.1 b.0, b.1)

-- the name that a `catch` gives a fault
unfoldable pub caught_of : List ℕ → List Token → Read (List ℕ)
caught_of source ts = take_kind k.keyword_catch ts >>= λ c. take_kind k.sign_open c.1 >>= λ o. take_kind kind.Name o.1 >>= λ n. take_kind k.sign_close n.1 >>= λ e. Ok (name_of source n.0, e.1)

-- what follows `try`
unfoldable pub try_of : List ℕ → Token → List Token → Read Stmt
try_of source word ts = read_of source s.Block ts >>= λ a. caught_of source a.1 >>= λ n. read_of source s.Block n.1 >>= λ b. Ok (code.Try word.start a.0 n.0 b.0, b.1)

-- the interface and the root of a `batch`
unfoldable pub rooted_of : List ℕ → List Token → Read (List ℕ × List ℕ)
rooted_of source ts = take_kind k.sign_open ts >>= λ o. take_kind kind.Name o.1 >>= λ i. take_kind kind.Name i.1 >>= λ r. take_kind k.sign_close r.1 >>= λ e. Ok ((name_of source i.0, name_of source r.0), e.1)

-- what follows `batch`
unfoldable pub batch_of : List ℕ → Token → List Token → Read Stmt
batch_of source word ts = rooted_of source ts >>= λ a. read_of source s.Block a.1 >>= λ b. Ok (code.Batch word.start a.0.0 a.0.1 b.0, b.1)

-- statements of a list before the statements that follow
abbrev pub put_stmts : List stmt.Stmt → Stmts → Stmts
put_stmts [] l = l
put_stmts (x ∷ xs) l = code.MoreStmts (mirror_stmt x) (put_stmts xs l)

-- the statements so far with those that follow
unfoldable pub statements_on : List ℕ → List stmt.Stmt → List Token → Read Stmts
statements_on source list ts = read_of source s.Statements ts >>= λ m. Ok (put_stmts list m.0, m.1)
