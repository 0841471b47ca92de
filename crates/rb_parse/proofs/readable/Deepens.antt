-- Expressions made of others are read at their places.
use Rattle.std.proofs.Common.{◌≡◌, ℕ, suc, ◌+◌, ◌≤◌, Bool, false, nat_lt, List, Option, Some, None, refl, sym, subst, arith}
use Rattle.rb_trees.specs.Spelling.{IsName}
use Rattle.rb_trees.specs.declared.code.UnOp.{UnOp}
use Rattle.rb_trees.specs.declared.code.BinOp.{BinOp}
use Rattle.rb_trees.specs.mirror.Code as code
use Rattle.rb_trees.specs.mirror.Code.{Expr, Exprs}
use Rattle.rb_trees.specs.printing.Exprs.{level_of, left_level, right_level, operand_level, unary_level, binary_level}
use Rattle.rb_meaning_bytes.specs.tokens.Lists.{is_minus}
use Rattle.rb_meaning_bytes.specs.grammar.Limits.{Nesting}
use Rattle.rb_meaning_bytes.specs.grammar.Productions.{member}
use Rattle.rb_parse.proofs.readable.Trees.{IsReadExpr, AreReadExprs, before_operand, before_right, placed_marks, marks_of, marks_of_all}
use Rattle.rb_parse.proofs.readable.Places.{Stands, lower, bare, outer_read, outer_marks}
use Rattle.rb_parse.proofs.readable.Steps.{Fit, Rest, Step, Marked, steps_on, step_of, none, Placed, Carries, Spans}
use Rattle.rb_parse.proofs.readable.Invariants.{IsReadCall, call_marks}

-- nothing follows
pub carries_none : (inner outer : ℕ) → outer ≤ inner → (n : Nesting) → Fit n → Carries n inner outer (λ e. e) n
carries_none inner outer h n f = record { step = none n f; carries = λ minus base e a. lower outer inner h a }

no_marks : (n : ℕ) → n + 0 ≤ n
no_marks n = omega arith

-- nothing stands there
pub spans_none : (n : Nesting) (P : Type 0) → Fit n → P → Spans n P 0 n
spans_none n P f h = record { step = none n f; read = h; marks = no_marks n.marks }

-- an operand, and what follows it
pub followed : {n m o : Nesting} {e : Expr} {f : Expr → Expr} (high inner outer : ℕ) → inner ≤ high → Placed n high e m → Carries m inner outer f o → Placed n outer (f e) o
followed {n} {m} {o} {e} {f} high inner outer h a b = record {
  step = steps_on a.step b.step;
  stands = b.carries (is_minus n.last) n.marks e (lower inner high h a.stands);
}

joined_marks : (b l n m r o : ℕ) → b + l ≤ n → m ≡ n + 1 → m + r ≤ o → b + suc (l + r) ≤ o
joined_marks b l n m r o e f g = omega arith

-- an operator and its right operand, behind its left operand
pub operated : {n m o p : Nesting} {right : Expr} {f : Expr → Expr} (at : ℕ) (op : BinOp) (outer : ℕ) → nat_lt (binary_level op) outer ≡ false → is_minus m.last ≡ before_right op
    → Marked n m → (Fit m → Placed m (right_level op) right o) → (Fit o → Carries o outer outer f p) → Carries n (left_level op) outer (λ left. f (code.Binary at op left right)) p
operated {n} {m} {o} {p} {right} {f} at op outer low flag a g h =
    let b = g a.fit in
    let c = h b.step.fit in
    let r : Stands (before_right op) (right_level op) m.marks right o.marks = subst (λ z. Stands z (right_level op) m.marks right o.marks) flag b.stands in
    record {
      step = steps_on (step_of a) (steps_on b.step c.step);
      carries = λ minus base left k. c.carries minus base (code.Binary at op left right)
          (bare minus outer base o.marks (code.Binary at op left right) low (k.read, r.read)
          (joined_marks base (placed_marks (left_level op) left (marks_of left)) n.marks m.marks (placed_marks (right_level op) right (marks_of right)) o.marks k.marks a.more r.marks));
    }

-- a comparison, behind which nothing follows
pub compared : {n m o : Nesting} {right : Expr} (at : ℕ) (op : BinOp) (outer : ℕ) → nat_lt (binary_level op) outer ≡ false → is_minus m.last ≡ before_right op
    → Marked n m → (Fit m → Placed m (right_level op) right o) → Carries n (left_level op) outer (λ left. code.Binary at op left right) o
compared {n} {m} {o} {right} at op outer low flag a g = operated {f = λ e. e} at op outer low flag a g (λ fit. carries_none outer outer (omega arith) o fit)

first_own : (n l m r o q : ℕ) → n ≤ l → m ≡ l + 1 → m + r ≤ o → o ≤ q → n + suc r ≤ q
first_own n l m r o q e f g h = omega arith

-- tokens, a mark, an operand, and tokens behind it
pub applied : {n l m o q : Nesting} {operand : Expr} (at : ℕ) (op : UnOp) (level : ℕ) → nat_lt (unary_level op) level ≡ false → is_minus m.last ≡ before_operand op
    → Step n l → Marked l m → (Fit m → Placed m (operand_level op) operand o) → (Fit o → Step o q) → Placed n level (code.Unary at op operand) q
applied {n} {l} {m} {o} {q} {operand} at op level low flag a b g h =
    let c = g b.fit in
    let d = h c.step.fit in
    let r : Stands (before_operand op) (operand_level op) m.marks operand o.marks = subst (λ z. Stands z (operand_level op) m.marks operand o.marks) flag c.stands in
    record {
      step = steps_on a (steps_on (step_of b) (steps_on c.step d));
      stands = bare (is_minus n.last) level n.marks q.marks (code.Unary at op operand) low r.read
          (first_own n.marks l.marks m.marks (placed_marks (operand_level op) operand (marks_of operand)) o.marks q.marks a.grows b.more r.marks d.grows);
    }

-- a prefix sign and its operand
pub prefixed : {n m o : Nesting} {operand : Expr} (at : ℕ) (op : UnOp) → nat_lt (unary_level op) 6 ≡ false → is_minus m.last ≡ before_operand op
    → Fit n → Marked n m → (Fit m → Placed m (operand_level op) operand o) → Placed n 6 (code.Unary at op operand) o
prefixed {n} {m} {o} {operand} at op low flag fit a g = applied at op 6 low flag (none n fit) a g (λ h. none o h)

field_marks : (b l n m o q : ℕ) → b + l ≤ n → m ≡ n + 1 → m ≤ o → o + 0 ≤ q → b + suc l ≤ q
field_marks b l n m o q e f g h = omega arith

call_own : (b l n m o r q : ℕ) → b + l ≤ n → m ≡ n + 1 → m ≤ o → o + suc r ≤ q → b + suc (suc (l + r)) ≤ q
call_own b l n m o r q e f g h = omega arith

-- a member of an expression
member_stands : {minus : Bool} {base n m o q : ℕ} {e : Expr} (at : ℕ) (name : List ℕ) (args : Option Exprs) → IsName name → IsReadCall args
    → m ≡ n + 1 → m ≤ o → o + call_marks args ≤ q → Stands minus 7 base e n → Stands minus 7 base (member at name args e) q
member_stands {minus} {base} {n} {m} {o} {q} {e} at name None named called f g h k =
    bare minus 7 base q (code.Field at e name) refl (k.read, named) (field_marks base (placed_marks 7 e (marks_of e)) n m o q k.marks f g h)
member_stands {minus} {base} {n} {m} {o} {q} {e} at name (Some args) named called f g h k =
    bare minus 7 base q (code.Call at e name args) refl (k.read, named, called) (call_own base (placed_marks 7 e (marks_of e)) n m o (marks_of_all args) q k.marks f g h)

-- a dot, a name and perhaps arguments, and the members that follow
pub membered : {n m o q p : Nesting} {f : Expr → Expr} (at : ℕ) (name : List ℕ) (args : Option Exprs) → IsName name
    → Marked n m → Step m o → (Fit o → Spans o (IsReadCall args) (call_marks args) q) → (Fit q → Carries q 7 7 f p) → Carries n 7 7 (λ e. f (member at name args e)) p
membered {n} {m} {o} {q} {p} {f} at name args named a b g h =
    let c = g b.fit in
    let d = h c.step.fit in
    record {
      step = steps_on (step_of a) (steps_on b (steps_on c.step d.step));
      carries = λ minus base e k. d.carries minus base (member at name args e) (member_stands at name args named c.read a.more b.grows c.marks k);
    }

index_own : (b l n m r o q : ℕ) → b + l ≤ n → m ≡ n + 1 → m + r ≤ o → o ≤ q → b + suc (l + r) ≤ q
index_own b l n m r o q e f g h = omega arith

-- a place in brackets, and the members that follow
pub indexed : {n m o q p : Nesting} {index : Expr} {f : Expr → Expr} (at : ℕ) → is_minus m.last ≡ false
    → Marked n m → (Fit m → Placed m 0 index o) → (Fit o → Step o q) → (Fit q → Carries q 7 7 f p) → Carries n 7 7 (λ e. f (code.Index at e index)) p
indexed {n} {m} {o} {q} {p} {index} {f} at flag a g h i =
    let b = g a.fit in
    let c = h b.step.fit in
    let d = i c.fit in
    let r : Stands false 0 m.marks index o.marks = subst (λ z. Stands z 0 m.marks index o.marks) flag b.stands in
    record {
      step = steps_on (step_of a) (steps_on b.step (steps_on c d.step));
      carries = λ minus base e k. d.carries minus base (code.Index at e index)
          (bare minus 7 base q.marks (code.Index at e index) refl (k.read, outer_read r)
          (index_own base (placed_marks 7 e (marks_of e)) n.marks m.marks (marks_of index) o.marks q.marks k.marks a.more (outer_marks r) c.grows));
    }

-- arguments in brackets that are a mark, and tokens before them
pub bracketed : {n l m o q : Nesting} (args : Exprs) (e : Expr) → nat_lt (level_of e) 8 ≡ false → marks_of e ≡ suc (marks_of_all args) → is_minus m.last ≡ false → (AreReadExprs args → IsReadExpr (is_minus n.last) e)
    → Step n l → Marked l m → (Rest m → Spans m (AreReadExprs args) (marks_of_all args) o) → (Fit o → Step o q) → Placed n 8 e q
bracketed {n} {l} {m} {o} {q} args e low own flag make a b g h =
    let c = g (record { fit = b.fit; no_minus = flag }) in
    let d = h c.step.fit in
    let i : n.marks + suc (marks_of_all args) ≤ q.marks = first_own n.marks l.marks m.marks (marks_of_all args) o.marks q.marks a.grows b.more c.marks d.grows in
    record {
      step = steps_on a (steps_on (step_of b) (steps_on c.step d));
      stands = bare (is_minus n.last) 8 n.marks q.marks e low (make c.read) (subst (λ z. n.marks + z ≤ q.marks) (sym own) i);
    }

list_own : (n d m e o : ℕ) → n + d ≤ m → m + e ≤ o → n + (d + e) ≤ o
list_own n d m e o f g = omega arith

-- an expression, and the expressions behind it
pub listed : {n m o : Nesting} (e : Expr) (es : Exprs) → is_minus n.last ≡ false → Placed n 0 e m → (Fit m → Spans m (AreReadExprs es) (marks_of_all es) o)
    → Spans n (AreReadExprs (code.MoreExprs e es)) (marks_of_all (code.MoreExprs e es)) o
listed {n} {m} {o} e es flag a g =
    let b = g a.step.fit in
    let r : Stands false 0 n.marks e m.marks = subst (λ z. Stands z 0 n.marks e m.marks) flag a.stands in
    record { step = steps_on a.step b.step; read = (outer_read r, b.read); marks = list_own n.marks (marks_of e) m.marks (marks_of_all es) o.marks (outer_marks r) b.marks }
