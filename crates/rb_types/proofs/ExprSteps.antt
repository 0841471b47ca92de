-- The steps of expressions: each goes through the parts, in order, and then does its own.
use Rattle.std.proofs.Common.{◌≡◌, ℕ, List, [], ◌∷◌, ◌++◌, Ok, Err, refl, ap, sym, ◌∙◌}
use Rattle.rb_trees.specs.declared.code.UnOp.{UnOp}
use Rattle.rb_trees.specs.declared.code.BinOp.{BinOp}
use Rattle.rb_trees.specs.declared.values.Value.{Value}
use Rattle.rb_trees.specs.mirror.Types.{TypeTree}
use Rattle.rb_trees.specs.mirror.Code.{Expr, Exprs, Lit, Name, This, Taken, NoExprs, Unary, Binary, Field, Call, Index, New, Items, MoreExprs, expr_at}
use Rattle.rb_trees.specs.Outcome.{◌>>=◌}
use Rattle.rb_meaning_types.specs.Kinds.{Kind}
use Rattle.rb_meaning_types.specs.Violations.{Checked, Placed, NotAllowedHere, with_place}
use Rattle.rb_meaning_types.specs.Declared.{Context}
use Rattle.rb_meaning_types.specs.Literals.{literal_kind}
use Rattle.rb_meaning_types.specs.Operators.{unary_kind, binary_kind, index_kind}
use Rattle.rb_meaning_types.specs.Members.{field_kind, call_kind, new_kind}
use Rattle.rb_meaning_types.specs.Expressions.{name_kind, this_kind, with_first, items_kind, type_of, types_of}
use Rattle.rb_meaning_types.specs.Statements.{placed}
use Rattle.rb_meaning_types.specs.Notes.{Note, noted, parts_noted, all_noted}
use Rattle.rb_meaning_types.proofs.Noted.{noted_parts}
use Rattle.rb_types.specs.Steps.{State, with_state, note, expr, kind, exprs}

-- something that was found, and what it is asked for
ask_one : {A B : Type 0} (s : State) (r : Checked A) (f : A → Checked B) → with_state s (r >>= f) ≡ (with_state s r >>= λ p. with_state p.1 (f p.0))
ask_one s (Ok a) f = refl
ask_one s (Err v) f = refl

-- two things, one after the other
ask_two : {A B C : Type 0} (s t : State) (r : Checked A) (q : Checked B) (f : A → B → Checked C) (next : State → Checked (B × State)) → next s ≡ with_state t q
    → with_state t (r >>= λ a. q >>= λ b. f a b) ≡ (with_state s r >>= λ p. next p.1 >>= λ b. with_state b.1 (f p.0 b.0))
ask_two s t (Ok a) q f next is = ask_one t q (f a) ∙ ap (λ n. n >>= λ b. with_state b.1 (f a b.0)) (sym is)
ask_two s t (Err v) q f next is = refl

-- the first of a list and what follows
abbrev pub with_head : Placed → Checked (List Placed × State) → Checked (List Placed × State)
with_head p (Ok ps) = Ok (p ∷ ps.0, ps.1)
with_head p (Err violation) = Err violation

head_first : (s : State) (p : Placed) (r : Checked (List Placed)) → with_state s (with_first p r) ≡ with_head p (with_state s r)
head_first s p (Ok ps) = refl
head_first s p (Err v) = refl

more_lists : (s t : State) (r : Checked Placed) (q : Checked (List Placed)) (next : State → Checked (List Placed × State)) → next s ≡ with_state t q
    → with_state t (r >>= λ p. with_first p q) ≡ (with_state s r >>= λ p. with_head p.0 (next p.1))
more_lists s t (Ok p) q next is = head_first t p q ∙ ap (with_head p) (sym is)
more_lists s t (Err v) q next is = refl

place_noted : (s : State) (at : ℕ) (parts : List Note) (r : Checked Kind)
    → with_state (record s { notes = parts ++ record { at = at; gives = r } ∷ [] }) (with_place at r)
    ≡ (with_state (record s { notes = parts }) r >>= λ k. note at k.0 k.1 >>= λ t. Ok (record { at = at; kind = k.0 }, t))
place_noted s at parts (Ok k) = refl
place_noted s at parts (Err v) = refl

pub expr_is : (x : Context) (e : Expr) (s : State) → expr x e s ≡ (kind x e s >>= λ k. note (expr_at e) k.0 k.1 >>= λ t. Ok (record { at = expr_at e; kind = k.0 }, t))
unfolding expr kind
expr_is x e s = ap (λ ns. with_state (record s { notes = ns }) (placed x s.scope e)) (noted_parts x s.scope s.notes e)
    ∙ place_noted s (expr_at e) (parts_noted x s.scope s.notes e) (type_of x s.scope e)

pub kind_Lit : (x : Context) (at : ℕ) (value : Value) (s : State) → kind x (Lit at value) s ≡ Ok (literal_kind value, s)
unfolding kind
kind_Lit x at value s = refl

pub kind_Name : (x : Context) (at : ℕ) (name : List ℕ) (s : State) → kind x (Name at name) s ≡ with_state s (name_kind s.scope at name)
unfolding kind
kind_Name x at name s = refl

pub kind_This : (x : Context) (at : ℕ) (s : State) → kind x (This at) s ≡ with_state s (this_kind x.this at)
unfolding kind
kind_This x at s = refl

pub kind_Taken : (x : Context) (at : ℕ) (step : ℕ) (s : State) → kind x (Taken at step) s ≡ Err (NotAllowedHere at)
unfolding kind
kind_Taken x at step s = refl

pub kind_Unary : (x : Context) (at : ℕ) (op : UnOp) (a : Expr) (s : State) → kind x (Unary at op a) s ≡ (expr x a s >>= λ p. with_state p.1 (unary_kind op p.0))
unfolding expr kind
kind_Unary x at op a s = ask_one (record s { notes = noted x s.scope s.notes a }) (placed x s.scope a) (λ p. unary_kind op p)

pub kind_Binary : (x : Context) (at : ℕ) (op : BinOp) (a b : Expr) (s : State)
    → kind x (Binary at op a b) s ≡ (expr x a s >>= λ p. expr x b p.1 >>= λ q. with_state q.1 (binary_kind op p.0 q.0))
unfolding expr kind
kind_Binary x at op a b s = ask_two (record s { notes = noted x s.scope s.notes a }) (record s { notes = noted x s.scope (noted x s.scope s.notes a) b })
    (placed x s.scope a) (placed x s.scope b) (λ p q. binary_kind op p q) (expr x b) refl

pub kind_Field : (x : Context) (at : ℕ) (a : Expr) (name : List ℕ) (s : State) → kind x (Field at a name) s ≡ (expr x a s >>= λ p. with_state p.1 (field_kind x.declared at name p.0))
unfolding expr kind
kind_Field x at a name s = ask_one (record s { notes = noted x s.scope s.notes a }) (placed x s.scope a) (λ p. field_kind x.declared at name p)

pub kind_Call : (x : Context) (at : ℕ) (a : Expr) (method : List ℕ) (args : Exprs) (s : State)
    → kind x (Call at a method args) s ≡ (expr x a s >>= λ p. exprs x args p.1 >>= λ ps. with_state ps.1 (call_kind x at method p.0 ps.0))
unfolding expr exprs kind
kind_Call x at a method args s = ask_two (record s { notes = noted x s.scope s.notes a }) (record s { notes = all_noted x s.scope (noted x s.scope s.notes a) args })
    (placed x s.scope a) (types_of x s.scope args) (λ p ps. call_kind x at method p ps) (exprs x args) refl

pub kind_Index : (x : Context) (at : ℕ) (a b : Expr) (s : State) → kind x (Index at a b) s ≡ (expr x a s >>= λ p. expr x b p.1 >>= λ q. with_state q.1 (index_kind p.0 q.0))
unfolding expr kind
kind_Index x at a b s = ask_two (record s { notes = noted x s.scope s.notes a }) (record s { notes = noted x s.scope (noted x s.scope s.notes a) b })
    (placed x s.scope a) (placed x s.scope b) (λ p q. index_kind p q) (expr x b) refl

pub kind_New : (x : Context) (at : ℕ) (class : List ℕ) (args : Exprs) (s : State) → kind x (New at class args) s ≡ (exprs x args s >>= λ ps. with_state ps.1 (new_kind x.declared at class ps.0))
unfolding exprs kind
kind_New x at class args s = ask_one (record s { notes = all_noted x s.scope s.notes args }) (types_of x s.scope args) (λ ps. new_kind x.declared at class ps)

pub kind_Items : (x : Context) (at : ℕ) (item : TypeTree) (es : Exprs) (s : State) → kind x (Items at item es) s ≡ (exprs x es s >>= λ ps. with_state ps.1 (items_kind x.declared item ps.0))
unfolding exprs kind
kind_Items x at item es s = ask_one (record s { notes = all_noted x s.scope s.notes es }) (types_of x s.scope es) (λ ps. items_kind x.declared item ps)

pub exprs_none : (x : Context) (s : State) → exprs x NoExprs s ≡ Ok ([], s)
unfolding exprs
exprs_none x s = refl

pub exprs_more : (x : Context) (e : Expr) (es : Exprs) (s : State) → exprs x (MoreExprs e es) s ≡ (expr x e s >>= λ p. with_head p.0 (exprs x es p.1))
unfolding expr exprs
exprs_more x e es s = more_lists (record s { notes = noted x s.scope s.notes e }) (record s { notes = all_noted x s.scope (noted x s.scope s.notes e) es })
    (placed x s.scope e) (types_of x s.scope es) (exprs x es) refl

pub ruleset expr_steps = (expr_is, kind_Lit, kind_Name, kind_This, kind_Taken, kind_Unary, kind_Binary, kind_Field, kind_Call, kind_Index, kind_New, kind_Items, exprs_none, exprs_more)
