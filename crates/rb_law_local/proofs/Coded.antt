-- Typed code of a batch, and what is so of its parts.
use Rattle.std.proofs.Common.{◌≡◌, refl, ℕ, List, Option, Ok, Err}
use Rattle.rb_trees.specs.mirror.Code.{Expr, Exprs, Unary, Binary, Field, Call, Index, New, Items, Taken, MoreExprs, expr_at}
use Rattle.rb_meaning_types.specs.Kinds.{Kind}
use Rattle.rb_meaning_types.specs.Violations.{Checked, Placed}
use Rattle.rb_meaning_types.specs.Declared.{Context}
use Rattle.rb_meaning_types.specs.Scopes.{Scope}
use Rattle.rb_meaning_types.specs.Members.{call_kind}
use Rattle.rb_meaning_types.specs.Expressions.{with_first, type_of, types_of}
use Rattle.rb_law_types.specs.Formed.{IsFormedExpr, AreFormedExprs}
use Rattle.rb_law_types.specs.Noted.{IsNotedExpr, AreNotedExprs}
use Rattle.rb_law_types.specs.Admitted.{CallsNoRemote, IsAdmittedExpr, AreAdmittedExprs}
use Rattle.rb_law_types.proofs.Checks.{bind_ok, placed_ok}

rest_typed : (p : Placed) (r : Checked (List Placed)) (ps : List Placed) → with_first p r ≡ Ok ps → (qs : List Placed) × (r ≡ Ok qs)
rest_typed p (Ok qs) ps h = (qs, refl)
rest_typed p (Err fault) ps h = absurd (cc (h))

module _ (types : ℕ → Option (Checked Kind)) (x : Context) (ws : Scope) where
  -- an expression of a type, in an admitted batch
  pub record Code (e : Expr) (k : Kind) : Type 0 where
    pub typed : type_of x ws e ≡ Ok k
    pub formed : IsFormedExpr e
    pub noted : IsNotedExpr types x ws e
    pub admitted : IsAdmittedExpr x ws e

  pub record Codes (es : Exprs) (ks : List Placed) : Type 0 where
    pub typed : types_of x ws es ≡ Ok ks
    pub formed : AreFormedExprs es
    pub noted : AreNotedExprs types x ws es
    pub admitted : AreAdmittedExprs x ws es

  -- the parts of an expression

  pub record OnePart (a : Expr) : Type 0 where
    pub kind : Kind
    pub code : Code a kind

  pub record TwoParts (a b : Expr) : Type 0 where
    pub left : Kind
    pub right : Kind
    pub first : Code a left
    pub second : Code b right

  pub record ListParts (es : Exprs) : Type 0 where
    pub kinds : List Placed
    pub codes : Codes es kinds

  pub record CallParts (at : ℕ) (a : Expr) (method : List ℕ) (args : Exprs) (k : Kind) : Type 0 where
    pub kind : Kind
    pub kinds : List Placed
    pub receiver : Code a kind
    pub rest : Codes args kinds
    pub judged : call_kind x at method (record { at = expr_at a; kind = kind }) kinds ≡ Ok k
    pub calls : CallsNoRemote x.declared method kind

  pub unary_code : (at : ℕ) (op : _) (a : Expr) (k : Kind) → Code (Unary at op a) k → OnePart a
  unary_code at op a k c = let s = placed_ok (expr_at a) (type_of x ws a) _ k c.typed in record { kind = s.0; code = record { typed = s.1; formed = c.formed; noted = c.noted.1; admitted = c.admitted } }

  pub binary_code : (at : ℕ) (op : _) (a b : Expr) (k : Kind) → Code (Binary at op a b) k → TwoParts a b
  binary_code at op a b k c =
      let s = placed_ok (expr_at a) (type_of x ws a) _ k c.typed in
      let t = placed_ok (expr_at b) (type_of x ws b) _ k s.2 in
      record {
        left = s.0;
        right = t.0;
        first = record { typed = s.1; formed = c.formed.0; noted = c.noted.1; admitted = c.admitted.0 };
        second = record { typed = t.1; formed = c.formed.1; noted = c.noted.2; admitted = c.admitted.1 };
      }

  pub field_code : (at : ℕ) (a : Expr) (name : List ℕ) (k : Kind) → Code (Field at a name) k → OnePart a
  field_code at a name k c = let s = placed_ok (expr_at a) (type_of x ws a) _ k c.typed in record { kind = s.0; code = record { typed = s.1; formed = c.formed; noted = c.noted.1; admitted = c.admitted } }

  pub index_code : (at : ℕ) (a b : Expr) (k : Kind) → Code (Index at a b) k → TwoParts a b
  index_code at a b k c =
      let s = placed_ok (expr_at a) (type_of x ws a) _ k c.typed in
      let t = placed_ok (expr_at b) (type_of x ws b) _ k s.2 in
      record {
        left = s.0;
        right = t.0;
        first = record { typed = s.1; formed = c.formed.0; noted = c.noted.1; admitted = c.admitted.0 };
        second = record { typed = t.1; formed = c.formed.1; noted = c.noted.2; admitted = c.admitted.1 };
      }

  pub call_code : (at : ℕ) (a : Expr) (method : List ℕ) (args : Exprs) (k : Kind) → Code (Call at a method args) k → CallParts at a method args k
  call_code at a method args k c =
      let s = placed_ok (expr_at a) (type_of x ws a) _ k c.typed in
      let ts = bind_ok (types_of x ws args) _ k s.2 in
      record {
        kind = s.0;
        kinds = ts.0;
        receiver = record { typed = s.1; formed = c.formed.0; noted = c.noted.1; admitted = c.admitted.0 };
        rest = record { typed = ts.1; formed = c.formed.1; noted = c.noted.2; admitted = c.admitted.1 };
        judged = ts.2;
        calls = c.admitted.2 s.0 s.1;
      }

  pub new_code : (at : ℕ) (class : List ℕ) (args : Exprs) (k : Kind) → Code (New at class args) k → ListParts args
  new_code at class args k c = let ts = bind_ok (types_of x ws args) _ k c.typed in record { kinds = ts.0; codes = record { typed = ts.1; formed = c.formed; noted = c.noted.1; admitted = c.admitted } }

  pub items_code : (at : ℕ) (item : _) (items : Exprs) (k : Kind) → Code (Items at item items) k → ListParts items
  items_code at item items k c = let ts = bind_ok (types_of x ws items) _ k c.typed in record { kinds = ts.0; codes = record { typed = ts.1; formed = c.formed; noted = c.noted.1; admitted = c.admitted } }

  pub taken_code : (at step : ℕ) (k : Kind) → Code (Taken at step) k → ⊥
  taken_code at step k c = let wrong = c.typed in absurd (cc (wrong))

  pub first_code : (e : Expr) (es : Exprs) (ks : List Placed) → Codes (MoreExprs e es) ks → OnePart e × ListParts es
  first_code e es ks c =
      let s = placed_ok (expr_at e) (type_of x ws e) _ ks c.typed in
      let ts = rest_typed (record { at = expr_at e; kind = s.0 }) (types_of x ws es) ks s.2 in (
        record { kind = s.0; code = record { typed = s.1; formed = c.formed.0; noted = c.noted.0; admitted = c.admitted.0 } },
        record { kinds = ts.0; codes = record { typed = ts.1; formed = c.formed.1; noted = c.noted.1; admitted = c.admitted.1 } },
      )
