-- Expressions at places: what holds at a place holds at each place of a lower level.
use Rattle.std.proofs.Common.{◌≡◌, ℕ, ℤ, pos, negsuc, suc, ◌+◌, ◌<◌, ◌≤◌, Bool, true, false, cond, nat_lt, refl, arith, lt-ltb, le-ltb, ltb-true}
use Rattle.rb_trees.specs.declared.values.Value.{Value, out-Value}
use Rattle.rb_trees.specs.declared.values.Value.TheOpen.{Value-F}
use Rattle.rb_trees.specs.mirror.Code.{Expr, Lit, Name, This, Unary, Binary, Field, Call, Index, New, Items, Taken}
use Rattle.rb_trees.specs.printing.Exprs.{level_of, left_level}
use Rattle.rb_parse.proofs.readable.Trees.{IsReadInt, IsReadForm, IsReadExpr, behind, placed_marks, marks_of}

loose_int : (z : ℤ) → IsReadInt false z → IsReadInt true z
loose_int (pos n) h = h
loose_int (negsuc n) h = absurd h

loose_form : (v : Value-F Value) → IsReadForm false v → IsReadForm true v
loose_form (Value-F.Int n) h = loose_int n h
loose_form (Value-F.Bool truth) h = tt
loose_form (Value-F.Text text) h = h
loose_form _ h = absurd h

loose_behind : (apart : Bool) (e : Expr) → (IsReadExpr false e → IsReadExpr true e) → IsReadExpr (cond apart false false) e → IsReadExpr (cond apart false true) e
loose_behind true e f h = h
loose_behind false e f h = f h

loose : (e : Expr) → IsReadExpr false e → IsReadExpr true e
loose (Lit at value) h = loose_form (out-Value value) h
loose (Name at name) h = h
loose (This at) h = tt
loose (Unary at op a) h = h
loose (Binary at op a b) h = (loose_behind (nat_lt (level_of a) (left_level op)) a (loose a) h.0, h.1)
loose (Field at a name) h = (loose_behind (nat_lt (level_of a) 7) a (loose a) h.0, h.1)
loose (Call at a method args) h = (loose_behind (nat_lt (level_of a) 7) a (loose a) h.0, h.1, h.2)
loose (Index at a b) h = (loose_behind (nat_lt (level_of a) 7) a (loose a) h.0, h.1)
loose (New at class args) h = h
loose (Items at item items) h = h
loose (Taken at step) h = h

-- what is read where no minus stands before it is read behind a minus too
pub loosened : (minus : Bool) (e : Expr) → IsReadExpr false e → IsReadExpr minus e
loosened true e h = loose e h
loosened false e h = h

-- An expression is read at a place of the level, behind a minus or not, and has its marks over this base.
pub record Stands (minus : Bool) (level base : ℕ) (e : Expr) (most : ℕ) : Type 0 where
  pub read : IsReadExpr (behind minus level e) e
  pub marks : base + placed_marks level e (marks_of e) ≤ most

lower_read : (minus low high : Bool) (e : Expr) → (low ≡ true → high ≡ true) → IsReadExpr (cond high false minus) e → IsReadExpr (cond low false minus) e
lower_read minus true true e f h = h
lower_read minus true false e f h = let k : false ≡ true = f refl in cc
lower_read minus false true e f h = loosened minus e h
lower_read minus false false e f h = h

more : (base own most : ℕ) → base + suc own ≤ most → base + own ≤ most
more base own most h = omega arith

lower_marks : (low high : Bool) (base own most : ℕ) → (low ≡ true → high ≡ true) → base + cond high (suc own) own ≤ most → base + cond low (suc own) own ≤ most
lower_marks true true base own most f h = h
lower_marks true false base own most f h = let k : false ≡ true = f refl in cc
lower_marks false true base own most f h = more base own most h
lower_marks false false base own most f h = h

under : (x low high : ℕ) → low ≤ high → nat_lt x low ≡ true → nat_lt x high ≡ true
under x low high h k = let i : x < low = ltb-true x low k in lt-ltb x high (omega arith)

pub lower : {minus : Bool} {base most : ℕ} {e : Expr} (low high : ℕ) → low ≤ high → Stands minus high base e most → Stands minus low base e most
lower {minus} {base} {most} {e} low high h a = record {
  read = lower_read minus (nat_lt (level_of e) low) (nat_lt (level_of e) high) e (under (level_of e) low high h) a.read;
  marks = lower_marks (nat_lt (level_of e) low) (nat_lt (level_of e) high) base (marks_of e) most (under (level_of e) low high h) a.marks;
}

pub no_lower : (x : ℕ) → nat_lt x 0 ≡ false
no_lower x = le-ltb x 0 (omega arith)

bare_read : (minus apart : Bool) (e : Expr) → apart ≡ false → IsReadExpr minus e → IsReadExpr (cond apart false minus) e
bare_read minus true e f h = cc
bare_read minus false e f h = h

bare_marks : (apart : Bool) (base own most : ℕ) → apart ≡ false → base + own ≤ most → base + cond apart (suc own) own ≤ most
bare_marks true base own most f h = cc
bare_marks false base own most f h = h

-- an expression that needs no parentheses at its place
pub bare : (minus : Bool) (level base most : ℕ) (e : Expr) → nat_lt (level_of e) level ≡ false → IsReadExpr minus e → base + marks_of e ≤ most → Stands minus level base e most
bare minus level base most e f h i = record { read = bare_read minus (nat_lt (level_of e) level) e f h; marks = bare_marks (nat_lt (level_of e) level) base (marks_of e) most f i }

open_read : (minus apart : Bool) (e : Expr) → apart ≡ false → IsReadExpr (cond apart false minus) e → IsReadExpr minus e
open_read minus true e f h = cc
open_read minus false e f h = h

open_marks : (apart : Bool) (base own most : ℕ) → apart ≡ false → base + cond apart (suc own) own ≤ most → base + own ≤ most
open_marks true base own most f h = cc
open_marks false base own most f h = h

-- an expression where any may stand
pub outer_read : {minus : Bool} {base most : ℕ} {e : Expr} → Stands minus 0 base e most → IsReadExpr minus e
outer_read {minus} {base} {most} {e} a = open_read minus (nat_lt (level_of e) 0) e (no_lower (level_of e)) a.read

pub outer_marks : {minus : Bool} {base most : ℕ} {e : Expr} → Stands minus 0 base e most → base + marks_of e ≤ most
outer_marks {minus} {base} {most} {e} a = open_marks (nat_lt (level_of e) 0) base (marks_of e) most (no_lower (level_of e)) a.marks

enclosed_read : (minus apart : Bool) (e : Expr) → IsReadExpr false e → IsReadExpr (cond apart false minus) e
enclosed_read minus true e h = h
enclosed_read minus false e h = loosened minus e h

enclosed_marks : (apart : Bool) (base own most : ℕ) → base + suc own ≤ most → base + cond apart (suc own) own ≤ most
enclosed_marks true base own most h = h
enclosed_marks false base own most h = more base own most h

one_more : (base inner own most : ℕ) → inner ≡ base + 1 → inner + own ≤ most → base + suc own ≤ most
one_more base inner own most h i = omega arith

-- an expression in parentheses, which are a mark
pub enclosed : (minus : Bool) (level base inner most end : ℕ) (e : Expr) → inner ≡ base + 1 → most ≤ end → Stands false 0 inner e most → Stands minus level base e end
enclosed minus level base inner most end e h i a =
    let m : inner + marks_of e ≤ most = outer_marks a in
    record {
      read = enclosed_read minus (nat_lt (level_of e) level) e (outer_read a);
      marks = enclosed_marks (nat_lt (level_of e) level) base (marks_of e) end (one_more base inner (marks_of e) end h (omega (arith, m, i)));
    }
