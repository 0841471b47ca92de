-- How tokens move what is open, within expressions and between statements.
use Rattle.std.proofs.Common.{◌≡◌, ℕ, ◌+◌, ◌≤◌, Bool, true, false, List, [], ◌∷◌, refl, ◌∙◌, arith}
use Rattle.rb_trees.specs.declared.tokens.TokenKind.{TokenKind}
use Rattle.rb_trees.specs.mirror.Code.{Expr}
use Rattle.rb_meaning_bytes.specs.tokens.Lists.{is_minus}
use Rattle.rb_trees.specs.Kinds as k
use Rattle.rb_trees.specs.Kinds.{is_kind, is_one_of}
use Rattle.rb_meaning_bytes.specs.grammar.Limits.{Nesting, after}
use Rattle.rb_parse.proofs.readable.Trees.{marks_of, IsReadOutermost}
use Rattle.rb_parse.proofs.readable.States.{Room, Ready, Goes, Marks, is_still, is_inner, is_sure, inner, mark, open_mark}
use Rattle.rb_parse.proofs.readable.Heads.{less_mark, greater_mark}
use Rattle.rb_parse.proofs.readable.Places.{Stands, outer_read, outer_marks}

-- the words behind which a bracket is no mark
abbrev pub openers : List TokenKind
openers = k.keyword_if ∷ k.keyword_while ∷ k.keyword_for ∷ k.keyword_print ∷ k.keyword_catch ∷ k.keyword_batch ∷ []

-- An expression may begin here, or go on: a bracket would be a mark, and no type is open.
pub record Fit (n : Nesting) : Type 0 where
  pub ready : Ready n
  pub no_opener : is_one_of n.last openers ≡ false
  pub no_fun : is_kind n.before k.keyword_fun ≡ false
  pub flat : n.types ≡ 0

-- A statement may begin here.
pub record Rest (n : Nesting) : Type 0 where
  pub fit : Fit n
  pub no_minus : is_minus n.last ≡ false

-- The same is open, and no mark is gone.
pub record Step (n m : Nesting) : Type 0 where
  pub fit : Fit m
  pub blocks : m.blocks ≡ n.blocks
  pub grows : n.marks ≤ m.marks

-- The same is open, with a mark more.
pub record Marked (n m : Nesting) : Type 0 where
  pub fit : Fit m
  pub blocks : m.blocks ≡ n.blocks
  pub more : m.marks ≡ n.marks + 1

-- the state behind a token that is no opener
pub led : (n m : Nesting) (a : TokenKind) → is_one_of a openers ≡ false → Ready m → Goes n (after m a) → n.types ≡ 0 → Fit (after m a)
led n m a h r g flat = record { ready = g.ready; no_opener = h; no_fun = r.no_fun; flat = g.types ∙ flat }

-- a token within an expression
pub token : (n : Nesting) (a : TokenKind) → is_still a ≡ true → is_inner a ≡ true → is_one_of a openers ≡ false → Fit n → Step n (after n a)
token n a h i j f =
    let g = inner n a h i f.ready in
    record { fit = led n n a j f.ready g.goes f.flat; blocks = g.goes.blocks; grows = g.grows }

marked_by : (n : Nesting) (a : TokenKind) → is_one_of a openers ≡ false → Marks n (after n a) → Fit n → Marked n (after n a)
marked_by n a j g f = record { fit = led n n a j f.ready g.goes f.flat; blocks = g.goes.blocks; more = g.more }

-- a mark, wherever it stands
pub sign : (n : Nesting) (a : TokenKind) → is_sure a ≡ true → is_one_of a openers ≡ false → Fit n → Marked n (after n a)
sign n a h j f = marked_by n a j (mark n a h f.ready) f

pub opens : (n : Nesting) → Fit n → Marked n (after n k.sign_open)
opens n f = marked_by n k.sign_open refl (open_mark n f.no_opener f.no_fun f.ready) f

pub lesses : (n : Nesting) → Fit n → Marked n (after n k.sign_less)
lesses n f = marked_by n k.sign_less refl (less_mark n f.ready) f

pub greaters : (n : Nesting) → Fit n → Marked n (after n k.sign_greater)
greaters n f = marked_by n k.sign_greater refl (greater_mark n f.flat f.ready) f

pub none : (n : Nesting) → Fit n → Step n n
none n f = record { fit = f; blocks = refl; grows = omega arith }

further : (n m o : ℕ) → n ≤ m → m ≤ o → n ≤ o
further n m o e f = omega arith

pub steps_on : {n m o : Nesting} → Step n m → Step m o → Step n o
steps_on {n} {m} {o} a b = record { fit = b.fit; blocks = b.blocks ∙ a.blocks; grows = further n.marks m.marks o.marks a.grows b.grows }

marked_further : (n m : ℕ) → m ≡ n + 1 → n ≤ m
marked_further n m e = omega arith

pub step_of : {n m : Nesting} → Marked n m → Step n m
step_of {n} {m} a = record { fit = a.fit; blocks = a.blocks; grows = marked_further n.marks m.marks a.more }

-- The same is open, and an expression at a place of the level is read, with its marks.
pub record Placed (n : Nesting) (level : ℕ) (e : Expr) (m : Nesting) : Type 0 where
  pub step : Step n m
  pub stands : Stands (is_minus n.last) level n.marks e m.marks

-- The same is open, and what follows an expression leads from a place of one level to a place of another.
pub record Carries (n : Nesting) (inner outer : ℕ) (f : Expr → Expr) (m : Nesting) : Type 0 where
  pub step : Step n m
  pub carries : (minus : Bool) (base : ℕ) (e : Expr) → Stands minus inner base e n.marks → Stands minus outer base (f e) m.marks

-- The same is open, this is read, and it has so many marks.
pub record Spans (n : Nesting) (P : Type 0) (own : ℕ) (m : Nesting) : Type 0 where
  pub step : Step n m
  pub read : P
  pub marks : n.marks + own ≤ m.marks

-- The same is open, and this is read.
pub record Keeps (n : Nesting) (P : Type 0) (m : Nesting) : Type 0 where
  pub goes : Goes n m
  pub read : P

-- The same is open, this is read, and a statement may begin.
pub record Stated (n : Nesting) (P : Type 0) (m : Nesting) : Type 0 where
  pub rest : Rest m
  pub blocks : m.blocks ≡ n.blocks
  pub read : P

within_most : (n own m : ℕ) → n + own ≤ m → m ≤ 200 → own ≤ 200
within_most n own m h i = omega arith

by_flag : (minus : Bool) {level base most : ℕ} {e : Expr} → minus ≡ false → Stands minus level base e most → Stands false level base e most
by_flag true h a = cc
by_flag false h a = a

-- an outermost expression
pub outermost : (n m : Nesting) (e : Expr) → is_minus n.last ≡ false → Placed n 0 e m → Room m → IsReadOutermost e
outermost n m e h a room =
    let s = by_flag (is_minus n.last) h a.stands in
    (outer_read s, within_most n.marks (marks_of e) m.marks (outer_marks s) room.marks)
