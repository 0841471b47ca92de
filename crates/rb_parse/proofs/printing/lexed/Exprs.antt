-- The pieces of readable types and expressions are good.
use Rattle.std.proofs.Common.{ℕ, ℤ, pos, negsuc, nat_lt, cond, Bool, true, false, List, [], ◌∷◌, ◌++◌, refl, sym, subst, arith, append_assoc}
use Rattle.rb_trees.specs.Spelling.{IsName}
use Rattle.rb_trees.specs.declared.code.UnOp.{UnOp}
use Rattle.rb_trees.specs.declared.code.UnOp.TheVariants as unary
use Rattle.rb_trees.specs.declared.code.BinOp.{BinOp}
use Rattle.rb_trees.specs.declared.code.BinOp.TheVariants as binary
use Rattle.rb_trees.specs.declared.values.Value.{Value}
use Rattle.rb_trees.specs.declared.values.Value.TheOpen.{Value-F}
use Rattle.rb_trees.specs.declared.values.Value.TheViews.{out-Value}
use Rattle.rb_trees.specs.mirror.Types as type
use Rattle.rb_trees.specs.mirror.Types.{TypeTree}
use Rattle.rb_trees.specs.mirror.Code.{Expr, Exprs, Lit, Name, This, Unary, Binary, Field, Call, Index, New, Items, Taken, NoExprs, MoreExprs}
use Rattle.rb_trees.specs.printing.Pieces.{Piece}
use Rattle.rb_trees.specs.printing.Types.{type_pieces, result_pieces}
use Rattle.rb_trees.specs.printing.Exprs.{expr_pieces, args_pieces, more_args_pieces, unary_pieces, in_parentheses, placed_at, level_of, left_level, right_level, operand_level, binary_sign}
use Rattle.rb_trees.specs.printing.Words as w
use Rattle.rb_trees.specs.printing.Words.{space, name_piece, int_pieces, bool_piece, form_pieces}
use Rattle.rb_meaning_types.specs.Lawful.{IsLawfulType}
use Rattle.rb_parse.proofs.readable.Trees.{IsReadInt, IsReadForm, IsReadExpr, AreReadExprs, before_operand, before_right}
use Rattle.rb_parse.proofs.printing.lexed.Good.{Good}
use Rattle.rb_parse.proofs.printing.lexed.Leads as leads
use Rattle.rb_parse.proofs.printing.lexed.Leads.{Followed, Opened, Leads, opens_too, spaced, name_leads, number_leads, text_leads}

-- The pieces may stand before whatever follows any token; the flag says that a minus stands before them.
abbrev pub Flows : Bool → List Piece → Type 0
Flows minus ps = (rest : List Piece) → Followed rest → Opened minus (ps ++ rest)

-- The same pieces may follow any token.
abbrev pub Trails : List Piece → Type 0
Trails ps = (rest : List Piece) → Followed rest → Followed (ps ++ rest)

pub flows_then : (minus : Bool) (ps qs : List Piece) → Flows minus ps → Trails qs → Flows minus (ps ++ qs)
flows_then minus ps qs f t rest r = subst (Opened minus) (sym (append_assoc ps qs rest)) (f (qs ++ rest) (t rest r))

pub nothing_trails : Trails []
nothing_trails rest r = r

pub trails_flow : (ps : List Piece) → Trails ps → Flows false ps
trails_flow ps t rest r = opens_too (t rest r)

pub one_flows : (p : Piece) → Leads p → (minus : Bool) → Flows minus (p ∷ [])
one_flows p l minus rest r = l minus rest r

pub word_flows : (p : Piece) (ps : List Piece) → Leads p → Trails ps → (minus : Bool) → Flows minus (p ∷ ps)
word_flows p ps l t minus rest r = l minus (ps ++ rest) (t rest r)

pub spaced_trails : (ps : List Piece) → Flows false ps → Trails (space ∷ ps)
spaced_trails ps f rest r = spaced (ps ++ rest) (f rest r).good

pub semicolon_trails : Trails (w.semicolon ∷ [])
semicolon_trails rest r = record { good = leads.semicolon_stands false rest (opens_too r); ends = refl }

closes_trail : Trails (w.closes ∷ [])
closes_trail rest r = record { good = leads.closes_stands false rest (opens_too r); ends = refl }

pub in_parentheses_good : (ps : List Piece) → Flows false ps → (minus : Bool) (rest : List Piece) → Followed rest → Good minus (in_parentheses ps ++ rest)
in_parentheses_good ps f minus rest r =
    leads.opens_stands minus _ (flows_then false ps (w.closes ∷ []) f closes_trail rest r)

pub in_parentheses_trails : (ps : List Piece) → Flows false ps → Trails (in_parentheses ps)
in_parentheses_trails ps f rest r = record { good = in_parentheses_good ps f false rest r; ends = refl }

-- types

greater_trails : (ps : List Piece) → Trails ps → Trails (w.greater ∷ ps)
greater_trails ps t rest r = record { good = leads.greater_stands false _ (opens_too (t rest r)); ends = refl }

angles : (ps qs : List Piece) → Flows false ps → Trails qs → Trails (w.less ∷ ps ++ w.greater ∷ qs)
angles ps qs f t rest r = record { good = leads.less_stands false _ (flows_then false ps (w.greater ∷ qs) f (greater_trails qs t) rest r); ends = refl }

pub type_flows : (t : TypeTree) → IsLawfulType t → Flows false (type_pieces t)
type_flows (type.Int at) h = one_flows w.Int_word leads.Int_leads false
type_flows (type.Bool at) h = one_flows w.Bool_word leads.Bool_leads false
type_flows (type.Text at) h = one_flows w.Text_word leads.Text_leads false
type_flows (type.Unit at) h = one_flows w.Unit_word leads.Unit_leads false
type_flows (type.Named at name) h = one_flows (name_piece name) (name_leads name h) false
type_flows (type.ListOf at item) h = word_flows w.List_word (w.less ∷ type_pieces item ++ w.greater ∷ []) leads.List_leads (angles (type_pieces item) [] (type_flows item h) nothing_trails) false
type_flows (type.RowsOf at row) h = word_flows w.Rows_word (w.less ∷ type_pieces row ++ w.greater ∷ []) leads.Rows_leads (angles (type_pieces row) [] (type_flows row h) nothing_trails) false

pub typed_trails : (t : TypeTree) → IsLawfulType t → Trails (w.colon ∷ space ∷ type_pieces t)
typed_trails t h rest r = record { good = leads.colon_stands false _ (opens_too (spaced_trails (type_pieces t) (type_flows t h) rest r)); ends = refl }

pub result_trails : (t : TypeTree) → IsLawfulType t → Trails (result_pieces t)
result_trails (type.Int at) h = typed_trails (type.Int at) h
result_trails (type.Bool at) h = typed_trails (type.Bool at) h
result_trails (type.Text at) h = typed_trails (type.Text at) h
result_trails (type.Unit at) h = nothing_trails
result_trails (type.Named at name) h = typed_trails (type.Named at name) h
result_trails (type.ListOf at item) h = typed_trails (type.ListOf at item) h
result_trails (type.RowsOf at row) h = typed_trails (type.RowsOf at row) h

-- literals

int_flows : (minus : Bool) (n : ℤ) → IsReadInt minus n → Flows minus (int_pieces n)
int_flows true (pos n) h rest r = number_leads n true (omega arith) rest r
int_flows false (pos n) h rest r = number_leads n false h rest r
int_flows true (negsuc n) h rest r = subst (λ m. Opened true (int_pieces (negsuc m) ++ rest)) (sym h) (number_leads 9223372036854775808 true (omega arith) rest r)
int_flows false (negsuc n) h rest r = absurd h

bool_flows : (minus truth : Bool) → Flows minus (bool_piece truth ∷ [])
bool_flows minus true = one_flows w.true_word leads.true_leads minus
bool_flows minus false = one_flows w.false_word leads.false_leads minus

form_flows : (minus : Bool) (v : Value-F Value) → IsReadForm minus v → Flows minus (form_pieces v)
form_flows minus (Value-F.Int n) h = int_flows minus n h
form_flows minus (Value-F.Bool truth) h = bool_flows minus truth
form_flows minus (Value-F.Text text) h = one_flows (w.text_piece text) (text_leads text h) minus
form_flows minus _ h = absurd h

-- operators

placed_flows : (inside : Bool) (ps : List Piece) (minus : Bool) → Flows (cond inside false minus) ps → Flows minus (cond inside (in_parentheses ps) ps)
placed_flows true ps minus f = λ rest r. record { good = in_parentheses_good ps f minus rest r; starts = refl }
placed_flows false ps minus f = f

unary_flows : (op : UnOp) (ps : List Piece) (minus : Bool) → Flows (before_operand op) ps → Flows minus (unary_pieces op ps)
unary_flows unary.Not ps minus f = λ rest r. record { good = leads.not_sign_stands minus (ps ++ rest) (f rest r); starts = refl }
unary_flows unary.Neg ps minus f = λ rest r. record { good = leads.minus_stands minus (ps ++ rest) (f rest r); starts = refl }
unary_flows unary.Len ps minus f = word_flows w.len_word (in_parentheses ps) leads.len_leads (in_parentheses_trails ps f) minus
unary_flows unary.Str ps minus f = word_flows w.str_word (in_parentheses ps) leads.str_leads (in_parentheses_trails ps f) minus

-- behind a sign stands a space
pub after_space : (minus : Bool) (rest : List Piece) → Good minus rest → Opened minus (space ∷ rest)
after_space minus rest g = record { good = leads.one_space_good minus rest g; starts = refl }

sign_between : (op : BinOp) (rest : List Piece) → Good (before_right op) rest → Good false (binary_sign op ∷ space ∷ rest)
sign_between binary.Or rest g = leads.or_stands false _ (after_space false rest g)
sign_between binary.And rest g = leads.and_stands false _ (after_space false rest g)
sign_between binary.Eq rest g = leads.equal_stands false _ (after_space false rest g)
sign_between binary.Ne rest g = leads.unequal_stands false _ (after_space false rest g)
sign_between binary.Lt rest g = leads.less_stands false _ (after_space false rest g)
sign_between binary.Le rest g = leads.at_most_stands false _ (after_space false rest g)
sign_between binary.Gt rest g = leads.greater_stands false _ (after_space false rest g)
sign_between binary.Ge rest g = leads.at_least_stands false _ (after_space false rest g)
sign_between binary.Add rest g = leads.plus_stands false _ (after_space false rest g)
sign_between binary.Sub rest g = leads.minus_stands false _ (after_space true rest g)
sign_between binary.Mul rest g = leads.star_stands false _ (after_space false rest g)
sign_between binary.Div rest g = leads.slash_stands false _ (after_space false rest g)
sign_between binary.Rem rest g = leads.percent_stands false _ (after_space false rest g)

operator_trails : (op : BinOp) (ps : List Piece) → Flows (before_right op) ps → Trails (space ∷ binary_sign op ∷ space ∷ ps)
operator_trails op ps f rest r = spaced _ (sign_between op (ps ++ rest) (f rest r).good)

dot_trails : (name : List ℕ) (ps : List Piece) → IsName name → Trails ps → Trails (w.dot ∷ name_piece name ∷ ps)
dot_trails name ps h t rest r = record { good = leads.dot_stands false _ (name_leads name h false (ps ++ rest) (t rest r)); ends = refl }

close_bracket_trails : Trails (w.close_bracket ∷ [])
close_bracket_trails rest r = record { good = leads.close_bracket_stands false rest (opens_too r); ends = refl }

open_bracket_trails : (ps : List Piece) → Flows false ps → Trails (w.open_bracket ∷ ps)
open_bracket_trails ps f rest r = record { good = leads.open_bracket_stands false _ (f rest r); ends = refl }

pub comma_trails : (ps : List Piece) → Flows false ps → Trails (w.comma ∷ space ∷ ps)
comma_trails ps f rest r = record { good = leads.comma_stands false _ (opens_too (spaced_trails ps f rest r)); ends = refl }

mutual
  pub expr_flows : (e : Expr) (minus : Bool) → IsReadExpr minus e → Flows minus (expr_pieces e)
  expr_flows (Lit at value) minus h = form_flows minus (out-Value value) h
  expr_flows (Name at name) minus h = one_flows (name_piece name) (name_leads name h) minus
  expr_flows (This at) minus h = one_flows w.this_word leads.this_leads minus
  expr_flows (Unary at op a) minus h = unary_flows op _ minus (placed_flows (nat_lt (level_of a) (operand_level op)) (expr_pieces a) (before_operand op) (expr_flows a _ h))
  expr_flows (Binary at op a b) minus h =
      flows_then minus (placed_at (left_level op) a (expr_pieces a)) _ (placed_flows (nat_lt (level_of a) (left_level op)) (expr_pieces a) minus (expr_flows a _ h.0))
      (operator_trails op (placed_at (right_level op) b (expr_pieces b)) (placed_flows (nat_lt (level_of b) (right_level op)) (expr_pieces b) (before_right op) (expr_flows b _ h.1)))
  expr_flows (Field at a name) minus h =
      flows_then minus (placed_at 7 a (expr_pieces a)) _ (placed_flows (nat_lt (level_of a) 7) (expr_pieces a) minus (expr_flows a _ h.0)) (dot_trails name [] h.1 nothing_trails)
  expr_flows (Call at a method args) minus h =
      flows_then minus (placed_at 7 a (expr_pieces a)) _ (placed_flows (nat_lt (level_of a) 7) (expr_pieces a) minus (expr_flows a _ h.0))
      (dot_trails method (in_parentheses (args_pieces args)) h.1 (in_parentheses_trails (args_pieces args) (args_flow args h.2)))
  expr_flows (Index at a b) minus h =
      flows_then minus (placed_at 7 a (expr_pieces a) ++ w.open_bracket ∷ expr_pieces b) (w.close_bracket ∷ [])
      (flows_then minus (placed_at 7 a (expr_pieces a)) _ (placed_flows (nat_lt (level_of a) 7) (expr_pieces a) minus (expr_flows a _ h.0)) (open_bracket_trails (expr_pieces b) (expr_flows b false h.1)))
      close_bracket_trails
  expr_flows (New at class args) minus h =
      word_flows w.new_word (space ∷ name_piece class ∷ in_parentheses (args_pieces args)) leads.new_leads
      (spaced_trails (name_piece class ∷ in_parentheses (args_pieces args)) (word_flows (name_piece class) (in_parentheses (args_pieces args)) (name_leads class h.0) (in_parentheses_trails (args_pieces args) (args_flow args h.1)) false)) minus
  expr_flows (Items at item items) minus h =
      word_flows w.List_word (w.less ∷ type_pieces item ++ w.greater ∷ in_parentheses (args_pieces items)) leads.List_leads
      (angles (type_pieces item) (in_parentheses (args_pieces items)) (type_flows item h.0.0) (in_parentheses_trails (args_pieces items) (args_flow items h.1))) minus
  expr_flows (Taken at step) minus h = absurd h

  args_flow : (es : Exprs) → AreReadExprs es → Flows false (args_pieces es)
  args_flow NoExprs h = trails_flow [] nothing_trails
  args_flow (MoreExprs e es) h = flows_then false (expr_pieces e) (more_args_pieces es) (expr_flows e false h.0) (more_args_trail es h.1)

  more_args_trail : (es : Exprs) → AreReadExprs es → Trails (more_args_pieces es)
  more_args_trail NoExprs h = nothing_trails
  more_args_trail (MoreExprs e es) h =
      comma_trails (expr_pieces e ++ more_args_pieces es) (flows_then false (expr_pieces e) (more_args_pieces es) (expr_flows e false h.0) (more_args_trail es h.1))
