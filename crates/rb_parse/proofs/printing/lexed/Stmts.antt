-- The lines of readable statements are good.
use Rattle.std.proofs.Common.{◌≡◌, ℕ, true, false, List, [], ◌∷◌, ◌++◌, Option, None, Some, refl, sym, subst, ◌∙◌, append_assoc}
use Rattle.std.proofs.lemmas.Bool.{and_from}
use Rattle.std.specs.Prelude.{codes}
use Rattle.std.specs.List.{list_all}
use Rattle.std.proofs.lemmas.List.Folds.{list_all-append}
use Rattle.rb_trees.specs.Spelling.{IsName}
use Rattle.rb_trees.specs.mirror.Code.{Expr, Stmt, Stmts, Val, Var, Assign, Run, Print, Throw, If, While, For, Try, Batch, NoStmts, MoreStmts}
use Rattle.rb_trees.specs.mirror.Declarations.{Body}
use Rattle.rb_trees.specs.printing.Pieces.{Piece, Space}
use Rattle.rb_trees.specs.printing.Exprs.{expr_pieces, in_parentheses}
use Rattle.rb_trees.specs.printing.Stmts.{line, deeper, opened, closed, headed, bound, closed_by, otherwise, stmt_pieces, stmts_pieces, return_pieces, body_pieces}
use Rattle.rb_trees.specs.printing.Words as w
use Rattle.rb_trees.specs.printing.Words.{space, name_piece}
use Rattle.rb_meaning_bytes.specs.tokens.Bytes.{is_separator}
use Rattle.rb_parse.proofs.readable.Trees.{IsReadExpr, IsReadStmt, AreReadStmts, IsReadReturn, IsReadBody}
use Rattle.rb_parse.proofs.printing.lexed.Good.{Good}
use Rattle.rb_parse.proofs.printing.lexed.Leads as leads
use Rattle.rb_parse.proofs.printing.lexed.Leads.{Opened, Leads, opens_too, spaced, ended, name_leads, space_good}
use Rattle.rb_parse.proofs.printing.lexed.Exprs.{Flows, Trails, flows_then, trails_flow, one_flows, word_flows, spaced_trails, semicolon_trails, in_parentheses_trails, after_space, expr_flows}

-- The pieces are whole lines: they may stand before any lines.
abbrev pub Lines : List Piece → Type 0
Lines ps = (rest : List Piece) → Good false rest → Good false (ps ++ rest)

pub lines_then : (ps qs : List Piece) → Lines ps → Lines qs → Lines (ps ++ qs)
lines_then ps qs f t rest r = subst (Good false) (sym (append_assoc ps qs rest)) (f (qs ++ rest) (t rest r))

pub no_lines : Lines []
no_lines rest r = r

abbrev pub IsIndent : List ℕ → Type 0
IsIndent indent = list_all is_separator indent ≡ true

two_spaces : list_all is_separator (codes "  ") ≡ true
unfolding is_separator
two_spaces = refl

pub deeper_indent : (indent : List ℕ) → IsIndent indent → IsIndent (deeper indent)
deeper_indent indent h = list_all-append is_separator indent (codes "  ") ∙ and_from (list_all is_separator indent) (list_all is_separator (codes "  ")) h two_spaces

pub line_good : (indent : List ℕ) (ps : List Piece) → IsIndent indent → Flows false ps → Lines (line indent ps)
line_good indent ps i f rest g =
    space_good indent i false _ (subst (Opened false) (sym (append_assoc ps (Space (10 ∷ []) ∷ []) rest)) (f (Space (10 ∷ []) ∷ rest) (ended rest g))).good

open_brace_trails : Trails (space ∷ w.open_brace ∷ [])
open_brace_trails rest r = spaced _ (leads.open_brace_stands false rest (opens_too r))

pub opened_flows : (ps : List Piece) → Flows false ps → Flows false (opened ps)
opened_flows ps f = flows_then false ps (space ∷ w.open_brace ∷ []) f open_brace_trails

close_brace_flows : Flows false (w.close_brace ∷ [])
close_brace_flows rest r = record { good = leads.close_brace_stands false rest (opens_too r); starts = refl }

pub closed_good : (indent : List ℕ) → IsIndent indent → Lines (closed indent)
closed_good indent i = line_good indent (w.close_brace ∷ []) i close_brace_flows

headed_flows : (word : Piece) (head : List Piece) → Leads word → Flows false head → Flows false (headed word head)
headed_flows word head l f =
    opened_flows (word ∷ space ∷ in_parentheses head)
    (word_flows word (space ∷ in_parentheses head) l (spaced_trails (in_parentheses head) (trails_flow (in_parentheses head) (in_parentheses_trails head f))) false)

closed_by_flows : (ps : List Piece) → Flows false ps → Flows false (closed_by ps)
closed_by_flows ps f rest r = record { good = leads.close_brace_stands false _ (opens_too (spaced_trails (opened ps) (opened_flows ps f) rest r)); starts = refl }

assign_trails : (ps : List Piece) → Flows false ps → Trails (space ∷ w.assign ∷ space ∷ ps)
assign_trails ps f rest r = spaced _ (leads.assign_stands false _ (after_space false _ (f rest r).good))

bound_flows : (word : Piece) (name : List ℕ) (value : Expr) → Leads word → IsName name → IsReadExpr false value → Flows false (bound word name value)
bound_flows word name value l n h =
    let tail = space ∷ w.assign ∷ space ∷ expr_pieces value in
    flows_then false (word ∷ space ∷ name_piece name ∷ tail) (w.semicolon ∷ [])
    (word_flows word (space ∷ name_piece name ∷ tail) l
    (spaced_trails (name_piece name ∷ tail) (word_flows (name_piece name) tail (name_leads name n) (assign_trails (expr_pieces value) (expr_flows value false h)) false)) false)
    semicolon_trails

-- a word, a space and an expression
word_then : (word : Piece) (e : Expr) → Leads word → IsReadExpr false e → Flows false (word ∷ space ∷ expr_pieces e)
word_then word e l h = word_flows word (space ∷ expr_pieces e) l (spaced_trails (expr_pieces e) (expr_flows e false h)) false

pub names_flow : (word : Piece) (name : List ℕ) → Leads word → IsName name → (ps : List Piece) → Trails ps → Flows false (word ∷ space ∷ name_piece name ∷ ps)
names_flow word name l n ps t = word_flows word (space ∷ name_piece name ∷ ps) l (spaced_trails (name_piece name ∷ ps) (word_flows (name_piece name) ps (name_leads name n) t false)) false

for_flows : (name : List ℕ) (e : Expr) → IsName name → IsReadExpr false e → Flows false (name_piece name ∷ space ∷ w.in_word ∷ space ∷ expr_pieces e)
for_flows name e n h =
    word_flows (name_piece name) (space ∷ w.in_word ∷ space ∷ expr_pieces e) (name_leads name n)
    (spaced_trails (w.in_word ∷ space ∷ expr_pieces e) (word_then w.in_word e leads.in_leads h)) false

batch_flows : (interface root : List ℕ) → IsName interface → IsName root → Flows false (name_piece interface ∷ space ∷ name_piece root ∷ [])
batch_flows interface root n m =
    word_flows (name_piece interface) (space ∷ name_piece root ∷ []) (name_leads interface n)
    (spaced_trails (name_piece root ∷ []) (one_flows (name_piece root) (name_leads root m) false)) false

catch_flows : (name : List ℕ) → IsName name → Flows false (w.catch_word ∷ space ∷ in_parentheses (name_piece name ∷ []))
catch_flows name n =
    word_flows w.catch_word (space ∷ in_parentheses (name_piece name ∷ [])) leads.catch_leads
    (spaced_trails (in_parentheses (name_piece name ∷ []))
    (trails_flow (in_parentheses (name_piece name ∷ [])) (in_parentheses_trails (name_piece name ∷ []) (one_flows (name_piece name) (name_leads name n) false)))) false

-- a block between two lines
pub between : (first inner last : List Piece) → Lines first → Lines inner → Lines last → Lines (first ++ inner ++ last)
between first inner last f g h = lines_then (first ++ inner) last (lines_then first inner f g) h

otherwise_good : (indent : List ℕ) (b : Stmts) (lines : List Piece) → IsIndent indent → Lines lines → Lines (otherwise indent b lines)
otherwise_good indent NoStmts lines i h = closed_good indent i
otherwise_good indent (MoreStmts s ss) lines i h =
    between (line indent (closed_by (w.else_word ∷ []))) lines (closed indent)
    (line_good indent (closed_by (w.else_word ∷ [])) i (closed_by_flows (w.else_word ∷ []) (one_flows w.else_word leads.else_leads false))) h (closed_good indent i)

mutual
  pub stmt_good : (s : Stmt) (blocks : ℕ) (indent : List ℕ) → IsIndent indent → IsReadStmt blocks s → Lines (stmt_pieces indent s)
  stmt_good (Val at name e) blocks indent i h = line_good indent (bound w.val_word name e) i (bound_flows w.val_word name e leads.val_leads h.0 h.1.0)
  stmt_good (Var at name e) blocks indent i h = line_good indent (bound w.var_word name e) i (bound_flows w.var_word name e leads.var_leads h.0 h.1.0)
  stmt_good (Assign at a b) blocks indent i h =
      line_good indent (expr_pieces a ++ space ∷ w.assign ∷ space ∷ expr_pieces b ++ w.semicolon ∷ []) i
      (flows_then false (expr_pieces a ++ space ∷ w.assign ∷ space ∷ expr_pieces b) (w.semicolon ∷ [])
      (flows_then false (expr_pieces a) (space ∷ w.assign ∷ space ∷ expr_pieces b) (expr_flows a false h.0.0) (assign_trails (expr_pieces b) (expr_flows b false h.1.0)))
      semicolon_trails)
  stmt_good (Run at e) blocks indent i h =
      line_good indent (expr_pieces e ++ w.semicolon ∷ []) i (flows_then false (expr_pieces e) (w.semicolon ∷ []) (expr_flows e false h.0) semicolon_trails)
  stmt_good (Print at e) blocks indent i h =
      line_good indent (w.print_word ∷ in_parentheses (expr_pieces e) ++ w.semicolon ∷ []) i
      (flows_then false (w.print_word ∷ in_parentheses (expr_pieces e)) (w.semicolon ∷ [])
      (word_flows w.print_word (in_parentheses (expr_pieces e)) leads.print_leads (in_parentheses_trails (expr_pieces e) (expr_flows e false h.0)) false) semicolon_trails)
  stmt_good (Throw at e) blocks indent i h =
      line_good indent (w.throw_word ∷ space ∷ expr_pieces e ++ w.semicolon ∷ []) i
      (flows_then false (w.throw_word ∷ space ∷ expr_pieces e) (w.semicolon ∷ []) (word_then w.throw_word e leads.throw_leads h.0) semicolon_trails)
  stmt_good (If at e a b) blocks indent i h =
      let d = deeper_indent indent i in
      between (line indent (headed w.if_word (expr_pieces e))) (stmts_pieces (deeper indent) a) (otherwise indent b (stmts_pieces (deeper indent) b))
      (line_good indent (headed w.if_word (expr_pieces e)) i (headed_flows w.if_word (expr_pieces e) leads.if_leads (expr_flows e false h.0.0)))
      (stmts_good a _ (deeper indent) d h.2) (otherwise_good indent b (stmts_pieces (deeper indent) b) i (stmts_good b _ (deeper indent) d h.3))
  stmt_good (While at e a) blocks indent i h =
      between (line indent (headed w.while_word (expr_pieces e))) (stmts_pieces (deeper indent) a) (closed indent)
      (line_good indent (headed w.while_word (expr_pieces e)) i (headed_flows w.while_word (expr_pieces e) leads.while_leads (expr_flows e false h.0.0)))
      (stmts_good a _ (deeper indent) (deeper_indent indent i) h.2) (closed_good indent i)
  stmt_good (For at name e a) blocks indent i h =
      let head = name_piece name ∷ space ∷ w.in_word ∷ space ∷ expr_pieces e in
      between (line indent (headed w.for_word head)) (stmts_pieces (deeper indent) a) (closed indent)
      (line_good indent (headed w.for_word head) i (headed_flows w.for_word head leads.for_leads (for_flows name e h.0 h.1.0)))
      (stmts_good a _ (deeper indent) (deeper_indent indent i) h.3) (closed_good indent i)
  stmt_good (Try at a name b) blocks indent i h =
      let d = deeper_indent indent i in
      let head = w.catch_word ∷ space ∷ in_parentheses (name_piece name ∷ []) in
      let tried = line indent (opened (w.try_word ∷ [])) ++ stmts_pieces (deeper indent) a in
      between (tried ++ line indent (closed_by head)) (stmts_pieces (deeper indent) b) (closed indent)
      (between (line indent (opened (w.try_word ∷ []))) (stmts_pieces (deeper indent) a) (line indent (closed_by head))
      (line_good indent (opened (w.try_word ∷ [])) i (opened_flows (w.try_word ∷ []) (one_flows w.try_word leads.try_leads false)))
      (stmts_good a _ (deeper indent) d h.2) (line_good indent (closed_by head) i (closed_by_flows head (catch_flows name h.0))))
      (stmts_good b _ (deeper indent) d h.3) (closed_good indent i)
  stmt_good (Batch at interface root a) blocks indent i h =
      let head = name_piece interface ∷ space ∷ name_piece root ∷ [] in
      between (line indent (headed w.batch_word head)) (stmts_pieces (deeper indent) a) (closed indent)
      (line_good indent (headed w.batch_word head) i (headed_flows w.batch_word head leads.batch_leads (batch_flows interface root h.0 h.1)))
      (stmts_good a _ (deeper indent) (deeper_indent indent i) h.3) (closed_good indent i)

  pub stmts_good : (ss : Stmts) (blocks : ℕ) (indent : List ℕ) → IsIndent indent → AreReadStmts blocks ss → Lines (stmts_pieces indent ss)
  stmts_good NoStmts blocks indent i h = no_lines
  stmts_good (MoreStmts s ss) blocks indent i h = lines_then (stmt_pieces indent s) (stmts_pieces indent ss) (stmt_good s blocks indent i h.0) (stmts_good ss blocks indent i h.1)

return_good : (e : Option Expr) (indent : List ℕ) → IsIndent indent → IsReadReturn e → Lines (return_pieces indent e)
return_good None indent i h = no_lines
return_good (Some e) indent i h =
    line_good indent (w.return_word ∷ space ∷ expr_pieces e ++ w.semicolon ∷ []) i
    (flows_then false (w.return_word ∷ space ∷ expr_pieces e) (w.semicolon ∷ []) (word_then w.return_word e leads.return_leads h.0) semicolon_trails)

pub body_good : (b : Body) (indent : List ℕ) → IsIndent indent → IsReadBody b → Lines (body_pieces indent b)
body_good b indent i h = lines_then (stmts_pieces indent b.statements) (return_pieces indent b.result) (stmts_good b.statements 1 indent i h.0) (return_good b.result indent i h.1)
