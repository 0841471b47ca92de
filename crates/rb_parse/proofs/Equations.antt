-- What reading a part is, by the next token.
use Rattle.std.proofs.Common.{◌≡◌, ℕ, Bool, true, false, cond, List, [], ◌∷◌, length, refl, ap, sym, ◌∙◌, Option, Some, None, Result, Ok, Err}
use Rattle.rb_trees.specs.declared.tokens.Token.{Token}
use Rattle.rb_trees.specs.declared.tokens.TokenKind.TheVariants as kind
use Rattle.rb_trees.specs.mirror.Types as type
use Rattle.rb_trees.specs.Kinds as k
use Rattle.rb_trees.specs.Kinds.{is_kind, is_one_of}
use Rattle.rb_meaning_bytes.specs.grammar.Symbols as s
use Rattle.rb_meaning_bytes.specs.grammar.Symbols.{Symbol, Terminal, The, Nonterminal, TreeOf, Makes}
use Rattle.rb_meaning_bytes.specs.grammar.Values.{name_of}
use Rattle.rb_parse.specs.Table.{Choice, begins, may_be_empty, all_begin, cases, otherwise, chosen}
use Rattle.rb_parse.specs.Reading.{Read, Reader, ◌>>=◌, read_into, by_choice, read_of, taken, next_in, on_taken}
use Rattle.rb_trees.specs.declared.code.UnOp.TheVariants as unary
use Rattle.rb_trees.specs.declared.code.BinOp.{BinOp}
use Rattle.rb_trees.specs.mirror.Code as code
use Rattle.rb_trees.specs.mirror.Code.{Expr, Exprs}
use Rattle.rb_meaning_bytes.specs.grammar.Productions.{member}
use Rattle.rb_parse.specs.declared.levels.Level.{Level}
use Rattle.rb_parse.specs.declared.levels.Level.TheVariants as l
use Rattle.rb_parse.specs.Table.{expression_kinds}
use Rattle.rb_parse.specs.Parts.{item_of, level_of, operand_of, repeats, operator_at, more_of, on_operator, joined_of, prefixed_of, members_of, arguments_to_close, expression_to_close, called_of, member_at, index_at, atom_of, on_atom, measured_of, object_of, list_of, more_on}
use Rattle.rb_parse.proofs.Function.{reads}

-- a production that begins with a token goes on behind it; another one is told by what it begins with
abbrev pub by_parts : Reader → (l : List Symbol) (T : Type 0) → Makes l T → List Token → Read T → Read T
by_parts R [] T f ts other = other
by_parts R (Terminal kind ∷ l) T f ts other = on_taken (taken kind ts) (λ x. read_into R l T (f x.0) x.1) other
by_parts R (The p ∷ l) T f ts other = cond (next_in (all_begin (The p ∷ l)) ts) (read_into R (The p ∷ l) T f ts) other

abbrev pub by_cases : {source : List ℕ} {p : Nonterminal} → Reader → List (Choice source p) → Option (Choice source p) → List Token → Read (TreeOf p)
by_cases R [] d ts = by_choice R d ts
by_cases {p = p} R (c ∷ cs) d ts = by_parts R c.parts (TreeOf p) c.makes ts (by_cases R cs d ts)

pub token_told : {A : Type 0} (e : Bool) (t : Token) (ts : List Token) (n : ℕ) (g : Token × List Token → Read A) (other : Read A) → on_taken (cond e (Some (t, ts)) None) g other ≡ cond (cond e true false) (◌>>=◌ {A = Token × List Token} (cond e (Ok (t, ts)) (Err n)) g) other
token_told true t ts n g other = refl
token_told false t ts n g other = refl

pub cond_bind : {A B : Type 0} (b : Bool) (x y : Result A ℕ) (g : A → Result B ℕ) → (cond b x y >>= g) ≡ cond b (x >>= g) (y >>= g)
cond_bind true x y g = refl
cond_bind false x y g = refl

module _ (R : Reader) where
  parts_told : (l : List Symbol) (T : Type 0) (f : Makes l T) (t : Token) (ts : List Token) (other : Read T) → by_parts R l T f (t ∷ ts) other ≡ cond (is_one_of t.kind (all_begin l)) (read_into R l T f (t ∷ ts)) other
  parts_told [] T f t ts other = refl
  parts_told (Terminal kind ∷ l) T f t ts other = token_told (is_kind t.kind kind) t ts (length (t ∷ ts)) (λ x. read_into R l T (f x.0) x.1) other
  parts_told (The p ∷ l) T f t ts other = refl

  cond_choice : {source : List ℕ} {p : Nonterminal} (b : Bool) (x y : Option (Choice source p)) (ts : List Token) → by_choice R (cond b x y) ts ≡ cond b (by_choice R x ts) (by_choice R y ts)
  cond_choice true x y ts = refl
  cond_choice false x y ts = refl

  cases_told : {source : List ℕ} {p : Nonterminal} (cs : List (Choice source p)) (d : Option (Choice source p)) (t : Token) (ts : List Token) → by_choice R (chosen t.kind cs d) (t ∷ ts) ≡ by_cases R cs d (t ∷ ts)
  cases_told [] d t ts = refl
  cases_told {p = p} (c ∷ cs) d t ts =
      cond_choice (is_one_of t.kind (all_begin c.parts)) (Some c) (chosen t.kind cs d) (t ∷ ts)
      ∙ ap (λ y. cond (is_one_of t.kind (all_begin c.parts)) (read_into R c.parts (TreeOf p) c.makes (t ∷ ts)) y) (cases_told cs d t ts)
      ∙ sym (parts_told c.parts (TreeOf p) c.makes t ts (by_cases R cs d (t ∷ ts)))

  parts_ended : (l : List Symbol) (T : Type 0) (f : Makes l T) (other : Read T) → other ≡ by_parts R l T f [] other
  parts_ended [] T f other = refl
  parts_ended (Terminal kind ∷ l) T f other = refl
  parts_ended (The p ∷ l) T f other = refl

  cases_ended : {source : List ℕ} {p : Nonterminal} (cs : List (Choice source p)) (d : Option (Choice source p)) → by_choice R d [] ≡ by_cases R cs d []
  cases_ended [] d = refl
  cases_ended {p = p} (c ∷ cs) d = cases_ended cs d ∙ parts_ended c.parts (TreeOf p) c.makes (by_cases R cs d [])

pub reads_by : (source : List ℕ) (p : Nonterminal) (ts : List Token) → read_of source p ts ≡ by_cases (read_of source) (cases source p) (otherwise source p) ts
reads_by source p [] = reads source p [] ∙ cases_ended (read_of source) (cases source p) (otherwise source p)
reads_by source p (t ∷ ts) = reads source p (t ∷ ts) ∙ cases_told (read_of source) (cases source p) (otherwise source p) t ts

-- binds, one after the other
pub bind_bind : {A B C : Type 0} (r : Result A ℕ) (f : A → Result B ℕ) (g : B → Result C ℕ) → ((r >>= f) >>= g) ≡ (r >>= λ x. f x >>= g)
bind_bind (Ok x) f g = refl
bind_bind (Err e) f g = refl

pub type_is : (source : List ℕ) (ts : List Token) → read_of source s.AType ts ≡
    on_taken (taken k.keyword_Int ts) (λ w. Ok (type.Int w.0.start, w.1))
    (on_taken (taken k.keyword_Bool ts) (λ w. Ok (type.Bool w.0.start, w.1))
    (on_taken (taken k.keyword_Text ts) (λ w. Ok (type.Text w.0.start, w.1))
    (on_taken (taken k.keyword_Unit ts) (λ w. Ok (type.Unit w.0.start, w.1))
    (on_taken (taken kind.Name ts) (λ w. Ok (type.Named w.0.start (name_of source w.0), w.1))
    (on_taken (taken k.keyword_List ts) (λ w. item_of source w.1 >>= λ a. Ok (type.ListOf w.0.start a.0, a.1))
    (on_taken (taken k.keyword_Rows ts) (λ w. item_of source w.1 >>= λ a. Ok (type.RowsOf w.0.start a.0, a.1))
    (Err (length ts))))))))
unfolding cases otherwise item_of
type_is source ts = simp bind_bind (reads_by source s.AType ts)

pub taken_bind : {A B : Type 0} (o : Option (Token × List Token)) (f : Token × List Token → Result A ℕ) (other : Result A ℕ) (g : A → Result B ℕ) → (on_taken o f other >>= g) ≡ on_taken o (λ w. f w >>= g) (other >>= g)
taken_bind None f other g = refl
taken_bind (Some x) f other g = refl

pub bind_ok : {A : Type 0} (r : Read A) → (r >>= λ a. Ok (a.0, a.1)) ≡ r
bind_ok (Ok x) = refl
bind_ok (Err e) = refl

pub operator_taken : (o : Option (Token × List Token)) (f : Token × List Token → BinOp × Token × List Token) (more : Option (BinOp × Token × List Token)) (h : BinOp × Token × List Token → Read Expr) (other : Read Expr) → on_operator (on_taken o (λ x. Some (f x)) more) h other ≡ on_taken o (λ x. h (f x)) (on_operator more h other)
operator_taken None f more h other = refl
operator_taken (Some x) f more h other = refl

pub atom_taken : {A : Type 0} (o : Option (Token × List Token)) (f : Token × List Token → A × List Token) (more : Option (A × List Token)) (other : Read A) → on_atom (on_taken o (λ x. Some (f x)) more) other ≡ on_taken o (λ x. Ok (f x)) (on_atom more other)
atom_taken None f more other = refl
atom_taken (Some x) f more other = refl

pub chain_is : (source : List ℕ) (level : Level) (ts : List Token) → read_of source (s.Chain (level_of level)) ts ≡ (operand_of source level ts >>= λ a. more_of source level a.0 a.1)
unfolding cases otherwise operand_of more_of
chain_is source l.Or ts = reads_by source (s.Chain s.OrLevel) ts
chain_is source l.And ts = reads_by source (s.Chain s.AndLevel) ts
chain_is source l.Same ts = reads_by source (s.Chain s.SameLevel) ts
chain_is source l.Order ts = reads_by source (s.Chain s.OrderLevel) ts
chain_is source l.Sum ts = reads_by source (s.Chain s.SumLevel) ts
chain_is source l.Product ts = reads_by source (s.Chain s.ProductLevel) ts

abbrev apply_to : Expr → (Expr → Expr) × List Token → Read Expr
apply_to left m = Ok (m.0 left, m.1)

applied : (left : Expr) {r q : Read (Expr → Expr)} → r ≡ q → (r >>= apply_to left) ≡ (q >>= apply_to left)
applied left h = ap (λ z. z >>= apply_to left) h

pub more_is : (source : List ℕ) (level : Level) (left : Expr) (ts : List Token) → more_of source level left ts ≡ on_operator (operator_at level ts) (λ x. joined_of source level left x.0 x.1 x.2) (Ok (left, ts))
unfolding cases otherwise operand_of more_of operator_at joined_of repeats
more_is source l.Or left ts = simp operator_taken (simp (taken_bind, bind_bind) at (applied left (reads_by source (s.MoreChain s.OrLevel) ts)))
more_is source l.And left ts = simp operator_taken (simp (taken_bind, bind_bind) at (applied left (reads_by source (s.MoreChain s.AndLevel) ts)))
more_is source l.Same left ts = simp operator_taken (simp (taken_bind, bind_bind) at (applied left (reads_by source (s.MoreChain s.SameLevel) ts)))
more_is source l.Order left ts = simp operator_taken (simp (taken_bind, bind_bind) at (applied left (reads_by source (s.MoreChain s.OrderLevel) ts)))
more_is source l.Sum left ts = simp operator_taken (simp (taken_bind, bind_bind) at (applied left (reads_by source (s.MoreChain s.SumLevel) ts)))
more_is source l.Product left ts = simp operator_taken (simp (taken_bind, bind_bind) at (applied left (reads_by source (s.MoreChain s.ProductLevel) ts)))

pub postfix_is : (source : List ℕ) (ts : List Token) → read_of source s.Postfix ts ≡ (read_of source s.First ts >>= λ a. members_of source a.0 a.1)
unfolding cases otherwise members_of
postfix_is source ts = reads_by source s.Postfix ts

pub prefix_is : (source : List ℕ) (ts : List Token) → read_of source s.Prefix ts ≡
    on_taken (taken k.sign_not ts) (λ w. prefixed_of source unary.Not w.0 w.1)
    (on_taken (taken k.sign_minus ts) (λ w. prefixed_of source unary.Neg w.0 w.1)
    (read_of source s.First ts >>= λ a. members_of source a.0 a.1))
unfolding cases otherwise prefixed_of
prefix_is source ts = simp (← postfix_is) (simp bind_ok at (reads_by source s.Prefix ts))

abbrev then_members : List ℕ → Expr → Token → Option Exprs × List Token → Read Expr
then_members source object name c = read_of source s.Members c.1 >>= λ m. Ok (m.0 (member name.start (name_of source name) c.0 object), m.1)

called_is : (source : List ℕ) (object : Expr) (name : Token) (ts : List Token) → (read_of source s.CallPart ts >>= then_members source object name) ≡ called_of source object name ts
unfolding cases otherwise called_of arguments_to_close members_of
called_is source object name ts = simp bind_bind (simp (taken_bind, bind_bind) at (ap (λ z. z >>= then_members source object name) (reads_by source s.CallPart ts)))

pub members_is : (source : List ℕ) (object : Expr) (ts : List Token) → members_of source object ts ≡
    on_taken (taken k.sign_dot ts) (λ w. member_at source object w.1)
    (on_taken (taken k.sign_open_bracket ts) (λ w. index_at source object w.0 w.1)
    (Ok (object, ts)))
unfolding cases otherwise members_of member_at index_at
members_is source object ts = simp (← called_is) (simp (taken_bind, bind_bind) at (applied object (reads_by source s.Members ts)))

pub first_is : (source : List ℕ) (ts : List Token) → read_of source s.First ts ≡
    on_atom (atom_of source ts)
    (on_taken (taken k.keyword_len ts) (λ w. measured_of source unary.Len w.0 w.1)
    (on_taken (taken k.keyword_str ts) (λ w. measured_of source unary.Str w.0 w.1)
    (on_taken (taken k.keyword_new ts) (λ w. object_of source w.0 w.1)
    (on_taken (taken k.keyword_List ts) (λ w. list_of source w.0 w.1)
    (on_taken (taken k.sign_open ts) (λ w. expression_to_close source w.1)
    (Err (length ts)))))))
unfolding cases otherwise atom_of measured_of object_of list_of item_of arguments_to_close expression_to_close
first_is source ts = simp (atom_taken, bind_bind) (reads_by source s.First ts)

pub arguments_is : (source : List ℕ) (ts : List Token) → read_of source s.Arguments ts ≡ cond (next_in expression_kinds ts) (read_of source s.Expression ts >>= λ a. more_on source a.0 a.1) (Ok (code.NoExprs, ts))
unfolding cases otherwise more_on begins may_be_empty
arguments_is source ts = reads_by source s.Arguments ts
