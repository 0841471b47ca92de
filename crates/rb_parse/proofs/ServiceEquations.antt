-- What reading services and their literals is.
use Rattle.std.proofs.Common.{◌≡◌, ℕ, cond, List, [], ◌∷◌, ◌++◌, length, refl, ap, ◌∙◌, Some, None, Ok, Err}
use Rattle.rb_trees.specs.declared.tokens.Token.{Token}
use Rattle.rb_trees.specs.declared.tokens.TokenKind.TheVariants as kind
use Rattle.rb_trees.specs.declared.services.Literal as tree
use Rattle.rb_trees.specs.declared.services.ObjectText as object
use Rattle.rb_trees.specs.mirror.Services as literal
use Rattle.rb_trees.specs.mirror.Services.{Literal, Literals, mirror_literal, mirror_literals, mirror_object}
use Rattle.rb_trees.specs.Kinds as k
use Rattle.rb_meaning_bytes.specs.grammar.Values.{name_of, count_of}
use Rattle.rb_meaning_bytes.specs.grammar.Symbols as s
use Rattle.rb_parse.specs.Table.{literal_kinds, begins, may_be_empty, cases, otherwise}
use Rattle.rb_parse.specs.Reading.{Read, ◌>>=◌, take_kind, read_of, taken, next_in, on_taken}
use Rattle.rb_parse.specs.Parts.{on_atom}
use Rattle.rb_parse.specs.Heads.{headed_of}
use Rattle.rb_parse.specs.Services.{simple_literal_of, negative_of, reference_of, literals_to_close, items_of, put_literals, more_literals_on, literals_on, mirror_given, given_to_end, object_head_of, root_of}
use Rattle.rb_parse.proofs.Equations.{reads_by, taken_bind, bind_bind, atom_taken}
use Rattle.rb_parse.proofs.ItemLists.{IsListed, ItemList}
use Rattle.rb_parse.proofs.DeclarationEquations.{token_next}

pub literal_is : (source : List ℕ) (ts : List Token) → read_of source s.ALiteral ts ≡
    on_atom (simple_literal_of source ts)
    (on_taken (taken k.sign_minus ts) (λ w. negative_of source w.1)
    (on_taken (taken k.sign_number_sign ts) (λ w. reference_of source w.1)
    (on_taken (taken k.sign_open_bracket ts) (λ w. items_of source w.1)
    (Err (length ts)))))
unfolding cases otherwise simple_literal_of negative_of reference_of items_of literals_to_close
literal_is source ts = simp (atom_taken, bind_bind) (reads_by source s.ALiteral ts)

pub literals_is : (source : List ℕ) (ts : List Token) → read_of source s.Literals ts ≡ cond (next_in literal_kinds ts) (read_of source s.ALiteral ts >>= λ a. more_literals_on source a.0 a.1) (Ok (literal.NoLiterals, ts))
unfolding cases otherwise more_literals_on begins may_be_empty
literals_is source ts = reads_by source s.Literals ts

put_literals_last : (xs : List tree.Literal) (x : tree.Literal) (l : Literals) → put_literals (xs ++ x ∷ []) l ≡ put_literals xs (literal.MoreLiterals (mirror_literal x) l)
put_literals_last [] x l = refl
put_literals_last (y ∷ xs) x l = ap (literal.MoreLiterals (mirror_literal y)) (put_literals_last xs x l)

put_literals_all : (xs : List tree.Literal) → put_literals xs literal.NoLiterals ≡ mirror_literals xs
put_literals_all [] = refl
put_literals_all (y ∷ xs) = ap (literal.MoreLiterals (mirror_literal y)) (put_literals_all xs)

abbrev then_put : List tree.Literal → Literals × List Token → Read Literals
then_put xs m = Ok (put_literals xs m.0, m.1)

abbrev literals_from_comma : List ℕ → List tree.Literal → Token × List Token → Read Literals
literals_from_comma source xs w = read_of source s.ALiteral w.1 >>= λ a. read_of source s.MoreLiterals a.1 >>= λ m. Ok (put_literals xs (literal.MoreLiterals a.0 m.0), m.1)

literals_by : (source : List ℕ) (xs : List tree.Literal) (ts : List Token) → literals_on source xs ts ≡ on_taken (taken k.sign_comma ts) (literals_from_comma source xs) (Ok (put_literals xs literal.NoLiterals, ts))
unfolding cases otherwise literals_on
literals_by source xs ts = simp (taken_bind, bind_bind) at (ap (λ z. z >>= then_put xs) (reads_by source s.MoreLiterals ts))

pub literals_start : (source : List ℕ) (x : tree.Literal) (ts : List Token) → more_literals_on source (mirror_literal x) ts ≡ literals_on source (x ∷ []) ts
unfolding more_literals_on literals_on
literals_start source x ts = refl

pub literals_end : (source : List ℕ) (xs : List tree.Literal) (ts : List Token) → taken k.sign_comma ts ≡ None → literals_on source xs ts ≡ Ok (mirror_literals xs, ts)
literals_end source xs ts h = literals_by source xs ts ∙ rw h (ap (λ l. Ok (l, ts)) (put_literals_all xs))

pub literals_step : (source : List ℕ) (xs : List tree.Literal) (x : tree.Literal) (t : Token) (ts vs us : List Token) → taken k.sign_comma ts ≡ Some (t, vs) → read_of source s.ALiteral vs ≡ Ok (mirror_literal x, us) → literals_on source xs ts ≡ literals_on source (xs ++ x ∷ []) us
unfolding literals_on
literals_step source xs x t ts vs us h r = literals_by source xs ts ∙ rw (h, r) (simp put_literals_last)

pub literals_stop : (source : List ℕ) (xs : List tree.Literal) (t : Token) (ts vs : List Token) (m : ℕ) → taken k.sign_comma ts ≡ Some (t, vs) → read_of source s.ALiteral vs ≡ Err m → literals_on source xs ts ≡ Err m
literals_stop source xs t ts vs m h r = literals_by source xs ts ∙ rw (h, r) refl

pub ruleset literals = (literals_start, literals_end, literals_step, literals_stop)

pub given_fields_by : (source : List ℕ) → IsListed (kind.Name ∷ []) (given_to_end source) (read_of source s.GivenFields)
unfolding cases otherwise begins may_be_empty given_to_end
given_fields_by source ts = simp bind_bind (reads_by source s.GivenFields ts ∙ token_next kind.Name (λ n. take_kind k.sign_assign n.1 >>= λ e. read_of source s.ALiteral e.1 >>= λ l. take_kind k.sign_semicolon l.1 >>= λ c. read_of source s.GivenFields c.1 >>= λ m. Ok ((name_of source n.0, l.0) ∷ m.0, m.1)) (Ok ([], ts)) ts)

abbrev pub given_fields : ItemList (List ℕ × Literal) (List ℕ × tree.Literal)
given_fields = record { view = mirror_given; list = λ source ts. read_of source s.GivenFields ts; item = given_to_end; kinds = kind.Name ∷ []; is = given_fields_by }

pub object_is : (source : List ℕ) (ts : List Token) → read_of source s.AnObject ts ≡ (object_head_of ts >>= λ h. read_of source s.GivenFields h.1 >>= λ f. take_kind k.sign_close_brace f.1 >>= λ c. Ok (record { number = count_of source h.0.0; class = name_of source h.0.1; at = h.0.1.start; fields = f.0 }, c.1))
unfolding cases otherwise object_head_of headed_of
object_is source ts = simp bind_bind (reads_by source s.AnObject ts)

pub objects_by : (source : List ℕ) → IsListed (k.keyword_object ∷ []) (read_of source s.AnObject) (read_of source s.Objects)
unfolding cases otherwise begins may_be_empty
objects_by source ts = reads_by source s.Objects ts

abbrev pub objects : ItemList literal.ObjectText object.ObjectText
objects = record { view = mirror_object; list = λ source ts. read_of source s.Objects ts; item = λ source ts. read_of source s.AnObject ts; kinds = k.keyword_object ∷ []; is = objects_by }

pub service_is : (source : List ℕ) (ts : List Token) → read_of source s.TheService ts ≡ (read_of source s.Classes ts >>= λ c. read_of source s.Objects c.1 >>= λ o. root_of source o.1 >>= λ r. Ok (record { classes = c.0; objects = o.0; root = r.0 }, r.1))
unfolding cases otherwise root_of
service_is source ts = simp bind_bind (reads_by source s.TheService ts)
