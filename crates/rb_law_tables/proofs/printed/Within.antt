-- The tokens of a printed service break no limit of nesting.
use Rattle.std.proofs.Common.{◌≡◌, ℕ, ℤ, pos, negsuc, ◌+◌, ◌≤◌, suc, Bool, true, false, not, ◌&&◌, cond, codes, List, [], ◌∷◌, ◌++◌, length, Option, None, Some, refl, sym, ap, subst, ◌∙◌, append_assoc, arith, le-ltb, length-append}
use Rattle.std.specs.List.{All, AllByRecursion, list_all}
use Rattle.std.proofs.lemmas.Bool.{not-true, and_parts}
use Rattle.std.proofs.lemmas.List.Elements.{recursion_from_All}
use Rattle.rb_trees.specs.declared.tokens.Token.{Token as Lexeme}
use Rattle.rb_trees.specs.declared.tokens.TokenKind.{TokenKind}
use Rattle.rb_trees.specs.Kinds as k
use Rattle.rb_trees.specs.Kinds.{is_kind}
use Rattle.rb_trees.specs.mirror.Declarations.{Class}
use Rattle.rb_trees.specs.mirror.Services.{Literal, Literals, Int, Bool as Truth, Text, Object as Reference, Items, NoLiterals, MoreLiterals, ObjectText}
use Rattle.rb_trees.specs.printing.Pieces.{Piece, Token, Space, spelled}
use Rattle.rb_trees.specs.printing.Programs.{classes_pieces}
use Rattle.rb_trees.specs.printing.Words as w
use Rattle.rb_trees.specs.printing.Words.{space, name_piece, number_piece, bool_piece}
use Rattle.rb_meaning_bytes.specs.grammar.Symbols as s
use Rattle.rb_meaning_bytes.specs.grammar.Symbols.{The}
use Rattle.rb_meaning_bytes.specs.grammar.Limits.{Nesting, lists_after, broken_lists, after, too_deep, broken, nothing_open, Within}
use Rattle.rb_parse.proofs.Laws.{within_prefix}
use Rattle.rb_parse.proofs.readable.Trees.{IsReadClass}
use Rattle.rb_parse.proofs.readable.Tokens.{NoObject}
use Rattle.rb_parse.proofs.readable.Codes.{no_object}
use Rattle.rb_parse.proofs.printing.Spots.{tokens_at}
use Rattle.rb_parse.proofs.printing.derived.Stands.{stand}
use Rattle.rb_parse.proofs.printing.derived.Made.{Made, last}
use Rattle.rb_parse.proofs.printing.within.Programs.{within}
use Rattle.rb_law_tables.proofs.printed.Pieces.{object_word, signed_pieces, literal_pieces, items_pieces, more_pieces, given_pieces, object_end, object_pieces, objects_pieces, root_pieces, service_pieces}
use Rattle.rb_law_tables.proofs.printed.Prints.{Prints, AllPrint, GivenPrints, ObjectPrints}
use Rattle.rb_law_tables.proofs.printed.ClassLines.{alone, alone_pieces, alone_readable, main_pieces}
use Rattle.rb_law_tables.proofs.printed.ClassTrees.{classes_made}

-- Where so many lists are open, no token of the pieces opens one too many.
abbrev Fine : ℕ → List Piece → Type 0
Fine n ps = (at : ℕ) → broken_lists n (tokens_at at ps) ≡ None

-- a token behind which so many lists are open
step : (n m : ℕ) (kind : TokenKind) (bytes : List ℕ) (ps : List Piece) → lists_after n kind ≡ m → m ≤ 64 → Fine m ps → Fine n (Token kind bytes ∷ ps)
step n m kind bytes ps e l h at = rw (e, le-ltb 64 m l) (h (at + length bytes))

-- a piece that is no bracket of a list
abbrev is_calm : Piece → Bool
is_calm (Token kind bytes) = not (is_kind kind k.sign_open_bracket) && not (is_kind kind k.sign_close_bracket)
is_calm (Space bytes) = true

calm : (n : ℕ) (p : Piece) (ps : List Piece) → is_calm p ≡ true → n ≤ 64 → Fine n ps → Fine n (p ∷ ps)
unfolding lists_after
calm n (Token kind bytes) ps c l h =
    let parts = and_parts (not (is_kind kind k.sign_open_bracket)) (not (is_kind kind k.sign_close_bracket)) c in
    let e = not-true (is_kind kind k.sign_open_bracket) parts.0 in
    let f = not-true (is_kind kind k.sign_close_bracket) parts.1 in
    step n n kind bytes ps (rw (e, f) refl) l h
calm n (Space bytes) ps c l h = λ at. h (at + length bytes)

calms : (n : ℕ) (ps qs : List Piece) → list_all is_calm ps ≡ true → n ≤ 64 → Fine n qs → Fine n (ps ++ qs)
calms n [] qs c l h = h
calms n (p ∷ ps) qs c l h = let parts = and_parts (is_calm p) (list_all is_calm ps) c in calm n p (ps ++ qs) parts.0 l (calms n ps qs parts.1 l h)

opening : (n : ℕ) (ps : List Piece) → suc n ≤ 64 → Fine (suc n) ps → Fine n (w.open_bracket ∷ ps)
unfolding lists_after
opening n ps l h = step n (suc n) k.sign_open_bracket (codes "[") ps (omega arith) l h

closing : (n : ℕ) (ps : List Piece) → n ≤ 64 → Fine n ps → Fine (suc n) (w.close_bracket ∷ ps)
unfolding lists_after
closing n ps l h = step (suc n) n k.sign_close_bracket (codes "]") ps (omega arith) l h

int_fine : (n : ℕ) (z : ℤ) (rest : List Piece) → n ≤ 64 → Fine n rest → Fine n (signed_pieces z ++ rest)
int_fine n (pos m) rest l h = calms n (signed_pieces (pos m)) rest refl l h
int_fine n (negsuc m) rest l h = calms n (signed_pieces (negsuc m)) rest refl l h

truth_fine : (n : ℕ) (b : Bool) (rest : List Piece) → n ≤ 64 → Fine n rest → Fine n (bool_piece b ∷ rest)
truth_fine n true rest l h = calm n w.true_word rest refl l h
truth_fine n false rest l h = calm n w.false_word rest refl l h

mutual
  literal_fine : (v : Literal) (n : ℕ) (rest : List Piece) → Prints n v → n ≤ 64 → Fine n rest → Fine n (literal_pieces v ++ rest)
  literal_fine (Int z) n rest p l h = int_fine n z rest l h
  literal_fine (Truth b) n rest p l h = truth_fine n b rest l h
  literal_fine (Text t) n rest p l h = calms n (literal_pieces (Text t)) rest refl l h
  literal_fine (Reference m) n rest p l h = calms n (literal_pieces (Reference m)) rest refl l h
  literal_fine (Items vs) n rest p l h =
      opening n ((items_pieces vs ++ w.close_bracket ∷ []) ++ rest) p.0
      (subst (Fine (suc n)) (sym (append_assoc (items_pieces vs) (w.close_bracket ∷ []) rest)) (items_fine vs (suc n) (w.close_bracket ∷ rest) p.1 p.0 (closing n rest l h)))

  items_fine : (vs : Literals) (n : ℕ) (rest : List Piece) → AllPrint n vs → n ≤ 64 → Fine n rest → Fine n (items_pieces vs ++ rest)
  items_fine NoLiterals n rest p l h = h
  items_fine (MoreLiterals v vs) n rest p l h =
      subst (Fine n) (sym (append_assoc (literal_pieces v) (more_pieces vs) rest)) (literal_fine v n (more_pieces vs ++ rest) p.0 l (more_fine vs n rest p.1 l h))

  more_fine : (vs : Literals) (n : ℕ) (rest : List Piece) → AllPrint n vs → n ≤ 64 → Fine n rest → Fine n (more_pieces vs ++ rest)
  more_fine NoLiterals n rest p l h = h
  more_fine (MoreLiterals v vs) n rest p l h =
      calms n (w.comma ∷ space ∷ []) ((literal_pieces v ++ more_pieces vs) ++ rest) refl l
      (subst (Fine n) (sym (append_assoc (literal_pieces v) (more_pieces vs) rest)) (literal_fine v n (more_pieces vs ++ rest) p.0 l (more_fine vs n rest p.1 l h)))

-- pieces outside of lists
plain : (ps qs : List Piece) → list_all is_calm ps ≡ true → Fine 0 qs → Fine 0 (ps ++ qs)
plain ps qs c h = calms 0 ps qs c (omega arith) h

given_fine : (gs : List (List ℕ × Literal)) (rest : List Piece) → AllByRecursion GivenPrints gs → Fine 0 rest → Fine 0 (given_pieces gs ++ rest)
given_fine [] rest p h = h
given_fine (g ∷ gs) rest p h =
    let tail = w.semicolon ∷ space ∷ given_pieces gs in
    plain (name_piece g.0 ∷ space ∷ w.assign ∷ space ∷ []) ((literal_pieces g.1 ++ tail) ++ rest) refl
    (subst (Fine 0) (sym (append_assoc (literal_pieces g.1) tail rest))
    (literal_fine g.1 0 (tail ++ rest) p.0.1 (omega arith) (plain (w.semicolon ∷ space ∷ []) (given_pieces gs ++ rest) refl (given_fine gs rest p.1 h))))

-- what stands between the word of an object and its fields
abbrev head_pieces : ObjectText → List Piece
head_pieces o = space ∷ number_piece o.number ∷ w.colon ∷ space ∷ name_piece o.class ∷ space ∷ w.open_brace ∷ space ∷ []

-- what stands behind the word of an object
abbrev behind_word : ObjectText → List Piece
behind_word o = head_pieces o ++ (given_pieces o.fields ++ object_end)

object_fine : (o : ObjectText) (rest : List Piece) → ObjectPrints o → Fine 0 rest → Fine 0 (behind_word o ++ rest)
object_fine o rest p h =
    plain (head_pieces o) ((given_pieces o.fields ++ object_end) ++ rest) refl
    (subst (Fine 0) (sym (append_assoc (given_pieces o.fields) object_end rest)) (given_fine o.fields (object_end ++ rest) p.2 (plain object_end rest refl h)))

objects_fine : (os : List ObjectText) (rest : List Piece) → AllByRecursion ObjectPrints os → Fine 0 rest → Fine 0 (objects_pieces os ++ rest)
objects_fine [] rest p h = h
objects_fine (o ∷ os) rest p h =
    subst (Fine 0) (sym (append_assoc (object_pieces o) (objects_pieces os) rest))
    (plain (object_word ∷ []) (behind_word o ++ (objects_pieces os ++ rest)) refl (object_fine o (objects_pieces os ++ rest) p.0 (objects_fine os rest p.1 h)))

root_fine : (root : ℕ) → Fine 0 (root_pieces root)
root_fine root = plain (root_pieces root) [] refl (λ at. refl)

-- the tokens of pieces one after the other
tokens_append : (at : ℕ) (ps qs : List Piece) → tokens_at at (ps ++ qs) ≡ tokens_at at ps ++ tokens_at (at + length (spelled ps)) qs
tokens_append at [] qs = let e : at ≡ at + 0 = omega arith in ap (λ n. tokens_at n qs) e
tokens_append at (Token kind bytes ∷ ps) qs =
    let e : at + length bytes + length (spelled ps) ≡ at + length (bytes ++ spelled ps) = omega (arith, length-append bytes (spelled ps)) in
    ap (λ ts. record { kind = kind; start = at; end = at + length bytes } ∷ ts) (tokens_append (at + length bytes) ps qs ∙ ap (λ n. tokens_at (at + length bytes) ps ++ tokens_at n qs) e)
tokens_append at (Space bytes ∷ ps) qs =
    let e : at + length bytes + length (spelled ps) ≡ at + length (bytes ++ spelled ps) = omega (arith, length-append bytes (spelled ps)) in
    tokens_append (at + length bytes) ps qs ∙ ap (λ n. tokens_at (at + length bytes) ps ++ tokens_at n qs) e

-- what a choice gives
other : (b : Bool) (x y : Option ℕ) → b ≡ false → cond b x y ≡ None → y ≡ None
other true x y e f = absurd (cc)
other false x y e f = f

passes : (deep : Bool) (n : ℕ) (y : Option ℕ) → cond deep (Some n) y ≡ None → (deep ≡ false) × (y ≡ None)
passes true n y f = absurd (cc)
passes false n y f = (refl, f)

-- Code that breaks no limit may be followed by objects that don't.
goes_on : (n : Nesting) (front : List Lexeme) (t : Lexeme) (rest : List Lexeme) → NoObject front → broken n front ≡ None → is_kind t.kind k.keyword_object ≡ true → broken_lists 0 rest ≡ None
    → broken n (front ++ t ∷ rest) ≡ None
goes_on n [] t rest o b e h = rw e h
goes_on n (u ∷ us) t rest o b e h =
    let here = passes (too_deep (after n u.kind)) (length (u ∷ us)) (broken (after n u.kind) us) (other (is_kind u.kind k.keyword_object) _ _ o.0 b) in
    rw (o.0, here.0) (goes_on (after n u.kind) us t rest o.1 here.1 e h)

parted : (cs : List Class) (ps : List Piece) → tokens_at 0 (classes_pieces cs ++ ps) ≡ tokens_at 0 (classes_pieces cs) ++ tokens_at (length (spelled (classes_pieces cs))) ps
parted cs ps =
    let e : 0 + length (spelled (classes_pieces cs)) ≡ length (spelled (classes_pieces cs)) = omega arith in
    tokens_append 0 (classes_pieces cs) ps ∙ ap (λ n. tokens_at 0 (classes_pieces cs) ++ tokens_at n ps) e

classes_within : (cs : List Class) → All IsReadClass cs → broken nothing_open (tokens_at 0 (classes_pieces cs)) ≡ None
classes_within cs read =
    within_prefix nothing_open (tokens_at 0 (classes_pieces cs)) (tokens_at (length (spelled (classes_pieces cs))) main_pieces)
    (subst (λ ts. broken nothing_open ts ≡ None) (ap (tokens_at 0) (alone_pieces cs) ∙ parted cs main_pieces) (within (alone cs) (alone_readable cs read)))

classes_no_object : (cs : List Class) → AllByRecursion IsReadClass cs → NoObject (tokens_at 0 (classes_pieces cs))
classes_no_object cs read =
    let source = spelled (classes_pieces cs) in
    let m : Made source (The s.Classes ∷ []) (classes_pieces cs) (λ xs. Unit {0}) = last (classes_made source cs read) (λ x h. tt) in
    no_object source (m.spell (tokens_at 0 (classes_pieces cs)) (stand source [] 0 (classes_pieces cs) refl refl)).spells refl

pub service_within : (cs : List Class) (o : ObjectText) (os : List ObjectText) (root : ℕ) → All IsReadClass cs → AllByRecursion ObjectPrints (o ∷ os) → Within (tokens_at 0 (service_pieces cs (o ∷ os) root))
service_within cs o os root read p =
    let at = length (spelled (classes_pieces cs)) in
    let rest = behind_word o ++ (objects_pieces os ++ root_pieces root) in
    let word : Lexeme = record { kind = k.keyword_object; start = at; end = at + 6 } in
    let behind : broken_lists 0 (tokens_at (at + 6) rest) ≡ None = object_fine o (objects_pieces os ++ root_pieces root) p.0 (objects_fine os (root_pieces root) p.1 (root_fine root)) (at + 6) in
    subst (λ ts. broken nothing_open ts ≡ None)
    (sym (parted cs (objects_pieces (o ∷ os) ++ root_pieces root) ∙ ap (λ ps. tokens_at 0 (classes_pieces cs) ++ tokens_at at ps) (append_assoc (object_pieces o) (objects_pieces os) (root_pieces root))))
    (goes_on nothing_open (tokens_at 0 (classes_pieces cs)) word (tokens_at (at + 6) rest) (classes_no_object cs (recursion_from_All IsReadClass cs read)) (classes_within cs read) refl behind)
