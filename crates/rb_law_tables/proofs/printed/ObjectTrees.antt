-- The objects that are printed, and their derivations.
use Rattle.std.proofs.Common.{◌≡◌, ℕ, ℤ, pos, negsuc, neg_ℤ, ◌≤◌, ◌<◌, ◌^◌, suc, min, Bool, true, false, List, [], ◌∷◌, map, refl, ap, ◌∙◌, arith}
use Rattle.std.specs.List.{AllByRecursion}
use Rattle.std.specs.Fmt.{decimal}
use Rattle.std.specs.Int.{int_wrap, w64}
use Rattle.rb_trees.specs.declared.tokens.Token.{Token as Lexeme}
use Rattle.rb_trees.specs.mirror.Declarations.{Class}
use Rattle.rb_trees.specs.mirror.Services.{Literal, Literals, Int, Bool as Truth, Text, Object as Reference, Items, NoLiterals, MoreLiterals, ObjectText, ServiceText}
use Rattle.rb_trees.specs.printing.Unplaced.{unplaced_class}
use Rattle.rb_trees.specs.printing.Words.{bool_piece}
use Rattle.rb_meaning_types.specs.Values.{IsInt}
use Rattle.rb_meaning_bytes.specs.tokens.Values.{number_value, int_of, text_value}
use Rattle.rb_meaning_bytes.specs.grammar.Values.{slice, count_of, number_of}
use Rattle.rb_meaning_bytes.specs.grammar.Symbols as s
use Rattle.rb_meaning_bytes.specs.grammar.Productions as r
use Rattle.rb_parse.proofs.readable.Trees.{IsReadClass}
use Rattle.rb_parse.proofs.printing.Values.{number_of_decimal, text_of_literal}
use Rattle.rb_parse.proofs.printing.derived.Made.{MadePart, end, skip, token, the, last, by}
use Rattle.rb_law_tables.proofs.tables.Suits.{unplaced_object}
use Rattle.rb_law_tables.proofs.printed.Ints.{small, small_behind, of_number, of_minus}
use Rattle.rb_law_tables.proofs.printed.Pieces.{signed_pieces, literal_pieces, items_pieces, more_pieces, given_pieces, object_pieces, objects_pieces, service_pieces}
use Rattle.rb_law_tables.proofs.printed.Prints.{greatest, Prints, AllPrint, GivenPrints, ObjectPrints}
use Rattle.rb_law_tables.proofs.printed.ClassTrees.{classes_made}

-- the text of a service that is the same but for positions
pub record Same (classes : List Class) (objects : List ObjectText) (root : ℕ) (t : ServiceText) : Type 0 where
  pub classes_same : map unplaced_class t.classes ≡ map unplaced_class classes
  pub objects_same : map unplaced_object t.objects ≡ map unplaced_object objects
  pub root_same : t.root ≡ root

module _ (source : List ℕ) where
  counted : (n : ℕ) (t : Lexeme) → n ≤ greatest → slice source t ≡ decimal n → count_of source t ≡ n
  counted n t l e =
      let cut : min n 9223372036854775808 ≡ n = omega arith in
      ap (λ v. min v 9223372036854775808) (ap number_value e ∙ number_of_decimal n (omega arith)) ∙ cut

  numbered : (n : ℕ) (t : Lexeme) → n < 2 ^ 64 → slice source t ≡ decimal n → number_of source t ≡ int_of (min n 9223372036854775808)
  numbered n t l e = ap (λ v. int_of (min v 9223372036854775808)) (ap number_value e ∙ number_of_decimal n l)

  int_made : (z : ℤ) → IsInt z → MadePart source s.ALiteral (signed_pieces z) (λ x. x ≡ Int z)
  int_made (pos n) h = let l = small n h in by r.literal_number (token λ t e. end (ap Int (numbered n t (omega arith) e ∙ of_number n h)))
  int_made (negsuc n) h =
      let l = small_behind n h in
      by r.literal_minus (token λ t e. token λ u f. end (ap Int (ap (λ v. int_wrap w64 (neg_ℤ v)) (numbered (suc n) u (omega arith) f) ∙ of_minus n h)))

  truth_made : (b : Bool) → MadePart source s.ALiteral (bool_piece b ∷ []) (λ x. x ≡ Truth b)
  truth_made true = by r.literal_true (token λ t e. end refl)
  truth_made false = by r.literal_false (token λ t e. end refl)

  mutual
    literal_made : (l : Literal) (n : ℕ) → Prints n l → MadePart source s.ALiteral (literal_pieces l) (λ x. x ≡ l)
    literal_made (Int z) n h = int_made z h
    literal_made (Truth b) n h = truth_made b
    literal_made (Text t) n h = by r.literal_text (token λ u e. end (ap Text (ap text_value e ∙ text_of_literal t)))
    literal_made (Reference m) n h = by r.literal_object (token λ t e. token λ u f. end (ap Reference (counted m u h f)))
    literal_made (Items ls) n h = by r.literal_list (token λ t e. the (items_made ls (suc n) h.1) λ x k. token λ u f. end (ap Items k))

    items_made : (ls : Literals) (n : ℕ) → AllPrint n ls → MadePart source s.Literals (items_pieces ls) (λ x. x ≡ ls)
    items_made NoLiterals n h = by r.no_literals (end refl)
    items_made (MoreLiterals l ls) n h = by r.literals (the (literal_made l n h.0) λ x k. last (more_made ls n h.1) λ y j. ap (λ z. MoreLiterals z y) k ∙ ap (MoreLiterals l) j)

    more_made : (ls : Literals) (n : ℕ) → AllPrint n ls → MadePart source s.MoreLiterals (more_pieces ls) (λ x. x ≡ ls)
    more_made NoLiterals n h = by r.last_literal (end refl)
    more_made (MoreLiterals l ls) n h =
        by r.more_literals (token λ t e. skip (the (literal_made l n h.0) λ x k. last (more_made ls n h.1) λ y j. ap (λ z. MoreLiterals z y) k ∙ ap (MoreLiterals l) j))

  given_made : (gs : List (List ℕ × Literal)) → AllByRecursion GivenPrints gs → MadePart source s.GivenFields (given_pieces gs) (λ x. x ≡ gs)
  given_made [] h = by r.no_given_fields (end refl)
  given_made (g ∷ gs) h =
      by r.more_given_fields (token λ t e. skip (token λ u f. skip (the (literal_made g.1 0 h.0.1) λ x k. token λ v j. skip (last (given_made gs h.1) λ y i.
      ap (λ n. (n, x) ∷ y) e ∙ ap (λ z. (g.0, z) ∷ y) k ∙ ap (λ zs. g ∷ zs) i))))

  object_made : (o : ObjectText) → ObjectPrints o → MadePart source s.AnObject (object_pieces o) (λ x. unplaced_object x ≡ unplaced_object o)
  object_made o h =
      by r.object (token λ word e. skip (token λ number f. token λ colon g. skip (token λ class i. skip (token λ opens j. skip (the (given_made o.fields h.2) λ x k. token λ closes l. skip (end
      (ap (λ n. record { number = n; class = slice source class; at = 0; fields = x }) (counted o.number number h.0 f) ∙ ap (λ n. record { number = o.number; class = n; at = 0; fields = x }) i
      ∙ ap (λ z. record { number = o.number; class = o.class; at = 0; fields = z }) k)))))))

  objects_made : (os : List ObjectText) → AllByRecursion ObjectPrints os → MadePart source s.Objects (objects_pieces os) (λ xs. map unplaced_object xs ≡ map unplaced_object os)
  objects_made [] h = by r.no_objects (end refl)
  objects_made (o ∷ os) h = by r.more_objects (the (object_made o h.0) λ x k. last (objects_made os h.1) λ y j. ap (λ z. z ∷ map unplaced_object y) k ∙ ap (λ z. unplaced_object o ∷ z) j)

  pub service_made : (cs : List Class) (os : List ObjectText) (root : ℕ) → AllByRecursion IsReadClass cs → AllByRecursion ObjectPrints os → root ≤ greatest
      → MadePart source s.TheService (service_pieces cs os root) (Same cs os root)
  service_made cs os root read h l =
      by r.service (the (classes_made source cs read) λ x k. the (objects_made os h) λ y j. token λ t e. skip (token λ u f. token λ v g. skip (end
      (record { classes_same = k; objects_same = j; root_same = counted root u l f }))))
