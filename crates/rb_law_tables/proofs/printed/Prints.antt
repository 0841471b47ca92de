-- What literals and objects that suit readable classes are: their parts have their forms, and few lists are open.
use Rattle.std.proofs.Common.{◌≡◌, ℕ, ◌+◌, ◌<◌, ◌≤◌, suc, List, [], ◌∷◌, map, length, Some, option_map, Option, None, refl, sym, ap, subst, ◌∙◌, arith}
use Rattle.std.specs.List.{AllByRecursion}
use Rattle.std.proofs.lemmas.List.Elements.{recursion_from_All}
use Rattle.std.proofs.lemmas.Option.{slice_get_within}
use Rattle.rb_trees.specs.Spelling.{IsName}
use Rattle.rb_trees.specs.mirror.Types as type
use Rattle.rb_trees.specs.mirror.Types.{TypeTree}
use Rattle.rb_trees.specs.mirror.Declarations.{Param, Class}
use Rattle.rb_trees.specs.mirror.Services.{Literal, Literals, Int, Bool as Truth, Text, Object as Reference, Items, NoLiterals, MoreLiterals, ObjectText}
use Rattle.rb_trees.specs.printing.Unplaced.{unplaced_param, unplaced_class}
use Rattle.rb_meaning_types.specs.Kinds.{Kind, kind_of}
use Rattle.rb_meaning_types.specs.Names.{class_named}
use Rattle.rb_meaning_types.specs.Values.{IsInt, IsText}
use Rattle.rb_parse.proofs.readable.Trees.{type_depth, IsReadParam, IsReadClass}
use Rattle.rb_law_tables.proofs.alike.Names.{bare, class_bare, kind_bare}
use Rattle.rb_law_tables.proofs.tables.Stored.{found_in}
use Rattle.rb_law_tables.proofs.tables.Suits.{IsIntLiteral, IsBoolLiteral, IsTextLiteral, IsReference, AllSuit, AreItems, Suits, GivenSuit, ObjectsSuit}

-- the greatest number of a text
abbrev pub greatest : ℕ
greatest = 9223372036854775807

abbrev mutual
  -- The literal may stand where so many lists are open.
  pub Prints : ℕ → Literal → Type 0
  Prints open_lists (Int number) = IsInt number
  Prints open_lists (Truth truth) = Unit {0}
  Prints open_lists (Text text) = IsText text
  Prints open_lists (Reference number) = number ≤ greatest
  Prints open_lists (Items items) = (suc open_lists ≤ 64) × AllPrint (suc open_lists) items

  pub AllPrint : ℕ → Literals → Type 0
  AllPrint open_lists NoLiterals = Unit {0}
  AllPrint open_lists (MoreLiterals l ls) = Prints open_lists l × AllPrint open_lists ls

-- a field that is given
abbrev pub GivenPrints : List ℕ × Literal → Type 0
GivenPrints g = IsName g.0 × Prints 0 g.1

abbrev pub ObjectPrints : ObjectText → Type 0
ObjectPrints o = (o.number ≤ greatest) × IsName o.class × AllByRecursion GivenPrints o.fields

module _ (classes : List (List ℕ)) (few : length classes ≤ greatest) where
  int_prints : (n : ℕ) (l : Literal) → IsIntLiteral l → Prints n l
  int_prints n (Int z) h = h
  int_prints n (Truth b) h = absurd h
  int_prints n (Text t) h = absurd h
  int_prints n (Reference m) h = absurd h
  int_prints n (Items ls) h = absurd h

  bool_prints : (n : ℕ) (l : Literal) → IsBoolLiteral l → Prints n l
  bool_prints n (Int z) h = absurd h
  bool_prints n (Truth b) h = tt
  bool_prints n (Text t) h = absurd h
  bool_prints n (Reference m) h = absurd h
  bool_prints n (Items ls) h = absurd h

  text_prints : (n : ℕ) (l : Literal) → IsTextLiteral l → Prints n l
  text_prints n (Int z) h = absurd h
  text_prints n (Truth b) h = absurd h
  text_prints n (Text t) h = h
  text_prints n (Reference m) h = absurd h
  text_prints n (Items ls) h = absurd h

  reference_prints : (n : ℕ) (name : List ℕ) (l : Literal) → IsReference classes name l → Prints n l
  reference_prints n name (Int z) h = absurd h
  reference_prints n name (Truth b) h = absurd h
  reference_prints n name (Text t) h = absurd h
  reference_prints n name (Reference m) h = let small : m < length classes = slice_get_within classes m name h in omega arith
  reference_prints n name (Items ls) h = absurd h

  all_print : (n : ℕ) (k : Kind) → ((l : Literal) → Suits classes k l → Prints n l) → (ls : Literals) → AllSuit (Suits classes k) ls → AllPrint n ls
  all_print n k one NoLiterals h = tt
  all_print n k one (MoreLiterals l ls) h = (one l h.0, all_print n k one ls h.1)

  items_print : (n : ℕ) (k : Kind) → suc n ≤ 64 → ((l : Literal) → Suits classes k l → Prints (suc n) l) → (l : Literal) → AreItems (Suits classes k) l → Prints n l
  items_print n k room one (Int z) h = absurd h
  items_print n k room one (Truth b) h = absurd h
  items_print n k room one (Text t) h = absurd h
  items_print n k room one (Reference m) h = absurd h
  items_print n k room one (Items ls) h = (room, all_print (suc n) k one ls h.1)

  literal_prints : (t : TypeTree) (n : ℕ) → n + type_depth t ≤ 64 → (l : Literal) → Suits classes (kind_of t) l → Prints n l
  literal_prints (type.Int at) n d l h = int_prints n l h
  literal_prints (type.Bool at) n d l h = bool_prints n l h
  literal_prints (type.Text at) n d l h = text_prints n l h
  literal_prints (type.Unit at) n d l h = absurd h
  literal_prints (type.Named at name) n d l h = reference_prints n name l h
  literal_prints (type.ListOf at item) n d l h = items_print n (kind_of item) (omega arith) (λ m g. literal_prints item (suc n) (omega arith) m g) l h
  literal_prints (type.RowsOf at row) n d l h = absurd h

  given_prints : (ps : List Param) (gs : List (List ℕ × Literal)) → AllByRecursion IsReadParam ps → GivenSuit classes (map unplaced_param ps) gs → AllByRecursion GivenPrints gs
  given_prints [] [] r h = tt
  given_prints [] (g ∷ gs) r h = absurd h
  given_prints (p ∷ ps) [] r h = absurd h
  given_prints (p ∷ ps) (g ∷ gs) r h = (
    (subst IsName h.0 r.0.0, literal_prints p.kind 0 (omega (arith, r.0.1.1)) g.1 (subst (λ k. Suits classes k g.1) (kind_bare p.kind) h.1)),
    given_prints ps gs r.1 h.2,
  )

  module _ (declared : List Class) (read : AllByRecursion IsReadClass declared) where
    given_found : (o : ObjectText) (u : Class) (found : Option Class) → class_named declared o.class ≡ found → class_named (bare declared) o.class ≡ Some u → GivenSuit classes u.fields o.fields
        → IsName o.class × AllByRecursion GivenPrints o.fields
    given_found o u None is e h = let no : None ≡ Some u = sym (ap (option_map unplaced_class) is) ∙ sym (class_bare declared o.class) ∙ e in absurd (cc)
    given_found o u (Some c) is e h =
        let both : Some (unplaced_class c) ≡ Some u = sym (ap (option_map unplaced_class) is) ∙ sym (class_bare declared o.class) ∙ e in
        let it : unplaced_class c ≡ u = cc in
        let good = found_in IsReadClass (λ x. x.name) declared o.class c read is in
        (subst IsName good.1 good.0.0, given_prints c.fields o.fields (recursion_from_All IsReadParam c.fields good.0.1) (subst (λ x. GivenSuit classes x.fields o.fields) (sym it) h))

    pub objects_print : (n : ℕ) (os : List ObjectText) → n + length os ≤ greatest → ObjectsSuit (bare declared) classes n os → AllByRecursion ObjectPrints os
    objects_print n [] l h = tt
    objects_print n (o ∷ os) l h =
        let number : o.number ≡ n = h.0.number in
        let parts = given_found o h.0.class (class_named declared o.class) refl h.0.found h.0.fields in
        ((omega arith, parts.0, parts.1), objects_print (n + 1) os (omega arith) h.1)
