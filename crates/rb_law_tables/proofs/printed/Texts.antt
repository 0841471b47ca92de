-- The lines of a table are the text of the pieces of its objects.
use Rattle.std.proofs.Common.{◌≡◌, ℕ, ℤ, pos, negsuc, ◌+◌, ◌≤◌, suc, List, [], ◌∷◌, ◌++◌, map, length, Bool, true, false, codes, refl, sym, ap, ◌∙◌, arith, append_assoc, append-nil, length-append}
use Rattle.std.specs.Fmt.{decimal, signed_decimal}
use Rattle.rb_trees.specs.declared.services.Object.{Object}
use Rattle.rb_trees.specs.mirror.Declarations.{Class}
use Rattle.rb_trees.specs.mirror.Services.{Literal, Literals, Int, Bool as Truth, Text, Object as Reference, Items, NoLiterals, MoreLiterals, ObjectText}
use Rattle.rb_trees.specs.printing.Pieces.{spelled}
use Rattle.rb_trees.specs.printing.Programs.{classes_pieces}
use Rattle.rb_trees.specs.printing.Words as w
use Rattle.rb_trees.specs.printing.Words.{bool_piece}
use Rattle.rb_trees.proofs.printed.Pieces.{spelled_append}
use Rattle.rb_meaning_code.specs.Operators.{bool_text}
use Rattle.rb_meaning_types.specs.Stores.{value_of, values_of, fields_of, object_of, table_of}
use Rattle.rb_meaning.specs.Shown.{line, literal, listed, more_listed, shown_fields, shown_object, shown_table}
use Rattle.rb_shown.proofs.ValueForms.{literal_Int, literal_Bool, literal_Text, literal_List, literal_Ref}
use Rattle.rb_parse.proofs.printing.derived.Shapes.{five}
use Rattle.rb_law_tables.specs.Printed.{root_line}
use Rattle.rb_law_tables.proofs.printed.Pieces.{signed_pieces, literal_pieces, items_pieces, more_pieces, given_pieces, object_end, object_pieces, objects_pieces, root_pieces, service_pieces}
use Rattle.rb_law_tables.proofs.tables.Suits.{ObjectsSuit}

signed_text : (n : ℤ) → signed_decimal n ≡ spelled (signed_pieces n)
signed_text (pos n) = sym (append-nil (decimal n))
signed_text (negsuc n) = ap (λ t. 45 ∷ t) (sym (append-nil (decimal (suc n))))

truth_text : (b : Bool) → bool_text b ≡ spelled (bool_piece b ∷ [])
truth_text true = refl
truth_text false = refl

mutual
  literal_text : (l : Literal) → literal (value_of l) ≡ spelled (literal_pieces l)
  literal_text (Int n) = literal_Int n ∙ signed_text n
  literal_text (Truth b) = literal_Bool b ∙ truth_text b
  literal_text (Text t) = literal_Text t ∙ sym (append-nil _)
  literal_text (Reference n) = literal_Ref n ∙ ap (λ t. 35 ∷ t) (sym (append-nil (decimal n)))
  literal_text (Items ls) =
      literal_List (values_of ls) ∙ ap (λ t. 91 ∷ (t ++ codes "]")) (items_text ls) ∙ ap (λ t. 91 ∷ t) (sym (spelled_append (items_pieces ls) (w.close_bracket ∷ [])))

  items_text : (ls : Literals) → listed (map literal (values_of ls)) ≡ spelled (items_pieces ls)
  items_text NoLiterals = refl
  items_text (MoreLiterals l ls) =
      ap (λ t. t ++ more_listed (map literal (values_of ls))) (literal_text l) ∙ ap (λ t. spelled (literal_pieces l) ++ t) (more_text ls) ∙ sym (spelled_append (literal_pieces l) (more_pieces ls))

  more_text : (ls : Literals) → more_listed (map literal (values_of ls)) ≡ spelled (more_pieces ls)
  more_text NoLiterals = refl
  more_text (MoreLiterals l ls) =
      ap (λ t. 44 ∷ 32 ∷ (t ++ more_listed (map literal (values_of ls)))) (literal_text l) ∙ ap (λ t. 44 ∷ 32 ∷ (spelled (literal_pieces l) ++ t)) (more_text ls)
      ∙ ap (λ t. 44 ∷ 32 ∷ t) (sym (spelled_append (literal_pieces l) (more_pieces ls)))

fields_text : (gs : List (List ℕ × Literal)) → shown_fields (fields_of gs) ≡ spelled (given_pieces gs)
fields_text [] = refl
fields_text (g ∷ gs) =
    five g.0 (codes " = ") (literal (value_of g.1)) (codes "; ") (shown_fields (fields_of gs)) ∙ ap (λ t. g.0 ++ (32 ∷ 61 ∷ 32 ∷ (t ++ 59 ∷ 32 ∷ shown_fields (fields_of gs)))) (literal_text g.1)
    ∙ ap (λ t. g.0 ++ (32 ∷ 61 ∷ 32 ∷ (spelled (literal_pieces g.1) ++ 59 ∷ 32 ∷ t))) (fields_text gs)
    ∙ ap (λ t. g.0 ++ (32 ∷ 61 ∷ 32 ∷ t)) (sym (spelled_append (literal_pieces g.1) (w.semicolon ∷ w.space ∷ given_pieces gs)))

object_text : (o : ObjectText) → line (shown_object o.number (object_of o)) ≡ spelled (object_pieces o)
object_text o =
    ap (λ t. codes "object " ++ t)
    (append_assoc (decimal o.number ++ codes ": " ++ o.class ++ codes " { " ++ shown_fields (fields_of o.fields)) (codes "}") (10 ∷ [])
    ∙ append_assoc (decimal o.number ++ codes ": " ++ o.class ++ codes " { ") (shown_fields (fields_of o.fields)) (125 ∷ 10 ∷ [])
    ∙ five (decimal o.number) (codes ": ") o.class (codes " { ") (shown_fields (fields_of o.fields) ++ 125 ∷ 10 ∷ [])
    ∙ ap (λ t. decimal o.number ++ (58 ∷ 32 ∷ (o.class ++ 32 ∷ 123 ∷ 32 ∷ t))) (ap (λ t. t ++ 125 ∷ 10 ∷ []) (fields_text o.fields) ∙ sym (spelled_append (given_pieces o.fields) object_end)))

table_text : (declared : List Class) (classes : List (List ℕ)) (n : ℕ) (os : List ObjectText) → ObjectsSuit declared classes n os → shown_table n (table_of os) ≡ spelled (objects_pieces os)
table_text declared classes n [] h = refl
table_text declared classes n (o ∷ os) h =
    ap (λ m. line (shown_object m (object_of o)) ++ shown_table (n + 1) (table_of os)) (sym h.0.number) ∙ ap (λ t. t ++ shown_table (n + 1) (table_of os)) (object_text o)
    ∙ ap (λ t. spelled (object_pieces o) ++ t) (table_text declared classes (n + 1) os h.1) ∙ sym (spelled_append (object_pieces o) (objects_pieces os))

root_text : (root : ℕ) → root_line root ≡ spelled (root_pieces root)
root_text root = ap (λ t. codes "root " ++ t) (append_assoc (decimal root) (codes ";") (10 ∷ []))

-- The text of a service with a table is that of the pieces.
pub service_text : (declared classes : List Class) (names : List (List ℕ)) (os : List ObjectText) (root : ℕ) → ObjectsSuit declared names 0 os
    → spelled (classes_pieces classes) ++ shown_table 0 (table_of os) ++ root_line root ≡ spelled (service_pieces classes os root)
service_text declared classes names os root h =
    append_assoc (spelled (classes_pieces classes)) (shown_table 0 (table_of os)) (root_line root)
    ∙ ap (λ t. spelled (classes_pieces classes) ++ t) (ap (λ t. t ++ root_line root) (table_text declared names 0 os h) ∙ ap (λ t. spelled (objects_pieces os) ++ t) (root_text root)
    ∙ sym (spelled_append (objects_pieces os) (root_pieces root)))
    ∙ sym (spelled_append (classes_pieces classes) (objects_pieces os ++ root_pieces root))

some_bytes : (n : ℕ) (o : Object) → 1 ≤ length (line (shown_object n o))
some_bytes n o = omega (arith, length-append (shown_object n o) (10 ∷ []))

-- each line takes a byte at least
pub table_long : (n : ℕ) (table : List Object) → length table ≤ length (shown_table n table)
table_long n [] = omega arith
table_long n (o ∷ os) = omega (arith, length-append (line (shown_object n o)) (shown_table (n + 1) os), some_bytes n o, table_long (n + 1) os)
