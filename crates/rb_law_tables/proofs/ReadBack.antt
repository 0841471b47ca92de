-- The text of a service with its table is read as that service, but for positions, with just that table.
use Rattle.std.proofs.Common.{◌≡◌, ℕ, ◌<◌, ◌≤◌, List, [], ◌∷◌, ◌++◌, map, length, Result, Ok, Err, refl, sym, ap, subst, ◌∙◌, arith, length-append}
use Rattle.std.specs.List.{All, AllByRecursion}
use Rattle.std.proofs.lemmas.List.Elements.{recursion_from_All}
use Rattle.rb_trees.specs.Outcome.{◌>>◌}
use Rattle.rb_trees.specs.declared.services.Object.{Object}
use Rattle.rb_trees.specs.mirror.Services.{ObjectText, Service, ServiceText}
use Rattle.rb_trees.specs.printing.Pieces.{spelled}
use Rattle.rb_trees.specs.printing.Programs.{classes_pieces}
use Rattle.rb_trees.specs.printing.Unplaced.{unplaced_class}
use Rattle.rb_meaning_bytes.specs.tokens.Texts.{longest_text}
use Rattle.rb_meaning_types.specs.Fits.{ObjectFits, classes_of}
use Rattle.rb_meaning_types.specs.Stores.{Stored, object_of, table_of, check_text, service_of}
use Rattle.rb_meaning.specs.Links.{IsTyped}
use Rattle.rb_meaning.specs.Shown.{shown_table}
use Rattle.rb_meaning.specs.ServiceSources.{ReadsAsService, unread, of_text}
use Rattle.rb_parse.proofs.readable.Trees.{IsReadClass}
use Rattle.rb_law_tables.specs.Printed.{root_line, printed_service, PrintsShort, WereRead, TableReadsBack, PrintedTablesReadBack, ReadServicesHaveReadClasses}
use Rattle.rb_law_tables.proofs.alike.Names.{bare, length_map}
use Rattle.rb_law_tables.proofs.alike.Classes.{typed_too}
use Rattle.rb_law_tables.proofs.tables.Stored.{typed_stored}
use Rattle.rb_law_tables.proofs.tables.Suits.{ObjectsSuit, unplaced_object, suit_too}
use Rattle.rb_law_tables.proofs.tables.Written.{ObjectsOf, objects_of}
use Rattle.rb_law_tables.proofs.tables.Checked.{classes_in, service_passes}
use Rattle.rb_law_tables.proofs.printed.Pieces.{service_pieces}
use Rattle.rb_law_tables.proofs.printed.Prints.{greatest, ObjectPrints, objects_print}
use Rattle.rb_law_tables.proofs.printed.Texts.{service_text, table_long}
use Rattle.rb_law_tables.proofs.printed.ObjectTrees.{Same}
use Rattle.rb_law_tables.proofs.printed.Whole.{were_readable, AsText, as_text}

-- what objects stand for, positions count for nothing

table_bare : (os : List ObjectText) → table_of (map unplaced_object os) ≡ table_of os
table_bare [] = refl
table_bare (o ∷ os) = ap (λ t. object_of o ∷ t) (table_bare os)

classes_bare : (os : List ObjectText) → classes_in (map unplaced_object os) ≡ classes_in os
classes_bare [] = refl
classes_bare (o ∷ os) = ap (λ cs. o.class ∷ cs) (classes_bare os)

classes_of_table : (os : List ObjectText) → classes_of (table_of os) ≡ classes_in os
classes_of_table [] = refl
classes_of_table (o ∷ os) = ap (λ cs. o.class ∷ cs) (classes_of_table os)

module _ (service : Service) (table : List Object) (read : All IsReadClass service.classes) (typed : IsTyped service table) (short : PrintsShort service table) where
  written : ObjectsOf (classes_of table) service.classes (typed_stored service.classes typed.typed) 0 table
  written =
      objects_of (classes_of table) service.classes (typed_stored service.classes typed.typed) 0 table
      (recursion_from_All (ObjectFits [] service.classes (classes_of table)) table typed.fits.heap_fits)

  few : length table ≤ greatest
  few =
      let front = spelled (classes_pieces service.classes) in
      let long = table_long 0 table in
      let whole : length (front ++ shown_table 0 table ++ root_line service.root) ≤ longest_text = short in
      omega (arith, length-append (front ++ shown_table 0 table) (root_line service.root), length-append front (shown_table 0 table))

  many : length written.objects ≡ length table
  many = sym (length_map object_of written.objects) ∙ ap length written.is

  prints : AllByRecursion ObjectPrints written.objects
  prints =
      objects_print (classes_of table) (omega (arith, length_map (λ (o : Object). o.class) table, few)) service.classes (recursion_from_All IsReadClass service.classes read) 0 written.objects
      (omega (arith, many, few)) written.suit

  printed_so : printed_service service table ≡ spelled (service_pieces service.classes written.objects service.root)
  printed_so =
      ap (λ t. spelled (classes_pieces service.classes) ++ shown_table 0 t ++ root_line service.root) (sym written.is)
      ∙ service_text (bare service.classes) service.classes (classes_of table) written.objects service.root written.suit

  -- a text that is the same but for positions is the service with the table
  is_service : (t : ServiceText) → Same service.classes written.objects service.root t → service_of t ≡ Ok (record { classes = t.classes; root = t.root }, table)
  is_service t same =
      let objects : map unplaced_object t.objects ≡ written.objects = same.objects_same ∙ written.placed in
      let names : classes_in t.objects ≡ classes_of table = sym (classes_bare t.objects) ∙ ap classes_in objects ∙ sym (classes_of_table written.objects) ∙ ap classes_of written.is in
      let is : table_of t.objects ≡ table = sym (table_bare t.objects) ∙ ap table_of objects ∙ written.is in
      let suit : ObjectsSuit (bare t.classes) (classes_in t.objects) 0 t.objects =
      subst (λ cs. ObjectsSuit (bare t.classes) cs 0 t.objects) (sym names)
      (subst (λ cs. ObjectsSuit cs (classes_of table) 0 t.objects) (sym same.classes_same)
      (suit_too (bare service.classes) (classes_of table) 0 t.objects (subst (ObjectsSuit (bare service.classes) (classes_of table) 0) (sym objects) written.suit))) in
      let root : t.root < length t.objects = omega (arith, same.root_same, typed.fits.root_is, length_map object_of t.objects, ap length is) in
      let passes : check_text t ≡ Ok tt = service_passes t (typed_too service.classes t.classes same.classes_same typed.typed) suit root in
      subst (λ x. service_of t ≡ Ok (record { classes = t.classes; root = t.root }, x)) is (rw passes refl)

  is_back : (t : ServiceText) → Same service.classes written.objects service.root t → ReadsAsService (printed_service service table) (service_of t) → TableReadsBack service table
  is_back t same reads = (
    record { classes = t.classes; root = t.root },
    subst (ReadsAsService (printed_service service table)) (is_service t same) reads,
    ap (λ cs. record { classes = cs; root = t.root }) same.classes_same ∙ ap (λ n. record { classes = map unplaced_class service.classes; root = n }) same.root_same,
  )

  reads_by : (os : List ObjectText) → written.objects ≡ os → TableReadsBack service table
  reads_by [] e = absurd (let n = ap length e in let r = typed.fits.root_is in omega (arith, many))
  reads_by (o ∷ os) e =
      let short_too : length (spelled (service_pieces service.classes (o ∷ os) service.root)) ≤ longest_text =
      subst (λ xs. length (spelled (service_pieces service.classes xs service.root)) ≤ longest_text) e (subst (λ t. length t ≤ longest_text) printed_so short) in
      let back : AsText service.classes o os service.root read (subst (AllByRecursion ObjectPrints) e prints) (omega (arith, few, typed.fits.root_is)) =
      as_text service.classes o os service.root read (subst (AllByRecursion ObjectPrints) e prints) (omega (arith, few, typed.fits.root_is)) short_too in
      let same : Same service.classes written.objects service.root back.text = subst (λ xs. Same service.classes xs service.root back.text) (sym e) back.same in
      let source : spelled (service_pieces service.classes (o ∷ os) service.root) ≡ printed_service service table = sym (printed_so ∙ ap (λ xs. spelled (service_pieces service.classes xs service.root)) e) in
      is_back back.text same (subst (λ text. ReadsAsService text (service_of back.text)) source (of_text back.read_so))

pub reads_back : PrintedTablesReadBack
reads_back service table were typed short =
    let read = were_readable service.classes were in
    reads_by service table read typed short (written service table read typed short).objects refl

-- the service of a text has the text's classes
same_classes : {D : Type 0} (check : Result (Unit {0}) D) (one other : Service × List Object) → check >> Ok one ≡ Ok other → one.0.classes ≡ other.0.classes
same_classes (Ok u) one other e = let same : one ≡ other = cc in ap (λ x. x.0.classes) same
same_classes (Err d) one other e = absurd (cc)

were_read : (source : List ℕ) (service : Service) (table : List Object) (outcome : Stored (Service × List Object)) → ReadsAsService source outcome → outcome ≡ Ok (service, table) → WereRead service.classes
were_read source service table _ (unread r) e = absurd (cc)
were_read source service table _ (of_text {text} r) e =
    (source, text, r, same_classes (check_text text) (record { classes = text.classes; root = text.root }, table_of text.objects) (service, table) e)

pub read_classes : ReadServicesHaveReadClasses
read_classes source service table reads = were_read source service table (Ok (service, table)) reads refl
