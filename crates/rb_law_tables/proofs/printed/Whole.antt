-- What is printed of a service is read as a text that is the same but for positions.
use Rattle.std.proofs.Common.{◌≡◌, ℕ, ◌≤◌, false, List, [], ◌∷◌, ◌++◌, length, sym, refl, subst, arith, ap, ◌∙◌, append-nil, append_assoc, Ok}
use Rattle.std.specs.List.{All, AllByRecursion}
use Rattle.std.proofs.lemmas.List.Elements.{recursion_from_All}
use Rattle.rb_trees.specs.declared.tokens.Token.{Token as Lexeme}
use Rattle.rb_trees.specs.mirror.Declarations.{Class}
use Rattle.rb_trees.specs.mirror.Services.{ObjectText, ServiceText}
use Rattle.rb_trees.specs.printing.Pieces.{spelled}
use Rattle.rb_meaning_bytes.specs.tokens.Texts.{IsTokens, longest_text}
use Rattle.rb_meaning_bytes.specs.grammar.Symbols as s
use Rattle.rb_meaning_bytes.specs.grammar.Symbols.{Symbol, The, Trees}
use Rattle.rb_meaning_bytes.specs.grammar.Productions as r
use Rattle.rb_meaning_bytes.specs.grammar.Derives as g
use Rattle.rb_meaning_bytes.specs.grammar.Derives.{Spells, DerivesAs, DerivesService}
use Rattle.rb_meaning_bytes.specs.grammar.Sources.{ReadService}
use Rattle.rb_parse.proofs.readable.Trees.{IsReadClass}
use Rattle.rb_parse.proofs.readable.Whole.{readable_classes}
use Rattle.rb_parse.proofs.printing.Spots.{tokens_at}
use Rattle.rb_parse.proofs.printing.lexed.Good.{Good, good_utf8, listed}
use Rattle.rb_parse.proofs.printing.derived.Stands.{stand}
use Rattle.rb_parse.proofs.printing.derived.Made.{Made, last}
use Rattle.rb_law_tables.specs.Printed.{WereRead}
use Rattle.rb_law_tables.proofs.printed.Pieces.{objects_pieces, root_pieces, service_pieces}
use Rattle.rb_law_tables.proofs.printed.Prints.{greatest, ObjectPrints}
use Rattle.rb_law_tables.proofs.printed.Lexed.{objects_good, root_good}
use Rattle.rb_law_tables.proofs.printed.ClassLines.{classes_good}
use Rattle.rb_law_tables.proofs.printed.ObjectTrees.{Same, service_made}
use Rattle.rb_law_tables.proofs.printed.Within.{service_within}

-- the tokens of the classes of a text, and those behind them
record Classed (source : List ℕ) (tokens : List Lexeme) (classes : List Class) : Type 0 where
  front : List Lexeme
  rest : List Lexeme
  is : tokens ≡ front ++ rest
  spells : DerivesAs s.Classes source front classes

first_part : (source : List ℕ) {l : List Symbol} {ts : List Lexeme} {xs : Trees (The s.Classes ∷ l)} → Spells source (The s.Classes ∷ l) ts xs → Classed source ts xs.0
first_part source (g.production {ts = ts} {us = us} rule d e) = record { front = ts ++ []; rest = us; is = ap (λ front. front ++ us) (sym (append-nil ts)); spells = g.production rule d g.nothing }

classed : (source : List ℕ) (tokens : List Lexeme) (text : ServiceText) → DerivesService source tokens text → Classed source tokens text.classes
classed source tokens text (g.production {ts = ts} {us = us} r.service d e) =
    let a = first_part source d in
    record { front = a.front; rest = a.rest ++ us; is = ap (λ front. front ++ us) a.is ∙ append_assoc a.front a.rest us; spells = a.spells }

-- classes that were read are readable
pub were_readable : (classes : List Class) → WereRead classes → All IsReadClass classes
were_readable classes w =
    let source = w.0 in
    let text = w.1 in
    let read = w.2 in
    let c = classed source read.0 text read.2.0 in
    subst (All IsReadClass) w.3 (readable_classes source read.0 c.front c.rest text.classes read.1 c.is c.spells read.2.1)

module _ (classes : List Class) (o : ObjectText) (os : List ObjectText) (root : ℕ) (read : All IsReadClass classes) (prints : AllByRecursion ObjectPrints (o ∷ os)) (few : root ≤ greatest) where
  good : Good false (service_pieces classes (o ∷ os) root)
  good = classes_good classes read (objects_pieces (o ∷ os) ++ root_pieces root) (objects_good (o ∷ os) prints (root_pieces root) (root_good root few))

  lexed : length (spelled (service_pieces classes (o ∷ os) root)) ≤ longest_text → IsTokens (spelled (service_pieces classes (o ∷ os) root)) (tokens_at 0 (service_pieces classes (o ∷ os) root))
  lexed short =
      let ps = service_pieces classes (o ∷ os) root in
      let r = listed (spelled ps) false 0 ps good (record { within = omega arith; is = refl }) in
      record { short = short; utf8 = good_utf8 false ps good; stand = r.0; limits = r.1 }

  -- the text, as it is read
  pub record AsText : Type 0 where
    pub text : ServiceText
    pub read_so : ReadService (spelled (service_pieces classes (o ∷ os) root)) (Ok text)
    pub same : Same classes (o ∷ os) root text

  pub as_text : length (spelled (service_pieces classes (o ∷ os) root)) ≤ longest_text → AsText
  as_text short =
      let ps = service_pieces classes (o ∷ os) root in
      let source = spelled ps in
      let m : Made source (The s.TheService ∷ []) ps (λ xs. Same classes (o ∷ os) root xs.0) = last (service_made source classes (o ∷ os) root (recursion_from_All IsReadClass classes read) prints few) (λ x k. k) in
      let d = m.spell (tokens_at 0 ps) (stand source [] 0 ps refl refl) in
      record { text = d.trees.0; read_so = (tokens_at 0 ps, lexed short, (d.spells, service_within classes o os root read prints)); same = d.holds }
