-- What the tokens of a source derive as the text of a service within the limits is lawful.
use Rattle.std.proofs.Common.{◌≡◌, ℕ, ◌≤◌, List, [], ◌∷◌, ◌++◌, length, sym, ◌∙◌, ap, arith, append-nil, append_assoc}
use Rattle.rb_trees.specs.declared.tokens.Token.{Token}
use Rattle.rb_trees.specs.mirror.Declarations.{Class}
use Rattle.rb_trees.specs.mirror.Services.{ServiceText}
use Rattle.rb_meaning_bytes.specs.tokens.Texts.{IsTokens}
use Rattle.rb_meaning_bytes.specs.grammar.Symbols as s
use Rattle.rb_meaning_bytes.specs.grammar.Symbols.{Symbol, The, Trees}
use Rattle.rb_meaning_bytes.specs.grammar.Productions as r
use Rattle.rb_meaning_bytes.specs.grammar.Derives as g
use Rattle.rb_meaning_bytes.specs.grammar.Derives.{Spells, DerivesAs, DerivesService}
use Rattle.rb_meaning_bytes.specs.grammar.Limits.{Within}
use Rattle.rb_meaning_types.specs.Lawful.{IsLawfulServiceText, classes_positions}
use Rattle.rb_parse.proofs.Shallow.{classes_shallow}
use Rattle.rb_parse.proofs.readable.Whole.{readable_classes}
use Rattle.rb_parse.proofs.lawful.Forms.{Formed}
use Rattle.rb_parse.proofs.lawful.Positions.{times, hits}
use Rattle.rb_parse.proofs.lawful.Apart.{starts_once, distinct}
use Rattle.rb_parse.proofs.lawful.Whole.{formed}

-- the tokens of the classes, and those behind them
record Classed (source : List ℕ) (tokens : List Token) (classes : List Class) : Type 0 where
  front : List Token
  rest : List Token
  is : tokens ≡ front ++ rest
  spells : DerivesAs s.Classes source front classes

classed_front : (source : List ℕ) {l : List Symbol} {ts : List Token} {xs : Trees (The s.Classes ∷ l)} → Spells source (The s.Classes ∷ l) ts xs → Classed source ts xs.0
classed_front source (g.production {ts = ts} {us = us} rule d e) =
    record { front = ts ++ []; rest = us; is = ap (λ z. z ++ us) (sym (append-nil ts)); spells = g.production rule d g.nothing }

classed : (source : List ℕ) (tokens : List Token) (service : ServiceText) → DerivesService source tokens service → Classed source tokens service.classes
classed source tokens service (g.production {ts = ts} {us = us} r.service d e) =
    let a = classed_front source d in
    record { front = a.front; rest = a.rest ++ us; is = ap (λ z. z ++ us) a.is ∙ append_assoc a.front a.rest us; spells = a.spells }

module _ (source : List ℕ) (tokens : List Token) (service : ServiceText) (t : IsTokens source tokens) (d : DerivesService source tokens service) where
  met : (n : ℕ) → times n (classes_positions service.classes) ≤ 1
  met n = let h = hits source n d in omega (arith, h.hits, h.fits, starts_once source n 0 (length source) tokens t.stand)

  pub lawful_service : Within tokens → IsLawfulServiceText service
  lawful_service w =
      let f : Formed s.TheService service = formed source tokens t d in
      let c = classed source tokens service d in
      record {
        classes = record {
          each = f.0;
          class_count = f.1;
          depths = classes_shallow service.classes (readable_classes source tokens c.front c.rest service.classes t c.is c.spells w);
          positions = distinct _ met;
        };
        objects = f.2;
        object_count = f.3;
      }
