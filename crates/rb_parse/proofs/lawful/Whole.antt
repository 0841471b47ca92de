-- What the tokens of a source derive within the limits is lawful: in its forms, list lengths and positions by its
-- tokens, and in how deep it nests since it is readable.
use Rattle.std.proofs.Common.{ℕ, false, ◌+◌, ◌<◌, ◌≤◌, ◌^◌, List, [], ◌∷◌, ◌++◌, length, arith}
use Rattle.rb_trees.specs.declared.tokens.Token.{Token}
use Rattle.rb_trees.specs.mirror.Declarations.{Program}
use Rattle.rb_meaning_bytes.specs.tokens.Lists.{TokensBetween}
use Rattle.rb_meaning_bytes.specs.tokens.Texts.{IsTokens}
use Rattle.rb_meaning_bytes.specs.grammar.Symbols as s
use Rattle.rb_meaning_bytes.specs.grammar.Symbols.{Nonterminal, TreeOf}
use Rattle.rb_meaning_bytes.specs.grammar.Derives.{DerivesAs, Derives}
use Rattle.rb_meaning_bytes.specs.grammar.Limits.{Within}
use Rattle.rb_meaning_types.specs.Lawful.{IsLawful, classes_positions, body_positions}
use Rattle.rb_parse.proofs.readable.Tokens.{all_tell}
use Rattle.rb_parse.proofs.readable.Whole.{readable}
use Rattle.rb_parse.proofs.Shallow.{body_shallow, classes_shallow}
use Rattle.rb_parse.proofs.lawful.Forms.{Formed, forms}
use Rattle.rb_parse.proofs.lawful.Positions.{times, hits}
use Rattle.rb_parse.proofs.lawful.Apart.{gap_rises, starts_once, distinct}

-- tokens are no more than bytes
tokens_fit : (text : List ℕ) (from to : ℕ) (tokens : List Token) → TokensBetween text from tokens to → from + length tokens ≤ to
tokens_fit text from to [] b = omega (arith, gap_rises b)
tokens_fit text from to (t ∷ ts) b = omega (arith, gap_rises b.0, b.1.rises, tokens_fit text t.end to ts b.2)

module _ (source : List ℕ) (tokens : List Token) (t : IsTokens source tokens) where
  pub few : length tokens < 2 ^ 32
  few = let n : 0 + length tokens ≤ length source = tokens_fit source 0 (length source) tokens t.stand in omega (arith, n, t.short)

  pub formed : {start : Nonterminal} {tree : TreeOf start} → DerivesAs start source tokens tree → Formed start tree
  formed d = (forms source d (all_tell source false 0 (length source) tokens t.utf8 t.stand t.limits) few).0.formed

module _ (source : List ℕ) (tokens : List Token) (program : Program) (t : IsTokens source tokens) (d : Derives source tokens program) where
  met : (n : ℕ) → times n (classes_positions program.classes ++ body_positions program.body) ≤ 1
  met n = let h = hits source n d in omega (arith, h.hits, h.fits, starts_once source n 0 (length source) tokens t.stand)

  pub lawful : Within tokens → IsLawful program
  lawful w =
      let f : Formed s.TheProgram program = formed source tokens t d in
      let r = readable source tokens program t d w in
      record {
        interfaces = f.0;
        interface_count = f.1;
        classes = f.2;
        class_count = f.3;
        result = f.4;
        body = f.5;
        class_depths = classes_shallow program.classes r.classes;
        body_depth = body_shallow program.body r.body;
        positions = distinct _ met;
      }
