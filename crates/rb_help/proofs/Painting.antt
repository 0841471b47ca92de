-- Texts that are painted part by part.
use Rattle.std.proofs.Common.{◌≡◌, ℕ, List, [], ◌∷◌, ◌++◌, refl, sym, append_assoc, append-nil}
use Rattle.std.proofs.lemmas.Grind.{flat_map-append}
use Rattle.rb_help.specs.declared.colours.Paint.{Paint}
use Rattle.rb_help.specs.declared.colours.Paint.TheVariants.{Plain}
use Rattle.rb_help.specs.Colours.{Part, IsPainted, painted}

-- a part in its paint
pub part-is-painted : (paint : Paint) (text : List ℕ) → IsPainted text (painted paint text)
part-is-painted paint text = record {
  parts = record { paint = paint; text = text } ∷ [];
  whole = sym (append-nil text);
  paints = sym (append-nil (painted paint text));
}

-- painted text behind painted text
pub painted-append : (front text shown more : List ℕ) → IsPainted front shown → IsPainted text more → IsPainted (front ++ text) (shown ++ more)
painted-append front text shown more p q = record {
  parts = p.parts ++ q.parts;
  whole = rw (flat_map-append (λ (part : Part). part.text) p.parts q.parts, ← p.whole, ← q.whole) refl;
  paints = rw (flat_map-append (λ (part : Part). painted part.paint part.text) p.parts q.parts, ← p.paints, ← q.paints) refl;
}

-- What was shown so far are the parts in front of what is left of the text.
pub record PaintsFront (text shown rest : List ℕ) : Type 0 where
  pub front : List ℕ
  pub whole : text ≡ front ++ rest
  pub paints : IsPainted front shown

-- nothing was shown so far
pub paints-nothing : (text : List ℕ) → PaintsFront text [] text
paints-nothing text = record { front = []; whole = refl; paints = record { parts = []; whole = refl; paints = refl } }

-- a line more, and what stands between it and what is left then
pub paints-line :
    (text shown rest line behind feed next more all : List ℕ) → PaintsFront text shown rest → rest ≡ line ++ behind → behind ≡ feed ++ next →
    IsPainted line more → all ≡ (shown ++ more) ++ feed → PaintsFront text all next
paints-line text shown rest line behind feed next more all p e f q g = record {
  front = (p.front ++ line) ++ feed;
  whole = rw (p.whole, e, f) (simp append_assoc);
  paints = rw g (painted-append (p.front ++ line) feed (shown ++ more) feed (painted-append p.front line shown more p.paints q) (part-is-painted Plain feed));
}

-- nothing is left
pub paints-whole : (text shown : List ℕ) → PaintsFront text shown [] → IsPainted text shown
paints-whole text shown p = rw (p.whole, append-nil p.front) p.paints
