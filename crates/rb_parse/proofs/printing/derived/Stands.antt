-- The tokens of a printed text have the kinds of its pieces, and their slices are the bytes of the pieces.
use Rattle.std.proofs.Common.{◌≡◌, ℕ, ◌+◌, ◌-◌, List, [], ◌∷◌, ◌++◌, length, take, drop, refl, ap, sym, ◌∙◌, arith, append_assoc, length-append}
use Rattle.std.proofs.Math.Seq.{take-append_seam, drop-append_seam}
use Rattle.rb_trees.specs.declared.tokens.Token.{Token as Lexeme}
use Rattle.rb_trees.specs.printing.Pieces.{Piece, Token, Space, spelled}
use Rattle.rb_meaning_bytes.specs.grammar.Values.{slice}
use Rattle.rb_parse.proofs.printing.Spots.{tokens_at}

-- The tokens are those of the pieces, one by one.
abbrev pub Stands : List ℕ → List Piece → List Lexeme → Type 0
Stands source [] ts = ts ≡ []
Stands source (Space bytes ∷ ps) ts = Stands source ps ts
Stands source (Token kind bytes ∷ ps) [] = ⊥
Stands source (Token kind bytes ∷ ps) (t ∷ ts) = (t.kind ≡ kind) × (slice source t ≡ bytes) × Stands source ps ts

slice_is : (front bytes back : List ℕ) (at : ℕ) → at ≡ length front → take (at + length bytes - at) (drop at (front ++ (bytes ++ back))) ≡ bytes
slice_is front bytes back at h =
    let n : at + length bytes - at ≡ length bytes = omega arith in
    rw (n, h, drop-append_seam) (take-append_seam bytes back)

pub stand : (source front : List ℕ) (at : ℕ) (ps : List Piece) → at ≡ length front → source ≡ front ++ spelled ps → Stands source ps (tokens_at at ps)
stand source front at [] h e = refl
stand source front at (Space bytes ∷ ps) h e =
    stand source (front ++ bytes) (at + length bytes) ps (omega (arith, h, length-append front bytes)) (e ∙ sym (append_assoc front bytes (spelled ps)))
stand source front at (Token kind bytes ∷ ps) h e = (
  refl,
  ap (λ s. take (at + length bytes - at) (drop at s)) e ∙ slice_is front bytes (spelled ps) at h,
  stand source (front ++ bytes) (at + length bytes) ps (omega (arith, h, length-append front bytes)) (e ∙ sym (append_assoc front bytes (spelled ps))),
)

-- The tokens of two texts of pieces part.
pub record Parted (source : List ℕ) (ps qs : List Piece) (ts : List Lexeme) : Type 0 where
  pub front : List Lexeme
  pub back : List Lexeme
  pub is : ts ≡ front ++ back
  pub front_stands : Stands source ps front
  pub back_stands : Stands source qs back

pub part : (source : List ℕ) (ps qs : List Piece) (ts : List Lexeme) → Stands source (ps ++ qs) ts → Parted source ps qs ts
part source [] qs ts h = record { front = []; back = ts; is = refl; front_stands = refl; back_stands = h }
part source (Space bytes ∷ ps) qs ts h =
    let p = part source ps qs ts h in
    record { front = p.front; back = p.back; is = p.is; front_stands = p.front_stands; back_stands = p.back_stands }
part source (Token kind bytes ∷ ps) qs [] h = absurd h
part source (Token kind bytes ∷ ps) qs (t ∷ ts) h =
    let p = part source ps qs ts h.2 in
    record { front = t ∷ p.front; back = p.back; is = ap (λ l. t ∷ l) p.is; front_stands = (h.0, h.1, p.front_stands); back_stands = p.back_stands }
