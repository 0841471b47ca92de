-- Every text has an outcome.
use Rattle.std.proofs.Common.{◌≡◌, ℕ, zero, suc, ◌+◌, ◌<◌, ◌≤◌, Bool, true, false, List, [], ◌∷◌, length, take, drop, refl, sym, subst, ◌∙◌, arith, Ok, Err, IsUtf8, ⊎_elim, length-drop, take_all}
use Rattle.std.proofs.lemmas.Bool.{cases_lt}
use Rattle.std.proofs.lemmas.Str.{IsUtf8-nil, IsUtf8-from_is_utf8, is_utf8-from_IsUtf8}
use Rattle.std.specs.Str.{is_utf8, IsValidUpTo}
use Rattle.rb_trees.specs.declared.reading.LexError.TheVariants.{BadByte, OpenText, NumberTooLarge, TooLong, NotUtf8}
use Rattle.rb_meaning_bytes.specs.tokens.Lexes.{Lexes, done, skip, token, fault}
use Rattle.rb_meaning_bytes.specs.tokens.Lists.{is_minus}
use Rattle.rb_meaning_bytes.specs.tokens.Texts.{Outcome, longest_text, too_long, not_utf8}
use Rattle.rb_lex.specs.declared.heads.Head.{Head}
use Rattle.rb_lex.specs.declared.heads.Head.TheVariants.{Skip, Take, Large, Long, Open, Bad}
use Rattle.rb_lex.specs.Heads.{head_of}
use Rattle.rb_lex.specs.Laws.{HasOutcome}
use Rattle.rb_lex.proofs.Found.{Finds, finds}
use Rattle.rb_lex.proofs.Places.{read_lexed}

-- from rest to rest

abbrev Some : ℕ → Type 0
Some fuel = (minus : Bool) (at : ℕ) (text : List ℕ) → length text < fuel → (outcome : Outcome) × Lexes minus at text outcome

some_by : (fuel : ℕ) → Some fuel → (minus : Bool) (at b : ℕ) (bs : List ℕ) → length bs < fuel → (h : Head) → Finds minus at (b ∷ bs) h → (outcome : Outcome) × Lexes minus at (b ∷ bs) outcome
some_by fuel s minus at b bs l (Skip n) f =
    let rest = s minus (at + (n + 1)) (drop (n + 1) (b ∷ bs)) (omega (arith, length-drop (n + 1) (b ∷ bs))) in
    (rest.0, skip (n + 1) f rest.1)
some_by fuel s minus at b bs l (Take kind n) f =
    let rest = s (is_minus kind) (at + (n + 1)) (drop (n + 1) (b ∷ bs)) (omega (arith, length-drop (n + 1) (b ∷ bs))) in
    (_, token kind (n + 1) f.0 f.1 rest.1)
some_by fuel s minus at b bs l Large f = (Err (NumberTooLarge at), fault f)
some_by fuel s minus at b bs l Long f = (Err (TooLong at), fault f)
some_by fuel s minus at b bs l Open f = (Err (OpenText at), fault f)
some_by fuel s minus at b bs l (Bad n) f = (Err (BadByte f.offset), fault f.fault)

some : (fuel : ℕ) → Some fuel
some zero minus at text l = absurd (omega arith)
some (suc fuel) minus at [] l = (Ok [], done)
some (suc fuel) minus at (b ∷ bs) l = some_by fuel (some fuel) minus at b bs (omega arith) (head_of minus (b ∷ bs)) (finds minus at b bs)

-- the longest prefix of at most so many bytes that is UTF-8

record Longest (text : List ℕ) (within : ℕ) : Type 0 where
  count : ℕ
  prefix : IsUtf8 (take count text)
  longest : (more : ℕ) → count < more → more ≤ within → ¬ IsUtf8 (take more text)

longer : (text : List ℕ) (n : ℕ) (whole : Bool) → is_utf8 (take (suc n) text) ≡ whole → Longest text n → Longest text (suc n)
longer text n true h s = record { count = suc n; prefix = IsUtf8-from_is_utf8 _ h; longest = λ more l m. absurd (omega arith) }
longer text n false h s = record {
  count = s.count;
  prefix = s.prefix;
  longest = λ more l m u. ⊎_elim
      (λ (above : n < more).
      let e : more ≡ suc n = omega arith in
      let t = is_utf8-from_IsUtf8 _ (subst (λ k. IsUtf8 (take k text)) e u) in
      cc)
      (λ (below : more ≤ n). s.longest more l below u)
      (cases_lt n more);
}

longest : (text : List ℕ) (n : ℕ) → Longest text n
longest text zero = record { count = 0; prefix = IsUtf8-nil; longest = λ more l m. absurd (omega arith) }
longest text (suc n) = longer text n (is_utf8 (take (suc n) text)) refl (longest text n)

-- whole texts

valid_up_to : (text : List ℕ) (s : Longest text (length text)) → s.count < length text → IsValidUpTo text s.count
valid_up_to text s short = record {
  short = short;
  front = s.prefix;
  longest = λ more l u. ⊎_elim
      (λ (past : length text < more).
      let same : take more text ≡ take (length text) text = take_all more text (omega arith) ∙ sym (take_all (length text) text (omega arith)) in
      s.longest (length text) short (omega arith) (subst IsUtf8 same u))
      (λ (within : more ≤ length text). s.longest more l within u)
      (cases_lt (length text) more);
}

text_outcome : (text : List ℕ) → length text ≤ longest_text → IsUtf8 text → HasOutcome text
text_outcome text l u =
    let o = some (suc (length text)) false 0 text (omega arith) in
    (o.0, read_lexed text o.0 l u o.1)

short_outcome : (text : List ℕ) → length text ≤ longest_text → Longest text (length text) → HasOutcome text
short_outcome text l s = ⊎_elim
    (λ (short : s.count < length text). (Err (NotUtf8 s.count), not_utf8 s.count l (valid_up_to text s short)))
    (λ (whole : length text ≤ s.count). text_outcome text l (subst IsUtf8 (take_all s.count text whole) s.prefix))
    (cases_lt s.count (length text))

pub some_outcome : (text : List ℕ) → HasOutcome text
some_outcome text = ⊎_elim
    (λ (long : longest_text < length text). (Err (TooLong longest_text), too_long long))
    (λ (short : length text ≤ longest_text). short_outcome text short (longest text (length text)))
    (cases_lt longest_text (length text))
