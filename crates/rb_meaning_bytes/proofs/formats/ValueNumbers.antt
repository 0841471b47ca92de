-- Which numbers the violations of numbers, texts and values have, where they stand in no pool.
use Rattle.std.proofs.Common.{◌≡◌, ℕ, Bool, true, false, Some, subst}
use Rattle.std.specs.Str.{is_utf8}
use Rattle.rb_trees.specs.Limits.{longest_text}
use Rattle.rb_trees.specs.declared.versions.Version.{Version}
use Rattle.rb_trees.specs.declared.versions.Version.TheVariants.{One, Two}
use Rattle.rb_meaning_bytes.specs.formats.Fields.{Number, Wide, Truth, Text, Short, Zig, Brief, bad_text}
use Rattle.rb_meaning_bytes.specs.formats.Pools.{refused_unless, any_number, text_test}
use Rattle.rb_meaning_bytes.specs.formats.Values.{natural, integer, words, int_value, bool_value, value_forms, value}
use Rattle.rb_meaning_bytes.proofs.formats.NumberLaws.{Usual, TestNumbers, HasNumbers, numbers_done, numbers_more, numbers_the, numbers_bind, numbers_choose}

-- a test that refuses with one number
pub unless_number : (P : ℕ → Type 0) (b : Bool) (n number : ℕ) → P n → refused_unless b n ≡ Some number → P number
unless_number P true n number p h = absurd cc
unless_number P false n number p h = let e : n ≡ number = cc in subst P e p

module _ (P : ℕ → Type 0) (usual : Usual P) where
  pub text_numbers : TestNumbers P text_test
  text_numbers bytes number h = unless_number P (is_utf8 bytes) bad_text number usual.text h

  pub natural_numbers : (version : Version) → HasNumbers P (natural version)
  unfolding natural
  natural_numbers One = numbers_the P usual Number tt
  natural_numbers Two = numbers_the P usual (Short any_number) (λ n number h. absurd cc)

  pub integer_numbers : (version : Version) → HasNumbers P (integer version)
  unfolding integer
  integer_numbers One = numbers_the P usual Wide tt
  integer_numbers Two = numbers_the P usual Zig tt

  pub words_numbers : (version : Version) → HasNumbers P (words version)
  unfolding words
  words_numbers One = numbers_the P usual Text tt
  words_numbers Two = numbers_the P usual (Brief longest_text text_test) text_numbers

  pub int_numbers : (version : Version) → HasNumbers P (int_value version)
  int_numbers version = numbers_bind P usual (integer version) _ (integer_numbers version) (λ z. numbers_done P usual _)

  pub bool_numbers : HasNumbers P bool_value
  bool_numbers = numbers_more P usual Truth _ tt (λ b h. numbers_done P usual _)

  pub value_numbers : (version : Version) → HasNumbers P (value version)
  unfolding value
  value_numbers version = numbers_choose P usual (value_forms version) (
    int_numbers version,
    (bool_numbers, (numbers_bind P usual (words version) _ (words_numbers version) (λ bytes. numbers_done P usual _), tt)),
  )
