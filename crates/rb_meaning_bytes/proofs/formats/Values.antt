-- Numbers, texts and primitive values are spelled by their bytes, and no other has a spelling. By the version.
use Rattle.std.proofs.Common.{◌≡◌, ℕ, ℤ, ◌<◌, ◌^◌, List, [], Bool, true, false, refl, ap, sym, ◌∙◌, subst, arith, append-nil, None}
use Rattle.std.specs.Int.{w64}
use Rattle.std.specs.Int.RustNames.{FitsSigned}
use Rattle.std.specs.Str.{is_utf8}
use Rattle.rb_trees.specs.Limits.{longest_text}
use Rattle.rb_trees.specs.declared.values.Value.{Value, out-Value}
use Rattle.rb_trees.specs.declared.values.Value.TheOpen.{Value-F}
use Rattle.rb_trees.specs.declared.values.Value.TheVariants as a_value
use Rattle.rb_trees.specs.declared.values.Value.TheViews.{roll-Value, roll-out-Value, out-roll-Value}
use Rattle.rb_trees.specs.declared.versions.Version.{Version}
use Rattle.rb_trees.specs.declared.versions.Version.TheVariants.{One, Two}
use Rattle.rb_meaning_bytes.specs.formats.Fields.{Field, Of, Number, Wide, Truth, Text, Short, Zig, Brief, Fits, spelled, bad_text}
use Rattle.rb_meaning_bytes.specs.formats.Formats.{the, Spells, done, more}
use Rattle.rb_meaning_bytes.specs.formats.Pools.{any_number, text_test, refused_unless}
use Rattle.rb_meaning_bytes.specs.formats.Values.{natural, integer, words, value, value_forms}
use Rattle.rb_meaning_bytes.specs.formats.ScriptBytes.{natural_bytes, integer_bytes, words_bytes, value_form, value_bytes}
use Rattle.rb_meaning_bytes.specs.formats.FormedScripts.{primitive_form, IsPrimitive}
use Rattle.rb_meaning_bytes.proofs.formats.Only.{Only, only_done, only_more, only_bind, only_choose}
use Rattle.rb_meaning_bytes.proofs.formats.Spelled.{moved, under, finally}

-- one field is spelled by its value
pub the_spelled : (f : Field) (x : Of f) → Fits f x → Spells (the f) (spelled f x) x
the_spelled f x h = moved (append-nil (spelled f x)) (more x h (done x))

-- a test that refuses nothing is met, and the other way round
pub unless_met : (b : Bool) (number : ℕ) → refused_unless b number ≡ None → b ≡ true
unless_met true number h = refl
unless_met false number h = absurd cc

pub met_unless : (b : Bool) (number : ℕ) → b ≡ true → refused_unless b number ≡ None
met_unless true number h = refl
met_unless false number h = absurd cc

-- ---- numbers

pub natural_spelled : (version : Version) (n : ℕ) → n < 2 ^ 32 → Spells (natural version) (natural_bytes version n) n
unfolding natural
natural_spelled One n h = the_spelled Number n h
natural_spelled Two n h = the_spelled (Short any_number) n (h, refl)

pub natural_only : (version : Version) → Only (natural version) [] (natural_bytes version) (λ n. n < 2 ^ 32)
unfolding natural
natural_only One = only_more (natural_bytes One) (λ n. n < 2 ^ 32) Number _ _ (λ n h. only_done _ _ n _ refl h)
natural_only Two = only_more (natural_bytes Two) (λ n. n < 2 ^ 32) (Short any_number) _ _ (λ n h. only_done _ _ n _ refl h.0)

pub integer_spelled : (version : Version) (z : ℤ) → FitsSigned w64 z → Spells (integer version) (integer_bytes version z) z
unfolding integer
integer_spelled One z h = the_spelled Wide z h
integer_spelled Two z h = the_spelled Zig z h

pub integer_only : (version : Version) → Only (integer version) [] (integer_bytes version) (λ z. FitsSigned w64 z)
unfolding integer
integer_only One = only_more (integer_bytes One) (λ z. FitsSigned w64 z) Wide _ _ (λ z h. only_done _ _ z _ refl h)
integer_only Two = only_more (integer_bytes Two) (λ z. FitsSigned w64 z) Zig _ _ (λ z h. only_done _ _ z _ refl h)

-- ---- texts

pub words_spelled : (version : Version) (bytes : List ℕ) → Fits Text bytes → Spells (words version) (words_bytes version bytes) bytes
unfolding words
words_spelled One bytes h = the_spelled Text bytes h
words_spelled Two bytes h = the_spelled (Brief longest_text text_test) bytes (omega (arith, h.0), h.0, met_unless (is_utf8 bytes) bad_text h.1)

pub words_only : (version : Version) → Only (words version) [] (words_bytes version) (λ bytes. Fits Text bytes)
unfolding words
words_only One = only_more (words_bytes One) (λ bytes. Fits Text bytes) Text _ _ (λ bytes h. only_done _ _ bytes _ refl h)
words_only Two = only_more (words_bytes Two) (λ bytes. Fits Text bytes) (Brief longest_text text_test) _ _
    (λ bytes h. only_done _ _ bytes _ refl (h.1, unless_met (is_utf8 bytes) bad_text h.2))

-- ---- values

value_at : (version : Version) (x : Value-F Value) → primitive_form x → Spells (value version) (value_form version x) (roll-Value x)
unfolding value
value_at version (Value-F.Int z) h = subst (λ w. Spells (value version) (value_form version (Value-F.Int z)) w) (sym (a_value.rolls-Int z))
    (under (value_forms version) 1 _ (a_value.Int z) refl (omega arith) (finally (integer version) a_value.Int _ z (integer_spelled version z h)))
value_at version (Value-F.Bool b) h = subst (λ w. Spells (value version) (value_form version (Value-F.Bool b)) w) (sym (a_value.rolls-Bool b))
    (under (value_forms version) 2 _ (a_value.Bool b) refl (omega arith) (moved (append-nil (spelled Truth b)) (more b tt (done (a_value.Bool b)))))
value_at version (Value-F.Text bytes) h = subst (λ w. Spells (value version) (value_form version (Value-F.Text bytes)) w) (sym (a_value.rolls-Text bytes))
    (under (value_forms version) 3 _ (a_value.Text bytes) refl (omega arith) (finally (words version) a_value.Text _ bytes (words_spelled version bytes h)))
value_at version Value-F.Unit h = absurd h
value_at version (Value-F.List vs) h = absurd h
value_at version (Value-F.Ref n) h = absurd h
value_at version (Value-F.Remote n) h = absurd h
value_at version (Value-F.Rows vs) h = absurd h

pub value_spelled : (version : Version) (v : Value) → IsPrimitive v → Spells (value version) (value_bytes version v) v
value_spelled version v h = subst (λ w. Spells (value version) (value_bytes version v) w) (roll-out-Value v) (value_at version (out-Value v) h)

pub out_int : (z : ℤ) → out-Value (a_value.Int z) ≡ Value-F.Int z
out_int z = ap out-Value (sym (a_value.rolls-Int z)) ∙ out-roll-Value (Value-F.Int z)

pub out_bool : (b : Bool) → out-Value (a_value.Bool b) ≡ Value-F.Bool b
out_bool b = ap out-Value (sym (a_value.rolls-Bool b)) ∙ out-roll-Value (Value-F.Bool b)

pub out_text : (bytes : List ℕ) → out-Value (a_value.Text bytes) ≡ Value-F.Text bytes
out_text bytes = ap out-Value (sym (a_value.rolls-Text bytes)) ∙ out-roll-Value (Value-F.Text bytes)

pub value_only : (version : Version) → Only (value version) [] (value_bytes version) IsPrimitive
unfolding value
value_only version =
    let p : Value → List ℕ = λ v. value_bytes version v in
    only_choose p IsPrimitive (value_forms version) (
      only_bind p IsPrimitive (integer version) _ _ (integer_bytes version) (λ z. FitsSigned w64 z) (integer_only version)
          (λ z h. only_done p IsPrimitive (a_value.Int z) _ (sym (ap (value_form version) (out_int z))) (subst primitive_form (sym (out_int z)) h)),
      (
        only_more p IsPrimitive Truth _ _ (λ b h. only_done p IsPrimitive (a_value.Bool b) _ (sym (ap (value_form version) (out_bool b))) (subst primitive_form (sym (out_bool b)) tt)),
        (
          only_bind p IsPrimitive (words version) _ _ (words_bytes version) (λ bytes. Fits Text bytes) (words_only version)
              (λ bytes h. only_done p IsPrimitive (a_value.Text bytes) _ (sym (ap (value_form version) (out_text bytes))) (subst primitive_form (sym (out_text bytes)) h)),
          tt,
        ),
      ),
    )
