-- A script that can be sent spells its bytes.
use Rattle.std.proofs.Common.{◌≡◌, ℕ, List, [], ◌∷◌, ◌++◌, length, refl, sym, subst, arith, append_assoc, append-nil, take_all}
use Rattle.rb_trees.specs.declared.values.Value.{Value}
use Rattle.rb_trees.specs.declared.versions.Version.{Version}
use Rattle.rb_trees.specs.declared.versions.Version.TheVariants.{One, Two}
use Rattle.rb_trees.specs.mirror.Scripts.{Steps, Script}
use Rattle.rb_meaning_bytes.specs.formats.Formats.{Spells, more}
use Rattle.rb_meaning_bytes.specs.formats.Staged.{Used}
use Rattle.rb_meaning_bytes.specs.formats.Items.{list_numbers}
use Rattle.rb_meaning_bytes.specs.formats.Scripts.{block, input_values, values_and_code}
use Rattle.rb_meaning_bytes.specs.formats.ScriptMessages.{pool, all_used, script, script_message}
use Rattle.rb_meaning_bytes.specs.formats.ScriptBytes.{pool_of, pool_bytes, inputs_bytes, inputs_texts, block_bytes, steps_texts}
use Rattle.rb_meaning_bytes.specs.formats.FormedScripts.{IsWithinLimits, AreInputs}
use Rattle.rb_meaning_bytes.specs.formats.Messages.{Sent}
use Rattle.rb_meaning_bytes.specs.formats.ScriptPayloads.{CanBeSent, Suits, sent_bytes}
use Rattle.rb_meaning_bytes.proofs.formats.Spelled.{moved, after, finally, under}
use Rattle.rb_meaning_bytes.proofs.formats.Inputs.{inputs_fine, inputs_lists, inputs_primitive}
use Rattle.rb_meaning_bytes.proofs.formats.PoolLaws.{Words, Uses, each_with, IsPoolText, each_both}
use Rattle.rb_meaning_bytes.proofs.formats.StagedSpelled.{Writes, behind, lastly}
use Rattle.rb_meaning_bytes.proofs.formats.PooledTexts.{IsPool}
use Rattle.rb_meaning_bytes.proofs.formats.PoolWords.{inputs_words, steps_words}
use Rattle.rb_meaning_bytes.proofs.formats.PoolFields.{AllUsed, differ_with, differ_none, pool_spelled, all_used_spelled}
use Rattle.rb_meaning_bytes.proofs.formats.OnlySteps.{BlockSuits}
use Rattle.rb_meaning_bytes.proofs.formats.OnlyInputs.{InputsSuit}
use Rattle.rb_meaning_bytes.proofs.formats.OnlyScripts.{sent}
use Rattle.rb_meaning_bytes.proofs.formats.StepsSpelled.{block_spelled}
use Rattle.rb_meaning_bytes.proofs.formats.InputsSpelled.{inputs_spelled}

pub block_suits : (version : Version) (s : Script) → Suits version s → BlockSuits version s.body
block_suits One s h = h.steps
block_suits Two s h = tt

values_suit : (version : Version) (s : Script) (values : List Value) → Suits version s → AreInputs s values → InputsSuit version values
values_suit One s values h i = inputs_primitive s values h.lists i
values_suit Two s values h i = tt

-- the texts that a script and its values use
abbrev words_of : Script → List Value → Words
words_of s values = inputs_texts values ++ steps_texts s.body

pool_formed : (version : Version) (s : Script) (values : List Value) → CanBeSent (record { version = version; script = s; values = values }) → IsPool version (pool_of version s values)
pool_formed One s values h = refl
pool_formed Two s values h = (
  h.pool,
  differ_with [] (words_of s values) differ_none,
  each_with IsPoolText [] (words_of s values) tt (each_both IsPoolText (inputs_texts values) (steps_texts s.body) (inputs_words values (inputs_fine s values h.values)) (steps_words s.body h.formed.body)),
)

-- how many texts are used in the end
abbrev all_texts : Version → Words → ℕ
all_texts One texts = 0
all_texts Two texts = length texts

all_of : (version : Version) (texts : Words) → AllUsed version texts (all_texts version texts)
all_of One texts = tt
all_of Two texts = refl

pool_used : (version : Version) (s : Script) (values : List Value) → Uses version (pool_of version s values) 0 (words_of s values) (all_texts version (pool_of version s values))
pool_used One s values = refl
pool_used Two s values = let texts = pool_of Two s values in (omega arith, omega arith, sym (take_all (length texts) texts (omega arith)))

-- behind the version
script_behind : (version : Version) (s : Script) (values : List Value) (bytes : List ℕ) → CanBeSent (record { version = version; script = s; values = values }) → (texts : Words) → texts ≡ pool_of version s values
    → pool_bytes version texts ++ (s.inputs ∷ (inputs_bytes version texts values ++ block_bytes version texts s.body)) ≡ bytes
    → Spells (script version) bytes (record { version = version; script = s; values = values })
unfolding IsWithinLimits
script_behind version s values bytes h texts e b =
    let pooled : IsPool version texts = subst (λ l. IsPool version l) (sym e) (pool_formed version s values h) in
    let uses : Uses version texts 0 (words_of s values) (all_texts version texts) =
    subst (λ l. Uses version l 0 (words_of s values) (all_texts version l)) (sym e) (pool_used version s values) in
    let lists : list_numbers 0 values ≡ s.lists = sym (inputs_lists s values h.formed.lists h.values) in
    let inputs : Writes version texts (input_values version texts 1000 s.inputs) (inputs_bytes version texts values) (inputs_texts values) values =
    subst (λ n. Writes version texts (input_values version texts 1000 n) (inputs_bytes version texts values) (inputs_texts values) values) h.values.count
    (inputs_spelled version texts pooled 1000 values (inputs_fine s values h.values) (values_suit version s values h.suits h.values) h.values.items (omega arith)) in
    let code = block_spelled version texts pooled 63 s.body h.formed.count h.formed.body h.within (block_suits version s h.suits) in
    let contents : Writes version texts (values_and_code version texts s.inputs) (inputs_bytes version texts values ++ block_bytes version texts s.body) (words_of s values) (values, s.body) =
    behind version texts (input_values version texts 1000 s.inputs) _ (inputs_bytes version texts values) (block_bytes version texts s.body) (inputs_texts values) (steps_texts s.body) values _ inputs
    (lastly version texts (block version texts 64) (λ body. (values, body)) (block_bytes version texts s.body) (steps_texts s.body) s.body code) in
    let end : Used (List Value × Steps) = ((values, s.body), all_texts version texts) in
    let whole : Sent = sent version s.inputs (values, s.body) in
    let spells : Spells (script version) (pool_bytes version texts ++ (s.inputs ∷ (inputs_bytes version texts values ++ block_bytes version texts s.body))) whole =
    after (pool version) _ (pool_bytes version texts) (s.inputs ∷ (inputs_bytes version texts values ++ block_bytes version texts s.body)) texts whole (pool_spelled version texts pooled)
    (more s.inputs h.formed.inputs
    (moved (append-nil (inputs_bytes version texts values ++ block_bytes version texts s.body))
    (after (values_and_code version texts s.inputs 0) _ (inputs_bytes version texts values ++ block_bytes version texts s.body) [] end whole (contents.spells 0 (all_texts version texts) uses)
    (finally (all_used version texts (all_texts version texts)) (λ u. whole) [] tt (all_used_spelled version texts (all_texts version texts) (all_of version texts)))))) in
    moved b (subst (λ l. Spells (script version) (pool_bytes version texts ++ (s.inputs ∷ (inputs_bytes version texts values ++ block_bytes version texts s.body)))
    (record { version = version; script = record { inputs = s.inputs; lists = l; body = s.body }; values = values })) lists spells)

regroup : (p i b : List ℕ) (n : ℕ) → p ++ (n ∷ (i ++ b)) ≡ p ++ (n ∷ i) ++ b
regroup p i b n = sym (append_assoc p (n ∷ i) b)

-- A script that can be sent spells its bytes.
pub script_spelled : (x : Sent) → CanBeSent x → Spells script_message (sent_bytes x) x
unfolding script_message
script_spelled x h = go x.version x.script x.values h
  where
    go : (version : Version) (s : Script) (values : List Value) → CanBeSent (record { version = version; script = s; values = values })
        → Spells script_message (sent_bytes (record { version = version; script = s; values = values })) (record { version = version; script = s; values = values })
    go One s values h =
        let texts = pool_of One s values in
        under ((0x01, script One) ∷ (0x02, script Two) ∷ []) 0x01 _ (record { version = One; script = s; values = values }) refl (omega arith)
        (script_behind One s values _ h texts refl (regroup (pool_bytes One texts) (inputs_bytes One texts values) (block_bytes One texts s.body) s.inputs))
    go Two s values h =
        let texts = pool_of Two s values in
        under ((0x01, script One) ∷ (0x02, script Two) ∷ []) 0x02 _ (record { version = Two; script = s; values = values }) refl (omega arith)
        (script_behind Two s values _ h texts refl (regroup (pool_bytes Two texts) (inputs_bytes Two texts values) (block_bytes Two texts s.body) s.inputs))
