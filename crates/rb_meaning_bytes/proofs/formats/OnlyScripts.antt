-- What a script is spelled by is its bytes, and it can be sent.
use Rattle.std.proofs.Common.{◌≡◌, ℕ, ◌<◌, ◌^◌, List, [], ◌∷◌, ◌++◌, length, refl, ap, sym, ◌∙◌, subst, arith, append_assoc, append-nil, take_all}
use Rattle.rb_trees.specs.declared.values.Value.{Value}
use Rattle.rb_trees.specs.declared.versions.Version.{Version}
use Rattle.rb_trees.specs.declared.versions.Version.TheVariants.{One, Two}
use Rattle.rb_trees.specs.mirror.Scripts.{Steps, Script}
use Rattle.rb_meaning_bytes.specs.formats.Fields.{Byte}
use Rattle.rb_meaning_bytes.specs.formats.Formats.{Spells}
use Rattle.rb_meaning_bytes.specs.formats.Staged.{Used}
use Rattle.rb_meaning_bytes.specs.formats.Items.{list_numbers}
use Rattle.rb_meaning_bytes.specs.formats.Values.{version_byte}
use Rattle.rb_meaning_bytes.specs.formats.Scripts.{block, input_values, values_and_code}
use Rattle.rb_meaning_bytes.specs.formats.ScriptMessages.{pool, all_used, script, script_message}
use Rattle.rb_meaning_bytes.specs.formats.ScriptBytes.{pool_of, pool_bytes, inputs_bytes, inputs_texts, block_bytes, steps_texts, message_bytes}
use Rattle.rb_meaning_bytes.specs.formats.FormedScripts.{IsWithinLimits}
use Rattle.rb_meaning_bytes.specs.formats.Messages.{Sent}
use Rattle.rb_meaning_bytes.specs.formats.ScriptPayloads.{CanBeSent, Suits, sent_bytes, version_of}
use Rattle.rb_meaning_bytes.proofs.formats.Only.{Only, only_done, only_more, only_bind, only_choose}
use Rattle.rb_meaning_bytes.proofs.formats.Inputs.{fine_inputs, list_numbers_rise, primitive_numbers}
use Rattle.rb_meaning_bytes.proofs.formats.PoolLaws.{Words, Uses}
use Rattle.rb_meaning_bytes.proofs.formats.StagedOnly.{StagedOnly, staged_give, staged_bind}
use Rattle.rb_meaning_bytes.proofs.formats.PooledTexts.{IsPool}
use Rattle.rb_meaning_bytes.proofs.formats.OnlySteps.{BlockSuits, FineBlock, block_only}
use Rattle.rb_meaning_bytes.proofs.formats.OnlyInputs.{InputsSuit, FineInputs, inputs_only}
use Rattle.rb_meaning_bytes.proofs.formats.PoolFields.{AllUsed, pool_only, all_used_only}

-- the values of inputs and the code
abbrev Contents : Type 0
Contents = List Value × Steps

abbrev pub sent : Version → ℕ → Contents → Sent
sent version count x = record { version = version; script = record { inputs = count; lists = list_numbers 0 x.0; body = x.1 }; values = x.0 }

abbrev contents_texts : Contents → Words
contents_texts x = inputs_texts x.0 ++ steps_texts x.1

module _ (version : Version) (texts : Words) where
  abbrev contents_bytes : Contents → List ℕ
  contents_bytes x = inputs_bytes version texts x.0 ++ block_bytes version texts x.1

  abbrev FineContents : ℕ → Contents → Type 0
  FineContents count x = FineInputs version 1000 count x.0 × FineBlock version 64 x.1

  contents_only : IsPool version texts → (count : ℕ) → StagedOnly version texts (values_and_code version texts count) [] [] contents_bytes contents_texts (FineContents count)
  contents_only pool count =
      let p : Contents → List ℕ = λ x. contents_bytes x in
      let ws : Contents → Words = λ x. contents_texts x in
      let ok : Contents → Type 0 = λ x. FineContents count x in
      staged_bind version texts p ws ok (input_values version texts 1000 count) _ _ _ (λ vs. inputs_bytes version texts vs) (λ vs. inputs_texts vs) (FineInputs version 1000 count)
      (inputs_only version texts pool count 1000) (λ vs f.
      staged_bind version texts p ws ok (block version texts 64) _ _ _ (λ ss. block_bytes version texts ss) (λ ss. steps_texts ss) (FineBlock version 64)
      (block_only version texts pool 64) (λ body g.
      staged_give version texts p ws ok (vs, body) _ _ refl refl (f, g)))

  -- what is known behind the code, which begins with no text used
  abbrev ReadContents : ℕ → Used Contents → Type 0
  ReadContents count x = FineContents count x.0 × Uses version texts 0 (contents_texts x.0) x.1

uses_start : (version : Version) (texts : Words) → Uses version texts 0 [] 0
uses_start One texts = refl
uses_start Two texts = (omega arith, omega arith, refl)

read_only : (version : Version) (texts : Words) → IsPool version texts → (count : ℕ)
    → Only (values_and_code version texts count 0) [] (λ x. contents_bytes version texts x.0) (λ x. ReadContents version texts count x)
read_only version texts pool count = record {
  made = λ bytes x s.
      let m = (contents_only version texts pool count).made 0 0 bytes x (uses_start version texts) s in
      record { is = m.is; fits = (m.fits, m.uses) };
}

-- Where all texts of a pool were used, it is that of the script.
pool_is : (version : Version) (texts : Words) (count used : ℕ) (x : Contents) → IsPool version texts → Uses version texts 0 (contents_texts x) used → AllUsed version texts used
    → texts ≡ pool_of version (sent version count x).script x.0
pool_is One texts count used x pool uses all = pool
pool_is Two texts count used x pool uses all = sym (uses.2 ∙ take_all used texts (omega (arith, all)))

suits : (version : Version) (count : ℕ) (x : Contents) → InputsSuit version x.0 → BlockSuits version x.1 → Suits version (sent version count x).script
suits One count x h k = record { lists = primitive_numbers 0 x.0 h; steps = k }
suits Two count x h k = tt

small_pool : (version : Version) (texts : Words) → IsPool version texts → length texts < 2 ^ 32
small_pool One texts h = let none = ap length h in omega (arith, none)
small_pool Two texts h = h.0

can_be_sent : (version : Version) (texts : Words) (count : ℕ) (x : Contents) → IsPool version texts → count < 256 → FineContents version texts count x
    → texts ≡ pool_of version (sent version count x).script x.0 → CanBeSent (sent version count x)
unfolding IsWithinLimits
can_be_sent version texts count x pool n f e = record {
  formed = record { inputs = n; lists = list_numbers_rise count x.0 f.0.0; count = f.1.0; body = f.1.1 };
  suits = suits version count x f.0.3 f.1.3;
  values = fine_inputs (sent version count x).script x.0 refl f.0.0 f.0.1 f.0.2;
  within = f.1.2;
  pool = subst (λ l. length l < 2 ^ 32) e (small_pool version texts pool);
}

regroup : (p i b : List ℕ) (v n : ℕ) → (((v ∷ []) ++ p) ++ n ∷ []) ++ (i ++ b) ++ [] ≡ (v ∷ p) ++ (n ∷ i) ++ b
regroup p i b v n = ap (λ l. v ∷ l) (append-nil ((p ++ n ∷ []) ++ (i ++ b)) ∙ append_assoc p (n ∷ []) (i ++ b) ∙ sym (append_assoc p (n ∷ i) b))

script_made : (version : Version) → Only (script version) (version_byte version ∷ []) sent_bytes CanBeSent
script_made version =
    let v = version_byte version in
    only_bind sent_bytes CanBeSent (pool version) _ (v ∷ []) (λ texts. pool_bytes version texts) (λ texts. IsPool version texts) (pool_only version) (λ texts h.
    only_more sent_bytes CanBeSent Byte _ _ (λ count n.
    only_bind sent_bytes CanBeSent (values_and_code version texts count 0) _ _ (λ x. contents_bytes version texts x.0) (λ x. ReadContents version texts count x) (read_only version texts h count) (λ x f.
    only_bind sent_bytes CanBeSent (all_used version texts x.1) _ _ (λ u. []) (λ u. AllUsed version texts x.1) (all_used_only version texts x.1) (λ u a.
    let e = pool_is version texts count x.1 x.0 h f.1 a in
    let s = sent version count x.0 in
    only_done sent_bytes CanBeSent s _
    (regroup (pool_bytes version texts) (inputs_bytes version texts x.0.0) (block_bytes version texts x.0.1) v count
    ∙ ap (λ l. message_bytes version l s.script s.values) e)
    (can_be_sent version texts count x.0 h n f.0 e)))))

pub script_only : Only script_message [] sent_bytes CanBeSent
unfolding script_message
script_only = only_choose sent_bytes CanBeSent ((0x01, script One) ∷ (0x02, script Two) ∷ []) (script_made One, (script_made Two, tt))

-- The version of what is read is that which the payload's first byte names.
version_named : (x : Sent) → x.version ≡ version_of (sent_bytes x)
version_named x = go x.version x.script x.values
  where
    go : (version : Version) (s : Script) (values : List Value) → version ≡ version_of (sent_bytes (record { version = version; script = s; values = values }))
    go One s values = refl
    go Two s values = refl

pub version_read : (payload : List ℕ) (x : Sent) → Spells script_message payload x → x.version ≡ version_of payload
version_read payload x s = version_named x ∙ ap version_of (sym (script_only.made payload x s).is)
