-- What a forest is spelled by is its bytes, and it is formed; and so it is with refusals. By the version.
use Rattle.std.proofs.Common.{◌≡◌, ℕ, zero, suc, ◌<◌, ◌^◌, Bool, true, false, cond, nat_eq, List, [], ◌∷◌, ◌++◌, refl, ap, sym, subst, append_assoc, None, Some}
use Rattle.rb_trees.specs.declared.versions.Version.{Version}
use Rattle.rb_trees.specs.declared.versions.Version.TheVariants.{One, Two}
use Rattle.rb_trees.specs.mirror.Forests as tree
use Rattle.rb_trees.specs.mirror.Forests.{Node, Entry, entries_from, nodes_from}
use Rattle.rb_meaning_bytes.specs.formats.Fields.{Tag, Number, Truth, number}
use Rattle.rb_meaning_bytes.specs.formats.Formats.{Done, times}
use Rattle.rb_meaning_bytes.specs.formats.Values.{version_byte, natural, words, value}
use Rattle.rb_meaning_bytes.specs.formats.Forests.{thrown, most_nodes, is_fault_code, fault_text, ends, end, entry_forms, entry, node, forest_of}
use Rattle.rb_meaning_bytes.specs.formats.Messages.{Refused}
use Rattle.rb_meaning_bytes.specs.formats.Refusals.{is_refusal_number, refusal, refusal_message}
use Rattle.rb_meaning_bytes.specs.formats.ScriptBytes.{natural_bytes, words_bytes, value_bytes}
use Rattle.rb_meaning_bytes.specs.formats.FormedScripts.{IsPrimitive}
use Rattle.rb_meaning_bytes.specs.formats.ForestBytes.{fault_text_bytes, end_bytes, count_entries, count_nodes, node_bytes, entry_bytes, entries_bytes, nodes_bytes, forest_bytes, refusal_bytes, formed_text, FormedText, FormedEnd, FormedNode, FormedEntry, FormedEntries, FormedNodes, FormedForest, FormedRefusal}
use Rattle.rb_meaning_bytes.proofs.formats.Only.{Only, only_done, only_more, only_deeper, only_bind, only_choose, only_times}
use Rattle.rb_meaning_bytes.proofs.formats.Values.{natural_only, words_only, value_only}

-- what is within 32 bits
abbrev IsNatural : ℕ → Type 0
IsNatural n = n < 2 ^ 32

fault_text_only : (version : Version) (code : ℕ) → Only (fault_text version code) [] (fault_text_bytes version code) (FormedText code)
fault_text_only version code = go (nat_eq code thrown)
  where
    go : (b : Bool) → Only (cond b (words version) (Done [])) [] (λ text. cond b (words_bytes version text) []) (formed_text b)
    go true = words_only version
    go false = only_done _ _ [] _ refl refl

end_only : (version : Version) → Only (end version) [] (end_bytes version) FormedEnd
unfolding end
end_only version =
    let p : _ → List ℕ = λ f. end_bytes version f in
    only_choose p FormedEnd (ends version) (
      only_done p FormedEnd None _ refl tt,
      (
        only_bind p FormedEnd (natural version) _ _ (natural_bytes version) IsNatural (natural_only version) (λ step i.
            only_bind p FormedEnd (natural version) _ _ (natural_bytes version) IsNatural (natural_only version) (λ at j.
            only_more p FormedEnd (Tag is_fault_code) _ _ (λ code k.
            only_bind p FormedEnd (fault_text version code) _ _ (fault_text_bytes version code) (FormedText code) (fault_text_only version code) (λ text m.
            only_done p FormedEnd (Some (record { step = step; at = at; fault = record { code = code; text = text } })) _
            (ap (λ (l : List ℕ). 0x01 ∷ l) (append_assoc (natural_bytes version step ++ natural_bytes version at) (code ∷ []) (fault_text_bytes version code text)))
            (i, j, k.0, m))))),
        tt,
      ),
    )

abbrev listed_entries : Version → List Entry → List ℕ
listed_entries version es = entries_bytes version (entries_from es)

abbrev entries_formed : ℕ → ℕ → List Entry → Type 0
entries_formed n count es = (count_entries (entries_from es) ≡ count) × FormedEntries n (entries_from es)

abbrev listed_nodes : Version → List Node → List ℕ
listed_nodes version ns = nodes_bytes version (nodes_from ns)

abbrev nodes_formed : ℕ → ℕ → List Node → Type 0
nodes_formed n count ns = (count_nodes (nodes_from ns) ≡ count) × FormedNodes n (nodes_from ns)

entry_from : (version : Version) (n : ℕ) → Only (node version n) [] (node_bytes version) (FormedNode n) → Only (entry version (node version n)) [] (entry_bytes version) (FormedEntry n)
unfolding entry
entry_from version n one =
    let p : Entry → List ℕ = λ x. entry_bytes version x in
    let ok : Entry → Type 0 = λ x. FormedEntry n x in
    only_choose p ok (entry_forms version (node version n)) (
      only_bind p ok (value version) _ _ (value_bytes version) IsPrimitive (value_only version) (λ v h. only_done p ok (tree.Value v) _ refl h),
      (
        only_more p ok Truth _ _ (λ taken u. only_bind p ok (node version n) _ _ (node_bytes version) (FormedNode n) one (λ m h. only_done p ok (tree.Branch taken m) _ refl h)),
        (
          only_more p ok Number _ _ (λ count c.
              only_bind p ok (times count (node version n)) _ _ (listed_nodes version) (nodes_formed n count)
              (only_times (node version n) (node_bytes version) (FormedNode n) (listed_nodes version) (nodes_formed n) refl (λ x xs. refl) (refl, tt) (λ m x xs f l. (ap suc l.0, (f, l.1))) one count)
              (λ ns l. only_done p ok (tree.Rows (nodes_from ns)) _
              (ap (λ (m : ℕ). 0x33 ∷ number m ++ listed_nodes version ns) (sym l.0)) (subst IsNatural (sym l.0) c, l.1))),
          tt,
        ),
      ),
    )

node_only : (version : Version) (n : ℕ) → Only (node version n) [] (node_bytes version) (FormedNode n)
unfolding node
node_only version zero = only_deeper (node_bytes version) (FormedNode 0) []
node_only version (suc n) =
    let p : Node → List ℕ = λ x. node_bytes version x in
    let ok : Node → Type 0 = λ x. FormedNode (suc n) x in
    only_more p ok Number _ _ (λ count c.
    only_bind p ok (times count (entry version (node version n))) _ _ (listed_entries version) (entries_formed n count)
    (only_times (entry version (node version n)) (entry_bytes version) (FormedEntry n) (listed_entries version) (entries_formed n) refl (λ x xs. refl) (refl, tt) (λ m x xs f l. (ap suc l.0, (f, l.1)))
    (entry_from version n (node_only version n)) count)
    (λ es l. only_bind p ok (end version) _ _ (end_bytes version) FormedEnd (end_only version) (λ f h.
    only_done p ok (tree.Holds (entries_from es) f) _
    (ap (λ (m : ℕ). number m ++ listed_entries version es ++ end_bytes version f) (sym l.0)) (subst IsNatural (sym l.0) c, l.1, h))))

pub forest_only : (version : Version) → Only (forest_of version) [] (forest_bytes version) FormedForest
unfolding forest_of FormedForest
forest_only version = only_choose (forest_bytes version) FormedForest ((version_byte version, node version most_nodes) ∷ []) (forest_root (node version most_nodes) (node_only version most_nodes), tt)
  where
    forest_root : (F : _) → Only F [] (node_bytes version) (FormedNode most_nodes) → Only F (version_byte version ∷ []) (forest_bytes version) (FormedNode most_nodes)
    forest_root F one = record { made = λ bytes n s. (let m = one.made bytes n s in record { is = ap (λ l. version_byte version ∷ l) m.is; fits = m.fits }) }

abbrev refused : Version → ℕ → ℕ → Refused
refused version n at = record { version = version; number = n; at = at }

refusal_from : (version : Version) → Only (refusal version) (version_byte version ∷ []) refusal_bytes FormedRefusal
refusal_from version =
    only_more refusal_bytes FormedRefusal (Tag (λ n. is_refusal_number version n)) _ _ (λ n i.
    only_bind refusal_bytes FormedRefusal (natural version) _ _ (natural_bytes version) IsNatural (natural_only version) (λ at j.
    only_done refusal_bytes FormedRefusal (refused version n at) _ refl (i.0, j)))

pub refusal_only : Only refusal_message [] refusal_bytes FormedRefusal
unfolding refusal_message
refusal_only = only_choose refusal_bytes FormedRefusal ((0x01, refusal One) ∷ (0x02, refusal Two) ∷ []) (refusal_from One, (refusal_from Two, tt))
