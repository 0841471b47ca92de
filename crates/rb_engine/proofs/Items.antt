-- Values of the service that the client sees, one by one.
use Rattle.std.proofs.Common.{◌≡◌, refl, sym, ap, ◌∙◌, ℕ, ◌+◌, ◌<◌, ◌≤◌, List, [], ◌∷◌, ◌++◌, append_assoc, append-nil, length, drop, get_or}
use Rattle.std.proofs.lemmas.List.{drop_all}
use Rattle.std.specs.Prelude.{true, false, ◌&&◌, Option, None, Some, is_some, option_and_then}
use Rattle.std.specs.Option.{option_map}
use Rattle.std.proofs.lemmas.Grind.{common_steps}
use Rattle.rb_trees.specs.declared.values.Value.{Value, out-Value}
use Rattle.rb_trees.specs.declared.values.Value.TheOpen.{Value-F}
use Rattle.rb_trees.specs.declared.values.Value.TheVariants as value
use Rattle.rb_trees.specs.declared.values.Value.TheViews.{roll-Value, roll-out-Value}
use Rattle.rb_meaning_code.specs.Remote.{Item, AnInt, ABool, AText, AnObject, seen_item, seen_items}
use Rattle.rb_engine.specs.Kinds.{StaysTheSame}
use Rattle.rb_engine.proofs.Loops.{dropped_one}

-- a first one and the others, where there are both
abbrev pub first_and : Option Value → Option (List Value) → Option (List Value)
first_and o p = option_and_then (λ w. option_map (λ ws. w ∷ ws) p) o

-- values that were found, and then the others
abbrev pub after : List Value → Option (List Value) → Option (List Value)
after os p = option_map (λ ws. os ++ ws) p

pub after_none : (p : Option (List Value)) → after [] p ≡ p
after_none None = refl
after_none (Some ws) = refl

pub after_one : (os : List Value) (w : Value) (p : Option (List Value)) → after os (first_and (Some w) p) ≡ after (os ++ w ∷ []) p
after_one os w None = refl
after_one os w (Some ws) = ap Some (sym (append_assoc os (w ∷ []) ws))

some_first : (o : Option Value) (p : Option (List Value)) → is_some (first_and o p) ≡ is_some o && is_some p
some_first None p = refl
some_first (Some w) None = refl
some_first (Some w) (Some ws) = refl

items_on : (item : Item) (vs : List Value) (i : ℕ) (v : Value) → i < length vs → v ≡ get_or vs i v
    → seen_items item (drop i vs) ≡ first_and (seen_item item (out-Value v)) (seen_items item (drop (i + 1) vs))
items_on item vs i v l e = ap (seen_items item) (dropped_one vs i v l e)

pub some_more : (item : Item) (vs : List Value) (i : ℕ) (v : Value) → i < length vs → v ≡ get_or vs i v
    → is_some (seen_items item (drop i vs)) ≡ is_some (seen_item item (out-Value v)) && is_some (seen_items item (drop (i + 1) vs))
some_more item vs i v l e = ap is_some (items_on item vs i v l e) ∙ some_first (seen_item item (out-Value v)) (seen_items item (drop (i + 1) vs))

pub items_more : (item : Item) (os vs : List Value) (i : ℕ) (v w : Value) → i < length vs → v ≡ get_or vs i v → seen_item item (out-Value v) ≡ Some w
    → after os (seen_items item (drop i vs)) ≡ after (os ++ w ∷ []) (seen_items item (drop (i + 1) vs))
items_more item os vs i v w l e is =
    ap (after os) (items_on item vs i v l e ∙ ap (λ o. first_and o (seen_items item (drop (i + 1) vs))) is) ∙ after_one os w (seen_items item (drop (i + 1) vs))

pub items_whole : (item : Item) (os vs : List Value) (i : ℕ) → length vs ≤ i → after os (seen_items item (drop i vs)) ≡ Some os
items_whole item os vs i l = ap (λ xs. after os (seen_items item xs)) (drop_all i vs l) ∙ ap Some (append-nil os)

pub items_missing : (item : Item) (os vs : List Value) (i : ℕ) (v : Value) → i < length vs → v ≡ get_or vs i v → seen_item item (out-Value v) ≡ None
    → after os (seen_items item (drop i vs)) ≡ None
items_missing item os vs i v l e is = ap (after os) (items_on item vs i v l e ∙ ap (λ o. first_and o (seen_items item (drop (i + 1) vs))) is)

same_layer : (item : Item) (y : Value-F Value) (w : Value) → StaysTheSame item → seen_item item y ≡ Some w → w ≡ roll-Value y
same_layer AnInt (Value-F.Int n) w s e = let is : value.Int n ≡ w = cc e in sym is ∙ sym (value.rolls-Int n)
same_layer AnInt Value-F.Unit w s e = absurd (cc e)
same_layer AnInt (Value-F.Bool b) w s e = absurd (cc e)
same_layer AnInt (Value-F.Text t) w s e = absurd (cc e)
same_layer AnInt (Value-F.List vs) w s e = absurd (cc e)
same_layer AnInt (Value-F.Ref o) w s e = absurd (cc e)
same_layer AnInt (Value-F.Remote o) w s e = absurd (cc e)
same_layer AnInt (Value-F.Rows vs) w s e = absurd (cc e)
same_layer ABool (Value-F.Bool b) w s e = let is : value.Bool b ≡ w = cc e in sym is ∙ sym (value.rolls-Bool b)
same_layer ABool Value-F.Unit w s e = absurd (cc e)
same_layer ABool (Value-F.Int n) w s e = absurd (cc e)
same_layer ABool (Value-F.Text t) w s e = absurd (cc e)
same_layer ABool (Value-F.List vs) w s e = absurd (cc e)
same_layer ABool (Value-F.Ref o) w s e = absurd (cc e)
same_layer ABool (Value-F.Remote o) w s e = absurd (cc e)
same_layer ABool (Value-F.Rows vs) w s e = absurd (cc e)
same_layer AText (Value-F.Text t) w s e = let is : value.Text t ≡ w = cc e in sym is ∙ sym (value.rolls-Text t)
same_layer AText Value-F.Unit w s e = absurd (cc e)
same_layer AText (Value-F.Int n) w s e = absurd (cc e)
same_layer AText (Value-F.Bool b) w s e = absurd (cc e)
same_layer AText (Value-F.List vs) w s e = absurd (cc e)
same_layer AText (Value-F.Ref o) w s e = absurd (cc e)
same_layer AText (Value-F.Remote o) w s e = absurd (cc e)
same_layer AText (Value-F.Rows vs) w s e = absurd (cc e)
same_layer AnObject y w s e = absurd s

same_item : (item : Item) (v w : Value) → StaysTheSame item → seen_item item (out-Value v) ≡ Some w → w ≡ v
same_item item v w s e = same_layer item (out-Value v) w s e ∙ roll-out-Value v

same_first : (item : Item) (o : Option Value) (p : Option (List Value)) (v : Value) (vs : List Value) → StaysTheSame item → seen_item item (out-Value v) ≡ o
    → (is_some p ≡ true → p ≡ Some vs) → is_some (first_and o p) ≡ true → first_and o p ≡ Some (v ∷ vs)
same_first item None p v vs s e h is = absurd (cc is)
same_first item (Some w) None v vs s e h is = absurd (cc is)
same_first item (Some w) (Some ws) v vs s e h is = ap (first_and (Some w)) (h refl) ∙ ap (λ x. Some (x ∷ vs)) (same_item item v w s e)

-- values that the client sees as they are
pub same_items : (item : Item) (vs : List Value) → StaysTheSame item → is_some (seen_items item vs) ≡ true → seen_items item vs ≡ Some vs
same_items item [] s is = refl
same_items item (v ∷ vs) s is = same_first item (seen_item item (out-Value v)) (seen_items item vs) v vs s refl (same_items item vs s) is

unseen : (p : Option (List Value)) → is_some p ≡ false → p ≡ None
unseen None is = refl
unseen (Some ws) is = absurd (cc is)

pub no_items : (item : Item) (vs : List Value) → is_some (seen_items item vs) ≡ false → seen_items item vs ≡ None
no_items item vs is = unseen (seen_items item vs) is

pub ruleset seen_so = (after_none, some_more, items_more, items_whole, items_missing, same_items, no_items, common_steps)
