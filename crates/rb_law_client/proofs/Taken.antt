-- The inputs of a batch have the items of the lists that it takes along.
use Rattle.std.proofs.Common.{◌≡◌, refl, sym, ap, ◌∙◌, subst, ℕ, ◌+◌, List, [], ◌∷◌, ◌++◌, Bool as Truth, true, false, cond, arith}
use Rattle.std.specs.List.{Contains, flat_map}
use Rattle.std.specs.Str.{bytes_eq}
use Rattle.std.proofs.lemmas.Bool.{and_parts}
use Rattle.rb_trees.specs.Named.{lookup}
use Rattle.rb_trees.specs.declared.values.Value.{Value}
use Rattle.rb_trees.specs.declared.values.Value.TheOpen.{Value-F}
use Rattle.rb_trees.specs.declared.values.Value.TheViews.{out-Value}
use Rattle.rb_trees.specs.mirror.Code.{Expr, Exprs, Lit, Name, This, Unary, Binary, Field, Call, Index, New, Items, Taken, NoExprs, MoreExprs, Stmt, Stmts, Val, Var, Assign, Run, Print, Throw, If, While, For, Try, Batch, NoStmts, MoreStmts}
use Rattle.rb_meaning_bytes.specs.formats.FormedScripts.{input_form}
use Rattle.rb_meaning_bytes.specs.formats.Items.{form_items, count_items}
use Rattle.rb_meaning_types.specs.Names.{is_new}
use Rattle.rb_meaning_code.specs.State.{Names}
use Rattle.rb_meaning_code.specs.ScriptRun.{items_in}
use Rattle.rb_meaning_flow.specs.declared.forms.PlacedForm.{PlacedForm}
use Rattle.rb_meaning_flow.specs.declared.scopes.Role.{Role}
use Rattle.rb_meaning_flow.specs.Facts.{Facts, facts_of}
use Rattle.rb_meaning_flow.specs.Scopes.{Scope, with_variable, role_of, is_constant_role, is_list_role}
use Rattle.rb_meaning_flow.specs.Portable.{portable, block_holds, is_constant_list}
use Rattle.rb_meaning_flow.specs.Forms.{placed_form}
use Rattle.rb_meaning_flow.specs.Sites.{scope_after}
use Rattle.rb_meaning.specs.RemoteExprs.{remote_of}
use Rattle.rb_meaning.specs.ConstantLists.{name_of, items_of, lists_as, lists_in, count_of, counted}
use Rattle.rb_meaning_split.specs.Inputs.{constants, all_constants, kept_constants, used_as, used_in, first_uses}
use Rattle.rb_meaning_split.specs.Division.{scope_of, division}
use Rattle.rb_meaning_split.specs.Client.{value_or_unit, input_values}
use Rattle.rb_flow.proofs.Members.{first_contained, more_contained}
use Rattle.rb_law_script.proofs.Covered.{role_before}
use Rattle.rb_law_script.proofs.Forms.{Tells, told}
use Rattle.rb_law_script.proofs.Lookups.{same_bytes}
use Rattle.rb_law_client.specs.Below.{LawsBelow}
use Rattle.rb_law_client.specs.Dividing.{InputsHaveItems}
use Rattle.rb_law_client.proofs.Given.{HasInput, asked_inputs}

constant_no_list : (role : Role) → is_constant_role role ≡ true → is_list_role role ≡ false
constant_no_list Role.Constant h = refl
constant_no_list Role.ConstantList h = absurd (cc (h))
constant_no_list Role.Root h = refl
constant_no_list Role.Row h = refl
constant_no_list Role.Carried h = refl
constant_no_list Role.Plain h = refl

-- ---- the lists among the names that a batch uses are those of its carried loops

module _ (f : Facts) (first : Scope) where
  -- those that are constant lists where the batch begins
  abbrev listed : List (List ℕ) → List (List ℕ)
  listed [] = []
  listed (y ∷ ys) = cond (is_list_role (role_of first y)) (y ∷ listed ys) (listed ys)

  listed_both : (xs ys : List (List ℕ)) → listed (xs ++ ys) ≡ listed xs ++ listed ys
  listed_both [] ys = refl
  listed_both (x ∷ xs) ys = by (is_list_role (role_of first x)) (listed_both xs ys)
    where
      by : (t : Truth) → listed (xs ++ ys) ≡ listed xs ++ listed ys → cond t (x ∷ listed (xs ++ ys)) (listed (xs ++ ys)) ≡ cond t (x ∷ listed xs) (listed xs) ++ listed ys
      by true e = ap (λ q. x ∷ q) e
      by false e = e

  none_both : (xs ys : List (List ℕ)) → listed xs ≡ [] → listed ys ≡ [] → listed (xs ++ ys) ≡ []
  none_both xs ys e e1 = listed_both xs ys ∙ ap (λ q. q ++ listed ys) e ∙ e1

  -- What is constant in a scope was so where the batch begins, and so it is with constant lists.
  record Since (vs : Scope) : Type 0 where
    constant : (y : List ℕ) → is_constant_role (role_of vs y) ≡ true → is_constant_role (role_of first y) ≡ true
    list : (y : List ℕ) → is_list_role (role_of vs y) ≡ true → is_list_role (role_of first y) ≡ true

  since_added : (vs : Scope) (name : List ℕ) (role : Role) (at : ℕ) → is_constant_role role ≡ false → is_list_role role ≡ false → Since vs → Since (with_variable vs name role at)
  since_added vs name role at other other' h = record {
    constant = λ y k. h.constant y (role_before is_constant_role refl vs y name role at other k);
    list = λ y k. h.list y (role_before is_list_role refl vs y name role at other' k);
  }

  since_after : (vs : Scope) (s : Stmt) → Since vs → Since (scope_after f [] vs s)
  since_after vs (Val at name e) h = by (portable f vs e)
    where
      by : (t : Truth) → Since (with_variable vs name (cond t Role.Carried Role.Plain) at)
      by true = since_added vs name Role.Carried at refl refl h
      by false = since_added vs name Role.Plain at refl refl h
  since_after vs (Var at name e) h = since_added vs name Role.Plain at refl refl h
  since_after vs (Assign at a b) h = h
  since_after vs (Run at e) h = h
  since_after vs (Print at e) h = h
  since_after vs (Throw at e) h = h
  since_after vs (If at c a b) h = h
  since_after vs (While at c a) h = h
  since_after vs (For at name e a) h = h
  since_after vs (Try at a name b) h = h
  since_after vs (Batch at interface root a) h = h

  -- constant variables are no lists
  mutual
    constants_none : (vs : Scope) → Since vs → (e : Expr) → listed (constants vs e) ≡ []
    constants_none vs h (Name at name) = by (is_constant_role (role_of vs name)) refl
      where
        by : (t : Truth) → is_constant_role (role_of vs name) ≡ t → listed (cond t (name ∷ []) []) ≡ []
        by true e = ap (λ q. cond q (name ∷ []) []) (constant_no_list (role_of first name) (h.constant name e))
        by false e = refl
    constants_none vs h (Unary at op a) = constants_none vs h a
    constants_none vs h (Binary at op a b) = none_both (constants vs a) (constants vs b) (constants_none vs h a) (constants_none vs h b)
    constants_none vs h (Call at a method args) = none_both (constants vs a) (all_constants vs args) (constants_none vs h a) (all_none vs h args)
    constants_none vs h (Lit at v) = refl
    constants_none vs h (This at) = refl
    constants_none vs h (Field at a name) = refl
    constants_none vs h (Index at a b) = refl
    constants_none vs h (New at class args) = refl
    constants_none vs h (Items at item items) = refl
    constants_none vs h (Taken at step) = refl

    all_none : (vs : Scope) → Since vs → (es : Exprs) → listed (all_constants vs es) ≡ []
    all_none vs h NoExprs = refl
    all_none vs h (MoreExprs e es) = none_both (constants vs e) (all_constants vs es) (constants_none vs h e) (all_none vs h es)

  each_none : (vs : Scope) → Since vs → (es : List Expr) → listed (flat_map (constants vs) es) ≡ []
  each_none vs h [] = refl
  each_none vs h (e ∷ es) = none_both (constants vs e) (flat_map (constants vs) es) (constants_none vs h e) (each_none vs h es)

  kept_none : (vs : Scope) → Since vs → (s : Stmt) → listed (kept_constants f vs s) ≡ []
  kept_none vs h s = each_none vs h (remote_of f vs s)

  list_one : (vs : Scope) → Since vs → (e : Expr) → is_constant_list vs e ≡ true → listed (name_of e) ≡ name_of e
  list_one vs h (Name at name) is_list = ap (λ q. cond q (name ∷ []) []) (h.list name is_list)
  list_one vs h (Lit at v) is_list = refl
  list_one vs h _ is_list = refl

  behind_none : (xs ys zs : List (List ℕ)) → listed xs ≡ [] → listed ys ≡ zs → listed (xs ++ ys) ≡ zs
  behind_none xs ys zs e e1 = listed_both xs ys ∙ ap (λ q. q ++ listed ys) e ∙ e1

  mutual
    lists_same_as : (form : PlacedForm) (vs : Scope) (s : Stmt) → Since vs → Tells f vs form s → listed (used_as f form vs s) ≡ lists_as f form vs s
    lists_same_as PlacedForm.CarriedVal vs (Val at name e) h t = constants_none vs h e
    lists_same_as PlacedForm.CarriedIf vs (If at c a b) h t =
        listed_both (constants vs c ++ used_in f vs a) (used_in f vs b)
        ∙ ap (λ q. q ++ listed (used_in f vs b)) (behind_none (constants vs c) (used_in f vs a) (lists_in f vs a) (constants_none vs h c) (lists_same vs a h))
        ∙ ap (λ q. lists_in f vs a ++ q) (lists_same vs b h)
    lists_same_as PlacedForm.RowsLoop vs (For at name e a) h t =
        let inner = with_variable vs name Role.Row at in behind_none (constants vs e) (used_in f inner a) (lists_in f inner a) (constants_none vs h e) (lists_same inner a (since_added vs name Role.Row at refl refl h))
    lists_same_as PlacedForm.CarriedLoop vs (For at name e a) h t =
        let inner = with_variable vs name Role.Row at in
        listed_both (name_of e) (used_in f inner a) ∙ ap (λ q. q ++ listed (used_in f inner a)) (list_one vs h e (and_parts (is_constant_list vs e) (block_holds f a) t.1).0)
        ∙ ap (λ q. name_of e ++ q) (lists_same inner a (since_added vs name Role.Row at refl refl h))
    lists_same_as form vs s h t = kept_none vs h s

    lists_same : (vs : Scope) (block : Stmts) → Since vs → listed (used_in f vs block) ≡ lists_in f vs block
    lists_same vs NoStmts h = refl
    lists_same vs (MoreStmts s ss) h =
        let form = placed_form f vs s in
        let next = scope_after f [] vs s in
        listed_both (used_as f form vs s) (used_in f next ss) ∙ ap (λ q. q ++ listed (used_in f next ss)) (lists_same_as form vs s h (told f vs s)) ∙ ap (λ q. lists_as f form vs s ++ q) (lists_same next ss (since_after vs s h))

  -- ---- their items

  module _ (names : Names) where
    -- a value has the items of its list
    value_items : (w : Value-F Value) → count_of (items_in w) ≡ form_items w
    value_items (Value-F.List items) = refl
    value_items Value-F.Unit = refl
    value_items _ = refl

    -- and an input that is no list has none
    no_items : (w : Value-F Value) → input_form false w → form_items w ≡ 0
    no_items (Value-F.List items) h = absurd h
    no_items Value-F.Unit h = absurd h
    no_items _ h = refl

    abbrev Has : List ℕ → Type 0
    Has y = HasInput names (is_list_role (role_of first y)) y

    -- two lists of names that were counted before have the same constant lists
    abbrev SameLists : List (List ℕ) → List (List ℕ) → Type 0
    SameLists before befores = (z : List ℕ) → is_list_role (role_of first z) ≡ true → is_new z before ≡ is_new z befores

    both_more : (y : List ℕ) (before befores : List (List ℕ)) → SameLists before befores → SameLists (y ∷ before) (y ∷ befores)
    both_more y before befores same z h = ap (λ q. cond (bytes_eq y z) false q) (same z h)

    other_more : (y : List ℕ) (before befores : List (List ℕ)) → is_list_role (role_of first y) ≡ false → SameLists before befores → SameLists before (y ∷ befores)
    other_more y before befores other same z h = by (bytes_eq y z) refl
      where
        by : (t : Truth) → bytes_eq y z ≡ t → is_new z before ≡ cond t false (is_new z befores)
        by true e = absurd (cc (other, h, ap (λ q. is_list_role (role_of first q)) (same_bytes y z e)))
        by false e = same z h

    -- what the value of an input counts
    list_count : (y : List ℕ) → Has y → count_of (items_of (lookup names y)) ≡ form_items (out-Value (value_or_unit (lookup names y)))
    list_count y g = ap (λ o. count_of (items_of o)) g.found ∙ value_items (out-Value g.value) ∙ ap (λ o. form_items (out-Value (value_or_unit o))) (sym g.found)

    other_count : (y : List ℕ) → Has y → is_list_role (role_of first y) ≡ false → form_items (out-Value (value_or_unit (lookup names y))) ≡ 0
    other_count y g other = ap (λ o. form_items (out-Value (value_or_unit o))) g.found ∙ no_items (out-Value g.value) (subst (λ t. input_form t (out-Value g.value)) other g.form)

    abbrev values_of : List (List ℕ) → ℕ
    values_of inputs = count_items (input_values inputs names)

    none_more : (n : ℕ) → 0 + n ≡ n
    none_more n = omega arith

    count_same : (ys before befores : List (List ℕ)) → ((y : List ℕ) → Contains ys y → Has y) → SameLists before befores → counted before (listed ys) names ≡ values_of (first_uses befores ys)
    count_same [] before befores has same = refl
    count_same (y ∷ ys) before befores has same =
        by (is_list_role (role_of first y)) (is_new y befores) refl refl (has y (first_contained y ys))
        (λ before' befores' same'. count_same ys before' befores' (λ z i. has z (more_contained y ys z i)) same')
      where
        Later : Type 0
        Later = (before' befores' : List (List ℕ)) → SameLists before' befores' → counted before' (listed ys) names ≡ values_of (first_uses befores' ys)

        by : (t u : Truth) → is_list_role (role_of first y) ≡ t → is_new y befores ≡ u → Has y → Later
            → counted before (cond t (y ∷ listed ys) (listed ys)) names ≡ values_of (cond u (y ∷ first_uses (y ∷ befores) ys) (first_uses befores ys))
        by true true e e1 g later =
            ap (λ q. cond q (count_of (items_of (lookup names y)) + counted (y ∷ before) (listed ys) names) (counted before (listed ys) names)) (same y e ∙ e1)
            ∙ ap (λ q. q + counted (y ∷ before) (listed ys) names) (list_count y g) ∙ ap (λ q. form_items (out-Value (value_or_unit (lookup names y))) + q) (later (y ∷ before) (y ∷ befores) (both_more y before befores same))
        by true false e e1 g later =
            ap (λ q. cond q (count_of (items_of (lookup names y)) + counted (y ∷ before) (listed ys) names) (counted before (listed ys) names)) (same y e ∙ e1) ∙ later before befores same
        by false true e e1 g later = later before (y ∷ befores) (other_more y before befores e same) ∙ sym (none_more (values_of (first_uses (y ∷ befores) ys))) ∙ ap (λ q. q + values_of (first_uses (y ∷ befores) ys)) (sym (other_count y g e))
        by false false e e1 g later = later before befores same

pub inputs_have_items : LawsBelow → InputsHaveItems
unfolding division
inputs_have_items below p lawful checked at l site asked b found =
    let f = facts_of p in
    let first = scope_of b in
    let used = used_in f first b.block in
    ap (λ q. counted [] q l.names) (sym (lists_same f first first b.block (record { constant = λ y h. h; list = λ y h. h })))
    ∙ count_same f first l.names used [] [] (asked_inputs below p lawful checked at l site asked b found) (λ z h. refl)
