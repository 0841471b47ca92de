-- The values of a batch's inputs, from the local state of its start: as many as its script takes, each of them a list of primitive
-- values where it is one, else primitive.
use Rattle.std.proofs.Common.{◌≡◌, refl, sym, ap, ◌∙◌, subst, ℕ, suc, List, [], ◌∷◌, ◌++◌, length, All, Bool as Truth, true, false, not, ◌&&◌, ◌||◌, cond, Option, Some, None, Ok, ltb-false}
use Rattle.std.specs.Str.{bytes_eq}
use Rattle.std.specs.List.{Contains}
use Rattle.std.proofs.lemmas.Str.{is_utf8-from_IsUtf8}
use Rattle.std.proofs.lemmas.List.Elements.{All-head, All-tail}
use Rattle.rb_trees.specs.Named.{lookup}
use Rattle.rb_trees.specs.declared.values.Value.{Value}
use Rattle.rb_trees.specs.declared.values.Value.TheOpen.{Value-F}
use Rattle.rb_trees.specs.declared.values.Value.TheViews.{out-Value}
use Rattle.rb_trees.specs.mirror.Declarations.{Program, Interface}
use Rattle.rb_meaning_bytes.specs.formats.FormedScripts.{primitive_form, IsPrimitive, ArePrimitive, list_form, input_form, AreInputs}
use Rattle.rb_meaning_bytes.specs.formats.Items as values
use Rattle.rb_meaning_bytes.specs.formats.Items.{count_items, form_numbers, most_items}
use Rattle.rb_meaning_bytes.proofs.formats.Inputs.{fine_form, AreFine, fine_inputs}
use Rattle.rb_meaning_types.specs.Kinds as kind
use Rattle.rb_meaning_types.specs.Kinds.{Kind, is_primitive}
use Rattle.rb_meaning_types.specs.Names.{is_new}
use Rattle.rb_meaning_types.specs.Declared.{of_program}
use Rattle.rb_meaning_types.specs.Lawful.{IsLawful}
use Rattle.rb_meaning_types.specs.Programs.{check_program}
use Rattle.rb_meaning_types.specs.Scopes as typed
use Rattle.rb_meaning_types.specs.Fits.{IsIntValue, IsBoolValue, IsTextValue, AreItems, Fits, classes_of, this_name, frame_scope, NamesFit}
use Rattle.rb_meaning_code.specs.State.{Names, Local}
use Rattle.rb_meaning_flow.specs.declared.scopes.Role.{Role}
use Rattle.rb_meaning_flow.specs.Facts.{facts_of, has_primitive_items}
use Rattle.rb_meaning_flow.specs.Scopes.{Scope, variable_named, with_variable, role_in, role_of, is_constant_role, is_list_role, variable_with, scope_with, assigned_in}
use Rattle.rb_meaning_flow.specs.Outermost.{Outermost}
use Rattle.rb_meaning.specs.Unsplit.{batch_at}
use Rattle.rb_meaning_split.specs.Inputs.{used_in, list_numbers}
use Rattle.rb_meaning_split.specs.Division.{scope_of, inputs_of, division}
use Rattle.rb_meaning_split.specs.Client.{value_or_unit, input_values, are_too_many, sent_for}
use Rattle.rb_flow.proofs.Members.{first_contained, more_contained}
use Rattle.rb_law_types.specs.Asked.{Own, Site, IsAskedBatch}
use Rattle.rb_law_types.specs.Own.{IsOwnKind, IsOwnScope}
use Rattle.rb_law_types.specs.Code.{AreTyped}
use Rattle.rb_law_unsplit.specs.Batches.{program_sites}
use Rattle.rb_law_unsplit.proofs.Agreed.{Agree}
use Rattle.rb_law_unsplit.proofs.Found.{batch_found}
use Rattle.rb_law_unsplit.proofs.Programs.{program_typed, batches_in}
use Rattle.rb_law_script.proofs.Covered.{is_taken_role, block_taken}
use Rattle.rb_law_script.proofs.Inputs.{input_used}
use Rattle.rb_law_script.proofs.Lookups.{same_bytes, first_or, lookup_more}
use Rattle.rb_law_client.specs.Below.{LawsBelow}
use Rattle.rb_law_client.proofs.Owned.{program_owned}
use Rattle.rb_law_client.proofs.Sure.{Sure, batches_sure}

-- ---- a value of a primitive type is primitive, within its limits

int_form : (w : Value-F Value) → IsIntValue w → primitive_form w
int_form (Value-F.Int n) h = h
int_form Value-F.Unit h = absurd h
int_form _ h = absurd h

bool_form : (w : Value-F Value) → IsBoolValue w → primitive_form w
bool_form (Value-F.Bool b) h = h
bool_form Value-F.Unit h = absurd h
bool_form _ h = absurd h

text_form : (w : Value-F Value) → IsTextValue w → primitive_form w
text_form (Value-F.Text bytes) h = (h.1, is_utf8-from_IsUtf8 bytes h.0)
text_form Value-F.Unit h = absurd h
text_form _ h = absurd h

fits_form : (is : List Interface) (cs : List (List ℕ)) (k : Kind) (v : Value) → is_primitive k ≡ true → Fits is cs k v → IsPrimitive v
fits_form is cs kind.Int v e h = int_form (out-Value v) h
fits_form is cs kind.Bool v e h = bool_form (out-Value v) h
fits_form is cs kind.Text v e h = text_form (out-Value v) h
fits_form is cs kind.Unit v e h = absurd (cc (e))
fits_form is cs _ v e h = absurd (cc (e))

-- and a list of such is one of primitive values
items_form : (is : List Interface) (cs : List (List ℕ)) (item : Kind) (vs : List Value) → is_primitive item ≡ true → All (Fits is cs item) vs → ArePrimitive vs
items_form is cs item [] e h = tt
items_form is cs item (v ∷ vs) e h = (fits_form is cs item v e (All-head (Fits is cs item) v vs h), items_form is cs item vs e (All-tail (Fits is cs item) v vs h))

all_form : (is : List Interface) (cs : List (List ℕ)) (item : Kind) (w : Value-F Value) → is_primitive item ≡ true → AreItems (Fits is cs item) w → list_form w
all_form is cs item (Value-F.List vs) e h = items_form is cs item vs e h.1
all_form is cs item Value-F.Unit e h = absurd h
all_form is cs item _ e h = absurd h

fits_list : (is : List Interface) (cs : List (List ℕ)) (k : Kind) (v : Value) → has_primitive_items k ≡ true → IsOwnKind is k → Fits is cs k v → list_form (out-Value v)
fits_list is cs (kind.ListOf item) v e own h = all_form is cs item (out-Value v) e h
fits_list is cs (kind.RowsOf row) v e own h = absurd own
fits_list is cs kind.Int v e own h = absurd (cc (e))
fits_list is cs _ v e own h = absurd (cc (e))

-- what is taken along has the form of an input, by its role
role_form : (is : List Interface) (cs : List (List ℕ)) (role : Role) (k : Kind) (v : Value) → is_taken_role role ≡ true → (is_constant_role role ≡ true → is_primitive k ≡ true) → (is_list_role role ≡ true → has_primitive_items k ≡ true) → IsOwnKind is k
    → Fits is cs k v → input_form (is_list_role role) (out-Value v)
role_form is cs Role.Constant k v taken constant list own fits = fits_form is cs k v (constant refl) fits
role_form is cs Role.ConstantList k v taken constant list own fits = fits_list is cs k v (list refl) own fits
role_form is cs Role.Root k v taken constant list own fits = absurd (cc (taken))
role_form is cs Role.Row k v taken constant list own fits = absurd (cc (taken))
role_form is cs Role.Carried k v taken constant list own fits = absurd (cc (taken))
role_form is cs Role.Plain k v taken constant list own fits = absurd (cc (taken))

-- ---- names

-- A name that isn't `this` has a value that is one for an input: a list where it is one, else primitive.
pub record HasInput (ns : Names) (list : Truth) (y : List ℕ) : Type 0 where
  pub plain : bytes_eq this_name y ≡ false
  pub value : Value
  pub found : lookup ns y ≡ Some value
  pub form : input_form list (out-Value value)

-- one name more in front
more_first : (n : List ℕ × Value) (ns : Names) (list : Truth) (y : List ℕ) → bytes_eq n.0 y ≡ false → HasInput ns list y → HasInput (n ∷ ns) list y
more_first n ns list y e g = record { plain = g.plain; value = g.value; found = lookup_more n.0 n.1 ns y ∙ ap (λ t. first_or t n.1 (lookup ns y)) e ∙ g.found; form = g.form }

module _ (is : List Interface) (cs : List (List ℕ)) (assigned : List (List ℕ)) (root : List ℕ) (at : ℕ) (y : List ℕ) where
  -- the scope in which a batch begins
  abbrev begun : Scope → Scope
  begun vs = scope_with assigned (with_variable vs root Role.Root at)

  abbrev IsTaken : Role → Type 0
  IsTaken role = is_taken_role role ≡ true

  -- what a batch takes along has such a value there
  taken_has : (vs : Scope) (ws : typed.Scope) (ns : Names) → Sure vs ws → Agree is vs ws → IsOwnScope is ws → NamesFit is cs ws ns → IsTaken (role_of (begun vs) y) → HasInput ns (is_list_role (role_of (begun vs) y)) y
  taken_has [] [] ns s agree own fits r = by (bytes_eq root y) r
    where
      by : (t : Truth) → IsTaken (role_in (cond t (Some (record { name = root; role = Role.Root; node = at })) None)) → HasInput ns (is_list_role (role_of (begun []) y)) y
      by true k = absurd (cc (k))
      by false k = absurd (cc (k))
  taken_has [] (w ∷ ws) ns s agree own fits r = absurd s
  taken_has (v ∷ vs) [] ns s agree own fits r = absurd s
  taken_has (v ∷ vs) (w ∷ ws) [] s agree own fits r = absurd fits
  taken_has (v ∷ vs) (w ∷ ws) (n ∷ ns) s agree own fits r = by (bytes_eq v.name y) refl r (taken_has vs ws ns s.3 agree.2 own.1 fits.2)
    where
      same : v.name ≡ n.0
      same = s.0 ∙ fits.0

      less : (t : Truth) → IsTaken (cond t Role.Plain v.role) → input_form (is_list_role (cond t Role.Plain v.role)) (out-Value n.1)
      less true k = absurd (cc (k))
      less false k = role_form is cs v.role w.kind n.1 k s.2 agree.1.1 own.0 fits.1

      by : (t : Truth) → bytes_eq v.name y ≡ t → IsTaken (role_in (cond t (Some (variable_with assigned v)) (variable_named (begun vs) y)))
          → (IsTaken (role_of (begun vs) y) → HasInput ns (is_list_role (role_of (begun vs) y)) y) → HasInput (n ∷ ns) (is_list_role (role_in (cond t (Some (variable_with assigned v)) (variable_named (begun vs) y)))) y
      by true e k more = record {
        plain = subst (λ z. bytes_eq this_name z ≡ false) (same_bytes v.name y e) s.1;
        value = n.1;
        found = lookup_more n.0 n.1 ns y ∙ ap (λ t. first_or t n.1 (lookup ns y)) (subst (λ z. bytes_eq z y ≡ true) same e);
        form = less ((is_constant_role v.role || is_list_role v.role) && not (is_new v.name assigned)) k;
      }
      by false e k more = more_first n ns (is_list_role (role_of (begun vs) y)) y (subst (λ z. bytes_eq z y ≡ false) same e) (more k)

  -- so in a method, where `this` comes first
  framed_has : (this : Option (List ℕ)) (vs : Scope) (ws : typed.Scope) (ns : Names) → Sure vs ws → Agree is vs ws → IsOwnScope is (frame_scope this ws) → NamesFit is cs (frame_scope this ws) ns → IsTaken (role_of (begun vs) y)
      → HasInput ns (is_list_role (role_of (begun vs) y)) y
  framed_has None vs ws ns s agree own fits r = taken_has vs ws ns s agree own fits r
  framed_has (Some class) vs ws [] s agree own fits r = absurd fits
  framed_has (Some class) vs ws (n ∷ ns) s agree own fits r =
      let g = taken_has vs ws ns s agree own.1 fits.2 r in more_first n ns (is_list_role (role_of (begun vs) y)) y (subst (λ z. bytes_eq z y ≡ false) fits.0 g.plain) g

-- ---- inputs

-- each name that a batch takes along has such a value where it begins
abbrev pub HasInputs : Program → Outermost → Names → Type 0
HasInputs p b names = (y : List ℕ) → Contains (used_in (facts_of p) (scope_of b) b.block) y → HasInput names (is_list_role (role_of (scope_of b) y)) y

-- a value of an input is fine, and its number stands among those of lists where it is one
form_fine : (list : Truth) (w : Value-F Value) → input_form list w → fine_form w
form_fine true (Value-F.List vs) h = h
form_fine true Value-F.Unit h = absurd h
form_fine true _ h = absurd h
form_fine false (Value-F.Int n) h = h
form_fine false (Value-F.Bool b) h = h
form_fine false (Value-F.Text bytes) h = h
form_fine false Value-F.Unit h = absurd h
form_fine false (Value-F.List vs) h = absurd h
form_fine false _ h = absurd h

form_number : (list : Truth) (w : Value-F Value) (number : ℕ) (rest : List ℕ) → input_form list w → cond list (number ∷ rest) rest ≡ form_numbers number w ++ rest
form_number true (Value-F.List vs) number rest h = refl
form_number true Value-F.Unit number rest h = absurd h
form_number true _ number rest h = absurd h
form_number false (Value-F.Int n) number rest h = refl
form_number false (Value-F.Bool b) number rest h = refl
form_number false (Value-F.Text bytes) number rest h = refl
form_number false Value-F.Unit number rest h = absurd h
form_number false (Value-F.List vs) number rest h = absurd h
form_number false _ number rest h = absurd h

all_fine : (scope : Scope) (inputs : List (List ℕ)) (names : Names) → ((y : List ℕ) → Contains inputs y → HasInput names (is_list_role (role_of scope y)) y) → AreFine (input_values inputs names)
all_fine scope [] names each = tt
all_fine scope (x ∷ xs) names each =
    let g = each x (first_contained x xs) in (
      subst (λ o. fine_form (out-Value (value_or_unit o))) (sym g.found) (form_fine (is_list_role (role_of scope x)) (out-Value g.value) g.form),
      all_fine scope xs names (λ y c. each y (more_contained x xs y c)),
    )

same_numbers : (scope : Scope) (number : ℕ) (inputs : List (List ℕ)) (names : Names) → ((y : List ℕ) → Contains inputs y → HasInput names (is_list_role (role_of scope y)) y)
    → list_numbers scope number inputs ≡ values.list_numbers number (input_values inputs names)
same_numbers scope number [] names each = refl
same_numbers scope number (x ∷ xs) names each =
    let g = each x (first_contained x xs) in
    let list = is_list_role (role_of scope x) in
    let later = same_numbers scope (suc number) xs names (λ y c. each y (more_contained x xs y c)) in
    ap (λ q. cond list (number ∷ q) q) later ∙ form_number list (out-Value g.value) number (values.list_numbers (suc number) (input_values xs names)) g.form
    ∙ ap (λ o. form_numbers number (out-Value (value_or_unit o)) ++ values.list_numbers (suc number) (input_values xs names)) (sym g.found)

values_count : (inputs : List (List ℕ)) (names : Names) → length (input_values inputs names) ≡ length inputs
values_count [] names = refl
values_count (x ∷ xs) names = ap suc (values_count xs names)

pub inputs_given : (p : Program) (b : Outermost) (l : Local) → HasInputs p b l.names → are_too_many (division p b) l ≡ false → AreInputs (division p b).script (sent_for (division p b) l).values
unfolding division
inputs_given p b l has few =
    let each : (y : List ℕ) → Contains (inputs_of p b) y → HasInput l.names (is_list_role (role_of (scope_of b) y)) y =
    λ y c. has y (input_used [] (used_in (facts_of p) (scope_of b) b.block) y c) in
    let vs = input_values (inputs_of p b) l.names in
    fine_inputs (division p b).script vs (same_numbers (scope_of b) 0 (inputs_of p b) l.names each) (values_count (inputs_of p b) l.names) (all_fine (scope_of b) (inputs_of p b) l.names each) (ltb-false most_items (count_items vs) few)

-- ---- those of a batch that code asks for

pub asked_inputs : LawsBelow → (p : Program) → IsLawful p → check_program p ≡ Ok tt → (at : ℕ) (l : Local) (site : Site) → IsAskedBatch (of_program p) (Own (program_sites p)) at l site → (b : Outermost) → batch_at p at ≡ Some b → HasInputs p b l.names
asked_inputs below p lawful checked at l site asked b found =
    let t = program_typed p checked in
    let known = batches_in p lawful t (below.notes p lawful) site asked.may in
    let o = known.begun in
    let here : batch_at p at ≡ Some o = ap (batch_at p) (sym (known.at ∙ asked.here)) ∙ batch_found p lawful o known.among in
    let sure = batches_sure below.exprs_formed p lawful t (below.notes p lawful) site asked.may in
    let same : sure.begun ≡ o = one_only sure.begun o (sym (batch_found p lawful sure.begun sure.among) ∙ ap (batch_at p) (sure.at ∙ asked.here) ∙ here) in
    let sure_here = subst (λ q. Sure q.outer site.place.scope) same sure.sure in
    let typed_code : AreTyped (of_program p) = record { declared = t.declared; bodies = t.bodies; formed = below.classes_formed p.classes lawful.classes; alone = λ e. absurd (cc (e)) } in
    let own = program_owned p typed_code t site asked.may in
    subst (λ q. HasInputs p q l.names) (one_only o b (sym here ∙ found))
    (λ y c. framed_has p.interfaces (classes_of l.heap) (assigned_in o.block) o.root o.at y site.place.this o.outer site.place.scope l.names sure_here known.agree own asked.fits.holds.names_fit (block_taken (facts_of p) (scope_of o) o.block y c))
  where
    one_only : (a c : Outermost) → Some a ≡ Some c → a ≡ c
    one_only a c e = cc (e)
